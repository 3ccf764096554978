use Rattle.std.proofs.Common.{ℕ, List, Result, Ok, ap, sym, ◌∙◌}
use Rattle.ng_base.specs.Meets.{◌>>=◌}
use Rattle.ng_base.specs.Views.{ViewTree, list, views_from}
use Rattle.ng_base.specs.ViewOf.{views_of}
use Rattle.ng_base.specs.declared.fault.Fault.{Fault}
use Rattle.ng_value.proofs.ViewParts.{views_from-list}
use Rattle.ng_drawing.specs.Instance.{word_list}
use Rattle.ng_render.proofs.snapshots.word_snap.Goals as goal

pub returns : goal.returns
returns c =
    let words = ap (λ (ts : List ViewTree). list (views_from ts)) (sym c.in_ok-views.ensures) ∙ ap list (views_from-list (views_of c.in_ok-views.views)) in
    ap (λ (r : Result (List (List ℕ)) Fault). r >>= λ ws. Ok (word_list ws)) c.in_ok-words.ensures
    ∙ ap Ok (words ∙ (sym c.of_list.ensures ∙ sym c.of_view.ensures))
