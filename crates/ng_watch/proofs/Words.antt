-- Words that are kept as a list of texts.
use Rattle.std.proofs.Common.{◌≡◌, ℕ, List, Result, Ok, map, ap, sym, ◌∙◌}
use Rattle.ng_base.specs.Meets.{◌>>=◌}
use Rattle.ng_base.specs.Views.{ViewTree, ViewTrees, list, views_from, views_list}
use Rattle.ng_base.specs.declared.fault.Fault.{Fault}
use Rattle.ng_value.proofs.ViewParts.{views_from-list}
use Rattle.ng_watch.specs.Now.{text_view, word_list}

pub words_snapped : (r : Result (List (List ℕ)) Fault) (ws : List (List ℕ)) (ts : ViewTrees) (s : ViewTree) → r ≡ Ok ws → views_list ts ≡ map text_view ws → s ≡ list ts → (r >>= λ (xs : List (List ℕ)). Ok (word_list xs)) ≡ Ok s
words_snapped r ws ts s e l i = rw e (ap (λ (us : List ViewTree). Ok (list (views_from us))) (sym l) ∙ ap (λ (us : ViewTrees). Ok (list us)) (views_from-list ts) ∙ ap (λ (t : ViewTree). Ok t) (sym i))
