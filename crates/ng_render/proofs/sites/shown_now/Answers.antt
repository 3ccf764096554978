use Rattle.std.proofs.Common.{Option, Ok, Some, ap, sym, ◌∙◌}
use Rattle.ng_base.specs.Views.{ViewTree}
use Rattle.ng_render.specs.OverOf.{kept_over}
use Rattle.ng_render.proofs.sites.shown_now.Goals as goal

pub returns-in_ok-kept_copy-in-Some : goal.returns-in_ok-kept_copy-in-Some
returns-in_ok-kept_copy-in-Some c =
    let known = c.in-Some.ensures (kept_over c.args.over.now) c.requires.known in
    known ∙ ap (λ (s : Option ViewTree). Ok (Some s)) (sym c.in_ok-kept_copy-in-Some.ensures)
