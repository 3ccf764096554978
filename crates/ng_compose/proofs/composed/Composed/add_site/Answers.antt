use Rattle.std.proofs.Common.{◌≡◌, ◌∙◌, refl, ap, sym, subst}
use Rattle.std.specs.Prelude.{option_map, OnOk}
use Rattle.ng_compose.specs.ComposedOf.{composed_of}
use Rattle.ng_drawing.specs.Composing.{Composed}
use Rattle.ng_parts.specs.FragmentOf.{mark_of}
use Rattle.ng_parts.specs.SiteOf.{site_of}
use Rattle.ng_compose.proofs.ComposingTurns.{site_none, site_some}
use Rattle.ng_compose.proofs.composed.Composed.add_site.Goals as goal

pub returns-in-None : goal.returns-in-None
returns-in-None c = site_none (mark_of c.args.mark) c.args.n _ (composed_of c.args.self.now) (sym c.site_at.ensures ∙ ap (option_map (λ s. site_of s.now)) c.in-None.is)

pub returns-in-Some : goal.returns-in-Some
returns-in-Some c =
    let there = sym c.site_at.ensures ∙ ap (option_map (λ s. site_of s.now)) c.in-Some.is in
    let asked = site_some (mark_of c.args.mark) c.args.n _ (site_of c.in-Some.site.now) (composed_of c.args.self.now) _ there refl in
    subst (λ (d : Composed). OnOk c.push_site.result (composed_of c.push_site.new.self ≡ d)) asked c.push_site.ensures
