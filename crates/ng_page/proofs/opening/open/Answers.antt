use Rattle.std.proofs.Common.{◌≡◌, ◌∙◌, ◌<◌, List, [], ◌∷◌, None, ap, arith, length, subst, sym}
use Rattle.ng_steps.proofs.Placed.{templates_regular}
use Rattle.ng_link.specs.State.{templates_of}
use Rattle.ng_drawing.specs.Named.{Named}
use Rattle.ng_compose.specs.Kept.{templates_of as kept_templates}
use Rattle.ng_parts.specs.TemplateOf.{template_of}
use Rattle.ng_page.specs.Opening.{linked_on}
use Rattle.ng_page.proofs.Opened.{one_added, first_name, each_regular}
use Rattle.ng_page.proofs.opening.open.Goals as goal

pub prepare-requires : goal.prepare-requires
prepare-requires c =
    let only : kept_templates c.add.new.self ≡ (None, template_of c.args.t) ∷ [] = one_added _ _ _ c.new-templates.ensures.templates c.in_ok-t.ensures.added in
    record {
      some = subst (λ (ts : List Named). 0 < length ts) (sym only) (omega arith);
      plain = c.add.ensures.directives ∙ c.new-templates.ensures.directives;
    }

pub link_page-requires : goal.link_page-requires
link_page-requires c = record {
  works = c.in_ok-works.ensures.works;
  first = first_name (kept_templates c.new-templates.result) c.in_ok-t.t.0 c.new-templates.ensures.templates c.in_ok-t.ensures.answer;
  bare = c.in_ok-works.ensures.bare;
  regular = each_regular (templates_of c.in_ok-works.works) (templates_regular c.in_ok-works.works);
}

pub returns-clause-state : goal.returns-clause-state
returns-clause-state c =
    let u = template_of c.args.t in
    let only : kept_templates c.add.new.self ≡ (None, u) ∷ [] = one_added _ _ _ c.new-templates.ensures.templates c.in_ok-t.ensures.added in
    c.in_ok-link_page.ensures.state ∙ ap linked_on (c.in_ok-works.ensures.state u only)

pub returns-clause-page : goal.returns-clause-page
returns-clause-page c = record {
  works = c.in_ok-link_page.ensures.works;
  watched = c.in_ok-link_page.ensures.watched;
  fits = c.in_ok-link_page.ensures.fits;
}
