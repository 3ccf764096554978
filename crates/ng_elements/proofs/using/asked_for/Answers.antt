use Rattle.std.proofs.Common.{◌≡◌, ◌∙◌, Result, ap, sym, subst}
use Rattle.ng_base.specs.Meets.{Gives}
use Rattle.ng_drawing.specs.Template.{Uses}
use Rattle.ng_parts.specs.ActsOf.{uses_of}
use Rattle.ng_directives.specs.Free.{is_tpl_want}
use Rattle.ng_parts.specs.FragmentOf.{sites_of}
use Rattle.ng_elements.specs.ReadOf.{asked_of}
use Rattle.ng_elements.specs.Using.{first_with, asks_isolate, bindings_of, judged_properties, uses_asked, Asked, asked_by, asked_for}
use Rattle.ng_directives.specs.declared.fault.TplFault.{TplFault}
use Rattle.ng_elements.proofs.using.asked_for.Goals as goal

pub returns : goal.returns
returns c =
    let place = c.args.place in
    let defs = c.args.defs.now in
    let ats = c.args.attrs.now in
    let sites = sites_of c.args.sites.items in
    let uses : uses_asked defs c.args.numbers.items ≡ uses_of c.in_ok-uses.uses = (let two = c.in_ok-uses.ensures in cc) in
    let specs : c.specs_of.result.now ≡ bindings_of defs (first_with defs asks_isolate c.args.numbers.items)
    = c.specs_of.ensures ∙ ap (bindings_of defs) (c.first_with-isolate.ensures ∙ ap (first_with defs asks_isolate) c.as_slice.ensures.value) in
    let same : asked_by (uses_of c.in_ok-uses.uses) sites (judged_properties place ats c.specs_of.result.now) ≡ asked_for place defs ats c.args.numbers.items sites
    = ap (λ (u : Uses). asked_by u sites (judged_properties place ats c.specs_of.result.now)) (sym uses) ∙ ap (λ ss. asked_by (uses_asked defs c.args.numbers.items) sites (judged_properties place ats ss)) specs in
    subst (λ (r : Result Asked TplFault). Gives is_tpl_want asked_of r c.asked_with.result) same (c.asked_with.ensures (judged_properties place ats c.specs_of.result.now) c.judged_properties-read.ensures.properties)
