-- Refusals of the documents and templates of an application.
use Rattle.std.proofs.Common.{◌≡◌, ℕ, List, false, refl, ap, sym, ◌∙◌}
use Rattle.std.specs.Prelude.{◌&&◌, ◌==◌, Result, Err}
use Rattle.ng_drawing.specs.Template.{Template}
use Rattle.ng_markup.specs.Forest.{Forest}
use Rattle.ng_tags.specs.Free.{is_refused, is_free}
use Rattle.ng_tags.specs.declared.fault.HtmlFault.{HtmlFault}
use Rattle.ng_tags.specs.declared.fault.HtmlKind.{HtmlKind}
use Rattle.ng_tags.specs.declared.fault.HtmlKind.TheVariants as html
use Rattle.ng_directives.specs.Free.{is_refused as is_refused_template, is_tpl_want}
use Rattle.ng_directives.specs.declared.fault.TplFault.{TplFault}
use Rattle.ng_directives.specs.declared.fault.TplKind.{TplKind}
use Rattle.ng_directives.specs.declared.fault.TplKind.TheVariants as tpl
use Rattle.ng_entries.specs.Free.{is_app_want}
use Rattle.ng_entries.specs.declared.fault.AppFault.{AppFault}
use Rattle.ng_entries.specs.declared.fault.Member.{Member}
use Rattle.ng_app.specs.Templates.{markup_fault, as_markup, template_fault, as_template}

-- what is told of the application is no want of memory
markup_known : (m : Member) (i place : ℕ) (k : HtmlKind) → is_app_want (markup_fault m i k) ≡ false → is_refused k place ≡ false
markup_known m i place (html.Memory w) e = absurd (cc)
markup_known m i place html.Utf8 e = refl
markup_known m i place html.Unclosed e = refl
markup_known m i place html.Unmatched e = refl
markup_known m i place html.BadTag e = refl
markup_known m i place html.BadAttr e = refl
markup_known m i place html.BadReference e = refl
markup_known m i place html.TooDeep e = refl
markup_known m i place html.SelfClosed e = refl

template_known : (m : Member) (i place : ℕ) (k : TplKind) → is_app_want (template_fault m i k) ≡ false → (is_refused_template k && place == 0) ≡ false
template_known m i place (tpl.Memory w) e = absurd (cc)
template_known m i place tpl.Expression e = refl
template_known m i place tpl.Impure e = refl
template_known m i place tpl.MultiDir e = refl
template_known m i place tpl.BadRepeat e = refl
template_known m i place tpl.CaseWithoutSwitch e = refl
template_known m i place tpl.UnknownFilter e = refl
template_known m i place tpl.LeftOut e = refl
template_known m i place tpl.Orphan e = refl

-- so what is refused of a text, or of its document, is told
pub markup_refused : (m : Member) (i : ℕ) (r : Result (Forest × List ℕ) HtmlFault) (f : HtmlFault) (e : AppFault) → (is_free f ≡ false → r ≡ Err f) → e ≡ markup_fault m i f.kind → is_app_want e ≡ false → as_markup m i r ≡ Err e
markup_refused m i r f e h is free = ap (as_markup m i) (h (markup_known m i f.place f.kind (ap is_app_want (sym is) ∙ free))) ∙ ap Err (sym is)

pub template_refused : (m : Member) (i : ℕ) (r : Result Template TplFault) (f : TplFault) (e : AppFault) → (is_tpl_want f ≡ false → r ≡ Err f) → e ≡ template_fault m i f.kind → is_app_want e ≡ false → as_template m i r ≡ Err e
template_refused m i r f e h is free = ap (as_template m i) (h (template_known m i f.place f.kind (ap is_app_want (sym is) ∙ free))) ∙ ap Err (sym is)
