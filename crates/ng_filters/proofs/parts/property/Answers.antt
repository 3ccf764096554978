use Rattle.std.proofs.Common.{◌≡◌, ◌∙◌, ap, sym, subst, length, bytes_eq, Some}
use Rattle.std.specs.Map.{lookup}
use Rattle.ng_base.specs.Views.{fields_list}
use Rattle.ng_base.specs.ViewOf.{view_of, fields_of}
use Rattle.ng_language.specs.Views.{ViewStands, FieldsStand}
use Rattle.ng_filters.specs.Seen.{seen}
use Rattle.ng_filters.proofs.Stands.{field_stands}
use Rattle.ng_filters.proofs.parts.property.Goals as goal

pub returns-in-Some-field-clause-stands : goal.returns-in-Some-field-clause-stands
returns-in-Some-field-clause-stands c =
    let n = length c.args.store.now in
    let fields = fields_of c.in-Rec.fields.now in
    let found = view_of c.in-Some-field.w.now in
    let s : FieldsStand n fields = subst (λ v. ViewStands n (seen v)) c.in-Rec.is c.requires in
    let e : lookup (bytes_eq c.args.name.now) (fields_list fields) ≡ Some found = ap (lookup (bytes_eq c.args.name.now)) (sym c.as_slice.ensures) ∙ sym c.in-Some-field.ensures in
    rw c.of_view.ensures (field_stands n c.args.name.now fields found s e)
