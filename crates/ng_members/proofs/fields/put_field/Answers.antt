use Rattle.std.proofs.Common.{◌∙◌, ap, map}
use Rattle.ng_base.specs.ViewOf.{field_of}
use Rattle.ng_members.proofs.Stand.{map-put}
use Rattle.ng_members.proofs.fields.put_field.Goals as goal

pub returns : goal.returns
returns c = ap (map field_of) c.in_ok-insert.ensures.entries ∙ map-put c.args.fields.now.entries c.args.name c.args.view
