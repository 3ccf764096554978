use Rattle.std.proofs.Common.{map}
use Rattle.ng_base.specs.ViewOf.{fields_of, field_of}
use Rattle.ng_language.specs.Views.{ViewStands}
use Rattle.ng_members.specs.Members.{record_member}
use Rattle.ng_members.proofs.Stand.{carried, record_member_stands}
use Rattle.ng_members.proofs.members.record_member.Goals as goal

pub returns-clause-stands : goal.returns-clause-stands
returns-clause-stands c = λ n s.
    let t = record_member (map field_of c.as_slice.result.now) c.args.name.now in
    let m : ViewStands n t = rw c.as_slice.ensures (record_member_stands n (fields_of c.args.fields.now) c.args.name.now s) in
    carried n c.field_under.result t c.field_under.ensures m
