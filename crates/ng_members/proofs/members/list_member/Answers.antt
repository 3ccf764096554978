use Rattle.std.proofs.Common.{map, slice_get}
use Rattle.ng_base.specs.Views.{views_list}
use Rattle.ng_base.specs.ViewOf.{view_of, views_of}
use Rattle.ng_language.specs.Views.{ViewStands}
use Rattle.ng_value.proofs.ViewParts.{views_stand}
use Rattle.ng_members.specs.Members.{view_or_undefined}
use Rattle.ng_members.proofs.Stand.{carried, one_stands}
use Rattle.ng_members.proofs.members.list_member.Goals as goal

pub returns-in-Some-clause-stands : goal.returns-in-Some-clause-stands
returns-in-Some-clause-stands c = λ n s.
    let t = view_or_undefined (slice_get (map view_of c.as_slice.result.now) c.in-Some.i) in
    let m : ViewStands n t = rw c.as_slice.ensures (one_stands n (views_list (views_of c.args.views.now)) c.in-Some.i (views_stand n (views_of c.args.views.now) s)) in
    carried n c.view_at.result t c.view_at.ensures.value m
