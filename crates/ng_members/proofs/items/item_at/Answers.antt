use Rattle.std.proofs.Common.{◌≡◌, ◌∙◌, ap, subst, length, rules}
use Rattle.ng_base.specs.Views.{list, views_list}
use Rattle.ng_base.specs.ViewOf.{view_of, views_of}
use Rattle.ng_language.specs.Views.{ViewStands, ViewsStand}
use Rattle.ng_value.proofs.ViewParts.{views_stand, view_of-List}
use Rattle.ng_members.proofs.Stand.{got_stands}
use Rattle.ng_members.proofs.items.item_at.Goals as goal

pub returns-in-List-clause-stands : goal.returns-in-List-clause-stands
returns-in-List-clause-stands c =
    let n = length c.args.store.now in
    let e : view_of c.args.v.now ≡ list (views_of c.in-List.views) = ap view_of c.in-List.is ∙ view_of-List c.in-List.views in
    let s : ViewsStand n (views_of c.in-List.views) = subst (ViewStands n) e c.requires.stands in
    let g : ViewStands n (view_of c.listed_view.result.now) = got_stands n (views_list (views_of c.in-List.views)) c.args.i (view_of c.listed_view.result.now) c.listed_view.ensures (views_stand n (views_of c.in-List.views) s) in
    search rules
