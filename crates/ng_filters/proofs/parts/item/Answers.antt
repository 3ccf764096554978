use Rattle.std.proofs.Common.{◌≡◌, ◌∙◌, ap, sym, subst, arith, length}
use Rattle.std.proofs.lemmas.List.{length-map}
use Rattle.ng_base.specs.Objects.{object_at}
use Rattle.ng_base.specs.Views.{views_list}
use Rattle.ng_base.specs.ViewOf.{view_of, views_of}
use Rattle.ng_language.specs.Unfolding.{prims}
use Rattle.ng_language.specs.Views.{ViewStands, ViewsStand}
use Rattle.ng_filters.specs.Parts.{items}
use Rattle.ng_filters.specs.Seen.{seen}
use Rattle.ng_filters.proofs.Stands.{list_item_stands}
use Rattle.ng_filters.proofs.ViewParts.{length-prims, at_prims, at_views}
use Rattle.ng_filters.proofs.parts.item.Goals as goal

pub prove-unreachable-requires : goal.prove-unreachable-requires
prove-unreachable-requires c =
    let objects = c.args.store.now in
    let stored = (object_at objects c.in-Obj.o.0).items in
    let e : length (items objects (seen c.args.v)) ≡ length stored = ap (λ v. length (items objects (seen v))) c.in-Obj.is ∙ length-prims stored in
    omega (arith, e)

pub returns-in-Obj-clause-item : goal.returns-in-Obj-clause-item
returns-in-Obj-clause-item c =
    let objects = c.args.store.now in
    let stored = (object_at objects c.in-Obj.o.0).items in
    let e : items objects (seen c.args.v) ≡ prims stored = ap (λ v. items objects (seen v)) c.in-Obj.is in
    rw (e, c.of_value.ensures) (at_prims stored c.args.i c.item.result.now c.item.ensures.item)

pub returns-in-List-clause-item : goal.returns-in-List-clause-item
returns-in-List-clause-item c =
    let objects = c.args.store.now in
    let fresh = views_list (views_of c.in-List.views.now) in
    let e : items objects (seen c.args.v) ≡ fresh = ap (λ v. items objects (seen v)) c.in-List.is in
    let n : length (items objects (seen c.args.v)) ≡ length c.as_slice.result.now = ap length e ∙ (ap length (sym c.as_slice.ensures) ∙ length-map c.as_slice.result.now view_of) in
    rw (e, c.of_view.ensures) (at_views c.as_slice.result.now fresh c.args.i c.index-as_slice-i.result c.as_slice.ensures (omega (arith, n)) c.index-as_slice-i.is)

pub returns-in-List-clause-stands : goal.returns-in-List-clause-stands
returns-in-List-clause-stands c =
    let fresh = views_list (views_of c.in-List.views.now) in
    let objects = c.args.store.now in
    let s : ViewsStand (length objects) (views_of c.in-List.views.now) = subst (λ v. ViewStands (length objects) (seen v)) c.in-List.is c.requires.stands in
    let e : items objects (seen c.args.v) ≡ fresh = ap (λ v. items objects (seen v)) c.in-List.is in
    let n : length (items objects (seen c.args.v)) ≡ length c.as_slice.result.now = ap length e ∙ (ap length (sym c.as_slice.ensures) ∙ length-map c.as_slice.result.now view_of) in
    rw c.of_view.ensures
    (list_item_stands (length objects) c.args.i (views_of c.in-List.views.now) _ _ s
    (at_views c.as_slice.result.now fresh c.args.i c.index-as_slice-i.result c.as_slice.ensures (omega (arith, n)) c.index-as_slice-i.is))
