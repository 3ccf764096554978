use Rattle.std.proofs.Common.{rules, ◌≡◌, ◌<◌, pos, true, sym, subst}
use Rattle.std.specs.Prelude.{Ok}
use Rattle.ng_base.specs.Objects.{object_at, is_array}
use Rattle.ng_base.specs.Views.{prim}
use Rattle.ng_base.specs.declared.value.Value.TheVariants as value
use Rattle.ng_members.specs.Members.{item}
use Rattle.ng_members.proofs.Indices.{item_there}
use Rattle.ng_members.proofs.members.array_item.Goals as goal

pub returns-in-Ok-clause-value : goal.returns-in-Ok-clause-value
returns-in-Ok-clause-value c =
    let e : c.args.n ≡ pos c.in-Ok.i = search rules in
    let k : is_array (object_at c.args.store.now c.args.o.0).kind ≡ true = search rules in
    let l : c.in-Ok.i < 4294967295 = search rules in
    subst (λ m. item c.args.store.now (prim (value.Obj c.args.o)) (prim (value.Int m)) ≡ Ok (prim c.item.result.now)) (sym e)
    (item_there c.args.store.now c.args.o c.in-Ok.i c.item.result.now k l c.item.ensures.item)
