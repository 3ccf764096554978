use Rattle.std.proofs.Common.{◌≡◌, ◌∙◌, List, sym, ap, bytes_eq, position, slice_get, Some, None}
use Rattle.ng_base.specs.declared.value.Value.{Value}
use Rattle.ng_store.specs.NamesOf.{names_in}
use Rattle.ng_store.proofs.NamePlaces.{placeless, no_value, value_at_place, looked_at}
use Rattle.ng_store.proofs.properties.Properties.get.Goals as goal

pub returns-in-None : goal.returns-in-None
returns-in-None c =
    let ns = names_in c.args.self.now.names in
    let t = bytes_eq c.args.name.now in
    let at : position t ns ≡ None = ap (position t) (sym c.set.ensures) ∙ sym c.in-None.ensures in
    sym (no_value t ns c.args.self.now.values.items (placeless t ns at))

pub returns-in-Some : goal.returns-in-Some
returns-in-Some c =
    let ns = names_in c.args.self.now.names in
    let t = bytes_eq c.args.name.now in
    let place = c.in-Some.place in
    let at : position t ns ≡ Some place = ap (position t) (sym c.set.ensures) ∙ sym c.in-Some.ensures in
    looked_at _ c.get.result c.as_slice.result.now place c.get.ensures.lookup.3 c.get.ensures.lookup.1
    ∙ (ap (λ (vs : List Value). slice_get vs place) c.as_slice.ensures.value
    ∙ sym (value_at_place t ns c.args.self.now.values.items place c.args.self.now.as_many at))
