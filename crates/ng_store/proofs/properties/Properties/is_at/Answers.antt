use Rattle.std.proofs.Common.{◌≡◌, ◌∙◌, ◌<◌, ℕ, List, Some, sym, ap, subst, slice_get, bytes_eq, length}
use Rattle.std.specs.List.{IsDistinct}
use Rattle.ng_store.specs.NamesOf.{names_in}
use Rattle.ng_store.proofs.NamePlaces.{is_there, written_there, stands_at}
use Rattle.ng_store.proofs.properties.Properties.is_at.Goals as goal

pub returns-in-Some-clause-there : goal.returns-in-Some-clause-there
returns-in-Some-clause-there c = λ h.
    let ns = names_in c.args.self.now.names in
    let e = c.in-Some.ensures.lookup in
    let at : slice_get ns c.args.place ≡ Some c.in-Some.known.now =
    stands_at c.as_slice-names.result.now ns c.args.place c.in-Some.known.now (c.as_slice-names.ensures.keys ∙ c.set.ensures) e.3.0 e.1 in
    is_there ns c.args.self.now.values.items c.args.place c.args.name.now c.in-Some.known.now c.args.self.now.as_many at (sym c.same.ensures.value ∙ h)

pub returns-in-Some-clause-written : goal.returns-in-Some-clause-written
returns-in-Some-clause-written c = λ h v.
    let ns = names_in c.args.self.now.names in
    let e = c.in-Some.ensures.lookup in
    let at : slice_get ns c.args.place ≡ Some c.in-Some.known.now =
    stands_at c.as_slice-names.result.now ns c.args.place c.in-Some.known.now (c.as_slice-names.ensures.keys ∙ c.set.ensures) e.3.0 e.1 in
    let distinct : IsDistinct bytes_eq ns = subst (IsDistinct bytes_eq) c.set.ensures c.as_slice-names.ensures.unique in
    written_there ns c.args.self.now.values.items c.args.place c.args.name.now c.in-Some.known.now v c.args.self.now.as_many distinct at (sym c.same.ensures.value ∙ h)
