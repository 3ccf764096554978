use Rattle.std.proofs.Common.{◌≡◌, ◌∙◌, sym, ap, bytes_eq, position, is_some, Some, None, true, false, true≢false}
use Rattle.std.specs.Map.{lookup}
use Rattle.std.specs.List.{list_any}
use Rattle.ng_store.specs.NamesOf.{names_in}
use Rattle.ng_store.specs.ObjectOf.{properties_of}
use Rattle.ng_store.proofs.NamePlaces.{placeless, no_value, written_in_place, added_behind}
use Rattle.ng_store.proofs.properties.Properties.put.Goals as goal

pub add-requires : goal.add-requires
add-requires c =
    let ns = names_in c.args.self.now.names in
    let t = bytes_eq c.args.name.now in
    placeless t ns (ap (position t) (sym c.set.ensures) ∙ sym c.in-None.ensures)

pub returns-in-Some-clause-ok : goal.returns-in-Some-clause-ok
returns-in-Some-clause-ok c =
    let ns = names_in c.args.self.now.names in
    let t = bytes_eq c.args.name.now in
    let at : position t ns ≡ Some c.in-Some.place = ap (position t) (sym c.set.ensures) ∙ sym c.in-Some.ensures in
    c.write_at-in-Some.ensures
    ∙ sym (written_in_place ns c.args.self.now.values.items c.in-Some.place c.args.name.now c.args.v c.args.self.now.as_many at)

pub returns-in_ok-add-in-None-clause-ok : goal.returns-in_ok-add-in-None-clause-ok
returns-in_ok-add-in-None-clause-ok c =
    let ns = names_in c.args.self.now.names in
    let t = bytes_eq c.args.name.now in
    let new : list_any t ns ≡ false = placeless t ns (ap (position t) (sym c.set.ensures) ∙ sym c.in-None.ensures) in
    c.in_ok-add-in-None.ensures.ok
    ∙ sym (added_behind ns c.args.self.now.values.items c.args.name.now c.args.v c.args.self.now.as_many new)

-- a name that is there is never refused
pub returns-in_err-add-in-None-clause-there : goal.returns-in_err-add-in-None-clause-there
returns-in_err-add-in-None-clause-there c = λ there.
    let ns = names_in c.args.self.now.names in
    let t = bytes_eq c.args.name.now in
    let new : list_any t ns ≡ false = placeless t ns (ap (position t) (sym c.set.ensures) ∙ sym c.in-None.ensures) in
    let none : lookup t (properties_of c.args.self.now) ≡ None = no_value t ns c.args.self.now.values.items new in
    absurd (true≢false (sym there ∙ ap is_some none))
