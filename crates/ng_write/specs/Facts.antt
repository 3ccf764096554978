-- The data of an application becomes what its root scope has.
use Rattle.std.specs.Prelude.{◌≡◌, ℕ, Bool, true, false, List, Result, Ok, Err, if◌then◌else◌}
use Rattle.std.specs.Str.{chars}
use Rattle.serde_json.specs.Data.{Members, no_members, member}
use Rattle.ng_base.specs.Objects.{Object}
use Rattle.ng_base.specs.declared.value.Value.{Value}
use Rattle.ng_language.specs.Objects.{set_name}
use Rattle.ng_store.specs.Json.{is_json_want, is_whole, json_value, with_json}
use Rattle.ng_store.specs.declared.json.JsonFault.{JsonFault}
use Rattle.ng_store.specs.declared.json.JsonFault.TheVariants as faults
use Rattle.ng_write.specs.Assigning.{is_kept_name}

-- the objects after JSON was read, and the refusal, if there is one
abbrev pub Read : Type 0
Read = List Object × Result (Unit {0}) JsonFault

-- each number is whole and in range, but for those under the names that a scope keeps for itself
abbrev pub facts_are_whole : Members → Bool
facts_are_whole no_members = true
facts_are_whole (member k d ms) = if is_kept_name (chars k) then facts_are_whole ms else (if is_whole d then facts_are_whole ms else false)

-- a value is read and goes on, or is refused
abbrev pub read_then : Result Value JsonFault → List Object → (Value → Read) → Read
read_then (Ok v) objects go = go v
read_then (Err e) objects go = (objects, Err e)

-- members of JSON, one after another, become names of an object that stands; the names that a scope keeps are left out
abbrev pub members_entered : List Object → ℕ → Members → Read
members_entered objects o no_members = (objects, Ok tt)
members_entered objects o (member k d ms) =
    if is_kept_name (chars k) then members_entered objects o ms
    else read_then (json_value objects d) objects (λ v. members_entered (set_name (with_json objects d) o (chars k) v) o ms)

-- the numbers are looked at first
abbrev pub facts_entered : List Object → ℕ → Members → Read
facts_entered objects o ms = if facts_are_whole ms then members_entered objects o ms else (objects, Err faults.Number)

-- a call left and answered what a definition says, unless memory was refused
abbrev pub Reads : Read → List Object → Result (Unit {0}) JsonFault → Type 0
Reads asked objects (Ok u) = asked ≡ (objects, Ok u)
Reads asked objects (Err e) = is_json_want e ≡ false → asked ≡ (objects, Err e)
