-- The core that a page begins with.
use Rattle.std.specs.Prelude.{◌≡◌, false, List, [], ◌∷◌, None, Result, Ok, Err}
use Rattle.serde_json.specs.Data.{Data, null, boolean, number, string, array, object, Members, no_members}
use Rattle.ng_base.specs.Objects.{Object}
use Rattle.ng_base.specs.declared.heap.ObjKind.TheVariants as kinds
use Rattle.ng_base.specs.declared.value.Value.TheVariants as value
use Rattle.ng_behaviour.specs.ScopeObjects.{named}
use Rattle.ng_behaviour.specs.Scopes.{root_of}
use Rattle.ng_language.specs.Objects.{new_object}
use Rattle.ng_store.specs.Json.{is_json_want}
use Rattle.ng_store.specs.declared.json.JsonFault.{JsonFault}
use Rattle.ng_write.specs.Facts.{Read, facts_entered}
use Rattle.ng_core.specs.State.{State}

-- the members of a JSON object
abbrev pub members_in : Data → Members
members_in (object ms) = ms
members_in null = no_members
members_in (boolean b) = no_members
members_in (number n) = no_members
members_in (string s) = no_members
members_in (array ds) = no_members

-- the object of the root scope: its number is 1, it has no parent, and it is its own root
abbrev pub root_objects : List Object
root_objects = named (new_object kinds.Scope None ∷ []) 0 1 value.Null 0

-- the objects that a page begins with: the root scope's, which gets the members of the data, and those inside it
abbrev pub first_objects : Data → Read
first_objects d = facts_entered root_objects 0 (members_in d)

-- the root scope stands alone, nobody listens, and nothing waits
abbrev pub first_state : List Object → State
first_state objects = record {
  objects = objects;
  scopes = root_of 0;
  heard = [];
  funs = [];
  locals = [];
  stopped = [];
  entered = 0;
  handed = record { count = 0; first = None };
  tasks = [];
  probes = [];
  changes = [];
  serial = 0;
}

-- a call gave the objects that a page begins with, or said why there are none, unless memory was refused
abbrev pub BeginsWith : {A : Type 0} → (A → List Object) → Read → Result A JsonFault → Type 0
BeginsWith objects asked (Ok c) = asked ≡ (objects c, Ok tt)
BeginsWith objects asked (Err e) = is_json_want e ≡ false → asked.1 ≡ Err e
