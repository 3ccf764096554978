-- What programs never take back: a fault that was handed over stays, each scope keeps its path and its object, no number of registration
-- is given anew, no object is lost, and scopes that are a tree stay one.
use Rattle.std.proofs.Common.{◌≡◌, ◌≤◌, ◌<◌, ◌+◌, arith, ℕ, true, List, length, ap}
use Rattle.std.specs.Prelude.{is_some}
use Rattle.ng_base.specs.declared.fault.Fault.{Fault}
use Rattle.ng_base.specs.Objects.{Object}
use Rattle.ng_behaviour.specs.Scopes.{Scope, path_at, with_child, IsScopeTree}
use Rattle.ng_behaviour.proofs.Dying.{tree-dies}
use Rattle.ng_behaviour.proofs.Grown.{tree-grows}
use Rattle.ng_core.specs.Burying.{buried}
use Rattle.ng_core.specs.State.{State, handed_over}
use Rattle.ng_core.specs.declared.core_state.Handed.{Handed}
use Rattle.ng_core.proofs.Buried.{buried_scopes, buried_objects, buried_serial, buried_handed}
use Rattle.ng_act.proofs.Programs.{some_first}
use Rattle.ng_commands.proofs.ScopesStay.{ScopesStay, scopes_refl, scopes_trans, scopes_die, scopes_grow}

-- the faults that were handed over, the scopes, the next number of registration, and how many objects there are
pub record Part : Type 0 where
  pub faults : Handed
  pub scopes : List Scope
  pub serial : ℕ
  pub count : ℕ

abbrev pub part : State → Part
part s = record { faults = s.handed; scopes = s.scopes; serial = s.serial; count = length s.objects }

pub record Less (x y : Part) : Type 0 where
  pub some : is_some x.faults.first ≡ true → is_some y.faults.first ≡ true
  pub scopes : ScopesStay x.scopes y.scopes
  pub serial : x.serial ≤ y.serial
  pub grown : x.count ≤ y.count

pub less_refl : (x : Part) → Less x x
less_refl x = record { some = λ h. h; scopes = scopes_refl x.scopes; serial = omega arith; grown = omega arith }

pub less_trans : (x y z : Part) → Less x y → Less y z → Less x z
less_trans x y z a b = record {
  some = λ h. b.some (a.some h);
  scopes = scopes_trans x.scopes y.scopes z.scopes a.scopes b.scopes;
  serial = let m : x.serial ≤ y.serial = a.serial in let n : y.serial ≤ z.serial = b.serial in omega arith;
  grown = let m : x.count ≤ y.count = a.grown in let n : y.count ≤ z.count = b.grown in omega arith;
}

-- so it does, and the scopes stay a tree
pub record Stays (x y : Part) : Type 0 where
  pub some : is_some x.faults.first ≡ true → is_some y.faults.first ≡ true
  pub scopes : ScopesStay x.scopes y.scopes
  pub serial : x.serial ≤ y.serial
  pub grown : x.count ≤ y.count
  pub tree : IsScopeTree x.scopes → IsScopeTree y.scopes

pub less_of : (x y : Part) → Stays x y → Less x y
less_of x y h = record { some = h.some; scopes = h.scopes; serial = h.serial; grown = h.grown }

pub stays_with : (x y : Part) → Less x y → (IsScopeTree x.scopes → IsScopeTree y.scopes) → Stays x y
stays_with x y h tree = record { some = h.some; scopes = h.scopes; serial = h.serial; grown = h.grown; tree = tree }

pub stays_refl : (x : Part) → Stays x x
stays_refl x = stays_with x x (less_refl x) (λ g. g)

pub stays_trans : (x y z : Part) → Stays x y → Stays y z → Stays x z
stays_trans x y z a b = stays_with x z (less_trans x y z (less_of x y a) (less_of y z b)) (λ g. b.tree (a.tree g))

pub fault_stays : (f : Fault) (x : Part) → Stays x (record { faults = handed_over f x.faults; scopes = x.scopes; serial = x.serial; count = x.count })
fault_stays f x = record { some = λ h. some_first x.faults.first f; scopes = scopes_refl x.scopes; serial = omega arith; grown = omega arith; tree = λ g. g }

-- a number of registration is given
pub number_stays : (x : Part) → Stays x (record { faults = x.faults; scopes = x.scopes; serial = x.serial + 1; count = x.count })
number_stays x = record { some = λ h. h; scopes = scopes_refl x.scopes; serial = omega arith; grown = omega arith; tree = λ g. g }

-- objects are made or written
pub objects_stay : (x : Part) (n : ℕ) → x.count ≤ n → Stays x (record { faults = x.faults; scopes = x.scopes; serial = x.serial; count = n })
objects_stay x n h = record { some = λ i. i; scopes = scopes_refl x.scopes; serial = omega arith; grown = h; tree = λ g. g }

-- a scope is made
pub child_less : (x : Part) (c o : ℕ) → Less x (record { faults = x.faults; scopes = with_child x.scopes c o; serial = x.serial; count = x.count })
child_less x c o = record { some = λ i. i; scopes = scopes_grow x.scopes c o; serial = omega arith; grown = omega arith }

pub child_stays : (x : Part) (c o : ℕ) → c < length x.scopes → Stays x (record { faults = x.faults; scopes = with_child x.scopes c o; serial = x.serial; count = x.count })
child_stays x c o there =
    let y : Part = record { faults = x.faults; scopes = with_child x.scopes c o; serial = x.serial; count = x.count } in
    stays_with x y (child_less x c o) (λ g. tree-grows x.scopes c o g there)

pub buried_stay : (sc : ℕ) (s : State) → Stays (part s) (part (buried sc s))
buried_stay sc s =
    let n : (buried sc s).serial ≡ s.serial = buried_serial sc s in
    let m : length (buried sc s).objects ≡ length s.objects = ap (λ (x : List Object). length x) (buried_objects sc s) in
    record {
      some = rw (buried_handed sc s) (λ h. h);
      scopes = rw (buried_scopes sc s) (scopes_die sc s.scopes);
      serial = omega (arith, n);
      grown = omega (arith, m);
      tree = rw (buried_scopes sc s) (λ g. tree-dies s.scopes (path_at s.scopes sc) g);
    }
