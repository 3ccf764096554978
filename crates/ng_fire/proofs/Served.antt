-- What the fire of a block leaves of the instance that its site is in, and of the outlets that are due after one.
use Rattle.std.proofs.Common.{◌≡◌, ◌∙◌, ◌+◌, ◌<◌, ◌≤◌, ℕ, zero, suc, Bool, true, false, cond, List, [], ◌∷◌, ◌++◌, map, length, length-append, append_assoc, Option, Some, None, refl, ap, sym, subst, arith, if◌then◌else◌}
use Rattle.std.specs.List.{AllByRecursion, filter}
use Rattle.std.specs.Prelude.{IsSome, not, option_map, slice_get}
use Rattle.std.proofs.lemmas.Bool.{eq-eqb}
use Rattle.std.specs.Prelude.{◌&&◌}
use Rattle.ng_base.specs.declared.path.Key.{Key}
use Rattle.ng_drawing.specs.Roles.{Role}
use Rattle.ng_changes.proofs.Answered.{there}
use Rattle.ng_fire.specs.Serving.{outlets_in, bare, bare_outlets, bodies_held, AreHeldBy, IsAt, IsThere, due_count, AreDue, Serves}
use Rattle.ng_changes.specs.Whole.{HasBody, HaveBodies}
use Rattle.ng_link.proofs.Lookups.{changed_here, inserted_other, kept_found}
use Rattle.ng_instances.proofs.PathIs.{path_is}
use Rattle.ng_link.proofs.PathsBelow.{same_path, other_path}
use Rattle.ng_link.proofs.BodiesAt.{added_more}
use Rattle.ng_instances.specs.Due.{Due, due_at, due_from, all_due}
use Rattle.ng_link.specs.Events.{scope_in}
use Rattle.ng_instances.specs.Instances.{Body, OutletState, Linked, Instances, key_in, is_path, linked_at, is_filled_by, with_outlets, outlets_changed, body_added, body_gone, unlinked, with_instance}
use Rattle.ng_link.specs.Standing.{IsBelow, IsIn, AreIn, body_count, held_count, IsPlaced, ArePlaced, IsHeldIn}
use Rattle.ng_drawing.specs.Named.{Named}
use Rattle.ng_behaviour.specs.Keys.{begins, is_key}
use Rattle.ng_changes.proofs.AllAt.{all_at}

-- ---- what is left, one after another

pub serves_same : (holder : List ℕ) (bs : List Body) (old new : Instances) → new ≡ old → Serves holder bs old new
serves_same holder bs old new e = record {
  scope = ap (λ (is : Instances). scope_in (linked_at holder is)) e;
  outlets = ap (bare_outlets holder) e;
  bodies = λ q. (let h : bodies_held holder q new ≡ bodies_held holder q old = ap (bodies_held holder q) e in omega (arith, h));
}

pub serves_first : (holder : List ℕ) (b : Body) (bs : List Body) (old mid new : Instances) → Serves holder (b ∷ []) old mid → Serves holder bs mid new → Serves holder (b ∷ bs) old new
serves_first holder b bs old mid new h k = record {
  scope = k.scope ∙ h.scope;
  outlets = k.outlets ∙ h.outlets;
  bodies = λ q. (let one = h.bodies q in let more = k.bodies q in omega (arith, one, more));
}

pub held_rest : (holder : List ℕ) (b : Body) (bs : List Body) (old new : Instances) → AreHeldBy holder (b ∷ bs) old → Serves holder (b ∷ []) old new → AreHeldBy holder bs new
held_rest holder b bs old new held h = λ q. (let all = held q in let one = h.bodies q in omega (arith, all, one))

itself : (p : List ℕ) (bs : List Body) → is_path p p ≡ true → (if is_path p p then 1 else 0) + body_count p bs ≡ 1 + body_count p bs
itself p bs e = ap (λ (b : Bool). (if b then 1 else 0) + body_count p bs) e

held_in : (holder p : List ℕ) (is : Instances) → 0 < bodies_held holder p is → IsHeldIn holder p is
held_in holder p is lt = by (linked_at holder is) refl lt
  where
    by : (o : Option Linked) → linked_at holder is ≡ o → 0 < held_count p (outlets_in o) → IsHeldIn holder p is
    by None e lt = absurd (omega (arith, lt))
    by (Some l) e lt = (l, e, lt)

pub held_first : (holder : List ℕ) (b : Body) (bs : List Body) (is : Instances) → AreHeldBy holder (b ∷ bs) is → IsHeldIn holder b.path is
held_first holder b bs is held =
    let many = held b.path in
    let one = itself b.path bs (same_path b.path) in
    held_in holder b.path is (omega (arith, many, one))

-- ---- the outlets that are due

found_behind : (before : List OutletState) (x : OutletState) (xs : List OutletState) → option_map {U = ℕ × List ℕ} (λ (y : OutletState). (y.scope, y.outsides)) (slice_get (map bare (before ++ x ∷ xs)) (length before)) ≡ Some (x.scope, x.outsides)
found_behind [] x xs = refl
found_behind (y ∷ ys) x xs = found_behind ys x xs

pub due_held : (all : List Named) (holder : List ℕ) (is : Instances) (d : Due) (ds : List Due) → AreDue all holder is (d ∷ ds) → AreHeldBy holder d.bodies is
due_held all holder is d ds h = λ q. (let many = h.bodies q in omega (arith, many))

pub at_still : (holder : List ℕ) (old new : Instances) (o scope : ℕ) (outsides : List ℕ) → bare_outlets holder new ≡ bare_outlets holder old → IsAt holder old o scope outsides → IsAt holder new o scope outsides
at_still holder old new o scope outsides e h = ap (λ (os : List OutletState). option_map {U = ℕ × List ℕ} (λ (x : OutletState). (x.scope, x.outsides)) (slice_get os o)) e ∙ h

pub there_still : (all : List Named) (holder : List ℕ) (old new : Instances) (ds : List Due) → bare_outlets holder new ≡ bare_outlets holder old → AllByRecursion (IsThere all holder old) ds → AllByRecursion (IsThere all holder new) ds
there_still all holder old new [] e h = tt
there_still all holder old new (d ∷ ds) e h = (record { outlet = at_still holder old new d.outlet d.scope d.outsides e h.0.outlet; body = h.0.body }, there_still all holder old new ds e h.1)

pub due_rest : (all : List Named) (holder : List ℕ) (old new : Instances) (d : Due) (ds : List Due) → AreDue all holder old (d ∷ ds) → Serves holder d.bodies old new → AreDue all holder new ds
due_rest all holder old new d ds h s = record {
  there = there_still all holder old new ds s.outlets h.there.1;
  bodies = λ q. (let many = h.bodies q in let one = s.bodies q in omega (arith, many, one));
}

module _ (all : List Named) (holder : List ℕ) (is : Instances) (serial : ℕ) where
  -- the outlets from one on
  due_there : (before xs : List OutletState) → outlets_in (linked_at holder is) ≡ before ++ xs → AllByRecursion (λ (x : OutletState). HasBody all x.home.template.0 x.filling) xs → AllByRecursion (IsThere all holder is) (due_from serial (length before) xs)
  due_there before [] e h = tt
  due_there before (x ∷ xs) e h =
      by (is_filled_by serial x)
      (subst (λ (n : ℕ). AllByRecursion (IsThere all holder is) (due_from serial n xs)) (length-append before (x ∷ [])) (due_there (before ++ x ∷ []) xs (e ∙ sym (append_assoc before (x ∷ []) xs)) h.1))
    where
      here : IsAt holder is (length before) x.scope x.outsides
      here = ap (λ (os : List OutletState). option_map {U = ℕ × List ℕ} (λ (y : OutletState). (y.scope, y.outsides)) (slice_get (map bare os) (length before))) e ∙ found_behind before x xs

      by : (b : Bool) → AllByRecursion (IsThere all holder is) (due_from serial (length before + 1) xs) → AllByRecursion (IsThere all holder is) (if b then due_at (length before) x ∷ due_from serial (length before + 1) xs else due_from serial (length before + 1) xs)
      by true more = (record { outlet = here; body = h.0 }, more)
      by false more = more

  due_counted : (q : List ℕ) (o : ℕ) (xs : List OutletState) → due_count q (due_from serial o xs) ≤ held_count q xs
  due_counted q o [] = omega arith
  due_counted q o (x ∷ xs) = by (is_filled_by serial x) (due_counted q (o + 1) xs)
    where
      by : (b : Bool) → due_count q (due_from serial (o + 1) xs) ≤ held_count q xs → due_count q (if b then due_at o x ∷ due_from serial (o + 1) xs else due_from serial (o + 1) xs) ≤ body_count q x.bodies + held_count q xs
      by true more = omega (arith, more)
      by false more = omega (arith, more)

  none_due : AreDue all holder is []
  none_due = record { there = tt; bodies = λ q. omega arith }

module _ (all : List Named) (holder : List ℕ) (is : Instances) (k : Key) where
  pub all_are_due : HaveBodies all is → AreDue all holder is (all_due k (linked_at holder is))
  all_are_due h = by (linked_at holder is) refl
    where
      by : (m : Option Linked) → linked_at holder is ≡ m → AreDue all holder is (all_due k m)
      by None e = none_due all holder is k.serial.0
      by (Some l) e = by_key (is_key k (key_in l.page k.serial.0))
        where
          those : AreDue all holder is (due_from k.serial.0 0 l.page.outlets)
          those = record {
            there = due_there all holder is k.serial.0 [] l.page.outlets (ap outlets_in e) (all_at (λ (p : List ℕ) (m : Linked). AllByRecursion (λ (x : OutletState). HasBody all x.home.template.0 x.filling) m.page.outlets) is holder l h e);
            bodies = λ q. (let held : bodies_held holder q is ≡ held_count q l.page.outlets = ap (λ (m : Option Linked). held_count q (outlets_in m)) e in let le = due_counted all holder is k.serial.0 q 0 l.page.outlets in omega (arith, held, le));
          }

          by_key : (b : Bool) → AreDue all holder is (if b then due_from k.serial.0 0 l.page.outlets else [])
          by_key true = those
          by_key false = none_due all holder is k.serial.0

-- an outlet that is there is one of what is linked
pub at_linked : (holder : List ℕ) (is : Instances) (o scope : ℕ) (outsides : List ℕ) → IsAt holder is o scope outsides → IsSome (linked_at holder is)
at_linked holder is o scope outsides h = by (linked_at holder is) h
  where
    by : (m : Option Linked) → option_map {U = ℕ × List ℕ} (λ (x : OutletState). (x.scope, x.outsides)) (slice_get (map bare (outlets_in m)) o) ≡ Some (scope, outsides) → IsSome m
    by None h = absurd (cc)
    by (Some l) h = refl

-- ---- a body goes

not_begun_by : (p b : List ℕ) (n : ℕ) → begins (p ++ (b ++ n ∷ [])) p ≡ false
not_begun_by [] [] n = refl
not_begun_by [] (x ∷ b) n = refl
not_begun_by (x ∷ xs) b n = ap (λ (c : Bool). c && begins (xs ++ (b ++ n ∷ [])) xs) (eq-eqb x x refl) ∙ not_begun_by xs b n

pub not_begun : (p q : List ℕ) → IsBelow p q → begins q p ≡ false
not_begun p q h = ap (λ (r : List ℕ). begins r p) h.1.1 ∙ not_begun_by p h.0 h.1.0

body_in : (p q : List ℕ) (bs : List Body) → AllByRecursion (IsIn p) bs → 0 < body_count q bs → IsBelow p q
body_in p q [] h lt = absurd (omega (arith, lt))
body_in p q (b ∷ bs) h lt = by (is_path q b.path) refl (body_in p q bs h.1) lt
  where
    by : (t : Bool) → is_path q b.path ≡ t → (0 < body_count q bs → IsBelow p q) → 0 < (if t then 1 else 0) + body_count q bs → IsBelow p q
    by true e more lt = subst (IsBelow p) (sym (path_is q b.path e)) h.0
    by false e more lt = more (omega (arith, lt))

pub held_below : (p q : List ℕ) (os : List OutletState) → AreIn p os → 0 < held_count q os → IsBelow p q
held_below p q [] h lt = absurd (omega (arith, lt))
held_below p q (o ∷ os) h lt = by (body_count q o.bodies) refl (held_below p q os h.1)
  where
    by : (n : ℕ) → body_count q o.bodies ≡ n → (0 < held_count q os → IsBelow p q) → IsBelow p q
    by zero e more = more (omega (arith, lt, e))
    by (suc n) e more = body_in p q o.bodies h.0 (omega (arith, e))

pub gone_bodies : (p q : List ℕ) (bs : List Body) → is_path q p ≡ false → body_count q (filter (λ (b : Body). not (is_path p b.path)) bs) ≡ body_count q bs
gone_bodies p q [] off = refl
gone_bodies p q (b ∷ bs) off = by (is_path p b.path) refl (gone_bodies p q bs off)
  where
    others : List Body
    others = filter (λ (x : Body). not (is_path p x.path)) bs

    by : (t : Bool) → is_path p b.path ≡ t → body_count q others ≡ body_count q bs → body_count q (cond (not t) (b ∷ others) others) ≡ (if is_path q b.path then 1 else 0) + body_count q bs
    by true e more =
        let off_it : is_path q b.path ≡ false = ap (is_path q) (sym (path_is p b.path e)) ∙ off in
        let none : (let n : ℕ = if is_path q b.path then 1 else 0 in n ≡ 0) = ap (λ (t : Bool). (let n : ℕ = if t then 1 else 0 in n)) off_it in
        omega (arith, more, none)
    by false e more = omega (arith, more)

gone_held : (p q : List ℕ) (os : List OutletState) → is_path q p ≡ false → held_count q (body_gone p os) ≡ held_count q os
gone_held p q [] off = refl
gone_held p q (o ∷ os) off = let one = gone_bodies p q o.bodies off in let more = gone_held p q os off in omega (arith, one, more)

gone_bare : (p : List ℕ) (os : List OutletState) → map bare (body_gone p os) ≡ map bare os
gone_bare p [] = refl
gone_bare p (o ∷ os) = ap (λ (xs : List OutletState). bare o ∷ xs) (gone_bare p os)

pub scope_with : (f : List OutletState → List OutletState) (o : Option Linked) → scope_in (option_map (with_outlets f) o) ≡ scope_in o
scope_with f None = refl
scope_with f (Some l) = refl

pub unlinked_serves : (places : Key → Option ℕ) (next : ℕ) (holder : List ℕ) (b : Body) (is : Instances) → ArePlaced places next is → IsHeldIn holder b.path is → Serves holder (b ∷ []) is (unlinked holder b.path is)
unlinked_serves places next holder b is placed held = by held.0 held.1 held.2
  where
    by : (l : Linked) → linked_at holder is ≡ Some l → 0 < held_count b.path l.page.outlets → Serves holder (b ∷ []) is (unlinked holder b.path is)
    by l at lt =
        let one : IsPlaced places next holder l = all_at (IsPlaced places next) is holder l placed at in
        let below = held_below holder b.path l.page.outlets one.bodies lt in
        let apart : begins b.path holder ≡ false = not_begun holder b.path below in
        let here : linked_at holder (unlinked holder b.path is) ≡ option_map (with_outlets (body_gone b.path)) (Some l) =
        kept_found (λ (q : List ℕ). not (begins b.path q)) (outlets_changed holder (body_gone b.path) is) holder (ap not apart)
        ∙ (changed_here holder (body_gone b.path) is ∙ ap (option_map (with_outlets (body_gone b.path))) at) in
        record {
          scope = ap scope_in here ∙ sym (ap scope_in at);
          outlets = ap (λ (m : Option Linked). map bare (outlets_in m)) here ∙ (gone_bare b.path l.page.outlets ∙ sym (ap (λ (m : Option Linked). map bare (outlets_in m)) at));
          bodies = λ q.
              (let now : bodies_held holder q (unlinked holder b.path is) ≡ held_count q (body_gone b.path l.page.outlets) = ap (λ (m : Option Linked). held_count q (outlets_in m)) here in
              let was : bodies_held holder q is ≡ held_count q l.page.outlets = ap (λ (m : Option Linked). held_count q (outlets_in m)) at in
              let few = count l one q (is_path q b.path) refl in
              omega (arith, now, was, few));
        }
      where
        count : (m : Linked) → IsPlaced places next holder m → (q : List ℕ) (t : Bool) → is_path q b.path ≡ t → held_count q m.page.outlets ≤ held_count q (body_gone b.path m.page.outlets) + ((if t then 1 else 0) + 0)
        count m one q true e = let few = one.once q in omega (arith, few)
        count m one q false e = let same = gone_held b.path q m.page.outlets e in omega (arith, same)

-- ---- a body comes

added_bare : (n i : ℕ) (b : Body) (os : List OutletState) → map bare (body_added n i b os) ≡ map bare os
added_bare n i b [] = refl
added_bare zero i b (o ∷ os) = refl
added_bare (suc n) i b (o ∷ os) = ap (λ (xs : List OutletState). bare o ∷ xs) (added_bare n i b os)

pub taken_serves : (holder : List ℕ) (o i : ℕ) (role : Role) (p : List ℕ) (m : Linked) (is : Instances) → IsSome (linked_at holder is) → linked_at p is ≡ None → Serves holder [] is (outlets_changed holder (body_added o i (record { path = p; role = role })) (with_instance p m is))
taken_serves holder o i role p m is lt free = by (linked_at holder is) refl
  where
    added : List OutletState → List OutletState
    added = body_added o i (record { path = p; role = role })

    by : (x : Option Linked) → linked_at holder is ≡ x → Serves holder [] is (outlets_changed holder added (with_instance p m is))
    by None e = absurd (let l = there (linked_at holder is) lt in let two : Some l.0 ≡ None = sym l.1 ∙ e in cc)
    by (Some l) e =
        let off : is_path holder p ≡ false = other_path holder p (λ same. let two : Some l ≡ None = sym e ∙ (ap (λ (q : List ℕ). linked_at q is) same ∙ free) in cc) in
        let here : linked_at holder (outlets_changed holder added (with_instance p m is)) ≡ Some (with_outlets added l) =
        changed_here holder added (with_instance p m is) ∙ ap (option_map (with_outlets added)) (inserted_other p m is holder off ∙ e) in
        record {
          scope = ap scope_in here ∙ sym (ap scope_in e);
          outlets = ap (λ (x : Option Linked). map bare (outlets_in x)) here ∙ (added_bare o i (record { path = p; role = role }) l.page.outlets ∙ sym (ap (λ (x : Option Linked). map bare (outlets_in x)) e));
          bodies = λ q.
              (let now : bodies_held holder q (outlets_changed holder added (with_instance p m is)) ≡ held_count q (added l.page.outlets) = ap (λ (x : Option Linked). held_count q (outlets_in x)) here in
              let was : bodies_held holder q is ≡ held_count q l.page.outlets = ap (λ (x : Option Linked). held_count q (outlets_in x)) e in
              let more = added_more q (record { path = p; role = role }) l.page.outlets o i in
              omega (arith, now, was, more));
        }
