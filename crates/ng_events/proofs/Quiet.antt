-- The listeners of a scope are gone.
use Rattle.std.proofs.Common.{◌≡◌, ◌+◌, ◌<◌, ◌≤◌, ◌&&◌, ◌||◌, ℕ, zero, suc, Bool, true, false, cond, eqb, List, [], ◌∷◌, length, map, Option, Some, None, refl, ap, sym, ◌∙◌, arith, inl, inr}
use Rattle.std.specs.Prelude.{slice_get, bytes_eq, option_and_then}
use Rattle.std.proofs.Math.Path.{fun_ext}
use Rattle.std.specs.Map.{lookup}
use Rattle.std.specs.BTreeMap.{BTreeMap, get, values, is_at as is_key, IsOrdered}
use Rattle.std.specs.Ordering.{nat_cmp}
use Rattle.std.proofs.lemmas.Bool.Decides.{eqb_tells}
use Rattle.std.proofs.lemmas.Map.Entries.{btree_map_get_place}
use Rattle.ng_base.specs.Order.{txt_cmp, txt_cmp_total}
use Rattle.ng_chain.specs.Walked.{Walked, open_walks, value_of, same_token}
use Rattle.ng_chain.specs.declared.chain.Token.{Token}
use Rattle.ng_behaviour.specs.Listeners.{place_of, place_from, quiet, without_listeners_of}
use Rattle.ng_events.specs.declared.stands.Stand.{Stand}
use Rattle.ng_events.specs.declared.stands.Listener.{Listener as Registered}
use Rattle.ng_events.specs.declared.stands.Home.{Home}
use Rattle.ng_events.specs.Stands.{heard, all_heard, chain_at, change_chain, walks_on, open_on, is_at, entries_of, emptied, empty_at, is_named}
use Rattle.ng_events.specs.Names.{named}
use Rattle.ng_events.specs.Sound.{IsThere, AreThere, HaveHomes, HavePlaces, ArePlaces, LeavesWalks}
use Rattle.ng_events.proofs.Changed.{change-length, change-same, change-other}

-- a list is of a scope
abbrev is_of : List Stand → ℕ → ℕ → Bool
is_of [] s l = false
is_of (x ∷ xs) s zero = eqb s x.scope
is_of (x ∷ xs) s (suc l) = is_of xs s l

abbrev silent : Stand → Stand
silent x = record { scope = x.scope; name = x.name; chain = emptied x.chain }

abbrev quiet_stand : ℕ → Stand → Stand
quiet_stand s x = cond (eqb s x.scope) (silent x) x

-- all lists, each quiet if it is of the scope
abbrev pub quieted : ℕ → List Stand → List Stand
quieted s [] = []
quieted s (x ∷ xs) = quiet_stand s x ∷ quieted s xs

stand-keeps : {A : Type 0} (g : Stand → A) (s : ℕ) (x : Stand) → g (silent x) ≡ g x → g (quiet_stand s x) ≡ g x
stand-keeps g s x h = elim (eqb s x.scope) as (λ b. g (cond b (silent x) x) ≡ g x) [ true ↦ h | false ↦ refl ]

quiet-length : (s : ℕ) (xs : List Stand) → length (quieted s xs) ≡ length xs
quiet-length s [] = refl
quiet-length s (x ∷ xs) = ap suc (quiet-length s xs)

quiet-heard : (s : ℕ) (x : Stand) → heard (quiet_stand s x) ≡ quiet s (heard x)
quiet-heard s x = elim (eqb s x.scope) as (λ b. heard (cond b (silent x) x) ≡ record { scope = x.scope; name = x.name; last = x.chain.last; entries = cond b [] (entries_of x.chain.entries) }) [ true ↦ refl | false ↦ refl ]

pub quiet-lists : (s : ℕ) (xs : List Stand) → all_heard (quieted s xs) ≡ without_listeners_of (all_heard xs) s
quiet-lists s [] = refl
quiet-lists s (x ∷ xs) = ap (λ y. y ∷ all_heard (quieted s xs)) (quiet-heard s x) ∙ ap (λ ys. quiet s (heard x) ∷ ys) (quiet-lists s xs)

quiet-walks : (s : ℕ) (xs : List Stand) (j : ℕ) → walks_on (quieted s xs) j ≡ walks_on xs j
quiet-walks s [] j = refl
quiet-walks s (x ∷ xs) zero = stand-keeps (λ y. y.chain.walks) s x refl
quiet-walks s (x ∷ xs) (suc j) = quiet-walks s xs j

quiet-open : (s : ℕ) (xs : List Stand) → open_on (quieted s xs) ≡ open_on xs
quiet-open s [] = refl
quiet-open s (x ∷ xs) = ap (λ n. n + open_on (quieted s xs)) (stand-keeps (λ y. open_walks y.chain.walks) s x refl) ∙ ap (λ n. open_walks x.chain.walks + n) (quiet-open s xs)

quiet-places : (s : ℕ) (xs : List Stand) (k r : ℕ) (n : List ℕ) → place_from k (all_heard (quieted s xs)) r n ≡ place_from k (all_heard xs) r n
quiet-places s [] k r n = refl
quiet-places s (x ∷ xs) k r n =
    ap (λ b. cond b (Some k) (place_from (suc k) (all_heard (quieted s xs)) r n)) (stand-keeps (λ y. eqb r y.scope && bytes_eq n y.name) s x refl)
    ∙ ap (cond (eqb r x.scope && bytes_eq n x.name) (Some k)) (quiet-places s xs (suc k) r n)

pub quiet-leaves : (s : ℕ) (xs : List Stand) → LeavesWalks xs (quieted s xs)
quiet-leaves s xs = record { walks = fun_ext (quiet-walks s xs); places = quiet-places s xs 0; counted = quiet-open s xs; as_long = quiet-length s xs }

-- the lists that a test tells are quiet
abbrev blank : (ℕ → Bool) → List Stand → List Stand
blank p [] = []
blank p (x ∷ xs) = cond (p 0) (silent x) x ∷ blank (λ k. p (suc k)) xs

abbrev among : List ℕ → ℕ → Bool
among [] k = false
among (i ∷ is) k = is_at i k || among is k

blank-none : (xs : List Stand) → blank (λ k. false) xs ≡ xs
blank-none [] = refl
blank-none (x ∷ xs) = ap (λ ys. x ∷ ys) (blank-none xs)

blank-twice : (b : Bool) (x : Stand) → cond b (silent (silent x)) (silent x) ≡ silent x
blank-twice true x = refl
blank-twice false x = refl

blank-change : (xs : List Stand) (i : ℕ) (p : ℕ → Bool) → blank p (change_chain xs i emptied) ≡ blank (λ k. is_at i k || p k) xs
blank-change [] i p = refl
blank-change (x ∷ xs) zero p = ap (λ y. y ∷ blank (λ k. p (suc k)) xs) (blank-twice (p 0) x)
blank-change (x ∷ xs) (suc i) p = ap (λ ys. cond (p 0) (silent x) x ∷ ys) (blank-change xs i (λ k. p (suc k)))

blank-all : (is : List ℕ) (xs : List Stand) → empty_at is xs ≡ blank (among is) xs
blank-all [] xs = sym (blank-none xs)
blank-all (i ∷ is) xs = blank-all is (change_chain xs i emptied) ∙ blank-change xs i (among is)

blank-scope : (s : ℕ) (xs : List Stand) (p : ℕ → Bool) → ((k : ℕ) → p k ≡ is_of xs s k) → blank p xs ≡ quieted s xs
blank-scope s [] p h = refl
blank-scope s (x ∷ xs) p h =
    ap (λ b. cond b (silent x) x ∷ blank (λ k. p (suc k)) xs) (h 0)
    ∙ ap (λ ys. quiet_stand s x ∷ ys) (blank-scope s xs (λ k. p (suc k)) (λ k. h (suc k)))

-- the places of a scope's names are those of its lists
same-place : (i j : ℕ) → is_at i j ≡ true → i ≡ j
same-place zero zero e = refl
same-place zero (suc j) e = absurd (cc)
same-place (suc i) zero e = absurd (cc)
same-place (suc i) (suc j) e = ap suc (same-place i j e)

at-itself : (i : ℕ) → is_at i i ≡ true
at-itself zero = refl
at-itself (suc i) = at-itself i

or-right : (b : Bool) → (b || true) ≡ true
or-right true = refl
or-right false = refl

or-cases : {A : Type 0} (b c : Bool) → (b || c) ≡ true → (b ≡ true → A) → (c ≡ true → A) → A
or-cases true c e f g = f refl
or-cases false c e f g = g e

and-left : (b c : Bool) → (b && c) ≡ true → b ≡ true
and-left true c e = refl
and-left false c e = absurd (cc)

same-bool : (a b : Bool) → (a ≡ true → b ≡ true) → (b ≡ true → a ≡ true) → a ≡ b
same-bool true b f g = sym (f refl)
same-bool false true f g = g refl
same-bool false false f g = refl

number : (a b : ℕ) → eqb a b ≡ true → a ≡ b
number a b h = elim (eqb_tells a b) [ inl t ↦ t.1 | inr t ↦ absurd (let z = t.0 in cc) ]

of-within : (xs : List Stand) (s l : ℕ) → is_of xs s l ≡ true → l < length xs
of-within [] s l h = absurd (cc)
of-within (x ∷ xs) s zero h = omega arith
of-within (x ∷ xs) s (suc l) h = let z = of-within xs s l h in omega arith

of-one : (xs : List Stand) (s r l : ℕ) → is_of xs s l ≡ true → is_of xs r l ≡ true → s ≡ r
of-one [] s r l h g = absurd (cc)
of-one (x ∷ xs) s r zero h g = number s x.scope h ∙ sym (number r x.scope g)
of-one (x ∷ xs) s r (suc l) h g = of-one xs s r l h g

place-from : (xs : List Stand) (k s i : ℕ) (n : List ℕ) → place_from k (all_heard xs) s n ≡ Some i → (j : ℕ) × (i ≡ k + j) × (is_of xs s j ≡ true)
place-from [] k s i n e = absurd (cc)
place-from (x ∷ xs) k s i n e = by-test (eqb s x.scope && bytes_eq n x.name) refl (λ h. place-from xs (suc k) s i n h)
  where
    by-test : (b : Bool) → (eqb s x.scope && bytes_eq n x.name) ≡ b → (place_from (suc k) (all_heard xs) s n ≡ Some i → (j : ℕ) × (i ≡ suc k + j) × (is_of xs s j ≡ true)) → (j : ℕ) × (i ≡ k + j) × (is_of (x ∷ xs) s j ≡ true)
    by-test true q go = let z : Some k ≡ Some i = rw q at e in let y : k ≡ i = cc in (0, omega arith, and-left (eqb s x.scope) (bytes_eq n x.name) q)
    by-test false q go = let z = go (rw q at e) in let y = z.1 in (suc z.0, omega arith, z.2)

place-scope : (xs : List Stand) (s i : ℕ) (n : List ℕ) → place_of (all_heard xs) s n ≡ Some i → is_of xs s i ≡ true
place-scope xs s i n e = let z = place-from xs 0 s i n e in let y : z.0 ≡ i = (let w = z.1 in omega arith) in ap (is_of xs s) (sym y) ∙ z.2

lookup-among : (f : List ℕ → Bool) (es : List (List ℕ × ℕ)) (i : ℕ) → lookup f es ≡ Some i → among (map (λ e. e.1) es) i ≡ true
lookup-among f [] i h = absurd (cc)
lookup-among f (e ∷ es) i h = by-test (f e.0) refl (λ q. lookup-among f es i q)
  where
    by-test : (b : Bool) → f e.0 ≡ b → (lookup f es ≡ Some i → among (map (λ d. d.1) es) i ≡ true) → (is_at e.1 i || among (map (λ d. d.1) es) i) ≡ true
    by-test true q go = let z : Some e.1 ≡ Some i = rw q at h in let y : e.1 ≡ i = cc in ap (λ b. b || among (map (λ d. d.1) es) i) (ap (λ j. is_at j i) y ∙ at-itself i)
    by-test false q go = ap (λ b. is_at e.1 i || b) (go (rw q at h)) ∙ or-right (is_at e.1 i)

among-entry : (es : List (List ℕ × ℕ)) (i : ℕ) → among (map (λ e. e.1) es) i ≡ true → (k : ℕ) × (n : List ℕ) × (slice_get es k ≡ Some (n, i))
among-entry [] i h = absurd (cc)
among-entry (e ∷ es) i h =
    or-cases (is_at e.1 i) (among (map (λ d. d.1) es) i) h (λ q. (0, e.0, ap (λ (j : ℕ). Some (e.0, j)) (same-place e.1 i q)))
    (λ q. let z = among-entry es i q in (suc z.0, z.1, z.2))

named-at : (names : BTreeMap ℕ (BTreeMap (List ℕ) ℕ)) (s : ℕ) (m : BTreeMap (List ℕ) ℕ) (n : List ℕ) → get nat_cmp names s ≡ Some m → named names s n ≡ get txt_cmp m n
named-at names s m n e = ap (option_and_then (λ a. get txt_cmp a n)) e

of-scope : (xs : List Stand) (names : BTreeMap ℕ (BTreeMap (List ℕ) ℕ)) (s : ℕ) (m : BTreeMap (List ℕ) ℕ) → get nat_cmp names s ≡ Some m → IsOrdered txt_cmp m → HavePlaces xs names → (k : ℕ) → among (values m) k ≡ true → is_of xs s k ≡ true
of-scope xs names s m e o p k h =
    let z = among-entry m.entries k h in
    place-scope xs s k z.1 (sym (p s z.1) ∙ (named-at names s m z.1 e ∙ btree_map_get_place txt_cmp_total m z.0 z.1 k o z.2))

in-scope : (xs : List Stand) (names : BTreeMap ℕ (BTreeMap (List ℕ) ℕ)) (s : ℕ) (m : BTreeMap (List ℕ) ℕ) → get nat_cmp names s ≡ Some m → HavePlaces xs names → ArePlaces xs → (k : ℕ) → is_of xs s k ≡ true → among (values m) k ≡ true
in-scope xs names s m e p a k h =
    let z = a k (of-within xs s k h) in
    let y = of-one xs s z.scope k h (place-scope xs z.scope k z.name z.place) in
    lookup-among (is_key (txt_cmp z.name)) m.entries k (sym (named-at names s m z.name e) ∙ (p s z.name ∙ (ap (λ r. place_of (all_heard xs) r z.name) y ∙ z.place)))

pub quiet-scope : (xs : List Stand) (names : BTreeMap ℕ (BTreeMap (List ℕ) ℕ)) (s : ℕ) (m : BTreeMap (List ℕ) ℕ) → get nat_cmp names s ≡ Some m → IsOrdered txt_cmp m → HavePlaces xs names → ArePlaces xs → empty_at (values m) xs ≡ quieted s xs
quiet-scope xs names s m e o p a =
    blank-all (values m) xs
    ∙ blank-scope s xs (among (values m)) (λ k. same-bool (among (values m) k) (is_of xs s k) (of-scope xs names s m e o p k) (in-scope xs names s m e p a k))

-- a scope without names has no lists
none-of : (xs : List Stand) (s : ℕ) → ((k : ℕ) → is_of xs s k ≡ false) → quieted s xs ≡ xs
none-of [] s h = refl
none-of (x ∷ xs) s h = ap (λ b. cond b (silent x) x ∷ quieted s xs) (h 0) ∙ ap (λ ys. x ∷ ys) (none-of xs s (λ k. h (suc k)))

pub quiet-nobody : (xs : List Stand) (names : BTreeMap ℕ (BTreeMap (List ℕ) ℕ)) (s : ℕ) → get nat_cmp names s ≡ None → HavePlaces xs names → ArePlaces xs → quieted s xs ≡ xs
quiet-nobody xs names s e p a = none-of xs s (λ k. nobody k (is_of xs s k) refl)
  where
    nobody : (k : ℕ) (b : Bool) → is_of xs s k ≡ b → is_of xs s k ≡ false
    nobody k false q = q
    nobody k true q =
        let z = a k (of-within xs s k q) in
        let y = of-one xs s z.scope k q (place-scope xs z.scope k z.name z.place) in
        let w : None ≡ Some k = sym (ap (option_and_then (λ m. get txt_cmp m z.name)) e) ∙ (p s z.name ∙ (ap (λ r. place_of (all_heard xs) r z.name) y ∙ z.place)) in
        absurd (cc)

eqb-itself : (n : ℕ) → eqb n n ≡ true
eqb-itself n = elim (eqb_tells n n) [ inl t ↦ t.0 | inr t ↦ absurd (t.1 refl) ]

named-value : (es : List (Token × Registered)) (t : Token) (l : Registered) → value_of es t ≡ Some l → is_named l.id.0 es ≡ true
named-value [] t l h = absurd (cc)
named-value (e ∷ es) t l h = by-test (same_token t e.0) refl (λ q. named-value es t l q)
  where
    by-test : (b : Bool) → same_token t e.0 ≡ b → (value_of es t ≡ Some l → is_named l.id.0 es ≡ true) → (eqb l.id.0 e.1.id.0 || is_named l.id.0 es) ≡ true
    by-test true q go =
        let z : Some e.1 ≡ Some l = rw q at h in
        let y : e.1 ≡ l = cc in
        ap (λ (v : Registered). eqb l.id.0 v.id.0 || is_named l.id.0 es) y ∙ ap (λ b. b || is_named l.id.0 es) (eqb-itself l.id.0)
    by-test false q go = ap (λ b. eqb l.id.0 e.1.id.0 || b) (go (rw q at h)) ∙ or-right (eqb l.id.0 e.1.id.0)

named-entry : (es : List (Token × Registered)) (q : ℕ) → is_named q es ≡ true → (k : ℕ) × (e : Token × Registered) × (slice_get es k ≡ Some e) × (q ≡ e.1.id.0)
named-entry [] q h = absurd (cc)
named-entry (e ∷ es) q h =
    or-cases (eqb q e.1.id.0) (is_named q es) h (λ y. (0, e, refl, number q e.1.id.0 y))
    (λ y. let z = named-entry es q y in (suc z.0, z.1, z.2, z.3))

left-home : (b : Bool) (o : Option Home) (h : Home) → cond b None o ≡ Some h → (b ≡ false) × (o ≡ Some h)
left-home true o h e = absurd (cc)
left-home false o h e = (refl, e)

-- the homes once nobody is in a list
pub there-emptied : (xs : List Stand) (homes new : BTreeMap ℕ Home) (i : ℕ) → ((q : ℕ) → get nat_cmp new q ≡ cond (is_named q (chain_at xs i).entries) None (get nat_cmp homes q)) → AreThere xs homes → AreThere (change_chain xs i emptied) new
there-emptied xs homes new i u a id h g =
    let f = left-home (is_named id (chain_at xs i).entries) (get nat_cmp homes id) h (sym (u id) ∙ g) in
    let t = a id h f.1 in
    record { within = rw (change-length xs i emptied) t.within; listener = t.listener; stands = rw (change-other xs i h.list emptied (elsewhere t f.0)) t.stands; called = t.called }
  where
    elsewhere : (t : IsThere xs id h) → is_named id (chain_at xs i).entries ≡ false → h.list ≡ i → ⊥
    elsewhere t f e =
        let z : value_of (chain_at xs i).entries h.token ≡ Some t.listener = ap (λ l. value_of (chain_at xs l).entries h.token) (sym e) ∙ t.stands in
        let y : is_named id (chain_at xs i).entries ≡ true = ap (λ n. is_named n (chain_at xs i).entries) t.called ∙ named-value (chain_at xs i).entries h.token t.listener z in
        let w : false ≡ true = sym f ∙ y in
        cc

pub known-emptied : (xs : List Stand) (homes new : BTreeMap ℕ Home) (i : ℕ) → i < length xs → ((q : ℕ) → get nat_cmp new q ≡ cond (is_named q (chain_at xs i).entries) None (get nat_cmp homes q)) → HaveHomes xs homes → HaveHomes (change_chain xs i emptied) new
known-emptied xs homes new i w u k l j x g = elim (eqb_tells l i) [
  | inl y ↦ absurd (let z : slice_get [] j ≡ Some x = ap (λ (c : Walked Registered). slice_get c.entries j) (sym (change-same xs i emptied w)) ∙ (ap (λ (n : ℕ). slice_get (chain_at (change_chain xs i emptied) n).entries j) (sym y.1) ∙ g) in cc)
  | inr y ↦
      let old = k l j x (rw (change-other xs i l emptied y.1) at g) in
      u x.1.id.0 ∙ (ap (λ b. cond b None (get nat_cmp homes x.1.id.0)) (free old y.1 (is_named x.1.id.0 (chain_at xs i).entries) refl) ∙ old)
]
  where
    free : get nat_cmp homes x.1.id.0 ≡ Some (record { list = l; token = x.0 }) → (l ≡ i → ⊥) → (b : Bool) → is_named x.1.id.0 (chain_at xs i).entries ≡ b → is_named x.1.id.0 (chain_at xs i).entries ≡ false
    free old n false q = q
    free old n true q =
        let z = named-entry (chain_at xs i).entries x.1.id.0 q in
        let m = k i z.0 z.1 z.2 in
        let d : Some (record { list = l; token = x.0 }) ≡ Some (record { list = i; token = z.1.0 }) = sym old ∙ (ap (get nat_cmp homes) z.3 ∙ m) in
        let f : record { list = l; token = x.0 } ≡ record { list = i; token = z.1.0 } = cc in
        absurd (n (ap (λ (v : Home). v.list) f))

pub empty-past : (xs : List Stand) (i : ℕ) → length xs ≤ i → change_chain xs i emptied ≡ xs
empty-past [] i h = refl
empty-past (x ∷ xs) zero h = absurd (omega arith)
empty-past (x ∷ xs) (suc i) h = ap (λ ys. x ∷ ys) (empty-past xs i (omega arith))

-- each list is the place of its own, whatever is done to the lists
pub alone-kept : (xs ys : List Stand) → LeavesWalks xs ys → ArePlaces xs → ArePlaces ys
alone-kept xs ys w a i h =
    let e = w.as_long in
    let z = a i (omega arith) in
    record { scope = z.scope; name = z.name; place = w.places z.scope z.name ∙ z.place }
