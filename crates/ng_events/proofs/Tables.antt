-- The lists with the maps that find them.
use Rattle.std.proofs.Common.{◌≡◌, ◌<◌, ◌≤◌, ◌+◌, ◌&&◌, ℕ, zero, suc, Bool, true, false, cond, eqb, List, [], ◌∷◌, ◌++◌, length, Option, Some, None, refl, ap, sym, ◌∙◌, arith, inl, inr}
use Rattle.std.specs.Prelude.{bytes_eq}
use Rattle.std.specs.BTreeMap.{BTreeMap}
use Rattle.std.proofs.lemmas.Slice.Eq.{bytes_eq-Decides}
use Rattle.std.proofs.lemmas.Bool.Decides.{eqb_tells}
use Rattle.ng_chain.specs.declared.chain.Token.{Token}
use Rattle.ng_chain.specs.Walked.{Walked, serial_of, open_walks, IsRising}
use Rattle.ng_behaviour.specs.Listeners.{Listener, Heard, place_of, hear_at, listened, with_listener, last_of, nobody, heard_at}
use Rattle.ng_events.specs.declared.stands.Listener.{Listener as Registered}
use Rattle.ng_events.specs.declared.stands.Stand.{Stand}
use Rattle.ng_events.specs.declared.stands.Home.{Home}
use Rattle.ng_events.specs.Stands.{all_heard, chain_at, change_chain, pushed, removed, seen, no_chain, open_on, entries_of, listening, listening_at}
use Rattle.ng_events.specs.Names.{Names}
use Rattle.ng_events.specs.Sound.{AreThere, HaveHomes, HavePlaces, ArePlaces, LeavesWalks}
use Rattle.ng_events.proofs.Entries.{entries-append, without-last}
use Rattle.ng_events.proofs.Changed.{or_new, place-added, place-kept, walks-kept, open-change, change-length, change-same, change-other, heard-change, heard-push, heard-length, heard-read, chain-added, place-within}
use Rattle.ng_events.proofs.Homes.{there-kept, known-kept}

pub places-added : (xs : List Stand) (y : Stand) (m k : BTreeMap ℕ (BTreeMap (List ℕ) ℕ)) → place_of (all_heard xs) y.scope y.name ≡ None → Names m y.scope y.name (length xs) k → HavePlaces xs m → HavePlaces (xs ++ y ∷ []) k
places-added xs y m k e h p s n = h s n ∙ (ap (cond (eqb s y.scope && bytes_eq n y.name) (Some (length xs))) (p s n) ∙ sym (place-added xs y s n ∙ by-test (eqb s y.scope && bytes_eq n y.name) (place_of (all_heard xs) s n) same))
  where
    both : (a b : Bool) → (a && b) ≡ true → (a ≡ true) × (b ≡ true)
    both true true h = (refl, refl)
    both true false h = absurd (cc)
    both false b h = absurd (cc)

    number : (a b : ℕ) → eqb a b ≡ true → a ≡ b
    number a b h = elim (eqb_tells a b) [ inl t ↦ t.1 | inr t ↦ absurd (let z = t.0 in cc) ]

    same : (eqb s y.scope && bytes_eq n y.name) ≡ true → place_of (all_heard xs) s n ≡ None
    same q = let a = both (eqb s y.scope) (bytes_eq n y.name) q in ap (λ r. place_of (all_heard xs) r n) (number s y.scope a.0) ∙ ap (place_of (all_heard xs) y.scope) ((bytes_eq-Decides n y.name).0 a.1) ∙ e

    by-test : (b : Bool) (o : Option ℕ) → (b ≡ true → o ≡ None) → or_new o b (length xs) ≡ cond b (Some (length xs)) o
    by-test true None q = refl
    by-test true (Some i) q = absurd (let z = q refl in cc)
    by-test false None q = refl
    by-test false (Some i) q = refl

pub alone-added : (xs : List Stand) (y : Stand) → place_of (all_heard xs) y.scope y.name ≡ None → ArePlaces xs → ArePlaces (xs ++ y ∷ [])
alone-added xs y e a i h = elim (eqb_tells i (length xs)) [
  | inl t ↦ record { scope = y.scope; name = y.name; place = place-added xs y y.scope y.name ∙ (ap (λ o. or_new o (eqb y.scope y.scope && bytes_eq y.name y.name) (length xs)) e ∙ (ap (λ b. cond (b && bytes_eq y.name y.name) (Some (length xs)) None) (itself y.scope) ∙ (ap (λ b. cond b (Some (length xs)) None) ((bytes_eq-Decides y.name y.name).1 refl) ∙ ap (λ n. Some n) (sym t.1)))) }
  | inr t ↦
      let n : length (xs ++ y ∷ []) ≡ length xs + 1 = length-added xs in
      let z = a i (let f = t.1 in let q : i < length xs = omega arith in q) in
      record { scope = z.scope; name = z.name; place = place-added xs y z.scope z.name ∙ ap (λ o. or_new o (eqb z.scope y.scope && bytes_eq z.name y.name) (length xs)) z.place }
]
  where
    itself : (n : ℕ) → eqb n n ≡ true
    itself n = elim (eqb_tells n n) [ inl u ↦ u.0 | inr u ↦ absurd (u.1 refl) ]

    length-added : (zs : List Stand) → length (zs ++ y ∷ []) ≡ length zs + 1
    length-added [] = refl
    length-added (z ∷ zs) = let q = length-added zs in omega arith

pub leaves-change : (xs : List Stand) (i : ℕ) (f : Walked Registered → Walked Registered) → i < length xs → ((c : Walked Registered) → (f c).walks ≡ c.walks) → LeavesWalks xs (change_chain xs i f)
leaves-change xs i f h k = record {
  walks = walks-kept xs i f k;
  places = λ s n. place-kept xs i s n f;
  counted = (let e = open-change xs i f h in let d = ap open_walks (k (chain_at xs i)) in omega arith);
  as_long = change-length xs i f;
}

pub leaves-through : (xs ys zs : List Stand) → LeavesWalks xs ys → LeavesWalks ys zs → LeavesWalks xs zs
leaves-through xs ys zs a b = record { walks = b.walks ∙ a.walks; places = λ s n. b.places s n ∙ a.places s n; counted = b.counted ∙ a.counted; as_long = b.as_long ∙ a.as_long }

-- a listener that was added and taken out again
back-entries : (xs : List Stand) (i : ℕ) (t : Token) (l : Registered) → i < length xs → IsRising 0 (chain_at xs i).last (chain_at xs i).entries → (chain_at xs i).last < serial_of t → (j : ℕ) → (chain_at (change_chain (change_chain xs i (pushed t l)) i (removed t)) j).entries ≡ (chain_at xs j).entries
back-entries xs i t l h r s j = elim (eqb_tells j i) [
  | inl y ↦
      rw (y.1, change-same (change_chain xs i (pushed t l)) i (removed t) (rw (change-length xs i (pushed t l)) h), change-same xs i (pushed t l) h)
      (without-last (chain_at xs i).entries 0 (chain_at xs i).last t l r s)
  | inr z ↦ rw (change-other (change_chain xs i (pushed t l)) i j (removed t) z.1, change-other xs i j (pushed t l) z.1) refl
]

pub there-back : (xs : List Stand) (homes : BTreeMap ℕ Home) (i : ℕ) (t : Token) (l : Registered) → i < length xs → IsRising 0 (chain_at xs i).last (chain_at xs i).entries → (chain_at xs i).last < serial_of t → AreThere xs homes → AreThere (change_chain (change_chain xs i (pushed t l)) i (removed t)) homes
there-back xs homes i t l h r s a =
    there-kept xs (change_chain (change_chain xs i (pushed t l)) i (removed t)) homes (let e = change-length (change_chain xs i (pushed t l)) i (removed t) in let d = change-length xs i (pushed t l) in omega arith) (back-entries xs i t l h r s) a

pub known-back : (xs : List Stand) (homes : BTreeMap ℕ Home) (i : ℕ) (t : Token) (l : Registered) → i < length xs → IsRising 0 (chain_at xs i).last (chain_at xs i).entries → (chain_at xs i).last < serial_of t → HaveHomes xs homes → HaveHomes (change_chain (change_chain xs i (pushed t l)) i (removed t)) homes
known-back xs homes i t l h r s k = known-kept xs (change_chain (change_chain xs i (pushed t l)) i (removed t)) homes (back-entries xs i t l h r s) k

pub leaves-back : (xs : List Stand) (i : ℕ) (t : Token) (l : Registered) → i < length xs → LeavesWalks xs (change_chain (change_chain xs i (pushed t l)) i (removed t))
leaves-back xs i t l h = leaves-through xs (change_chain xs i (pushed t l)) (change_chain (change_chain xs i (pushed t l)) i (removed t)) (leaves-change xs i (pushed t l) h (λ c. refl)) (leaves-change (change_chain xs i (pushed t l)) i (removed t) (rw (change-length xs i (pushed t l)) h) (λ c. refl))

pub lists-push : (xs : List Stand) (i : ℕ) (t : Token) (l : Registered) → serial_of t ≡ (chain_at xs i).last + 1 → all_heard (change_chain xs i (pushed t l)) ≡ hear_at (all_heard xs) i (listened (seen l))
lists-push xs i t l e =
    heard-change xs i (pushed t l) (listened (seen l))
    (λ s n. ap (λ es. record { scope = s; name = n; last = (chain_at xs i).last + 1; entries = es }) (entries-append (chain_at xs i).entries ((t, l) ∷ []) ∙ ap (λ (k : ℕ). entries_of (chain_at xs i).entries ++ (k, seen l) ∷ []) e))

-- a list more, with nobody in it
pub open-added : (xs : List Stand) (y : Stand) → y.chain ≡ no_chain → open_on (xs ++ y ∷ []) ≡ open_on xs
open-added [] y e = ap (λ (c : Walked Registered). open_walks c.walks + 0) e
open-added (x ∷ xs) y e = ap (λ n. open_walks x.chain.walks + n) (open-added xs y e)

hear-last : (xs : List Heard) (y : Heard) (n : ℕ) (f : Heard → Heard) → n ≡ length xs → hear_at (xs ++ y ∷ []) n f ≡ xs ++ f y ∷ []
hear-last [] y zero f e = refl
hear-last [] y (suc n) f e = absurd (omega arith)
hear-last (x ∷ xs) y zero f e = absurd (omega arith)
hear-last (x ∷ xs) y (suc n) f e = ap (λ ys. x ∷ ys) (hear-last xs y n f (omega arith))

pub list-new : (xs : List Stand) (s n : ℕ) (w : List ℕ) (l : Listener) → n ≡ length xs → place_of (all_heard xs) s w ≡ None → hear_at (all_heard (xs ++ record { scope = s; name = w; chain = no_chain } ∷ [])) n (listened l) ≡ with_listener (all_heard xs) s w l
list-new xs s n w l e p =
    ap (λ ys. hear_at ys n (listened l)) (heard-push xs (record { scope = s; name = w; chain = no_chain }))
    ∙ (hear-last (all_heard xs) (nobody s w) n (listened l) (rw (heard-length xs) e) ∙ rw p refl)

pub list-there : (xs : List Stand) (s i : ℕ) (w : List ℕ) (l : Listener) → place_of (all_heard xs) s w ≡ Some i → hear_at (all_heard xs) i (listened l) ≡ with_listener (all_heard xs) s w l
list-there xs s i w l p = rw p refl

pub last-there : (xs : List Stand) (s i : ℕ) (w : List ℕ) → place_of (all_heard xs) s w ≡ Some i → (chain_at xs i).last ≡ last_of (all_heard xs) s w
last-there xs s i w p = rw p (sym (heard-read xs i).1)

pub last-none : (xs : List Stand) (s : ℕ) (w : List ℕ) → place_of (all_heard xs) s w ≡ None → last_of (all_heard xs) s w ≡ 0
last-none xs s w p = rw p refl

chain-past : (xs : List Stand) (i : ℕ) → length xs ≤ i → chain_at xs i ≡ no_chain
chain-past [] i h = refl
chain-past (x ∷ xs) zero h = absurd (omega arith)
chain-past (x ∷ xs) (suc i) h = chain-past xs i (omega arith)

pub last-new : (xs : List Stand) (y : Stand) (s n : ℕ) (w : List ℕ) → y.chain ≡ no_chain → n ≡ length xs → place_of (all_heard xs) s w ≡ None → (chain_at (xs ++ y ∷ []) n).last ≡ last_of (all_heard xs) s w
last-new xs y s n w e k p = ap (λ (f : ℕ → Walked Registered). (f n).last) (chain-added xs y e) ∙ (ap (λ (c : Walked Registered). c.last) (chain-past xs n (omega arith)) ∙ sym (last-none xs s w p))

-- who listens, where each list has the entries that it had
pub listening-kept : (xs ys : List Stand) → ((s : ℕ) (n : List ℕ) → place_of (all_heard ys) s n ≡ place_of (all_heard xs) s n) → ((j : ℕ) → (chain_at ys j).entries ≡ (chain_at xs j).entries) → (s : ℕ) (n : List ℕ) → listening (all_heard ys) s n ≡ listening (all_heard xs) s n
listening-kept xs ys p e s n = ap (λ o. listening_at o (all_heard ys)) (p s n) ∙ by-place (place_of (all_heard xs) s n)
  where
    by-place : (o : Option ℕ) → listening_at o (all_heard ys) ≡ listening_at o (all_heard xs)
    by-place None = refl
    by-place (Some i) = (heard-read ys i).0 ∙ (ap entries_of (e i) ∙ sym (heard-read xs i).0)

pub listening-back : (xs : List Stand) (i : ℕ) (t : Token) (l : Registered) → i < length xs → IsRising 0 (chain_at xs i).last (chain_at xs i).entries → (chain_at xs i).last < serial_of t → (s : ℕ) (n : List ℕ) → listening (all_heard (change_chain (change_chain xs i (pushed t l)) i (removed t))) s n ≡ listening (all_heard xs) s n
listening-back xs i t l h r k s n =
    listening-kept xs (change_chain (change_chain xs i (pushed t l)) i (removed t)) (leaves-back xs i t l h).places (back-entries xs i t l h r k) s n

-- and where a list more has nobody in it
pub listening-added : (xs : List Stand) (y : Stand) → y.chain ≡ no_chain → (s : ℕ) (n : List ℕ) → listening (all_heard (xs ++ y ∷ [])) s n ≡ listening (all_heard xs) s n
listening-added xs y e s n = ap (λ o. listening_at o (all_heard (xs ++ y ∷ []))) (place-added xs y s n) ∙ by-place (place_of (all_heard xs) s n) (eqb s y.scope && bytes_eq n y.name)
  where
    read : (i : ℕ) → (heard_at (all_heard (xs ++ y ∷ [])) i).entries ≡ entries_of (chain_at xs i).entries
    read i = (heard-read (xs ++ y ∷ []) i).0 ∙ ap (λ (f : ℕ → Walked Registered). entries_of (f i).entries) (chain-added xs y e)

    by-place : (o : Option ℕ) (b : Bool) → listening_at (or_new o b (length xs)) (all_heard (xs ++ y ∷ [])) ≡ listening_at o (all_heard xs)
    by-place (Some i) b = read i ∙ sym (heard-read xs i).0
    by-place None true = read (length xs) ∙ ap (λ (c : Walked Registered). entries_of c.entries) (chain-past xs (length xs) (omega arith))
    by-place None false = refl

pub ruleset lists = (list-new, list-there, last-there, last-none, last-new, place-within)
