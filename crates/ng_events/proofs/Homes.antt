-- Each listener has its home, whatever is done to the lists.
use Rattle.std.proofs.Common.{◌≡◌, ◌<◌, ◌≤◌, ℕ, zero, suc, true, false, cond, eqb, List, [], ◌∷◌, ◌++◌, length, Option, Some, None, refl, ap, sym, ◌∙◌, subst, arith, inl, inr, ◌⊎◌}
use Rattle.std.specs.Prelude.{slice_get}
use Rattle.std.specs.Map.{lookup}
use Rattle.std.specs.BTreeMap.{BTreeMap, get, is_at}
use Rattle.std.specs.Ordering.{is_eq, nat_cmp}
use Rattle.std.specs.Cmp.{unsigned_ties}
use Rattle.std.proofs.lemmas.Bool.{ne_eqb, eq-eqb}
use Rattle.std.proofs.lemmas.Bool.Decides.{eqb_tells}
use Rattle.ng_chain.specs.declared.chain.Token.{Token}
use Rattle.ng_chain.specs.Walked.{Walked, found, value_of, serial_of, without, IsRising}
use Rattle.ng_behaviour.specs.Listeners.{called, without_listener}
use Rattle.ng_events.specs.declared.stands.Listener.{Listener as Registered}
use Rattle.ng_events.specs.declared.stands.Stand.{Stand}
use Rattle.ng_events.specs.declared.stands.Home.{Home}
use Rattle.ng_events.specs.Stands.{heard, all_heard, chain_at, change_chain, pushed, removed, seen}
use Rattle.ng_events.specs.Sound.{IsThere, AreThere, HaveHomes}
use Rattle.ng_events.proofs.Entries.{get-found, value-serial, value-append, value-last, value-without, get-without, filter-called, filter-none, called-none, called-value}
use Rattle.ng_events.proofs.Changed.{change-length, change-same, change-other}

same-number : (s r : ℕ) → is_eq (nat_cmp s r) ≡ eqb s r
same-number s r = sym (unsigned_ties s r)

-- the same entries, in at least as many lists
pub there-kept : (xs ys : List Stand) (homes : BTreeMap ℕ Home) → length xs ≤ length ys → ((l : ℕ) → (chain_at ys l).entries ≡ (chain_at xs l).entries) → AreThere xs homes → AreThere ys homes
there-kept xs ys homes n e a id h g =
    let t = a id h g in
    record { within = let w = t.within in omega arith; listener = t.listener; stands = rw (e h.list) t.stands; called = t.called }

pub known-kept : (xs ys : List Stand) (homes : BTreeMap ℕ Home) → ((l : ℕ) → (chain_at ys l).entries ≡ (chain_at xs l).entries) → HaveHomes xs homes → HaveHomes ys homes
known-kept xs ys homes e k l i x g = k l i x (rw (e l) at g)

-- the same entries of the map
get-same : (homes new : BTreeMap ℕ Home) → new.entries ≡ homes.entries → (q : ℕ) → get nat_cmp new q ≡ get nat_cmp homes q
get-same homes new e q = ap (λ es. lookup (is_at (nat_cmp q)) es) e

pub there-same : (xs : List Stand) (homes new : BTreeMap ℕ Home) → new.entries ≡ homes.entries → AreThere xs homes → AreThere xs new
there-same xs homes new e a id h g = a id h (sym (get-same homes new e id) ∙ g)

pub known-same : (xs : List Stand) (homes new : BTreeMap ℕ Home) → new.entries ≡ homes.entries → HaveHomes xs homes → HaveHomes xs new
known-same xs homes new e k l i x g = get-same homes new e x.1.id.0 ∙ k l i x g

home-new : (homes new : BTreeMap ℕ Home) (id q : ℕ) (h : Home) → ((r : ℕ) → get nat_cmp new r ≡ cond (is_eq (nat_cmp id r)) (Some h) (get nat_cmp homes r)) → id ≡ q → get nat_cmp new q ≡ Some h
home-new homes new id q h u e = u q ∙ ap (λ b. cond b (Some h) (get nat_cmp homes q)) (same-number id q ∙ eq-eqb id q e)

home-other : (homes new : BTreeMap ℕ Home) (id q : ℕ) (o : Option Home) → ((r : ℕ) → get nat_cmp new r ≡ cond (is_eq (nat_cmp id r)) o (get nat_cmp homes r)) → (id ≡ q → ⊥) → get nat_cmp new q ≡ get nat_cmp homes q
home-other homes new id q o u n = u q ∙ ap (λ b. cond b o (get nat_cmp homes q)) (same-number id q ∙ ne_eqb id q n)

-- a listener more
pub there-push : (xs : List Stand) (homes new : BTreeMap ℕ Home) (i id : ℕ) (t : Token) (l : Registered) → i < length xs → IsRising 0 (chain_at xs i).last (chain_at xs i).entries → (chain_at xs i).last < serial_of t → id ≡ l.id.0 → ((r : ℕ) → get nat_cmp new r ≡ cond (is_eq (nat_cmp id r)) (Some (record { list = i; token = t })) (get nat_cmp homes r)) → AreThere xs homes → AreThere (change_chain xs i (pushed t l)) new
there-push xs homes new i id t l w r s c u a q h g = elim (eqb_tells id q) [
  | inl y ↦
      let e : record { list = i; token = t } ≡ h = (let z = home-new homes new id q (record { list = i; token = t }) u y.1 in cc) in
      subst (λ (k : Home). IsThere (change_chain xs i (pushed t l)) q k) e (record {
        within = rw (change-length xs i (pushed t l)) w;
        listener = l;
        stands = rw (change-same xs i (pushed t l) w) (value-last (chain_at xs i).entries 0 (chain_at xs i).last t l r s);
        called = sym y.1 ∙ c;
      })
  | inr z ↦
      let b = a q h (sym (home-other homes new id q (Some (record { list = i; token = t })) u z.1) ∙ g) in
      record { within = rw (change-length xs i (pushed t l)) b.within; listener = b.listener; stands = old b (eqb_tells h.list i); called = b.called }
]
  where
    old : (b : IsThere xs q h) → ((eqb h.list i ≡ true) × (h.list ≡ i)) ⊎ ((eqb h.list i ≡ false) × (h.list ≡ i → ⊥)) → value_of (chain_at (change_chain xs i (pushed t l)) h.list).entries h.token ≡ Some b.listener
    old b (inl y) = rw (y.1, change-same xs i (pushed t l) w) (value-append (chain_at xs i).entries ((t, l) ∷ []) h.token b.listener (rw y.1 at b.stands))
    old b (inr z) = rw (change-other xs i h.list (pushed t l) z.1) b.stands

get-back : {A : Type 0} (xs : List A) (y v : A) (k : ℕ) → slice_get (xs ++ y ∷ []) k ≡ Some v → (slice_get xs k ≡ Some v) ⊎ (v ≡ y)
get-back [] y v zero h = inr cc
get-back [] y v (suc k) h = absurd (cc)
get-back (x ∷ xs) y v zero h = inl h
get-back (x ∷ xs) y v (suc k) h = get-back xs y v k h

pub known-push : (xs : List Stand) (homes new : BTreeMap ℕ Home) (i id : ℕ) (t : Token) (l : Registered) → i < length xs → id ≡ l.id.0 → get nat_cmp homes id ≡ None → ((r : ℕ) → get nat_cmp new r ≡ cond (is_eq (nat_cmp id r)) (Some (record { list = i; token = t })) (get nat_cmp homes r)) → HaveHomes xs homes → HaveHomes (change_chain xs i (pushed t l)) new
known-push xs homes new i id t l w c f u k j m e g = elim (eqb_tells j i) [
  | inl y ↦ elim (get-back (chain_at xs i).entries (t, l) e m (rw (y.1, change-same xs i (pushed t l) w) at g)) [
    | inl old ↦ kept (k j m e (rw (← y.1) at old))
    | inr q ↦
        home-new homes new id e.1.id.0 (record { list = i; token = t }) u (c ∙ ap (λ (x : Token × Registered). x.1.id.0) (sym q))
        ∙ ap (λ (x : Token × Registered). Some (record { list = i; token = x.0 })) (sym q)
        ∙ ap (λ (n : ℕ). Some (record { list = n; token = e.0 })) (sym y.1)
  ]
  | inr z ↦ kept (k j m e (rw (change-other xs i j (pushed t l) z.1) at g))
]
  where
    kept : get nat_cmp homes e.1.id.0 ≡ Some (record { list = j; token = e.0 }) → get nat_cmp new e.1.id.0 ≡ Some (record { list = j; token = e.0 })
    kept h = home-other homes new id e.1.id.0 (Some (record { list = i; token = t })) u (λ q. let z : get nat_cmp homes id ≡ Some (record { list = j; token = e.0 }) = ap (get nat_cmp homes) q ∙ h in cc) ∙ h

-- a listener less
pub there-remove : (xs : List Stand) (homes new : BTreeMap ℕ Home) (id : ℕ) (h : Home) → IsRising 0 (chain_at xs h.list).last (chain_at xs h.list).entries → get nat_cmp homes id ≡ Some h → ((r : ℕ) → get nat_cmp new r ≡ cond (is_eq (nat_cmp id r)) None (get nat_cmp homes r)) → AreThere xs homes → AreThere (change_chain xs h.list (removed h.token)) new
there-remove xs homes new id h r f u a q d g = elim (eqb_tells id q) [
  | inl y ↦ absurd (let z : get nat_cmp new q ≡ None = u q ∙ ap (λ b. cond b None (get nat_cmp homes q)) (same-number id q ∙ y.0) in cc)
  | inr n ↦
      let b = a q d (sym (home-other homes new id q None u n.1) ∙ g) in
      record { within = rw (change-length xs h.list (removed h.token)) b.within; listener = b.listener; stands = left b (λ e. n.1 e) (eqb_tells d.list h.list); called = b.called }
]
  where
    left : (b : IsThere xs q d) → (id ≡ q → ⊥) → ((eqb d.list h.list ≡ true) × (d.list ≡ h.list)) ⊎ ((eqb d.list h.list ≡ false) × (d.list ≡ h.list → ⊥)) → value_of (chain_at (change_chain xs h.list (removed h.token)) d.list).entries d.token ≡ Some b.listener
    left b n (inr z) = rw (change-other xs h.list d.list (removed h.token) z.1) b.stands
    left b n (inl y) =
        let there = a id h f in
        let other : serial_of d.token ≡ serial_of h.token → ⊥ =
        λ e.
        let m : found (chain_at xs h.list).entries (serial_of h.token) ≡ Some there.listener = value-serial (chain_at xs h.list).entries 0 (chain_at xs h.list).last h.token there.listener r there.stands in
        let k : found (chain_at xs h.list).entries (serial_of d.token) ≡ Some b.listener = value-serial (chain_at xs h.list).entries 0 (chain_at xs h.list).last d.token b.listener r (rw y.1 at b.stands) in
        let same : Some there.listener ≡ Some b.listener = sym m ∙ ap (found (chain_at xs h.list).entries) (sym e) ∙ k in
        let one : there.listener ≡ b.listener = cc in
        n (there.called ∙ ap (λ (l : Registered). l.id.0) one ∙ sym b.called) in
        rw (y.1, change-same xs h.list (removed h.token) there.within) (value-without (chain_at xs h.list).entries (serial_of h.token) d.token other ∙ rw y.1 at b.stands)

home-token : (h d : Home) → Some h ≡ Some d → (h.list ≡ d.list) × (h.token ≡ d.token)
home-token h d e = let q : h ≡ d = cc in (ap (λ (x : Home). x.list) q, ap (λ (x : Home). x.token) q)

pub known-remove : (xs : List Stand) (homes new : BTreeMap ℕ Home) (id : ℕ) (h : Home) → h.list < length xs → get nat_cmp homes id ≡ Some h → ((r : ℕ) → get nat_cmp new r ≡ cond (is_eq (nat_cmp id r)) None (get nat_cmp homes r)) → HaveHomes xs homes → HaveHomes (change_chain xs h.list (removed h.token)) new
known-remove xs homes new id h w f u k j m e g = elim (eqb_tells j h.list) [
  | inl y ↦
      here y.1
      (ap (λ (c : Walked Registered). slice_get c.entries m) (sym (change-same xs h.list (removed h.token) w)) ∙ (ap (λ (n : ℕ). slice_get (chain_at (change_chain xs h.list (removed h.token)) n).entries m) (sym y.1) ∙ g))
  | inr z ↦
      let old = k j m e (rw (change-other xs h.list j (removed h.token) z.1) at g) in
      kept old (λ q. z.1 (sym (home-token h (record { list = j; token = e.0 }) (sym f ∙ ap (get nat_cmp homes) q ∙ old)).0))
]
  where
    kept : get nat_cmp homes e.1.id.0 ≡ Some (record { list = j; token = e.0 }) → (id ≡ e.1.id.0 → ⊥) → get nat_cmp new e.1.id.0 ≡ Some (record { list = j; token = e.0 })
    kept old n = home-other homes new id e.1.id.0 None u n ∙ old

    was : (i : ℕ) → j ≡ h.list → slice_get (chain_at xs h.list).entries i ≡ Some e → get nat_cmp homes e.1.id.0 ≡ Some (record { list = j; token = e.0 })
    was i y a = k j i e (ap (λ (n : ℕ). slice_get (chain_at xs n).entries i) y ∙ a)

    here : j ≡ h.list → slice_get (without (serial_of h.token) (chain_at xs h.list).entries) m ≡ Some e → get nat_cmp new e.1.id.0 ≡ Some (record { list = j; token = e.0 })
    here y l =
        let a = get-without (chain_at xs h.list).entries (serial_of h.token) m e l in
        kept (was a.0 y a.1) (λ q. a.2 (ap serial_of (home-token h (record { list = j; token = e.0 }) (sym f ∙ ap (get nat_cmp homes) q ∙ was a.0 y a.1)).1))

-- the lists without a listener
none-dropped : (xs : List Stand) (id : ℕ) → ((l k : ℕ) (e : Token × Registered) → slice_get (chain_at xs l).entries k ≡ Some e → id ≡ e.1.id.0 → ⊥) → without_listener (all_heard xs) id ≡ all_heard xs
none-dropped [] id h = refl
none-dropped (x ∷ xs) id h =
    ap (λ es. record { scope = x.scope; name = x.name; last = x.chain.last; entries = es } ∷ without_listener (all_heard xs) id) (filter-none x.chain.entries id (h 0))
    ∙ ap (λ ys. heard x ∷ ys) (none-dropped xs id (λ l. h (suc l)))

one-dropped : (xs : List Stand) (i id : ℕ) (t : Token) → ((l k : ℕ) (e : Token × Registered) → slice_get (chain_at xs l).entries k ≡ Some e → id ≡ e.1.id.0 → (l ≡ i) × (serial_of t ≡ serial_of e.0)) → ((k : ℕ) (e : Token × Registered) → slice_get (chain_at xs i).entries k ≡ Some e → serial_of t ≡ serial_of e.0 → id ≡ e.1.id.0) → without_listener (all_heard xs) id ≡ all_heard (change_chain xs i (removed t))
one-dropped [] i id t h b = refl
one-dropped (x ∷ xs) zero id t h b =
    ap (λ es. record { scope = x.scope; name = x.name; last = x.chain.last; entries = es } ∷ without_listener (all_heard xs) id) (filter-called x.chain.entries id (serial_of t) (λ k e g. (λ q. (h 0 k e g q).1, b k e g)))
    ∙ ap (λ ys. heard (record { scope = x.scope; name = x.name; chain = removed t x.chain }) ∷ ys) (none-dropped xs id (λ l k e g q. let z = (h (suc l) k e g q).0 in omega arith))
one-dropped (x ∷ xs) (suc i) id t h b =
    ap (λ es. record { scope = x.scope; name = x.name; last = x.chain.last; entries = es } ∷ without_listener (all_heard xs) id) (filter-none x.chain.entries id (λ k e g q. let z = (h 0 k e g q).0 in omega arith))
    ∙ ap (λ ys. heard x ∷ ys) (one-dropped xs i id t (λ l k e g q. let z = h (suc l) k e g q in (let y = z.0 in omega arith, z.1)) b)

pub lists-remove : (xs : List Stand) (homes : BTreeMap ℕ Home) (id : ℕ) (h : Home) → IsRising 0 (chain_at xs h.list).last (chain_at xs h.list).entries → get nat_cmp homes id ≡ Some h → AreThere xs homes → HaveHomes xs homes → without_listener (all_heard xs) id ≡ all_heard (change_chain xs h.list (removed h.token))
lists-remove xs homes id h r f a k =
    let there = a id h f in
    one-dropped xs h.list id h.token
    (λ l m e g q. let z = home-token h (record { list = l; token = e.0 }) (sym f ∙ ap (get nat_cmp homes) q ∙ k l m e g) in (sym z.0, ap serial_of z.1))
    (λ m e g q.
    let n = value-serial (chain_at xs h.list).entries 0 (chain_at xs h.list).last h.token there.listener r there.stands in
    let y = get-found (chain_at xs h.list).entries 0 (chain_at xs h.list).last m e r g in
    let same : Some there.listener ≡ Some e.1 = sym n ∙ ap (found (chain_at xs h.list).entries) q ∙ y in
    let one : there.listener ≡ e.1 = cc in
    there.called ∙ ap (λ (v : Registered). v.id.0) one)

pub lists-absent : (xs : List Stand) (homes : BTreeMap ℕ Home) (id : ℕ) → get nat_cmp homes id ≡ None → HaveHomes xs homes → without_listener (all_heard xs) id ≡ all_heard xs
lists-absent xs homes id f k = none-dropped xs id (λ l m e g q. let z : get nat_cmp homes id ≡ Some (record { list = l; token = e.0 }) = ap (get nat_cmp homes) q ∙ k l m e g in cc)

-- who is called by a name
none-called : (xs : List Stand) (id : ℕ) → ((l k : ℕ) (e : Token × Registered) → slice_get (chain_at xs l).entries k ≡ Some e → id ≡ e.1.id.0 → ⊥) → called (all_heard xs) id ≡ None
none-called [] id h = refl
none-called (x ∷ xs) id h = rw (called-none x.chain.entries id (h 0)) (none-called xs id (λ l. h (suc l)))

pub called-absent : (xs : List Stand) (homes : BTreeMap ℕ Home) (id : ℕ) → get nat_cmp homes id ≡ None → HaveHomes xs homes → called (all_heard xs) id ≡ None
called-absent xs homes id f k = none-called xs id (λ l m e g q. let z : get nat_cmp homes id ≡ Some (record { list = l; token = e.0 }) = ap (get nat_cmp homes) q ∙ k l m e g in cc)

one-called : (xs : List Stand) (i id : ℕ) (t : Token) (v : Registered) → ((l k : ℕ) (e : Token × Registered) → slice_get (chain_at xs l).entries k ≡ Some e → id ≡ e.1.id.0 → (l ≡ i) × (t ≡ e.0)) → value_of (chain_at xs i).entries t ≡ Some v → id ≡ v.id.0 → called (all_heard xs) id ≡ Some (seen v)
one-called [] i id t v h e q = absurd (cc)
one-called (x ∷ xs) zero id t v h e q = rw (called-value x.chain.entries id t v (λ k d g p. (h 0 k d g p).1) e q) refl
one-called (x ∷ xs) (suc i) id t v h e q =
    rw (called-none x.chain.entries id (λ k d g p. let z = (h 0 k d g p).0 in omega arith)) (one-called xs i id t v (λ l k d g p. let z = h (suc l) k d g p in (let y = z.0 in omega arith, z.1)) e q)

pub called-there : (xs : List Stand) (homes : BTreeMap ℕ Home) (id : ℕ) (h : Home) (v : Registered) → get nat_cmp homes id ≡ Some h → AreThere xs homes → HaveHomes xs homes → value_of (chain_at xs h.list).entries h.token ≡ Some v → called (all_heard xs) id ≡ Some (seen v)
called-there xs homes id h v f a k e =
    let there = a id h f in
    let one : there.listener ≡ v = (let z : Some there.listener ≡ Some v = sym there.stands ∙ e in cc) in
    one-called xs h.list id h.token v (λ l m d g q. let z = home-token h (record { list = l; token = d.0 }) (sym f ∙ ap (get nat_cmp homes) q ∙ k l m d g) in (sym z.0, z.1)) e (there.called ∙ ap (λ (x : Registered). x.id.0) one)

-- a name that no listener has no home
pub fresh-home : (xs : List Stand) (homes : BTreeMap ℕ Home) (id : ℕ) → AreThere xs homes → HaveHomes xs homes → called (all_heard xs) id ≡ None → get nat_cmp homes id ≡ None
fresh-home xs homes id a k c = by-home (get nat_cmp homes id) refl
  where
    by-home : (o : Option Home) → get nat_cmp homes id ≡ o → get nat_cmp homes id ≡ None
    by-home None e = e
    by-home (Some h) e = absurd (let there = a id h e in let z = called-there xs homes id h there.listener e a k there.stands in cc)
