-- A tree with its index, as it dies and as it grows.
use Rattle.std.proofs.Common.{◌≡◌, ◌-◌, ◌^◌, ◌<◌, ◌≤◌, ℕ, suc, Bool, true, false, cond, ◌&&◌, List, length, Option, Some, None, refl, ap, sym, ◌∙◌, arith, inl, inr}
use Rattle.std.specs.Prelude.{Result, Ok, Err, IsOk, OnOk, OnErr, nat_lt}
use Rattle.std.proofs.lemmas.Bool.{ltb-true}
use Rattle.std.specs.Ordering.{is_eq}
use Rattle.ng_base.specs.declared.fault.Memory.{Memory}
use Rattle.ng_base.specs.declared.fault.Memory.TheVariants.{Worn}
use Rattle.std.specs.BTreeMap.{BTreeMap}
use Rattle.ng_base.specs.Order.{path_cmp}
use Rattle.ng_behaviour.specs.Scopes.{Scope, object_at, live_at, children_at, child_path, with_child, dead_under, live_scope, root_of, IsScopeTree}
use Rattle.ng_behaviour.specs.ScopeObjects.{AreAmong}
use Rattle.ng_behaviour.proofs.ScopeTree.{near, grown-length, grown-new, grown-keeps}
use Rattle.ng_behaviour.proofs.Grown.{tree-grows, live-other, live-new, live-fresh}
use Rattle.ng_behaviour.proofs.Dying.{tree-dies, dead-keeps, dead-length, path-tells}
use Rattle.ng_scopes.specs.Answers.{next_number}
use Rattle.ng_scopes.specs.Rows.{IsIndex, Rises, IsSound}

dead-object : (u : List ℕ) (t : List Scope) (s : ℕ) → object_at (dead_under u t) s ≡ object_at t s
dead-object u t s = dead-keeps (λ x. x.object) u t s (λ x. refl)

pub sound-dies : (t : List Scope) (m n : BTreeMap (List ℕ) ℕ) (u : List ℕ) → IsSound t m → IsIndex n (dead_under u t) → IsSound (dead_under u t) n
sound-dies t m n u i k = record {
  tree = tree-dies t u i.tree;
  few = rw (dead-length u t) i.few;
  rises = λ s r h l. rw (dead-object u t s, dead-object u t r) (i.rises s r h (rw (dead-length u t) at l));
  index = k;
}

grown-object : (t : List Scope) (c o r : ℕ) → r < length t → object_at (with_child t c o) r ≡ object_at t r
grown-object t c o r h = grown-keeps (λ x. x.object) t c o r (λ x. refl) h

new-object : (t : List Scope) (c o r : ℕ) → r ≡ length t → object_at (with_child t c o) r ≡ o
new-object t c o r e = ap (λ x. x.object) (grown-new t c o r e)

grown-rises : (t : List Scope) (c o : ℕ) → Rises t → AreAmong o t → Rises (with_child t c o)
grown-rises t c o k a s r h l =
    let m : r < suc (length t) = rw (grown-length t c o) at l in
    elim (near r (length t)) [
      | inl old ↦ rw (grown-object t c o s (omega arith), grown-object t c o r old) (k s r h old)
      | inr new ↦ rw (grown-object t c o s (omega arith), new-object t c o r (omega arith)) (a.below s (omega arith))
    ]

pub grown-index : (t : List Scope) (c o : ℕ) (find new : List ℕ → Option ℕ) → IsScopeTree t → c < length t → ((q : List ℕ) → find q ≡ live_scope t q) → ((q : List ℕ) → new q ≡ cond (live_at t c && is_eq (path_cmp (child_path t c) q)) (Some (length t)) (find q)) → (q : List ℕ) → new q ≡ live_scope (with_child t c o) q
grown-index t c o find new i h k n q = elim (path-tells (child_path t c) q) [
  | inl y ↦ n q ∙ (rw y.0 (there (live_at t c) (find q) (k q ∙ ap (live_scope t) (sym y.1) ∙ live-fresh t c i h)) ∙ sym (ap (live_scope (with_child t c o)) (sym y.1) ∙ live-new t c o i h))
  | inr z ↦ n q ∙ (rw z.0 (elsewhere (live_at t c) (find q)) ∙ (k q ∙ sym (live-other t c o q i h (λ e. z.1 (sym e)))))
]
  where
    there : (b : Bool) (f : Option ℕ) → f ≡ None → cond (b && true) (Some (length t)) f ≡ cond b (Some (length t)) None
    there true f e = refl
    there false f e = e

    elsewhere : (b : Bool) (f : Option ℕ) → cond (b && false) (Some (length t)) f ≡ f
    elsewhere true f = refl
    elsewhere false f = refl

-- what was put into the index for a scope that was not made is taken out again
pub back-index : (t : List Scope) (c : ℕ) (find new back : List ℕ → Option ℕ) → IsScopeTree t → c < length t → ((q : List ℕ) → find q ≡ live_scope t q) → ((q : List ℕ) → new q ≡ cond (live_at t c && is_eq (path_cmp (child_path t c) q)) (Some (length t)) (find q)) → ((q : List ℕ) → back q ≡ cond (is_eq (path_cmp (child_path t c) q)) None (new q)) → (q : List ℕ) → back q ≡ live_scope t q
back-index t c find new back i h k n b q = elim (path-tells (child_path t c) q) [
  | inl y ↦ b q ∙ (rw y.0 refl ∙ sym (ap (live_scope t) (sym y.1) ∙ live-fresh t c i h))
  | inr z ↦ b q ∙ (rw z.0 (n q ∙ (rw z.0 (elsewhere (live_at t c) (find q)) ∙ k q)))
]
  where
    elsewhere : (b : Bool) (f : Option ℕ) → cond (b && false) (Some (length t)) f ≡ f
    elsewhere true f = refl
    elsewhere false f = refl

pub sound-grows : (t : List Scope) (c o : ℕ) (m n : BTreeMap (List ℕ) ℕ) → IsSound t m → c < length t → length t < 2 ^ 32 - 1 → AreAmong o t → IsIndex n (with_child t c o) → IsSound (with_child t c o) n
sound-grows t c o m n i h l a k = record {
  tree = tree-grows t c o i.tree h;
  few = rw (grown-length t c o) (omega arith);
  rises = grown-rises t c o i.rises a;
  index = k;
}

abbrev ok_where : Bool → ℕ → Result ℕ Memory
ok_where b k = cond b (Ok k) (Err Worn)

low-number : (m n k : ℕ) (b : Bool) → nat_lt m n ≡ b → (d : Bool) → IsOk (ok_where (b && d) k) → m < n
low-number m n k true e d h = ltb-true m n e
low-number m n k false e d h = absurd (cc)

pub number-low : (t : List Scope) (c : ℕ) → IsOk (next_number t c) → length t < 2 ^ 32 - 1
number-low t c h = low-number (length t) 4294967295 (length t) (nat_lt (length t) 4294967295) refl (nat_lt (length (children_at t c)) 4294967295) h

-- after a scope was to be added
pub sound-added : {A E : Type 0} (t u : List Scope) (c o : ℕ) (m n : BTreeMap (List ℕ) ℕ) (r : Result A E) → IsSound t m → c < length t → length t < 2 ^ 32 - 1 → AreAmong o t → IsIndex n u → OnOk r (u ≡ with_child t c o) → OnErr r (u ≡ t) → IsSound u n
sound-added t u c o m n (Ok v) i h l a k y e = rw y (sound-grows t c o m n i h l a (λ q. rw y at (k q)))
sound-added t u c o m n (Err f) i h l a k y e = rw e (record { tree = i.tree; few = i.few; rises = i.rises; index = λ q. rw e at (k q) })

pub among-grows : (t : List Scope) (c o k : ℕ) → AreAmong o t → o < k → AreAmong k (with_child t c o)
among-grows t c o k a h = record {
  below = λ s l. let m : s < suc (length t) = rw (grown-length t c o) at l in elim (near s (length t)) [
    | inl old ↦ rw (grown-object t c o s old) (let z = a.below s old in omega arith)
    | inr new ↦ rw (new-object t c o s (omega arith)) h
  ];
}

pub among-more : (t : List Scope) (n k : ℕ) → AreAmong n t → n ≤ k → AreAmong k t
among-more t n k a h = record { below = λ s l. let z = a.below s l in omega arith }

pub ruleset grown = (among-grows, among-more)

-- the root is there
pub tree-root : (t : List Scope) → IsScopeTree t → 0 < length t
tree-root t i = i.root

pub among-root : (o n : ℕ) → o < n → AreAmong n (root_of o)
among-root o n h = record { below = λ s l. only s l }
  where
    only : (s : ℕ) → s < 1 → object_at (root_of o) s < n
    only s l = let q : s ≡ 0 = omega arith in rw q h

pub ruleset sizes = (tree-root, among-root)
