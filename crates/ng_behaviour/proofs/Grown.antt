-- A tree that grows by a scope is a tree, and the new scope alone is found under its path.
use Rattle.std.proofs.Common.{ℕ, suc, ◌<◌, ◌≡◌, true, cond, List, [], ◌∷◌, ◌++◌, length, Option, Some, None, refl, ap, sym, ◌∙◌, arith, inl, inr}
use Rattle.std.specs.Prelude.{option_and_then, slice_get}
use Rattle.std.proofs.lemmas.Option.{slice_get_past}
use Rattle.std.proofs.lemmas.Bool.Decides.{eqb_tells}
use Rattle.ng_behaviour.specs.Scopes.{Scope, path_at, live_at, children_at, begins, at, child_path, with_child, live_scope, IsScopeTree}
use Rattle.ng_behaviour.proofs.Paths.{begins-before}
use Rattle.ng_behaviour.proofs.ScopeTree.{near, grown-length, grown-new, grown-keeps, grown-children, grown-children_other, scope-past, get-kept, get-last, get-back, down-append, down-path, down-grows, IsNumbered}

-- nothing stands under it yet, nor below it
pub fresh-none : (t : List Scope) (c : ℕ) → IsScopeTree t → c < length t → at t (child_path t c) ≡ None
fresh-none t c i h = down-append t 0 (path_at t c) (length (children_at t c) ∷ []) ∙ rw (i.leads c h, slice_get_past (children_at t c) (length (children_at t c)) (omega arith)) refl

pub begins-rest : (u p : List ℕ) → begins u p ≡ true → (q : List ℕ) × (p ≡ u ++ q)
begins-rest [] p h = (p, refl)
begins-rest (x ∷ u) [] h = absurd (cc)
begins-rest (x ∷ u) (y ∷ p) h = elim (eqb_tells x y) [
  | inl t ↦ let r = begins-rest u p (rw t.0 at h) in (r.0, ap (λ (n : ℕ). n ∷ p) (sym t.1) ∙ ap (λ q. x ∷ q) r.1)
  | inr t ↦ absurd (let m = rw t.0 at h in cc)
]

pub fresh-below : (t : List Scope) (c r : ℕ) → IsScopeTree t → c < length t → r < length t → begins (child_path t c) (path_at t r) ≡ true → ⊥
fresh-below t c r i h l b =
    let q = begins-rest (child_path t c) (path_at t r) b in
    let e : at t (child_path t c ++ q.0) ≡ Some r = ap (at t) (sym q.1) ∙ i.leads r l in
    let n : at t (child_path t c ++ q.0) ≡ None = down-append t 0 (child_path t c) q.0 ∙ rw (fresh-none t c i h) refl in
    cc

grows : (t : List Scope) (c o : ℕ) → c < length t → (s k d : ℕ) → slice_get (children_at t s) k ≡ Some d → slice_get (children_at (with_child t c o) s) k ≡ Some d
grows t c o h s k d e = elim (near s (length t)) [
  | inl l ↦ elim (eqb_tells s c) [
    | inl q ↦ rw (q.1, grown-children t c o h) (get-kept (children_at t c) (length t) d k (rw q.1 at e))
    | inr q ↦ rw (grown-children_other t c o s l q.1) e
  ]
  | inr g ↦ absurd (let m : slice_get [] k ≡ Some d = ap (λ x. slice_get x.children k) (sym (scope-past t s g)) ∙ e in cc)
]

grown-path : (t : List Scope) (c o r : ℕ) → r < length t → path_at (with_child t c o) r ≡ path_at t r
grown-path t c o r h = grown-keeps (λ x. x.path) t c o r (λ x. refl) h

grown-live : (t : List Scope) (c o r : ℕ) → r < length t → live_at (with_child t c o) r ≡ live_at t r
grown-live t c o r h = grown-keeps (λ x. x.live) t c o r (λ x. refl) h

new-path : (t : List Scope) (c o s : ℕ) → s ≡ length t → path_at (with_child t c o) s ≡ child_path t c
new-path t c o s e = ap (λ x. x.path) (grown-new t c o s e)

new-live : (t : List Scope) (c o s : ℕ) → s ≡ length t → live_at (with_child t c o) s ≡ live_at t c
new-live t c o s e = ap (λ x. x.live) (grown-new t c o s e)

-- a path that led somewhere leads there still
pub grown-at : (t : List Scope) (c o : ℕ) (p : List ℕ) (s : ℕ) → c < length t → at t p ≡ Some s → at (with_child t c o) p ≡ Some s
grown-at t c o p s h e = down-grows t (with_child t c o) (grows t c o h) 0 p s e

pub grown-at_new : (t : List Scope) (c o : ℕ) → IsScopeTree t → c < length t → at (with_child t c o) (child_path t c) ≡ Some (length t)
grown-at_new t c o i h =
    down-append (with_child t c o) 0 (path_at t c) (length (children_at t c) ∷ [])
    ∙ rw (grown-at t c o (path_at t c) c h (i.leads c h), grown-children t c o h, get-last (children_at t c) (length t)) refl

grown-numbered : (t : List Scope) (c o : ℕ) → IsScopeTree t → c < length t → IsNumbered (with_child t c o)
grown-numbered t c o i h s k d e = elim (near s (length t)) [
  | inl l ↦ elim (eqb_tells s c) [
    | inl q ↦ elim (get-back (children_at t c) (length t) d k (rw (q.1, grown-children t c o h) at e)) [
      | inl old ↦
          let a = i.numbered c k d old in
          (let z : d < length t = a.0 in rw (grown-length t c o) (omega arith), grown-path t c o d a.0 ∙ a.1 ∙ ap (λ w. w ++ k ∷ []) (ap (path_at t) (sym q.1) ∙ sym (grown-path t c o s l)))
      | inr new ↦
          (rw (grown-length t c o) (let z : d ≡ length t = new.1 in omega arith), ap (λ x. x.path) (grown-new t c o d new.1) ∙ ap (λ (n : ℕ). path_at t c ++ n ∷ []) (sym new.0) ∙ ap (λ w. w ++ k ∷ []) (ap (path_at t) (sym q.1) ∙ sym (grown-path t c o s l)))
    ]
    | inr q ↦
        let a = i.numbered s k d (rw (grown-children_other t c o s l q.1) at e) in
        (let z : d < length t = a.0 in rw (grown-length t c o) (omega arith), grown-path t c o d a.0 ∙ a.1 ∙ ap (λ w. w ++ k ∷ []) (sym (grown-path t c o s l)))
  ]
  | inr g ↦ elim (eqb_tells s (length t)) [
    | inl q ↦ absurd (let m : slice_get [] k ≡ Some d = ap (λ x. slice_get x.children k) (sym (grown-new t c o s q.1)) ∙ e in cc)
    | inr q ↦ absurd (let m : slice_get [] k ≡ Some d = ap (λ x. slice_get x.children k) (sym (scope-past (with_child t c o) s (rw (grown-length t c o) (omega (arith, q.1))))) ∙ e in cc)
  ]
]

grown-leads : (t : List Scope) (c o : ℕ) → IsScopeTree t → c < length t → (s : ℕ) → s < length (with_child t c o) → at (with_child t c o) (path_at (with_child t c o) s) ≡ Some s
grown-leads t c o i h s l = elim (near s (length t)) [
  | inl m ↦ rw (grown-path t c o s m) (grown-at t c o (path_at t s) s h (i.leads s m))
  | inr g ↦
      let q : s ≡ length t = (let z : s < suc (length t) = rw (grown-length t c o) at l in omega arith) in
      ap (at (with_child t c o)) (ap (λ x. x.path) (grown-new t c o s q)) ∙ grown-at_new t c o i h ∙ ap Some (sym q)
]

grown-lively : (t : List Scope) (c o : ℕ) → IsScopeTree t → c < length t → (s r : ℕ) → s < length (with_child t c o) → r < length (with_child t c o) → begins (path_at (with_child t c o) s) (path_at (with_child t c o) r) ≡ true → live_at (with_child t c o) r ≡ true → live_at (with_child t c o) s ≡ true
grown-lively t c o i h s r l m b v =
    let x : s < suc (length t) = rw (grown-length t c o) at l in
    let y : r < suc (length t) = rw (grown-length t c o) at m in
    elim (near s (length t)) [
      | inl s-old ↦ elim (near r (length t)) [
        | inl r-old ↦ rw (grown-live t c o s s-old) (i.lively s r s-old r-old (rw (grown-path t c o s s-old, grown-path t c o r r-old) at b) (rw (grown-live t c o r r-old) at v))
        | inr r-new ↦
            let q : r ≡ length t = omega arith in
            let w : begins (path_at t s) (child_path t c) ≡ true =
            ap (begins (path_at t s)) (sym (new-path t c o r q)) ∙ ap (λ u. begins u (path_at (with_child t c o) r)) (sym (grown-path t c o s s-old)) ∙ b in
            let z : live_at t c ≡ true = sym (new-live t c o r q) ∙ v in
            rw (grown-live t c o s s-old) (elim (begins-before (path_at t s) (path_at t c) (length (children_at t c)) w) [
              | inl up ↦ i.lively s c s-old h up z
              | inr same ↦ absurd (let e : at t (child_path t c) ≡ Some s = ap (at t) (sym same) ∙ i.leads s s-old in let n = fresh-none t c i h in cc)
            ])
      ]
      | inr s-new ↦
          let p : s ≡ length t = omega arith in
          elim (near r (length t)) [
            | inl r-old ↦ absurd (fresh-below t c r i h r-old (ap (begins (child_path t c)) (sym (grown-path t c o r r-old)) ∙ ap (λ u. begins u (path_at (with_child t c o) r)) (sym (new-path t c o s p)) ∙ b))
            | inr r-new ↦ let q : r ≡ s = omega arith in ap (live_at (with_child t c o)) (sym q) ∙ v
          ]
    ]

pub tree-grows : (t : List Scope) (c o : ℕ) → IsScopeTree t → c < length t → IsScopeTree (with_child t c o)
tree-grows t c o i h = record {
  root = rw (grown-length t c o) (omega arith);
  top = grown-path t c o 0 i.root ∙ i.top;
  leads = grown-leads t c o i h;
  numbered = grown-numbered t c o i h;
  lively = grown-lively t c o i h;
}

path-none : (t : List Scope) (c o : ℕ) (p : List ℕ) → IsScopeTree t → c < length t → (p ≡ child_path t c → ⊥) → (w : Option ℕ) → at (with_child t c o) p ≡ w → at t p ≡ None → at (with_child t c o) p ≡ None
path-none t c o p i h n None e f = e
path-none t c o p i h n (Some r) e f =
    let j = tree-grows t c o i h in
    let a = down-path (with_child t c o) j.numbered 0 p r j.root e in
    let same : path_at (with_child t c o) r ≡ p = a.1 ∙ ap (λ q. q ++ p) j.top in
    elim (near r (length t)) [
      | inl l ↦ absurd (let z : at t p ≡ Some r = ap (at t) (sym same ∙ grown-path t c o r l) ∙ i.leads r l in cc)
      | inr g ↦
          let q : r ≡ length t = (let y : r < suc (length t) = rw (grown-length t c o) at a.0 in omega arith) in
          absurd (n (sym same ∙ ap (λ x. x.path) (grown-new t c o r q)))
    ]

path-other : (t : List Scope) (c o : ℕ) (p : List ℕ) → IsScopeTree t → c < length t → (p ≡ child_path t c → ⊥) → (w : Option ℕ) → at t p ≡ w → at (with_child t c o) p ≡ at t p
path-other t c o p i h n None e = path-none t c o p i h n (at (with_child t c o) p) refl e ∙ sym e
path-other t c o p i h n (Some s) e = grown-at t c o p s h e ∙ sym e

live-kept : (t : List Scope) (c o : ℕ) (p : List ℕ) → IsScopeTree t → c < length t → (w : Option ℕ) → at t p ≡ w → option_and_then (λ s. cond (live_at (with_child t c o) s) (Some s) None) w ≡ option_and_then (λ s. cond (live_at t s) (Some s) None) w
live-kept t c o p i h None e = refl
live-kept t c o p i h (Some s) e = let a = down-path t i.numbered 0 p s i.root e in rw (grown-live t c o s a.0) refl

-- the live scopes of all other paths are as before
pub live-other : (t : List Scope) (c o : ℕ) (p : List ℕ) → IsScopeTree t → c < length t → (p ≡ child_path t c → ⊥) → live_scope (with_child t c o) p ≡ live_scope t p
live-other t c o p i h n = rw (path-other t c o p i h n (at t p) refl) (live-kept t c o p i h (at t p) refl)

pub live-new : (t : List Scope) (c o : ℕ) → IsScopeTree t → c < length t → live_scope (with_child t c o) (child_path t c) ≡ cond (live_at t c) (Some (length t)) None
live-new t c o i h = rw (grown-at_new t c o i h) (ap (λ b. cond b (Some (length t)) None) (new-live t c o (length t) refl))

pub live-fresh : (t : List Scope) (c : ℕ) → IsScopeTree t → c < length t → live_scope t (child_path t c) ≡ None
live-fresh t c i h = rw (fresh-none t c i h) refl
