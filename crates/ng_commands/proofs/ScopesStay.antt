-- What never changes of scopes, where more are made and some die: the path and the object of each. Its children may become more.
use Rattle.std.proofs.Common.{◌≡◌, ◌≤◌, ◌<◌, ℕ, suc, List, [], ◌∷◌, ◌++◌, length, length-append, arith, refl, ap, sym, ◌∙◌, subst, inl, inr}
use Rattle.std.proofs.lemmas.Bool.Decides.{eqb_tells}
use Rattle.ng_behaviour.specs.Scopes.{Scope, path_at, object_at, children_at, child_path, with_child, without_scope}
use Rattle.ng_behaviour.proofs.Dying.{dead-keeps, dead-length}
use Rattle.ng_changes.proofs.ScopePaths.{paths_of}
use Rattle.ng_behaviour.proofs.ScopeTree.{grown-length, grown-new, grown-keeps, grown-children, grown-children_other}

pub record ScopesStay (t u : List Scope) : Type 0 where
  pub more : length t ≤ length u
  pub paths : (s : ℕ) → s < length t → path_at u s ≡ path_at t s
  pub objects : (s : ℕ) → s < length t → object_at u s ≡ object_at t s
  pub children : (s : ℕ) → s < length t → length (children_at t s) ≤ length (children_at u s)

pub scopes_refl : (t : List Scope) → ScopesStay t t
scopes_refl t = record { more = omega arith; paths = λ s h. refl; objects = λ s h. refl; children = λ s h. omega arith }

pub scopes_trans : (t u v : List Scope) → ScopesStay t u → ScopesStay u v → ScopesStay t v
scopes_trans t u v a b =
    let m : length t ≤ length u = a.more in
    let n : length u ≤ length v = b.more in
    let later : (s : ℕ) → s < length t → s < length u = λ s h. omega (arith, h, m) in
    record {
      more = omega arith;
      paths = λ s h. b.paths s (later s h) ∙ a.paths s h;
      objects = λ s h. b.objects s (later s h) ∙ a.objects s h;
      children = λ s h. let j = a.children s h in let k = b.children s (later s h) in omega (arith, j, k);
    }

-- as many scopes with the same paths
pub same_paths : (t u : List Scope) → length u ≡ length t → ((s : ℕ) → s < length t → path_at u s ≡ path_at t s) → paths_of u ≡ paths_of t
same_paths [] [] e each = refl
same_paths [] (y ∷ u) e each = absurd (omega (arith, e))
same_paths (x ∷ t) [] e each = absurd (omega (arith, e))
same_paths (x ∷ t) (y ∷ u) e each =
    ap (λ (p : List ℕ). p ∷ paths_of u) (each 0 (omega arith)) ∙ ap (λ (ps : List (List ℕ)). x.path ∷ ps) (same_paths t u (omega (arith, e)) (λ s lt. each (suc s) (omega (arith, lt))))

-- a scope and those below it die
pub scopes_die : (scope : ℕ) (t : List Scope) → ScopesStay t (without_scope t scope)
scopes_die scope t = record {
  more = let e = dead-length (path_at t scope) t in omega (arith, e);
  paths = λ s h. dead-keeps (λ (c : Scope). c.path) (path_at t scope) t s (λ c. refl);
  objects = λ s h. dead-keeps (λ (c : Scope). c.object) (path_at t scope) t s (λ c. refl);
  children = λ s h. let e = dead-keeps (λ (c : Scope). length c.children) (path_at t scope) t s (λ c. refl) in omega (arith, e);
}

-- a child is made
child_more : (t : List Scope) (c o s : ℕ) → s < length t → length (children_at t s) ≤ length (children_at (with_child t c o) s)
child_more t c o s h = elim (eqb_tells s c) [
  | inl same ↦
      let here : c < length t = subst (λ (k : ℕ). k < length t) same.1 h in
      let e : length (children_at (with_child t c o) c) ≡ length (children_at t c ++ length t ∷ []) = ap (λ (xs : List ℕ). length xs) (grown-children t c o here) in
      subst (λ (k : ℕ). length (children_at t k) ≤ length (children_at (with_child t c o) k)) (sym same.1) (omega (arith, e, length-append (children_at t c) (length t ∷ [])))
  | inr other ↦ let e : length (children_at (with_child t c o) s) ≡ length (children_at t s) = ap (λ (xs : List ℕ). length xs) (grown-children_other t c o s h other.1) in omega (arith, e)
]

pub scopes_grow : (t : List Scope) (c o : ℕ) → ScopesStay t (with_child t c o)
scopes_grow t c o = record {
  more = let e = grown-length t c o in omega (arith, e);
  paths = λ s h. grown-keeps (λ (x : Scope). x.path) t c o s (λ x. refl) h;
  objects = λ s h. grown-keeps (λ (x : Scope). x.object) t c o s (λ x. refl) h;
  children = λ s h. child_more t c o s h;
}

-- it has the next number, a path of its own, and its parent has a child more
pub child_there : (t : List Scope) (c o : ℕ) → length t < length (with_child t c o)
child_there t c o = let e = grown-length t c o in omega (arith, e)

pub child_on : (t : List Scope) (c o : ℕ) → path_at (with_child t c o) (length t) ≡ child_path t c
child_on t c o = ap (λ (x : Scope). x.path) (grown-new t c o (length t) refl)

pub child_counted : (t : List Scope) (c o : ℕ) → c < length t → length (children_at t c) < length (children_at (with_child t c o) c)
child_counted t c o h =
    let e : length (children_at (with_child t c o) c) ≡ length (children_at t c ++ length t ∷ []) = ap (λ (xs : List ℕ). length xs) (grown-children t c o h) in
    omega (arith, e, length-append (children_at t c) (length t ∷ []))
