-- The paths of scopes, which no action takes away or changes.
use Rattle.std.proofs.Common.{◌≡◌, ◌∙◌, ◌<◌, ◌≤◌, ◌+◌, ℕ, zero, suc, Bool, true, false, cond, List, [], ◌∷◌, ◌++◌, length, map, refl, ap, sym, append_assoc, length-append, arith}
use Rattle.std.specs.Prelude.{slice_index_or}
use Rattle.ng_behaviour.specs.Scopes.{Scope, adopting, begins, change_at, child_of, child_path, dead, dead_under, path_at, with_child}

abbrev pub paths_of : List Scope → List (List ℕ)
paths_of t = map (λ (x : Scope). x.path) t

dying_path : (u : List ℕ) (x : Scope) (b : Bool) → (cond b (dead x) x).path ≡ x.path
dying_path u x true = refl
dying_path u x false = refl

pub dead_paths : (u : List ℕ) (t : List Scope) → paths_of (dead_under u t) ≡ paths_of t
dead_paths u [] = refl
dead_paths u (x ∷ t) = ap (λ (p : List ℕ). p ∷ paths_of (dead_under u t)) (dying_path u x (begins u x.path)) ∙ ap (λ (ps : List (List ℕ)). x.path ∷ ps) (dead_paths u t)

path_in : (t : List Scope) (n : ℕ) → path_at t n ≡ slice_index_or (paths_of t) n []
path_in [] n = refl
path_in (x ∷ t) zero = refl
path_in (x ∷ t) (suc n) = path_in t n

path_count : (t : List Scope) → length (paths_of t) ≡ length t
path_count [] = refl
path_count (x ∷ t) = ap suc (path_count t)

pub same_count : (t u : List Scope) → paths_of u ≡ paths_of t → length u ≡ length t
same_count t u e = sym (path_count u) ∙ (ap (λ (ps : List (List ℕ)). length ps) e ∙ path_count t)

-- ---- the scopes are there as before, and maybe more

abbrev pub AreMore : List Scope → List Scope → Type 0
AreMore t u = (more : List (List ℕ)) × (paths_of u ≡ paths_of t ++ more)

append_nil : (ps : List (List ℕ)) → ps ++ [] ≡ ps
append_nil [] = refl
append_nil (p ∷ ps) = ap (λ (qs : List (List ℕ)). p ∷ qs) (append_nil ps)

pub more_same : (t u : List Scope) → paths_of u ≡ paths_of t → AreMore t u
more_same t u e = ([], e ∙ sym (append_nil (paths_of t)))

pub more_then : (t u v : List Scope) → AreMore t u → AreMore u v → AreMore t v
more_then t u v h k = (h.0 ++ k.0, k.1 ∙ (ap (λ (ps : List (List ℕ)). ps ++ k.0) h.1 ∙ append_assoc (paths_of t) h.0 k.0))

index_kept : (ps qs : List (List ℕ)) (n : ℕ) → n < length ps → slice_index_or (ps ++ qs) n [] ≡ slice_index_or ps n []
index_kept [] qs n lt = absurd (omega (arith, lt))
index_kept (p ∷ ps) qs zero lt = refl
index_kept (p ∷ ps) qs (suc n) lt = index_kept ps qs n (omega (arith, lt))

pub more_count : (t u : List Scope) → AreMore t u → length t ≤ length u
more_count t u h =
    let a = path_count t in
    let b = path_count u in
    let c : length (paths_of u) ≡ length (paths_of t) + length h.0 = ap (λ (ps : List (List ℕ)). length ps) h.1 ∙ length-append (paths_of t) h.0 in
    omega (arith, a, b, c)

pub more_path : (t u : List Scope) (n : ℕ) → AreMore t u → n < length t → path_at u n ≡ path_at t n
more_path t u n h lt =
    let a = path_count t in
    path_in u n ∙ (ap (λ (ps : List (List ℕ)). slice_index_or ps n []) h.1 ∙ (index_kept (paths_of t) h.0 n (omega (arith, a, lt)) ∙ sym (path_in t n)))

paths_append : (t u : List Scope) → paths_of (t ++ u) ≡ paths_of t ++ paths_of u
paths_append [] u = refl
paths_append (x ∷ t) u = ap (λ (ps : List (List ℕ)). x.path ∷ ps) (paths_append t u)

paths_changed : (t : List Scope) (c n : ℕ) → paths_of (change_at t c (adopting n)) ≡ paths_of t
paths_changed [] c n = refl
paths_changed (x ∷ t) zero n = refl
paths_changed (x ∷ t) (suc c) n = ap (λ (ps : List (List ℕ)). x.path ∷ ps) (paths_changed t c n)

pub child_more : (t : List Scope) (c o : ℕ) → AreMore t (with_child t c o)
child_more t c o = (
  child_path t c ∷ [],
  paths_append (change_at t c (adopting (length t))) (child_of t c o ∷ []) ∙ ap (λ (ps : List (List ℕ)). ps ++ child_path t c ∷ []) (paths_changed t c (length t)),
)
