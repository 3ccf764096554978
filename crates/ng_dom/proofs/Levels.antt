-- Places among the nodes that are printed one beside another.
use Rattle.std.proofs.Common.{◌≡◌, ℕ, zero, suc, Bool, true, false, List, [], ◌∷◌, ◌++◌, Option, refl, ap, ◌∙◌, sym, cond, append_assoc}
use Rattle.ng_dom.specs.Nodes.{NamedNode, NamedForest, nothing_named, named_then, name_of}
use Rattle.ng_dom.specs.Walks.{named_followed}
use Rattle.ng_dom.specs.Printed.{level_node, level, is_it, seek}
use Rattle.ng_dom.specs.declared.seeking.Sought.TheVariants.{Found, Left}

pub level-followed : (f g : NamedForest) → level (named_followed f g) ≡ level f ++ level g
level-followed nothing_named g = refl
level-followed (named_then x f) g = ap (λ (ys : List NamedNode). level_node x ++ ys) (level-followed f g) ∙ sym (append_assoc (level_node x) (level f) (level g))

found_by : (b : Bool) (o : Option ℕ) (j : ℕ) (x : NamedNode) (xs ys : List NamedNode) (m i : ℕ) → (seek o j xs ≡ Found m i → seek o j (xs ++ ys) ≡ Found m i)
    → cond b (Found (name_of x) (suc j)) (seek o j xs) ≡ Found m i → cond b (Found (name_of x) (suc j)) (seek o j (xs ++ ys)) ≡ Found m i
found_by true o j x xs ys m i h e = e
found_by false o j x xs ys m i h e = h e

pub seek-found : (o : Option ℕ) (j : ℕ) (xs ys : List NamedNode) (m i : ℕ) → seek o j xs ≡ Found m i → seek o j (xs ++ ys) ≡ Found m i
seek-found o j [] ys m i e = absurd (cc)
seek-found o zero (x ∷ xs) ys m i e = e
seek-found o (suc j) (x ∷ xs) ys m i e = found_by (is_it o (name_of x)) o j x xs ys m i (seek-found o j xs ys m i) e

passed_by : (b : Bool) (o : Option ℕ) (j : ℕ) (x : NamedNode) (xs ys : List NamedNode) (i : ℕ) → (seek o j xs ≡ Left i → seek o j (xs ++ ys) ≡ seek o i ys)
    → cond b (Found (name_of x) (suc j)) (seek o j xs) ≡ Left i → cond b (Found (name_of x) (suc j)) (seek o j (xs ++ ys)) ≡ seek o i ys
passed_by true o j x xs ys i h e = absurd (cc)
passed_by false o j x xs ys i h e = h e

pub seek-passed : (o : Option ℕ) (j : ℕ) (xs ys : List NamedNode) (i : ℕ) → seek o j xs ≡ Left i → seek o j (xs ++ ys) ≡ seek o i ys
seek-passed o j [] ys i e = let one : j ≡ i = cc in ap (λ (k : ℕ). seek o k ys) one
seek-passed o zero (x ∷ xs) ys i e = absurd (cc)
seek-passed o (suc j) (x ∷ xs) ys i e = passed_by (is_it o (name_of x)) o j x xs ys i (seek-passed o j xs ys i) e

pub ruleset seek_steps = (level-followed, seek-found, seek-passed)
