-- Reading what is linked: what is read off by one word is related to what is read off by another, where the words are.
use Rattle.std.proofs.Common.{ℕ, Bool, true, false, cond, List, [], ◌∷◌, map}
use Rattle.std.specs.List.{AllByRecursion}
use Rattle.ng_instances.specs.Instances.{Body, OutletState, Linked, Instances, is_path, read_bodies, read}

-- lists whose items are related one by one
abbrev pub Alike : {A B : Type 0} → (A → B → Type 0) → List A → List B → Type 0
Alike R [] [] = Unit {0}
Alike R [] (y ∷ ys) = ⊥
Alike R (x ∷ xs) [] = ⊥
Alike R (x ∷ xs) (y ∷ ys) = R x y × Alike R xs ys

module _ {A B : Type 0} (R : A → B → Type 0) (f : List ℕ → A) (g : List ℕ → B) (all : (p : List ℕ) → R (f p) (g p)) where
  paths_alike : (bs : List Body) → Alike R (map (λ (b : Body). f b.path) bs) (map (λ (b : Body). g b.path) bs)
  paths_alike [] = tt
  paths_alike (b ∷ bs) = (all b.path, paths_alike bs)

  bodies_alike : (os : List OutletState) → Alike (Alike R) (read_bodies f os) (read_bodies g os)
  bodies_alike [] = tt
  bodies_alike (o ∷ os) = (paths_alike o.bodies, bodies_alike os)

module _ {A B : Type 0} (R : A → B → Type 0) (none : A) (other : B) (join : Linked → List (List A) → A) (joined : Linked → List (List B) → B) (P : List ℕ → Linked → Type 0)
    (base : R none other) (step : (p : List ℕ) (l : Linked) (xs : List (List A)) (ys : List (List B)) → P p l → Alike (Alike R) xs ys → R (join l xs) (joined l ys)) where
  pub read_alike : (is : Instances) → AllByRecursion (λ (e : List ℕ × Linked). P e.0 e.1) is → (p : List ℕ) → R (read none join is p) (read other joined is p)
  read_alike [] all p = base
  read_alike (e ∷ es) all p = by_path (is_path p e.0) (read_alike es all.1)
    where
      by_path : (b : Bool) → ((q : List ℕ) → R (read none join es q) (read other joined es q))
          → R (cond b (join e.1 (read_bodies (read none join es) e.1.page.outlets)) (read none join es p)) (cond b (joined e.1 (read_bodies (read other joined es) e.1.page.outlets)) (read other joined es p))
      by_path true more = step e.0 e.1 (read_bodies (read none join es) e.1.page.outlets) (read_bodies (read other joined es) e.1.page.outlets) all.0 (bodies_alike R (read none join es) (read other joined es) more e.1.page.outlets)
      by_path false more = more p
