-- What asks of a view no more than whether it is made is the same of both views.
use Rattle.std.proofs.Common.{◌≡◌, ◌∙◌, ℕ, Bool, List, refl, ap}
use Rattle.ng_base.specs.Objects.{Object}
use Rattle.ng_base.specs.Views.{ViewTree, ViewTrees, ViewFields, prim, list, rec}
use Rattle.ng_base.specs.declared.name.Oid.{Oid}
use Rattle.ng_base.specs.declared.value.Value.{Value}
use Rattle.ng_base.specs.declared.value.Value.TheVariants as value
use Rattle.ng_language.specs.Operators.{truthy, view_num, term_num, less}
use Rattle.ng_language.specs.Sums.{is_undefined, is_joined}
use Rattle.ng_pure.specs.Showing.{Shows}
use Rattle.ng_pure.proofs.Shown.{Seen}

pub shows_same : {X : Type 0} (n from : ℕ) (now : List Object) (f : ViewTree → X) → ((o : Oid) (ts : ViewTrees) → f (prim (value.Obj o)) ≡ f (list ts)) → ((o : Oid) (fs : ViewFields) → f (prim (value.Obj o)) ≡ f (rec fs)) → (t : ViewTree) (v : Value) → Shows n from now v t → f (prim v) ≡ f t
shows_same n from now f l r (prim w) v s = ap (λ x. f (prim x)) s.0
shows_same n from now f l r (list ts) v s = ap (λ x. f (prim x)) s.2 ∙ l s.0 ts
shows_same n from now f l r (rec fs) v s = ap (λ x. f (prim x)) s.2 ∙ r s.0 fs

-- an answer that does not tell an object from a fresh list or record
pub seen_same : {X : Type 0} (n from : ℕ) (now : List Object) (f : ViewTree → X) → ((o : Oid) (ts : ViewTrees) → f (prim (value.Obj o)) ≡ f (list ts)) → ((o : Oid) (fs : ViewFields) → f (prim (value.Obj o)) ≡ f (rec fs)) → (u t : ViewTree) → Seen n from now u t → f u ≡ f t
seen_same n from now f l r (prim v) t s = shows_same n from now f l r t v s
seen_same n from now f l r (list us) t s = absurd s
seen_same n from now f l r (rec fs) t s = absurd s

pub truthy_same : (n from : ℕ) (now : List Object) (u t : ViewTree) → Seen n from now u t → truthy u ≡ truthy t
truthy_same n from now u t s = seen_same n from now truthy (λ o ts. refl) (λ o fs. refl) u t s

pub num_same : (n from : ℕ) (now : List Object) (u t : ViewTree) → Seen n from now u t → view_num u ≡ view_num t
num_same n from now u t s = seen_same n from now view_num (λ o ts. refl) (λ o fs. refl) u t s

pub term_same : (n from : ℕ) (now : List Object) (u t : ViewTree) → Seen n from now u t → term_num u ≡ term_num t
term_same n from now u t s = seen_same n from now term_num (λ o ts. refl) (λ o fs. refl) u t s

pub undefined_same : (n from : ℕ) (now : List Object) (u t : ViewTree) → Seen n from now u t → is_undefined u ≡ is_undefined t
undefined_same n from now u t s = seen_same n from now is_undefined (λ o ts. refl) (λ o fs. refl) u t s

pub joined_same : (n from : ℕ) (now : List Object) (u t : ViewTree) → Seen n from now u t → is_joined u ≡ is_joined t
joined_same n from now u t s = seen_same n from now is_joined (λ o ts. refl) (λ o fs. refl) u t s

less_list : (b : Bool) (t : ViewTree) (o : Oid) (ts : ViewTrees) → less b t (prim (value.Obj o)) ≡ less b t (list ts)
less_list b (prim (value.Text s)) o ts = refl
less_list b t o ts = refl

less_rec : (b : Bool) (t : ViewTree) (o : Oid) (fs : ViewFields) → less b t (prim (value.Obj o)) ≡ less b t (rec fs)
less_rec b (prim (value.Text s)) o fs = refl
less_rec b t o fs = refl

pub less_same : (n from to : ℕ) (now : List Object) (b : Bool) (u t x y : ViewTree) → Seen n from now u t → Seen n to now x y → less b u x ≡ less b t y
less_same n from to now b u t x y s r =
    seen_same n from now (λ z. less b z x) (λ o ts. refl) (λ o fs. refl) u t s
    ∙ seen_same n to now (λ z. less b t z) (less_list b t) (less_rec b t) x y r
