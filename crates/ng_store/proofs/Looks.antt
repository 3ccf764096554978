-- Any count of objects above the object's place is enough for a look-up.
use Rattle.std.proofs.Common.{◌∙◌, ◌≡◌, ◌<◌, ◌^◌, ℕ, zero, suc, Bool, true, false, cond, List, [], ◌∷◌, length, ap, arith, refl, Option, Some, None, subst, sym, bytes_eq, if◌then◌else◌, Bor, option_copied, slice_get}
use Rattle.std.specs.Prelude.{option_and_then}
use Rattle.std.specs.List.{AllByRecursion}
use Rattle.std.specs.Map.{lookup}
use Rattle.std.specs.Option.{IfSome}
use Rattle.ng_base.specs.Objects.{Object, own, own_of, object_at, is_array, index_of, StandsAmong}
use Rattle.ng_base.specs.declared.value.Value.{Value}
use Rattle.ng_language.specs.Objects.{proto_of, or_else_at, look_within, look, IsObjectAt, AreObjects}
use Rattle.ng_store.specs.ObjectOf.{objects_of}
use Rattle.ng_store.specs.declared.stored.Stored.{Stored}
use Rattle.ng_store.proofs.ObjectReads.{object_is}
use Rattle.ng_store.proofs.Sound.{Property}

or_else_at-same : (v : Option Value) (q : Option ℕ) (f g : ℕ → Option Value) → ((p : ℕ) → q ≡ Some p → f p ≡ g p) → or_else_at v q f ≡ or_else_at v q g
or_else_at-same (Some v) q f g h = refl
or_else_at-same None None f g h = refl
or_else_at-same None (Some p) f g h = h p refl

pub earlier : (objects : List Object) (o p : ℕ) → AreObjects objects → o < length objects → proto_of objects o ≡ Some p → p < o
earlier objects o p a h e = subst (λ q. IfSome q (λ r. r < o)) e (object_is objects o h a).earlier

pub look_enough : (objects : List Object) (name : List ℕ) → AreObjects objects → (j k o : ℕ) → o < length objects → o < j → o < k → look_within j objects o name ≡ look_within k objects o name
look_enough objects name h zero k o w a b = absurd (omega arith)
look_enough objects name h (suc j) zero o w a b = absurd (omega arith)
look_enough objects name h (suc j) (suc k) o w a b =
    or_else_at-same (own objects o name) (proto_of objects o) _ _
    (λ p e. let below = earlier objects o p h w e in look_enough objects name h j k p (omega arith) (omega arith) (omega arith))

-- where an object itself hasn't the name, its prototype is asked
pub looks_up : (objects : List Object) (name : List ℕ) (o p : ℕ) → AreObjects objects → o < length objects → own objects o name ≡ None → proto_of objects o ≡ Some p → look objects o name ≡ look objects p name
looks_up objects name o p h w none up =
    let below = earlier objects o p h w up in
    ap (λ v. or_else_at v (proto_of objects o) (λ q. look_within o objects q name)) none
    ∙ (ap (λ q. or_else_at None q (λ q. look_within o objects q name)) up
    ∙ look_enough objects name h o (suc p) p (omega arith) (omega arith) (omega arith))

pub looks_last : (objects : List Object) (name : List ℕ) (o : ℕ) → own objects o name ≡ None → proto_of objects o ≡ None → look objects o name ≡ None
looks_last objects name o none up =
    ap (λ v. or_else_at v (proto_of objects o) (λ q. look_within o objects q name)) none
    ∙ ap (λ q. or_else_at None q (λ q. look_within o objects q name)) up

pub looks_found : (objects : List Object) (name : List ℕ) (o : ℕ) (v : Value) → own objects o name ≡ Some v → look objects o name ≡ Some v
looks_found objects name o v e = ap (λ v. or_else_at v (proto_of objects o) (λ q. look_within o objects q name)) e

some_of : {A : Type 0} (P : A → Type 0) (x y : A) → Some x ≡ Some y → P x → P y
some_of P x y e p = subst P (let f : x ≡ y = cc in f) p

found_among : (P : Value → Type 0) (test : List ℕ → Bool) (es : List Property) (v : Value) → AllByRecursion (λ (p : Property). P p.1) es → lookup test es ≡ Some v → P v
found_among P test [] v a h = absurd (cc)
found_among P test (e ∷ es) v a h = by (test e.0) h (found_among P test es v a.1)
  where
    by : (b : Bool) → cond b (Some e.1) (lookup test es) ≡ Some v → (lookup test es ≡ Some v → P v) → P v
    by true t rest = some_of P e.1 v t a.0
    by false t rest = rest t

item_among : (P : Value → Type 0) (xs : List Value) (i : ℕ) (v : Value) → AllByRecursion P xs → slice_get xs i ≡ Some v → P v
item_among P [] i v a h = absurd (cc)
item_among P (x ∷ xs) zero v a h = some_of P x v h a.0
item_among P (x ∷ xs) (suc i) v a h = item_among P xs i v a.1 h

item_found : (P : Value → Type 0) (xs : List Value) (i : Option ℕ) (v : Value) → AllByRecursion P xs → option_and_then (λ k. slice_get xs k) i ≡ Some v → P v
item_found P xs None v a h = absurd (cc)
item_found P xs (Some i) v a h = item_among P xs i v a h

pub own_stands : (n o : ℕ) (x : Object) (name : List ℕ) (v : Value) → IsObjectAt n o x → own_of x name ≡ Some v → StandsAmong n v
own_stands n o x name v a h = by (is_array x.kind) h
  where
    by : (b : Bool) → (if b then option_and_then (λ i. slice_get x.items i) (index_of name) else lookup (bytes_eq name) x.properties) ≡ Some v → StandsAmong n v
    by true e = item_found (StandsAmong n) x.items (index_of name) v a.items e
    by false e = found_among (StandsAmong n) (bytes_eq name) x.properties v a.properties e

within_stands : (objects : List Object) (name : List ℕ) → AreObjects objects → (k o : ℕ) (v : Value) → o < length objects → look_within k objects o name ≡ Some v → StandsAmong (length objects) v
within_stands objects name a zero o v w h = absurd (cc)
within_stands objects name a (suc k) o v w h =
    by (own objects o name) (proto_of objects o) (λ u e. own_stands (length objects) o (object_at objects o) name u (object_is objects o w a) e)
    (λ p e. let below = earlier objects o p a w e in within_stands objects name a k p v (omega arith)) refl refl h
  where
    by : (u : Option Value) (q : Option ℕ) → ((x : Value) → own objects o name ≡ Some x → StandsAmong (length objects) x) → ((p : ℕ) → proto_of objects o ≡ Some p → look_within k objects p name ≡ Some v → StandsAmong (length objects) v)
        → own objects o name ≡ u → proto_of objects o ≡ q → or_else_at u q (λ p. look_within k objects p name) ≡ Some v → StandsAmong (length objects) v
    by (Some x) q here up e f g = here v (e ∙ g)
    by None None here up e f g = absurd (cc)
    by None (Some p) here up e f g = up p f g

-- a value that is found names an object that stands
pub look_stands : (xs : List Stored) (objects : List Object) (o : ℕ) (name : List ℕ) (r : Option (Bor Value)) → objects_of xs ≡ objects → AreObjects (objects_of xs) → o < length objects → option_copied r ≡ look (objects_of xs) o name → IfSome r (λ v. StandsAmong (length objects) v.now)
look_stands xs objects o name None e a w h = tt
look_stands xs objects o name (Some r) e a w h =
    let n : length objects ≡ length (objects_of xs) = ap length (sym e) in
    let inside : o < length (objects_of xs) = omega arith in
    subst (λ k. StandsAmong k r.now) (sym n) (within_stands (objects_of xs) name a (suc o) o r.now inside (sym h))

abbrev pub IsViewOf : List Stored → List Object → Type 0
IsViewOf xs objects = (objects_of xs ≡ objects) × AreObjects (objects_of xs)

is_object_of : (xs : List Stored) (objects : List Object) (o : ℕ) → IsViewOf xs objects → o < length objects → IsObjectAt (length objects) o (object_at (objects_of xs) o)
is_object_of xs objects o a w =
    let n : length objects ≡ length (objects_of xs) = ap length (sym a.0) in
    let inside : o < length (objects_of xs) = omega arith in
    subst (λ k. IsObjectAt k o (object_at (objects_of xs) o)) (sym n) (object_is (objects_of xs) o inside a.1)

pub few_at : (xs : List Stored) (objects : List Object) (o : ℕ) → IsViewOf xs objects → o < length objects → length (object_at (objects_of xs) o).items < 2 ^ 32
few_at xs objects o a w = (is_object_of xs objects o a w).few

pub item_stands : (xs : List Stored) (objects : List Object) (o i : ℕ) (v : Value) → IsViewOf xs objects → o < length objects → slice_get (object_at (objects_of xs) o).items i ≡ Some v → StandsAmong (length objects) v
item_stands xs objects o i v a w e = item_among (StandsAmong (length objects)) _ i v (is_object_of xs objects o a w).items e

pub own_is_standing : (xs : List Stored) (objects : List Object) (o : ℕ) (name : List ℕ) (r : Option (Bor Value)) → IsViewOf xs objects → o < length objects → option_copied r ≡ own (objects_of xs) o name → IfSome r (λ v. StandsAmong (length objects) v.now)
own_is_standing xs objects o name None a w e = tt
own_is_standing xs objects o name (Some r) a w e = own_stands (length objects) o (object_at (objects_of xs) o) name r.now (is_object_of xs objects o a w) (sym e)
