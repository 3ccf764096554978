-- Items are ordered as the views that they show are: by members at paths of names, which are no indices.
use Rattle.std.proofs.Common.{◌≡◌, ◌∙◌, ◌&&◌, ◌==◌, ℕ, Bool, true, false, List, [], ◌∷◌, ◌++◌, length, refl, sym, ap, subst, arith, Option, Some, None, bytes_eq, if◌then◌else◌, true≢false, slice_get, Ordering}
use Rattle.std.specs.Prelude.{Result, Ok, Err, codes, option_map, option_and_then}
use Rattle.std.specs.List.{list_all, AllByRecursion}
use Rattle.std.specs.Map.{lookup}
use Rattle.std.specs.Ordering.{on, is_lt, ordering_then}
use Rattle.std.proofs.lemmas.Bool.Decides.{nat_tests}
use Rattle.ng_base.specs.Meets.{◌>>=◌}
use Rattle.std.specs.Char.{is_ascii_digit}
use Rattle.ng_base.specs.Objects.{Object, object_at, is_array, own_of, index_of, spelled, only_zero, StandsAmong}
use Rattle.ng_base.specs.Views.{ViewTree, ViewFields, prim, list, rec, no_fields, field_then, views_list, views_from, fields_list}
use Rattle.ng_base.specs.declared.value.Value.{Value}
use Rattle.ng_base.specs.declared.value.Value.TheVariants as value
use Rattle.ng_base.specs.declared.fault.Fault.{Fault}
use Rattle.ng_base.specs.declared.fault.Fault.TheVariants.{Syntax}
use Rattle.ng_language.specs.Letters.{begins_name}
use Rattle.ng_language.specs.Objects.{look, look_within, or_else_at}
use Rattle.ng_language.specs.Operators.{truthy}
use Rattle.ng_filters.specs.Ordering.{is_name, parts_in, path_in, with_path, predicate_in, predicate_of, predicates_from, only_predicate, listed_predicates, predicates_by, predicates, key_of, key_cmp, turned, differ, key_at, by_predicate, by_predicates, put_in, in_order, is_before, ordered_by, ordered}
use Rattle.ng_filters.specs.Parts.{shape_of, shape_of_object, items, property, length_of, length_or, or_undefined, whole_number, member, member_at}
use Rattle.ng_pure.specs.Showing.{NamesShow}
use Rattle.ng_pure.proofs.Shown.{Grown, Seen, AllBy, AllSeen, OptionBy}
use Rattle.ng_pure.proofs.Alike.{seen_same, truthy_same}
use Rattle.ng_pure.proofs.Looked.{OptionStands, look_looked}
use Rattle.ng_pure.proofs.Members.{values_length}
use Rattle.ng_pure.proofs.Methods.{Given, GivenResult, given_list, given_seen}
use Rattle.ng_pure.proofs.Shown.{items_seen}
use Rattle.ng_pure.proofs.Filters.{shape_same, items_shown, of_kind}

-- a name that is asked of a list is no index
abbrev pub Fits : List ℕ → ViewTree → Type 0
Fits name (list ts) = index_of name ≡ None
Fits name t = Unit {0}

mapped_seen : (n from : ℕ) (now : List Object) (a b : Option Value) → a ≡ b → OptionStands n b → OptionBy (Seen n from now) (option_map prim a) (option_map prim b)
mapped_seen n from now a None e s = subst (λ x. OptionBy (Seen n from now) (option_map prim x) None) (sym e) tt
mapped_seen n from now a (Some v) e s = subst (λ x. OptionBy (Seen n from now) (option_map prim x) (Some (prim v))) (sym e) (refl, s)

no_item : (o : ℕ) (now : List Object) (vs : List Value) (name : List ℕ) (go : ℕ → Option Value) → index_of name ≡ None → or_else_at (option_and_then (λ k. slice_get vs k) (index_of name)) None go ≡ None
no_item o now vs name go e = ap (λ i. or_else_at (option_and_then (λ k. slice_get vs k) i) None go) e

named_found : (n from : ℕ) (now : List Object) (name : List ℕ) (ps : List (List ℕ × Value)) (fs : ViewFields) → NamesShow n from now ps fs → OptionBy (Seen n from now) (option_map prim (lookup (bytes_eq name) ps)) (lookup (bytes_eq name) (fields_list fs))
named_found n from now name [] no_fields s = tt
named_found n from now name [] (field_then m t fs) s = absurd s
named_found n from now name (p ∷ ps) no_fields s = absurd s
named_found n from now name (p ∷ ps) (field_then m t fs) s =
    subst (λ k. OptionBy (Seen n from now) (option_map prim (lookup (bytes_eq name) (p ∷ ps))) (lookup (bytes_eq name) ((k, t) ∷ fields_list fs))) s.0 (by (bytes_eq name p.0) (named_found n from now name ps fs s.2))
  where
    by : (b : Bool) → OptionBy (Seen n from now) (option_map prim (lookup (bytes_eq name) ps)) (lookup (bytes_eq name) (fields_list fs)) → OptionBy (Seen n from now) (option_map prim (if b then Some p.1 else lookup (bytes_eq name) ps)) (if b then Some t else lookup (bytes_eq name) (fields_list fs))
    by true rest = s.1
    by false rest = rest

own_first : (u : Option Value) (go : ℕ → Option Value) → or_else_at u None go ≡ u
own_first None go = refl
own_first (Some v) go = refl

pub property_seen : (from : ℕ) (before now : List Object) (name : List ℕ) → Grown before now → (u t : ViewTree) → Fits name t → Seen (length before) from now u t → OptionBy (Seen (length before) from now) (property now u name) (property before t name)
property_seen from before now name g (prim v) (prim w) f s = subst (λ x. OptionBy (Seen (length before) from now) (property now (prim x) name) (property before (prim w) name)) (sym s.0) (by w s.1)
  where
    by : (w : Value) → StandsAmong (length before) w → OptionBy (Seen (length before) from now) (property now (prim w) name) (property before (prim w) name)
    by (value.Obj o) h = let l = look_looked before now name o.0 g h in mapped_seen (length before) from now (look now o.0 name) (look before o.0 name) l.same l.stands
    by w h = tt
property_seen from before now name g (prim v) (list ts) f s =
    subst (λ x. OptionBy (Seen (length before) from now) (property now (prim x) name) None) (sym s.2)
    (subst (λ (y : Object). OptionBy (Seen (length before) from now) (option_map prim (or_else_at (own_of y name) y.proto (λ p. look_within s.0.0 now p name))) None) (sym s.5)
    (subst (λ r. OptionBy (Seen (length before) from now) (option_map prim r) None) (sym (no_item s.0.0 now s.1 name (λ p. look_within s.0.0 now p name) f)) tt))
property_seen from before now name g (prim v) (rec fs) f s =
    subst (λ x. OptionBy (Seen (length before) from now) (property now (prim x) name) (lookup (bytes_eq name) (fields_list fs))) (sym s.2)
    (subst (λ (y : Object). OptionBy (Seen (length before) from now) (option_map prim (or_else_at (own_of y name) y.proto (λ p. look_within s.0.0 now p name))) (lookup (bytes_eq name) (fields_list fs))) (sym s.5)
    (subst (λ r. OptionBy (Seen (length before) from now) (option_map prim r) (lookup (bytes_eq name) (fields_list fs))) (sym (own_first (lookup (bytes_eq name) s.1) (λ p. look_within s.0.0 now p name)))
    (named_found (length before) from now name s.1 fs s.7)))
property_seen from before now name g (list us) t f s = absurd s
property_seen from before now name g (rec fs) t f s = absurd s

length_same : (from : ℕ) (before now : List Object) → Grown before now → (u t : ViewTree) → Seen (length before) from now u t → length_of now u ≡ length_of before t
length_same from before now g (prim v) (prim w) s = ap (λ x. length_of now (prim x)) s.0 ∙ by w s.1
  where
    by : (w : Value) → StandsAmong (length before) w → length_of now (prim w) ≡ length_of before (prim w)
    by (value.Obj o) h = ap (λ (x : Object). if is_array x.kind then Some (length x.items) else None) (g.unchanged o.0 h)
    by w h = refl
length_same from before now g (prim v) (list ts) s =
    ap (λ x. length_of now (prim x)) s.2 ∙ (ap (λ (x : Object). if is_array x.kind then Some (length x.items) else None) s.5
    ∙ ap Some (values_length (length before) from now s.1 (views_list ts) (items_seen (length before) from now ts s.1 s.6)))
length_same from before now g (prim v) (rec fs) s = ap (λ x. length_of now (prim x)) s.2 ∙ ap (λ (x : Object). if is_array x.kind then Some (length x.items) else None) s.5
length_same from before now g (list us) t s = absurd s
length_same from before now g (rec fs) t s = absurd s

length_seen : (n from : ℕ) (now : List Object) (a b : Option ℕ) (u t : ViewTree) → a ≡ b → Seen n from now u t → Seen n from now (length_or a u) (length_or b t)
length_seen n from now a None u t e s = subst (λ x. Seen n from now (length_or x u) t) (sym e) s
length_seen n from now a (Some k) u t e s = subst (λ x. Seen n from now (length_or x u) (whole_number k)) (sym e) (refl, tt)

found_or : (n from : ℕ) (now : List Object) (a b : Option ViewTree) → OptionBy (Seen n from now) a b → Seen n from now (or_undefined a) (or_undefined b)
found_or n from now None None s = (refl, tt)
found_or n from now None (Some b) s = absurd s
found_or n from now (Some a) None s = absurd s
found_or n from now (Some a) (Some b) s = s

-- a member, as filters read it
pub part_member_seen : (from : ℕ) (before now : List Object) (name : List ℕ) → Grown before now → (u t : ViewTree) → Fits name t → Seen (length before) from now u t → Seen (length before) from now (member now u name) (member before t name)
part_member_seen from before now name g u t f s = by (bytes_eq name (codes "length"))
  where
    found : Seen (length before) from now (or_undefined (property now u name)) (or_undefined (property before t name))
    found = found_or (length before) from now (property now u name) (property before t name) (property_seen from before now name g u t f s)

    by : (b : Bool) → Seen (length before) from now (if b then length_or (length_of now u) (or_undefined (property now u name)) else or_undefined (property now u name)) (if b then length_or (length_of before t) (or_undefined (property before t name)) else or_undefined (property before t name))
    by true = length_seen (length before) from now (length_of now u) (length_of before t) (or_undefined (property now u name)) (or_undefined (property before t name)) (length_same from before now g u t s) found
    by false = found

fits : (name : List ℕ) (t : ViewTree) → index_of name ≡ None → Fits name t
fits name (list ts) e = e
fits name (prim v) e = tt
fits name (rec fs) e = tt

abbrev AreNames : List (List ℕ) → Type 0
AreNames path = AllByRecursion (λ name. index_of name ≡ None) path

path_seen : (from : ℕ) (before now : List Object) → Grown before now → (path : List (List ℕ)) → AreNames path → (u t : ViewTree) → Seen (length before) from now u t → Seen (length before) from now (member_at now u path) (member_at before t path)
path_seen from before now g [] a u t s = s
path_seen from before now g (name ∷ path) a u t s = path_seen from before now g path a.1 (member now u name) (member before t name) (part_member_seen from before now name g u t (fits name t a.0) s)

key_same : (n from : ℕ) (now : List Object) (u t : ViewTree) → Seen n from now u t → key_of u ≡ key_of t
key_same n from now u t s = seen_same n from now key_of (λ o ts. refl) (λ o fs. refl) u t s

-- names begin with no digit
no_digit : (c : ℕ) → begins_name c ≡ true → is_ascii_digit c ≡ false
no_digit c h = by (is_ascii_digit c) refl
  where
    by : (b : Bool) → is_ascii_digit c ≡ b → is_ascii_digit c ≡ false
    by false e = e
    by true e = absurd (grind (arith, nat_tests, h, e))

first_of : (a b : Bool) → (a && b) ≡ true → a ≡ true
first_of true b h = refl
first_of false b h = h

name_is_none : (name : List ℕ) → is_name name ≡ true → index_of name ≡ None
name_is_none [] h = absurd (true≢false (sym h))
name_is_none (c ∷ cs) h =
    let apart : is_ascii_digit c ≡ false = no_digit c (first_of (begins_name c) _ h) in
    by (c == 48) refl apart
  where
    by : (b : Bool) → (c == 48) ≡ b → is_ascii_digit c ≡ false → (if b then only_zero cs else spelled 0 (c ∷ cs)) ≡ None
    by true e d = absurd (grind (arith, nat_tests, e, d))
    by false e d = rw d refl

all_names : (path : List (List ℕ)) → list_all is_name path ≡ true → AreNames path
all_names [] h = tt
all_names (name ∷ path) h = (name_is_none name (first_of (is_name name) (list_all is_name path) h), all_names path (second_of (is_name name) (list_all is_name path) h))
  where
    second_of : (a b : Bool) → (a && b) ≡ true → b ≡ true
    second_of true b h = h
    second_of false b h = absurd (true≢false (sym h))

-- what is asked of a fresh list by a predicate stands at a path of names
parted_names : (parts path : List (List ℕ)) (b : Bool) → list_all is_name parts ≡ b → (let r : Result (List (List ℕ)) Fault = if b then Ok parts else Err Syntax in r) ≡ Ok path → AreNames path
parted_names parts path true e h = let same : parts ≡ path = cc in subst AreNames same (all_names parts e)
parted_names parts path false e h = absurd (cc)

path_names : (s : List ℕ) (path : List (List ℕ)) → path_in s ≡ Ok path → AreNames path
path_names [] path h = let same : [] ≡ path = cc in subst AreNames same tt
path_names (c ∷ cs) path h = parted_names (parts_in [] (c ∷ cs)) path (list_all is_name (parts_in [] (c ∷ cs))) refl h

then_ok : {A B : Type 0} (r : Result A Fault) (f : A → Result B Fault) (P : B → Type 0) → ((a : A) → r ≡ Ok a → (b : B) → f a ≡ Ok b → P b) → (b : B) → (r >>= f) ≡ Ok b → P b
then_ok (Ok a) f P h b e = h a refl b e
then_ok (Err d) f P h b e = absurd (cc)

ok_is : {A : Type 0} (P : A → Type 0) (a b : A) → (let r : Result A Fault = Ok a in r) ≡ Ok b → P a → P b
ok_is P a b e p = subst P (let f : a ≡ b = cc in f) p

with_names : (b : Bool) (s : List ℕ) (p : _) → with_path b s ≡ Ok p → AreNames p.path
with_names b s p e = then_ok (path_in s) (λ path. Ok (record { falling = b; path = path })) (λ q. AreNames q.path) (λ path h q f. ok_is (λ x. AreNames x.path) (record { falling = b; path = path }) q f (path_names s path h)) p e

predicate_in_names : (s : List ℕ) (p : _) → predicate_in s ≡ Ok p → AreNames p.path
predicate_in_names [] p e = with_names false [] p e
predicate_in_names (c ∷ cs) p e = by (c == 43) (c == 45) e
  where
    by : (a b : Bool) → (if a then with_path false cs else (if b then with_path true cs else with_path false (c ∷ cs))) ≡ Ok p → AreNames p.path
    by true b h = with_names false cs p h
    by false true h = with_names true cs p h
    by false false h = with_names false (c ∷ cs) p h

predicate_names : (t : ViewTree) (p : _) → predicate_of t ≡ Ok p → AreNames p.path
predicate_names (prim (value.Text s)) p e = predicate_in_names s p e
predicate_names t p e = with_names false [] p e

-- each of a list leads along names
abbrev EachPath : {P : Type 0} → List P → (P → List (List ℕ)) → Type 0
EachPath [] f = Unit {0}
EachPath (p ∷ ps) f = AreNames (f p) × EachPath ps f

each_more : {P : Type 0} (ps : List P) (f : P → List (List ℕ)) (p : P) → EachPath ps f → AreNames (f p) → EachPath (ps ++ p ∷ []) f
each_more [] f p a h = (h, tt)
each_more (q ∷ ps) f p a h = (a.0, each_more ps f p a.1 h)

from_names : (us : List ViewTree) (done ps : _) → predicates_from done us ≡ Ok ps → EachPath done (λ p. p.path) → EachPath ps (λ p. p.path)
from_names [] done ps e a = ok_is (λ x. EachPath x (λ p. p.path)) done ps e a
from_names (u ∷ us) done ps e a =
    then_ok (predicate_of u) (λ p. predicates_from (done ++ p ∷ []) us) (λ x. EachPath x (λ p. p.path))
    (λ p h qs f. from_names us (done ++ p ∷ []) qs f (each_more done (λ p. p.path) p a (predicate_names u p h))) ps e

only_names : (t : ViewTree) (ps : _) → only_predicate t ≡ Ok ps → EachPath ps (λ p. p.path)
only_names t ps e =
    then_ok (predicate_of t) (λ p. Ok (p ∷ [])) (λ x. EachPath x (λ p. p.path)) (λ p h qs f. ok_is (λ x. EachPath x (λ p. p.path)) (p ∷ []) qs f (predicate_names t p h, tt)) ps e

listed_names : (t : ViewTree) (us : List ViewTree) (ps : _) → listed_predicates t us ≡ Ok ps → EachPath ps (λ p. p.path)
listed_names t [] ps e = only_names t ps e
listed_names t (u ∷ us) ps e = from_names (u ∷ us) [] ps e tt

predicates_names : (before : List Object) (t : ViewTree) (ps : _) → predicates before t ≡ Ok ps → EachPath ps (λ p. p.path)
predicates_names before (prim (value.Obj o)) ps =
    of_kind shape_of_object (λ x. predicates_by x before (prim (value.Obj o)) ≡ Ok ps → EachPath ps (λ p. p.path))
    (λ e. listed_names (prim (value.Obj o)) (items before (prim (value.Obj o))) ps e) (λ e. only_names (prim (value.Obj o)) ps e) refl refl (object_at before o.0).kind
predicates_names before (prim w) ps = λ e. only_names (prim w) ps e
predicates_names before (list ts) ps = λ e. listed_names (list ts) (views_list ts) ps e
predicates_names before (rec fs) ps = λ e. only_names (rec fs) ps e

predicate_same : (n from : ℕ) (now : List Object) (u t : ViewTree) → Seen n from now u t → predicate_of u ≡ predicate_of t
predicate_same n from now u t s = seen_same n from now predicate_of (λ o ts. refl) (λ o fs. refl) u t s

bind_same : {A B : Type 0} (r : Result A Fault) (f g : A → Result B Fault) → ((a : A) → f a ≡ g a) → (r >>= f) ≡ (r >>= g)
bind_same (Ok a) f g h = h a
bind_same (Err d) f g h = refl

from_same : (n from : ℕ) (now : List Object) (us ts : List ViewTree) (done : _) → (let x = predicates_from done us in x ≡ x) → AllSeen n from now us ts → predicates_from done us ≡ predicates_from done ts
from_same n from now [] [] done e s = refl
from_same n from now [] (t ∷ ts) done e s = absurd s
from_same n from now (u ∷ us) [] done e s = absurd s
from_same n from now (u ∷ us) (t ∷ ts) done e s =
    ap (λ r. r >>= λ p. predicates_from (done ++ p ∷ []) us) (predicate_same n from now u t s.0)
    ∙ bind_same (predicate_of t) (λ p. predicates_from (done ++ p ∷ []) us) (λ p. predicates_from (done ++ p ∷ []) ts) (λ p. from_same n from now us ts (done ++ p ∷ []) refl s.1)

only_same : (n from : ℕ) (now : List Object) (u t : ViewTree) → Seen n from now u t → only_predicate u ≡ only_predicate t
only_same n from now u t s = ap (λ r. r >>= λ p. Ok (p ∷ [])) (predicate_same n from now u t s)

listed_same : (n from : ℕ) (now : List Object) (u t : ViewTree) (us ts : List ViewTree) → Seen n from now u t → AllSeen n from now us ts → listed_predicates u us ≡ listed_predicates t ts
listed_same n from now u t [] [] s r = only_same n from now u t s
listed_same n from now u t [] (y ∷ ts) s r = absurd r
listed_same n from now u t (x ∷ us) [] s r = absurd r
listed_same n from now u t (x ∷ us) (y ∷ ts) s r = from_same n from now (x ∷ us) (y ∷ ts) [] refl r

predicates_same : (from : ℕ) (before now : List Object) → Grown before now → (u t : ViewTree) → Seen (length before) from now u t → predicates now u ≡ predicates before t
predicates_same from before now g u t s = ap (λ x. predicates_by x now u) (shape_same from before now g u t s) ∙ by t s
  where
    listed : (t : ViewTree) → Seen (length before) from now u t → listed_predicates u (items now u) ≡ listed_predicates t (items before t)
    listed t s = listed_same (length before) from now u t (items now u) (items before t) s (items_shown from before now g u t s)

    by : (t : ViewTree) → Seen (length before) from now u t → predicates_by (shape_of before t) now u ≡ predicates_by (shape_of before t) before t
    by (prim (value.Obj o)) s =
        of_kind shape_of_object (λ x. predicates_by x now u ≡ predicates_by x before (prim (value.Obj o)))
        (listed (prim (value.Obj o)) s) (only_same (length before) from now u (prim (value.Obj o)) s) refl refl (object_at before o.0).kind
    by (prim w) s = only_same (length before) from now u (prim w) s
    by (list ts) s = listed (list ts) s
    by (rec fs) s = only_same (length before) from now u (rec fs) s

turned_same : {A : Type 0} (b : Bool) (f g : A → A → Ordering) (u v t w : A) → f u v ≡ g t w → f v u ≡ g w t → turned b f u v ≡ turned b g t w
turned_same true f g u v t w e h = h
turned_same false f g u v t w e h = e

path_key : (from : ℕ) (before now : List Object) → Grown before now → (path : List (List ℕ)) → AreNames path → (u t : ViewTree) → Seen (length before) from now u t → key_of (member_at now u path) ≡ key_of (member_at before t path)
path_key from before now g path a u t s = key_same (length before) from now (member_at now u path) (member_at before t path) (path_seen from before now g path a u t s)

by_same : (from : ℕ) (before now : List Object) → Grown before now → (r : Bool) (u v t w : ViewTree) → Seen (length before) from now u t → Seen (length before) from now v w → (ps : _) → (let o = by_predicates now r ps u v in o ≡ o) → EachPath ps (λ p. p.path)
    → by_predicates now r ps u v ≡ by_predicates before r ps t w
by_same from before now g r u v t w s q [] e a = refl
by_same from before now g r u v t w s q (p ∷ ps) e a =
    ap (λ o. ordering_then o (by_predicates now r ps u v))
    (turned_same (differ r p.falling) (on (key_at now p) key_cmp) (on (key_at before p) key_cmp) u v t w
    (ap (λ k. key_cmp k (key_at now p v)) (path_key from before now g p.path a.0 u t s) ∙ ap (λ k. key_cmp (key_at before p t) k) (path_key from before now g p.path a.0 v w q))
    (ap (λ k. key_cmp k (key_at now p u)) (path_key from before now g p.path a.0 v w q) ∙ ap (λ k. key_cmp (key_at before p w) k) (path_key from before now g p.path a.0 u t s)))
    ∙ ap (λ o. ordering_then (by_predicate before r p t w) o) (by_same from before now g r u v t w s q ps refl a.1)

-- sorted by tests that agree
put_by : {A B : Type 0} (R : A → B → Type 0) (f : A → A → Bool) (g : B → B → Bool) → ((a c : A) (b d : B) → R a b → R c d → f a c ≡ g b d) → (x : A) (y : B) → R x y → (us : List A) (ts : List B) → AllBy R us ts → AllBy R (put_in f x us) (put_in g y ts)
put_by R f g h x y r [] [] s = (r, tt)
put_by R f g h x y r [] (t ∷ ts) s = absurd s
put_by R f g h x y r (u ∷ us) [] s = absurd s
put_by R f g h x y r (u ∷ us) (t ∷ ts) s = by (f u x) (g t y) (h u x t y s.0 r) (put_by R f g h x y r us ts s.1)
  where
    by : (b c : Bool) → b ≡ c → AllBy R (put_in f x us) (put_in g y ts) → AllBy R (if b then u ∷ put_in f x us else x ∷ (u ∷ us)) (if c then t ∷ put_in g y ts else y ∷ (t ∷ ts))
    by true true e rest = (s.0, rest)
    by true false e rest = absurd (cc)
    by false true e rest = absurd (cc)
    by false false e rest = (r, s)

order_by : {A B : Type 0} (R : A → B → Type 0) (f : A → A → Bool) (g : B → B → Bool) → ((a c : A) (b d : B) → R a b → R c d → f a c ≡ g b d) → (us : List A) (ts : List B) → AllBy R us ts → AllBy R (in_order f us) (in_order g ts)
order_by R f g h [] [] s = tt
order_by R f g h [] (t ∷ ts) s = absurd s
order_by R f g h (u ∷ us) [] s = absurd s
order_by R f g h (u ∷ us) (t ∷ ts) s = put_by R f g h u t s.0 (in_order f us) (in_order g ts) (order_by R f g h us ts s.1)

given_then_is : {A : Type 0} (n from : ℕ) (now : List Object) (x y : Result A Fault) (f g : A → Result ViewTree Fault) → x ≡ y → ((a : A) → y ≡ Ok a → GivenResult n from now (f a) (g a)) → GivenResult n from now (x >>= f) (y >>= g)
given_then_is n from now x (Ok a) f g e h = subst (λ z. GivenResult n from now (z >>= f) (g a)) (sym e) (h a refl)
given_then_is n from now x (Err d) f g e h = subst (λ z. GivenResult n from now (z >>= f) (Err d)) (sym e) refl

pub ordered_given : (from : ℕ) (before now : List Object) → Grown before now → (u t p q r c : ViewTree) → Seen (length before) from now u t → Seen (length before) from now p q → Seen (length before) from now r c
    → GivenResult (length before) from now (ordered now u p r) (ordered before t q c)
ordered_given from before now g u t p q r c s sp sr =
    subst (λ x. GivenResult n from now (ordered_by x now u p r) (ordered_by (shape_of before t) before t q c)) (sym (shape_same from before now g u t s)) (by t s)
  where
    n : ℕ
    n = length before

    listed : (t : ViewTree) → Seen n from now u t → GivenResult n from now (predicates now p >>= λ ps. Ok (list (views_from (in_order (is_before now (truthy r) ps) (items now u))))) (predicates before q >>= λ ps. Ok (list (views_from (in_order (is_before before (truthy c) ps) (items before t)))))
    listed t s =
        given_then_is n from now (predicates now p) (predicates before q) (λ ps. Ok (list (views_from (in_order (is_before now (truthy r) ps) (items now u))))) (λ ps. Ok (list (views_from (in_order (is_before before (truthy c) ps) (items before t)))))
        (predicates_same from before now g p q sp)
        (λ ps e. given_list n from now (in_order (is_before now (truthy r) ps) (items now u)) (in_order (is_before before (truthy c) ps) (items before t))
        (order_by (Seen n from now) (is_before now (truthy r) ps) (is_before before (truthy c) ps)
        (λ x y a b i j. ap (λ o. is_lt o) (by_same from before now g (truthy r) x y a b i j ps refl (predicates_names before q ps e)) ∙ ap (λ z. is_before before z ps a b) (truthy_same n from now r c sr))
        (items now u) (items before t) (items_shown from before now g u t s)))

    same : (t : ViewTree) → Seen n from now u t → Given n from now u t
    same t s = given_seen n from now u t s

    by : (t : ViewTree) → Seen n from now u t → GivenResult n from now (ordered_by (shape_of before t) now u p r) (ordered_by (shape_of before t) before t q c)
    by (prim (value.Obj o)) s =
        of_kind shape_of_object (λ x. GivenResult n from now (ordered_by x now u p r) (ordered_by x before (prim (value.Obj o)) q c))
        (listed (prim (value.Obj o)) s) (same (prim (value.Obj o)) s) refl refl (object_at before o.0).kind
    by (prim w) s = same (prim w) s
    by (list ts) s = listed (list ts) s
    by (rec fs) s = same (rec fs) s
