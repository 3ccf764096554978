-- A member of a value shows that of the view that the value shows.
use Rattle.std.proofs.Common.{◌≡◌, ◌<◌, ◌&&◌, ℕ, zero, suc, Bool, true, false, List, [], ◌∷◌, length, refl, sym, ap, subst, Option, Some, None, slice_get, bytes_eq, if◌then◌else◌}
use Rattle.std.specs.Prelude.{Result, Ok, Err, option_and_then, pos}
use Rattle.std.specs.Map.{lookup}
use Rattle.ng_base.specs.Meets.{◌>>=◌}
use Rattle.ng_base.specs.Objects.{Object, object_at, own_of, is_array, index_of, StandsAmong}
use Rattle.ng_base.specs.Views.{ViewTree, ViewTrees, ViewFields, prim, list, rec, no_fields, field_then, views_list, fields_list}
use Rattle.ng_base.specs.declared.value.Value.{Value}
use Rattle.ng_base.specs.declared.value.Value.TheVariants as value
use Rattle.ng_base.specs.declared.fault.Fault.{Fault}
use Rattle.ng_language.specs.Objects.{look, look_within, or_else_at}
use Rattle.ng_language.specs.Texts.{to_text}
use Rattle.ng_language.specs.Unfolding.{prims}
use Rattle.ng_write.specs.Storing.{array_with, plain_with}
use Rattle.ng_members.specs.Leaves.{named, or_from, Local, LocalsStand}
use Rattle.ng_members.specs.Members.{member, item, has_members, object_member, list_member, record_member, or_undefined, view_or_undefined, char_or_undefined, indexed, is_length, count}
use Rattle.ng_pure.specs.Showing.{ItemsShow, NamesShow}
use Rattle.ng_pure.proofs.Shown.{Grown, Seen, AllSeen, ResultBy, items_seen}
use Rattle.ng_pure.proofs.Looked.{OptionStands, look_looked}
use Rattle.ng_pure.proofs.Alike.{seen_same}
use Rattle.ng_pure.proofs.Texts.{text_same}

-- what is found among values of before shows itself
pub found_seen : (n from : ℕ) (now : List Object) (a b : Option Value) → a ≡ b → OptionStands n b → Seen n from now (or_undefined a) (or_undefined b)
found_seen n from now a None e s = subst (λ x. Seen n from now (or_undefined x) (or_undefined None)) (sym e) (refl, tt)
found_seen n from now a (Some v) e s = subst (λ x. Seen n from now (or_undefined x) (or_undefined (Some v))) (sym e) (refl, s)

counted : (n from : ℕ) (now : List Object) (i j : ℕ) → i ≡ j → Seen n from now (count i) (count j)
counted n from now i j e = (ap (λ k. value.Int (pos k)) e, tt)

-- one test, and what is found otherwise
chosen_seen : (n from : ℕ) (now : List Object) (b : Bool) (u v t w : ViewTree) → Seen n from now u t → Seen n from now v w → Seen n from now (if b then u else v) (if b then t else w)
chosen_seen n from now true u v t w s r = s
chosen_seen n from now false u v t w s r = r

object_seen : (from : ℕ) (before now : List Object) (name : List ℕ) → Grown before now → (o : ℕ) → o < length before → Seen (length before) from now (object_member now o name) (object_member before o name)
object_seen from before now name g o h =
    let x : Object = object_at before o in
    let l = look_looked before now name o g h in
    let P : Object → Type 0 = λ (y : Object). Seen (length before) from now (if is_array y.kind && is_length name then count (length y.items) else or_undefined (look now o name)) (object_member before o name) in
    subst P (sym (g.unchanged o h))
    (chosen_seen (length before) from now (is_array x.kind && is_length name) (count (length x.items)) (or_undefined (look now o name)) (count (length x.items)) (or_undefined (look before o name))
    (refl, tt) (found_seen (length before) from now (look now o name) (look before o name) l.same l.stands))

chars_seen : (n from : ℕ) (now : List Object) (c : Option ℕ) → Seen n from now (char_or_undefined c) (char_or_undefined c)
chars_seen n from now None = (refl, tt)
chars_seen n from now (Some c) = (refl, tt)

-- a prototype that isn't there is not asked
own_only : (u : Option Value) (go : ℕ → Option Value) → or_else_at u None go ≡ u
own_only None go = refl
own_only (Some v) go = refl

-- an item of one list, and of the other
got_seen : (n from : ℕ) (now : List Object) (vs : List Value) (ts : List ViewTree) → AllSeen n from now (prims vs) ts → (k : ℕ) → Seen n from now (or_undefined (slice_get vs k)) (view_or_undefined (slice_get ts k))
got_seen n from now [] [] s k = (refl, tt)
got_seen n from now [] (t ∷ ts) s k = absurd s
got_seen n from now (v ∷ vs) [] s k = absurd s
got_seen n from now (v ∷ vs) (t ∷ ts) s zero = s.0
got_seen n from now (v ∷ vs) (t ∷ ts) s (suc k) = got_seen n from now vs ts s.1 k

indexed_seen : (n from : ℕ) (now : List Object) (vs : List Value) (ts : List ViewTree) → AllSeen n from now (prims vs) ts → (i : Option ℕ)
    → Seen n from now (or_undefined (option_and_then (λ k. slice_get vs k) i)) (view_or_undefined (option_and_then (λ k. slice_get ts k) i))
indexed_seen n from now vs ts s None = (refl, tt)
indexed_seen n from now vs ts s (Some k) = got_seen n from now vs ts s k

pub values_length : (n from : ℕ) (now : List Object) (vs : List Value) (ts : List ViewTree) → AllSeen n from now (prims vs) ts → length vs ≡ length ts
values_length n from now [] [] s = refl
values_length n from now [] (t ∷ ts) s = absurd s
values_length n from now (v ∷ vs) [] s = absurd s
values_length n from now (v ∷ vs) (t ∷ ts) s = ap suc (values_length n from now vs ts s.1)

list_seen : (n from : ℕ) (now : List Object) (name : List ℕ) (o : ℕ) (vs : List Value) (ts : ViewTrees) → object_at now o ≡ array_with vs → ItemsShow n from now vs ts → Seen n from now (object_member now o name) (list_member (views_list ts) name)
list_seen n from now name o vs ts e s =
    let all = items_seen n from now ts vs s in
    let found : Option Value = option_and_then (λ k. slice_get vs k) (index_of name) in
    let P : Object → Type 0 = λ (y : Object). Seen n from now (if is_array y.kind && is_length name then count (length y.items) else or_undefined (or_else_at (own_of y name) y.proto (λ p. look_within o now p name))) (list_member (views_list ts) name) in
    subst P (sym e)
    (chosen_seen n from now (is_length name) (count (length vs)) (or_undefined (or_else_at found None (λ p. look_within o now p name))) (count (length (views_list ts))) (view_or_undefined (indexed (views_list ts) name))
    (counted n from now (length vs) (length (views_list ts)) (values_length n from now vs (views_list ts) all))
    (subst (λ u. Seen n from now (or_undefined u) (view_or_undefined (indexed (views_list ts) name))) (sym (own_only found (λ p. look_within o now p name)))
    (indexed_seen n from now vs (views_list ts) all (index_of name))))

named_seen : (n from : ℕ) (now : List Object) (name : List ℕ) (ps : List (List ℕ × Value)) (fs : ViewFields) → NamesShow n from now ps fs → Seen n from now (or_undefined (lookup (bytes_eq name) ps)) (record_member (fields_list fs) name)
named_seen n from now name [] no_fields s = (refl, tt)
named_seen n from now name [] (field_then m t fs) s = absurd s
named_seen n from now name (p ∷ ps) no_fields s = absurd s
named_seen n from now name (p ∷ ps) (field_then m t fs) s =
    subst (λ k. Seen n from now (or_undefined (lookup (bytes_eq name) (p ∷ ps))) (record_member ((k, t) ∷ fields_list fs) name)) s.0 (by (bytes_eq name p.0) (named_seen n from now name ps fs s.2))
  where
    by : (b : Bool) → Seen n from now (or_undefined (lookup (bytes_eq name) ps)) (record_member (fields_list fs) name) → Seen n from now (or_undefined (if b then Some p.1 else lookup (bytes_eq name) ps)) (view_or_undefined (if b then Some t else lookup (bytes_eq name) (fields_list fs)))
    by true rest = s.1
    by false rest = rest

rec_seen : (n from : ℕ) (now : List Object) (name : List ℕ) (o : ℕ) (ps : List (List ℕ × Value)) (fs : ViewFields) → object_at now o ≡ plain_with ps → NamesShow n from now ps fs → Seen n from now (object_member now o name) (record_member (fields_list fs) name)
rec_seen n from now name o ps fs e s =
    let found : Option Value = lookup (bytes_eq name) ps in
    let P : Object → Type 0 = λ (y : Object). Seen n from now (if is_array y.kind && is_length name then count (length y.items) else or_undefined (or_else_at (own_of y name) y.proto (λ p. look_within o now p name))) (record_member (fields_list fs) name) in
    subst P (sym e)
    (subst (λ u. Seen n from now (or_undefined u) (record_member (fields_list fs) name)) (sym (own_only found (λ p. look_within o now p name))) (named_seen n from now name ps fs s))

value_seen : (from : ℕ) (before now : List Object) (name : List ℕ) → Grown before now → (w : Value) → StandsAmong (length before) w → Seen (length before) from now (member now (prim w) name) (member before (prim w) name)
unfolding member
value_seen from before now name g (value.Obj o) s = object_seen from before now name g o.0 s
value_seen from before now name g (value.Text t) s = chosen_seen (length before) from now (is_length name) (count (length t)) (char_or_undefined (indexed t name)) (count (length t)) (char_or_undefined (indexed t name)) (refl, tt) (chars_seen (length before) from now (indexed t name))
value_seen from before now name g w s = (refl, tt)

pub member_seen : (from : ℕ) (before now : List Object) (name : List ℕ) → Grown before now → (u t : ViewTree) → Seen (length before) from now u t → Seen (length before) from now (member now u name) (member before t name)
unfolding member
member_seen from before now name g (prim v) (prim w) s =
    subst (λ x. Seen (length before) from now (member now (prim x) name) (member before (prim w) name)) (sym s.0) (value_seen from before now name g w s.1)
member_seen from before now name g (prim v) (list ts) s =
    subst (λ x. Seen (length before) from now (member now (prim x) name) (member before (list ts) name)) (sym s.2) (list_seen (length before) from now name s.0.0 s.1 ts s.5 s.6)
member_seen from before now name g (prim v) (rec fs) s =
    subst (λ x. Seen (length before) from now (member now (prim x) name) (member before (rec fs) name)) (sym s.2) (rec_seen (length before) from now name s.0.0 s.1 fs s.5 s.7)
member_seen from before now name g (list us) t s = absurd s
member_seen from before now name g (rec fs) t s = absurd s

abbrev pub SeenResult : ℕ → ℕ → List Object → Result ViewTree Fault → Result ViewTree Fault → Type 0
SeenResult n from now x y = ResultBy (Seen n from now) x y

-- what does not tell the views apart goes on
pub result_then : {A : Type 0} (n from : ℕ) (now : List Object) (x y : Result A Fault) (f g : A → Result ViewTree Fault) → x ≡ y → ((a : A) → SeenResult n from now (f a) (g a)) → SeenResult n from now (x >>= f) (y >>= g)
result_then n from now x (Ok a) f g e h = subst (λ z. SeenResult n from now (z >>= f) (g a)) (sym e) (h a)
result_then n from now x (Err d) f g e h = subst (λ z. SeenResult n from now (z >>= f) (Err d)) (sym e) refl

pub chosen_result : (n from : ℕ) (now : List Object) (b c : Bool) (u v t w : Result ViewTree Fault) → b ≡ c → SeenResult n from now u t → SeenResult n from now v w → SeenResult n from now (if b then u else v) (if c then t else w)
chosen_result n from now b true u v t w e s r = subst (λ x. SeenResult n from now (if x then u else v) t) (sym e) s
chosen_result n from now b false u v t w e s r = subst (λ x. SeenResult n from now (if x then u else v) w) (sym e) r

pub has_same : (n from : ℕ) (now : List Object) (u t : ViewTree) → Seen n from now u t → has_members u ≡ has_members t
has_same n from now u t s = seen_same n from now has_members (λ o ts. refl) (λ o fs. refl) u t s

pub item_seen : (from : ℕ) (before now : List Object) → Grown before now → (u t i j : ViewTree) → Seen (length before) from now u t → Seen (length before) from now i j → SeenResult (length before) from now (item now u i) (item before t j)
unfolding item
item_seen from before now g u t i j s r =
    chosen_result (length before) from now (has_members u) (has_members t) (to_text now i >>= λ name. Ok (member now u name)) (Ok (prim value.Undefined)) (to_text before j >>= λ name. Ok (member before t name)) (Ok (prim value.Undefined))
    (has_same (length before) from now u t s)
    (result_then (length before) from now (to_text now i) (to_text before j) (λ name. Ok (member now u name)) (λ name. Ok (member before t name)) (text_same from before now g i j r) (λ name. member_seen from before now name g u t s))
    (refl, tt)

local_stands : (n : ℕ) (name : List ℕ) (ls : List Local) → LocalsStand n ls → OptionStands n (lookup (bytes_eq name) ls)
local_stands n name [] a = tt
local_stands n name (l ∷ ls) a = by (bytes_eq name l.0) (local_stands n name ls a.1)
  where
    by : (b : Bool) → OptionStands n (lookup (bytes_eq name) ls) → OptionStands n (if b then Some l.1 else lookup (bytes_eq name) ls)
    by true rest = a.0
    by false rest = rest

-- a bare name
pub name_seen : (from : ℕ) (before now : List Object) → Grown before now → (scope : ℕ) (locals : List Local) (name : List ℕ) → scope < length before → LocalsStand (length before) locals
    → Seen (length before) from now (named now scope locals name) (named before scope locals name)
unfolding named
name_seen from before now g scope locals name h a = by (lookup (bytes_eq name) locals) (local_stands (length before) name locals a)
  where
    by : (l : Option Value) → OptionStands (length before) l → Seen (length before) from now (or_undefined (or_from l (look now scope name))) (or_undefined (or_from l (look before scope name)))
    by (Some v) s = (refl, s)
    by None s = let l = look_looked before now name scope g h in found_seen (length before) from now (look now scope name) (look before scope name) l.same l.stands
