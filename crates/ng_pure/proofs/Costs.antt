-- What is unfolded for JSON costs as many nodes in each order of fields, and the fields in the order of keys are the same.
use Rattle.std.proofs.Common.{◌≡◌, ◌∙◌, ◌<◌, ◌+◌, ◌-◌, ℕ, zero, suc, Bool, true, false, List, [], ◌∷◌, ◌++◌, refl, sym, ap, arith, Option, Some, None, bytes_eq, if◌then◌else◌, nat_le, Ordering, Less, Equal, Greater, nat_cmp, true≢false, append_assoc, append-nil, decimal}
use Rattle.std.specs.Prelude.{Ok, Err}
use Rattle.std.proofs.lemmas.Bool.Decides.{nat_tests}
use Rattle.std.proofs.lemmas.Slice.Eq.{bytes_eq-Decides}
use Rattle.std.specs.BTreeMap.{insert_entry}
use Rattle.std.specs.Cmp.{ranked}
use Rattle.std.specs.List.{AllByRecursion, IsDistinct}
use Rattle.std.specs.Map.{keys_of, values_of}
use Rattle.std.specs.Ordering.{match_ordering}
use Rattle.ng_base.specs.Objects.{index_of}
use Rattle.ng_base.specs.Views.{ViewTree}
use Rattle.ng_base.specs.declared.fault.Fault.TheVariants.{TooBig}
use Rattle.ng_language.specs.Unfolding.{Field, Spent, and_then, as_record, unfold_fields, is_left_out, with_indexed, indexed_from, with_other, others_of, in_key_order}
use Rattle.ng_language.specs.declared.unfolding.Mode.TheVariants as modes
use Rattle.ng_store.proofs.Indices.{index_is}

-- what is made and what it costs, where there is room for it
abbrev pub spend : {A : Type 0} → Option (A × ℕ) → ℕ → Spent A
spend None l = Err TooBig
spend (Some r) l = if nat_le r.1 l then Ok (r.0, l - r.1) else Err TooBig

abbrev pub dearer : {A : Type 0} → ℕ → Option (A × ℕ) → Option (A × ℕ)
dearer c None = None
dearer c (Some r) = Some (r.0, c + r.1)

-- a step costs the same wherever it is taken
pub record Paid {A : Type 0} (g : ℕ → Spent A) : Type 0 where
  pub cost : Option (A × ℕ)
  pub is : (l : ℕ) → g l ≡ spend cost l

two_tests : {A : Type 0} (a b : Bool) (x y : Spent A) → a ≡ b → (a ≡ true → x ≡ y) → (if a then x else Err TooBig) ≡ (if b then y else Err TooBig)
two_tests true true x y e h = h refl
two_tests true false x y e h = absurd (cc)
two_tests false true x y e h = absurd (cc)
two_tests false false x y e h = refl

le_more : (c d l : ℕ) → nat_le c l ≡ true → nat_le d (l - c) ≡ nat_le (c + d) l
le_more c d l h = by (nat_le d (l - c)) (nat_le (c + d) l) refl refl
  where
    by : (a b : Bool) → nat_le d (l - c) ≡ a → nat_le (c + d) l ≡ b → nat_le d (l - c) ≡ nat_le (c + d) l
    by true true e f = e ∙ sym f
    by false false e f = e ∙ sym f
    by true false e f = absurd (grind (arith, nat_tests, h, e, f))
    by false true e f = absurd (grind (arith, nat_tests, h, e, f))

le_less : (c d l : ℕ) → nat_le c l ≡ false → nat_le (c + d) l ≡ false
le_less c d l h = by (nat_le (c + d) l) refl
  where
    by : (b : Bool) → nat_le (c + d) l ≡ b → nat_le (c + d) l ≡ false
    by false f = f
    by true f = absurd (grind (arith, nat_tests, h, f))

spend_then : {A B : Type 0} (x : A) (c l : ℕ) (F : A → Option (B × ℕ)) → and_then (spend (Some (x, c)) l) (λ a rest. spend (F a) rest) ≡ spend (dearer c (F x)) l
spend_then {B = B} x c l F = by (nat_le c l) refl (F x) refl
  where
    by : (b : Bool) → nat_le c l ≡ b → (o : Option (B × ℕ)) → F x ≡ o → and_then (if b then Ok (x, l - c) else Err TooBig) (λ a rest. spend (F a) rest) ≡ spend (dearer c o) l
    by true e None f = ap (λ p. spend p (l - c)) f
    by true e (Some r) f =
        ap (λ p. spend p (l - c)) f
        ∙ two_tests (nat_le r.1 (l - c)) (nat_le (c + r.1) l) (Ok (r.0, (l - c) - r.1)) (Ok (r.0, l - (c + r.1))) (le_more c r.1 l e)
        (λ h. ap (λ m. (let s : Spent B = Ok (r.0, m) in s)) (omega arith))
    by false e None f = refl
    by false e (Some r) f = sym (ap (λ t. (let s : Spent B = if t then Ok (r.0, l - (c + r.1)) else Err TooBig in s)) (le_less c r.1 l e))

then_same : {A B : Type 0} (z : Spent A) (f g : A → ℕ → Spent B) → ((a : A) (l : ℕ) → f a l ≡ g a l) → and_then z f ≡ and_then z g
then_same (Ok r) f g h = h r.0 r.1
then_same (Err e) f g h = refl

pub paid_then : {A B : Type 0} (g : ℕ → Spent A) (h : A → ℕ → Spent B) → Paid g → ((a : A) → Paid (h a)) → Paid (λ l. and_then (g l) h)
paid_then {A = A} {B = B} g h p k = by p.cost p.is
  where
    by : (o : Option (A × ℕ)) → ((l : ℕ) → g l ≡ spend o l) → Paid (λ l. and_then (g l) h)
    by None e = record { cost = None; is = λ l. ap (λ z. and_then z h) (e l) }
    by (Some r) e = record {
      cost = dearer r.1 (k r.0).cost;
      is = λ l. ap (λ z. and_then z h) (e l) ∙ (then_same (spend (Some r) l) h (λ a rest. spend (k a).cost rest) (λ a rest. (k a).is rest) ∙ spend_then r.0 r.1 l (λ a. (k a).cost));
    }

free : {A : Type 0} (x : A) (l : ℕ) → (let s : Spent A = Ok (x, l) in s) ≡ spend (Some (x, 0)) l
free x l = by (nat_le 0 l) refl
  where
    by : (b : Bool) → nat_le 0 l ≡ b → (let s : Spent _ = Ok (x, l) in s) ≡ (if b then Ok (x, l - 0) else Err TooBig)
    by true e = ap (λ m. (let s : Spent _ = Ok (x, m) in s)) (omega arith)
    by false e = absurd (grind (arith, nat_tests, e))

pub free_paid : {A : Type 0} (x : A) → Paid (λ l. (let s : Spent A = Ok (x, l) in s))
free_paid x = record { cost = Some (x, 0); is = free x }

pub paid_if : {A : Type 0} (b : Bool) (g h : ℕ → Spent A) → Paid g → Paid h → Paid (λ l. if b then g l else h l)
paid_if true g h p q = p
paid_if false g h p q = q

-- one node more
pub paid_more : {A : Type 0} (g : ℕ → Spent A) (h : ℕ → Spent A) → Paid g → h 0 ≡ Err TooBig → ((l : ℕ) → h (suc l) ≡ g l) → Paid h
paid_more {A = A} g h p e f = record { cost = dearer 1 p.cost; is = by }
  where
    none : (o : Option (A × ℕ)) → (let s : Spent A = Err TooBig in s) ≡ spend (dearer 1 o) 0
    none None = refl
    none (Some r) = sym (ap (λ t. (let s : Spent A = if t then Ok (r.0, 0 - (1 + r.1)) else Err TooBig in s)) (zero_less (nat_le (1 + r.1) 0) refl))
      where
        zero_less : (b : Bool) → nat_le (1 + r.1) 0 ≡ b → nat_le (1 + r.1) 0 ≡ false
        zero_less false k = k
        zero_less true k = absurd (grind (arith, nat_tests, k))

    one : (o : Option (A × ℕ)) (l : ℕ) → spend o l ≡ spend (dearer 1 o) (suc l)
    one None l = refl
    one (Some r) l =
        two_tests (nat_le r.1 l) (nat_le (1 + r.1) (suc l)) (Ok (r.0, l - r.1)) (Ok (r.0, suc l - (1 + r.1))) (same (nat_le r.1 l) (nat_le (1 + r.1) (suc l)) refl refl)
        (λ k. ap (λ m. (let s : Spent A = Ok (r.0, m) in s)) (omega arith))
      where
        same : (a b : Bool) → nat_le r.1 l ≡ a → nat_le (1 + r.1) (suc l) ≡ b → nat_le r.1 l ≡ nat_le (1 + r.1) (suc l)
        same true true i j = i ∙ sym j
        same false false i j = i ∙ sym j
        same true false i j = absurd (grind (arith, nat_tests, i, j))
        same false true i j = absurd (grind (arith, nat_tests, i, j))

    by : (l : ℕ) → h l ≡ spend (dearer 1 p.cost) l
    by zero = e ∙ none p.cost
    by (suc l) = f l ∙ (p.is l ∙ one p.cost l)

-- what a field becomes, if it is not left out, and what that costs
abbrev Piece : Type 0
Piece = Option (Option ViewTree × ℕ)

abbrev Costs : Type 0
Costs = ViewTree → Option (ViewTree × ℕ)

abbrev some_piece : Option (ViewTree × ℕ) → Piece
some_piece None = None
some_piece (Some r) = Some (Some r.0, r.1)

abbrev piece : Costs → Field → Piece
piece w f = if is_left_out modes.Json f.0 f.1 then Some (None, 0) else some_piece (w f.1)

abbrev cons_kept : List ℕ → Option ViewTree → List Field → List Field
cons_kept name None fs = fs
cons_kept name (Some u) fs = (name, u) ∷ fs

abbrev add_piece : List ℕ → Piece → Option (List Field × ℕ) → Option (List Field × ℕ)
add_piece name None r = None
add_piece name (Some p) None = None
add_piece name (Some p) (Some r) = Some (cons_kept name p.0 r.0, p.1 + r.1)

abbrev folded : Costs → List Field → Option (List Field × ℕ)
folded w [] = Some ([], 0)
folded w (f ∷ fs) = add_piece f.0 (piece w f) (folded w fs)

abbrev behind : List Field → Option (List Field × ℕ) → Option (List Field × ℕ)
behind done None = None
behind done (Some r) = Some (done ++ r.0, r.1)

left_alone : (name : List ℕ) (done : List Field) (r : Option (List Field × ℕ)) → behind done r ≡ behind done (add_piece name (Some (None, 0)) r)
left_alone name done None = refl
left_alone name done (Some r) = ap (λ c. Some (done ++ r.0, c)) (let e : r.1 ≡ 0 + r.1 = omega arith in e)

one_behind : (name : List ℕ) (done : List Field) (x : ViewTree × ℕ) (r : Option (List Field × ℕ)) → dearer x.1 (behind (done ++ (name, x.0) ∷ []) r) ≡ behind done (add_piece name (Some (Some x.0, x.1)) r)
one_behind name done x None = refl
one_behind name done x (Some r) = ap (λ fs. Some (fs, x.1 + r.1)) (append_assoc done ((name, x.0) ∷ []) r.0)

fields_folded : (to : ViewTree → ℕ → Spent ViewTree) (w : Costs) → ((t : ViewTree) (l : ℕ) → to t l ≡ spend (w t) l) → (fs done : List Field) (l : ℕ) → unfold_fields modes.Json to fs done l ≡ spend (behind done (folded w fs)) l
fields_folded to w h [] done l = free done l ∙ ap (λ ds. spend (Some (ds, 0)) l) (sym (append-nil done))
fields_folded to w h (f ∷ fs) done l = by (is_left_out modes.Json f.0 f.1) (w f.1) (h f.1 l) (fields_folded to w h fs)
  where
    by : (b : Bool) (o : Option (ViewTree × ℕ)) → to f.1 l ≡ spend o l → ((ds : List Field) (k : ℕ) → unfold_fields modes.Json to fs ds k ≡ spend (behind ds (folded w fs)) k)
        → (if b then unfold_fields modes.Json to fs done l else and_then (to f.1 l) (λ u rest. unfold_fields modes.Json to fs (done ++ (f.0, u) ∷ []) rest)) ≡ spend (behind done (add_piece f.0 (if b then Some (None, 0) else some_piece o) (folded w fs))) l
    by true o e more = more done l ∙ ap (λ r. spend r l) (left_alone f.0 done (folded w fs))
    by false None e more = ap (λ z. and_then z (λ u rest. unfold_fields modes.Json to fs (done ++ (f.0, u) ∷ []) rest)) e
    by false (Some x) e more =
        ap (λ z. and_then z (λ u rest. unfold_fields modes.Json to fs (done ++ (f.0, u) ∷ []) rest)) e
        ∙ (then_same (spend (Some x) l) (λ u rest. unfold_fields modes.Json to fs (done ++ (f.0, u) ∷ []) rest) (λ u rest. spend (behind (done ++ (f.0, u) ∷ []) (folded w fs)) rest) (λ u rest. more (done ++ (f.0, u) ∷ []) rest)
        ∙ (spend_then x.0 x.1 l (λ u. behind (done ++ (f.0, u) ∷ []) (folded w fs)) ∙ ap (λ r. spend r l) (one_behind f.0 done x (folded w fs))))

-- the same with indices
abbrev Entries : Type 0
Entries = List (ℕ × Field)

abbrev cons_entry : ℕ → List ℕ → Option ViewTree → Entries → Entries
cons_entry i name None es = es
cons_entry i name (Some u) es = (i, (name, u)) ∷ es

abbrev add_entry : ℕ → List ℕ → Piece → Option (Entries × ℕ) → Option (Entries × ℕ)
add_entry i name None r = None
add_entry i name (Some p) None = None
add_entry i name (Some p) (Some r) = Some (cons_entry i name p.0 r.0, p.1 + r.1)

abbrev entries_folded : Costs → Entries → Option (Entries × ℕ)
entries_folded w [] = Some ([], 0)
entries_folded w (e ∷ es) = add_entry e.0 e.1.0 (piece w e.1) (entries_folded w es)

abbrev mapped : {A B : Type 0} → (A → B) → Option (A × ℕ) → Option (B × ℕ)
mapped f None = None
mapped f (Some r) = Some (f r.0, r.1)

values_step : (i : ℕ) (name : List ℕ) (p : Piece) (r : Option (Entries × ℕ)) → add_piece name p (mapped values_of r) ≡ mapped values_of (add_entry i name p r)
values_step i name None r = refl
values_step i name (Some p) None = refl
values_step i name (Some p) (Some r) = ap (λ fs. Some (fs, p.1 + r.1)) (by p.0)
  where
    by : (o : Option ViewTree) → cons_kept name o (values_of r.0) ≡ values_of (cons_entry i name o r.0)
    by None = refl
    by (Some u) = refl

values_folded : (w : Costs) (es : Entries) → folded w (values_of es) ≡ mapped values_of (entries_folded w es)
values_folded w [] = refl
values_folded w (e ∷ es) = ap (add_piece e.1.0 (piece w e.1)) (values_folded w es) ∙ values_step e.0 e.1.0 (piece w e.1) (entries_folded w es)

abbrev both : Option (List Field × ℕ) → Option (List Field × ℕ) → Option (List Field × ℕ)
both None q = None
both (Some r) None = None
both (Some r) (Some q) = Some (r.0 ++ q.0, r.1 + q.1)

both_step : (name : List ℕ) (p : Piece) (r q : Option (List Field × ℕ)) → add_piece name p (both r q) ≡ both (add_piece name p r) q
both_step name None r q = refl
both_step name (Some p) None q = refl
both_step name (Some p) (Some r) None = refl
both_step name (Some p) (Some r) (Some q) = ap (λ fs. Some (fs, p.1 + (r.1 + q.1))) (by p.0) ∙ ap (λ c. Some (cons_kept name p.0 r.0 ++ q.0, c)) (omega arith)
  where
    by : (o : Option ViewTree) → cons_kept name o (r.0 ++ q.0) ≡ cons_kept name o r.0 ++ q.0
    by None = refl
    by (Some u) = refl

none_before : (q : Option (List Field × ℕ)) → q ≡ both (Some ([], 0)) q
none_before None = refl
none_before (Some q) = ap (λ c. Some (q.0, c)) (let e : q.1 ≡ 0 + q.1 = omega arith in e)

both_folded : (w : Costs) (fs gs : List Field) → folded w (fs ++ gs) ≡ both (folded w fs) (folded w gs)
both_folded w [] gs = none_before (folded w gs)
both_folded w (f ∷ fs) gs = ap (add_piece f.0 (piece w f)) (both_folded w fs gs) ∙ both_step f.0 (piece w f) (folded w fs) (folded w gs)

-- entries in order
abbrev AllAbove : ℕ → Entries → Type 0
AllAbove i es = AllByRecursion (λ (e : ℕ × Field). i < e.0) es

abbrev AreSorted : Entries → Type 0
AreSorted [] = Unit {0}
AreSorted (e ∷ es) = AllAbove e.0 es × AreSorted es

abbrev IsAbsent : ℕ → Entries → Type 0
IsAbsent i es = AllByRecursion (λ (e : ℕ × Field). ¬ (i ≡ e.0)) es

all_above : (i j : ℕ) (es : Entries) → i < j → AllAbove j es → AllAbove i es
all_above i j [] h a = tt
all_above i j (e ∷ es) h a = ((let k : j < e.0 = a.0 in omega arith), all_above i j es h a.1)

above_inserted : (k i : ℕ) (f : Field) (es : Entries) → k < i → AllAbove k es → AllAbove k (insert_entry nat_cmp es i f)
above_inserted k i f [] h a = (h, tt)
above_inserted k i f (e ∷ es) h a = by (nat_cmp i e.0) (above_inserted k i f es h a.1)
  where
    by : (o : Ordering) → AllAbove k (insert_entry nat_cmp es i f) → AllAbove k (match_ordering o ((i, f) ∷ e ∷ es) ((e.0, f) ∷ es) (e ∷ insert_entry nat_cmp es i f))
    by Less rest = (h, a)
    by Equal rest = a
    by Greater rest = (a.0, rest)

sorted_inserted : (i : ℕ) (f : Field) (es : Entries) → AreSorted es → AreSorted (insert_entry nat_cmp es i f)
sorted_inserted i f [] s = (tt, tt)
sorted_inserted i f (e ∷ es) s = by (nat_cmp i e.0) refl (sorted_inserted i f es s.1)
  where
    by : (o : Ordering) → nat_cmp i e.0 ≡ o → AreSorted (insert_entry nat_cmp es i f) → AreSorted (match_ordering o ((i, f) ∷ e ∷ es) ((e.0, f) ∷ es) (e ∷ insert_entry nat_cmp es i f))
    by Less k rest = (((ranked i e.0 Less (sym k)), all_above i e.0 es (ranked i e.0 Less (sym k)) s.0), s)
    by Equal k rest = s
    by Greater k rest = (above_inserted e.0 i f es (ranked i e.0 Greater (sym k)) s.0, rest)

in_front : (i : ℕ) (f : Field) (es : Entries) → AllAbove i es → insert_entry nat_cmp es i f ≡ (i, f) ∷ es
in_front i f [] a = refl
in_front i f (e ∷ es) a = by (nat_cmp i e.0) refl
  where
    by : (o : Ordering) → nat_cmp i e.0 ≡ o → match_ordering o ((i, f) ∷ e ∷ es) ((e.0, f) ∷ es) (e ∷ insert_entry nat_cmp es i f) ≡ (i, f) ∷ e ∷ es
    by Less k = refl
    by Equal k = absurd (let x : i ≡ e.0 = ranked i e.0 Equal (sym k) in let y : i < e.0 = a.0 in omega arith)
    by Greater k = absurd (let x : e.0 < i = ranked i e.0 Greater (sym k) in let y : i < e.0 = a.0 in omega arith)

-- what is made of entries stands in the same order
abbrev MadeAbove : ℕ → Option (Entries × ℕ) → Type 0
MadeAbove i None = Unit {0}
MadeAbove i (Some r) = AllAbove i r.0

made_step : (i k : ℕ) (name : List ℕ) (p : Piece) (r : Option (Entries × ℕ)) → i < k → MadeAbove i r → MadeAbove i (add_entry k name p r)
made_step i k name None r h a = tt
made_step i k name (Some p) None h a = tt
made_step i k name (Some p) (Some r) h a = by p.0
  where
    by : (o : Option ViewTree) → AllAbove i (cons_entry k name o r.0)
    by None = a
    by (Some u) = (h, a)

made_above : (w : Costs) (i : ℕ) (es : Entries) → AllAbove i es → MadeAbove i (entries_folded w es)
made_above w i [] a = tt
made_above w i (e ∷ es) a = made_step i e.0 e.1.0 (piece w e.1) (entries_folded w es) a.0 (made_above w i es a.1)

abbrev put_kept : ℕ → List ℕ → Option ViewTree → Entries → Entries
put_kept i name None es = es
put_kept i name (Some u) es = insert_entry nat_cmp es i (name, u)

abbrev put_entry : ℕ → List ℕ → Piece → Option (Entries × ℕ) → Option (Entries × ℕ)
put_entry i name None r = None
put_entry i name (Some p) None = None
put_entry i name (Some p) (Some r) = Some (put_kept i name p.0 r.0, p.1 + r.1)

front_put : (i : ℕ) (name : List ℕ) (p : Piece) (r : Option (Entries × ℕ)) → MadeAbove i r → add_entry i name p r ≡ put_entry i name p r
front_put i name None r a = refl
front_put i name (Some p) None a = refl
front_put i name (Some p) (Some r) a = ap (λ es. Some (es, p.1 + r.1)) (by p.0)
  where
    by : (o : Option ViewTree) → cons_entry i name o r.0 ≡ put_kept i name o r.0
    by None = refl
    by (Some u) = sym (in_front i (name, u) r.0 a)

later_put : (i k : ℕ) (name other : List ℕ) (p q : Piece) (r : Option (Entries × ℕ)) → nat_cmp i k ≡ Greater → add_entry k other q (put_entry i name p r) ≡ put_entry i name p (add_entry k other q r)
later_put i k name other None None r e = refl
later_put i k name other None (Some q) r e = refl
later_put i k name other (Some p) None None e = refl
later_put i k name other (Some p) None (Some r) e = refl
later_put i k name other (Some p) (Some q) None e = refl
later_put i k name other (Some p) (Some q) (Some r) e = ap (λ es. Some (es, q.1 + (p.1 + r.1))) (by q.0 p.0) ∙ ap (λ c. Some (put_kept i name p.0 (cons_entry k other q.0 r.0), c)) (omega arith)
  where
    by : (a b : Option ViewTree) → cons_entry k other a (put_kept i name b r.0) ≡ put_kept i name b (cons_entry k other a r.0)
    by None b = refl
    by (Some u) None = refl
    by (Some u) (Some v) = sym (ap (λ o. match_ordering o ((i, (name, v)) ∷ (k, (other, u)) ∷ r.0) ((k, (name, v)) ∷ r.0) ((k, (other, u)) ∷ insert_entry nat_cmp r.0 i (name, v))) e)

put_folded : (w : Costs) (i : ℕ) (f : Field) (es : Entries) → AreSorted es → IsAbsent i es → entries_folded w (insert_entry nat_cmp es i f) ≡ put_entry i f.0 (piece w f) (entries_folded w es)
put_folded w i f [] s a = front_put i f.0 (piece w f) (Some ([], 0)) tt
put_folded w i f (e ∷ es) s a = by (nat_cmp i e.0) refl (put_folded w i f es s.1 a.1)
  where
    by : (o : Ordering) → nat_cmp i e.0 ≡ o → entries_folded w (insert_entry nat_cmp es i f) ≡ put_entry i f.0 (piece w f) (entries_folded w es)
        → entries_folded w (match_ordering o ((i, f) ∷ e ∷ es) ((e.0, f) ∷ es) (e ∷ insert_entry nat_cmp es i f)) ≡ put_entry i f.0 (piece w f) (entries_folded w (e ∷ es))
    by Less k rest = front_put i f.0 (piece w f) (entries_folded w (e ∷ es)) (made_above w i (e ∷ es) (ranked i e.0 Less (sym k), all_above i e.0 es (ranked i e.0 Less (sym k)) s.0))
    by Equal k rest = absurd (a.0 (ranked i e.0 Equal (sym k)))
    by Greater k rest = ap (add_entry e.0 e.1.0 (piece w e.1)) rest ∙ later_put i e.0 f.0 e.1.0 (piece w f) (piece w e.1) (entries_folded w es) k

-- the fields with an index alone
abbrev only_indexed : Option ℕ → List ℕ → Piece → Option (List Field × ℕ) → Option (List Field × ℕ)
only_indexed None name p r = r
only_indexed (Some i) name p r = add_piece name p r

abbrev indexed_folded : Costs → List Field → Option (List Field × ℕ)
indexed_folded w [] = Some ([], 0)
indexed_folded w (f ∷ fs) = only_indexed (index_of f.0) f.0 (piece w f) (indexed_folded w fs)

abbrev merge : Option (Entries × ℕ) → Option (List Field × ℕ) → Option (Entries × ℕ)
merge None q = None
merge (Some r) None = None
merge (Some r) (Some q) = Some (indexed_from r.0 q.0, r.1 + q.1)

merge_nothing : (r : Option (Entries × ℕ)) → r ≡ merge r (Some ([], 0))
merge_nothing None = refl
merge_nothing (Some r) = ap (λ c. Some (r.0, c)) (let e : r.1 ≡ r.1 + 0 = omega arith in e)

merge_step : (i : ℕ) (name : List ℕ) (p : Piece) (r : Option (Entries × ℕ)) (q : Option (List Field × ℕ)) → index_of name ≡ Some i → merge (put_entry i name p r) q ≡ merge r (add_piece name p q)
merge_step i name None None q e = refl
merge_step i name None (Some r) q e = refl
merge_step i name (Some p) None q e = refl
merge_step i name (Some p) (Some r) None e = refl
merge_step i name (Some p) (Some r) (Some q) e = ap (λ es. Some (es, (p.1 + r.1) + q.1)) (by p.0) ∙ ap (λ c. Some (indexed_from r.0 (cons_kept name p.0 q.0), c)) (omega arith)
  where
    by : (o : Option ViewTree) → indexed_from (put_kept i name o r.0) q.0 ≡ indexed_from r.0 (cons_kept name o q.0)
    by None = refl
    by (Some u) = sym (ap (λ j. indexed_from (with_indexed r.0 j (name, u)) q.0) e)

-- no field's index is among those of the entries
abbrev AreFresh : Entries → List Field → Type 0
AreFresh es fs = AllByRecursion (λ (f : Field). (i : ℕ) → index_of f.0 ≡ Some i → IsAbsent i es) fs

absent_inserted : (j i : ℕ) (f : Field) (es : Entries) → ¬ (j ≡ i) → IsAbsent j es → IsAbsent j (insert_entry nat_cmp es i f)
absent_inserted j i f [] h a = (h, tt)
absent_inserted j i f (e ∷ es) h a = by (nat_cmp i e.0) (absent_inserted j i f es h a.1)
  where
    by : (o : Ordering) → IsAbsent j (insert_entry nat_cmp es i f) → IsAbsent j (match_ordering o ((i, f) ∷ e ∷ es) ((e.0, f) ∷ es) (e ∷ insert_entry nat_cmp es i f))
    by Less rest = (h, a)
    by Equal rest = a
    by Greater rest = (a.0, rest)

still_fresh : (i : ℕ) (f : Field) (es : Entries) (fs : List Field) → index_of f.0 ≡ Some i → AllByRecursion (λ k. bytes_eq f.0 k ≡ false) (keys_of fs) → AreFresh es fs → AreFresh (insert_entry nat_cmp es i f) fs
still_fresh i f es [] e d a = tt
still_fresh i f es (g ∷ fs) e d a = (
  λ j k. absent_inserted j i f es
      (λ same. true≢false (sym ((bytes_eq-Decides f.0 g.0).1 ((index_is f.0 i e).is ∙ (ap decimal (sym same) ∙ sym (index_is g.0 j k).is))) ∙ d.0)) (a.0 j k),
  still_fresh i f es fs e d.1 a.1,
)

indexed_merged : (w : Costs) (fs : List Field) (es : Entries) → IsDistinct bytes_eq (keys_of fs) → AreSorted es → AreFresh es fs → entries_folded w (indexed_from es fs) ≡ merge (entries_folded w es) (indexed_folded w fs)
unfolding IsDistinct
indexed_merged w [] es d s a = merge_nothing (entries_folded w es)
indexed_merged w (f ∷ fs) es d s a = by (index_of f.0) refl (λ is. indexed_merged w fs is d.1)
  where
    by : (o : Option ℕ) → index_of f.0 ≡ o → ((is : Entries) → AreSorted is → AreFresh is fs → entries_folded w (indexed_from is fs) ≡ merge (entries_folded w is) (indexed_folded w fs))
        → entries_folded w (indexed_from (with_indexed es o f) fs) ≡ merge (entries_folded w es) (only_indexed o f.0 (piece w f) (indexed_folded w fs))
    by None e rest = rest es s a.1
    by (Some i) e rest =
        rest (insert_entry nat_cmp es i f) (sorted_inserted i f es s) (still_fresh i f es fs e d.0 a.1)
        ∙ (ap (λ r. merge r (indexed_folded w fs)) (put_folded w i f es s (a.0 i e)) ∙ merge_step i f.0 (piece w f) (entries_folded w es) (indexed_folded w fs) e)

-- fields are those with an index and the others
abbrev IsSplit : Option (List Field × ℕ) → Option (List Field × ℕ) → Option (List Field × ℕ) → Type 0
IsSplit None None o = Unit {0}
IsSplit None (Some q) None = Unit {0}
IsSplit None (Some q) (Some o) = ⊥
IsSplit (Some r) None o = ⊥
IsSplit (Some r) (Some q) None = ⊥
IsSplit (Some r) (Some q) (Some o) = ((es : Entries) → indexed_from es r.0 ≡ indexed_from es q.0) × (others_of r.0 ≡ o.0) × (r.1 ≡ q.1 + o.1)

split_other : (name : List ℕ) (p : Piece) (r q o : Option (List Field × ℕ)) → index_of name ≡ None → IsSplit r q o → IsSplit (add_piece name p r) q (add_piece name p o)
split_other name None None None o e s = tt
split_other name None None (Some q) None e s = tt
split_other name None None (Some q) (Some o) e s = absurd s
split_other name None (Some r) None o e s = absurd s
split_other name None (Some r) (Some q) None e s = absurd s
split_other name None (Some r) (Some q) (Some o) e s = tt
split_other name (Some p) None None o e s = tt
split_other name (Some p) None (Some q) None e s = tt
split_other name (Some p) None (Some q) (Some o) e s = absurd s
split_other name (Some p) (Some r) None o e s = absurd s
split_other name (Some p) (Some r) (Some q) None e s = absurd s
split_other name (Some p) (Some r) (Some q) (Some o) e s = (λ es. indexed es p.0 ∙ s.0 es, others p.0, (let k : r.1 ≡ q.1 + o.1 = s.2 in omega arith))
  where
    indexed : (es : Entries) (u : Option ViewTree) → indexed_from es (cons_kept name u r.0) ≡ indexed_from es r.0
    indexed es None = refl
    indexed es (Some v) = ap (λ j. indexed_from (with_indexed es j (name, v)) r.0) e

    others : (u : Option ViewTree) → others_of (cons_kept name u r.0) ≡ cons_kept name u o.0
    others None = s.1
    others (Some v) = ap (λ j. with_other j (name, v) (others_of r.0)) e ∙ ap (λ fs. (name, v) ∷ fs) s.1

split_indexed : (i : ℕ) (name : List ℕ) (p : Piece) (r q o : Option (List Field × ℕ)) → index_of name ≡ Some i → IsSplit r q o → IsSplit (add_piece name p r) (add_piece name p q) o
split_indexed i name None r q o e s = tt
split_indexed i name (Some p) None None o e s = tt
split_indexed i name (Some p) None (Some q) None e s = tt
split_indexed i name (Some p) None (Some q) (Some o) e s = absurd s
split_indexed i name (Some p) (Some r) None o e s = absurd s
split_indexed i name (Some p) (Some r) (Some q) None e s = absurd s
split_indexed i name (Some p) (Some r) (Some q) (Some o) e s = (λ es. indexed es p.0, others p.0, (let k : r.1 ≡ q.1 + o.1 = s.2 in omega arith))
  where
    indexed : (es : Entries) (u : Option ViewTree) → indexed_from es (cons_kept name u r.0) ≡ indexed_from es (cons_kept name u q.0)
    indexed es None = s.0 es
    indexed es (Some v) = s.0 (with_indexed es (index_of name) (name, v))

    others : (u : Option ViewTree) → others_of (cons_kept name u r.0) ≡ o.0
    others None = s.1
    others (Some v) = ap (λ j. with_other j (name, v) (others_of r.0)) e ∙ s.1

split : (w : Costs) (fs : List Field) → IsSplit (folded w fs) (indexed_folded w fs) (folded w (others_of fs))
split w [] = (λ es. refl, refl, omega arith)
split w (f ∷ fs) = by (index_of f.0) refl (split w fs)
  where
    by : (j : Option ℕ) → index_of f.0 ≡ j → IsSplit (folded w fs) (indexed_folded w fs) (folded w (others_of fs)) → IsSplit (folded w (f ∷ fs)) (only_indexed j f.0 (piece w f) (indexed_folded w fs)) (folded w (with_other j f (others_of fs)))
    by None e s = split_other f.0 (piece w f) (folded w fs) (indexed_folded w fs) (folded w (others_of fs)) e s
    by (Some i) e s = split_indexed i f.0 (piece w f) (folded w fs) (indexed_folded w fs) (folded w (others_of fs)) e s

ordered_split : (r q o : Option (List Field × ℕ)) → IsSplit r q o → both (mapped values_of (merge (Some ([], 0)) q)) o ≡ mapped in_key_order r
ordered_split None None o s = refl
ordered_split None (Some q) None s = refl
ordered_split None (Some q) (Some o) s = absurd s
ordered_split (Some r) None o s = absurd s
ordered_split (Some r) (Some q) None s = absurd s
ordered_split (Some r) (Some q) (Some o) s =
    ap (λ es. Some (values_of es ++ o.0, (0 + q.1) + o.1)) (sym (s.0 []))
    ∙ (ap (λ fs. Some (values_of (indexed_from [] r.0) ++ fs, (0 + q.1) + o.1)) (sym s.1)
    ∙ ap (λ c. Some (in_key_order r.0, c)) (let k : r.1 ≡ q.1 + o.1 = s.2 in omega arith))

none_found : (fs : List Field) → AreFresh [] fs
none_found [] = tt
none_found (f ∷ fs) = (λ i e. tt, none_found fs)

-- what is made of fields in the order of keys is what is made of them, in that order
order_folded : (w : Costs) (fs : List Field) → IsDistinct bytes_eq (keys_of fs) → folded w (in_key_order fs) ≡ mapped in_key_order (folded w fs)
order_folded w fs d =
    both_folded w (values_of (indexed_from [] fs)) (others_of fs)
    ∙ (ap (λ r. both r (folded w (others_of fs))) (values_folded w (indexed_from [] fs) ∙ ap (mapped values_of) (indexed_merged w fs [] d tt (none_found fs)))
    ∙ ordered_split (folded w fs) (indexed_folded w fs) (folded w (others_of fs)) (split w fs))

nothing_behind : (r : Option (List Field × ℕ)) → behind [] r ≡ r
nothing_behind None = refl
nothing_behind (Some r) = refl

recorded : (order : List Field → List Field) (r : Option (List Field × ℕ)) (l : ℕ) → as_record order (spend r l) ≡ as_record (λ fs. fs) (spend (mapped order r) l)
recorded order None l = refl
recorded order (Some r) l = by (nat_le r.1 l)
  where
    by : (b : Bool) → as_record order (if b then Ok (r.0, l - r.1) else Err TooBig) ≡ as_record (λ fs. fs) (if b then Ok (order r.0, l - r.1) else Err TooBig)
    by true = refl
    by false = refl

pub in_any_order : (to : ViewTree → ℕ → Spent ViewTree) → ((t : ViewTree) → Paid (to t)) → (fs : List Field) → IsDistinct bytes_eq (keys_of fs) → (l : ℕ) → as_record (λ gs. gs) (unfold_fields modes.Json to (in_key_order fs) [] l) ≡ as_record in_key_order (unfold_fields modes.Json to fs [] l)
in_any_order to paid fs d l =
    let w : Costs = λ t. (paid t).cost in
    let is = λ (t : ViewTree) (k : ℕ). (paid t).is k in
    ap (as_record (λ gs. gs)) (fields_folded to w is (in_key_order fs) [] l ∙ ap (λ r. spend r l) (nothing_behind (folded w (in_key_order fs)) ∙ order_folded w fs d))
    ∙ (sym (recorded in_key_order (folded w fs) l) ∙ sym (ap (as_record in_key_order) (fields_folded to w is fs [] l ∙ ap (λ r. spend r l) (nothing_behind (folded w fs)))))
