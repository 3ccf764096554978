-- The item of an array at a whole number: the number's text is the index that it spells, and not `length`.
use Rattle.std.proofs.Common.{◌≡◌, ◌∙◌, ◌<◌, ◌≤◌, ◌+◌, ◌-◌, ◌*◌, ◌^◌, ◌/◌, ◌%◌, ◌==◌, ◌&&◌, ℕ, zero, suc, pos, Bool, true, false, List, [], ◌∷◌, ◌++◌, refl, sym, ap, arith, nat_lt, bytes_eq, if◌then◌else◌, Option, Some, None, slice_get, append_assoc, append-nil, decimal, length}
use Rattle.std.specs.Prelude.{Result, Ok, codes, option_and_then}
use Rattle.std.proofs.lemmas.Bool.Decides.{nat_tests}
use Rattle.std.proofs.lemmas.Fmt.{decimal_by_steps, decimal_digit}
use Rattle.std.proofs.lemmas.Slice.Eq.{bytes_eq-Decides}
use Rattle.std.specs.Char.{is_ascii_digit}
use Rattle.std.specs.Map.{lookup}
use Rattle.ng_base.specs.Meets.{◌>>=◌}
use Rattle.ng_base.specs.Objects.{Object, object_at, is_array, own, index_of, only_zero, spelled}
use Rattle.ng_base.specs.Views.{ViewTree, prim}
use Rattle.ng_base.specs.declared.fault.Fault.{Fault}
use Rattle.ng_base.specs.declared.name.Oid.{Oid}
use Rattle.ng_base.specs.declared.value.Value.{Value}
use Rattle.ng_base.specs.declared.value.Value.TheVariants as value
use Rattle.ng_language.specs.Objects.{look, items_at}
use Rattle.ng_language.specs.Texts.{to_text}
use Rattle.ng_language.specs.Unfolding.{level_limit, node_limit}
use Rattle.ng_store.proofs.Looks.{looks_found}
use Rattle.ng_members.specs.Members.{is_length, count, or_undefined, object_member, member, item}

-- digits that begin with none that is zero, read as the number that they spell
record Spells (n : ℕ) (ds : List ℕ) : Type 0 where
  first : ℕ
  rest : List ℕ
  is : ds ≡ first ∷ rest
  apart : (first == 48) ≡ false
  reads : (cs : List ℕ) → spelled 0 (ds ++ cs) ≡ spelled n cs

-- one digit more
digit_read : (n m c : ℕ) (cs : List ℕ) → is_ascii_digit c ≡ true → 10 * n + (c - 48) ≡ m → m < 4294967295 → spelled n (c ∷ cs) ≡ spelled m cs
digit_read n m c cs d e l =
    let k : nat_lt (10 * n + (c - 48)) 4294967295 ≡ true = grind (arith, nat_tests, e, l) in
    rw (d, k, e) refl

a_digit : (c : ℕ) → 48 ≤ c → c ≤ 57 → is_ascii_digit c ≡ true
a_digit c low high = grind (arith, nat_tests, low, high)

no_zero : (c : ℕ) → 48 < c → (c == 48) ≡ false
no_zero c h = grind (arith, nat_tests, h)

one_digit : (n : ℕ) → n < 10 → 0 < n → Spells n ((48 + n) ∷ [])
one_digit n h p = record {
  first = 48 + n;
  rest = [];
  is = refl;
  apart = no_zero (48 + n) (omega arith);
  reads = λ cs. digit_read 0 n (48 + n) cs (a_digit (48 + n) (omega arith) (omega arith)) (omega arith) (omega arith);
}

digits_more : (n : ℕ) (ds : List ℕ) → 10 ≤ n → n < 4294967295 → Spells (n / 10) ds → Spells n (ds ++ ((48 + n % 10) ∷ []))
digits_more n ds h l s = record {
  first = s.first;
  rest = s.rest ++ ((48 + n % 10) ∷ []);
  is = ap (λ x. x ++ ((48 + n % 10) ∷ [])) s.is;
  apart = s.apart;
  reads = λ cs.
      ap (spelled 0) (append_assoc ds ((48 + n % 10) ∷ []) cs)
      ∙ (s.reads ((48 + n % 10) ∷ cs)
      ∙ digit_read (n / 10) n (48 + n % 10) cs (a_digit (48 + n % 10) (omega arith) (omega arith)) (omega arith) l);
}

spells : (n : ℕ) → n < 2 ^ 64 → 0 < n → n < 4294967295 → Spells n (decimal n)
spells =
    decimal_by_steps (λ n ds. 0 < n → n < 4294967295 → Spells n ds) (λ n h p l. one_digit n h p)
    (λ n ds h s p l. digits_more n ds h l (s (omega arith) (omega arith)))

-- the decimal of a number below 2^32 - 1 is an index
pub decimal_index : (n : ℕ) → n < 4294967295 → index_of (decimal n) ≡ Some n
decimal_index zero l = ap index_of (decimal_digit 0 (omega arith))
decimal_index (suc n) l =
    let s = spells (suc n) (omega arith) (omega arith) l in
    ap index_of s.is
    ∙ (ap (λ b. if b then only_zero s.rest else spelled 0 (s.first ∷ s.rest)) s.apart
    ∙ (ap (spelled 0) (sym s.is) ∙ (ap (spelled 0) (sym (append-nil (decimal (suc n)))) ∙ s.reads [])))

-- a name that is an index is not `length`
not_length : (name : List ℕ) (i : ℕ) → index_of name ≡ Some i → is_length name ≡ false
not_length name i e = by (is_length name) refl
  where
    by : (b : Bool) → is_length name ≡ b → is_length name ≡ false
    by true h =
        let same : name ≡ codes "length" = (bytes_eq-Decides name (codes "length")).0 h in
        let none : index_of (codes "length") ≡ None = refl in
        let some : Some i ≡ None = sym e ∙ (ap index_of same ∙ none) in
        absurd (cc)
    by false h = h

number_text : (objects : List Object) (i : ℕ) → to_text objects (prim (value.Int (pos i))) ≡ Ok (decimal i)
unfolding level_limit node_limit
number_text objects i = refl

array_member : (objects : List Object) (o : ℕ) (name : List ℕ) (i : ℕ) (v : Value) → is_array (object_at objects o).kind ≡ true → index_of name ≡ Some i → slice_get (items_at objects o) i ≡ Some v →
    object_member objects o name ≡ prim v
array_member objects o name i v k e g =
    let own_is : own objects o name ≡ Some v =
    ap (λ (b : Bool). if b then option_and_then (λ j. slice_get (items_at objects o) j) (index_of name) else lookup (bytes_eq name) (object_at objects o).properties) k
    ∙ (ap (option_and_then (λ j. slice_get (items_at objects o) j)) e ∙ g) in
    ap (λ (b : Bool). if b && is_length name then count (length (items_at objects o)) else or_undefined (look objects o name)) k
    ∙ (ap (λ (b : Bool). if b then count (length (items_at objects o)) else or_undefined (look objects o name)) (not_length name i e)
    ∙ ap or_undefined (looks_found objects name o v own_is))

-- an array's item at a whole number
pub item_there : (objects : List Object) (o : Oid) (i : ℕ) (v : Value) → is_array (object_at objects o.0).kind ≡ true → i < 4294967295 → slice_get (items_at objects o.0) i ≡ Some v →
    item objects (prim (value.Obj o)) (prim (value.Int (pos i))) ≡ Ok (prim v)
unfolding item member
item_there objects o i v k l g =
    ap (λ (r : Result (List ℕ) Fault). r >>= λ name. Ok (member objects (prim (value.Obj o)) name)) (number_text objects i)
    ∙ ap (λ (t : ViewTree). Ok t) (array_member objects o.0 (decimal i) i v k (decimal_index i l) g)
