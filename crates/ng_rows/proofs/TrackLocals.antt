-- The locals of a track expression, as their values are put in their places.
use Rattle.std.proofs.Common.{◌≡◌, ◌∙◌, ◌<◌, ℕ, List, [], ◌∷◌, Option, Some, None, refl, ap, sym, drop, length, arith}
use Rattle.std.specs.Prelude.{pos, slice_set, slice_index_or}
use Rattle.ng_base.specs.declared.value.Value.{Value}
use Rattle.ng_base.specs.Objects.{StandsAmong}
use Rattle.ng_base.specs.declared.value.Value.TheVariants.{Int, Undefined}
use Rattle.ng_drawing.specs.Template.{Repeated}
use Rattle.ng_rows.specs.Tracking.{Item, index_name, key_local, key_value, track_locals}
use Rattle.ng_rows.specs.TrackingOf.{AreLocals, local_names}
use Rattle.ng_members.specs.Leaves.{Local, LocalsStand}

abbrev pub local : List ℕ → Value → Local
local n v = (n, v)

-- a local at a place gets another value
abbrev pub put_in : List Local → ℕ → Value → List Local
put_in ls i v = slice_set ls i ((slice_index_or ls i ([], Undefined)).0, v)

key_names : (k : Option (List ℕ)) (v w : Value) → local_names (key_local k v) ≡ local_names (key_local k w)
key_names None v w = refl
key_names (Some k) v w = refl

-- those of an entry have their names
pub tracked_names : (r : Repeated) (i : ℕ) (x : Item) → AreLocals r (track_locals r i x)
tracked_names r i x = ap (λ (ns : List (List ℕ)). index_name ∷ r.name ∷ ns) (key_names r.key (key_value i x.entry.name) Undefined)

-- there are two at least
pub two_there : (ls : List Local) (n m : List ℕ) (ns : List (List ℕ)) → local_names ls ≡ n ∷ m ∷ ns → 1 < length ls
two_there [] n m ns e = absurd (cc)
two_there (l ∷ []) n m ns e = absurd (cc)
two_there (l ∷ k ∷ ls) n m ns e = omega arith

pub two_still : (ls one : List Local) (n m : List ℕ) (ns : List (List ℕ)) (v : Value) → local_names ls ≡ n ∷ m ∷ ns → one ≡ put_in ls 0 v → 1 < length one
two_still [] one n m ns v e is = absurd (cc)
two_still (l ∷ []) one n m ns v e is = absurd (cc)
two_still (l ∷ k ∷ ls) one n m ns v e is =
    let begun : one ≡ local l.0 v ∷ k ∷ ls = is in
    let same : length one ≡ length (local l.0 v ∷ k ∷ ls) = ap (λ (xs : List Local). length xs) begun in
    omega (arith, same)

-- the first two get other values
pub two_put : (ls one two : List Local) (n m : List ℕ) (ns : List (List ℕ)) (v w : Value) → local_names ls ≡ n ∷ m ∷ ns → one ≡ put_in ls 0 v → two ≡ put_in one 1 w → two ≡ local n v ∷ local m w ∷ drop 2 ls
two_put [] one two n m ns v w e first second = absurd (cc)
two_put (l ∷ []) one two n m ns v w e first second = absurd (cc)
two_put (l ∷ k ∷ ls) one two n m ns v w e first second =
    let begun : l.0 ≡ n = cc in
    let next : k.0 ≡ m = cc in
    let one_is : one ≡ local l.0 v ∷ k ∷ ls = first in
    let two_is : put_in (local l.0 v ∷ k ∷ ls) 1 w ≡ local l.0 v ∷ local k.0 w ∷ ls = refl in
    second ∙ (ap (λ (xs : List Local). put_in xs 1 w) one_is ∙ (two_is
    ∙ (ap (λ (x : List ℕ). local x v ∷ local k.0 w ∷ ls) begun ∙ ap (λ (x : List ℕ). local n v ∷ local x w ∷ ls) next)))

-- and those behind them keep their names
pub rest_named : (ls : List Local) (n m : List ℕ) (ns : List (List ℕ)) → local_names ls ≡ n ∷ m ∷ ns → local_names (drop 2 ls) ≡ ns
rest_named [] n m ns e = absurd (cc)
rest_named (l ∷ []) n m ns e = absurd (cc)
rest_named (l ∷ k ∷ ls) n m ns e = cc

pub none_named : (ls : List Local) → local_names ls ≡ [] → ls ≡ []
none_named [] e = refl
none_named (l ∷ ls) e = absurd (cc)

-- a third is there, and gets another value
pub third_there : (a b : Local) (ls : List Local) (k : List ℕ) → local_names ls ≡ k ∷ [] → 2 < length (a ∷ b ∷ ls)
third_there a b [] k e = absurd (cc)
third_there a b (l ∷ ls) k e = omega arith

pub third_put : (a b : Local) (ls now : List Local) (k : List ℕ) (v : Value) → local_names ls ≡ k ∷ [] → now ≡ put_in (a ∷ b ∷ ls) 2 v → now ≡ a ∷ b ∷ local k v ∷ []
third_put a b [] now k v e is = absurd (cc)
third_put a b (l ∷ []) now k v e is =
    let named : l.0 ≡ k = cc in
    let put : now ≡ a ∷ b ∷ local l.0 v ∷ [] = is in
    put ∙ ap (λ (x : List ℕ). a ∷ b ∷ local x v ∷ []) named
third_put a b (l ∷ j ∷ ls) now k v e is = absurd (cc)

abbrev rest_of : Repeated → List (List ℕ)
rest_of r = local_names (key_local r.key Undefined)

-- as the values of an entry are put there
module _ (r : Repeated) (ls one two : List Local) (i : ℕ) (x : Item) (v w : Value) (names : AreLocals r ls) (first : one ≡ put_in ls 0 v) (second : two ≡ put_in one 1 w) (place : v ≡ Int (pos i)) (item : w ≡ x.value) where
  put : two ≡ local index_name v ∷ local r.name w ∷ drop 2 ls
  put = two_put ls one two index_name r.name (rest_of r) v w names first second

  rest : local_names (drop 2 ls) ≡ rest_of r
  rest = rest_named ls index_name r.name (rest_of r) names

  values : (k : List Local) → local index_name v ∷ local r.name w ∷ k ≡ local index_name (Int (pos i)) ∷ local r.name x.value ∷ k
  values k = ap (λ (a : Value). local index_name a ∷ local r.name w ∷ k) place ∙ ap (λ (a : Value). local index_name (Int (pos i)) ∷ local r.name a ∷ k) item

  with_key : (k : Option (List ℕ)) → r.key ≡ k → local index_name (Int (pos i)) ∷ local r.name x.value ∷ key_local k (key_value i x.entry.name) ≡ track_locals r i x
  with_key k is = ap (λ (o : Option (List ℕ)). local index_name (Int (pos i)) ∷ local r.name x.value ∷ key_local o (key_value i x.entry.name)) (sym is)

  named : (k : Option (List ℕ)) → r.key ≡ k → local_names (drop 2 ls) ≡ local_names (key_local k Undefined)
  named k is = rest ∙ ap (λ (o : Option (List ℕ)). local_names (key_local o Undefined)) is

  pub set_two : r.key ≡ None → two ≡ track_locals r i x
  set_two is =
      put ∙ (ap (λ (k : List Local). local index_name v ∷ local r.name w ∷ k) (none_named (drop 2 ls) (named None is))
      ∙ (values [] ∙ with_key None is))

  pub third_is : (k : List ℕ) → r.key ≡ Some k → 2 < length two
  third_is k is =
      let many = third_there (local index_name v) (local r.name w) (drop 2 ls) k (named (Some k) is) in
      let same = ap (λ (xs : List Local). length xs) put in
      omega (arith, many, same)

  pub set_three : (k : List ℕ) (three : List Local) (u : Value) → r.key ≡ Some k → three ≡ put_in two 2 u → u ≡ key_value i x.entry.name → three ≡ track_locals r i x
  set_three k three u is third key =
      third_put (local index_name v) (local r.name w) (drop 2 ls) three k u (named (Some k) is) (third ∙ ap (λ (xs : List Local). put_in xs 2 u) put)
      ∙ (ap (λ (a : Value). local index_name v ∷ local r.name w ∷ local k a ∷ []) key
      ∙ (values (local k (key_value i x.entry.name) ∷ []) ∙ with_key (Some k) is))

-- the values name objects that stand
pub tracked_stand : (n : ℕ) (r : Repeated) (i : ℕ) (x : Item) → StandsAmong n x.value → LocalsStand n (track_locals r i x)
tracked_stand n r i x h = (tt, (h, by r.key x.entry.name))
  where
    by : (k name : Option (List ℕ)) → LocalsStand n (key_local k (key_value i name))
    by None name = tt
    by (Some k) None = (tt, tt)
    by (Some k) (Some m) = (tt, tt)
