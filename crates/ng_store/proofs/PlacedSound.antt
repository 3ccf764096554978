-- Objects that JSON is made into name only objects that stand.
use Rattle.std.proofs.Common.{◌≡◌, ◌<◌, ◌≤◌, ◌+◌, ◌^◌, ℕ, ℤ, Bool, true, false, List, [], ◌∷◌, ◌++◌, length, Option, Some, None, refl, sym, subst, arith, bytes_eq, nat_lt, if◌then◌else◌, true≢false, length-append}
use Rattle.std.proofs.lemmas.Bool.Decides.{nat_tests}
use Rattle.std.specs.List.{AllByRecursion, IsDistinct}
use Rattle.std.specs.Map.{keys_of}
use Rattle.std.specs.Str.{chars}
use Rattle.indexmap.specs.IndexMap.{insert_entry}
use Rattle.serde_json.specs.Data.{Data, null, boolean, number, string, array, object, Items, no_items, item, Members, no_members, member}
use Rattle.serde_json.specs.Events.{items_len}
use Rattle.ng_base.specs.Objects.{Object, StandsAmong}
use Rattle.ng_base.specs.declared.value.Value.{Value}
use Rattle.ng_language.specs.Objects.{IsObjectAt, AreObjectsFrom, AreObjects}
use Rattle.ng_store.specs.Json.{Placed, placed, placed_items, placed_members, last_made, array_of, plain_of, int_of, whole, is_long, are_items_long, are_members_long, with_json}
use Rattle.ng_store.proofs.Sound.{Property, all_through, all_append, stands_more, all_inserted, distinct_inserted, from_behind, sound_append}

pub record IsMade (base before : ℕ) (made : List Object) : Type 0 where
  pub sound : AreObjectsFrom (base + length made) base made
  pub grows : before ≤ length made

pub record IsMadeValue (base before : ℕ) (r : Placed Value) : Type 0 where
  pub made : IsMade base before r.1
  pub value : StandsAmong (base + length r.1) r.0

pub record AreMadeItems (base before : ℕ) (r : Placed (List Value)) (n : ℕ) : Type 0 where
  pub made : IsMade base before r.1
  pub items : AllByRecursion (StandsAmong (base + length r.1)) r.0
  pub count : length r.0 ≡ n

abbrev pub PropertiesStand : ℕ → List Property → Type 0
PropertiesStand n ps = AllByRecursion (λ (p : Property). StandsAmong n p.1) ps

pub record AreMadeMembers (base before : ℕ) (r : Placed (List Property)) : Type 0 where
  pub made : IsMade base before r.1
  pub properties : PropertiesStand (base + length r.1) r.0
  pub distinct : IsDistinct bytes_eq (keys_of r.0)

is_last : (base before : ℕ) (made : List Object) (x : Object) → IsMade base before made → IsObjectAt (base + length made) (base + length made) x → IsMadeValue base before (last_made base made x)
is_last base before made x a b =
    let more = length-append made (x ∷ []) in
    record {
      made = record { sound = from_behind base made x a.sound b; grows = omega (arith, a.grows) };
      value = omega arith;
    }

is_array_of : (n : ℕ) (items : List Value) → length items < 2 ^ 32 → AllByRecursion (StandsAmong n) items → IsObjectAt n n (array_of items)
unfolding IsDistinct
is_array_of n items few a = record { earlier = tt; few = few; items = a; properties = tt; distinct = tt }

is_plain_of : (n : ℕ) (properties : List Property) → PropertiesStand n properties → IsDistinct bytes_eq (keys_of properties) → IsObjectAt n n (plain_of properties)
is_plain_of n properties a d = record { earlier = tt; few = omega arith; items = tt; properties = a; distinct = d }

is_int : (n : ℕ) (o : Option ℤ) → StandsAmong n (int_of o)
is_int n None = tt
is_int n (Some z) = tt

nothing_more : (base : ℕ) (made : List Object) (v : Value) → AreObjectsFrom (base + length made) base made → StandsAmong (base + length made) v → IsMadeValue base (length made) (v, made)
nothing_more base made v a s = record { made = record { sound = a; grows = omega arith }; value = s }

short_items : (b : Bool) (c : Bool) → (if b then c else true) ≡ false → (b ≡ true) × (c ≡ false)
short_items true c h = (refl, h)
short_items false c h = absurd (true≢false h)

both_short : (b : Bool) (c : Bool) → (if b then true else c) ≡ false → (b ≡ false) × (c ≡ false)
both_short true c h = absurd (true≢false h)
both_short false c h = (refl, h)

nothing_distinct : IsDistinct bytes_eq (keys_of {X = Value} [])
unfolding IsDistinct
nothing_distinct = tt

mutual
  pub placed_sound : (base : ℕ) (d : Data) (made : List Object) → is_long d ≡ false → AreObjectsFrom (base + length made) base made → IsMadeValue base (length made) (placed base d made)
  placed_sound base null made h a = nothing_more base made _ a tt
  placed_sound base (boolean b) made h a = nothing_more base made _ a tt
  placed_sound base (number n) made h a = nothing_more base made _ a (is_int _ (whole n))
  placed_sound base (string s) made h a = nothing_more base made _ a tt
  placed_sound base (array ds) made h a =
      let short = short_items (nat_lt (items_len ds) 4294967296) (are_items_long ds) h in
      let r = items_sound base ds made [] short.1 a tt in
      let few : length (placed_items base ds made []).0 < 2 ^ 32 = grind (arith, nat_tests, r.count, short.0) in
      is_last base (length made) _ _ r.made (is_array_of _ _ few r.items)
  placed_sound base (object ms) made h a =
      let r = members_sound base ms made [] h a tt (nothing_distinct) in
      is_last base (length made) _ _ r.made (is_plain_of _ _ r.properties r.distinct)

  items_sound : (base : ℕ) (ds : Items) (made : List Object) (done : List Value) → are_items_long ds ≡ false → AreObjectsFrom (base + length made) base made → AllByRecursion (StandsAmong (base + length made)) done → AreMadeItems base (length made) (placed_items base ds made done) (length done + items_len ds)
  items_sound base no_items made done h a s = record { made = record { sound = a; grows = omega arith }; items = s; count = omega arith }
  items_sound base (item d ds) made done h a s =
      let short = both_short (is_long d) (are_items_long ds) h in
      let r = placed_sound base d made short.0 a in
      let p = placed base d made in
      let more : base + length made ≤ base + length p.1 = omega (arith, r.made.grows) in
      let now = all_append (StandsAmong (base + length p.1)) done (p.0 ∷ []) (all_through _ _ (stands_more _ _ more) done s) (r.value, tt) in
      let rest = items_sound base ds p.1 (done ++ p.0 ∷ []) short.1 r.made.sound now in
      record {
        made = record { sound = rest.made.sound; grows = omega (arith, r.made.grows, rest.made.grows) };
        items = rest.items;
        count = omega (arith, rest.count, length-append done (p.0 ∷ []));
      }

  members_sound : (base : ℕ) (ms : Members) (made : List Object) (done : List Property) → are_members_long ms ≡ false → AreObjectsFrom (base + length made) base made → PropertiesStand (base + length made) done → IsDistinct bytes_eq (keys_of done) → AreMadeMembers base (length made) (placed_members base ms made done)
  members_sound base no_members made done h a s e = record { made = record { sound = a; grows = omega arith }; properties = s; distinct = e }
  members_sound base (member k d ms) made done h a s e =
      let short = both_short (is_long d) (are_members_long ms) h in
      let r = placed_sound base d made short.0 a in
      let p = placed base d made in
      let more : base + length made ≤ base + length p.1 = omega (arith, r.made.grows) in
      let before : PropertiesStand (base + length p.1) done = all_through (λ (q : Property). StandsAmong (base + length made) q.1) (λ (q : Property). StandsAmong (base + length p.1) q.1) (λ q. stands_more (base + length made) (base + length p.1) more q.1) done s in
      let now = all_inserted (base + length p.1) done (chars k) p.0 before r.value in
      let rest = members_sound base ms p.1 (insert_entry bytes_eq done (chars k) p.0) short.1 r.made.sound now (distinct_inserted done (chars k) p.0 e) in
      record {
        made = record { sound = rest.made.sound; grows = omega (arith, r.made.grows, rest.made.grows) };
        properties = rest.properties;
        distinct = rest.distinct;
      }

-- what JSON is made into keeps a store sound
pub with_json_sound : (objects : List Object) (d : Data) → is_long d ≡ false → AreObjects objects → AreObjects (with_json objects d)
with_json_sound objects d h a =
    let r = placed_sound (length objects) d [] h tt in
    sound_append objects (placed (length objects) d []).1 a r.made.sound

pub json_stands : (objects : List Object) (d : Data) → is_long d ≡ false → StandsAmong (length (with_json objects d)) (placed (length objects) d []).0
json_stands objects d h =
    let r = placed_sound (length objects) d [] h tt in
    let made = (placed (length objects) d []).1 in
    let e : length objects + length made ≡ length (objects ++ made) = sym (length-append objects made) in
    subst (λ n. StandsAmong n (placed (length objects) d []).0) e r.value
