-- Names that are set one after another change one object, and leave the others sound.
use Rattle.std.proofs.Common.{◌≡◌, ◌<◌, ◌+◌, ◌∙◌, ℕ, zero, suc, List, [], ◌∷◌, length, drop, drop-cons, add-one, get_or, refl, sym, ap, bytes_eq}
use Rattle.std.specs.List.{AllByRecursion}
use Rattle.indexmap.specs.IndexMap.{insert_entry}
use Rattle.ng_base.specs.Objects.{Object, object_at, StandsAmong}
use Rattle.ng_base.specs.declared.value.Value.{Value}
use Rattle.ng_language.specs.Objects.{AreObjects, update_at, with_property, set_name}
use Rattle.ng_store.proofs.ObjectReads.{object_is}
use Rattle.ng_store.proofs.Sound.{Property, all_inserted, distinct_inserted, sound_updated}
use Rattle.ng_store.specs.SetNames.{set_names, put_names, AreProperties, StaySound}

-- an object with other properties
abbrev pub holding : List Property → Object → Object
holding ps x = record { kind = x.kind; proto = x.proto; items = x.items; properties = ps }

-- an object after names got values
abbrev pub with_all : List (List ℕ) → List Value → Object → Object
with_all ns vs x = holding (put_names x.properties ns vs) x

same_object : (objects : List Object) (o : ℕ) → update_at objects o (λ x. x) ≡ objects
same_object [] o = refl
same_object (x ∷ xs) zero = refl
same_object (x ∷ xs) (suc o) = ap (λ (os : List Object). x ∷ os) (same_object xs o)

changed_twice : (objects : List Object) (o : ℕ) (f g : Object → Object) → update_at (update_at objects o f) o g ≡ update_at objects o (λ x. g (f x))
changed_twice [] o f g = refl
changed_twice (x ∷ xs) zero f g = refl
changed_twice (x ∷ xs) (suc o) f g = ap (λ (os : List Object). x ∷ os) (changed_twice xs o f g)

-- names are set in one change of the object
pub all_set : (objects : List Object) (o : ℕ) (ns : List (List ℕ)) (vs : List Value) → set_names objects o ns vs ≡ update_at objects o (with_all ns vs)
all_set objects o [] vs = sym (same_object objects o)
all_set objects o (n ∷ ns) [] = sym (same_object objects o)
all_set objects o (n ∷ ns) (v ∷ vs) = all_set (set_name objects o n v) o ns vs ∙ changed_twice objects o (with_property n v) (with_all ns vs)

-- the names from a place on
pub names_from : (ns : List (List ℕ)) (i : ℕ) (n : List ℕ) → i < length ns → n ≡ get_or ns i n → drop i ns ≡ n ∷ drop (i + 1) ns
names_from ns i n l is =
    let cut : drop i ns ≡ get_or ns i n ∷ drop (i + 1) ns = rw (add-one, drop-cons ns i n l) refl in
    cut ∙ ap (λ (x : List ℕ). x ∷ drop (i + 1) ns) (sym is)

-- one name more
pub put_sound : (count : ℕ) (ps : List Property) (name : List ℕ) (v : Value) → AreProperties count ps → StandsAmong count v → AreProperties count (insert_entry bytes_eq ps name v)
put_sound count ps name v a s = record {
  stand = all_inserted count ps name v a.stand s;
  distinct = distinct_inserted ps name v a.distinct;
}

-- an object whose properties stay sound leaves the objects sound
pub sound_holding : (objects : List Object) (o : ℕ) (vs : List Value) (ps : List Property) → o < length objects → AllByRecursion (StandsAmong (length objects)) vs → StaySound vs (object_at objects o).properties ps → AreObjects objects → AreObjects (update_at objects o (holding ps))
sound_holding objects o vs ps w stand stay a =
    let here = object_is objects o w a in
    let p = stay (length objects) stand (record { stand = here.properties; distinct = here.distinct }) in
    sound_updated objects o (holding ps)
    (λ k x is. record { earlier = is.earlier; few = is.few; items = is.items; properties = p.stand; distinct = p.distinct }) a
