-- The own names of an object that was made for a record stand in the order of keys of the record.
use Rattle.std.proofs.Common.{◌≡◌, ◌∙◌, ℕ, false, cond, List, [], ◌∷◌, ◌++◌, map, refl, sym, ap, subst, bytes_eq, if◌then◌else◌, is_some, Option, Some, None, Ordering, Less, Equal, Greater, nat_cmp, decimal}
use Rattle.std.proofs.lemmas.Slice.Eq.{bytes_eq-Decides}
use Rattle.std.specs.BTreeMap.{insert_entry}
use Rattle.std.specs.BTreeSet.{insert_key}
use Rattle.std.specs.Cmp.{ranked}
use Rattle.std.specs.List.{AllByRecursion, IsDistinct}
use Rattle.std.specs.Map.{lookup, keys_of, values_of}
use Rattle.std.specs.Ordering.{match_ordering}
use Rattle.ng_base.specs.Objects.{Object, own_of, index_of, with_index, indices_from, other_names}
use Rattle.ng_base.specs.Views.{ViewFields, no_fields, field_then, fields_list}
use Rattle.ng_base.specs.declared.value.Value.{Value}
use Rattle.ng_language.specs.Unfolding.{Field, with_entry, entries_of, own_entries, with_indexed, indexed_from, with_other, others_of, in_key_order}
use Rattle.ng_store.proofs.Indices.{index_is}
use Rattle.ng_store.proofs.Sound.{Property, unequal}
use Rattle.ng_write.specs.Storing.{plain_with}
use Rattle.ng_pure.specs.Showing.{Shows, NamesShow}
use Rattle.ng_pure.proofs.Shown.{AllBy, FieldSeen, FieldsSeen, all_append}

entry_append : (name : List ℕ) (v : Option Value) (xs ys : List Field) → with_entry name v (xs ++ ys) ≡ with_entry name v xs ++ ys
entry_append name None xs ys = refl
entry_append name (Some v) xs ys = refl

entries_append : (x : Object) (ns ms : List (List ℕ)) → entries_of x (ns ++ ms) ≡ entries_of x ns ++ entries_of x ms
entries_append x [] ms = refl
entries_append x (name ∷ ns) ms = ap (with_entry name (own_of x name)) (entries_append x ns ms) ∙ entry_append name (own_of x name) (entries_of x ns) (entries_of x ms)

-- what stands under an index, and the field of that index
record IsEntry (n from : ℕ) (now : List Object) (x : Object) (i : ℕ) (f : Field) : Type 0 where
  value : Value
  own : own_of x (decimal i) ≡ Some value
  name : decimal i ≡ f.0
  shows : Shows n from now value f.1

abbrev AtIndex : ℕ → ℕ → List Object → Object → ℕ → ℕ × Field → Type 0
AtIndex n from now x i e = (i ≡ e.0) × IsEntry n from now x i e.1

listed : (n from : ℕ) (now : List Object) (x : Object) (is : List ℕ) (es : List (ℕ × Field)) → AllBy (AtIndex n from now x) is es → FieldsSeen n from now (entries_of x (map decimal is)) (values_of es)
listed n from now x [] [] s = tt
listed n from now x [] (e ∷ es) s = absurd s
listed n from now x (i ∷ is) [] s = absurd s
listed n from now x (i ∷ is) (e ∷ es) s =
    let here = s.0.1 in
    subst (λ o. FieldsSeen n from now (with_entry (decimal i) o (entries_of x (map decimal is))) (e.1 ∷ values_of es)) (let k : own_of x (decimal i) ≡ Some here.value = here.own in sym k)
    ((here.name, here.shows), listed n from now x is es s.1)

inserted : (n from : ℕ) (now : List Object) (x : Object) (i : ℕ) (f : Field) → IsEntry n from now x i f → (is : List ℕ) (es : List (ℕ × Field)) → AllBy (AtIndex n from now x) is es → AllBy (AtIndex n from now x) (insert_key nat_cmp is i) (insert_entry nat_cmp es i f)
inserted n from now x i f h [] [] s = ((refl, h), tt)
inserted n from now x i f h [] (e ∷ es) s = absurd s
inserted n from now x i f h (j ∷ is) [] s = absurd s
inserted n from now x i f h (j ∷ is) (e ∷ es) s =
    subst (λ k. AllBy (AtIndex n from now x) (insert_key nat_cmp (j ∷ is) i) (match_ordering (nat_cmp i k) ((i, f) ∷ e ∷ es) ((e.0, f) ∷ es) (e ∷ insert_entry nat_cmp es i f))) s.0.0
    (by (nat_cmp i j) refl (inserted n from now x i f h is es s.1))
  where
    by : (o : Ordering) → nat_cmp i j ≡ o → AllBy (AtIndex n from now x) (insert_key nat_cmp is i) (insert_entry nat_cmp es i f)
        → AllBy (AtIndex n from now x) (match_ordering o (i ∷ j ∷ is) (j ∷ is) (j ∷ insert_key nat_cmp is i)) (match_ordering o ((i, f) ∷ e ∷ es) ((e.0, f) ∷ es) (e ∷ insert_entry nat_cmp es i f))
    by Less k rest = ((refl, h), s)
    by Equal k rest = ((s.0.0, subst (λ m. IsEntry n from now x m f) (ranked i j Equal (sym k)) h), s.1)
    by Greater k rest = (s.0, rest)

-- each named value of a list of them is the object's own
abbrev AreOwn : Object → List Property → Type 0
AreOwn x ps = AllByRecursion (λ (p : Property). own_of x p.0 ≡ Some p.1) ps

indexed_both : (n from : ℕ) (now : List Object) (x : Object) (ps : List Property) (fs : ViewFields) → NamesShow n from now ps fs → AreOwn x ps → (is : List ℕ) (es : List (ℕ × Field)) → AllBy (AtIndex n from now x) is es
    → AllBy (AtIndex n from now x) (indices_from is ps) (indexed_from es (fields_list fs))
indexed_both n from now x [] no_fields s a is es r = r
indexed_both n from now x [] (field_then m t fs) s a is es r = absurd s
indexed_both n from now x (p ∷ ps) no_fields s a is es r = absurd s
indexed_both n from now x (p ∷ ps) (field_then m t fs) s a is es r =
    indexed_both n from now x ps fs s.2 a.1 (with_index is (index_of p.0)) (with_indexed es (index_of m) (m, t))
    (subst (λ k. AllBy (AtIndex n from now x) (with_index is (index_of p.0)) (with_indexed es (index_of k) (k, t))) s.0 (by (index_of p.0) refl))
  where
    by : (o : Option ℕ) → index_of p.0 ≡ o → AllBy (AtIndex n from now x) (with_index is o) (with_indexed es o (p.0, t))
    by None e = r
    by (Some i) e =
        let name : p.0 ≡ decimal i = (index_is p.0 i e).is in
        inserted n from now x i (p.0, t) (record { value = p.1; own = ap (own_of x) (sym name) ∙ a.0; name = sym name; shows = s.1 }) is es r

others_both : (n from : ℕ) (now : List Object) (x : Object) (ps : List Property) (fs : ViewFields) → NamesShow n from now ps fs → AreOwn x ps → FieldsSeen n from now (entries_of x (other_names ps)) (others_of (fields_list fs))
others_both n from now x [] no_fields s a = tt
others_both n from now x [] (field_then m t fs) s a = absurd s
others_both n from now x (p ∷ ps) no_fields s a = absurd s
others_both n from now x (p ∷ ps) (field_then m t fs) s a =
    subst (λ k. FieldsSeen n from now (entries_of x (other_names (p ∷ ps))) (with_other (index_of k) (k, t) (others_of (fields_list fs)))) s.0 (by (index_of p.0) (others_both n from now x ps fs s.2 a.1))
  where
    by : (o : Option ℕ) → FieldsSeen n from now (entries_of x (other_names ps)) (others_of (fields_list fs))
        → FieldsSeen n from now (entries_of x (if is_some o then other_names ps else p.0 ∷ other_names ps)) (with_other o (p.0, t) (others_of (fields_list fs)))
    by (Some i) rest = rest
    by None rest =
        subst (λ o. FieldsSeen n from now (with_entry p.0 o (entries_of x (other_names ps))) ((p.0, t) ∷ others_of (fields_list fs))) (sym a.0)
        ((refl, s.1), rest)

-- names that differ are found
looked_on : (p : Property) (ps qs : List Property) → AllByRecursion (λ k. bytes_eq p.0 k ≡ false) (keys_of qs) → AllByRecursion (λ (q : Property). lookup (bytes_eq q.0) ps ≡ Some q.1) qs → AllByRecursion (λ (q : Property). lookup (bytes_eq q.0) (p ∷ ps) ≡ Some q.1) qs
looked_on p ps [] h a = tt
looked_on p ps (q ∷ qs) h a = (ap (λ b. cond b (Some p.1) (lookup (bytes_eq q.0) ps)) (unequal p.0 q.0 h.0) ∙ a.0, looked_on p ps qs h.1 a.1)

all_looked : (ps : List Property) → IsDistinct bytes_eq (keys_of ps) → AllByRecursion (λ (q : Property). lookup (bytes_eq q.0) ps ≡ Some q.1) ps
unfolding IsDistinct
all_looked [] d = tt
all_looked (p ∷ ps) d =
    (ap (λ b. cond b (Some p.1) (lookup (bytes_eq p.0) ps)) ((bytes_eq-Decides p.0 p.0).1 refl), looked_on p ps ps d.0 (all_looked ps d.1))

-- the own names of an object that was made, in the order of keys
pub plain_entries : (n from : ℕ) (now : List Object) (ps : List Property) (fs : ViewFields) → IsDistinct bytes_eq (keys_of ps) → NamesShow n from now ps fs → FieldsSeen n from now (own_entries (plain_with ps)) (in_key_order (fields_list fs))
plain_entries n from now ps fs d s =
    let x = plain_with ps in
    let own = all_looked ps d in
    subst (λ es. FieldsSeen n from now es (in_key_order (fields_list fs))) (sym (entries_append x (map decimal (indices_from [] ps)) (other_names ps)))
    (all_append (FieldSeen n from now) (entries_of x (map decimal (indices_from [] ps))) (values_of (indexed_from [] (fields_list fs))) (entries_of x (other_names ps)) (others_of (fields_list fs))
    (listed n from now x (indices_from [] ps) (indexed_from [] (fields_list fs)) (indexed_both n from now x ps fs s own [] [] tt))
    (others_both n from now x ps fs s own))
