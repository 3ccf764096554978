-- Attributes in the order of their names: reading keeps it, and in that order each goes to the end.
use Rattle.std.proofs.Common.{◌≡◌, ℕ, false, ◌||◌, List, [], ◌∷◌, ◌++◌, refl, ap, ◌∙◌}
use Rattle.std.specs.Prelude.{⊤}
use Rattle.std.specs.BTreeMap.{insert_entry}
use Rattle.std.specs.Ordering.{is_eq, match_ordering, ordering_reverse}
use Rattle.std.specs.Str.{bytes_eq}
use Rattle.std.specs.declared.cmp.Ordering.{Ordering}
use Rattle.std.specs.declared.cmp.Ordering.TheVariants.{Less, Equal, Greater}
use Rattle.ng_base.specs.Order.{txt_cmp, txt_cmp_total, txt_cmp-eq}
use Rattle.ng_base.proofs.Binds.{if_held, if_false}
use Rattle.ng_markup.specs.Forest.{Attributes}
use Rattle.ng_tags.specs.Attributes.{has_attribute, with_attribute}

-- the names of these are all above a name, or all below it
abbrev pub AllAbove : List ℕ → Attributes → Type 0
AllAbove n [] = ⊤
AllAbove n (a ∷ more) = (txt_cmp n a.0 ≡ Less) × AllAbove n more

abbrev pub AllBelow : List ℕ → Attributes → Type 0
AllBelow n [] = ⊤
AllBelow n (a ∷ more) = (txt_cmp a.0 n ≡ Less) × AllBelow n more

abbrev pub AreSorted : Attributes → Type 0
AreSorted [] = ⊤
AreSorted (a ∷ more) = AllAbove a.0 more × AreSorted more

above_more : (m n : List ℕ) (xs : Attributes) → txt_cmp m n ≡ Less → AllAbove n xs → AllAbove m xs
above_more m n [] l h = tt
above_more m n (x ∷ xs) l h = (txt_cmp_total.trans m n x.0 l h.0, above_more m n xs l h.1)

turned : (m n : List ℕ) → txt_cmp m n ≡ Greater → txt_cmp n m ≡ Less
turned m n h = txt_cmp_total.antisymm n m ∙ ap ordering_reverse h

above_insert : (m k v : List ℕ) (xs : Attributes) → txt_cmp m k ≡ Less → AllAbove m xs → AllAbove m (insert_entry txt_cmp xs k v)
above_insert m k v [] l h = (l, tt)
above_insert m k v (x ∷ xs) l h = by (txt_cmp k x.0) (above_insert m k v xs l h.1)
  where
    by : (o : Ordering) → AllAbove m (insert_entry txt_cmp xs k v) → AllAbove m (match_ordering o ((k, v) ∷ x ∷ xs) ((x.0, v) ∷ xs) (x ∷ insert_entry txt_cmp xs k v))
    by Less i = (l, h)
    by Equal i = h
    by Greater i = (h.0, i)

sorted_insert : (xs : Attributes) (k v : List ℕ) → AreSorted xs → AreSorted (insert_entry txt_cmp xs k v)
sorted_insert [] k v h = (tt, tt)
sorted_insert (x ∷ xs) k v h = by (txt_cmp k x.0) refl (sorted_insert xs k v h.1)
  where
    by : (o : Ordering) → txt_cmp k x.0 ≡ o → AreSorted (insert_entry txt_cmp xs k v) → AreSorted (match_ordering o ((k, v) ∷ x ∷ xs) ((x.0, v) ∷ xs) (x ∷ insert_entry txt_cmp xs k v))
    by Less e i = ((e, above_more k x.0 xs e h.0), h)
    by Equal e i = h
    by Greater e i = (above_insert x.0 k v xs (turned k x.0 e) h.0, i)

-- an attribute more
pub sorted_with : (xs : Attributes) (n v : List ℕ) → AreSorted xs → AreSorted (with_attribute xs n v)
sorted_with xs n v h = if_held (has_attribute xs n) xs (insert_entry txt_cmp xs n v) AreSorted (λ e. h) (λ e. sorted_insert xs n v h)

not_same : (m n : List ℕ) → txt_cmp m n ≡ Less → bytes_eq n m ≡ false
not_same m n h = txt_cmp-eq n m ∙ ap is_eq (txt_cmp_total.antisymm n m ∙ ap ordering_reverse h)

none_has : (xs : Attributes) (n : List ℕ) → AllBelow n xs → has_attribute xs n ≡ false
none_has [] n h = refl
none_has (x ∷ xs) n h = ap (λ b. b || has_attribute xs n) (not_same x.0 n h.0) ∙ none_has xs n h.1

insert_last : (xs : Attributes) (n v : List ℕ) → AllBelow n xs → insert_entry txt_cmp xs n v ≡ xs ++ (n, v) ∷ []
insert_last [] n v h = refl
insert_last (x ∷ xs) n v h =
    ap (λ o. match_ordering o ((n, v) ∷ x ∷ xs) ((x.0, v) ∷ xs) (x ∷ insert_entry txt_cmp xs n v)) (txt_cmp_total.antisymm n x.0 ∙ ap ordering_reverse h.0)
    ∙ ap (λ ys. x ∷ ys) (insert_last xs n v h.1)

-- what is above all goes to the end
pub with_last : (xs : Attributes) (n v : List ℕ) → AllBelow n xs → with_attribute xs n v ≡ xs ++ (n, v) ∷ []
with_last xs n v h = if_false (has_attribute xs n) xs (insert_entry txt_cmp xs n v) (none_has xs n h) ∙ insert_last xs n v h

-- all of the first are below each of the others
abbrev pub AreBelow : Attributes → Attributes → Type 0
AreBelow done [] = ⊤
AreBelow done (a ∷ more) = AllBelow a.0 done × AreBelow done more

below_with : (n : List ℕ) (done : Attributes) (m v : List ℕ) → AllBelow n done → txt_cmp m n ≡ Less → AllBelow n (done ++ (m, v) ∷ [])
below_with n [] m v h l = (l, tt)
below_with n (d ∷ done) m v h l = (h.0, below_with n done m v h.1 l)

pub are_below_with : (done more : Attributes) (m v : List ℕ) → AreBelow done more → AllAbove m more → AreBelow (done ++ (m, v) ∷ []) more
are_below_with done [] m v h a = tt
are_below_with done (x ∷ more) m v h a = (below_with x.0 done m v h.0 a.0, are_below_with done more m v h.1 a.1)

pub none_below : (more : Attributes) → AreBelow [] more
none_below [] = tt
none_below (x ∷ more) = (tt, none_below more)
