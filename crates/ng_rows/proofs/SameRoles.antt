-- Entries that are the same are equal.
use Rattle.std.proofs.Common.{◌≡◌, ◌∙◌, Bool, true, false, Option, None, Some, List, ℕ, refl, ap, sym, true≢false}
use Rattle.std.specs.Prelude.{◌&&◌}
use Rattle.std.proofs.lemmas.Slice.Eq.{bytes_eq-Decides}
use Rattle.ng_base.specs.Views.{ViewTree}
use Rattle.ng_blocks.specs.SameKeys.{same_key, same_key-Decides}
use Rattle.ng_blocks.specs.declared.keys.TrackKey.{TrackKey}
use Rattle.ng_drawing.specs.Roles.{Entry, Role, a_body, a_row, a_named, same_name, same_entry}
use Rattle.ng_rows.specs.RepeatRows.{same_row}
use Rattle.ng_language.specs.Snapshots.{same_view}
use Rattle.ng_value.proofs.Sameness.{same_view_is}

both : (a b : Bool) → (a && b) ≡ true → (a ≡ true) × (b ≡ true)
both true b h = (refl, h)
both false b h = absurd (true≢false (sym h))

name_is : (a b : Option (List ℕ)) → same_name a b ≡ true → a ≡ b
name_is None None h = refl
name_is (Some a) (Some b) h = ap Some ((bytes_eq-Decides a b).0 h)
name_is None (Some b) h = absurd (true≢false (sym h))
name_is (Some a) None h = absurd (true≢false (sym h))

pub entry_is : (e f : Entry) → same_entry e f ≡ true → e ≡ f
entry_is e f h =
    let two = both (same_name e.name f.name) (same_view e.value f.value) h in
    ap (λ (n : Option (List ℕ)). (let x : Entry = record { name = n; value = e.value } in x)) (name_is e.name f.name two.0)
    ∙ ap (λ (v : ViewTree). (let x : Entry = record { name = f.name; value = v } in x)) (same_view_is e.value f.value two.1)

-- and so a body is the row of an entry under its key
pub row_is : (k : TrackKey) (e : Entry) (r : Role) → same_row k e r ≡ true → r ≡ a_row k e
row_is k e a_body h = absurd (true≢false (sym h))
row_is k e (a_row l f) h =
    let two = both (same_key k l) (same_entry e f) h in
    sym (ap (λ (x : TrackKey). a_row x e) ((same_key-Decides k l).0 two.0) ∙ ap (a_row l) (entry_is e f two.1))
row_is k e (a_named w) h = absurd (true≢false (sym h))
