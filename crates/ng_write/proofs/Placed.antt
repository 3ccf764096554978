-- The place of a local, and what stands there.
use Rattle.std.proofs.Common.{◌≡◌, ◌∙◌, ◌<◌, ◌+◌, ℕ, suc, Bool, true, false, List, [], ◌∷◌, length, refl, ap, arith, bytes_eq, Option, Some, None, if◌then◌else◌, slice_set, subst}
use Rattle.std.specs.Prelude.{slice_index_or}
use Rattle.indexmap.specs.IndexMap.{insert_entry}
use Rattle.ng_base.specs.declared.value.Value.{Value}
use Rattle.ng_base.specs.declared.value.Value.TheVariants.{Undefined}
use Rattle.ng_write.specs.Assigning.{is_local, place_among, locals_after}

abbrev pub Named : Type 0
Named = List ℕ × Value

-- a local of a place that is found there
pub record IsPut (ls : List Named) (name : List ℕ) (start k : ℕ) : Type 0 where
  pub at : ℕ
  pub place : k ≡ start + at
  pub within : at < length ls
  pub there : is_local ls name ≡ true
  pub put : (v : Value) → slice_set ls at ((slice_index_or ls at ([], Undefined)).0, v) ≡ insert_entry bytes_eq ls name v

abbrev pub Placed : List Named → List ℕ → ℕ → Option ℕ → Type 0
Placed ls name start None = is_local ls name ≡ false
Placed ls name start (Some k) = IsPut ls name start k

placed : (ls : List Named) (name : List ℕ) (start : ℕ) → Placed ls name start (place_among name start ls)
placed [] name start = refl
placed (l ∷ ls) name start = by (bytes_eq name l.0) refl (place_among name (suc start) ls) (placed ls name (suc start))
  where
    by : (b : Bool) → bytes_eq name l.0 ≡ b → (o : Option ℕ) → Placed ls name (suc start) o → Placed (l ∷ ls) name start (if b then Some start else o)
    by true e o h = record {
      at = 0;
      place = omega arith;
      within = omega arith;
      there = rw e refl;
      put = λ v. rw e refl;
    }
    by false e None h = rw e h
    by false e (Some k) h = record {
      at = suc h.at;
      place = let p : k ≡ suc start + h.at = h.place in omega arith;
      within = let w : h.at < length ls = h.within in omega arith;
      there = rw e h.there;
      put = λ v. rw e (ap (λ xs. l ∷ xs) (h.put v));
    }

from_place : (ls : List Named) (name : List ℕ) (o : Option ℕ) → place_among name 0 ls ≡ o → Placed ls name 0 o
from_place ls name o e = subst (Placed ls name 0) e (placed ls name 0)

pub not_local : (ls : List Named) (name : List ℕ) → place_among name 0 ls ≡ None → is_local ls name ≡ false
not_local ls name e = from_place ls name None e

pub is_local_at : (ls : List Named) (name : List ℕ) (k : ℕ) → place_among name 0 ls ≡ Some k → is_local ls name ≡ true
is_local_at ls name k e = let p = from_place ls name (Some k) e in p.there

pub within_locals : (ls : List Named) (name : List ℕ) (k : ℕ) → place_among name 0 ls ≡ Some k → k < length ls
within_locals ls name k e =
    let p = from_place ls name (Some k) e in
    let same : k ≡ 0 + p.at = p.place in
    let within : p.at < length ls = p.within in
    omega arith

pub put_local : (ls : List Named) (name : List ℕ) (k : ℕ) (v : Value) → place_among name 0 ls ≡ Some k → slice_set ls k ((slice_index_or ls k ([], Undefined)).0, v) ≡ locals_after ls name v
put_local ls name k v e =
    let p = from_place ls name (Some k) e in
    let same : k ≡ 0 + p.at = p.place in
    let here : k ≡ p.at = omega arith in
    ap (λ i. slice_set ls i ((slice_index_or ls i ([], Undefined)).0, v)) here
    ∙ (p.put v ∙ rw p.there refl)

pub kept_locals : (ls : List Named) (name : List ℕ) (v : Value) → place_among name 0 ls ≡ None → ls ≡ locals_after ls name v
kept_locals ls name v e = let no = not_local ls name e in rw no refl

pub ruleset places = (not_local, is_local_at, within_locals, put_local, kept_locals)
