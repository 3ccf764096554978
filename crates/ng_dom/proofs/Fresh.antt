-- A name that has no room stands in nothing that is read.
use Rattle.std.proofs.Common.{◌≡◌, ℕ, Bool, true, false, List, Option, Some, None, refl, ap, ◌∙◌, sym, cond}
use Rattle.std.specs.Prelude.{◌==◌}
use Rattle.std.proofs.lemmas.Bool.{eqb-true}
use Rattle.ng_dom.specs.Lists.{among}
use Rattle.ng_dom.specs.Nodes.{NamedNode, NamedForest, NamedGroups, named_text, named_comment, named_element, named_anchor, nothing_named, named_then, no_groups, group_then, name_of}
use Rattle.ng_dom.specs.Editing.{changed, changed_in, changed_groups}
use Rattle.ng_dom.specs.Rooms.{Rooms, room_of, HasRoom, ReadsInside, ReadsIn, ReadsGroups}
use Rattle.ng_dom.specs.Removal.{Spares, SparesInside, SparesGroups}
use Rattle.ng_dom.specs.Laws.{NewNamesStandApart, NewNamesAreSpared}

module _ (r : Rooms) (k : ℕ) (g : NamedNode → NamedNode) (none : r k ≡ None) where
  apart_by : (b : Bool) (p : Option ℕ) (x y : NamedNode) → (name_of x == k) ≡ b → HasRoom r p x → y ≡ x → cond b (g y) y ≡ x
  apart_by true p x y t has e = absurd (let two : Some (room_of p x) ≡ None = sym has.1 ∙ (ap r (eqb-true (name_of x) k t) ∙ none) in cc)
  apart_by false p x y t has e = e

  mutual
    apart : (p : Option ℕ) (x : NamedNode) → HasRoom r p x → ReadsInside r x → changed k g x ≡ x
    apart p (named_text m t) has h = apart_by (m == k) p (named_text m t) (named_text m t) refl has refl
    apart p (named_comment m t) has h = apart_by (m == k) p (named_comment m t) (named_comment m t) refl has refl
    apart p (named_element m e ats f) has h = apart_by (m == k) p (named_element m e ats f) (named_element m e ats (changed_in k g f)) refl has (ap (named_element m e ats) (all_apart (Some m) f h))
    apart p (named_anchor m gs) has h = apart_by (m == k) p (named_anchor m gs) (named_anchor m (changed_groups k g gs)) refl has (ap (named_anchor m) (groups_apart (Some m) gs h))

    pub all_apart : (p : Option ℕ) (f : NamedForest) → ReadsIn r p f → changed_in k g f ≡ f
    all_apart p nothing_named h = refl
    all_apart p (named_then x f) h = ap (λ (y : NamedNode). named_then y (changed_in k g f)) (apart p x h.0 h.1) ∙ ap (named_then x) (all_apart p f h.2)

    groups_apart : (p : Option ℕ) (gs : NamedGroups) → ReadsGroups r p gs → changed_groups k g gs ≡ gs
    groups_apart p no_groups h = refl
    groups_apart p (group_then f gs) h = ap (λ (y : NamedForest). group_then y (changed_groups k g gs)) (all_apart p f h.0) ∙ ap (group_then f) (groups_apart p gs h.1)

pub new_names_stand_apart : NewNamesStandApart
new_names_stand_apart r p f k g reads none = all_apart r k g none p f reads

module _ (r : Rooms) (names : List ℕ) (none : (q : ℕ) → among q names ≡ true → r q ≡ None) where
  spared_by : (b : Bool) (p : Option ℕ) (x : NamedNode) → among (name_of x) names ≡ b → HasRoom r p x → b ≡ false
  spared_by true p x e has = absurd (let two : Some (room_of p x) ≡ None = sym has.1 ∙ none (name_of x) e in cc)
  spared_by false p x e has = refl

  mutual
    inside_spared : (x : NamedNode) → ReadsInside r x → SparesInside names x
    inside_spared (named_text m t) h = tt
    inside_spared (named_comment m t) h = tt
    inside_spared (named_element m e ats f) h = all_spared (Some m) f h
    inside_spared (named_anchor m gs) h = groups_spared (Some m) gs h

    pub all_spared : (p : Option ℕ) (f : NamedForest) → ReadsIn r p f → Spares names f
    all_spared p nothing_named h = tt
    all_spared p (named_then x f) h = (spared_by (among (name_of x) names) p x refl h.0, inside_spared x h.1, all_spared p f h.2)

    groups_spared : (p : Option ℕ) (gs : NamedGroups) → ReadsGroups r p gs → SparesGroups names gs
    groups_spared p no_groups h = tt
    groups_spared p (group_then f gs) h = (all_spared p f h.0, groups_spared p gs h.1)

pub new_names_are_spared : NewNamesAreSpared
new_names_are_spared r p f names reads none = all_spared r names none p f reads
