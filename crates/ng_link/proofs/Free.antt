-- What stands is drawn from some keys alone, so that it shows the same where these do.
use Rattle.std.proofs.Common.{◌≡◌, ◌⊎◌, inl, inr, ◌≤◌, ◌<◌, ◌+◌, ℕ, zero, suc, Bool, true, false, cond, List, [], ◌∷◌, Option, Some, None, refl, ap, ◌∙◌, sym, subst, arith}
use Rattle.std.specs.Prelude.{◌&&◌, ◌||◌}
use Rattle.std.specs.List.{AllByRecursion}
use Rattle.std.proofs.lemmas.Bool.{cases_lt}
use Rattle.ng_base.specs.declared.path.Key.{Key}
use Rattle.ng_dom.specs.Drawing.{Look, Stand, Stands, Bodies, text_stands, comment_stands, element_stands, block_stands, none_stand, stand_then, no_bodies, body_then, HolesAt, AttributesAt, show, shows, show_bodies, drawn_attributes}
use Rattle.ng_dom.specs.Nodes.{NamedNode, NamedForest, named_text, named_element, named_anchor, named_then, group_then}
use Rattle.ng_dom.proofs.Attributes.{same_joined, same_attributes}
use Rattle.ng_drawing.specs.Nodes.{part_nodes}
use Rattle.ng_drawing.specs.Template.{Part, Contents, Parts, text_part, comment_part, element_part, anchor_part, children, bound, no_parts, part_then}
use Rattle.ng_drawing.specs.Numbering.{are_drawn}
use Rattle.ng_behaviour.specs.Keys.{is_key}
use Rattle.ng_build.specs.Building.{unset}
use Rattle.ng_instances.specs.Instances.{Linked, keys_of, bodies_from, groups_from}
use Rattle.ng_build.specs.Shape.{part_shape, content_shape, shape, unfilled}
use Rattle.ng_link.specs.Showing.{part_shows, contents_show, parts_show}
use Rattle.ng_link.proofs.Added.{new_stands}
use Rattle.ng_link.proofs.Holding.{drawn_holes, drawn_values}
use Rattle.ng_build.proofs.Keys.{key_is, same_key}
use Rattle.ng_link.proofs.Numbers.{both_true}

module _ (good : Key → Bool) where
  abbrev free_in : ℕ → Key → Option ℕ
  free_in n q = cond (good q) (Some n) None

  is_good : (b : Bool) (n : ℕ) → cond b (Some n) None ≡ Some n → b ≡ true
  is_good true n e = refl
  is_good false n e = absurd (cc)

  abbrev mutual
    pub IsFree : Stand → Type 0
    IsFree (text_stands n ps) = HolesAt (free_in n) n ps
    IsFree (comment_stands n t) = Unit {0}
    IsFree (element_stands n e ats ms) = AttributesAt (free_in n) n ats × AreFree ms
    IsFree (block_stands n bs) = BodiesFree bs

    pub AreFree : Stands → Type 0
    AreFree none_stand = Unit {0}
    AreFree (stand_then m ms) = IsFree m × AreFree ms

    pub BodiesFree : Bodies → Type 0
    BodiesFree no_bodies = Unit {0}
    BodiesFree (body_then ms bs) = AreFree ms × BodiesFree bs

  -- so it shows the same where these do
  module _ (v w : Key → Look) (alike : (q : Key) → good q ≡ true → v q ≡ w q) where
    agree : (n : ℕ) (q : Key) → free_in n q ≡ Some n → v q ≡ w q
    agree n q e = alike q (is_good (good q) n e)

    mutual
      one_agrees : (m : Stand) → IsFree m → show v m ≡ show w m
      one_agrees (text_stands n ps) h = ap (named_text n) (same_joined (free_in n) n v w (agree n) ps h)
      one_agrees (comment_stands n t) h = refl
      one_agrees (element_stands n e ats ms) h =
          ap (λ (us : List (List ℕ × List ℕ)). named_element n e us (shows v ms)) (same_attributes (free_in n) n v w (agree n) ats [] h.0) ∙ ap (named_element n e (drawn_attributes w ats)) (all_agree ms h.1)
      one_agrees (block_stands n bs) h = ap (named_anchor n) (bodies_agree bs h)

      pub all_agree : (ms : Stands) → AreFree ms → shows v ms ≡ shows w ms
      all_agree none_stand h = refl
      all_agree (stand_then m ms) h = ap (λ (x : NamedNode). named_then x (shows v ms)) (one_agrees m h.0) ∙ ap (named_then (show w m)) (all_agree ms h.1)

      bodies_agree : (bs : Bodies) → BodiesFree bs → show_bodies v bs ≡ show_bodies w bs
      bodies_agree no_bodies h = refl
      bodies_agree (body_then ms bs) h = ap (λ (x : NamedForest). group_then x (show_bodies v bs)) (all_agree ms h.0) ∙ ap (group_then (shows w ms)) (bodies_agree bs h.1)

  -- parts that are drawn from sites of these keys
  module _ (keys : ℕ → Key) (test : ℕ → Bool) (these : (j : ℕ) → test j ≡ true → good (keys j) ≡ true) (groups : ℕ → Bodies) (inside : (o : ℕ) → BodiesFree (groups o)) where
    at : (n j : ℕ) → test j ≡ true → free_in n (keys j) ≡ Some n
    at n j e = ap (λ (b : Bool). cond b (Some n) None) (these j e)

    mutual
      part_free : (n : ℕ) (p : Part) → part_shows test p ≡ true → IsFree (part_shape keys n groups p)
      part_free n (text_part ps) e = drawn_holes (free_in n) keys n test (at n) ps e
      part_free n (comment_part t) e = tt
      part_free n (element_part name own acts ats c) e =
          let two = both_true (are_drawn test ats) (contents_show test c) e in
          (drawn_values (free_in n) keys n test (at n) ats two.0, contents_free (n + 1) c two.1)
      part_free n (anchor_part outlet own starts) e = inside outlet

      contents_free : (n : ℕ) (c : Contents) → contents_show test c ≡ true → AreFree (content_shape keys n groups c)
      contents_free n (children ps) e = parts_free n ps e
      contents_free n (bound b) e = ((at n b e, tt), tt)

      pub parts_free : (n : ℕ) (ps : Parts) → parts_show test ps ≡ true → AreFree (shape keys n groups ps)
      parts_free n no_parts e = tt
      parts_free n (part_then p ps) e =
          let two = both_true (part_shows test p) (parts_show test ps) e in
          (part_free n p two.0, parts_free (n + part_nodes p) ps two.1)

  pub list_free : (tss : List Stands) → AllByRecursion AreFree tss → BodiesFree (bodies_from tss)
  list_free [] all = tt
  list_free (ts ∷ tss) all = (all.0, list_free tss all.1)

  pub groups_free : (tsss : List (List Stands)) → AllByRecursion (AllByRecursion AreFree) tsss → (o : ℕ) → BodiesFree (groups_from tsss o)
  groups_free [] all o = tt
  groups_free (tss ∷ tsss) all zero = list_free tss all.0
  groups_free (tss ∷ tsss) all (suc o) = groups_free tsss all.1 o

-- the keys of sites by number, below a bound, that a test lets in
module _ (keys : ℕ → Key) (test : ℕ → Bool) where
  abbrev among : ℕ → Key → Bool
  among zero q = false
  among (suc n) q = (test n && is_key q (keys n)) || among n q

  among_is : (P : Key → Type 0) → ((j : ℕ) → test j ≡ true → P (keys j)) → (n : ℕ) (q : Key) → among n q ≡ true → P q
  among_is P each zero q e = absurd (cc)
  among_is P each (suc n) q e = by_test (test n && is_key q (keys n)) refl e (λ f. among_is P each n q f)
    where
      by_test : (b : Bool) → (test n && is_key q (keys n)) ≡ b → (b || among n q) ≡ true → (among n q ≡ true → P q) → P q
      by_test true is f on = let two = both_true (test n) (is_key q (keys n)) is in subst P (sym (key_is q (keys n) two.1)) (each n two.0)
      by_test false is f on = on f

  second : (b c : Bool) → c ≡ true → (b || c) ≡ true
  second true c e = refl
  second false c e = e

  among_has : (n j : ℕ) → j < n → test j ≡ true → among n (keys j) ≡ true
  among_has zero j lt e = absurd (omega (arith, lt))
  among_has (suc n) j lt e = by_order (cases_lt j n) (λ less. among_has n j less e)
    where
      by_order : (j < n) ⊎ (n ≤ j) → (j < n → among n (keys j) ≡ true) → among (suc n) (keys j) ≡ true
      by_order (inl less) on = second (test n && is_key (keys j) (keys n)) (among n (keys j)) (on less)
      by_order (inr more) on =
          let last : n ≡ j = omega (arith, more, lt) in
          let here : (test n && is_key (keys j) (keys n)) ≡ true =
          ap (λ (i : ℕ). test i && is_key (keys j) (keys i)) last ∙ (ap (λ (b : Bool). b && is_key (keys j) (keys j)) e ∙ same_key (keys j)) in
          ap (λ (b : Bool). b || among n (keys j)) here

-- where nothing is kept of the sites of a fragment from which it is drawn, it shows what it shows unset
pub new_same : (looks : Key → Look) (l : Linked) (test : ℕ → Bool) (count : ℕ) → parts_show test l.fragment.parts ≡ true → ((j : ℕ) → test j ≡ true → j < count)
    → ((j : ℕ) → test j ≡ true → unset (keys_of l.page j) ≡ looks (keys_of l.page j)) → shows unset (new_stands l) ≡ shows looks (new_stands l)
new_same looks l test count draws below fresh =
    all_agree (among (keys_of l.page) test count) unset looks (λ q e. among_is (keys_of l.page) test (λ (k : Key). unset k ≡ looks k) fresh count q e) (new_stands l)
    (parts_free (among (keys_of l.page) test count) (keys_of l.page) test (λ j e. among_has (keys_of l.page) test count j (below j e) e) unfilled (λ o. tt) l.page.node l.fragment.parts draws)
