-- The page's fragment stands on the root, where nothing stood: all that is linked is built.
use Rattle.std.proofs.Common.{◌≡◌, ◌⊎◌, inl, inr, ◌+◌, ◌<◌, ◌≤◌, ℕ, Bool, true, false, cond, List, [], Option, Some, None, refl, ap, ◌∙◌, sym, subst, arith, nat_eq}
use Rattle.std.specs.Prelude.{IsSome}
use Rattle.std.specs.List.{IsDistinct}
use Rattle.std.proofs.lemmas.Bool.{cases_lt}
use Rattle.ng_base.specs.Order.{path_cmp, path_cmp_total}
use Rattle.ng_base.specs.declared.path.Key.{Key}
use Rattle.ng_dom.specs.Document.{homes, next_name, IsLive, Shows}
use Rattle.ng_dom.specs.Drawing.{Look, Stands, none_stand, shows, HomedAll}
use Rattle.ng_dom.specs.Lists.{among}
use Rattle.ng_dom.specs.Nodes.{NamedForest, all_names}
use Rattle.ng_dom.specs.declared.dom.Dom.{Dom}
use Rattle.ng_dom.proofs.Counting.{names_stand}
use Rattle.ng_dom.proofs.Homes.{live_names_are_given}
use Rattle.ng_drawing.specs.Nodes.{nodes}
use Rattle.ng_behaviour.specs.Keys.{begins}
use Rattle.ng_build.specs.Building.{unset}
use Rattle.ng_instances.specs.Instances.{Linked, Instances, is_path, linked_at, keys_of, stands_join, stands_at, with_instance}
use Rattle.ng_build.specs.Sources.{sources}
use Rattle.ng_link.specs.Standing.{IsPlaced, IsHeldIn, IsBuilt, held_count}
use Rattle.ng_link.proofs.Added.{new_stands}
use Rattle.ng_link.proofs.BuiltMore.{AreBare, bare_count, bare_joined}
use Rattle.ng_link.proofs.Homed.{older_live}
use Rattle.ng_link.proofs.Names.{up, shape_names, up_among, distinct_up}
use Rattle.ng_instances.proofs.PathIs.{path_is}
use Rattle.ng_link.proofs.ReadOff.{read_here}
use Rattle.ng_link.proofs.Sorted.{none_in_order, insert_sorted}

module _ (places : Key → Option ℕ) (looks same : Key → Look) (d g : Dom) (ts : Stands) (l : Linked) (b : IsBuilt places looks d [] ts)
    (node : l.page.node ≡ next_name d) (bare : AreBare l.page.outlets) (same_places : Key → Option ℕ) (placed : IsPlaced same_places (next_name g) [] l)
    (starts : shows unset (new_stands l) ≡ shows same (new_stands l))
    (older : (q : ℕ) → q < next_name d → homes g q ≡ homes d q) (next : next_name g ≡ next_name d + nodes l.fragment.parts)
    (shown : Shows g (shows unset (new_stands l))) (homed : HomedAll (sources g) (new_stands l)) where
  abbrev one : Instances
  one = with_instance [] l []

  names : all_names (shows same (new_stands l)) ≡ up (next_name d) (nodes l.fragment.parts)
  names =
      names_stand same (new_stands l)
      ∙ (shape_names (keys_of l.page) l.page.node l.fragment.parts ∙ ap (λ (k : ℕ). up k (nodes l.fragment.parts)) node)

  -- no node was live
  none_live : (q : ℕ) → IsLive d q → ⊥
  none_live q live = let was : among q (all_names (shows looks ts)) ≡ true = b.holds.all q live in let none : false ≡ true = sym (ap (λ (s : Stands). among q (all_names (shows looks s))) b.stands) ∙ was in cc

  live : (q : ℕ) → IsLive g q → among q (all_names (shows same (new_stands l))) ≡ true
  live q is_live = by_order (cases_lt q (next_name d))
    where
      by_order : (q < next_name d) ⊎ (next_name d ≤ q) → among q (all_names (shows same (new_stands l))) ≡ true
      by_order (inl before) = absurd (none_live q (older_live d g q (older q before) is_live))
      by_order (inr newer) =
          let to : q < next_name g = live_names_are_given g q is_live in
          ap (among q) names ∙ up_among q (next_name d) (nodes l.fragment.parts) newer (omega (arith, to, next))

  top_read : new_stands l ≡ stands_at one []
  top_read = sym (read_here none_stand stands_join [] ([], l) [] refl ∙ bare_joined (stands_at []) l bare)

  found_one : (q : List ℕ) (k : Linked) → linked_at q one ≡ Some k → (q ≡ []) × (k ≡ l)
  found_one q k e = by_test (is_path q []) refl e
    where
      by_test : (t : Bool) → is_path q [] ≡ t → cond t (Some l) None ≡ Some k → (q ≡ []) × (k ≡ l)
      by_test true is f = (path_is q [] is, let two : Some l ≡ Some k = f in cc)
      by_test false is f = absurd (cc)

  one_linked : (h q : List ℕ) → IsHeldIn h q one → IsSome (linked_at q one)
  one_linked h q given =
      let that = (found_one h given.0 given.1).1 in
      let none : held_count q given.0.page.outlets ≡ 0 = ap (λ (k : Linked). held_count q k.page.outlets) that ∙ bare_count q l.page.outlets bare in
      let lt = given.2 in
      absurd (omega (arith, none, lt))

  one_has : (q : List ℕ) → IsSome (linked_at q one) → (q ≡ []) ⊎ ((h : List ℕ) × IsHeldIn h q one)
  one_has q some = by_test (is_path q []) refl some
    where
      by_test : (t : Bool) → is_path q [] ≡ t → IsSome (cond t (Some l) None) → (q ≡ []) ⊎ ((h : List ℕ) × IsHeldIn h q one)
      by_test true is f = inl (path_is q [] is)
      by_test false is f = absurd (cc)

  one_nearest : (h q r : List ℕ) → IsHeldIn h q one → IsSome (linked_at r one) → begins r q ≡ true → (r ≡ q) ⊎ (begins r h ≡ true)
  one_nearest h q r given some b =
      let that = (found_one h given.0 given.1).1 in
      let none : held_count q given.0.page.outlets ≡ 0 = ap (λ (k : Linked). held_count q k.page.outlets) that ∙ bare_count q l.page.outlets bare in
      let lt = given.2 in
      absurd (omega (arith, none, lt))

  pub built_top : IsBuilt same_places same g one (new_stands l)
  built_top = record {
    holds = record {
      shows = subst (λ (f : NamedForest). Shows g f) starts shown;
      all = live;
      once = subst (λ (ks : List ℕ). IsDistinct nat_eq ks) (sym names) (distinct_up (next_name d) (nodes l.fragment.parts));
    };
    stands = top_read;
    homed = homed;
    ordered = insert_sorted path_cmp path_cmp_total [] l [] (none_in_order path_cmp);
    each = (placed, tt);
    apart = (tt, tt);
    bodies = record { linked = one_linked; held = one_has; nearest = one_nearest };
  }
