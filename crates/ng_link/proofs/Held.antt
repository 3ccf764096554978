-- What stands of instances is held: each site is known to be drawn in its node.
use Rattle.std.proofs.Common.{ℕ, zero, suc, List, [], ◌∷◌, Option, length, subst, sym}
use Rattle.std.specs.List.{AllByRecursion}
use Rattle.ng_base.specs.declared.path.Key.{Key}
use Rattle.ng_dom.specs.Document.{next_name}
use Rattle.ng_dom.specs.Drawing.{Look, Source, Stands, none_stand, HomedAll, HomedBodies, HeldAll, HeldBodies}
use Rattle.ng_dom.specs.declared.dom.Dom.{Dom}
use Rattle.ng_instances.specs.Instances.{Linked, Instances, keys_of, bodies_from, groups_from, stands_join, stands_at}
use Rattle.ng_build.specs.Sources.{sources}
use Rattle.ng_link.specs.Standing.{ArePlaced, IsBuilt}
use Rattle.ng_link.proofs.Holding.{all_held}
use Rattle.ng_link.proofs.ReadOff.{read_all}

module _ (site : Key → Option ℕ) (home : ℕ → Option Source) where
  abbrev IsHolding : Stands → Type 0
  IsHolding ts = HomedAll home ts → HeldAll site home ts

  list_held : (tss : List Stands) → AllByRecursion IsHolding tss → HomedBodies home (bodies_from tss) → HeldBodies site home (bodies_from tss)
  list_held [] all g = tt
  list_held (ts ∷ tss) all g = (all.0 g.0, list_held tss all.1 g.1)

  groups_held : (tsss : List (List Stands)) → AllByRecursion (AllByRecursion IsHolding) tsss → (o : ℕ) → HomedBodies home (groups_from tsss o) → HeldBodies site home (groups_from tsss o)
  groups_held [] all o g = tt
  groups_held (tss ∷ tsss) all zero g = list_held tss all.0 g
  groups_held (tss ∷ tsss) all (suc o) g = groups_held tsss all.1 o g

  module _ (next : ℕ) where
    each_holds : (is : Instances) → ArePlaced site next is → AllByRecursion (λ (e : List ℕ × Linked). (tsss : List (List Stands)) → AllByRecursion (AllByRecursion IsHolding) tsss → IsHolding (stands_join e.1 tsss)) is
    each_holds [] all = tt
    each_holds (e ∷ es) all = (
      λ tsss inside g.
          all_held site home (keys_of e.1.page) (groups_from tsss) (groups_held tsss inside) 0 e.1.page.node (length e.1.fragment.sites) e.1.fragment.parts all.0.numbered all.0.sites g,
      each_holds es all.1,
    )

    pub held_at : (is : Instances) → ArePlaced site next is → (q : List ℕ) → HomedAll home (stands_at is q) → HeldAll site home (stands_at is q)
    held_at is all q = read_all none_stand stands_join IsHolding (λ g. tt) is (each_holds is all) q

-- what is built is held
pub built_held : (places : Key → Option ℕ) (looks : Key → Look) (d : Dom) (is : Instances) (ts : Stands) → IsBuilt places looks d is ts → HeldAll places (sources d) ts
built_held places looks d is ts b = subst (λ (s : Stands). HeldAll places (sources d) s) (sym b.stands) (held_at places (sources d) (next_name d) is b.each [] (subst (λ (s : Stands). HomedAll (sources d) s) b.stands b.homed))
