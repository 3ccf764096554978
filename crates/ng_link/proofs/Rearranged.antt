-- The bodies of an outlet are arranged: the works stand, and their state is what it is to be.
use Rattle.std.proofs.Common.{◌≡◌, ℕ, zero, suc, Bool, true, false, cond, List, [], ◌∷◌, Option, None, Some, refl, ap, ◌∙◌, sym, subst, slice_get}
use Rattle.std.specs.BTreeMap.{BTreeMap}
use Rattle.std.proofs.Math.Path.{fun_ext}
use Rattle.std.specs.Prelude.{IsSome}
use Rattle.ng_base.specs.declared.path.Key.{Key}
use Rattle.ng_dom.specs.Document.{next_name}
use Rattle.ng_dom.specs.Drawing.{Stands}
use Rattle.ng_dom.specs.declared.dom.Dom.{Dom}
use Rattle.ng_link.specs.Arranging.{IsOrder, PicksBy, IsRearranged}
use Rattle.ng_link.specs.Calls.{arranged_at}
use Rattle.ng_instances.specs.Instances.{Body, OutletState, Linked, Instances, is_path, linked_at, with_outlets, outlets_changed, bodies_arranged}
use Rattle.ng_instances.specs.PlaceOf.{outlet_of_linked}
use Rattle.ng_link.specs.Standing.{IsBuilt, AreInner, IsStanding}
use Rattle.ng_instances.specs.InstanceOf.{instances_of, spot_in}
use Rattle.ng_link.specs.State.{looks_in, places_of, state_of, templates_of}
use Rattle.ng_instances.specs.declared.instances.Linked as code
use Rattle.ng_link.specs.declared.works.Works.{Works}
use Rattle.ng_link.proofs.BuiltArranged.{built_arranged}
use Rattle.ng_link.proofs.Inner.{changed_inner}

-- where an outlet isn't there, nothing changes
none_arranged : (o : ℕ) (bs : List Body) (os : List OutletState) → slice_get os o ≡ None → bodies_arranged o bs os ≡ os
none_arranged o bs [] e = refl
none_arranged zero bs (x ∷ os) e = absurd (cc)
none_arranged (suc o) bs (x ∷ os) e = ap (λ (ys : List OutletState). x ∷ ys) (none_arranged o bs os e)

same_changed : (holder : List ℕ) (f : List OutletState → List OutletState) (is : Instances) → ((l : Linked) → linked_at holder is ≡ Some l → f l.page.outlets ≡ l.page.outlets) → outlets_changed holder f is ≡ is
same_changed holder f [] same = refl
same_changed holder f (e ∷ es) same = by_test (is_path holder e.0) refl (same_changed holder f es)
  where
    by_test : (b : Bool) → is_path holder e.0 ≡ b → (((l : Linked) → linked_at holder es ≡ Some l → f l.page.outlets ≡ l.page.outlets) → outlets_changed holder f es ≡ es)
        → cond b ((e.0, with_outlets f e.1) ∷ es) (e ∷ outlets_changed holder f es) ≡ e ∷ es
    by_test true is more =
        ap (λ (os : List OutletState). (e.0, with_outlets (λ (_ : List OutletState). os) e.1) ∷ es) (same e.1 (ap (λ (b : Bool). cond b (Some e.1) (linked_at holder es)) is))
    by_test false is more = ap (λ (xs : Instances). e ∷ xs) (more (λ l at. same l (ap (λ (b : Bool). cond b (Some e.1) (linked_at holder es)) is ∙ at)))

module _ (w : Works) (is : BTreeMap (List ℕ) code.Linked) (d : Dom) (holder : List ℕ) (o : ℕ) (new : List Body) (r : Option (ℕ × List ℕ))
    (stands : IsStanding w) (same : IsRearranged new o holder (state_of w).instances) (order : IsOrder r new (outlet_of_linked o (linked_at holder (state_of w).instances)))
    (picks : PicksBy r w.dom d) (arranged : instances_of (templates_of w) is.entries ≡ outlets_changed holder (bodies_arranged o new) (state_of w).instances)
    (spots : (k : Key) → spot_in w.inner.entries is.entries k ≡ places_of w k) where
  abbrev pub after : Works
  after = record w { instances = is; dom = d }

  next_by : (p : Option (ℕ × List ℕ)) → PicksBy p w.dom d → next_name d ≡ next_name w.dom
  next_by None unmoved = ap next_name unmoved
  next_by (Some p) moved = moved.1.next

  pub arranged_state : state_of after ≡ arranged_at holder o new (state_of w)
  arranged_state =
      ap (λ (xs : Instances). record (state_of after) { instances = xs }) arranged
      ∙ ap (λ (n : ℕ). record (arranged_at holder o new (state_of w)) { next_node = n }) (next_by r picks)

  abbrev old : Instances
  old = (state_of w).instances

  abbrev Built : Instances → Type 0
  Built xs = (us : Stands) × IsBuilt (places_of w) (looks_in (state_of w)) d xs us

  unmoved_by : r ≡ None → d ≡ w.dom
  unmoved_by none = subst (λ (p : Option (ℕ × List ℕ)). PicksBy p w.dom d) none picks

  none_there : (l : Option Linked) → outlet_of_linked o l ≡ None → (m : Linked) → l ≡ Some m → slice_get m.page.outlets o ≡ None
  none_there None none m there = absurd (cc)
  none_there (Some k) none m there = let that : k ≡ m = cc in ap (λ (j : Linked). slice_get j.page.outlets o) (sym that) ∙ none

  some_there : (l : Option Linked) (x : OutletState) → outlet_of_linked o l ≡ Some x → (m : Linked) × (l ≡ Some m) × (slice_get m.page.outlets o ≡ Some x)
  some_there None x at = absurd (cc)
  some_there (Some m) x at = (m, refl, at)

  by_outlet : (y : Option OutletState) → outlet_of_linked o (linked_at holder old) ≡ y → IsOrder r new y → Built (outlets_changed holder (bodies_arranged o new) old)
  by_outlet None none unordered =
      subst Built (sym (same_changed holder (bodies_arranged o new) old (λ m there. none_arranged o new m.page.outlets (none_there (linked_at holder old) none m there))))
      (stands.0, subst (λ (e : Dom). IsBuilt (places_of w) (looks_in (state_of w)) e old stands.0) (sym (unmoved_by unordered)) stands.1.built)
  by_outlet (Some x) there ordered =
      let found = some_there (linked_at holder old) x there in
      built_arranged (places_of w) (looks_in (state_of w)) w.dom old stands.0 holder found.0 o x new stands.1.built found.1 found.2 (same x there) d r ordered picks

  built : Built (outlets_changed holder (bodies_arranged o new) old)
  built = by_outlet (outlet_of_linked o (linked_at holder old)) refl order

  pub arranged_stands : IsStanding after
  arranged_stands = (
    built.0,
    record {
      built =
          subst (λ (p : Key → Option ℕ). IsBuilt p (looks_in (state_of after)) d (state_of after).instances built.0) (sym (fun_ext spots))
          (subst (λ (xs : Instances). IsBuilt (places_of w) (looks_in (state_of w)) d xs built.0) (sym arranged) built.1);
      inner = subst (λ (xs : Instances). AreInner (state_of w).inner xs) (sym arranged) (changed_inner holder (bodies_arranged o new) old (state_of w).inner stands.1.inner);
      below = λ k some. stands.1.below k (subst (λ (x : Option ℕ). IsSome x) (spots k) some);
      watched = stands.1.watched;
    },
  )
