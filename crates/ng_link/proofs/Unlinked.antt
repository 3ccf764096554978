-- What is left stands, where a body is unlinked.
use Rattle.std.proofs.Common.{◌≡◌, ℕ, Bool, true, false, cond, List, [], ◌∷◌, Option, Some, None, refl, ap, ◌∙◌, sym, subst, arith}
use Rattle.std.specs.Prelude.{IsSome, not, option_and_then, option_map}
use Rattle.std.specs.BTreeMap.{BTreeMap, is_at}
use Rattle.std.specs.List.{filter}
use Rattle.std.specs.Map.{lookup, remove_entry}
use Rattle.std.specs.Ordering.{nat_cmp}
use Rattle.std.proofs.lemmas.Map.Entries.{lookup-filter-keys}
use Rattle.ng_base.specs.declared.path.Key.{Key}
use Rattle.ng_base.specs.Views.{ViewTree}
use Rattle.ng_control.specs.State.{ControlState}
use Rattle.ng_dom.specs.Document.{next_name}
use Rattle.ng_dom.specs.Drawing.{at_block_all}
use Rattle.ng_dom.specs.declared.dom.Dom.{Dom}
use Rattle.ng_drawing.specs.Looks.{seen_by}
use Rattle.ng_drawing.specs.Named.{Named}
use Rattle.ng_value.specs.Snaps.{snap_of}
use Rattle.ng_value.specs.declared.snapshot.Snap.{Snap}
use Rattle.ng_behaviour.specs.Keys.{is_key, begins}
use Rattle.ng_watch.specs.Table.{found}
use Rattle.ng_link.specs.Calls.{cut_at}
use Rattle.ng_build.specs.Controls.{Controls, state_under}
use Rattle.ng_instances.specs.Instances.{OutletState, Linked, Instances, Inners, Owners, is_path, linked_at, instance_path, key_in, keys_of, with_outlets, outlets_changed, body_gone, without_below, inner_without, owners_less, owners_without, unlinked}
use Rattle.ng_link.specs.Standing.{IsBelow, IsPlaced, IsBuilt, AreInner, IsHeldIn, IsStanding}
use Rattle.ng_instances.specs.InstanceOf.{linked_of, instances_of, spot_at, spot_in}
use Rattle.ng_link.specs.State.{Resting, kept_or, kept_in, look_of, resting_of, places_of, looks_in, state_of, templates_of}
use Rattle.ng_link.specs.Unlinking.{IsHeldAt, body_cut, CutsOut}
use Rattle.ng_instances.specs.declared.instances.Linked as code
use Rattle.ng_link.specs.declared.works.Works.{Works}
use Rattle.ng_link.proofs.BuiltLess.{built_less}
use Rattle.ng_link.proofs.BodiesAt.{bodies_cut}
use Rattle.ng_link.proofs.Cuts.{gone_cut}
use Rattle.ng_link.proofs.Grown.{no_some, is_some_of}
use Rattle.ng_link.proofs.Inner.{path_alone, keys_case, key_leads, changed_inner, still_linked, on_stays, stays_off, left_path, left_gone, cut_inner}
use Rattle.ng_build.proofs.Keys.{key_is}
use Rattle.ng_build.proofs.Paths.{begins_length, not_begins}
use Rattle.ng_instances.proofs.PathIs.{path_is}
use Rattle.ng_link.proofs.PathsBelow.{below_longer}
use Rattle.ng_link.proofs.ReadOff.{in_held, at_path}
use Rattle.ng_build.proofs.Tables.{filtered-seen}

-- the outlets of an instance change alike
pub alike_changed : (p : List ℕ) (f g : List OutletState → List OutletState) (is : Instances) → ((l : Linked) → linked_at p is ≡ Some l → f l.page.outlets ≡ g l.page.outlets) → outlets_changed p f is ≡ outlets_changed p g is
alike_changed p f g [] alike = refl
alike_changed p f g (e ∷ es) alike = by_test (is_path p e.0) refl (alike_changed p f g es)
  where
    by_test : (b : Bool) → is_path p e.0 ≡ b → (((l : Linked) → linked_at p es ≡ Some l → f l.page.outlets ≡ g l.page.outlets) → outlets_changed p f es ≡ outlets_changed p g es)
        → cond b ((e.0, with_outlets f e.1) ∷ es) (e ∷ outlets_changed p f es) ≡ cond b ((e.0, with_outlets g e.1) ∷ es) (e ∷ outlets_changed p g es)
    by_test true is more =
        ap (λ (os : List OutletState). (e.0, with_outlets (λ (_ : List OutletState). os) e.1) ∷ es) (alike e.1 (ap (λ (b : Bool). cond b (Some e.1) (linked_at p es)) is))
    by_test false is more = ap (λ (xs : Instances). e ∷ xs) (more (λ l at. alike l (ap (λ (b : Bool). cond b (Some e.1) (linked_at p es)) is ∙ at)))

-- the first names of instances are the same, whatever fills their outlets
pub owners_changed : (p holder : List ℕ) (f : List OutletState → List OutletState) (is : Instances) (os : Owners) → owners_without p (outlets_changed holder f is) os ≡ owners_without p is os
owners_changed p holder f [] os = refl
owners_changed p holder f (e ∷ es) os = by_test (is_path holder e.0) (owners_changed p holder f es)
  where
    less : Owners
    less = cond (begins p e.0) (remove_entry (is_at (nat_cmp e.1.page.node)) os) os

    by_test : (b : Bool) → ((rest : Owners) → owners_without p (outlets_changed holder f es) rest ≡ owners_without p es rest)
        → owners_without p (cond b ((e.0, with_outlets f e.1) ∷ es) (e ∷ outlets_changed holder f es)) os ≡ owners_without p (e ∷ es) os
    by_test true more = refl
    by_test false more = more (cond (begins p e.0) (remove_entry (is_at (nat_cmp e.1.page.node)) os) os)

-- they are those of the instances as they are kept
pub owners_kept : (all : List Named) (p : List ℕ) (es : List (List ℕ × code.Linked)) (os : Owners) → owners_less (λ (i : code.Linked). i.node) p es os ≡ owners_without p (instances_of all es) os
owners_kept all p [] os = refl
owners_kept all p (e ∷ es) os = owners_kept all p es (cond (begins p e.0) (remove_entry (is_at (nat_cmp e.1.node)) os) os)

-- the instances that stay, as they are kept and as they are seen
pub instances_kept : (all : List Named) (p : List ℕ) (es : List (List ℕ × code.Linked)) → instances_of all (filter (λ e. not (begins p e.0)) es) ≡ without_below p (instances_of all es)
instances_kept all p [] = refl
instances_kept all p (e ∷ es) = by_test (begins p e.0) (instances_kept all p es)
  where
    by_test : (b : Bool) → instances_of all (filter (λ x. not (begins p x.0)) es) ≡ without_below p (instances_of all es)
        → instances_of all (cond (not b) (e ∷ filter (λ x. not (begins p x.0)) es) (filter (λ x. not (begins p x.0)) es))
        ≡ cond (not b) ((e.0, linked_of all e.0 e.1) ∷ without_below p (instances_of all es)) (without_below p (instances_of all es))
    by_test true more = more
    by_test false more = ap (λ (xs : Instances). (e.0, linked_of all e.0 e.1) ∷ xs) more

module _ (w : Works) (cuts : BTreeMap (List ℕ) code.Linked) (is : BTreeMap (List ℕ) code.Linked) (d : Dom) (os : BTreeMap ℕ (List ℕ)) (ps : BTreeMap (List ℕ) (List ℕ)) (rs : BTreeMap Key (Option Snap)) (cs : BTreeMap Key ControlState) (holder p : List ℕ) (o i : ℕ)
    (stands : IsStanding w) (holds : IsHeldIn holder p (state_of w).instances) (at : IsHeldAt p o i holds.0.page.outlets)
    (cut : instances_of (templates_of w) cuts.entries ≡ outlets_changed holder (body_cut o i) (state_of w).instances) (spots : (k : Key) → spot_in w.inner.entries cuts.entries k ≡ places_of w k)
    (nodes : CutsOut at.0.anchor i w.dom d)
    (left : is.entries ≡ filter (λ e. not (begins p e.0)) cuts.entries) (owned : os.entries ≡ owners_less (λ (one : code.Linked). one.node) p cuts.entries w.owners.entries)
    (scopes : ps.entries ≡ inner_without p w.inner.entries)
    (rest : rs.entries ≡ filter (λ e. not (begins p e.0.path)) w.resting.entries) (fewer : cs.entries ≡ filter (λ e. not (begins p e.0.path)) w.controls.entries) where
  abbrev pub after : Works
  after = record w { instances = is; dom = d; owners = os; inner = ps; resting = rs; controls = cs }

  abbrev all : List Named
  all = templates_of w

  abbrev were : Instances
  were = (state_of w).instances

  placed : IsPlaced (places_of w) (next_name w.dom) holder holds.0
  placed = at_path (λ (e : List ℕ × Linked). IsPlaced (places_of w) (next_name w.dom) e.0 e.1) holder holds.0 were stands.1.built.each holds.1

  changed : outlets_changed holder (body_cut o i) were ≡ outlets_changed holder (body_gone p) were
  changed =
      alike_changed holder (body_cut o i) (body_gone p) were
      (λ l there.
      let two : Some holds.0 ≡ Some l = sym holds.1 ∙ there in
      let same : holds.0 ≡ l = cc in
      subst (λ (m : Linked). body_cut o i m.page.outlets ≡ body_gone p m.page.outlets) same (sym (gone_cut p holds.0.page.outlets o i at (placed.once p))))

  gone : (state_of after).instances ≡ unlinked holder p were
  gone = ap (instances_of all) left ∙ (instances_kept all p cuts.entries ∙ ap (without_below p) (cut ∙ changed))

  less : os.entries ≡ owners_without p were (state_of w).owners
  less = owned ∙ (owners_kept all p cuts.entries w.owners.entries ∙ (ap (λ (xs : Instances). owners_without p xs w.owners.entries) cut ∙ owners_changed p holder (body_cut o i) were w.owners.entries))

  resting : resting_of rs.entries ≡ filter (λ e. not (begins p e.0.path)) (state_of w).resting
  resting = ap resting_of rest ∙ filtered-seen (λ (s : Option Snap). option_map snap_of s) (λ (k : Key). not (begins p k.path)) w.resting.entries

  next : next_name d ≡ next_name w.dom
  next = nodes.stays.next ∙ nodes.empties.fewer.next

  pub unlinked_state : state_of after ≡ cut_at holder p (state_of w)
  unlinked_state =
      ap (λ (xs : Instances). record (state_of after) { instances = xs }) gone
      ∙ (ap (λ (ns : Owners). record (state_of after) { instances = unlinked holder p were; owners = ns }) less
      ∙ (ap (λ (t : Inners). record (state_of after) { instances = unlinked holder p were; owners = owners_without p were (state_of w).owners; inner = t }) scopes
      ∙ (ap (λ (r : Resting). record (state_of after) { instances = unlinked holder p were; owners = owners_without p were (state_of w).owners; inner = inner_without p (state_of w).inner; resting = r }) resting
      ∙ (ap (λ (x : Controls). record (cut_at holder p (state_of w)) { controls = x; next_node = next_name d }) fewer
      ∙ ap (λ (n : ℕ). record (cut_at holder p (state_of w)) { next_node = n }) next))))

  -- what is linked to an inner scope goes with it
  there : IsSome (linked_at p were)
  there = stands.1.built.bodies.linked holder p holds

  abbrev on : Key → List ℕ
  on k = instance_path w.inner.entries k.path

  -- where the sites of instances that stay are drawn
  place : (k : Key) → places_of after k ≡ option_and_then (λ (x : code.Linked). spot_at x k) (cond (not (begins p (instance_path ps.entries k.path))) (lookup (is_path (instance_path ps.entries k.path)) cuts.entries) None)
  place k =
      let q : List ℕ = instance_path ps.entries k.path in
      ap (λ (es : List (List ℕ × code.Linked)). spot_in ps.entries es k) left
      ∙ ap (option_and_then (λ (x : code.Linked). spot_at x k))
      (lookup-filter-keys (is_path q) (λ (r : List ℕ). not (begins p r)) (not (begins p q)) (λ r same. ap (λ (s : List ℕ). not (begins p s)) (sym (path_is q r same))) cuts.entries)

  old : (k : Key) → begins p k.path ≡ false → places_of after k ≡ places_of w k
  old k off =
      let same : instance_path ps.entries k.path ≡ on k = ap (λ (t : Inners). instance_path t k.path) scopes ∙ left_path p w.inner.entries were stands.1.inner there k.path off in
      let stays : begins p (on k) ≡ false = on_stays p w.inner.entries were stands.1.inner there k.path off in
      place k
      ∙ (ap (λ (q : List ℕ). option_and_then (λ (x : code.Linked). spot_at x k) (cond (not (begins p q)) (lookup (is_path q) cuts.entries) None)) same
      ∙ (ap (λ (b : Bool). option_and_then (λ (x : code.Linked). spot_at x k) (cond (not b) (lookup (is_path (on k)) cuts.entries) None)) stays ∙ spots k))

  -- a site that has a place stays
  stays : (k : Key) → IsSome (places_of after k) → begins p k.path ≡ false
  stays k some = by_test (begins p k.path) refl
    where
      by_test : (b : Bool) → begins p k.path ≡ b → b ≡ false
      by_test true on_path =
          let q_is : instance_path ps.entries k.path ≡ k.path = ap (λ (t : Inners). instance_path t k.path) scopes ∙ path_alone (inner_without p w.inner.entries) k.path (left_gone p w.inner.entries were stands.1.inner there k.path on_path) in
          absurd (no_some (places_of after k)
          (place k
          ∙ (ap (λ (q : List ℕ). option_and_then (λ (x : code.Linked). spot_at x k) (cond (not (begins p q)) (lookup (is_path q) cuts.entries) None)) q_is
          ∙ ap (λ (b : Bool). option_and_then (λ (x : code.Linked). spot_at x k) (cond (not b) (lookup (is_path k.path) cuts.entries) None)) on_path)) some)
      by_test false off = refl

  -- the keys of an instance that stays are on paths that stay
  still : (q : List ℕ) (l : Linked) → linked_at q were ≡ Some l → begins p q ≡ false → (j y : ℕ) → places_of w (keys_of l.page j) ≡ Some y → places_of after (keys_of l.page j) ≡ Some y
  still q l at_q off j y e =
      let own = (at_path (λ (x : List ℕ × Linked). IsPlaced (places_of w) (next_name w.dom) x.0 x.1) q l were stands.1.built.each at_q).path in
      let away : begins p (keys_of l.page j).path ≡ false =
      keys_case (λ (k : Key). begins p k.path ≡ false) l.page
      (λ s. stays_off p w.inner.entries were stands.1.inner there (key_in l.page s).path q (key_leads w.inner.entries were stands.1.inner q l at_q own s) off)
      (root_stays p holder (in_held holder p holds.0.page.outlets placed.bodies holds.2)) j in
      old (keys_of l.page j) away ∙ e
    where
      root_stays : (r h : List ℕ) → IsBelow h r → begins r [] ≡ false
      root_stays r h below = not_begins r [] (λ on_root. let few = begins_length r [] on_root in let many = below_longer h r below in omega (arith, few, many))

  looks : (k : Key) → begins p k.path ≡ false → looks_in (state_of w) k ≡ looks_in (state_of after) k
  looks k off =
      let same : (q : Key) → is_key k q ≡ true → not (begins p q.path) ≡ not (begins p k.path) = λ q is. ap (λ (r : Key). not (begins p r.path)) (sym (key_is k q is)) in
      let kept : lookup (is_key k) (filter (λ e. not (begins p e.0.path)) (state_of w).resting) ≡ lookup (is_key k) (state_of w).resting =
      lookup-filter-keys (is_key k) (λ (q : Key). not (begins p q.path)) (not (begins p k.path)) same (state_of w).resting ∙ ap (λ (b : Bool). cond (not b) (lookup (is_key k) (state_of w).resting) None) off in
      let controls : state_under k cs.entries ≡ state_under k (state_of w).controls =
      ap (state_under k) fewer ∙ (lookup-filter-keys (is_key k) (λ (q : Key). not (begins p q.path)) (not (begins p k.path)) same (state_of w).controls
      ∙ ap (λ (b : Bool). cond (not b) (state_under k (state_of w).controls) None) off) in
      ap (λ (s : Option (Option ViewTree)). look_of (seen_by (state_under k (state_of w).controls) (kept_or (found k (state_of w).watchers) s))) (sym kept ∙ ap (lookup (is_key k)) (sym resting))
      ∙ ap (λ (c : Option ControlState). look_of (seen_by c (kept_in (state_of w).watchers (resting_of rs.entries) k))) (sym controls)

  inner_left : AreInner ps.entries (unlinked holder p were)
  inner_left =
      subst (λ (t : Inners). AreInner t (unlinked holder p were)) (sym scopes)
      (cut_inner p w.inner.entries (outlets_changed holder (body_gone p) were) (changed_inner holder (body_gone p) were w.inner.entries stands.1.inner) (there_still p there))
    where
      there_still : (q : List ℕ) → IsSome (linked_at q were) → IsSome (linked_at q (outlets_changed holder (body_gone p) were))
      there_still q some = by_found (linked_at q were) refl some
        where
          by_found : (x : Option Linked) → linked_at q were ≡ x → IsSome x → IsSome (linked_at q (outlets_changed holder (body_gone p) were))
          by_found None e none = absurd (cc)
          by_found (Some m) e one = let then_one = still_linked holder (body_gone p) were q m e in is_some_of (linked_at q (outlets_changed holder (body_gone p) were)) then_one.0 then_one.1.0

  pub unlinked_stands : IsStanding after
  unlinked_stands = (
    at_block_all at.0.anchor (bodies_cut i) stands.0,
    record {
      built =
          subst (λ (xs : Instances). IsBuilt (places_of after) (looks_in (state_of after)) d xs (at_block_all at.0.anchor (bodies_cut i) stands.0)) (sym gone)
          (built_less (places_of w) (places_of after) (looks_in (state_of w)) (looks_in (state_of after)) w.dom nodes.emptied d were stands.0 holder p holds.0 o at.0 i at.2.0
          stands.1.built holds.1 at.1 at.2.1 at.2.2 still (λ k q place_at. looks k (stays k (subst (λ (x : Option ℕ). IsSome x) (sym place_at) refl))) nodes.empties nodes.becomes nodes.stays);
      inner = subst (λ (xs : Instances). AreInner ps.entries xs) (sym gone) inner_left;
      below = λ k some. stands.1.below k (subst (λ (x : Option ℕ). IsSome x) (old k (stays k some)) some);
      watched = stands.1.watched;
    },
  )
