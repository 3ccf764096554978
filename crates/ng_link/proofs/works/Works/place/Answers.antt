use Rattle.std.proofs.Common.{◌≡◌, ◌<◌, ℕ, List, Option, ap, refl, sym, subst, ◌∙◌, Some, length, map, arith}
use Rattle.std.specs.BTreeMap.{insert_entry}
use Rattle.std.specs.Map.{keys_of as map_keys}
use Rattle.std.specs.Ordering.{nat_cmp}
use Rattle.ng_base.specs.Order.{path_cmp}
use Rattle.ng_base.specs.declared.path.Key.{Key}
use Rattle.ng_behaviour.specs.Scopes.{Scope, path_at}
use Rattle.ng_dom.specs.Document.{next_name}
use Rattle.ng_dom.specs.Drawing.{shows}
use Rattle.ng_drawing.specs.Nodes.{nodes}
use Rattle.ng_drawing.specs.Template.{Fragment}
use Rattle.ng_drawing.specs.declared.origin.Origin.{Origin}
use Rattle.ng_drawing.specs.Named.{fragment_for}
use Rattle.ng_instances.specs.BoundOf.{inner_of, registered_of}
use Rattle.ng_build.specs.Building.{IsStood}
use Rattle.ng_instances.specs.Changing.{Place, any_on}
use Rattle.ng_link.specs.Calls.{linked_on, taken_in, placed_under}
use Rattle.ng_build.specs.Controls.{controls_begun}
use Rattle.ng_instances.specs.Instances.{Linked, scope_number, with_inner}
use Rattle.ng_instances.specs.PlaceOf.{place_of}
use Rattle.ng_link.specs.FreePlace.{IsFree}
use Rattle.ng_link.specs.Placing.{IsRegistered}
use Rattle.ng_instances.specs.Registering.{Registered, site_rows}
use Rattle.ng_link.specs.Standing.{IsStanding}
use Rattle.ng_build.specs.HandledOf.{controlled_of}
use Rattle.ng_instances.specs.InstanceOf.{page_of, linked_of, instances_of, spot_in}
use Rattle.ng_link.specs.State.{looks_in, state_of, templates_of}
use Rattle.ng_instances.specs.declared.instances.Inner as code_inner
use Rattle.ng_instances.specs.declared.instances.Linked as code
use Rattle.ng_link.specs.declared.works.Works.{Works}
use Rattle.ng_link.proofs.Added.{new_stands}
use Rattle.ng_link.proofs.Counted.{ended_done, parts_count, room_for_nodes}
use Rattle.ng_link.proofs.Displayed.{names_live}
use Rattle.ng_link.proofs.Fragments.{fragment_found}
use Rattle.ng_link.proofs.Links.{free_path, unused_path, placed_stands}
use Rattle.ng_link.proofs.Lives.{spot_lives}
use Rattle.ng_link.proofs.Marks.{ground_scope, grounded, lives_are}
use Rattle.ng_link.proofs.NewInstance.{after, many_holes, taken_up, stood_next, spots_noted, placed_state}
use Rattle.ng_link.proofs.Serials.{spots_are}
use Rattle.ng_build.specs.Linking.{steps}
use Rattle.ng_link.proofs.works.Works.place.Goals as goal

pub build-requires-clause-there : goal.build-requires-clause-there
build-requires-clause-there c =
    let w : Works = c.args.self.now in
    spot_lives w c.requires.stands.0 c.requires.stands.1 (place_of c.args.place.now) (path_at (state_of w).core.scopes c.args.scope.0) c.requires.free c.spot_for-spot.result.parent
    (ap (λ (x : Option ℕ × ℕ). x.0) (c.spot_for-spot.ensures (templates_of w)))

pub build-requires-clause-room : goal.build-requires-clause-room
build-requires-clause-room c = λ f known.
    let w : Works = c.args.self.now in
    let ts = c.requires.stands.0 in
    let g = c.requires.stands.1 in
    let few = room_for_nodes _ f.parts (c.requires.room f known) in
    let value = c.live-all_stand.ensures.value in
    let live = c.live-all_stand.ensures.counts (shows (looks_in (state_of w)) ts) g.built.holds ∙ names_live w ts g in
    omega (arith, few, value, live)

pub any_lives-lives-requires : goal.any_lives-lives-requires
any_lives-lives-requires c =
    let w : Works = c.args.self.now in
    let there = fragment_found (fragment_for (templates_of w) c.args.origin.now) c.requires.template in
    let f : Fragment = there.0 in
    let built : Works = c.build.new.self in
    let one : code.Linked = c.in_ok-one.one in
    let which : Origin = c.args.origin.now in
    let scope = c.args.scope.0 in
    let scopes : List Scope = (state_of w).core.scopes in
    let r : Registered = registered_of c.args.made in
    let reg : IsRegistered f scope r (state_of w) = c.requires.made f there.1 in
    let p = c.in_ok-one.ensures.built f there.1 in
    let rest : built ≡ record w { dom = built.dom; watchers = built.watchers } = c.build.ensures.rest in
    let path : List ℕ = path_at scopes scope in (
      path,
      λ n.
          let number = ap (λ (x : Linked). scope_number x.page n) p.made ∙ ground_scope scopes which scope f r (next_name w.dom) reg.own n in
          subst (λ (x : Works). scope_number (page_of path one) n < length (state_of x).core.scopes) (sym rest)
          (subst (λ (m : ℕ). m < length scopes) (sym number) (grounded (length scopes) r.at_hand scope reg.own reg.scopes n)),
    )

pub returns-clause-state : goal.returns-clause-state
returns-clause-state c = λ f known.
    let w : Works = c.args.self.now in
    let all = templates_of w in
    let built : Works = c.build.new.self in
    let cs = c.begin_controls.new.controls in
    let ps = c.note_inner.new.table in
    let is = c.note.new.self.instances in
    let os = c.note.new.self.owners in
    let one : code.Linked = c.in_ok-one.one in
    let place : Place = place_of c.args.place.now in
    let which : Origin = c.args.origin.now in
    let scope = c.args.scope.0 in
    let scopes : List Scope = (state_of w).core.scopes in
    let path : List ℕ = c.in_ok-path.path in
    let r : Registered = registered_of c.args.made in
    let l : Linked = linked_on scopes which scope f r (next_name w.dom) in
    let p = c.in_ok-one.ensures.built f known in
    let rest : built ≡ record w { dom = built.dom; watchers = built.watchers } = c.build.ensures.rest in
    let left : c.note.new.self ≡ after w built.watchers cs built.dom is os ps = c.note.ensures.rest ∙ ap (λ (x : Works). record x { controls = cs; inner = ps; instances = is; owners = os }) rest in
    let is_path : path ≡ path_at scopes scope = c.in_ok-path.ensures ∙ c.path.ensures in
    let made : linked_of all path one ≡ l = ap (λ (q : List ℕ). linked_of all q one) is_path ∙ p.made in
    let noted : instances_of all is.entries ≡ taken_in place path (instances_of all (insert_entry path_cmp w.instances.entries path one)) =
    c.in_ok-note.ensures.instances all ∙ ap (λ (x : Works). taken_in place path (instances_of all (insert_entry path_cmp x.instances.entries path one))) rest in
    let node : one.node ≡ next_name w.dom = ap (λ (x : Linked). x.page.node) p.made in
    let begun : cs.entries ≡ controls_begun l.page.controls (state_of w).controls =
    c.in_ok-begin_controls.ensures
    ∙ (ap (λ (x : Works). controls_begun (controlled_of one.controls.entries) x.controls.entries) rest ∙ ap (λ (x : Linked). controls_begun x.page.controls (state_of w).controls) p.made) in
    let inner : ps.entries ≡ with_inner path l.page.inner (state_of w).inner =
    c.in_ok-note_inner.ensures
    ∙ (ap (λ (x : Works). with_inner path (map inner_of c.as_slice.result.now) x.inner.entries) rest
    ∙ (ap (λ (xs : List code_inner.Inner). with_inner path (map inner_of xs) (state_of w).inner) c.as_slice.ensures.value
    ∙ ap (λ (x : Linked). with_inner path x.page.inner (state_of w).inner) p.made)) in
    let owned : os.entries ≡ insert_entry nat_cmp w.owners.entries (next_name w.dom) path =
    c.in_ok-note.ensures.owners
    ∙ (ap (λ (x : Works). insert_entry nat_cmp x.owners.entries one.node path) rest ∙ ap (λ (n : ℕ). insert_entry nat_cmp w.owners.entries n path) node) in
    ap state_of left
    ∙ (placed_state w built.watchers cs built.dom is os ps one place path l (site_rows scopes f r) p.rows begun noted made owned inner (stood_next _ _ _ _ w.dom built.dom p.stood)
    ∙ ap (λ (q : List ℕ). placed_under place q l (site_rows scopes f r) (state_of w)) is_path)

pub returns-clause-lives : goal.returns-clause-lives
returns-clause-lives c = λ f known.
    let w : Works = c.args.self.now in
    let built : Works = c.build.new.self in
    let one : code.Linked = c.in_ok-one.one in
    let which : Origin = c.args.origin.now in
    let scope = c.args.scope.0 in
    let scopes : List Scope = (state_of w).core.scopes in
    let r : Registered = registered_of c.args.made in
    let reg : IsRegistered f scope r (state_of w) = c.requires.made f known in
    let p = c.in_ok-one.ensures.built f known in
    let rest : built ≡ record w { dom = built.dom; watchers = built.watchers } = c.build.ensures.rest in
    let path : List ℕ = path_at scopes scope in
    c.any_lives-lives.ensures path
    ∙ (ap (λ (x : Works). any_on (state_of x).core.scopes (page_of path one) (map_keys one.spots.entries)) rest
    ∙ (ap (λ (x : Linked). any_on scopes x.page x.page.serials) p.made ∙ lives_are scopes which scope f r (next_name w.dom) reg.own reg.rising))

pub returns-clause-stands : goal.returns-clause-stands
returns-clause-stands c =
    let w : Works = c.args.self.now in
    let all = templates_of w in
    let built : Works = c.build.new.self in
    let cs = c.begin_controls.new.controls in
    let ps = c.note_inner.new.table in
    let is = c.note.new.self.instances in
    let os = c.note.new.self.owners in
    let one : code.Linked = c.in_ok-one.one in
    let place : Place = place_of c.args.place.now in
    let which : Origin = c.args.origin.now in
    let scope = c.args.scope.0 in
    let scopes : List Scope = (state_of w).core.scopes in
    let path : List ℕ = c.in_ok-path.path in
    let r : Registered = registered_of c.args.made in
    let there = fragment_found (fragment_for all which) c.requires.template in
    let f : Fragment = there.0 in
    let known : fragment_for all which ≡ Some f = there.1 in
    let reg : IsRegistered f scope r (state_of w) = c.requires.made f known in
    let p = c.in_ok-one.ensures.built f known in
    let m = next_name w.dom in
    let l : Linked = linked_on scopes which scope f r m in
    let rest : built ≡ record w { dom = built.dom; watchers = built.watchers } = c.build.ensures.rest in
    let left : c.note.new.self ≡ after w built.watchers cs built.dom is os ps = c.note.ensures.rest ∙ ap (λ (x : Works). record x { controls = cs; inner = ps; instances = is; owners = os }) rest in
    let is_path : path ≡ path_at scopes scope = c.in_ok-path.ensures ∙ c.path.ensures in
    let made : linked_of all path one ≡ l = ap (λ (q : List ℕ). linked_of all q one) is_path ∙ p.made in
    let noted : instances_of all is.entries ≡ taken_in place path (instances_of all (insert_entry path_cmp w.instances.entries path one)) =
    c.in_ok-note.ensures.instances all ∙ ap (λ (x : Works). taken_in place path (instances_of all (insert_entry path_cmp x.instances.entries path one))) rest in
    let begun : cs.entries ≡ controls_begun l.page.controls (state_of w).controls =
    c.in_ok-begin_controls.ensures
    ∙ (ap (λ (x : Works). controls_begun (controlled_of one.controls.entries) x.controls.entries) rest ∙ ap (λ (x : Linked). controls_begun x.page.controls (state_of w).controls) p.made) in
    let inner : ps.entries ≡ with_inner path l.page.inner (state_of w).inner =
    c.in_ok-note_inner.ensures
    ∙ (ap (λ (x : Works). with_inner path (map inner_of c.as_slice.result.now) x.inner.entries) rest
    ∙ (ap (λ (xs : List code_inner.Inner). with_inner path (map inner_of xs) (state_of w).inner) c.as_slice.ensures.value
    ∙ ap (λ (x : Linked). with_inner path x.page.inner (state_of w).inner) p.made)) in
    let is_free : IsFree place path (state_of w) = subst (λ (q : List ℕ). IsFree place q (state_of w)) (sym is_path) c.requires.free in
    let spotted = λ (k : Key).
    c.in_ok-note.ensures.spots ps.entries k ∙ (ap (λ (x : Works). spot_in ps.entries (insert_entry path_cmp x.instances.entries path one) k) rest ∙ spots_noted ps.entries w.instances.entries path one k) in
    let count : length r.serials ≡ length f.sites = reg.count ∙ (parts_count m f.parts (ended_done reg.ended.0 (steps f.parts) reg.ended.1) ∙ many_holes f m p.numbered) in
    let stood =
    subst (λ (x : Option ℕ × ℕ). IsStood x.0 x.1 (new_stands l) (nodes f.parts) w.dom built.dom) (c.spot_for-spot.ensures all) p.stood in
    subst IsStanding (sym left)
    (placed_stands w built.watchers cs built.dom is os ps one which scope m path f r is_path spotted inner (free_path place path (state_of w) is_free) (unused_path place path (state_of w) c.requires.stands.1.inner is_free)
    c.requires.stands.1.inner reg c.requires.scope p.numbered p.outlined c.requires.objects.below count (p.spots ∙ spots_are r.serials _ reg.rising) p.undrawn p.rows begun place is_free
    (taken_up all place path one l w.instances.entries is.entries noted made) refl stood c.requires.stands.0 c.requires.stands.1)
