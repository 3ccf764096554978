use Rattle.std.proofs.Common.{◌≡◌, ◌+◌, ◌<◌, ◌≤◌, ℕ, List, [], ap, refl, sym, subst, ◌∙◌, true, Some, length, map}
use Rattle.std.specs.List.{AllByRecursion}
use Rattle.std.specs.Map.{keys_of as map_keys}
use Rattle.std.specs.Prelude.{option_map}
use Rattle.ng_base.specs.declared.name.ScopeId.{ScopeId}
use Rattle.ng_base.specs.declared.path.Key.{Key}
use Rattle.ng_behaviour.specs.Scopes.{Scope, path_at}
use Rattle.ng_dom.specs.Document.{next_name, live_count}
use Rattle.ng_drawing.specs.Nodes.{nodes, node_limit}
use Rattle.ng_drawing.specs.Template.{Site, Fragment, Parts}
use Rattle.ng_drawing.specs.declared.origin.Origin.{Origin}
use Rattle.ng_parts.specs.FragmentOf.{fragment_of}
use Rattle.ng_drawing.specs.Named.{fragment_for}
use Rattle.ng_drawing.specs.Numbering.{is_whole, HasOrder}
use Rattle.ng_parts.specs.Seen.{parts_of}
use Rattle.ng_copies.specs.WholeOf.{whole_of}
use Rattle.ng_watch.specs.Table.{Table, watchers_of}
use Rattle.ng_instances.specs.BoundOf.{registered_of}
use Rattle.ng_build.specs.Building.{parent_name, IsStood}
use Rattle.ng_link.specs.Calls.{page_on, linked_on}
use Rattle.ng_instances.specs.Instances.{keys_of}
use Rattle.ng_build.specs.Linking.{steps}
use Rattle.ng_instances.specs.Laid.{IsLaid}
use Rattle.ng_link.specs.Placing.{IsPrepared, IsRegistered}
use Rattle.ng_instances.specs.Registering.{Ground, Registered, IsGrounded, site_rows}
use Rattle.ng_instances.specs.RowOf.{row_of}
use Rattle.ng_instances.specs.Rows.{Row, with_sites, spots_by}
use Rattle.ng_build.specs.Shape.{keys_by, shape, unfilled, holes, anchors}
use Rattle.ng_instances.specs.InstanceOf.{linked_of}
use Rattle.ng_link.specs.State.{state_of, templates_of}
use Rattle.ng_instances.specs.declared.instances.Linked as code
use Rattle.ng_link.specs.declared.works.Works.{Works}
use Rattle.ng_link.proofs.Undrawn.{outlets_undrawn}
use Rattle.ng_link.proofs.Counted.{is_done, ended_done, parts_count}
use Rattle.ng_link.proofs.Fragments.{fragment_or, said_of}
use Rattle.ng_link.proofs.NewInstance.{many_holes, linked_made}
use Rattle.ng_link.proofs.Marks.{grounded, keys_by_are}
use Rattle.ng_link.proofs.Numbers.{whole_count, whole_outlets}
use Rattle.ng_link.proofs.Serials.{paired_keys, spots_are}
use Rattle.ng_link.proofs.works.Works.build.Goals as goal
use Rattle.ng_link.proofs.works.Works.build.Goals.{in-Made-7, in-Kept-7}

-- the scopes of an instance, as two slices have them
abbrev ground_with : List ScopeId → List ScopeId → Ground
ground_with xs ys = record { scopes = map (λ s. s.0) xs; outsides = map (λ s. s.0) ys }

ground_is : (xs us ys vs : List ScopeId) → xs ≡ us → ys ≡ vs → ground_with xs ys ≡ ground_with us vs
ground_is xs us ys vs e h = ap (λ (zs : List ScopeId). ground_with zs ys) e ∙ ap (ground_with us) h

pub lay_out-requires-clause-scopes : goal.lay_out-requires-clause-scopes
lay_out-requires-clause-scopes c =
    let f : Fragment = whole_of c.in-Some.whole in
    let known : fragment_for (templates_of c.args.self.now) c.args.origin.now ≡ Some f = sym c.in_ok-whole.ensures.fragment ∙ ap (option_map whole_of) c.in-Some.is in
    let count : ℕ = length (state_of c.args.self.now).core.scopes in
    let same = ground_is c.as_slice.result.now c.args.made.scopes.items c.as_slice-2.result.now c.args.made.outsides.items c.as_slice.ensures.value c.as_slice-2.ensures.value in
    subst (λ (g : Ground). AllByRecursion (λ (n : ℕ). n < count) g.scopes) (sym same) (c.requires.made f known).scopes

pub lay_out-requires-clause-grounded : goal.lay_out-requires-clause-grounded
lay_out-requires-clause-grounded c =
    let f : Fragment = whole_of c.in-Some.whole in
    let known : fragment_for (templates_of c.args.self.now) c.args.origin.now ≡ Some f = sym c.in_ok-whole.ensures.fragment ∙ ap (option_map whole_of) c.in-Some.is in
    let reg = c.requires.made f known in
    let count : ℕ = length (state_of c.args.self.now).core.scopes in
    let same = ground_is c.as_slice.result.now c.args.made.scopes.items c.as_slice-2.result.now c.args.made.outsides.items c.as_slice.ensures.value c.as_slice-2.ensures.value in
    subst (IsGrounded count) (sym same) (grounded count (registered_of c.args.made).at_hand c.args.scope.0 reg.own reg.scopes)

pub site_rows-requires-clause-same : goal.site_rows-requires-clause-same
site_rows-requires-clause-same c = ground_is c.as_slice.result.now c.args.made.scopes.items c.as_slice-2.result.now c.args.made.outsides.items c.as_slice.ensures.value c.as_slice-2.ensures.value

pub site_rows-requires-clause-grounded : goal.site_rows-requires-clause-grounded
site_rows-requires-clause-grounded c =
    let f : Fragment = whole_of c.in-Some.whole in
    let known : fragment_for (templates_of c.args.self.now) c.args.origin.now ≡ Some f = sym c.in_ok-whole.ensures.fragment ∙ ap (option_map whole_of) c.in-Some.is in
    let reg = c.requires.made f known in
    let count : ℕ = length (state_of c.args.self.now).core.scopes in
    let same = ground_is c.as_slice.result.now c.args.made.scopes.items c.as_slice-2.result.now c.args.made.outsides.items c.as_slice.ensures.value c.as_slice-2.ensures.value in
    subst (IsGrounded count) (sym same) (grounded count (registered_of c.args.made).at_hand c.args.scope.0 reg.own reg.scopes)

pub site_rows-requires-clause-bounds : goal.site_rows-requires-clause-bounds
site_rows-requires-clause-bounds c =
    let f : Fragment = whole_of c.in-Some.whole in
    let known : fragment_for (templates_of c.args.self.now) c.args.origin.now ≡ Some f = sym c.in_ok-whole.ensures.fragment ∙ ap (option_map whole_of) c.in-Some.is in
    (c.requires.made f known).bounds

pub link_nodes-requires-clause-room : goal.link_nodes-requires-clause-room
link_nodes-requires-clause-room c =
    let f : Fragment = whole_of c.in-Some.whole in
    let known : fragment_for (templates_of c.args.self.now) c.args.origin.now ≡ Some f = sym c.in_ok-whole.ensures.fragment ∙ ap (option_map whole_of) c.in-Some.is in
    let parts : parts_of c.parts.result.now ≡ f.parts = c.parts.ensures ∙ ap (λ (h : Fragment). h.parts) c.fragment-fragment.ensures in
    subst (λ (ps : Parts). live_count c.args.self.now.dom + nodes ps ≤ node_limit) (sym parts) (c.requires.room f known)

pub returns-clause-built : goal.returns-clause-built
returns-clause-built c = λ g asked.
    let old = c.args.self.now in
    let all = templates_of old in
    let o : Origin = c.args.origin.now in
    let f : Fragment = whole_of c.in-Some.whole in
    let is : fragment_of c.fragment-fragment.result.now ≡ f = c.fragment-fragment.ensures in
    let r : Registered = registered_of c.args.made in
    let scopes : List Scope = (state_of old).core.scopes in
    let scope : ℕ = c.args.scope.0 in
    let serials : List ℕ = r.serials in
    let path : List ℕ = path_at scopes scope in
    let known : fragment_for all o ≡ Some f = sym c.in_ok-whole.ensures.fragment ∙ ap (option_map whole_of) c.in-Some.is in
    let reg : IsRegistered f scope r (state_of old) = c.requires.made f known in
    let done : is_done (steps f.parts) ≡ true = ended_done reg.ended.0 (steps f.parts) reg.ended.1 in
    let order : HasOrder f = said_of (λ x. HasOrder (whole_of x)) _ c.in-Some.whole c.in-Some.is c.in_ok-whole.ensures.order in
    let bodies : ℕ = order.0 in
    let whole : is_whole bodies f ≡ true = order.1 in
    let numbered = whole_count bodies f whole in
    let m = next_name old.dom in
    let node : c.next_name-node.result ≡ m = c.next_name-node.ensures in
    let slice : c.as_slice-serials.result.now ≡ serials = c.as_slice-serials.ensures.value in
    let ground = ground_is c.as_slice.result.now c.args.made.scopes.items c.as_slice-2.result.now c.args.made.outsides.items c.as_slice.ensures.value c.as_slice-2.ensures.value in
    let L : Fragment → Ground → List ℕ → ℕ → Type 0 = λ h y ss n. IsLaid scopes o scope h y ss n c.in_ok-laid.laid in
    let laid : L f r.at_hand serials m =
    subst (λ (n : ℕ). L f r.at_hand serials n) node
    (subst (λ (ss : List ℕ). L f r.at_hand ss c.next_name-node.result) slice
    (subst (λ (y : Ground). L f y c.as_slice-serials.result.now c.next_name-node.result) ground
    (subst (λ (h : Fragment). L h (ground_with c.as_slice.result.now c.as_slice-2.result.now) c.as_slice-serials.result.now c.next_name-node.result) is c.in_ok-laid.ensures))) in
    let parts : parts_of c.parts.result.now ≡ f.parts = c.parts.ensures ∙ ap (λ (h : Fragment). h.parts) is in
    let are_holes : c.in_ok-nodes.nodes.items ≡ holes m f.parts = c.in_ok-nodes.ensures.holes ∙ ap (holes m) parts in
    let spots : c.in_ok-spots.spots.entries ≡ spots_by serials (holes m f.parts) [] =
    c.in_ok-spots.ensures.spots ∙ (ap (λ (ss : List ℕ). spots_by ss c.as_slice-4.result.now []) slice ∙ ap (λ (ns : List ℕ). spots_by serials ns []) (c.as_slice-4.ensures.value ∙ are_holes)) in
    let as_many : length serials ≡ length (holes m f.parts) = reg.count ∙ parts_count m f.parts done in
    let keys : map_keys c.in_ok-spots.spots.entries ≡ serials = ap map_keys (spots ∙ spots_are serials (holes m f.parts) reg.rising) ∙ paired_keys serials (holes m f.parts) as_many in
    let one : code.Linked = c.linked_with.result in
    let made_one = c.linked_with.ensures in
    let parts_one : code.Linked = record {
      origin = c.in_ok-origin.origin;
      scope = c.args.scope;
      spots = c.in_ok-spots.spots;
      node = c.next_name-node.result;
      handlers = c.in_ok-laid.laid.handlers;
      controls = c.in_ok-laid.laid.controls;
      outlets = c.in_ok-laid.laid.outlets;
      inner = c.in_ok-laid.laid.inner;
      marks = c.in_ok-laid.laid.marks;
      elements = c.in_ok-laid.laid.elements;
      bounds = c.args.made.bounds;
    } in
    let two : code.Linked = record parts_one { origin = o; node = m } in
    let same_parts : parts_one ≡ two = ap (λ (x : Origin). record parts_one { origin = x }) c.in_ok-origin.ensures ∙ ap (λ (n : ℕ). record parts_one { origin = o; node = n }) node in
    let made : linked_of all path two ≡ linked_on scopes o scope f r m =
    linked_made all scopes path f r two (fragment_or all o f known) refl keys laid.handlers laid.controls laid.outlets laid.inner laid.marks laid.elements refl in
    let many : length serials ≡ length f.sites = as_many ∙ many_holes f m numbered in
    let undrawn = outlets_undrawn o r.at_hand serials f many bodies whole (anchors m f.parts) in
    let table : Table = watchers_of old.watchers in
    let rows : watchers_of c.watch_all.new.watchers ≡ with_sites (site_rows scopes f r) f.sites table =
    c.in_ok-watch_all.ensures.rows
    ∙ (ap (λ (xs : List Site). with_sites (map row_of c.in_ok-rows.rows.items) xs table) (c.sites.ensures ∙ ap (λ (h : Fragment). h.sites) is)
    ∙ ap (λ (rs : List Row). with_sites rs f.sites table) (c.in_ok-rows.ensures ∙ ap (λ (h : Fragment). site_rows scopes h r) is)) in
    let S : (ℕ → Key) → Parts → Type 0 = λ ks ps. IsStood (parent_name c.args.spot.now.parent) c.args.spot.now.at (shape ks m unfilled ps) (nodes ps) old.dom c.link_nodes.new.dom in
    let its_keys : keys_by c.as_slice-3.result.now ≡ keys_of (page_on scopes o scope f r m) = ap keys_by (c.as_slice-3.ensures.value ∙ laid.keys) ∙ keys_by_are scopes o scope f r m reg.own reg.rising in
    let same : f ≡ g = let both : Some f ≡ Some g = sym known ∙ asked in cc in
    let P : Works → code.Linked → Fragment → Type 0 = λ x i h. IsPrepared o scope r h (parent_name c.args.spot.now.parent, c.args.spot.now.at) old x i in
    let left : Works = record old { watchers = c.watch_all.new.watchers; dom = c.link_nodes.new.dom } in
    let prepared : P left one g =
    subst (λ (i : code.Linked). P left i g) (sym (made_one ∙ same_parts))
    (subst (P left two) same
    (record {
      numbered = numbered;
      outlined = whole_outlets bodies f whole;
      made = made;
      spots = spots;
      undrawn = undrawn;
      rows = rows;
      stood = subst (λ (ks : ℕ → Key). S ks f.parts) its_keys (subst (S (keys_by c.as_slice-3.result.now)) parts c.in_ok-nodes.ensures.stood);
    })) in
    elim c.match-whole-7.branch [
      | in-Made-7 w ↦ subst (λ (x : Works). P x one g) (sym w.self-is) prepared
      | in-Kept-7 w ↦ subst (λ (x : Works). P x one g) (sym w.self-is) prepared
    ]
