-- An instance that was made: its parts as the code has them, and the state once it is noted.
use Rattle.std.proofs.Common.{◌≡◌, ◌+◌, ℕ, Bool, true, false, List, [], Option, Some, None, refl, ap, ◌∙◌, sym, map, cond, length, zero-add}
use Rattle.std.specs.Prelude.{option_and_then}
use Rattle.std.specs.BTreeMap.{BTreeMap, insert_entry}
use Rattle.std.specs.Map.{lookup, keys_of as map_keys}
use Rattle.std.specs.Ordering.{nat_cmp}
use Rattle.ng_base.specs.Order.{path_cmp}
use Rattle.ng_base.specs.declared.path.Key.{Key}
use Rattle.ng_behaviour.specs.Scopes.{Scope, path_at}
use Rattle.ng_control.specs.State.{ControlState}
use Rattle.ng_dom.specs.Document.{next_name}
use Rattle.ng_dom.specs.Drawing.{Stands}
use Rattle.ng_dom.specs.declared.dom.Dom.{Dom}
use Rattle.ng_drawing.specs.Nodes.{nodes}
use Rattle.ng_drawing.specs.Template.{Fragment}
use Rattle.ng_drawing.specs.Numbering.{after_parts}
use Rattle.ng_drawing.specs.Named.{Named, fragments_in}
use Rattle.ng_watch.specs.Table.{Table, watchers_of}
use Rattle.ng_watch.specs.declared.watched.Watched.{Watched}
use Rattle.ng_instances.specs.Bindings.{Bounds}
use Rattle.ng_instances.specs.BoundOf.{inner_of, bounds_of}
use Rattle.ng_build.specs.Building.{IsStood}
use Rattle.ng_instances.specs.Changing.{Place, outlets_on, inner_on}
use Rattle.ng_link.specs.Calls.{page_on, linked_on, taken_in, placed_under}
use Rattle.ng_build.specs.Controls.{Controlled, controlled, Controls, controls_begun}
use Rattle.ng_instances.specs.Instances.{OutletState, Inner, Page, Linked, Instances, Inners, Owners, is_path, instance_path, with_instance, with_inner}
use Rattle.ng_instances.specs.MarksOf.{marks_of}
use Rattle.ng_build.specs.Handlers.{Handled, handled, scoped}
use Rattle.ng_instances.specs.Registering.{Registered, Marks, marks_from, keys_on}
use Rattle.ng_instances.specs.Rows.{Row, with_sites}
use Rattle.ng_build.specs.Shape.{keys_or, holes, anchors}
use Rattle.ng_build.specs.HandledOf.{handled_of, controlled_of}
use Rattle.ng_instances.specs.InstanceOf.{outlet_of, page_of, linked_of, instances_of, spot_at, spot_in}
use Rattle.ng_link.specs.State.{State, templates_of, state_of}
use Rattle.ng_instances.specs.declared.instances.Linked as code
use Rattle.ng_link.specs.declared.works.Works.{Works}
use Rattle.ng_instances.proofs.Listed.{noted-seen}
use Rattle.ng_link.proofs.NotedFound.{noted_found}
use Rattle.ng_link.proofs.Numbers.{counted}

-- What is left: the works with other watchers, more controls, another document, one instance more, and more inner scopes.
abbrev pub after : Works → List (Key × Watched) → BTreeMap Key ControlState → Dom → BTreeMap (List ℕ) code.Linked → BTreeMap ℕ (List ℕ) → BTreeMap (List ℕ) (List ℕ) → Works
after w ws cs d is os ps = record w { watchers = ws; controls = cs; dom = d; instances = is; owners = os; inner = ps }

-- a site for each hole
pub many_holes : (f : Fragment) (m : ℕ) → after_parts 0 f.parts ≡ Some (length f.sites) → length (holes m f.parts) ≡ length f.sites
many_holes f m numbered =
    let all : length f.sites ≡ 0 + length (holes m f.parts) = counted 0 m (length f.sites) f.parts numbered in
    sym (all ∙ zero-add (length (holes m f.parts)))

-- an instance, as its parts in the code are seen
pub linked_made : (all : List Named) (scopes : List Scope) (path : List ℕ) (f : Fragment) (r : Registered) (one : code.Linked) → fragments_in all one.origin ≡ f → path ≡ path_at scopes one.scope.0 → map_keys one.spots.entries ≡ r.serials
    → handled_of one.handlers.entries ≡ handled one.node f.parts []
    → controlled_of one.controls.entries ≡ controlled (keys_or (path_at scopes one.scope.0) (keys_on scopes f r.at_hand 0 r.serials)) one.node f.parts []
    → map outlet_of one.outlets.items ≡ outlets_on one.origin r.at_hand r.serials f (anchors one.node f.parts)
    → map inner_of one.inner.items ≡ inner_on scopes r.at_hand.scopes → marks_of one.marks.entries ≡ marks_from f 0 r.serials []
    → one.elements.entries ≡ scoped one.node f.parts [] → bounds_of one.bounds.entries ≡ r.bounds
    → linked_of all path one ≡ linked_on scopes one.origin one.scope.0 f r one.node
linked_made all scopes path f r one fragment is_path numbers entered controls outlets inner marks elements bounds =
    let P : List ℕ → List ℕ → Handled → Controlled → List OutletState → List Inner → Marks → List (ℕ × ℕ) → Bounds → Page = λ p ss hs cs os is ms es bs. record {
      origin = one.origin;
      scope = one.scope.0;
      path = p;
      serials = ss;
      node = one.node;
      handlers = hs;
      controls = cs;
      outlets = os;
      inner = is;
      marks = ms;
      elements = es;
      bounds = bs;
    } in
    let p : List ℕ = path_at scopes one.scope.0 in
    let hs : Handled = handled_of one.handlers.entries in
    let cs : Controlled = controlled_of one.controls.entries in
    let os : List OutletState = map outlet_of one.outlets.items in
    let is : List Inner = map inner_of one.inner.items in
    let ms : Marks = marks_of one.marks.entries in
    let es : List (ℕ × ℕ) = one.elements.entries in
    let bs : Bounds = bounds_of one.bounds.entries in
    let ss : List ℕ = r.serials in
    let hs2 : Handled = handled one.node f.parts [] in
    let cs2 : Controlled = controlled (keys_or p (keys_on scopes f r.at_hand 0 ss)) one.node f.parts [] in
    let os2 : List OutletState = outlets_on one.origin r.at_hand ss f (anchors one.node f.parts) in
    let is2 : List Inner = inner_on scopes r.at_hand.scopes in
    let ms2 : Marks = marks_from f 0 ss [] in
    let page : page_of path one ≡ page_on scopes one.origin one.scope.0 f r one.node =
    ap (λ (x : List ℕ). P x (map_keys one.spots.entries) hs cs os is ms es bs) is_path
    ∙ (ap (λ (x : List ℕ). P p x hs cs os is ms es bs) numbers
    ∙ (ap (λ (x : Handled). P p ss x cs os is ms es bs) entered
    ∙ (ap (λ (x : Controlled). P p ss hs2 x os is ms es bs) controls
    ∙ (ap (λ (x : List OutletState). P p ss hs2 cs2 x is ms es bs) outlets
    ∙ (ap (λ (x : List Inner). P p ss hs2 cs2 os2 x ms es bs) inner
    ∙ (ap (λ (x : Marks). P p ss hs2 cs2 os2 is2 x es bs) marks
    ∙ (ap (λ (x : List (ℕ × ℕ)). P p ss hs2 cs2 os2 is2 ms2 x bs) elements
    ∙ ap (λ (x : Bounds). P p ss hs2 cs2 os2 is2 ms2 (scoped one.node f.parts []) x) bounds))))))) in
    ap (λ (g : Fragment). let x : Linked = record { fragment = g; page = page_of path one } in x) fragment ∙ ap (λ (q : Page). let x : Linked = record { fragment = f; page = q } in x) page

-- the instances, once one was noted and stands in its outlet
pub taken_up : (all : List Named) (place : Place) (path : List ℕ) (one : code.Linked) (l : Linked) (old new : List (List ℕ × code.Linked))
    → instances_of all new ≡ taken_in place path (instances_of all (insert_entry path_cmp old path one)) → linked_of all path one ≡ l → instances_of all new ≡ taken_in place path (with_instance path l (instances_of all old))
taken_up all place path one l old new noted made =
    noted ∙ ap (taken_in place path) (noted-seen (linked_of all) path one old ∙ ap (λ (x : Linked). insert_entry path_cmp (instances_of all old) path x) made)

-- the names of the nodes that were made are used up
pub stood_next : (p : Option ℕ) (i : ℕ) (ts : Stands) (count : ℕ) (d e : Dom) → IsStood p i ts count d e → next_name e ≡ next_name d + count
stood_next None i ts count d e s = s.put.1.next ∙ s.builds.next
stood_next (Some a) i ts count d e s = s.put.1.next ∙ s.builds.next

-- the state that is left
pub placed_state : (w : Works) (ws : List (Key × Watched)) (cs : BTreeMap Key ControlState) (d : Dom) (is : BTreeMap (List ℕ) code.Linked) (os : BTreeMap ℕ (List ℕ)) (ps : BTreeMap (List ℕ) (List ℕ)) (one : code.Linked) (place : Place)
    (path : List ℕ) (l : Linked) (rows : List Row) → watchers_of ws ≡ with_sites rows l.fragment.sites (state_of w).watchers
    → cs.entries ≡ controls_begun l.page.controls (state_of w).controls
    → instances_of (templates_of w) is.entries ≡ taken_in place path (instances_of (templates_of w) (insert_entry path_cmp w.instances.entries path one))
    → linked_of (templates_of w) path one ≡ l → os.entries ≡ insert_entry nat_cmp w.owners.entries (state_of w).next_node path
    → ps.entries ≡ with_inner path l.page.inner (state_of w).inner
    → next_name d ≡ (state_of w).next_node + nodes l.fragment.parts → state_of (after w ws cs d is os ps) ≡ placed_under place path l rows (state_of w)
placed_state w ws cs d is os ps one place path l rows watched begun noted made owned inner next =
    let s : State = state_of w in
    let all = templates_of w in
    let left = λ (t : Table) (c : Controls) (x : Instances) (o : Owners) (y : Inners) (n : ℕ). record s { watchers = t; controls = c; instances = x; owners = o; inner = y; next_node = n } in
    let table : Table = with_sites rows l.fragment.sites s.watchers in
    let more : Instances = taken_in place path (with_instance path l s.instances) in
    let instances : instances_of all is.entries ≡ more = taken_up all place path one l w.instances.entries is.entries noted made in
    let begin : Controls = controls_begun l.page.controls s.controls in
    let owners : Owners = insert_entry nat_cmp s.owners s.next_node path in
    ap (λ (t : Table). left t cs.entries (instances_of all is.entries) os.entries ps.entries (next_name d)) watched
    ∙ (ap (λ (c : Controls). left table c (instances_of all is.entries) os.entries ps.entries (next_name d)) begun
    ∙ (ap (λ (x : Instances). left table begin x os.entries ps.entries (next_name d)) instances
    ∙ (ap (λ (o : Owners). left table begin more o ps.entries (next_name d)) owned
    ∙ (ap (λ (y : Inners). left table begin more owners y (next_name d)) inner ∙ ap (λ (n : ℕ). left table begin more owners (with_inner path l.page.inner s.inner) n) next))))

-- where each site is drawn once an instance was noted
pub spots_noted : (inner : Inners) (es : List (List ℕ × code.Linked)) (p : List ℕ) (one : code.Linked) (k : Key)
    → spot_in inner (insert_entry path_cmp es p one) k ≡ cond (is_path p (instance_path inner k.path)) (spot_at one k) (spot_in inner es k)
spots_noted inner es p one k =
    ap (λ (o : Option code.Linked). option_and_then (λ (i : code.Linked). spot_at i k) o) (noted_found p one es (instance_path inner k.path)) ∙ by_path (is_path p (instance_path inner k.path))
  where
    by_path : (b : Bool) → option_and_then (λ (i : code.Linked). spot_at i k) (cond b (Some one) (lookup (is_path (instance_path inner k.path)) es)) ≡ cond b (spot_at one k) (spot_in inner es k)
    by_path true = refl
    by_path false = refl
