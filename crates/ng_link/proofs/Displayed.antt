-- What is linked displays the drawing of its instance, with what that has kept.
use Rattle.std.proofs.Common.{◌≡◌, ◌<◌, ℕ, zero, suc, Bool, List, [], ◌∷◌, ◌++◌, Option, Some, refl, ap, ◌∙◌, sym, subst, map, length, get_or, slice_get, slice_index_or, arith}
use Rattle.std.specs.Prelude.{◌||◌, option_map}
use Rattle.std.proofs.lemmas.Option.{slice_get-map, slice_get-get_or}
use Rattle.std.specs.List.{flat_map, list_any}
use Rattle.ng_base.specs.declared.path.Key.{Key}
use Rattle.ng_markup.specs.Attributes.{if_any, word_if, with_value, class_value}
use Rattle.ng_markup.specs.Forest.{Attributes, Forest, element, text, comment, no_nodes, node}
use Rattle.ng_dom.specs.Document.{Shows}
use Rattle.ng_dom.specs.Drawing as standing
use Rattle.ng_dom.specs.Drawing.{Stands, none_stand, shows, show_bodies}
use Rattle.ng_dom.specs.Laws.{CountsNodes}
use Rattle.ng_dom.specs.Nodes as named
use Rattle.ng_dom.specs.Nodes.{all_names, plain, plain_groups}
use Rattle.ng_dom.proofs.Counting.{names_are_counted}
use Rattle.ng_drawing.specs.Drawing.{Look, Groups, draw_pieces, is_hiding, class_words, draw_class, draw_value, draw_attributes, followed_by, draw_part, draw_contents, draw}
use Rattle.ng_drawing.specs.Instance as instances
use Rattle.ng_drawing.specs.Instance.{SiteState, Instance, instances_from, outlets_from, state_kept, state_control, seen_in}
use Rattle.ng_drawing.specs.Looks.{Seen, seen_by, is_seen_true, is_seen_false}
use Rattle.ng_drawing.specs.Nodes.{forest_count}
use Rattle.ng_drawing.specs.Template.{Piece, word, hole, Hiding, while_true, while_false, PartClass, PartValue, always, unless_empty, flag, classes, PartAttributes, Part, Contents, Parts, text_part, comment_part, element_part, anchor_part, children, bound, no_parts, part_then}
use Rattle.ng_watch.specs.Table.{Table}
use Rattle.ng_build.specs.Controls.{Controls}
use Rattle.ng_link.specs.Holes.{PiecesBelow, SitesBelow, HidingsBelow, ClassBelow, ValueBelow, ValuesBelow, PartBelow, ContentsBelow, HolesBelow}
use Rattle.ng_instances.specs.Instances.{OutletState, Page, Linked, Instances, scope_number, key_in, keys_of, bodies_from, groups_from, stands_join, stands_at}
use Rattle.ng_link.specs.Laws.{PageDisplaysInstance, PageHasItsNames}
use Rattle.ng_instances.specs.Registering.{mark_in}
use Rattle.ng_link.specs.Standing.{IsPlaced, ArePlaced, Standing}
use Rattle.ng_link.specs.State.{State, Resting, looks_of, seen_under, looks_in, site_state, site_states, nothing_linked, groups_in, instance_join, instance_at, shown, live_nodes, places_of, state_of}
use Rattle.ng_link.specs.declared.works.Works.{Works}
use Rattle.ng_link.proofs.Below.{all_below}
use Rattle.ng_link.proofs.Inner.{keys_at}
use Rattle.ng_link.proofs.ReadAlike.{Alike, read_alike}
use Rattle.ng_build.proofs.Shapes.{same_followed}
use Rattle.ng_link.proofs.LinkedLooks.{shape_draws}

-- what is kept alike of each site, and stands alike in each outlet, is drawn alike
module _ (look same : Look) (groups others : Groups) (count : ℕ) (agree : (n : ℕ) → n < count → look n ≡ same n) (alike : (o : ℕ) → groups o ≡ others o) where
  same_pieces : (ps : List Piece) → PiecesBelow count ps → draw_pieces look ps ≡ draw_pieces same ps
  same_pieces [] h = refl
  same_pieces (word w ∷ ps) h = ap (λ (t : List ℕ). w ++ t) (same_pieces ps h.1)
  same_pieces (hole n ∷ ps) h =
      ap (λ (s : Seen). s.text ++ draw_pieces look ps) (agree n h.0) ∙ ap (λ (t : List ℕ). (same n).text ++ t) (same_pieces ps h.1)

  same_words : (ns : List ℕ) → SitesBelow count ns → flat_map (λ n. (look n).words) ns ≡ flat_map (λ n. (same n).words) ns
  same_words [] h = refl
  same_words (n ∷ ns) h =
      ap (λ (s : Seen). s.words ++ flat_map (λ m. (look m).words) ns) (agree n h.0)
      ∙ ap (λ (ws : List (List ℕ)). (same n).words ++ ws) (same_words ns h.1)

  same_hidings : (hs : List Hiding) → HidingsBelow count hs → list_any (is_hiding look) hs ≡ list_any (is_hiding same) hs
  same_hidings [] h = refl
  same_hidings (while_true n ∷ hs) h =
      ap (λ (s : Seen). is_seen_true s || list_any (is_hiding look) hs) (agree n h.0) ∙ ap (λ (b : Bool). is_seen_true (same n) || b) (same_hidings hs h.1)
  same_hidings (while_false n ∷ hs) h =
      ap (λ (s : Seen). is_seen_false s || list_any (is_hiding look) hs) (agree n h.0) ∙ ap (λ (b : Bool). is_seen_false (same n) || b) (same_hidings hs h.1)

  same_class : (c : PartClass) → ClassBelow count c → draw_class look c ≡ draw_class same c
  same_class c h =
      let ws = flat_map (λ n. (look n).words) c.words in
      let hidden = list_any (is_hiding look) c.hidings in
      ap (λ (t : List ℕ). class_value c.written (class_words t ws hidden)) (same_pieces c.pieces h.0)
      ∙ (ap (λ (us : List (List ℕ)). class_value c.written (class_words (draw_pieces same c.pieces) us hidden)) (same_words c.words h.1)
      ∙ ap (λ (b : Bool). class_value c.written (class_words (draw_pieces same c.pieces) (flat_map (λ n. (same n).words) c.words) b)) (same_hidings c.hidings h.2))

  same_value : (v : PartValue) → ValueBelow count v → draw_value look v ≡ draw_value same v
  same_value (always ps) h = ap Some (same_pieces ps h)
  same_value (unless_empty ps) h = ap if_any (same_pieces ps h)
  same_value (flag w n) h = ap (λ (s : Seen). word_if (is_seen_true s) w) (agree n h)
  same_value (classes c) h = same_class c h

  same_values : (ats : PartAttributes) (done : Attributes) → ValuesBelow count ats → draw_attributes look ats done ≡ draw_attributes same ats done
  same_values [] done h = refl
  same_values (a ∷ ats) done h =
      ap (λ (o : Option (List ℕ)). draw_attributes look ats (with_value a.0 o done)) (same_value a.1 h.0)
      ∙ same_values ats (with_value a.0 (draw_value same a.1) done) h.1

  mutual
    same_part : (p : Part) → PartBelow count p → draw_part look groups p ≡ draw_part same others p
    same_part (text_part ps) h = ap (λ (t : List ℕ). node (text t) no_nodes) (same_pieces ps h)
    same_part (comment_part t) h = refl
    same_part (element_part e own acts ats c) h =
        ap (λ (us : Attributes). node (element e us (draw_contents look groups c)) no_nodes) (same_values ats [] h.1)
        ∙ ap (λ (f : Forest). node (element e (draw_attributes same ats []) f) no_nodes) (same_contents c h.2)
    same_part (anchor_part o own starts) h = ap (λ (f : Forest). node (comment []) f) (alike o)

    same_contents : (c : Contents) → ContentsBelow count c → draw_contents look groups c ≡ draw_contents same others c
    same_contents (children ps) h = same_parts ps h
    same_contents (bound n) h = ap (λ (s : Seen). node (text s.text) no_nodes) (agree n h)

    pub same_parts : (ps : Parts) → HolesBelow count ps → draw look groups ps ≡ draw same others ps
    same_parts no_parts h = refl
    same_parts (part_then p ps) h =
        ap (λ (f : Forest). followed_by f (draw look groups ps)) (same_part p h.0)
        ∙ ap (λ (f : Forest). followed_by (draw_part same others p) f) (same_parts ps h.1)

-- what is seen of a site by what is noted of it
abbrev seen_of_site : Option SiteState → Seen
seen_of_site s = seen_by (state_control s) (state_kept s)

-- the state of a site by its number
state_at : (t : Table) (r : Resting) (cs : Controls) (p : Page) (j : ℕ) → j < length p.serials → slice_get (site_states t r cs p) j ≡ Some (site_state t r cs (scope_number p (mark_in p.marks (get_or p.serials j 0)).over) (keys_of p j))
state_at t r cs p j lt =
    let s : ℕ = get_or p.serials j 0 in
    let at : slice_get p.serials j ≡ Some s = slice_get-get_or p.serials j 0 lt in
    let state = λ (n : ℕ). site_state t r cs (scope_number p (mark_in p.marks n).over) (key_in p n) in
    slice_get-map state p.serials j
    ∙ (ap (option_map state) at
    ∙ ap (λ (k : Key). Some (site_state t r cs (scope_number p (mark_in p.marks s).over) k)) (sym (keys_at p j s at)))

-- what stands is drawn as the instance that is read off, with what its sites have kept
module _ (t : Table) (r : Resting) (cs : Controls) (places : Key → Option ℕ) (next : ℕ) where
  abbrev seen : Key → standing.Look
  seen k = looks_of t r cs k

  abbrev IsDrawn : Stands → Instance → Type 0
  IsDrawn ts i = plain (shows seen ts) ≡ instances.shown i

  bodies_drawn : (tss : List Stands) (is : List Instance) → Alike IsDrawn tss is → plain_groups (show_bodies seen (bodies_from tss)) ≡ instances.shown_all (instances_from is)
  bodies_drawn [] [] h = refl
  bodies_drawn [] (i ∷ is) h = absurd h
  bodies_drawn (ts ∷ tss) [] h = absurd h
  bodies_drawn (ts ∷ tss) (i ∷ is) h =
      ap (λ (f : Forest). named.followed_by f (plain_groups (show_bodies seen (bodies_from tss)))) h.0
      ∙ (ap (λ (f : Forest). named.followed_by (instances.shown i) f) (bodies_drawn tss is h.1) ∙ same_followed (instances.shown i) (instances.shown_all (instances_from is)))

  groups_drawn : (os : List OutletState) (tsss : List (List Stands)) (iss : List (List Instance)) → Alike (Alike IsDrawn) tsss iss → (o : ℕ)
      → plain_groups (show_bodies seen (groups_from tsss o)) ≡ slice_index_or (instances.shown_in (outlets_from (groups_in os (map instances_from iss)))) o no_nodes
  groups_drawn os [] [] h o = refl
  groups_drawn os [] (is ∷ iss) h o = absurd h
  groups_drawn os (tss ∷ tsss) [] h o = absurd h
  groups_drawn [] (tss ∷ tsss) (is ∷ iss) h zero = bodies_drawn tss is h.0
  groups_drawn [] (tss ∷ tsss) (is ∷ iss) h (suc o) = groups_drawn [] tsss iss h.1 o
  groups_drawn (x ∷ os) (tss ∷ tsss) (is ∷ iss) h zero = bodies_drawn tss is h.0
  groups_drawn (x ∷ os) (tss ∷ tsss) (is ∷ iss) h (suc o) = groups_drawn os tsss iss h.1 o

  joins_drawn : (p : List ℕ) (l : Linked) (tsss : List (List Stands)) (iss : List (List Instance)) → IsPlaced places next p l → Alike (Alike IsDrawn) tsss iss → IsDrawn (stands_join l tsss) (instance_join t r cs l iss)
  joins_drawn p l tsss iss placed h =
      let parts = l.fragment.parts in
      shape_draws (keys_of l.page) (seen_under t r cs) (groups_from tsss) l.page.node parts
      ∙ same_parts (λ n. seen_under t r cs (keys_of l.page n)) (seen_in (site_states t r cs l.page)) (λ o. plain_groups (show_bodies seen (groups_from tsss o)))
      (λ o. slice_index_or (instances.shown_in (outlets_from (groups_in l.page.outlets (map instances_from iss)))) o no_nodes) (length l.fragment.sites)
      (λ n lt. sym (ap seen_of_site (state_at t r cs l.page n (let count = placed.count in omega (arith, lt, count))))) (groups_drawn l.page.outlets tsss iss h) parts
      (all_below (length l.fragment.sites) parts placed.numbered)

  read_drawn : (is : Instances) → ArePlaced places next is → (p : List ℕ) → plain (shows seen (stands_at is p)) ≡ instances.shown (instance_at t r cs is p)
  read_drawn is placed p = read_alike IsDrawn none_stand nothing_linked stands_join (instance_join t r cs) (IsPlaced places next) refl joins_drawn is placed p

drawn_plain : (w : Works) (ts : Stands) → Standing w ts → plain (shows (looks_in (state_of w)) ts) ≡ shown (state_of w)
drawn_plain w ts g =
    let s : State = state_of w in
    ap (λ (x : Stands). plain (shows (looks_in s) x)) g.built.stands ∙ read_drawn s.watchers s.resting s.controls (places_of w) s.next_node s.instances g.built.each []

pub page_displays : PageDisplaysInstance
page_displays w ts g = record { forest = shows (looks_in (state_of w)) ts; shown = g.built.holds.shows; plain = drawn_plain w ts g }

-- the document has the names that what is linked says
pub page_names : PageHasItsNames
page_names w ts g = subst (λ (x : Stands). Shows w.dom (shows (looks_in (state_of w)) x)) g.built.stands g.built.holds.shows

-- there are as many nodes as are shown
counts_nodes : CountsNodes forest_count
counts_nodes = record {
  none = refl;
  text = λ t f. refl;
  comment = λ t f. refl;
  element = λ e ats g f. refl;
}

pub names_live : (w : Works) (ts : Stands) → Standing w ts → length (all_names (shows (looks_in (state_of w)) ts)) ≡ live_nodes (state_of w)
names_live w ts g = sym (names_are_counted forest_count (shows (looks_in (state_of w)) ts) counts_nodes) ∙ ap forest_count (drawn_plain w ts g)
