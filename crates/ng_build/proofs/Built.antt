-- Nodes that are built one after another.
use Rattle.std.proofs.Common.{◌≡◌, ◌<◌, ◌+◌, ℕ, List, [], ◌∷◌, ◌++◌, Option, Some, refl, ap, ◌∙◌, sym, subst, arith}
use Rattle.std.specs.Prelude.{option_map}
use Rattle.std.proofs.lemmas.Bool.{eq-eqb, ne_eqb}
use Rattle.ng_base.specs.declared.path.Key.{Key}
use Rattle.ng_dom.specs.Document.{rooms, homes, next_name, Becomes, Stays, Gains}
use Rattle.ng_dom.specs.Drawing.{Look, Source, of_element, DrawnAttributes, Stand, Stands, element_stands, none_stand, stand_then, drawn_attributes, show, shows}
use Rattle.ng_dom.specs.Editing.{changed_in, with_kids, with_attributes}
use Rattle.ng_dom.specs.Lists.{filled_with}
use Rattle.ng_dom.specs.Nodes.{NamedNode, NamedForest, named_element, nothing_named, name_of, names_of}
use Rattle.ng_dom.specs.Rooms.{Rooms, ReadsIn}
use Rattle.ng_dom.specs.declared.dom.Dom.{Dom}
use Rattle.ng_dom.specs.declared.record.Home.{Home}
use Rattle.ng_dom.proofs.Adding.{free_room}
use Rattle.ng_dom.proofs.Fresh.{new_names_stand_apart}
use Rattle.ng_markup.specs.Forest.{Attributes}
use Rattle.ng_drawing.specs.Nodes.{part_nodes, content_nodes, nodes}
use Rattle.ng_drawing.specs.Template.{Part, Contents, text_part, comment_part, element_part, anchor_part, parts_from}
use Rattle.ng_build.specs.Building.{unset, HomedAll, Homed, IsMade, Spares, Builds}
use Rattle.ng_build.specs.Seen.{lone_element}
use Rattle.ng_build.specs.Shape.{part_shape, content_shape, shape, unfilled}
use Rattle.ng_build.specs.Sources.{sources, source_of}
use Rattle.ng_build.proofs.Shapes.{content_homed, homed_stays, stands_push, shape-push, nodes-push}

-- what one new node is drawn from, and what the older ones are
home_new : (home : Home) (d e : Dom) → Gains home d e → sources e (next_name d) ≡ Some (source_of home)
home_new home d e gains =
    let here : homes e (next_name d) ≡ Some home = gains.homes (next_name d) ∙ rw (eq-eqb (next_name d) (next_name d) refl) refl in
    ap (option_map source_of) here

home_old : (home : Home) (d e : Dom) → Gains home d e → (q : ℕ) → q < next_name d → homes e q ≡ homes d q
home_old home d e gains q lt = gains.homes q ∙ rw (ne_eqb q (next_name d) (λ same. omega (arith, lt, same))) refl

-- changes at a new name spare what is older
spared : (n : ℕ) (g : NamedNode → NamedNode) (d e : Dom) → Becomes d e (changed_in n g) → Spares n d e
spared n g d e becomes r free p f old now = let F : NamedForest → Type 0 = λ y. ReadsIn (rooms e) p y in subst F (new_names_stand_apart r p f n g old free) (becomes p f now)

-- an element with its attributes
pub element_builds : (p : Option ℕ) (n : ℕ) (t : List ℕ) (ats : DrawnAttributes) (home : Home) (d e f : Dom) → n ≡ next_name d → source_of home ≡ of_element ats
    → IsMade p (named_element (next_name d) t [] nothing_named) d e → Gains home d e
    → Becomes e f (changed_in n (with_attributes (λ _. drawn_attributes unset ats))) → Stays e f
    → Builds p (stand_then (element_stands (next_name d) t ats none_stand) none_stand) 1 d f
element_builds p n t ats home d e f is from made gains becomes stays =
    let m = next_name d in
    let B : ℕ → Type 0 = λ k. Becomes e f (changed_in k (with_attributes (λ _. drawn_attributes unset ats))) in
    let here = subst B is becomes in
    let spares = spared m (with_attributes (λ _. drawn_attributes unset ats)) e f here in
    let read : ReadsIn (rooms f) p (changed_in m (with_attributes (λ _. drawn_attributes unset ats)) (lone_element m t [])) = here p (lone_element m t []) made.reads in
    record {
      remains = λ q g h. spares (rooms d) (free_room d.nodes d.next d.fresh) q g h (made.remains q g h);
      reads = (rw (eq-eqb m m refl) at read);
      homed = ((ap (option_map source_of) (stays.homes m) ∙ (home_new home d e gains ∙ ap Some from), tt), tt);
      homes = λ q lt. stays.homes q ∙ home_old home d e gains q lt;
      next = stays.next ∙ gains.next;
      live = stays.live ∙ gains.live;
      top = stays.top ∙ made.top;
    }

-- an element that shows no attribute
pub element_bare : (p : Option ℕ) (t : List ℕ) (ats : DrawnAttributes) (home : Home) (d e : Dom) → source_of home ≡ of_element ats → drawn_attributes unset ats ≡ []
    → IsMade p (named_element (next_name d) t [] nothing_named) d e → Gains home d e
    → Builds p (stand_then (element_stands (next_name d) t ats none_stand) none_stand) 1 d e
element_bare p t ats home d e from none made gains =
    let R : Attributes → Type 0 = λ us. ReadsIn (rooms e) p (lone_element (next_name d) t us) in
    record {
      remains = made.remains;
      reads = subst R (sym none) made.reads;
      homed = ((home_new home d e gains ∙ ap Some from, tt), tt);
      homes = home_old home d e gains;
      next = gains.next;
      live = gains.live;
      top = made.top;
    }

-- an element gets its contents
element_filled : (p : Option ℕ) (keys : ℕ → Key) (n : ℕ) (t : List ℕ) (ats : DrawnAttributes) (c : Contents) (d e f g : Dom) → n ≡ next_name d
    → Builds p (stand_then (element_stands n t ats none_stand) none_stand) 1 d e
    → Builds (Some n) (content_shape keys (next_name e) unfilled c) (content_nodes c) e f
    → Becomes f g (changed_in n (with_kids (filled_with (shows unset (content_shape keys (next_name e) unfilled c))))) → Stays f g
    → Builds p (stand_then (element_stands n t ats (content_shape keys (n + 1) unfilled c)) none_stand) (1 + content_nodes c) d g
element_filled p keys n t ats c d e f g is one kids becomes stays =
    let after : next_name e ≡ n + 1 = one.next ∙ ap (λ k. k + 1) (sym is) in
    let lt : n < next_name e = omega (arith, after) in
    let change = with_kids (filled_with (shows unset (content_shape keys (next_name e) unfilled c))) in
    let spares = spared n change f g becomes in
    let lone = lone_element n t (drawn_attributes unset ats) in
    let read : ReadsIn (rooms g) p (changed_in n change (shows unset (stand_then (element_stands n t ats none_stand) none_stand))) = becomes p lone (kids.remains p lone one.reads) in
    let same : (q : ℕ) → sources g q ≡ sources f q = λ q. ap (option_map source_of) (stays.homes q) in
    let is_here : sources g n ≡ Some (of_element ats) = same n ∙ (ap (option_map source_of) (kids.homes n lt) ∙ one.homed.0.0) in
    let P : ℕ → Type 0 = λ k. Builds p (stand_then (element_stands n t ats (content_shape keys k unfilled c)) none_stand) (1 + content_nodes c) d g in
    subst P after
    (record {
      remains = λ q y h. spares (rooms d) (rw is (free_room d.nodes d.next d.fresh)) q y h (kids.remains q y (one.remains q y h));
      reads = (rw (eq-eqb n n refl) at read);
      homed = ((is_here, content_homed (sources f) (sources g) keys (next_name e + content_nodes c) (λ q lt. same q) (next_name e) c (omega arith) kids.homed), tt);
      homes = λ q lt. stays.homes q ∙ (kids.homes q (let more = one.next in omega (arith, lt, more)) ∙ one.homes q lt);
      next = stays.next ∙ (kids.next ∙ (ap (λ k. k + content_nodes c) one.next ∙ omega arith));
      live = stays.live ∙ (kids.live ∙ (ap (λ k. k + content_nodes c) one.live ∙ omega arith));
      top = stays.top ∙ (kids.top ∙ one.top);
    })

-- the same, where the name of the element is the next one
pub element_whole : (p : Option ℕ) (keys : ℕ → Key) (n : ℕ) (t : List ℕ) (ats : DrawnAttributes) (c : Contents) (d e f g : Dom) → n ≡ next_name d
    → Builds p (stand_then (element_stands (next_name d) t ats none_stand) none_stand) 1 d e
    → Builds (Some n) (content_shape keys (next_name e) unfilled c) (content_nodes c) e f
    → Becomes f g (changed_in n (with_kids (filled_with (shows unset (content_shape keys (next_name e) unfilled c))))) → Stays f g
    → Builds p (stand_then (element_stands (next_name d) t ats (content_shape keys (next_name d + 1) unfilled c)) none_stand) (1 + content_nodes c) d g
element_whole p keys n t ats c d e f g is one kids becomes stays =
    let K : ℕ → Type 0 = λ k. Builds (Some k) (content_shape keys (next_name e) unfilled c) (content_nodes c) e f in
    let B : ℕ → Type 0 = λ k. Becomes f g (changed_in k (with_kids (filled_with (shows unset (content_shape keys (next_name e) unfilled c))))) in
    element_filled p keys (next_name d) t ats c d e f g refl one (subst K is kids) (subst B is becomes) stays

reads_push : (r : Rooms) (p : Option ℕ) (ts : Stands) (x : Stand) → ReadsIn r p (shows unset ts) → ReadsIn r p (shows unset (stand_then x none_stand)) → ReadsIn r p (shows unset (stands_push ts x))
reads_push r p none_stand x h g = g
reads_push r p (stand_then m ms) x h g = (h.0, h.1, reads_push r p ms x h.2 g)

homed_push : (home : ℕ → Option Source) (ts : Stands) (x : Stand) → HomedAll home ts → Homed home x → HomedAll home (stands_push ts x)
homed_push home none_stand x h g = (g, tt)
homed_push home (stand_then m ms) x h g = (h.0, homed_push home ms x h.1 g)

name-shape : (keys : ℕ → Key) (v : Key → Look) (n : ℕ) (q : Part) → name_of (show v (part_shape keys n unfilled q)) ≡ n
name-shape keys v n (text_part ps) = refl
name-shape keys v n (comment_part t) = refl
name-shape keys v n (element_part t own acts ats c) = refl
name-shape keys v n (anchor_part o own starts) = refl

names_push : (v : Key → Look) (ts : Stands) (x : Stand) → names_of (shows v (stands_push ts x)) ≡ names_of (shows v ts) ++ name_of (show v x) ∷ []
names_push v none_stand x = refl
names_push v (stand_then m ms) x = ap (λ (ns : List ℕ). name_of (show v m) ∷ ns) (names_push v ms x)

-- one part more is built
pub builds_then : (p : Option ℕ) (keys : ℕ → Key) (m : ℕ) (ps : List Part) (q : Part) (d e f : Dom) → m ≡ next_name d
    → Builds p (shape keys m unfilled (parts_from ps)) (nodes (parts_from ps)) d e
    → Builds p (stand_then (part_shape keys (next_name e) unfilled q) none_stand) (part_nodes q) e f
    → Builds p (shape keys m unfilled (parts_from (ps ++ q ∷ []))) (nodes (parts_from (ps ++ q ∷ []))) d f
builds_then p keys m ps q d e f is done one =
    let after : next_name e ≡ m + nodes (parts_from ps) = done.next ∙ ap (λ k. k + nodes (parts_from ps)) (sym is) in
    let more : shape keys m unfilled (parts_from (ps ++ q ∷ [])) ≡ stands_push (shape keys m unfilled (parts_from ps)) (part_shape keys (next_name e) unfilled q) = shape-push keys m (next_name e) ps q after in
    let count : nodes (parts_from (ps ++ q ∷ [])) ≡ nodes (parts_from ps) + part_nodes q = nodes-push ps q in
    let same : (k : ℕ) → k < next_name e → sources f k ≡ sources e k = λ k lt. ap (option_map source_of) (one.homes k lt) in
    record {
      remains = λ k g h. one.remains k g (done.remains k g h);
      reads = rw more (reads_push (rooms f) p (shape keys m unfilled (parts_from ps)) (part_shape keys (next_name e) unfilled q) (one.remains p (shows unset (shape keys m unfilled (parts_from ps))) done.reads) one.reads);
      homed = rw more (homed_push (sources f) (shape keys m unfilled (parts_from ps)) (part_shape keys (next_name e) unfilled q) (homed_stays (sources e) (sources f) keys (next_name e) same m (parts_from ps) (omega (arith, after)) done.homed) one.homed.0);
      homes = λ k lt. one.homes k (let n = done.next in omega (arith, n, lt)) ∙ done.homes k lt;
      next = one.next ∙ (ap (λ k. k + part_nodes q) done.next ∙ omega (arith, count));
      live = one.live ∙ (ap (λ k. k + part_nodes q) done.live ∙ omega (arith, count));
      top = one.top ∙ done.top;
    }

pub names_then : (keys : ℕ → Key) (m k : ℕ) (ps : List Part) (q : Part) → k ≡ m + nodes (parts_from ps)
    → names_of (shows unset (shape keys m unfilled (parts_from (ps ++ q ∷ [])))) ≡ names_of (shows unset (shape keys m unfilled (parts_from ps))) ++ k ∷ []
names_then keys m k ps q e =
    ap (λ (ts : Stands). names_of (shows unset ts)) (shape-push keys m k ps q e)
    ∙ (names_push unset (shape keys m unfilled (parts_from ps)) (part_shape keys k unfilled q)
    ∙ ap (λ (n : ℕ). names_of (shows unset (shape keys m unfilled (parts_from ps))) ++ n ∷ []) (name-shape keys unset k q))
