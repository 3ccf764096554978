-- The names of a document are counted.
use Rattle.std.proofs.Common.{◌≡◌, ◌+◌, ℕ, Bool, true, false, List, [], ◌∷◌, ◌++◌, length, None, refl, ap, ◌∙◌, sym, is_some, arith, length-append, zero-add}
use Rattle.std.specs.Cmp.{nat_eq_equiv}
use Rattle.std.proofs.lemmas.Map.Made.{length-from_same_keys}
use Rattle.ng_base.specs.declared.path.Key.{Key}
use Rattle.ng_markup.specs.Forest.{Forest, element, text, comment, no_nodes, node}
use Rattle.ng_dom.specs.Records.{IsKept, live_in, names_in, node_at}
use Rattle.ng_dom.specs.Document.{rooms, Holds}
use Rattle.ng_dom.specs.Drawing.{Look, Stand, Stands, Bodies, text_stands, comment_stands, element_stands, block_stands, none_stand, stand_then, no_bodies, body_then, show, shows, show_bodies, stand_names, names_standing, body_names}
use Rattle.ng_dom.specs.Kept.{room_kept}
use Rattle.ng_dom.specs.Laws.{NamesStand, CountsNodes, NamesAreCounted}
use Rattle.ng_dom.specs.Lists.{among}
use Rattle.ng_dom.specs.Nodes.{NamedNode, NamedForest, NamedGroups, named_text, named_comment, named_element, named_anchor, nothing_named, named_then, no_groups, group_then, node_names, all_names, all_group_names, followed_by, plain_node, plain, plain_groups}
use Rattle.ng_dom.specs.declared.dom.Dom.{Dom}
use Rattle.ng_dom.proofs.Apart.{all_rooms}
use Rattle.ng_dom.proofs.Homes.{some_mapped}
use Rattle.ng_dom.proofs.LiveNames.{among-member, names_length, names_differ, named_lives, live_named}

-- what stands has the same names whatever keys show
module _ (v : Key → Look) where
  mutual
    one_named : (m : Stand) → node_names (show v m) ≡ stand_names m
    one_named (text_stands n ps) = refl
    one_named (comment_stands n t) = refl
    one_named (element_stands n e ats ms) = ap (λ (ns : List ℕ). n ∷ ns) (all_named ms)
    one_named (block_stands n bs) = ap (λ (ns : List ℕ). n ∷ ns) (bodies_named bs)

    all_named : (ms : Stands) → all_names (shows v ms) ≡ names_standing ms
    all_named none_stand = refl
    all_named (stand_then m ms) = ap (λ (ns : List ℕ). ns ++ all_names (shows v ms)) (one_named m) ∙ ap (λ (ns : List ℕ). stand_names m ++ ns) (all_named ms)

    bodies_named : (bs : Bodies) → all_group_names (show_bodies v bs) ≡ body_names bs
    bodies_named no_bodies = refl
    bodies_named (body_then ms bs) = ap (λ (ns : List ℕ). ns ++ all_group_names (show_bodies v bs)) (all_named ms) ∙ ap (λ (ns : List ℕ). names_standing ms ++ ns) (bodies_named bs)

pub names_stand : NamesStand
names_stand v ms = all_named v ms

-- a count of nodes is the number of names
module _ (count : Forest → ℕ) (counts : CountsNodes count) where
  count-followed : (f g : Forest) → count (followed_by f g) ≡ count f + count g
  count-followed no_nodes g = sym (ap (λ (k : ℕ). k + count g) counts.none ∙ zero-add (count g))
  count-followed (node (text t) f) g = let e = counts.text t (followed_by f g) in let h = counts.text t f in let more = count-followed f g in omega (arith, e, h, more)
  count-followed (node (comment t) f) g = let e = counts.comment t (followed_by f g) in let h = counts.comment t f in let more = count-followed f g in omega (arith, e, h, more)
  count-followed (node (element n ats k) f) g = let e = counts.element n ats k (followed_by f g) in let h = counts.element n ats k f in let more = count-followed f g in omega (arith, e, h, more)

  mutual
    node_counted : (x : NamedNode) → count (plain_node x) ≡ length (node_names x)
    node_counted (named_text n t) = let e = counts.text t no_nodes in let none = counts.none in omega (arith, e, none)
    node_counted (named_comment n t) = let e = counts.comment t no_nodes in let none = counts.none in omega (arith, e, none)
    node_counted (named_element n m ats f) = let e = counts.element m ats (plain f) no_nodes in let none = counts.none in let more = all_counted f in omega (arith, e, none, more)
    node_counted (named_anchor n gs) = let e = counts.comment [] (plain_groups gs) in let more = groups_counted gs in omega (arith, e, more)

    pub all_counted : (f : NamedForest) → count (plain f) ≡ length (all_names f)
    all_counted nothing_named = counts.none
    all_counted (named_then x f) =
        let e = count-followed (plain_node x) (plain f) in let first = node_counted x in let more = all_counted f in let both = length-append (node_names x) (all_names f) in
        omega (arith, e, first, more, both)

    groups_counted : (gs : NamedGroups) → count (plain_groups gs) ≡ length (all_group_names gs)
    groups_counted no_groups = counts.none
    groups_counted (group_then f gs) =
        let e = count-followed (plain f) (plain_groups gs) in let first = all_counted f in let more = groups_counted gs in let both = length-append (all_names f) (all_group_names gs) in
        omega (arith, e, first, more, both)

pub names_are_counted : NamesAreCounted
names_are_counted count f counts = all_counted count counts f

same_answer : (b c : Bool) → (b ≡ true → c ≡ true) → (c ≡ true → b ≡ true) → b ≡ c
same_answer true c h k = sym (h refl)
same_answer false true h k = k refl
same_answer false false h k = refl

-- where nothing stands apart, a document has a name for each live node
pub live_counted : (d : Dom) (f : NamedForest) (live : ℕ) → IsKept live d.nodes → Holds d f → live_in d.nodes ≡ length (all_names f)
live_counted d f live kept holds =
    sym (names_length d.nodes)
    ∙ length-from_same_keys nat_eq_equiv (names_in d.nodes) (all_names f) (names_differ d.nodes kept.rises kept.runs) holds.once
    (λ n. sym (among-member n (names_in d.nodes)) ∙ (same_answer (among n (names_in d.nodes)) (among n (all_names f)) (there n) (back n) ∙ among-member n (all_names f)))
  where
    seen : (n : ℕ) → is_some (node_at d.nodes n) ≡ is_some (rooms d n)
    seen n = sym (some_mapped room_kept (node_at d.nodes n))

    there : (n : ℕ) → among n (names_in d.nodes) ≡ true → among n (all_names f) ≡ true
    there n h = holds.all n (sym (seen n) ∙ named_lives d.nodes n kept.rises kept.runs h)

    back : (n : ℕ) → among n (all_names f) ≡ true → among n (names_in d.nodes) ≡ true
    back n h = live_named d.nodes n (seen n ∙ all_rooms (rooms d) n None f holds.shows.1 h)
