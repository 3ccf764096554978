-- An edit of one node is a change at one place of what stands.
use Rattle.std.proofs.Common.{◌≡◌, ℕ, Bool, true, false, List, [], ◌∷◌, Option, Some, refl, ap, ◌∙◌, sym, cond}
use Rattle.std.specs.Prelude.{◌==◌}
use Rattle.std.proofs.lemmas.Bool.{eqb-true, eqb-false}
use Rattle.ng_base.specs.declared.path.Key.{Key}
use Rattle.ng_markup.specs.Forest.{Attributes}
use Rattle.ng_dom.specs.Nodes.{NamedNode, NamedForest, NamedGroups, named_text, named_comment, named_element, named_anchor, nothing_named, named_then, no_groups, group_then, name_of, names_of, group_names}
use Rattle.ng_dom.specs.Editing.{changed, changed_in, changed_groups, at_name, with_text, with_attributes, with_groups}
use Rattle.ng_dom.specs.Rooms.{Room, Rooms, anchor_shape, room_of, HasRoom, ReadsInside, ReadsIn, ReadsGroups}
use Rattle.ng_dom.specs.Drawing.{Look, Stand, Stands, Bodies, Source, DrawnAttributes, text_stands, comment_stands, element_stands, block_stands, none_stand, stand_then, no_bodies, body_then, of_text, of_comment, of_element, joined, drawn_attributes, show, shows, show_bodies, Held, HeldAll, HeldBodies, DifferAt, at_block, at_block_all, at_block_bodies}
use Rattle.ng_dom.specs.Laws.{TextWritten, AttributesWritten, NothingWritten, GroupsChanged}
use Rattle.ng_dom.specs.declared.record.Piece.{Piece}
use Rattle.ng_dom.proofs.Attributes.{same_joined, same_attributes}

-- a change of a name: what the node of this name becomes, and what any other node is
by_name : (n : ℕ) (g : NamedNode → NamedNode) (x y : NamedNode) → (name_of x ≡ n → g x ≡ y) → ((name_of x ≡ n → ⊥) → x ≡ y) → at_name n g x ≡ y
by_name n g x y at apart = by_test (name_of x == n) refl
  where
    by_test : (b : Bool) → (name_of x == n) ≡ b → cond b (g x) x ≡ y
    by_test true e = at (eqb-true (name_of x) n e)
    by_test false e = apart (eqb-false (name_of x) n e)

-- a change draws a node anew that is drawn from this
record Redraws (v w : Key → Look) (s : Source) (g : NamedNode → NamedNode) : Type 0 where
  text : (m : ℕ) (ps : List Piece) → s ≡ of_text ps → g (named_text m (joined v ps)) ≡ named_text m (joined w ps)
  comment : (m : ℕ) (t : List ℕ) → s ≡ of_comment → g (named_comment m t) ≡ named_comment m t
  element : (m : ℕ) (e : List ℕ) (ats : DrawnAttributes) (f : NamedForest) → s ≡ of_element ats → g (named_element m e (drawn_attributes v ats) f) ≡ named_element m e (drawn_attributes w ats) f
  anchor : (m : ℕ) (gs : NamedGroups) → g (named_anchor m gs) ≡ named_anchor m gs

-- where a key of a node shows something else and a change draws that node anew, it draws all anew
module _ (site : Key → Option ℕ) (home : ℕ → Option Source) (k : Key) (n : ℕ) (s : Source) (g : NamedNode → NamedNode) (v w : Key → Look)
    (here : site k ≡ Some n) (is : home n ≡ Some s) (off : DifferAt k v w) (anew : Redraws v w s g) where
  -- in every other node all keys show the same
  elsewhere : (m : ℕ) → (m ≡ n → ⊥) → (q : Key) → site q ≡ Some m → v q ≡ w q
  elsewhere m apart q at = off q (λ e. apart (let two : Some m ≡ Some n = sym at ∙ (ap site e ∙ here) in cc))

  drawn_from : (m : ℕ) (t : Source) → home m ≡ Some t → m ≡ n → s ≡ t
  drawn_from m t h e = let two : Some s ≡ Some t = sym is ∙ (ap home (sym e) ∙ h) in cc

  mutual
    redrawn : (m : Stand) → Held site home m → changed n g (show v m) ≡ show w m
    redrawn (text_stands m ps) h =
        by_name n g (named_text m (joined v ps)) (named_text m (joined w ps)) (λ e. anew.text m ps (drawn_from m (of_text ps) h.0 e))
        (λ apart. ap (named_text m) (same_joined site m v w (elsewhere m apart) ps h.1))
    redrawn (comment_stands m t) h =
        by_name n g (named_comment m t) (named_comment m t) (λ e. anew.comment m t (drawn_from m of_comment h e)) (λ apart. refl)
    redrawn (element_stands m e ats ms) h =
        ap (λ (f : NamedForest). at_name n g (named_element m e (drawn_attributes v ats) f)) (all_redrawn ms h.2)
        ∙ by_name n g (named_element m e (drawn_attributes v ats) (shows w ms)) (named_element m e (drawn_attributes w ats) (shows w ms))
        (λ q. anew.element m e ats (shows w ms) (drawn_from m (of_element ats) h.0 q))
        (λ apart. ap (λ (us : Attributes). named_element m e us (shows w ms)) (same_attributes site m v w (elsewhere m apart) ats [] h.1))
    redrawn (block_stands m bs) h =
        ap (λ (gs : NamedGroups). at_name n g (named_anchor m gs)) (bodies_redrawn bs h.1)
        ∙ by_name n g (named_anchor m (show_bodies w bs)) (named_anchor m (show_bodies w bs)) (λ e. anew.anchor m (show_bodies w bs)) (λ apart. refl)

    all_redrawn : (ms : Stands) → HeldAll site home ms → changed_in n g (shows v ms) ≡ shows w ms
    all_redrawn none_stand h = refl
    all_redrawn (stand_then m ms) h = ap (λ (x : NamedNode). named_then x (changed_in n g (shows v ms))) (redrawn m h.0) ∙ ap (named_then (show w m)) (all_redrawn ms h.1)

    bodies_redrawn : (bs : Bodies) → HeldBodies site home bs → changed_groups n g (show_bodies v bs) ≡ show_bodies w bs
    bodies_redrawn no_bodies h = refl
    bodies_redrawn (body_then ms bs) h = ap (λ (x : NamedForest). group_then x (changed_groups n g (show_bodies v bs))) (all_redrawn ms h.0) ∙ ap (group_then (shows w ms)) (bodies_redrawn bs h.1)

text_anew : (v w : Key → Look) (ps : List Piece) → Redraws v w (of_text ps) (with_text (joined w ps))
text_anew v w ps = record {
  text = λ m qs e. let one : ps ≡ qs = cc in ap (λ (us : List Piece). named_text m (joined w us)) one;
  comment = λ m t e. absurd (cc);
  element = λ m e ats f q. absurd (cc);
  anchor = λ m gs. refl;
}

pub text_written : TextWritten
text_written site home k n ps v w ms here is held off = all_redrawn site home k n (of_text ps) (with_text (joined w ps)) v w here is off (text_anew v w ps) ms held

attributes_anew : (v w : Key → Look) (ats : DrawnAttributes) → Redraws v w (of_element ats) (with_attributes (λ _. drawn_attributes w ats))
attributes_anew v w ats = record {
  text = λ m ps e. absurd (cc);
  comment = λ m t e. refl;
  element = λ m e bs f q. let one : ats ≡ bs = cc in ap (λ (us : DrawnAttributes). named_element m e (drawn_attributes w us) f) one;
  anchor = λ m gs. refl;
}

pub attributes_written : AttributesWritten
attributes_written site home k n ats v w ms here is held off =
    all_redrawn site home k n (of_element ats) (with_attributes (λ _. drawn_attributes w ats)) v w here is off (attributes_anew v w ats) ms held

-- nothing is changed by a change that leaves each node as it is
as_it_is : (n : ℕ) (x : NamedNode) → at_name n (λ y. y) x ≡ x
as_it_is n x = by_name n (λ y. y) x x (λ e. refl) (λ apart. refl)

mutual
  node_left : (n : ℕ) (x : NamedNode) → changed n (λ y. y) x ≡ x
  node_left n (named_text m t) = as_it_is n (named_text m t)
  node_left n (named_comment m t) = as_it_is n (named_comment m t)
  node_left n (named_element m e ats f) = as_it_is n (named_element m e ats (changed_in n (λ y. y) f)) ∙ ap (named_element m e ats) (all_left n f)
  node_left n (named_anchor m gs) = as_it_is n (named_anchor m (changed_groups n (λ y. y) gs)) ∙ ap (named_anchor m) (groups_left n gs)

  all_left : (n : ℕ) (f : NamedForest) → changed_in n (λ y. y) f ≡ f
  all_left n nothing_named = refl
  all_left n (named_then x f) = ap (λ (y : NamedNode). named_then y (changed_in n (λ y. y) f)) (node_left n x) ∙ ap (named_then x) (all_left n f)

  groups_left : (n : ℕ) (gs : NamedGroups) → changed_groups n (λ y. y) gs ≡ gs
  groups_left n no_groups = refl
  groups_left n (group_then f gs) = ap (λ (y : NamedForest). group_then y (changed_groups n (λ y. y) gs)) (all_left n f) ∙ ap (group_then f) (groups_left n gs)

nothing_anew : (v w : Key → Look) → Redraws v w of_comment (λ y. y)
nothing_anew v w = record {
  text = λ m ps e. absurd (cc);
  comment = λ m t e. refl;
  element = λ m e ats f q. absurd (cc);
  anchor = λ m gs. refl;
}

pub nothing_written : NothingWritten
nothing_written site home k n v w ms here is held off = sym (all_left n (shows v ms)) ∙ all_redrawn site home k n of_comment (λ y. y) v w here is off (nothing_anew v w) ms held

-- the names of what stands don't change with the bodies of a block
same_name : (v : Key → Look) (a : ℕ) (h : Bodies → Bodies) (m : Stand) → name_of (show v (at_block a h m)) ≡ name_of (show v m)
same_name v a h (text_stands n ps) = refl
same_name v a h (comment_stands n t) = refl
same_name v a h (element_stands n e ats ms) = refl
same_name v a h (block_stands n bs) = refl

same_names : (v : Key → Look) (a : ℕ) (h : Bodies → Bodies) (ms : Stands) → names_of (shows v (at_block_all a h ms)) ≡ names_of (shows v ms)
same_names v a h none_stand = refl
same_names v a h (stand_then m ms) =
    ap (λ (n : ℕ). n ∷ names_of (shows v (at_block_all a h ms))) (same_name v a h m) ∙ ap (λ (ns : List ℕ). name_of (show v m) ∷ ns) (same_names v a h ms)

same_groups : (v : Key → Look) (a : ℕ) (h : Bodies → Bodies) (bs : Bodies) → group_names (show_bodies v (at_block_bodies a h bs)) ≡ group_names (show_bodies v bs)
same_groups v a h no_bodies = refl
same_groups v a h (body_then ms bs) =
    ap (λ (n : List ℕ). n ∷ group_names (show_bodies v (at_block_bodies a h bs))) (same_names v a h ms) ∙ ap (λ (ns : List (List ℕ)). names_of (shows v ms) ∷ ns) (same_groups v a h bs)

-- an anchor's groups have the names that its room says
room_groups : (r : Rooms) (p : Option ℕ) (a m : ℕ) (x : Room) (gs : List (List ℕ)) (us : NamedGroups) → m ≡ a → r a ≡ Some x → x.shape ≡ anchor_shape gs → HasRoom r p (named_anchor m us) → group_names us ≡ gs
room_groups r p a m x gs us e here shape has =
    let two : Some x ≡ Some (room_of p (named_anchor m us)) = sym here ∙ (ap r (sym e) ∙ has.1) in
    let one : x ≡ room_of p (named_anchor m us) = cc in
    let three : anchor_shape gs ≡ anchor_shape (group_names us) = sym shape ∙ ap (λ (y : Room). y.shape) one in
    let four : gs ≡ group_names us = cc in
    sym four

module _ (r : Rooms) (a : ℕ) (x : Room) (gs : List (List ℕ)) (v : Key → Look) (f : NamedGroups → NamedGroups) (h : Bodies → Bodies)
    (here : r a ≡ Some x) (shape : x.shape ≡ anchor_shape gs)
    (fits : (bs : Bodies) → group_names (show_bodies v bs) ≡ gs → f (show_bodies v bs) ≡ show_bodies v (h bs)) where
  at_anchor : (p : Option ℕ) (m : ℕ) (bs : Bodies) → HasRoom r p (named_anchor m (show_bodies v bs)) → changed_groups a (with_groups f) (show_bodies v bs) ≡ show_bodies v (at_block_bodies a h bs)
      → changed a (with_groups f) (named_anchor m (show_bodies v bs)) ≡ show v (at_block a h (block_stands m bs))
  at_anchor p m bs has below = by_name (m == a) refl
    where
      by_name : (b : Bool) → (m == a) ≡ b → changed a (with_groups f) (named_anchor m (show_bodies v bs)) ≡ show v (at_block a h (block_stands m bs))
      by_name true e =
          let names = same_groups v a h bs ∙ room_groups r p a m x gs (show_bodies v bs) (eqb-true m a e) here shape has in
          rw e (ap (named_anchor m) (ap f below ∙ fits (at_block_bodies a h bs) names))
      by_name false e = rw e (ap (named_anchor m) below)

  unmoved : (x : NamedNode) → with_groups f x ≡ x → at_name a (with_groups f) x ≡ x
  unmoved x e = by_name a (with_groups f) x x (λ q. e) (λ apart. refl)

  mutual
    change_one : (p : Option ℕ) (m : Stand) → HasRoom r p (show v m) → ReadsInside r (show v m) → changed a (with_groups f) (show v m) ≡ show v (at_block a h m)
    change_one p (text_stands n ps) has t = unmoved (named_text n (joined v ps)) refl
    change_one p (comment_stands n u) has t = unmoved (named_comment n u) refl
    change_one p (element_stands n e ats ms) has t = unmoved (named_element n e (drawn_attributes v ats) (changed_in a (with_groups f) (shows v ms))) refl ∙ ap (named_element n e (drawn_attributes v ats)) (change_all (Some n) ms t)
    change_one p (block_stands n bs) has t = at_anchor p n bs has (change_bodies (Some n) bs t)

    change_all : (p : Option ℕ) (ms : Stands) → ReadsIn r p (shows v ms) → changed_in a (with_groups f) (shows v ms) ≡ shows v (at_block_all a h ms)
    change_all p none_stand t = refl
    change_all p (stand_then m ms) t = ap (λ (y : NamedNode). named_then y (changed_in a (with_groups f) (shows v ms))) (change_one p m t.0 t.1) ∙ ap (named_then (show v (at_block a h m))) (change_all p ms t.2)

    change_bodies : (p : Option ℕ) (bs : Bodies) → ReadsGroups r p (show_bodies v bs) → changed_groups a (with_groups f) (show_bodies v bs) ≡ show_bodies v (at_block_bodies a h bs)
    change_bodies p no_bodies t = refl
    change_bodies p (body_then ms bs) t = ap (λ (y : NamedForest). group_then y (changed_groups a (with_groups f) (show_bodies v bs))) (change_all p ms t.0) ∙ ap (group_then (shows v (at_block_all a h ms))) (change_bodies p bs t.1)

pub groups_changed : GroupsChanged
groups_changed r p a x gs v ms f h reads here shape fits = change_all r a x gs v f h here shape fits p ms reads
