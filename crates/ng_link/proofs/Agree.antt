-- What stands shows the same, where all that is drawn shows the same.
use Rattle.std.proofs.Common.{◌≡◌, ℕ, List, [], Option, Some, None, refl, ap, ◌∙◌, sym, subst}
use Rattle.ng_base.specs.declared.path.Key.{Key}
use Rattle.ng_dom.specs.Drawing.{Look, Stand, Stands, Bodies, text_stands, comment_stands, element_stands, block_stands, none_stand, stand_then, no_bodies, body_then, Source, of_text, of_comment, of_element, drawn_attributes, show, shows, show_bodies, Held, HeldAll, HeldBodies}
use Rattle.ng_dom.specs.Nodes.{NamedNode, NamedForest, named_text, named_element, named_anchor, named_then, group_then}
use Rattle.ng_dom.proofs.Attributes.{same_joined, same_attributes}

-- a text or the attributes of an element are drawn from keys
abbrev pub IsDrawn : Option Source → Type 0
IsDrawn None = ⊥
IsDrawn (Some (of_text ps)) = Unit {0}
IsDrawn (Some of_comment) = ⊥
IsDrawn (Some (of_element ats)) = Unit {0}

-- each key shows the same in the node that is drawn from it
abbrev pub Agree : (Key → Option ℕ) → (ℕ → Option Source) → (Key → Look) → (Key → Look) → Type 0
Agree site home v w = (k : Key) (n : ℕ) → site k ≡ Some n → IsDrawn (home n) → v k ≡ w k

module _ (site : Key → Option ℕ) (home : ℕ → Option Source) (v w : Key → Look) (agree : Agree site home v w) where
  mutual
    one_agrees : (m : Stand) → Held site home m → show v m ≡ show w m
    one_agrees (text_stands n ps) h = ap (named_text n) (same_joined site n v w (λ k at. agree k n at (subst IsDrawn (sym h.0) tt)) ps h.1)
    one_agrees (comment_stands n t) h = refl
    one_agrees (element_stands n e ats ms) h =
        ap (λ (us : List (List ℕ × List ℕ)). named_element n e us (shows v ms)) (same_attributes site n v w (λ k at. agree k n at (subst IsDrawn (sym h.0) tt)) ats [] h.1)
        ∙ ap (named_element n e (drawn_attributes w ats)) (all_agree ms h.2)
    one_agrees (block_stands n bs) h = ap (named_anchor n) (bodies_agree bs h.1)

    pub all_agree : (ms : Stands) → HeldAll site home ms → shows v ms ≡ shows w ms
    all_agree none_stand h = refl
    all_agree (stand_then m ms) h = ap (λ (x : NamedNode). named_then x (shows v ms)) (one_agrees m h.0) ∙ ap (named_then (show w m)) (all_agree ms h.1)

    bodies_agree : (bs : Bodies) → HeldBodies site home bs → show_bodies v bs ≡ show_bodies w bs
    bodies_agree no_bodies h = refl
    bodies_agree (body_then ms bs) h = ap (λ (x : NamedForest). group_then x (show_bodies v bs)) (all_agree ms h.0) ∙ ap (group_then (shows w ms)) (bodies_agree bs h.1)
