use Rattle.std.proofs.Common.{◌≡◌, List, [], ◌∷◌, ℕ, refl, ap, sym, subst, ◌∙◌, map, length, arith}
use Rattle.ng_dom.specs.Document.{Becomes, next_name}
use Rattle.ng_dom.specs.Drawing.{DrawnAttributes, drawn_attributes, of_element}
use Rattle.ng_dom.specs.Editing.{changed_in, with_attributes}
use Rattle.ng_drawing.specs.Template.{PartAttributes}
use Rattle.ng_build.specs.Building.{unset, parent_name, IsMade}
use Rattle.ng_build.specs.Seen.{drawn_of}
use Rattle.ng_build.specs.Shape.{keys_by, linked_values}
use Rattle.ng_build.proofs.Built.{element_builds, element_bare}
use Rattle.ng_dom.specs.Nodes.{named_element, nothing_named}
use Rattle.ng_build.proofs.building.build_element.Goals as goal

no_items : {X : Type 0} (xs : List X) → length xs ≡ 0 → xs ≡ []
no_items [] e = refl
no_items (x ∷ xs) e = absurd (omega (arith, e))

pub returns-then-not-is_empty-clause-builds : goal.returns-then-not-is_empty-clause-builds
returns-then-not-is_empty-clause-builds c =
    let d = c.args.dom.now in
    let e = c.make.new.dom in
    let n = c.in_ok-n.n.made.0 in
    let p = parent_name c.args.parent in
    let keys = keys_by c.args.keys.now in
    let ats = linked_values keys c.args.attributes.now in
    let drawn : map drawn_of c.in_ok-drawn.drawn.items ≡ ats = c.in_ok-drawn.ensures.attributes ∙ ap (λ (xs : PartAttributes). linked_values keys xs) c.as_slice.ensures in
    let shown : c.in_ok-shown.shown.entries ≡ drawn_attributes unset ats =
    c.in_ok-shown.ensures ∙ (ap (λ xs. drawn_attributes unset (map drawn_of xs)) c.as_slice-2.ensures.value ∙ ap (λ (xs : DrawnAttributes). drawn_attributes unset xs) drawn) in
    let M : List ℕ → Type 0 = λ t. IsMade p (named_element (next_name d) t [] nothing_named) d e in
    let f = c.set_attrs.new.self in
    let B : List (List ℕ × List ℕ) → Type 0 = λ us. Becomes e f (changed_in n (with_attributes (λ _. us))) in
    element_builds p n c.args.name.now ats _ d e f c.in_ok-n.ensures.name (ap of_element drawn) (subst M c.in_ok-name.ensures c.in_ok-n.ensures.made) c.in_ok-n.ensures.gains (subst B shown c.set_attrs.ensures.reads) c.set_attrs.ensures.stays

pub returns-else-not-is_empty-clause-builds : goal.returns-else-not-is_empty-clause-builds
returns-else-not-is_empty-clause-builds c =
    let d = c.args.dom.now in
    let e = c.make.new.dom in
    let n = c.in_ok-n.n.made.0 in
    let p = parent_name c.args.parent in
    let keys = keys_by c.args.keys.now in
    let ats = linked_values keys c.args.attributes.now in
    let drawn : map drawn_of c.in_ok-drawn.drawn.items ≡ ats = c.in_ok-drawn.ensures.attributes ∙ ap (λ (xs : PartAttributes). linked_values keys xs) c.as_slice.ensures in
    let shown : c.in_ok-shown.shown.entries ≡ drawn_attributes unset ats =
    c.in_ok-shown.ensures ∙ (ap (λ xs. drawn_attributes unset (map drawn_of xs)) c.as_slice-2.ensures.value ∙ ap (λ (xs : DrawnAttributes). drawn_attributes unset xs) drawn) in
    let M : List ℕ → Type 0 = λ t. IsMade p (named_element (next_name d) t [] nothing_named) d e in
    let none : drawn_attributes unset ats ≡ [] = sym shown ∙ no_items c.in_ok-shown.shown.entries (c.is_empty.ensures.0 c.if-not-is_empty.false) in
    element_bare p c.args.name.now ats _ d e (ap of_element drawn) none (subst M c.in_ok-name.ensures c.in_ok-n.ensures.made) c.in_ok-n.ensures.gains
