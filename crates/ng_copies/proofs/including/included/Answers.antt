use Rattle.std.proofs.Common.{◌≡◌, ◌∙◌, None, Some, ap, sym}
use Rattle.std.specs.Prelude.{option_map}
use Rattle.ng_drawing.specs.Included.{opened}
use Rattle.ng_drawing.specs.Template.{Fragment}
use Rattle.ng_parts.specs.FragmentOf.{fragment_of}
use Rattle.ng_copies.specs.WholeOf.{opened_of}
use Rattle.ng_copies.proofs.Inclusion.{included_none, included_made, included_ordered}
use Rattle.ng_copies.proofs.including.included.Goals as goal

pub returns-in-None-clause-included : goal.returns-in-None-clause-included
returns-in-None-clause-included c =
    let f : Fragment = fragment_of c.args.f.now in
    let none : opened f.parts ≡ None = ap opened (sym c.parts.ensures) ∙ (sym c.opened_in.ensures ∙ ap (option_map opened_of) c.in-None.is) in
    included_none f (fragment_of c.args.g.now) none

pub returns-in_ok-with_children-in-Some-clause-included : goal.returns-in_ok-with_children-in-Some-clause-included
returns-in_ok-with_children-in-Some-clause-included c =
    let f : Fragment = fragment_of c.args.f.now in
    let is : opened f.parts ≡ Some (opened_of c.in-Some.e) = ap opened (sym c.parts.ensures) ∙ (sym c.opened_in.ensures ∙ ap (option_map opened_of) c.in-Some.is) in
    included_made f (fragment_of c.args.g.now) (fragment_of c.in_ok-with_children-in-Some.field-0) (opened_of c.in-Some.e) is c.in_ok-with_children-in-Some.ensures

pub returns-in_ok-with_children-in-Some-clause-order : goal.returns-in_ok-with_children-in-Some-clause-order
returns-in_ok-with_children-in-Some-clause-order c =
    let f : Fragment = fragment_of c.args.f.now in
    let g : Fragment = fragment_of c.args.g.now in
    let is : opened f.parts ≡ Some (opened_of c.in-Some.e) = ap opened (sym c.parts.ensures) ∙ (sym c.opened_in.ensures ∙ ap (option_map opened_of) c.in-Some.is) in
    included_ordered f g (fragment_of c.in_ok-with_children-in-Some.field-0) (included_made f g (fragment_of c.in_ok-with_children-in-Some.field-0) (opened_of c.in-Some.e) is c.in_ok-with_children-in-Some.ensures) c.requires.element c.requires.template
