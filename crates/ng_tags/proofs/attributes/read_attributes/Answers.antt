use Rattle.std.proofs.Common.{◌≡◌, ap, sym, ◌∙◌, List, false, length, arith}
use Rattle.std.specs.Prelude.{Ok, Option, ◌==◌}
use Rattle.std.proofs.lemmas.Bool.Decides.{nat_tests}
use Rattle.ng_base.specs.Cells.{Cell}
use Rattle.ng_markup.specs.Forest.{Attributes}
use Rattle.ng_tags.specs.Letters.{is_space}
use Rattle.ng_tags.specs.Attributes.{attribute_at, attributes_from, with_attribute}
use Rattle.ng_tags.specs.declared.fault.HtmlFault.{HtmlFault}
use Rattle.ng_tags.specs.declared.texts.Decoded.{Decoded}
use Rattle.ng_tags.proofs.AttributeTurns.{attribute_on, attribute_left}
use Rattle.ng_tags.proofs.attributes.read_attributes.Goals as goal

pub loop-c-smaller : goal.loop-c-smaller
loop-c-smaller c =
    let e : attribute_at c.args.total (c.in-Some.c, c.in-Some.place) c.in-Some.rest ≡ Ok (c.in-Ok.name, c.in-Ok.value, c.in-Ok.rest) = sym c.in_ok-e.ensures ∙ c.in-Ok.is in
    let less = attribute_left c.args.total (c.in-Some.c, c.in-Some.place) c.in-Some.rest (c.in-Ok.name, c.in-Ok.value, c.in-Ok.rest) e in
    omega (arith, less, ap length c.in-Some.ensures)

pub loop-c-preserved : goal.loop-c-preserved
loop-c-preserved c =
    let total = c.args.total in
    let here : Cell = (c.in-Some.c, c.in-Some.place) in
    let done : Attributes = c.loop-c.found.entries in
    let value : Decoded = c.in-Ok.value in
    let e : attribute_at total here c.in-Some.rest ≡ Ok (c.in-Ok.name, value, c.in-Ok.rest) = sym c.in_ok-e.ensures ∙ c.in-Ok.is in
    let a : (c.in-Some.c == 62) ≡ false = grind (arith, nat_tests, c.if-c-eq62.false) in
    let b : (c.in-Some.c == 47) ≡ false = grind (arith, nat_tests, c.if-c-eq47.false) in
    let s : is_space c.in-Some.c ≡ false = sym c.space.ensures ∙ c.if-space.false in
    ap (λ (es : Attributes). attributes_from total es c.met_first-fault.result c.in-Ok.rest) c.in_ok-insert-in-Ok.ensures
    ∙ (ap (λ (f : Option HtmlFault). attributes_from total (with_attribute done c.in-Ok.name value.text) f c.in-Ok.rest) c.met_first-fault.ensures
    ∙ (sym (attribute_on total done c.loop-c.fault here c.in-Some.rest c.in-Ok.name value c.in-Ok.rest a b s e)
    ∙ (ap (λ (cs : List Cell). attributes_from total done c.loop-c.fault cs) (sym c.in-Some.ensures) ∙ c.loop-c.invariant)))
