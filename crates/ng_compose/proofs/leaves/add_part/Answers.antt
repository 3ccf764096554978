use Rattle.std.proofs.Common.{◌≡◌, ◌∙◌, Option, ap, sym, subst}
use Rattle.std.specs.Prelude.{option_map, OnOk}
use Rattle.ng_drawing.specs.Template.{Parts}
use Rattle.ng_compose.specs.ComposedOf.{written_part}
use Rattle.ng_drawing.specs.Composing.{followed}
use Rattle.ng_parts.specs.Seen.{part_of, parts_of}
use Rattle.ng_parts.specs.declared.parts.Part.{Part}
use Rattle.ng_compose.proofs.ComposingTurns.{followed-none, followed-one}
use Rattle.ng_compose.proofs.leaves.add_part.Goals as goal

pub returns-in-None : goal.returns-in-None
returns-in-None c =
    let ps : Parts = parts_of c.args.done.now in
    sym (ap (λ (o : Option Part). followed ps (written_part (option_map part_of o))) c.in-None.is ∙ followed-none ps)

pub returns-in-Some : goal.returns-in-Some
returns-in-Some c =
    let ps : Parts = parts_of c.args.done.now in
    let more = ap (λ (o : Option Part). followed ps (written_part (option_map part_of o))) c.in-Some.is ∙ followed-one ps (part_of c.in-Some.part) in
    subst (λ (qs : Parts). OnOk c.push.result (parts_of c.push.new.self ≡ qs)) (sym more) c.push.ensures.ok
