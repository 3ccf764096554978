-- The lists that parts hold.
use Rattle.std.proofs.Common.{◌≡◌, List, [], ◌∷◌, ◌++◌, map, refl, ap}
use Rattle.std.proofs.lemmas.List.{map-append}
use Rattle.ng_drawing.specs.Template.{Contents, Part, Parts, part_then, parts_from, with_part}
use Rattle.ng_parts.specs.Seen.{contents_step, part_step, parts_step, part_of, parts_of}
use Rattle.ng_parts.specs.declared.parts.Parts as code_parts
use Rattle.ng_parts.specs.declared.parts.Contents.TheFolds.{fold_out-Parts}

pub parts_of-items : (v : code_parts.Parts) → parts_of v ≡ parts_from (map part_of v.items.items)
parts_of-items = fold_out-Parts Contents Part Parts contents_step part_step parts_step

pub parts_from-push : (ps : List Part) (q : Part) → parts_from (ps ++ q ∷ []) ≡ with_part (parts_from ps) q
parts_from-push [] q = refl
parts_from-push (p ∷ ps) q = ap (part_then p) (parts_from-push ps q)

pub ruleset part_steps = (parts_of-items, parts_from-push, map-append)
