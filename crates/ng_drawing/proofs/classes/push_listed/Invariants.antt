use Rattle.std.proofs.Common.{◌≡◌, ◌++◌, drop, map}
use Rattle.ng_base.specs.Views.{views_from}
use Rattle.ng_base.specs.ViewOf.{view_of}
use Rattle.ng_drawing.specs.Looks.{words_of}
use Rattle.ng_drawing.proofs.classes.push_listed.Given as goal

abbrev pub invariant-loop-part : goal.invariant-loop-part
invariant-loop-part l = l.words ++ words_of (views_from (map view_of (drop l.part-index l.parts))) ≡ l.fn.words ++ words_of (views_from (map view_of l.parts))
