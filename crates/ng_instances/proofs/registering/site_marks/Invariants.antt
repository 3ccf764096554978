use Rattle.std.proofs.Common.{◌≡◌, [], drop}
use Rattle.ng_parts.specs.FragmentOf.{fragment_of}
use Rattle.ng_instances.specs.MarksOf.{marks_of}
use Rattle.ng_instances.specs.Registering.{marks_from}
use Rattle.ng_instances.proofs.registering.site_marks.Given as goal

abbrev pub invariant-loop-i : goal.invariant-loop-i
invariant-loop-i l = marks_from (fragment_of l.fragment) l.i (drop l.i l.serials) (marks_of l.marks.entries) ≡ marks_from (fragment_of l.fragment) 0 l.serials []
