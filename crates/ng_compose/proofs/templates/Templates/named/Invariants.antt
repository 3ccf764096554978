use Rattle.std.proofs.Common.{◌≡◌, drop, map}
use Rattle.std.specs.List.{list_any}
use Rattle.ng_compose.specs.Kept.{named_of, is_named, named_from}
use Rattle.ng_compose.proofs.templates.Templates.named.Given as goal

abbrev pub invariant-loop-kept : goal.invariant-loop-kept
invariant-loop-kept l = record {
  place : l.id ≡ l.kept-index;
  first : named_from l.id l.name (map named_of (drop l.kept-index l.kept-items)) ≡ named_from 0 l.name (map named_of l.kept-items);
  none : list_any (is_named l.name) (map named_of (drop l.kept-index l.kept-items)) ≡ list_any (is_named l.name) (map named_of l.kept-items);
}
