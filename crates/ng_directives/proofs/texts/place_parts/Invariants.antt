use Rattle.std.proofs.Common.{◌≡◌, ◌≤◌, ◌+◌, ◌++◌, map, length, true}
use Rattle.std.specs.List.{list_all}
use Rattle.ng_interp.specs.Parts.{piece_of}
use Rattle.ng_directives.specs.Limits.{site_limit}
use Rattle.ng_parts.specs.FragmentOf.{sites_of}
use Rattle.ng_directives.specs.Texts.{is_known, is_pure, numbered, sites_in}
use Rattle.ng_directives.proofs.texts.place_parts.Given as goal

abbrev pub invariant-loop-part : goal.invariant-loop-part
invariant-loop-part l = record {
  pieces : l.pieces ++ numbered (length l.sites.items) (map piece_of l.part-iterator.rest.items) ≡ numbered (length l.initial.sites.items) (map piece_of l.initial.part-iterator.rest.items);
  sites : sites_of l.sites.items ++ sites_in l.kind (map piece_of l.part-iterator.rest.items) ≡ sites_of l.initial.sites.items ++ sites_in l.kind (map piece_of l.initial.part-iterator.rest.items);
  fits : length l.sites.items + length (sites_in l.kind (map piece_of l.part-iterator.rest.items)) ≤ site_limit;
  known : list_all is_known (map piece_of l.part-iterator.rest.items) ≡ true;
  pure : list_all is_pure (map piece_of l.part-iterator.rest.items) ≡ true;
}
