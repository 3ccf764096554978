use Rattle.std.proofs.Common.{◌≡◌, ◌++◌, drop, map}
use Rattle.std.specs.Prelude.{encode_utf8_all}
use Rattle.std.specs.List.{flat_map}
use Rattle.ng_markup.specs.Forest.{print_attribute}
use Rattle.ng_html.specs.Attrs.{attr_of}
use Rattle.ng_html.proofs.writing.push_attributes.Given as goal

abbrev pub invariant-loop-a : goal.invariant-loop-a
invariant-loop-a l =
    l.into.items ++ encode_utf8_all (flat_map print_attribute (map attr_of (drop l.a-index l.a-items)))
    ≡ l.initial.into.items ++ encode_utf8_all (flat_map print_attribute (map attr_of l.a-items))
