use Rattle.std.proofs.Common.{◌≡◌, ◌++◌, drop, map}
use Rattle.std.specs.Prelude.{encode_utf8_all}
use Rattle.ng_markup.specs.Forest.{print, forest_from}
use Rattle.ng_html.specs.Seen.{node_of}
use Rattle.ng_html.proofs.writing.+write.Given as goal

abbrev pub invariant-push_forest-loop-n : goal.invariant-push_forest-loop-n
invariant-push_forest-loop-n l =
    l.into.items ++ encode_utf8_all (print (forest_from (map node_of (drop l.n-index l.n-items))))
    ≡ l.initial.into.items ++ encode_utf8_all (print (forest_from (map node_of l.n-items)))
