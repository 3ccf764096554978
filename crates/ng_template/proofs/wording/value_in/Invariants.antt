use Rattle.std.proofs.Common.{◌≡◌, drop, map}
use Rattle.std.specs.Map.{lookup}
use Rattle.std.specs.Str.{bytes_eq}
use Rattle.ng_html.specs.Attrs.{attr_of}
use Rattle.ng_template.proofs.wording.value_in.Given as goal

abbrev pub invariant-loop-attr : goal.invariant-loop-attr
invariant-loop-attr l = lookup (λ n. bytes_eq n l.name) (map attr_of (drop l.attr-index l.attr-items)) ≡ lookup (λ n. bytes_eq n l.name) (map attr_of l.attr-items)
