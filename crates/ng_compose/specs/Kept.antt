-- The templates of a page as the code keeps them, and the first of a name.
use Rattle.std.specs.Prelude.{ℕ, ◌+◌, Bool, List, [], ◌∷◌, map, Option, None, Some, if◌then◌else◌}
use Rattle.ng_drawing.specs.Named.{Named}
use Rattle.ng_parts.specs.TemplateOf.{template_of}
use Rattle.ng_compose.specs.TplNames.{is_name}
use Rattle.ng_compose.specs.declared.templates.Kept.{Kept}
use Rattle.ng_compose.specs.declared.templates.Templates.{Templates}

abbrev pub named_of : Kept → Named
named_of k = (k.name, template_of k.template)

abbrev pub templates_of : Templates → List Named
templates_of t = map named_of t.items.items

abbrev pub is_named : List ℕ → Named → Bool
is_named w t = is_name w t.0

-- the first template of a name, counted from n on
abbrev pub named_from : ℕ → List ℕ → List Named → Option ℕ
named_from n w [] = None
named_from n w (t ∷ ts) = if is_named w t then Some n else named_from (n + 1) w ts
