-- The scopes of sites, as an instance in the code keeps them.
use Rattle.std.specs.Prelude.{ℕ, List, map}
use Rattle.ng_parts.specs.FragmentOf.{mark_of}
use Rattle.ng_parts.specs.declared.fragment.SiteScopes as code_mark
use Rattle.ng_instances.specs.Registering.{Marks}

abbrev pub marks_of : List (ℕ × code_mark.SiteScopes) → Marks
marks_of ms = map (λ e. (e.0, mark_of e.1)) ms
