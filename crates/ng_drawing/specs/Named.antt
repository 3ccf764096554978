-- The templates of a page, each with the name that `ng-include` knows it by, if it has one, and the fragments that are made of them.
use Rattle.std.specs.Prelude.{ℕ, List, Option, None, Some, option_map, option_and_then, unwrap_or, slice_get}
use Rattle.ng_base.specs.declared.name.TplId.{TplId}
use Rattle.ng_drawing.specs.Composing.{composed}
use Rattle.ng_drawing.specs.Included.{included}
use Rattle.ng_drawing.specs.InstanceOf.{Fragments}
use Rattle.ng_drawing.specs.Origins.{inner_home}
use Rattle.ng_drawing.specs.Template.{Fragment, Template, no_fragment, fragment_at}
use Rattle.ng_drawing.specs.declared.origin.Origin.{Origin}

abbrev pub Named : Type 0
Named = Option (List ℕ) × Template

-- the fragment of a number in the template of a number
abbrev pub fragment_in : List Named → ℕ → ℕ → Option Fragment
fragment_in all t n = option_and_then (λ (k : Named). fragment_at k.1 n) (slice_get all t)

abbrev pub fragments_at : List Named → TplId → ℕ → Option Fragment
fragments_at all t n = fragment_in all t.0 n

-- a fragment with a template's own in it, if one is included
abbrev pub including : List Named → Option TplId → Fragment → Option Fragment
including all None f = Some f
including all (Some t) f = option_map (included f) (fragment_in all t.0 0)

-- with the templates of its directives in it
abbrev pub composing : List Named → Origin → Fragment → Fragment
composing all o f = composed (fragments_at all) (inner_home o) f

-- the fragment that an instance is one of
abbrev pub fragment_for : List Named → Origin → Option Fragment
fragment_for all o = option_map (composing all o) (option_and_then (including all o.included) (fragment_in all o.home.template.0 o.fragment))

abbrev pub fragments_in : List Named → Fragments
fragments_in all o = unwrap_or (fragment_for all o) no_fragment
