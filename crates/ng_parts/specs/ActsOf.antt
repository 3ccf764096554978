-- What the directives of an element in the code stand for.
use Rattle.std.specs.Prelude.{ℕ, List, map, option_map}
use Rattle.ng_drawing.specs.Template.{Control, Source, of_text, of_nothing, one_way, two_way, of_call, Binding, Uses, Outside, inside, handed, Scopes, Acts}
use Rattle.ng_language.specs.Trees.{Trees}
use Rattle.ng_parse.specs.ProgramOf.{program}
use Rattle.ng_parts.specs.declared.acts.Acts as code_acts
use Rattle.ng_parts.specs.declared.acts.Binding as code_binding
use Rattle.ng_parts.specs.declared.acts.Handler as code_handler
use Rattle.ng_parts.specs.declared.acts.Modelled as code_modelled
use Rattle.ng_parts.specs.declared.acts.Outside as code_outside
use Rattle.ng_parts.specs.declared.acts.Outside.TheVariants.{Inside, Handed}
use Rattle.ng_parts.specs.declared.acts.Scopes as code_scopes
use Rattle.ng_parts.specs.declared.acts.Source as code_source
use Rattle.ng_parts.specs.declared.acts.Source.TheVariants.{Text, Nothing, OneWay, TwoWay, Call}
use Rattle.ng_parts.specs.declared.acts.Uses as code_uses

abbrev pub handler_of : code_handler.Handler → List ℕ × Trees
handler_of h = (h.event, program h.program)

abbrev pub control_of : code_modelled.Modelled → Control
control_of c = record { kind = c.kind; site = c.site; writes = program c.writes; changes = map program c.changes.items }

abbrev pub source_of : code_source.Source → Source
source_of (Text ps) = of_text ps
source_of Nothing = of_nothing
source_of (OneWay n) = one_way n
source_of (TwoWay n p) = two_way n (option_map program p)
source_of (Call p) = of_call (program p)

abbrev pub binding_of : code_binding.Binding → Binding
binding_of b = record { name = b.name; source = source_of b.source }

abbrev pub uses_of : code_uses.Uses → Uses
uses_of u = record {
  directives = u.directives.items;
  child = u.child;
  isolate = u.isolate;
  bindings = map binding_of u.bindings.items;
  template = option_map (λ t. t.0) u.template;
  apart = u.apart;
  passes = u.passes;
  content = u.content;
}

abbrev pub outside_of : code_outside.Outside → Outside
outside_of (Inside n) = inside n
outside_of (Handed n) = handed n

abbrev pub scopes_of : code_scopes.Scopes → Scopes
scopes_of s = record { outer = s.outer; own = s.own; isolate = s.isolate; slot = option_map outside_of s.slot; deep = s.deep }

abbrev pub acts_of : code_acts.Acts → Acts
acts_of a = record {
  starts = map program a.starts.items;
  handlers = map handler_of a.handlers.items;
  control = option_map control_of a.control;
  uses = option_map uses_of a.uses;
  slot = a.slot;
  scopes = scopes_of a.scopes;
}
