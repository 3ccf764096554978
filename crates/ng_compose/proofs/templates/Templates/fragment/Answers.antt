use Rattle.std.proofs.Common.{length}
use Rattle.ng_parts.specs.FragmentOf.{fragment_of}
use Rattle.ng_parts.specs.TemplateOf.{template_of}
use Rattle.ng_copies.proofs.Inclusion.{seen_order}
use Rattle.ng_compose.proofs.templates.Templates.fragment.Goals as goal

pub returns-in-Some-clause-order : goal.returns-in-Some-clause-order
returns-in-Some-clause-order c = seen_order (λ f. fragment_of f.now) (length (template_of c.in-Some.kept.now.template).bodies) c.fragment.result c.fragment.ensures.order
