use Rattle.std.proofs.Common.{◌≡◌, ◌<◌, ◌-◌, List, ap, sym, ◌∙◌, arith}
use Rattle.std.specs.Prelude.{option_map, slice_get}
use Rattle.ng_drawing.specs.Template.{fragment_at}
use Rattle.ng_parts.specs.FragmentOf.{fragment_of, fragments_of}
use Rattle.ng_parts.specs.TemplateOf.{template_of}
use Rattle.ng_parts.specs.declared.fragment.Fragment.{Fragment}
use Rattle.ng_parts.proofs.WholeAt.{whole_at, seen_whole}
use Rattle.ng_parts.proofs.Lookups.{lookup_seen, after_first}
use Rattle.ng_parts.proofs.tpl.Tpl.fragment.Goals as goal

pub returns-then-n-eq0 : goal.returns-then-n-eq0
returns-then-n-eq0 c =
    let t = c.args.self.now in
    let first : fragment_at (template_of t) c.args.n ≡ fragment_at (template_of t) 0 = ap (fragment_at (template_of t)) c.if-n-eq0.true in
    record {
      fragment = sym first;
      order = whole_at (template_of t) c.args.n (fragment_of t.own) t.regular first;
    }

pub returns-else-n-eq0 : goal.returns-else-n-eq0
returns-else-n-eq0 c =
    let t = c.args.self.now in
    let l : 0 < c.args.n = omega arith in
    let seen : option_map (λ f. fragment_of f.now) c.get.result ≡ fragment_at (template_of t) c.args.n =
    lookup_seen fragment_of c.deref.result.now (c.args.n - 1) c.get.result c.get.ensures.lookup
    ∙ (ap (λ (xs : List Fragment). slice_get (fragments_of xs) (c.args.n - 1)) c.deref.ensures.value
    ∙ sym (after_first (fragment_of t.own) (fragments_of t.bodies.items) c.args.n l)) in
    record {
      fragment = seen;
      order = seen_whole (λ f. fragment_of f.now) (template_of t) c.args.n c.get.result seen t.regular;
    }
