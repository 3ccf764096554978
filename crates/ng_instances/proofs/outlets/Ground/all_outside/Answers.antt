use Rattle.std.proofs.Common.{◌+◌, ◌++◌, ℕ, List, ap, sym, ◌∙◌, drop, get_or, map}
use Rattle.ng_base.specs.declared.name.ScopeId.{ScopeId}
use Rattle.ng_drawing.specs.Template.{Outside}
use Rattle.ng_parts.specs.ActsOf.{outside_of}
use Rattle.ng_parts.specs.declared.acts.Outside as code
use Rattle.ng_parts.specs.declared.acts.Outside.TheVariants.{Inside}
use Rattle.ng_instances.specs.BoundOf.{ground_of}
use Rattle.ng_instances.specs.Registering.{outside_in_ground}
use Rattle.ng_build.proofs.Loops.{got_or, next_seen, pushed}
use Rattle.ng_instances.proofs.outlets.Ground.all_outside.Goals as goal

abbrev name : ScopeId → ℕ
name s = s.0

pub loop-outside-preserved : goal.loop-outside-preserved
loop-outside-preserved c =
    let os = c.args.outsides.now in
    let i = c.loop-outside.outside-index in
    let o : code.Outside = get_or os i (Inside 0) in
    let which : Outside → ℕ = outside_in_ground (ground_of c.args.self.now) in
    let before : List ScopeId = c.loop-outside.all.items in
    let rest : List ℕ = map which (map outside_of (drop (i + 1) os)) in
    ap (λ (xs : List ScopeId). map name xs ++ rest) c.in_ok-push.ensures.items
    ∙ (pushed name before c.outside.result (which (outside_of o)) rest c.outside.ensures
    ∙ (sym (ap (λ (xs : List Outside). map name before ++ map which xs) (next_seen outside_of os i o c.loop-outside-test.true (got_or os i (Inside 0) c.loop-outside-test.true))) ∙ c.loop-outside.invariant))
