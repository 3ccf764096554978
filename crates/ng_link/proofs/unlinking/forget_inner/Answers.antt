use Rattle.std.proofs.Common.{◌≡◌, ◌∙◌, List, ℕ, Some, sym, ap, filter, not}
use Rattle.std.specs.Map.{lookup_key}
use Rattle.ng_base.specs.Order.{path_cmp}
use Rattle.ng_behaviour.specs.Keys.{begins}
use Rattle.ng_build.proofs.Firsts.{first_shorter, first_taken, none_passes}
use Rattle.ng_instances.proofs.PathIs.{path_is}
use Rattle.ng_link.proofs.PathsBelow.{same_path}
use Rattle.ng_link.proofs.unlinking.forget_inner.Goals as goal

pub loop-path-smaller : goal.loop-path-smaller
loop-path-smaller c =
    first_shorter path_cmp path_is same_path (begins c.args.p.now) c.in-Some.path c.loop-path.inner.entries c.forget_path.new.inner.entries
    (sym c.in_ok-path.ensures ∙ c.in-Some.is) c.forget_path.ensures

pub loop-path-preserved : goal.loop-path-preserved
loop-path-preserved c =
    let first : lookup_key (begins c.args.p.now) c.loop-path.inner.entries ≡ Some c.in-Some.path = sym c.in_ok-path.ensures ∙ c.in-Some.is in
    ap (filter (λ e. not (begins c.args.p.now e.0))) c.forget_path.ensures
    ∙ (first_taken (List ℕ) path_cmp path_is same_path (begins c.args.p.now) c.in-Some.path c.loop-path.inner.entries first ∙ c.loop-path.invariant)

pub returns : goal.returns
returns c = sym (none_passes (List ℕ) path_cmp path_is same_path (begins c.args.p.now) c.loop-path.inner.entries (sym c.in_ok-path.ensures ∙ c.in_default.is)) ∙ c.loop-path.invariant
