use Rattle.std.proofs.Common.{◌≡◌, ◌∙◌, Some, sym, ap, filter, not}
use Rattle.std.specs.Map.{lookup_key}
use Rattle.ng_base.specs.Order.{path_cmp}
use Rattle.ng_behaviour.specs.Keys.{begins}
use Rattle.ng_instances.specs.declared.instances.Linked.{Linked}
use Rattle.ng_build.proofs.Firsts.{first_shorter, first_taken, none_passes}
use Rattle.ng_link.proofs.FirstOwners.{owners_step, owners_none}
use Rattle.ng_instances.proofs.PathIs.{path_is}
use Rattle.ng_link.proofs.PathsBelow.{same_path}
use Rattle.ng_link.proofs.unlinking.forget_below.Goals as goal

pub loop-path-smaller : goal.loop-path-smaller
loop-path-smaller c =
    first_shorter path_cmp path_is same_path (begins c.args.p.now) c.in-Some.path c.loop-path.instances.entries c.forget_one.new.instances.entries
    (sym c.in_ok-path.ensures ∙ c.in-Some.is) c.forget_one.ensures.instances

pub loop-path-preserved : goal.loop-path-preserved
loop-path-preserved c =
    let first : lookup_key (begins c.args.p.now) c.loop-path.instances.entries ≡ Some c.in-Some.path = sym c.in_ok-path.ensures ∙ c.in-Some.is in
    record {
      instances =
          ap (filter (λ e. not (begins c.args.p.now e.0))) c.forget_one.ensures.instances
          ∙ (first_taken Linked path_cmp path_is same_path (begins c.args.p.now) c.in-Some.path c.loop-path.instances.entries first ∙ c.loop-path.invariant.instances);
      owners =
          owners_step (λ (one : Linked). one.node) c.args.p.now c.in-Some.path c.loop-path.instances.entries c.forget_one.new.instances.entries c.loop-path.owners.entries c.forget_one.new.owners.entries
          first c.forget_one.ensures.instances c.forget_one.ensures.owners
          ∙ c.loop-path.invariant.owners;
    }

pub returns-clause-instances : goal.returns-clause-instances
returns-clause-instances c =
    sym (none_passes Linked path_cmp path_is same_path (begins c.args.p.now) c.loop-path.instances.entries (sym c.in_ok-path.ensures ∙ c.in_default.is)) ∙ c.loop-path.invariant.instances

pub returns-clause-owners : goal.returns-clause-owners
returns-clause-owners c =
    sym (owners_none (λ (one : Linked). one.node) c.args.p.now c.loop-path.instances.entries c.loop-path.owners.entries (sym c.in_ok-path.ensures ∙ c.in_default.is)) ∙ c.loop-path.invariant.owners
