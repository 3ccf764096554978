use Rattle.std.proofs.Common.{◌≡◌, ◌∙◌, Some, sym, ap, filter, not}
use Rattle.std.specs.Map.{lookup_key}
use Rattle.ng_base.specs.declared.path.Key.{Key}
use Rattle.ng_behaviour.specs.Keys.{key_cmp, begins}
use Rattle.ng_build.proofs.Firsts.{first_shorter, first_taken, none_passes}
use Rattle.ng_build.proofs.Keys.{key_is, same_key}
use Rattle.ng_build.proofs.forgetting.forget_on.Goals as goal

pub loop-start-smaller : goal.loop-start-smaller
loop-start-smaller g c =
    first_shorter key_cmp key_is same_key (λ (k : Key). begins c.args.p.now k.path) c.in-Some.key c.loop-start.table.entries c.forget_key.new.table.entries (sym c.in_ok-key.ensures ∙ c.in-Some.is) c.forget_key.ensures

pub loop-start-preserved : goal.loop-start-preserved
loop-start-preserved g c =
    let first : lookup_key (λ (k : Key). begins c.args.p.now k.path) c.loop-start.table.entries ≡ Some c.in-Some.key = sym c.in_ok-key.ensures ∙ c.in-Some.is in
    ap (filter (λ e. not (begins c.args.p.now e.0.path))) c.forget_key.ensures
    ∙ (first_taken _ key_cmp key_is same_key (λ (k : Key). begins c.args.p.now k.path) c.in-Some.key c.loop-start.table.entries first ∙ c.loop-start.invariant)

pub returns : goal.returns
returns g c =
    sym (none_passes _ key_cmp key_is same_key (λ (k : Key). begins c.args.p.now k.path) c.loop-start.table.entries (sym c.in_ok-key.ensures ∙ c.in_default.is)) ∙ c.loop-start.invariant
