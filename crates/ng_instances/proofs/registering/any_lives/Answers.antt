use Rattle.std.proofs.Common.{◌<◌, ℕ, Bool, true, ap, sym, subst, ◌∙◌, length}
use Rattle.std.specs.Prelude.{◌||◌}
use Rattle.ng_behaviour.specs.Scopes.{live_at}
use Rattle.ng_instances.specs.Changing.{any_on}
use Rattle.ng_instances.specs.Instances.{scope_number}
use Rattle.ng_instances.specs.InstanceOf.{page_of}
use Rattle.ng_instances.proofs.registering.any_lives.Goals as goal

pub is_live-requires : goal.is_live-requires
is_live-requires c = subst (λ (n : ℕ). n < length c.args.core.now.scopes) (sym (c.scope_at.ensures c.requires.0)) (c.requires.1 c.mark_at-mark.result.under)

pub returns-then-is_live : goal.returns-then-is_live
returns-then-is_live c = λ path.
    let scopes = c.args.core.now.scopes in
    let p = page_of path c.args.one.now in
    let here = ap (live_at scopes) (c.scope_at.ensures path ∙ ap (λ m. scope_number p m.under) c.mark_at-mark.ensures) in
    let lives = sym here ∙ (sym c.is_live.ensures ∙ c.if-is_live.true) in
    sym (ap (λ (b : Bool). b || any_on scopes p c.next.new.self) lives) ∙ (sym (ap (any_on scopes p) c.in-Some.ensures.steps) ∙ c.loop-serial.invariant path)

pub loop-serial-preserved : goal.loop-serial-preserved
loop-serial-preserved c = λ path.
    let scopes = c.args.core.now.scopes in
    let p = page_of path c.args.one.now in
    let here = ap (live_at scopes) (c.scope_at.ensures path ∙ ap (λ m. scope_number p m.under) c.mark_at-mark.ensures) in
    let dead = sym here ∙ (sym c.is_live.ensures ∙ c.if-is_live.false) in
    sym (ap (λ (b : Bool). b || any_on scopes p c.next.new.self) dead) ∙ (sym (ap (any_on scopes p) c.in-Some.ensures.steps) ∙ c.loop-serial.invariant path)

pub returns : goal.returns
returns c = λ path.
    sym (ap (any_on c.args.core.now.scopes (page_of path c.args.one.now)) c.in-None.ensures.steps.0) ∙ c.loop-serial.invariant path
