use Rattle.std.proofs.Common.{rules, ◌≡◌, ◌∙◌, false, ap, subst, sym, arith}
use Rattle.std.specs.Prelude.{Ok, Err, Result}
use Rattle.ng_base.specs.Faults.{is_memory}
use Rattle.ng_base.specs.Meets.{Gives}
use Rattle.ng_base.specs.Views.{ViewTree}
use Rattle.ng_base.specs.declared.fault.Fault.{Fault}
use Rattle.ng_steps.specs.Links.{Linking, value_kept}
use Rattle.ng_steps.specs.LinkingOf.{linking}
use Rattle.ng_changes.specs.Whole.{IsWhole, NoWant, Unless}
use Rattle.ng_instances.specs.Registering.{Registered}
use Rattle.ng_link.specs.State.{State}
use Rattle.ng_value.specs.Snaps.{snap_of}
use Rattle.ng_value.specs.declared.snapshot.Snap.{Snap}
use Rattle.ng_steps.proofs.binding.keep_value.Goals as goal

pub returns-in_ok-keep_one-in-Ok-clause-whole : goal.returns-in_ok-keep_one-in-Ok-clause-whole
returns-in_ok-keep_one-in-Ok-clause-whole c = subst (λ (x : Result Snap Fault). Unless x (IsWhole c.args.works.now)) c.in-Ok.is c.requires.whole

pub hand_over-requires : goal.hand_over-requires
hand_over-requires c =
    let other : is_memory c.in-Err.f ≡ false = first_of (search rules, grind arith) in
    subst (λ (x : Result Snap Fault). Unless x (IsWhole c.args.works.now)) c.in-Err.is c.requires.whole other

pub returns-in_ok-keep_one-in-Ok-clause-kept : goal.returns-in_ok-keep_one-in-Ok-clause-kept
returns-in_ok-keep_one-in-Ok-clause-kept c = λ r given.
    let g : Linking = linking c.args.works.now c.args.done.now in
    let e : r ≡ Ok (snap_of c.in-Ok.now) = subst (λ (x : Result Snap Fault). Gives is_memory snap_of r x) c.in-Ok.is given in
    ap (λ (m : Registered). record g { made = m }) c.in_ok-keep_one-in-Ok.ensures.kept ∙ sym (ap (λ (x : Result ViewTree Fault). value_kept x g) e)

pub returns-in-Err-clause-kept : goal.returns-in-Err-clause-kept
returns-in-Err-clause-kept c = λ r given.
    let g : Linking = linking c.args.works.now c.args.done.now in
    let other : is_memory c.in-Err.f ≡ false = first_of (search rules, grind arith) in
    let e : r ≡ Err c.in-Err.f = subst (λ (x : Result Snap Fault). Gives is_memory snap_of r x) c.in-Err.is given other in
    ap (λ (s : State). record g { state = s }) c.hand_over.ensures.state ∙ sym (ap (λ (x : Result ViewTree Fault). value_kept x g) e)

pub returns-in_ok-keep_one-in-Ok-clause-free : goal.returns-in_ok-keep_one-in-Ok-clause-free
returns-in_ok-keep_one-in-Ok-clause-free c = subst (λ (x : Result Snap Fault). NoWant x) (sym c.in-Ok.is) tt

pub returns-in-Err-clause-free : goal.returns-in-Err-clause-free
returns-in-Err-clause-free c =
    let other : is_memory c.in-Err.f ≡ false = first_of (search rules, grind arith) in
    subst (λ (x : Result Snap Fault). NoWant x) (sym c.in-Err.is) other
