use Rattle.std.proofs.Common.{◌∙◌, ◌<◌, ℕ, List, Option, true, false, ap, length, map, slice_get, subst, sym}
use Rattle.ng_behaviour.specs.Scopes.{Scope}
use Rattle.std.specs.Prelude.{option_map}
use Rattle.ng_drawing.specs.Template.{Binding}
use Rattle.ng_changes.proofs.Answered.{ok_then}
use Rattle.ng_steps.proofs.Binds.{ground_same, program_found, source_is, watchable_at}
use Rattle.ng_steps.proofs.Placed.{ground_below}
use Rattle.ng_steps.specs.Links.{Linking, value_bound}
use Rattle.ng_steps.specs.LinkingOf.{linking, IsGround}
use Rattle.ng_language.specs.Trees.{Trees}
use Rattle.ng_instances.specs.Bindings.{bound_both, bound_in}
use Rattle.ng_instances.specs.BoundOf.{registered_of}
use Rattle.ng_link.specs.State.{State}
use Rattle.ng_build.specs.StepOf.{IsWatchable}
use Rattle.ng_parse.specs.ProgramOf.{program}
use Rattle.ng_parts.specs.ActsOf.{binding_of, source_of}
use Rattle.ng_steps.proofs.binding.bind.Goals as goal

pub bind_text-requires-clause-scope : goal.bind_text-requires-clause-scope
bind_text-requires-clause-scope c =
    let n : ℕ = length c.args.works.now.core.scopes in
    subst (λ (k : ℕ). k < n) (sym c.scope-scope.ensures) (ground_below n (registered_of c.args.done.now.made).at_hand c.args.isolate c.requires.whole.root c.requires.grounded.scopes)

pub bind_text-requires-clause-over : goal.bind_text-requires-clause-over
bind_text-requires-clause-over c =
    let n : ℕ = length c.args.works.now.core.scopes in
    subst (λ (k : ℕ). k < n) (sym c.scope-over.ensures) (ground_below n (registered_of c.args.done.now.made).at_hand c.args.over c.requires.whole.root c.requires.grounded.scopes)

pub set_name-requires-clause-scope : goal.set_name-requires-clause-scope
set_name-requires-clause-scope c =
    let n : ℕ = length c.args.works.now.core.scopes in
    subst (λ (k : ℕ). k < n) (sym c.scope-scope.ensures) (ground_below n (registered_of c.args.done.now.made).at_hand c.args.isolate c.requires.whole.root c.requires.grounded.scopes)

pub bind_value-requires-clause-scope : goal.bind_value-requires-clause-scope
bind_value-requires-clause-scope c =
    let n : ℕ = length c.args.works.now.core.scopes in
    subst (λ (k : ℕ). k < n) (sym c.scope-scope.ensures) (ground_below n (registered_of c.args.done.now.made).at_hand c.args.isolate c.requires.whole.root c.requires.grounded.scopes)

pub bind_value-requires-clause-over : goal.bind_value-requires-clause-over
bind_value-requires-clause-over c =
    let n : ℕ = length c.args.works.now.core.scopes in
    subst (λ (k : ℕ). k < n) (sym c.scope-over.ensures) (ground_below n (registered_of c.args.done.now.made).at_hand c.args.over c.requires.whole.root c.requires.grounded.scopes)

pub bind_value-requires-clause-watchable : goal.bind_value-requires-clause-watchable
bind_value-requires-clause-watchable c = watchable_at IsWatchable (map program c.args.programs.now) _ c.program_at.result c.requires.watchable c.program_at.ensures

pub bind_value-requires-in-TwoWay-clause-scope : goal.bind_value-requires-in-TwoWay-clause-scope
bind_value-requires-in-TwoWay-clause-scope c =
    let n : ℕ = length c.args.works.now.core.scopes in
    subst (λ (k : ℕ). k < n) (sym c.scope-scope.ensures) (ground_below n (registered_of c.args.done.now.made).at_hand c.args.isolate c.requires.whole.root c.requires.grounded.scopes)

pub bind_value-requires-in-TwoWay-clause-over : goal.bind_value-requires-in-TwoWay-clause-over
bind_value-requires-in-TwoWay-clause-over c =
    let n : ℕ = length c.args.works.now.core.scopes in
    subst (λ (k : ℕ). k < n) (sym c.scope-over.ensures) (ground_below n (registered_of c.args.done.now.made).at_hand c.args.over c.requires.whole.root c.requires.grounded.scopes)

pub bind_value-requires-in-TwoWay-clause-watchable : goal.bind_value-requires-in-TwoWay-clause-watchable
bind_value-requires-in-TwoWay-clause-watchable c = watchable_at IsWatchable (map program c.args.programs.now) _ c.program_at-in-TwoWay.result c.requires.watchable c.program_at-in-TwoWay.ensures

pub bind_call-requires-clause-scope : goal.bind_call-requires-clause-scope
bind_call-requires-clause-scope c =
    let n : ℕ = length c.args.works.now.core.scopes in
    subst (λ (k : ℕ). k < n) (sym c.scope-scope.ensures) (ground_below n (registered_of c.args.done.now.made).at_hand c.args.isolate c.requires.whole.root c.requires.grounded.scopes)

pub bind_call-requires-clause-over : goal.bind_call-requires-clause-over
bind_call-requires-clause-over c =
    let n : ℕ = length c.args.works.now.core.scopes in
    subst (λ (k : ℕ). k < n) (sym c.scope-over.ensures) (ground_below n (registered_of c.args.done.now.made).at_hand c.args.over c.requires.whole.root c.requires.grounded.scopes)

pub returns-in-Text-clause-bound : goal.returns-in-Text-clause-bound
returns-in-Text-clause-bound c =
    let g : Linking = linking c.args.works.now c.args.done.now in
    let b : Binding = binding_of c.args.binding.now in
    ok_then c.bind_text.result c.bind_text.ensures.bound
    (λ e f same. e f.sites same ∙ source_is f b c.args.isolate c.args.over c.scope-scope.result.0 c.scope-over.result.0 _ g c.scope-scope.ensures c.scope-over.ensures (ap source_of c.in-Text.is))

pub returns-in-Nothing-clause-bound : goal.returns-in-Nothing-clause-bound
returns-in-Nothing-clause-bound c =
    let g : Linking = linking c.args.works.now c.args.done.now in
    let b : Binding = binding_of c.args.binding.now in
    ok_then c.set_name.result c.set_name.ensures.state
    (λ e f same. ap (λ (s : State). record g { state = s }) e ∙ source_is f b c.args.isolate c.args.over c.scope-scope.result.0 c.scope-over.result.0 _ g c.scope-scope.ensures c.scope-over.ensures (ap source_of c.in-Nothing.is))

pub returns-in_ok-copied-in-OneWay-clause-bound : goal.returns-in_ok-copied-in-OneWay-clause-bound
returns-in_ok-copied-in-OneWay-clause-bound c =
    let g : Linking = linking c.args.works.now c.args.done.now in
    let b : Binding = binding_of c.args.binding.now in
    ok_then c.bind_value.result c.bind_value.ensures.bound
    (λ e f same. e (slice_get f.sites c.in-OneWay.n) (program_found f (map program c.args.programs.now) c.in-OneWay.n _ same c.program_at.ensures)
    ∙ (ap (λ (w : List ℕ). value_bound false c.scope-scope.result.0 b.name c.scope-over.result.0 (slice_get f.sites c.in-OneWay.n) (bound_in c.scope-scope.result.0 w) g) c.in_ok-copied-in-OneWay.ensures
    ∙ source_is f b c.args.isolate c.args.over c.scope-scope.result.0 c.scope-over.result.0 _ g c.scope-scope.ensures c.scope-over.ensures (ap source_of c.in-OneWay.is)))

pub returns-in_ok-copied_program-in-TwoWay-clause-bound : goal.returns-in_ok-copied_program-in-TwoWay-clause-bound
returns-in_ok-copied_program-in-TwoWay-clause-bound c =
    let g : Linking = linking c.args.works.now c.args.done.now in
    let b : Binding = binding_of c.args.binding.now in
    let s : ℕ = c.scope-scope.result.0 in
    let v : ℕ = c.scope-over.result.0 in
    ok_then c.bind_value-in-TwoWay.result c.bind_value-in-TwoWay.ensures.bound
    (λ e f same. e (slice_get f.sites c.in-TwoWay.n) (program_found f (map program c.args.programs.now) c.in-TwoWay.n _ same c.program_at-in-TwoWay.ensures)
    ∙ (ap (λ (w : List ℕ). value_bound true s b.name v (slice_get f.sites c.in-TwoWay.n) (bound_both s w v (option_map program c.in_ok-copied_program-in-TwoWay.field-0)) g) c.in_ok-copied-in-TwoWay.ensures
    ∙ (ap (λ (o : Option Trees). value_bound true s b.name v (slice_get f.sites c.in-TwoWay.n) (bound_both s b.name v o) g) c.in_ok-copied_program-in-TwoWay.ensures
    ∙ source_is f b c.args.isolate c.args.over s v _ g c.scope-scope.ensures c.scope-over.ensures (ap source_of c.in-TwoWay.is))))

pub returns-in-Call-clause-bound : goal.returns-in-Call-clause-bound
returns-in-Call-clause-bound c =
    let g : Linking = linking c.args.works.now c.args.done.now in
    let b : Binding = binding_of c.args.binding.now in
    ok_then c.bind_call.result c.bind_call.ensures.state
    (λ e f same. ap (λ (s : State). record g { state = s }) e ∙ source_is f b c.args.isolate c.args.over c.scope-scope.result.0 c.scope-over.result.0 _ g c.scope-scope.ensures c.scope-over.ensures (ap source_of c.in-Call.is))

pub returns-in-Text-clause-grounded : goal.returns-in-Text-clause-grounded
returns-in-Text-clause-grounded c = ok_then c.bind_text.result c.bind_text.ensures.count (λ e. ground_same _ _ (registered_of c.args.done.now.made).at_hand _ c.bind_text.ensures.at_hand e c.requires.grounded)

pub returns-in-Nothing-clause-grounded : goal.returns-in-Nothing-clause-grounded
returns-in-Nothing-clause-grounded c =
    ok_then c.set_name.result c.set_name.ensures.whole (λ whole. subst (λ (t : List Scope). IsGround (length t) (registered_of c.args.done.now.made).at_hand) (sym c.set_name.ensures.scopes) c.requires.grounded)

pub returns-in_ok-copied-in-OneWay-clause-grounded : goal.returns-in_ok-copied-in-OneWay-clause-grounded
returns-in_ok-copied-in-OneWay-clause-grounded c = ok_then c.bind_value.result c.bind_value.ensures.count (λ e. ground_same _ _ (registered_of c.args.done.now.made).at_hand _ c.bind_value.ensures.at_hand e c.requires.grounded)

pub returns-in_ok-copied_program-in-TwoWay-clause-grounded : goal.returns-in_ok-copied_program-in-TwoWay-clause-grounded
returns-in_ok-copied_program-in-TwoWay-clause-grounded c = ok_then c.bind_value-in-TwoWay.result c.bind_value-in-TwoWay.ensures.count (λ e. ground_same _ _ (registered_of c.args.done.now.made).at_hand _ c.bind_value-in-TwoWay.ensures.at_hand e c.requires.grounded)

pub returns-in-Call-clause-grounded : goal.returns-in-Call-clause-grounded
returns-in-Call-clause-grounded c = ok_then c.bind_call.result c.bind_call.ensures.count (λ e. subst (λ (n : ℕ). IsGround n (registered_of c.args.done.now.made).at_hand) (sym e) c.requires.grounded)
