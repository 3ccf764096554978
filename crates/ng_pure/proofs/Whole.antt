-- Running a pure program is evaluating it.
use Rattle.std.proofs.Common.{◌≡◌, ◌∙◌, ℕ, List, length, refl, sym, subst, arith}
use Rattle.std.specs.Prelude.{Result, Ok, Err}
use Rattle.ng_base.specs.Objects.{Object}
use Rattle.ng_base.specs.Views.{ViewTree, prim, list, rec}
use Rattle.ng_base.specs.declared.fault.Fault.{Fault}
use Rattle.ng_base.specs.declared.value.Value.{Value}
use Rattle.ng_core.specs.Keeping.{nothing}
use Rattle.ng_act.specs.Expressions.{programmed}
use Rattle.ng_act.specs.Actions.{does}
use Rattle.ng_core.specs.State.{State, Run, ◌>>=◌, with_objects, with_locals}
use Rattle.ng_write.specs.Making.{value_in}
use Rattle.ng_behaviour.specs.Scopes.{object_at}
use Rattle.ng_evaluation.specs.Evaluation.{evaluated_program}
use Rattle.ng_write.specs.Reading.{Extends}
use Rattle.ng_pure.specs.Pure.{IsEvaluation, Answers, PureLaw}
use Rattle.ng_pure.proofs.Running.{SeenAt}
use Rattle.ng_pure.proofs.Storing.{Answered}
use Rattle.ng_pure.proofs.Trees.{statements_follow}

-- each view of a run is a value
valued : (s : State) (before : ℕ) (after : List Object) (a : Result ViewTree Fault) (x : Result ViewTree Fault) → Answered (SeenAt before before) after a x
    → Answers before after ((let r : Run ViewTree = (with_objects after s, a) in r) >>= λ v z. (z, (let o : Result Value Fault = Ok (value_in v) in o))).1 x
valued s before after (Ok (prim v)) (Ok t) h = h
valued s before after (Ok (list us)) (Ok t) h = absurd h
valued s before after (Ok (rec fs)) (Ok t) h = absurd h
valued s before after (Ok v) (Err e) h = absurd h
valued s before after (Err d) (Ok t) h = h
valued s before after (Err d) (Err e) h = h

same_state : (st : State) (a : Result ViewTree Fault) → ((let r : Run ViewTree = (st, a) in r) >>= λ v z. (z, (let o : Result Value Fault = Ok (value_in v) in o))).0 ≡ st
same_state st (Ok v) = refl
same_state st (Err e) = refl

ended : (s : State) (st : State) (a : Result ViewTree Fault) (x : Result ViewTree Fault) (after : List Object) → Extends s.objects after → st ≡ with_objects after s → Answered (SeenAt (length s.objects) (length s.objects)) after a x
    → IsEvaluation s x ((let r : Run ViewTree = (st, a) in r) >>= λ v z. (z, (let o : Result Value Fault = Ok (value_in v) in o)))
ended s st a x after e same h = record {
  after = after;
  kept = e;
  state = same_state st a ∙ same;
  answer =
      (let P : State → Type 0 = λ y. Answers (length s.objects) after ((let r : Run ViewTree = (y, a) in r) >>= λ v z. (z, (let o : Result Value Fault = Ok (value_in v) in o))).1 x in
      subst P (sym same) (valued s (length s.objects) after a x h));
}

pub pure_law : PureLaw
pure_law room scope locals p s ready pure known short n =
    let here : State = with_locals locals s in
    let r = programmed (does room) scope p here in
    let asked = evaluated_program s.objects (object_at s.scopes scope) locals p in
    let ran =
    statements_follow (does room) scope here (record { sound = ready.sound; there = ready.there; locals = ready.local }) p pure known short s.objects
    (record { sound = ready.sound; no_fewer = omega arith; unchanged = λ q h. refl }) (length s.objects) (omega arith) nothing nothing (refl, tt) n in
    ended here r.0 r.1 asked ran.after ran.extends ran.state ran.answer
