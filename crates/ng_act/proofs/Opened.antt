-- What is opened, as the code goes through it.
use Rattle.std.proofs.Common.{◌≡◌, ◌<◌, ◌+◌, ◌-◌, ℕ, suc, true, List, Result, Ok, Err, refl, ap, sym, ◌∙◌, subst, arith}
use Rattle.std.specs.Prelude.{nat_lt}
use Rattle.ng_base.specs.ViewOf.{view_of}
use Rattle.ng_base.specs.declared.fault.Fault.{Fault}
use Rattle.ng_base.specs.declared.view.View.{View}
use Rattle.ng_behaviour.specs.Listeners.{place_of}
use Rattle.ng_events.specs.Stands.{Table, Begins, lists_of}
use Rattle.ng_events.specs.declared.stands.EventWalk.{EventWalk}
use Rattle.ng_language.specs.Trees.{Trees}
use Rattle.ng_members.specs.Leaves.{Local}
use Rattle.ng_core.specs.Events.{Event}
use Rattle.ng_act.specs.Asked.{Asked, a_body}
use Rattle.ng_act.specs.Expressions.{programmed}
use Rattle.ng_act.specs.Emitting.{visited}
use Rattle.ng_act.specs.Actions.{done, does}
use Rattle.ng_core.specs.Frames.{Acts}
use Rattle.ng_core.specs.State.{State, Run, with_locals, with_body}
use Rattle.ng_act.specs.Turns.{walk_turns}
use Rattle.ng_act.proofs.Turns.{walk_begun}

-- a run that is another
pub acts_as : {A B : Type 0} (seen : A → B) (r : Result A Fault) (s : State) (x y : Run B) → y ≡ x → Acts seen r s x → Acts seen r s y
acts_as seen r s x y e h = subst (λ z. Acts seen r s z) (sym e) h

pub acts_left : {A B : Type 0} (seen : A → B) (r : Result A Fault) (s t : State) (x : Run B) → t ≡ s → Acts seen r s x → Acts seen r t x
acts_left seen r s t x e h = subst (λ u. Acts seen r u x) (sym e) h

-- room for one more
pub opened_does : (d d1 : ℕ) (a : Asked) (s : State) → d < 64 → d1 ≡ d + 1 → does (64 - d) a s ≡ done (does (64 - d1)) a s
opened_does d d1 a s h e =
    let q : 64 - d ≡ suc (64 - d1) = omega arith in
    ap (λ (n : ℕ). does n a s) q

pub event_acts : (r : Result View Fault) (d d1 : ℕ) (a : Asked) (s s1 s2 s3 : State) → d < 64 → d1 ≡ d + 1 → s1 ≡ s → s3 ≡ s2 → Acts view_of r s2 (done (does (64 - d1)) a s1) → Acts view_of r s3 (does (64 - d) a s)
event_acts r d d1 a s s1 s2 s3 h hd e1 e3 run =
    acts_left view_of r s2 s3 (does (64 - d) a s) e3
    (acts_as view_of r s2 (done (does (64 - d1)) a s1) (does (64 - d) a s) (opened_does d d1 a s h hd ∙ ap (λ t. done (does (64 - d1)) a t) (sym e1)) run)

pub body_acts : (r : Result View Fault) (d d1 sc : ℕ) (ls : List Local) (p : Trees) (s s1 s2 s3 : State) → d < 64 → d1 ≡ d + 1 → nat_lt s.entered 100000 ≡ true → s1 ≡ with_locals ls (with_body s) → s3 ≡ with_locals s.locals s2 → Acts view_of r s2 (programmed (does (64 - d1)) sc p s1) → Acts view_of r s3 (does (64 - d) (a_body sc ls p) s)
body_acts (Ok v) d d1 sc ls p s s1 s2 s3 h hd hn e1 e3 run =
    let ran : programmed (does (64 - d1)) sc p (with_locals ls (with_body s)) ≡ (s2, Ok (view_of v)) = subst (λ t. programmed (does (64 - d1)) sc p t ≡ (s2, Ok (view_of v))) e1 run in
    opened_does d d1 (a_body sc ls p) s h hd ∙ rw (hn, ran, e3) refl
body_acts (Err f) d d1 sc ls p s s1 s2 s3 h hd hn e1 e3 run =
    λ m.
    let ran : programmed (does (64 - d1)) sc p (with_locals ls (with_body s)) ≡ (s2, Err f) = subst (λ t. programmed (does (64 - d1)) sc p t ≡ (s2, Err f)) e1 (run m) in
    opened_does d d1 (a_body sc ls p) s h hd ∙ rw (hn, ran, e3) refl

-- the listeners of a scope have had their turns
pub heard_run : (d0 d1 : ℕ) (e : Event) (sc : ℕ) (t u : Table) (n : List ℕ) (w : EventWalk) (s s1 s2 s3 : State) → d1 ≡ d0 → Begins t sc n w u → s.heard ≡ lists_of t → s1 ≡ s → s2 ≡ walk_turns (does (64 - d1)) e sc u w s1 → s3 ≡ s2 → s3 ≡ visited (does (64 - d0)) e sc (place_of s.heard sc n) s
heard_run d0 d1 e sc t u n w s s1 s2 s3 ed b h e1 run e3 =
    let ran : s2 ≡ walk_turns (does (64 - d0)) e sc u w s1 = subst (λ d. s2 ≡ walk_turns (does (64 - d)) e sc u w s1) ed run in
    e3 ∙ (ran ∙ (ap (λ x. walk_turns (does (64 - d0)) e sc u w x) e1 ∙ walk_begun (does (64 - d0)) e sc t u n w s b h))
