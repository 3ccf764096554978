-- What a command comes to, by its parts.
use Rattle.std.proofs.Common.{◌≡◌, Bool, true, false, Option, Some, None, Result, Ok, Err, IsOk, IfOk, OnOk, refl, sym, subst, ◌∙◌}
use Rattle.ng_base.specs.declared.fault.Memory.{Memory as Wanted}
use Rattle.ng_link.specs.State as link
use Rattle.ng_commands.specs.Commands.{Asked, is_idle, begun, asked_run}
use Rattle.ng_page.specs.Commanded.{Commanded, Ended, IsLeft, LeavesBehind, refusal}
use Rattle.ng_page.specs.OutcomeOf.{outcome_of}
use Rattle.ng_page.specs.PageOf.{state_of, IsPage}
use Rattle.ng_page.specs.Steps.{Ends, EndsShort}
use Rattle.ng_page.specs.declared.outcome.Outcome.{Outcome}
use Rattle.ng_page.specs.declared.outcome.PageFault.{PageFault}
use Rattle.ng_page.specs.declared.outcome.PageFault.TheVariants.{Idle, Spent, Memory}
use Rattle.ng_page.specs.declared.page.Page.{Page}

commanded_spent : (a : Asked) (p : Page) → p.spent ≡ true → IsPage p → Commanded a p (Err Spent) p
commanded_spent a p s h = record {
  spent = (λ e. s, λ e. refl);
  idle = λ f. absurd (let g : true ≡ false = sym s ∙ f in cc);
  left = refl;
  step = tt;
  report = tt;
  displays = tt;
  settled = tt;
  renders = tt;
  page = h;
  worn = tt;
}

commanded_idle : (a : Asked) (p : Page) → p.spent ≡ false → is_idle a (state_of p) ≡ true → IsPage p → Commanded a p (Err Idle) p
commanded_idle a p f i h = record {
  spent = (λ e. cc, λ s. absurd (let g : true ≡ false = sym s ∙ f in cc));
  idle = λ g. (λ e. i, λ e. refl);
  left = refl;
  step = tt;
  report = tt;
  displays = tt;
  settled = tt;
  renders = tt;
  page = h;
  worn = tt;
}

pub commanded_refused : (a : Asked) (p : Page) (f : PageFault) → Some f ≡ refusal p.spent (is_idle a (state_of p)) → IsPage p → Commanded a p (Err f) p
commanded_refused a p f e h = by_flags p.spent (is_idle a (state_of p)) refl refl e
  where
    by_flags : (s i : Bool) → p.spent ≡ s → is_idle a (state_of p) ≡ i → Some f ≡ refusal s i → Commanded a p (Err f) p
    by_flags true i es ei e = let is : f ≡ Spent = cc in subst (λ g. Commanded a p (Err g) p) (sym is) (commanded_spent a p es h)
    by_flags false true es ei e = let is : f ≡ Idle = cc in subst (λ g. Commanded a p (Err g) p) (sym is) (commanded_idle a p es ei h)
    by_flags false false es ei e = cc

pub not_spent : (s i : Bool) → None ≡ refusal s i → s ≡ false
not_spent true i e = cc
not_spent false i e = refl

not_idle : (s i : Bool) → None ≡ refusal s i → i ≡ false
not_idle true i e = cc
not_idle false true e = cc
not_idle false false e = refl

neither_spent : (r : Result Outcome PageFault) (p : Page) → IsLeft r p → r ≡ Err Spent → ⊥
neither_spent (Ok o) p l e = cc
neither_spent (Err Idle) p l e = l
neither_spent (Err Spent) p l e = l
neither_spent (Err (Memory m)) p l e = cc

neither_idle : (r : Result Outcome PageFault) (p : Page) → IsLeft r p → r ≡ Err Idle → ⊥
neither_idle (Ok o) p l e = cc
neither_idle (Err Idle) p l e = l
neither_idle (Err Spent) p l e = l
neither_idle (Err (Memory m)) p l e = cc

left_behind : (r : Result Outcome PageFault) (old new : Page) → IsLeft r new → LeavesBehind r old new
left_behind (Ok o) old new l = l
left_behind (Err Idle) old new l = absurd l
left_behind (Err Spent) old new l = absurd l
left_behind (Err (Memory m)) old new l = l

-- what is said of the state that the program left
from_state : (P : Outcome → link.State → Type 0) (r : Result Outcome PageFault) (ran : Result (Unit {0}) Wanted) (s t : link.State) → IfOk r (λ o. IsOk ran) → (IsOk ran → s ≡ t) → IfOk r (λ o. P o s) → IfOk r (λ o. P o t)
from_state P (Ok o) ran s t i e h = subst (P o) (e i) h
from_state P (Err f) ran s t i e h = tt

pub commanded_ended : (a : Asked) (old new : Page) (s : link.State) (ran : Result (Unit {0}) Wanted) (r : Result Outcome PageFault) → None ≡ refusal old.spent (is_idle a (state_of old))
    → (IsOk ran → s ≡ asked_run a (begun (state_of old))) → Ended ran s r new → Commanded a old r new
commanded_ended a old new s ran r n e h =
    let f : old.spent ≡ false = not_spent old.spent (is_idle a (state_of old)) n in
    let i : is_idle a (state_of old) ≡ false = not_idle old.spent (is_idle a (state_of old)) n in
    record {
      spent = (λ g. absurd (neither_spent r new h.left g), λ g. absurd (let x : true ≡ false = sym g ∙ f in cc));
      idle = λ _. (λ g. absurd (neither_idle r new h.left g), λ g. absurd (let x : true ≡ false = sym g ∙ i in cc));
      left = left_behind r old new h.left;
      step = from_state (λ o x. Ends x (outcome_of o) (state_of new)) r ran s (asked_run a (begun (state_of old))) h.finished e h.step;
      report = from_state (λ o x. EndsShort x o.digest (state_of new)) r ran s (asked_run a (begun (state_of old))) h.finished e h.report;
      displays = h.displays;
      settled = h.settled;
      renders = h.renders;
      page = h.page;
      worn = h.worn;
    }

-- a call was not refused
pub not_refused : (r q : Option PageFault) → r ≡ q → ((x : PageFault) → r ≡ Some x → ⊥) → None ≡ q
not_refused None q e h = e
not_refused (Some x) q e h = absurd (h x refl)

-- what the program left, where it ran
pub where_ran : (P : Type 0) (r : Result (Unit {0}) Wanted) → OnOk r P → IsOk r → P
where_ran P (Ok u) h i = h
where_ran P (Err m) h i = cc
