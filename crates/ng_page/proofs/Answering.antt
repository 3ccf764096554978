-- What the call that dispatches an event comes to, by its parts.
use Rattle.std.proofs.Common.{◌≡◌, ◌<◌, ◌∙◌, ℕ, suc, Bool, true, false, List, [], ◌∷◌, length, Ok, Err, refl, ap, sym, subst, arith}
use Rattle.std.specs.Prelude.{◌==◌}
use Rattle.std.proofs.lemmas.Bool.Decides.{nat_tests}
use Rattle.ng_base.specs.declared.fault.Memory.{Memory as Wanted}
use Rattle.ng_drawing.specs.Drawing.{shown_as}
use Rattle.ng_link.specs.State.{shown, rendering}
use Rattle.ng_page.specs.Answered.{WhenOk}
use Rattle.ng_commands.specs.Handling.{Happening}
use Rattle.ng_page.specs.Causes.{HasCause}
use Rattle.ng_page.specs.Dispatch.{Dispatches, last_digest}
use Rattle.ng_page.specs.Dispatched.{told_all, Dispatched}
use Rattle.ng_page.specs.PageOf.{state_of, IsPage}
use Rattle.ng_commands.specs.BetweenSteps.{PageIs}
use Rattle.ng_commands.specs.Settled.{IsSettled}
use Rattle.ng_page.specs.declared.engine.Engine.{Engine}
use Rattle.ng_page.specs.declared.outcome.Outcome.{Outcome}
use Rattle.ng_page.specs.declared.outcome.PageFault.TheVariants.{Idle, Spent, Memory}
use Rattle.ng_page.specs.declared.page.Page.{Page}
use Rattle.ng_page.proofs.Rendering.{settled_renders, when_done}
use Rattle.ng_commands.proofs.Wholes.{works_display}

is_none : (n : ℕ) → (n == 0) ≡ true → n ≡ 0
is_none n e = grind (arith, nat_tests)

none_are : (os : List Outcome) → (length os == 0) ≡ true → os ≡ []
none_are [] e = refl
none_are (o ∷ os) e = let z : suc (length os) ≡ 0 = is_none (suc (length os)) e in absurd (omega arith)

some_are : (os : List Outcome) → (length os == 0) ≡ false → 0 < length (told_all os)
some_are [] e = cc
some_are (o ∷ os) e = omega arith

not_both : (b : Bool) → b ≡ false → b ≡ true → ⊥
not_both b f t = let e : false ≡ true = sym f ∙ t in cc

pub dispatched_spent : (x : Happening) (n : ℕ) (p : Page) → p.spent ≡ true → IsPage p → Dispatched x n p (Err Spent) p
dispatched_spent x n p s h = record {
  spent = (λ e. s, λ e. refl);
  idle = λ e. cc;
  ran = tt;
  left = refl;
  step = tt;
  displays = tt;
  settled = tt;
  renders = tt;
  page = h;
  worn = tt;
}

-- no handler ran
dispatched_idle : (x : Happening) (n : ℕ) (p : Page) → p.spent ≡ false → Dispatches x n (state_of p) [] (state_of p) → IsPage p → Dispatched x n p (Err Idle) p
dispatched_idle x n p s d h = record {
  spent = (λ e. cc, λ e. absurd (not_both p.spent s e));
  idle = λ e. d;
  ran = tt;
  left = refl;
  step = tt;
  displays = tt;
  settled = tt;
  renders = tt;
  page = h;
  worn = tt;
}

pub dispatched_none : (x : Happening) (n : ℕ) (p : Page) (e : Engine) (os : List Outcome) → p.spent ≡ false → (length os == 0) ≡ true → (os ≡ [] → e ≡ p.engine) → Dispatches x n (state_of p) (told_all os) (state_of (record p { engine = e })) → IsPage p
    → Dispatched x n p (Err Idle) (record p { engine = e })
dispatched_none x n p e os s z still d h =
    let none : os ≡ [] = none_are os z in
    let same : record p { engine = e } ≡ p = ap (λ (g : Engine). record p { engine = g }) (still none) in
    subst (λ q. Dispatched x n p (Err Idle) q) (sym same)
    (dispatched_idle x n p s (subst (λ (l : List Outcome). Dispatches x n (state_of p) (told_all l) (state_of p)) none (subst (λ q. Dispatches x n (state_of p) (told_all os) (state_of q)) same d)) h)

-- some did
pub dispatched_some : (x : Happening) (n : ℕ) (p new : Page) (os : List Outcome) → p.spent ≡ false → new.spent ≡ false → (length os == 0) ≡ false → Dispatches x n (state_of p) (told_all os) (state_of new)
    → WhenOk (last_digest (told_all os)) (IsSettled (state_of new)) → PageIs new.engine.works → Dispatched x n p (Ok os) new
dispatched_some x n p new os s t z d settled h = record {
  spent = (λ e. cc, λ e. absurd (not_both p.spent s e));
  idle = λ e. cc;
  ran = some_are os z;
  left = t;
  step = d;
  displays = works_display new.engine.works h.works;
  settled = settled;
  renders = when_done (IsSettled (state_of new)) (rendering (state_of new) ≡ shown_as (shown (state_of new))) (last_digest (told_all os)) settled (λ y. settled_renders (state_of new) y h.watched h.works.whole.standing.1.inner h.fits);
  page = λ _. h;
  worn = tt;
}

-- memory was wanted
pub dispatched_wanting : (x : Happening) (n : ℕ) (p : Page) (m : Wanted) (new : Page) → p.spent ≡ false → new.spent ≡ true → HasCause new (Memory m) → Dispatched x n p (Err (Memory m)) new
dispatched_wanting x n p m new s t w = record {
  spent = (λ e. cc, λ e. absurd (not_both p.spent s e));
  idle = λ e. cc;
  ran = tt;
  left = t;
  step = tt;
  displays = tt;
  settled = tt;
  renders = tt;
  page = λ f. absurd (not_both new.spent f t);
  worn = w;
}
