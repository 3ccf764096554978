-- What is put in to a control, by the steps in which that is done.
use Rattle.std.proofs.Common.{◌≡◌, ◌∙◌, ℕ, ℤ, Bool, true, false, cond, List, [], ◌∷◌, Option, Some, None, refl, ap, sym, subst}
use Rattle.std.specs.Char.{is_ascii_whitespace}
use Rattle.std.specs.List.{list_any}
use Rattle.ng_base.specs.Objects.{StandsAmong}
use Rattle.ng_base.specs.declared.value.Value.{Value}
use Rattle.ng_base.specs.declared.value.Value.TheVariants as value
use Rattle.ng_control.specs.State.{ControlState, typed_in, checked_in}
use Rattle.ng_control.specs.Typed.{number_or_undefined, parsed}
use Rattle.ng_control.specs.declared.kind.ControlKind.{ControlKind}
use Rattle.ng_control.specs.declared.kind.ControlKind.TheVariants.{Text, Number, Checkbox}
use Rattle.ng_settling.specs.Inputs.{written}
use Rattle.ng_language.specs.Operators.{number_in}
use Rattle.ng_link.specs.Calls.{with_control_at}
use Rattle.ng_build.specs.Controls.{ControlHere, IsOfKind, state_under, read_as}
use Rattle.ng_link.specs.Events.{control_at, scope_of, state_by}
use Rattle.ng_link.specs.State.{State}
use Rattle.ng_commands.specs.Commands.{begun, typed_run, checked_run, asked_run, types, checks}

-- what a text is read as is no object
number_stands : (count : ℕ) (t : List ℕ) → StandsAmong count (parsed Number t)
number_stands count [] = tt
number_stands count (c ∷ cs) = by_space (list_any is_ascii_whitespace (c ∷ cs))
  where
    by_number : (n : Option ℤ) → StandsAmong count (number_or_undefined n)
    by_number None = tt
    by_number (Some n) = tt

    by_space : (b : Bool) → StandsAmong count (cond b value.Undefined (number_or_undefined (number_in (c ∷ cs))))
    by_space true = tt
    by_space false = by_number (number_in (c ∷ cs))

parsed_stands : (count : ℕ) (k : ControlKind) (t : List ℕ) → StandsAmong count (parsed k t)
parsed_stands count (Text trim) t = tt
parsed_stands count Number t = number_stands count t
parsed_stands count Checkbox t = tt

pub read_stands : (count : ℕ) (t : List ℕ) (c : Option ControlState) → StandsAmong count (read_as t c)
read_stands count t None = tt
read_stands count t (Some c) = parsed_stands count c.kind t

-- the state of a control that is there
pub kind_there : (P : ControlKind → Type 0) (s : State) (n : ℕ) (h : ControlHere) → control_at s n ≡ Some h → IsOfKind P (state_by (control_at s n) s) → IsOfKind P (state_under h.key s.controls)
kind_there P s n h at is = subst (λ (c : Option ControlHere). IsOfKind P (state_by c s)) at is

pub none_there : (P : ControlKind → Type 0) (s : State) (n : ℕ) → control_at s n ≡ None → IsOfKind P (state_by (control_at s n) s) → ⊥
none_there P s n at is = subst (λ (c : Option ControlHere). IsOfKind P (state_by c s)) at is

-- a command that begins changes no control
pub begun_kind : (P : ControlKind → Type 0) (s : State) (n : ℕ) → IsOfKind P (state_by (control_at s n) s) → IsOfKind P (state_by (control_at (begun s) n) (begun s))
begun_kind P s n h = by_control (control_at s n) h
  where
    by_control : (c : Option ControlHere) → IsOfKind P (state_by c s) → IsOfKind P (state_by c (begun s))
    by_control None h = h
    by_control (Some c) h = h

pub no_value : {A : Type 0} (o : Option A) → ((x : A) → o ≡ Some x → ⊥) → o ≡ None
no_value None h = refl
no_value (Some x) h = absurd (h x refl)

module _ (n scope : ℕ) (h : ControlHere) (v : Value) (s m r : State) (at : control_at s n ≡ Some h) (on : scope ≡ scope_of s n) (done : r ≡ written scope h.writes v h.changes m) where
  pub typed_by : (t : List ℕ) → v ≡ read_as t (state_under h.key s.controls) → m ≡ with_control_at (λ x. typed_in x t) h.key s → r ≡ asked_run (types n t) s
  typed_by t is put =
      let u = with_control_at (λ x. typed_in x t) h.key s in
      let read = read_as t (state_under h.key s.controls) in
      done
      ∙ (ap (λ (q : State). written scope h.writes v h.changes q) put
      ∙ (ap (λ (x : Value). written scope h.writes x h.changes u) is
      ∙ (ap (λ (q : ℕ). written q h.writes read h.changes u) on ∙ sym (ap (λ (c : Option ControlHere). typed_run t (scope_of s n) c s) at))))

  pub checked_by : (b : Bool) → v ≡ value.Bool b → m ≡ with_control_at checked_in h.key s → r ≡ asked_run (checks n b) s
  checked_by b is put =
      let u = with_control_at checked_in h.key s in
      done
      ∙ (ap (λ (q : State). written scope h.writes v h.changes q) put
      ∙ (ap (λ (x : Value). written scope h.writes x h.changes u) is
      ∙ (ap (λ (q : ℕ). written q h.writes (value.Bool b) h.changes u) on ∙ sym (ap (λ (c : Option ControlHere). checked_run b (scope_of s n) c s) at))))
