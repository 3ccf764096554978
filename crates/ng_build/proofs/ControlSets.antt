-- The states of controls, where one changes or some begin.
use Rattle.std.proofs.Common.{◌≡◌, ℕ, Bool, true, false, cond, List, [], ◌∷◌, Some, None, refl, ap, ◌∙◌, sym, map}
use Rattle.std.specs.BTreeMap.{insert_entry}
use Rattle.std.specs.Map.{set_value}
use Rattle.ng_base.specs.declared.path.Key.{Key}
use Rattle.ng_control.specs.State.{ControlState, fresh}
use Rattle.ng_behaviour.specs.Keys.{key_cmp, is_key}
use Rattle.ng_build.specs.Controls.{Controls, state_under, controls_begun, control_changed}
use Rattle.ng_build.specs.HandledOf.{controlled_of}
use Rattle.ng_build.specs.declared.controlled.ControlHere as code

-- where there is none of a key, nothing changes
pub unchanged : (f : ControlState → ControlState) (k : Key) (cs : Controls) → state_under k cs ≡ None → control_changed f k cs ≡ cs
unchanged f k [] none = refl
unchanged f k (e ∷ es) none = by_test (is_key k e.0) refl (unchanged f k es)
  where
    by_test : (b : Bool) → is_key k e.0 ≡ b → (state_under k es ≡ None → control_changed f k es ≡ es) → cond b ((e.0, f e.1) ∷ es) (e ∷ control_changed f k es) ≡ e ∷ es
    by_test true is more = let two : Some e.1 ≡ None = sym (ap (λ (b : Bool). cond b (Some e.1) (state_under k es)) is) ∙ none in absurd (cc)
    by_test false is more = ap (λ (xs : Controls). e ∷ xs) (more (sym (ap (λ (b : Bool). cond b (Some e.1) (state_under k es)) is) ∙ none))

-- where there is one, the changed one is put in its place
pub changed_set : (f : ControlState → ControlState) (k : Key) (cs : Controls) (old new : ControlState) → state_under k cs ≡ Some old → new ≡ f old → set_value (is_key k) cs new ≡ control_changed f k cs
changed_set f k [] old new at made = refl
changed_set f k (e ∷ es) old new at made = by_test (is_key k e.0) at (changed_set f k es old new)
  where
    by_test : (b : Bool) → cond b (Some e.1) (state_under k es) ≡ Some old → (state_under k es ≡ Some old → new ≡ f old → set_value (is_key k) es new ≡ control_changed f k es)
        → cond b ((e.0, new) ∷ es) (e ∷ set_value (is_key k) es new) ≡ cond b ((e.0, f e.1) ∷ es) (e ∷ control_changed f k es)
    by_test true here more = let one : e.1 ≡ old = cc in ap (λ (c : ControlState). (e.0, c) ∷ es) (made ∙ ap f (sym one))
    by_test false here more = ap (λ (xs : Controls). e ∷ xs) (more here made)

-- those that begin
abbrev pub begun_of : List code.ControlHere → Controls → Controls
begun_of [] cs = cs
begun_of (c ∷ rest) cs = begun_of rest (insert_entry key_cmp cs c.key (fresh c.kind))

pub begun_values : (es : List (ℕ × code.ControlHere)) (cs : Controls) → begun_of (map (λ e. e.1) es) cs ≡ controls_begun (controlled_of es) cs
begun_values [] cs = refl
begun_values (e ∷ es) cs = begun_values es (insert_entry key_cmp cs e.1.key (fresh e.1.kind))
