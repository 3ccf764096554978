-- How a binding is written (guide: Directives, "Isolating the Scope of a Directive").
use Rattle.std.specs.Prelude.{◌≡◌, ◌≢◌, ℕ, Bool, true, false, List, [], ◌∷◌, ◌++◌, Option, Some, None, IsTrue}
use Rattle.std.specs.List.{list_all}
use Rattle.ng_base.specs.Codes.{ampersand, equals_sign, less_than_sign, question_mark}
use Rattle.ng_language.specs.Letters.{is_space, is_in_name}
use Rattle.ng_bind.specs.declared.spec.BindMode.{BindMode}
use Rattle.ng_bind.specs.declared.spec.BindMode.TheVariants.{AtText, TwoWay, OneWay, Call}
use Rattle.ng_bind.specs.declared.spec.Spec.{Spec}

abbrev pub at_sign : ℕ
at_sign = 64

-- the mark of a mode
abbrev pub mark_of : BindMode → ℕ
mark_of AtText = at_sign
mark_of TwoWay = equals_sign
mark_of OneWay = less_than_sign
mark_of Call = ampersand

-- the mark of a binding whose attribute may be missing
abbrev pub optional_mark : Bool → List ℕ
optional_mark true = question_mark ∷ []
optional_mark false = []

-- white space, or nothing
abbrev pub IsBlank : List ℕ → Type 0
IsBlank cs = IsTrue (list_all is_space cs)

-- an attribute's name of ASCII letters, digits, `_` and `$`, or nothing where it has none of its own
abbrev pub IsAlias : Option (List ℕ) → List ℕ → Type 0
IsAlias None cs = cs ≡ []
IsAlias (Some name) cs = (cs ≡ name) × (name ≢ []) × IsTrue (list_all is_in_name name)

-- a mode, `?` or nothing, and a name or nothing, with white space before, between and after
pub record IsWritten (text : List ℕ) (s : Spec) : Type 0 where
  pub before : List ℕ
  pub after_mode : List ℕ
  pub after_mark : List ℕ
  pub name : List ℕ
  pub after : List ℕ
  pub whole : text ≡ before ++ mark_of s.mode ∷ (after_mode ++ (optional_mark s.optional ++ (after_mark ++ (name ++ after))))
  pub alias : IsAlias s.attr name
  pub blank_before : IsBlank before
  pub blank_after_mode : IsBlank after_mode
  pub blank_after_mark : IsBlank after_mark
  pub blank_after : IsBlank after
