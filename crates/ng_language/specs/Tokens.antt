-- Tokens, and what a row of tokens begins with.
use Rattle.std.specs.Prelude.{ℕ, nat_eq, Bool, List, ◌∷◌, Option, Some, None, if◌then◌else◌}
use Rattle.ng_language.specs.declared.syntax.Sign.{Sign}
use Rattle.ng_language.specs.declared.syntax.Sign.TheVariants as sign
use Rattle.ng_language.specs.declared.syntax.Token.{Token}
use Rattle.ng_language.specs.declared.syntax.Token.TheVariants as token
use Rattle.ng_language.specs.declared.syntax.Label.{Label}
use Rattle.ng_language.specs.declared.syntax.Label.TheVariants as labels
use Rattle.ng_language.specs.declared.syntax.Unary.{Unary}
use Rattle.ng_language.specs.declared.syntax.Unary.TheVariants as unaries
use Rattle.ng_language.specs.declared.syntax.Binary.TheVariants as binaries
use Rattle.ng_language.specs.declared.syntax.Level.{Level}
use Rattle.ng_language.specs.declared.syntax.Level.TheVariants as levels
use Rattle.ng_language.specs.declared.syntax.Joint.{Joint}
use Rattle.ng_language.specs.declared.syntax.Joint.TheVariants as joints

-- the signs in a row, by which two of them are compared
abbrev pub sign_number : Sign → ℕ
sign_number sign.Plus = 0
sign_number sign.Minus = 1
sign_number sign.Star = 2
sign_number sign.Slash = 3
sign_number sign.Percent = 4
sign_number sign.Assign = 5
sign_number sign.Equal = 6
sign_number sign.NotEqual = 7
sign_number sign.Same = 8
sign_number sign.NotSame = 9
sign_number sign.Less = 10
sign_number sign.Greater = 11
sign_number sign.AtMost = 12
sign_number sign.AtLeast = 13
sign_number sign.And = 14
sign_number sign.Or = 15
sign_number sign.Not = 16
sign_number sign.Bar = 17
sign_number sign.Question = 18
sign_number sign.Colon = 19
sign_number sign.Semicolon = 20
sign_number sign.Comma = 21
sign_number sign.Dot = 22
sign_number sign.OpenRound = 23
sign_number sign.CloseRound = 24
sign_number sign.OpenSquare = 25
sign_number sign.CloseSquare = 26
sign_number sign.OpenCurly = 27
sign_number sign.CloseCurly = 28

abbrev pub same_sign : Sign → Sign → Bool
same_sign s t = nat_eq (sign_number s) (sign_number t)

-- the tokens behind this sign, where they begin with it
unfoldable pub after : Sign → List Token → Option (List Token)
after s (token.Sign t ∷ ts) = if same_sign s t then Some ts else None
after s _ = None

-- a name, and the tokens behind it
unfoldable pub name_at : List Token → Option (List ℕ × List Token)
name_at (token.Name n ∷ ts) = Some (n, ts)
name_at _ = None

-- the written name of a pair, and the tokens behind it
unfoldable pub label_at : List Token → Option (Label × List Token)
label_at (token.Name n ∷ ts) = Some (labels.Name n, ts)
label_at (token.Text t ∷ ts) = Some (labels.Text t, ts)
label_at (token.Number n ∷ ts) = Some (labels.Number n, ts)
label_at _ = None

abbrev pub unary_of : Sign → Option Unary
unary_of sign.Plus = Some unaries.Plus
unary_of sign.Minus = Some unaries.Minus
unary_of sign.Not = Some unaries.Not
unary_of _ = None

-- what the sign is at this level, where it is an operator of it
abbrev pub joint_of : Level → Sign → Option Joint
joint_of levels.Or sign.Or = Some joints.Or
joint_of levels.And sign.And = Some joints.And
joint_of levels.Equality sign.Equal = Some (joints.Operator binaries.Equal)
joint_of levels.Equality sign.NotEqual = Some (joints.Operator binaries.NotEqual)
joint_of levels.Equality sign.Same = Some (joints.Operator binaries.Same)
joint_of levels.Equality sign.NotSame = Some (joints.Operator binaries.NotSame)
joint_of levels.Relation sign.Less = Some (joints.Operator binaries.Less)
joint_of levels.Relation sign.Greater = Some (joints.Operator binaries.Greater)
joint_of levels.Relation sign.AtMost = Some (joints.Operator binaries.AtMost)
joint_of levels.Relation sign.AtLeast = Some (joints.Operator binaries.AtLeast)
joint_of levels.Sum sign.Plus = Some (joints.Operator binaries.Add)
joint_of levels.Sum sign.Minus = Some (joints.Operator binaries.Subtract)
joint_of levels.Term sign.Star = Some (joints.Operator binaries.Multiply)
joint_of levels.Term sign.Slash = Some (joints.Operator binaries.Divide)
joint_of levels.Term sign.Percent = Some (joints.Operator binaries.Remainder)
joint_of _ _ = None

abbrev pub and_then : {A : Type 0} → Option A → List Token → Option (A × List Token)
and_then (Some a) ts = Some (a, ts)
and_then None ts = None

unfoldable pub unary_at : List Token → Option (Unary × List Token)
unary_at (token.Sign s ∷ ts) = and_then (unary_of s) ts
unary_at _ = None

unfoldable pub joint_at : Level → List Token → Option (Joint × List Token)
joint_at l (token.Sign s ∷ ts) = and_then (joint_of l s) ts
joint_at l _ = None

-- how tightly a level binds
abbrev pub tightness : Level → ℕ
tightness levels.Or = 4
tightness levels.And = 5
tightness levels.Equality = 6
tightness levels.Relation = 7
tightness levels.Sum = 8
tightness levels.Term = 9
