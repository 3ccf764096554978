-- What a row of tokens begins with, and what it can't go on with.
use Rattle.std.proofs.Common.{◌≡◌, ◌<◌, ℕ, Bool, true, false, List, [], ◌∷◌, refl, ap, ◌∙◌, sym, arith, inl, inr}
use Rattle.std.proofs.lemmas.Bool.Decides.{nat_tests}
use Rattle.std.specs.Prelude.{Option, Some, None, slice_index_or, if◌then◌else◌}
use Rattle.ng_base.proofs.Binds.{chosen, if_true, if_false}
use Rattle.ng_language.specs.Tokens.{sign_number, same_sign, after, name_at, label_at, unary_of, unary_at, joint_of, joint_at, and_then, tightness}
use Rattle.ng_language.specs.Grammar.{sign_of_unary, label_token}
use Rattle.ng_language.specs.declared.syntax.Sign.{Sign}
use Rattle.ng_language.specs.declared.syntax.Sign.TheVariants as sign
use Rattle.ng_language.specs.declared.syntax.Token.{Token}
use Rattle.ng_language.specs.declared.syntax.Token.TheVariants as token
use Rattle.ng_language.specs.declared.syntax.Label.{Label}
use Rattle.ng_language.specs.declared.syntax.Label.TheVariants as labels
use Rattle.ng_language.specs.declared.syntax.Unary.{Unary}
use Rattle.ng_language.specs.declared.syntax.Unary.TheVariants as unaries
use Rattle.ng_language.specs.declared.syntax.Level.{Level}
use Rattle.ng_language.specs.declared.syntax.Level.TheVariants as levels
use Rattle.ng_language.specs.declared.syntax.Joint.{Joint}

abbrev all_signs : List Sign
all_signs = sign.Plus ∷ sign.Minus ∷ sign.Star ∷ sign.Slash ∷ sign.Percent ∷ sign.Assign ∷ sign.Equal ∷ sign.NotEqual ∷ sign.Same ∷ sign.NotSame ∷ sign.Less ∷ sign.Greater ∷ sign.AtMost ∷ sign.AtLeast ∷ sign.And ∷ sign.Or ∷ sign.Not ∷ sign.Bar ∷ sign.Question ∷ sign.Colon ∷ sign.Semicolon ∷ sign.Comma ∷ sign.Dot ∷ sign.OpenRound ∷ sign.CloseRound ∷ sign.OpenSquare ∷ sign.CloseSquare ∷ sign.OpenCurly ∷ sign.CloseCurly ∷ []

numbered : (s : Sign) → slice_index_or all_signs (sign_number s) sign.Plus ≡ s
numbered sign.Plus = refl
numbered sign.Minus = refl
numbered sign.Star = refl
numbered sign.Slash = refl
numbered sign.Percent = refl
numbered sign.Assign = refl
numbered sign.Equal = refl
numbered sign.NotEqual = refl
numbered sign.Same = refl
numbered sign.NotSame = refl
numbered sign.Less = refl
numbered sign.Greater = refl
numbered sign.AtMost = refl
numbered sign.AtLeast = refl
numbered sign.And = refl
numbered sign.Or = refl
numbered sign.Not = refl
numbered sign.Bar = refl
numbered sign.Question = refl
numbered sign.Colon = refl
numbered sign.Semicolon = refl
numbered sign.Comma = refl
numbered sign.Dot = refl
numbered sign.OpenRound = refl
numbered sign.CloseRound = refl
numbered sign.OpenSquare = refl
numbered sign.CloseSquare = refl
numbered sign.OpenCurly = refl
numbered sign.CloseCurly = refl

pub same_is : (s t : Sign) → same_sign s t ≡ true → s ≡ t
same_is s t h =
    let e : sign_number s ≡ sign_number t = grind (arith, nat_tests) in
    sym (numbered s) ∙ (ap (λ n. slice_index_or all_signs n sign.Plus) e ∙ numbered t)

same_self : (s : Sign) → same_sign s s ≡ true
same_self s = grind (arith, nat_tests)

pub after_some : (s : Sign) (ts us : List Token) → after s ts ≡ Some us → ts ≡ token.Sign s ∷ us
unfolding after
after_some s [] us h = absurd (cc)
after_some s (token.Name n ∷ ts) us h = absurd (cc)
after_some s (token.Number n ∷ ts) us h = absurd (cc)
after_some s (token.Text n ∷ ts) us h = absurd (cc)
after_some s (token.Sign t ∷ ts) us h =
    elim (chosen (same_sign s t) (Some ts) None (Some us) h) [
      | inl g ↦ let e : s ≡ t = same_is s t g.0 in let f : ts ≡ us = cc in cc
      | inr g ↦ absurd (cc)
    ]

pub after_here : (s : Sign) (us : List Token) → after s (token.Sign s ∷ us) ≡ Some us
unfolding after
after_here s us = if_true (same_sign s s) (Some us) None (same_self s)

pub after_other : (s t : Sign) (us : List Token) → same_sign s t ≡ false → after s (token.Sign t ∷ us) ≡ None
unfolding after
after_other s t us h = if_false (same_sign s t) (Some us) None h

pub after_nothing : (s : Sign) → after s [] ≡ None
unfolding after
after_nothing s = refl

pub name_some : (ts us : List Token) (n : List ℕ) → name_at ts ≡ Some (n, us) → ts ≡ token.Name n ∷ us
unfolding name_at
name_some [] us n h = absurd (cc)
name_some (token.Name m ∷ ts) us n h = ap (λ p. name_tokens p) h
  where
    name_tokens : Option (List ℕ × List Token) → List Token
    name_tokens (Some p) = token.Name p.0 ∷ p.1
    name_tokens None = []
name_some (token.Number m ∷ ts) us n h = absurd (cc)
name_some (token.Text m ∷ ts) us n h = absurd (cc)
name_some (token.Sign m ∷ ts) us n h = absurd (cc)

pub name_here : (n : List ℕ) (us : List Token) → name_at (token.Name n ∷ us) ≡ Some (n, us)
unfolding name_at
name_here n us = refl

pub label_here : (l : Label) (us : List Token) → label_at (label_token l ∷ us) ≡ Some (l, us)
unfolding label_at
label_here (labels.Name n) us = refl
label_here (labels.Text n) us = refl
label_here (labels.Number n) us = refl

abbrev label_tokens : Option (Label × List Token) → List Token
label_tokens (Some p) = label_token p.0 ∷ p.1
label_tokens None = []

pub label_some : (ts us : List Token) (l : Label) → label_at ts ≡ Some (l, us) → ts ≡ label_token l ∷ us
unfolding label_at
label_some [] us l h = absurd (cc)
label_some (token.Name m ∷ ts) us l h = ap label_tokens h
label_some (token.Number m ∷ ts) us l h = ap label_tokens h
label_some (token.Text m ∷ ts) us l h = ap label_tokens h
label_some (token.Sign m ∷ ts) us l h = absurd (cc)

pub unary_here : (o : Unary) (us : List Token) → unary_at (token.Sign (sign_of_unary o) ∷ us) ≡ Some (o, us)
unfolding unary_at
unary_here unaries.Plus us = refl
unary_here unaries.Minus us = refl
unary_here unaries.Not us = refl

unary_is : (s : Sign) (o : Unary) → unary_of s ≡ Some o → s ≡ sign_of_unary o
unary_is sign.Plus o h = let e : unaries.Plus ≡ o = cc in ap sign_of_unary e
unary_is sign.Minus o h = let e : unaries.Minus ≡ o = cc in ap sign_of_unary e
unary_is sign.Not o h = let e : unaries.Not ≡ o = cc in ap sign_of_unary e
unary_is s o h = absurd (cc)

and_then_some : {A : Type 0} (o : Option A) (ts us : List Token) (a : A) → and_then o ts ≡ Some (a, us) → (o ≡ Some a) × (ts ≡ us)
and_then_some {A} (Some b) ts us a h = (ap (λ p. first_of p) h, ap (λ p. second_of p) h)
  where
    first_of : Option (A × List Token) → Option A
    first_of (Some p) = Some p.0
    first_of None = None

    second_of : Option (A × List Token) → List Token
    second_of (Some p) = p.1
    second_of None = []
and_then_some None ts us a h = absurd (cc)

pub unary_some : (ts us : List Token) (o : Unary) → unary_at ts ≡ Some (o, us) → ts ≡ token.Sign (sign_of_unary o) ∷ us
unfolding unary_at
unary_some [] us o h = absurd (cc)
unary_some (token.Name m ∷ ts) us o h = absurd (cc)
unary_some (token.Number m ∷ ts) us o h = absurd (cc)
unary_some (token.Text m ∷ ts) us o h = absurd (cc)
unary_some (token.Sign s ∷ ts) us o h =
    let b = and_then_some (unary_of s) ts us o h in
    ap (λ x. token.Sign x ∷ ts) (unary_is s o b.0) ∙ ap (λ xs. token.Sign (sign_of_unary o) ∷ xs) b.1

pub joint_some : (l : Level) (ts us : List Token) (j : Joint) → joint_at l ts ≡ Some (j, us) → (s : Sign) × (ts ≡ token.Sign s ∷ us) × (joint_of l s ≡ Some j)
unfolding joint_at
joint_some l [] us j h = absurd (cc)
joint_some l (token.Name m ∷ ts) us j h = absurd (cc)
joint_some l (token.Number m ∷ ts) us j h = absurd (cc)
joint_some l (token.Text m ∷ ts) us j h = absurd (cc)
joint_some l (token.Sign s ∷ ts) us j h = let b = and_then_some (joint_of l s) ts us j h in (s, ap (λ xs. token.Sign s ∷ xs) b.1, b.0)

pub joint_here : (l : Level) (s : Sign) (j : Joint) (us : List Token) → joint_of l s ≡ Some j → joint_at l (token.Sign s ∷ us) ≡ Some (j, us)
unfolding joint_at
joint_here l s j us h = ap (λ o. and_then o us) h

-- how loosely a sign goes on with what stands before it; 0 where it doesn't
abbrev pub strength : Sign → ℕ
strength sign.Plus = 8
strength sign.Minus = 8
strength sign.Star = 9
strength sign.Slash = 9
strength sign.Percent = 9
strength sign.Assign = 2
strength sign.Equal = 6
strength sign.NotEqual = 6
strength sign.Same = 6
strength sign.NotSame = 6
strength sign.Less = 7
strength sign.Greater = 7
strength sign.AtMost = 7
strength sign.AtLeast = 7
strength sign.And = 5
strength sign.Or = 4
strength sign.Bar = 1
strength sign.Question = 3
strength sign.Colon = 1
strength sign.Dot = 11
strength sign.OpenRound = 11
strength sign.OpenSquare = 11
strength _ = 0

abbrev pub front : List Token → ℕ
front (token.Sign s ∷ ts) = strength s
front _ = 0

pub not_after : (s : Sign) (rest : List Token) → front rest < strength s → after s rest ≡ None
unfolding after
not_after s [] h = refl
not_after s (token.Name n ∷ ts) h = refl
not_after s (token.Number n ∷ ts) h = refl
not_after s (token.Text n ∷ ts) h = refl
not_after s (token.Sign t ∷ ts) h = not_same (same_sign s t) refl
  where
    not_same : (b : Bool) → same_sign s t ≡ b → (if b then Some ts else None) ≡ None
    not_same true e = absurd (omega (arith, ap strength (same_is s t e)))
    not_same false e = refl

pub joint_strength : (l : Level) (s : Sign) (j : Joint) → joint_of l s ≡ Some j → strength s ≡ tightness l
joint_strength levels.Or sign.Or j h = refl
joint_strength levels.And sign.And j h = refl
joint_strength levels.Equality sign.Equal j h = refl
joint_strength levels.Equality sign.NotEqual j h = refl
joint_strength levels.Equality sign.Same j h = refl
joint_strength levels.Equality sign.NotSame j h = refl
joint_strength levels.Relation sign.Less j h = refl
joint_strength levels.Relation sign.Greater j h = refl
joint_strength levels.Relation sign.AtMost j h = refl
joint_strength levels.Relation sign.AtLeast j h = refl
joint_strength levels.Sum sign.Plus j h = refl
joint_strength levels.Sum sign.Minus j h = refl
joint_strength levels.Term sign.Star j h = refl
joint_strength levels.Term sign.Slash j h = refl
joint_strength levels.Term sign.Percent j h = refl
joint_strength l s j h = absurd (cc)

no_joint : (l : Level) (s : Sign) (ts : List Token) (o : Option Joint) → joint_of l s ≡ o → strength s < tightness l → and_then o ts ≡ None
no_joint l s ts (Some j) h less = absurd (omega (arith, joint_strength l s j h))
no_joint l s ts None h less = refl

pub not_joint : (l : Level) (rest : List Token) → front rest < tightness l → joint_at l rest ≡ None
unfolding joint_at
not_joint l [] h = refl
not_joint l (token.Name n ∷ ts) h = refl
not_joint l (token.Number n ∷ ts) h = refl
not_joint l (token.Text n ∷ ts) h = refl
not_joint l (token.Sign s ∷ ts) h = no_joint l s ts (joint_of l s) refl h

pub after_name : (s : Sign) (n : List ℕ) (ts : List Token) → after s (token.Name n ∷ ts) ≡ None
unfolding after
after_name s n ts = refl

pub after_number : (s : Sign) (n : ℕ) (ts : List Token) → after s (token.Number n ∷ ts) ≡ None
unfolding after
after_number s n ts = refl

pub after_text : (s : Sign) (n : List ℕ) (ts : List Token) → after s (token.Text n ∷ ts) ≡ None
unfolding after
after_text s n ts = refl

pub after_label : (s : Sign) (l : Label) (ts : List Token) → after s (label_token l ∷ ts) ≡ None
unfolding after
after_label s (labels.Name n) ts = refl
after_label s (labels.Text n) ts = refl
after_label s (labels.Number n) ts = refl

-- a tree may begin with this token
abbrev pub begins : Token → Bool
begins (token.Sign sign.Plus) = true
begins (token.Sign sign.Minus) = true
begins (token.Sign sign.Not) = true
begins (token.Sign sign.OpenRound) = true
begins (token.Sign sign.OpenSquare) = true
begins (token.Sign sign.OpenCurly) = true
begins (token.Sign s) = false
begins _ = true

-- a primary may begin with it
abbrev pub begins_primary : Token → Bool
begins_primary (token.Sign sign.OpenRound) = true
begins_primary (token.Sign sign.OpenSquare) = true
begins_primary (token.Sign sign.OpenCurly) = true
begins_primary (token.Sign s) = false
begins_primary _ = true

abbrev first_in : List Token → Token → Token
first_in (t ∷ ts) d = t
first_in [] d = d

never : (s : Sign) (t : Token) (ws : List Token) (o : Option (List Token)) → begins (token.Sign s) ≡ false → begins t ≡ true → after s (t ∷ ws) ≡ o → o ≡ None
never s t ws (Some us) h i e = let same : t ≡ token.Sign s = ap (λ ts. first_in ts t) (after_some s (t ∷ ws) us e) in let b : begins t ≡ false = ap begins same ∙ h in absurd (cc)
never s t ws None h i e = refl

pub begins_not : (s : Sign) (t : Token) (ws : List Token) → begins (token.Sign s) ≡ false → begins t ≡ true → after s (t ∷ ws) ≡ None
begins_not s t ws h i = never s t ws (after s (t ∷ ws)) h i refl

no_sign : (o : Unary) → begins_primary (token.Sign (sign_of_unary o)) ≡ false
no_sign unaries.Plus = refl
no_sign unaries.Minus = refl
no_sign unaries.Not = refl

never_unary : (t : Token) (ws : List Token) (o : Option (Unary × List Token)) → begins_primary t ≡ true → unary_at (t ∷ ws) ≡ o → o ≡ None
never_unary t ws (Some p) i e =
    let same : t ≡ token.Sign (sign_of_unary p.0) = ap (λ ts. first_in ts t) (unary_some (t ∷ ws) p.1 p.0 e) in
    let b : begins_primary t ≡ false = ap begins_primary same ∙ no_sign p.0 in
    absurd (cc)
never_unary t ws None i e = refl

pub not_unary : (t : Token) (ws : List Token) → begins_primary t ≡ true → unary_at (t ∷ ws) ≡ None
not_unary t ws i = never_unary t ws (unary_at (t ∷ ws)) i refl
