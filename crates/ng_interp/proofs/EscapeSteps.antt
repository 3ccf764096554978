-- Reading escapes, a character and a run of characters after another.
use Rattle.std.proofs.Common.{◌≡◌, ℕ, Bool, true, false, refl, ap, sym, ◌∙◌, List, [], ◌∷◌, ◌++◌, Option, Some, None, arith}
use Rattle.std.specs.Prelude.{if◌then◌else◌}
use Rattle.std.specs.List.{list_all}
use Rattle.std.proofs.lemmas.List.{append_assoc}
use Rattle.ng_base.specs.Runs.{is_plain}
use Rattle.ng_base.proofs.PlainChars.{both_parts}
use Rattle.ng_interp.specs.Escapes.{is_escape, escape_at, unescaped}

plain_step : (v : Bool) (a b : ℕ) (cs rest : List ℕ) → if◌then◌else◌ {A = Option (ℕ × List ℕ)} v (Some (b, cs)) None ≡ None → (if v then b ∷ b ∷ unescaped cs else a ∷ unescaped rest) ≡ a ∷ unescaped rest
plain_step true a b cs rest h = absurd (cc)
plain_step false a b cs rest h = refl

one_plain : (c : ℕ) (cs : List ℕ) → escape_at (c ∷ cs) ≡ None → unescaped (c ∷ cs) ≡ c ∷ unescaped cs
one_plain c [] h = refl
one_plain c (b ∷ []) h = refl
one_plain c (b ∷ d ∷ []) h = refl
one_plain c (b ∷ d ∷ e ∷ cs) h = plain_step (is_escape c b d e) c b cs (b ∷ d ∷ e ∷ cs) h

no_escape : (a b c d : ℕ) → is_plain a ≡ true → is_escape a b c d ≡ false
no_escape a b c d p = grind arith

none_at : (c : ℕ) (cs : List ℕ) → is_plain c ≡ true → escape_at (c ∷ cs) ≡ None
none_at c [] p = refl
none_at c (b ∷ []) p = refl
none_at c (b ∷ d ∷ []) p = refl
none_at c (b ∷ d ∷ e ∷ cs) p = ap (λ (v : Bool). if◌then◌else◌ {A = Option (ℕ × List ℕ)} v (Some (b, cs)) None) (no_escape c b d e p)

run_plain : (us cs : List ℕ) → list_all is_plain us ≡ true → unescaped (us ++ cs) ≡ us ++ unescaped cs
run_plain [] cs p = refl
run_plain (u ∷ us) cs p =
    let both = both_parts (is_plain u) (list_all is_plain us) p in
    one_plain u (us ++ cs) (none_at u (us ++ cs) both.0) ∙ ap (λ x. u ∷ x) (run_plain us cs both.1)

-- a character that begins no escape, and the run after it
pub run_on : (p q r cs rest us others whole : List ℕ) (c : ℕ) → cs ≡ c ∷ rest → escape_at cs ≡ None → rest ≡ us ++ others → list_all is_plain us ≡ true → q ≡ p ++ c ∷ [] → r ≡ q ++ us → p ++ unescaped cs ≡ whole → r ++ unescaped others ≡ whole
run_on p q r cs rest us others whole c first none run plain one more before =
    let read : unescaped cs ≡ c ∷ (us ++ unescaped others) =
    ap unescaped first ∙ one_plain c rest (ap escape_at (sym first) ∙ none) ∙ ap (λ x. c ∷ unescaped x) run ∙ ap (λ x. c ∷ x) (run_plain us others plain) in
    ap (λ x. x ++ unescaped others) more
    ∙ append_assoc q us (unescaped others)
    ∙ ap (λ x. x ++ (us ++ unescaped others)) one
    ∙ append_assoc p (c ∷ []) (us ++ unescaped others)
    ∙ ap (λ x. p ++ x) (sym read)
    ∙ before
