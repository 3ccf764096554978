-- What is read as tokens spells them: signs, and the whole of a text.
use Rattle.std.proofs.Common.{◌≡◌, ◌<◌, ◌-◌, ℕ, zero, suc, Bool, true, false, ◌&&◌, nat_eq, List, [], ◌∷◌, ◌++◌, length, refl, ap, ◌∙◌, sym, subst, arith, inl, inr, length-append, append_assoc, append-nil}
use Rattle.std.specs.Prelude.{Option, Some, None, Result, Ok, Err, if◌then◌else◌, ◌⊎◌}
use Rattle.std.specs.List.{list_all}
use Rattle.ng_base.specs.Cells.{place}
use Rattle.ng_base.specs.Meets.{◌>>=◌}
use Rattle.ng_base.proofs.Binds.{bind_ok, chosen}
use Rattle.ng_language.specs.Choice.{when_some}
use Rattle.std.specs.Char.{is_ascii_digit}
use Rattle.ng_language.specs.Letters.{is_space, begins_name, is_quote}
use Rattle.ng_language.specs.Lexing.{refusal, name_run, digit_run, number, text_at, next_is, longer, equal_signs, not_signs, single_sign, sign_at, digit_next, signed_token, named, token_at, lexes, lexed}
use Rattle.ng_language.specs.Spelling.{spelled, lengthens, Stops, Written}
use Rattle.ng_language.specs.declared.syntax.Sign.{Sign}
use Rattle.ng_language.specs.declared.syntax.Sign.TheVariants as sign
use Rattle.ng_language.specs.declared.syntax.Token.{Token}
use Rattle.ng_language.specs.declared.syntax.Token.TheVariants as token
use Rattle.ng_language.specs.declared.syntax.LexFault.{LexFault}
use Rattle.ng_language.specs.declared.syntax.LexKind.TheVariants as kinds
use Rattle.ng_language.proofs.Sound.{some_or}
use Rattle.ng_language.proofs.LexSound.{code_is, both, Lexed, token_same, rest_same, name_lexed, number_lexed, text_lexed}

-- signs
none_stops : (rest : List ℕ) → Stops (λ c. false) rest
none_stops [] = tt
none_stops (c ∷ cs) = refl

sign_is : (s : Sign) (c : ℕ) (w cs rest : List ℕ) → c ∷ w ≡ spelled s → cs ≡ w ++ rest → Stops (lengthens s) rest → Lexed (token.Sign s) (c ∷ cs) rest
sign_is s c w cs rest h e f = record { c = c; w = w; whole = ap (λ xs. c ∷ xs) e; lexeme = h; follows = f }

next_some : (c : ℕ) (cs rest : List ℕ) → next_is c cs ≡ Some rest → cs ≡ c ∷ rest
next_some c [] rest h = absurd (cc)
next_some c (d ∷ cs) rest h =
    elim (chosen (nat_eq d c) (Some cs) None (Some rest) h) [
      | inl g ↦ let e : cs ≡ rest = cc in ap (λ x. x ∷ cs) (code_is d c g.0) ∙ ap (λ xs. c ∷ xs) e
      | inr g ↦ absurd (cc)
    ]

next_stops : (c : ℕ) (cs : List ℕ) → next_is c cs ≡ None → Stops (λ d. nat_eq d c) cs
next_stops c [] h = tt
next_stops c (d ∷ cs) h =
    elim (chosen (nat_eq d c) (Some cs) None None h) [
      | inl g ↦ absurd (cc)
      | inr g ↦ g.0
    ]

abbrev pair_of : Sign → List ℕ → Sign × List ℕ
pair_of s cs = (s, cs)

-- the longer sign, or the shorter one where the character doesn't follow
longer_is : (c : ℕ) (s t g : Sign) (cs rest : List ℕ) → longer c s t cs ≡ (g, rest) → ((s ≡ g) × (cs ≡ c ∷ rest)) ⊎ ((t ≡ g) × (cs ≡ rest) × Stops (λ d. nat_eq d c) rest)
longer_is c s t g cs rest h =
    elim (some_or (next_is c cs) (λ ds. pair_of s ds) (pair_of t cs) (g, rest) h) [
      | inl p ↦ inl (ap (λ x. x.0) p.2, next_some c cs p.0 p.1 ∙ ap (λ xs. c ∷ xs) (ap (λ x. x.1) p.2))
      | inr p ↦ let e : cs ≡ rest = ap (λ x. x.1) p.1 in inr (ap (λ x. x.0) p.1, e, subst (Stops (λ d. nat_eq d c)) e (next_stops c cs p.0))
    ]

two_signs : (c d : ℕ) (s t g : Sign) (cs rest : List ℕ) → c ∷ d ∷ [] ≡ spelled s → Stops (lengthens s) rest → c ∷ [] ≡ spelled t → (Stops (λ x. nat_eq x d) rest → Stops (lengthens t) rest) → longer d s t cs ≡ (g, rest) → Lexed (token.Sign g) (c ∷ cs) rest
two_signs c d s t g cs rest hs fs ht ft h =
    elim (longer_is d s t g cs rest h) [
      | inl p ↦ subst (λ (x : Sign). Lexed (token.Sign x) (c ∷ cs) rest) p.0 (sign_is s c (d ∷ []) cs rest hs p.1 fs)
      | inr p ↦ subst (λ (x : Sign). Lexed (token.Sign x) (c ∷ cs) rest) p.0 (sign_is t c [] cs rest ht p.1 (ft p.2))
    ]

-- a `=` behind a `=` or a `!`
three_signs : (c : ℕ) (s t u g : Sign) (cs rest : List ℕ) → c ∷ 61 ∷ 61 ∷ [] ≡ spelled s → Stops (lengthens s) rest → c ∷ 61 ∷ [] ≡ spelled t → (Stops (λ x. nat_eq x 61) rest → Stops (lengthens t) rest) → c ∷ [] ≡ spelled u → (Stops (λ x. nat_eq x 61) rest → Stops (lengthens u) rest) →
    when_some (next_is 61 cs) (λ ds. longer 61 s t ds) (pair_of u cs) ≡ (g, rest) → Lexed (token.Sign g) (c ∷ cs) rest
three_signs c s t u g cs rest hs fs ht ft hu fu h =
    elim (some_or (next_is 61 cs) (λ ds. longer 61 s t ds) (pair_of u cs) (g, rest) h) [
      | inl p ↦
          let e = next_some 61 cs p.0 p.1 in
          elim (longer_is 61 s t g p.0 rest p.2) [
            | inl q ↦ subst (λ (x : Sign). Lexed (token.Sign x) (c ∷ cs) rest) q.0 (sign_is s c (61 ∷ 61 ∷ []) cs rest hs (e ∙ ap (λ xs. 61 ∷ xs) q.1) fs)
            | inr q ↦ subst (λ (x : Sign). Lexed (token.Sign x) (c ∷ cs) rest) q.0 (sign_is t c (61 ∷ []) cs rest ht (e ∙ ap (λ xs. 61 ∷ xs) q.1) (ft q.2))
          ]
      | inr p ↦
          let e : cs ≡ rest = ap (λ x. x.1) p.1 in
          subst (λ (x : Sign). Lexed (token.Sign x) (c ∷ cs) rest) (ap (λ x. x.0) p.1) (sign_is u c [] cs rest hu e (fu (subst (Stops (λ d. nat_eq d 61)) e (next_stops 61 cs p.0))))
    ]

abbrev some_sign : Sign → Option Sign
some_sign s = Some s

one_sign : (s g : Sign) (c : ℕ) (cs rest : List ℕ) → c ∷ [] ≡ spelled s → cs ≡ rest → Stops (lengthens s) rest → some_sign s ≡ some_sign g → Lexed (token.Sign g) (c ∷ cs) rest
one_sign s g c cs rest h e f same = let is : s ≡ g = cc in subst (λ (x : Sign). Lexed (token.Sign x) (c ∷ cs) rest) is (sign_is s c [] cs rest h e f)

no_digit : (cs : List ℕ) → digit_next cs ≡ false → Stops is_ascii_digit cs
no_digit [] h = tt
no_digit (c ∷ cs) h = h

not_digit : (b : Bool) → (true && b) ≡ false → b ≡ false
not_digit b h = h

single_lexed : (c : ℕ) (cs rest : List ℕ) (g : Sign) → (nat_eq c 46 && digit_next cs) ≡ false → single_sign c ≡ Some g → cs ≡ rest → Lexed (token.Sign g) (c ∷ cs) rest
single_lexed c cs rest g d h e =
    elim (chosen (nat_eq c 43) (some_sign sign.Plus) (if nat_eq c 45 then Some sign.Minus else (if nat_eq c 42 then Some sign.Star else (if nat_eq c 47 then Some sign.Slash else (if nat_eq c 37 then Some sign.Percent else (if nat_eq c 63 then Some sign.Question else (if nat_eq c 58 then Some sign.Colon else (if nat_eq c 59 then Some sign.Semicolon else (if nat_eq c 44 then Some sign.Comma else (if nat_eq c 46 then Some sign.Dot else (if nat_eq c 40 then Some sign.OpenRound else (if nat_eq c 41 then Some sign.CloseRound else (if nat_eq c 91 then Some sign.OpenSquare else (if nat_eq c 93 then Some sign.CloseSquare else (if nat_eq c 123 then Some sign.OpenCurly else (if nat_eq c 125 then Some sign.CloseCurly else None))))))))))))))) (Some g) h) [
      | inl g0 ↦ one_sign sign.Plus g c cs rest (ap (λ x. x ∷ []) (code_is c 43 g0.0)) e (none_stops rest) g0.1
      | inr g0 ↦ elim (chosen (nat_eq c 45) (some_sign sign.Minus) (if nat_eq c 42 then Some sign.Star else (if nat_eq c 47 then Some sign.Slash else (if nat_eq c 37 then Some sign.Percent else (if nat_eq c 63 then Some sign.Question else (if nat_eq c 58 then Some sign.Colon else (if nat_eq c 59 then Some sign.Semicolon else (if nat_eq c 44 then Some sign.Comma else (if nat_eq c 46 then Some sign.Dot else (if nat_eq c 40 then Some sign.OpenRound else (if nat_eq c 41 then Some sign.CloseRound else (if nat_eq c 91 then Some sign.OpenSquare else (if nat_eq c 93 then Some sign.CloseSquare else (if nat_eq c 123 then Some sign.OpenCurly else (if nat_eq c 125 then Some sign.CloseCurly else None)))))))))))))) (Some g) g0.1) [
        | inl g1 ↦ one_sign sign.Minus g c cs rest (ap (λ x. x ∷ []) (code_is c 45 g1.0)) e (none_stops rest) g1.1
        | inr g1 ↦ elim (chosen (nat_eq c 42) (some_sign sign.Star) (if nat_eq c 47 then Some sign.Slash else (if nat_eq c 37 then Some sign.Percent else (if nat_eq c 63 then Some sign.Question else (if nat_eq c 58 then Some sign.Colon else (if nat_eq c 59 then Some sign.Semicolon else (if nat_eq c 44 then Some sign.Comma else (if nat_eq c 46 then Some sign.Dot else (if nat_eq c 40 then Some sign.OpenRound else (if nat_eq c 41 then Some sign.CloseRound else (if nat_eq c 91 then Some sign.OpenSquare else (if nat_eq c 93 then Some sign.CloseSquare else (if nat_eq c 123 then Some sign.OpenCurly else (if nat_eq c 125 then Some sign.CloseCurly else None))))))))))))) (Some g) g1.1) [
          | inl g2 ↦ one_sign sign.Star g c cs rest (ap (λ x. x ∷ []) (code_is c 42 g2.0)) e (none_stops rest) g2.1
          | inr g2 ↦ elim (chosen (nat_eq c 47) (some_sign sign.Slash) (if nat_eq c 37 then Some sign.Percent else (if nat_eq c 63 then Some sign.Question else (if nat_eq c 58 then Some sign.Colon else (if nat_eq c 59 then Some sign.Semicolon else (if nat_eq c 44 then Some sign.Comma else (if nat_eq c 46 then Some sign.Dot else (if nat_eq c 40 then Some sign.OpenRound else (if nat_eq c 41 then Some sign.CloseRound else (if nat_eq c 91 then Some sign.OpenSquare else (if nat_eq c 93 then Some sign.CloseSquare else (if nat_eq c 123 then Some sign.OpenCurly else (if nat_eq c 125 then Some sign.CloseCurly else None)))))))))))) (Some g) g2.1) [
            | inl g3 ↦ one_sign sign.Slash g c cs rest (ap (λ x. x ∷ []) (code_is c 47 g3.0)) e (none_stops rest) g3.1
            | inr g3 ↦ elim (chosen (nat_eq c 37) (some_sign sign.Percent) (if nat_eq c 63 then Some sign.Question else (if nat_eq c 58 then Some sign.Colon else (if nat_eq c 59 then Some sign.Semicolon else (if nat_eq c 44 then Some sign.Comma else (if nat_eq c 46 then Some sign.Dot else (if nat_eq c 40 then Some sign.OpenRound else (if nat_eq c 41 then Some sign.CloseRound else (if nat_eq c 91 then Some sign.OpenSquare else (if nat_eq c 93 then Some sign.CloseSquare else (if nat_eq c 123 then Some sign.OpenCurly else (if nat_eq c 125 then Some sign.CloseCurly else None))))))))))) (Some g) g3.1) [
              | inl g4 ↦ one_sign sign.Percent g c cs rest (ap (λ x. x ∷ []) (code_is c 37 g4.0)) e (none_stops rest) g4.1
              | inr g4 ↦ elim (chosen (nat_eq c 63) (some_sign sign.Question) (if nat_eq c 58 then Some sign.Colon else (if nat_eq c 59 then Some sign.Semicolon else (if nat_eq c 44 then Some sign.Comma else (if nat_eq c 46 then Some sign.Dot else (if nat_eq c 40 then Some sign.OpenRound else (if nat_eq c 41 then Some sign.CloseRound else (if nat_eq c 91 then Some sign.OpenSquare else (if nat_eq c 93 then Some sign.CloseSquare else (if nat_eq c 123 then Some sign.OpenCurly else (if nat_eq c 125 then Some sign.CloseCurly else None)))))))))) (Some g) g4.1) [
                | inl g5 ↦ one_sign sign.Question g c cs rest (ap (λ x. x ∷ []) (code_is c 63 g5.0)) e (none_stops rest) g5.1
                | inr g5 ↦ elim (chosen (nat_eq c 58) (some_sign sign.Colon) (if nat_eq c 59 then Some sign.Semicolon else (if nat_eq c 44 then Some sign.Comma else (if nat_eq c 46 then Some sign.Dot else (if nat_eq c 40 then Some sign.OpenRound else (if nat_eq c 41 then Some sign.CloseRound else (if nat_eq c 91 then Some sign.OpenSquare else (if nat_eq c 93 then Some sign.CloseSquare else (if nat_eq c 123 then Some sign.OpenCurly else (if nat_eq c 125 then Some sign.CloseCurly else None))))))))) (Some g) g5.1) [
                  | inl g6 ↦ one_sign sign.Colon g c cs rest (ap (λ x. x ∷ []) (code_is c 58 g6.0)) e (none_stops rest) g6.1
                  | inr g6 ↦ elim (chosen (nat_eq c 59) (some_sign sign.Semicolon) (if nat_eq c 44 then Some sign.Comma else (if nat_eq c 46 then Some sign.Dot else (if nat_eq c 40 then Some sign.OpenRound else (if nat_eq c 41 then Some sign.CloseRound else (if nat_eq c 91 then Some sign.OpenSquare else (if nat_eq c 93 then Some sign.CloseSquare else (if nat_eq c 123 then Some sign.OpenCurly else (if nat_eq c 125 then Some sign.CloseCurly else None)))))))) (Some g) g6.1) [
                    | inl g7 ↦ one_sign sign.Semicolon g c cs rest (ap (λ x. x ∷ []) (code_is c 59 g7.0)) e (none_stops rest) g7.1
                    | inr g7 ↦ elim (chosen (nat_eq c 44) (some_sign sign.Comma) (if nat_eq c 46 then Some sign.Dot else (if nat_eq c 40 then Some sign.OpenRound else (if nat_eq c 41 then Some sign.CloseRound else (if nat_eq c 91 then Some sign.OpenSquare else (if nat_eq c 93 then Some sign.CloseSquare else (if nat_eq c 123 then Some sign.OpenCurly else (if nat_eq c 125 then Some sign.CloseCurly else None))))))) (Some g) g7.1) [
                      | inl g8 ↦ one_sign sign.Comma g c cs rest (ap (λ x. x ∷ []) (code_is c 44 g8.0)) e (none_stops rest) g8.1
                      | inr g8 ↦ elim (chosen (nat_eq c 46) (some_sign sign.Dot) (if nat_eq c 40 then Some sign.OpenRound else (if nat_eq c 41 then Some sign.CloseRound else (if nat_eq c 91 then Some sign.OpenSquare else (if nat_eq c 93 then Some sign.CloseSquare else (if nat_eq c 123 then Some sign.OpenCurly else (if nat_eq c 125 then Some sign.CloseCurly else None)))))) (Some g) g8.1) [
                        | inl g9 ↦ one_sign sign.Dot g c cs rest (ap (λ x. x ∷ []) (code_is c 46 g9.0)) e (subst (Stops is_ascii_digit) e (no_digit cs (not_digit (digit_next cs) (subst (λ (b : Bool). (b && digit_next cs) ≡ false) g9.0 d)))) g9.1
                        | inr g9 ↦ elim (chosen (nat_eq c 40) (some_sign sign.OpenRound) (if nat_eq c 41 then Some sign.CloseRound else (if nat_eq c 91 then Some sign.OpenSquare else (if nat_eq c 93 then Some sign.CloseSquare else (if nat_eq c 123 then Some sign.OpenCurly else (if nat_eq c 125 then Some sign.CloseCurly else None))))) (Some g) g9.1) [
                          | inl g10 ↦ one_sign sign.OpenRound g c cs rest (ap (λ x. x ∷ []) (code_is c 40 g10.0)) e (none_stops rest) g10.1
                          | inr g10 ↦ elim (chosen (nat_eq c 41) (some_sign sign.CloseRound) (if nat_eq c 91 then Some sign.OpenSquare else (if nat_eq c 93 then Some sign.CloseSquare else (if nat_eq c 123 then Some sign.OpenCurly else (if nat_eq c 125 then Some sign.CloseCurly else None)))) (Some g) g10.1) [
                            | inl g11 ↦ one_sign sign.CloseRound g c cs rest (ap (λ x. x ∷ []) (code_is c 41 g11.0)) e (none_stops rest) g11.1
                            | inr g11 ↦ elim (chosen (nat_eq c 91) (some_sign sign.OpenSquare) (if nat_eq c 93 then Some sign.CloseSquare else (if nat_eq c 123 then Some sign.OpenCurly else (if nat_eq c 125 then Some sign.CloseCurly else None))) (Some g) g11.1) [
                              | inl g12 ↦ one_sign sign.OpenSquare g c cs rest (ap (λ x. x ∷ []) (code_is c 91 g12.0)) e (none_stops rest) g12.1
                              | inr g12 ↦ elim (chosen (nat_eq c 93) (some_sign sign.CloseSquare) (if nat_eq c 123 then Some sign.OpenCurly else (if nat_eq c 125 then Some sign.CloseCurly else None)) (Some g) g12.1) [
                                | inl g13 ↦ one_sign sign.CloseSquare g c cs rest (ap (λ x. x ∷ []) (code_is c 93 g13.0)) e (none_stops rest) g13.1
                                | inr g13 ↦ elim (chosen (nat_eq c 123) (some_sign sign.OpenCurly) (if nat_eq c 125 then Some sign.CloseCurly else None) (Some g) g13.1) [
                                  | inl g14 ↦ one_sign sign.OpenCurly g c cs rest (ap (λ x. x ∷ []) (code_is c 123 g14.0)) e (none_stops rest) g14.1
                                  | inr g14 ↦ elim (chosen (nat_eq c 125) (some_sign sign.CloseCurly) None (Some g) g14.1) [
                                    | inl g15 ↦ one_sign sign.CloseCurly g c cs rest (ap (λ x. x ∷ []) (code_is c 125 g15.0)) e (none_stops rest) g15.1
                                    | inr g15 ↦ absurd (cc)
                                  ]
                                ]
                              ]
                            ]
                          ]
                        ]
                      ]
                    ]
                  ]
                ]
              ]
            ]
          ]
        ]
      ]
    ]

abbrev some_pair : Sign × List ℕ → Option (Sign × List ℕ)
some_pair p = Some p

pair_in : (p q : Sign × List ℕ) → some_pair p ≡ some_pair q → p ≡ q
pair_in p q h = ap (λ o. in_some o) h
  where
    in_some : Option (Sign × List ℕ) → Sign × List ℕ
    in_some (Some x) = x
    in_some None = p

and_lexed : (cs rest : List ℕ) (g : Sign) → when_some (next_is 38 cs) (λ ds. some_pair (sign.And, ds)) None ≡ Some (g, rest) → Lexed (token.Sign g) (38 ∷ cs) rest
and_lexed cs rest g h =
    elim (some_or (next_is 38 cs) (λ ds. some_pair (sign.And, ds)) None (Some (g, rest)) h) [
      | inl p ↦
          let e : pair_of sign.And p.0 ≡ pair_of g rest = pair_in (sign.And, p.0) (g, rest) p.2 in
          subst (λ (x : Sign). Lexed (token.Sign x) (38 ∷ cs) rest) (ap (λ x. x.0) e) (sign_is sign.And 38 (38 ∷ []) cs rest refl (next_some 38 cs p.0 p.1 ∙ ap (λ xs. 38 ∷ xs) (ap (λ x. x.1) e)) (none_stops rest))
      | inr p ↦ absurd (cc)
    ]

-- the sign, from its first character
sign_lexed : (c : ℕ) (cs rest : List ℕ) (g : Sign) → (nat_eq c 46 && digit_next cs) ≡ false → sign_at c cs ≡ Some (g, rest) → Lexed (token.Sign g) (c ∷ cs) rest
sign_lexed c cs rest g d h =
    elim (chosen (nat_eq c 61) (some_pair (equal_signs cs)) (if nat_eq c 33 then some_pair (not_signs cs) else if nat_eq c 60 then some_pair (longer 61 sign.AtMost sign.Less cs) else if nat_eq c 62 then some_pair (longer 61 sign.AtLeast sign.Greater cs) else if nat_eq c 124 then some_pair (longer 124 sign.Or sign.Bar cs) else if nat_eq c 38 then when_some (next_is 38 cs) (λ ds. some_pair (sign.And, ds)) None else when_some (single_sign c) (λ s. some_pair (s, cs)) None) (Some (g, rest)) h) [
      | inl a ↦ subst (λ (x : ℕ). Lexed (token.Sign g) (x ∷ cs) rest) (sym (code_is c 61 a.0)) (three_signs 61 sign.Same sign.Equal sign.Assign g cs rest refl (none_stops rest) refl (λ f. f) refl (λ f. f) (pair_in (equal_signs cs) (g, rest) a.1))
      | inr a ↦
          elim (chosen (nat_eq c 33) (some_pair (not_signs cs)) (if nat_eq c 60 then some_pair (longer 61 sign.AtMost sign.Less cs) else if nat_eq c 62 then some_pair (longer 61 sign.AtLeast sign.Greater cs) else if nat_eq c 124 then some_pair (longer 124 sign.Or sign.Bar cs) else if nat_eq c 38 then when_some (next_is 38 cs) (λ ds. some_pair (sign.And, ds)) None else when_some (single_sign c) (λ s. some_pair (s, cs)) None) (Some (g, rest)) a.1) [
            | inl b ↦ subst (λ (x : ℕ). Lexed (token.Sign g) (x ∷ cs) rest) (sym (code_is c 33 b.0)) (three_signs 33 sign.NotSame sign.NotEqual sign.Not g cs rest refl (none_stops rest) refl (λ f. f) refl (λ f. f) (pair_in (not_signs cs) (g, rest) b.1))
            | inr b ↦
                elim (chosen (nat_eq c 60) (some_pair (longer 61 sign.AtMost sign.Less cs)) (if nat_eq c 62 then some_pair (longer 61 sign.AtLeast sign.Greater cs) else if nat_eq c 124 then some_pair (longer 124 sign.Or sign.Bar cs) else if nat_eq c 38 then when_some (next_is 38 cs) (λ ds. some_pair (sign.And, ds)) None else when_some (single_sign c) (λ s. some_pair (s, cs)) None) (Some (g, rest)) b.1) [
                  | inl q ↦ subst (λ (x : ℕ). Lexed (token.Sign g) (x ∷ cs) rest) (sym (code_is c 60 q.0)) (two_signs 60 61 sign.AtMost sign.Less g cs rest refl (none_stops rest) refl (λ f. f) (pair_in (longer 61 sign.AtMost sign.Less cs) (g, rest) q.1))
                  | inr q ↦
                      elim (chosen (nat_eq c 62) (some_pair (longer 61 sign.AtLeast sign.Greater cs)) (if nat_eq c 124 then some_pair (longer 124 sign.Or sign.Bar cs) else if nat_eq c 38 then when_some (next_is 38 cs) (λ ds. some_pair (sign.And, ds)) None else when_some (single_sign c) (λ s. some_pair (s, cs)) None) (Some (g, rest)) q.1) [
                        | inl r ↦ subst (λ (x : ℕ). Lexed (token.Sign g) (x ∷ cs) rest) (sym (code_is c 62 r.0)) (two_signs 62 61 sign.AtLeast sign.Greater g cs rest refl (none_stops rest) refl (λ f. f) (pair_in (longer 61 sign.AtLeast sign.Greater cs) (g, rest) r.1))
                        | inr r ↦
                            elim (chosen (nat_eq c 124) (some_pair (longer 124 sign.Or sign.Bar cs)) (if nat_eq c 38 then when_some (next_is 38 cs) (λ ds. some_pair (sign.And, ds)) None else when_some (single_sign c) (λ s. some_pair (s, cs)) None) (Some (g, rest)) r.1) [
                              | inl v ↦ subst (λ (x : ℕ). Lexed (token.Sign g) (x ∷ cs) rest) (sym (code_is c 124 v.0)) (two_signs 124 124 sign.Or sign.Bar g cs rest refl (none_stops rest) refl (λ f. f) (pair_in (longer 124 sign.Or sign.Bar cs) (g, rest) v.1))
                              | inr v ↦
                                  elim (chosen (nat_eq c 38) (when_some (next_is 38 cs) (λ ds. some_pair (sign.And, ds)) None) (when_some (single_sign c) (λ s. some_pair (s, cs)) None) (Some (g, rest)) v.1) [
                                    | inl w ↦ subst (λ (x : ℕ). Lexed (token.Sign g) (x ∷ cs) rest) (sym (code_is c 38 w.0)) (and_lexed cs rest g w.1)
                                    | inr w ↦
                                        elim (some_or (single_sign c) (λ s. some_pair (s, cs)) None (Some (g, rest)) w.1) [
                                          | inl z ↦ let e : pair_of z.0 cs ≡ pair_of g rest = pair_in (z.0, cs) (g, rest) z.2 in single_lexed c cs rest g d (z.1 ∙ ap some_sign (ap (λ x. x.0) e)) (ap (λ x. x.1) e)
                                          | inr z ↦ absurd (cc)
                                        ]
                                  ]
                            ]
                      ]
                ]
          ]
    ]

signed_lexed : (p c : ℕ) (cs rest : List ℕ) (t : Token) → (nat_eq c 46 && digit_next cs) ≡ false → (o : Option (Sign × List ℕ)) → sign_at c cs ≡ o → signed_token p o ≡ Ok (t, rest) → Lexed t (c ∷ cs) rest
signed_lexed p c cs rest t d None e h = absurd (cc)
signed_lexed p c cs rest t d (Some r) e h =
    let same : token.Sign r.0 ≡ t = token_same (token.Sign r.0) t r.1 rest h in
    let left : r.1 ≡ rest = rest_same (token.Sign r.0) t r.1 rest h in
    subst (λ (x : Token). Lexed x (c ∷ cs) rest) same (subst (λ (xs : List ℕ). Lexed (token.Sign r.0) (c ∷ cs) xs) left (sign_lexed c cs r.1 r.0 d e))

abbrev refused_at : ℕ → Result (Token × List ℕ) LexFault
refused_at p = Err (refusal kinds.Fraction p)

-- what is read as a token spells it
token_lexed : (total p c : ℕ) (cs rest : List ℕ) (t : Token) → token_at total p c cs ≡ Ok (t, rest) → Lexed t (c ∷ cs) rest
token_lexed total p c cs rest t h =
    elim (chosen (begins_name c) (named (name_run (c ∷ []) cs)) (if is_ascii_digit c then number p (digit_run (c - 48) cs) else if is_quote c then text_at total p c cs else if nat_eq c 46 && digit_next cs then refused_at p else signed_token p (sign_at c cs)) (Ok (t, rest)) h) [
      | inl a ↦ name_lexed c cs rest t a.0 a.1
      | inr a ↦
          elim (chosen (is_ascii_digit c) (number p (digit_run (c - 48) cs)) (if is_quote c then text_at total p c cs else if nat_eq c 46 && digit_next cs then refused_at p else signed_token p (sign_at c cs)) (Ok (t, rest)) a.1) [
            | inl b ↦ number_lexed p c cs rest t b.0 b.1
            | inr b ↦
                elim (chosen (is_quote c) (text_at total p c cs) (if nat_eq c 46 && digit_next cs then refused_at p else signed_token p (sign_at c cs)) (Ok (t, rest)) b.1) [
                  | inl q ↦ text_lexed total p c cs rest t q.0 q.1
                  | inr q ↦
                      elim (chosen (nat_eq c 46 && digit_next cs) (refused_at p) (signed_token p (sign_at c cs)) (Ok (t, rest)) q.1) [
                        | inl r ↦ absurd (cc)
                        | inr r ↦ signed_lexed p c cs rest t r.0 (sign_at c cs) refl r.1
                      ]
                ]
          ]
    ]

-- white space in front
spaced : (total c : ℕ) (ts : List Token) (ps cs : List ℕ) → is_space c ≡ true → Written total ts ps cs → Written total ts ps (c ∷ cs)
spaced total c [] ps cs h w = (w.0, both (is_space c) (list_all is_space cs) h w.1)
spaced total c (t ∷ ts) ps cs h w = (c ∷ w.0, w.1, w.2, w.3, ap (λ xs. c ∷ xs) w.4, both (is_space c) (list_all is_space w.0) h w.5, w.6, w.7, w.8, w.9)

abbrev LexAnswer : Type 0
LexAnswer = Result (List Token × List ℕ) LexFault

abbrev lists : List Token → List ℕ → LexAnswer
lists ts ps = Ok (ts, ps)

tokens_in : LexAnswer → List Token
tokens_in (Ok r) = r.0
tokens_in (Err e) = []

places_in : LexAnswer → List ℕ
places_in (Ok r) = r.1
places_in (Err e) = []

record IsWritten (total : ℕ) (ts us : List Token) (ps qs cs : List ℕ) : Type 0 where
  more : List Token
  places : List ℕ
  tokens_are : us ≡ ts ++ more
  places_are : qs ≡ ps ++ places
  written : Written total more places cs

nothing_more : (total : ℕ) (ts us : List Token) (ps qs : List ℕ) → lists ts ps ≡ lists us qs → IsWritten total ts us ps qs []
unfolding tokens_in places_in
nothing_more total ts us ps qs h = record { more = []; places = []; tokens_are = sym (ap tokens_in h) ∙ sym (append-nil ts); places_are = sym (ap places_in h) ∙ sym (append-nil ps); written = (refl, refl) }

lexes_written : (total k : ℕ) (ts us : List Token) (ps qs cs : List ℕ) → length cs < k → lexes total k ts ps cs ≡ Ok (us, qs) → IsWritten total ts us ps qs cs
lexes_written total zero ts us ps qs cs l h = absurd (omega arith)
lexes_written total (suc k) ts us ps qs [] l h = nothing_more total ts us ps qs h
lexes_written total (suc k) ts us ps qs (c ∷ cs) l h =
    elim (chosen (is_space c) (lexes total k ts ps cs) (token_at total (place total (c ∷ cs)) c cs >>= λ r. lexes total k (ts ++ r.0 ∷ []) (ps ++ place total (c ∷ cs) ∷ []) r.1) (Ok (us, qs)) h) [
      | inl g ↦
          let r = lexes_written total k ts us ps qs cs (omega arith) g.1 in
          record { more = r.more; places = r.places; tokens_are = r.tokens_are; places_are = r.places_are; written = spaced total c r.more r.places cs g.0 r.written }
      | inr g ↦
          let p : ℕ = place total (c ∷ cs) in
          let b = bind_ok (token_at total p c cs) (λ r. lexes total k (ts ++ r.0 ∷ []) (ps ++ p ∷ []) r.1) (us, qs) g.1 in
          let t = b.0.0 in let rest = b.0.1 in
          let x = token_lexed total p c cs rest t b.1 in
          let r = lexes_written total k (ts ++ t ∷ []) us (ps ++ p ∷ []) qs rest (omega (arith, ap length x.whole, length-append x.w rest)) b.2 in
          record {
            more = t ∷ r.more;
            places = p ∷ r.places;
            tokens_are = r.tokens_are ∙ append_assoc ts (t ∷ []) r.more;
            places_are = r.places_are ∙ append_assoc ps (p ∷ []) r.places;
            written = ([], x.c ∷ x.w, rest, r.places, x.whole, refl, ap (λ xs. place total xs ∷ r.places) x.whole, x.lexeme, x.follows, r.written);
          }
    ]

pub lexed_is : (total : ℕ) (cs : List ℕ) (ts : List Token) (ps : List ℕ) → lexed total cs ≡ Ok (ts, ps) → Written total ts ps cs
lexed_is total cs ts ps h =
    let r = lexes_written total (suc (length cs)) [] ts [] ps cs (omega arith) h in
    subst (λ (us : List Token). Written total us ps cs) (sym r.tokens_are) (subst (λ (qs : List ℕ). Written total r.more qs cs) (sym r.places_are) r.written)
