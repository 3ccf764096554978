-- The token that a refusal stands at is the first that fits nothing.
use Rattle.std.proofs.Common.{◌≡◌, ◌+◌, ◌-◌, ◌*◌, ℕ, Bool, true, false, List, [], ◌∷◌, ◌++◌, length, refl, ap, ◌∙◌, sym, subst, arith, length-append, append_assoc, append-nil, inl, inr}
use Rattle.std.proofs.lemmas.Bool.Decides.{nat_tests}
use Rattle.std.specs.Prelude.{Result, Ok, Err, ◌⊎◌, nat_eq, nat_le, slice_index_or}
use Rattle.ng_base.specs.Meets.{◌>>=◌}
use Rattle.ng_base.proofs.Binds.{bind_err, chosen}
use Rattle.ng_language.specs.Trees.{Tree, Trees, trees_from}
use Rattle.ng_language.specs.Heights.{heights}
use Rattle.ng_language.specs.Reading.{statements}
use Rattle.ng_language.specs.Grammar.{IsProgram}
use Rattle.ng_language.specs.Parsing.{parse_fault, one_too_many, fault_of, located, low, parsed}
use Rattle.ng_language.specs.declared.syntax.Sign.TheVariants as sign
use Rattle.ng_language.specs.declared.syntax.Token.{Token}
use Rattle.ng_language.specs.declared.syntax.Token.TheVariants as token
use Rattle.ng_language.specs.declared.syntax.Refusal.{Refusal}
use Rattle.ng_language.specs.declared.syntax.Refusal.TheVariants as refusals
use Rattle.ng_language.specs.declared.syntax.ParseFault.{ParseFault}
use Rattle.ng_language.specs.declared.syntax.ParseKind.{ParseKind}
use Rattle.ng_language.specs.declared.syntax.ParseKind.TheVariants as kinds
use Rattle.ng_language.proofs.Complete.{list_of, program_read}
use Rattle.ng_language.proofs.Sound.{some_or}
use Rattle.ng_refusals.specs.Refusals.{Begins, IsFirstUnfit, UnexpectedIsUnfit, NotAssignableIsUnfit, EndedIsBegun}
use Rattle.ng_refusals.proofs.Local.{refusal}
use Rattle.ng_refusals.proofs.Programs.{unread}
use Rattle.ng_refusals.proofs.Steady.{statements_steady}
use Rattle.ng_refusals.proofs.Completable.{Completable}
use Rattle.ng_refusals.proofs.Begun.{AProgram, begun}

abbrev read : List Token → Result (List Tree) Refusal
read ts = statements (32 * length ts + 23) [] ts

-- no program begins with the tokens up to the refused one
not_begun : (us : List Token) (t : Token) (vs : List Token) (kind : Bool) → read (us ++ t ∷ vs) ≡ Err (refusal kind (length (t ∷ vs))) → Begins (us ++ t ∷ []) → ⊥
not_begun us t vs kind h b =
    let ws : List Token = us ++ t ∷ b.0 in
    let m : ℕ = 32 * (length (us ++ t ∷ vs) + length ws) + 23 in
    let program : IsProgram b.1 ws = subst (λ (xs : List Token). IsProgram b.1 xs) (append_assoc us (t ∷ []) b.0) b.2 in
    let whole : statements m [] ws ≡ Ok (list_of b.1) = program_read b.1 ws program m [] (omega arith) in
    unread m [] (list_of b.1) us t vs b.0 kind (sym (statements_steady (32 * length (us ++ t ∷ vs) + 23) m [] (us ++ t ∷ vs) (omega arith) (omega arith)) ∙ h) whole

-- a refusal, its token and its place
first_unfit : (us : List Token) (t : Token) (vs ts : List Token) (ps : List ℕ) (end place n : ℕ) (kind : Bool) → read ts ≡ Err (refusal kind n) → ts ≡ us ++ t ∷ vs → n ≡ length (t ∷ vs) → slice_index_or ps (length ts - n) end ≡ place → Begins us → IsFirstUnfit t ts ps end place
first_unfit us t vs ts ps end place n kind h whole left at b =
    let before : length ts - n ≡ length us = omega (arith, ap length whole, length-append us (t ∷ vs)) in
    let same : read (us ++ t ∷ vs) ≡ Err (refusal kind (length (t ∷ vs))) = ap read (sym whole) ∙ (h ∙ ap (λ m. Err (refusal kind m)) left) in
    (us, vs, whole, sym at ∙ ap (λ i. slice_index_or ps i end) before, b, not_begun us t vs kind same)

-- a refusal of the parser that is not for want of room is one of the reader
abbrev kind_in : Result Trees ParseFault → ParseKind
kind_in (Err f) = f.kind
kind_in (Ok bs) = kinds.TooDeep

abbrev fault_in : ParseFault → Result (List Tree) ParseFault → ParseFault
fault_in f (Err g) = g
fault_in f (Ok bs) = f

abbrev IsRefused : List Token → List ℕ → ℕ → ParseFault → Type 0
IsRefused ts ps end f = (e : Refusal) × (read ts ≡ Err e) × (fault_of (length ts) ps end e ≡ f)

abbrev too_deep : ℕ → Result Trees ParseFault
too_deep p = Err (parse_fault kinds.TooDeep p)

abbrev kept : Trees → Result Trees ParseFault
kept bs = Ok bs

refused_by : (ts : List Token) (ps : List ℕ) (end : ℕ) (f : ParseFault) (r : Result (List Tree) Refusal) → read ts ≡ r → located (length ts) ps end r ≡ Err f → IsRefused ts ps end f
refused_by ts ps end f (Ok bs) h g = absurd (cc)
refused_by ts ps end f (Err e) h g = (e, h, ap (fault_in f) g)

found : (ts : List Token) (ps : List ℕ) (end place : ℕ) (kind : ParseKind) → parsed ts ps end ≡ Err (parse_fault kind place) → (kinds.TooDeep ≡ kind) ⊎ IsRefused ts ps end (parse_fault kind place)
found ts ps end place kind h =
    elim (some_or (one_too_many 0 0 ts) (λ i. too_deep (slice_index_or ps i end)) (located (length ts) ps end (read ts) >>= low) (Err (parse_fault kind place)) h) [
      | inl p ↦ inl (ap kind_in p.2)
      | inr p ↦
          elim (bind_err (located (length ts) ps end (read ts)) low (parse_fault kind place) p.1) [
            | inl q ↦ inr (refused_by ts ps end (parse_fault kind place) (read ts) refl q)
            | inr q ↦
                elim (chosen (nat_le (heights (trees_from q.0)) 100) (kept (trees_from q.0)) (too_deep 0) (Err (parse_fault kind place)) q.2) [
                  | inl g ↦ absurd (cc)
                  | inr g ↦ inl (ap kind_in g.1)
                ]
          ]
    ]

abbrev kind_of : ParseFault → ParseKind
kind_of f = f.kind

abbrev place_of : ParseFault → ℕ
place_of f = f.place

-- an unexpected token
unexpected_from : (ts : List Token) (ps : List ℕ) (end place : ℕ) (e : Refusal) → read ts ≡ Err e → fault_of (length ts) ps end e ≡ parse_fault kinds.Unexpected place → Completable AProgram e ts → (t : Token) × IsFirstUnfit t ts ps end place
unexpected_from ts ps end place (refusals.Unfit n) h g c =
    elim (chosen (nat_eq n 0) (parse_fault kinds.Ended end) (parse_fault kinds.Unexpected (slice_index_or ps (length ts - n) end)) (parse_fault kinds.Unexpected place) g) [
      | inl d ↦ let k : kinds.Ended ≡ kinds.Unexpected = ap kind_of d.1 in absurd (cc)
      | inr d ↦ at_token c.rest refl d.0 (ap place_of d.1)
    ]
  where
    at_token : (rest : List Token) → c.rest ≡ rest → nat_eq n 0 ≡ false → slice_index_or ps (length ts - n) end ≡ place → (t : Token) × IsFirstUnfit t ts ps end place
    at_token [] i d p = let z : nat_eq n 0 ≡ true = ap (λ m. nat_eq m 0) (c.stands ∙ ap length i) in absurd (cc)
    at_token (t ∷ vs) i d p = (t, first_unfit c.us t vs ts ps end place n true h (c.whole ∙ ap (λ xs. c.us ++ xs) i) (c.stands ∙ ap length i) p (c.xs, c.complete.0, c.complete.1))
unexpected_from ts ps end place (refusals.NotAssignable n) h g c = let k : kinds.NotAssignable ≡ kinds.Unexpected = ap kind_of g in absurd (cc)
unexpected_from ts ps end place (refusals.Memory m) h g c = absurd c.stands

pub unexpected : UnexpectedIsUnfit
unexpected ts ps end place h =
    elim (found ts ps end place kinds.Unexpected h) [
      | inl k ↦ absurd (cc)
      | inr r ↦ unexpected_from ts ps end place r.0 r.1 r.2 (begun (32 * length ts + 23) [] ts r.0 r.1)
    ]

-- a `=` behind what can't be assigned
not_assignable_from : (ts : List Token) (ps : List ℕ) (end place : ℕ) (e : Refusal) → read ts ≡ Err e → fault_of (length ts) ps end e ≡ parse_fault kinds.NotAssignable place → Completable AProgram e ts → IsFirstUnfit (token.Sign sign.Assign) ts ps end place
not_assignable_from ts ps end place (refusals.Unfit n) h g c =
    elim (chosen (nat_eq n 0) (parse_fault kinds.Ended end) (parse_fault kinds.Unexpected (slice_index_or ps (length ts - n) end)) (parse_fault kinds.NotAssignable place) g) [
      | inl d ↦ let k : kinds.Ended ≡ kinds.NotAssignable = ap kind_of d.1 in absurd (cc)
      | inr d ↦ let k : kinds.Unexpected ≡ kinds.NotAssignable = ap kind_of d.1 in absurd (cc)
    ]
not_assignable_from ts ps end place (refusals.NotAssignable n) h g c =
    let s = c.stands in
    first_unfit c.us (token.Sign sign.Assign) s.0 ts ps end place n false h (c.whole ∙ ap (λ xs. c.us ++ xs) s.1) (s.2 ∙ ap length s.1) (ap place_of g) (c.xs, c.complete.0, c.complete.1)
not_assignable_from ts ps end place (refusals.Memory m) h g c = absurd c.stands

pub not_assignable : NotAssignableIsUnfit
not_assignable ts ps end place h =
    elim (found ts ps end place kinds.NotAssignable h) [
      | inl k ↦ absurd (cc)
      | inr r ↦ not_assignable_from ts ps end place r.0 r.1 r.2 (begun (32 * length ts + 23) [] ts r.0 r.1)
    ]

-- a text that ended
abbrev IsBegun : List Token → ℕ → ℕ → Type 0
IsBegun ts end place = (place ≡ end) × Begins ts × ((bs : Trees) → IsProgram bs ts → ⊥)

no_program : (ts : List Token) (e : Refusal) (bs : Trees) → read ts ≡ Err e → IsProgram bs ts → ⊥
no_program ts e bs h p = let r : read ts ≡ Ok (list_of bs) = program_read bs ts p (32 * length ts + 23) [] (omega arith) in cc

ended_from : (ts : List Token) (ps : List ℕ) (end place : ℕ) (e : Refusal) → read ts ≡ Err e → fault_of (length ts) ps end e ≡ parse_fault kinds.Ended place → Completable AProgram e ts → IsBegun ts end place
ended_from ts ps end place (refusals.Unfit n) h g c =
    elim (chosen (nat_eq n 0) (parse_fault kinds.Ended end) (parse_fault kinds.Unexpected (slice_index_or ps (length ts - n) end)) (parse_fault kinds.Ended place) g) [
      | inl d ↦ at_end c.rest refl d.0 (ap place_of d.1)
      | inr d ↦ let k : kinds.Unexpected ≡ kinds.Ended = ap kind_of d.1 in absurd (cc)
    ]
  where
    at_end : (rest : List Token) → c.rest ≡ rest → nat_eq n 0 ≡ true → end ≡ place → IsBegun ts end place
    at_end [] i d p =
        let all : ts ≡ c.us = c.whole ∙ (ap (λ xs. c.us ++ xs) i ∙ append-nil c.us) in
        (sym p, (c.xs, c.complete.0, subst (λ (ys : List Token). IsProgram c.complete.0 (ys ++ c.xs)) (sym all) c.complete.1), λ bs q. no_program ts (refusals.Unfit n) bs h q)
    at_end (t ∷ vs) i d p = let z : n ≡ 0 = grind (arith, nat_tests) in absurd (omega (arith, c.stands, ap length i, z))
ended_from ts ps end place (refusals.NotAssignable n) h g c = let k : kinds.NotAssignable ≡ kinds.Ended = ap kind_of g in absurd (cc)
ended_from ts ps end place (refusals.Memory m) h g c = absurd c.stands

pub ended : EndedIsBegun
ended ts ps end place h =
    elim (found ts ps end place kinds.Ended h) [
      | inl k ↦ absurd (cc)
      | inr r ↦ ended_from ts ps end place r.0 r.1 r.2 (begun (32 * length ts + 23) [] ts r.0 r.1)
    ]
