-- What is spelled so is read so: lists, and programs.
use Rattle.std.proofs.Common.{◌≡◌, ◌≤◌, ◌+◌, ◌*◌, ℕ, zero, suc, true, false, List, [], ◌∷◌, ◌++◌, length, refl, ap, ◌∙◌, sym, subst, arith, length-append, append_assoc, append-nil, inl, inr, lit<, lit≤}
use Rattle.std.specs.Prelude.{None, Ok, Err}
use Rattle.ng_base.specs.Meets.{◌>>=◌}
use Rattle.ng_language.specs.Trees.{Tree, Trees, PairTree, Pairs, a_number, a_text, a_name, the_scope, a_constant, member_of, item_of, call_of, a_list, a_record, in_brackets, signed, combined, both_of, either_of, choice_of, assigned, filtered, no_trees, tree_then, labelled, shorthand, computed, no_pairs, pair_then, trees_from, pairs_from}
use Rattle.ng_language.specs.Tokens.{after}
use Rattle.ng_language.specs.Reading.{Read, expect, is_assignable, statement, filters, arguments, expression, ternary, operators, primary, postfix, called, values, items, pairs, pair, head, statements, separated}
use Rattle.ng_language.specs.Choice.{when_some}
use Rattle.ng_language.specs.Grammar.{rank, label_token, Spells, SpellsArguments, SpellsValues, SpellsMore, SpellsItems, SpellsOthers, SpellsPair, SpellsPairs, SpellsOtherPairs, IsProgram, no_statement, last_statement, empty_statement, statement_then}
use Rattle.ng_language.specs.declared.syntax.Sign.TheVariants as sign
use Rattle.ng_language.specs.declared.syntax.Token.{Token}
use Rattle.ng_language.specs.declared.syntax.Token.TheVariants as token
use Rattle.ng_language.specs.declared.syntax.Label.{Label}
use Rattle.ng_language.specs.declared.syntax.Label.TheVariants as labels
use Rattle.ng_language.specs.declared.syntax.Level.TheVariants as levels
use Rattle.ng_language.proofs.Fronts.{after_here, after_other, after_name, after_label, name_here, label_here, not_after}
use Rattle.ng_language.specs.Parsing.{one_too_many, parsed, parse_fault}
use Rattle.ng_language.specs.declared.syntax.ParseKind.TheVariants as kinds
use Rattle.ng_language.specs.Heights.{heights}
use Rattle.std.specs.Prelude.{nat_eq, nat_le}
use Rattle.std.proofs.lemmas.Bool.Decides.{nat_tests}
use Rattle.ng_base.proofs.Binds.{if_true}
use Rattle.ng_language.proofs.Parts.{start, not_before, from_primary, number_read, text_read, word_read_so, bracket_read, member_read, item_read, signed_read, combined_read, both_read, either_read, ended_statement}
use Rattle.ng_language.proofs.Climb.{Ends, operations_end, ReadsPrimary, ReadsTernary, ReadsExpression, ReadsStatement, Reads, from_statement, from_expression, from_ternary, from_unary, ternary_plain}

abbrev pub list_of : Trees → List Tree
list_of no_trees = []
list_of (tree_then t ts) = t ∷ list_of ts

abbrev pub pair_list : Pairs → List PairTree
pair_list no_pairs = []
pair_list (pair_then p ps) = p ∷ pair_list ps

pub trees_back : (ts : Trees) → trees_from (list_of ts) ≡ ts
trees_back no_trees = refl
trees_back (tree_then t ts) = ap (tree_then t) (trees_back ts)

pub pairs_back : (ps : Pairs) → pairs_from (pair_list ps) ≡ ps
pairs_back no_pairs = refl
pairs_back (pair_then p ps) = ap (pair_then p) (pairs_back ps)

abbrev got : {A : Type 0} → List Token → A → Read A
got rest a = Ok (a, rest)

-- the arguments of a filter
abbrev ReadsArguments : Trees → Type 0
ReadsArguments ts = (us rest : List Token) (k : ℕ) (bs : List Tree) → SpellsArguments ts us → Ends 2 rest → after sign.Colon rest ≡ None → 32 * length (us ++ rest) + 1 ≤ k → arguments k bs (us ++ rest) ≡ got rest (bs ++ list_of ts)

no_arguments : ReadsArguments no_trees
no_arguments us rest zero bs s d n h = absurd (omega arith)
no_arguments us rest (suc k) bs s d n h = ap (λ ts. arguments (suc k) bs (ts ++ rest)) s ∙ rw n (ap (got rest) (sym (append-nil bs)))

arguments_front : (ts : Trees) (us rest : List Token) → SpellsArguments ts us → Ends 2 rest → Ends 2 (us ++ rest)
arguments_front no_trees us rest s d = subst (λ (xs : List Token). Ends 2 (xs ++ rest)) (sym s) d
arguments_front (tree_then t ts) us rest s d = subst (λ (xs : List Token). Ends 2 (xs ++ rest)) (sym s.4) (lit< tt)

arguments_then : (t : Tree) (ts : Trees) → Reads t → ReadsArguments ts → ReadsArguments (tree_then t ts)
arguments_then t ts rt rs us rest zero bs s d n h = absurd (omega arith)
arguments_then t ts rt rs us rest (suc k) bs s d n h =
    let vs = s.0 in let ws = s.1 in
    let flat : us ++ rest ≡ token.Sign sign.Colon ∷ (vs ++ (ws ++ rest)) = ap (λ xs. xs ++ rest) s.4 ∙ ap (λ xs. token.Sign sign.Colon ∷ xs) (append_assoc vs ws rest) in
    let read : expression k (vs ++ (ws ++ rest)) ≡ Ok (t, ws ++ rest) = rt.expressions s.2.0 vs (ws ++ rest) k s.2.1 (arguments_front ts ws rest s.3 d) (omega (arith, ap length flat)) in
    let later : arguments k (bs ++ t ∷ []) (ws ++ rest) ≡ got rest ((bs ++ t ∷ []) ++ list_of ts) = rs ws rest k (bs ++ t ∷ []) s.3 d n (omega (arith, ap length flat, length-append vs (ws ++ rest))) in
    ap (arguments (suc k) bs) flat ∙ rw (after_here sign.Colon (vs ++ (ws ++ rest)), read) (later ∙ ap (got rest) (append_assoc bs (t ∷ []) (list_of ts)))

filter_read : (t : Tree) (n : List ℕ) (bs : Trees) → Reads t → ReadsArguments bs → ReadsStatement (filtered t n bs)
filter_read t n bs rt rs us rest k s d c h =
    let vs = s.0 in let ws = s.1 in
    let tail : List Token = token.Sign sign.Bar ∷ token.Name n ∷ (ws ++ rest) in
    let flat : us ++ rest ≡ vs ++ tail = ap (λ xs. xs ++ rest) s.4 ∙ append_assoc vs (token.Sign sign.Bar ∷ token.Name n ∷ ws) rest in
    let inner = rt.statements vs tail k s.2 (lit< tt) (after_other sign.Colon sign.Bar (token.Name n ∷ (ws ++ rest)) refl) (subst (λ (xs : List Token). 32 * length xs + 21 ≤ k) flat h) in
    let one = one_filter inner.0 ws s.3 (omega (arith, inner.1)) in
    (one.0, one.1, ap (statement k) flat ∙ (inner.2 ∙ one.2))
  where
    one_filter : (j : ℕ) (ws : List Token) → SpellsArguments bs ws → 32 * (2 + length (ws ++ rest)) + 2 ≤ j → (i : ℕ) × (32 * length rest + 2 ≤ i) × (filters j t (token.Sign sign.Bar ∷ token.Name n ∷ (ws ++ rest)) ≡ filters i (filtered t n bs) rest)
    one_filter zero ws q l = absurd (omega arith)
    one_filter (suc zero) ws q l = absurd (omega arith)
    one_filter (suc (suc j)) ws q l =
        let read : arguments j [] (ws ++ rest) ≡ got rest (list_of bs) = rs ws rest j [] q d c (omega arith) in
        (j, omega (arith, length-append ws rest), rw (after_here sign.Bar (token.Name n ∷ (ws ++ rest)), name_here n (ws ++ rest), read) (ap (λ x. filters j (filtered t n x) rest) (trees_back bs)))

-- a choice, and an assignment
choice_read : (c a b : Tree) → Reads c → Reads a → Reads b → ReadsTernary (choice_of c a b)
choice_read c a b rc ra rb us rest zero s d h = absurd (omega arith)
choice_read c a b rc ra rb us rest (suc zero) s d h = absurd (omega arith)
choice_read c a b rc ra rb us rest (suc (suc k)) s d h =
    let vs = s.0 in let ws = s.1 in let xs = s.2 in
    let last : List Token = token.Sign sign.Colon ∷ (xs ++ rest) in
    let tail : List Token = token.Sign sign.Question ∷ (ws ++ last) in
    let flat : us ++ rest ≡ vs ++ tail =
    ap (λ ts. ts ++ rest) s.6
    ∙ (append_assoc vs (token.Sign sign.Question ∷ (ws ++ token.Sign sign.Colon ∷ xs)) rest
    ∙ ap (λ ts. vs ++ token.Sign sign.Question ∷ ts) (append_assoc ws (token.Sign sign.Colon ∷ xs) rest)) in
    let first = rc.ops levels.Or s.3.0 vs tail (suc k) s.3.1 (lit< tt) (omega (arith, ap length flat)) in
    let one : operators (suc k) levels.Or (vs ++ tail) ≡ Ok (c, tail) = first.2 ∙ operations_end first.0 levels.Or c tail (lit< tt) (omega (arith, first.1)) in
    let yes : expression k (ws ++ last) ≡ Ok (a, last) = ra.expressions s.4.0 ws last k s.4.1 (lit< tt) (omega (arith, ap length flat, length-append vs tail)) in
    let no_way : expression k (xs ++ rest) ≡ Ok (b, rest) = rb.expressions s.5.0 xs rest k s.5.1 (omega arith) (omega (arith, ap length flat, length-append vs tail, length-append ws last)) in
    ap (ternary (suc (suc k))) flat ∙ rw (one, after_here sign.Question (ws ++ last), yes, after_here sign.Colon (xs ++ rest), no_way)

assignable_rank : (a : Tree) → is_assignable a ≡ true → 4 ≤ rank a
assignable_rank (a_name n) h = lit≤ tt
assignable_rank (member_of t n) h = lit≤ tt
assignable_rank (item_of t i) h = lit≤ tt
assignable_rank a h = absurd (cc)

assign_read : (a b : Tree) → Reads a → Reads b → ReadsExpression (assigned a b)
assign_read a b ra rb us rest zero s d h = absurd (omega arith)
assign_read a b ra rb us rest (suc zero) s d h = absurd (omega arith)
assign_read a b ra rb us rest (suc (suc k)) s d h =
    let vs = s.0 in let ws = s.1 in
    let tail : List Token = token.Sign sign.Assign ∷ (ws ++ rest) in
    let flat : us ++ rest ≡ vs ++ tail = ap (λ ts. ts ++ rest) s.5 ∙ append_assoc vs (token.Sign sign.Assign ∷ ws) rest in
    let first : ternary (suc k) (vs ++ tail) ≡ Ok (a, tail) = ternary_plain a (ra.ops levels.Or (assignable_rank a s.2)) vs tail (suc k) s.3 (lit< tt) (omega (arith, ap length flat)) in
    let second : expression k (ws ++ rest) ≡ Ok (b, rest) = rb.expressions s.4.0 ws rest k s.4.1 d (omega (arith, ap length flat, length-append vs tail)) in
    ap (expression (suc (suc k))) flat ∙ rw (first, after_here sign.Assign (ws ++ rest), s.2, second)

-- the arguments of a call
abbrev values_on : ℕ → List Tree → List Token → Read (List Tree)
values_on k bs ts = when_some (after sign.Comma ts) (λ us. values k bs us) (expect sign.CloseRound ts >>= λ us. Ok (bs, us))

abbrev ReadsMore : Trees → Type 0
ReadsMore ts = (vs rest : List Token) (k : ℕ) (bs : List Tree) → SpellsMore ts vs → 32 * length (vs ++ token.Sign sign.CloseRound ∷ rest) ≤ k → values_on k bs (vs ++ token.Sign sign.CloseRound ∷ rest) ≡ got rest (bs ++ list_of ts)

more_front : (ts : Trees) (vs rest : List Token) → SpellsMore ts vs → Ends 1 (vs ++ token.Sign sign.CloseRound ∷ rest)
more_front no_trees vs rest s = subst (λ (xs : List Token). Ends 1 (xs ++ token.Sign sign.CloseRound ∷ rest)) (sym s) (lit< tt)
more_front (tree_then t ts) vs rest s = subst (λ (xs : List Token). Ends 1 (xs ++ token.Sign sign.CloseRound ∷ rest)) (sym s.4) (lit< tt)

value_then : (t : Tree) → Reads t → (us rest : List Token) (k : ℕ) (bs : List Tree) → Spells t us → Ends 1 rest → 32 * length (us ++ rest) + 21 ≤ k → values (suc k) bs (us ++ rest) ≡ values_on k (bs ++ t ∷ []) rest
value_then t rt us rest k bs s d h = rw (ended_statement t rt.statements us rest k s d h)

no_more : ReadsMore no_trees
no_more vs rest k bs s h =
    ap (λ xs. values_on k bs (xs ++ token.Sign sign.CloseRound ∷ rest)) s
    ∙ rw (after_other sign.Comma sign.CloseRound rest refl, after_here sign.CloseRound rest) (ap (got rest) (sym (append-nil bs)))

more_then : (t : Tree) (ts : Trees) → Reads t → ReadsMore ts → ReadsMore (tree_then t ts)
more_then t ts rt rs vs rest zero bs s h = let e = ap (λ xs. length (xs ++ token.Sign sign.CloseRound ∷ rest)) s.4 in absurd (omega (arith, e))
more_then t ts rt rs vs rest (suc k) bs s h =
    let us = s.0 in let ws = s.1 in
    let tail : List Token = ws ++ token.Sign sign.CloseRound ∷ rest in
    let flat : vs ++ token.Sign sign.CloseRound ∷ rest ≡ token.Sign sign.Comma ∷ (us ++ tail) = ap (λ xs. xs ++ token.Sign sign.CloseRound ∷ rest) s.4 ∙ ap (λ xs. token.Sign sign.Comma ∷ xs) (append_assoc us ws (token.Sign sign.CloseRound ∷ rest)) in
    let one = value_then t rt us tail k bs s.2 (more_front ts ws rest s.3) (omega (arith, ap length flat)) in
    let later = rs ws rest k (bs ++ t ∷ []) s.3 (omega (arith, ap length flat, length-append us tail)) in
    ap (values_on (suc k) bs) flat ∙ rw (after_here sign.Comma (us ++ tail)) (one ∙ (later ∙ ap (got rest) (append_assoc bs (t ∷ []) (list_of ts))))

abbrev ReadsValues : Trees → Type 0
ReadsValues ts = (vs rest : List Token) (k : ℕ) → SpellsValues ts vs → 32 * length (vs ++ token.Sign sign.CloseRound ∷ rest) + 23 ≤ k → called k (vs ++ token.Sign sign.CloseRound ∷ rest) ≡ got rest (list_of ts)

no_values : ReadsValues no_trees
no_values vs rest zero s h = absurd (omega arith)
no_values vs rest (suc k) s h = ap (λ xs. called (suc k) (xs ++ token.Sign sign.CloseRound ∷ rest)) s ∙ rw (after_here sign.CloseRound rest)

values_then : (t : Tree) (ts : Trees) → Reads t → ReadsMore ts → ReadsValues (tree_then t ts)
values_then t ts rt rs vs rest zero s h = absurd (omega arith)
values_then t ts rt rs vs rest (suc zero) s h = absurd (omega arith)
values_then t ts rt rs vs rest (suc (suc k)) s h =
    let us = s.0 in let ws = s.1 in
    let tail : List Token = ws ++ token.Sign sign.CloseRound ∷ rest in
    let flat : vs ++ token.Sign sign.CloseRound ∷ rest ≡ us ++ tail = ap (λ xs. xs ++ token.Sign sign.CloseRound ∷ rest) s.4 ∙ append_assoc us ws (token.Sign sign.CloseRound ∷ rest) in
    let one = value_then t rt us tail k [] s.2 (more_front ts ws rest s.3) (omega (arith, ap length flat)) in
    let later = rs ws rest k (t ∷ []) s.3 (omega (arith, ap length flat, length-append us tail)) in
    ap (called (suc (suc k))) flat ∙ rw (not_before sign.CloseRound t us tail refl s.2) (one ∙ later)

call_read : (e : Tree) (ts : Trees) → (11 ≤ rank e → ReadsPrimary e) → ReadsValues ts → ReadsPrimary (call_of e ts)
call_read e ts p r us rest k s h =
    let vs = s.0 in let ws = s.1 in
    let tail : List Token = token.Sign sign.OpenRound ∷ (ws ++ token.Sign sign.CloseRound ∷ rest) in
    let flat : us ++ rest ≡ vs ++ tail =
    ap (λ xs. xs ++ rest) s.4
    ∙ (append_assoc vs (token.Sign sign.OpenRound ∷ (ws ++ token.Sign sign.CloseRound ∷ [])) rest
    ∙ ap (λ xs. vs ++ token.Sign sign.OpenRound ∷ xs) (append_assoc ws (token.Sign sign.CloseRound ∷ []) rest)) in
    let inner = p s.2.0 vs tail k s.2.1 (subst (λ (xs : List Token). 32 * length xs + 5 ≤ k) flat h) in
    let one = one_call inner.0 ws s.3 (omega (arith, inner.1)) in
    (one.0, one.1, ap (primary k) flat ∙ (inner.2 ∙ one.2))
  where
    one_call : (j : ℕ) (ws : List Token) → SpellsValues ts ws → 32 * (1 + length (ws ++ token.Sign sign.CloseRound ∷ rest)) + 1 ≤ j →
        (m : ℕ) × (32 * length rest + 1 ≤ m) × (postfix j e (token.Sign sign.OpenRound ∷ (ws ++ token.Sign sign.CloseRound ∷ rest)) ≡ postfix m (call_of e ts) rest)
    one_call zero ws q l = absurd (omega arith)
    one_call (suc j) ws q l =
        let close : List Token = token.Sign sign.CloseRound ∷ rest in
        let read : called j (ws ++ close) ≡ got rest (list_of ts) = r ws rest j q (omega arith) in (
          j,
          omega (arith, length-append ws close),
          rw (after_other sign.Dot sign.OpenRound (ws ++ close) refl, after_other sign.OpenSquare sign.OpenRound (ws ++ close) refl, after_here sign.OpenRound (ws ++ close), read) (ap (λ x. postfix j (call_of e x) rest) (trees_back ts)),
        )

-- the items of a list
abbrev items_on : ℕ → List Tree → List Token → Read (List Tree)
items_on k bs ts = when_some (after sign.Comma ts) (λ us. items k bs us) (expect sign.CloseSquare ts >>= λ us. Ok (bs, us))

abbrev ReadsOthers : Trees → Type 0
ReadsOthers ts = (vs rest : List Token) (k : ℕ) (bs : List Tree) → SpellsOthers ts vs → 32 * length (vs ++ token.Sign sign.CloseSquare ∷ rest) ≤ k → items_on k bs (vs ++ token.Sign sign.CloseSquare ∷ rest) ≡ got rest (bs ++ list_of ts)

abbrev ReadsItems : Trees → Type 0
ReadsItems ts = (vs rest : List Token) (k : ℕ) (bs : List Tree) → SpellsItems ts vs → 32 * length (vs ++ token.Sign sign.CloseSquare ∷ rest) + 22 ≤ k → items k bs (vs ++ token.Sign sign.CloseSquare ∷ rest) ≡ got rest (bs ++ list_of ts)

others_front : (ts : Trees) (vs rest : List Token) → SpellsOthers ts vs → Ends 1 (vs ++ token.Sign sign.CloseSquare ∷ rest)
others_front no_trees vs rest s = elim s [ inl e ↦ subst (λ (xs : List Token). Ends 1 (xs ++ token.Sign sign.CloseSquare ∷ rest)) (sym e) (lit< tt) | inr e ↦ subst (λ (xs : List Token). Ends 1 (xs ++ token.Sign sign.CloseSquare ∷ rest)) (sym e) (lit< tt) ]
others_front (tree_then t ts) vs rest s = subst (λ (xs : List Token). Ends 1 (xs ++ token.Sign sign.CloseSquare ∷ rest)) (sym s.4) (lit< tt)

item_then : (t : Tree) → Reads t → (us rest : List Token) (k : ℕ) (bs : List Tree) → Spells t us → Ends 1 rest → 32 * length (us ++ rest) + 21 ≤ k → items (suc k) bs (us ++ rest) ≡ items_on k (bs ++ t ∷ []) rest
item_then t rt us rest k bs s d h = rw (not_before sign.CloseSquare t us rest refl s, ended_statement t rt.statements us rest k s d h)

no_others : ReadsOthers no_trees
no_others vs rest zero bs s h = let e = length-append vs (token.Sign sign.CloseSquare ∷ rest) in absurd (omega (arith, e))
no_others vs rest (suc k) bs s h =
    elim s [
      | inl e ↦
          ap (λ xs. items_on (suc k) bs (xs ++ token.Sign sign.CloseSquare ∷ rest)) e
          ∙ rw (after_other sign.Comma sign.CloseSquare rest refl, after_here sign.CloseSquare rest) (ap (got rest) (sym (append-nil bs)))
      | inr e ↦
          ap (λ xs. items_on (suc k) bs (xs ++ token.Sign sign.CloseSquare ∷ rest)) e
          ∙ rw (after_here sign.Comma (token.Sign sign.CloseSquare ∷ rest), after_here sign.CloseSquare rest) (ap (got rest) (sym (append-nil bs)))
    ]

others_then : (t : Tree) (ts : Trees) → Reads t → ReadsOthers ts → ReadsOthers (tree_then t ts)
others_then t ts rt rs vs rest zero bs s h = let e = ap (λ xs. length (xs ++ token.Sign sign.CloseSquare ∷ rest)) s.4 in absurd (omega (arith, e))
others_then t ts rt rs vs rest (suc k) bs s h =
    let us = s.0 in let ws = s.1 in
    let tail : List Token = ws ++ token.Sign sign.CloseSquare ∷ rest in
    let flat : vs ++ token.Sign sign.CloseSquare ∷ rest ≡ token.Sign sign.Comma ∷ (us ++ tail) = ap (λ xs. xs ++ token.Sign sign.CloseSquare ∷ rest) s.4 ∙ ap (λ xs. token.Sign sign.Comma ∷ xs) (append_assoc us ws (token.Sign sign.CloseSquare ∷ rest)) in
    let one = item_then t rt us tail k bs s.2 (others_front ts ws rest s.3) (omega (arith, ap length flat)) in
    let later = rs ws rest k (bs ++ t ∷ []) s.3 (omega (arith, ap length flat, length-append us tail)) in
    ap (items_on (suc k) bs) flat ∙ rw (after_here sign.Comma (us ++ tail)) (one ∙ (later ∙ ap (got rest) (append_assoc bs (t ∷ []) (list_of ts))))

no_items : ReadsItems no_trees
no_items vs rest zero bs s h = absurd (omega arith)
no_items vs rest (suc k) bs s h = ap (λ xs. items (suc k) bs (xs ++ token.Sign sign.CloseSquare ∷ rest)) s ∙ rw (after_here sign.CloseSquare rest) (ap (got rest) (sym (append-nil bs)))

items_then : (t : Tree) (ts : Trees) → Reads t → ReadsOthers ts → ReadsItems (tree_then t ts)
items_then t ts rt rs vs rest zero bs s h = absurd (omega arith)
items_then t ts rt rs vs rest (suc k) bs s h =
    let us = s.0 in let ws = s.1 in
    let tail : List Token = ws ++ token.Sign sign.CloseSquare ∷ rest in
    let flat : vs ++ token.Sign sign.CloseSquare ∷ rest ≡ us ++ tail = ap (λ xs. xs ++ token.Sign sign.CloseSquare ∷ rest) s.4 ∙ append_assoc us ws (token.Sign sign.CloseSquare ∷ rest) in
    let one = item_then t rt us tail k bs s.2 (others_front ts ws rest s.3) (omega (arith, ap length flat)) in
    let later = rs ws rest k (bs ++ t ∷ []) s.3 (omega (arith, ap length flat, length-append us tail)) in
    ap (items (suc k) bs) flat ∙ (one ∙ (later ∙ ap (got rest) (append_assoc bs (t ∷ []) (list_of ts))))

list_read : (ts : Trees) → ReadsItems ts → ReadsPrimary (a_list ts)
list_read ts r us rest zero s h = absurd (omega arith)
list_read ts r us rest (suc zero) s h = absurd (omega arith)
list_read ts r us rest (suc (suc k)) s h =
    let vs = s.0 in
    let tail : List Token = token.Sign sign.CloseSquare ∷ rest in
    let flat : us ++ rest ≡ token.Sign sign.OpenSquare ∷ (vs ++ tail) = ap (λ xs. xs ++ rest) s.2 ∙ ap (λ xs. token.Sign sign.OpenSquare ∷ xs) (append_assoc vs (token.Sign sign.CloseSquare ∷ []) rest) in
    let inner : items k [] (vs ++ tail) ≡ got rest (list_of ts) = r vs rest k [] s.1 (omega (arith, ap length flat)) in
    let read : head (suc k) (token.Sign sign.OpenSquare ∷ (vs ++ tail)) ≡ Ok (a_list ts, rest) = rw (after_other sign.OpenRound sign.OpenSquare (vs ++ tail) refl, after_here sign.OpenSquare (vs ++ tail), inner) (ap (λ x. got rest (a_list x)) (trees_back ts)) in
    (suc k, omega (arith, ap length flat, length-append vs tail), ap (primary (suc (suc k))) flat ∙ rw read)

-- the pairs of a record
abbrev ReadsPair : PairTree → Type 0
ReadsPair p = (us rest : List Token) (k : ℕ) → SpellsPair p us → Ends 1 rest → 32 * length (us ++ rest) + 22 ≤ k → pair k (us ++ rest) ≡ got rest p

labelled_read : (l : Label) (t : Tree) → Reads t → ReadsPair (labelled l t)
labelled_read l t rt us rest zero s d h = absurd (omega arith)
labelled_read l t rt us rest (suc zero) s d h = absurd (omega arith)
labelled_read l t rt us rest (suc (suc k)) s d h =
    let vs = s.0 in
    let flat : us ++ rest ≡ label_token l ∷ token.Sign sign.Colon ∷ (vs ++ rest) = ap (λ xs. xs ++ rest) s.2 in
    let read : expression k (vs ++ rest) ≡ Ok (t, rest) = rt.expressions s.1.0 vs rest k s.1.1 (omega arith) (omega (arith, ap length flat)) in
    ap (pair (suc (suc k))) flat ∙ rw (after_label sign.OpenSquare l (token.Sign sign.Colon ∷ (vs ++ rest)), label_here l (token.Sign sign.Colon ∷ (vs ++ rest)), after_here sign.Colon (vs ++ rest), read)

shorthand_read : (n : List ℕ) (t : Tree) → ReadsPair (shorthand n t)
shorthand_read n t us rest zero s d h = absurd (omega arith)
shorthand_read n t us rest (suc zero) s d h = absurd (omega arith)
shorthand_read n t us rest (suc (suc k)) s d h =
    ap (λ xs. pair (suc (suc k)) (xs ++ rest)) s.0
    ∙ rw (after_name sign.OpenSquare n rest, label_here (labels.Name n) rest, not_after sign.Colon rest d) (ap (λ x. got rest (shorthand n x)) (sym s.1))

computed_read : (i t : Tree) → Reads i → Reads t → ReadsPair (computed i t)
computed_read i t ri rt us rest zero s d h = absurd (omega arith)
computed_read i t ri rt us rest (suc k) s d h =
    let vs = s.0 in let ws = s.1 in
    let last : List Token = token.Sign sign.Colon ∷ (ws ++ rest) in
    let tail : List Token = token.Sign sign.CloseSquare ∷ last in
    let flat : us ++ rest ≡ token.Sign sign.OpenSquare ∷ (vs ++ tail) = ap (λ xs. xs ++ rest) s.4 ∙ ap (λ xs. token.Sign sign.OpenSquare ∷ xs) (append_assoc vs (token.Sign sign.CloseSquare ∷ token.Sign sign.Colon ∷ ws) rest) in
    let first : expression k (vs ++ tail) ≡ Ok (i, tail) = ri.expressions s.2.0 vs tail k s.2.1 (lit< tt) (omega (arith, ap length flat)) in
    let second : expression k (ws ++ rest) ≡ Ok (t, rest) = rt.expressions s.3.0 ws rest k s.3.1 (omega arith) (omega (arith, ap length flat, length-append vs tail)) in
    ap (pair (suc k)) flat ∙ rw (after_here sign.OpenSquare (vs ++ tail), first, after_here sign.CloseSquare last, after_here sign.Colon (ws ++ rest), second)

abbrev pairs_on : ℕ → List PairTree → List Token → Read (List PairTree)
pairs_on k bs ts = when_some (after sign.Comma ts) (λ us. pairs k bs us) (expect sign.CloseCurly ts >>= λ us. Ok (bs, us))

abbrev ReadsOtherPairs : Pairs → Type 0
ReadsOtherPairs ps = (vs rest : List Token) (k : ℕ) (bs : List PairTree) → SpellsOtherPairs ps vs → 32 * length (vs ++ token.Sign sign.CloseCurly ∷ rest) ≤ k → pairs_on k bs (vs ++ token.Sign sign.CloseCurly ∷ rest) ≡ got rest (bs ++ pair_list ps)

abbrev ReadsPairs : Pairs → Type 0
ReadsPairs ps = (vs rest : List Token) (k : ℕ) (bs : List PairTree) → SpellsPairs ps vs → 32 * length (vs ++ token.Sign sign.CloseCurly ∷ rest) + 23 ≤ k → pairs k bs (vs ++ token.Sign sign.CloseCurly ∷ rest) ≡ got rest (bs ++ pair_list ps)

not_before_pair : (p : PairTree) (us rest : List Token) → SpellsPair p us → after sign.CloseCurly (us ++ rest) ≡ None
not_before_pair (labelled l t) us rest s = ap (λ xs. after sign.CloseCurly (xs ++ rest)) s.2 ∙ after_label sign.CloseCurly l (token.Sign sign.Colon ∷ (s.0 ++ rest))
not_before_pair (shorthand n t) us rest s = ap (λ xs. after sign.CloseCurly (xs ++ rest)) s.0 ∙ after_name sign.CloseCurly n rest
not_before_pair (computed i t) us rest s = ap (λ xs. after sign.CloseCurly (xs ++ rest)) s.4 ∙ after_other sign.CloseCurly sign.OpenSquare ((s.0 ++ token.Sign sign.CloseSquare ∷ token.Sign sign.Colon ∷ s.1) ++ rest) refl

other_pairs_front : (ps : Pairs) (vs rest : List Token) → SpellsOtherPairs ps vs → Ends 1 (vs ++ token.Sign sign.CloseCurly ∷ rest)
other_pairs_front no_pairs vs rest s = elim s [ inl e ↦ subst (λ (xs : List Token). Ends 1 (xs ++ token.Sign sign.CloseCurly ∷ rest)) (sym e) (lit< tt) | inr e ↦ subst (λ (xs : List Token). Ends 1 (xs ++ token.Sign sign.CloseCurly ∷ rest)) (sym e) (lit< tt) ]
other_pairs_front (pair_then p ps) vs rest s = subst (λ (xs : List Token). Ends 1 (xs ++ token.Sign sign.CloseCurly ∷ rest)) (sym s.4) (lit< tt)

one_pair_then : (p : PairTree) → ReadsPair p → (us rest : List Token) (k : ℕ) (bs : List PairTree) → SpellsPair p us → Ends 1 rest → 32 * length (us ++ rest) + 22 ≤ k → pairs (suc k) bs (us ++ rest) ≡ pairs_on k (bs ++ p ∷ []) rest
one_pair_then p rp us rest k bs s d h = rw (not_before_pair p us rest s, rp us rest k s d h)

no_other_pairs : ReadsOtherPairs no_pairs
no_other_pairs vs rest zero bs s h = let e = length-append vs (token.Sign sign.CloseCurly ∷ rest) in absurd (omega (arith, e))
no_other_pairs vs rest (suc k) bs s h =
    elim s [
      | inl e ↦
          ap (λ xs. pairs_on (suc k) bs (xs ++ token.Sign sign.CloseCurly ∷ rest)) e
          ∙ rw (after_other sign.Comma sign.CloseCurly rest refl, after_here sign.CloseCurly rest) (ap (got rest) (sym (append-nil bs)))
      | inr e ↦
          ap (λ xs. pairs_on (suc k) bs (xs ++ token.Sign sign.CloseCurly ∷ rest)) e
          ∙ rw (after_here sign.Comma (token.Sign sign.CloseCurly ∷ rest), after_here sign.CloseCurly rest) (ap (got rest) (sym (append-nil bs)))
    ]

other_pairs_then : (p : PairTree) (ps : Pairs) → ReadsPair p → ReadsOtherPairs ps → ReadsOtherPairs (pair_then p ps)
other_pairs_then p ps rp rs vs rest zero bs s h = let e = ap (λ xs. length (xs ++ token.Sign sign.CloseCurly ∷ rest)) s.4 in absurd (omega (arith, e))
other_pairs_then p ps rp rs vs rest (suc k) bs s h =
    let us = s.0 in let ws = s.1 in
    let tail : List Token = ws ++ token.Sign sign.CloseCurly ∷ rest in
    let flat : vs ++ token.Sign sign.CloseCurly ∷ rest ≡ token.Sign sign.Comma ∷ (us ++ tail) = ap (λ xs. xs ++ token.Sign sign.CloseCurly ∷ rest) s.4 ∙ ap (λ xs. token.Sign sign.Comma ∷ xs) (append_assoc us ws (token.Sign sign.CloseCurly ∷ rest)) in
    let one = one_pair_then p rp us tail k bs s.2 (other_pairs_front ps ws rest s.3) (omega (arith, ap length flat)) in
    let later = rs ws rest k (bs ++ p ∷ []) s.3 (omega (arith, ap length flat, length-append us tail)) in
    ap (pairs_on (suc k) bs) flat ∙ rw (after_here sign.Comma (us ++ tail)) (one ∙ (later ∙ ap (got rest) (append_assoc bs (p ∷ []) (pair_list ps))))

none_paired : ReadsPairs no_pairs
none_paired vs rest zero bs s h = absurd (omega arith)
none_paired vs rest (suc k) bs s h = ap (λ xs. pairs (suc k) bs (xs ++ token.Sign sign.CloseCurly ∷ rest)) s ∙ rw (after_here sign.CloseCurly rest) (ap (got rest) (sym (append-nil bs)))

pairs_then : (p : PairTree) (ps : Pairs) → ReadsPair p → ReadsOtherPairs ps → ReadsPairs (pair_then p ps)
pairs_then p ps rp rs vs rest zero bs s h = absurd (omega arith)
pairs_then p ps rp rs vs rest (suc k) bs s h =
    let us = s.0 in let ws = s.1 in
    let tail : List Token = ws ++ token.Sign sign.CloseCurly ∷ rest in
    let flat : vs ++ token.Sign sign.CloseCurly ∷ rest ≡ us ++ tail = ap (λ xs. xs ++ token.Sign sign.CloseCurly ∷ rest) s.4 ∙ append_assoc us ws (token.Sign sign.CloseCurly ∷ rest) in
    let one = one_pair_then p rp us tail k bs s.2 (other_pairs_front ps ws rest s.3) (omega (arith, ap length flat)) in
    let later = rs ws rest k (bs ++ p ∷ []) s.3 (omega (arith, ap length flat, length-append us tail)) in
    ap (pairs (suc k) bs) flat ∙ (one ∙ (later ∙ ap (got rest) (append_assoc bs (p ∷ []) (pair_list ps))))

record_read : (ps : Pairs) → ReadsPairs ps → ReadsPrimary (a_record ps)
record_read ps r us rest zero s h = absurd (omega arith)
record_read ps r us rest (suc zero) s h = absurd (omega arith)
record_read ps r us rest (suc (suc k)) s h =
    let vs = s.0 in
    let tail : List Token = token.Sign sign.CloseCurly ∷ rest in
    let flat : us ++ rest ≡ token.Sign sign.OpenCurly ∷ (vs ++ tail) = ap (λ xs. xs ++ rest) s.2 ∙ ap (λ xs. token.Sign sign.OpenCurly ∷ xs) (append_assoc vs (token.Sign sign.CloseCurly ∷ []) rest) in
    let inner : pairs k [] (vs ++ tail) ≡ got rest (pair_list ps) = r vs rest k [] s.1 (omega (arith, ap length flat)) in
    let read : head (suc k) (token.Sign sign.OpenCurly ∷ (vs ++ tail)) ≡ Ok (a_record ps, rest) =
    rw (after_other sign.OpenRound sign.OpenCurly (vs ++ tail) refl, after_other sign.OpenSquare sign.OpenCurly (vs ++ tail) refl, after_here sign.OpenCurly (vs ++ tail), inner) (ap (λ x. got rest (a_record x)) (pairs_back ps)) in
    (suc k, omega (arith, ap length flat, length-append vs tail), ap (primary (suc (suc k))) flat ∙ rw read)

mutual
  pub reads : (e : Tree) → Reads e
  reads (a_number n) = from_primary (a_number n) (lit≤ tt) (number_read n)
  reads (a_text n) = from_primary (a_text n) (lit≤ tt) (text_read n)
  reads (a_name n) = from_primary (a_name n) (lit≤ tt) (word_read_so (a_name n) (λ us s. s))
  reads the_scope = from_primary the_scope (lit≤ tt) (word_read_so the_scope (λ us s. s))
  reads (a_constant c) = from_primary (a_constant c) (lit≤ tt) (word_read_so (a_constant c) (λ us s. s))
  reads (member_of t n) = from_primary (member_of t n) (lit≤ tt) (member_read t n (reads t).primaries)
  reads (item_of t i) = from_primary (item_of t i) (lit≤ tt) (item_read t i (reads t).primaries (reads i).expressions)
  reads (call_of t ts) = from_primary (call_of t ts) (lit≤ tt) (call_read t ts (reads t).primaries (reads_values ts))
  reads (a_list ts) = from_primary (a_list ts) (lit≤ tt) (list_read ts (reads_items ts))
  reads (a_record ps) = from_primary (a_record ps) (lit≤ tt) (record_read ps (reads_pairs ps))
  reads (in_brackets t) = from_primary (in_brackets t) (lit≤ tt) (bracket_read t (reads t))
  reads (signed o t) = from_unary (signed o t) (λ h. absurd (omega arith)) (signed_read o t (reads t).unaries)
  reads (combined o a b) = combined_read o a b (reads a) (reads b)
  reads (both_of a b) = both_read a b (reads a) (reads b)
  reads (either_of a b) = either_read a b (reads a) (reads b)
  reads (choice_of c a b) = from_ternary (choice_of c a b) refl (choice_read c a b (reads c) (reads a) (reads b))
  reads (assigned a b) = from_expression (assigned a b) refl (assign_read a b (reads a) (reads b))
  reads (filtered t n bs) = from_statement (filtered t n bs) refl (filter_read t n bs (reads t) (reads_arguments bs))

  reads_arguments : (ts : Trees) → ReadsArguments ts
  reads_arguments no_trees = no_arguments
  reads_arguments (tree_then t ts) = arguments_then t ts (reads t) (reads_arguments ts)

  reads_values : (ts : Trees) → ReadsValues ts
  reads_values no_trees = no_values
  reads_values (tree_then t ts) = values_then t ts (reads t) (reads_more ts)

  reads_more : (ts : Trees) → ReadsMore ts
  reads_more no_trees = no_more
  reads_more (tree_then t ts) = more_then t ts (reads t) (reads_more ts)

  reads_items : (ts : Trees) → ReadsItems ts
  reads_items no_trees = no_items
  reads_items (tree_then t ts) = items_then t ts (reads t) (reads_others ts)

  reads_others : (ts : Trees) → ReadsOthers ts
  reads_others no_trees = no_others
  reads_others (tree_then t ts) = others_then t ts (reads t) (reads_others ts)

  reads_pair : (p : PairTree) → ReadsPair p
  reads_pair (labelled l t) = labelled_read l t (reads t)
  reads_pair (shorthand n t) = shorthand_read n t
  reads_pair (computed i t) = computed_read i t (reads i) (reads t)

  reads_pairs : (ps : Pairs) → ReadsPairs ps
  reads_pairs no_pairs = none_paired
  reads_pairs (pair_then p ps) = pairs_then p ps (reads_pair p) (reads_other_pairs ps)

  reads_other_pairs : (ps : Pairs) → ReadsOtherPairs ps
  reads_other_pairs no_pairs = no_other_pairs
  reads_other_pairs (pair_then p ps) = other_pairs_then p ps (reads_pair p) (reads_other_pairs ps)

-- a program
filled : (t : Token) (ts : List Token) → nat_eq (length (t ∷ ts)) 0 ≡ false
filled t ts = grind (arith, nat_tests)

spelled_filled : (t : Tree) (us rest : List Token) → Spells t us → nat_eq (length (us ++ rest)) 0 ≡ false
spelled_filled t us rest s = let r = start t us s in ap (λ xs. nat_eq (length (xs ++ rest)) 0) r.whole ∙ filled r.t (r.vs ++ rest)

statement_on : (t : Tree) (us rest : List Token) (k : ℕ) (cs : List Tree) → Spells t us → Ends 1 rest → 32 * length (us ++ rest) + 21 ≤ k → statements (suc k) cs (us ++ rest) ≡ separated k (cs ++ t ∷ []) rest
statement_on t us rest k cs s d h = rw (spelled_filled t us rest s, not_before sign.Semicolon t us rest refl s, ended_statement t (reads t).statements us rest k s d h)

pub program_read : (bs : Trees) (ts : List Token) → IsProgram bs ts → (k : ℕ) (cs : List Tree) → 32 * length ts + 23 ≤ k → statements k cs ts ≡ Ok (cs ++ list_of bs)
program_read bs ts p zero cs h = absurd (omega arith)
program_read bs ts no_statement (suc k) cs h = ap Ok (sym (append-nil cs))
program_read bs ts (last_statement t us s) (suc zero) cs h = absurd (omega arith)
program_read bs ts (last_statement t us s) (suc (suc k)) cs h =
    ap (statements (suc (suc k)) cs) (sym (append-nil us)) ∙ statement_on t us [] (suc k) cs s (lit< tt) (omega (arith, ap length (append-nil us)))
program_read bs ts (empty_statement cs us p) (suc k) ds h = rw (filled (token.Sign sign.Semicolon) us, after_here sign.Semicolon us) (program_read cs us p k ds (omega arith))
program_read bs ts (statement_then t cs us vs s p) (suc zero) ds h = absurd (omega arith)
program_read bs ts (statement_then t cs us vs s p) (suc (suc k)) ds h =
    statement_on t us (token.Sign sign.Semicolon ∷ vs) (suc k) ds s (lit< tt) (omega arith)
    ∙ rw (filled (token.Sign sign.Semicolon) vs, after_here sign.Semicolon vs) (program_read cs vs p k (ds ++ t ∷ []) (omega (arith, length-append us (token.Sign sign.Semicolon ∷ vs))) ∙ ap Ok (append_assoc ds (t ∷ []) (list_of cs)))

-- a program within the limits is what the tokens are read as
pub parsed_so : (bs : Trees) (ts : List Token) (ps : List ℕ) (end : ℕ) → IsProgram bs ts → one_too_many 0 0 ts ≡ None → heights bs ≤ 100 → parsed ts ps end ≡ Ok bs
parsed_so bs ts ps end p n h =
    let read : statements (32 * length ts + 23) [] ts ≡ Ok (list_of bs) = program_read bs ts p (32 * length ts + 23) [] (omega arith) in
    let back : trees_from (list_of bs) ≡ bs = trees_back bs in
    let low_enough : nat_le (heights (trees_from (list_of bs))) 100 ≡ true = grind (arith, nat_tests) in
    rw (n, read) (if_true (nat_le (heights (trees_from (list_of bs))) 100) (Ok (trees_from (list_of bs))) (Err (parse_fault kinds.TooDeep 0)) low_enough ∙ ap Ok back)
