-- What is spelled so is read so: each tree.
use Rattle.std.proofs.Common.{◌≡◌, ◌≤◌, ◌+◌, ◌*◌, ◌-◌, ℕ, zero, suc, true, false, List, [], ◌∷◌, ◌++◌, length, refl, ap, ◌∙◌, sym, subst, arith, length-append, append_assoc, lit<, lit≤}
use Rattle.std.specs.Prelude.{Some, None, Ok, codes}
use Rattle.ng_language.specs.Trees.{Tree, a_number, a_text, a_name, the_scope, a_constant, member_of, item_of, call_of, a_list, a_record, in_brackets, signed, combined, both_of, either_of, choice_of, assigned, filtered}
use Rattle.ng_language.specs.Tokens.{after, unary_at, joint_of, tightness}
use Rattle.ng_language.specs.Reading.{Read, word_tree, joined, statement, expression, operators, operand, operations, unary, primary, postfix, head}
use Rattle.ng_language.specs.Grammar.{sign_of_unary, sign_of_binary, binary_rank, rank, At, IsWordOf, Spells}
use Rattle.ng_language.specs.declared.syntax.Sign.{Sign}
use Rattle.ng_language.specs.declared.syntax.Sign.TheVariants as sign
use Rattle.ng_language.specs.declared.syntax.Token.{Token}
use Rattle.ng_language.specs.declared.syntax.Token.TheVariants as token
use Rattle.ng_language.specs.declared.syntax.Unary.{Unary}
use Rattle.ng_language.specs.declared.syntax.Unary.TheVariants as unaries
use Rattle.std.specs.Str.{bytes_eq}
use Rattle.ng_language.specs.declared.syntax.Binary.{Binary}
use Rattle.ng_language.specs.declared.syntax.Binary.TheVariants as binaries
use Rattle.ng_language.specs.declared.syntax.Level.{Level}
use Rattle.ng_language.specs.declared.syntax.Level.TheVariants as levels
use Rattle.ng_language.specs.declared.syntax.Joint.{Joint}
use Rattle.ng_language.specs.declared.syntax.Joint.TheVariants as joints
use Rattle.ng_language.proofs.Fronts.{after_here, after_other, after_name, after_number, after_text, name_here, unary_here, joint_here, joint_strength, not_after, begins, begins_primary, begins_not, not_unary}
use Rattle.ng_language.proofs.Climb.{Ends, operations_end, filters_end, ReadsPrimary, ReadsUnary, ReadsOps, ReadsOperand, ReadsExpression, ReadsStatement, Reads, unary_up, from_ops, from_unary}

-- what a tree's tokens begin with
pub record Start (e : Tree) (us : List Token) : Type 0 where
  pub t : Token
  pub vs : List Token
  pub whole : us ≡ t ∷ vs
  pub opens : begins t ≡ true
  pub opens_primary : 11 ≤ rank e → begins_primary t ≡ true

begun : (e f : Tree) (us vs : List Token) → (11 ≤ rank f → 11 ≤ rank e) → Start e us → Start f (us ++ vs)
begun e f us vs up s = record { t = s.t; vs = s.vs ++ vs; whole = ap (λ xs. xs ++ vs) s.whole; opens = s.opens; opens_primary = λ h. s.opens_primary (up h) }

respelled : (e : Tree) (us vs : List Token) → us ≡ vs → Start e vs → Start e us
respelled e us vs h s = record { t = s.t; vs = s.vs; whole = h ∙ s.whole; opens = s.opens; opens_primary = s.opens_primary }

word_start : (e : Tree) (us : List Token) → IsWordOf e us → Start e us
word_start e us w = record { t = token.Name w.0; vs = []; whole = w.1; opens = refl; opens_primary = λ h. refl }

sign_start : (e : Tree) (us vs : List Token) (s : Sign) → us ≡ token.Sign s ∷ vs → begins (token.Sign s) ≡ true → (11 ≤ rank e → begins_primary (token.Sign s) ≡ true) → Start e us
sign_start e us vs s h b p = record { t = token.Sign s; vs = vs; whole = h; opens = b; opens_primary = p }

unary_begins : (o : Unary) → begins (token.Sign (sign_of_unary o)) ≡ true
unary_begins unaries.Plus = refl
unary_begins unaries.Minus = refl
unary_begins unaries.Not = refl

binary_low : (o : Binary) → binary_rank o ≤ 9
binary_low binaries.Multiply = lit≤ tt
binary_low binaries.Divide = lit≤ tt
binary_low binaries.Remainder = lit≤ tt
binary_low binaries.Add = lit≤ tt
binary_low binaries.Subtract = lit≤ tt
binary_low binaries.Less = lit≤ tt
binary_low binaries.Greater = lit≤ tt
binary_low binaries.AtMost = lit≤ tt
binary_low binaries.AtLeast = lit≤ tt
binary_low binaries.Equal = lit≤ tt
binary_low binaries.NotEqual = lit≤ tt
binary_low binaries.Same = lit≤ tt
binary_low binaries.NotSame = lit≤ tt

pub start : (e : Tree) (us : List Token) → Spells e us → Start e us
start (a_number n) us s = record { t = token.Number n; vs = []; whole = s; opens = refl; opens_primary = λ h. refl }
start (a_text n) us s = record { t = token.Text n; vs = []; whole = s; opens = refl; opens_primary = λ h. refl }
start (a_name n) us s = word_start (a_name n) us s
start the_scope us s = word_start the_scope us s
start (a_constant c) us s = word_start (a_constant c) us s
start (member_of t n) us s = respelled (member_of t n) us (s.0 ++ token.Sign sign.Dot ∷ token.Name n ∷ []) s.2 (begun t (member_of t n) s.0 (token.Sign sign.Dot ∷ token.Name n ∷ []) (λ h. s.1.0) (start t s.0 s.1.1))
start (item_of t i) us s = respelled (item_of t i) us (s.0 ++ token.Sign sign.OpenSquare ∷ (s.1 ++ token.Sign sign.CloseSquare ∷ [])) s.4 (begun t (item_of t i) s.0 (token.Sign sign.OpenSquare ∷ (s.1 ++ token.Sign sign.CloseSquare ∷ [])) (λ h. s.2.0) (start t s.0 s.2.1))
start (call_of t ts) us s = respelled (call_of t ts) us (s.0 ++ token.Sign sign.OpenRound ∷ (s.1 ++ token.Sign sign.CloseRound ∷ [])) s.4 (begun t (call_of t ts) s.0 (token.Sign sign.OpenRound ∷ (s.1 ++ token.Sign sign.CloseRound ∷ [])) (λ h. s.2.0) (start t s.0 s.2.1))
start (a_list ts) us s = sign_start (a_list ts) us (s.0 ++ token.Sign sign.CloseSquare ∷ []) sign.OpenSquare s.2 refl (λ h. refl)
start (a_record ps) us s = sign_start (a_record ps) us (s.0 ++ token.Sign sign.CloseCurly ∷ []) sign.OpenCurly s.2 refl (λ h. refl)
start (in_brackets t) us s = sign_start (in_brackets t) us (s.0 ++ token.Sign sign.CloseRound ∷ []) sign.OpenRound s.2 refl (λ h. refl)
start (signed o t) us s = sign_start (signed o t) us s.0 (sign_of_unary o) s.2 (unary_begins o) (λ h. absurd (omega arith))
start (combined o a b) us s = respelled (combined o a b) us (s.0 ++ token.Sign (sign_of_binary o) ∷ s.1) s.4 (begun a (combined o a b) s.0 (token.Sign (sign_of_binary o) ∷ s.1) (λ h. absurd (omega (arith, binary_low o))) (start a s.0 s.2.1))
start (both_of a b) us s = respelled (both_of a b) us (s.0 ++ token.Sign sign.And ∷ s.1) s.4 (begun a (both_of a b) s.0 (token.Sign sign.And ∷ s.1) (λ h. absurd (omega arith)) (start a s.0 s.2.1))
start (either_of a b) us s = respelled (either_of a b) us (s.0 ++ token.Sign sign.Or ∷ s.1) s.4 (begun a (either_of a b) s.0 (token.Sign sign.Or ∷ s.1) (λ h. absurd (omega arith)) (start a s.0 s.2.1))
start (choice_of d a b) us s = respelled (choice_of d a b) us (s.0 ++ token.Sign sign.Question ∷ (s.1 ++ token.Sign sign.Colon ∷ s.2)) s.6 (begun d (choice_of d a b) s.0 (token.Sign sign.Question ∷ (s.1 ++ token.Sign sign.Colon ∷ s.2)) (λ h. absurd (omega arith)) (start d s.0 s.3.1))
start (assigned a b) us s = respelled (assigned a b) us (s.0 ++ token.Sign sign.Assign ∷ s.1) s.5 (begun a (assigned a b) s.0 (token.Sign sign.Assign ∷ s.1) (λ h. absurd (omega arith)) (start a s.0 s.3))
start (filtered t n bs) us s = respelled (filtered t n bs) us (s.0 ++ token.Sign sign.Bar ∷ token.Name n ∷ s.1) s.4 (begun t (filtered t n bs) s.0 (token.Sign sign.Bar ∷ token.Name n ∷ s.1) (λ h. absurd (omega arith)) (start t s.0 s.2))

-- a tree doesn't begin with a sign that ends one
pub not_before : (s : Sign) (e : Tree) (us rest : List Token) → begins (token.Sign s) ≡ false → Spells e us → after s (us ++ rest) ≡ None
not_before s e us rest b h = let r = start e us h in ap (λ xs. after s (xs ++ rest)) r.whole ∙ begins_not s r.t (r.vs ++ rest) b r.opens

no_unary : (e : Tree) → 11 ≤ rank e → (us rest : List Token) → Spells e us → unary_at (us ++ rest) ≡ None
no_unary e p us rest h = let r = start e us h in ap (λ xs. unary_at (xs ++ rest)) r.whole ∙ not_unary r.t (r.vs ++ rest) (r.opens_primary p)

pub from_primary : (e : Tree) → 11 ≤ rank e → ReadsPrimary e → Reads e
from_primary e r p = from_unary e (λ h. p) (unary_up e (no_unary e r) p)

-- trees of one token
pub one_read : (e : Tree) → ((us : List Token) → Spells e us → (t : Token) × (us ≡ t ∷ []) × ((rest : List Token) (k : ℕ) → head (suc k) (t ∷ rest) ≡ Ok (e, rest))) → ReadsPrimary e
one_read e f us rest zero s h = absurd (omega arith)
one_read e f us rest (suc zero) s h = let r = f us s in absurd (omega (arith, ap (λ xs. length (xs ++ rest)) r.1))
one_read e f us rest (suc (suc k)) s h =
    let r = f us s in
    let flat : us ++ rest ≡ r.0 ∷ rest = ap (λ xs. xs ++ rest) r.1 in
    (suc k, omega (arith, ap length flat), ap (primary (suc (suc k))) flat ∙ rw (r.2 rest k))

word_head : (e : Tree) (n : List ℕ) (rest : List Token) (k : ℕ) → word_tree n ≡ e → bytes_eq n (codes "$locals") ≡ false → head (suc k) (token.Name n ∷ rest) ≡ Ok (e, rest)
word_head e n rest k w l = rw (after_name sign.OpenRound n rest, after_name sign.OpenSquare n rest, after_name sign.OpenCurly n rest, l) (ap (λ t. word_read t rest) w)
  where
    word_read : Tree → List Token → Read Tree
    word_read t ts = Ok (t, ts)

pub word_read_so : (e : Tree) → ((us : List Token) → Spells e us → IsWordOf e us) → ReadsPrimary e
word_read_so e f = one_read e (λ us s. let w = f us s in (token.Name w.0, w.1, λ rest k. word_head e w.0 rest k w.2 w.3))

pub number_read : (n : ℕ) → ReadsPrimary (a_number n)
number_read n = one_read (a_number n) (λ us s. (token.Number n, s, λ rest k. rw (after_number sign.OpenRound n rest, after_number sign.OpenSquare n rest, after_number sign.OpenCurly n rest)))

pub text_read : (n : List ℕ) → ReadsPrimary (a_text n)
text_read n = one_read (a_text n) (λ us s. (token.Text n, s, λ rest k. rw (after_text sign.OpenRound n rest, after_text sign.OpenSquare n rest, after_text sign.OpenCurly n rest)))

-- a statement that ends before a sign that goes on with nothing
pub ended_statement : (e : Tree) → ReadsStatement e → (us rest : List Token) (k : ℕ) → Spells e us → Ends 1 rest → 32 * length (us ++ rest) + 21 ≤ k → statement k (us ++ rest) ≡ Ok (e, rest)
ended_statement e r us rest k s d h = let x = r us rest k s (omega arith) (not_after sign.Colon rest d) h in x.2 ∙ filters_end x.0 e rest d (omega (arith, x.1))

pub bracket_read : (e : Tree) → Reads e → ReadsPrimary (in_brackets e)
bracket_read e r us rest zero s h = absurd (omega arith)
bracket_read e r us rest (suc zero) s h = absurd (omega arith)
bracket_read e r us rest (suc (suc k)) s h =
    let vs = s.0 in
    let tail : List Token = token.Sign sign.CloseRound ∷ rest in
    let flat : us ++ rest ≡ token.Sign sign.OpenRound ∷ (vs ++ tail) = ap (λ ts. ts ++ rest) s.2 ∙ ap (λ ts. token.Sign sign.OpenRound ∷ ts) (append_assoc vs (token.Sign sign.CloseRound ∷ []) rest) in
    let inner : statement k (vs ++ tail) ≡ Ok (e, tail) = ended_statement e r.statements vs tail k s.1 (lit< tt) (omega (arith, ap length flat)) in
    let read : head (suc k) (token.Sign sign.OpenRound ∷ (vs ++ tail)) ≡ Ok (in_brackets e, rest) = rw (after_here sign.OpenRound (vs ++ tail), inner, after_here sign.CloseRound rest) in
    (suc k, omega (arith, ap length flat, length-append vs tail), ap (primary (suc (suc k))) flat ∙ rw read)

pub member_read : (e : Tree) (n : List ℕ) → (11 ≤ rank e → ReadsPrimary e) → ReadsPrimary (member_of e n)
member_read e n p us rest k s h =
    let vs = s.0 in
    let tail : List Token = token.Sign sign.Dot ∷ token.Name n ∷ rest in
    let flat : us ++ rest ≡ vs ++ tail = ap (λ ts. ts ++ rest) s.2 ∙ append_assoc vs (token.Sign sign.Dot ∷ token.Name n ∷ []) rest in
    let inner = p s.1.0 vs tail k s.1.1 (subst (λ (ts : List Token). 32 * length ts + 5 ≤ k) flat h) in
    let one = one_member inner.0 (omega (arith, inner.1)) in
    (one.0, one.1, ap (primary k) flat ∙ (inner.2 ∙ one.2))
  where
    one_member : (j : ℕ) → 32 * (2 + length rest) + 1 ≤ j → (i : ℕ) × (32 * length rest + 1 ≤ i) × (postfix j e (token.Sign sign.Dot ∷ token.Name n ∷ rest) ≡ postfix i (member_of e n) rest)
    one_member zero l = absurd (omega arith)
    one_member (suc j) l = (j, omega arith, rw (after_here sign.Dot (token.Name n ∷ rest), name_here n rest))

pub item_read : (e i : Tree) → (11 ≤ rank e → ReadsPrimary e) → (2 ≤ rank i → ReadsExpression i) → ReadsPrimary (item_of e i)
item_read e i p x us rest k s h =
    let vs = s.0 in let ws = s.1 in
    let close : List Token = token.Sign sign.CloseSquare ∷ rest in
    let tail : List Token = token.Sign sign.OpenSquare ∷ (ws ++ close) in
    let flat : us ++ rest ≡ vs ++ tail =
    ap (λ ts. ts ++ rest) s.4
    ∙ (append_assoc vs (token.Sign sign.OpenSquare ∷ (ws ++ token.Sign sign.CloseSquare ∷ [])) rest
    ∙ ap (λ ts. vs ++ token.Sign sign.OpenSquare ∷ ts) (append_assoc ws (token.Sign sign.CloseSquare ∷ []) rest)) in
    let inner = p s.2.0 vs tail k s.2.1 (subst (λ (ts : List Token). 32 * length ts + 5 ≤ k) flat h) in
    let one = one_item inner.0 ws s.3 (omega (arith, inner.1)) in
    (one.0, one.1, ap (primary k) flat ∙ (inner.2 ∙ one.2))
  where
    one_item : (j : ℕ) (ws : List Token) → At 2 i (Spells i ws) → 32 * (1 + length (ws ++ token.Sign sign.CloseSquare ∷ rest)) + 1 ≤ j →
        (m : ℕ) × (32 * length rest + 1 ≤ m) × (postfix j e (token.Sign sign.OpenSquare ∷ (ws ++ token.Sign sign.CloseSquare ∷ rest)) ≡ postfix m (item_of e i) rest)
    one_item zero ws s l = absurd (omega arith)
    one_item (suc j) ws s l =
        let close : List Token = token.Sign sign.CloseSquare ∷ rest in
        let read : expression j (ws ++ close) ≡ Ok (i, close) = x s.0 ws close j s.1 (lit< tt) (omega arith) in
        (j, omega (arith, length-append ws close), rw (after_other sign.Dot sign.OpenSquare (ws ++ close) refl, after_here sign.OpenSquare (ws ++ close), read, after_here sign.CloseSquare rest))

-- a unary operator
pub signed_read : (o : Unary) (e : Tree) → (10 ≤ rank e → ReadsUnary e) → ReadsUnary (signed o e)
signed_read o e u us rest zero s d h = absurd (omega arith)
signed_read o e u us rest (suc k) s d h =
    let vs = s.0 in
    let flat : us ++ rest ≡ token.Sign (sign_of_unary o) ∷ (vs ++ rest) = ap (λ ts. ts ++ rest) s.2 in
    let read : unary k (vs ++ rest) ≡ Ok (e, rest) = u s.1.0 vs rest k s.1.1 d (omega (arith, ap length flat)) in
    ap (unary (suc k)) flat ∙ rw (unary_here o (vs ++ rest), read)

-- operators between two operands
operand_up : (l m : Level) → ((k : ℕ) (ts : List Token) → operand (suc k) l ts ≡ operators k m ts) → tightness m ≡ suc (tightness l) → tightness m ≤ 9 → (e : Tree) → ReadsOps m e → ReadsOperand l e
operand_up l m step t low e o us rest zero s d h = absurd (omega arith)
operand_up l m step t low e o us rest (suc k) s d h =
    let r = o us rest k s (omega arith) (omega arith) in
    step k (us ++ rest) ∙ (r.2 ∙ operations_end r.0 m e rest (omega arith) (omega (arith, r.1)))

term_operand : (e : Tree) → ReadsUnary e → ReadsOperand levels.Term e
term_operand e u us rest zero s d h = absurd (omega arith)
term_operand e u us rest (suc k) s d h = u us rest k s (omega arith) (omega arith)

operand_read : (l : Level) (e : Tree) → Reads e → suc (tightness l) ≤ rank e → ReadsOperand l e
operand_read levels.Or e r h = operand_up levels.Or levels.And (λ k ts. refl) refl (lit≤ tt) e (r.ops levels.And h)
operand_read levels.And e r h = operand_up levels.And levels.Equality (λ k ts. refl) refl (lit≤ tt) e (r.ops levels.Equality h)
operand_read levels.Equality e r h = operand_up levels.Equality levels.Relation (λ k ts. refl) refl (lit≤ tt) e (r.ops levels.Relation h)
operand_read levels.Relation e r h = operand_up levels.Relation levels.Sum (λ k ts. refl) refl (lit≤ tt) e (r.ops levels.Sum h)
operand_read levels.Sum e r h = operand_up levels.Sum levels.Term (λ k ts. refl) refl (lit≤ tt) e (r.ops levels.Term h)
operand_read levels.Term e r h = term_operand e (r.unaries h)

joint_read : (l : Level) (j : Joint) (g : Sign) (a b : Tree) → joint_of l g ≡ Some j → (tightness l ≤ rank a → ReadsOps l a) → (suc (tightness l) ≤ rank b → ReadsOperand l b) →
    (us vs rest : List Token) (k : ℕ) → At (tightness l) a (Spells a us) → At (suc (tightness l)) b (Spells b vs) → Ends (suc (tightness l)) rest → 32 * length (us ++ token.Sign g ∷ (vs ++ rest)) + (2 * (9 - tightness l) + 8) ≤ k →
    (i : ℕ) × (32 * length rest + 1 ≤ i) × (operators k l (us ++ token.Sign g ∷ (vs ++ rest)) ≡ operations i l (joined j a b) rest)
joint_read l j g a b is ra rb us vs rest k sa sb d h =
    let first = ra sa.0 us (token.Sign g ∷ (vs ++ rest)) k sa.1 (omega (arith, joint_strength l g j is)) h in
    let one = one_more first.0 (omega (arith, first.1)) in
    (one.0, one.1, first.2 ∙ one.2)
  where
    one_more : (m : ℕ) → 32 * (1 + length (vs ++ rest)) + 1 ≤ m → (i : ℕ) × (32 * length rest + 1 ≤ i) × (operations m l a (token.Sign g ∷ (vs ++ rest)) ≡ operations i l (joined j a b) rest)
    one_more zero q = absurd (omega arith)
    one_more (suc m) q =
        let read : operand m l (vs ++ rest) ≡ Ok (b, rest) = rb sb.0 vs rest m sb.1 d (omega arith) in
        (m, omega (arith, length-append vs rest), rw (joint_here l g j (vs ++ rest) is, read))

joined_read : (e : Tree) (l : Level) (j : Joint) (g : Sign) (a b : Tree) → joint_of l g ≡ Some j → Reads a → Reads b →
    ((us : List Token) → Spells e us → (vs : List Token) × (ws : List Token) × At (tightness l) a (Spells a vs) × At (suc (tightness l)) b (Spells b ws) × (us ≡ vs ++ token.Sign g ∷ ws)) → e ≡ joined j a b → ReadsOps l e
joined_read e l j g a b is ra rb f same us rest k s d h =
    let p = f us s in
    let flat : us ++ rest ≡ p.0 ++ token.Sign g ∷ (p.1 ++ rest) = ap (λ ts. ts ++ rest) p.4 ∙ append_assoc p.0 (token.Sign g ∷ p.1) rest in
    let r = joint_read l j g a b is (ra.ops l) (λ low. operand_read l b rb low) p.0 p.1 rest k p.2 p.3 d (subst (λ (ts : List Token). 32 * length ts + (2 * (9 - tightness l) + 8) ≤ k) flat h) in
    (r.0, r.1, ap (operators k l) flat ∙ (r.2 ∙ ap (λ t. operations r.0 l t rest) (sym same)))

pub combined_read : (o : Binary) (a b : Tree) → Reads a → Reads b → Reads (combined o a b)
combined_read binaries.Multiply a b ra rb = let e : Tree = combined binaries.Multiply a b in from_ops e levels.Term refl (joined_read e levels.Term (joints.Operator binaries.Multiply) (sign_of_binary binaries.Multiply) a b refl ra rb (λ us s. s) refl)
combined_read binaries.Divide a b ra rb = let e : Tree = combined binaries.Divide a b in from_ops e levels.Term refl (joined_read e levels.Term (joints.Operator binaries.Divide) (sign_of_binary binaries.Divide) a b refl ra rb (λ us s. s) refl)
combined_read binaries.Remainder a b ra rb = let e : Tree = combined binaries.Remainder a b in from_ops e levels.Term refl (joined_read e levels.Term (joints.Operator binaries.Remainder) (sign_of_binary binaries.Remainder) a b refl ra rb (λ us s. s) refl)
combined_read binaries.Add a b ra rb = let e : Tree = combined binaries.Add a b in from_ops e levels.Sum refl (joined_read e levels.Sum (joints.Operator binaries.Add) (sign_of_binary binaries.Add) a b refl ra rb (λ us s. s) refl)
combined_read binaries.Subtract a b ra rb = let e : Tree = combined binaries.Subtract a b in from_ops e levels.Sum refl (joined_read e levels.Sum (joints.Operator binaries.Subtract) (sign_of_binary binaries.Subtract) a b refl ra rb (λ us s. s) refl)
combined_read binaries.Less a b ra rb = let e : Tree = combined binaries.Less a b in from_ops e levels.Relation refl (joined_read e levels.Relation (joints.Operator binaries.Less) (sign_of_binary binaries.Less) a b refl ra rb (λ us s. s) refl)
combined_read binaries.Greater a b ra rb = let e : Tree = combined binaries.Greater a b in from_ops e levels.Relation refl (joined_read e levels.Relation (joints.Operator binaries.Greater) (sign_of_binary binaries.Greater) a b refl ra rb (λ us s. s) refl)
combined_read binaries.AtMost a b ra rb = let e : Tree = combined binaries.AtMost a b in from_ops e levels.Relation refl (joined_read e levels.Relation (joints.Operator binaries.AtMost) (sign_of_binary binaries.AtMost) a b refl ra rb (λ us s. s) refl)
combined_read binaries.AtLeast a b ra rb = let e : Tree = combined binaries.AtLeast a b in from_ops e levels.Relation refl (joined_read e levels.Relation (joints.Operator binaries.AtLeast) (sign_of_binary binaries.AtLeast) a b refl ra rb (λ us s. s) refl)
combined_read binaries.Equal a b ra rb = let e : Tree = combined binaries.Equal a b in from_ops e levels.Equality refl (joined_read e levels.Equality (joints.Operator binaries.Equal) (sign_of_binary binaries.Equal) a b refl ra rb (λ us s. s) refl)
combined_read binaries.NotEqual a b ra rb = let e : Tree = combined binaries.NotEqual a b in from_ops e levels.Equality refl (joined_read e levels.Equality (joints.Operator binaries.NotEqual) (sign_of_binary binaries.NotEqual) a b refl ra rb (λ us s. s) refl)
combined_read binaries.Same a b ra rb = let e : Tree = combined binaries.Same a b in from_ops e levels.Equality refl (joined_read e levels.Equality (joints.Operator binaries.Same) (sign_of_binary binaries.Same) a b refl ra rb (λ us s. s) refl)
combined_read binaries.NotSame a b ra rb = let e : Tree = combined binaries.NotSame a b in from_ops e levels.Equality refl (joined_read e levels.Equality (joints.Operator binaries.NotSame) (sign_of_binary binaries.NotSame) a b refl ra rb (λ us s. s) refl)

pub both_read : (a b : Tree) → Reads a → Reads b → Reads (both_of a b)
both_read a b ra rb = from_ops (both_of a b) levels.And refl (joined_read (both_of a b) levels.And joints.And sign.And a b refl ra rb (λ us s. s) refl)

pub either_read : (a b : Tree) → Reads a → Reads b → Reads (either_of a b)
either_read a b ra rb = from_ops (either_of a b) levels.Or refl (joined_read (either_of a b) levels.Or joints.Or sign.Or a b refl ra rb (λ us s. s) refl)
