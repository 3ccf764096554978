-- What is spelled so is read so.
use Rattle.std.proofs.Common.{◌≡◌, ◌≤◌, ◌<◌, ◌+◌, ◌*◌, ◌-◌, ℕ, zero, suc, List, ◌++◌, length, refl, ◌∙◌, arith, length-append, lit≤}
use Rattle.std.specs.Prelude.{None, Ok}
use Rattle.ng_language.specs.Trees.{Tree}
use Rattle.ng_language.specs.Tokens.{after, unary_at, tightness}
use Rattle.ng_language.specs.Reading.{statement, filters, expression, assignment, ternary, choice, operators, operand, operations, unary, primary, postfix}
use Rattle.ng_language.specs.Grammar.{rank, Spells}
use Rattle.ng_language.specs.declared.syntax.Sign.TheVariants as sign
use Rattle.ng_language.specs.declared.syntax.Token.{Token}
use Rattle.ng_language.specs.declared.syntax.Level.{Level}
use Rattle.ng_language.specs.declared.syntax.Level.TheVariants as levels
use Rattle.ng_language.proofs.Fronts.{front, not_after, not_joint}

-- what follows binds more loosely
abbrev pub Ends : ℕ → List Token → Type 0
Ends l rest = front rest < l

pub postfix_ends : (j : ℕ) (e : Tree) (rest : List Token) → Ends 11 rest → 0 < j → postfix j e rest ≡ Ok (e, rest)
postfix_ends zero e rest d h = absurd (omega arith)
postfix_ends (suc j) e rest d h = rw (not_after sign.Dot rest d, not_after sign.OpenSquare rest d, not_after sign.OpenRound rest d)

pub operations_end : (j : ℕ) (l : Level) (e : Tree) (rest : List Token) → Ends (tightness l) rest → 0 < j → operations j l e rest ≡ Ok (e, rest)
operations_end zero l e rest d h = absurd (omega arith)
operations_end (suc j) l e rest d h = rw (not_joint l rest d)

pub choice_ends : (j : ℕ) (e : Tree) (rest : List Token) → Ends 3 rest → 0 < j → choice j e rest ≡ Ok (e, rest)
choice_ends zero e rest d h = absurd (omega arith)
choice_ends (suc j) e rest d h = rw (not_after sign.Question rest d)

pub assignment_ends : (j : ℕ) (e : Tree) (rest : List Token) → Ends 2 rest → 0 < j → assignment j e rest ≡ Ok (e, rest)
assignment_ends zero e rest d h = absurd (omega arith)
assignment_ends (suc j) e rest d h = rw (not_after sign.Assign rest d)

pub filters_end : (j : ℕ) (e : Tree) (rest : List Token) → Ends 1 rest → 0 < j → filters j e rest ≡ Ok (e, rest)
filters_end zero e rest d h = absurd (omega arith)
filters_end (suc j) e rest d h = rw (not_after sign.Bar rest d)

-- with room for all that is left, a tree is read up to its last part
abbrev pub ReadsPrimary : Tree → Type 0
ReadsPrimary e = (us rest : List Token) (k : ℕ) → Spells e us → 32 * length (us ++ rest) + 5 ≤ k → (j : ℕ) × (32 * length rest + 1 ≤ j) × (primary k (us ++ rest) ≡ postfix j e rest)

abbrev pub ReadsUnary : Tree → Type 0
ReadsUnary e = (us rest : List Token) (k : ℕ) → Spells e us → Ends 11 rest → 32 * length (us ++ rest) + 6 ≤ k → unary k (us ++ rest) ≡ Ok (e, rest)

abbrev pub ReadsOps : Level → Tree → Type 0
ReadsOps l e = (us rest : List Token) (k : ℕ) → Spells e us → Ends (suc (tightness l)) rest → 32 * length (us ++ rest) + (2 * (9 - tightness l) + 8) ≤ k → (j : ℕ) × (32 * length rest + 1 ≤ j) × (operators k l (us ++ rest) ≡ operations j l e rest)

abbrev pub ReadsOperand : Level → Tree → Type 0
ReadsOperand l e = (us rest : List Token) (k : ℕ) → Spells e us → Ends (suc (tightness l)) rest → 32 * length (us ++ rest) + (2 * (9 - tightness l) + 7) ≤ k → operand k l (us ++ rest) ≡ Ok (e, rest)

abbrev pub ReadsTernary : Tree → Type 0
ReadsTernary e = (us rest : List Token) (k : ℕ) → Spells e us → Ends 2 rest → 32 * length (us ++ rest) + 19 ≤ k → ternary k (us ++ rest) ≡ Ok (e, rest)

abbrev pub ReadsExpression : Tree → Type 0
ReadsExpression e = (us rest : List Token) (k : ℕ) → Spells e us → Ends 2 rest → 32 * length (us ++ rest) + 20 ≤ k → expression k (us ++ rest) ≡ Ok (e, rest)

abbrev pub ReadsStatement : Tree → Type 0
ReadsStatement e = (us rest : List Token) (k : ℕ) → Spells e us → Ends 2 rest → after sign.Colon rest ≡ None → 32 * length (us ++ rest) + 21 ≤ k → (j : ℕ) × (32 * length rest + 2 ≤ j) × (statement k (us ++ rest) ≡ filters j e rest)

pub record Reads (e : Tree) : Type 0 where
  pub primaries : 11 ≤ rank e → ReadsPrimary e
  pub unaries : 10 ≤ rank e → ReadsUnary e
  pub ops : (l : Level) → tightness l ≤ rank e → ReadsOps l e
  pub ternaries : 3 ≤ rank e → ReadsTernary e
  pub expressions : 2 ≤ rank e → ReadsExpression e
  pub statements : ReadsStatement e

-- from a tighter level to a looser one
pub unary_up : (e : Tree) → ((us rest : List Token) → Spells e us → unary_at (us ++ rest) ≡ None) → ReadsPrimary e → ReadsUnary e
unary_up e start p us rest zero s d h = absurd (omega arith)
unary_up e start p us rest (suc k) s d h =
    let r = p us rest k s (omega arith) in
    rw (start us rest s) (r.2 ∙ postfix_ends r.0 e rest d (omega (arith, r.1)))

pub term_up : (e : Tree) → ReadsUnary e → ReadsOps levels.Term e
term_up e u us rest zero s d h = absurd (omega arith)
term_up e u us rest (suc zero) s d h = absurd (omega arith)
term_up e u us rest (suc (suc k)) s d h = (suc k, omega (arith, length-append us rest), rw (u us rest k s (omega arith) (omega arith)))

level_up : (l m : Level) → ((k : ℕ) (ts : List Token) → operand (suc k) l ts ≡ operators k m ts) → tightness m ≡ suc (tightness l) → tightness m ≤ 9 → (e : Tree) → ReadsOps m e → ReadsOps l e
level_up l m step t low e o us rest zero s d h = absurd (omega arith)
level_up l m step t low e o us rest (suc zero) s d h = absurd (omega arith)
level_up l m step t low e o us rest (suc (suc k)) s d h =
    let r = o us rest k s (omega arith) (omega arith) in
    let one : operand (suc k) l (us ++ rest) ≡ Ok (e, rest) = step k (us ++ rest) ∙ (r.2 ∙ operations_end r.0 m e rest (omega arith) (omega (arith, r.1))) in
    (suc k, omega (arith, length-append us rest), rw one)

sum_up : (e : Tree) → ReadsOps levels.Term e → ReadsOps levels.Sum e
sum_up = level_up levels.Sum levels.Term (λ k ts. refl) refl (lit≤ tt)

relation_up : (e : Tree) → ReadsOps levels.Sum e → ReadsOps levels.Relation e
relation_up = level_up levels.Relation levels.Sum (λ k ts. refl) refl (lit≤ tt)

equality_up : (e : Tree) → ReadsOps levels.Relation e → ReadsOps levels.Equality e
equality_up = level_up levels.Equality levels.Relation (λ k ts. refl) refl (lit≤ tt)

and_up : (e : Tree) → ReadsOps levels.Equality e → ReadsOps levels.And e
and_up = level_up levels.And levels.Equality (λ k ts. refl) refl (lit≤ tt)

or_up : (e : Tree) → ReadsOps levels.And e → ReadsOps levels.Or e
or_up = level_up levels.Or levels.And (λ k ts. refl) refl (lit≤ tt)

-- a tree without a choice, also before a `=`
pub ternary_plain : (e : Tree) → ReadsOps levels.Or e → (us rest : List Token) (k : ℕ) → Spells e us → Ends 3 rest → 32 * length (us ++ rest) + 19 ≤ k → ternary k (us ++ rest) ≡ Ok (e, rest)
ternary_plain e o us rest zero s d h = absurd (omega arith)
ternary_plain e o us rest (suc k) s d h =
    let r = o us rest k s (omega arith) (omega arith) in
    let one : operators k levels.Or (us ++ rest) ≡ Ok (e, rest) = r.2 ∙ operations_end r.0 levels.Or e rest (omega arith) (omega (arith, r.1)) in
    rw one (choice_ends k e rest d (omega arith))

pub ternary_up : (e : Tree) → ReadsOps levels.Or e → ReadsTernary e
ternary_up e o us rest k s d h = ternary_plain e o us rest k s (omega arith) h

expression_up : (e : Tree) → ReadsTernary e → ReadsExpression e
expression_up e t us rest zero s d h = absurd (omega arith)
expression_up e t us rest (suc k) s d h = rw (t us rest k s (omega arith) (omega arith)) (assignment_ends k e rest d (omega arith))

statement_up : (e : Tree) → ReadsExpression e → ReadsStatement e
statement_up e x us rest zero s d n h = absurd (omega arith)
statement_up e x us rest (suc k) s d n h = (k, omega (arith, length-append us rest), rw (x us rest k s d (omega arith)))

pub tight_low : (l : Level) → tightness l ≤ 9
tight_low levels.Or = lit≤ tt
tight_low levels.And = lit≤ tt
tight_low levels.Equality = lit≤ tt
tight_low levels.Relation = lit≤ tt
tight_low levels.Sum = lit≤ tt
tight_low levels.Term = lit≤ tt

pub tight_high : (l : Level) → 4 ≤ tightness l
tight_high levels.Or = lit≤ tt
tight_high levels.And = lit≤ tt
tight_high levels.Equality = lit≤ tt
tight_high levels.Relation = lit≤ tt
tight_high levels.Sum = lit≤ tt
tight_high levels.Term = lit≤ tt

loosen : (e : Tree) (l m : Level) → tightness l ≤ tightness m → ReadsOps m e → ReadsOps l e
loosen e levels.Or levels.Or h o = o
loosen e levels.Or levels.And h o = or_up e o
loosen e levels.Or levels.Equality h o = or_up e (and_up e o)
loosen e levels.Or levels.Relation h o = or_up e (and_up e (equality_up e o))
loosen e levels.Or levels.Sum h o = or_up e (and_up e (equality_up e (relation_up e o)))
loosen e levels.Or levels.Term h o = or_up e (and_up e (equality_up e (relation_up e (sum_up e o))))
loosen e levels.And levels.Or h o = absurd (omega arith)
loosen e levels.And levels.And h o = o
loosen e levels.And levels.Equality h o = and_up e o
loosen e levels.And levels.Relation h o = and_up e (equality_up e o)
loosen e levels.And levels.Sum h o = and_up e (equality_up e (relation_up e o))
loosen e levels.And levels.Term h o = and_up e (equality_up e (relation_up e (sum_up e o)))
loosen e levels.Equality levels.Or h o = absurd (omega arith)
loosen e levels.Equality levels.And h o = absurd (omega arith)
loosen e levels.Equality levels.Equality h o = o
loosen e levels.Equality levels.Relation h o = equality_up e o
loosen e levels.Equality levels.Sum h o = equality_up e (relation_up e o)
loosen e levels.Equality levels.Term h o = equality_up e (relation_up e (sum_up e o))
loosen e levels.Relation levels.Or h o = absurd (omega arith)
loosen e levels.Relation levels.And h o = absurd (omega arith)
loosen e levels.Relation levels.Equality h o = absurd (omega arith)
loosen e levels.Relation levels.Relation h o = o
loosen e levels.Relation levels.Sum h o = relation_up e o
loosen e levels.Relation levels.Term h o = relation_up e (sum_up e o)
loosen e levels.Sum levels.Or h o = absurd (omega arith)
loosen e levels.Sum levels.And h o = absurd (omega arith)
loosen e levels.Sum levels.Equality h o = absurd (omega arith)
loosen e levels.Sum levels.Relation h o = absurd (omega arith)
loosen e levels.Sum levels.Sum h o = o
loosen e levels.Sum levels.Term h o = sum_up e o
loosen e levels.Term levels.Or h o = absurd (omega arith)
loosen e levels.Term levels.And h o = absurd (omega arith)
loosen e levels.Term levels.Equality h o = absurd (omega arith)
loosen e levels.Term levels.Relation h o = absurd (omega arith)
loosen e levels.Term levels.Sum h o = absurd (omega arith)
loosen e levels.Term levels.Term h o = o

pub from_statement : (e : Tree) → rank e ≡ 1 → ReadsStatement e → Reads e
from_statement e r s = record {
  primaries = λ h. absurd (omega arith);
  unaries = λ h. absurd (omega arith);
  ops = λ l h. absurd (omega (arith, tight_high l));
  ternaries = λ h. absurd (omega arith);
  expressions = λ h. absurd (omega arith);
  statements = s;
}

pub from_expression : (e : Tree) → rank e ≡ 2 → ReadsExpression e → Reads e
from_expression e r x = record {
  primaries = λ h. absurd (omega arith);
  unaries = λ h. absurd (omega arith);
  ops = λ l h. absurd (omega (arith, tight_high l));
  ternaries = λ h. absurd (omega arith);
  expressions = λ h. x;
  statements = statement_up e x;
}

pub from_ternary : (e : Tree) → rank e ≡ 3 → ReadsTernary e → Reads e
from_ternary e r t = record {
  primaries = λ h. absurd (omega arith);
  unaries = λ h. absurd (omega arith);
  ops = λ l h. absurd (omega (arith, tight_high l));
  ternaries = λ h. t;
  expressions = λ h. expression_up e t;
  statements = statement_up e (expression_up e t);
}

pub from_ops : (e : Tree) (m : Level) → rank e ≡ tightness m → ReadsOps m e → Reads e
from_ops e m r o =
    let t = ternary_up e (loosen e levels.Or m (tight_high m) o) in
    record {
      primaries = λ h. absurd (omega (arith, tight_low m));
      unaries = λ h. absurd (omega (arith, tight_low m));
      ops = λ l h. loosen e l m (omega arith) o;
      ternaries = λ h. t;
      expressions = λ h. expression_up e t;
      statements = statement_up e (expression_up e t);
    }

pub from_unary : (e : Tree) → (11 ≤ rank e → ReadsPrimary e) → ReadsUnary e → Reads e
from_unary e p u =
    let t = ternary_up e (loosen e levels.Or levels.Term (lit≤ tt) (term_up e u)) in
    record {
      primaries = p;
      unaries = λ h. u;
      ops = λ l h. loosen e l levels.Term (tight_low l) (term_up e u);
      ternaries = λ h. t;
      expressions = λ h. expression_up e t;
      statements = statement_up e (expression_up e t);
    }
