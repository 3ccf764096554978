use Rattle.std.proofs.Common.{rules, zero, suc, arith}
use Rattle.ng_parse.proofs.statements.+statements.Goals as goal

pub read_statements-returns-in-Some : goal.read_statements-returns-in-Some
read_statements-returns-in-Some t c zero h = absurd (omega arith)
read_statements-returns-in-Some t c (suc k) h = rw (← c.if-is_empty.ensures, c.in-Some.ensures.value) (c.read_statements.ensures k (omega (arith, c.in-Some.ensures.less)))

pub read_statements-returns-in_err-e : goal.read_statements-returns-in_err-e
read_statements-returns-in_err-e t c zero h = absurd (omega arith)
read_statements-returns-in_err-e t c (suc k) h = rw (← c.if-is_empty.ensures, c.in_default.ensures.value) (search (rules, c.in_err-e.ensures.read k (omega arith)))

pub read_statements-returns : goal.read_statements-returns
read_statements-returns t c zero h = absurd (omega arith)
read_statements-returns t c (suc k) h =
    rw (← c.if-is_empty.ensures, c.in_default.ensures.value, c.in_ok-e.ensures.read k (omega arith))
    (rw c.in_ok-done.ensures at (c.read_separated.ensures k (omega (arith, c.in_ok-e.ensures.less))))

pub read_separated-returns-in-Some : goal.read_separated-returns-in-Some
read_separated-returns-in-Some t c zero h = absurd (omega arith)
read_separated-returns-in-Some t c (suc k) h = rw (← c.if-is_empty.ensures, c.in-Some.ensures.value) (c.read_statements.ensures k (omega (arith, c.in-Some.ensures.less)))
