use Rattle.std.proofs.Common.{rules, zero, suc, arith, ap}
use Rattle.ng_language.specs.Tokens.{tightness}
use Rattle.ng_parse.proofs.read.+descent.Goals as goal

pub read_statement-returns-in_err-e-clause-read : goal.read_statement-returns-in_err-e-clause-read
read_statement-returns-in_err-e-clause-read t c zero h = absurd (omega arith)
read_statement-returns-in_err-e-clause-read t c (suc k) h = (search (rules, c.in_err-e.ensures.read k (omega arith)))

pub read_statement-returns-clause-read : goal.read_statement-returns-clause-read
read_statement-returns-clause-read t c zero h = absurd (omega arith)
read_statement-returns-clause-read t c (suc k) h = rw (c.in_ok-e.ensures.read k (omega arith)) (c.read_filters.ensures.read k (omega (arith, c.in_ok-e.ensures.less)))

pub read_filters-returns-in-Some-clause-read : goal.read_filters-returns-in-Some-clause-read
read_filters-returns-in-Some-clause-read t c zero h = absurd (omega arith)
read_filters-returns-in-Some-clause-read t c (suc k) h = rw (c.in-Some.ensures.value) (c.read_named_filter.ensures.read k (omega (arith, c.in-Some.ensures.less)))

pub read_named_filter-returns-in_err-args-in-Some-clause-read : goal.read_named_filter-returns-in_err-args-in-Some-clause-read
read_named_filter-returns-in_err-args-in-Some-clause-read t c zero h = absurd (omega arith)
read_named_filter-returns-in_err-args-in-Some-clause-read t c (suc k) h = rw (c.in-Some.ensures.value) (search (rules, c.in_err-args-in-Some.ensures.read k (omega (arith, c.in-Some.ensures.less))))

pub read_named_filter-returns-in_ok-e-in-Some-clause-read : goal.read_named_filter-returns-in_ok-e-in-Some-clause-read
read_named_filter-returns-in_ok-e-in-Some-clause-read t c zero h = absurd (omega arith)
read_named_filter-returns-in_ok-e-in-Some-clause-read t c (suc k) h = rw (c.in-Some.ensures.value, rw c.new.ensures.items at (c.in_ok-args-in-Some.ensures.read k (omega (arith, c.in-Some.ensures.less)))) (rw (c.in_ok-e-in-Some.ensures) at (c.read_filters.ensures.read k (omega (arith, c.in-Some.ensures.less, c.in_ok-args-in-Some.ensures.less))))

pub read_arguments-returns-in_err-e-in-Some-clause-read : goal.read_arguments-returns-in_err-e-in-Some-clause-read
read_arguments-returns-in_err-e-in-Some-clause-read t c zero h = absurd (omega arith)
read_arguments-returns-in_err-e-in-Some-clause-read t c (suc k) h = rw (c.in-Some.ensures.value) (search (rules, c.in_err-e-in-Some.ensures.read k (omega (arith, c.in-Some.ensures.less))))

pub read_arguments-returns-in_ok-done-in-Some-clause-read : goal.read_arguments-returns-in_ok-done-in-Some-clause-read
read_arguments-returns-in_ok-done-in-Some-clause-read t c zero h = absurd (omega arith)
read_arguments-returns-in_ok-done-in-Some-clause-read t c (suc k) h = rw (c.in-Some.ensures.value, c.in_ok-e-in-Some.ensures.read k (omega (arith, c.in-Some.ensures.less))) (rw (c.in_ok-done-in-Some.ensures) at (c.read_arguments.ensures.read k (omega (arith, c.in-Some.ensures.less, c.in_ok-e-in-Some.ensures.less))))

pub read_expression-returns-in_err-e-clause-read : goal.read_expression-returns-in_err-e-clause-read
read_expression-returns-in_err-e-clause-read t c zero h = absurd (omega arith)
read_expression-returns-in_err-e-clause-read t c (suc k) h = (search (rules, c.in_err-e.ensures.read k (omega arith)))

pub read_expression-returns-clause-read : goal.read_expression-returns-clause-read
read_expression-returns-clause-read t c zero h = absurd (omega arith)
read_expression-returns-clause-read t c (suc k) h = rw (c.in_ok-e.ensures.read k (omega arith)) (c.read_assignment.ensures.read k (omega (arith, c.in_ok-e.ensures.less)))

pub read_assignment-returns-in_err-value-in-Some-clause-read : goal.read_assignment-returns-in_err-value-in-Some-clause-read
read_assignment-returns-in_err-value-in-Some-clause-read t c zero h = absurd (omega arith)
read_assignment-returns-in_err-value-in-Some-clause-read t c (suc k) h = rw (c.in-Some.ensures.value) (search (rules, c.in_err-value-in-Some.ensures.read k (omega (arith, c.in-Some.ensures.less))))

pub read_ternary-returns-in_err-e-clause-read : goal.read_ternary-returns-in_err-e-clause-read
read_ternary-returns-in_err-e-clause-read t c zero h = absurd (omega arith)
read_ternary-returns-in_err-e-clause-read t c (suc k) h = (search (rules, c.in_err-e.ensures.read k (omega arith)))

pub read_ternary-returns-clause-read : goal.read_ternary-returns-clause-read
read_ternary-returns-clause-read t c zero h = absurd (omega arith)
read_ternary-returns-clause-read t c (suc k) h = rw (c.in_ok-e.ensures.read k (omega arith)) (c.read_choice.ensures.read k (omega (arith, c.in_ok-e.ensures.less)))

pub read_choice-returns-in_err-a-in-Some-clause-read : goal.read_choice-returns-in_err-a-in-Some-clause-read
read_choice-returns-in_err-a-in-Some-clause-read t c zero h = absurd (omega arith)
read_choice-returns-in_err-a-in-Some-clause-read t c (suc k) h = rw (c.in-Some.ensures.value) (search (rules, c.in_err-a-in-Some.ensures.read k (omega (arith, c.in-Some.ensures.less))))

pub read_choice-returns-in_err-rest-in-Some-clause-read : goal.read_choice-returns-in_err-rest-in-Some-clause-read
read_choice-returns-in_err-rest-in-Some-clause-read t c zero h = absurd (omega arith)
read_choice-returns-in_err-rest-in-Some-clause-read t c (suc k) h = rw (c.in-Some.ensures.value, c.in_ok-a-in-Some.ensures.read k (omega (arith, c.in-Some.ensures.less))) (search (rules, c.in_err-rest-in-Some.ensures.read))

pub read_choice-returns-in_err-b-in-Some-clause-read : goal.read_choice-returns-in_err-b-in-Some-clause-read
read_choice-returns-in_err-b-in-Some-clause-read t c zero h = absurd (omega arith)
read_choice-returns-in_err-b-in-Some-clause-read t c (suc k) h = rw (c.in-Some.ensures.value, c.in_ok-a-in-Some.ensures.read k (omega (arith, c.in-Some.ensures.less)), c.in_ok-rest-in-Some.ensures.read) (search (rules, c.in_err-b-in-Some.ensures.read k (omega (arith, c.in-Some.ensures.less, c.in_ok-a-in-Some.ensures.less, c.in_ok-rest-in-Some.ensures.less))))

pub read_choice-returns-in_ok-e-in-Some-clause-read : goal.read_choice-returns-in_ok-e-in-Some-clause-read
read_choice-returns-in_ok-e-in-Some-clause-read t c zero h = absurd (omega arith)
read_choice-returns-in_ok-e-in-Some-clause-read t c (suc k) h = rw (c.in-Some.ensures.value, c.in_ok-a-in-Some.ensures.read k (omega (arith, c.in-Some.ensures.less)), c.in_ok-rest-in-Some.ensures.read, c.in_ok-b-in-Some.ensures.read k (omega (arith, c.in-Some.ensures.less, c.in_ok-a-in-Some.ensures.less, c.in_ok-rest-in-Some.ensures.less)), c.in_ok-e-in-Some.ensures) (search rules)

pub read_operators-returns-in_err-e-clause-read : goal.read_operators-returns-in_err-e-clause-read
read_operators-returns-in_err-e-clause-read t c zero h = absurd (omega arith)
read_operators-returns-in_err-e-clause-read t c (suc k) h = (search (rules, c.in_err-e.ensures.read k (omega arith)))

pub read_operators-returns-clause-read : goal.read_operators-returns-clause-read
read_operators-returns-clause-read t c zero h = absurd (omega arith)
read_operators-returns-clause-read t c (suc k) h = rw (c.in_ok-e.ensures.read k (omega arith)) (c.read_operations.ensures.read k (omega (arith, c.in_ok-e.ensures.less)))

pub read_operations-returns-in_err-right-in-Some-clause-read : goal.read_operations-returns-in_err-right-in-Some-clause-read
read_operations-returns-in_err-right-in-Some-clause-read t c zero h = absurd (omega arith)
read_operations-returns-in_err-right-in-Some-clause-read t c (suc k) h = rw (c.in-Some.ensures.value) (search (rules, c.in_err-right-in-Some.ensures.read k (omega (arith, c.in-Some.ensures.less))))

pub read_operations-returns-in_ok-e-in-Some-clause-read : goal.read_operations-returns-in_ok-e-in-Some-clause-read
read_operations-returns-in_ok-e-in-Some-clause-read t c zero h = absurd (omega arith)
read_operations-returns-in_ok-e-in-Some-clause-read t c (suc k) h = rw (c.in-Some.ensures.value, c.in_ok-right-in-Some.ensures.read k (omega (arith, c.in-Some.ensures.less))) (rw (c.in_ok-e-in-Some.ensures) at (c.read_operations.ensures.read k (omega (arith, c.in-Some.ensures.less, c.in_ok-right-in-Some.ensures.less))))

pub read_unary-returns-in_err-e-in-Some-clause-read : goal.read_unary-returns-in_err-e-in-Some-clause-read
read_unary-returns-in_err-e-in-Some-clause-read t c zero h = absurd (omega arith)
read_unary-returns-in_err-e-in-Some-clause-read t c (suc k) h = rw (c.in-Some.ensures.value) (search (rules, c.in_err-e-in-Some.ensures.read k (omega (arith, c.in-Some.ensures.less))))

pub read_unary-returns-in-None-clause-read : goal.read_unary-returns-in-None-clause-read
read_unary-returns-in-None-clause-read t c zero h = absurd (omega arith)
read_unary-returns-in-None-clause-read t c (suc k) h = rw (c.in-None.ensures.value) (c.read_primary.ensures.read k (omega arith))

pub read_primary-returns-in_err-e-clause-read : goal.read_primary-returns-in_err-e-clause-read
read_primary-returns-in_err-e-clause-read t c zero h = absurd (omega arith)
read_primary-returns-in_err-e-clause-read t c (suc k) h = (search (rules, c.in_err-e.ensures.read k (omega arith)))

pub read_primary-returns-clause-read : goal.read_primary-returns-clause-read
read_primary-returns-clause-read t c zero h = absurd (omega arith)
read_primary-returns-clause-read t c (suc k) h = rw (c.in_ok-e.ensures.read k (omega arith)) (c.read_postfix.ensures.read k (omega (arith, c.in_ok-e.ensures.less)))

pub read_postfix-returns-in_ok-e-in-Some-first_name-clause-read : goal.read_postfix-returns-in_ok-e-in-Some-first_name-clause-read
read_postfix-returns-in_ok-e-in-Some-first_name-clause-read t c zero h = absurd (omega arith)
read_postfix-returns-in_ok-e-in-Some-first_name-clause-read t c (suc k) h = rw (c.in-Some.ensures.value, c.in-Some-first_name.ensures.value) (rw (c.in_ok-e-in-Some-first_name.ensures) at (c.read_postfix.ensures.read k (omega (arith, c.in-Some.ensures.less, c.in-Some-first_name.ensures.less))))

pub read_postfix-returns-in_err-index-clause-read : goal.read_postfix-returns-in_err-index-clause-read
read_postfix-returns-in_err-index-clause-read t c zero h = absurd (omega arith)
read_postfix-returns-in_err-index-clause-read t c (suc k) h = rw (c.in_default.ensures.value, c.in-Some-behind.ensures.value) (search (rules, c.in_err-index.ensures.read k (omega (arith, c.in-Some-behind.ensures.less))))

pub read_postfix-returns-in_err-rest-clause-read : goal.read_postfix-returns-in_err-rest-clause-read
read_postfix-returns-in_err-rest-clause-read t c zero h = absurd (omega arith)
read_postfix-returns-in_err-rest-clause-read t c (suc k) h = rw (c.in_default.ensures.value, c.in-Some-behind.ensures.value, c.in_ok-index.ensures.read k (omega (arith, c.in-Some-behind.ensures.less))) (search (rules, c.in_err-rest.ensures.read))

pub read_postfix-returns-in-Some-behind-clause-read : goal.read_postfix-returns-in-Some-behind-clause-read
read_postfix-returns-in-Some-behind-clause-read t c zero h = absurd (omega arith)
read_postfix-returns-in-Some-behind-clause-read t c (suc k) h = rw (c.in_default.ensures.value, c.in-Some-behind.ensures.value, c.in_ok-index.ensures.read k (omega (arith, c.in-Some-behind.ensures.less)), c.in_ok-rest.ensures.read) (rw (c.in_ok-e.ensures) at (c.read_postfix-in-Some-behind.ensures.read k (omega (arith, c.in-Some-behind.ensures.less, c.in_ok-index.ensures.less, c.in_ok-rest.ensures.less))))

pub read_postfix-returns-in_err-args-clause-read : goal.read_postfix-returns-in_err-args-clause-read
read_postfix-returns-in_err-args-clause-read t c zero h = absurd (omega arith)
read_postfix-returns-in_err-args-clause-read t c (suc k) h = rw (c.in_default.ensures.value, c.in_default-behind.ensures.value, c.in-Some-behind-2.ensures.value) (search (rules, c.in_err-args.ensures.read k (omega (arith, c.in-Some-behind-2.ensures.less))))

pub read_postfix-returns-in-Some-behind-2-clause-read : goal.read_postfix-returns-in-Some-behind-2-clause-read
read_postfix-returns-in-Some-behind-2-clause-read t c zero h = absurd (omega arith)
read_postfix-returns-in-Some-behind-2-clause-read t c (suc k) h = rw (c.in_default.ensures.value, c.in_default-behind.ensures.value, c.in-Some-behind-2.ensures.value, c.in_ok-args.ensures.read k (omega (arith, c.in-Some-behind-2.ensures.less))) (rw (c.in_ok-e-2.ensures) at (c.read_postfix-in-Some-behind-2.ensures.read k (omega (arith, c.in-Some-behind-2.ensures.less, c.in_ok-args.ensures.less))))

pub read_called-returns-in-None-clause-read : goal.read_called-returns-in-None-clause-read
read_called-returns-in-None-clause-read t c zero h = absurd (omega arith)
read_called-returns-in-None-clause-read t c (suc k) h = rw (c.in-None.ensures.value) (rw (c.new-in-None.ensures.items) at (c.read_values.ensures.read k (omega arith)))

pub read_values-returns-in_err-e-clause-read : goal.read_values-returns-in_err-e-clause-read
read_values-returns-in_err-e-clause-read t c zero h = absurd (omega arith)
read_values-returns-in_err-e-clause-read t c (suc k) h = (search (rules, c.in_err-e.ensures.read k (omega arith)))

pub read_values-returns-in_err-rest-in-None-clause-read : goal.read_values-returns-in_err-rest-in-None-clause-read
read_values-returns-in_err-rest-in-None-clause-read t c zero h = absurd (omega arith)
read_values-returns-in_err-rest-in-None-clause-read t c (suc k) h = rw (c.in_ok-e.ensures.read k (omega arith), c.in-None.ensures.value) (search (rules, c.in_err-rest-in-None.ensures.read))

pub read_values-returns-in-Some-clause-read : goal.read_values-returns-in-Some-clause-read
read_values-returns-in-Some-clause-read t c zero h = absurd (omega arith)
read_values-returns-in-Some-clause-read t c (suc k) h = rw (c.in_ok-e.ensures.read k (omega arith), c.in-Some.ensures.value) (rw (c.in_ok-done.ensures) at (c.read_values.ensures.read k (omega (arith, c.in_ok-e.ensures.less, c.in-Some.ensures.less))))

pub read_values-returns-in_ok-rest-in-None-clause-read : goal.read_values-returns-in_ok-rest-in-None-clause-read
read_values-returns-in_ok-rest-in-None-clause-read t c zero h = absurd (omega arith)
read_values-returns-in_ok-rest-in-None-clause-read t c (suc k) h = rw (c.in_ok-e.ensures.read k (omega arith), c.in-None.ensures.value, c.in_ok-rest-in-None.ensures.read, c.in_ok-done.ensures) (search rules)

pub read_items-returns-in_err-e-clause-read : goal.read_items-returns-in_err-e-clause-read
read_items-returns-in_err-e-clause-read t c zero h = absurd (omega arith)
read_items-returns-in_err-e-clause-read t c (suc k) h = rw (c.in_default.ensures.value) (search (rules, c.in_err-e.ensures.read k (omega arith)))

pub read_items-returns-in_err-rest-in-None-clause-read : goal.read_items-returns-in_err-rest-in-None-clause-read
read_items-returns-in_err-rest-in-None-clause-read t c zero h = absurd (omega arith)
read_items-returns-in_err-rest-in-None-clause-read t c (suc k) h = rw (c.in_default.ensures.value, c.in_ok-e.ensures.read k (omega arith), c.in-None.ensures.value) (search (rules, c.in_err-rest-in-None.ensures.read))

pub read_items-returns-in-Some-behind-clause-read : goal.read_items-returns-in-Some-behind-clause-read
read_items-returns-in-Some-behind-clause-read t c zero h = absurd (omega arith)
read_items-returns-in-Some-behind-clause-read t c (suc k) h = rw (c.in_default.ensures.value, c.in_ok-e.ensures.read k (omega arith), c.in-Some-behind.ensures.value) (rw (c.in_ok-done.ensures) at (c.read_items.ensures.read k (omega (arith, c.in_ok-e.ensures.less, c.in-Some-behind.ensures.less))))

pub read_items-returns-in_ok-rest-in-None-clause-read : goal.read_items-returns-in_ok-rest-in-None-clause-read
read_items-returns-in_ok-rest-in-None-clause-read t c zero h = absurd (omega arith)
read_items-returns-in_ok-rest-in-None-clause-read t c (suc k) h = rw (c.in_default.ensures.value, c.in_ok-e.ensures.read k (omega arith), c.in-None.ensures.value, c.in_ok-rest-in-None.ensures.read, c.in_ok-done.ensures) (search rules)

pub read_pairs-returns-in_err-p-clause-read : goal.read_pairs-returns-in_err-p-clause-read
read_pairs-returns-in_err-p-clause-read t c zero h = absurd (omega arith)
read_pairs-returns-in_err-p-clause-read t c (suc k) h = rw (c.in_default.ensures.value) (search (rules, c.in_err-p.ensures.read k (omega arith)))

pub read_pairs-returns-in_err-rest-in-None-clause-read : goal.read_pairs-returns-in_err-rest-in-None-clause-read
read_pairs-returns-in_err-rest-in-None-clause-read t c zero h = absurd (omega arith)
read_pairs-returns-in_err-rest-in-None-clause-read t c (suc k) h = rw (c.in_default.ensures.value, c.in_ok-p.ensures.read k (omega arith), c.in-None.ensures.value) (search (rules, c.in_err-rest-in-None.ensures.read))

pub read_pairs-returns-in-Some-behind-clause-read : goal.read_pairs-returns-in-Some-behind-clause-read
read_pairs-returns-in-Some-behind-clause-read t c zero h = absurd (omega arith)
read_pairs-returns-in-Some-behind-clause-read t c (suc k) h = rw (c.in_default.ensures.value, c.in_ok-p.ensures.read k (omega arith), c.in-Some-behind.ensures.value) (rw (c.in_ok-done.ensures) at (c.read_pairs.ensures.read k (omega (arith, c.in_ok-p.ensures.less, c.in-Some-behind.ensures.less))))

pub read_pairs-returns-in_ok-rest-in-None-clause-read : goal.read_pairs-returns-in_ok-rest-in-None-clause-read
read_pairs-returns-in_ok-rest-in-None-clause-read t c zero h = absurd (omega arith)
read_pairs-returns-in_ok-rest-in-None-clause-read t c (suc k) h = rw (c.in_default.ensures.value, c.in_ok-p.ensures.read k (omega arith), c.in-None.ensures.value, c.in_ok-rest-in-None.ensures.read, c.in_ok-done.ensures) (search rules)

pub read_pair-returns-in_err-name-clause-read : goal.read_pair-returns-in_err-name-clause-read
read_pair-returns-in_err-name-clause-read t c zero h = absurd (omega arith)
read_pair-returns-in_err-name-clause-read t c (suc k) h = rw (c.in-Some.ensures.value) (search (rules, c.in_err-name.ensures.read k (omega (arith, c.in-Some.ensures.less))))

pub read_pair-returns-in_err-rest-clause-read : goal.read_pair-returns-in_err-rest-clause-read
read_pair-returns-in_err-rest-clause-read t c zero h = absurd (omega arith)
read_pair-returns-in_err-rest-clause-read t c (suc k) h = rw (c.in-Some.ensures.value, c.in_ok-name.ensures.read k (omega (arith, c.in-Some.ensures.less))) (search (rules, c.in_err-rest.ensures.read))

pub read_pair-returns-in_err-rest-2-clause-read : goal.read_pair-returns-in_err-rest-2-clause-read
read_pair-returns-in_err-rest-2-clause-read t c zero h = absurd (omega arith)
read_pair-returns-in_err-rest-2-clause-read t c (suc k) h = rw (c.in-Some.ensures.value, c.in_ok-name.ensures.read k (omega (arith, c.in-Some.ensures.less)), c.in_ok-rest.ensures.read) (search (rules, c.in_err-rest-2.ensures.read))

pub read_pair-returns-in_err-value-clause-read : goal.read_pair-returns-in_err-value-clause-read
read_pair-returns-in_err-value-clause-read t c zero h = absurd (omega arith)
read_pair-returns-in_err-value-clause-read t c (suc k) h = rw (c.in-Some.ensures.value, c.in_ok-name.ensures.read k (omega (arith, c.in-Some.ensures.less)), c.in_ok-rest.ensures.read, c.in_ok-rest-2.ensures.read) (search (rules, c.in_err-value.ensures.read k (omega (arith, c.in-Some.ensures.less, c.in_ok-name.ensures.less, c.in_ok-rest.ensures.less, c.in_ok-rest-2.ensures.less))))

pub read_pair-returns-in-Some-clause-read : goal.read_pair-returns-in-Some-clause-read
read_pair-returns-in-Some-clause-read t c zero h = absurd (omega arith)
read_pair-returns-in-Some-clause-read t c (suc k) h = rw (c.in-Some.ensures.value, c.in_ok-name.ensures.read k (omega (arith, c.in-Some.ensures.less)), c.in_ok-rest.ensures.read, c.in_ok-rest-2.ensures.read, c.in_ok-value.ensures.read k (omega (arith, c.in-Some.ensures.less, c.in_ok-name.ensures.less, c.in_ok-rest.ensures.less, c.in_ok-rest-2.ensures.less)), c.computed_pair.ensures) (search rules)

pub read_head-returns-in_err-e-clause-read : goal.read_head-returns-in_err-e-clause-read
read_head-returns-in_err-e-clause-read t c zero h = absurd (omega arith)
read_head-returns-in_err-e-clause-read t c (suc k) h = rw (c.in-Some.ensures.value) (search (rules, c.in_err-e.ensures.read k (omega (arith, c.in-Some.ensures.less))))

pub read_head-returns-in_err-rest-clause-read : goal.read_head-returns-in_err-rest-clause-read
read_head-returns-in_err-rest-clause-read t c zero h = absurd (omega arith)
read_head-returns-in_err-rest-clause-read t c (suc k) h = rw (c.in-Some.ensures.value, c.in_ok-e.ensures.read k (omega (arith, c.in-Some.ensures.less))) (search (rules, c.in_err-rest.ensures.read))

pub read_head-returns-in-Some-clause-read : goal.read_head-returns-in-Some-clause-read
read_head-returns-in-Some-clause-read t c zero h = absurd (omega arith)
read_head-returns-in-Some-clause-read t c (suc k) h = rw (c.in-Some.ensures.value, c.in_ok-e.ensures.read k (omega (arith, c.in-Some.ensures.less)), c.in_ok-rest.ensures.read, c.in_ok-e-2.ensures) (search rules)

pub read_head-returns-in_err-items-clause-read : goal.read_head-returns-in_err-items-clause-read
read_head-returns-in_err-items-clause-read t c zero h = absurd (omega arith)
read_head-returns-in_err-items-clause-read t c (suc k) h = rw (c.in_default.ensures.value, c.in-Some-behind.ensures.value) (search (rules, c.in_err-items.ensures.read k (omega (arith, c.in-Some-behind.ensures.less))))

pub read_head-returns-in_err-pairs-clause-read : goal.read_head-returns-in_err-pairs-clause-read
read_head-returns-in_err-pairs-clause-read t c zero h = absurd (omega arith)
read_head-returns-in_err-pairs-clause-read t c (suc k) h = rw (c.in_default.ensures.value, c.in_default-behind.ensures.value, c.in-Some-behind-2.ensures.value) (search (rules, c.in_err-pairs.ensures.read k (omega (arith, c.in-Some-behind-2.ensures.less))))

pub read_head-returns-clause-read : goal.read_head-returns-clause-read
read_head-returns-clause-read t c zero h = absurd (omega arith)
read_head-returns-clause-read t c (suc k) h = rw (c.in_default.ensures.value, c.in_default-behind.ensures.value, c.in_default-behind-2.ensures.value) c.read_one.ensures.read

pub read_operand-returns-in-Or-clause-read : goal.read_operand-returns-in-Or-clause-read
read_operand-returns-in-Or-clause-read t c zero h = absurd (omega arith)
read_operand-returns-in-Or-clause-read t c (suc k) h = rw c.in-Or.is (c.read_operators.ensures.read k (omega (arith, ap tightness c.in-Or.is)))

pub read_operand-returns-in-And-clause-read : goal.read_operand-returns-in-And-clause-read
read_operand-returns-in-And-clause-read t c zero h = absurd (omega arith)
read_operand-returns-in-And-clause-read t c (suc k) h = rw c.in-And.is (c.read_operators-in-And.ensures.read k (omega (arith, ap tightness c.in-And.is)))

pub read_operand-returns-in-Equality-clause-read : goal.read_operand-returns-in-Equality-clause-read
read_operand-returns-in-Equality-clause-read t c zero h = absurd (omega arith)
read_operand-returns-in-Equality-clause-read t c (suc k) h = rw c.in-Equality.is (c.read_operators-in-Equality.ensures.read k (omega (arith, ap tightness c.in-Equality.is)))

pub read_operand-returns-in-Relation-clause-read : goal.read_operand-returns-in-Relation-clause-read
read_operand-returns-in-Relation-clause-read t c zero h = absurd (omega arith)
read_operand-returns-in-Relation-clause-read t c (suc k) h = rw c.in-Relation.is (c.read_operators-in-Relation.ensures.read k (omega (arith, ap tightness c.in-Relation.is)))

pub read_operand-returns-in-Sum-clause-read : goal.read_operand-returns-in-Sum-clause-read
read_operand-returns-in-Sum-clause-read t c zero h = absurd (omega arith)
read_operand-returns-in-Sum-clause-read t c (suc k) h = rw c.in-Sum.is (c.read_operators-in-Sum.ensures.read k (omega (arith, ap tightness c.in-Sum.is)))

pub read_operand-returns-in-Term-clause-read : goal.read_operand-returns-in-Term-clause-read
read_operand-returns-in-Term-clause-read t c zero h = absurd (omega arith)
read_operand-returns-in-Term-clause-read t c (suc k) h = rw c.in-Term.is (c.read_unary.ensures.read k (omega (arith, ap tightness c.in-Term.is)))

pub read_pair-returns-in_err-name-2-clause-read : goal.read_pair-returns-in_err-name-2-clause-read
read_pair-returns-in_err-name-2-clause-read t c zero h = absurd (omega arith)
read_pair-returns-in_err-name-2-clause-read t c (suc k) h = rw c.in_default.ensures.value (search (rules, c.in_err-name-2.ensures.read))

pub read_pair-returns-clause-read : goal.read_pair-returns-clause-read
read_pair-returns-clause-read t c zero h = absurd (omega arith)
read_pair-returns-clause-read t c (suc k) h = rw (c.in_default.ensures.value, c.in_ok-name-2.ensures.read) (c.read_valued.ensures.read k (omega (arith, c.in_ok-name-2.ensures.less)))

pub read_valued-returns-in_err-value-in-Some-clause-read : goal.read_valued-returns-in_err-value-in-Some-clause-read
read_valued-returns-in_err-value-in-Some-clause-read t c zero h = absurd (omega arith)
read_valued-returns-in_err-value-in-Some-clause-read t c (suc k) h = rw c.in-Some.ensures.value (search (rules, c.in_err-value-in-Some.ensures.read k (omega (arith, c.in-Some.ensures.less))))

pub read_valued-returns-in_ok-value-in-Some-clause-read : goal.read_valued-returns-in_ok-value-in-Some-clause-read
read_valued-returns-in_ok-value-in-Some-clause-read t c zero h = absurd (omega arith)
read_valued-returns-in_ok-value-in-Some-clause-read t c (suc k) h = rw (c.in-Some.ensures.value, c.in_ok-value-in-Some.ensures.read k (omega (arith, c.in-Some.ensures.less)), c.labelled_pair.ensures) (search rules)

pub read_valued-returns-in-None-clause-read : goal.read_valued-returns-in-None-clause-read
read_valued-returns-in-None-clause-read t c zero h = absurd (omega arith)
read_valued-returns-in-None-clause-read t c (suc k) h = rw c.in-None.ensures.value c.lone.ensures.read
