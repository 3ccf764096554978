use Rattle.std.proofs.Common.{◌+◌, ◌*◌, ◌-◌, length}
use Rattle.ng_language.specs.Tokens.{tightness}
use Rattle.ng_parse.proofs.read.+descent.Given as goal

abbrev pub decreases-read_statement : goal.decreases-read_statement
decreases-read_statement l = 32 * length l.tokens.now + 20

abbrev pub decreases-read_filters : goal.decreases-read_filters
decreases-read_filters l = 32 * length l.tokens.now + 1

abbrev pub decreases-read_named_filter : goal.decreases-read_named_filter
decreases-read_named_filter l = 32 * length l.tokens.now + 0

abbrev pub decreases-read_arguments : goal.decreases-read_arguments
decreases-read_arguments l = 32 * length l.tokens.now + 0

abbrev pub decreases-read_expression : goal.decreases-read_expression
decreases-read_expression l = 32 * length l.tokens.now + 19

abbrev pub decreases-read_assignment : goal.decreases-read_assignment
decreases-read_assignment l = 32 * length l.tokens.now + 0

abbrev pub decreases-read_ternary : goal.decreases-read_ternary
decreases-read_ternary l = 32 * length l.tokens.now + 18

abbrev pub decreases-read_choice : goal.decreases-read_choice
decreases-read_choice l = 32 * length l.tokens.now + 0

abbrev pub decreases-read_operations : goal.decreases-read_operations
decreases-read_operations l = 32 * length l.tokens.now + 0

abbrev pub decreases-read_unary : goal.decreases-read_unary
decreases-read_unary l = 32 * length l.tokens.now + 5

abbrev pub decreases-read_primary : goal.decreases-read_primary
decreases-read_primary l = 32 * length l.tokens.now + 4

abbrev pub decreases-read_postfix : goal.decreases-read_postfix
decreases-read_postfix l = 32 * length l.tokens.now + 0

abbrev pub decreases-read_called : goal.decreases-read_called
decreases-read_called l = 32 * length l.tokens.now + 22

abbrev pub decreases-read_values : goal.decreases-read_values
decreases-read_values l = 32 * length l.tokens.now + 21

abbrev pub decreases-read_items : goal.decreases-read_items
decreases-read_items l = 32 * length l.tokens.now + 21

abbrev pub decreases-read_pairs : goal.decreases-read_pairs
decreases-read_pairs l = 32 * length l.tokens.now + 22

abbrev pub decreases-read_pair : goal.decreases-read_pair
decreases-read_pair l = 32 * length l.tokens.now + 21

abbrev pub decreases-read_head : goal.decreases-read_head
decreases-read_head l = 32 * length l.tokens.now + 3

abbrev pub decreases-read_operators : goal.decreases-read_operators
decreases-read_operators l = 32 * length l.tokens.now + 2 * (9 - tightness l.level) + 7

abbrev pub decreases-read_operand : goal.decreases-read_operand
decreases-read_operand l = 32 * length l.tokens.now + 2 * (9 - tightness l.level) + 6

abbrev pub decreases-read_valued : goal.decreases-read_valued
decreases-read_valued l = 32 * length l.tokens.now + 0
