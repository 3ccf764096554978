use Rattle.std.proofs.Common.{arith, length, ◌≡◌, ◌++◌, rules, ap, sym, ◌∙◌, true}
use Rattle.std.proofs.lemmas.Grind.{common_steps}
use Rattle.std.proofs.lemmas.List.{take-append-drop, get_or-drop}
use Rattle.std.proofs.lemmas.Str.{chars-append}
use Rattle.std.specs.Str.{chars}
use Rattle.std.specs.List.{list_all}
use Rattle.ng_base.specs.Runs.{is_plain}
use Rattle.ng_base.proofs.PlainChars.{plain_chars, first_is_mark}
use Rattle.ng_base.proofs.runs.plain_front.Goals as goal

pub returns-clause-parts : goal.returns-clause-parts
returns-clause-parts c =
    let e : c.args.text.now ≡ c.range.result.now ++ c.range_from.result.now = sym (take-append-drop c.plain_length-count.result c.args.text.now) ∙ search rules in
    ap chars e ∙ chars-append c.range.result.now c.range_from.result.now c.range.utf8

pub returns-clause-plain : goal.returns-clause-plain
returns-clause-plain c =
    let e : list_all is_plain c.range.result.now ≡ true = search rules in
    plain_chars c.range.result.now c.range.utf8 e

pub returns-clause-longest : goal.returns-clause-longest
returns-clause-longest c =
    first_is_mark c.range_from.result.now c.range_from.utf8
    (λ filled.
    let v = c.range_from.ensures.value in
    let at = get_or-drop c.plain_length-count.result c.args.text.now 0 0 in
    let e = c.plain_length-count.ensures.ends in
    let n = ap length v in
    grind (arith, common_steps))
