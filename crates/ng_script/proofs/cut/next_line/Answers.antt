use Rattle.std.proofs.Common.{rules, ◌≡◌, ap, sym, ◌∙◌, List, ℕ, [], ◌∷◌, length, arith}
use Rattle.std.specs.Str.{chars}
use Rattle.ng_script.specs.Lines.{lines, without_return}
use Rattle.ng_script.specs.Words.{ends, front, onward}
use Rattle.ng_script.specs.declared.cut.Part.TheVariants as part
use Rattle.ng_script.proofs.LineCuts.{line_then, line_last, onward_le}
use Rattle.ng_script.proofs.cut.next_line.Goals as goal

pub returns-in-None-clause-lines : goal.returns-in-None-clause-lines
returns-in-None-clause-lines c =
    let none : onward (ends part.Line) (chars c.args.text.now) ≡ [] = search rules in
    line_last (chars c.args.text.now) none ∙ ap (λ (t : List ℕ). t ∷ []) (sym c.cut.ensures.front)

pub returns-in-Some-clause-lines : goal.returns-in-Some-clause-lines
returns-in-Some-clause-lines c =
    let next : onward (ends part.Line) (chars c.args.text.now) ≡ c.in-Some.field-0-0 ∷ c.in-Some.more = sym c.cut.ensures.rest ∙ (sym c.new.ensures ∙ c.in-Some.ensures) in
    let first : without_return (front (ends part.Line) (chars c.args.text.now)) ≡ chars c.without_return.result.now = ap without_return (sym c.cut.ensures.front) ∙ sym c.without_return.ensures in
    line_then (chars c.args.text.now) c.in-Some.more c.in-Some.field-0-0 next
    ∙ (ap (λ (t : List ℕ). t ∷ lines c.in-Some.more) first ∙ ap (λ (t : List ℕ). chars c.without_return.result.now ∷ lines t) (sym c.rest.ensures))

pub returns-in-Some-clause-less : goal.returns-in-Some-clause-less
returns-in-Some-clause-less c =
    let next : onward (ends part.Line) (chars c.args.text.now) ≡ c.in-Some.field-0-0 ∷ c.in-Some.more = sym c.cut.ensures.rest ∙ (sym c.new.ensures ∙ c.in-Some.ensures) in
    omega (arith, ap length next, ap length c.rest.ensures, onward_le (chars c.args.text.now))
