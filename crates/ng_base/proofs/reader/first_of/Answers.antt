use Rattle.std.proofs.Common.{rules, ◌≡◌, ap, sym, ◌∙◌, length, ◌-◌}
use Rattle.std.proofs.lemmas.Str.{chars_past_char, encodes-chars}
use Rattle.ng_base.proofs.reader.first_of.Goals as goal

pub returns : goal.returns
returns c =
    let e = chars_past_char c.args.text.now c.next.new.self.rest.now c.in_ok-first.first c.utf8.text in
    let f = encodes-chars c.args.text.now c.utf8.text in
    let q : _ ≡ _ = c.saturating_sub.ensures ∙ ap (λ bs. c.args.total - length bs) (sym f) in
    (search rules, q)
