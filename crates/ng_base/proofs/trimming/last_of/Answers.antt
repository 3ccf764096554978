use Rattle.std.proofs.Common.{rules, ◌≡◌, ◌++◌, ◌∷◌, [], List, ℕ, length, ap, ◌∙◌, encode_utf8, arith}
use Rattle.std.proofs.lemmas.Grind.{common_steps}
use Rattle.std.proofs.lemmas.Str.{chars-nil}
use Rattle.std.specs.Str.{chars}
use Rattle.ng_base.proofs.Texts.{chars-push}
use Rattle.ng_base.proofs.trimming.last_of.Goals as goal

length_none : (xs : List ℕ) → length xs ≡ 0 → xs ≡ []
length_none [] h = search rules
length_none (x ∷ xs) h = absurd (omega (arith, h))

pub returns-in_err-c : goal.returns-in_err-c
returns-in_err-c c =
    let none : c.args.text.now ≡ [] = length_none c.args.text.now (grind (arith, common_steps)) in
    let e : chars c.args.text.now ≡ [] = ap chars none ∙ chars-nil in
    search (rules, e)

pub returns : goal.returns
returns c =
    let whole : c.args.text.now ≡ c.as_str.result.now ++ encode_utf8 c.in_ok-c.c = search rules in
    ap chars whole ∙ chars-push c.as_str.result.now c.in_ok-c.c c.as_str.utf8 (search rules)
