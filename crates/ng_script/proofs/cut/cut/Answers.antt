use Rattle.std.proofs.Common.{arith, length, ◌≡◌, ◌++◌, rules, ap, sym, ◌∙◌, true, ℕ, List}
use Rattle.std.proofs.lemmas.Grind.{common_steps}
use Rattle.std.proofs.lemmas.List.{take-append-drop, get_or-drop}
use Rattle.std.proofs.lemmas.Str.{chars-append}
use Rattle.std.specs.Str.{chars, IsUtf8}
use Rattle.std.specs.List.{list_all}
use Rattle.ng_script.specs.Words.{ends, front, onward}
use Rattle.ng_script.specs.declared.cut.Part.{Part}
use Rattle.ng_script.proofs.Cuts.{goes_on, begins_end, chars_on, first_ends, cut_at}
use Rattle.ng_script.proofs.cut.cut.Goals as goal

-- a text of two pieces, of which the second begins with what ends a part
pieces : (k : Part) (bs xs ys : List ℕ) → bs ≡ xs ++ ys → IsUtf8 xs → IsUtf8 ys → list_all (goes_on k) xs ≡ true → begins_end k (chars ys) ≡ true
    → (chars xs ≡ front (ends k) (chars bs)) × (chars ys ≡ onward (ends k) (chars bs))
pieces k bs xs ys e u v a b =
    let whole = ap chars e ∙ chars-append xs ys u in
    let at = cut_at k (chars xs) (chars ys) (chars_on k xs u a) b in
    (sym (ap (front (ends k)) whole ∙ at.0), sym (ap (onward (ends k)) whole ∙ at.1))

pub returns : goal.returns
returns c =
    let e : c.args.text.now ≡ c.range.result.now ++ c.range_from.result.now = sym (take-append-drop c.length_before-count.result c.args.text.now) ∙ search rules in
    let inside : list_all (goes_on c.args.part) c.range.result.now ≡ true = search rules in
    let next : begins_end c.args.part (chars c.range_from.result.now) ≡ true =
    first_ends c.args.part c.range_from.result.now c.range_from.utf8
    (λ filled.
    let v = c.range_from.ensures.value in
    let at = get_or-drop c.length_before-count.result c.args.text.now 0 0 in
    let e = c.length_before-count.ensures.ends in
    let n = ap length v in
    grind (arith, common_steps)) in
    let p = pieces c.args.part c.args.text.now c.range.result.now c.range_from.result.now e c.range.utf8 c.range_from.utf8 inside next in
    record { front = p.0; rest = p.1 }
