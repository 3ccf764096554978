use Rattle.std.proofs.Common.{rules, ap, ◌≡◌, ◌∙◌, false, Result, Ok, Err}
use Rattle.std.specs.Str.{chars}
use Rattle.ng_base.specs.Meets.{◌>>=◌}
use Rattle.ng_language.specs.OneTime.{one_time_of}
use Rattle.ng_language.specs.Trees.{Trees}
use Rattle.ng_interp.specs.Parts.{hole, is_free, hole_at}
use Rattle.ng_interp.specs.declared.pieces.InterpFault.{InterpFault}
use Rattle.ng_interp.proofs.PartLaws.{hole_is}
use Rattle.ng_interp.proofs.splitting.read_hole.Goals as goal

pub returns-in_err-program : goal.returns-in_err-program
returns-in_err-program c =
    let once = c.one_time-one_time.result.0 in
    let es = chars c.one_time-one_time.result.1.now in
    let same = hole_is c.args.place c.args.text.now once es c.before_expression-before.result c.saturating_add-place.result
    (c.one_time-one_time.ensures ∙ ap one_time_of c.as_str.ensures.chars) c.before_expression-before.ensures c.saturating_add-place.ensures in
    let e = c.in_err-program.field-0.0 in
    let fact : is_free e ≡ false → hole_at c.args.place c.args.text.now ≡ Err e =
    λ free. same ∙ ap (λ (r : Result Trees InterpFault). r >>= λ b. Ok (hole once b)) (c.in_err-program.ensures free) in
    search (rules, fact)

pub returns : goal.returns
returns c =
    let once = c.one_time-one_time.result.0 in
    let es = chars c.one_time-one_time.result.1.now in
    hole_is c.args.place c.args.text.now once es c.before_expression-before.result c.saturating_add-place.result
    (c.one_time-one_time.ensures ∙ ap one_time_of c.as_str.ensures.chars) c.before_expression-before.ensures c.saturating_add-place.ensures
    ∙ ap (λ (r : Result Trees InterpFault). r >>= λ b. Ok (hole once b)) c.in_ok-program.ensures
