use Rattle.std.proofs.Common.{◌+◌, ◌++◌, ◌∷◌, [], ℕ, List, ap, sym, ◌∙◌, map, length, drop, append_assoc, length-append, arith}
use Rattle.std.proofs.lemmas.List.{length-map}
use Rattle.ng_drawing.specs.Template.{Outside, handed}
use Rattle.ng_parts.specs.ActsOf.{outside_of}
use Rattle.ng_drawing.specs.Composing.{handed_all}
use Rattle.ng_compose.proofs.ComposingTurns.{handed_step}
use Rattle.ng_compose.proofs.regions.handed_to.Goals as goal

pub loop-preserved : goal.loop-preserved
loop-preserved c =
    let i = c.loop.index in
    let given = c.args.given.now in
    let old = c.loop.all.items in
    let seen : List Outside = map outside_of old in
    let rest : List Outside = handed_all (i + 1) (drop (i + 1) given) in
    let h = c.loop.invariant in
    let pushed = c.in_ok-push_handed.ensures ∙ ap (λ (n : ℕ). seen ++ handed n ∷ []) h.count in
    let size = sym (length-map c.push_handed.new.all.items outside_of) ∙ (ap length pushed ∙ length-append seen (handed i ∷ [])) in
    let before = length-map old outside_of in
    let count = h.count in
    record {
      count = omega (arith, size, before, count);
      rest = ap (λ (os : List Outside). os ++ rest) pushed ∙ (append_assoc seen (handed i ∷ []) rest ∙ (ap (λ (os : List Outside). seen ++ os) (sym (handed_step given i (omega arith))) ∙ h.rest));
    }
