use Rattle.std.proofs.Common.{◌≡◌, ◌+◌, ◌++◌, ◌∷◌, [], List, true, ap, sym, subst, ◌∙◌, drop, map}
use Rattle.std.specs.List.{AllByRecursion}
use Rattle.ng_drawing.specs.Template.{Site}
use Rattle.ng_language.specs.Trees.{Trees}
use Rattle.ng_parse.specs.ProgramOf.{program}
use Rattle.ng_parse.specs.declared.programs.Program.{Program}
use Rattle.ng_parts.specs.SiteOf.{site_of}
use Rattle.ng_build.specs.StepOf.{IsWatchable}
use Rattle.ng_build.proofs.Loops.{next_seen, pushed}
use Rattle.ng_instances.proofs.linking.copied_programs.Goals as goal

-- one more that can be watched
pure_more : (ps : List Program) (p : Program) → AllByRecursion IsWatchable (map program ps) → IsWatchable (program p) → AllByRecursion IsWatchable (map program (ps ++ p ∷ []))
pure_more [] p all one = (one, tt)
pure_more (q ∷ qs) p all one = (all.0, pure_more qs p all.1 one)

pub loop-site-preserved : goal.loop-site-preserved
loop-site-preserved c =
    let sites = c.args.sites.now in
    let i = c.loop-site.site-index in
    let site = c.site-item.result in
    let ps : List Program = c.loop-site.programs.items in
    let p : Program = c.in_ok-copied.field-0 in
    let kept : program p ≡ (site_of site).program = c.in_ok-copied.ensures ∙ c.program.ensures.program in
    let rest : List Trees = map (λ (x : Site). x.program) (map site_of (drop (i + 1) sites)) in
    let one : IsWatchable (program p) = subst IsWatchable (sym c.in_ok-copied.ensures) (record { pure = c.program.ensures.pure; known = c.program.ensures.known }) in
    record {
      programs =
          ap (λ (xs : List Program). map program xs ++ rest) c.in_ok-push.ensures.items
          ∙ (pushed program ps p ((site_of site).program) rest kept
          ∙ (sym (ap (λ (xs : List Site). map program ps ++ map (λ (x : Site). x.program) xs) (next_seen site_of sites i site c.loop-site-test.true c.site-item.is)) ∙ c.loop-site.invariant.programs));
      pure = subst (λ (xs : List Program). AllByRecursion IsWatchable (map program xs)) (sym c.in_ok-push.ensures.items) (pure_more ps p c.loop-site.invariant.pure one);
    }
