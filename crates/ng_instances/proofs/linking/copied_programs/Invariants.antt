use Rattle.std.proofs.Common.{◌≡◌, ◌++◌, drop, map}
use Rattle.std.specs.List.{AllByRecursion}
use Rattle.ng_drawing.specs.Template.{Site}
use Rattle.ng_parse.specs.ProgramOf.{program}
use Rattle.ng_parts.specs.SiteOf.{site_of}
use Rattle.ng_build.specs.StepOf.{IsWatchable}
use Rattle.ng_instances.proofs.linking.copied_programs.Given as goal

abbrev pub invariant-loop-site : goal.invariant-loop-site
invariant-loop-site l = record {
  programs : map program l.programs.items ++ map (λ (x : Site). x.program) (map site_of (drop l.site-index l.sites)) ≡ map (λ (x : Site). x.program) (map site_of l.sites);
  pure : AllByRecursion IsWatchable (map program l.programs.items);
}
