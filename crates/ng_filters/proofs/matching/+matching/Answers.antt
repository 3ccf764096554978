use Rattle.std.proofs.Common.{◌≡◌, ◌∙◌, ap, sym, rules, length, map, None, Some}
use Rattle.std.specs.List.{AllByRecursion}
use Rattle.ng_base.specs.Faults.{is_memory}
use Rattle.ng_base.specs.Meets.{Meets}
use Rattle.ng_language.specs.Unfolding.{Field}
use Rattle.ng_language.specs.Views.{ViewStands}
use Rattle.ng_filters.specs.Parts.{properties}
use Rattle.ng_filters.specs.Matching.{negated}
use Rattle.ng_filters.specs.Seen.{seen, field_seen}
use Rattle.ng_filters.proofs.Matches.{match_step}
use Rattle.ng_filters.proofs.matching.+matching.Goals as goal

pub matches-returns-in-None : goal.matches-returns-in-None
matches-returns-in-None t c =
    let e : negated (seen c.args.p) ≡ None = sym c.in_ok-rest.ensures.rest ∙ c.in-None.is in
    match_step c.args.levels c.args.left c.args.store.now (seen c.args.v) (seen c.args.p) c.args.any (λ asked. Meets is_memory asked c.shape_matches.result) c.if-levels-eq0.false c.if-left-eq0.false
    (rw e c.shape_matches.ensures)

pub matches-returns-in-Some : goal.matches-returns-in-Some
matches-returns-in-Some t c =
    let e : negated (seen c.args.p) ≡ Some c.in-Some.rest = sym c.in_ok-rest.ensures.rest ∙ c.in-Some.is in
    match_step c.args.levels c.args.left c.args.store.now (seen c.args.v) (seen c.args.p) c.args.any (λ asked. Meets is_memory asked c.opposite.result) c.if-levels-eq0.false c.if-left-eq0.false
    (rw e (c.opposite.ensures _ c.matches.ensures))

pub some_own-returns : goal.some_own-returns
some_own-returns t c =
    let e : map field_seen c.as_slice.result.now ≡ properties c.args.store.now (seen c.args.v) = ap (map field_seen) c.as_slice.ensures.value ∙ c.in_ok-own.ensures.properties in
    rw (← e) c.some_property.ensures

pub named_matches-every_property-requires : goal.named_matches-every_property-requires
named_matches-every_property-requires t c =
    let s : AllByRecursion (λ (f : Field). ViewStands (length c.args.store.now) f.1) (map field_seen c.as_slice.result.now) = rw c.as_slice.ensures.value c.in_ok-wanted.ensures.stands in
    search rules
