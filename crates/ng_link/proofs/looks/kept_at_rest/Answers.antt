use Rattle.std.proofs.Common.{◌≡◌, false, None, Some, ap, sym, ◌∙◌}
use Rattle.std.specs.Option.{option_copied}
use Rattle.std.specs.Prelude.{is_some}
use Rattle.ng_value.specs.Snaps.{snap_of}
use Rattle.ng_watch.specs.Table.{watchers_of, found}
use Rattle.ng_link.proofs.Rested.{kept_found}
use Rattle.ng_build.proofs.Tables.{seen_through}
use Rattle.ng_link.proofs.looks.kept_at_rest.Goals as goal

pub returns-in-None : goal.returns-in-None
returns-in-None c =
    let none : is_some (found c.args.key.now (watchers_of c.args.works.now.watchers)) ≡ false = sym c.has.ensures ∙ c.if-has.false in
    sym (kept_found (watchers_of c.args.works.now.watchers) c.args.works.now.resting.entries c.args.key.now None none (sym c.get.ensures.value ∙ ap option_copied c.in-None.is))

pub returns-in-Some : goal.returns-in-Some
returns-in-Some c =
    let none : is_some (found c.args.key.now (watchers_of c.args.works.now.watchers)) ≡ false = sym c.has.ensures ∙ c.if-has.false in
    seen_through snap_of c.as_ref.result c.in-Some.kept.now c.as_ref.ensures.value
    ∙ sym (kept_found (watchers_of c.args.works.now.watchers) c.args.works.now.resting.entries c.args.key.now (Some c.in-Some.kept.now) none (sym c.get.ensures.value ∙ ap option_copied c.in-Some.is))
