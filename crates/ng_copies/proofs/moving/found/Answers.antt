use Rattle.std.proofs.Common.{◌∙◌, None, Some, ap, sym}
use Rattle.std.specs.Prelude.{option_map}
use Rattle.ng_parts.proofs.Lookups.{found_seen, got_or}
use Rattle.ng_copies.proofs.moving.found.Goals as goal

pub returns-in-None : goal.returns-in-None
returns-in-None c =
    let seen = found_seen c.args.moved.now c.args.n c.get.result c.get.ensures.lookup in
    got_or c.args.moved.now c.args.n None None (ap (option_map (λ m. m.now)) (sym c.in-None.is) ∙ seen)

pub returns-in-Some : goal.returns-in-Some
returns-in-Some c =
    let seen = found_seen c.args.moved.now c.args.n c.get.result c.get.ensures.lookup in
    got_or c.args.moved.now c.args.n None (Some c.in-Some.m.now) (ap (option_map (λ m. m.now)) (sym c.in-Some.is) ∙ seen)
