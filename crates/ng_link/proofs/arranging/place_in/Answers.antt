use Rattle.std.proofs.Common.{ap, sym, ◌∙◌}
use Rattle.std.specs.Option.{option_copied}
use Rattle.ng_link.proofs.PlacesBy.{place_found}
use Rattle.ng_link.proofs.arranging.place_in.Goals as goal

pub returns-in-Some : goal.returns-in-Some
returns-in-Some c = λ bs all. place_found bs c.args.p.now c.in-Some.i.now c.args.places.now.entries all (sym c.get.ensures.value ∙ ap option_copied c.in-Some.is)
