use Rattle.std.proofs.Common.{Option, Bor, ap, sym, refl, ◌∙◌}
use Rattle.std.specs.Option.{option_copied}
use Rattle.ng_base.specs.declared.path.Key.{Key}
use Rattle.ng_watch.specs.Chunks.{joined}
use Rattle.ng_watch.specs.Table.{watchers_of}
use Rattle.ng_watch.specs.Walks.{next_of}
use Rattle.ng_watch.proofs.AtPlaces.{key_in}
use Rattle.ng_watch.proofs.Tables.{key_next}
use Rattle.ng_watch.proofs.Stepping.{first_there}
use Rattle.ng_watch.proofs.places.place_from.Goals as goal

pub returns-in-None : goal.returns-in-None
returns-in-None c =
    let t = watchers_of (joined c.args.chunks.now) in
    first_there c.args.chunks.now c.start.result.chunk c.start.result.row c.start.ensures.row ∙ ap (λ (o : Option (Bor Key)). next_of (option_copied o) t) (sym c.in-None.is)

pub returns-in-Some : goal.returns-in-Some
returns-in-Some c =
    let t = watchers_of (joined c.args.chunks.now) in
    ap key_in c.next_place.ensures ∙ key_next c.in-Some.key.now (joined c.args.chunks.now) t refl ∙ ap (λ (o : Option (Bor Key)). next_of (option_copied o) t) (sym c.in-Some.is)
