use Rattle.std.proofs.Common.{◌≡◌, ◌∙◌, Some, sym, ap, true, bytes_eq, map, slice_get}
use Rattle.std.specs.Prelude.{option_map}
use Rattle.std.proofs.lemmas.Slice.Eq.{bytes_eq-Decides}
use Rattle.ng_instances.specs.InstanceOf.{body_of}
use Rattle.ng_build.proofs.Loops.{place_seen}
use Rattle.ng_link.proofs.unlinking.is_on.Goals as goal

pub returns-in-Some : goal.returns-in-Some
returns-in-Some c = λ e.
    let p = c.args.p.now in
    let b = c.in-Some.body.now in
    let found = c.get.ensures.lookup in
    let at : slice_get (map body_of c.args.bodies.now) c.args.i ≡ Some (body_of b) = sym (place_seen body_of c.args.bodies.now c.args.i c.get.result found.0 found.1) ∙ ap (option_map (λ x. body_of x.now)) c.in-Some.is in
    let same : bytes_eq p b.path ≡ true = ap (bytes_eq p) (sym c.path.ensures) ∙ (sym c.eq.ensures ∙ e) in
    (body_of b, at, (bytes_eq-Decides p b.path).0 same)
