use Rattle.std.proofs.Common.{◌≡◌, ◌<◌, ◌+◌, ◌-◌, ◌∙◌, ℕ, sym, ap, true, false, bytes_eq, map, drop, length, arith}
use Rattle.std.proofs.lemmas.Slice.Eq.{bytes_eq-Decides}
use Rattle.ng_base.specs.Order.{path_cmp-eq}
use Rattle.ng_link.specs.Standing.{body_count}
use Rattle.ng_instances.specs.InstanceOf.{body_of}
use Rattle.ng_link.proofs.HeldCut.{seen_at, next_body}
use Rattle.ng_link.proofs.unlinking.last_place.Goals as goal

pub returns-then-eq : goal.returns-then-eq
returns-then-eq c =
    let bs = c.args.bodies.now in
    let i = c.loop-i.i - 1 in
    let b = c.index-bodies-i.result in
    let within : i < length bs = omega (arith, c.loop-i.invariant.within, c.loop-i-test.true) in
    let same : bytes_eq c.args.p.now b.path ≡ true = ap (bytes_eq c.args.p.now) (sym c.path.ensures) ∙ (sym c.eq.ensures ∙ c.if-eq.true) in
    (body_of b, seen_at body_of bs i b within c.index-bodies-i.is, (bytes_eq-Decides c.args.p.now b.path).0 same)

pub loop-i-preserved : goal.loop-i-preserved
loop-i-preserved c =
    let bs = c.args.bodies.now in
    let i = c.loop-i.i - 1 in
    let b = c.index-bodies-i.result in
    let within : i < length bs = omega (arith, c.loop-i.invariant.within, c.loop-i-test.true) in
    let last : i + 1 ≡ c.loop-i.i = omega (arith, c.loop-i-test.true) in
    let other : bytes_eq c.args.p.now b.path ≡ false = ap (bytes_eq c.args.p.now) (sym c.path.ensures) ∙ (sym c.eq.ensures ∙ c.if-eq.false) in
    record {
      within = omega (arith, c.loop-i.invariant.within);
      none =
          sym (next_body c.args.p.now bs i b within c.index-bodies-i.is (sym (path_cmp-eq c.args.p.now b.path) ∙ other))
          ∙ (ap (λ (n : ℕ). body_count c.args.p.now (map body_of (drop n bs))) last ∙ c.loop-i.invariant.none);
    }
