use Rattle.std.proofs.Common.{◌≡◌, ◌-◌, suc, List, ap, sym, ◌∙◌, arith, map}
use Rattle.std.specs.Prelude.{option_map, unwrap_or}
use Rattle.ng_instances.specs.BoundOf.{inner_of}
use Rattle.ng_instances.specs.Instances.{Inner, inner_or}
use Rattle.ng_instances.specs.declared.instances.Inner as code
use Rattle.ng_instances.proofs.Noted.{inner_found}
use Rattle.ng_instances.proofs.instances.Linked.scope_at.Goals as goal

pub returns-in-None : goal.returns-in-None
returns-in-None c = λ path.
    let one = c.args.self.now in
    let d : Inner = record { scope = one.scope.0; path = path } in
    let last : suc (c.args.n - 1) ≡ c.args.n = omega arith in
    ap (λ r. (unwrap_or (option_map (λ x. inner_of x.now) r) d).scope) (sym c.in-None.is)
    ∙ (ap (λ (i : Inner). i.scope) (inner_found d c.deref.result.now c.args.n (c.args.n - 1) last c.get.result c.get.ensures.lookup.0 c.get.ensures.lookup.1)
    ∙ ap (λ (xs : List code.Inner). (inner_or d c.args.n (map inner_of xs)).scope) c.deref.ensures.value)

pub returns-in-Some : goal.returns-in-Some
returns-in-Some c = λ path.
    let one = c.args.self.now in
    let d : Inner = record { scope = one.scope.0; path = path } in
    let last : suc (c.args.n - 1) ≡ c.args.n = omega arith in
    ap (λ r. (unwrap_or (option_map (λ x. inner_of x.now) r) d).scope) (sym c.in-Some.is)
    ∙ (ap (λ (i : Inner). i.scope) (inner_found d c.deref.result.now c.args.n (c.args.n - 1) last c.get.result c.get.ensures.lookup.0 c.get.ensures.lookup.1)
    ∙ ap (λ (xs : List code.Inner). (inner_or d c.args.n (map inner_of xs)).scope) c.deref.ensures.value)
