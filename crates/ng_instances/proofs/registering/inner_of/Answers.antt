use Rattle.std.proofs.Common.{◌<◌, ◌≤◌, ◌+◌, ◌++◌, ℕ, List, ap, sym, ◌∙◌, drop, get_or, length, map, arith, append-nil}
use Rattle.ng_base.specs.declared.name.ScopeId.{ScopeId}
use Rattle.ng_behaviour.specs.Scopes.{path_at}
use Rattle.ng_instances.specs.BoundOf.{inner_of}
use Rattle.ng_instances.specs.Instances.{Inner}
use Rattle.ng_instances.specs.declared.instances.Inner as code
use Rattle.ng_build.proofs.Loops.{got_or, pushed, next_through, none_through, item_of_all}
use Rattle.ng_instances.proofs.registering.inner_of.Goals as goal

abbrev name : ScopeId → ℕ
name s = s.0

pub inner_at-requires : goal.inner_at-requires
inner_at-requires c =
    let ss = c.args.scopes.now in
    let i = c.loop-i.i in
    let lt : i < length ss = omega arith in
    let s : ScopeId = get_or ss i (record { 0 = 0 }) in
    item_of_all (λ (n : ℕ). n < length c.args.core.now.scopes) name ss i s c.requires lt (got_or ss i (record { 0 = 0 }) lt)

pub loop-i-preserved : goal.loop-i-preserved
loop-i-preserved c =
    let ss = c.args.scopes.now in
    let i = c.loop-i.i in
    let lt : i < length ss = omega arith in
    let s : ScopeId = get_or ss i (record { 0 = 0 }) in
    let made : ℕ → Inner = λ n. record { scope = n; path = path_at c.args.core.now.scopes n } in
    let before : List code.Inner = c.loop-i.inner.items in
    let rest : List Inner = map made (drop (i + 1) (map name ss)) in
    ap (λ (xs : List code.Inner). map inner_of xs ++ rest) c.in_ok-push.ensures.items
    ∙ (pushed inner_of before c.in_ok-inner_at.field-0 (made (name s)) rest c.in_ok-inner_at.ensures
    ∙ (sym (ap (λ (xs : List Inner). map inner_of before ++ xs) (next_through made name ss i s lt (got_or ss i (record { 0 = 0 }) lt))) ∙ c.loop-i.invariant))

pub returns : goal.returns
returns c =
    let ss = c.args.scopes.now in
    let i = c.loop-i.i in
    let past : length ss ≤ i = omega arith in
    let made : ℕ → Inner = λ n. record { scope = n; path = path_at c.args.core.now.scopes n } in
    let before : List Inner = map inner_of c.loop-i.inner.items in
    sym (append-nil before) ∙ (ap (λ (xs : List Inner). before ++ xs) (sym (none_through made name ss i past)) ∙ c.loop-i.invariant)
