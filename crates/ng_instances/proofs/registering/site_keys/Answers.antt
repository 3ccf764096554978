use Rattle.std.proofs.Common.{◌<◌, ◌+◌, ◌++◌, ◌∷◌, [], ℕ, List, ap, sym, ◌∙◌, drop, get_or, length, arith, append_assoc}
use Rattle.ng_base.specs.declared.path.Key.{Key}
use Rattle.ng_drawing.specs.Template.{SiteScopes}
use Rattle.ng_parts.specs.FragmentOf.{fragment_of}
use Rattle.ng_instances.specs.BoundOf.{ground_of}
use Rattle.ng_instances.specs.Registering.{site_key, keys_on}
use Rattle.ng_build.proofs.Loops.{got_or, next_item}
use Rattle.ng_instances.proofs.registering.site_keys.Goals as goal

pub loop-i-preserved : goal.loop-i-preserved
loop-i-preserved c =
    let scopes = c.args.core.now.scopes in
    let f = fragment_of c.args.fragment.now in
    let g = ground_of c.args.ground.now in
    let ss = c.args.serials.now in
    let i = c.loop-i.i in
    let lt : i < length ss = omega arith in
    let n : ℕ = get_or ss i 0 in
    let made : List Key = c.loop-i.keys.items in
    let key : Key = c.in_ok-site_key.field-0 in
    let rest : List Key = keys_on scopes f g (i + 1) (drop (i + 1) ss) in
    ap (λ (ks : List Key). ks ++ rest) c.in_ok-push.ensures.items
    ∙ (append_assoc made (key ∷ []) rest
    ∙ (ap (λ (k : Key). made ++ k ∷ rest) (c.in_ok-site_key.ensures ∙ ap (λ (m : SiteScopes). site_key scopes g m n) c.mark.ensures)
    ∙ (sym (ap (λ (ns : List ℕ). made ++ keys_on scopes f g i ns) (next_item ss i n lt (got_or ss i 0 lt))) ∙ c.loop-i.invariant)))
