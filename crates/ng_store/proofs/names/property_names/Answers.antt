use Rattle.std.proofs.Common.{◌≡◌, ◌∙◌, ◌++◌, [], ℕ, List, map, decimal, sym, ap}
use Rattle.ng_base.specs.Objects.{indices_from, other_names}
use Rattle.ng_store.specs.NamesOf.{names_in, all_nameless}
use Rattle.ng_store.specs.ObjectOf.{properties_of}
use Rattle.ng_store.proofs.NamePlaces.{indices_by_names, others_by_names}
use Rattle.ng_store.proofs.names.property_names.Goals as goal

pub returns-clause-names : goal.returns-clause-names
returns-clause-names c =
    let p = c.args.properties.now in
    let ns = names_in p.names in
    let first : c.in_ok-indices.indices.keys ≡ indices_from [] (properties_of p) =
    c.in_ok-indices.ensures.indices ∙ (ap (λ (ks : List (List ℕ)). indices_from [] (all_nameless ks)) c.names-own.ensures ∙ sym (indices_by_names [] ns p.values.items p.as_many)) in
    let others : other_names (all_nameless c.names-own.result.now) ≡ other_names (properties_of p) =
    ap (λ (ks : List (List ℕ)). other_names (all_nameless ks)) c.names-own.ensures ∙ sym (others_by_names ns p.values.items p.as_many) in
    c.in_ok-all.ensures.names
    ∙ (ap (λ (is : List ℕ). map decimal is ++ other_names (all_nameless c.names-own.result.now)) first
    ∙ ap (λ (rest : List (List ℕ)). map decimal (indices_from [] (properties_of p)) ++ rest) others)
