use Rattle.std.proofs.Common.{◌∙◌, ℕ, List, ap, bytes_eq}
use Rattle.indexmap.specs.IndexSet.{insert_key}
use Rattle.ng_store.proofs.NamePlaces.{inserted_new}
use Rattle.ng_store.proofs.shapes.grown_names.Goals as goal

pub returns-clause-names : goal.returns-clause-names
returns-clause-names c =
    c.in_ok-insert.ensures.keys
    ∙ (ap (insert_key bytes_eq c.in_ok-all.all.keys) c.in_ok-copied.ensures
    ∙ (ap (λ (ks : List (List ℕ)). insert_key bytes_eq ks c.args.name.now) c.in_ok-all.ensures.names
    ∙ inserted_new c.args.names.now.keys c.args.name.now c.requires))
