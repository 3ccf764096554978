use Rattle.std.proofs.Common.{◌≡◌, ◌∙◌, ◌++◌, ◌∷◌, [], ℕ, List, sym, ap, bytes_eq, false}
use Rattle.std.specs.List.{list_any}
use Rattle.indexmap.specs.IndexSet.{insert_key}
use Rattle.ng_store.specs.NamesOf.{names_in}
use Rattle.ng_store.proofs.NamePlaces.{inserted_new}
use Rattle.ng_store.proofs.properties.lengthen.Goals as goal

pub returns-in-Own-clause-ok : goal.returns-in-Own-clause-ok
returns-in-Own-clause-ok c =
    let inner : c.deref_mut.result.now.keys ≡ c.in-Own.own.value.keys = (λ j. (c.deref_mut.ensures.value j).keys) in
    let own : c.in-Own.own.value.keys ≡ names_in c.args.names.now = sym (ap names_in c.in-Own.is) in
    let same : c.deref_mut.result.now.keys ≡ names_in c.args.names.now = inner ∙ own in
    let new : list_any (bytes_eq c.args.name.now) (names_in c.args.names.now) ≡ false = c.requires in
    c.in_ok-insert.ensures.keys
    ∙ (ap (insert_key bytes_eq c.deref_mut.result.now.keys) c.in_ok-copied.ensures
    ∙ (ap (λ (ks : List (List ℕ)). insert_key bytes_eq ks c.args.name.now) same ∙ inserted_new (names_in c.args.names.now) c.args.name.now new))
