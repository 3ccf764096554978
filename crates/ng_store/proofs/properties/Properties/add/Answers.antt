use Rattle.std.proofs.Common.{◌≡◌, ◌∙◌, ◌++◌, ◌∷◌, [], List, ap}
use Rattle.std.specs.List.{zip}
use Rattle.ng_base.specs.declared.value.Value.{Value}
use Rattle.ng_store.specs.NamesOf.{names_in}
use Rattle.ng_store.proofs.NamePlaces.{value_pushed}
use Rattle.ng_store.proofs.properties.Properties.add.Goals as goal

pub returns-clause-ok : goal.returns-clause-ok
returns-clause-ok c =
    let vs = c.args.self.now.values.items in
    let values : c.push_reserved.new.self.items ≡ vs ++ c.args.v ∷ [] =
    c.push_reserved.ensures.items ∙ ap (λ (xs : List Value). xs ++ c.args.v ∷ []) c.in_ok-reserve.ensures.items in
    (λ j. zip (c.in_ok-lengthen.ensures.ok j) (values j)) ∙ value_pushed (names_in c.args.self.now.names) vs c.args.name.now c.args.v c.args.self.now.as_many
