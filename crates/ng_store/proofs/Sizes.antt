-- How many values stand in JSON, itself counted: a part has fewer than the whole.
use Rattle.std.proofs.Common.{ℕ, suc, ◌+◌}
use Rattle.serde_json.specs.Data.{Data, null, boolean, number, string, array, object, Items, no_items, item, Members, no_members, member}

abbrev mutual
  pub values_in : Data → ℕ
  values_in null = 1
  values_in (boolean b) = 1
  values_in (number n) = 1
  values_in (string s) = 1
  values_in (array ds) = suc (values_in_items ds)
  values_in (object ms) = suc (values_in_members ms)

  pub values_in_items : Items → ℕ
  values_in_items no_items = 0
  values_in_items (item d ds) = values_in d + values_in_items ds

  pub values_in_members : Members → ℕ
  values_in_members no_members = 0
  values_in_members (member k d ms) = values_in d + values_in_members ms
