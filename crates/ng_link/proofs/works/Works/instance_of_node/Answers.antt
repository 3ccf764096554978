use Rattle.std.proofs.Common.{◌≡◌, ◌++◌, ◌∷◌, [], ℕ, List, Some, None, ap, sym, ◌∙◌}
use Rattle.std.specs.BTreeMap.Range.{range_contains}
use Rattle.std.specs.List.{filter}
use Rattle.std.specs.Map.{lookup}
use Rattle.std.specs.Ordering.{nat_cmp}
use Rattle.std.specs.Prelude.{option_and_then}
use Rattle.std.specs.declared.ops.Bound.TheVariants.{Included, Unbounded}
use Rattle.ng_instances.specs.Instances.{Owners, is_path, owner_of}
use Rattle.ng_link.proofs.Owners.{last_or, last-end, owner_last, is_upto}
use Rattle.ng_link.proofs.works.Works.instance_of_node.Goals as goal

abbrev upto : ℕ → Owners → Owners
upto n es = filter (λ e. range_contains nat_cmp Unbounded (Included n) e.0) es

pub returns-in-None : goal.returns-in-None
returns-in-None c =
    let w = c.args.self.now in
    let n = c.args.n in
    let cut : upto n w.owners.entries ≡ [] = sym (c.range.ensures.between tt) ∙ c.in-None.ensures.steps.0 in
    let none : owner_of n w.owners.entries ≡ None = owner_last n (λ e. range_contains nat_cmp Unbounded (Included n) e.0) (λ e. is_upto n e.0) None w.owners.entries ∙ ap (last_or None) cut in
    sym (ap (option_and_then (λ (p : List ℕ). lookup (is_path p) w.instances.entries)) none)

pub returns-in-Some : goal.returns-in-Some
returns-in-Some c =
    let w = c.args.self.now in
    let n = c.args.n in
    let last : ℕ × List ℕ = (c.in-Some.field-0-0.now, c.in-Some.path.now) in
    let cut : upto n w.owners.entries ≡ c.next_back.new.self ++ last ∷ [] = sym (c.range.ensures.between tt) ∙ c.in-Some.ensures.steps in
    let one : owner_of n w.owners.entries ≡ Some c.in-Some.path.now =
    owner_last n (λ e. range_contains nat_cmp Unbounded (Included n) e.0) (λ e. is_upto n e.0) None w.owners.entries ∙ (ap (last_or None) cut ∙ last-end None c.next_back.new.self last) in
    c.get.ensures.value ∙ sym (ap (option_and_then (λ (p : List ℕ). lookup (is_path p) w.instances.entries)) one)
