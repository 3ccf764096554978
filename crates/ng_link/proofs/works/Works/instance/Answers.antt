use Rattle.std.proofs.Common.{◌≡◌, ℕ, List, [], true, false, Option, Some, None, refl, ap, sym, ◌∙◌}
use Rattle.std.specs.Map.{lookup}
use Rattle.std.specs.Prelude.{is_some, option_map}
use Rattle.ng_drawing.specs.Instance.{Instance}
use Rattle.ng_instances.specs.Instances.{Linked, is_path}
use Rattle.ng_instances.specs.InstanceOf.{linked_of}
use Rattle.ng_link.specs.State.{instance_at, instance, state_of, templates_of}
use Rattle.ng_instances.specs.declared.instances.Linked as code
use Rattle.ng_link.specs.declared.works.Works.{Works}
use Rattle.ng_instances.proofs.Places.{linked_seen}
use Rattle.ng_link.proofs.works.Works.instance.Goals as goal

-- what is read where there is something, and where there is nothing
read_if : {A X Y : Type 0} (y : Y) (f : X → A) (o : Option X) → is_some o ≡ true → option_map (λ (_ : A). y) (option_map f o) ≡ Some y
read_if y f None e = absurd (cc)
read_if y f (Some x) e = refl

read_unless : {A X Y : Type 0} (y : Y) (f : X → A) (o : Option X) → is_some o ≡ false → option_map (λ (_ : A). y) (option_map f o) ≡ None
read_unless y f None e = refl
read_unless y f (Some x) e = absurd (cc)

-- the page's instance, where the code's table has it
module _ (w : Works) where
  abbrev top : Instance
  top = instance_at (state_of w).watchers (state_of w).resting (state_of w).controls (state_of w).instances []

  abbrev entry : Option code.Linked
  entry = lookup (is_path []) w.instances.entries

  read : instance (state_of w) ≡ option_map (λ (_ : Linked). top) (option_map (linked_of (templates_of w) []) entry)
  read = ap (option_map (λ (_ : Linked). top)) (linked_seen (templates_of w) [] w.instances.entries)

pub returns-then-not-contains_key : goal.returns-then-not-contains_key
returns-then-not-contains_key c =
    let w = c.args.self.now in
    let none : is_some (entry w) ≡ false = ap (λ (p : List ℕ). is_some (lookup (is_path p) w.instances.entries)) (sym c.new-root.ensures) ∙ (sym c.contains_key.ensures ∙ c.if-not-contains_key.true) in
    sym (read w ∙ read_unless (top w) (linked_of (templates_of w) []) (entry w) none)

pub returns : goal.returns
returns c =
    let w = c.args.self.now in
    let some : is_some (entry w) ≡ true = ap (λ (p : List ℕ). is_some (lookup (is_path p) w.instances.entries)) (sym c.new-root.ensures) ∙ (sym c.contains_key.ensures ∙ c.if-not-contains_key.false) in
    ap Some (c.in_ok-instance_on.ensures ∙ ap (instance_at (state_of w).watchers (state_of w).resting (state_of w).controls (state_of w).instances) c.new-root.ensures)
    ∙ sym (read w ∙ read_if (top w) (linked_of (templates_of w) []) (entry w) some)
