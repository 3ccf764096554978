-- The instance to which a node belongs is the last that doesn't begin after it.
use Rattle.std.proofs.Common.{◌≡◌, ℕ, Bool, true, false, cond, List, [], ◌∷◌, ◌++◌, Option, Some, None, refl, ap, ◌∙◌, sym, arith}
use Rattle.std.specs.BTreeMap.{is_at}
use Rattle.std.specs.BTreeMap.Range.{range_contains}
use Rattle.std.specs.List.{filter}
use Rattle.std.specs.Map.{lookup}
use Rattle.std.specs.Ordering.{nat_cmp}
use Rattle.std.specs.Prelude.{nat_le, option_map, option_and_then, unwrap_or}
use Rattle.std.specs.declared.ops.Bound.TheVariants.{Included, Unbounded}
use Rattle.std.proofs.lemmas.Bool.Decides.{nat_tests}
use Rattle.ng_drawing.specs.Named.{Named}
use Rattle.ng_build.specs.Controls.{Controlled}
use Rattle.ng_link.specs.Events.{handled_in, controlled_in, scope_in, element_scope}
use Rattle.ng_build.specs.Handlers.{Handled}
use Rattle.ng_instances.specs.Instances.{Linked, Owners, owner_or, is_path, linked_at, scope_number}
use Rattle.ng_build.specs.HandledOf.{handled_of, controlled_of}
use Rattle.ng_instances.specs.InstanceOf.{page_of, linked_of, instances_of}
use Rattle.ng_instances.specs.declared.instances.Linked as code
use Rattle.ng_instances.proofs.Places.{linked_seen}

-- the last path of some entries
abbrev pub last_or : Option (List ℕ) → Owners → Option (List ℕ)
last_or o [] = o
last_or o (e ∷ es) = last_or (Some e.1) es

pub last-end : (o : Option (List ℕ)) (es : Owners) (e : ℕ × List ℕ) → last_or o (es ++ e ∷ []) ≡ Some e.1
last-end o [] e = refl
last-end o (f ∷ fs) e = last-end (Some f.1) fs e

module _ (n : ℕ) (test : ℕ × List ℕ → Bool) (same : (e : ℕ × List ℕ) → test e ≡ nat_le e.0 n) where
  pub owner_last : (o : Option (List ℕ)) (es : Owners) → owner_or o n es ≡ last_or o (filter test es)
  owner_last o [] = refl
  owner_last o (e ∷ es) = by_test (nat_le e.0 n) (same e) (owner_last (Some e.1) es) (owner_last o es)
    where
      by_test : (b : Bool) → test e ≡ b → owner_or (Some e.1) n es ≡ last_or (Some e.1) (filter test es) → owner_or o n es ≡ last_or o (filter test es)
          → owner_or (cond b (Some e.1) o) n es ≡ last_or o (cond (test e) (e ∷ filter test es) (filter test es))
      by_test true t more rest = more ∙ ap (λ (b : Bool). last_or o (cond b (e ∷ filter test es) (filter test es))) (sym t)
      by_test false t more rest = rest ∙ ap (λ (b : Bool). last_or o (cond b (e ∷ filter test es) (filter test es))) (sym t)

-- the names up to one
pub is_upto : (n k : ℕ) → range_contains nat_cmp Unbounded (Included n) k ≡ nat_le k n
is_upto n k = grind (arith, nat_tests)

-- the instance of a node, as the code's table has it
abbrev pub handled_or : Option code.Linked → Handled
handled_or None = []
handled_or (Some i) = handled_of i.handlers.entries

abbrev pub controlled_or : Option code.Linked → Controlled
controlled_or None = []
controlled_or (Some i) = controlled_of i.controls.entries

abbrev pub scope_or : Option code.Linked → ℕ
scope_or None = 0
scope_or (Some i) = i.scope.0

module _ (all : List Named) (is : List (List ℕ × code.Linked)) where
  abbrev in_table : Option (List ℕ) → Option code.Linked
  in_table o = option_and_then (λ (p : List ℕ). lookup (is_path p) is) o

  abbrev in_state : Option (List ℕ) → Option Linked
  in_state o = option_and_then (λ (p : List ℕ). linked_at p (instances_of all is)) o

  seen_handled : (p : List ℕ) (o : Option code.Linked) → handled_in (option_map (linked_of all p) o) ≡ handled_or o
  seen_handled p None = refl
  seen_handled p (Some i) = refl

  seen_scope : (p : List ℕ) (o : Option code.Linked) → scope_in (option_map (linked_of all p) o) ≡ scope_or o
  seen_scope p None = refl
  seen_scope p (Some i) = refl

  pub node_handled : (o : Option (List ℕ)) → handled_in (in_state o) ≡ handled_or (in_table o)
  node_handled None = refl
  node_handled (Some p) = ap handled_in (linked_seen all p is) ∙ seen_handled p (lookup (is_path p) is)

  seen_controlled : (p : List ℕ) (o : Option code.Linked) → controlled_in (option_map (linked_of all p) o) ≡ controlled_or o
  seen_controlled p None = refl
  seen_controlled p (Some i) = refl

  pub node_controlled : (o : Option (List ℕ)) → controlled_in (in_state o) ≡ controlled_or (in_table o)
  node_controlled None = refl
  node_controlled (Some p) = ap controlled_in (linked_seen all p is) ∙ seen_controlled p (lookup (is_path p) is)

  pub node_scope : (o : Option (List ℕ)) → scope_in (in_state o) ≡ scope_or (in_table o)
  node_scope None = refl
  node_scope (Some p) = ap scope_in (linked_seen all p is) ∙ seen_scope p (lookup (is_path p) is)

  -- the scope of an element
  pub element_none : (n : ℕ) (o : Option (List ℕ)) → in_table o ≡ None → element_scope n (in_state o) ≡ 0
  element_none n None e = refl
  element_none n (Some p) e = ap (element_scope n) (linked_seen all p is ∙ ap (option_map (linked_of all p)) e)

  pub element_some : (n : ℕ) (o : Option (List ℕ)) (i : code.Linked) (m : ℕ) → in_table o ≡ Some i → ((path : List ℕ) → m ≡ scope_number (page_of path i) (unwrap_or (lookup (is_at (nat_cmp n)) i.elements.entries) 0)) → element_scope n (in_state o) ≡ m
  element_some n None i m e h = absurd (cc)
  element_some n (Some p) i m e h = ap (element_scope n) (linked_seen all p is ∙ ap (option_map (linked_of all p)) e) ∙ sym (h p)
