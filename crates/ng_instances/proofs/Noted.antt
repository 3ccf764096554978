-- The inner scopes, marks and bounds of an instance, as the code's tables have them.
use Rattle.std.proofs.Common.{◌≡◌, ℕ, suc, List, Option, Some, None, Bor, refl, ap, ◌∙◌, map, length, get_or, nat_lt}
use Rattle.std.specs.BTreeMap.{insert_entry, is_at}
use Rattle.std.specs.Map.{lookup}
use Rattle.std.specs.Option.{IfSome, option_copied}
use Rattle.std.specs.Ordering.{nat_cmp}
use Rattle.std.specs.Prelude.{is_some, option_map, option_and_then, unwrap_or}
use Rattle.std.proofs.lemmas.Map.Made.{lookup-map_values}
use Rattle.ng_base.specs.declared.path.Key.{Key}
use Rattle.ng_parts.specs.FragmentOf.{mark_of}
use Rattle.ng_drawing.specs.Named.{Named}
use Rattle.ng_parts.specs.declared.fragment.SiteScopes as code_mark
use Rattle.ng_instances.specs.Bindings.{Bound, bound_in_table}
use Rattle.ng_instances.specs.BoundOf.{bound_of, bounds_of, inner_of}
use Rattle.ng_instances.specs.Instances.{Inner, Linked, Inners, inner_or, bound_for, instance_path, is_path}
use Rattle.ng_instances.specs.MarksOf.{marks_of}
use Rattle.ng_instances.specs.Registering.{own_mark, mark_in}
use Rattle.ng_instances.specs.InstanceOf.{instances_of}
use Rattle.ng_instances.specs.declared.instances.Bound as code_bound
use Rattle.ng_instances.specs.declared.instances.Inner as code_inner
use Rattle.ng_instances.specs.declared.instances.Linked as code
use Rattle.ng_build.proofs.Loops.{index_seen}
use Rattle.ng_instances.proofs.Places.{for_none, for_some}
use Rattle.ng_build.proofs.Tables.{put-seen}

-- what is seen of something borrowed
pub copied_map : {X Y : Type 0} (f : X → Y) (r : Option (Bor X)) → option_map (λ x. f x.now) r ≡ option_map f (option_copied r)
copied_map f None = refl
copied_map f (Some x) = refl

-- an inner scope by its number
pub inner_found : (d : Inner) (xs : List code_inner.Inner) (n k : ℕ) → suc k ≡ n → (r : Option (Bor code_inner.Inner)) → is_some r ≡ nat_lt k (length xs) → IfSome r (λ x. x.now ≡ get_or xs k x.now)
    → unwrap_or (option_map (λ x. inner_of x.now) r) d ≡ inner_or d n (map inner_of xs)
inner_found d xs n k last r e h = index_seen inner_of xs k d r e h ∙ ap (λ (m : ℕ). inner_or d m (map inner_of xs)) last

-- the scopes of a site
pub mark_found : (n : ℕ) (ms : List (ℕ × code_mark.SiteScopes)) (o : Option code_mark.SiteScopes) → lookup (is_at (nat_cmp n)) ms ≡ o → mark_in (marks_of ms) n ≡ unwrap_or (option_map mark_of o) own_mark
mark_found n ms o is = ap (λ m. unwrap_or m own_mark) (lookup-map_values mark_of (is_at (nat_cmp n)) ms ∙ ap (option_map mark_of) is)

pub mark_noted : (n : ℕ) (m : code_mark.SiteScopes) (ms : List (ℕ × code_mark.SiteScopes)) → marks_of (insert_entry nat_cmp ms n m) ≡ insert_entry nat_cmp (marks_of ms) n (mark_of m)
mark_noted n m ms = put-seen mark_of nat_cmp n m ms

-- what a site writes
pub bound_found : (n : ℕ) (bs : List (ℕ × code_bound.Bound)) (o : Option code_bound.Bound) → lookup (is_at (nat_cmp n)) bs ≡ o → bound_in_table n (bounds_of bs) ≡ option_map bound_of o
bound_found n bs o is = lookup-map_values bound_of (is_at (nat_cmp n)) bs ∙ ap (option_map bound_of) is

module _ (all : List Named) (inner : Inners) (is : List (List ℕ × code.Linked)) (k : Key) where
  abbrev bound_here : Option Linked → Option Bound
  bound_here o = option_and_then (λ (l : Linked). bound_in_table k.serial.0 l.page.bounds) o

  pub bound_none : lookup (is_path (instance_path inner k.path)) is ≡ None → bound_for inner (instances_of all is) k ≡ None
  bound_none e = ap bound_here (for_none all inner is k e)

  pub bound_some : (i : code.Linked) → lookup (is_path (instance_path inner k.path)) is ≡ Some i → (o : Option code_bound.Bound) → lookup (is_at (nat_cmp k.serial.0)) i.bounds.entries ≡ o
      → bound_for inner (instances_of all is) k ≡ option_map bound_of o
  bound_some i e o at = ap bound_here (for_some all inner is k i e) ∙ bound_found k.serial.0 i.bounds.entries o at
