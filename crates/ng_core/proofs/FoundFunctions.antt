-- The locals of a body stand, and what is found under a function's name.
use Rattle.std.proofs.Common.{◌≡◌, ℕ, zero, suc, List, [], ◌∷◌, map, Some, None, refl, ap, subst}
use Rattle.std.specs.Prelude.{slice_get}
use Rattle.std.specs.List.{AllByRecursion}
use Rattle.ng_base.specs.Objects.{Object, StandsAmong}
use Rattle.ng_base.specs.Views.{ViewTree}
use Rattle.ng_language.specs.Views.{ViewStands}
use Rattle.ng_store.proofs.Sound.{all_append}
use Rattle.ng_members.specs.Leaves.{Local, LocalsStand}
use Rattle.ng_members.specs.Methods.{argument}
use Rattle.ng_write.specs.Making.{value_in}
use Rattle.ng_core.specs.Calling.{bound_from, found_as, found_in, no_function}
use Rattle.ng_core.specs.Frames.{FunStands, fun_of}
use Rattle.ng_core.specs.declared.core_state.Function.{Function}
use Rattle.ng_core.proofs.Targets.{value_stands}

argument_stands : (n : ℕ) (args : List ViewTree) (i : ℕ) → AllByRecursion (ViewStands n) args → ViewStands n (argument args i)
argument_stands n [] i a = tt
argument_stands n (t ∷ ts) zero a = a.0
argument_stands n (t ∷ ts) (suc i) a = argument_stands n ts i a.1

all_bound : (n i : ℕ) (ps : List (List ℕ)) (args : List ViewTree) → AllByRecursion (ViewStands n) args → LocalsStand n (bound_from i ps args)
all_bound n i [] args a = tt
all_bound n i (p ∷ ps) args a =
    all_append (λ (l : Local). StandsAmong n l.1) (bound_from (suc i) ps args) ((p, value_in (argument args i)) ∷ []) (all_bound n (suc i) ps args a)
    (value_stands n (argument args i) (argument_stands n args i a), tt)

pub bound_stands : (n : ℕ) (ls : List Local) (i : ℕ) (ps : List (List ℕ)) (args : List ViewTree) → ls ≡ bound_from i ps args → AllByRecursion (ViewStands n) args → LocalsStand n ls
bound_stands n ls i ps args e a = rw e (all_bound n i ps args a)

pub ruleset bound = (bound_stands)

pub get_fun : (fs : List Function) (i : ℕ) (f : Function) → slice_get fs i ≡ Some f → slice_get (map fun_of fs) i ≡ Some (fun_of f)
get_fun [] i f e = absurd (cc)
get_fun (g ∷ gs) zero f e = let q : g ≡ f = cc in ap (λ x. Some (fun_of x)) q
get_fun (g ∷ gs) (suc i) f e = get_fun gs i f e

pub fun_stands : (n : ℕ) (fs : List Function) (i : ℕ) (f : Function) → slice_get fs i ≡ Some f → AllByRecursion (FunStands n) (map fun_of fs) → FunStands n (fun_of f)
fun_stands n [] i f e a = absurd (cc)
fun_stands n (g ∷ gs) zero f e a = let q : g ≡ f = cc in subst (λ x. FunStands n (fun_of x)) q a.0
fun_stands n (g ∷ gs) (suc i) f e a = fun_stands n gs i f e a.1

pub found_at : (objects : List Object) (fs : List Function) (i : ℕ) (f : Function) (args : List ViewTree) → slice_get fs i ≡ Some f → found_in objects (slice_get (map fun_of fs) i) args ≡ found_as objects (fun_of f) args
found_at objects fs i f args e = ap (λ o. found_in objects o args) (get_fun fs i f e)

pub get_none : (objects : List Object) (fs : List Function) (i : ℕ) (args : List ViewTree) → slice_get fs i ≡ None → found_in objects (slice_get (map fun_of fs) i) args ≡ no_function
get_none objects [] i args e = refl
get_none objects (g ∷ gs) zero args e = absurd (cc)
get_none objects (g ∷ gs) (suc i) args e = get_none objects gs i args e

pub ruleset found = (fun_stands, found_at)
