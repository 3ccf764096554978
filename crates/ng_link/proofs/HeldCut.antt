-- A body is taken out of the outlets that an instance has, as they are kept.
use Rattle.std.proofs.Common.{◌≡◌, ◌<◌, ◌≤◌, ◌+◌, ℕ, zero, suc, Bool, true, false, cond, List, [], ◌∷◌, Option, Some, None, refl, ap, ◌∙◌, sym, subst, map, length, slice_get, slice_set, get_or, drop, arith, add-one}
use Rattle.std.specs.Prelude.{option_map, option_and_then, MatchOption}
use Rattle.std.specs.Map.{lookup, set_value}
use Rattle.std.specs.declared.alloc.Global.{Global}
use Rattle.std.specs.declared.vec.Vec.{Vec}
use Rattle.std.proofs.lemmas.Option.{slice_get-map, slice_get-get_or, slice_get_within}
use Rattle.std.proofs.lemmas.List.{length-map}
use Rattle.ng_base.specs.declared.path.Key.{Key}
use Rattle.std.specs.BTreeMap.{is_at}
use Rattle.std.specs.Ordering.{nat_cmp}
use Rattle.ng_dom.specs.Lists.{without_at}
use Rattle.ng_drawing.specs.Named.{Named}
use Rattle.ng_instances.specs.Instances.{Body, OutletState, Instances, Inners, instance_path, is_path, with_outlets, outlets_changed}
use Rattle.ng_link.specs.Standing.{body_count, held_count}
use Rattle.ng_instances.specs.InstanceOf.{body_of, outlet_of, linked_of, instances_of, spot_at, spot_in}
use Rattle.ng_link.specs.Unlinking.{IsHeldAt, body_cut}
use Rattle.ng_instances.specs.declared.instances.Body as code_body
use Rattle.ng_instances.specs.declared.instances.OutletState as code_outlet
use Rattle.ng_instances.specs.declared.instances.Linked as code

-- the i-th of what is seen
pub seen_at : {A B : Type 0} (f : A → B) (xs : List A) (i : ℕ) (x : A) → i < length xs → x ≡ get_or xs i x → slice_get (map f xs) i ≡ Some (f x)
seen_at f xs i x lt is = slice_get-map f xs i ∙ ap (option_map f) (slice_get-get_or xs i x lt ∙ ap Some (sym is))

-- what is left of a list from the i-th on
left_at : {A : Type 0} (xs : List A) (i : ℕ) (x : A) → i < length xs → x ≡ get_or xs i x → drop i xs ≡ x ∷ drop (suc i) xs
left_at {A = A} [] i x lt is = absurd (omega (arith, lt))
left_at {A = A} (y ∷ ys) zero x lt is = ap (λ (z : A). z ∷ ys) (sym is)
left_at {A = A} (y ∷ ys) (suc i) x lt is = left_at ys i x (omega (arith, lt)) is

-- a body that isn't on a path is not counted
pub next_body : (p : List ℕ) (bs : List code_body.Body) (i : ℕ) (b : code_body.Body) → i < length bs → b ≡ get_or bs i b → is_path p b.path ≡ false
    → body_count p (map body_of (drop (i + 1) bs)) ≡ body_count p (map body_of (drop i bs))
next_body p bs i b lt is off =
    let cut = left_at bs i b lt is ∙ ap (λ (n : ℕ). b ∷ drop n bs) (sym (add-one i)) in
    let none : cond {A = ℕ} (is_path p b.path) 1 0 ≡ 0 = ap (λ (t : Bool). cond {A = ℕ} t 1 0) off in
    let count : body_count p (map body_of (drop i bs)) ≡ cond {A = ℕ} (is_path p b.path) 1 0 + body_count p (map body_of (drop (i + 1) bs)) = ap (λ (cs : List code_body.Body). body_count p (map body_of cs)) cut in
    omega (arith, none, count)

-- an outlet has one body less
pub outlet_cut : (os : List code_outlet.OutletState) (o i : ℕ) (x y : code_outlet.OutletState) → slice_get os o ≡ Some x → outlet_of y ≡ record (outlet_of x) { bodies = (outlet_of y).bodies }
    → (outlet_of y).bodies ≡ without_at i (map body_of x.bodies.items) → map outlet_of (slice_set os o y) ≡ body_cut o i (map outlet_of os)
outlet_cut [] o i x y at same are = absurd (cc)
outlet_cut (z ∷ zs) zero i x y at same are =
    let one : z ≡ x = cc in
    ap (λ (w : OutletState). w ∷ map outlet_of zs)
    (same ∙ (ap (λ (bs : List Body). record (outlet_of x) { bodies = bs }) are ∙ ap (λ (u : code_outlet.OutletState). record (outlet_of u) { bodies = without_at i (map body_of u.bodies.items) }) (sym one)))
outlet_cut (z ∷ zs) (suc o) i x y at same are = ap (λ (ws : List OutletState). outlet_of z ∷ ws) (outlet_cut zs o i x y at same are)

pub outlet_past : (os : List code_outlet.OutletState) (o i : ℕ) → length os ≤ o → map outlet_of os ≡ body_cut o i (map outlet_of os)
outlet_past [] o i past = refl
outlet_past (z ∷ zs) zero i past = absurd (omega (arith, past))
outlet_past (z ∷ zs) (suc o) i past = ap (λ (ws : List OutletState). outlet_of z ∷ ws) (outlet_past zs o i (omega (arith, past)))

-- no outlet is past the last
pub none_past : (os : List code_outlet.OutletState) (o : ℕ) (x : OutletState) → length os ≤ o → slice_get (map outlet_of os) o ≡ Some x → ⊥
none_past os o x past at = let lt = slice_get_within (map outlet_of os) o x at in omega (arith, lt, past, length-map os outlet_of)

-- the i-th, as it is kept and as it is seen
pub kept_at : {A : Type 0} (xs : List A) (i : ℕ) (x : A) → i < length xs → x ≡ get_or xs i x → slice_get xs i ≡ Some x
kept_at xs i x lt is = slice_get-get_or xs i x lt ∙ ap Some (sym is)

pub seen_outlet : (os : List code_outlet.OutletState) (o : ℕ) (y : code_outlet.OutletState) (x : OutletState) → slice_get os o ≡ Some y → slice_get (map outlet_of os) o ≡ Some x → outlet_of y ≡ x
seen_outlet os o y x at seen = let two : Some (outlet_of y) ≡ Some x = sym (ap (option_map outlet_of) at) ∙ (sym (slice_get-map outlet_of os o) ∙ seen) in cc

-- an instance has other outlets
module _ (all : List Named) (holder : List ℕ) (f : List OutletState → List OutletState) (one : code.Linked) (v : Vec code_outlet.OutletState Global) (changed : map outlet_of v.items ≡ f (map outlet_of one.outlets.items)) where
  abbrev then_one : code.Linked
  then_one = record one { outlets = v }

  pub set_changed : (es : List (List ℕ × code.Linked)) → lookup (is_path holder) es ≡ Some one → instances_of all (set_value (is_path holder) es then_one) ≡ outlets_changed holder f (instances_of all es)
  set_changed [] at = refl
  set_changed (e ∷ es) at = by_test (is_path holder e.0) at (set_changed es)
    where
      by_test : (b : Bool) → cond b (Some e.1) (lookup (is_path holder) es) ≡ Some one
          → (lookup (is_path holder) es ≡ Some one → instances_of all (set_value (is_path holder) es then_one) ≡ outlets_changed holder f (instances_of all es))
          → instances_of all (cond b ((e.0, then_one) ∷ es) (e ∷ set_value (is_path holder) es then_one)) ≡ cond b ((e.0, with_outlets f (linked_of all e.0 e.1)) ∷ instances_of all es) ((e.0, linked_of all e.0 e.1) ∷ outlets_changed holder f (instances_of all es))
      by_test true h more =
          let same : e.1 ≡ one = cc in
          ap (λ (os : List OutletState). (e.0, with_outlets (λ (_ : List OutletState). os) (linked_of all e.0 one)) ∷ instances_of all es) changed
          ∙ ap (λ (i : code.Linked). (e.0, with_outlets f (linked_of all e.0 i)) ∷ instances_of all es) (sym same)
      by_test false h more = ap (λ (is : Instances). (e.0, linked_of all e.0 e.1) ∷ is) (more h)

module _ (all : List Named) (holder : List ℕ) (f : List OutletState → List OutletState) where
  pub none_changed : (es : List (List ℕ × code.Linked)) → lookup (is_path holder) es ≡ None → instances_of all es ≡ outlets_changed holder f (instances_of all es)
  none_changed [] at = refl
  none_changed (e ∷ es) at = by_test (is_path holder e.0) at (none_changed es)
    where
      by_test : (b : Bool) → cond b (Some e.1) (lookup (is_path holder) es) ≡ None → (lookup (is_path holder) es ≡ None → instances_of all es ≡ outlets_changed holder f (instances_of all es))
          → instances_of all (e ∷ es) ≡ cond b ((e.0, with_outlets f (linked_of all e.0 e.1)) ∷ instances_of all es) ((e.0, linked_of all e.0 e.1) ∷ outlets_changed holder f (instances_of all es))
      by_test true h more = absurd (cc)
      by_test false h more = ap (λ (is : Instances). (e.0, linked_of all e.0 e.1) ∷ is) (more h)

-- the spots of sites are where they were
pub set_spots : (inner : Inners) (holder : List ℕ) (one new : code.Linked) (es : List (List ℕ × code.Linked)) → lookup (is_path holder) es ≡ Some one → new.spots ≡ one.spots → (k : Key) → spot_in inner (set_value (is_path holder) es new) k ≡ spot_in inner es k
set_spots inner holder one new [] at same k = refl
set_spots inner holder one new (e ∷ es) at same k = by_test (is_path holder e.0) refl at (λ h. set_spots inner holder one new es h same k)
  where
    spot : Option code.Linked → Option ℕ
    spot o = option_and_then (λ i. spot_at i k) o

    by_here : (c : Bool) → e.1 ≡ one → spot (cond c (Some new) (lookup (is_path (instance_path inner k.path)) es)) ≡ spot (cond c (Some e.1) (lookup (is_path (instance_path inner k.path)) es))
    by_here true is = ap (λ s. lookup (is_at (nat_cmp k.serial.0)) s.entries) (same ∙ ap (λ (i : code.Linked). i.spots) (sym is))
    by_here false is = refl

    by_there : (c : Bool) → spot_in inner (set_value (is_path holder) es new) k ≡ spot_in inner es k → spot (cond c (Some e.1) (lookup (is_path (instance_path inner k.path)) (set_value (is_path holder) es new))) ≡ spot (cond c (Some e.1) (lookup (is_path (instance_path inner k.path)) es))
    by_there true more = refl
    by_there false more = more

    by_test : (b : Bool) → is_path holder e.0 ≡ b → cond b (Some e.1) (lookup (is_path holder) es) ≡ Some one → (lookup (is_path holder) es ≡ Some one → spot_in inner (set_value (is_path holder) es new) k ≡ spot_in inner es k)
        → spot_in inner (cond b ((e.0, new) ∷ es) (e ∷ set_value (is_path holder) es new)) k ≡ spot_in inner (e ∷ es) k
    by_test true is h more = by_here (is_path (instance_path inner k.path) e.0) (let s : e.1 ≡ one = cc in s)
    by_test false is h more = by_there (is_path (instance_path inner k.path) e.0) (more h)

-- where a body is held, it is found
pub held_match : (p : List ℕ) (kept seen : List code_outlet.OutletState) (os : List OutletState) (r : Option (ℕ × ℕ)) → kept ≡ seen → map outlet_of seen ≡ os → 0 < held_count p os
    → MatchOption r (held_count p (map outlet_of kept) ≡ 0) (λ q. IsHeldAt p q.0 q.1 (map outlet_of kept)) → MatchOption r ⊥ (λ q. IsHeldAt p q.0 q.1 os)
held_match p kept seen os None same are lt h = let count : held_count p os ≡ 0 = ap (held_count p) (sym are) ∙ (ap (λ (xs : List code_outlet.OutletState). held_count p (map outlet_of xs)) (sym same) ∙ h) in omega (arith, count, lt)
held_match p kept seen os (Some q) same are lt h = subst (λ (xs : List OutletState). IsHeldAt p q.0 q.1 xs) (ap (map outlet_of) same ∙ are) h
