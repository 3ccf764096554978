-- The fragments that are linked are whole; the numbers of registration that a linking gives: one for each site, and none that was given before.
use Rattle.std.proofs.Common.{◌≡◌, ◌≤◌, ◌<◌, ◌+◌, ℕ, zero, suc, Bool, true, false, List, [], ◌∷◌, length, drop, Option, Some, None, Result, Ok, Err, refl, ap, sym, subst, ◌∙◌, arith, slice_get}
use Rattle.std.specs.Prelude.{option_map, option_and_then, unwrap_or}
use Rattle.std.specs.List.{AllByRecursion}
use Rattle.std.specs.List.Sorted.{IsStrictlySortedBy}
use Rattle.std.specs.Ordering.{nat_cmp}
use Rattle.ng_core.specs.State.{Run}
use Rattle.ng_base.specs.Views.{ViewTree}
use Rattle.ng_base.specs.declared.fault.Fault.{Fault}
use Rattle.ng_base.specs.declared.name.TplId.{TplId}
use Rattle.ng_drawing.specs.Origins.{first_home, plain_origin, inner_home}
use Rattle.ng_drawing.specs.Template.{Piece, Source, of_text, of_nothing, one_way, two_way, of_call, Site, Fragment, no_fragment}
use Rattle.ng_drawing.specs.declared.origin.Origin.{Origin}
use Rattle.ng_steps.specs.LinkBindings.{set_to_value, set_to_text, bound_pieces}
use Rattle.ng_steps.specs.Links.{Linking, begins_linking, scope_of, opening_run, opened_by, registered, registered_many, value_kept, texts_kept, with_bounds, value_bound_by, value_bound, text_bound_by, source_bound, step_linked, unless_faulted, steps_linked}
use Rattle.ng_steps.proofs.Underway.{rising_push}
use Rattle.ng_instances.specs.Bindings.{Bound, bound_text, bound_in, bound_both}
use Rattle.ng_link.specs.Calls.{with_core}
use Rattle.ng_build.specs.Linking.{LinkStep, makes, stops, opens, binds, installs, starts, starts_at, registers, leaves, piece_steps, site_count, steps}
use Rattle.ng_build.specs.Shape.{holes}
use Rattle.ng_link.specs.State.{State}
use Rattle.ng_link.proofs.Counted.{is_done, parts_count}
use Rattle.ng_link.proofs.Numbers.{counted, whole_count}
use Rattle.ng_link.proofs.Sorted.{none_in_order}
use Rattle.ng_compose.proofs.ComposedOrder.{composed_order}
use Rattle.ng_compose.proofs.KeptWhole.{whole_for}
use Rattle.ng_drawing.specs.Named.{Named, fragment_in, fragments_at, including, composing, fragments_in}
use Rattle.ng_drawing.specs.Numbering.{HasOrder, is_regular}
use Rattle.ng_page.specs.Laws.{AreNew}
use Rattle.ng_page.proofs.Bodies.{push_all}
use Rattle.ng_page.proofs.LinksStay.{by_value_sites, text_by_sites, step_less}

-- ---- fragments of templates that the compiler made

regular_named : (ts : List Named) (t : ℕ) (x : Named) → AllByRecursion (λ (x : Named). is_regular x.1 ≡ true) ts → slice_get ts t ≡ Some x → is_regular x.1 ≡ true
regular_named [] t x all at = absurd (cc)
regular_named (y ∷ ts) zero x all at = let same : y ≡ x = cc in ap (λ (z : Named). is_regular z.1) (sym same) ∙ all.0
regular_named (y ∷ ts) (suc t) x all at = regular_named ts t x all.1 at

included_nothing : (ts : List Named) (o : Option Fragment) → option_and_then (including ts None) o ≡ o
included_nothing ts None = refl
included_nothing ts (Some f) = refl

-- they are whole, with the templates of directives in them
pub fragment_whole : (ts : List Named) (o : Origin) → AllByRecursion (λ (x : Named). is_regular x.1 ≡ true) ts → HasOrder (fragments_in ts o)
fragment_whole ts o all = by_fragment (option_and_then (including ts o.included) (fragment_in ts o.home.template.0 o.fragment)) refl
  where
    regular : (t : ℕ) (x : Named) → slice_get ts t ≡ Some x → is_regular x.1 ≡ true
    regular t x at = regular_named ts t x all at

    ordered : (t : TplId) (i : ℕ) (g : Fragment) → fragments_at ts t i ≡ Some g → HasOrder g
    ordered t i g at = let h = whole_for ts regular (plain_origin (first_home t) i) g (included_nothing ts (fragment_in ts t.0 i) ∙ at) in (length h.0.1.bodies, h.2)

    by_fragment : (x : Option Fragment) → option_and_then (including ts o.included) (fragment_in ts o.home.template.0 o.fragment) ≡ x → HasOrder (unwrap_or (option_map (composing ts o) x) no_fragment)
    by_fragment None e = (0, refl)
    by_fragment (Some f) e = let h = whole_for ts regular o f e in composed_order (fragments_at ts) ordered (inner_home o) f (length h.0.1.bodies, h.2)

-- a whole fragment has a step for each site, where all are done
pub sites_counted : (f : Fragment) → HasOrder f → is_done (steps f.parts) ≡ true → site_count (steps f.parts) ≡ length f.sites
sites_counted f whole done =
    let many : length f.sites ≡ 0 + length (holes 0 f.parts) = counted 0 0 (length f.sites) f.parts (whole_count whole.0 f whole.1) in
    let as_many : site_count (steps f.parts) ≡ length (holes 0 f.parts) = parts_count 0 f.parts done in
    omega (arith, many, as_many)

-- ---- numbers that a linking gives come after those that were given before it began

opened_serials : (r : Run ℕ) (g : Linking) → (opened_by r g).made.serials ≡ g.made.serials
opened_serials (c, Ok n) g = refl
opened_serials (c, Err e) g = refl

value_serials : (r : Result ViewTree Fault) (g : Linking) → (value_kept r g).made.serials ≡ g.made.serials
value_serials (Ok v) g = refl
value_serials (Err e) g = refl

texts_serials : (r : Result (List (List ℕ)) Fault) (g : Linking) → (texts_kept r g).made.serials ≡ g.made.serials
texts_serials (Ok ts) g = refl
texts_serials (Err e) g = refl

valued_serials : (both : Bool) (scope : ℕ) (name : List ℕ) (over : ℕ) (x : Option Site) (g : Linking) → (value_bound_by both scope name over x g).made.serials ≡ g.made.serials
valued_serials both scope name over None g = refl
valued_serials both scope name over (Some x) g =
    let r : Run ViewTree = set_to_value both scope name over x.program g.state.core in value_serials r.1 (record g { state = with_core r.0 g.state })

text_serials : (count scope : ℕ) (name : List ℕ) (over : ℕ) (site : ℕ → Option Site) (ps : List Piece) (g : Linking) → (text_bound_by count scope name over site ps g).made.serials ≡ g.made.serials
text_serials count scope name over site ps g =
    let ns : List ℕ = drop count g.made.serials in
    let h : Linking = with_bounds ns (bound_text scope name (bound_pieces ps ns)) g in
    let r : Run (List (List ℕ)) = set_to_text scope name over site ps g.state.core in
    texts_serials r.1 (record h { state = with_core r.0 h.state })

all_under : (m n : ℕ) (ns : List ℕ) → m ≤ n → AllByRecursion (λ (k : ℕ). k < m) ns → AllByRecursion (λ (k : ℕ). k < n) ns
all_under m n [] le all = tt
all_under m n (k ∷ ns) le all = ((let low = all.0 in omega (arith, low, le)), all_under m n ns le all.1)

module _ (base : ℕ) where
  -- the numbers that were given rise; none is below the first one that might have been given, nor above the next
  record IsGrown (g : Linking) : Type 0 where
    low : base ≤ g.state.core.serial
    rising : IsStrictlySortedBy nat_cmp g.made.serials
    above : AllByRecursion (λ (n : ℕ). base ≤ n) g.made.serials
    below : AllByRecursion (λ (n : ℕ). n < g.state.core.serial) g.made.serials

  one_grown : (g : Linking) → IsGrown g → IsGrown (registered g)
  one_grown g h =
      let low = h.low in
      record {
        low = omega (arith, low);
        rising = rising_push g.made.serials g.state.core.serial h.rising h.below;
        above = push_all (λ (n : ℕ). base ≤ n) g.made.serials g.state.core.serial h.low h.above;
        below =
            push_all (λ (n : ℕ). n < g.state.core.serial + 1) g.made.serials g.state.core.serial (omega arith)
            (all_under g.state.core.serial (g.state.core.serial + 1) g.made.serials (omega arith) h.below);
      }

  many_grown : (xs : List LinkStep) (g : Linking) → IsGrown g → IsGrown (registered_many xs g)
  many_grown [] g h = h
  many_grown (x ∷ xs) g h = many_grown xs (registered g) (one_grown g h)

  -- no number is given
  same_grown : (g h : Linking) → h.made.serials ≡ g.made.serials → g.state.core.serial ≤ h.state.core.serial → IsGrown g → IsGrown h
  same_grown g h same more k =
      let low = k.low in
      record {
        low = omega (arith, low, more);
        rising = subst (λ (ns : List ℕ). IsStrictlySortedBy nat_cmp ns) (sym same) k.rising;
        above = subst (λ (ns : List ℕ). AllByRecursion (λ (n : ℕ). base ≤ n) ns) (sym same) k.above;
        below = subst (λ (ns : List ℕ). AllByRecursion (λ (n : ℕ). n < h.state.core.serial) ns) (sym same) (all_under g.state.core.serial h.state.core.serial g.made.serials more k.below);
      }

  value_grown : (both : Bool) (scope : ℕ) (name : List ℕ) (over : ℕ) (x : Option Site) (b : Bound) (g : Linking) → IsGrown g → IsGrown (value_bound both scope name over x b g)
  value_grown both scope name over x b g h =
      let k : Linking = with_bounds (g.state.core.serial ∷ []) b (registered g) in
      let one : IsGrown k = same_grown (registered g) k refl (omega arith) (one_grown g h) in
      same_grown k (value_bound_by both scope name over x k) (valued_serials both scope name over x k) (by_value_sites both scope name over x k).core.serial one

  source_grown : (site : ℕ → Option Site) (scope : ℕ) (name : List ℕ) (over : ℕ) (src : Source) (g : Linking) → IsGrown g → IsGrown (source_bound site scope name over src g)
  source_grown site scope name over (of_text ps) g h =
      let k : Linking = registered_many (piece_steps ps) g in
      same_grown k (text_bound_by (length g.made.serials) scope name over site ps k) (text_serials (length g.made.serials) scope name over site ps k) (text_by_sites (length g.made.serials) scope name over site ps k).core.serial
      (many_grown (piece_steps ps) g h)
  source_grown site scope name over of_nothing g h = same_grown g (source_bound site scope name over of_nothing g) refl (omega arith) h
  source_grown site scope name over (one_way n) g h = value_grown false scope name over (site n) (bound_in scope name) g h
  source_grown site scope name over (two_way n w) g h = value_grown true scope name over (site n) (bound_both scope name over w) g h
  source_grown site scope name over (of_call p) g h = same_grown g (source_bound site scope name over (of_call p) g) refl (omega arith) h

  -- a step that gives none
  silent : (f : Fragment) (x : LinkStep) (g : Linking) → (step_linked f x g).made.serials ≡ g.made.serials → IsGrown g → IsGrown (step_linked f x g)
  silent f x g same h = same_grown g (step_linked f x g) same (step_less f x g).serial h

  step_grown : (f : Fragment) (x : LinkStep) (g : Linking) → IsGrown g → IsGrown (step_linked f x g)
  step_grown f makes g h = h
  step_grown f stops g h = h
  step_grown f (opens o) g h = silent f (opens o) g (opened_serials (opening_run g.made.at_hand o g.state.core) g) h
  step_grown f (binds b i o) g h = source_grown (slice_get f.sites) (scope_of g i) b.name (scope_of g o) b.source g h
  step_grown f (installs d s) g h = silent f (installs d s) g refl h
  step_grown f (starts s p) g h = silent f (starts s p) g refl h
  step_grown f (starts_at o p) g h = silent f (starts_at o p) g refl h
  step_grown f registers g h = one_grown g h
  step_grown f (leaves d s) g h = silent f (leaves d s) g refl h

  all_grown : (f : Fragment) (xs : List LinkStep) (g : Linking) → IsGrown g → IsGrown (steps_linked f xs g)
  all_grown f [] g h = h
  all_grown f (x ∷ xs) g h = by_fault g.fault (all_grown f xs (step_linked f x g) (step_grown f x g h))
    where
      by_fault : (o : Option Fault) → IsGrown (steps_linked f xs (step_linked f x g)) → IsGrown (unless_faulted o (steps_linked f xs (step_linked f x g)) g)
      by_fault None on = on
      by_fault (Some e) on = h

  begun_grown : (scope : ℕ) (outsides : List ℕ) (s : State) → base ≤ s.core.serial → IsGrown (begins_linking scope outsides s)
  begun_grown scope outsides s low = record { low = low; rising = none_in_order nat_cmp; above = tt; below = tt }

  pub steps_above : (f : Fragment) (scope : ℕ) (outsides : List ℕ) (xs : List LinkStep) (s : State) → base ≤ s.core.serial
      → AllByRecursion (λ (n : ℕ). base ≤ n) (steps_linked f xs (begins_linking scope outsides s)).made.serials
  steps_above f scope outsides xs s low = (all_grown f xs (begins_linking scope outsides s) (begun_grown scope outsides s low)).above

-- so each linking gives new numbers, one above the other
both : (P Q : ℕ → Type 0) (ns : List ℕ) → AllByRecursion P ns → AllByRecursion Q ns → AllByRecursion (λ n. P n × Q n) ns
both P Q [] h g = tt
both P Q (n ∷ ns) h g = ((h.0, g.0), both P Q ns h.1 g.1)

pub steps_new : (f : Fragment) (scope : ℕ) (outsides : List ℕ) (xs : List LinkStep) (s : State) → AreNew s.core.serial (steps_linked f xs (begins_linking scope outsides s))
steps_new f scope outsides xs s =
    let h = all_grown s.core.serial f xs (begins_linking scope outsides s) (begun_grown s.core.serial scope outsides s (omega arith)) in
    (h.rising, both _ _ _ h.above h.below)
