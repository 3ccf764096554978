-- Each step of a linking gives its sites numbers of registration: what is noted of those that are no binding's, and what they have kept.
use Rattle.std.proofs.Common.{◌≡◌, ◌≤◌, ◌<◌, ◌+◌, ◌-◌, ◌∙◌, ℕ, zero, suc, Bool, true, false, cond, true≢false, List, [], ◌∷◌, ◌++◌, Option, Some, None, Result, Ok, Err, refl, ap, sym, subst, drop, take, length, map, length-append, append_assoc, append-nil, arith}
use Rattle.std.specs.List.{AllByRecursion}
use Rattle.std.specs.Prelude.{nat_lt, slice_get}
use Rattle.std.proofs.lemmas.List.{length-map}
use Rattle.ng_base.specs.Meets.{◌>>=◌ as ◌>>?◌}
use Rattle.ng_base.specs.Views.{ViewTree}
use Rattle.ng_base.specs.declared.fault.Fault.{Fault}
use Rattle.ng_core.specs.State as act
use Rattle.ng_core.specs.State.{Run}
use Rattle.ng_behaviour.specs.Scopes.{object_at}
use Rattle.ng_drawing.specs.Instance.{text_now, text_view}
use Rattle.ng_drawing.specs.Template.{Binding, Fragment, Piece, word, hole, Site, Source, of_text, of_nothing, one_way, two_way, of_call}
use Rattle.ng_steps.proofs.Numbered.{followed_lasts}
use Rattle.ng_changes.proofs.Runs.{program_rises}
use Rattle.ng_steps.proofs.SetRuns.{installs_rises, set_value_rises}
use Rattle.ng_steps.proofs.Underway.{attended_lasts}
use Rattle.ng_steps.specs.Attending.{functions_in}
use Rattle.ng_steps.specs.LinkBindings.{bound_pieces, hole_shown, set_to_value, shown_over, text_set}
use Rattle.ng_changes.specs.ScopeRuns.{object_limit}
use Rattle.ng_steps.specs.Links.{Linking, begins_linking, bounds_noted, keep_last, opened_by, opened_with, opening_run, outlet_scope, registered, registered_many, scope_of, source_bound, step_linked, steps_linked, text_bound, texts_kept, unless_faulted, value_bound, value_bound_by, value_kept}
use Rattle.ng_changes.specs.Runs.{program_run}
use Rattle.ng_instances.specs.Bindings.{Bound, bound_both, bound_in, bound_in_table, bound_text}
use Rattle.ng_build.specs.Linking.{LinkStep, Opening, a_child, an_isolate, a_slot, makes, stops, opens, binds, installs, starts, starts_at, registers, leaves, piece_steps, bound_flags, is_bound_site, source_count, step_count}
use Rattle.ng_link.specs.Calls.{with_core}
use Rattle.ng_instances.specs.Registering.{Registered, kept_of}
use Rattle.ng_link.specs.State.{State}
use Rattle.ng_drawing.specs.Numbering.{source_numbers}
use Rattle.ng_steps.proofs.GivenNumbers.{get_within, drop_past, last_kept, last_length, noted_apart, all_above, all_under, IsFresh, Gives, source_flags, flag_left, all_flags, all_later, then_gives, quiet}

-- ---- sites of bindings

-- sites that were registered at once
record Many (size : ℕ) (g h : Linking) : Type 0 where
  numbers : List ℕ
  values : List (Option ViewTree)
  serials : h.made.serials ≡ g.made.serials ++ numbers
  kept : h.made.kept ≡ g.made.kept ++ values
  count : length numbers ≡ size
  as_many : length values ≡ size
  later : g.state.core.serial ≤ h.state.core.serial
  from : AllByRecursion (λ n. g.state.core.serial ≤ n) numbers
  under : AllByRecursion (λ n. n < h.state.core.serial) numbers
  bounds : h.made.bounds ≡ g.made.bounds

all_from : (m n : ℕ) (ns : List ℕ) → m ≤ n → AllByRecursion (λ k. n ≤ k) ns → AllByRecursion (λ k. m ≤ k) ns
all_from m n [] le h = tt
all_from m n (k ∷ ks) le h = (omega (arith, le, h.0), all_from m n ks le h.1)

many_given : (xs : List LinkStep) (g : Linking) → Many (length xs) g (registered_many xs g)
many_given [] g = record {
  numbers = [];
  values = [];
  serials = sym (append-nil g.made.serials);
  kept = sym (append-nil g.made.kept);
  count = refl;
  as_many = refl;
  later = omega arith;
  from = tt;
  under = tt;
  bounds = refl;
}
many_given (x ∷ xs) g =
    let m = many_given xs (registered g) in
    let n : ℕ = g.state.core.serial in
    let more = m.later in
    record {
      numbers = n ∷ m.numbers;
      values = None ∷ m.values;
      serials = m.serials ∙ append_assoc g.made.serials (n ∷ []) m.numbers;
      kept = m.kept ∙ append_assoc g.made.kept (None ∷ []) m.values;
      count = ap suc m.count;
      as_many = ap suc m.as_many;
      later = omega (arith, more);
      from = (omega arith, all_from n (n + 1) m.numbers (omega arith) m.from);
      under = (omega (arith, more), m.under);
      bounds = m.bounds;
    }

-- what is noted of such sites, and kept by them
bound_gives : (b : Binding) (isolate over : ℕ) (g h k : Linking) (to : Bound) → Many (source_count b.source) g h → IsFresh g → (news : List (Option ViewTree)) → length news ≡ source_count b.source
    → k.made.serials ≡ h.made.serials → k.made.kept ≡ g.made.kept ++ news → h.state.core.serial ≤ k.state.core.serial → (ns : List ℕ) → AllByRecursion (λ n. g.state.core.serial ≤ n) ns → AllByRecursion (λ n. n < h.state.core.serial) ns → k.made.bounds ≡ bounds_noted ns to g.made.bounds
    → Gives (binds b isolate over ∷ []) g k
bound_gives b isolate over g h k to m fresh news as_many serials kept later ns low high bounds =
    let first = m.later in
    record {
      numbers = m.numbers;
      values = news;
      serials = serials ∙ m.serials;
      kept = kept;
      count = (let c = m.count in omega (arith, c));
      as_many = omega (arith, as_many);
      later = omega (arith, first, later);
      under = all_later h.state.core.serial k.state.core.serial m.numbers later m.under;
      older = λ n lt. ap (bound_in_table n) bounds ∙ noted_apart ns to g.made.bounds n (all_above ns g.state.core.serial n lt low);
      fresh = λ n le. ap (bound_in_table n) bounds ∙ (noted_apart ns to g.made.bounds n (all_under ns h.state.core.serial n (omega (arith, later, le)) high) ∙ fresh n (omega (arith, first, later, le)));
      drawn = λ i n at off. absurd (let lt = get_within m.numbers i n at in let c = m.count in
          let flags = source_flags b.source in
          let few : i < length (map (λ (k : ℕ). true) (source_numbers b.source)) = omega (arith, lt, c, flags) in
          let yes : is_bound_site (binds b isolate over ∷ []) i ≡ true = flag_left (bound_flags (binds b isolate over)) [] i few ∙ all_flags (source_numbers b.source) i few in
          true≢false (sym yes ∙ off));
    }

-- one site
module _ (b : Binding) (isolate over : ℕ) (one : source_count b.source ≡ 1) where
  one_given : (g : Linking) → Many (source_count b.source) g (registered g)
  one_given g = subst (λ (n : ℕ). Many n g (registered g)) (sym one) (many_given (registers ∷ []) g)

  value_gives : (both : Bool) (to : ℕ) (name : List ℕ) (from : ℕ) (x : Option Site) (w : Bound) (g : Linking) → IsFresh g → Gives (binds b isolate over ∷ []) g (value_bound both to name from x w g)
  value_gives both to name from x w g fresh = by x
    where
      n : ℕ
      n = g.state.core.serial

      h : Linking
      h = registered g

      m : Linking
      m = record h { made = record h.made { bounds = bounds_noted (n ∷ []) w h.made.bounds } }

      none_kept : (k : Linking) → k.made ≡ m.made → h.state.core.serial ≤ k.state.core.serial → Gives (binds b isolate over ∷ []) g k
      none_kept k same later =
          bound_gives b isolate over g h k w (one_given g) fresh (None ∷ []) (sym one) (ap (λ (q : Registered). q.serials) same) (ap (λ (q : Registered). q.kept) same) later (n ∷ []) (omega arith, tt) (omega arith, tt)
          (ap (λ (q : Registered). q.bounds) same)

      some_kept : (k : Linking) (v : ViewTree) → k.made ≡ record m.made { kept = keep_last m.made.kept (Some v ∷ []) } → h.state.core.serial ≤ k.state.core.serial → Gives (binds b isolate over ∷ []) g k
      some_kept k v same later =
          bound_gives b isolate over g h k w (one_given g) fresh (Some v ∷ []) (sym one) (ap (λ (q : Registered). q.serials) same)
          (ap (λ (q : Registered). q.kept) same ∙ last_kept g.made.kept (None ∷ []) (Some v ∷ []) (omega arith)) later (n ∷ []) (omega arith, tt) (omega arith, tt)
          (ap (λ (q : Registered). q.bounds) same)

      by_value : (r : Result ViewTree Fault) (k : Linking) → k.made ≡ m.made → h.state.core.serial ≤ k.state.core.serial → Gives (binds b isolate over ∷ []) g (value_kept r k)
      by_value (Ok v) k same later = some_kept (value_kept (Ok v) k) v (ap (λ (q : Registered). record q { kept = keep_last q.kept (Some v ∷ []) }) same) later
      by_value (Err e) k same later = none_kept (value_kept (Err e) k) same later

      by : (y : Option Site) → Gives (binds b isolate over ∷ []) g (value_bound_by both to name from y m)
      by None = none_kept m refl (omega arith)
      by (Some y) =
          let r : Run ViewTree = set_to_value both to name from y.program m.state.core in
          let rises = set_value_rises both to name from y.program m.state.core in
          let low = rises.0 in
          by_value r.1 (record m { state = with_core r.0 m.state }) refl (omega (arith, low))

-- a text shows at most as many as it has holes
few_shown : (over : ℕ) (c : act.State) (x : Option Site) (ts : List (List ℕ)) → hole_shown over c x ≡ Ok ts → length ts ≤ 1
few_shown over c None ts e = let same : [] ≡ ts = cc in let n : 0 ≡ length ts = ap length same in omega (arith, n)
few_shown over c (Some x) ts e = by (text_now c.objects (object_at c.scopes over) x.program) e
  where
    by : (r : Result (List ℕ) Fault) → (r >>? λ t. Ok (t ∷ [])) ≡ Ok ts → length ts ≤ 1
    by (Ok t) e = let same : t ∷ [] ≡ ts = cc in let n : 1 ≡ length ts = ap length same in omega (arith, n)
    by (Err f) e = absurd (cc)

all_shown : (over : ℕ) (site : ℕ → Option Site) (ps : List Piece) (c : act.State) (ts : List (List ℕ)) → shown_over over site ps c ≡ Ok ts → length ts ≤ length (piece_steps ps)
all_shown over site [] c ts e = let same : [] ≡ ts = cc in let n : 0 ≡ length ts = ap length same in omega (arith, n)
all_shown over site (word w ∷ ps) c ts e = all_shown over site ps c ts e
all_shown over site (hole k ∷ ps) c ts e = by (hole_shown over c (site k)) refl (shown_over over site ps c) (λ ys f. all_shown over site ps c ys f) e
  where
    by : (r : Result (List (List ℕ)) Fault) → hole_shown over c (site k) ≡ r → (q : Result (List (List ℕ)) Fault) → ((ys : List (List ℕ)) → q ≡ Ok ys → length ys ≤ length (piece_steps ps)) → (r >>? λ xs. q >>? λ ys. Ok (xs ++ ys)) ≡ Ok ts → length ts ≤ suc (length (piece_steps ps))
    by (Ok xs) d (Ok ys) f e =
        let same : xs ++ ys ≡ ts = cc in
        let a = few_shown over c (site k) xs d in
        let b = f ys refl in
        let n : length (xs ++ ys) ≡ length ts = ap length same in
        let m = length-append xs ys in
        omega (arith, a, b, n, m)
    by (Ok xs) d (Err g) f e = absurd (cc)
    by (Err g) d q f e = absurd (cc)

text_gives : (b : Binding) (isolate over : ℕ) (ps : List Piece) → source_count b.source ≡ length (piece_steps ps) → (to : ℕ) (name : List ℕ) (from : ℕ) (site : ℕ → Option Site) (g : Linking) → IsFresh g → Gives (binds b isolate over ∷ []) g (text_bound to name from site ps g)
text_gives b isolate over ps count to name from site g fresh = by_text (shown_over from site ps h.state.core) refl
  where
    h : Linking
    h = registered_many (piece_steps ps) g

    given : Many (length (piece_steps ps)) g h
    given = many_given (piece_steps ps) g

    those : Many (source_count b.source) g h
    those = subst (λ (n : ℕ). Many n g h) (sym count) given

    ns : List ℕ
    ns = drop (length g.made.serials) h.made.serials

    numbers : ns ≡ given.numbers
    numbers = ap (drop (length g.made.serials)) given.serials ∙ drop_past g.made.serials given.numbers

    w : Bound
    w = bound_text to name (bound_pieces ps ns)

    m : Linking
    m = record h { made = record h.made { bounds = bounds_noted ns w h.made.bounds } }

    low : AllByRecursion (λ n. g.state.core.serial ≤ n) ns
    low = subst (AllByRecursion (λ n. g.state.core.serial ≤ n)) (sym numbers) given.from

    high : AllByRecursion (λ n. n < h.state.core.serial) ns
    high = subst (AllByRecursion (λ n. n < h.state.core.serial)) (sym numbers) given.under

    noted : bounds_noted ns w h.made.bounds ≡ bounds_noted ns w g.made.bounds
    noted = ap (bounds_noted ns w) given.bounds

    by_text : (r : Result (List (List ℕ)) Fault) → shown_over from site ps h.state.core ≡ r
        → (let q : Run (List (List ℕ)) = text_set to name ps r h.state.core in Gives (binds b isolate over ∷ []) g (texts_kept q.1 (record m { state = with_core q.0 m.state })))
    by_text (Ok ts) e =
        let news : List (Option ViewTree) = map (λ t. Some (text_view t)) ts in
        let few = all_shown from site ps h.state.core ts e in
        let many = given.as_many in
        let long : length news ≡ length ts = length-map ts (λ (t : List ℕ). Some (text_view t)) in
        let le : length news ≤ length given.values = omega (arith, few, many, long) in
        bound_gives b isolate over g h _ w those fresh (take (length given.values - length news) given.values ++ news) (last_length given.values news le ∙ (many ∙ sym count)) refl
        (ap (λ (ks : List (Option ViewTree)). keep_last ks news) given.kept ∙ last_kept g.made.kept given.values news le) (omega arith) ns low high noted
    by_text (Err f) e =
        bound_gives b isolate over g h _ w those fresh given.values (given.as_many ∙ sym count) refl given.kept (omega arith) ns low high noted

source_gives : (b : Binding) (isolate over : ℕ) (x : Source) → b.source ≡ x → (site : ℕ → Option Site) (to : ℕ) (name : List ℕ) (from : ℕ) (g : Linking) → IsFresh g → Gives (binds b isolate over ∷ []) g (source_bound site to name from x g)
source_gives b isolate over (of_text ps) e site to name from g fresh = text_gives b isolate over ps (ap source_count e) to name from site g fresh
source_gives b isolate over of_nothing e site to name from g fresh = quiet (binds b isolate over) g _ (ap source_count e) refl refl refl (omega arith) fresh
source_gives b isolate over (one_way n) e site to name from g fresh = value_gives b isolate over (ap source_count e) false to name from (site n) (bound_in to name) g fresh
source_gives b isolate over (two_way n p) e site to name from g fresh = value_gives b isolate over (ap source_count e) true to name from (site n) (bound_both to name from p) g fresh
source_gives b isolate over (of_call p) e site to name from g fresh = quiet (binds b isolate over) g _ (ap source_count e) refl refl refl (omega arith) fresh

-- ---- the steps

opened_later : (r : Run ℕ) (g : Linking) → r.0.serial ≡ g.state.core.serial → IsFresh g → (x : LinkStep) → step_count x ≡ 0 → Gives (x ∷ []) g (opened_by r g)
opened_later r g same fresh x none = by r.1
  where
    h : Linking
    h = record g { state = with_core r.0 g.state }

    by : (o : Result ℕ Fault) → Gives (x ∷ []) g (opened_with o h)
    by (Ok n) = quiet x g (opened_with (Ok n) h) none refl refl refl (omega (arith, same)) fresh
    by (Err e) = quiet x g (opened_with (Err e) h) none refl refl refl (omega (arith, same)) fresh

scope_serial : (b : Bool) (c d : act.State) (n : Result ℕ Fault) (e : Fault) → d.serial ≡ c.serial → (let r : Run ℕ = cond b (d, n) (c, Err e) in r.0.serial ≡ c.serial)
scope_serial true c d n e same = same
scope_serial false c d n e same = refl

opening_serial : (o : Opening) (g : Linking) → (opening_run g.made.at_hand o g.state.core).0.serial ≡ g.state.core.serial
opening_serial (a_child n) g = scope_serial (nat_lt (length g.state.core.objects) object_limit) g.state.core _ _ _ refl
opening_serial (an_isolate n) g = scope_serial (nat_lt (length g.state.core.objects) object_limit) g.state.core _ _ _ refl
opening_serial (a_slot n o) g = scope_serial (nat_lt (length g.state.core.objects) object_limit) g.state.core _ _ _ refl

registers_gives : (g : Linking) → IsFresh g → Gives (registers ∷ []) g (registered g)
registers_gives g fresh = record {
  numbers = g.state.core.serial ∷ [];
  values = None ∷ [];
  serials = refl;
  kept = refl;
  count = refl;
  as_many = refl;
  later = omega arith;
  under = (omega arith, tt);
  older = λ n lt. refl;
  fresh = λ n le. fresh n (omega (arith, le));
  drawn = λ i n at off. by i n at;
}
  where
    by : (i n : ℕ) → slice_get (g.state.core.serial ∷ []) i ≡ Some n → (bound_in_table n g.made.bounds ≡ None) × (kept_of (slice_get (None ∷ []) i) ≡ None)
    by zero n at = let same : g.state.core.serial ≡ n = cc in (fresh n (omega (arith, same)), refl)
    by (suc i) n at = absurd (cc)

step_gives : (f : Fragment) (x : LinkStep) (g : Linking) → IsFresh g → Gives (x ∷ []) g (step_linked f x g)
step_gives f makes g fresh = quiet makes g g refl refl refl refl (omega arith) fresh
step_gives f stops g fresh = quiet stops g g refl refl refl refl (omega arith) fresh
step_gives f (opens o) g fresh = opened_later (opening_run g.made.at_hand o g.state.core) g (opening_serial o g) fresh (opens o) refl
step_gives f (binds b i o) g fresh = source_gives b i o b.source refl (slice_get f.sites) (scope_of g i) b.name (scope_of g o) g fresh
step_gives f (installs d n) g fresh =
    let fs = functions_in (slice_get g.state.directives d) in
    let rises = installs_rises (scope_of g n) fs g.state.core in
    quiet (installs d n) g (step_linked f (installs d n) g) refl refl refl refl rises.0 fresh
step_gives f (starts n p) g fresh =
    let lasts = followed_lasts (program_run (scope_of g n) p g.state.core) g.state (program_rises (scope_of g n) p g.state.core) in
    quiet (starts n p) g (step_linked f (starts n p) g) refl refl refl refl lasts.1.0 fresh
step_gives f (starts_at o p) g fresh =
    let n : ℕ = scope_of g (outlet_scope f o) in
    let lasts = followed_lasts (program_run n p g.state.core) g.state (program_rises n p g.state.core) in
    quiet (starts_at o p) g (step_linked f (starts_at o p) g) refl refl refl refl lasts.1.0 fresh
step_gives f registers g fresh = registers_gives g fresh
step_gives f (leaves d n) g fresh =
    let lasts = attended_lasts (scope_of g n) (slice_get g.state.directives d) g.state in
    quiet (leaves d n) g (step_linked f (leaves d n) g) refl refl refl refl lasts.1.0 fresh

nothing_given : (g : Linking) → IsFresh g → Gives [] g g
nothing_given g fresh = record {
  numbers = [];
  values = [];
  serials = sym (append-nil g.made.serials);
  kept = sym (append-nil g.made.kept);
  count = refl;
  as_many = refl;
  later = omega arith;
  under = tt;
  older = λ n lt. refl;
  fresh = fresh;
  drawn = λ i n at off. absurd (let lt = get_within [] i n at in omega (arith, lt));
}

-- where no step met a fault, all give their numbers
pub steps_give : (f : Fragment) (xs : List LinkStep) (g : Linking) → IsFresh g → (steps_linked f xs g).fault ≡ None → Gives xs g (steps_linked f xs g)
steps_give f [] g fresh none = nothing_given g fresh
steps_give f (x ∷ xs) g fresh none = by g.fault refl (λ q. steps_give f xs (step_linked f x g) (step_gives f x g fresh).fresh q) none
  where
    m : Linking
    m = step_linked f x g

    one : Gives (x ∷ []) g m
    one = step_gives f x g fresh

    by : (o : Option Fault) → g.fault ≡ o → ((steps_linked f xs m).fault ≡ None → Gives xs m (steps_linked f xs m)) → (unless_faulted o (steps_linked f xs m) g).fault ≡ None → Gives (x ∷ xs) g (unless_faulted o (steps_linked f xs m) g)
    by None e rest none = then_gives x xs g m (steps_linked f xs m) one (rest none)
    by (Some q) e rest none = absurd (let two : Some q ≡ None = sym e ∙ none in cc)

pub begun_fresh : (scope : ℕ) (os : List ℕ) (s : State) → IsFresh (begins_linking scope os s)
begun_fresh scope os s n le = refl
