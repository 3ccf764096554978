-- Of sorted directives those that reach the last one stand in front.
use Rattle.std.proofs.Common.{◌≡◌, ◌+◌, suc, arith, Bool, true, false, not, List, [], ◌∷◌, filter, Option, None, Some, refl, sym, ap, Ordering, Less, Equal, Greater}
use Rattle.std.specs.Prelude.{find, take_while}
use Rattle.std.specs.Cmp.{IsStrictWeakOrder}
use Rattle.std.specs.List.{AllByRecursion, prefix_len}
use Rattle.std.specs.Ordering.{int_cmp, ordering_then, is_lt}
use Rattle.std.proofs.lemmas.Cmp.{int_cmp_total}
use Rattle.std.proofs.lemmas.List.Sorted.{ranks_by}
use Rattle.ng_collect.specs.declared.definition.DirectiveDef.{DirectiveDef}
use Rattle.ng_collect.specs.declared.pick.Pick.{Pick}
use Rattle.ng_collect.specs.Laws.{sorted, not_left_out}
use Rattle.ng_collect.specs.Sorted.{is_before, is_terminal, reaches, down_to_terminal}
use Rattle.ng_collect.proofs.Ranks.{pick_cmp_total}
use Rattle.ng_collect.proofs.Sorts.{Rises, in_order_rises}

pub picks_weak : IsStrictWeakOrder is_before
picks_weak = ranks_by pick_cmp_total (λ (p : Pick). p)

priorities_weak : IsStrictWeakOrder (λ (a b : Pick). is_lt (int_cmp a.priority b.priority))
priorities_weak = ranks_by int_cmp_total (λ (p : Pick). p.priority)

first_not_less : (a b : Ordering) → is_lt (ordering_then a b) ≡ false → is_lt a ≡ false
first_not_less Less b h = absurd (cc)
first_not_less Equal b h = refl
first_not_less Greater b h = refl

-- a later one has no higher priority
no_higher : (x y : Pick) → is_before y x ≡ false → is_lt (int_cmp x.priority y.priority) ≡ false
no_higher x y h = first_not_less (int_cmp x.priority y.priority) _ h

-- so where one does not reach the last one, no later one does
stays_behind : (last : Option Pick) (x y : Pick) → reaches last x ≡ false → is_before y x ≡ false → reaches last y ≡ false
stays_behind None x y h b = absurd (cc)
stays_behind (Some last) x y h b = by (is_lt (int_cmp y.priority last.priority)) refl
  where
    by : (t : Bool) → is_lt (int_cmp y.priority last.priority) ≡ t → not (is_lt (int_cmp y.priority last.priority)) ≡ false
    by true e = rw e refl
    by false e =
        let k : is_lt (int_cmp x.priority last.priority) ≡ false = priorities_weak.chain x y last (no_higher x y b) e in
        let c : not (is_lt (int_cmp x.priority last.priority)) ≡ true = rw k refl in
        absurd (cc)

none_after : (last : Option Pick) (x : Pick) (ys : List Pick) → reaches last x ≡ false → AllByRecursion (λ y. is_before y x ≡ false) ys → filter (reaches last) ys ≡ []
none_after last x [] h a = refl
none_after last x (y ∷ ys) h a = rw (stays_behind last x y h a.0) (none_after last x ys h a.1)

pub front_is_all : (last : Option Pick) (ps : List Pick) → Rises is_before ps → take_while (reaches last) ps ≡ filter (reaches last) ps
front_is_all last [] r = refl
front_is_all last (x ∷ xs) r = by (reaches last x) refl (front_is_all last xs r.1)
  where
    by : (b : Bool) → reaches last x ≡ b → take_while (reaches last) xs ≡ filter (reaches last) xs → take_while (reaches last) (x ∷ xs) ≡ filter (reaches last) (x ∷ xs)
    by true e more =
        let one : 1 + prefix_len (reaches last) xs ≡ suc (prefix_len (reaches last) xs) = omega arith in
        rw e (rw one (ap (λ zs. x ∷ zs) more))
    by false e more = rw e (sym (none_after last x xs e r.0))

pub cut_is_all : (defs : List DirectiveDef) (ps : List Pick) → down_to_terminal defs (sorted ps) ≡ not_left_out defs ps
cut_is_all defs ps = front_is_all (find (is_terminal defs) (sorted ps)) (sorted ps) (in_order_rises is_before picks_weak ps)
