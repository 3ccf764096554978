-- The site of an outlet is no binding's, where all steps of a linking are done.
use Rattle.std.proofs.Common.{◌≡◌, ◌+◌, ℕ, zero, suc, Bool, true, false, List, [], ◌∷◌, ◌++◌, map, length, Option, Some, None, refl, ap, sym, subst, ◌∙◌, not, arith, length-append, append-nil}
use Rattle.std.specs.Prelude.{◌==◌, ◌&&◌, is_some, slice_index_or}
use Rattle.std.specs.List.{AllByRecursion, flat_map, list_all}
use Rattle.std.specs.Option.{option_map_or}
use Rattle.std.proofs.lemmas.Bool.{eq-eqb}
use Rattle.std.proofs.lemmas.Grind.{flat_map-append}
use Rattle.std.proofs.lemmas.List.{map-append}
use Rattle.ng_drawing.specs.Template.{Piece, word, hole, PartAttributes, Binding, Uses, Outside, Scopes, Part, Contents, Parts, text_part, comment_part, element_part, anchor_part, children, bound, no_parts, part_then, Outlet, Fragment}
use Rattle.ng_language.specs.Trees.{Trees}
use Rattle.ng_build.specs.Linking.{Opening, a_child, an_isolate, a_slot, LinkStep, makes, opens, binds, installs, starts, starts_at, registers, leaves, piece_steps, if_asked, scope_of, uses_entered, entering_steps, uses_left, leaving_steps, slot_steps, part_steps, content_steps, steps, bound_flags, is_bound_site, fault_in}
use Rattle.ng_link.proofs.Counted.{is_done, done_both, ended_done, element_done}
use Rattle.ng_link.proofs.Numbers.{both_true, first_then, bound_then, next_own, next_hole, contents_children, contents_bound, whole_count, whole_undrawn}
use Rattle.ng_drawing.specs.Numbering.{source_numbers, bound_numbers, after_pieces, after_own, after_contents, after_part, after_parts, is_within, is_apart, are_drawn, part_draws, contents_draw, parts_draw, is_undrawn, HasOrder}

abbrev flags : List LinkStep → List Bool
flags ss = flat_map bound_flags ss

-- ---- steps without a site, and those of bindings

quiet_first : (xs ys : List LinkStep) → flags xs ≡ [] → flags (xs ++ ys) ≡ flags ys
quiet_first xs ys e = flat_map-append bound_flags xs ys ∙ ap (λ (zs : List Bool). zs ++ flags ys) e

quiet_last : (xs ys : List LinkStep) → flags ys ≡ [] → flags (xs ++ ys) ≡ flags xs
quiet_last xs ys e = flat_map-append bound_flags xs ys ∙ (ap (λ (zs : List Bool). flags xs ++ zs) e ∙ append-nil (flags xs))

asked_quiet : (b : Bool) (o : Opening) → flags (if_asked b o) ≡ []
asked_quiet true o = refl
asked_quiet false o = refl

starts_quiet : (s : ℕ) (ps : List Trees) → flags (map (starts s) ps) ≡ []
starts_quiet s [] = refl
starts_quiet s (p ∷ ps) = starts_quiet s ps

at_quiet : (o : ℕ) (ps : List Trees) → flags (map (starts_at o) ps) ≡ []
at_quiet o [] = refl
at_quiet o (p ∷ ps) = at_quiet o ps

installs_quiet : (u : Uses) (s : Scopes) (ds : List ℕ) → flags (map (λ d. installs d (scope_of u s d)) ds) ≡ []
installs_quiet u s [] = refl
installs_quiet u s (d ∷ ds) = installs_quiet u s ds

leaves_quiet : (u : Uses) (s : Scopes) (ds : List ℕ) → flags (map (λ d. leaves d (scope_of u s d)) ds) ≡ []
leaves_quiet u s [] = refl
leaves_quiet u s (d ∷ ds) = leaves_quiet u s ds

slot_quiet : (own : ℕ) (o : Option Outside) → flags (option_map_or (λ x. opens (a_slot own x) ∷ []) o []) ≡ []
slot_quiet own None = refl
slot_quiet own (Some o) = refl

leaving_quiet : (s : Scopes) (o : Option Uses) → flags (option_map_or (uses_left s) o []) ≡ []
leaving_quiet s None = refl
leaving_quiet s (Some u) = leaves_quiet u s u.directives

abbrev all_true : List ℕ → List Bool
all_true ns = map (λ (n : ℕ). true) ns

binds_flags : (i o : ℕ) (bs : List Binding) → flags (map (λ b. binds b i o) bs) ≡ all_true (flat_map (λ (b : Binding). source_numbers b.source) bs)
binds_flags i o [] = refl
binds_flags i o (b ∷ bs) =
    ap (λ (zs : List Bool). all_true (source_numbers b.source) ++ zs) (binds_flags i o bs)
    ∙ sym (map-append (λ (n : ℕ). true) (source_numbers b.source) (flat_map (λ (c : Binding). source_numbers c.source) bs))

entering_flags : (s : Scopes) (o : Option Uses) → flags (option_map_or (uses_entered s) o []) ≡ all_true (option_map_or (λ (u : Uses). flat_map (λ (b : Binding). source_numbers b.source) u.bindings) o [])
entering_flags s None = refl
entering_flags s (Some u) =
    let bound : List LinkStep = map (λ b. binds b s.isolate s.own) u.bindings in
    let rest : List LinkStep = bound ++ map (λ d. installs d (scope_of u s d)) u.directives in
    quiet_first (if_asked u.child (a_child s.outer)) (if_asked (is_some u.isolate) (an_isolate s.own) ++ rest) (asked_quiet u.child (a_child s.outer))
    ∙ (quiet_first (if_asked (is_some u.isolate) (an_isolate s.own)) rest (asked_quiet (is_some u.isolate) (an_isolate s.own))
    ∙ (quiet_last bound (map (λ d. installs d (scope_of u s d)) u.directives) (installs_quiet u s u.directives)
    ∙ binds_flags s.isolate s.own u.bindings))

-- ---- a test that the sites of bindings pass

module _ (test : ℕ → Bool) where
  -- for the sites from n on it is said which are those of bindings
  abbrev Bounded : ℕ → List Bool → Type 0
  Bounded n [] = Unit {0}
  Bounded n (b ∷ bs) = (b ≡ true → test n ≡ true) × Bounded (n + 1) bs

  bounded-append : (n k : ℕ) (xs ys : List Bool) → k ≡ n + length xs → Bounded n xs → Bounded k ys → Bounded n (xs ++ ys)
  bounded-append n k [] ys e h more = let same : k ≡ n = omega (arith, e) in subst (λ (j : ℕ). Bounded j ys) same more
  bounded-append n k (x ∷ xs) ys e h more = (h.0, bounded-append (n + 1) k xs ys (omega (arith, e)) h.1 more)

  at_bounded : (n : ℕ) (bs : List Bool) → Bounded n bs → (i : ℕ) → slice_index_or bs i false ≡ true → test (n + i) ≡ true
  at_bounded n [] h zero e = absurd (cc)
  at_bounded n [] h (suc i) e = absurd (cc)
  at_bounded n (b ∷ bs) h zero e = let same : n + 0 ≡ n = omega arith in ap test same ∙ h.0 e
  at_bounded n (b ∷ bs) h (suc i) e = let same : n + suc i ≡ (n + 1) + i = omega arith in ap test same ∙ at_bounded (n + 1) bs h.1 i e

  -- the sites of these flags are those from n on, below c
  abbrev TheseTold : ℕ → List Bool → ℕ → Type 0
  TheseTold n bs c = Bounded n bs × (c ≡ n + length bs)

  abbrev Told : ℕ → List LinkStep → ℕ → Type 0
  Told n ss c = TheseTold n (flags ss) c

  told_join : (n k c : ℕ) (xs ys : List LinkStep) → Told n xs k → Told k ys c → Told n (xs ++ ys) c
  told_join n k c xs ys a b =
      let to = a.1 in
      let end = b.1 in
      subst (λ (bs : List Bool). TheseTold n bs c) (sym (flat_map-append bound_flags xs ys))
      (bounded-append n k (flags xs) (flags ys) to a.0 b.0, omega (arith, to, end, length-append (flags xs) (flags ys)))

  told_quiet : (n : ℕ) (xs : List LinkStep) → flags xs ≡ [] → Told n xs n
  told_quiet n xs e = subst (λ (bs : List Bool). TheseTold n bs n) (sym e) (tt, omega arith)

  pieces_told : (n c : ℕ) (ps : List Piece) → after_pieces n ps ≡ Some c → Told n (piece_steps ps) c
  pieces_told n c [] e = (tt, let same : n ≡ c = cc in omega (arith, same))
  pieces_told n c (word w ∷ ps) e = pieces_told n c ps e
  pieces_told n c (hole k ∷ ps) e =
      let more : Told (n + 1) (piece_steps ps) c = pieces_told (n + 1) c ps (next_hole n k ps c e).1 in
      ((λ is. absurd (cc), more.0), let end = more.1 in omega (arith, end))

  own_told : (n c : ℕ) (own : List ℕ) → after_own n own ≡ Some c → Told n (map (λ k. registers) own) c
  own_told n c [] e = (tt, let same : n ≡ c = cc in omega (arith, same))
  own_told n c (k ∷ ks) e =
      let more : Told (n + 1) (map (λ j. registers) ks) c = own_told (n + 1) c ks (next_own n k ks c e).1 in
      ((λ is. absurd (cc), more.0), let end = more.1 in omega (arith, end))

  bound_told : (n c : ℕ) (ns : List ℕ) → after_own n ns ≡ Some c → list_all test ns ≡ true → TheseTold n (all_true ns) c
  bound_told n c [] e all = (tt, let same : n ≡ c = cc in omega (arith, same))
  bound_told n c (k ∷ ks) e all =
      let two = next_own n k ks c e in
      let both = both_true (test k) (list_all test ks) all in
      let more : TheseTold (n + 1) (all_true ks) c = bound_told (n + 1) c ks two.1 both.1 in
      ((λ is. ap test (sym two.0) ∙ both.0, more.0), let end = more.1 in omega (arith, end))

  mutual
    part_told : (n c : ℕ) (p : Part) → after_part n p ≡ Some c → is_done (part_steps p) ≡ true → part_draws test p ≡ true → Told n (part_steps p) c
    part_told n c (text_part ps) e done h = pieces_told n c ps e
    part_told n c (comment_part t) e done h = (tt, let same : n ≡ c = cc in omega (arith, same))
    part_told n c (anchor_part o own programs) e done h =
        told_join n n c (map (starts_at o) programs) (map (λ k. registers) own) (told_quiet n (map (starts_at o) programs) (at_quiet o programs)) (own_told n c own e)
    part_told n c (element_part name own acts ats p) e done h =
        let inside : List LinkStep = content_steps p in
        let whole = element_done acts own inside done in
        let z = bound_then n own acts ats p c e in
        let two = first_then (after_own z.0 own) (λ d. after_contents z.0 d ats p) c z.2 in
        let both = both_true (list_all test (bound_numbers acts)) (are_drawn test ats && contents_draw test p) h in
        let entering : List LinkStep = entering_steps acts in
        let starting : List LinkStep = map (starts acts.scopes.own) acts.starts in
        let owned : List LinkStep = map (λ (k : ℕ). registers) own in
        let slotted : List LinkStep = slot_steps acts.scopes in
        let leaving : List LinkStep = leaving_steps acts in
        let entered : Told n entering z.0 = subst (λ (bs : List Bool). TheseTold n bs z.0) (sym (entering_flags acts.scopes acts.uses)) (bound_told n z.0 (bound_numbers acts) z.1 both.0) in
        let inner : Told two.0 inside c = contents_told z.0 two.0 c ats p two.2 whole.1 (both_true (are_drawn test ats) (contents_draw test p) both.1).1 in
        let last : Told two.0 (inside ++ leaving) c = told_join two.0 c c inside leaving inner (told_quiet c leaving (leaving_quiet acts.scopes acts.uses)) in
        let slots : Told two.0 (slotted ++ (inside ++ leaving)) c = told_join two.0 two.0 c slotted (inside ++ leaving) (told_quiet two.0 slotted (slot_quiet acts.scopes.own acts.scopes.slot)) last in
        let owns : Told z.0 (owned ++ (slotted ++ (inside ++ leaving))) c = told_join z.0 two.0 c owned (slotted ++ (inside ++ leaving)) (own_told z.0 two.0 own two.1) slots in
        let begun : Told z.0 (starting ++ (owned ++ (slotted ++ (inside ++ leaving)))) c =
        told_join z.0 z.0 c starting (owned ++ (slotted ++ (inside ++ leaving))) (told_quiet z.0 starting (starts_quiet acts.scopes.own acts.starts)) owns in
        let all : Told n (makes ∷ (entering ++ (starting ++ (owned ++ (slotted ++ (inside ++ leaving)))))) c = told_join n z.0 c entering (starting ++ (owned ++ (slotted ++ (inside ++ leaving)))) entered begun in
        subst (λ (ss : List LinkStep). Told n ss c) (sym whole.0) all

    contents_told : (n d c : ℕ) (ats : PartAttributes) (p : Contents) → after_contents n d ats p ≡ Some c → is_done (content_steps p) ≡ true → contents_draw test p ≡ true → Told d (content_steps p) c
    contents_told n d c ats (children ps) e done h = parts_told d c ps (contents_children n d c ats ps e).1 done h
    contents_told n d c ats (bound b) e done h = (tt, let same = (contents_bound n d c ats b e).2 in omega (arith, same))

    parts_told : (n c : ℕ) (ps : Parts) → after_parts n ps ≡ Some c → is_done (steps ps) ≡ true → parts_draw test ps ≡ true → Told n (steps ps) c
    parts_told n c no_parts e done h = (tt, let same : n ≡ c = cc in omega (arith, same))
    parts_told n c (part_then p ps) e done h =
        let two = first_then (after_part n p) (λ k. after_parts k ps) c e in
        let all = done_both (part_steps p) (steps ps) done in
        let both = both_true (part_draws test p) (parts_draw test ps) h in
        told_join n two.0 c (part_steps p) (steps ps) (part_told n two.0 p two.1 all.0 both.0) (parts_told two.0 c ps two.2 all.1 both.1)

  -- the sites of bindings pass it
  pub bound_passes : (c : ℕ) (ps : Parts) → after_parts 0 ps ≡ Some c → is_done (steps ps) ≡ true → parts_draw test ps ≡ true → (i : ℕ) → is_bound_site (steps ps) i ≡ true → test i ≡ true
  bound_passes c ps e done h i is = let all : Told 0 (steps ps) c = parts_told 0 c ps e done h in let same : 0 + i ≡ i = omega arith in ap test (sym same) ∙ at_bounded 0 (flags (steps ps)) all.0 i is

never_apart : (n c : ℕ) → is_apart n 0 c n ≡ true → ⊥
never_apart n c e =
    let off : not (n == n) ≡ true = (both_true (is_within 0 c n) (not (n == n)) e).1 in
    let on : not (n == n) ≡ false = ap not (eq-eqb n n refl) in
    let two : false ≡ true = sym on ∙ off in
    absurd (cc)

pub plain_outlets : (f : Fragment) → HasOrder f → (room : ℕ) → fault_in room (steps f.parts) ≡ None → AllByRecursion (λ (o : Outlet). is_bound_site (steps f.parts) o.site ≡ false) f.outlets
plain_outlets f whole room none = by_outlets f.outlets (whole_undrawn whole.0 f whole.1)
  where
    one : (o : Outlet) → is_undrawn (length f.sites) f.parts o ≡ true → (b : Bool) → is_bound_site (steps f.parts) o.site ≡ b → is_bound_site (steps f.parts) o.site ≡ false
    one o h false e = e
    one o h true e =
        let passes : is_apart o.site 0 (length f.sites) o.site ≡ true = bound_passes (is_apart o.site 0 (length f.sites)) (length f.sites) f.parts (whole_count whole.0 f whole.1) (ended_done room (steps f.parts) none) h o.site e in
        absurd (never_apart o.site (length f.sites) passes)

    by_outlets : (os : List Outlet) → list_all (is_undrawn (length f.sites) f.parts) os ≡ true → AllByRecursion (λ (o : Outlet). is_bound_site (steps f.parts) o.site ≡ false) os
    by_outlets [] e = tt
    by_outlets (o ∷ os) e =
        let both = both_true (is_undrawn (length f.sites) f.parts o) (list_all (is_undrawn (length f.sites) f.parts) os) e in
        (one o both.0 (is_bound_site (steps f.parts) o.site) refl, by_outlets os both.1)
