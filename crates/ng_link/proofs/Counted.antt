-- The sites that get a number when parts are linked are those of the fragment, where all steps are done; from those of bindings nothing is drawn; and
-- nodes that find room are few enough.
use Rattle.std.proofs.Common.{◌≡◌, ◌≤◌, ◌<◌, ◌+◌, ℕ, zero, suc, Bool, true, false, cond, List, [], ◌∷◌, ◌++◌, Ok, Err, Result, Option, Some, None, refl, ap, ◌∙◌, sym, subst, map, length, arith, length-append, append_assoc}
use Rattle.std.specs.Prelude.{◌&&◌, ◌==◌, not, is_some, nat_lt, slice_get, slice_index_or, if◌then◌else◌}
use Rattle.std.specs.List.{flat_map, list_all}
use Rattle.std.specs.Option.{option_map_or}
use Rattle.std.proofs.lemmas.Bool.Decides.{nat_tests}
use Rattle.std.proofs.lemmas.Bool.{eqb-true, eqb-false}
use Rattle.std.proofs.lemmas.List.{length-map}
use Rattle.std.proofs.lemmas.Option.{slice_get-get_or}
use Rattle.ng_base.specs.declared.fault.Fault.{Fault}
use Rattle.ng_base.specs.declared.fault.Fault.TheVariants.{NodeLimit}
use Rattle.ng_drawing.specs.Nodes.{part_nodes, nodes, node_limit}
use Rattle.ng_drawing.specs.Template.{Piece, word, hole, Source, of_text, of_nothing, one_way, two_way, of_call, Binding, PartAttributes, Uses, Outside, Scopes, Acts, Part, Contents, Parts, text_part, comment_part, element_part, anchor_part, children, bound, no_parts, part_then}
use Rattle.ng_language.specs.Trees.{Trees}
use Rattle.ng_parts.proofs.More.{attributes_more}
use Rattle.ng_drawing.specs.Numbering.{hole_numbers, source_numbers, bound_numbers, after_pieces, after_own, after_contents, after_part, after_parts, is_within, is_apart, is_piece_drawn, are_drawn}
use Rattle.ng_instances.specs.Bindings.{Bound, Bounds, bound_in_table, is_unbound}
use Rattle.ng_build.specs.Linking.{Opening, a_child, an_isolate, a_slot, LinkStep, makes, stops, opens, binds, installs, starts, starts_at, registers, leaves, piece_steps, if_asked, scope_of, uses_entered, entering_steps, uses_left, leaving_steps, slot_steps, element_steps, part_steps, content_steps, steps, source_count, step_count, site_count, bound_flags, is_bound_site, fault_in}
use Rattle.ng_build.specs.Shape.{own_node, piece_holes, part_holes, content_holes, holes, linked}
use Rattle.ng_link.specs.Showing.{part_shows, contents_show, parts_show}
use Rattle.ng_link.proofs.Below.{within, apart}
use Rattle.ng_link.proofs.Numbers.{both_true, first_then, bound_then, next_hole, contents_children, contents_bound, counted_own, counted_part, counted}

-- all steps are done
abbrev passes : LinkStep → Bool
passes makes = true
passes stops = false
passes (opens o) = true
passes (binds b i o) = true
passes (installs d s) = true
passes (starts s p) = true
passes (starts_at o p) = true
passes registers = true
passes (leaves d s) = true

abbrev pub is_done : List LinkStep → Bool
is_done ss = list_all passes ss

pub done_both : (xs ys : List LinkStep) → is_done (xs ++ ys) ≡ true → (is_done xs ≡ true) × (is_done ys ≡ true)
done_both [] ys e = (refl, e)
done_both (x ∷ xs) ys e =
    let two = both_true (passes x) (is_done (xs ++ ys)) e in
    let more = done_both xs ys two.1 in
    (ap (λ (b : Bool). b && is_done xs) two.0 ∙ more.0, more.1)

-- how many nodes are made
abbrev node_step : LinkStep → ℕ
node_step makes = 1
node_step stops = 0
node_step (opens o) = 0
node_step (binds b i o) = 0
node_step (installs d s) = 0
node_step (starts s p) = 0
node_step (starts_at o p) = 0
node_step registers = 0
node_step (leaves d s) = 0

abbrev nodes_made : List LinkStep → ℕ
nodes_made [] = 0
nodes_made (x ∷ ss) = node_step x + nodes_made ss

-- without a fault all are done, and their nodes find room
no_fault : (room : ℕ) (ss : List LinkStep) → fault_in room ss ≡ None → (is_done ss ≡ true) × (nodes_made ss ≤ room)
no_fault zero [] e = (refl, omega arith)
no_fault (suc r) [] e = (refl, omega arith)
no_fault zero (makes ∷ ss) e = absurd (cc)
no_fault (suc r) (makes ∷ ss) e = let more = no_fault r ss e in (more.0, let few = more.1 in omega (arith, few))
no_fault zero (stops ∷ ss) e = absurd (cc)
no_fault (suc r) (stops ∷ ss) e = absurd (cc)
no_fault zero (opens o ∷ ss) e = let more = no_fault zero ss e in (more.0, let few = more.1 in omega (arith, few))
no_fault (suc r) (opens o ∷ ss) e = let more = no_fault (suc r) ss e in (more.0, let few = more.1 in omega (arith, few))
no_fault zero (binds b i o ∷ ss) e = let more = no_fault zero ss e in (more.0, let few = more.1 in omega (arith, few))
no_fault (suc r) (binds b i o ∷ ss) e = let more = no_fault (suc r) ss e in (more.0, let few = more.1 in omega (arith, few))
no_fault zero (installs d s ∷ ss) e = let more = no_fault zero ss e in (more.0, let few = more.1 in omega (arith, few))
no_fault (suc r) (installs d s ∷ ss) e = let more = no_fault (suc r) ss e in (more.0, let few = more.1 in omega (arith, few))
no_fault zero (starts s p ∷ ss) e = let more = no_fault zero ss e in (more.0, let few = more.1 in omega (arith, few))
no_fault (suc r) (starts s p ∷ ss) e = let more = no_fault (suc r) ss e in (more.0, let few = more.1 in omega (arith, few))
no_fault zero (starts_at o p ∷ ss) e = let more = no_fault zero ss e in (more.0, let few = more.1 in omega (arith, few))
no_fault (suc r) (starts_at o p ∷ ss) e = let more = no_fault (suc r) ss e in (more.0, let few = more.1 in omega (arith, few))
no_fault zero (registers ∷ ss) e = let more = no_fault zero ss e in (more.0, let few = more.1 in omega (arith, few))
no_fault (suc r) (registers ∷ ss) e = let more = no_fault (suc r) ss e in (more.0, let few = more.1 in omega (arith, few))
no_fault zero (leaves d s ∷ ss) e = let more = no_fault zero ss e in (more.0, let few = more.1 in omega (arith, few))
no_fault (suc r) (leaves d s ∷ ss) e = let more = no_fault (suc r) ss e in (more.0, let few = more.1 in omega (arith, few))

pub ended_done : (room : ℕ) (ss : List LinkStep) → fault_in room ss ≡ None → is_done ss ≡ true
ended_done room ss e = (no_fault room ss e).0

-- how many sites get a number
count-append : (xs ys : List LinkStep) → site_count (xs ++ ys) ≡ site_count xs + site_count ys
count-append [] ys = omega arith
count-append (x ∷ xs) ys = let more = count-append xs ys in omega (arith, more)

asked_count : (b : Bool) (o : Opening) → site_count (if_asked b o) ≡ 0
asked_count true o = refl
asked_count false o = refl

starts_count : (s : ℕ) (ps : List Trees) → site_count (map (starts s) ps) ≡ 0
starts_count s [] = refl
starts_count s (p ∷ ps) = let more = starts_count s ps in omega (arith, more)

at_count : (o : ℕ) (ps : List Trees) → site_count (map (starts_at o) ps) ≡ 0
at_count o [] = refl
at_count o (p ∷ ps) = let more = at_count o ps in omega (arith, more)

own_count : (own : List ℕ) → site_count (map (λ n. registers) own) ≡ length own
own_count [] = refl
own_count (n ∷ ns) = let more = own_count ns in omega (arith, more)

piece_count : (m : ℕ) (ps : List Piece) → site_count (piece_steps ps) ≡ length (piece_holes m ps)
piece_count m [] = refl
piece_count m (word w ∷ ps) = piece_count m ps
piece_count m (hole n ∷ ps) = let more = piece_count m ps in omega (arith, more)

hole_count : (ps : List Piece) → length (piece_steps ps) ≡ length (hole_numbers ps)
hole_count [] = refl
hole_count (word w ∷ ps) = hole_count ps
hole_count (hole n ∷ ps) = let more = hole_count ps in omega (arith, more)

source_length : (s : Source) → source_count s ≡ length (source_numbers s)
source_length (of_text ps) = hole_count ps
source_length of_nothing = refl
source_length (one_way n) = refl
source_length (two_way n w) = refl
source_length (of_call p) = refl

binds_count : (i o : ℕ) (bs : List Binding) → site_count (map (λ b. binds b i o) bs) ≡ length (flat_map (λ (b : Binding). source_numbers b.source) bs)
binds_count i o [] = refl
binds_count i o (b ∷ bs) =
    let one = source_length b.source in
    let more = binds_count i o bs in
    omega (arith, one, more, length-append (source_numbers b.source) (flat_map (λ (c : Binding). source_numbers c.source) bs))

installs_count : (u : Uses) (s : Scopes) (ds : List ℕ) → site_count (map (λ d. installs d (scope_of u s d)) ds) ≡ 0
installs_count u s [] = refl
installs_count u s (d ∷ ds) = let more = installs_count u s ds in omega (arith, more)

leaves_count : (u : Uses) (s : Scopes) (ds : List ℕ) → site_count (map (λ d. leaves d (scope_of u s d)) ds) ≡ 0
leaves_count u s [] = refl
leaves_count u s (d ∷ ds) = let more = leaves_count u s ds in omega (arith, more)

entering_count : (s : Scopes) (o : Option Uses) → site_count (option_map_or (uses_entered s) o []) ≡ length (option_map_or (λ (u : Uses). flat_map (λ (b : Binding). source_numbers b.source) u.bindings) o [])
entering_count s None = refl
entering_count s (Some u) =
    let opened : List LinkStep = map (λ b. binds b s.isolate s.own) u.bindings ++ map (λ d. installs d (scope_of u s d)) u.directives in
    let one = asked_count u.child (a_child s.outer) in
    let two = asked_count (is_some u.isolate) (an_isolate s.own) in
    let three = binds_count s.isolate s.own u.bindings in
    let four = installs_count u s u.directives in
    let a = count-append (if_asked u.child (a_child s.outer)) (if_asked (is_some u.isolate) (an_isolate s.own) ++ opened) in
    let b = count-append (if_asked (is_some u.isolate) (an_isolate s.own)) opened in
    let c = count-append (map (λ b. binds b s.isolate s.own) u.bindings) (map (λ d. installs d (scope_of u s d)) u.directives) in
    omega (arith, one, two, three, four, a, b, c)

slot_count : (own : ℕ) (o : Option Outside) → site_count (option_map_or (λ o. opens (a_slot own o) ∷ []) o []) ≡ 0
slot_count own None = refl
slot_count own (Some o) = refl

leaving_count : (s : Scopes) (o : Option Uses) → site_count (option_map_or (uses_left s) o []) ≡ 0
leaving_count s None = refl
leaving_count s (Some u) = leaves_count u s u.directives

-- the steps of an element, one kind after another
module _ (acts : Acts) (own : List ℕ) (inside : List LinkStep) where
  abbrev entering : List LinkStep
  entering = entering_steps acts

  abbrev starting : List LinkStep
  starting = map (starts acts.scopes.own) acts.starts

  abbrev owned : List LinkStep
  owned = map (λ n. registers) own

  abbrev slotted : List LinkStep
  slotted = slot_steps acts.scopes

  abbrev leaving : List LinkStep
  leaving = leaving_steps acts

  abbrev all_steps : List LinkStep
  all_steps = makes ∷ (entering ++ (starting ++ (owned ++ (slotted ++ (inside ++ leaving)))))

  -- they are all done, unless the element is too deep
  pub element_done : is_done (element_steps acts own inside) ≡ true → (element_steps acts own inside ≡ all_steps) × (is_done inside ≡ true)
  element_done e = by_deep acts.scopes.deep refl e
    where
      by_deep : (b : Bool) → acts.scopes.deep ≡ b → is_done (cond b (stops ∷ []) all_steps) ≡ true → (element_steps acts own inside ≡ all_steps) × (is_done inside ≡ true)
      by_deep true is f = absurd (cc)
      by_deep false is f =
          let rest = (done_both owned (slotted ++ (inside ++ leaving)) (done_both starting (owned ++ (slotted ++ (inside ++ leaving))) (done_both entering (starting ++ (owned ++ (slotted ++ (inside ++ leaving)))) f).1).1).1 in
          (ap (λ (b : Bool). cond b (stops ∷ []) all_steps) is, (done_both inside leaving (done_both slotted (inside ++ leaving) rest).1).0)

  pub element_count : site_count all_steps ≡ length (bound_numbers acts) + (length own + site_count inside)
  element_count =
      let one = entering_count acts.scopes acts.uses in
      let two = starts_count acts.scopes.own acts.starts in
      let three = own_count own in
      let four = slot_count acts.scopes.own acts.scopes.slot in
      let five = leaving_count acts.scopes acts.uses in
      let a = count-append entering (starting ++ (owned ++ (slotted ++ (inside ++ leaving)))) in
      let b = count-append starting (owned ++ (slotted ++ (inside ++ leaving))) in
      let c = count-append owned (slotted ++ (inside ++ leaving)) in
      let d = count-append slotted (inside ++ leaving) in
      let e = count-append inside leaving in
      omega (arith, one, two, three, four, five, a, b, c, d, e)

mutual
  part_count : (m : ℕ) (p : Part) → is_done (part_steps p) ≡ true → site_count (part_steps p) ≡ length (part_holes m p)
  part_count m (text_part ps) done = let many = piece_count m ps in omega (arith, many)
  part_count m (comment_part t) done = refl
  part_count m (element_part e own acts ats c) done =
      let whole = element_done acts own (content_steps c) done in
      let all : site_count (part_steps (element_part e own acts ats c)) ≡ length (bound_numbers acts) + (length own + site_count (content_steps c)) = ap site_count whole.0 ∙ element_count acts own (content_steps c) in
      let inner = content_count (m + 1) c whole.1 in
      let inside : List ℕ = map (own_node m c) own ++ content_holes (m + 1) c in
      omega (arith, all, inner, length-map (bound_numbers acts) (λ (k : ℕ). m), length-map own (own_node m c), length-append (map (own_node m c) own) (content_holes (m + 1) c), length-append (map (λ (k : ℕ). m) (bound_numbers acts)) inside)
  part_count m (anchor_part o own programs) done =
      let two = count-append (map (starts_at o) programs) (map (λ n. registers) own) in
      let none = at_count o programs in
      let many = own_count own in
      omega (arith, two, none, many, length-map own (λ (_ : ℕ). m))

  content_count : (m : ℕ) (c : Contents) → is_done (content_steps c) ≡ true → site_count (content_steps c) ≡ length (content_holes m c)
  content_count m (children ps) done = parts_count m ps done
  content_count m (bound n) done = refl

  pub parts_count : (m : ℕ) (ps : Parts) → is_done (steps ps) ≡ true → site_count (steps ps) ≡ length (holes m ps)
  parts_count m no_parts done = refl
  parts_count m (part_then p ps) done =
      let two = done_both (part_steps p) (steps ps) done in
      let first = part_count m p two.0 in
      let rest = parts_count (m + part_nodes p) ps two.1 in
      omega (arith, first, rest, count-append (part_steps p) (steps ps), length-append (part_holes m p) (holes (m + part_nodes p) ps))

-- for the sites from n on it is said which are drawn
abbrev Passes : (ℕ → Bool) → ℕ → List Bool → Type 0
Passes test n [] = Unit {0}
Passes test n (b ∷ bs) = (b ≡ false → test n ≡ true) × Passes test (n + 1) bs

passes-append : (test : ℕ → Bool) (n k : ℕ) (xs ys : List Bool) → k ≡ n + length xs → Passes test n (xs ++ ys) → Passes test n xs × Passes test k ys
passes-append test n k [] ys e h = let same : k ≡ n = omega (arith, e) in (tt, rw same h)
passes-append test n k (x ∷ xs) ys e h = let more = passes-append test (n + 1) k xs ys (omega (arith, e)) h.1 in ((h.0, more.0), more.1)

flags-append : (xs ys : List LinkStep) → flat_map bound_flags (xs ++ ys) ≡ flat_map bound_flags xs ++ flat_map bound_flags ys
flags-append [] ys = refl
flags-append (x ∷ xs) ys = ap (λ (bs : List Bool). bound_flags x ++ bs) (flags-append xs ys) ∙ sym (append_assoc (bound_flags x) (flat_map bound_flags xs) (flat_map bound_flags ys))

flag_count : (x : LinkStep) → length (bound_flags x) ≡ step_count x
flag_count makes = refl
flag_count stops = refl
flag_count (opens o) = refl
flag_count (binds b i o) = length-map (source_numbers b.source) (λ (n : ℕ). true) ∙ sym (source_length b.source)
flag_count (installs d s) = refl
flag_count (starts s p) = refl
flag_count (starts_at o p) = refl
flag_count registers = refl
flag_count (leaves d s) = refl

pub flags_count : (ss : List LinkStep) → length (flat_map bound_flags ss) ≡ site_count ss
flags_count [] = refl
flags_count (x ∷ ss) = let one = flag_count x in let more = flags_count ss in omega (arith, one, more, length-append (bound_flags x) (flat_map bound_flags ss))

module _ (test : ℕ → Bool) where
  abbrev Drawn : ℕ → List LinkStep → Type 0
  Drawn n ss = Passes test n (flat_map bound_flags ss)

  drawn_cut : (n k : ℕ) (xs ys : List LinkStep) → k ≡ n + site_count xs → Drawn n (xs ++ ys) → Drawn n xs × Drawn k ys
  drawn_cut n k xs ys e h =
      let many = flags_count xs in
      passes-append test n k (flat_map bound_flags xs) (flat_map bound_flags ys) (omega (arith, e, many)) (subst (λ (bs : List Bool). Passes test n bs) (flags-append xs ys) h)

  own_passes : (n : ℕ) (own : List ℕ) → Drawn n (map (λ n. registers) own) → (k : ℕ) → n ≤ k → k < n + length own → test k ≡ true
  own_passes n [] h k from to = absurd (omega (arith, from, to))
  own_passes n (x ∷ own) h k from to = by_test (k == n) refl (own_passes (n + 1) own h.1 k)
    where
      by_test : (b : Bool) → (k == n) ≡ b → ((n + 1) ≤ k → k < (n + 1) + length own → test k ≡ true) → test k ≡ true
      by_test true is more = let same = eqb-true k n is in rw same (h.0 refl)
      by_test false is more = more (let ne = eqb-false k n is in omega (arith, ne, from)) (omega (arith, to))

  pieces_pass : (n c : ℕ) (ps : List Piece) → after_pieces n ps ≡ Some c → Drawn n (piece_steps ps) → list_all (is_piece_drawn test) ps ≡ true
  pieces_pass n c [] e h = refl
  pieces_pass n c (word w ∷ ps) e h = pieces_pass n c ps e h
  pieces_pass n c (hole k ∷ ps) e h =
      let two = next_hole n k ps c e in
      let here : test k ≡ true = ap test two.0 ∙ h.0 refl in
      ap (λ (b : Bool). b && list_all (is_piece_drawn test) ps) here ∙ pieces_pass (n + 1) c ps two.1 h.1

  mutual
    part_passes : (n c : ℕ) (p : Part) → after_part n p ≡ Some c → is_done (part_steps p) ≡ true → Drawn n (part_steps p) → part_shows test p ≡ true
    part_passes n c (text_part ps) e done h = pieces_pass n c ps e h
    part_passes n c (comment_part t) e done h = refl
    part_passes n c (anchor_part o own programs) e done h = refl
    part_passes n c (element_part name own acts ats p) e done h =
        let inside = content_steps p in
        let whole = element_done acts own inside done in
        let all : Drawn n (all_steps acts own inside) = subst (λ (ss : List LinkStep). Drawn n ss) whole.0 h in
        let z = bound_then n own acts ats p c e in
        let two = first_then (after_own z.0 own) (λ d. after_contents z.0 d ats p) c z.2 in
        let bounds = counted_own n z.0 (bound_numbers acts) z.1 in
        let owns = counted_own z.0 two.0 own two.1 in
        let entered = entering_count acts.scopes acts.uses in
        let started = starts_count acts.scopes.own acts.starts in
        let own_many = own_count own in
        let slots = slot_count acts.scopes.own acts.scopes.slot in
        let first = (drawn_cut n z.0 (entering acts own inside) (starting acts own inside ++ (owned acts own inside ++ (slotted acts own inside ++ (inside ++ leaving acts own inside)))) (omega (arith, bounds, entered)) all).1 in
        let second = (drawn_cut z.0 z.0 (starting acts own inside) (owned acts own inside ++ (slotted acts own inside ++ (inside ++ leaving acts own inside))) (omega (arith, started)) first).1 in
        let third = drawn_cut z.0 two.0 (owned acts own inside) (slotted acts own inside ++ (inside ++ leaving acts own inside)) (omega (arith, owns, own_many)) second in
        let fourth = (drawn_cut two.0 two.0 (slotted acts own inside) (inside ++ leaving acts own inside) (omega (arith, slots)) third.1).1 in
        let fifth = (drawn_cut two.0 (two.0 + site_count inside) inside (leaving acts own inside) refl fourth).0 in
        let mine : (k : ℕ) → is_within z.0 two.0 k ≡ true → test k ≡ true = λ k is. (let lies = within z.0 two.0 k is in own_passes z.0 own third.0 k lies.0 (let lt = lies.1 in omega (arith, lt, owns))) in
        contents_pass z.0 two.0 c ats p two.2 mine whole.1 fifth

    contents_pass : (n d c : ℕ) (ats : PartAttributes) (p : Contents) → after_contents n d ats p ≡ Some c → ((k : ℕ) → is_within n d k ≡ true → test k ≡ true) → is_done (content_steps p) ≡ true → Drawn d (content_steps p)
        → (are_drawn test ats && contents_show test p) ≡ true
    contents_pass n d c ats (children ps) e mine done h =
        let two = contents_children n d c ats ps e in
        ap (λ (b : Bool). b && parts_show test ps) (attributes_more (is_within n d) test mine ats two.0) ∙ parts_pass d c ps two.1 done h
    contents_pass n d c ats (bound b) e mine done h =
        let three = contents_bound n d c ats b e in
        ap (λ (t : Bool). t && test b) (attributes_more (is_apart b n d) test (λ k is. mine k (apart b n d k is).0) ats three.1) ∙ mine b three.0

    pub parts_pass : (n c : ℕ) (ps : Parts) → after_parts n ps ≡ Some c → is_done (steps ps) ≡ true → Drawn n (steps ps) → parts_show test ps ≡ true
    parts_pass n c no_parts e done h = refl
    parts_pass n c (part_then p ps) e done h =
        let two = first_then (after_part n p) (λ k. after_parts k ps) c e in
        let both = done_both (part_steps p) (steps ps) done in
        let many = counted_part n 0 two.0 p two.1 in
        let sites = part_count 0 p both.0 in
        let cut = drawn_cut n two.0 (part_steps p) (steps ps) (omega (arith, many, sites)) h in
        ap (λ (b : Bool). b && parts_show test ps) (part_passes n two.0 p two.1 both.0 cut.0) ∙ parts_pass two.0 c ps two.2 both.1 cut.1

-- what holds by number holds one after another
by_number : (test : ℕ → Bool) (n : ℕ) (bs : List Bool) → ((i : ℕ) → i < length bs → slice_index_or bs i false ≡ false → test (n + i) ≡ true) → Passes test n bs
by_number test n [] each = tt
by_number test n (b ∷ bs) each = (
  λ off. ap test (let same : n ≡ n + 0 = omega arith in same) ∙ each 0 (omega arith) off,
  by_number test (n + 1) bs (λ i lt off. ap test (let same : n + 1 + i ≡ n + suc i = omega arith in same) ∙ each (suc i) (omega (arith, lt)) off),
)

-- a fragment is drawn from the sites that a test lets in, where it lets in all but those of bindings
pub draws_by : (test : ℕ → Bool) (count : ℕ) (ps : Parts) → after_parts 0 ps ≡ Some count → is_done (steps ps) ≡ true → ((i : ℕ) → i < count → is_bound_site (steps ps) i ≡ false → test i ≡ true) → parts_show test ps ≡ true
draws_by test count ps numbered done each =
    parts_pass test 0 count ps numbered done
    (by_number test 0 (flat_map bound_flags (steps ps)) (λ i lt off. ap test (let same : 0 + i ≡ i = omega arith in same) ∙ each i (within_all i lt) off))
  where
    within_all : (i : ℕ) → i < length (flat_map bound_flags (steps ps)) → i < count
    within_all i lt =
        let flagged = flags_count (steps ps) in
        let sites = parts_count 0 ps done in
        let all = counted 0 0 count ps numbered in
        omega (arith, lt, flagged, sites, all)

below_within : (c k : ℕ) → k < c → is_within 0 c k ≡ true
below_within c k lt = grind (arith, nat_tests)

-- the sites that are none of a binding
abbrev pub is_drawn_site : Parts → ℕ → ℕ → Bool
is_drawn_site ps count j = is_within 0 count j && not (is_bound_site (steps ps) j)

pub sites_draw : (count : ℕ) (ps : Parts) → after_parts 0 ps ≡ Some count → is_done (steps ps) ≡ true → parts_show (is_drawn_site ps count) ps ≡ true
sites_draw count ps numbered done =
    draws_by (is_drawn_site ps count) count ps numbered done (λ i lt off. ap (λ (b : Bool). b && not (is_bound_site (steps ps) i)) (below_within count i lt) ∙ ap not off)

-- nothing is drawn from the sites of bindings, where of no other site there is such a note
pub unbound_draws : (serials : List ℕ) (bounds : Bounds) (count : ℕ) (ps : Parts) → after_parts 0 ps ≡ Some count → length serials ≡ count → is_done (steps ps) ≡ true
    → ((i n : ℕ) → slice_get serials i ≡ Some n → is_bound_site (steps ps) i ≡ false → bound_in_table n bounds ≡ None) → parts_show (is_unbound serials bounds) ps ≡ true
unbound_draws serials bounds count ps numbered many done none = draws_by (is_unbound serials bounds) count ps numbered done one
  where
    one : (i : ℕ) → i < count → is_bound_site (steps ps) i ≡ false → is_unbound serials bounds i ≡ true
    one i lt off =
        let n : ℕ = slice_index_or serials i 0 in
        let few : i < length serials = omega (arith, lt, many) in
        let unnoted : bound_in_table n bounds ≡ None = none i n (slice_get-get_or serials i 0 few) off in
        ap (λ (b : Bool). b && not (is_some (bound_in_table n bounds))) (below_within (length serials) i few) ∙ ap (λ (o : Option Bound). not (is_some o)) unnoted

by_room : (b : Bool) → ◌≡◌ {A = Result (Unit {0}) Fault} (if b then Err NodeLimit else Ok tt) (Ok tt) → b ≡ false
by_room true e = absurd (cc)
by_room false e = refl

pub room_for_nodes : (live : ℕ) (ps : Parts) → linked live ps ≡ Ok tt → live + nodes ps ≤ node_limit
room_for_nodes live ps e = let h : nat_lt node_limit (live + nodes ps) ≡ false = by_room (nat_lt node_limit (live + nodes ps)) e in grind (arith, nat_tests)
