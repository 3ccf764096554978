-- Where the steps of a fragment are not cut, all are done, and its nodes find room.
use Rattle.std.proofs.Common.{◌≡◌, ◌≤◌, ◌<◌, ◌+◌, ◌-◌, ◌∙◌, ℕ, zero, suc, Bool, true, false, cond, List, [], ◌∷◌, ◌++◌, Option, Some, None, Result, Ok, Err, refl, ap, sym, map, append_assoc, arith}
use Rattle.std.specs.Option.{option_map_or}
use Rattle.std.specs.Prelude.{is_some, nat_lt}
use Rattle.std.proofs.lemmas.Bool.Decides.{nat_tests}
use Rattle.ng_base.specs.declared.fault.Fault.{Fault}
use Rattle.ng_base.specs.declared.fault.Fault.TheVariants.{NodeLimit}
use Rattle.ng_drawing.specs.Nodes.{part_nodes, content_nodes, nodes, node_limit}
use Rattle.ng_drawing.specs.Template.{Binding, Contents, Outside, Part, Parts, Piece, Scopes, Uses, word, hole, text_part, comment_part, element_part, anchor_part, children, bound, no_parts, part_then}
use Rattle.ng_language.specs.Trees.{Trees}
use Rattle.ng_build.specs.Linking.{LinkStep, Opening, makes, stops, opens, binds, installs, starts, starts_at, registers, leaves, a_child, an_isolate, a_slot, content_steps, entering_steps, fault_in, if_asked, leaving_steps, part_steps, piece_steps, scope_of, slot_steps, steps, steps_within, uses_entered, uses_left}
use Rattle.ng_build.specs.Shape.{linked}

pub all_within : (room : ℕ) (xs : List LinkStep) → fault_in room xs ≡ None → steps_within room xs ≡ xs
all_within zero [] e = refl
all_within (suc room) [] e = refl
all_within zero (makes ∷ xs) e = absurd (cc)
all_within (suc room) (makes ∷ xs) e = ap (λ (ys : List LinkStep). makes ∷ ys) (all_within room xs e)
all_within zero (stops ∷ xs) e = absurd (cc)
all_within (suc room) (stops ∷ xs) e = absurd (cc)
all_within zero (opens o ∷ xs) e = ap (λ (ys : List LinkStep). opens o ∷ ys) (all_within zero xs e)
all_within (suc room) (opens o ∷ xs) e = ap (λ (ys : List LinkStep). opens o ∷ ys) (all_within (suc room) xs e)
all_within zero (binds b i o ∷ xs) e = ap (λ (ys : List LinkStep). binds b i o ∷ ys) (all_within zero xs e)
all_within (suc room) (binds b i o ∷ xs) e = ap (λ (ys : List LinkStep). binds b i o ∷ ys) (all_within (suc room) xs e)
all_within zero (installs d s ∷ xs) e = ap (λ (ys : List LinkStep). installs d s ∷ ys) (all_within zero xs e)
all_within (suc room) (installs d s ∷ xs) e = ap (λ (ys : List LinkStep). installs d s ∷ ys) (all_within (suc room) xs e)
all_within zero (starts s p ∷ xs) e = ap (λ (ys : List LinkStep). starts s p ∷ ys) (all_within zero xs e)
all_within (suc room) (starts s p ∷ xs) e = ap (λ (ys : List LinkStep). starts s p ∷ ys) (all_within (suc room) xs e)
all_within zero (starts_at o p ∷ xs) e = ap (λ (ys : List LinkStep). starts_at o p ∷ ys) (all_within zero xs e)
all_within (suc room) (starts_at o p ∷ xs) e = ap (λ (ys : List LinkStep). starts_at o p ∷ ys) (all_within (suc room) xs e)
all_within zero (registers ∷ xs) e = ap (λ (ys : List LinkStep). registers ∷ ys) (all_within zero xs e)
all_within (suc room) (registers ∷ xs) e = ap (λ (ys : List LinkStep). registers ∷ ys) (all_within (suc room) xs e)
all_within zero (leaves d s ∷ xs) e = ap (λ (ys : List LinkStep). leaves d s ∷ ys) (all_within zero xs e)
all_within (suc room) (leaves d s ∷ xs) e = ap (λ (ys : List LinkStep). leaves d s ∷ ys) (all_within (suc room) xs e)

-- ---- steps that make no node

-- so many nodes were made, and the rest is not cut
abbrev Made : ℕ → ℕ → List LinkStep → Type 0
Made room n xs = (n ≤ room) × (fault_in (room - n) xs ≡ None)

-- a step that neither makes a node nor ends the linking
abbrev IsQuiet : LinkStep → Type 0
IsQuiet x = (room : ℕ) (xs : List LinkStep) → fault_in room (x ∷ xs) ≡ fault_in room xs

opens_quiet : (o : Opening) → IsQuiet (opens o)
opens_quiet o zero xs = refl
opens_quiet o (suc room) xs = refl

binds_quiet : (b : Binding) (i o : ℕ) → IsQuiet (binds b i o)
binds_quiet b i o zero xs = refl
binds_quiet b i o (suc room) xs = refl

installs_quiet : (d s : ℕ) → IsQuiet (installs d s)
installs_quiet d s zero xs = refl
installs_quiet d s (suc room) xs = refl

starts_quiet : (s : ℕ) (p : Trees) → IsQuiet (starts s p)
starts_quiet s p zero xs = refl
starts_quiet s p (suc room) xs = refl

starts_at_quiet : (o : ℕ) (p : Trees) → IsQuiet (starts_at o p)
starts_at_quiet o p zero xs = refl
starts_at_quiet o p (suc room) xs = refl

registers_quiet : IsQuiet registers
registers_quiet zero xs = refl
registers_quiet (suc room) xs = refl

leaves_quiet : (d s : ℕ) → IsQuiet (leaves d s)
leaves_quiet d s zero xs = refl
leaves_quiet d s (suc room) xs = refl

-- so with a list of such
abbrev AreQuiet : List LinkStep → Type 0
AreQuiet ys = (room : ℕ) (xs : List LinkStep) → fault_in room (ys ++ xs) ≡ fault_in room xs

quiet_map : {A : Type 0} (f : A → LinkStep) → ((a : A) → IsQuiet (f a)) → (xs : List A) → AreQuiet (map f xs)
quiet_map f quiet [] room ys = refl
quiet_map f quiet (a ∷ xs) room ys = quiet a room (map f xs ++ ys) ∙ quiet_map f quiet xs room ys

quiet_both : (ys zs : List LinkStep) → AreQuiet ys → AreQuiet zs → AreQuiet (ys ++ zs)
quiet_both ys zs h k room xs = ap (fault_in room) (append_assoc ys zs xs) ∙ (h room (zs ++ xs) ∙ k room xs)

quiet_pieces : (ps : List Piece) → AreQuiet (piece_steps ps)
quiet_pieces [] room xs = refl
quiet_pieces (word w ∷ ps) room xs = quiet_pieces ps room xs
quiet_pieces (hole n ∷ ps) room xs = registers_quiet room (piece_steps ps ++ xs) ∙ quiet_pieces ps room xs

quiet_asked : (b : Bool) (o : Opening) → AreQuiet (if_asked b o)
quiet_asked true o room xs = opens_quiet o room xs
quiet_asked false o room xs = refl

quiet_uses : (s : Scopes) (u : Uses) → AreQuiet (uses_entered s u)
quiet_uses s u =
    quiet_both (if_asked u.child (a_child s.outer)) _ (quiet_asked u.child (a_child s.outer))
    (quiet_both (if_asked (is_some u.isolate) (an_isolate s.own)) _ (quiet_asked (is_some u.isolate) (an_isolate s.own))
    (quiet_both (map (λ (b : Binding). binds b s.isolate s.own) u.bindings) (map (λ (d : ℕ). installs d (scope_of u s d)) u.directives)
    (quiet_map (λ (b : Binding). binds b s.isolate s.own) (λ b. binds_quiet b s.isolate s.own) u.bindings)
    (quiet_map (λ (d : ℕ). installs d (scope_of u s d)) (λ d. installs_quiet d (scope_of u s d)) u.directives)))

quiet_entering : (s : Scopes) (o : Option Uses) → AreQuiet (option_map_or (uses_entered s) o [])
quiet_entering s None room xs = refl
quiet_entering s (Some u) room xs = quiet_uses s u room xs

quiet_leaving : (s : Scopes) (o : Option Uses) → AreQuiet (option_map_or (uses_left s) o [])
quiet_leaving s None room xs = refl
quiet_leaving s (Some u) room xs = quiet_map (λ (d : ℕ). leaves d (scope_of u s d)) (λ d. leaves_quiet d (scope_of u s d)) u.directives room xs

quiet_slot : (s : Scopes) (o : Option Outside) → AreQuiet (option_map_or (λ (x : Outside). opens (a_slot s.own x) ∷ []) o [])
quiet_slot s None room xs = refl
quiet_slot s (Some x) room xs = opens_quiet (a_slot s.own x) room xs

-- ---- a node is made

one_made : (room : ℕ) (xs : List LinkStep) → fault_in room (makes ∷ xs) ≡ None → Made room 1 xs
one_made zero xs e = absurd (cc)
one_made (suc room) xs e = (omega arith, ap (λ (n : ℕ). fault_in n xs) (let one : suc room - 1 ≡ room = omega arith in one) ∙ e)

then_made : (room m n : ℕ) (xs ys : List LinkStep) → Made room m xs → (fault_in (room - m) xs ≡ None → Made (room - m) n ys) → Made room (m + n) ys
then_made room m n xs ys h go =
    let le = h.0 in
    let more = go h.1 in
    let few = more.0 in
    (omega (arith, le, few), ap (λ (k : ℕ). fault_in k ys) (let same : room - (m + n) ≡ room - m - n = omega arith in same) ∙ more.1)

quiet_made : (room : ℕ) (ys xs : List LinkStep) → AreQuiet ys → fault_in room (ys ++ xs) ≡ None → fault_in room xs ≡ None
quiet_made room ys xs quiet e = sym (quiet room xs) ∙ e

mutual
  part_made : (p : Part) (room : ℕ) (xs : List LinkStep) → fault_in room (part_steps p ++ xs) ≡ None → Made room (part_nodes p) xs
  part_made (text_part ps) room xs e =
      let one = one_made room (piece_steps ps ++ xs) e in
      (one.0, quiet_made (room - 1) (piece_steps ps) xs (quiet_pieces ps) one.1)
  part_made (comment_part t) room xs e = one_made room xs e
  part_made (anchor_part outlet own programs) room xs e =
      let one = one_made room ((map (starts_at outlet) programs ++ map (λ n. registers) own) ++ xs) e in (
        one.0,
        quiet_made (room - 1) (map (starts_at outlet) programs ++ map (λ n. registers) own) xs
            (quiet_both (map (starts_at outlet) programs) (map (λ n. registers) own) (quiet_map (starts_at outlet) (starts_at_quiet outlet) programs) (quiet_map (λ (n : ℕ). registers) (λ n. registers_quiet) own)) one.1,
      )
  part_made (element_part name own acts ats c) room xs e = by acts.scopes.deep e (λ k. content_made c (room - 1) (leaving_steps acts ++ xs) k)
    where
      before : List LinkStep
      before = entering_steps acts

      begins : List LinkStep
      begins = map (starts acts.scopes.own) acts.starts

      sites : List LinkStep
      sites = map (λ (n : ℕ). registers) own

      slot : List LinkStep
      slot = slot_steps acts.scopes

      inside : List LinkStep
      inside = content_steps c

      after : List LinkStep
      after = leaving_steps acts

      whole : List LinkStep
      whole = before ++ (begins ++ (sites ++ (slot ++ (inside ++ after))))

      gathered : whole ++ xs ≡ before ++ (begins ++ (sites ++ (slot ++ (inside ++ (after ++ xs)))))
      gathered =
          append_assoc before (begins ++ (sites ++ (slot ++ (inside ++ after)))) xs
          ∙ ap (λ (ys : List LinkStep). before ++ ys) (append_assoc begins (sites ++ (slot ++ (inside ++ after))) xs
          ∙ ap (λ (ys : List LinkStep). begins ++ ys) (append_assoc sites (slot ++ (inside ++ after)) xs
          ∙ ap (λ (ys : List LinkStep). sites ++ ys) (append_assoc slot (inside ++ after) xs
          ∙ ap (λ (ys : List LinkStep). slot ++ ys) (append_assoc inside after xs))))

      entered : (n : ℕ) → fault_in n (whole ++ xs) ≡ None → fault_in n (inside ++ (after ++ xs)) ≡ None
      entered n h =
          quiet_made n slot (inside ++ (after ++ xs)) (quiet_slot acts.scopes acts.scopes.slot)
          (quiet_made n sites (slot ++ (inside ++ (after ++ xs))) (quiet_map (λ (k : ℕ). registers) (λ k. registers_quiet) own)
          (quiet_made n begins (sites ++ (slot ++ (inside ++ (after ++ xs)))) (quiet_map (starts acts.scopes.own) (starts_quiet acts.scopes.own) acts.starts)
          (quiet_made n before (begins ++ (sites ++ (slot ++ (inside ++ (after ++ xs))))) (quiet_entering acts.scopes acts.uses)
          (ap (fault_in n) (sym gathered) ∙ h))))

      ended : (n : ℕ) → Made n (content_nodes c) (after ++ xs) → Made n (content_nodes c) xs
      ended n h = (h.0, quiet_made (n - content_nodes c) after xs (quiet_leaving acts.scopes acts.uses) h.1)

      stopped : (n : ℕ) → fault_in n (stops ∷ xs) ≡ None → ⊥
      stopped zero h = cc
      stopped (suc n) h = cc

      by : (b : Bool) → fault_in room (cond b (stops ∷ []) (makes ∷ whole) ++ xs) ≡ None → (fault_in (room - 1) (inside ++ (after ++ xs)) ≡ None → Made (room - 1) (content_nodes c) (after ++ xs)) → Made room (1 + content_nodes c) xs
      by true h rest = absurd (stopped room h)
      by false h rest = then_made room 1 (content_nodes c) (whole ++ xs) xs (one_made room (whole ++ xs) h) (λ k. ended (room - 1) (rest (entered (room - 1) k)))

  content_made : (c : Contents) (room : ℕ) (xs : List LinkStep) → fault_in room (content_steps c ++ xs) ≡ None → Made room (content_nodes c) xs
  content_made (children ps) room xs e = parts_made ps room xs e
  content_made (bound n) room xs e = one_made room xs e

  parts_made : (ps : Parts) (room : ℕ) (xs : List LinkStep) → fault_in room (steps ps ++ xs) ≡ None → Made room (nodes ps) xs
  parts_made no_parts room xs e = (omega arith, ap (λ (n : ℕ). fault_in n xs) (let same : room - 0 ≡ room = omega arith in same) ∙ e)
  parts_made (part_then p ps) room xs e =
      then_made room (part_nodes p) (nodes ps) (steps ps ++ xs) xs
      (part_made p room (steps ps ++ xs) (ap (fault_in room) (sym (append_assoc (part_steps p) (steps ps) xs)) ∙ e)) (λ k. parts_made ps (room - part_nodes p) xs k)

append_end : (xs : List LinkStep) → xs ++ [] ≡ xs
append_end [] = refl
append_end (x ∷ xs) = ap (λ (ys : List LinkStep). x ∷ ys) (append_end xs)

pub room_found : (ps : Parts) (live : ℕ) → live ≤ node_limit → fault_in (node_limit - live) (steps ps) ≡ None → linked live ps ≡ Ok tt
room_found ps live few e = by (nat_lt node_limit (live + nodes ps)) refl
  where
    le : nodes ps ≤ node_limit - live
    le = (parts_made ps (node_limit - live) [] (ap (fault_in (node_limit - live)) (append_end (steps ps)) ∙ e)).0

    past : (n : ℕ) → nat_lt node_limit (live + n) ≡ true → node_limit < live + n
    past n h = grind (arith, nat_tests)

    by : (b : Bool) → nat_lt node_limit (live + nodes ps) ≡ b → (let r : Result (Unit {0}) Fault = cond b (Err NodeLimit) (Ok tt) in r ≡ Ok tt)
    by true h = absurd (let lt = past (nodes ps) h in omega (arith, lt, le, few))
    by false h = refl
