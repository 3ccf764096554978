-- Each open walk knows its next slot, whatever is done to the slots and the walks.
use Rattle.std.proofs.Common.{ℕ, zero, suc, ◌+◌, ◌<◌, ◌≤◌, ◌≡◌, List, [], ◌∷◌, ◌++◌, length, Option, Some, None, All, sym, ◌∙◌, arith, get_or, set, replicate, inl, inr, ◌⊎◌, get_or-set_other, get_or-set_same}
use Rattle.std.proofs.Math.ListN.{length-set, get_or-eq_default}
use Rattle.std.proofs.lemmas.List.{get_or-replicate, length-replicate}
use Rattle.std.proofs.lemmas.Bool.Decides.{eqb_tells}
use Rattle.ng_chain.specs.declared.chain.Span.{Span}
use Rattle.ng_chain.specs.declared.slots.Slot.{Slot}
use Rattle.ng_chain.specs.Walked.{walk_at}
use Rattle.ng_chain.specs.Slots.{serials, Ascends, EndsBy, KnowsNext, IsSound}
use Rattle.ng_chain.proofs.Places.{passed-next}
use Rattle.ng_chain.proofs.Edits.{ascends-push, ends-push, passed-push}

near : (a b : ℕ) → (a < b) ⊎ (b ≤ a)
near a b = grind arith

pub no_walk : (k : ℕ) → walk_at (replicate 64 None) k ≡ None
no_walk k = elim (near k 64) [ inl h ↦ get_or-replicate 64 k None None h | inr h ↦ get_or-eq_default (replicate 64 None) None {n = k} (rw length-replicate h) ]

pub sound-new : (ss : List ℕ) → ss ≡ [] → IsSound ss 0 (replicate 64 None) (replicate 64 0)
sound-new ss e = rw e (record {
  ascends = tt;
  ends = tt;
  places = length-replicate {A = Option Span} 64 None;
  as_many = length-replicate {A = ℕ} 64 0;
  knows = λ k. rw (no_walk k) tt;
})

pub sound-walk : (ss : List ℕ) (last : ℕ) (ws : List (Option Span)) (ns : List ℕ) (i n : ℕ) (w : Option Span) → IsSound ss last ws ns → i < 64 → KnowsNext ss last w n → IsSound ss last (set ws i w) (set ns i n)
sound-walk ss last ws ns i n w s h q = record {
  ascends = s.ascends;
  ends = s.ends;
  places = length-set ws i w ∙ s.places;
  as_many = length-set ns i n ∙ s.as_many;
  knows = λ k. elim (eqb_tells k i) [
    | inl t ↦ rw (t.1, get_or-set_same ws i w None (let e = s.places in omega arith), get_or-set_same ns i n 0 (let e = s.as_many in omega arith)) q
    | inr t ↦ rw (get_or-set_other ws i k w None t.1, get_or-set_other ns i k n 0 t.1) (s.knows k)
  ];
}

knows-push : (ss : List ℕ) (last : ℕ) (w : Option Span) (n : ℕ) → KnowsNext ss last w n → KnowsNext (ss ++ (last + 1) ∷ []) (last + 1) w n
knows-push ss last None n q = tt
knows-push ss last (Some w) n q = let l : w.place ≤ last = q.0 in (omega arith, q.1 ∙ sym (passed-push w.place (last + 1) ss (omega arith)))

pub sound-push : (ss : List ℕ) (last : ℕ) (ws : List (Option Span)) (ns : List ℕ) → IsSound ss last ws ns → IsSound (ss ++ (last + 1) ∷ []) (last + 1) ws ns
sound-push ss last ws ns s = record {
  ascends = ascends-push ss 0 last (last + 1) s.ascends s.ends (omega arith) (omega arith);
  ends = ends-push ss last (last + 1) s.ends (omega arith);
  places = s.places;
  as_many = s.as_many;
  knows = λ k. knows-push ss last (walk_at ws k) (get_or ns k 0) (s.knows k);
}

idle : (ws : List (Option Span)) (k : ℕ) → All (λ w. w ≡ None) ws → walk_at ws k ≡ None
idle ws k a = elim (near k (length ws)) [ inl h ↦ a k None h | inr h ↦ get_or-eq_default ws None {n = k} h ]

pub sound-idle : (ss ts : List ℕ) (last : ℕ) (ws : List (Option Span)) (ns : List ℕ) → IsSound ss last ws ns → All (λ w. w ≡ None) ws → Ascends 0 ts → EndsBy last ts → IsSound ts last ws ns
sound-idle ss ts last ws ns s a b e = record {
  ascends = b;
  ends = e;
  places = s.places;
  as_many = s.as_many;
  knows = λ k. rw (idle ws k a) tt;
}

ends-at : {T : Type 0} (xs : List (Slot T)) (i n : ℕ) (d : Slot T) → EndsBy n (serials xs) → i < length xs → (get_or xs i d).serial ≤ n
ends-at [] i n d e h = absurd (omega arith)
ends-at (x ∷ xs) zero n d e h = e.0
ends-at (x ∷ xs) (suc i) n d e h = ends-at xs i n d e.1 (omega arith)

-- a walk that stepped to a slot
pub knows-step : {T : Type 0} (xs : List (Slot T)) (i s e last : ℕ) (d : Slot T) → Ascends 0 (serials xs) → EndsBy last (serials xs) → i < length xs → s ≡ (get_or xs i d).serial → KnowsNext (serials xs) last (Some (record { place = s; end = e })) (i + 1)
knows-step xs i s e last d a n h q = (rw q (ends-at xs i last d n h), sym (passed-next xs 0 i s d a h q))
