-- The room of a short text: the bytes of the text, and 0 after them.
use Rattle.std.proofs.Common.{◌≡◌, ◌+◌, ◌-◌, ◌++◌, ℕ, List, length, take, drop, sym, ap, ◌∙◌, arith}
use Rattle.std.proofs.lemmas.List.{take-append-drop, drop-drop, length-take-le, drop-replicate}
use Rattle.std.specs.Prelude.{replicate}
use Rattle.ng_base.specs.Held.{short_bytes}
use Rattle.ng_base.specs.declared.short.ShortText.{ShortText}

-- texts with the same bytes are of the same length
pub same_len : (a b : ShortText) → length a.bytes ≡ 14 → length b.bytes ≡ 14 → short_bytes a ≡ short_bytes b → a.len ≡ b.len
same_len a b la lb e =
    omega (arith, a.fits, b.fits, length-take-le a.len a.bytes (omega (arith, a.fits)), length-take-le b.len b.bytes (omega (arith, b.fits)), ap length e)

-- and then their rooms are the same, since only 0 follows
pub same_room : (a b : ShortText) → a.len ≡ b.len → short_bytes a ≡ short_bytes b → a.bytes ≡ b.bytes
same_room a b n e =
    let f : drop a.len a.bytes ≡ drop b.len b.bytes = a.holds.rest ∙ (ap (λ (k : ℕ). replicate (14 - k) 0) n ∙ sym b.holds.rest) in
    sym (take-append-drop a.len a.bytes)
    ∙ (ap (λ (l : List ℕ). l ++ drop a.len a.bytes) e ∙ (ap (λ (l : List ℕ). short_bytes b ++ l) f ∙ take-append-drop b.len b.bytes))

-- the same rooms begin with the same text where the lengths are the same
pub same_text : (a b : ShortText) → a.len ≡ b.len → a.bytes ≡ b.bytes → short_bytes a ≡ short_bytes b
same_text a b n e = (λ i. take (n i) (e i))

-- a text that grows leaves 0 after it
pub left_over : (text : ShortText) (k : ℕ) → drop (text.len + k) text.bytes ≡ replicate (14 - (text.len + k)) 0
left_over text k =
    let e : 14 - text.len - k ≡ 14 - (text.len + k) = omega arith in
    rw (← drop-drop k text.len text.bytes, text.holds.rest, drop-replicate {X = ℕ} k (14 - text.len) 0, e)
