-- Parts whose numbers of sites come after others, one after another; and sites, one fragment's after another's.
use Rattle.std.proofs.Common.{◌≡◌, ◌<◌, ◌≤◌, ℕ, zero, suc, ◌+◌, List, [], ◌∷◌, map, drop, get_or, length, ap, sym, ◌∙◌, arith}
use Rattle.std.proofs.lemmas.List.{at_drop_more, drop_all}
use Rattle.ng_drawing.specs.Included.{later_part, later_parts}
use Rattle.ng_drawing.specs.Nodes.{part_nodes, nodes}
use Rattle.ng_drawing.specs.Template.{Part, Parts, part_then, parts_from, with_part}
use Rattle.ng_parts.specs.Seen.{part_of}
use Rattle.ng_parts.specs.declared.parts.Part as code
use Rattle.ng_parts.proofs.Joined.{joined, joined-none, joined-one}

-- a part of a list has no more nodes than the list
pub part_within : {X : Type 0} (seen : X → Part) (xs : List X) (i : ℕ) (x : X) → i < length xs → x ≡ get_or xs i x → part_nodes (seen x) ≤ nodes (parts_from (map seen xs))
part_within seen [] i x l is = absurd (omega (arith, l))
part_within seen (y ∷ ys) zero x l is = let e = ap (λ z. part_nodes (seen z)) is in omega (arith, e)
part_within seen (y ∷ ys) (suc i) x l is = let h = part_within seen ys i x (omega (arith, l)) is in omega (arith, h)

module _ (by : ℕ) (xs : List code.Part) (i : ℕ) where
  abbrev rest : List code.Part → Parts
  rest zs = later_parts by (parts_from (map part_of zs))

  -- a part more
  pub later-turn : (x : code.Part) (ps : Parts) (q : Part) → i < length xs → x ≡ get_or xs i x → q ≡ later_part by (part_of x) → joined (with_part ps q) (rest (drop (i + 1) xs)) ≡ joined ps (rest (drop i xs))
  later-turn x ps q l is same =
      joined-one ps q (rest (drop (i + 1) xs))
      ∙ (ap (λ (p : Part). joined ps (part_then p (rest (drop (i + 1) xs)))) (same ∙ ap (λ (y : code.Part). later_part by (part_of y)) is)
      ∙ sym (at_drop_more (λ zs. joined ps (rest zs)) xs i x l))

  pub later-end : (ps : Parts) → length xs ≤ i → joined ps (rest (drop i xs)) ≡ ps
  later-end ps l = ap (λ zs. joined ps (rest zs)) (drop_all i xs l) ∙ joined-none ps
