-- Steps of the loops that build nodes.
use Rattle.std.proofs.Common.{◌≡◌, ◌≤◌, ◌<◌, ◌+◌, ℕ, zero, suc, List, [], ◌∷◌, ◌++◌, Option, Some, None, refl, ap, ◌∙◌, sym, subst, map, take, drop, length, get_or, slice_get, nat_lt, Bor, arith, add-one, drop-cons}
use Rattle.std.specs.List.{AllByRecursion}
use Rattle.std.specs.Option.{IfSome}
use Rattle.std.specs.Prelude.{IsSome, is_some, option_map, slice_index_or, unwrap_or}
use Rattle.std.proofs.lemmas.Bool.Decides.{nat_tests}
use Rattle.std.proofs.lemmas.Option.{slice_get-map, slice_get-get_or, slice_get_past}
use Rattle.ng_base.specs.declared.name.NodeId.{NodeId}
use Rattle.ng_dom.specs.Document.{homes, next_name}
use Rattle.ng_dom.specs.Kept.{room_kept}
use Rattle.ng_dom.specs.Records.{node_at}
use Rattle.ng_dom.specs.declared.dom.Dom.{Dom}
use Rattle.ng_dom.specs.declared.record.Record.{Record}
use Rattle.ng_dom.proofs.Adding.{standing_below}
use Rattle.ng_drawing.specs.Nodes.{part_nodes, nodes}
use Rattle.ng_drawing.specs.Template.{Part, parts_from}
use Rattle.ng_build.specs.Building.{IsThere}
use Rattle.ng_build.proofs.Shapes.{nodes-append}

-- a list round one of its items
pub split_at : {X Y : Type 0} (seen : X → Y) (xs : List X) (i : ℕ) (x : X) → i < length xs → x ≡ get_or xs i x → map seen xs ≡ map seen (take i xs) ++ seen x ∷ map seen (drop (suc i) xs)
split_at seen [] i x lt e = absurd (omega (arith, lt))
split_at seen (y ∷ ys) zero x lt e = ap (λ z. seen z ∷ map seen ys) (sym e)
split_at seen (y ∷ ys) (suc i) x lt e = ap (λ zs. seen y ∷ zs) (split_at seen ys i x (omega (arith, lt)) e)

-- a node that is drawn from what it was is live still
live_still : (o n : Option Record) → option_map (λ (x : Record). x.home) n ≡ option_map (λ (x : Record). x.home) o → IsSome (option_map room_kept o) → IsSome (option_map room_kept n)
live_still None n e h = absurd (cc)
live_still (Some x) None e h = absurd (cc)
live_still (Some x) (Some y) e h = refl

pub there_still : (d e : Dom) (p : Option NodeId) → IsThere d p → ((q : ℕ) → q < next_name d → homes e q ≡ homes d q) → IsThere e p
there_still d e None h same = tt
there_still d e (Some p) h same = live_still (node_at d.nodes p.made.0) (node_at e.nodes p.made.0) (same p.made.0 (standing_below d.nodes d.next p.made.0 d.fresh h)) h

pub room_for : (ps : List Part) (q : Part) (qs : List Part) → nodes (parts_from ps) + part_nodes q ≤ nodes (parts_from (ps ++ q ∷ qs))
room_for ps q qs = omega (arith, nodes-append ps (q ∷ qs))

-- a part is smaller than all parts
pub part_within : {X : Type 0} (seen : X → Part) (xs : List X) (i : ℕ) (x : X) → i < length xs → x ≡ get_or xs i x → part_nodes (seen x) ≤ nodes (parts_from (map seen xs))
part_within seen [] i x lt e = absurd (omega (arith, lt))
part_within seen (y ∷ ys) zero x lt e = ap_le (ap (λ z. part_nodes (seen z)) e)
  where
    ap_le : part_nodes (seen x) ≡ part_nodes (seen y) → part_nodes (seen x) ≤ part_nodes (seen y) + nodes (parts_from (map seen ys))
    ap_le g = omega (arith, g)
part_within seen (y ∷ ys) (suc i) x lt e = let more = part_within seen ys i x (omega (arith, lt)) e in omega (arith, more)

-- one more of the same
pub next_same : {A : Type 0} (x : A) (ns : List ℕ) (i : ℕ) → i < length ns → map (λ (_ : ℕ). x) (drop i ns) ≡ x ∷ map (λ (_ : ℕ). x) (drop (i + 1) ns)
next_same x ns i lt = rw (add-one, drop-cons ns i 0) refl

-- one more that is seen, of those that are left
next_one : {X Y : Type 0} (seen : X → Y) (xs : List X) (i : ℕ) (x : X) → i < length xs → x ≡ get_or xs i x → map seen (drop i xs) ≡ seen x ∷ map seen (drop (suc i) xs)
next_one seen [] i x lt e = absurd (omega (arith, lt))
next_one seen (y ∷ ys) zero x lt e = ap (λ z. seen z ∷ map seen ys) (sym e)
next_one seen (y ∷ ys) (suc i) x lt e = next_one seen ys i x (omega (arith, lt)) e

pub next_seen : {X Y : Type 0} (seen : X → Y) (xs : List X) (i : ℕ) (x : X) → i < length xs → x ≡ get_or xs i x → map seen (drop i xs) ≡ seen x ∷ map seen (drop (i + 1) xs)
next_seen seen xs i x lt e = rw add-one (next_one seen xs i x lt e)

pub pushed : {X Y : Type 0} (seen : X → Y) (xs : List X) (x : X) (y : Y) (rest : List Y) → seen x ≡ y → map seen (xs ++ x ∷ []) ++ rest ≡ map seen xs ++ y ∷ rest
pushed seen [] x y rest e = ap (λ z. z ∷ rest) e
pushed seen (z ∷ zs) x y rest e = ap (λ ys. seen z ∷ ys) (pushed seen zs x y rest e)

-- what is seen of the item at a place
pub place_seen : {X Y : Type 0} (seen : X → Y) (xs : List X) (i : ℕ) (r : Option (Bor X)) → is_some r ≡ nat_lt i (length xs) → IfSome r (λ x. x.now ≡ get_or xs i x.now) → option_map (λ x. seen x.now) r ≡ slice_get (map seen xs) i
place_seen seen xs i None e h = sym (slice_get-map seen xs i ∙ ap (option_map seen) (slice_get_past xs i (grind (arith, nat_tests, e))))
place_seen seen xs i (Some x) e h = sym (slice_get-map seen xs i ∙ ap (option_map seen) (slice_get-get_or xs i x.now (grind (arith, nat_tests, e)) ∙ ap Some (sym h)))

-- the item at a place of what is seen, or what there is instead
index_none : {X Y : Type 0} (seen : X → Y) (xs : List X) (i : ℕ) (d : Y) → length xs ≤ i → d ≡ slice_index_or (map seen xs) i d
index_none seen [] i d past = refl
index_none seen (x ∷ xs) zero d past = absurd (omega (arith, past))
index_none seen (x ∷ xs) (suc i) d past = index_none seen xs i d (omega (arith, past))

index_some : {X Y : Type 0} (seen : X → Y) (xs : List X) (i : ℕ) (d : Y) (x : X) → i < length xs → x ≡ get_or xs i x → seen x ≡ slice_index_or (map seen xs) i d
index_some seen [] i d x lt e = absurd (omega (arith, lt))
index_some seen (y ∷ ys) zero d x lt e = ap seen e
index_some seen (y ∷ ys) (suc i) d x lt e = index_some seen ys i d x (omega (arith, lt)) e

pub index_seen : {X Y : Type 0} (seen : X → Y) (xs : List X) (i : ℕ) (d : Y) (r : Option (Bor X)) → is_some r ≡ nat_lt i (length xs) → IfSome r (λ x. x.now ≡ get_or xs i x.now) → unwrap_or (option_map (λ x. seen x.now) r) d ≡ slice_index_or (map seen xs) i d
index_seen seen xs i d None e h = index_none seen xs i d (grind (arith, nat_tests, e))
index_seen seen xs i d (Some x) e h = index_some seen xs i d x.now (grind (arith, nat_tests, e)) h

-- an item more of those that are left
next_plain : {X : Type 0} (xs : List X) (i : ℕ) (x : X) → i < length xs → x ≡ get_or xs i x → drop i xs ≡ x ∷ drop (suc i) xs
next_plain [] i x lt e = absurd (omega (arith, lt))
next_plain (y ∷ ys) zero x lt e = ap (λ z. z ∷ ys) (sym e)
next_plain (y ∷ ys) (suc i) x lt e = next_plain ys i x (omega (arith, lt)) e

pub next_item : {X : Type 0} (xs : List X) (i : ℕ) (x : X) → i < length xs → x ≡ get_or xs i x → drop i xs ≡ x ∷ drop (i + 1) xs
next_item xs i x lt e = rw add-one (next_plain xs i x lt e)

-- what is made of what is seen of an item more, and of none
next_made : {X Y Z : Type 0} (made : Y → Z) (seen : X → Y) (xs : List X) (i : ℕ) (x : X) → i < length xs → x ≡ get_or xs i x → map made (drop i (map seen xs)) ≡ made (seen x) ∷ map made (drop (suc i) (map seen xs))
next_made made seen [] i x lt e = absurd (omega (arith, lt))
next_made made seen (y ∷ ys) zero x lt e = ap (λ z. made (seen z) ∷ map made (map seen ys)) (sym e)
next_made made seen (y ∷ ys) (suc i) x lt e = next_made made seen ys i x (omega (arith, lt)) e

pub next_through : {X Y Z : Type 0} (made : Y → Z) (seen : X → Y) (xs : List X) (i : ℕ) (x : X) → i < length xs → x ≡ get_or xs i x → map made (drop i (map seen xs)) ≡ made (seen x) ∷ map made (drop (i + 1) (map seen xs))
next_through made seen xs i x lt e = rw add-one (next_made made seen xs i x lt e)

pub none_through : {X Y Z : Type 0} (made : Y → Z) (seen : X → Y) (xs : List X) (i : ℕ) → length xs ≤ i → map made (drop i (map seen xs)) ≡ []
none_through made seen [] zero past = refl
none_through made seen [] (suc i) past = refl
none_through made seen (x ∷ xs) zero past = absurd (omega (arith, past))
none_through made seen (x ∷ xs) (suc i) past = none_through made seen xs i (omega (arith, past))

-- what holds of all that is seen holds of an item
pub item_of_all : {X Y : Type 0} (P : Y → Type 0) (seen : X → Y) (xs : List X) (i : ℕ) (x : X) → AllByRecursion P (map seen xs) → i < length xs → x ≡ get_or xs i x → P (seen x)
item_of_all P seen [] i x all lt e = absurd (omega (arith, lt))
item_of_all P seen (y ∷ ys) zero x all lt e = subst (λ z. P (seen z)) (sym e) all.0
item_of_all P seen (y ∷ ys) (suc i) x all lt e = item_of_all P seen ys i x all.1 (omega (arith, lt)) e

-- an item that is there is the one, whatever there were instead
pub got_or : {X : Type 0} (xs : List X) (i : ℕ) (d : X) → i < length xs → get_or xs i d ≡ get_or xs i (get_or xs i d)
got_or [] i d lt = absurd (omega (arith, lt))
got_or (x ∷ xs) zero d lt = refl
got_or (x ∷ xs) (suc i) d lt = got_or xs i d (omega (arith, lt))

-- of what is seen an item more is left
drop_seen : {X Y : Type 0} (seen : X → Y) (xs : List X) (i : ℕ) (x : X) → i < length xs → x ≡ get_or xs i x → drop i (map seen xs) ≡ seen x ∷ drop (suc i) (map seen xs)
drop_seen seen [] i x lt e = absurd (omega (arith, lt))
drop_seen seen (y ∷ ys) zero x lt e = ap (λ z. seen z ∷ map seen ys) (sym e)
drop_seen seen (y ∷ ys) (suc i) x lt e = drop_seen seen ys i x (omega (arith, lt)) e

pub dropped : {X Y : Type 0} (seen : X → Y) (xs : List X) (i : ℕ) (x : X) → i < length xs → x ≡ get_or xs i x → drop i (map seen xs) ≡ seen x ∷ drop (i + 1) (map seen xs)
dropped seen xs i x lt e = rw add-one (drop_seen seen xs i x lt e)
