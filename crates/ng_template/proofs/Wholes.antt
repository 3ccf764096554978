-- Fragments whose outlets have numbers of sites and bodies that are there, and from whose sites nothing is drawn.
use Rattle.std.proofs.Common.{◌≡◌, ◌<◌, ◌≤◌, ◌+◌, ℕ, true, List, [], ◌∷◌, ◌++◌, length, Some, refl, ap, length-append, arith}
use Rattle.std.proofs.lemmas.Bool.{and_parts, and_from, leb-true, le-leb, ltb-true, lt-ltb}
use Rattle.std.specs.List.{list_all}
use Rattle.std.specs.Prelude.{◌&&◌, nat_le, nat_lt, option_and_then}
use Rattle.ng_drawing.specs.Cases.{Case}
use Rattle.ng_drawing.specs.Template.{Site, Part, Parts, no_parts, part_then, Filling, body_if, on_case, for_each, by_name, Outlet, Fragment}
use Rattle.ng_template.specs.Around.{Block, block_if, block_for, block_named}
use Rattle.ng_elements.specs.Elements.{Made, fragment_made}
use Rattle.ng_template.specs.Compiles.{outlet_by, filling_in, block_alone, nested, bodies_with}
use Rattle.ng_drawing.specs.Numbering.{after_part, after_parts, outlets_of_part, after_outlets, is_body, is_outlet, are_outlets, are_undrawn, is_numbered, is_whole, is_bare}
use Rattle.ng_parts.proofs.Within.{both_all}
use Rattle.ng_template.proofs.Drawn.{one}
use Rattle.ng_parts.proofs.More.{all_more}
use Rattle.ng_parts.proofs.WholeFrom.{whole_from}

-- what there is among fewer is there among more
number_more : (c d b : ℕ) → c ≤ d → (nat_lt 0 b && nat_le b c) ≡ true → (nat_lt 0 b && nat_le b d) ≡ true
number_more c d b l e =
    let h = and_parts (nat_lt 0 b) (nat_le b c) e in
    let g : b ≤ c = leb-true b c h.1 in
    and_from (nat_lt 0 b) (nat_le b d) h.0 (le-leb b d (omega arith))

body_more : (c d : ℕ) → c ≤ d → (x : Filling) → is_body c x ≡ true → is_body d x ≡ true
body_more c d l (body_if b) e = number_more c d b l e
body_more c d l (on_case k b) e = number_more c d b l e
body_more c d l (for_each r b) e = number_more c d b l e
body_more c d l (by_name b) e = number_more c d b l e

module _ (s t c d : ℕ) (up : s ≤ t) (more : c ≤ d) where
  outlet_more : (o : Outlet) → is_outlet s c o ≡ true → is_outlet t d o ≡ true
  outlet_more o e =
      let h = and_parts (nat_lt o.site s) (is_body c o.filling) e in
      let g : o.site < s = ltb-true o.site s h.0 in
      and_from (nat_lt o.site t) (is_body d o.filling) (lt-ltb o.site t (omega arith)) (body_more c d more o.filling h.1)

  pub outlets_more : (os : List Outlet) → list_all (is_outlet s c) os ≡ true → list_all (is_outlet t d) os ≡ true
  outlets_more os e = all_more (is_outlet s c) (is_outlet t d) outlet_more os e

pub whole_more : (c d : ℕ) → c ≤ d → (f : Fragment) → is_whole c f ≡ true → is_whole d f ≡ true
whole_more c d l f e =
    let h = and_parts (is_numbered f) (are_outlets c f && are_undrawn f) e in
    let g = and_parts (are_outlets c f) (are_undrawn f) h.1 in
    let same : length f.sites ≤ length f.sites = omega arith in
    and_from (is_numbered f) (are_outlets d f && are_undrawn f) h.0 (and_from (are_outlets d f) (are_undrawn f) (outlets_more (length f.sites) (length f.sites) c d same l f.outlets g.0) g.1)

-- bodies of which each has outlets that bodies of theirs fill
abbrev pub AreWhole : List Fragment → Type 0
AreWhole bodies = (list_all (is_whole (length bodies)) bodies ≡ true) × (list_all is_bare bodies ≡ true)

pub one_more : (bodies : List Fragment) (f : Fragment) → AreWhole bodies → is_whole (length (bodies ++ f ∷ [])) f ≡ true → is_bare f ≡ true → AreWhole (bodies ++ f ∷ [])
one_more bodies f e h b =
    let n : ℕ = length (bodies ++ f ∷ []) in
    let size : n ≡ length bodies + length (f ∷ []) = length-append bodies (f ∷ []) in
    let l : length bodies ≤ n = omega (arith, size) in
    (both_all (is_whole n) bodies (f ∷ []) (all_more (is_whole (length bodies)) (is_whole n) (whole_more (length bodies) n l) bodies e.0) (one (is_whole n) f h), both_all is_bare bodies (f ∷ []) e.1 (one is_bare f b))

-- blocks that stand in one another
pub length-nested : (bs : List Block) (bodies : List Fragment) → length (nested bs bodies) ≡ length bodies + length bs
length-nested [] bodies = omega arith
length-nested (b ∷ bs) bodies =
    let inner : List Fragment = nested bs bodies in
    let before : length inner ≡ length bodies + length bs = length-nested bs bodies in
    let size : length (inner ++ block_alone b inner ∷ []) ≡ length inner + length (block_alone b inner ∷ []) = length-append inner (block_alone b inner ∷ []) in
    omega (arith, before, size)

pub last-nested : (bs : List Block) (b : Block) (bodies : List Fragment) → nested (bs ++ b ∷ []) bodies ≡ nested bs (bodies ++ block_alone b bodies ∷ [])
last-nested [] b bodies = refl
last-nested (x ∷ bs) b bodies = ap (λ (fs : List Fragment). fs ++ block_alone x fs ∷ []) (last-nested bs b bodies)

-- the body that was made last has a number
number_there : (n k : ℕ) → 0 < k → k ≤ n → (nat_lt 0 k && nat_le k n) ≡ true
number_there n k some few = and_from (nat_lt 0 k) (nat_le k n) (lt-ltb 0 k some) (le-leb k n few)

pub block_there : (b : Block) (n k : ℕ) → 0 < k → k ≤ n → is_body n (filling_in b k) ≡ true
block_there (block_if h) n k some few = number_there n k some few
block_there (block_for h r) n k some few = number_there n k some few
block_there (block_named h starts) n k some few = number_there n k some few

pub case_there : (c : Case) (n k : ℕ) → 0 < k → k ≤ n → is_body n (on_case c k) ≡ true
case_there c n k some few = number_there n k some few

-- the outlet of that body
pub outlet_there : (s n site : ℕ) (filling : ℕ → Filling) (bodies : List Fragment) → site < s → is_body n (filling (length bodies)) ≡ true → is_outlet s n (outlet_by site filling bodies) ≡ true
outlet_there s n site filling bodies l is = and_from (nat_lt site s) (is_body n (filling (length bodies))) (lt-ltb site s l) is

alone_whole : (b : Block) (bodies : List Fragment) (n : ℕ) → 0 < length bodies → length bodies ≤ n → is_whole n (block_alone b bodies) ≡ true
alone_whole b bodies n some few =
    whole_from n (block_alone b bodies) refl refl
    (one (is_outlet (length (block_alone b bodies).sites) n) (outlet_by 0 (filling_in b) bodies) (outlet_there (length (block_alone b bodies).sites) n 0 (filling_in b) bodies (omega arith) (block_there b n (length bodies) some few))) refl

pub nested_whole : (bs : List Block) (bodies : List Fragment) → 0 < length bodies → AreWhole bodies → AreWhole (nested bs bodies)
nested_whole [] bodies some e = e
nested_whole (b ∷ bs) bodies some e =
    let inner : List Fragment = nested bs bodies in
    let before : length inner ≡ length bodies + length bs = length-nested bs bodies in
    let size : length (inner ++ block_alone b inner ∷ []) ≡ length inner + length (block_alone b inner ∷ []) = length-append inner (block_alone b inner ∷ []) in
    one_more inner (block_alone b inner) (nested_whole bs bodies some e) (alone_whole b inner (length (inner ++ block_alone b inner ∷ [])) (omega (arith, before)) (omega (arith, size))) refl

-- what is being made: its outlets and bodies have numbers that are there
pub record Whole (m : Made) : Type 0 where
  pub outlets : list_all (is_outlet (length m.sites) (length m.bodies)) m.outlets ≡ true
  pub bodies : AreWhole m.bodies

pub more_sites : (m : Made) (places : List ℕ) (sites : List Site) → length m.sites ≤ length sites → Whole m → Whole (record m { places = places; sites = sites })
more_sites m places sites l w =
    let same : length m.bodies ≤ length m.bodies = omega arith in
    record { outlets = outlets_more (length m.sites) (length sites) (length m.bodies) (length m.bodies) l same m.outlets w.outlets; bodies = w.bodies }

pub other_places_left : (m : Made) (places : List ℕ) → Whole m → Whole (record m { places = places })
other_places_left m places w = record { outlets = w.outlets; bodies = w.bodies }

-- a body begins
pub begun_whole : (m : Made) → Whole m → Whole (record m { sites = []; outlets = [] })
begun_whole m w = record { outlets = refl; bodies = w.bodies }

-- a body that is made of children
body_whole : (ps : Parts) (n : Made) → after_parts 0 ps ≡ Some (length n.sites) → after_outlets 0 ps ≡ Some (length n.outlets) → are_undrawn (fragment_made (ps, n)) ≡ true → Whole n → AreWhole (n.bodies ++ fragment_made (ps, n) ∷ [])
body_whole ps n sites outlets undrawn w =
    let body : Fragment = fragment_made (ps, n) in
    let all : List Fragment = n.bodies ++ body ∷ [] in
    let size : length all ≡ length n.bodies + length (body ∷ []) = length-append n.bodies (body ∷ []) in
    let l : length n.bodies ≤ length all = omega (arith, size) in
    let same : length n.sites ≤ length n.sites = omega arith in
    one_more n.bodies body w.bodies (whole_from (length all) body sites outlets (outlets_more (length n.sites) (length n.sites) (length n.bodies) (length all) same l n.outlets w.outlets) undrawn) refl

pub body_added : (m : Made) (places : List ℕ) (ps : Parts) (n : Made) → length m.bodies ≤ length (n.bodies ++ fragment_made (ps, n) ∷ []) → after_parts 0 ps ≡ Some (length n.sites) → after_outlets 0 ps ≡ Some (length n.outlets)
    → are_undrawn (fragment_made (ps, n)) ≡ true → Whole m → Whole n → Whole (record m { places = places; bodies = n.bodies ++ fragment_made (ps, n) ∷ [] })
body_added m places ps n more sites outlets undrawn v w =
    let same : length m.sites ≤ length m.sites = omega arith in
    record {
      outlets = outlets_more (length m.sites) (length m.sites) (length m.bodies) (length (n.bodies ++ fragment_made (ps, n) ∷ [])) same more m.outlets v.outlets;
      bodies = body_whole ps n sites outlets undrawn w;
    }

-- a body that is made, and those of the blocks round it
module _ (bs : List Block) (p : Part) (n : Made) where
  abbrev pub made : Fragment
  made = fragment_made (part_then p no_parts, n)

  abbrev inner : List Fragment
  inner = n.bodies ++ made ∷ []

  abbrev pub all_bodies : List Fragment
  all_bodies = bodies_with bs (p, n)

  inner_size : length inner ≡ length n.bodies + length (made ∷ [])
  inner_size = length-append n.bodies (made ∷ [])

  pub bodies_grow : length n.bodies < length all_bodies
  bodies_grow = let size : length all_bodies ≡ length inner + length bs = length-nested bs inner in omega (arith, size, inner_size)

  inner_whole : after_part 0 p ≡ Some (length n.sites) → outlets_of_part 0 p ≡ Some (length n.outlets) → are_undrawn made ≡ true → Whole n → AreWhole inner
  inner_whole sites outlets undrawn w =
      let l : length n.bodies ≤ length inner = omega (arith, inner_size) in
      let same : length n.sites ≤ length n.sites = omega arith in
      one_more n.bodies made w.bodies
      (whole_from (length inner) made (ap (option_and_then (λ k. after_parts k no_parts)) sites) (ap (option_and_then (λ k. after_outlets k no_parts)) outlets)
      (outlets_more (length n.sites) (length n.sites) (length n.bodies) (length inner) same l n.outlets w.outlets) undrawn) refl

  pub all_whole : after_part 0 p ≡ Some (length n.sites) → outlets_of_part 0 p ≡ Some (length n.outlets) → are_undrawn made ≡ true → Whole n → AreWhole all_bodies
  all_whole sites outlets undrawn w = nested_whole bs inner (omega (arith, inner_size)) (inner_whole sites outlets undrawn w)

  -- the fragment round it has an outlet more, whose site is there
  module _ (m : Made) (sites : List Site) (site : ℕ) (filling : ℕ → Filling) where
    abbrev last : Outlet
    last = outlet_by site filling all_bodies

    pub wrapped_whole : length m.bodies ≤ length n.bodies → length m.sites ≤ length sites → site < length sites → is_body (length all_bodies) (filling (length all_bodies)) ≡ true → Whole m → AreWhole all_bodies
        → Whole (record { places = n.places; sites = sites; outlets = m.outlets ++ last ∷ []; bodies = all_bodies })
    wrapped_whole more least there is v w =
        let grown : length m.bodies ≤ length all_bodies = omega (arith, bodies_grow, more) in
        record {
          outlets = both_all (is_outlet (length sites) (length all_bodies)) m.outlets (last ∷ [])
              (outlets_more (length m.sites) (length sites) (length m.bodies) (length all_bodies) least grown m.outlets v.outlets)
              (one (is_outlet (length sites) (length all_bodies)) last (outlet_there (length sites) (length all_bodies) site filling all_bodies there is));
          bodies = w;
        }
