-- An element in its blocks, as the code puts it there.
use Rattle.std.proofs.Common.{◌≡◌, ◌<◌, ◌≤◌, ◌+◌, ℕ, Bool, true, cond, List, [], ◌∷◌, ◌++◌, length, Ok, Err, Result, refl, ap, sym, ◌∙◌, length-append, arith}
use Rattle.std.proofs.lemmas.Bool.{and_parts, leb-true, ltb-true}
use Rattle.std.proofs.lemmas.List.{length-map, map-append}
use Rattle.std.specs.Prelude.{◌&&◌, nat_le, nat_lt}
use Rattle.ng_drawing.specs.Template.{Site, Outlet, Fragment, Part}
use Rattle.ng_template.specs.Around.{Block}
use Rattle.ng_template.specs.AroundOf.{block_of, blocks_of}
use Rattle.ng_elements.specs.Elements.{Made}
use Rattle.ng_template.specs.Compiles.{block_alone, nested, has_room, Outermost, outermost_made, bodies_with, wrapped}
use Rattle.ng_parts.specs.FragmentOf.{sites_of, outlet_of, outlets_of, fragment_of, fragments_of}
use Rattle.ng_directives.specs.Limits.{site_limit, worn}
use Rattle.ng_parts.specs.SiteOf.{site_of}
use Rattle.ng_template.specs.declared.around.Block as code_block
use Rattle.ng_directives.specs.declared.fault.TplFault.{TplFault}
use Rattle.ng_parts.specs.declared.fragment.Fragment as code_fragment
use Rattle.ng_parts.specs.declared.outlets.Outlet as code_outlet
use Rattle.ng_parts.specs.declared.site.Site as code_site
use Rattle.ng_template.proofs.Wholes.{length-nested, last-nested}
use Rattle.ng_elements.proofs.LastMade.{last_made}

-- how many bodies there are
pub all_count : (hs : List code_block.Block) (bodies : List code_fragment.Fragment) (f : Fragment) (b h : ℕ) → b ≡ length bodies → h ≡ length hs → length (nested (blocks_of hs) (fragments_of bodies ++ f ∷ [])) ≡ b + 1 + h
all_count hs bodies f b h e g =
    let all : length (nested (blocks_of hs) (fragments_of bodies ++ f ∷ [])) ≡ length (fragments_of bodies ++ f ∷ []) + length (blocks_of hs) = length-nested (blocks_of hs) (fragments_of bodies ++ f ∷ []) in
    let inner : length (fragments_of bodies ++ f ∷ []) ≡ length (fragments_of bodies) + length (f ∷ []) = length-append (fragments_of bodies) (f ∷ []) in
    let heads : length (blocks_of hs) ≡ length hs = length-map hs block_of in
    let before : length (fragments_of bodies) ≡ length bodies = length-map bodies fragment_of in
    omega (arith, all, inner, heads, before, e, g)

-- whether there is room
module _ (o : Outermost) (bs : List Block) (sites : List Site) (outlets : List Outlet) (r : Part × Made) where
  abbrev decided : Bool → Result (Part × Made) TplFault
  decided b = cond b (Ok (outermost_made o sites outlets r.1.places (bodies_with bs r))) (Err worn)

  pub wrapped_by : (b : Bool) → b ≡ has_room sites outlets (bodies_with bs r) → wrapped o bs sites outlets r ≡ decided b
  wrapped_by b e = ap decided (sym e)

  pub wrapped_in : true ≡ has_room sites outlets (bodies_with bs r) → (places : List ℕ) (all : List Fragment) (q : Part × Made) → places ≡ r.1.places → all ≡ bodies_with bs r → q ≡ outermost_made o sites outlets places all
      → wrapped o bs sites outlets r ≡ Ok q
  wrapped_in room places all q p b e =
      wrapped_by true room
      ∙ ap Ok (sym (e ∙ (ap (λ ps. outermost_made o sites outlets ps all) p ∙ ap (outermost_made o sites outlets r.1.places) b)))

module _ (sites : List Site) (outlets : List Outlet) (all : List Fragment) where
  room_parts : true ≡ has_room sites outlets all → (nat_lt (length sites) site_limit ≡ true) × ((nat_le (length outlets) site_limit && nat_le (length all) site_limit) ≡ true)
  room_parts e = and_parts (nat_lt (length sites) site_limit) (nat_le (length outlets) site_limit && nat_le (length all) site_limit) (sym e)

  pub sites_fit : true ≡ has_room sites outlets all → length sites < site_limit
  sites_fit e = ltb-true (length sites) site_limit (room_parts e).0

  pub outlets_fit : true ≡ has_room sites outlets all → length outlets ≤ site_limit
  outlets_fit e = leb-true (length outlets) site_limit (and_parts (nat_le (length outlets) site_limit) (nat_le (length all) site_limit) (room_parts e).1).0

  pub bodies_fit : true ≡ has_room sites outlets all → length all ≤ site_limit
  bodies_fit e = leb-true (length all) site_limit (and_parts (nat_le (length outlets) site_limit) (nat_le (length all) site_limit) (room_parts e).1).1

-- what the code knows of the room
module _ (hs : List code_block.Block) (sites : List code_site.Site) (outlets : List code_outlet.Outlet) (bodies : List code_fragment.Fragment) (f : Fragment) where
  abbrev pub all_made : List Fragment
  all_made = nested (blocks_of hs) (fragments_of bodies ++ f ∷ [])

  pub room_is : (seen_sites : List code_site.Site) (seen_outlets : List code_outlet.Outlet) (b h : ℕ) (r : Bool) → seen_sites ≡ sites → seen_outlets ≡ outlets → b ≡ length bodies → h ≡ length hs
      → ((all : List Fragment) → length all ≡ b + 1 + h → r ≡ has_room (sites_of seen_sites) (outlets_of seen_outlets) all) → r ≡ has_room (sites_of sites) (outlets_of outlets) all_made
  room_is seen_sites seen_outlets b h r same also e g told =
      told all_made (all_count hs bodies f b h e g) ∙ (ap (λ xs. has_room (sites_of xs) (outlets_of seen_outlets) all_made) same ∙ ap (λ xs. has_room (sites_of sites) (outlets_of xs) all_made) also)

  pub few_bodies : true ≡ has_room (sites_of sites) (outlets_of outlets) all_made → length bodies + 1 + length hs ≤ site_limit
  few_bodies e =
      let b : length all_made ≤ site_limit = bodies_fit (sites_of sites) (outlets_of outlets) all_made e in
      let count : length all_made ≡ length bodies + 1 + length hs = all_count hs bodies f (length bodies) (length hs) refl refl in
      omega (arith, b, count)

-- numbers that fit
module _ (sites : List code_site.Site) (outlets : List code_outlet.Outlet) (bodies : List code_fragment.Fragment) (e : has_room (sites_of sites) (outlets_of outlets) (fragments_of bodies) ≡ true) where
  pub few_sites : length sites < site_limit
  few_sites = let s = sites_fit (sites_of sites) (outlets_of outlets) (fragments_of bodies) (sym e) in omega (arith, s, length-map sites site_of)

  pub few_outlets : length outlets ≤ site_limit
  few_outlets = let o = outlets_fit (sites_of sites) (outlets_of outlets) (fragments_of bodies) (sym e) in omega (arith, o, length-map outlets outlet_of)

  pub few_made : length bodies ≤ site_limit
  few_made = let b = bodies_fit (sites_of sites) (outlets_of outlets) (fragments_of bodies) (sym e) in omega (arith, b, length-map bodies fragment_of)

-- one block more inside the others
pub nested-turn : (left others : List code_block.Block) (h : code_block.Block) (bodies all : List code_fragment.Fragment) (f : code_fragment.Fragment) → left ≡ others ++ h ∷ [] → all ≡ bodies ++ f ∷ []
    → fragment_of f ≡ block_alone (block_of h) (fragments_of bodies)
    → nested (blocks_of others) (fragments_of all) ≡ nested (blocks_of left) (fragments_of bodies)
nested-turn left others h bodies all f split more made =
    let heads : blocks_of left ≡ blocks_of others ++ block_of h ∷ [] = ap blocks_of split ∙ map-append block_of others (h ∷ []) in
    let grown : fragments_of all ≡ fragments_of bodies ++ block_alone (block_of h) (fragments_of bodies) ∷ [] = last_made bodies all f (block_alone (block_of h) (fragments_of bodies)) more made in
    ap (nested (blocks_of others)) grown ∙ (sym (last-nested (blocks_of others) (block_of h) (fragments_of bodies)) ∙ ap (λ hs. nested hs (fragments_of bodies)) (sym heads))
