-- Whether there is room for more sites, and what an element is where there is.
use Rattle.std.proofs.Common.{◌≡◌, ◌<◌, ◌≤◌, ◌+◌, ◌++◌, ◌∷◌, ℕ, cond, List, [], length, Option, Result, Ok, Err, ap, ◌∙◌, length-append, arith}
use Rattle.std.proofs.lemmas.Bool.{lt-ltb, le-ltb, lt-leb, le-leb}
use Rattle.std.specs.Prelude.{nat_lt}
use Rattle.ng_collect.specs.declared.pick.Pick.{Pick}
use Rattle.ng_drawing.specs.Template.{Site, Acts, PartClass, PartAttributes, Contents, Parts, Fragment}
use Rattle.ng_drawing.specs.Template as template
use Rattle.ng_drawing.specs.declared.kind.SiteKind.TheVariants as kinds
use Rattle.ng_interp.specs.Parts.{Piece}
use Rattle.ng_markup.specs.Forest.{Forest}
use Rattle.ng_elements.specs.Elements.{Made, fragment_made, content_number, with_content, in_place, apart_made}
use Rattle.ng_directives.specs.Directives.{Head, name_on, kind_for, set_by, class_by, bound_by, switch_by, with_parts, if_it_fits}
use Rattle.ng_directives.specs.Limits.{site_limit, worn}
use Rattle.ng_directives.specs.Manners.{target_of}
use Rattle.ng_directives.specs.Texts.{numbered, sites_in, counted}
use Rattle.ng_elements.specs.Using.{placed, one_more}
use Rattle.ng_directives.specs.declared.manners.Setting.{Setting}

pub no_room : {A E : Type 0} (x y : Result A E) (n : ℕ) → site_limit < n → cond (nat_lt site_limit n) x y ≡ x
no_room x y n l = ap (λ b. cond b x y) (lt-ltb site_limit n l)

pub room : {A E : Type 0} (x y : Result A E) (n : ℕ) → n ≤ site_limit → cond (nat_lt site_limit n) x y ≡ y
room x y n l = ap (λ b. cond b x y) (le-ltb site_limit n l)

-- an element with the parts of a directive more
module _ (p : Pick) (s : Setting) (ps : List Piece) (h : Head) where
  pub parts_full : site_limit < length h.sites + length (sites_in (kind_for s) ps) → if_it_fits p s ps h ≡ Err worn
  parts_full l = no_room (Err worn) (Ok (with_parts p s ps h)) (length h.sites + length (sites_in (kind_for s) ps)) l

  pub parts_placed : (n : ℕ) (pieces : List template.Piece) (attributes : PartAttributes) (class : PartClass) (bound switch : Option ℕ) (own : List ℕ) (acts : Acts) (sites : List Site) → n ≡ length h.sites → pieces ≡ numbered n ps
      → attributes ≡ h.attributes ++ set_by s (name_on p.attribute) (target_of p.directive) n pieces
      → class ≡ class_by s (name_on p.attribute) n pieces h.class
      → bound ≡ bound_by s n h.bound
      → switch ≡ switch_by s n h.switch
      → own ≡ h.own ++ counted n (sites_in (kind_for s) ps)
      → acts ≡ h.acts
      → sites ≡ h.sites ++ sites_in (kind_for s) ps
      → length h.sites + length (sites_in (kind_for s) ps) ≤ site_limit
      → if_it_fits p s ps h ≡ Ok (record { kind = h.kind; attributes = attributes; class = class; bound = bound; switch = switch; own = own; acts = acts; wrong = h.wrong; sites = sites })
  parts_placed n pieces attributes class bound switch own acts sites first named a c b w o does t fits =
      let same : with_parts p s ps h ≡ record { kind = h.kind; attributes = attributes; class = class; bound = bound; switch = switch; own = own; acts = acts; wrong = h.wrong; sites = sites } = (cc) in
      room (Err worn) (Ok (with_parts p s ps h)) (length h.sites + length (sites_in (kind_for s) ps)) fits ∙ ap Ok same

-- the sites of a binding
pub placed_full : (ps : List Piece) (sites : List Site) → site_limit < length sites + length (sites_in kinds.Text ps) → placed ps sites ≡ Err worn
placed_full ps sites l = no_room (Err worn) (Ok (numbered (length sites) ps, sites ++ sites_in kinds.Text ps)) (length sites + length (sites_in kinds.Text ps)) l

pub placed_fits : (ps : List Piece) (sites : List Site) (pieces : List template.Piece) (all : List Site) → pieces ≡ numbered (length sites) ps → all ≡ sites ++ sites_in kinds.Text ps → length sites + length (sites_in kinds.Text ps) ≤ site_limit
    → placed ps sites ≡ Ok (pieces, all)
placed_fits ps sites pieces all named end l =
    let same : (numbered (length sites) ps, sites ++ sites_in kinds.Text ps) ≡ (pieces, all) = (cc) in
    room (Err worn) (Ok (numbered (length sites) ps, sites ++ sites_in kinds.Text ps)) (length sites + length (sites_in kinds.Text ps)) l ∙ ap Ok same

pub one_full : (x : Site) (sites : List Site) (n : ℕ) → n ≡ length sites → site_limit ≤ n → one_more x sites ≡ Err worn
one_full x sites n e l = no_room (Err worn) (Ok (length sites, sites ++ x ∷ [])) (length sites + 1) (omega (arith, e, l))

pub one_fits : (x : Site) (sites : List Site) (n : ℕ) (all : List Site) → n ≡ length sites → n < site_limit → all ≡ sites ++ x ∷ [] → one_more x sites ≡ Ok (n, all)
one_fits x sites n all e l end =
    let fits : length sites + 1 ≤ site_limit = omega (arith, e, l) in
    let same : (length sites, sites ++ x ∷ []) ≡ (n, all) = (cc) in
    room (Err worn) (Ok (length sites, sites ++ x ∷ [])) (length sites + 1) fits ∙ ap Ok same

-- children that are a body of their own
module _ (kids : Forest) (h : Head) (m : Made) (r : Parts × Made) where
  abbrev all : List Fragment
  all = r.1.bodies ++ fragment_made r ∷ []

  pub apart_full : (n : ℕ) → n ≡ length r.1.bodies → site_limit ≤ n → apart_made kids h m r ≡ Err worn
  apart_full n e l =
      let size : length all ≡ length r.1.bodies + length (fragment_made r ∷ []) = length-append r.1.bodies (fragment_made r ∷ []) in
      ap (λ b. cond b (Ok (with_content (content_number kids all) h, in_place h.bound, record m { places = r.1.places; bodies = all })) (Err worn)) (lt-leb (length all) site_limit (omega (arith, size, e, l)))

  pub apart_given : (n : ℕ) → n ≡ length r.1.bodies → n < site_limit → (g : Head) (x : Contents) (k : Made) → g ≡ with_content (content_number kids all) h → x ≡ in_place h.bound → k ≡ record m { places = r.1.places; bodies = all }
      → apart_made kids h m r ≡ Ok (g, x, k)
  apart_given n e l g x k one two three =
      let size : length all ≡ length r.1.bodies + length (fragment_made r ∷ []) = length-append r.1.bodies (fragment_made r ∷ []) in
      let fits : length all ≤ site_limit = omega (arith, size, e, l) in
      let same : (with_content (content_number kids all) h, in_place h.bound, record m { places = r.1.places; bodies = all }) ≡ (g, x, k) = (cc) in
      ap (λ b. cond b (Ok (with_content (content_number kids all) h, in_place h.bound, record m { places = r.1.places; bodies = all })) (Err worn)) (le-leb (length all) site_limit fits) ∙ ap Ok same
