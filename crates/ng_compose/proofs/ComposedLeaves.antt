-- What stands alone among parts is composed: a text, an anchor, the scopes of an element, and the text that a site shows.
use Rattle.std.proofs.Common.{◌≡◌, ◌<◌, ◌≤◌, ◌+◌, ℕ, zero, suc, Bool, true, false, cond, List, [], ◌∷◌, ◌++◌, map, length, Option, None, Some, refl, ap, sym, ◌∙◌, length-append, arith, eqb-true}
use Rattle.std.proofs.lemmas.Bool.{and_parts, and_from, lt-ltb, true≢false, eq-eqb}
use Rattle.std.specs.List.{list_all, list_any}
use Rattle.std.specs.Prelude.{◌-◌, ◌&&◌, ◌||◌, ◌==◌, not, nat_le, nat_lt, is_some, option_and_then, slice_get, if◌then◌else◌}
use Rattle.ng_drawing.specs.Template.{Piece, PartAttributes, Acts, Scopes, Contents, Parts, text_part, anchor_part, children, bound, no_parts, part_then, Filling, body_if, on_case, for_each, by_name, SiteScopes, Outlet, Fragment}
use Rattle.ng_language.specs.Trees.{Trees}
use Rattle.ng_drawing.specs.Moved.{found_in, moved_by, moved_piece, moved_attributes}
use Rattle.ng_drawing.specs.Composing.{Region, Composed, Doing, ◌▸◌, gives, ends, sites_on, on, numbers, outlet_in, with_outlet, has_site, anchor_composed, text_composed, written_by, alone, scope_if, asks_child, asks_isolate, given_in, outside_in, bound_composed, scopes_composed, followed}
use Rattle.ng_drawing.specs.Numbering.{after_pieces, after_own, hole_numbers, bound_numbers, is_within, is_apart, is_piece_drawn, are_drawn, after_part, after_contents, after_parts, part_draws, contents_draw, parts_draw, outlets_of_part, after_outlets, outlets_of_contents, is_number, is_body, is_outlet, is_undrawn, are_outlets, are_undrawn, is_numbered, HasOrder}
use Rattle.ng_compose.proofs.Composable.{is_free, drawable, Extends, extends_self, extends_then, extends_draws, is_filled, is_sound, Well, Known, known_later, Sited, sites_sited, sited_again}
use Rattle.ng_parts.proofs.Within.{both_all, within_parts, within_from, apart_make}
use Rattle.ng_compose.proofs.Movers.{had, had_then, own_member, number_moved, own_moved, pieces_moved, pieces_within, holes_after}
use Rattle.ng_compose.proofs.Renumbered.{pieces_move, attributes_move, both, pieces_both, parts_both, parts_any}
use Rattle.ng_parts.proofs.More.{parts_more}

-- parts that come to these, after so many sites and outlets, and what was composed then
pub record Made (ds : List Bool) (count others : ℕ) (ps : Parts) (d : Composed) : Type 0 where
  pub after : List Bool
  pub extends : Extends ds after
  pub well : Well after d.sites d.outlets
  pub sites : after_parts count ps ≡ Some (length d.sites)
  pub outlets : after_outlets others ps ≡ Some (length d.outlets)
  pub draws : parts_draw (drawable after) ps ≡ true

-- those of a fragment, up to its site of a number
pub record Partly (f : Fragment) (end : ℕ) (ds : List Bool) (count others : ℕ) (ps : Parts) (d : Composed) : Type 0 where
  pub made : Made ds count others ps d
  pub known : d.ended ≡ false → Known f end made.after d.moved

-- the contents of an element with these attributes, whose own sites are those from n on
pub record Inside (f : Fragment) (n : ℕ) (ats : PartAttributes) (end : ℕ) (ds : List Bool) (count others : ℕ) (k : Contents) (d : Composed) : Type 0 where
  pub after : List Bool
  pub extends : Extends ds after
  pub well : Well after d.sites d.outlets
  pub sites : after_contents n count ats k ≡ Some (length d.sites)
  pub outlets : outlets_of_contents others k ≡ Some (length d.outlets)
  pub draws : contents_draw (drawable after) k ≡ true
  pub known : d.ended ≡ false → Known f end after d.moved

abbrev pub made_none : (ds : List Bool) (d : Composed) → Well ds d.sites d.outlets → Made ds (length d.sites) (length d.outlets) no_parts d
made_none ds d well = record { after = ds; extends = extends_self ds; well = well; sites = refl; outlets = refl; draws = refl }

-- nothing more was made, and all has ended
pub partly_ended : (f : Fragment) (end : ℕ) (ds : List Bool) (c : Composed) → Well ds c.sites c.outlets → Partly f end ds (length c.sites) (length c.outlets) no_parts (record c { ended = true })
partly_ended f end ds c well = record { made = made_none ds (record c { ended = true }) well; known = λ e. absurd (true≢false e) }

-- parts after others
pub followed_sites : (n k m : ℕ) (ps qs : Parts) → after_parts n ps ≡ Some k → after_parts k qs ≡ Some m → after_parts n (followed ps qs) ≡ Some m
followed_sites n k m no_parts qs e h = let same : n ≡ k = cc in ap (λ i. after_parts i qs) same ∙ h
followed_sites n k m (part_then p ps) qs e h =
    let t = had_then (after_part n p) (λ i. after_parts i ps) k e in
    ap (option_and_then (λ i. after_parts i (followed ps qs))) t.1 ∙ followed_sites t.0 k m ps qs t.2 h

pub followed_outlets : (n k m : ℕ) (ps qs : Parts) → after_outlets n ps ≡ Some k → after_outlets k qs ≡ Some m → after_outlets n (followed ps qs) ≡ Some m
followed_outlets n k m no_parts qs e h = let same : n ≡ k = cc in ap (λ i. after_outlets i qs) same ∙ h
followed_outlets n k m (part_then p ps) qs e h =
    let t = had_then (outlets_of_part n p) (λ i. after_outlets i ps) k e in
    ap (option_and_then (λ i. after_outlets i (followed ps qs))) t.1 ∙ followed_outlets t.0 k m ps qs t.2 h

pub followed_draws : (test : ℕ → Bool) (ps qs : Parts) → parts_draw test ps ≡ true → parts_draw test qs ≡ true → parts_draw test (followed ps qs) ≡ true
followed_draws test no_parts qs e h = h
followed_draws test (part_then p ps) qs e h =
    let t = and_parts (part_draws test p) (parts_draw test ps) e in
    and_from (part_draws test p) (parts_draw test (followed ps qs)) t.0 (followed_draws test ps qs t.1 h)

abbrev pub made_then : {ds : List Bool} {count others : ℕ} {d e : Composed} {ps qs : Parts} → (a : Made ds count others ps d) → Made a.after (length d.sites) (length d.outlets) qs e → Made ds count others (followed ps qs) e
made_then {ds} {count} {others} {d} {e} {ps} {qs} a b = record {
  after = b.after;
  extends = extends_then a.extends b.extends;
  well = b.well;
  sites = followed_sites count (length d.sites) (length e.sites) ps qs a.sites b.sites;
  outlets = followed_outlets others (length d.outlets) (length e.outlets) ps qs a.outlets b.outlets;
  draws = followed_draws (drawable b.after) ps qs (parts_more (drawable a.after) (drawable b.after) (extends_draws b.extends) ps a.draws) b.draws;
}

-- sites that were numbered anew are drawn as they are
module _ {f : Fragment} {n end : ℕ} {ds : List Bool} {c d : Composed} (h : Sited f n end ds c d) where
  abbrev to : ℕ → ℕ
  to = moved_by d.moved

  sited_to : (k : ℕ) → n ≤ k → k < end → to k ≡ length c.sites + (k - n)
  sited_to k l u = number_moved d.moved k (length c.sites + (k - n)) (h.new k (length c.sites + (k - n)) l u (omega (arith, l)))

  pub sited_drawn : (k : ℕ) → both (is_within n end) (is_free f.outlets) k ≡ true → drawable h.after (to k) ≡ true
  sited_drawn k e =
      let t = and_parts (is_within n end k) (is_free f.outlets k) e in
      let w = within_parts n end k t.0 in
      let l = w.0 in
      ap (drawable h.after) (sited_to k w.0 w.1) ∙ (h.known.drawn k (length c.sites + (k - n)) (h.new k (length c.sites + (k - n)) w.0 w.1 (omega (arith, l))) ∙ t.1)

  pub sited_within : (k : ℕ) → is_within n end k ≡ true → is_within (length c.sites) (length d.sites) (to k) ≡ true
  sited_within k e =
      let w = within_parts n end k e in
      let low = w.0 in
      let high = w.1 in
      let count = h.count in
      let at = sited_to k w.0 w.1 in
      within_from (length c.sites) (length d.sites) (to k) (omega (arith, at, low)) (omega (arith, at, low, high, count))

  pub sited_apart : (b k : ℕ) → is_within n end b ≡ true → is_apart b n end k ≡ true → is_apart (to b) (length c.sites) (length d.sites) (to k) ≡ true
  sited_apart b k v e =
      let t = and_parts (is_within n end k) (not (k == b)) e in
      let w = within_parts n end k t.0 in
      let x = within_parts n end b v in
      let low = w.0 in
      let least = x.0 in
      let at = sited_to k w.0 w.1 in
      let of = sited_to b x.0 x.1 in
      let g = within_parts (length c.sites) (length d.sites) (to k) (sited_within k t.0) in
      apart_make (length c.sites) (length d.sites) (to b) (to k) g.0 g.1
      (λ same. let is : (k == b) ≡ true = eq-eqb k b (omega (arith, at, of, same, low, least)) in let off : not (k == b) ≡ false = ap not is in true≢false (sym t.1 ∙ off))

-- a text
module _ (r : Region) (n end : ℕ) (ps : List Piece) (ds : List Bool) (c : Composed) where
  abbrev texted : Composed
  texted = (sites_on r (on r.scope) (hole_numbers ps) c).1

  text_by : after_pieces n ps ≡ Some end → list_all (is_piece_drawn (is_free r.source.outlets)) ps ≡ true → (d : Composed) → Sited r.source n end ds c d
      → Partly r.source end ds (length c.sites) (length c.outlets) (alone (text_part (map (moved_piece (moved_by d.moved)) ps))) d
  text_by e free d h = record {
    made = record {
      after = h.after;
      extends = h.extends;
      well = h.well;
      sites = ap (option_and_then (λ k. after_parts k no_parts)) (pieces_moved d.moved n end (length c.sites) (length d.sites) ps e h.count h.new);
      outlets = ap (λ (xs : List Outlet). Some (length xs)) (sym h.outlets);
      draws = and_from (list_all (is_piece_drawn (drawable h.after)) (map (moved_piece (moved_by d.moved)) ps)) true
          (pieces_move (moved_by d.moved) (both (is_within n end) (is_free r.source.outlets)) (drawable h.after) (sited_drawn h) ps
          (pieces_both (is_within n end) (is_free r.source.outlets) ps (pieces_within n n end ps (omega arith) e) free)) refl;
    };
    known = λ g. h.known;
  }

  pub text_partly : after_pieces n ps ≡ Some end → end ≤ length r.source.sites → list_all (is_piece_drawn (is_free r.source.outlets)) ps ≡ true → Well ds c.sites c.outlets → Known r.source n ds c.moved
      → Partly r.source end ds (length c.sites) (length c.outlets) (text_composed r ps c).0 (text_composed r ps c).1
  text_partly e top free well known = text_by e free texted (sites_sited r (on r.scope) (hole_numbers ps) n end ds c (holes_after n ps ∙ e) top well known)

-- an outlet whose site got a number
not_free : (os : List Outlet) (i : ℕ) (x : Outlet) → slice_get os i ≡ Some x → is_free os x.site ≡ false
not_free [] i x e = absurd (cc)
not_free (o ∷ os) zero x e =
    let same : o ≡ x = cc in
    ap (λ b. not b && is_free os x.site) (eq-eqb o.site x.site (ap (λ (y : Outlet). y.site) same))
not_free (o ∷ os) (suc i) x e = by (not (o.site == x.site)) (is_free os x.site) (not_free os i x e)
  where
    by : (a b : Bool) → b ≡ false → (a && b) ≡ false
    by true b h = h
    by false b h = refl

filled_by : (bodies : ℕ) (x : Filling) → is_body bodies x ≡ true → is_filled x ≡ true
filled_by bodies (body_if b) e = (and_parts (nat_lt 0 b) (nat_le b bodies) e).0
filled_by bodies (on_case k b) e = (and_parts (nat_lt 0 b) (nat_le b bodies) e).0
filled_by bodies (for_each r b) e = (and_parts (nat_lt 0 b) (nat_le b bodies) e).0
filled_by bodies (by_name b) e = (and_parts (nat_lt 0 b) (nat_le b bodies) e).0

let_in : {X : Type 0} (test : X → Bool) (xs : List X) (i : ℕ) (x : X) → list_all test xs ≡ true → slice_get xs i ≡ Some x → test x ≡ true
let_in test [] i x all at = absurd (cc)
let_in test (y ∷ ys) zero x all at = let same : y ≡ x = cc in ap test (sym same) ∙ (and_parts (test y) (list_all test ys) all).0
let_in test (y ∷ ys) (suc i) x all at = let_in test ys i x (and_parts (test y) (list_all test ys) all).1 at

-- what a whole fragment says of its outlets and sites
module _ (f : Fragment) (order : HasOrder f) where
  whole_counts : (is_numbered f ≡ true) × ((are_outlets order.0 f && are_undrawn f) ≡ true)
  whole_counts = and_parts (is_numbered f) (are_outlets order.0 f && are_undrawn f) order.1

  pub whole_sites : after_parts 0 f.parts ≡ Some (length f.sites)
  whole_sites = by (after_parts 0 f.parts) (and_parts (is_number (length f.sites) (after_parts 0 f.parts)) (is_number (length f.outlets) (after_outlets 0 f.parts)) whole_counts.0).0
    where
      by : (o : Option ℕ) → is_number (length f.sites) o ≡ true → o ≡ Some (length f.sites)
      by None e = absurd (cc)
      by (Some k) e = ap Some (eqb-true k (length f.sites) e)

  whole_rest : (are_outlets order.0 f ≡ true) × (are_undrawn f ≡ true)
  whole_rest = and_parts (are_outlets order.0 f) (are_undrawn f) whole_counts.1

  pub whole_filled : (i : ℕ) (x : Outlet) → slice_get f.outlets i ≡ Some x → is_filled x.filling ≡ true
  whole_filled i x at =
      let h = and_parts (nat_lt x.site (length f.sites)) (is_body order.0 x.filling) (let_in (is_outlet (length f.sites) order.0) f.outlets i x whole_rest.0 at) in
      filled_by order.0 x.filling h.1

  pub whole_free : parts_draw (is_free f.outlets) f.parts ≡ true
  whole_free = by f.outlets whole_rest.1
    where
      by : (os : List Outlet) → list_all (is_undrawn (length f.sites) f.parts) os ≡ true → parts_draw (is_free os) f.parts ≡ true
      by [] e = parts_any (is_free []) (λ k. refl) f.parts
      by (o ∷ os) e =
          let h = and_parts (is_undrawn (length f.sites) f.parts o) (list_all (is_undrawn (length f.sites) f.parts) os) e in
          let off : (k : ℕ) → is_apart o.site 0 (length f.sites) k ≡ true → not (o.site == k) ≡ true
          = λ k g. let t = and_parts (is_within 0 (length f.sites) k) (not (k == o.site)) g in not_same o.site k t.1 in
          parts_more (both (λ k. not (o.site == k)) (is_free os)) (is_free (o ∷ os)) (λ k g. g) f.parts
          (parts_both (λ k. not (o.site == k)) (is_free os) f.parts (parts_more (is_apart o.site 0 (length f.sites)) (λ k. not (o.site == k)) off f.parts h.0) (by os h.1))
        where
          not_same : (a k : ℕ) → not (k == a) ≡ true → not (a == k) ≡ true
          not_same a k e = by_test (a == k) refl
            where
              by_test : (b : Bool) → (a == k) ≡ b → not b ≡ true
              by_test false is = refl
              by_test true is = let same : a ≡ k = eqb-true a k is in let back : (k == a) ≡ true = eq-eqb k a (sym same) in sym (ap not back) ∙ e

-- an anchor
module _ (r : Region) (order : HasOrder r.source) (o n end : ℕ) (own : List ℕ) (starts : List Trees) (ds : List Bool) (c : Composed) (e : after_own n own ≡ Some end) where
  module _ (x : Outlet) (at : slice_get r.source.outlets o ≡ Some x) (there : has_site own c.moved (Some x) ≡ true) (d : Composed) (h : Sited r.source n end ds c d) where
    abbrev new : Outlet
    new = record x { site = moved_by d.moved x.site }

    abbrev Got : Type 0
    Got = (m : ℕ) × (found_in d.moved x.site ≡ Some m)

    before : (y : Option ℕ) → found_in c.moved x.site ≡ y → is_some y ≡ true → Got
    before None is g = absurd (cc)
    before (Some m) is g = (m, h.old x.site m is)

    found_by : (b : Bool) → list_any (λ k. k == x.site) own ≡ b → (b || is_some (found_in c.moved x.site)) ≡ true → Got
    found_by true is g =
        let w = own_member n end x.site own e is in
        let l = w.0 in
        (length c.sites + (x.site - n), h.new x.site (length c.sites + (x.site - n)) w.0 w.1 (omega (arith, l)))
    found_by false is g = before (found_in c.moved x.site) refl g

    found : Got
    found = found_by (list_any (λ k. k == x.site) own) refl there

    place : moved_by d.moved x.site ≡ found.0
    place = number_moved d.moved x.site found.0 found.1

    undrawn : drawable h.after (moved_by d.moved x.site) ≡ false
    undrawn = ap (drawable h.after) place ∙ (h.known.drawn x.site found.0 found.1 ∙ not_free r.source.outlets o x at)

    sound : is_sound h.after new ≡ true
    sound =
        let l = h.known.below x.site found.0 found.1 in
        let p = place in
        and_from (nat_lt (moved_by d.moved x.site) (length h.after)) (not (drawable h.after (moved_by d.moved x.site)) && is_filled x.filling)
        (lt-ltb (moved_by d.moved x.site) (length h.after) (omega (arith, p, l)))
        (and_from (not (drawable h.after (moved_by d.moved x.site))) (is_filled x.filling) (ap not undrawn) (whole_filled r.source order o x at))

    as_many : length d.outlets ≡ length c.outlets
    as_many = ap length h.outlets

    anchor_with : Partly r.source end ds (length c.sites) (length c.outlets) (alone (anchor_part (length d.outlets) (map (moved_by d.moved) own) starts)) (with_outlet r x d)
    anchor_with =
        let a = length-append d.outlets (new ∷ []) in
        let b = as_many in
        let more : length c.outlets + 1 ≡ length (d.outlets ++ new ∷ []) = omega (arith, a, b) in
        record {
          made = record {
            after = h.after;
            extends = h.extends;
            well = record { size = h.well.size; outlets = both_all (is_sound h.after) d.outlets (new ∷ []) h.well.outlets (and_from (is_sound h.after new) true sound refl) };
            sites = ap (option_and_then (λ k. after_parts k no_parts)) (own_moved d.moved n end (length c.sites) (length d.sites) own e h.count h.new);
            outlets = ap (λ t. option_and_then (λ k. after_outlets k no_parts) (cond t (Some (length c.outlets + 1)) None)) (eq-eqb (length d.outlets) (length c.outlets) as_many) ∙ ap Some more;
            draws = refl;
          };
          known = λ g. h.known;
        }

  abbrev with_own : Option Outlet → Doing Parts
  with_own x = sites_on r (on r.scope) own ▸ λ u. numbers ▸ λ f. outlet_in r x ▸ λ k. gives (alone (anchor_part k (map f own) starts))

  abbrev PartlyBy : Parts × Composed → Type 0
  PartlyBy q = Partly r.source end ds (length c.sites) (length c.outlets) q.0 q.1

  module _ (top : end ≤ length r.source.sites) (well : Well ds c.sites c.outlets) (known : Known r.source n ds c.moved) where
    anchor_by : (x : Option Outlet) → slice_get r.source.outlets o ≡ x → (b : Bool) → has_site own c.moved x ≡ b → PartlyBy (cond b (with_own x c) (ends no_parts c))
    anchor_by x at false is = partly_ended r.source end ds c well
    anchor_by None at true is = absurd (cc)
    anchor_by (Some x) at true is = anchor_with x at is (sites_on r (on r.scope) own c).1 (sites_sited r (on r.scope) own n end ds c e top well known)

    pub anchor_partly : PartlyBy (anchor_composed r o own starts c)
    anchor_partly = anchor_by (slice_get r.source.outlets o) refl (has_site own c.moved (slice_get r.source.outlets o)) refl

-- where a node more may be written or not
pub full_cases : {A : Type 0} (G : A × Composed → Type 0) (k : ℕ) (none : A) (go : Doing A) (c : Composed) → ((j : ℕ) → G (go (record c { nodes = j }))) → G (none, record c { ended = true })
    → G ((written_by k ▸ λ b. if b then go else gives none) c)
full_cases G zero none go c there full = full
full_cases G (suc j) none go c there full = there j

pub cond_cases : {A : Type 0} (G : A → Type 0) (b : Bool) (x y : A) → (b ≡ true → G x) → (b ≡ false → G y) → G (cond b x y)
cond_cases G true x y there other = there refl
cond_cases G false x y there other = other refl

-- the scopes of an element, and the sites of its directives' bindings
module _ (r : Region) (acts : Acts) (n end : ℕ) (ds : List Bool) (c : Composed) (e : after_own n (bound_numbers acts) ≡ Some end) (top : end ≤ length r.source.sites) (well : Well ds c.sites c.outlets) (known : Known r.source n ds c.moved) where
  abbrev on_scopes : ℕ → ℕ → SiteScopes
  on_scopes o i = record { under = i; over = o }

  abbrev scopes_go : Bool → Bool → Doing Scopes
  scopes_go a b =
      scope_if a r.scope ▸ λ o. scope_if b 0 ▸ λ i. sites_on r (record { under = i; over = o }) (bound_numbers acts) ▸ λ u.
      gives (record { outer = r.scope; own = o; isolate = i; slot = outside_in (given_in acts.slot r) r; deep = false })

  scopes_by : (a b : Bool) → Sited r.source n end ds c (scopes_go a b c).1
  scopes_by true true =
      let m = on_scopes c.scopes (c.scopes + 1) in
      let d : Composed = record c { scopes = c.scopes + 1 + 1 } in
      sited_again r.source n end ds c (sites_on r m (bound_numbers acts) d).1 (c.scopes + 1 + 1) (sites_sited r m (bound_numbers acts) n end ds d e top well known)
  scopes_by true false =
      let m = on_scopes c.scopes 0 in
      let d : Composed = record c { scopes = c.scopes + 1 } in
      sited_again r.source n end ds c (sites_on r m (bound_numbers acts) d).1 (c.scopes + 1) (sites_sited r m (bound_numbers acts) n end ds d e top well known)
  scopes_by false true =
      let m = on_scopes r.scope c.scopes in
      let d : Composed = record c { scopes = c.scopes + 1 } in
      sited_again r.source n end ds c (sites_on r m (bound_numbers acts) d).1 (c.scopes + 1) (sites_sited r m (bound_numbers acts) n end ds d e top well known)
  scopes_by false false = sites_sited r (on_scopes r.scope 0) (bound_numbers acts) n end ds c e top well known

  pub scopes_sited : Sited r.source n end ds c (scopes_composed r acts c).1
  scopes_sited = scopes_by (asks_child acts.uses) (asks_isolate acts.uses)

-- the text that a site shows
pub bound_inside : (r : Region) (b n k end : ℕ) (ats : PartAttributes) (ds : List Bool) (c d : Composed) (h : Sited r.source n k ds c d) → after_contents n k ats (bound b) ≡ Some end → is_free r.source.outlets b ≡ true
    → Inside r.source (length c.sites) (moved_attributes (moved_by d.moved) ats) end h.after (length d.sites) (length d.outlets) (bound_composed b d).0 (bound_composed b d).1
bound_inside r b n k end ats ds c d h e free =
    let t = had (is_within n k b && are_drawn (is_apart b n k) ats) (Some k) end e in
    let same : k ≡ end = let two : Some k ≡ Some end = t.1 in cc in
    let v = and_parts (is_within n k b) (are_drawn (is_apart b n k) ats) t.0 in
    let to : ℕ → ℕ = moved_by d.moved in
    let low : ℕ = length c.sites in
    let high : ℕ = length d.sites in
    let apart = attributes_move to (is_apart b n k) (is_apart (to b) low high) (λ j g. sited_apart h b j v.0 g) ats v.1 in
    let inside = attributes_move to (is_apart b n k) (is_within low high) (λ j g. sited_within h j (and_parts (is_within n k j) (not (j == b)) g).0) ats v.1 in
    full_cases (λ (q : Contents × Composed). Inside r.source low (moved_attributes to ats) end h.after high (length d.outlets) q.0 q.1) d.nodes (children no_parts) (numbers ▸ λ f. gives (bound (f b))) d
    (λ j. record {
      after = h.after;
      extends = extends_self h.after;
      well = h.well;
      sites = ap (λ x. cond x (Some high) None) (and_from (is_within low high (to b)) (are_drawn (is_apart (to b) low high) (moved_attributes to ats)) (sited_within h b v.0) apart);
      outlets = refl;
      draws = sited_drawn h b (and_from (is_within n k b) (is_free r.source.outlets b) v.0 free);
      known = λ g. known_later h.known end (omega (arith, same)) h.after (extends_self h.after);
    })
    (record {
      after = h.after;
      extends = extends_self h.after;
      well = h.well;
      sites = ap (λ x. cond x (Some high) None) inside;
      outlets = refl;
      draws = refl;
      known = λ g. absurd (true≢false g);
    })
