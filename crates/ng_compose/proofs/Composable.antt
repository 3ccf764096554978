-- What is known while parts are composed: of each site so far, whether something may be drawn from it; from those of outlets nothing may.
use Rattle.std.proofs.Common.{◌≡◌, ◌<◌, ◌≤◌, ◌+◌, ℕ, zero, suc, Bool, true, false, List, [], ◌∷◌, ◌++◌, length, Option, Some, refl, ap, sym, subst, ◌∙◌, length-append, arith, eqb-true}
use Rattle.std.proofs.lemmas.Bool.{and_parts, and_from, lt-ltb, ltb-true, eq-eqb, true≢false}
use Rattle.std.specs.List.{list_all}
use Rattle.std.specs.Prelude.{◌&&◌, ◌==◌, not, nat_lt, slice_index_or}
use Rattle.ng_drawing.specs.Template.{Filling, body_if, on_case, for_each, by_name, Site, SiteScopes, Outlet, Fragment}
use Rattle.ng_drawing.specs.Moved.{found_in}
use Rattle.ng_drawing.specs.Composing.{Region, Composed, ◌▸◌, with_site, site_on, sites_on}
use Rattle.ng_drawing.specs.Numbering.{after_own}
use Rattle.ng_compose.proofs.Movers.{had, got, own_rise, next_last, next_old, next_cases, next_size, Moved}
use Rattle.ng_parts.proofs.More.{all_more}

-- whether something may be drawn from a site: in a fragment from all but those of its outlets; among those so far
abbrev pub is_free : List Outlet → ℕ → Bool
is_free os k = list_all (λ (o : Outlet). not (o.site == k)) os

abbrev pub drawable : List Bool → ℕ → Bool
drawable ds k = slice_index_or ds k false

drawable_left : (ds : List Bool) (b : Bool) (m : ℕ) → m < length ds → drawable (ds ++ b ∷ []) m ≡ drawable ds m
drawable_left [] b m l = absurd (omega (arith, l))
drawable_left (d ∷ ds) b zero l = refl
drawable_left (d ∷ ds) b (suc m) l = drawable_left ds b m (omega (arith, l))

drawable_last : (ds : List Bool) (b : Bool) (m : ℕ) → m ≡ length ds → drawable (ds ++ b ∷ []) m ≡ b
drawable_last [] b zero e = refl
drawable_last [] b (suc m) e = absurd (omega (arith, e))
drawable_last (d ∷ ds) b zero e = absurd (omega (arith, e))
drawable_last (d ∷ ds) b (suc m) e = drawable_last ds b m (omega (arith, e))

pub drawable_below : (ds : List Bool) (m : ℕ) → drawable ds m ≡ true → m < length ds
drawable_below [] zero e = absurd (cc)
drawable_below [] (suc m) e = absurd (cc)
drawable_below (d ∷ ds) zero e = omega arith
drawable_below (d ∷ ds) (suc m) e = let h = drawable_below ds m e in omega (arith, h)

-- more sites, of which the first are those that were
pub record Extends (ds es : List Bool) : Type 0 where
  pub size : length ds ≤ length es
  pub same : (m : ℕ) → m < length ds → drawable es m ≡ drawable ds m

pub extends_self : (ds : List Bool) → Extends ds ds
extends_self ds = record { size = omega arith; same = λ m l. refl }

pub extends_then : {ds es fs : List Bool} → Extends ds es → Extends es fs → Extends ds fs
extends_then {ds} {es} {fs} a b =
    let up = a.size in
    let more = b.size in
    record { size = omega (arith, up, more); same = λ m l. b.same m (omega (arith, l, up)) ∙ a.same m l }

pub extends_draws : {ds es : List Bool} → Extends ds es → (k : ℕ) → drawable ds k ≡ true → drawable es k ≡ true
extends_draws {ds} {es} a k e = a.same k (drawable_below ds k e) ∙ e

extends_one : (ds : List Bool) (b : Bool) → Extends ds (ds ++ b ∷ [])
extends_one ds b = let e = length-append ds (b ∷ []) in record { size = omega (arith, e); same = λ m l. drawable_left ds b m l }

-- an outlet whose site is there, with nothing drawn from it, and whose body has a number
abbrev pub is_filled : Filling → Bool
is_filled (body_if b) = nat_lt 0 b
is_filled (on_case c b) = nat_lt 0 b
is_filled (for_each r b) = nat_lt 0 b
is_filled (by_name b) = nat_lt 0 b

abbrev pub is_sound : List Bool → Outlet → Bool
is_sound ds o = nat_lt o.site (length ds) && (not (drawable ds o.site) && is_filled o.filling)

pub record Well (ds : List Bool) (xs : List Site) (os : List Outlet) : Type 0 where
  pub size : length ds ≡ length xs
  pub outlets : list_all (is_sound ds) os ≡ true

pub sound_later : {ds es : List Bool} → Extends ds es → (o : Outlet) → is_sound ds o ≡ true → is_sound es o ≡ true
sound_later {ds} {es} a o e =
    let h = and_parts (nat_lt o.site (length ds)) (not (drawable ds o.site) && is_filled o.filling) e in
    let g = and_parts (not (drawable ds o.site)) (is_filled o.filling) h.1 in
    let l : o.site < length ds = ltb-true o.site (length ds) h.0 in
    let up = a.size in
    and_from (nat_lt o.site (length es)) (not (drawable es o.site) && is_filled o.filling) (lt-ltb o.site (length es) (omega (arith, l, up)))
    (and_from (not (drawable es o.site)) (is_filled o.filling) (ap not (a.same o.site l) ∙ g.0) g.1)

pub outlets_later : {ds es : List Bool} → Extends ds es → (os : List Outlet) → list_all (is_sound ds) os ≡ true → list_all (is_sound es) os ≡ true
outlets_later {ds} {es} a os e = all_more (is_sound ds) (is_sound es) (sound_later a) os e

-- what the sites of a fragment before n got: numbers of sites that are drawn as they are
pub record Known (f : Fragment) (n : ℕ) (ds : List Bool) (ns : List (Option ℕ)) : Type 0 where
  pub size : length ns ≤ n
  pub below : (j m : ℕ) → found_in ns j ≡ Some m → m < length ds
  pub drawn : (j m : ℕ) → found_in ns j ≡ Some m → drawable ds m ≡ is_free f.outlets j

pub known_later : {f : Fragment} {n : ℕ} {ds : List Bool} {ns : List (Option ℕ)} → Known f n ds ns → (k : ℕ) → n ≤ k → (es : List Bool) → Extends ds es → Known f k es ns
known_later {f} {n} {ds} {ns} h k l es a =
    let up = a.size in
    let size = h.size in
    record {
      size = omega (arith, size, l);
      below = λ j m e. let b = h.below j m e in omega (arith, b, up);
      drawn = λ j m e. a.same m (h.below j m e) ∙ h.drawn j m e;
    }

pub known_none : (f : Fragment) (n : ℕ) (ds : List Bool) → Known f n ds []
known_none f n ds = record { size = omega arith; below = λ j m e. absurd (nothing j m e); drawn = λ j m e. absurd (nothing j m e) }
  where
    nothing : (j m : ℕ) → found_in [] j ≡ Some m → ⊥
    nothing zero m e = absurd (cc)
    nothing (suc j) m e = absurd (cc)

-- sites of a fragment from n up to another, which come after those before
pub record Sited (f : Fragment) (n end : ℕ) (ds : List Bool) (c d : Composed) : Type 0 where
  pub after : List Bool
  pub extends : Extends ds after
  pub well : Well after d.sites d.outlets
  pub known : Known f end after d.moved
  pub ended : d.ended ≡ c.ended
  pub outlets : d.outlets ≡ c.outlets
  pub rise : n ≤ end
  pub count : length d.sites + n ≡ length c.sites + end
  pub old : (j m : ℕ) → found_in c.moved j ≡ Some m → found_in d.moved j ≡ Some m
  pub new : Moved n end (length c.sites) d.moved

-- a site more
module _ (f : Fragment) (m : SiteScopes) (x : Site) (n : ℕ) (ds : List Bool) (c : Composed) (well : Well ds c.sites c.outlets) (known : Known f n ds c.moved) where
  abbrev next : Composed
  next = with_site m n x c

  abbrev more : List Bool
  more = ds ++ is_free f.outlets n ∷ []

  one_size : length next.sites ≡ length c.sites + 1
  one_size = length-append c.sites (x ∷ [])

  more_size : length more ≡ length ds + 1
  more_size = length-append ds (is_free f.outlets n ∷ [])

  one_well : Well more next.sites next.outlets
  one_well =
      let a = one_size in
      let b = more_size in
      let s = well.size in
      record { size = omega (arith, a, b, s); outlets = outlets_later (extends_one ds (is_free f.outlets n)) c.outlets well.outlets }

  one_known : Known f (n + 1) more next.moved
  one_known =
      let s = well.size in
      let b = more_size in
      let l = next_size n c.moved (length c.sites) known.size in
      record {
        size = omega (arith, l);
        below = λ j k e. next_cases n c.moved (length c.sites) known.size j k (λ old. let h = known.below j k old in omega (arith, h, b)) (λ at is. omega (arith, is, s, b)) e;
        drawn = λ j k e.
            next_cases n c.moved (length c.sites) known.size j k (λ old. drawable_left ds (is_free f.outlets n) k (known.below j k old) ∙ known.drawn j k old)
            (λ at is. drawable_last ds (is_free f.outlets n) k (is ∙ sym s) ∙ ap (is_free f.outlets) (sym at)) e;
      }

  -- and those after it
  pub sited_more : (end : ℕ) (d : Composed) → Sited f (n + 1) end more next d → Sited f n end ds c d
  sited_more end d h =
      let a = one_size in
      let up = h.rise in
      let count = h.count in
      record {
        after = h.after;
        extends = extends_then (extends_one ds (is_free f.outlets n)) h.extends;
        well = h.well;
        known = h.known;
        ended = h.ended;
        outlets = h.outlets;
        rise = omega (arith, up);
        count = omega (arith, count, a);
        old = λ j k e. h.old j k (next_old n c.moved (length c.sites) known.size j k e);
        new = λ j k l u g. by j k l u g (j == n) refl;
      }
    where
      by : (j k : ℕ) → n ≤ j → j < end → k + n ≡ length c.sites + j → (b : Bool) → (j == n) ≡ b → found_in d.moved j ≡ Some k
      by j k l u g true e =
          let at : j ≡ n = eqb-true j n e in
          let is : length c.sites ≡ k = omega (arith, g, at) in
          ap (found_in d.moved) at ∙ (h.old n (length c.sites) (next_last n c.moved (length c.sites) known.size) ∙ ap Some is)
      by j k l u g false e =
          let off : j ≡ n → ⊥ = λ same. true≢false (sym (eq-eqb j n same) ∙ e) in
          let past : n + 1 ≤ j = by_cases j l off in
          let a = one_size in
          h.new j k past u (omega (arith, g, a))
        where
          by_cases : (i : ℕ) → n ≤ i → (i ≡ n → ⊥) → n + 1 ≤ i
          by_cases i low ne = omega (arith, low, ne)

-- how many scopes there are makes no difference
pub sited_again : (f : Fragment) (n end : ℕ) (ds : List Bool) (c d : Composed) (k : ℕ) → Sited f n end ds (record c { scopes = k }) d → Sited f n end ds c d
sited_again f n end ds c d k h = record {
  after = h.after;
  extends = h.extends;
  well = h.well;
  known = h.known;
  ended = h.ended;
  outlets = h.outlets;
  rise = h.rise;
  count = h.count;
  old = h.old;
  new = h.new;
}

sited_none : (f : Fragment) (n end : ℕ) (ds : List Bool) (c : Composed) → n ≡ end → Well ds c.sites c.outlets → Known f n ds c.moved → Sited f n end ds c c
sited_none f n end ds c e well known = record {
  after = ds;
  extends = extends_self ds;
  well = well;
  known = known_later known end (omega (arith, e)) ds (extends_self ds);
  ended = refl;
  outlets = refl;
  rise = omega (arith, e);
  count = omega (arith, e);
  old = λ j m h. h;
  new = λ j m l u g. absurd (omega (arith, l, u, e));
}

pub sites_sited : (r : Region) (m : SiteScopes) (own : List ℕ) (n end : ℕ) (ds : List Bool) (c : Composed) → after_own n own ≡ Some end → end ≤ length r.source.sites → Well ds c.sites c.outlets → Known r.source n ds c.moved
    → Sited r.source n end ds c (sites_on r m own c).1
sites_sited r m [] n end ds c e top well known = let same : n ≡ end = cc in sited_none r.source n end ds c same well known
sites_sited r m (k ∷ ks) n end ds c e top well known =
    let h = had (k == n) (after_own (n + 1) ks) end e in
    let at : k ≡ n = eqb-true k n h.0 in
    let rise = own_rise (n + 1) end ks h.1 in
    let g = got r.source.sites n (omega (arith, rise, top)) in
    let step : sites_on r m (k ∷ ks) c ≡ sites_on r m ks (with_site m n g.0 c)
    = ap (λ (j : ℕ). sites_on r m (j ∷ ks) c) at ∙ ap (λ (o : Option Site). (site_on m n o ▸ λ u. sites_on r m ks) c) g.1 in
    let others = sites_sited r m ks (n + 1) end (ds ++ is_free r.source.outlets n ∷ []) (with_site m n g.0 c) h.1 top (one_well r.source m g.0 n ds c well known) (one_known r.source m g.0 n ds c well known) in
    subst (λ (q : Unit {0} × Composed). Sited r.source n end ds c q.1) (sym step) (sited_more r.source m g.0 n ds c well known end (sites_on r m ks (with_site m n g.0 c)).1 others)
