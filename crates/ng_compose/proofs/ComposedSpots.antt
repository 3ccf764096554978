-- Each outlet of a composed fragment has its body in the home that is said of it.
use Rattle.std.proofs.Common.{◌≡◌, ℕ, zero, suc, Bool, true, false, cond, List, [], ◌∷◌, ◌++◌, ◌+◌, Option, None, Some, refl, subst}
use Rattle.std.specs.List.{AllByRecursion}
use Rattle.std.specs.Prelude.{nat_lt, slice_get, if◌then◌else◌}
use Rattle.ng_base.specs.declared.name.TplId.{TplId}
use Rattle.ng_drawing.specs.Template.{PartAttributes, Uses, Outside, Acts, no_acts, Scopes, Part, Contents, Parts, text_part, comment_part, element_part, anchor_part, children, bound, no_parts, part_then, Filling, Site, SiteScopes, Outlet, OutletScope, Fragment}
use Rattle.ng_drawing.specs.declared.origin.Content.{Content}
use Rattle.ng_drawing.specs.declared.origin.Home.{Home}
use Rattle.ng_drawing.specs.Moved.{moved_by}
use Rattle.ng_drawing.specs.Composing.{Region, Composed, Doing, ◌▸◌, gives, ends, with_site, site_on, sites_on, on, outlet_in, has_site, anchor_there, anchor_composed, text_composed, written_by, writes, alone, scope_if, asks_child, asks_isolate, directive_count, region_in, content_region, template_region, given_in, outside_in, deep_part, numbers, scopes_for, scopes_composed, followed, entered, given_composed, template_in, used_by, element_composed, part_composed, contents_composed, parts_composed, composed_in, fuel_for, region_of, nothing_composed, fragment_by, is_directed, composed}
use Rattle.ng_drawing.specs.Numbering.{hole_numbers, bound_numbers}

-- each outlet with where it stands
abbrev pub ArePaired : (TplId → Filling → Type 0) → List Outlet → List OutletScope → Type 0
ArePaired P [] [] = Unit {0}
ArePaired P [] (s ∷ ss) = ⊥
ArePaired P (x ∷ xs) [] = ⊥
ArePaired P (x ∷ xs) (s ∷ ss) = P s.home.template x.filling × ArePaired P xs ss

module _ (P : TplId → Filling → Type 0) where
  abbrev pub Filled : TplId → Fragment → Type 0
  Filled t f = AllByRecursion (λ (x : Outlet). P t x.filling) f.outlets

  abbrev Paired : Composed → Type 0
  Paired c = ArePaired P c.outlets c.spots

  paired_more : (xs : List Outlet) (ss : List OutletScope) (x : Outlet) (s : OutletScope) → ArePaired P xs ss → P s.home.template x.filling → ArePaired P (xs ++ x ∷ []) (ss ++ s ∷ [])
  paired_more [] [] x s h p = (p, tt)
  paired_more [] (t ∷ ss) x s h p = absurd h
  paired_more (y ∷ xs) [] x s h p = absurd h
  paired_more (y ∷ xs) (t ∷ ss) x s h p = (h.0, paired_more xs ss x s h.1 p)

  filled_at : (t : TplId) (xs : List Outlet) (i : ℕ) (x : Outlet) → AllByRecursion (λ (y : Outlet). P t y.filling) xs → slice_get xs i ≡ Some x → P t x.filling
  filled_at t [] i x h e = absurd (cc)
  filled_at t (y ∷ ys) zero x h e = let same : y ≡ x = cc in subst (λ (z : Outlet). P t z.filling) same h.0
  filled_at t (y ∷ ys) (suc i) x h e = filled_at t ys i x h.1 e

  -- sites change no outlet
  site_then : (m : SiteScopes) (n : ℕ) (o : Option Site) (go : Doing (Unit {0})) (c : Composed) → ((d : Composed) → Paired d → Paired (go d).1) → Paired c → Paired ((site_on m n o ▸ λ u. go) c).1
  site_then m n None go c more h = more (record c { ended = true }) h
  site_then m n (Some x) go c more h = more (with_site m n x c) h

  sites_paired : (r : Region) (m : SiteScopes) (ns : List ℕ) (c : Composed) → Paired c → Paired (sites_on r m ns c).1
  sites_paired r m [] c h = h
  sites_paired r m (n ∷ ns) c h = site_then m n (slice_get r.source.sites n) (sites_on r m ns) c (λ d g. sites_paired r m ns d g) h

  full_then : {A : Type 0} (k : ℕ) (none : A) (go : Doing A) (c : Composed) → ((d : Composed) → Paired d → Paired (go d).1) → Paired c → Paired ((written_by k ▸ λ b. if b then go else gives none) c).1
  full_then zero none go c more h = h
  full_then (suc j) none go c more h = more (record c { nodes = j }) h

  cond_then : {A : Type 0} (b : Bool) (x y : Doing A) (c : Composed) → Paired (x c).1 → Paired (y c).1 → Paired ((cond b x y) c).1
  cond_then true x y c h g = h
  cond_then false x y c h g = g

  cond_paired : (b : Bool) (x y : Parts × Composed) → Paired x.1 → Paired y.1 → Paired (cond b x y).1
  cond_paired true x y h g = h
  cond_paired false x y h g = g

  scope_then : {A : Type 0} (b : Bool) (n : ℕ) (go : ℕ → Doing A) (c : Composed) → ((s : ℕ) (d : Composed) → Paired d → Paired (go s d).1) → Paired c → Paired ((scope_if b n ▸ go) c).1
  scope_then true n go c more h = more c.scopes (record c { scopes = c.scopes + 1 }) h
  scope_then false n go c more h = more n c h

  module _ (r : Region) (u : Option Uses) (slot : Option Outside) where
    abbrev on_both : ℕ → ℕ → Doing Scopes
    on_both o i = sites_on r (record { under = i; over = o }) (bound_numbers (record no_acts { uses = u })) ▸ λ v. gives (record { outer = r.scope; own = o; isolate = i; slot = slot; deep = false })

    abbrev on_own : ℕ → Doing Scopes
    on_own o = scope_if (asks_isolate u) 0 ▸ on_both o

    for_paired : (c : Composed) → Paired c → Paired (scopes_for r u slot c).1
    for_paired c h =
        scope_then {A = Scopes} (asks_child u) r.scope on_own c
        (λ o d g. scope_then {A = Scopes} (asks_isolate u) 0 (on_both o) d (λ i e k. sites_paired r (record { under = i; over = o }) (bound_numbers (record no_acts { uses = u })) e k) g) h

  scopes_paired : (r : Region) (acts : Acts) (c : Composed) → Paired c → Paired (scopes_composed r acts c).1
  scopes_paired r acts c h = for_paired r acts.uses (outside_in (given_in acts.slot r) r) c h

  outlet_paired : (r : Region) → Filled r.home.template r.source → (i : ℕ) (o : Option Outlet) → slice_get r.source.outlets i ≡ o → (c : Composed) → Paired c → Paired (outlet_in r o c).1
  outlet_paired r all i None at c h = h
  outlet_paired r all i (Some x) at c h =
      paired_more c.outlets c.spots (record x { site = moved_by c.moved x.site }) (record { home = r.home; scope = r.scope; outsides = r.outsides }) h (filled_at r.home.template r.source.outlets i x all at)

  module _ (fragment : TplId → ℕ → Option Fragment) (enter : Region → Doing Parts) (kept : (t : TplId) (n : ℕ) (f : Fragment) → fragment t n ≡ Some f → Filled t f)
      (entering : (r : Region) → Filled r.home.template r.source → (c : Composed) → Paired c → Paired (enter r c).1) where
    entered_paired : (o : Option Fragment) (at : Fragment → Region) (c : Composed) → ((g : Fragment) → o ≡ Some g → Filled (at g).home.template (at g).source) → Paired c → Paired (entered fragment enter o at c).1
    entered_paired None at c all h = h
    entered_paired (Some g) at c all h = entering (at g) (all g refl) (record c { moved = [] }) h

    given_paired : (r : Region) (x : Option Content) (kids : Doing Contents) (c : Composed) → Paired (kids c).1 → Paired c → Paired (given_composed fragment enter r x kids c).1
    given_paired r None kids c own h = own
    given_paired r (Some x) kids c own h =
        entered_paired (fragment x.template x.body) (λ g. content_region g x c.scopes r) (record c { scopes = c.scopes + 1 }) (λ g at. kept x.template x.body g at) h

    used_paired : (x : Option (Uses × ℕ)) (slot : Bool) (s : Scopes) (r : Region) (kids : Doing Contents) (c : Composed) → Paired (kids c).1 → Paired c → Paired (used_by fragment enter x slot s r kids c).1
    used_paired None slot s r kids c own h = given_paired r (given_in slot r) kids c own h
    used_paired (Some x) slot s r kids c own h =
        entered_paired (fragment (record { 0 = x.1 }) 0) (λ g. template_region x.0 g (record { 0 = x.1 }) s.outer s.own s.isolate r) c (λ g at. kept (record { 0 = x.1 }) 0 g at) h

    element_paired : (r : Region) (e own : List ℕ) (acts : Acts) (ats : PartAttributes) (p : Contents) (c : Composed) → ((s : ℕ) (d : Composed) → Paired d → Paired (contents_composed fragment enter (region_in acts.uses s r) p d).1) → Paired c
        → Paired (element_composed fragment enter r e own acts ats (λ q. contents_composed fragment enter q p) c).1
    element_paired r e own acts ats p c kids h =
        let s : Scopes = (scopes_composed r acts c).0 in
        let d1 : Composed = (scopes_composed r acts c).1 in
        let d2 : Composed = (sites_on r (on s.own) own d1).1 in
        let g = sites_paired r (on s.own) own d1 (scopes_paired r acts c h) in
        used_paired (template_in acts.uses) acts.slot s (region_in acts.uses s.own r) (contents_composed fragment enter (region_in acts.uses s.own r) p) d2 (kids s.own d2 g) g

    mutual
      part_paired : (r : Region) → Filled r.home.template r.source → (p : Part) (c : Composed) → Paired c → Paired (part_composed fragment enter r p c).1
      part_paired r all (text_part ps) c h = full_then c.nodes no_parts (text_composed r ps) c (λ d g. sites_paired r (on r.scope) (hole_numbers ps) d g) h
      part_paired r all (comment_part t) c h = full_then c.nodes no_parts (gives (alone (comment_part t))) c (λ d g. g) h
      part_paired r all (anchor_part o own starts) c h =
          full_then c.nodes no_parts (anchor_composed r o own starts) c
          (λ d g. cond_paired (has_site own d.moved (slice_get r.source.outlets o)) (anchor_there r o own starts d) (ends no_parts d)
          (outlet_paired r all o (slice_get r.source.outlets o) refl (sites_on r (on r.scope) own d).1 (sites_paired r (on r.scope) own d g)) g) h
      part_paired r all (element_part e own acts ats p) c h =
          let go : Doing Parts = element_composed fragment enter r e own acts ats (λ q. contents_composed fragment enter q p) in
          cond_then (nat_lt r.home.room (directive_count acts.uses)) (ends (alone (deep_part e))) (writes go) c h
          (full_then c.nodes no_parts go c (λ d g. element_paired r e own acts ats p d (λ s k w. contents_paired (region_in acts.uses s r) all p k w) g) h)

      contents_paired : (r : Region) → Filled r.home.template r.source → (p : Contents) (c : Composed) → Paired c → Paired (contents_composed fragment enter r p c).1
      contents_paired r all (children ps) c h = parts_paired r all ps c h
      contents_paired r all (bound b) c h = full_then c.nodes (children no_parts) (numbers ▸ λ f. gives (bound (f b))) c (λ d g. g) h

      pub parts_paired : (r : Region) → Filled r.home.template r.source → (ps : Parts) (c : Composed) → Paired c → Paired (parts_composed fragment enter r ps c).1
      parts_paired r all no_parts c h = h
      parts_paired r all (part_then p ps) c h =
          let q : Parts × Composed = part_composed fragment enter r p c in
          let rest : Parts × Composed = parts_composed fragment enter r ps q.1 in
          cond_paired c.ended (no_parts, c) (followed q.0 rest.0, rest.1) h (parts_paired r all ps q.1 (part_paired r all p c h))

  module _ (fragment : TplId → ℕ → Option Fragment) (kept : (t : TplId) (n : ℕ) (f : Fragment) → fragment t n ≡ Some f → Filled t f) where
    in_paired : (fuel : ℕ) (r : Region) → Filled r.home.template r.source → (c : Composed) → Paired c → Paired (composed_in fragment fuel r c).1
    in_paired zero r all c h = h
    in_paired (suc fuel) r all c h = parts_paired fragment (composed_in fragment fuel) kept (in_paired fuel) r all r.source.parts c h

    pub directed_paired : (h : Home) (g : Fragment) → Filled h.template g → Paired (composed_in fragment (fuel_for h) (region_of g h) nothing_composed).1
    directed_paired h g all = in_paired (fuel_for h) (region_of g h) all nothing_composed tt

pub composed_spots : (fragment : TplId → ℕ → Option Fragment) (P : TplId → Filling → Type 0) → ((t : TplId) (n : ℕ) (f : Fragment) → fragment t n ≡ Some f → AllByRecursion (λ (x : Outlet). P t x.filling) f.outlets) → (h : Home) (g : Fragment)
    → AllByRecursion (λ (x : Outlet). P h.template x.filling) g.outlets → is_directed g.parts ≡ true → ArePaired P (composed fragment h g).outlets (composed fragment h g).spots
composed_spots fragment P kept h g all directed = by (is_directed g.parts) directed
  where
    by : (b : Bool) → b ≡ true → ArePaired P (cond b (fragment_by (composed_in fragment (fuel_for h) (region_of g h) nothing_composed)) g).outlets (cond b (fragment_by (composed_in fragment (fuel_for h) (region_of g h) nothing_composed)) g).spots
    by true e = directed_paired P fragment kept h g all
    by false e = absurd (cc)
