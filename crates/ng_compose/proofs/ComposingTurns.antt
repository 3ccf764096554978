-- The steps of composing, one after another.
use Rattle.std.proofs.Common.{◌≡◌, ◌<◌, ◌≤◌, ◌+◌, ◌-◌, ℕ, suc, Bool, true, false, cond, List, [], ◌∷◌, ◌++◌, map, drop, get_or, length, replicate, Option, None, Some, refl, ap, sym, ◌∙◌, length-append, append_assoc, arith}
use Rattle.std.proofs.lemmas.List.{append-nil, at_drop_more, drop_all}
use Rattle.std.specs.List.{flat_map}
use Rattle.std.specs.Prelude.{nat_lt, slice_get, Result, Ok, Err, IfOk, OnOk, if◌then◌else◌}
use Rattle.ng_base.specs.declared.fault.Memory.{Memory}
use Rattle.ng_base.specs.declared.name.TplId.{TplId}
use Rattle.ng_drawing.specs.Template.{Piece, word, hole, PartAttributes, Uses, Outside, handed, Acts, no_acts, Scopes, Part, Contents, Parts, text_part, element_part, anchor_part, children, no_parts, part_then, parts_from, with_part, Site, SiteScopes, Outlet, Fragment}
use Rattle.ng_drawing.specs.declared.origin.Content.{Content}
use Rattle.ng_drawing.specs.declared.origin.Home.{Home}
use Rattle.ng_language.specs.Trees.{Trees}
use Rattle.ng_drawing.specs.Moved.{moved_by, moved_piece, moved_attributes, composed_acts}
use Rattle.ng_drawing.specs.Composing.{Region, Composed, Doing, ◌▸◌, gives, ends, padded, with_site, site_on, sites_on, on, with_outlet, outlet_in, has_site, anchor_there, anchor_composed, text_composed, written, written_by, unless_full, alone, scope_if, asks_child, asks_isolate, directive_count, region_in, within, deep_part, unless_deep, writes, scopes_for, scopes_composed, template_in, followed, entered, template_entered, used_by, used_composed, element_composed, part_composed, parts_composed, composed_in, tail_of, handed_all}
use Rattle.ng_drawing.specs.Numbering.{hole_numbers, bound_numbers}

-- where a node more may be written or not
pub full_is : {A : Type 0} (none : A) (go : Doing A) (c d : Composed) → (false, d) ≡ written c → (none, d) ≡ unless_full none go c
full_is none go c d e = ap (λ (q : Bool × Composed). (if q.0 then go else gives none) q.1) e

pub written_is : {A : Type 0} (none : A) (go : Doing A) (c d : Composed) (q : A × Composed) → (true, d) ≡ written c → q ≡ go d → q ≡ unless_full none go c
written_is none go c d q e h = h ∙ ap (λ (w : Bool × Composed). (if w.0 then go else gives none) w.1) e

-- a text and an anchor
pub text_is : (r : Region) (ps : List Piece) (c d : Composed) → d ≡ (sites_on r (on r.scope) (hole_numbers ps) c).1 → (alone (text_part (map (moved_piece (moved_by d.moved)) ps)), d) ≡ text_composed r ps c
text_is r ps c d e = ap (λ (k : Composed). (alone (text_part (map (moved_piece (moved_by k.moved)) ps)), k)) e

pub anchor_is : (r : Region) (o : ℕ) (own : List ℕ) (starts : List Trees) (c d e : Composed) (n : ℕ) → d ≡ (sites_on r (on r.scope) own c).1 → (n, e) ≡ outlet_in r (slice_get r.source.outlets o) d
    → (alone (anchor_part n (map (moved_by d.moved) own) starts), e) ≡ anchor_there r o own starts c
anchor_is r o own starts c d e n sited is =
    ap (λ (q : ℕ × Composed). (alone (anchor_part q.0 (map (moved_by d.moved) own) starts), q.1)) is
    ∙ ap (λ (k : Composed). (alone (anchor_part (outlet_in r (slice_get r.source.outlets o) k).0 (map (moved_by k.moved) own) starts), (outlet_in r (slice_get r.source.outlets o) k).1)) sited

pub anchor_on : (r : Region) (o : ℕ) (own : List ℕ) (starts : List Trees) (c : Composed) (q : Parts × Composed) → has_site own c.moved (slice_get r.source.outlets o) ≡ true → q ≡ anchor_there r o own starts c → q ≡ anchor_composed r o own starts c
anchor_on r o own starts c q e h = h ∙ sym (ap (λ b. cond b (anchor_there r o own starts c) (ends no_parts c)) e)

pub anchor_off : (r : Region) (o : ℕ) (own : List ℕ) (starts : List Trees) (c : Composed) → has_site own c.moved (slice_get r.source.outlets o) ≡ false → ends no_parts c ≡ anchor_composed r o own starts c
anchor_off r o own starts c e = sym (ap (λ b. cond b (anchor_there r o own starts c) (ends no_parts c)) e)

-- an element by its parts
pub element_same : (e d ns ms : List ℕ) (a b : Acts) (ats bts : PartAttributes) (k : Contents) → e ≡ d → ns ≡ ms → a ≡ b → ats ≡ bts → element_part e ns a ats k ≡ element_part d ms b bts k
element_same e d ns ms a b ats bts k name own acts attributes =
    ap (λ (x : List ℕ). element_part x ns a ats k) name
    ∙ (ap (λ (x : List ℕ). element_part d x a ats k) own ∙ (ap (λ (x : Acts). element_part d ms x ats k) acts ∙ ap (λ (x : PartAttributes). element_part d ms b x k) attributes))

-- parts after others
pub followed-none : (ps : Parts) → followed ps no_parts ≡ ps
followed-none no_parts = refl
followed-none (part_then p ps) = ap (part_then p) (followed-none ps)

followed-assoc : (ps qs rs : Parts) → followed (followed ps qs) rs ≡ followed ps (followed qs rs)
followed-assoc no_parts qs rs = refl
followed-assoc (part_then p ps) qs rs = ap (part_then p) (followed-assoc ps qs rs)

pub followed-one : (ps : Parts) (p : Part) → followed ps (alone p) ≡ with_part ps p
followed-one no_parts p = refl
followed-one (part_then q ps) p = ap (part_then q) (followed-one ps p)

abbrev pub after_done : Parts → Parts × Composed → Parts × Composed
after_done ps q = (followed ps q.0, q.1)

-- an element that is inside too many directives, and one that is not
module _ (r : Region) (e : List ℕ) (u : Option Uses) (go : Doing Parts) (c : Composed) where
  pub deep_is : nat_lt r.home.room (directive_count u) ≡ true → ends (alone (deep_part e)) c ≡ unless_deep r e u go c
  deep_is deep = sym (ap (λ b. (cond b (ends (alone (deep_part e))) (writes go)) c) deep)

  pub there_is : nat_lt r.home.room (directive_count u) ≡ false → writes go c ≡ unless_deep r e u go c
  there_is there = sym (ap (λ b. (cond b (ends (alone (deep_part e))) (writes go)) c) there)

module _ (fragment : TplId → ℕ → Option Fragment) (enter : Region → Doing Parts) where
  -- the contents of an element
  module _ (r : Region) (e own : List ℕ) (acts : Acts) (ats : PartAttributes) (kids : Region → Doing Contents) (c : Composed) where
    abbrev inner : Scopes → Region
    inner s = region_in acts.uses s.own r

    abbrev with_contents : Scopes → Composed → Contents × Composed → Parts × Composed
    with_contents s d q = (alone (element_part e (map (moved_by d.moved) own) (composed_acts (moved_by d.moved) acts s) (moved_attributes (moved_by d.moved) ats) q.0), q.1)

    abbrev with_sites : Scopes → Composed → Parts × Composed
    with_sites s d = with_contents s d (used_composed fragment enter acts s (inner s) (kids (inner s)) d)

    abbrev with_scopes : Scopes × Composed → Parts × Composed
    with_scopes q = with_sites q.0 (sites_on r (on q.0.own) own q.1).1

    pub element_is : (s : Scopes) (d1 d2 d3 : Composed) (k : Contents) → (s, d1) ≡ scopes_composed r acts c → d2 ≡ (sites_on r (on s.own) own d1).1 → (k, d3) ≡ used_composed fragment enter acts s (inner s) (kids (inner s)) d2
        → with_contents s d2 (k, d3) ≡ element_composed fragment enter r e own acts ats kids c
    element_is s d1 d2 d3 k scopes sites contents = ap (with_contents s d2) contents ∙ (ap (with_sites s) sites ∙ ap with_scopes scopes)

  -- parts of a list
  module _ {X : Type 0} (seen : X → Part) (r : Region) (xs : List X) (i : ℕ) where
    abbrev listed : List X → Doing Parts
    listed zs = parts_composed fragment enter r (parts_from (map seen zs))

    abbrev others : Composed → Parts × Composed
    others d = listed (drop (i + 1) xs) d

    abbrev one_and : Parts → Parts × Composed → Parts × Composed
    one_and ps q = (followed ps (followed q.0 (others q.1).0), (others q.1).1)

    pub parts_turn : (x : X) (ps o : Parts) (c d : Composed) → i < length xs → x ≡ get_or xs i x → c.ended ≡ false → (o, d) ≡ part_composed fragment enter r (seen x) c → after_done (followed ps o) (others d) ≡ after_done ps (listed (drop i xs) c)
    parts_turn x ps o c d l is on made =
        ap (λ (qs : Parts). (qs, (others d).1)) (followed-assoc ps o (others d).0)
        ∙ (ap (one_and ps) (made ∙ ap (λ (y : X). part_composed fragment enter r (seen y) c) is)
        ∙ (sym (ap (λ b. after_done ps (cond b (no_parts, c) (one_and no_parts (part_composed fragment enter r (seen (get_or xs i x)) c)))) on)
        ∙ sym (at_drop_more (λ zs. after_done ps (listed zs c)) xs i x l)))

    pub parts_end : (ps : Parts) (c : Composed) → length xs ≤ i → after_done ps (listed (drop i xs) c) ≡ (ps, c)
    parts_end ps c l = ap (λ zs. after_done ps (listed zs c)) (drop_all i xs l) ∙ ap (λ (qs : Parts). (qs, c)) (followed-none ps)

  pub parts_over : (r : Region) (ps qs : Parts) (c : Composed) → c.ended ≡ true → after_done ps (parts_composed fragment enter r qs c) ≡ (ps, c)
  parts_over r ps no_parts c over = ap (λ (qs : Parts). (qs, c)) (followed-none ps)
  parts_over r ps (part_then q qs) c over =
      let rest : Parts × Composed = parts_composed fragment enter r qs (part_composed fragment enter r q c).1 in
      ap (λ b. after_done ps (cond b (no_parts, c) (followed (part_composed fragment enter r q c).0 rest.0, rest.1))) over ∙ ap (λ (rs : Parts). (rs, c)) (followed-none ps)

  -- what stands in an element's place
  module _ (acts : Acts) (s : Scopes) (r : Region) (kids : Doing Contents) (c : Composed) where
    pub template_is : (u : Uses) (t : ℕ) → template_in acts.uses ≡ Some (u, t) → (q : Contents × Composed) → q ≡ template_entered fragment enter u (record { 0 = t }) s r c → q ≡ used_composed fragment enter acts s r kids c
    template_is u t e q h = h ∙ sym (ap (λ (x : Option (Uses × ℕ)). used_by fragment enter x acts.slot s r kids c) e)

  -- a fragment that is there or not
  pub entered_none : (o : Option Fragment) (at : Fragment → Region) (c : Composed) → o ≡ None → (children no_parts, record c { ended = true }) ≡ entered fragment enter o at c
  entered_none o at c e = sym (ap (λ (x : Option Fragment). entered fragment enter x at c) e)

  pub entered_some : (o : Option Fragment) (at : Fragment → Region) (c : Composed) (f : Fragment) (q : Contents × Composed) → o ≡ Some f → q ≡ (within (enter (at f)) ▸ λ ps. gives (children ps)) c → q ≡ entered fragment enter o at c
  entered_some o at c f q e h = h ∙ sym (ap (λ (x : Option Fragment). entered fragment enter x at c) e)

-- the scopes of an element
module _ (r : Region) (u : Option Uses) (slot : Option Outside) where
  abbrev scopes_by : ℕ → ℕ → Scopes
  scopes_by o i = record { outer = r.scope; own = o; isolate = i; slot = slot; deep = false }

  abbrev bound_on : ℕ → ℕ × Composed → Scopes × Composed
  bound_on o q = (scopes_by o q.0, (sites_on r (record { under = q.0; over = o }) (bound_numbers (record no_acts { uses = u })) q.1).1)

  abbrev then_isolate : ℕ × Composed → Scopes × Composed
  then_isolate q = bound_on q.0 (scope_if (asks_isolate u) 0 q.1)

  pub scopes_is : (c d1 d2 d3 : Composed) (o i : ℕ) → (o, d1) ≡ scope_if (asks_child u) r.scope c → (i, d2) ≡ scope_if (asks_isolate u) 0 d1
      → d3 ≡ (sites_on r (record { under = i; over = o }) (bound_numbers (record no_acts { uses = u })) d2).1 → (scopes_by o i, d3) ≡ scopes_for r u slot c
  scopes_is c d1 d2 d3 o i first second sites = ap (λ (d : Composed). (scopes_by o i, d)) sites ∙ (ap (bound_on o) second ∙ ap then_isolate first)

-- what is entered, with so much fuel or none
module _ (fragment : TplId → ℕ → Option Fragment) (r : Region) (c : Composed) where
  abbrev entering : ℕ → Contents × Composed
  entering n = (within (composed_in fragment n r) ▸ λ ps. gives (children ps)) c

  pub enter_none : (n : ℕ) → n ≡ 0 → (q : Contents × Composed) → q ≡ ends (children no_parts) c → q ≡ entering n
  enter_none n e q h = h ∙ sym (ap entering e)

  pub enter_some : (n k : ℕ) → n ≡ suc k → (ps : Parts) (d : Composed) → (ps, d) ≡ parts_composed fragment (composed_in fragment k) r r.source.parts (record c { moved = [] }) → (children ps, record d { moved = c.moved }) ≡ entering n
  enter_some n k e ps d h = ap (λ (q : Parts × Composed). (children q.0, record q.1 { moved = c.moved })) h ∙ sym (ap entering e)

-- nodes and scopes that are counted
pub written_none : (c : Composed) → c.nodes ≡ 0 → (false, record c { ended = true }) ≡ written c
written_none c e = sym (ap (λ k. written_by k c) e)

pub written_one : (c : Composed) (k : ℕ) → c.nodes ≡ suc k → (true, record c { nodes = k }) ≡ written c
written_one c k e = sym (ap (λ j. written_by j c) e)

-- what is composed is what it has
composed_same : (c d : Composed) → c.sites ≡ d.sites → c.marks ≡ d.marks → c.outlets ≡ d.outlets → c.spots ≡ d.spots → c.scopes ≡ d.scopes → c.nodes ≡ d.nodes → c.ended ≡ d.ended → c.moved ≡ d.moved → c ≡ d
composed_same c d sites marks outlets spots scopes nodes ended moved =
    ap (λ x. record c { sites = x }) sites
    ∙ (ap (λ x. record c { sites = d.sites; marks = x }) marks
    ∙ (ap (λ x. record c { sites = d.sites; marks = d.marks; outlets = x }) outlets
    ∙ (ap (λ x. record c { sites = d.sites; marks = d.marks; outlets = d.outlets; spots = x }) spots
    ∙ (ap (λ x. record c { sites = d.sites; marks = d.marks; outlets = d.outlets; spots = d.spots; scopes = x }) scopes
    ∙ (ap (λ x. record c { sites = d.sites; marks = d.marks; outlets = d.outlets; spots = d.spots; scopes = d.scopes; nodes = x }) nodes
    ∙ (ap (λ x. record c { sites = d.sites; marks = d.marks; outlets = d.outlets; spots = d.spots; scopes = d.scopes; nodes = d.nodes; ended = x }) ended
    ∙ ap (λ x. record d { moved = x }) moved))))))

-- a site, an outlet
pub site_none : (m : SiteScopes) (n : ℕ) (o : Option Site) (c : Composed) → o ≡ None → record c { ended = true } ≡ (site_on m n o c).1
site_none m n o c e = sym (ap (λ (x : Option Site). (site_on m n x c).1) e)

pub site_some : (m : SiteScopes) (n : ℕ) (o : Option Site) (x : Site) (c d : Composed) → o ≡ Some x → d ≡ with_site m n x c → d ≡ (site_on m n o c).1
site_some m n o x c d e h = h ∙ sym (ap (λ (y : Option Site). (site_on m n y c).1) e)

pub outlet_none : (r : Region) (o : Option Outlet) (c : Composed) → o ≡ None → ends 0 c ≡ outlet_in r o c
outlet_none r o c e = sym (ap (λ (x : Option Outlet). outlet_in r x c) e)

pub outlet_some : (r : Region) (o : Option Outlet) (x : Outlet) (c d : Composed) (n : ℕ) → o ≡ Some x → n ≡ length c.outlets → d ≡ with_outlet r x c → (n, d) ≡ outlet_in r o c
outlet_some r o x c d n e at h = ap (λ (k : Composed). (n, k)) h ∙ (ap (λ i. (i, with_outlet r x c)) at ∙ sym (ap (λ (y : Option Outlet). outlet_in r y c) e))

pub outlet_there : (r : Region) (o : Option Outlet) (x : Outlet) (c d : Composed) (res : Result ℕ Memory) → o ≡ Some x → IfOk res (λ n. n ≡ length c.outlets) → OnOk res (d ≡ with_outlet r x c) → IfOk res (λ n. (n, d) ≡ outlet_in r o c)
outlet_there r o x c d (Ok n) e at made = outlet_some r o x c d n e at made
outlet_there r o x c d (Err m) e at made = tt

-- sites one after another
module _ (r : Region) (m : SiteScopes) (ns : List ℕ) (i : ℕ) where
  abbrev sites_left : List ℕ → Composed → Composed
  sites_left zs c = (sites_on r m zs c).1

  pub sites_turn : (c d : Composed) → i < length ns → d ≡ (site_on m (get_or ns i 0) (slice_get r.source.sites (get_or ns i 0)) c).1 → sites_left (drop (i + 1) ns) d ≡ sites_left (drop i ns) c
  sites_turn c d l made = ap (sites_left (drop (i + 1) ns)) made ∙ sym (at_drop_more (λ zs. sites_left zs c) ns i 0 l)

-- the sites up to one
pub padded_more : (n : ℕ) (ns : List (Option ℕ)) → length ns < n → padded n (ns ++ None ∷ []) ≡ padded n ns
padded_more n ns l =
    let size = length-append ns (None ∷ []) in
    let more : suc (n - length (ns ++ None ∷ [])) ≡ n - length ns = omega (arith, size, l) in
    append_assoc ns (None ∷ []) (replicate (n - length (ns ++ None ∷ [])) None) ∙ ap (λ k. ns ++ replicate k None) more

pub padded_all : (n : ℕ) (ns : List (Option ℕ)) → n ≤ length ns → padded n ns ≡ ns
padded_all n ns l = let none : n - length ns ≡ 0 = omega (arith, l) in ap (λ k. ns ++ replicate k None) none ∙ append-nil ns

-- scopes that are handed one after another
pub handed_step : (ks : List (Option Content)) (i : ℕ) → i < length ks → handed_all i (drop i ks) ≡ handed i ∷ handed_all (i + 1) (drop (i + 1) ks)
handed_step ks i l = at_drop_more (handed_all i) ks i None l

-- a site, and an outlet, under the next number
pub site_is : (m : SiteScopes) (n : ℕ) (x : Site) (c d : Composed) → d.sites ≡ c.sites ++ x ∷ [] → d.marks ≡ c.marks ++ m ∷ [] → d.moved ≡ padded n c.moved ++ Some (length c.sites) ∷ [] → d.outlets ≡ c.outlets → d.spots ≡ c.spots
    → d.scopes ≡ c.scopes → d.nodes ≡ c.nodes → d.ended ≡ c.ended → d ≡ with_site m n x c
site_is m n x c d sites marks moved outlets spots scopes nodes ended =
    composed_same d (with_site m n x c) sites marks outlets spots scopes nodes ended moved

pub outlet_is : (r : Region) (x : Outlet) (c d : Composed) → d.outlets ≡ c.outlets ++ record x { site = moved_by c.moved x.site } ∷ [] → d.spots ≡ c.spots ++ record { home = r.home; scope = r.scope; outsides = r.outsides } ∷ []
    → d.sites ≡ c.sites → d.marks ≡ c.marks → d.scopes ≡ c.scopes → d.nodes ≡ c.nodes → d.ended ≡ c.ended → d.moved ≡ c.moved → d ≡ with_outlet r x c
outlet_is r x c d outlets spots sites marks scopes nodes ended moved = composed_same d (with_outlet r x c) sites marks outlets spots scopes nodes ended moved

-- the holes of pieces, one after another
module _ {X : Type 0} (seen : X → Piece) where
  holes_first : (p : Piece) (ps : List Piece) → hole_numbers (p ∷ ps) ≡ hole_numbers (p ∷ []) ++ hole_numbers ps
  holes_first (word t) ps = refl
  holes_first (hole n) ps = refl

  pub holes_turn : (xs : List X) (i : ℕ) (x : X) (before after : List ℕ) → i < length xs → x ≡ get_or xs i x → after ≡ before ++ hole_numbers (seen x ∷ [])
      → after ++ hole_numbers (map seen (drop (i + 1) xs)) ≡ before ++ hole_numbers (map seen (drop i xs))
  holes_turn xs i x before after l is made =
      let rest : List ℕ = hole_numbers (map seen (drop (i + 1) xs)) in
      ap (λ (ns : List ℕ). ns ++ rest) made
      ∙ (append_assoc before (hole_numbers (seen x ∷ [])) rest
      ∙ (ap (λ (ns : List ℕ). before ++ ns) (sym (holes_first (seen x) (map seen (drop (i + 1) xs))))
      ∙ (ap (λ (y : X). before ++ hole_numbers (seen y ∷ map seen (drop (i + 1) xs))) is
      ∙ sym (at_drop_more (λ zs. before ++ hole_numbers (map seen zs)) xs i x l))))

-- what stands for each of a list, one after another
pub flat_turn : {X Y : Type 0} (seen : X → Y) (f : Y → List ℕ) (xs : List X) (i : ℕ) (x : X) (before after : List ℕ) → i < length xs → x ≡ get_or xs i x → after ≡ before ++ f (seen x)
    → after ++ flat_map f (map seen (drop (i + 1) xs)) ≡ before ++ flat_map f (map seen (drop i xs))
flat_turn seen f xs i x before after l is made =
    let rest : List ℕ = flat_map f (map seen (drop (i + 1) xs)) in
    ap (λ (ns : List ℕ). ns ++ rest) made
    ∙ (append_assoc before (f (seen x)) rest
    ∙ (ap (λ y. before ++ (f (seen y) ++ rest)) is ∙ sym (at_drop_more (λ zs. before ++ flat_map f (map seen zs)) xs i x l)))

-- regions with the same home and the same scopes outside
abbrev region_with : Fragment → Home → List Outside → ℕ → Region
region_with f h os s = record { source = f; home = h; outsides = os; scope = s }

pub same_region : (f : Fragment) (g h : Home) (os ps : List Outside) (s : ℕ) → g ≡ h → os ≡ ps → region_with f g os s ≡ region_with f h ps s
same_region f g h os ps s e d = ap (λ (x : Home). region_with f x os s) e ∙ ap (λ (xs : List Outside). region_with f h xs s) d

pub region_same : (f : Fragment) (g h : Home) (os ps : List Outside) (s t : ℕ) → g ≡ h → os ≡ ps → s ≡ t → region_with f g os s ≡ region_with f h ps t
region_same f g h os ps s t e d k = same_region f g h os ps s e d ∙ ap (λ (n : ℕ). region_with f h ps n) k

pub tail_map : {A B : Type 0} (f : A → B) (xs : List A) → map f (tail_of xs) ≡ tail_of (map f xs)
tail_map f [] = refl
tail_map f (x ∷ xs) = refl
