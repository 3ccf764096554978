-- Parts that are composed are numbered in document order, and nothing is drawn from the sites of their outlets.
use Rattle.std.proofs.Common.{◌≡◌, ◌≤◌, ◌+◌, ℕ, zero, suc, Bool, true, false, cond, List, [], map, length, Option, None, Some, refl, ap, sym, subst, ◌∙◌, arith}
use Rattle.std.proofs.lemmas.Bool.{and_parts, and_from, true≢false}
use Rattle.std.specs.List.{list_all}
use Rattle.std.specs.Prelude.{◌-◌, ◌&&◌, nat_lt, option_and_then}
use Rattle.ng_base.specs.declared.name.TplId.{TplId}
use Rattle.ng_drawing.specs.Template.{PartAttributes, Uses, Acts, Scopes, Part, Contents, Parts, text_part, comment_part, element_part, anchor_part, children, bound, no_parts, part_then, Site, Outlet, Fragment}
use Rattle.ng_drawing.specs.declared.origin.Content.{Content}
use Rattle.ng_drawing.specs.Moved.{moved_by, moved_attributes, composed_acts}
use Rattle.ng_drawing.specs.Composing.{Region, Composed, Doing, gives, ends, sites_on, on, anchor_composed, text_composed, writes, alone, directive_count, region_in, content_region, template_region, given_in, deep_part, scopes_composed, followed, entered, slot_entered, given_composed, template_in, used_by, used_composed, element_composed, part_composed, contents_composed, parts_composed, composed_in}
use Rattle.ng_drawing.specs.Numbering.{after_own, bound_numbers, is_within, are_drawn, after_part, after_contents, after_parts, part_draws, contents_draw, parts_draw, after_outlets, outlets_of_contents, HasOrder}
use Rattle.ng_compose.proofs.Composable.{is_free, drawable, extends_self, extends_then, extends_draws, is_sound, Well, Known, known_later, known_none, Sited, sites_sited}
use Rattle.ng_parts.proofs.Within.{within_parts}
use Rattle.ng_compose.proofs.Movers.{had, had_then, own_rise, own_within, contents_rise, contents_drawn, parts_rise, number_moved, own_moved, bound_moved}
use Rattle.ng_compose.proofs.Renumbered.{all_come, attributes_move, both, numbers_both, attributes_both}
use Rattle.ng_compose.proofs.ComposedLeaves.{Made, Partly, Inside, made_none, partly_ended, made_then, sited_drawn, sited_within, text_partly, whole_sites, whole_free, anchor_partly, scopes_sited, full_cases, cond_cases, bound_inside}

-- parts after a part
two_partly : {f : Fragment} {mid end : ℕ} {ds : List Bool} {count others : ℕ} {ps qs : Parts} {d e : Composed} → (a : Partly f mid ds count others ps d)
    → ((a : Partly f mid ds count others ps d) → Partly f end a.made.after (length d.sites) (length d.outlets) qs e) → Partly f end ds count others (followed ps qs) e
two_partly a go = record { made = made_then a.made (go a).made; known = (go a).known }

module _ (fragment : TplId → ℕ → Option Fragment) (enter : Region → Doing Parts) (ordered : (t : TplId) (i : ℕ) (g : Fragment) → fragment t i ≡ Some g → HasOrder g)
    (entering : (r : Region) → HasOrder r.source → (ds : List Bool) (c : Composed) → Well ds c.sites c.outlets → c.moved ≡ [] → c.ended ≡ false → Made ds (length c.sites) (length c.outlets) (enter r c).0 (enter r c).1) where
  -- the contents of an element, in whose place others may stand
  module _ (f : Fragment) (n : ℕ) (ats : PartAttributes) (k end : ℕ) (ds : List Bool) (c : Composed) (within_own : are_drawn (is_within n (length c.sites)) ats ≡ true) (well : Well ds c.sites c.outlets) (ended : c.ended ≡ false)
      (known : Known f k ds c.moved) (up : k ≤ end) where
    abbrev InsideBy : Contents × Composed → Type 0
    InsideBy q = Inside f n ats end ds (length c.sites) (length c.outlets) q.0 q.1

    inside_ended : (d : Composed) → d.sites ≡ c.sites → d.outlets ≡ c.outlets → d.ended ≡ true → InsideBy (children no_parts, d)
    inside_ended d sites outlets over = record {
      after = ds;
      extends = extends_self ds;
      well = record { size = well.size ∙ ap length (sym sites); outlets = ap (list_all (is_sound ds)) outlets ∙ well.outlets };
      sites = ap (λ b. cond b (Some (length c.sites)) None) within_own ∙ ap (λ (xs : List Site). Some (length xs)) (sym sites);
      outlets = ap (λ (xs : List Outlet). Some (length xs)) (sym outlets);
      draws = refl;
      known = λ g. absurd (true≢false (sym over ∙ g));
    }

    -- another fragment, entered where there are so many scopes
    inside_entered : (s : ℕ) (o : Option Fragment) (at : Fragment → Region) → ((g : Fragment) → o ≡ Some g → HasOrder (at g).source) → InsideBy (entered fragment enter o at (record c { scopes = s }))
    inside_entered s None at orders = inside_ended (record c { scopes = s; ended = true }) refl refl refl
    inside_entered s (Some g) at orders =
        let m = entering (at g) (orders g refl) ds (record c { scopes = s; moved = [] }) well refl ended in
        let q : Parts × Composed = enter (at g) (record c { scopes = s; moved = [] }) in
        record {
          after = m.after;
          extends = m.extends;
          well = m.well;
          sites = ap (λ b. cond b (after_parts (length c.sites) q.0) None) within_own ∙ m.sites;
          outlets = m.outlets;
          draws = m.draws;
          known = λ h. known_later known end up m.after m.extends;
        }

    inside_slot : (r : Region) (x : Content) → InsideBy (slot_entered fragment enter r x c)
    inside_slot r x = inside_entered (c.scopes + 1) (fragment x.template x.body) (λ g. content_region g x c.scopes r) (λ g at. ordered x.template x.body g at)

    inside_given : (r : Region) (x : Option Content) (kids : Doing Contents) → InsideBy (kids c) → InsideBy (given_composed fragment enter r x kids c)
    inside_given r None kids own = own
    inside_given r (Some x) kids own = inside_slot r x

    inside_used : (x : Option (Uses × ℕ)) (slot : Bool) (s : Scopes) (r : Region) (kids : Doing Contents) → InsideBy (kids c) → InsideBy (used_by fragment enter x slot s r kids c)
    inside_used None slot s r kids own = inside_given r (given_in slot r) kids own
    inside_used (Some x) slot s r kids own =
        inside_entered c.scopes (fragment (record { 0 = x.1 }) 0) (λ g. template_region x.0 g (record { 0 = x.1 }) s.outer s.own s.isolate r) (λ g at. ordered (record { 0 = x.1 }) 0 g at)

  -- an element, whose contents come to this
  module _ (r : Region) (e own : List ℕ) (acts : Acts) (ats : PartAttributes) (p : Contents) (n first last end : ℕ) (ds : List Bool) (c : Composed)
      (bindings : after_own n (bound_numbers acts) ≡ Some first) (owns : after_own first own ≡ Some last) (rest : after_contents first last ats p ≡ Some end)
      (bound_free : list_all (is_free r.source.outlets) (bound_numbers acts) ≡ true) (free : are_drawn (is_free r.source.outlets) ats ≡ true) where
    module _ (s : Scopes) (d1 d2 : Composed) (h : Sited r.source n first ds c d1) (g : Sited r.source first last h.after d1 d2) (k : Contents) (d3 : Composed)
        (i : Inside r.source (length d1.sites) (moved_attributes (moved_by d2.moved) ats) end g.after (length d2.sites) (length d2.outlets) k d3) where
      abbrev goes : ℕ → ℕ
      goes = moved_by d2.moved

      abbrev shown : PartAttributes
      shown = moved_attributes goes ats

      abbrev then_none : Option ℕ → Option ℕ
      then_none o = option_and_then (λ m. after_parts m no_parts) o

      element_sites : after_parts (length c.sites) (alone (element_part e (map goes own) (composed_acts goes acts s) shown k)) ≡ Some (length d3.sites)
      element_sites =
          ap (λ (o : Option ℕ). then_none (option_and_then (λ a. option_and_then (λ b. after_contents a b shown k) (after_own a (map goes own))) o))
          (ap (after_own (length c.sites)) (bound_moved goes acts s)
          ∙ own_moved d2.moved n first (length c.sites) (length d1.sites) (bound_numbers acts) bindings h.count (λ j m l u w. g.old j m (h.new j m l u w)))
          ∙ (ap (λ (o : Option ℕ). then_none (option_and_then (λ b. after_contents (length d1.sites) b shown k) o)) (own_moved d2.moved first last (length d1.sites) (length d2.sites) own owns g.count g.new)
          ∙ ap then_none i.sites)

      element_outlets : after_outlets (length c.outlets) (alone (element_part e (map goes own) (composed_acts goes acts s) shown k)) ≡ Some (length d3.outlets)
      element_outlets =
          ap (λ (xs : List Outlet). option_and_then (λ m. after_outlets m no_parts) (outlets_of_contents (length xs) k)) (sym (g.outlets ∙ h.outlets)) ∙ ap (option_and_then (λ m. after_outlets m no_parts)) i.outlets

      element_drawn : are_drawn (drawable i.after) shown ≡ true
      element_drawn =
          attributes_move goes (both (is_within first last) (is_free r.source.outlets)) (drawable i.after) (λ j w. extends_draws i.extends (goes j) (sited_drawn g j w)) ats
          (attributes_both (is_within first last) (is_free r.source.outlets) ats (contents_drawn first last end ats p rest) free)

      bound_goes : (j : ℕ) → both (is_within n first) (is_free r.source.outlets) j ≡ true → drawable i.after (goes j) ≡ true
      bound_goes j w =
          let t = and_parts (is_within n first j) (is_free r.source.outlets j) w in
          let b = within_parts n first j t.0 in
          let l = b.0 in
          let m : ℕ = length c.sites + (j - n) in
          let f = g.old j m (h.new j m b.0 b.1 (omega (arith, l))) in
          extends_draws i.extends (goes j) (ap (drawable g.after) (number_moved d2.moved j m f) ∙ (g.known.drawn j m f ∙ t.1))

      bindings_drawn : list_all (drawable i.after) (bound_numbers (composed_acts goes acts s)) ≡ true
      bindings_drawn =
          ap (list_all (drawable i.after)) (bound_moved goes acts s)
          ∙ all_come (both (is_within n first) (is_free r.source.outlets)) (drawable i.after) goes bound_goes (bound_numbers acts)
          (numbers_both (is_within n first) (is_free r.source.outlets) (bound_numbers acts) (own_within n n first (bound_numbers acts) (omega arith) bindings) bound_free)

      element_draws : parts_draw (drawable i.after) (alone (element_part e (map goes own) (composed_acts goes acts s) shown k)) ≡ true
      element_draws =
          let test : ℕ → Bool = drawable i.after in
          let bs : List ℕ = bound_numbers (composed_acts goes acts s) in
          and_from (list_all test bs && (are_drawn test shown && contents_draw test k)) true
          (and_from (list_all test bs) (are_drawn test shown && contents_draw test k) bindings_drawn (and_from (are_drawn test shown) (contents_draw test k) element_drawn i.draws)) refl

      element_made : Partly r.source end ds (length c.sites) (length c.outlets) (alone (element_part e (map goes own) (composed_acts goes acts s) shown k)) d3
      element_made = record {
        made = record {
          after = i.after;
          extends = extends_then h.extends (extends_then g.extends i.extends);
          well = i.well;
          sites = element_sites;
          outlets = element_outlets;
          draws = element_draws;
        };
        known = i.known;
      }

    -- what its children come to, where they stand in it
    abbrev Kids : (d1 d2 : Composed) (es : List Bool) → Region → Type 0
    Kids d1 d2 es q = Inside r.source (length d1.sites) (moved_attributes (moved_by d2.moved) ats) end es (length d2.sites) (length d2.outlets) (contents_composed fragment enter q p d2).0 (contents_composed fragment enter q p d2).1

    element_partly : end ≤ length r.source.sites → Well ds c.sites c.outlets → Known r.source n ds c.moved → c.ended ≡ false
        → ((d1 d2 : Composed) (es : List Bool) (s : ℕ) → (g : Sited r.source first last es d1 d2) → d2.ended ≡ false → Kids d1 d2 g.after (region_in acts.uses s r))
        → Partly r.source end ds (length c.sites) (length c.outlets) (element_composed fragment enter r e own acts ats (λ q. contents_composed fragment enter q p) c).0 (element_composed fragment enter r e own acts ats (λ q. contents_composed fragment enter q p) c).1
    element_partly top well known ended kids =
        let up = contents_rise first last end ats p rest in
        let mid = own_rise first last own owns in
        let s : Scopes = (scopes_composed r acts c).0 in
        let d1 : Composed = (scopes_composed r acts c).1 in
        let h = scopes_sited r acts n first ds c bindings (omega (arith, up, mid, top)) well known in
        let d2 : Composed = (sites_on r (on s.own) own d1).1 in
        let g = sites_sited r (on s.own) own first last h.after d1 owns (omega (arith, up, top)) h.well h.known in
        let over = g.ended ∙ (h.ended ∙ ended) in
        let q : Region = region_in acts.uses s.own r in
        let within_own = attributes_move (moved_by d2.moved) (is_within first last) (is_within (length d1.sites) (length d2.sites)) (sited_within g) ats (contents_drawn first last end ats p rest) in
        let k : Contents × Composed = used_composed fragment enter acts s q (contents_composed fragment enter q p) d2 in
        let i = inside_used r.source (length d1.sites) (moved_attributes (moved_by d2.moved) ats) last end g.after d2 within_own g.well over g.known up (template_in acts.uses) acts.slot s q (contents_composed fragment enter q p) (kids d1 d2 h.after s.own g over) in
        element_made s d1 d2 h g k.0 k.1 i

  mutual
    pub part_partly : (r : Region) (order : HasOrder r.source) (p : Part) (n end : ℕ) (ds : List Bool) (c : Composed) → after_part n p ≡ Some end → end ≤ length r.source.sites → part_draws (is_free r.source.outlets) p ≡ true
        → Well ds c.sites c.outlets → Known r.source n ds c.moved → c.ended ≡ false → Partly r.source end ds (length c.sites) (length c.outlets) (part_composed fragment enter r p c).0 (part_composed fragment enter r p c).1
    part_partly r order (text_part ps) n end ds c e top free well known ended =
        full_cases (λ q. Partly r.source end ds (length c.sites) (length c.outlets) q.0 q.1) c.nodes no_parts (text_composed r ps) c (λ j. text_partly r n end ps ds (record c { nodes = j }) e top free well known) (partly_ended r.source end ds c well)
    part_partly r order (comment_part t) n end ds c e top free well known ended =
        let same : n ≡ end = cc in
        full_cases (λ q. Partly r.source end ds (length c.sites) (length c.outlets) q.0 q.1) c.nodes no_parts (gives (alone (comment_part t))) c
        (λ j. record {
          made = record { after = ds; extends = extends_self ds; well = well; sites = refl; outlets = refl; draws = refl };
          known = λ g. known_later known end (omega (arith, same)) ds (extends_self ds);
        }) (partly_ended r.source end ds c well)
    part_partly r order (anchor_part o own starts) n end ds c e top free well known ended =
        full_cases (λ q. Partly r.source end ds (length c.sites) (length c.outlets) q.0 q.1) c.nodes no_parts (anchor_composed r o own starts) c
        (λ j. anchor_partly r order o n end own starts ds (record c { nodes = j }) e top well known) (partly_ended r.source end ds c well)
    part_partly r order (element_part name own acts ats p) n end ds c e top free well known ended =
        let a = had_then (after_own n (bound_numbers acts)) (λ k. option_and_then (λ d. after_contents k d ats p) (after_own k own)) end e in
        let b = had_then (after_own a.0 own) (λ d. after_contents a.0 d ats p) end a.2 in
        let u = and_parts (list_all (is_free r.source.outlets) (bound_numbers acts)) (are_drawn (is_free r.source.outlets) ats && contents_draw (is_free r.source.outlets) p) free in
        let t = and_parts (are_drawn (is_free r.source.outlets) ats) (contents_draw (is_free r.source.outlets) p) u.1 in
        let go : Doing Parts = element_composed fragment enter r name own acts ats (λ q. contents_composed fragment enter q p) in
        let G : Parts × Composed → Type 0 = λ q. Partly r.source end ds (length c.sites) (length c.outlets) q.0 q.1 in
        cond_cases (λ (go : Doing Parts). G (go c)) (nat_lt r.home.room (directive_count acts.uses)) (ends (alone (deep_part name))) (writes go)
        (λ deep. record {
          made = record { after = ds; extends = extends_self ds; well = well; sites = refl; outlets = refl; draws = refl };
          known = λ g. absurd (true≢false g);
        })
        (λ there. full_cases G c.nodes no_parts go c
        (λ j. element_partly r name own acts ats p n a.0 b.0 end ds (record c { nodes = j }) a.1 b.1 b.2 u.0 t.0 top well known ended
        (λ d1 d2 es s g over. contents_inside (region_in acts.uses s r) order p a.0 b.0 end ats es d1 d2 g b.2 top t.1 over))
        (partly_ended r.source end ds c well))

    contents_inside : (r : Region) (order : HasOrder r.source) (p : Contents) (n k end : ℕ) (ats : PartAttributes) (ds : List Bool) (c d : Composed) (h : Sited r.source n k ds c d)
        → after_contents n k ats p ≡ Some end → end ≤ length r.source.sites → contents_draw (is_free r.source.outlets) p ≡ true → d.ended ≡ false
        → Inside r.source (length c.sites) (moved_attributes (moved_by d.moved) ats) end h.after (length d.sites) (length d.outlets) (contents_composed fragment enter r p d).0 (contents_composed fragment enter r p d).1
    contents_inside r order (children ps) n k end ats ds c d h e top free ended =
        let t = had (are_drawn (is_within n k) ats) (after_parts k ps) end e in
        let q : Parts × Composed = parts_composed fragment enter r ps d in
        let m = parts_partly r order ps k end h.after d t.1 top free h.well (λ g. h.known) in
        record {
          after = m.made.after;
          extends = m.made.extends;
          well = m.made.well;
          sites = ap (λ b. cond b (after_parts (length d.sites) q.0) None) (attributes_move (moved_by d.moved) (is_within n k) (is_within (length c.sites) (length d.sites)) (sited_within h) ats t.0) ∙ m.made.sites;
          outlets = m.made.outlets;
          draws = m.made.draws;
          known = m.known;
        }
    contents_inside r order (bound b) n k end ats ds c d h e top free ended = bound_inside r b n k end ats ds c d h e free

    pub parts_partly : (r : Region) (order : HasOrder r.source) (ps : Parts) (n end : ℕ) (ds : List Bool) (c : Composed) → after_parts n ps ≡ Some end → end ≤ length r.source.sites → parts_draw (is_free r.source.outlets) ps ≡ true
        → Well ds c.sites c.outlets → (c.ended ≡ false → Known r.source n ds c.moved) → Partly r.source end ds (length c.sites) (length c.outlets) (parts_composed fragment enter r ps c).0 (parts_composed fragment enter r ps c).1
    parts_partly r order no_parts n end ds c e top free well known =
        let same : n ≡ end = cc in
        record { made = made_none ds c well; known = λ g. known_later (known g) end (omega (arith, same)) ds (extends_self ds) }
    parts_partly r order (part_then p ps) n end ds c e top free well known =
        let t = had_then (after_part n p) (λ k. after_parts k ps) end e in
        let w = and_parts (part_draws (is_free r.source.outlets) p) (parts_draw (is_free r.source.outlets) ps) free in
        let q : Parts × Composed = part_composed fragment enter r p c in
        let others : Parts × Composed = parts_composed fragment enter r ps q.1 in
        let up = parts_rise t.0 end ps t.2 in
        cond_cases (λ (x : Parts × Composed). Partly r.source end ds (length c.sites) (length c.outlets) x.0 x.1) c.ended (no_parts, c) (followed q.0 others.0, others.1)
        (λ over. record { made = made_none ds c well; known = λ g. absurd (true≢false (sym over ∙ g)) })
        (λ on. two_partly (part_partly r order p n t.0 ds c t.1 (omega (arith, up, top)) w.0 well (known on) on) (λ a. parts_partly r order ps t.0 end a.made.after q.1 t.2 top w.1 a.made.well a.known))

-- what is entered, with so much fuel
pub composed_made : (fragment : TplId → ℕ → Option Fragment) → ((t : TplId) (i : ℕ) (g : Fragment) → fragment t i ≡ Some g → HasOrder g) → (fuel : ℕ) (r : Region) → HasOrder r.source → (ds : List Bool) (c : Composed)
    → Well ds c.sites c.outlets → c.moved ≡ [] → c.ended ≡ false → Made ds (length c.sites) (length c.outlets) (composed_in fragment fuel r c).0 (composed_in fragment fuel r c).1
composed_made fragment ordered zero r order ds c well new ended = made_none ds (record c { ended = true }) well
composed_made fragment ordered (suc fuel) r order ds c well new ended =
    (parts_partly fragment (composed_in fragment fuel) ordered (composed_made fragment ordered fuel) r order r.source.parts 0 (length r.source.sites) ds c (whole_sites r.source order) (omega arith) (whole_free r.source order) well
    (λ g. subst (λ (ns : List (Option ℕ)). Known r.source 0 ds ns) (sym new) (known_none r.source 0 ds))).made
