-- The contents of an element: its children, or a text or a template in their place; and children that are a body of their own.
use Rattle.std.proofs.Common.{◌≡◌, ◌≤◌, ◌+◌, ◌⊎◌, inl, inr, ℕ, Bool, true, false, cond, List, [], ◌∷◌, ◌++◌, length, Option, None, Some, Result, Ok, Err, refl, ap, sym, subst, ◌∙◌, append-nil, length-append, arith}
use Rattle.std.specs.Prelude.{◌||◌, ◌&&◌, not, nat_le, is_some, option_map}
use Rattle.std.specs.List.{list_all}
use Rattle.ng_base.specs.Meets.{◌>>=◌}
use Rattle.ng_collect.specs.declared.definition.DirectiveDef.{DirectiveDef}
use Rattle.ng_drawing.specs.Template.{Site, Outlet, PartAttributes, Uses, Contents, Parts, children, Fragment}
use Rattle.ng_markup.specs.Forest.{Forest}
use Rattle.ng_elements.specs.Elements.{Made, Switch, switch_in, switch_inside, makes_scope, has_template_of, without_sites, in_place, content_number, with_content, apart_made, fragment_made}
use Rattle.ng_template.specs.Compiles.{after_forest, passed_over, contents_made, inside_made, begun_body, compiled_forest}
use Rattle.ng_directives.specs.Directives.{Head, attributes_of}
use Rattle.ng_directives.specs.Limits.{site_limit, worn}
use Rattle.ng_drawing.specs.Numbering.{bound_numbers, is_within, is_apart, are_drawn, after_contents, after_parts, contents_draw, parts_draw, outlets_of_contents, is_undrawn, are_undrawn}
use Rattle.ng_template.specs.Order.{Met, FirstRefusal, NoneRefused, sites_at, content_holes}
use Rattle.ng_elements.specs.Using.{transcludes}
use Rattle.ng_directives.specs.declared.fault.TplFault.{TplFault}
use Rattle.ng_template.proofs.Asking.{of_uses}
use Rattle.ng_template.proofs.Apart.{Apart, IsInside, all_weaker, apart_contents, all_apart}
use Rattle.ng_parts.proofs.Within.{apart_from, within_parts}
use Rattle.ng_template.proofs.Drawn.{is_bound_within, Drawn, all_drawn, bound_alone, plain_alone}
use Rattle.ng_template.proofs.Wholes.{Whole, body_added, other_places_left, begun_whole}
use Rattle.ng_template.proofs.Follows.{Follows, of_parts, Good, walk_all, walk_here, sites_of_forest}

module _ (defs : List DirectiveDef) (slots : Bool) where
  -- the contents of an element, whose own sites are those from n on, and those of its directives' bindings before these
  module _ (kids : Forest) (outer : Switch) (m : Made) (h : Head) (n : ℕ) (places : List ℕ) (d : Drawn n h) where
    abbrev pub within : Made
    within = record m { places = places; sites = h.sites }

    abbrev pub head : Head
    head = without_sites h

    abbrev pub inner : Switch
    inner = switch_inside defs head outer

    abbrev pub TheseContents : List (Met × ℕ) → List Site → Head → Contents → Made → Type 0
    TheseContents ns ss g x k =
        Follows defs slots ns ss (after_forest kids places) within (content_holes x) (after_contents n (length h.sites) (attributes_of g) x) (outlets_of_contents (length m.outlets) x)
        (λ test. are_drawn test (attributes_of g) && contents_draw test x) outer n k

    -- the same element, but for the children that slots are given
    abbrev pub SameHead : Head → Type 0
    SameHead g = (g.own ≡ h.own) × (bound_numbers g.acts ≡ bound_numbers h.acts)

    abbrev pub TheseInside : List (Met × ℕ) → List Site → Result (Head × Contents × Made) TplFault → Type 0
    TheseInside ns ss (Ok q) = TheseContents ns ss q.0 q.1 q.2 × SameHead q.0
    TheseInside ns ss (Err f) = FirstRefusal defs slots ns f ⊎ (f ≡ worn)

    switch_there : (w : Switch) → is_bound_within n (length h.sites) w ≡ true → (o : Switch) → IsInside o (length h.sites) → IsInside (switch_in w o) (length h.sites)
    switch_there None e o i = i
    switch_there (Some k) e o i = (within_parts n (length h.sites) k e).1

    inside_inner : IsInside outer (length h.sites) → IsInside inner (length h.sites)
    inside_inner i = switch_there h.switch d.switch (cond (makes_scope defs h.acts) None outer) (by (makes_scope defs h.acts))
      where
        by : (b : Bool) → IsInside (cond b None outer) (length h.sites)
        by true = tt
        by false = i

    drawn_where : (o : Option ℕ) → h.bound ≡ o → are_drawn (apart_from o h.switch n (length h.sites)) (attributes_of h) ≡ true
    drawn_where o is = subst (λ (x : Option ℕ). are_drawn (apart_from x h.switch n (length h.sites)) (attributes_of h) ≡ true) is (all_drawn n h d)

    -- a text stands in place of the children, or nothing
    in_place_good : (g : Head) → attributes_of g ≡ attributes_of h → (o : Option ℕ) → h.bound ≡ o → (ns : List (Met × ℕ)) → NoneRefused defs slots ns → (k : Made) → k.places ≡ after_forest kids places → k.sites ≡ h.sites → k.outlets ≡ m.outlets
        → length m.bodies ≤ length k.bodies → (Whole within → Whole k) → TheseContents ns [] g (in_place o) k
    in_place_good g same None is ns none k left sites outlets more whole = record {
      left = left;
      sites = sites ∙ sym (append-nil h.sites);
      numbers = refl;
      regular = ap (λ (ats : PartAttributes). cond (are_drawn (is_within n (length h.sites)) ats) (Some (length h.sites)) None) same
          ∙ (ap (λ x. cond x (Some (length h.sites)) None) (plain_alone n (length h.sites) h.switch (attributes_of h) (drawn_where None is)) ∙ ap (λ (xs : List Site). Some (length xs)) (sym sites));
      outlets = ap (λ (xs : List Outlet). Some (length xs)) (sym outlets);
      none = none;
      more = more;
      whole = λ i w. whole w;
      new = [];
      grown = outlets ∙ sym (append-nil m.outlets);
      apart = tt;
    }
    in_place_good g same (Some b) is ns none k left sites outlets more whole =
        let bound : is_bound_within n (length h.sites) (Some b) ≡ true = subst (λ (o : Option ℕ). is_bound_within n (length h.sites) o ≡ true) is d.bound in
        record {
          left = left;
          sites = sites ∙ sym (append-nil h.sites);
          numbers = refl;
          regular = ap (λ (ats : PartAttributes). cond (is_within n (length h.sites) b && are_drawn (is_apart b n (length h.sites)) ats) (Some (length h.sites)) None) same
              ∙ (ap (λ x. cond x (Some (length h.sites)) None) (bound_alone b n (length h.sites) h.switch (attributes_of h) bound (drawn_where (Some b) is)) ∙ ap (λ (xs : List Site). Some (length xs)) (sym sites));
          outlets = ap (λ (xs : List Outlet). Some (length xs)) (sym outlets);
          none = none;
          more = more;
          whole = λ i w. whole w;
          new = [];
          grown = outlets ∙ sym (append-nil m.outlets);
          apart = tt;
        }

    -- children that are not compiled
    passed_good : (o : Option ℕ) → h.bound ≡ o → TheseContents [] [] head (in_place o) (passed_over kids within)
    passed_good o is = in_place_good head refl o is [] tt (passed_over kids within) refl refl refl (omega arith) (λ w. other_places_left within (after_forest kids places) w)

    -- children that are the contents
    abbrev GoodWithin : Switch → Result (Parts × Made) TplFault → Type 0
    GoodWithin o r = Good of_parts defs slots o (length h.sites) (walk_all defs slots (is_some o) kids places) (sites_of_forest defs slots (is_some o) kids places) (after_forest kids places) within r

    abbrev with_children : Result (Parts × Made) TplFault → Result (Contents × Made) TplFault
    with_children r = r >>= λ s. Ok (children s.0, s.1)

    abbrev under_head : Result (Contents × Made) TplFault → Result (Head × Contents × Made) TplFault
    under_head r = r >>= λ q. Ok (head, q.0, q.1)

    children_good : h.bound ≡ None → (r : Result (Parts × Made) TplFault) → GoodWithin inner r
        → TheseInside (walk_all defs slots (is_some inner) kids places) (sites_of_forest defs slots (is_some inner) kids places) (under_head (with_children r))
    children_good is (Ok s) g =
        let test : are_drawn (apart_from None h.switch n (length h.sites)) (attributes_of h) ≡ true = drawn_where None is in (
          record {
            left = g.left;
            sites = g.sites;
            numbers = g.numbers;
            regular = ap (λ x. cond x (after_parts (length h.sites) s.0) None) (plain_alone n (length h.sites) h.switch (attributes_of h) test) ∙ g.regular;
            outlets = g.outlets;
            none = g.none;
            more = g.more;
            whole = λ i w. g.whole (inside_inner i) w;
            new = g.new;
            grown = g.grown;
            apart = all_weaker (Apart inner (length h.sites) (length s.1.sites) (λ t. parts_draw t s.0)) (Apart outer n (length s.1.sites) (λ t. are_drawn t (attributes_of h) && parts_draw t s.0)) (apart_here test s g.regular) g.new g.apart;
          },
          (refl, refl),
        )
      where
        apart_here : are_drawn (apart_from None h.switch n (length h.sites)) (attributes_of h) ≡ true → (s : Parts × Made) → after_parts (length h.sites) s.0 ≡ Some (length s.1.sites) → (x : Outlet)
            → Apart inner (length h.sites) (length s.1.sites) (λ t. parts_draw t s.0) x → Apart outer n (length s.1.sites) (λ t. are_drawn t (attributes_of h) && parts_draw t s.0) x
        apart_here test s regular x a =
            apart_contents n (length h.sites) (length s.1.sites) (attributes_of h) s.0 h.switch outer d.least d.switch test regular x (without_scope (makes_scope defs h.acts) x a)
          where
            without_scope : (b : Bool) (y : Outlet) → Apart (switch_in h.switch (cond b None outer)) (length h.sites) (length s.1.sites) (λ t. parts_draw t s.0) y
                → Apart (switch_in h.switch outer) (length h.sites) (length s.1.sites) (λ t. parts_draw t s.0) y
            without_scope false y w = w
            without_scope true y (inr w) = inr w
            without_scope true y (inl w) = inl (of_switch h.switch w)
              where
                of_switch : (v : Switch) → switch_in v None ≡ Some y.site → switch_in v outer ≡ Some y.site
                of_switch None f = absurd (cc)
                of_switch (Some k) f = f
    children_good is (Err f) g = g

    -- children that are a body of their own
    abbrev pub begun_within : Made
    begun_within = begun_body within

    abbrev pub apart_body : Parts × Made → List Fragment
    apart_body s = s.1.bodies ++ fragment_made s ∷ []

    abbrev GoodApart : Result (Parts × Made) TplFault → Type 0
    GoodApart r = Good of_parts defs slots None 0 (walk_all defs slots false kids places) (sites_of_forest defs slots false kids places) (after_forest kids places) begun_within r

    given_good : (s : Parts × Made) → GoodApart (Ok s) → (b : Bool)
        → TheseInside (walk_all defs slots false kids places) [] (cond b (Ok (with_content (content_number kids (apart_body s)) head, in_place h.bound, record within { places = s.1.places; bodies = apart_body s })) (Err worn))
    given_good s g false = inr refl
    given_good s g true =
        let size : length (apart_body s) ≡ length s.1.bodies + length (fragment_made s ∷ []) = length-append s.1.bodies (fragment_made s ∷ []) in
        let before : length m.bodies ≤ length s.1.bodies = g.more in
        let undrawn : are_undrawn (fragment_made s) ≡ true
        = subst (λ (os : List Outlet). list_all (is_undrawn (length s.1.sites) s.0) os ≡ true) (sym g.grown) (all_apart (length s.1.sites) (λ test. parts_draw test s.0) g.new g.apart) in (
          in_place_good (with_content (content_number kids (apart_body s)) head) refl h.bound refl (walk_all defs slots false kids places) g.none (record within { places = s.1.places; bodies = apart_body s }) g.left refl refl (omega (arith, before, size))
              (λ w. body_added within s.1.places s.0 s.1 (omega (arith, before, size)) g.regular g.outlets undrawn w (g.whole tt (begun_whole within w))),
          (refl, same_numbers h.acts.uses),
        )
      where
        same_numbers : (u : Option Uses) → of_uses (option_map (λ (v : Uses). record v { content = content_number kids (apart_body s) }) u) ≡ of_uses u
        same_numbers None = refl
        same_numbers (Some v) = refl

    apart_good : (r : Result (Parts × Made) TplFault) → GoodApart r → TheseInside (walk_all defs slots false kids places) [] (r >>= apart_made kids head within)
    apart_good (Ok s) g = given_good s g (nat_le (length (apart_body s)) site_limit)
    apart_good (Err f) g = g

    abbrev pub KidsThere : Type 0
    KidsThere = (o : Switch) (k : Made) → Good of_parts defs slots o (length k.sites) (walk_all defs slots (is_some o) kids k.places) (sites_of_forest defs slots (is_some o) kids k.places) (after_forest kids k.places) k (compiled_forest defs slots o kids k)

    module _ (go : KidsThere) where
      -- whether they are not compiled, and whether they are a body of their own
      abbrev pub passes : Bool → Bool → Option ℕ → Bool
      passes t e o = not t && (e || is_some o)

      abbrev pub parts_off : Bool → Bool → Option ℕ → Bool
      parts_off t e o = t && (e || is_some o)

      abbrev pub nodes_by : Bool → Bool → Option ℕ → List (Met × ℕ)
      nodes_by t e o = cond (passes t e o) [] (walk_all defs slots (not (parts_off t e o) && is_some inner) kids places)

      abbrev pub sites_by : Bool → Bool → Option ℕ → List Site
      sites_by t e o = sites_at defs slots (cond (passes t e o || parts_off t e o) [] (walk_here defs slots (not (parts_off t e o) && is_some inner) kids places))

      abbrev pub apart_there : Result (Head × Contents × Made) TplFault
      apart_there = compiled_forest defs slots None kids begun_within >>= apart_made kids head within

      inside_by : (t e : Bool) (o : Option ℕ) → h.bound ≡ o
          → TheseInside (nodes_by t e o) (sites_by t e o)
          (cond (t && (e || is_some o)) apart_there
          (cond e (Ok (head, in_place o, passed_over kids within)) (contents_made o kids within (compiled_forest defs slots inner kids within) >>= λ r. Ok (head, r.0, r.1))))
      inside_by true true o is = apart_good (compiled_forest defs slots None kids begun_within) (go None begun_within)
      inside_by true false (Some b) is = apart_good (compiled_forest defs slots None kids begun_within) (go None begun_within)
      inside_by true false None is = children_good is (compiled_forest defs slots inner kids within) (go inner within)
      inside_by false true o is = (passed_good o is, (refl, refl))
      inside_by false false (Some b) is = (passed_good (Some b) is, (refl, refl))
      inside_by false false None is = children_good is (compiled_forest defs slots inner kids within) (go inner within)

      pub inside_good : TheseInside (nodes_by (transcludes defs h.acts.uses) (has_template_of h.acts.uses) h.bound) (sites_by (transcludes defs h.acts.uses) (has_template_of h.acts.uses) h.bound)
          (inside_made defs kids (λ o k. compiled_forest defs slots o kids k) outer head within)
      inside_good = inside_by (transcludes defs h.acts.uses) (has_template_of h.acts.uses) h.bound refl

      -- a template that is included stands in place of the children
      pub emptied_by : (t : Bool) (nigh : Bool)
          → TheseInside (cond (not t) [] (walk_all defs slots (not t && nigh) kids places)) (sites_at defs slots (cond (not t || t) [] (walk_here defs slots (not t && nigh) kids places)))
          (cond t apart_there (Ok (head, in_place h.bound, passed_over kids within)))
      emptied_by true nigh = apart_good (compiled_forest defs slots None kids begun_within) (go None begun_within)
      emptied_by false nigh = (passed_good h.bound refl, (refl, refl))
