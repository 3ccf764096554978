-- An element by itself, with its directives and its contents.
use Rattle.std.proofs.Common.{◌≡◌, ◌≤◌, ◌+◌, inl, inr, ℕ, Bool, true, false, cond, List, [], ◌∷◌, ◌++◌, length, Option, None, Some, Result, Ok, Err, refl, ap, sym, subst, ◌∙◌, append_assoc, append-nil, length-append, arith}
use Rattle.std.specs.Prelude.{◌||◌, ◌&&◌, not, is_some, option_and_then}
use Rattle.std.specs.List.{flat_map, list_all, list_any}
use Rattle.ng_base.specs.Meets.{◌>>=◌}
use Rattle.ng_collect.specs.Cloak.{kept_attributes}
use Rattle.ng_collect.specs.declared.definition.DirectiveDef.{DirectiveDef}
use Rattle.ng_collect.specs.declared.pick.Pick.{Pick}
use Rattle.ng_control.specs.declared.kind.ControlKind.{ControlKind}
use Rattle.ng_drawing.specs.Template.{Site, Part, Contents}
use Rattle.ng_markup.specs.Forest.{Attributes, Node, Forest, element}
use Rattle.ng_template.specs.Around.{Inside, is_plain, has_picks, has_template}
use Rattle.ng_directives.specs.Places.{first_place, other_places}
use Rattle.ng_elements.specs.Elements.{Made, Switch, switch_in, switch_inside, makes_scope, asks_scope, has_template_of, bare_with, with_head, without_sites, any_templates}
use Rattle.ng_template.specs.Compiles.{element_of_made, after_node, after_forest, inside_made, emptied_inside, element_made, compiled_forest}
use Rattle.ng_directives.specs.Kinds.{control_kind}
use Rattle.ng_directives.specs.Directives.{Head, with_picks, attributes_of}
use Rattle.ng_directives.specs.Manners.{makes_slot, any_makes_slot}
use Rattle.ng_drawing.specs.Numbering.{bound_numbers, is_within, are_drawn, after_own, after_contents, contents_draw}
use Rattle.ng_template.specs.Order.{Met, is_bind, is_switch, any_asks, is_passed_over, is_taken_apart, makes_scope_by, has_switch, told_of, asked_sites, first_pick_refusal, inside_refusal, refusal, FirstRefusal, refused_here, refused_after, pick_sites, inside_sites, sites_at, content_holes}
use Rattle.ng_directives.specs.Texts.{refused, counted}
use Rattle.ng_elements.specs.Using.{Asked, numbers_in, asks_child, asks_isolate, asks_template, asks_transclusion, uses_made, transcludes}
use Rattle.ng_directives.specs.declared.fault.TplFault.{TplFault}
use Rattle.ng_directives.specs.declared.fault.TplKind.{TplKind}
use Rattle.ng_directives.specs.declared.fault.TplKind.TheVariants.{MultiDir}
use Rattle.ng_template.proofs.Asking.{of_uses, Asks, AsksWell, asks_well}
use Rattle.ng_template.proofs.Apart.{Apart, IsInside, all_weaker, apart_element}
use Rattle.ng_template.proofs.Drawn.{Drawn, bare_drawn}
use Rattle.ng_directives.proofs.Numbers.{counted_within, counted-append, after_own-counted}
use Rattle.ng_template.proofs.PlainNodes.{plain-holes, plain-after, plain-outlets}
use Rattle.ng_template.proofs.Picking.{Picked, Answers, picks_answer}
use Rattle.ng_template.proofs.Wholes.{more_sites, other_places_left}
use Rattle.ng_template.proofs.Follows.{of_part, of_parts, Good, walk_all, walk_here, sites_of_forest}
use Rattle.ng_template.proofs.ContentsMade.{TheseInside, nodes_by, sites_by, inside_good, emptied_by}

module _ (defs : List DirectiveDef) (slots : Bool) where
  three_counted : (n a b : ℕ) (xs ys zs : List Site) → a ≡ n + length xs → b ≡ a + length ys → counted n xs ++ (counted a ys ++ counted b zs) ≡ counted n ((xs ++ ys) ++ zs)
  three_counted n a b xs ys zs first second =
      ap (λ (ks : List ℕ). counted n xs ++ ks) (ap (λ k. counted a ys ++ counted k zs) second ∙ (sym (counted-append a ys zs) ∙ ap (λ k. counted k (ys ++ zs)) first))
      ∙ (sym (counted-append n xs (ys ++ zs)) ∙ ap (counted n) (sym (append_assoc xs ys zs)))

  scope_or : (m : Bool) (o : Switch) → is_some (cond m None o) ≡ (not m && is_some o)
  scope_or true o = refl
  scope_or false o = refl

  near_or : (w o : Switch) → is_some (switch_in w o) ≡ (is_some w || is_some o)
  near_or None o = refl
  near_or (Some k) o = refl

  -- An element by itself, where there is a switch round it that is met or not, and a block round it or not.
  module _ (name : List ℕ) (ats : Attributes) (kids : Forest) (met block : Bool) (outer : Switch) (m : Made) (link : (b : Bool) → (not b && is_some outer) ≡ (not (block || b) && met)) where
    abbrev pub others : List ℕ
    others = other_places m.places

    abbrev pub place : ℕ
    place = first_place m.places

    abbrev opened_from : Result Head TplFault → Result (Head × Made) TplFault
    opened_from r = r >>= λ h. Ok (without_sites h, with_head h m)

    abbrev pub this : Node
    this = element name ats kids

    abbrev pub met_this : Met
    met_this = (this, met)

    abbrev pub Alone : List Site → Bool → Bool → Bool → Result (Part × Made) TplFault → Type 0
    Alone ss p a o r =
        Good of_part defs slots outer (length m.sites) ((met_this, place) ∷ cond p [] (walk_all defs slots (not a && o) kids others)) (ss ++ sites_at defs slots (cond (p || a) [] (walk_here defs slots (not a && o) kids others))) (after_forest kids others) m r

    abbrev pub near_in : Inside → Bool
    near_in i = has_switch i || (not (block || makes_scope_by defs i) && met)

    abbrev pub ByItself : Inside → Result (Part × Made) TplFault → Type 0
    ByItself i r = Alone (inside_sites defs ats i) (is_passed_over defs i) (is_taken_apart defs i) (near_in i) r

    abbrev pub KidsGood : Type 0
    KidsGood = (o : Switch) (k : Made) → Good of_parts defs slots o (length k.sites) (walk_all defs slots (is_some o) kids k.places) (sites_of_forest defs slots (is_some o) kids k.places) (after_forest kids k.places) k (compiled_forest defs slots o kids k)

    -- with these directives
    module _ (ps : List Pick) where
      abbrev told : ℕ → Option TplKind
      told = told_of defs ats ps

      abbrev kind : ControlKind
      kind = control_kind name ats ps

      abbrev first_sites : List Site
      first_sites = asked_sites defs ats ps

      abbrev last_sites : List Site
      last_sites = flat_map pick_sites ps

      abbrev own_sites : List Site
      own_sites = first_sites ++ last_sites

      module _ (e : refusal defs slots met_this ≡ first_pick_refusal told ps) (a : Asked) (asks : Asks place defs (kept_attributes ats) (numbers_in ps) m.sites a) where
        abbrev Picks : Head → Type 0
        Picks h = Picked last_sites (list_any is_bind ps) (list_any is_switch ps) (list_any makes_slot ps) (bare_with kind ats a) h

        module _ (none : first_pick_refusal told ps ≡ None) (h : Head) (own : Picks h) where
          abbrev after_head : Made
          after_head = with_head h m

          first_size : length a.sites ≡ length m.sites + length first_sites
          first_size = ap length asks.sites ∙ length-append m.sites first_sites

          last_size : length h.sites ≡ length a.sites + length last_sites
          last_size = ap length own.sites ∙ length-append a.sites last_sites

          grown_sites : h.sites ≡ m.sites ++ own_sites
          grown_sites = own.sites ∙ (ap (λ (ss : List Site). ss ++ last_sites) asks.sites ∙ append_assoc m.sites first_sites last_sites)

          inside_head : IsInside outer (length m.sites) → IsInside outer (length h.sites)
          inside_head i = by outer i
            where
              by : (o : Switch) → IsInside o (length m.sites) → IsInside o (length h.sites)
              by None j = tt
              by (Some k) j = omega (arith, j, first_size, last_size)

          drawn : Drawn (length a.sites) h
          drawn = own.drawn (length a.sites) (bare_drawn kind ats a)

          later : length m.sites ≤ length a.sites
          later = omega (arith, first_size)

          bindings : bound_numbers h.acts ≡ counted (length m.sites) first_sites
          bindings = ap of_uses own.uses ∙ asks.numbers

          abbrev IsMade : List (Met × ℕ) → List Site → Result (Head × Contents × Made) TplFault → Type 0
          IsMade ns ss r = TheseInside defs slots kids outer m h (length a.sites) others drawn ns ss r

          with_inside : (ns : List (Met × ℕ)) (there : List Site) (r : Result (Head × Contents × Made) TplFault) → IsMade ns there r
              → Good of_part defs slots outer (length m.sites) ((met_this, place) ∷ ns) (own_sites ++ there) (after_forest kids others) m (r >>= λ q. Ok (element_of_made name q))
          with_inside ns there (Ok q) g =
              let f = g.0 in
              let numbers : bound_numbers q.0.acts ≡ counted (length m.sites) first_sites = g.1.1 ∙ bindings in
              let own_numbers : q.0.own ≡ counted (length a.sites) last_sites = g.1.0 ∙ own.own in
              let then_contents : ℕ → Option ℕ = λ k. option_and_then (λ c. after_contents k c (attributes_of q.0) q.1) (after_own k q.0.own) in
              record {
                left = f.left;
                sites = f.sites ∙ (ap (λ (ss : List Site). ss ++ there) grown_sites ∙ append_assoc m.sites own_sites there);
                numbers = ap (λ (ks : List ℕ). ks ++ (q.0.own ++ content_holes q.1)) numbers
                    ∙ (ap (λ (ks : List ℕ). counted (length m.sites) first_sites ++ (ks ++ content_holes q.1)) own_numbers
                    ∙ (ap (λ (ks : List ℕ). counted (length m.sites) first_sites ++ (counted (length a.sites) last_sites ++ ks)) f.numbers
                    ∙ three_counted (length m.sites) (length a.sites) (length h.sites) first_sites last_sites there first_size last_size));
                regular = ap (λ (ks : List ℕ). option_and_then then_contents (after_own (length m.sites) ks)) numbers
                    ∙ (ap (option_and_then then_contents) (after_own-counted (length m.sites) first_sites ∙ ap Some (sym first_size))
                    ∙ (ap (λ (ks : List ℕ). option_and_then (λ c. after_contents (length a.sites) c (attributes_of q.0) q.1) (after_own (length a.sites) ks)) own_numbers
                    ∙ (ap (option_and_then (λ c. after_contents (length a.sites) c (attributes_of q.0) q.1)) (after_own-counted (length a.sites) last_sites ∙ ap Some (sym last_size)) ∙ f.regular)));
                outlets = f.outlets;
                none = (e ∙ none, f.none);
                more = f.more;
                whole = λ i w. f.whole (inside_head i) (more_sites m others h.sites (omega (arith, first_size, last_size)) w);
                new = f.new;
                grown = f.grown;
                apart = all_weaker (Apart outer (length a.sites) (length q.2.sites) (λ test. are_drawn test (attributes_of q.0) && contents_draw test q.1))
                    (Apart outer (length m.sites) (length q.2.sites) (λ test. list_all test (bound_numbers q.0.acts) && (are_drawn test (attributes_of q.0) && contents_draw test q.1)))
                    (apart_element (length m.sites) (length a.sites) (length q.2.sites) (bound_numbers q.0.acts) (attributes_of q.0) q.1 outer later (up_to q.2 there f.sites)
                    (ap (list_all (is_within (length m.sites) (length a.sites))) numbers ∙ (ap (λ k. list_all (is_within (length m.sites) k) (counted (length m.sites) first_sites)) first_size ∙ counted_within (length m.sites) first_sites)))
                    f.new f.apart;
              }
            where
              up_to : (k : Made) (ss : List Site) → k.sites ≡ h.sites ++ ss → length a.sites ≤ length k.sites
              up_to k ss grown = let all : length k.sites ≡ length h.sites + length ss = ap length grown ∙ length-append h.sites ss in omega (arith, all, last_size)
          with_inside ns there (Err f) (inl g) = inl (refused_after (e ∙ none) g)
          with_inside ns there (Err f) (inr g) = inr g

          -- what is asked of the element, and what it comes to
          is_transcluding : transcludes defs h.acts.uses ≡ any_asks defs asks_transclusion ps
          is_transcluding = ap (transcludes defs) own.uses ∙ asks.transclusion

          is_templated : has_template_of h.acts.uses ≡ any_asks defs asks_template ps
          is_templated = ap has_template_of own.uses ∙ asks.templates

          is_scoped : makes_scope defs h.acts ≡ makes_scope_by defs (has_picks ps)
          is_scoped =
              ap (λ (b : Bool). b || (asks_scope h.acts.uses || transcludes defs h.acts.uses)) own.slot
              ∙ (ap (λ (b : Bool). any_makes_slot ps || (b || transcludes defs h.acts.uses)) (ap asks_scope own.uses ∙ asks.scope)
              ∙ ap (λ (b : Bool). any_makes_slot ps || ((any_asks defs asks_child ps || any_asks defs asks_isolate ps) || b)) is_transcluding)

          has_inner : is_some (switch_inside defs (without_sites h) outer) ≡ near_in (has_picks ps)
          has_inner =
              near_or h.switch (cond (makes_scope defs h.acts) None outer)
              ∙ (ap (λ (b : Bool). is_some h.switch || b) (scope_or (makes_scope defs h.acts) outer ∙ (link (makes_scope defs h.acts) ∙ ap (λ (b : Bool). not (block || b) && met) is_scoped))
              ∙ ap (λ (b : Bool). b || (not (block || makes_scope_by defs (has_picks ps)) && met)) own.switch)

          abbrev made_there : Result (Part × Made) TplFault
          made_there = inside_made defs kids (λ o k. compiled_forest defs slots o kids k) outer (without_sites h) after_head >>= λ q. Ok (element_of_made name q)

          headed_good : KidsGood → ByItself (has_picks ps) made_there
          headed_good go = by_flags (transcludes defs h.acts.uses) (any_asks defs asks_transclusion ps) (has_template_of h.acts.uses) (any_asks defs asks_template ps) (is_some h.bound) (list_any is_bind ps) (is_some (switch_inside defs (without_sites h) outer)) (near_in (has_picks ps))
              is_transcluding is_templated own.bound has_inner
              (with_inside (nodes_by defs slots kids outer m h (length a.sites) others drawn go (transcludes defs h.acts.uses) (has_template_of h.acts.uses) h.bound)
              (sites_by defs slots kids outer m h (length a.sites) others drawn go (transcludes defs h.acts.uses) (has_template_of h.acts.uses) h.bound)
              (inside_made defs kids (λ o k. compiled_forest defs slots o kids k) outer (without_sites h) after_head) (inside_good defs slots kids outer m h (length a.sites) others drawn go))
            where
              by_flags : (t u e f b c o p : Bool) → t ≡ u → e ≡ f → b ≡ c → o ≡ p
                  → Alone own_sites (not t && (e || b)) (t && (e || b)) o made_there → Alone own_sites (not u && (f || c)) (u && (f || c)) p made_there
              by_flags t u e f b c o p first second third last g =
                  subst (λ x. Alone own_sites (not x && (f || c)) (x && (f || c)) p made_there) first
                  (subst (λ x. Alone own_sites (not t && (x || c)) (t && (x || c)) p made_there) second
                  (subst (λ x. Alone own_sites (not t && (e || x)) (t && (e || x)) p made_there) third
                  (subst (λ x. Alone own_sites (not t && (e || b)) (t && (e || b)) x made_there) last g)))

          abbrev emptied_there : Result (Part × Made) TplFault
          emptied_there = emptied_inside defs kids (λ o k. compiled_forest defs slots o kids k) (without_sites h) after_head >>= λ q. Ok (element_of_made name q)

          emptied_good : KidsGood → ByItself (has_template ps) emptied_there
          emptied_good go =
              subst (λ x. Alone own_sites (not x) x (near_in (has_template ps)) emptied_there) is_transcluding
              (with_inside (cond (not (transcludes defs h.acts.uses)) [] (walk_all defs slots (not (transcludes defs h.acts.uses) && near_in (has_template ps)) kids others))
              (sites_at defs slots (cond (not (transcludes defs h.acts.uses) || transcludes defs h.acts.uses) [] (walk_here defs slots (not (transcludes defs h.acts.uses) && near_in (has_template ps)) kids others)))
              (emptied_inside defs kids (λ o k. compiled_forest defs slots o kids k) (without_sites h) after_head)
              (emptied_by defs slots kids outer m h (length a.sites) others drawn go (transcludes defs h.acts.uses) (near_in (has_template ps))))

        abbrev HeadAnswers : Result Head TplFault → Type 0
        HeadAnswers r = Answers place last_sites (list_any is_bind ps) (list_any is_switch ps) (list_any makes_slot ps) (first_pick_refusal told ps) (bare_with kind ats a) r

        refused_there : (p b o : Bool) (f : TplFault) → (f.place ≡ place) × (first_pick_refusal told ps ≡ Some f.kind) → Alone own_sites p b o (Err f)
        refused_there p b o f g =
            let here : refusal defs slots met_this ≡ Some f.kind = e ∙ g.1 in
            let at : refused f.kind place ≡ f = ap (refused f.kind) (sym g.0) in
            inl (subst (λ x. FirstRefusal defs slots ((met_this, place) ∷ cond p [] (walk_all defs slots (not b && o) kids others)) x) at (refused_here here))

        picked_good : KidsGood → (r : Result Head TplFault) → HeadAnswers r
            → ByItself (has_picks ps) (opened_from r >>= λ x. inside_made defs kids (λ o k. compiled_forest defs slots o kids k) outer x.0 x.1 >>= λ q. Ok (element_of_made name q))
        picked_good go (Ok h) g = headed_good g.1 h g.0 go
        picked_good go (Err f) (inl g) = refused_there (is_passed_over defs (has_picks ps)) (is_taken_apart defs (has_picks ps)) (near_in (has_picks ps)) f g
        picked_good go (Err f) (inr g) = inr g

        templated_good : KidsGood → (r : Result Head TplFault) → HeadAnswers r
            → ByItself (has_template ps) (opened_from r >>= λ x. emptied_inside defs kids (λ o k. compiled_forest defs slots o kids k) x.0 x.1 >>= λ q. Ok (element_of_made name q))
        templated_good go (Ok h) g = emptied_good g.1 h g.0 go
        templated_good go (Err f) (inl g) = refused_there (is_passed_over defs (has_template ps)) (is_taken_apart defs (has_template ps)) (near_in (has_template ps)) f g
        templated_good go (Err f) (inr g) = inr g

        head_answers : HeadAnswers (with_picks place ps (bare_with kind ats a))
        head_answers = picks_answer place told ps (bare_with kind ats a) asks.tells

      abbrev asked_here : Result Asked TplFault
      asked_here = uses_made place defs ps (kept_attributes ats) m.sites

      abbrev headed : Result Asked TplFault → Result Head TplFault
      headed r = (r >>= λ a. Ok (bare_with kind ats a)) >>= with_picks place ps

      picks_good : KidsGood → refusal defs slots met_this ≡ first_pick_refusal told ps → (r : Result Asked TplFault) → AsksWell place defs (kept_attributes ats) (numbers_in ps) m.sites r
          → ByItself (has_picks ps) (opened_from (headed r) >>= λ x. inside_made defs kids (λ o k. compiled_forest defs slots o kids k) outer x.0 x.1 >>= λ q. Ok (element_of_made name q))
      picks_good go e (Ok a) g = picked_good e a g go (with_picks place ps (bare_with kind ats a)) (head_answers e a g)
      picks_good go e (Err f) g = inr g

      template_good : KidsGood → refusal defs slots met_this ≡ first_pick_refusal told ps → (r : Result Asked TplFault) → AsksWell place defs (kept_attributes ats) (numbers_in ps) m.sites r
          → ByItself (has_template ps) (opened_from (headed r) >>= λ x. emptied_inside defs kids (λ o k. compiled_forest defs slots o kids k) x.0 x.1 >>= λ q. Ok (element_of_made name q))
      template_good go e (Ok a) g = templated_good e a g go (with_picks place ps (bare_with kind ats a)) (head_answers e a g)
      template_good go e (Err f) g = inr g

    pub alone_good : KidsGood → (i : Inside) → refusal defs slots met_this ≡ inside_refusal defs ats i → ByItself i (element_made defs this name ats kids i (λ o k. compiled_forest defs slots o kids k) outer m)
    alone_good go is_plain e = record {
      left = refl;
      sites = sym (append-nil m.sites);
      numbers = plain-holes this;
      regular = plain-after (length m.sites) this;
      outlets = plain-outlets (length m.outlets) this;
      none = (e, tt);
      more = omega arith;
      whole = λ i w. other_places_left m (after_node this m.places) w;
      new = [];
      grown = sym (append-nil m.outlets);
      apart = tt;
    }
    alone_good go (has_picks ps) e = picks_good ps go e (asked_here ps) (asks_well place defs (kept_attributes ats) (numbers_in ps) m.sites)
    alone_good go (has_template ps) e = by_contents (any_templates defs ps) e
      where
        by_contents : (b : Bool) → refusal defs slots met_this ≡ cond b (Some MultiDir) (first_pick_refusal (told_of defs ats ps) ps)
            → ByItself (has_template ps) (cond b (Err (refused MultiDir place)) (opened_from (headed ps (asked_here ps)) >>= λ x. emptied_inside defs kids (λ o k. compiled_forest defs slots o kids k) x.0 x.1 >>= λ q. Ok (element_of_made name q)))
        by_contents true f = inl (refused_here f)
        by_contents false f = template_good ps go f (asked_here ps) (asks_well place defs (kept_attributes ats) (numbers_in ps) m.sites)
