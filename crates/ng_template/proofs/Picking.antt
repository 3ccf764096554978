-- The directives of an element, one after another: their sites, what is drawn of them, and the first that is refused.
use Rattle.std.proofs.Common.{◌≡◌, ◌+◌, ◌⊎◌, inl, inr, ℕ, Bool, true, false, cond, List, [], ◌∷◌, ◌++◌, length, Option, None, Some, Result, Ok, Err, refl, ap, sym, subst, ◌∙◌, append_assoc, append-nil, length-append}
use Rattle.std.specs.List.{flat_map, list_any}
use Rattle.std.specs.Prelude.{◌||◌, is_some, nat_lt}
use Rattle.ng_base.specs.Meets.{◌>>=◌}
use Rattle.ng_collect.specs.declared.pick.Pick.{Pick}
use Rattle.ng_drawing.specs.Template.{Site, Uses}
use Rattle.ng_interp.specs.Parts as interp
use Rattle.ng_interp.specs.declared.pieces.InterpFault.{InterpFault}
use Rattle.ng_language.specs.Trees.{Trees}
use Rattle.ng_directives.specs.Directives.{Head, text_on, parts_for, kind_for, bound_by, switch_by, with_parts, if_it_fits, with_start, with_handler, with_model, with_change, with_slot, is_bound_by, unless_wrong, with_manner, with_picks}
use Rattle.ng_directives.specs.Limits.{site_limit, worn}
use Rattle.ng_directives.specs.Manners.{manner_of, is_slotting, makes_slot, event_name}
use Rattle.ng_template.specs.Order.{text_refusal, writing_refusal, manner_refusal, pick_refusal, first_of, first_pick_refusal, is_binding, is_bind, is_choosing, is_switch, text_sites, manner_sites, pick_sites}
use Rattle.ng_directives.specs.Programs.{program_in, program_refusal, judged_program}
use Rattle.ng_directives.specs.Texts.{judged, counted, sites_in}
use Rattle.ng_directives.specs.Writing.{writing_in, judged_writing}
use Rattle.ng_directives.specs.declared.fault.TplFault.{TplFault}
use Rattle.ng_directives.specs.declared.fault.TplKind.{TplKind}
use Rattle.ng_directives.specs.declared.manners.Manner.{Manner}
use Rattle.ng_directives.specs.declared.manners.Manner.TheVariants.{Sets, Models, Changes, Starts, Handles, Fills, Passes, Slots, Asks}
use Rattle.ng_directives.specs.declared.manners.Setting.{Setting}
use Rattle.ng_directives.specs.declared.manners.Setting.TheVariants.{Interpolates, Links, Switches, Binds, Classes, Shows, Hides, Chooses, Names}
use Rattle.ng_template.proofs.Asking.{Told}
use Rattle.ng_template.proofs.Drawn.{Drawn, parts_drawn, model_drawn, change_drawn}
use Rattle.ng_template.proofs.Judging.{Judged, fine, faulty, judged_is, JudgedProgram, program_fine, program_faulty, judged_program_is}
use Rattle.ng_directives.proofs.Numbers.{counted-append}

-- what directives with these sites make of an element, some of which puts a text in place of the children, or chooses among cases, or makes it a
-- slot, or none
pub record Picked (ss : List Site) (binds chooses slots : Bool) (h k : Head) : Type 0 where
  pub own : k.own ≡ h.own ++ counted (length h.sites) ss
  pub sites : k.sites ≡ h.sites ++ ss
  pub bound : is_some k.bound ≡ (is_some h.bound || binds)
  pub switch : is_some k.switch ≡ (is_some h.switch || chooses)
  pub slot : k.acts.slot ≡ (h.acts.slot || slots)
  pub uses : k.acts.uses ≡ h.acts.uses
  pub wrong : k.wrong ≡ h.wrong
  pub drawn : (n : ℕ) → Drawn n h → Drawn n k

-- the answer is such an element, where none is refused, or the refusal
abbrev pub Answers : ℕ → List Site → Bool → Bool → Bool → Option TplKind → Head → Result Head TplFault → Type 0
Answers place ss binds chooses slots o h (Ok k) = Picked ss binds chooses slots h k × (o ≡ None)
Answers place ss binds chooses slots o h (Err f) = ((f.place ≡ place) × (o ≡ Some f.kind)) ⊎ (f ≡ worn)

or-false : (b : Bool) → b ≡ (b || false)
or-false true = refl
or-false false = refl

or-true : (b : Bool) → true ≡ (b || true)
or-true true = refl
or-true false = refl

or-assoc : (a b c : Bool) → ((a || b) || c) ≡ (a || (b || c))
or-assoc true b c = refl
or-assoc false b c = refl

bound_after : (s : Setting) (n : ℕ) (o : Option ℕ) → is_some (bound_by s n o) ≡ (is_some o || is_binding (Sets s))
bound_after Interpolates n o = or-false (is_some o)
bound_after Links n o = or-false (is_some o)
bound_after Switches n o = or-false (is_some o)
bound_after Binds n o = or-true (is_some o)
bound_after Classes n o = or-false (is_some o)
bound_after Shows n o = or-false (is_some o)
bound_after Hides n o = or-false (is_some o)
bound_after Chooses n o = or-false (is_some o)
bound_after Names n o = or-false (is_some o)

switch_after : (s : Setting) (n : ℕ) (o : Option ℕ) → is_some (switch_by s n o) ≡ (is_some o || is_choosing (Sets s))
switch_after Interpolates n o = or-false (is_some o)
switch_after Links n o = or-false (is_some o)
switch_after Switches n o = or-false (is_some o)
switch_after Binds n o = or-false (is_some o)
switch_after Classes n o = or-false (is_some o)
switch_after Shows n o = or-false (is_some o)
switch_after Hides n o = or-false (is_some o)
switch_after Chooses n o = or-true (is_some o)
switch_after Names n o = or-false (is_some o)

-- nothing is watched
acted : (slots : Bool) (h k : Head) → k.own ≡ h.own → k.sites ≡ h.sites → k.bound ≡ h.bound → k.switch ≡ h.switch → k.acts.slot ≡ (h.acts.slot || slots) → k.acts.uses ≡ h.acts.uses → k.wrong ≡ h.wrong
    → ((n : ℕ) → Drawn n h → Drawn n k) → Picked [] false false slots h k
acted slots h k own sites bound switch slot uses wrong drawn = record {
  own = own ∙ sym (append-nil h.own);
  sites = sites ∙ sym (append-nil h.sites);
  bound = ap is_some bound ∙ or-false (is_some h.bound);
  switch = ap is_some switch ∙ or-false (is_some h.switch);
  slot = slot;
  uses = uses;
  wrong = wrong;
  drawn = drawn;
}

-- what is told at the turn of each directive
abbrev pub Tells : ℕ → (ℕ → Option TplKind) → Head → Type 0
Tells place told h = (n : ℕ) → Told place (told n) (cond (is_bound_by n h.acts.uses) h.wrong None)

module _ (place : ℕ) where
  module _ (p : Pick) (h : Head) where
    fitting : (s : Setting) (ps : List interp.Piece) → parts_for s (text_on p.attribute) ≡ Ok ps → (o : Option TplKind) → o ≡ None → (b : Bool)
        → Answers place (sites_in (kind_for s) ps) (is_binding (Sets s)) (is_choosing (Sets s)) false o h (cond b (Err worn) (Ok (with_parts p s ps h)))
    fitting s ps e o none true = inr refl
    fitting s ps e o none false =
        (record { own = refl; sites = refl; bound = bound_after s (length h.sites) h.bound; switch = switch_after s (length h.sites) h.switch; slot = or-false h.acts.slot; uses = refl; wrong = refl; drawn = λ n g. parts_drawn p s ps e n h g }, none)

    set : (s : Setting) (r : Result (List interp.Piece) InterpFault) → parts_for s (text_on p.attribute) ≡ r → (j : Result (List interp.Piece) TplFault) → Judged place r j
        → Answers place (text_sites (kind_for s) r) (is_binding (Sets s)) (is_choosing (Sets s)) false (text_refusal r) h (j >>= λ ps. if_it_fits p s ps h)
    set s (Ok ps) e (Ok qs) (fine same none) =
        let here : ps ≡ qs = (cc) in
        let there = subst (λ x. parts_for s (text_on p.attribute) ≡ Ok x) here e in
        subst (λ x. Answers place (sites_in (kind_for s) x) (is_binding (Sets s)) (is_choosing (Sets s)) false (text_refusal (Ok x)) h (if_it_fits p s qs h)) (sym here)
        (fitting s qs there (text_refusal (Ok qs)) (ap (λ x. text_refusal (Ok x)) (sym here) ∙ none) (nat_lt site_limit (length h.sites + length (sites_in (kind_for s) qs))))
    set s (Err f) e (Ok qs) (fine same none) = absurd (cc)
    set s r e (Err f) (faulty is) = inl (refl, is)

    started : (o : Option Trees) (j : Result Trees TplFault) → JudgedProgram place o j → Answers place [] false false false (program_refusal o) h (j >>= λ b. Ok (with_start b h))
    started o (Ok b) (program_fine none) =
        (acted false h (with_start b h) refl refl refl refl (or-false h.acts.slot) refl refl (λ n g. record { least = g.least; bound = g.bound; switch = g.switch; attributes = g.attributes; class = g.class; control = g.control }), none)
    started o (Err f) (program_faulty is) = inl (refl, is)

    handled : (event : List ℕ) (o : Option Trees) (j : Result Trees TplFault) → JudgedProgram place o j → Answers place [] false false false (program_refusal o) h (j >>= λ b. Ok (with_handler event b h))
    handled event o (Ok b) (program_fine none) =
        (acted false h (with_handler event b h) refl refl refl refl (or-false h.acts.slot) refl refl (λ n g. record { least = g.least; bound = g.bound; switch = g.switch; attributes = g.attributes; class = g.class; control = g.control }), none)
    handled event o (Err f) (program_faulty is) = inl (refl, is)

    changed : (o : Option Trees) (j : Result Trees TplFault) → JudgedProgram place o j → Answers place [] false false false (program_refusal o) h (j >>= λ b. Ok (with_change b h))
    changed o (Ok b) (program_fine none) = (acted false h (with_change b h) refl refl refl refl (or-false h.acts.slot) refl refl (λ n g. change_drawn b n h g), none)
    changed o (Err f) (program_faulty is) = inl (refl, is)

    -- a model that can be written to
    module _ (b : Trees) where
      model_fitting : (ps : List interp.Piece) → parts_for Names (text_on p.attribute) ≡ Ok ps → (o : Option TplKind) → o ≡ None → (full : Bool)
          → Answers place (sites_in (kind_for Names) ps) false false false o h (cond full (Err worn) (Ok (with_parts p Names ps (with_model (length h.sites) b h))))
      model_fitting ps e o none true = inr refl
      model_fitting ps e o none false =
          (record { own = refl; sites = refl; bound = or-false (is_some h.bound); switch = or-false (is_some h.switch); slot = or-false h.acts.slot; uses = refl; wrong = refl; drawn = λ n g. model_drawn p b ps e n h g }, none)

      model_set : (r : Result (List interp.Piece) InterpFault) → parts_for Names (text_on p.attribute) ≡ r → (j : Result (List interp.Piece) TplFault) → Judged place r j
          → Answers place (text_sites (kind_for Names) r) false false false (text_refusal r) h (j >>= λ ps. if_it_fits p Names ps (with_model (length h.sites) b h))
      model_set (Ok ps) e (Ok qs) (fine same none) =
          let here : ps ≡ qs = (cc) in
          let there = subst (λ x. parts_for Names (text_on p.attribute) ≡ Ok x) here e in
          subst (λ x. Answers place (sites_in (kind_for Names) x) false false false (text_refusal (Ok x)) h (if_it_fits p Names qs (with_model (length h.sites) b h))) (sym here)
          (model_fitting qs there (text_refusal (Ok qs)) (ap (λ x. text_refusal (Ok x)) (sym here) ∙ none) (nat_lt site_limit (length h.sites + length (sites_in (kind_for Names) qs))))
      model_set (Err f) e (Ok qs) (fine same none) = absurd (cc)
      model_set r e (Err f) (faulty is) = inl (refl, is)

    modelled : (o : Option Trees) (r : Result (List interp.Piece) InterpFault) → parts_for Names (text_on p.attribute) ≡ r
        → Answers place (text_sites (kind_for Names) r) false false false (writing_refusal o (text_refusal r)) h
        (judged_writing place o >>= λ b. judged place r >>= λ ps. if_it_fits p Names ps (with_model (length h.sites) b h))
    modelled None r e = inl (refl, refl)
    modelled (Some b) r e = model_set b r e (judged place r) (judged_is place r)

    -- a directive of the application
    by_bound : (b : Bool) (w : Option TplFault) (o : Option TplKind) → Told place o (cond b w None) → Answers place [] false false false o h (cond b (unless_wrong w h) (Ok h))
    by_bound true None o t = (acted false h h refl refl refl refl (or-false h.acts.slot) refl refl (λ n g. g), t)
    by_bound true (Some f) o t = inl t
    by_bound false w o t = (acted false h h refl refl refl refl (or-false h.acts.slot) refl refl (λ n g. g), t)

    slot_drawn : (n : ℕ) → Drawn n h → Drawn n (with_slot h)
    slot_drawn n g = record { least = g.least; bound = g.bound; switch = g.switch; attributes = g.attributes; class = g.class; control = g.control }

    manner_answers : (told : ℕ → Option TplKind) → Tells place told h → (o : Manner)
        → Answers place (manner_sites o p.attribute) (is_binding o) (is_choosing o) (is_slotting o) (manner_refusal told o p.attribute) h (with_manner place p o h)
    manner_answers told tells (Sets s) =
        let r : Result (List interp.Piece) InterpFault = parts_for s (text_on p.attribute) in
        set s r refl (judged place r) (judged_is place r)
    manner_answers told tells Models = modelled (writing_in (text_on p.attribute)) (parts_for Names (text_on p.attribute)) refl
    manner_answers told tells Changes =
        let o : Option Trees = program_in (text_on p.attribute) in
        changed o (judged_program place o) (judged_program_is place o)
    manner_answers told tells Passes = (acted false h h refl refl refl refl (or-false h.acts.slot) refl refl (λ n g. g), refl)
    manner_answers told tells Fills = (acted false h h refl refl refl refl (or-false h.acts.slot) refl refl (λ n g. g), refl)
    manner_answers told tells Slots = (acted true h (with_slot h) refl refl refl refl (or-true h.acts.slot) refl refl slot_drawn, refl)
    manner_answers told tells (Asks n) = by_bound (is_bound_by n h.acts.uses) h.wrong (told n) (tells n)
    manner_answers told tells Starts =
        let o : Option Trees = program_in (text_on p.attribute) in
        started o (judged_program place o) (judged_program_is place o)
    manner_answers told tells (Handles e) =
        let o : Option Trees = program_in (text_on p.attribute) in
        handled (event_name e) o (judged_program place o) (judged_program_is place o)

  -- one after another
  both : (ss ts : List Site) (b c d e i j : Bool) (h k l : Head) → Picked ss b d i h k → Picked ts c e j k l → Picked (ss ++ ts) (b || c) (d || e) (i || j) h l
  both ss ts b c d e i j h k l f g =
      let size : length k.sites ≡ length h.sites + length ss = ap length f.sites ∙ length-append h.sites ss in
      record {
        own = g.own ∙ (ap (λ (xs : List ℕ). xs ++ counted (length k.sites) ts) f.own
            ∙ (append_assoc h.own (counted (length h.sites) ss) (counted (length k.sites) ts)
            ∙ ap (λ (xs : List ℕ). h.own ++ xs) (ap (λ n. counted (length h.sites) ss ++ counted n ts) size ∙ sym (counted-append (length h.sites) ss ts))));
        sites = g.sites ∙ (ap (λ (xs : List Site). xs ++ ts) f.sites ∙ append_assoc h.sites ss ts);
        bound = g.bound ∙ (ap (λ x. x || c) f.bound ∙ or-assoc (is_some h.bound) b c);
        switch = g.switch ∙ (ap (λ x. x || e) f.switch ∙ or-assoc (is_some h.switch) d e);
        slot = g.slot ∙ (ap (λ x. x || j) f.slot ∙ or-assoc h.acts.slot i j);
        uses = g.uses ∙ f.uses;
        wrong = g.wrong ∙ f.wrong;
        drawn = λ n w. g.drawn n (f.drawn n w);
      }

  second : (ss ts : List Site) (b c d e i j : Bool) (a o : Option TplKind) (h k : Head) → Picked ss b d i h k → a ≡ None → (r : Result Head TplFault) → Answers place ts c e j o k r
      → Answers place (ss ++ ts) (b || c) (d || e) (i || j) (first_of a o) h r
  second ss ts b c d e i j a o h k f none (Ok l) g = (both ss ts b c d e i j h k l f g.0, ap (λ x. first_of x o) none ∙ g.1)
  second ss ts b c d e i j a o h k f none (Err w) (inl g) = inl (g.0, ap (λ x. first_of x o) none ∙ g.1)
  second ss ts b c d e i j a o h k f none (Err w) (inr g) = inr g

  in_turn : (ss ts : List Site) (b c d e i j : Bool) (a o : Option TplKind) (h : Head) (r : Result Head TplFault) → Answers place ss b d i a h r → (go : Head → Result Head TplFault)
      → ((k : Head) → Picked ss b d i h k → Answers place ts c e j o k (go k)) → Answers place (ss ++ ts) (b || c) (d || e) (i || j) (first_of a o) h (r >>= go)
  in_turn ss ts b c d e i j a o h (Ok k) f go g = second ss ts b c d e i j a o h k f.0 f.1 (go k) (g k f.0)
  in_turn ss ts b c d e i j a o h (Err w) (inl f) go g = inl (f.0, ap (λ x. first_of x o) f.1)
  in_turn ss ts b c d e i j a o h (Err w) (inr f) go g = inr f

  module _ (told : ℕ → Option TplKind) where
    still_tells : (h k : Head) → k.acts.uses ≡ h.acts.uses → k.wrong ≡ h.wrong → Tells place told h → Tells place told k
    still_tells h k uses wrong tells n =
        subst (λ (w : Option TplFault). Told place (told n) (cond (is_bound_by n k.acts.uses) w None)) (sym wrong)
        (subst (λ (u : Option Uses). Told place (told n) (cond (is_bound_by n u) h.wrong None)) (sym uses) (tells n))

    pub picks_answer : (ps : List Pick) (h : Head) → Tells place told h
        → Answers place (flat_map pick_sites ps) (list_any is_bind ps) (list_any is_switch ps) (list_any makes_slot ps) (first_pick_refusal told ps) h (with_picks place ps h)
    picks_answer [] h tells = (acted false h h refl refl refl refl (or-false h.acts.slot) refl refl (λ n g. g), refl)
    picks_answer (p ∷ ps) h tells =
        in_turn (pick_sites p) (flat_map pick_sites ps) (is_bind p) (list_any is_bind ps) (is_switch p) (list_any is_switch ps) (makes_slot p) (list_any makes_slot ps) (pick_refusal told p) (first_pick_refusal told ps) h
        (with_manner place p (manner_of p.directive) h) (manner_answers p h told tells (manner_of p.directive)) (with_picks place ps) (λ k f. picks_answer ps k (still_tells h k f.uses f.wrong tells))
