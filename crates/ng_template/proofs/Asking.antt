-- What the directives of the application ask of an element: the sites of their bindings, the numbers of these, and what is told of them.
use Rattle.std.proofs.Common.{◌≡◌, ◌+◌, ℕ, Bool, true, false, cond, List, [], ◌∷◌, ◌++◌, length, Option, None, Some, Result, Ok, Err, refl, ap, sym, subst, ◌∙◌, append_assoc, append-nil, length-append, arith}
use Rattle.std.proofs.lemmas.Bool.{ne_eqb}
use Rattle.std.specs.List.{flat_map}
use Rattle.std.specs.Option.{option_map_or}
use Rattle.std.specs.Prelude.{◌==◌, ◌||◌, not, is_some, nat_lt, option_map, unwrap_or}
use Rattle.std.proofs.lemmas.Grind.{flat_map-append}
use Rattle.ng_base.specs.Meets.{◌>>=◌}
use Rattle.ng_bind.specs.Reading.{spec_in}
use Rattle.ng_bind.specs.declared.spec.BindMode.{BindMode}
use Rattle.ng_bind.specs.declared.spec.BindMode.TheVariants.{AtText, TwoWay, OneWay, Call}
use Rattle.ng_bind.specs.declared.spec.Spec.{Spec}
use Rattle.ng_collect.specs.declared.definition.DirectiveDef.{DirectiveDef}
use Rattle.ng_drawing.specs.Template as template
use Rattle.ng_drawing.specs.Template.{Site, Source, Binding, Uses}
use Rattle.ng_drawing.specs.declared.kind.SiteKind.TheVariants as kinds
use Rattle.ng_interp.specs.Parts as interp
use Rattle.ng_interp.specs.declared.pieces.InterpFault.{InterpFault}
use Rattle.ng_language.specs.Trees.{Trees}
use Rattle.ng_markup.specs.Forest.{Attributes}
use Rattle.ng_elements.specs.Elements.{asks_scope, has_template_of}
use Rattle.ng_directives.specs.Directives.{is_bound_by}
use Rattle.ng_directives.specs.Limits.{site_limit, worn}
use Rattle.ng_drawing.specs.Numbering.{hole_numbers, source_numbers}
use Rattle.ng_template.specs.Order.{kind_of_wrong, property_sites}
use Rattle.ng_directives.specs.Programs.{program_in}
use Rattle.ng_parts.specs.SiteOf.{site_with}
use Rattle.ng_directives.specs.Texts.{refused, numbered, sites_in, counted}
use Rattle.ng_elements.specs.Using.{Read, text_read, nothing_read, value_read, both_read, call_read, Property, attribute_for, as_text, as_value, as_program, read_at, as_read, read_missing, read_found, read_bound, spec_of, read_property, with_property, properties_read, are_known, all_pure, checked_properties, judged_properties, read_sites, bound_by, all_bound, first_with, asks_child, asks_isolate, asks_template, asks_transclusion, bindings_of, template_number, uses_asked, Asked, asked_by, asked_for, uses_of_numbers, transcludes}
use Rattle.ng_directives.specs.Writing.{writing_back}
use Rattle.ng_directives.specs.declared.fault.TplFault.{TplFault}
use Rattle.ng_directives.specs.declared.fault.TplKind.{TplKind}
use Rattle.ng_directives.specs.declared.fault.TplKind.TheVariants.{UnknownFilter, Impure}
use Rattle.ng_directives.proofs.Numbers.{counted-append}

-- what is wrong stands at the place of the element
abbrev pub at : {A : Type 0} → ℕ → Result A TplFault → Result A TplFault
at place (Ok v) = Ok v
at place (Err f) = Err (refused f.kind place)

then_at : {A B : Type 0} (place : ℕ) (r : Result A TplFault) (f g : A → Result B TplFault) → ((x : A) → f x ≡ at place (g x)) → (at place r >>= f) ≡ at place (r >>= g)
then_at place (Ok x) f g h = h x
then_at place (Err e) f g h = refl

then_both : {A B : Type 0} (place : ℕ) (r s : Result A TplFault) (f g : A → Result B TplFault) → r ≡ at place s → ((x : A) → f x ≡ at place (g x)) → (r >>= f) ≡ at place (s >>= g)
then_both place r s f g e h = ap (λ t. t >>= f) e ∙ then_at place s f g h

module _ (place : ℕ) where
  text_at : (r : Result (List interp.Piece) InterpFault) → as_text place r ≡ at place (as_text 0 r)
  text_at (Ok ps) = refl
  text_at (Err f) = refl

  value_at : (r : Result interp.Piece InterpFault) → as_value place r ≡ at place (as_value 0 r)
  value_at (Ok (interp.words t)) = refl
  value_at (Ok (interp.hole once p)) = refl
  value_at (Err f) = refl

  program_at : (go : Trees → Read) (o : Option Trees) → as_program place go o ≡ at place (as_program 0 go o)
  program_at go None = refl
  program_at go (Some p) = refl

  read_at_at : (mode : BindMode) (t : List ℕ) → read_at place mode t ≡ at place (read_at 0 mode t)
  read_at_at AtText t = text_at (interp.pieces_in t)
  read_at_at OneWay t = value_at (interp.hole_at 0 t)
  read_at_at TwoWay t = program_at (λ p. both_read p (writing_back t p)) (program_in t)
  read_at_at Call t = program_at call_read (program_in t)

  as_read_at : (mode : BindMode) (t : List ℕ) → as_read (read_at place mode t) ≡ at place (as_read (read_at 0 mode t))
  as_read_at mode t = then_both place (read_at place mode t) (read_at 0 mode t) (λ x. Ok (Some x)) (λ x. Ok (Some x)) (read_at_at mode t) (λ x. refl)

  unless_optional : (b : Bool) (mode : BindMode) → cond b (Ok None) (as_read (read_at place mode [])) ≡ at place (cond b (Ok None) (as_read (read_at 0 mode [])))
  unless_optional true mode = refl
  unless_optional false mode = as_read_at mode []

  missing_at : (optional : Bool) (mode : BindMode) → read_missing place optional mode ≡ at place (read_missing 0 optional mode)
  missing_at optional AtText = refl
  missing_at optional OneWay = unless_optional optional OneWay
  missing_at optional TwoWay = unless_optional optional TwoWay
  missing_at optional Call = unless_optional optional Call

  found_at : (s : Spec) (o : Option (List ℕ)) → read_found place s o ≡ at place (read_found 0 s o)
  found_at s None = missing_at s.optional s.mode
  found_at s (Some t) = as_read_at s.mode t

  module _ (ats : Attributes) where
    bound_at : (name : List ℕ) (o : Option Spec) → read_bound place ats name o ≡ at place (read_bound 0 ats name o)
    bound_at name (Some s) = found_at s (attribute_for (unwrap_or s.attr name) ats)
    bound_at name None = refl

    properties_at : (done : List Property) (specs : List (List ℕ × List ℕ)) → properties_read place ats done specs ≡ at place (properties_read 0 ats done specs)
    properties_at done [] = refl
    properties_at done (s ∷ ss) =
        then_both place (read_property place ats s.0 s.1) (read_property 0 ats s.0 s.1) (λ r. properties_read place ats (with_property s.0 r done) ss) (λ r. properties_read 0 ats (with_property s.0 r done) ss)
        (bound_at s.0 (spec_of (spec_in s.1))) (λ r. properties_at (with_property s.0 r done) ss)

    checked_at : (ps : List Property) → checked_properties place ps ≡ at place (checked_properties 0 ps)
    checked_at ps = by (not (are_known ps)) (not (all_pure ps))
      where
        by : (b c : Bool) → cond b (Err (refused UnknownFilter place)) (cond c (Err (refused Impure place)) (Ok ps)) ≡ at place (cond b (Err (refused UnknownFilter 0)) (cond c (Err (refused Impure 0)) (Ok ps)))
        by true c = refl
        by false true = refl
        by false false = refl

    pub judged_at : (specs : List (List ℕ × List ℕ)) → judged_properties place ats specs ≡ at place (judged_properties 0 ats specs)
    judged_at specs = then_both place (properties_read place ats [] specs) (properties_read 0 ats [] specs) (checked_properties place) (checked_properties 0) (properties_at [] specs) checked_at

-- the numbers of the pieces of a text are those of its sites
numbered-numbers : (n : ℕ) (ps : List interp.Piece) → hole_numbers (numbered n ps) ≡ counted n (sites_in kinds.Text ps)
numbered-numbers n [] = refl
numbered-numbers n (interp.words t ∷ ps) = numbered-numbers n ps
numbered-numbers n (interp.hole once p ∷ ps) = ap (λ (ks : List ℕ). n ∷ ks) (numbered-numbers (n + 1) ps)

-- where a property comes from: its sites come behind those before
abbrev IsBoundBy : Read → List Site → Result (Source × List Site) TplFault → Type 0
IsBoundBy r sites (Ok s) = (s.1 ≡ sites ++ read_sites r) × (source_numbers s.0 ≡ counted (length sites) (read_sites r))
IsBoundBy r sites (Err f) = f ≡ worn

-- what is answered where there are numbers
abbrev if_numbers : {A : Type 0} → Bool → A → Result A TplFault
if_numbers b x = cond b (Err worn) (Ok x)

abbrev bound_pieces : Bool → List template.Piece × List Site → Result (Source × List Site) TplFault
bound_pieces b x = if_numbers b x >>= λ (r : List template.Piece × List Site). Ok (template.of_text r.0, r.1)

abbrev bound_number : (ℕ → Source) → Bool → ℕ × List Site → Result (Source × List Site) TplFault
bound_number go b x = if_numbers b x >>= λ (r : ℕ × List Site). Ok (go r.0, r.1)

bound_is : (r : Read) (sites : List Site) → IsBoundBy r sites (bound_by r sites)
bound_is (text_read ps) sites = by (nat_lt site_limit (length sites + length (sites_in kinds.Text ps)))
  where
    by : (b : Bool) → IsBoundBy (text_read ps) sites (bound_pieces b (numbered (length sites) ps, sites ++ sites_in kinds.Text ps))
    by true = refl
    by false = (refl, numbered-numbers (length sites) ps)
bound_is nothing_read sites = (sym (append-nil sites), refl)
bound_is (value_read once p) sites = by (nat_lt site_limit (length sites + 1))
  where
    by : (b : Bool) → IsBoundBy (value_read once p) sites (bound_number template.one_way b (length sites, sites ++ site_with kinds.Reference once p ∷ []))
    by true = refl
    by false = (refl, refl)
bound_is (both_read p w) sites = by (nat_lt site_limit (length sites + 1))
  where
    by : (b : Bool) → IsBoundBy (both_read p w) sites (bound_number (λ n. template.two_way n w) b (length sites, sites ++ site_with kinds.TwoWay false p ∷ []))
    by true = refl
    by false = (refl, refl)
bound_is (call_read p) sites = (sym (append-nil sites), refl)

abbrev pub numbers_in_all : List Binding → List ℕ
numbers_in_all bs = flat_map (λ (b : Binding). source_numbers b.source) bs

abbrev sites_in_all : List Property → List Site
sites_in_all ps = flat_map (λ (p : Property). read_sites p.read) ps

abbrev AreBound : List Binding → List Property → List Site → Result (List Binding × List Site) TplFault → Type 0
AreBound done ps sites (Ok r) = (r.1 ≡ sites ++ sites_in_all ps) × (numbers_in_all r.0 ≡ numbers_in_all done ++ counted (length sites) (sites_in_all ps))
AreBound done ps sites (Err f) = f ≡ worn

module _ (done : List Binding) (p : Property) (ps : List Property) (sites : List Site) where
  abbrev with_one : Source → List Binding
  with_one s = done ++ record { name = p.name; source = s } ∷ []

  numbers_then : (s : Source × List Site) (bs : List Binding) → s.1 ≡ sites ++ read_sites p.read → source_numbers s.0 ≡ counted (length sites) (read_sites p.read)
      → numbers_in_all bs ≡ numbers_in_all (with_one s.0) ++ counted (length s.1) (sites_in_all ps) → numbers_in_all bs ≡ numbers_in_all done ++ counted (length sites) (read_sites p.read ++ sites_in_all ps)
  numbers_then s bs grown named all =
      let size : length s.1 ≡ length sites + length (read_sites p.read) = ap length grown ∙ length-append sites (read_sites p.read) in
      let one : numbers_in_all (with_one s.0) ≡ numbers_in_all done ++ counted (length sites) (read_sites p.read)
      = flat_map-append (λ (b : Binding). source_numbers b.source) done (record { name = p.name; source = s.0 } ∷ []) ∙ ap (λ (ks : List ℕ). numbers_in_all done ++ ks) (append-nil (source_numbers s.0) ∙ named) in
      all
      ∙ (ap (λ (ks : List ℕ). ks ++ counted (length s.1) (sites_in_all ps)) one
      ∙ (append_assoc (numbers_in_all done) (counted (length sites) (read_sites p.read)) (counted (length s.1) (sites_in_all ps))
      ∙ ap (λ (ks : List ℕ). numbers_in_all done ++ ks)
      (ap (λ k. counted (length sites) (read_sites p.read) ++ counted k (sites_in_all ps)) size ∙ sym (counted-append (length sites) (read_sites p.read) (sites_in_all ps)))))

  then_bound : (s : Source × List Site) → s.1 ≡ sites ++ read_sites p.read → source_numbers s.0 ≡ counted (length sites) (read_sites p.read) → (r : Result (List Binding × List Site) TplFault)
      → AreBound (with_one s.0) ps s.1 r → AreBound done (p ∷ ps) sites r
  then_bound s grown named (Ok r) h =
      (h.0 ∙ (ap (λ (xs : List Site). xs ++ sites_in_all ps) grown ∙ append_assoc sites (read_sites p.read) (sites_in_all ps)), numbers_then s r.0 grown named h.1)
  then_bound s grown named (Err f) h = h

  first_bound : (r : Result (Source × List Site) TplFault) → IsBoundBy p.read sites r → ((s : Source × List Site) → AreBound (with_one s.0) ps s.1 (all_bound (with_one s.0) ps s.1))
      → AreBound done (p ∷ ps) sites (r >>= λ s. all_bound (with_one s.0) ps s.1)
  first_bound (Ok s) h go = then_bound s h.0 h.1 (all_bound (with_one s.0) ps s.1) (go s)
  first_bound (Err f) h go = h

are_bound : (ps : List Property) (done : List Binding) (sites : List Site) → AreBound done ps sites (all_bound done ps sites)
are_bound [] done sites = (sym (append-nil sites), sym (append-nil (numbers_in_all done)))
are_bound (p ∷ ps) done sites = first_bound done p ps sites (bound_by p.read sites) (bound_is p.read sites) (λ s. are_bound ps (done ++ record { name = p.name; source = s.0 } ∷ []) s.1)

-- what is told at the turn of a directive: nothing, or what is wrong, at the place of the element
abbrev pub Told : ℕ → Option TplKind → Option TplFault → Type 0
Told place o None = o ≡ None
Told place o (Some f) = (f.place ≡ place) × (o ≡ Some f.kind)

abbrev pub of_uses : Option Uses → List ℕ
of_uses u = option_map_or (λ (v : Uses). numbers_in_all v.bindings) u []

module _ (place : ℕ) (defs : List DirectiveDef) (ats : Attributes) (ns : List ℕ) (before : List Site) where
  abbrev pub isolate : Option ℕ
  isolate = first_with defs asks_isolate ns

  abbrev pub told_first : Result (List Property) TplFault
  told_first = judged_properties 0 ats (bindings_of defs isolate)

  abbrev pub is_that : ℕ → Bool
  is_that n = option_map_or (λ m. m == n) isolate false

  -- what these directives ask
  pub record Asks (a : Asked) : Type 0 where
    pub sites : a.sites ≡ before ++ property_sites told_first
    pub numbers : of_uses a.uses ≡ counted (length before) (property_sites told_first)
    pub tells : (n : ℕ) → Told place (cond (is_that n) (kind_of_wrong told_first) None) (cond (is_bound_by n a.uses) a.wrong None)
    pub scope : asks_scope a.uses ≡ (is_some (first_with defs asks_child ns) || is_some (first_with defs asks_isolate ns))
    pub templates : has_template_of a.uses ≡ is_some (first_with defs asks_template ns)
    pub transclusion : transcludes defs a.uses ≡ is_some (first_with defs asks_transclusion ns)

  abbrev pub AsksWell : Result Asked TplFault → Type 0
  AsksWell (Ok a) = Asks a
  AsksWell (Err f) = f ≡ worn

some_mapped : {A B : Type 0} (f : A → B) (o : Option A) → is_some (option_map f o) ≡ is_some o
some_mapped f None = refl
some_mapped f (Some x) = refl

none_told : (place : ℕ) (b c : Bool) → Told place (cond b None None) (cond c None None)
none_told place true true = refl
none_told place true false = refl
none_told place false true = refl
none_told place false false = refl

wrong_told : (place : ℕ) (kind : TplKind) (b : Bool) → Told place (cond b (Some kind) None) (cond b (Some (refused kind place)) None)
wrong_told place kind true = (refl, refl)
wrong_told place kind false = refl

module _ (place : ℕ) (defs : List DirectiveDef) (ats : Attributes) (n : ℕ) (ns : List ℕ) (sites : List Site) where
  abbrev asked : Uses
  asked = uses_asked defs (n ∷ ns)

  abbrev here : Option ℕ
  here = first_with defs asks_isolate (n ∷ ns)

  abbrev WellHere : Result (List Property) TplFault → Result Asked TplFault → Type 0
  WellHere t (Ok a) =
      (a.sites ≡ sites ++ property_sites t)
      × (of_uses a.uses ≡ counted (length sites) (property_sites t))
      × ((k : ℕ) → Told place (cond (option_map_or (λ m. m == k) here false) (kind_of_wrong t) None) (cond (is_bound_by k a.uses) a.wrong None))
      × (asks_scope a.uses ≡ (is_some (first_with defs asks_child (n ∷ ns)) || is_some here))
      × (has_template_of a.uses ≡ is_some (first_with defs asks_template (n ∷ ns)))
      × (transcludes defs a.uses ≡ is_some (first_with defs asks_transclusion (n ∷ ns)))
  WellHere t (Err f) = f ≡ worn

  template_here : has_template_of (Some asked) ≡ is_some (first_with defs asks_template (n ∷ ns))
  template_here = some_mapped (template_number defs) (first_with defs asks_template (n ∷ ns))

  with_bound : (ps : List Property) (r : Result (List Binding × List Site) TplFault) → AreBound [] ps sites r → WellHere (Ok ps) (r >>= λ s. Ok (record { uses = Some (record asked { bindings = s.0 }); sites = s.1; wrong = None }))
  with_bound ps (Ok s) h = (h.0, h.1, (λ k. none_told place (option_map_or (λ m. m == k) here false) (is_bound_by k (Some (record asked { bindings = s.0 })))), refl, template_here, refl)
  with_bound ps (Err f) h = h

  well_asked : (t : Result (List Property) TplFault) → WellHere t (asked_by asked sites (at place t))
  well_asked (Ok ps) = with_bound ps (all_bound [] ps sites) (are_bound ps [] sites)
  well_asked (Err f) = (sym (append-nil sites), refl, (λ k. wrong_told place f.kind (option_map_or (λ m. m == k) here false)), refl, template_here, refl)

  asks_these : (r : Result Asked TplFault) → WellHere (judged_properties 0 ats (bindings_of defs here)) r → AsksWell place defs ats (n ∷ ns) sites r
  asks_these (Ok a) h = record { sites = h.0; numbers = h.1; tells = h.2; scope = h.3; templates = h.4; transclusion = h.5 }
  asks_these (Err f) h = h

no_zero : (n : ℕ) (ns : List ℕ) → (length (n ∷ ns) == 0) ≡ false
no_zero n ns = ne_eqb (length (n ∷ ns)) 0 (λ e. omega (arith, e))

pub asks_well : (place : ℕ) (defs : List DirectiveDef) (ats : Attributes) (ns : List ℕ) (sites : List Site) → AsksWell place defs ats ns sites (uses_of_numbers place defs ats ns sites)
asks_well place defs ats [] sites = record { sites = sym (append-nil sites); numbers = refl; tells = λ n. refl; scope = refl; templates = refl; transclusion = refl }
asks_well place defs ats (n ∷ ns) sites =
    let specs : List (List ℕ × List ℕ) = bindings_of defs (first_with defs asks_isolate (n ∷ ns)) in
    let none : Result Asked TplFault = Ok (record { uses = None; sites = sites; wrong = None }) in
    let well : AsksWell place defs ats (n ∷ ns) sites (asked_for place defs ats (n ∷ ns) sites)
    = subst (λ (r : Result (List Property) TplFault). AsksWell place defs ats (n ∷ ns) sites (asked_by (uses_asked defs (n ∷ ns)) sites r)) (sym (judged_at place ats specs))
    (asks_these place defs ats n ns sites (asked_by (uses_asked defs (n ∷ ns)) sites (at place (judged_properties 0 ats specs))) (well_asked place defs ats n ns sites (judged_properties 0 ats specs))) in
    subst (λ (b : Bool). AsksWell place defs ats (n ∷ ns) sites (cond b none (asked_for place defs ats (n ∷ ns) sites))) (sym (no_zero n ns)) well
