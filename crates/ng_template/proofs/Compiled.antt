-- What is proved of a whole document.
use Rattle.std.proofs.Common.{◌≡◌, ◌⊎◌, ℕ, Bool, true, false, None, List, [], length, ap, sym, subst, ◌∙◌, Result, Ok, Err, refl}
use Rattle.std.proofs.lemmas.Bool.{and_from}
use Rattle.std.specs.List.{list_all}
use Rattle.ng_base.specs.Meets.{◌>>=◌}
use Rattle.ng_collect.specs.declared.definition.DirectiveDef.{DirectiveDef}
use Rattle.ng_drawing.specs.Template.{Site, Outlet, Template, Parts}
use Rattle.ng_markup.specs.Forest.{Forest}
use Rattle.ng_elements.specs.Elements.{Made, fragment_made}
use Rattle.ng_template.specs.Compiles.{after_forest, compiled_forest, compiled}
use Rattle.ng_directives.specs.Limits.{worn}
use Rattle.ng_drawing.specs.Numbering.{parts_draw, is_undrawn, are_undrawn, is_whole, is_regular, are_bare}
use Rattle.ng_template.specs.Order.{Met, nodes_compiled, nodes_of_fragment, FirstRefusal, NoneRefused, sites_at, holes}
use Rattle.ng_directives.specs.Texts.{counted}
use Rattle.ng_directives.specs.declared.fault.TplFault.{TplFault}
use Rattle.ng_template.proofs.Apart.{all_apart}
use Rattle.ng_template.proofs.Following.{forest_good}
use Rattle.ng_template.proofs.Follows.{Good, of_parts, near, skipped, skipped_here}
use Rattle.ng_template.proofs.Walks.{walk, walked}
use Rattle.ng_parts.proofs.WholeFrom.{whole_from}
use Rattle.ng_template.proofs.Wholes.{Whole}

abbrev pub first : List ℕ → Made
first places = record { places = places; sites = []; outlets = []; bodies = [] }

abbrev pub template_made : Parts × Made → Template
template_made s = record { own = fragment_made s; bodies = s.1.bodies }

abbrev whole : Result (Parts × Made) TplFault → Result Template TplFault
whole r = r >>= λ s. Ok (template_made s)

-- nothing is made yet
first_whole : (places : List ℕ) → Whole (first places)
first_whole places = record { outlets = refl; bodies = (refl, refl) }

pub record Facts (defs : List DirectiveDef) (slots : Bool) (source : Forest × List ℕ) (t : Template) : Type 0 where
  pub sites : t.own.sites ≡ sites_at defs slots (nodes_of_fragment defs slots source)
  pub numbers : holes t.own.parts ≡ counted 0 t.own.sites
  pub none : NoneRefused defs slots (nodes_compiled defs slots source)
  pub regular : is_regular t ≡ true

module _ (defs : List DirectiveDef) (slots : Bool) (source : Forest × List ℕ) where
  abbrev GoodHere : List (Met × ℕ) → List Site → Result (Parts × Made) TplFault → Type 0
  GoodHere ns ss r = Good of_parts defs slots None 0 ns ss (after_forest source.0 source.1) (first source.1) r

  abbrev made : Result (Parts × Made) TplFault
  made = compiled_forest defs slots None source.0 (first source.1)

  abbrev all_sites : List Site
  all_sites = sites_at defs slots (nodes_of_fragment defs slots source)

  all_good : GoodHere (nodes_compiled defs slots source) all_sites made
  all_good =
      let sites : sites_at defs slots (walk (near defs slots) (skipped_here defs slots) false source.0 source.1) ≡ all_sites = ap (sites_at defs slots) (sym (walked (near defs slots) (skipped_here defs slots) false source.0 source.1)) in
      subst (λ ns. GoodHere ns all_sites made) (sym (walked (near defs slots) (skipped defs slots) false source.0 source.1))
      (subst (λ ss. GoodHere (walk (near defs slots) (skipped defs slots) false source.0 source.1) ss made) sites (forest_good defs slots None source.0 (first source.1)))

  regular_from : (ns : List (Met × ℕ)) (ss : List Site) (s : Parts × Made) → GoodHere ns ss (Ok s) → is_regular (template_made s) ≡ true
  regular_from ns ss s h =
      let w : Whole s.1 = h.whole tt (first_whole source.1) in
      let undrawn : are_undrawn (fragment_made s) ≡ true
      = subst (λ (os : List Outlet). list_all (is_undrawn (length s.1.sites) s.0) os ≡ true) (sym h.grown) (all_apart (length s.1.sites) (λ test. parts_draw test s.0) h.new h.apart) in
      and_from (is_whole (length s.1.bodies) (fragment_made s)) (list_all (is_whole (length s.1.bodies)) s.1.bodies)
      (whole_from (length s.1.bodies) (fragment_made s) h.regular h.outlets w.outlets undrawn) w.bodies.0

  pub made_regular : (s : Parts × Made) → made ≡ Ok s → is_regular (template_made s) ≡ true
  made_regular s e = regular_from (nodes_compiled defs slots source) all_sites s (subst (GoodHere (nodes_compiled defs slots source) all_sites) e all_good)

  bare_from : (ns : List (Met × ℕ)) (ss : List Site) (s : Parts × Made) → GoodHere ns ss (Ok s) → are_bare (template_made s) ≡ true
  bare_from ns ss s h = let w : Whole s.1 = h.whole tt (first_whole source.1) in w.bodies.1

  -- each is on one scope
  pub made_bare : (s : Parts × Made) → made ≡ Ok s → are_bare (template_made s) ≡ true
  made_bare s e = bare_from (nodes_compiled defs slots source) all_sites s (subst (GoodHere (nodes_compiled defs slots source) all_sites) e all_good)

  facts : (t : Template) (r : Result (Parts × Made) TplFault) → GoodHere (nodes_compiled defs slots source) all_sites r → whole r ≡ Ok t → Facts defs slots source t
  facts t (Ok s) h e =
      let same : template_made s ≡ t = (cc) in
      let regular : is_regular (template_made s) ≡ true = regular_from (nodes_compiled defs slots source) all_sites s h in
      subst (Facts defs slots source) same (record { sites = h.sites; numbers = h.numbers ∙ ap (counted 0) (sym h.sites); none = h.none; regular = regular })
  facts t (Err d) h e = absurd (cc)

  faulted : (d : TplFault) (r : Result (Parts × Made) TplFault) → GoodHere (nodes_compiled defs slots source) all_sites r → whole r ≡ Err d → FirstRefusal defs slots (nodes_compiled defs slots source) d ⊎ (d ≡ worn)
  faulted d (Ok s) h e = absurd (cc)
  faulted d (Err c) h e =
      let same : c ≡ d = (cc) in
      subst (λ (x : TplFault). FirstRefusal defs slots (nodes_compiled defs slots source) x ⊎ (x ≡ worn)) same h

  pub compiled_facts : (t : Template) → compiled source defs slots ≡ Ok t → Facts defs slots source t
  compiled_facts t e = facts t made all_good e

  pub compiled_refusal : (d : TplFault) → compiled source defs slots ≡ Err d → FirstRefusal defs slots (nodes_compiled defs slots source) d ⊎ (d ≡ worn)
  compiled_refusal d e = faulted d made all_good e
