-- What is made of nodes in document order: their places, their sites, their numbers, and the first of them that is refused.
use Rattle.std.proofs.Common.{◌≡◌, ◌≤◌, ◌+◌, ◌⊎◌, inl, inr, ℕ, Bool, true, false, cond, List, [], ◌∷◌, ◌++◌, length, Option, None, Some, Result, Ok, Err, refl, ap, sym, ◌∙◌, append-nil, length-append, arith}
use Rattle.std.specs.Prelude.{nat_lt, is_some}
use Rattle.std.specs.List.{AllByRecursion}
use Rattle.ng_collect.specs.declared.definition.DirectiveDef.{DirectiveDef}
use Rattle.ng_drawing.specs.Template.{Site, Outlet, Part, Parts}
use Rattle.ng_drawing.specs.declared.kind.SiteKind.TheVariants as kinds
use Rattle.ng_interp.specs.Parts as interp
use Rattle.ng_markup.specs.Forest.{Forest, text}
use Rattle.ng_directives.specs.Places.{first_place, other_places}
use Rattle.ng_elements.specs.Elements.{Made, Switch}
use Rattle.ng_template.specs.Compiles.{with_text, text_made}
use Rattle.ng_directives.specs.Limits.{site_limit, worn}
use Rattle.ng_drawing.specs.Numbering.{after_part, after_parts, part_draws, parts_draw, outlets_of_part, after_outlets}
use Rattle.ng_template.specs.Order.{Met, round_met, is_left, is_left_to_body, switch_near, text_refusal, FirstRefusal, refused_here, refused_after, NoneRefused, text_sites, sites_at, part_holes, holes}
use Rattle.ng_directives.specs.Texts.{judged, counted, sites_in}
use Rattle.ng_directives.specs.declared.fault.TplFault.{TplFault}
use Rattle.ng_template.proofs.Apart.{Apart, IsInside}
use Rattle.ng_template.proofs.Judging.{Judged, fine, faulty, judged_is}
use Rattle.ng_template.proofs.HoleNumbers.{numbered-holes, after-numbered}
use Rattle.ng_template.proofs.Walks.{walk}
use Rattle.ng_template.proofs.Wholes.{Whole, more_sites}

module _ (defs : List DirectiveDef) (slots : Bool) where
  pub none-append : (xs ys : List (Met × ℕ)) → NoneRefused defs slots xs → NoneRefused defs slots ys → NoneRefused defs slots (xs ++ ys)
  none-append [] ys h k = k
  none-append (x ∷ xs) ys h k = (h.0, none-append xs ys h.1 k)

  pub first_in : (xs ys : List (Met × ℕ)) (f : TplFault) → FirstRefusal defs slots xs f → FirstRefusal defs slots (xs ++ ys) f
  first_in [] ys f h = elim h [ ]
  first_in (x ∷ xs) ys f (refused_here e) = refused_here e
  first_in (x ∷ xs) ys f (refused_after e h) = refused_after e (first_in xs ys f h)

  pub first_past : (xs ys : List (Met × ℕ)) (f : TplFault) → NoneRefused defs slots xs → FirstRefusal defs slots ys f → FirstRefusal defs slots (xs ++ ys) f
  first_past [] ys f none h = h
  first_past (x ∷ xs) ys f none h = refused_after none.0 (first_past xs ys f none.1 h)

-- What was made of these nodes, which have these sites in their fragment: these places are left, the sites are added, the holes are
-- numbered on, the numbers of sites and of outlets end where these do, no node is refused, bodies are added that are whole, and nothing is
-- drawn from the sites of the outlets that are added, which are from one on, but for that of the switch round these nodes.
pub record Follows (defs : List DirectiveDef) (slots : Bool) (ns : List (Met × ℕ)) (ss : List Site) (after : List ℕ) (m : Made) (hs : List ℕ) (end outs : Option ℕ) (draws : (ℕ → Bool) → Bool) (outer : Switch) (from : ℕ) (n : Made) : Type 0 where
  pub left : n.places ≡ after
  pub sites : n.sites ≡ m.sites ++ ss
  pub numbers : hs ≡ counted (length m.sites) ss
  pub regular : end ≡ Some (length n.sites)
  pub outlets : outs ≡ Some (length n.outlets)
  pub none : NoneRefused defs slots ns
  pub more : length m.bodies ≤ length n.bodies
  pub whole : IsInside outer (length m.sites) → Whole m → Whole n
  pub new : List Outlet
  pub grown : n.outlets ≡ m.outlets ++ new
  pub apart : AllByRecursion (Apart outer from (length n.sites) draws) new

-- what is said of parts of one kind: their holes, the numbers after those of their sites and of their outlets, and whether they are drawn from
-- such sites alone
pub record Walked (A : Type 0) : Type 1 where
  pub holes : A → List ℕ
  pub end : ℕ → A → Option ℕ
  pub outs : ℕ → A → Option ℕ
  pub draws : (ℕ → Bool) → A → Bool

abbrev pub of_part : Walked Part
of_part = record { holes = part_holes; end = after_part; outs = outlets_of_part; draws = part_draws }

abbrev pub of_parts : Walked Parts
of_parts = record { holes = holes; end = after_parts; outs = after_outlets; draws = parts_draw }

abbrev pub Good : {A : Type 0} → Walked A → List DirectiveDef → Bool → Switch → ℕ → List (Met × ℕ) → List Site → List ℕ → Made → Result (A × Made) TplFault → Type 0
Good w defs slots outer from ns ss left m (Ok r) = Follows defs slots ns ss left m (w.holes r.0) (w.end (length m.sites) r.0) (w.outs (length m.outlets) r.0) (λ test. w.draws test r.0) outer from r.1
Good w defs slots outer from ns ss left m (Err f) = FirstRefusal defs slots ns f ⊎ (f ≡ worn)

module _ (defs : List DirectiveDef) (slots : Bool) where
  -- the nodes in these are not compiled, and those in these are none of the fragment
  abbrev pub skipped : Met → Bool
  skipped n = is_left defs (round_met defs slots n)

  abbrev pub skipped_here : Met → Bool
  skipped_here n = is_left_to_body defs (round_met defs slots n)

  abbrev pub near : Met → Bool
  near n = switch_near defs slots n

  abbrev pub walk_all : Bool → Forest → List ℕ → List (Met × ℕ)
  walk_all o f places = walk near skipped o f places

  abbrev pub walk_here : Bool → Forest → List ℕ → List (Met × ℕ)
  walk_here o f places = walk near skipped_here o f places

  abbrev pub sites_of_forest : Bool → Forest → List ℕ → List Site
  sites_of_forest o f places = sites_at defs slots (walk_here o f places)

  -- a text
  module _ (t : List ℕ) (outer : Switch) (m : Made) where
    abbrev met_text : Met
    met_text = (text t, is_some outer)

    abbrev ThisText : Result (Part × Made) TplFault → Type 0
    ThisText r = Good of_part defs slots outer (length m.sites) ((met_text, first_place m.places) ∷ []) (sites_at defs slots ((met_text, first_place m.places) ∷ [])) (other_places m.places) m r

    fitting : (ps : List interp.Piece) → interp.pieces_in t ≡ Ok ps → text_refusal (interp.pieces_in t) ≡ None → (b : Bool) → ThisText (cond b (Err worn) (Ok (with_text m ps)))
    fitting ps e none true = inr refl
    fitting ps e none false =
        let own : sites_at defs slots ((met_text, first_place m.places) ∷ []) ≡ sites_in kinds.Text ps = append-nil (text_sites kinds.Text (interp.pieces_in t)) ∙ ap (text_sites kinds.Text) e in
        let size : length (m.sites ++ sites_in kinds.Text ps) ≡ length m.sites + length (sites_in kinds.Text ps) = length-append m.sites (sites_in kinds.Text ps) in
        record {
          left = refl;
          sites = ap (λ (ss : List Site). m.sites ++ ss) (sym own);
          numbers = numbered-holes kinds.Text (length m.sites) ps ∙ ap (counted (length m.sites)) (sym own);
          regular = after-numbered kinds.Text (length m.sites) ps ∙ ap Some (sym size);
          outlets = refl;
          none = (none, tt);
          more = omega arith;
          whole = λ _ w. more_sites m (other_places m.places) (m.sites ++ sites_in kinds.Text ps) (omega (arith, size)) w;
          new = [];
          grown = sym (append-nil m.outlets);
          apart = tt;
        }

    text_judged : (j : Result (List interp.Piece) TplFault) → Judged (first_place m.places) (interp.pieces_in t) j → ThisText (text_made m j)
    text_judged (Ok ps) (fine e none) = fitting ps e none (nat_lt site_limit (length m.sites + length (sites_in kinds.Text ps)))
    text_judged (Err f) (faulty is) = inl (refused_here is)

    pub text_good : ThisText (text_made m (judged (first_place m.places) (interp.pieces_in t)))
    text_good = text_judged (judged (first_place m.places) (interp.pieces_in t)) (judged_is (first_place m.places) (interp.pieces_in t))
