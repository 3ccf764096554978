-- Whether there are numbers for the sites of a text.
use Rattle.std.proofs.Common.{◌≡◌, ◌<◌, ◌≤◌, ◌+◌, ◌++◌, List, length, Result, Ok, Err, ap, ◌∙◌}
use Rattle.ng_drawing.specs.Template.{Site, text_part}
use Rattle.ng_drawing.specs.Template as template
use Rattle.ng_drawing.specs.declared.kind.SiteKind.TheVariants as kinds
use Rattle.ng_interp.specs.Parts.{Piece}
use Rattle.ng_directives.specs.Places.{other_places}
use Rattle.ng_elements.specs.Elements.{Made}
use Rattle.ng_template.specs.Compiles.{with_text, text_made}
use Rattle.ng_directives.specs.Limits.{site_limit, worn}
use Rattle.ng_directives.specs.Texts.{numbered, sites_in}
use Rattle.ng_directives.specs.declared.fault.TplFault.{TplFault}
use Rattle.ng_elements.proofs.Fitting.{no_room, room}

-- a text
module _ (m : Made) (r : Result (List Piece) TplFault) (ps : List Piece) (e : r ≡ Ok ps) where
  pub text_full : site_limit < length m.sites + length (sites_in kinds.Text ps) → text_made m r ≡ Err worn
  text_full l = ap (text_made m) e ∙ no_room (Err worn) (Ok (with_text m ps)) (length m.sites + length (sites_in kinds.Text ps)) l

  pub text_placed : (pieces : List template.Piece) (sites : List Site) → pieces ≡ numbered (length m.sites) ps → sites ≡ m.sites ++ sites_in kinds.Text ps → length m.sites + length (sites_in kinds.Text ps) ≤ site_limit
      → text_made m r ≡ Ok (text_part pieces, record m { places = other_places m.places; sites = sites })
  text_placed pieces sites named end l =
      let same : with_text m ps ≡ (text_part pieces, record m { places = other_places m.places; sites = sites }) = (cc) in
      ap (text_made m) e ∙ (room (Err worn) (Ok (with_text m ps)) (length m.sites + length (sites_in kinds.Text ps)) l ∙ ap Ok same)
