use Rattle.std.proofs.Common.{◌∙◌, ◌∷◌, [], Err, ap, sym, map, length, arith}
use Rattle.std.proofs.lemmas.List.{length-map, map-append}
use Rattle.ng_parts.specs.SiteOf.{site_of}
use Rattle.ng_elements.proofs.Fitting.{one_full, one_fits}
use Rattle.ng_elements.proofs.bindings.one_more.Goals as goal

pub returns-then-len-ge-SITE_LIMIT : goal.returns-then-len-ge-SITE_LIMIT
returns-then-len-ge-SITE_LIMIT c free =
    one_full (site_of c.args.site) (map site_of c.args.sites.items) (length c.args.sites.items) (sym (length-map c.args.sites.items site_of)) (omega arith) ∙ ap Err (sym c.worn.ensures)

pub returns : goal.returns
returns c =
    one_fits (site_of c.args.site) (map site_of c.args.sites.items) c.len-n.result (map site_of c.push.new.self.items) (omega (arith, length-map c.args.sites.items site_of)) (omega arith)
    (ap (map site_of) c.in_ok-push.ensures.items ∙ map-append site_of c.args.sites.items (c.args.site ∷ []))
