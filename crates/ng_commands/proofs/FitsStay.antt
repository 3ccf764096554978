-- Blocks go on having the bodies that they call for, where no site changes.
use Rattle.std.proofs.Common.{◌≡◌, true, List, Some, ap, sym, ◌∙◌}
use Rattle.ng_base.specs.declared.path.Key.{Key}
use Rattle.ng_instances.specs.Instances.{linked_at, key_in}
use Rattle.ng_link.specs.State.{State}
use Rattle.ng_commands.specs.Settled.{site_keys, OutletFits, leads_in, Fits}
use Rattle.ng_commands.proofs.Sites.{InKeys, SitesStay, same_site}
use Rattle.ng_commands.proofs.Watched.{all_map}

-- what steps leave that change no site
pub fits_stays : (s t : State) (ks : List Key) → SitesStay s t → InKeys s.watchers → Fits ks s → Fits ks t
fits_stays s t ks stay keys h p l at =
    let here : linked_at p s.instances ≡ Some l = ap (linked_at p) (sym stay.instances) ∙ at in
    all_map (OutletFits (leads_in s) s.watchers ks (site_keys l.page) l.page.serials l.fragment.outlets) (OutletFits (leads_in t) t.watchers ks (site_keys l.page) l.page.serials l.fragment.outlets) l.page.outlets
    (λ x fit site on w e out.
    let was : leads_in s (key_in l.page x.serial) ≡ true = sym (same_site s t stay.instances stay.inner (key_in l.page x.serial)) ∙ on in
    fit site was w (stay.found keys (key_in l.page x.serial) w was e) out) (h p l here)
