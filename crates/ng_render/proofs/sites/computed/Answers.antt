use Rattle.std.proofs.Common.{◌≡◌, ◌<◌, ℕ, List, length, get_or, map, refl, ap, sym, ◌∙◌, subst, Some}
use Rattle.std.specs.Prelude.{slice_get, option_map}
use Rattle.std.proofs.lemmas.Option.{slice_get-map, slice_get_read}
use Rattle.ng_base.specs.Faults.{is_memory}
use Rattle.ng_base.specs.Meets.{Gives}
use Rattle.ng_drawing.specs.Instance.{site_now}
use Rattle.ng_drawing.specs.InstanceOf.{state_of}
use Rattle.ng_parts.specs.SiteOf.{site_of}
use Rattle.ng_value.specs.Snaps.{snap_of}
use Rattle.ng_render.proofs.sites.computed.Goals as goal

seen_at : {X Y : Type 0} (f : X → Y) (xs : List X) (n : ℕ) (x : X) → n < length xs → x ≡ get_or xs n x → slice_get (map f xs) n ≡ Some (f x)
seen_at f xs n x l e = slice_get-map f xs n ∙ ap (option_map f) (slice_get_read xs (length xs) n x refl l e)

pub site_now-requires : goal.site_now-requires
site_now-requires c =
    let k = c.in-Some-get.ensures.lookup in
    c.requires.names.state c.args.n (state_of c.in-Some-get.state.now) (seen_at state_of c.args.over.now.states.now c.args.n c.in-Some-get.state.now k.3.0 k.1)

pub returns : goal.returns
returns c =
    let o = c.args.over.now in
    let n = c.args.n in
    let h = c.in-Some.ensures.lookup in
    let k = c.in-Some-get.ensures.lookup in
    subst (λ x. Gives is_memory (λ s. Some (option_map snap_of s)) (site_now o.store.now o.scopes.now x (slice_get (map state_of o.states.now) n)) c.site_now.result)
    (sym (seen_at site_of o.sites.now n c.in-Some.site.now h.3.0 h.1))
    (subst (λ y. Gives is_memory (λ s. Some (option_map snap_of s)) (site_now o.store.now o.scopes.now (Some (site_of c.in-Some.site.now)) y) c.site_now.result)
    (sym (seen_at state_of o.states.now n c.in-Some-get.state.now k.3.0 k.1))
    c.site_now.ensures)
