use Rattle.std.proofs.Common.{◌∷◌, ◌++◌, [], Some, ap, sym, refl, ◌∙◌, map}
use Rattle.std.proofs.lemmas.List.{map-append, length-map}
use Rattle.ng_drawing.specs.Template as template
use Rattle.ng_compose.specs.ComposedOf.{composed_of}
use Rattle.ng_drawing.specs.Composing.{padded}
use Rattle.ng_parts.specs.FragmentOf.{sites_of, mark_of}
use Rattle.ng_parts.specs.SiteOf.{site_of}
use Rattle.ng_compose.proofs.ComposingTurns.{site_is}
use Rattle.ng_compose.proofs.composed.Composed.push_site.Goals as goal

pub returns : goal.returns
returns c =
    let old = c.args.self.now in
    let count = c.len-count.ensures ∙ (old.sites.ok.0 ∙ sym (length-map old.sites.items site_of)) in
    site_is (mark_of c.args.mark) c.args.n (site_of c.args.site.now) (composed_of old) _
    (ap sites_of c.in_ok-push.ensures.items ∙ (map-append site_of old.sites.items (c.in_ok-copy.copy ∷ []) ∙ ap (λ (x : template.Site). sites_of old.sites.items ++ x ∷ []) c.in_ok-copy.ensures))
    (ap (map mark_of) c.in_ok-push-2.ensures.items ∙ map-append mark_of old.marks.items (c.args.mark ∷ []))
    (c.in_ok-push-3.ensures.items ∙ (ap (λ xs. xs ++ Some c.len-count.result ∷ []) c.in_ok-pad.ensures ∙ ap (λ k. padded c.args.n old.moved.items ++ Some k ∷ []) count)) refl refl refl refl refl
