use Rattle.std.proofs.Common.{◌≡◌, ◌<◌, ◌∙◌, ℕ, List, [], ap, length, map, subst, sym}
use Rattle.std.specs.Prelude.{IsSome}
use Rattle.ng_base.specs.declared.name.ScopeId.{ScopeId}
use Rattle.ng_base.specs.declared.name.TplId.{TplId}
use Rattle.ng_drawing.specs.Origins.{plain_origin, first_home}
use Rattle.ng_drawing.specs.declared.origin.Home.{Home}
use Rattle.ng_drawing.specs.declared.origin.Origin.{Origin}
use Rattle.ng_steps.specs.LinkingOf.{AreBelow}
use Rattle.ng_link.specs.State.{State, state_of, templates_of}
use Rattle.ng_drawing.specs.Named.{Named, fragment_for}
use Rattle.ng_watch.specs.Table.{watchers_of}
use Rattle.ng_page.specs.Opening.{linked_on, page_origin}
use Rattle.ng_page.proofs.DigestsStay.{AreFitting}
use Rattle.ng_page.proofs.Opened.{first_fragment, IsLinkedAs, page_linked, opened_fitting}
use Rattle.ng_commands.proofs.Sites.{InKeys}
use Rattle.ng_page.proofs.opening.link_page.Goals as goal

-- the origin of the first template's own fragment
is_first : (t : TplId) (h : Home) (o : Origin) → o ≡ plain_origin h 0 → h ≡ first_home t → t.0 ≡ 0 → o ≡ page_origin
is_first t h o made home first = made ∙ (ap (λ (x : Home). plain_origin x 0) home ∙ ap (λ (n : ℕ). plain_origin (first_home (record { 0 = n })) 0) first)

pub link_at-requires-clause-template : goal.link_at-requires-clause-template
link_at-requires-clause-template c =
    subst (λ (o : Origin). IsSome (fragment_for (templates_of c.args.works.now) o)) (sym (is_first c.args.t c.first.result c.plain-origin.result c.plain-origin.ensures c.first.ensures c.requires.first))
    (first_fragment (templates_of c.args.works.now) c.requires.works.templates)

pub link_at-requires-clause-outsides : goal.link_at-requires-clause-outsides
link_at-requires-clause-outsides c = subst (λ (ns : List ScopeId). AreBelow (length c.args.works.now.core.scopes) (map (λ (s : ScopeId). s.0) ns)) (sym c.new-outsides.ensures.items) tt

pub link_at-requires-clause-free : goal.link_at-requires-clause-free
link_at-requires-clause-free c = (c.requires.bare, c.sound.ensures.top)

pub returns : goal.returns
returns c =
    let v = c.args.works.now in
    let w = c.link_at.new.works in
    let s : State = state_of v in
    let b = c.in_ok-built.built in
    let origin = is_first c.args.t c.first.result c.plain-origin.result c.plain-origin.ensures c.first.ensures c.requires.first in
    let linked : IsLinkedAs (templates_of v) s (state_of w) b.fault b.added page_origin [] =
    subst (λ (ns : List ScopeId). IsLinkedAs (templates_of v) s (state_of w) b.fault b.added page_origin (map (λ (x : ScopeId). x.0) ns)) c.new-outsides.ensures.items
    (subst (λ (o : Origin). IsLinkedAs (templates_of v) s (state_of w) b.fault b.added o (map (λ (x : ScopeId). x.0) c.new-outsides.result.items)) origin c.in_ok-built.ensures.linked) in
    let state : state_of c.tell.new.works ≡ linked_on s = c.tell.ensures.state ∙ page_linked s (state_of w) b.fault b.added c.requires.works.templates linked in
    let opened : AreFitting [] (linked_on s) =
    opened_fitting s c.requires.bare (subst (λ t. InKeys (watchers_of t)) c.watchers.ensures c.count-in_order.ensures.ordered) c.sound.ensures c.requires.regular c.requires.works.whole.root in
    let fitting : AreFitting [] (state_of c.tell.new.works) = subst (AreFitting []) (sym state) opened in
    record {
      state = state;
      works = c.tell.ensures.works (record { whole = c.in_ok-built.ensures.whole; templates = subst (λ (ts : List Named). 0 < length ts) (sym c.link_at.ensures.templates) c.requires.works.templates });
      watched = fitting.watched;
      fits = fitting.fits;
    }
