use Rattle.std.proofs.Common.{List, subst, sym}
use Rattle.std.specs.Prelude.{option_map}
use Rattle.ng_base.specs.Meets.{Gives}
use Rattle.ng_drawing.specs.Drawing.{Rendered}
use Rattle.ng_drawing.specs.Instance.{Instance, rendering}
use Rattle.ng_drawing.specs.InstanceOf.{instance_of}
use Rattle.ng_html.specs.Seen.{forest_of}
use Rattle.ng_link.specs.State.{State, state_of, templates_of}
use Rattle.ng_markup.specs.Forest.{Forest}
use Rattle.ng_render.specs.Free.{is_want}
use Rattle.ng_render.specs.OverOf.{InstanceStands}
use Rattle.ng_drawing.specs.Named.{Named, fragments_in}
use Rattle.ng_page.proofs.Rendered.{names_stand, page_rendered}
use Rattle.ng_page.proofs.page.rendered.Goals as goal

pub render-requires : goal.render-requires
render-requires c =
    let w = c.args.works.now in
    let s : State = state_of w in
    subst (λ (ts : List Named). InstanceStands s.core.objects s.core.scopes (instance_of (fragments_in ts) c.args.i.now)) (sym c.templates.ensures)
    (names_stand s (instance_of (fragments_in (templates_of w)) c.args.i.now) c.requires.page.works.whole.sound.objects c.requires.page.watched c.requires.instance)

pub returns : goal.returns
returns c =
    let w = c.args.works.now in
    let s : State = state_of w in
    let i : Instance = instance_of (fragments_in (templates_of w)) c.args.i.now in
    subst (λ (r : Rendered Forest). Gives is_want (option_map forest_of) r c.render.result) (page_rendered s i c.requires.instance)
    (subst (λ (ts : List Named). Gives is_want (option_map forest_of) (rendering s.core.objects s.core.scopes (instance_of (fragments_in ts) c.args.i.now)) c.render.result) c.templates.ensures c.render.ensures)
