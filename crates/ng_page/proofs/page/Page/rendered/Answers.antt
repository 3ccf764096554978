use Rattle.std.proofs.Common.{◌∙◌, ap, sym}
use Rattle.std.specs.Prelude.{option_map}
use Rattle.ng_drawing.specs.Drawing.{shown_as}
use Rattle.ng_drawing.specs.InstanceOf.{instance_of}
use Rattle.ng_markup.specs.Forest.{Forest}
use Rattle.ng_page.specs.PageOf.{state_of, fragments_of}
use Rattle.ng_page.proofs.Rendered.{none_rendered}
use Rattle.ng_page.proofs.page.Page.rendered.Goals as goal

pub returns-in-None : goal.returns-in-None
returns-in-None c =
    let p = c.args.self.now in
    none_rendered (state_of p) (sym (ap (option_map (instance_of (fragments_of p))) c.in-None.is) ∙ c.in_ok-instance.ensures.instance) ∙ ap (λ (f : Forest). shown_as f) (sym c.new.ensures)
