use Rattle.std.proofs.Common.{◌∙◌, sym}
use Rattle.ng_base.specs.ViewOf.{view_of}
use Rattle.ng_value.proofs.DeepTexts.{deep_text}
use Rattle.ng_value.proofs.laws.same_deep_same_text.Goals as goal

pub returns : goal.returns
returns g c =
    deep_text (g.H.Heap.objects c.args.one.now) (view_of c.args.a.now) (view_of c.args.kept.now) c.requires.first
    ∙ sym (deep_text (g.H.Heap.objects c.args.other.now) (view_of c.args.b.now) (view_of c.args.kept.now) c.requires.second)
