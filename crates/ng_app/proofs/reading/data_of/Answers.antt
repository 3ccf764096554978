use Rattle.std.proofs.Common.{ap, ◌∙◌, option_map, codes}
use Rattle.serde_json.specs.View.{view}
use Rattle.serde_json.proofs.Views.{view-lookup}
use Rattle.ng_app.proofs.reading.data_of.Goals as goal

pub returns : goal.returns
returns c = ap (option_map view) c.remove.ensures.value ∙ view-lookup (codes "data") c.args.members.entries
