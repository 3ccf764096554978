use Rattle.std.proofs.Common.{ap, ◌∙◌, option_map}
use Rattle.serde_json.specs.View.{view}
use Rattle.serde_json.proofs.Views.{view-lookup}
use Rattle.ng_entries.proofs.OptionMaps.{option_map-map}
use Rattle.ng_entries.proofs.members.member.Goals as goal

pub returns : goal.returns
returns c = option_map-map (λ v. v.now) view c.get.result ∙ (ap (option_map view) c.get.ensures.value ∙ view-lookup c.args.name.now c.args.members.now.entries)
