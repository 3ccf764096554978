use Rattle.std.proofs.Common.{sym, ◌∙◌}
use Rattle.std.specs.Map.{lookup}
use Rattle.std.proofs.lemmas.Map.Made.{lookup-map_values}
use Rattle.ng_behaviour.specs.Keys.{is_key}
use Rattle.ng_link.specs.State.{listening_of}
use Rattle.ng_build.proofs.Tables.{seen_through}
use Rattle.ng_link.proofs.works.Works.listener.Goals as goal

pub returns : goal.returns
returns c =
    seen_through listening_of c.get.result (lookup (is_key c.args.key.now) c.args.self.now.declared.entries) c.get.ensures.value
    ∙ sym (lookup-map_values listening_of (is_key c.args.key.now) c.args.self.now.declared.entries)
