use Rattle.std.proofs.Common.{length}
use Rattle.std.specs.Prelude.{option_map}
use Rattle.ng_changes.proofs.Entries.{kept_more}
use Rattle.ng_value.specs.Snaps.{snap_of}
use Rattle.ng_settling.proofs.listening.run_listener.Goals as goal

pub former_value-requires-clause-former : goal.former_value-requires-clause-former
former_value-requires-clause-former c = kept_more (length c.args.core.now.store) (length c.keep.new.core.store) c.keep.ensures.grown (option_map snap_of c.args.former) c.requires.former
