use Rattle.std.proofs.Common.{◌≡◌, ◌++◌, drop}
use Rattle.std.specs.List.{flat_map}
use Rattle.ng_link.specs.State.{state_of, looks_in}
use Rattle.ng_link.proofs.looks.shown_words.Given as goal

abbrev pub invariant-loop-key : goal.invariant-loop-key
invariant-loop-key l = l.words ++ flat_map (λ k. (looks_in (state_of l.works) k).words) (drop l.key-index l.keys) ≡ flat_map (λ k. (looks_in (state_of l.works) k).words) l.keys
