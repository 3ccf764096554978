use Rattle.std.proofs.Common.{◌≡◌, ℕ, List, drop, map}
use Rattle.ng_inputs.specs.Files.{Fetched, Fetches, no_inputs}
use Rattle.ng_inputs.specs.InputsOf.{file_of, inputs_of}
use Rattle.ng_inputs.proofs.files.fetch_all.Given as goal

abbrev pub invariant-loop-file : goal.invariant-loop-file
invariant-loop-file g l = record {
  told : (n : List ℕ) → g.S.Shelf.bytes l.shelf n ≡ g.S.Shelf.bytes l.initial.shelf n;
  failures : g.S.Shelf.failed l.shelf ≡ g.S.Shelf.failed l.initial.shelf;
  rest : (now : List (List ℕ)) (end : Fetched) → Fetches (g.S.Shelf.bytes l.initial.shelf) (inputs_of l.inputs) (map file_of (drop l.file-index l.files)) (g.S.Shelf.failed l.initial.shelf) now end
      → Fetches (g.S.Shelf.bytes l.initial.shelf) no_inputs (map file_of l.files) (g.S.Shelf.failed l.initial.shelf) now end;
}
