use Rattle.std.proofs.Common.{◌≡◌, drop, map}
use Rattle.ng_inputs.specs.Files.{first_role}
use Rattle.ng_inputs.specs.InputsOf.{file_of}
use Rattle.ng_inputs.proofs.files.first_role.Given as goal

abbrev pub invariant-loop-file : goal.invariant-loop-file
invariant-loop-file l = first_role l.name (map file_of (drop l.file-index l.files)) l.role ≡ first_role l.name (map file_of l.files) l.role
