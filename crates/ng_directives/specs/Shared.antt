-- A hole that was read before.
use Rattle.std.specs.Prelude.{◌≡◌, ℕ, Bool, List, Ok}
use Rattle.ng_interp.specs.Parts.{hole, hole_at}
use Rattle.ng_language.specs.Trees.{Trees}

-- this text reads as this hole, wherever it stands
abbrev pub ReadsAs : List ℕ → Bool → Trees → Type 0
ReadsAs t once p = hole_at 0 t ≡ Ok (hole once p)
