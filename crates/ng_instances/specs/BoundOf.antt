-- What the sites of bindings write, and the scopes of an instance, as the code has them.
use Rattle.std.specs.Prelude.{ℕ, List, map, option_map}
use Rattle.ng_parse.specs.ProgramOf.{program}
use Rattle.ng_value.specs.Snaps.{snap_of}
use Rattle.ng_instances.specs.Bindings.{BoundPiece, bound_word, bound_hole, Bound, bound_text, bound_in, bound_both, Bounds}
use Rattle.ng_instances.specs.Instances.{Inner}
use Rattle.ng_instances.specs.Registering.{Registered, Ground, Round}
use Rattle.ng_instances.specs.declared.registering.Registered as code_registered
use Rattle.ng_instances.specs.declared.outlets.Ground as code_ground
use Rattle.ng_instances.specs.declared.outlets.Round as code_round
use Rattle.ng_instances.specs.declared.instances.Bound as code
use Rattle.ng_instances.specs.declared.instances.Bound.TheVariants.{Text, OneWay, TwoWay}
use Rattle.ng_instances.specs.declared.instances.BoundPiece as code_piece
use Rattle.ng_instances.specs.declared.instances.BoundPiece.TheVariants.{Word, Hole}
use Rattle.ng_instances.specs.declared.instances.Inner as code_inner

abbrev pub piece_of : code_piece.BoundPiece → BoundPiece
piece_of (Word t) = bound_word t
piece_of (Hole n) = bound_hole n

abbrev pub bound_of : code.Bound → Bound
bound_of (Text scope name pieces) = bound_text scope.0 name (map piece_of pieces.items)
bound_of (OneWay scope name) = bound_in scope.0 name
bound_of (TwoWay scope name over writes) = bound_both scope.0 name over.0 (option_map program writes)

abbrev pub bounds_of : List (ℕ × code.Bound) → Bounds
bounds_of t = map (λ e. (e.0, bound_of e.1)) t

abbrev pub inner_of : code_inner.Inner → Inner
inner_of i = record { scope = i.scope.0; path = i.path }

abbrev pub ground_of : code_ground.Ground → Ground
ground_of g = record { scopes = map (λ s. s.0) g.scopes.now; outsides = map (λ s. s.0) g.outsides.now }

abbrev pub registered_of : code_registered.Registered → Registered
registered_of r = record {
  serials = r.serials.items;
  kept = map (option_map snap_of) r.kept.items;
  at_hand = record { scopes = map (λ s. s.0) r.scopes.items; outsides = map (λ s. s.0) r.outsides.items };
  bounds = bounds_of r.bounds.entries;
}

abbrev pub round_of : code_round.Round → Round
round_of r = record { home = r.home; scope = r.scope.0; outsides = map (λ s. s.0) r.outsides.items }
