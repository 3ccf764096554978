-- What the bindings of an isolate scope are set to when its element is linked (guide: Directives, "Isolating the Scope of a Directive"; API: `$compile`,
-- `scope`): each to what it has then. Where that is a fault nothing is set.
use Rattle.std.specs.Prelude.{ℕ, Bool, true, false, List, [], ◌∷◌, ◌++◌, length, Option, None, Some, Result, Ok, Err}
use Rattle.ng_base.specs.Meets.{◌>>=◌ as ◌>>?◌}
use Rattle.ng_base.specs.Views.{ViewTree}
use Rattle.ng_base.specs.declared.fault.Fault.{Fault}
use Rattle.ng_base.specs.declared.value.Value.{Value}
use Rattle.ng_base.specs.declared.value.Value.TheVariants as value
use Rattle.ng_behaviour.specs.Scopes.{object_at}
use Rattle.ng_core.specs.Keeping.{stores}
use Rattle.ng_core.specs.State as act
use Rattle.ng_core.specs.State.{Run, ◌>>=◌, an_outer, with_funs, with_objects}
use Rattle.ng_drawing.specs.Instance.{text_now, two_way_kind}
use Rattle.ng_drawing.specs.Template.{Piece, word, hole, Site}
use Rattle.ng_language.specs.Objects.{set_name}
use Rattle.ng_language.specs.Trees.{Trees}
use Rattle.ng_language.specs.declared.snapshots.SnapKind.{SnapKind}
use Rattle.ng_language.specs.declared.snapshots.SnapKind.TheVariants as snaps
use Rattle.ng_instances.specs.Bindings.{BoundPiece, bound_word, bound_hole}
use Rattle.ng_value.specs.Taken.{taken}
use Rattle.ng_evaluation.specs.Evaluation.{evaluated_program}
use Rattle.ng_write.specs.Making.{value_in}

-- a name of a scope is set, whatever it is
abbrev pub set_on : ℕ → List ℕ → Value → act.State → act.State
set_on scope name v c = with_objects (set_name c.objects (object_at c.scopes scope) name v) c

-- the value of a program over a scope
abbrev pub value_over : ℕ → Trees → act.State → Result ViewTree Fault
value_over over p c = evaluated_program c.objects (object_at c.scopes over) [] p

abbrev pub kind_for : Bool → ViewTree → SnapKind
kind_for true v = two_way_kind v
kind_for false v = snaps.Reference

-- a value with its snapshot
abbrev pub seen_over : Bool → ℕ → Trees → act.State → Result (ViewTree × ViewTree) Fault
seen_over both over p c = value_over over p c >>? λ v. taken (kind_for both v) c.objects v >>? λ s. Ok (v, s)

-- a name is set to a value; a fresh list or record becomes a new object
abbrev pub written_to : ℕ → List ℕ → ViewTree → act.State → Run (Unit {0})
written_to scope name v c = stores v c >>= λ t d. (set_on scope name (value_in t) d, Ok tt)

-- a name is set to a value with its snapshot, which is what is kept; where that met a fault nothing is
abbrev pub value_set : ℕ → List ℕ → Result (ViewTree × ViewTree) Fault → act.State → Run ViewTree
value_set scope name (Err e) c = (c, Err e)
value_set scope name (Ok v) c = written_to scope name v.0 c >>= λ u d. (d, Ok v.1)

-- a name is set to the value of a program over another scope
abbrev pub set_to_value : Bool → ℕ → List ℕ → ℕ → Trees → act.State → Run ViewTree
set_to_value both scope name over p c = value_set scope name (seen_over both over p c) c

-- what the hole of a site shows over a scope
abbrev pub hole_shown : ℕ → act.State → Option Site → Result (List (List ℕ)) Fault
hole_shown over c None = Ok []
hole_shown over c (Some x) = text_now c.objects (object_at c.scopes over) x.program >>? λ t. Ok (t ∷ [])

-- what the holes of a text show, up to the first that faults
abbrev pub shown_over : ℕ → (ℕ → Option Site) → List Piece → act.State → Result (List (List ℕ)) Fault
shown_over over site [] c = Ok []
shown_over over site (word w ∷ ps) c = shown_over over site ps c
shown_over over site (hole n ∷ ps) c = hole_shown over c (site n) >>? λ ts. shown_over over site ps c >>? λ us. Ok (ts ++ us)

-- a piece alone
abbrev pub piece_shown : ℕ → (ℕ → Option Site) → Piece → act.State → Result (List (List ℕ)) Fault
piece_shown over site (word w) c = Ok []
piece_shown over site (hole n) c = hole_shown over c (site n)

-- behind what is shown so far
abbrev pub and_shown : List (List ℕ) → Result (List (List ℕ)) Fault → Result (List (List ℕ)) Fault
and_shown ts r = r >>? λ us. Ok (ts ++ us)

abbrev pub joined_with : List Piece → List (List ℕ) → List ℕ
joined_with [] ts = []
joined_with (word w ∷ ps) ts = w ++ joined_with ps ts
joined_with (hole n ∷ ps) [] = joined_with ps []
joined_with (hole n ∷ ps) (t ∷ ts) = t ++ joined_with ps ts

abbrev pub text_set : ℕ → List ℕ → List Piece → Result (List (List ℕ)) Fault → act.State → Run (List (List ℕ))
text_set scope name ps (Err e) c = (c, Err e)
text_set scope name ps (Ok ts) c = (set_on scope name (value.Text (joined_with ps ts)) c, Ok ts)

abbrev pub set_to_text : ℕ → List ℕ → ℕ → (ℕ → Option Site) → List Piece → act.State → Run (List (List ℕ))
set_to_text scope name over site ps c = text_set scope name ps (shown_over over site ps c) c

-- a property is a function that runs a program on another scope
abbrev pub set_to_call : ℕ → List ℕ → ℕ → Trees → act.State → act.State
set_to_call scope name over p c = set_on scope name (value.Fun (record { 0 = length c.funs })) (with_funs (c.funs ++ an_outer over p ∷ []) c)

-- the pieces of a text whose holes are sites of these numbers of registration
abbrev pub bound_pieces : List Piece → List ℕ → List BoundPiece
bound_pieces [] ss = []
bound_pieces (word w ∷ ps) ss = bound_word w ∷ bound_pieces ps ss
bound_pieces (hole n ∷ ps) [] = bound_pieces ps []
bound_pieces (hole n ∷ ps) (s ∷ ss) = bound_hole s ∷ bound_pieces ps ss

-- the number of registration of a piece's hole, if it is one
abbrev pub numbers_of : BoundPiece → List ℕ
numbers_of (bound_word w) = []
numbers_of (bound_hole n) = n ∷ []
