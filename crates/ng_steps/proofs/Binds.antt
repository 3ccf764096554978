-- What bindings come to at link, and what of it is known of the calls in the code.
use Rattle.std.proofs.Common.{◌≡◌, ◌∙◌, ℕ, Bool, List, [], ◌∷◌, Option, Some, None, Result, Ok, Err, ap, sym, drop, length, Bor, zero, suc, map, subst}
use Rattle.std.specs.List.{AllByRecursion}
use Rattle.std.specs.Prelude.{IfSome, option_map, slice_get}
use Rattle.std.proofs.lemmas.Option.{slice_get-map}
use Rattle.std.specs.declared.alloc.Global.{Global}
use Rattle.std.specs.declared.vec.Vec.{Vec}
use Rattle.ng_base.specs.Faults.{is_memory}
use Rattle.ng_base.specs.Meets.{Gives}
use Rattle.ng_base.specs.Views.{ViewTree}
use Rattle.ng_base.specs.declared.fault.Fault.{Fault}
use Rattle.ng_core.specs.Frames.{Acts}
use Rattle.ng_core.specs.State as act
use Rattle.ng_core.specs.State.{Run}
use Rattle.ng_drawing.specs.Template.{Binding, Fragment, Piece, Site, Source}
use Rattle.ng_steps.specs.LinkBindings.{bound_pieces, set_to_text, set_to_value}
use Rattle.ng_steps.specs.Links.{Linking, binding_linked, scope_of, source_bound, bound_by_text, bound_by_value, registered, registered_many, text_bound, text_bound_by, texts_kept, value_bound, value_bound_by, value_kept, with_bounds}
use Rattle.ng_steps.specs.LinkingOf.{texts_of, IsGround}
use Rattle.ng_changes.specs.Whole.{NoWant}
use Rattle.ng_language.specs.Trees.{Trees}
use Rattle.ng_instances.specs.Bindings.{Bound, BoundPiece, bound_text}
use Rattle.ng_link.specs.Calls.{with_core}
use Rattle.ng_build.specs.Linking.{piece_steps}
use Rattle.ng_instances.specs.Registering.{Ground}
use Rattle.ng_link.specs.State.{State}
use Rattle.ng_parse.specs.ProgramOf.{program}
use Rattle.ng_parse.specs.declared.programs.Program.{Program}
use Rattle.ng_value.specs.Snaps.{snap_of}
use Rattle.ng_value.specs.declared.snapshot.Snap.{Snap}

-- a call that did not want memory left and answered what its definition says
pub acts_left : {A B : Type 0} (seen : A → B) (end : Result A Fault) (s : act.State) (r : Run B) → Acts seen end s r → NoWant end → r.0 ≡ s
acts_left {A} {B} seen (Ok v) s r acts free = ap (λ (q : Run B). q.0) acts
acts_left {A} {B} seen (Err e) s r acts free = ap (λ (q : Run B). q.0) (acts free)

pub acts_gives : {A B : Type 0} (seen : A → B) (end : Result A Fault) (s : act.State) (r : Run B) → Acts seen end s r → Gives is_memory seen r.1 end
acts_gives {A} {B} seen (Ok v) s r acts = ap (λ (q : Run B). q.1) acts
acts_gives {A} {B} seen (Err e) s r acts = λ free. ap (λ (q : Run B). q.1) (acts free)

state_left : {A B : Type 0} (seen : A → B) (end : Result A Fault) (s t : State) (r : Run B) → Acts seen end t.core r → t ≡ with_core t.core s → NoWant end → t ≡ with_core r.0 s
state_left seen end s t r acts rest free = rest ∙ ap (λ (k : act.State). with_core k s) (sym (acts_left seen end t.core r acts free))

-- a value
pub value_bound_is : (both : Bool) (scope : ℕ) (name : List ℕ) (over : ℕ) (x : Option Site) (b : Bound) (g m h : Linking) (p : Trees) (end : Result Snap Fault) (t : State) → Some p ≡ option_map (λ (y : Site). y.program) x
    → m ≡ with_bounds (g.state.core.serial ∷ []) b (registered g) → Acts snap_of end t.core (set_to_value both scope name over p m.state.core) → t ≡ with_core t.core m.state → NoWant end
    → h ≡ value_kept (set_to_value both scope name over p m.state.core).1 (record m { state = t }) → h ≡ value_bound both scope name over x b g
value_bound_is both scope name over None b g m h p end t same noted acts rest free kept = absurd (cc)
value_bound_is both scope name over (Some y) b g m h p end t same noted acts rest free kept =
    let r : Run ViewTree = set_to_value both scope name over p m.state.core in
    let its : p ≡ y.program = cc in
    kept
    ∙ (ap (λ (s : State). value_kept r.1 (record m { state = s })) (state_left snap_of end m.state t r acts rest free)
    ∙ (ap (λ (q : Trees). bound_by_value (set_to_value both scope name over q m.state.core) m) its ∙ ap (λ (k : Linking). value_bound_by both scope name over (Some y) k) noted))

pub no_value_is : (both : Bool) (scope : ℕ) (name : List ℕ) (over : ℕ) (x : Option Site) (b : Bound) (g m : Linking) → None ≡ option_map (λ (y : Site). y.program) x → m ≡ with_bounds (g.state.core.serial ∷ []) b (registered g) → m ≡ value_bound both scope name over x b g
no_value_is both scope name over None b g m same noted = noted
no_value_is both scope name over (Some y) b g m same noted = absurd (cc)

-- a text with holes
pub text_bound_is : (scope : ℕ) (name : List ℕ) (over : ℕ) (site : ℕ → Option Site) (ps : List Piece) (g k m h : Linking) (bs : List BoundPiece) (end : Result (Vec (List ℕ) Global) Fault) (t : State)
    → k ≡ registered_many (piece_steps ps) g → bs ≡ bound_pieces ps (drop (length g.made.serials) k.made.serials) → m ≡ with_bounds (drop (length g.made.serials) k.made.serials) (bound_text scope name bs) k
    → Acts texts_of end t.core (set_to_text scope name over site ps m.state.core) → t ≡ with_core t.core m.state → NoWant end → h ≡ texts_kept (set_to_text scope name over site ps m.state.core).1 (record m { state = t }) → h ≡ text_bound scope name over site ps g
text_bound_is scope name over site ps g k m h bs end t gone pieces noted acts rest free kept =
    let r : Run (List (List ℕ)) = set_to_text scope name over site ps m.state.core in
    let ns : List ℕ = drop (length g.made.serials) k.made.serials in
    kept
    ∙ (ap (λ (s : State). texts_kept r.1 (record m { state = s })) (state_left texts_of end m.state t r acts rest free)
    ∙ (ap (λ (l : Linking). bound_by_text (set_to_text scope name over site ps l.state.core) l) (noted ∙ ap (λ (xs : List BoundPiece). with_bounds ns (bound_text scope name xs) k) pieces)
    ∙ ap (λ (l : Linking). text_bound_by (length g.made.serials) scope name over site ps l) gone))

-- ---- by the source of a binding

pub source_is : (f : Fragment) (b : Binding) (isolate over s v : ℕ) (x : Source) (g : Linking) → s ≡ scope_of g isolate → v ≡ scope_of g over → b.source ≡ x → source_bound (slice_get f.sites) s b.name v x g ≡ binding_linked f b isolate over g
source_is f b isolate over s v x g to from is =
    ap (λ (n : ℕ). source_bound (slice_get f.sites) n b.name v x g) to
    ∙ (ap (λ (n : ℕ). source_bound (slice_get f.sites) (scope_of g isolate) b.name n x g) from ∙ sym (ap (λ (y : Source). source_bound (slice_get f.sites) (scope_of g isolate) b.name (scope_of g over) y g) is))

-- the program of a site by its number
pub program_on : (xs : List Site) (ts : List Trees) (n : ℕ) (o : Option Trees) → ts ≡ map (λ (x : Site). x.program) xs → o ≡ slice_get ts n → o ≡ option_map (λ (y : Site). y.program) (slice_get xs n)
program_on xs ts n o same found = found ∙ (ap (λ (us : List Trees). slice_get us n) same ∙ slice_get-map (λ (x : Site). x.program) xs n)

pub program_found : (f : Fragment) (ts : List Trees) (n : ℕ) (o : Option Trees) → ts ≡ map (λ (x : Site). x.program) f.sites → o ≡ slice_get ts n → o ≡ option_map (λ (y : Site). y.program) (slice_get f.sites n)
program_found f ts n o same found = program_on f.sites ts n o same found

tree_at : (P : Trees → Type 0) (ts : List Trees) (n : ℕ) (t : Trees) → AllByRecursion P ts → slice_get ts n ≡ Some t → P t
tree_at P [] n t h e = absurd (cc)
tree_at P (x ∷ ts) zero t h e = let same : x ≡ t = cc in subst P same h.0
tree_at P (x ∷ ts) (suc n) t h e = tree_at P ts n t h.1 e

pub watchable_at : (P : Trees → Type 0) (ts : List Trees) (n : ℕ) (r : Option (Bor Program)) → AllByRecursion P ts → option_map (λ (p : Bor Program). program p.now) r ≡ slice_get ts n → IfSome r (λ p. P (program p.now))
watchable_at P ts n None h e = tt
watchable_at P ts n (Some p) h e = tree_at P ts n (program p.now) h (sym e)

pub ground_same : (m n : ℕ) (g h : Ground) → h ≡ g → n ≡ m → IsGround m g → IsGround n h
ground_same m n g h same count one = subst (IsGround n) (sym same) (subst (λ (k : ℕ). IsGround k g) (sym count) one)
