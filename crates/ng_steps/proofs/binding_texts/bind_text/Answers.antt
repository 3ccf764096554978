use Rattle.std.proofs.Common.{◌≡◌, ◌∙◌, ℕ, List, ap, drop, length, map, slice_get, ◌<◌, subst, sym, arith}
use Rattle.ng_core.proofs.MoreScopes.{ok_and}
use Rattle.ng_core.specs.Frames as cores
use Rattle.ng_core.specs.State.{Run}
use Rattle.ng_changes.proofs.Answered.{on_all}
use Rattle.ng_steps.proofs.Binds.{acts_gives, text_bound_is}
use Rattle.ng_steps.specs.LinkBindings.{set_to_text}
use Rattle.ng_steps.specs.Links.{Linking, with_bounds}
use Rattle.ng_steps.specs.LinkingOf.{linking, texts_of}
use Rattle.ng_instances.specs.Bindings.{BoundPiece, bound_text}
use Rattle.ng_instances.specs.BoundOf.{piece_of}
use Rattle.ng_instances.specs.Registering.{Registered}
use Rattle.ng_link.specs.State.{state_of}
use Rattle.ng_behaviour.specs.Scopes.{Scope}
use Rattle.ng_steps.proofs.binding_texts.bind_text.Goals as goal

pub returns-clause-bound : goal.returns-clause-bound
returns-clause-bound c =
    let g : Linking = linking c.args.works.now c.args.done.now in
    let w = c.register_pieces.new.works in
    let k : Linking = linking w c.register_pieces.new.done in
    let t = state_of c.set_to_text-made.new.works in
    let end = c.set_to_text-made.result in
    let scope : ℕ = c.args.scope.0 in
    let ns : List ℕ = drop (length g.made.serials) k.made.serials in
    let bs : List BoundPiece = map piece_of c.in_ok-register_pieces.field-0.items in
    let all : c.len-first.result ≡ length g.made.serials = omega (arith, c.len-first.ensures, c.args.done.now.made.serials.ok.0) in
    let noted = ap (λ (m : Registered). record k { made = m }) c.in_ok-note_bound.ensures.noted
    ∙ (ap (λ (i : ℕ). with_bounds (drop i k.made.serials) (bound_text scope c.in_ok-copied.field-0 bs) k) all ∙ ap (λ (n : List ℕ). with_bounds ns (bound_text scope n bs) k) c.in_ok-copied.ensures) in
    on_all _ c.keep_text.result
    (λ xs. on_all _ c.keep_text.result
    (λ same.
    let r : Run (List (List ℕ)) = set_to_text scope c.args.name.now c.args.over.0 (slice_get xs) c.args.pieces.now (cores.state_of w.core) in
    let run = c.set_to_text-made.ensures.run xs same in
    ok_and c.keep_text.result (c.keep_text.ensures.kept r.1 (acts_gives texts_of end t.core r run)) c.keep_text.ensures.free
    (λ kept free. text_bound_is scope c.args.name.now c.args.over.0 (slice_get xs) c.args.pieces.now g k _ _ bs end t c.in_ok-register_pieces.ensures.registered c.in_ok-register_pieces.ensures.pieces noted run c.set_to_text-made.ensures.rest free kept)))

pub set_to_text-made-requires-clause-scope : goal.set_to_text-made-requires-clause-scope
set_to_text-made-requires-clause-scope c = subst (λ (t : List Scope). c.args.scope.0 < length t) (sym c.register_pieces.ensures.scopes) c.requires.scope

pub set_to_text-made-requires-clause-over : goal.set_to_text-made-requires-clause-over
set_to_text-made-requires-clause-over c = subst (λ (t : List Scope). c.args.over.0 < length t) (sym c.register_pieces.ensures.scopes) c.requires.over
