-- A scope that was made stands among the scopes.
use Rattle.std.proofs.Common.{◌≡◌, ◌<◌, ◌&&◌, ℕ, Bool, true, false, List, length, ap, sym, arith, nat_lt, if◌then◌else◌}
use Rattle.std.specs.Prelude.{Result, Ok, Err}
use Rattle.ng_base.specs.Objects.{Object}
use Rattle.ng_base.specs.declared.name.ScopeId.{ScopeId}
use Rattle.ng_base.specs.declared.fault.Memory.TheVariants.{Worn}
use Rattle.ng_behaviour.specs.Scopes.{Scope, with_child, children_at}
use Rattle.ng_behaviour.proofs.ScopeTree.{grown-length}
use Rattle.ng_scopes.specs.Answers.{next_scope_name, named_scope}
use Rattle.ng_store.specs.declared.store.StoreFault.{StoreFault}
use Rattle.ng_store.specs.declared.store.StoreFault.TheVariants.{Full}

named_number : (t : List Scope) (c : ℕ) (objects : List Object) (s : ScopeId) → next_scope_name t c objects ≡ Ok s → s.0 ≡ length t
named_number t c objects s = by (nat_lt (length t) 4294967295 && nat_lt (length (children_at t c)) 4294967295)
  where
    room : (b : Bool) → (let r : Result ScopeId StoreFault = if b then Ok (record { 0 = length t }) else Err Full in r) ≡ Ok s → s.0 ≡ length t
    room true e = let same : (let x : ScopeId = record { 0 = length t } in x) ≡ s = cc in sym (ap (λ (x : ScopeId). x.0) same)
    room false e = absurd (cc)

    by : (a : Bool) → named_scope (if a then Ok (length t) else Err Worn) objects ≡ Ok s → s.0 ≡ length t
    by true h = room (nat_lt (length objects) 1000000) h
    by false h = absurd (cc)

pub named_below : (t u : List Scope) (c o : ℕ) (objects : List Object) (s : ScopeId) → next_scope_name t c objects ≡ Ok s → u ≡ with_child t c o → s.0 < length u
named_below t u c o objects s e same = omega (arith, named_number t c objects s e, ap length same, grown-length t c o)
