-- What burying a scope leaves as it was.
use Rattle.std.proofs.Common.{◌≡◌, ℕ, zero, suc, List, [], ◌∷◌, ◌++◌, Option, Some, None, refl, ap, ◌∙◌}
use Rattle.ng_behaviour.specs.Scopes.{path_at, without_scope, next_scope}
use Rattle.ng_core.specs.Burying.{next_then, hushed, hushes, buried, many}
use Rattle.ng_core.specs.State.{State, leaves, with_change}

-- what is hushed keeps its scopes and objects
next_same : {A : Type 0} (g : State → A) (o : Option ℕ) (s : State) (f : ℕ → State) → ((sc : ℕ) → g (f sc) ≡ g s) → g (next_then o s f) ≡ g s
next_same g None s f h = refl
next_same g (Some sc) s f h = h sc

hushes_same : {A : Type 0} (g : State → A) → ((sc : ℕ) (s : State) → g (hushed sc s) ≡ g s) → (k top last : ℕ) (s : State) → g (hushes k top last s) ≡ g s
hushes_same g e zero top last s = refl
hushes_same g e (suc k) top last s =
    next_same g (next_scope s.scopes (path_at s.scopes last) (path_at s.scopes top)) s (λ sc. hushes k top sc (hushed sc s))
    (λ sc. hushes_same g e k top sc (hushed sc s) ∙ e sc s)

pub buried_scopes : (sc : ℕ) (s : State) → (buried sc s).scopes ≡ without_scope s.scopes sc
buried_scopes sc s = ap (λ t. without_scope t sc) (hushes_same (λ (x : State). x.scopes) (λ c x. refl) (many s) sc sc (hushed sc (with_change (leaves sc) s)))

pub buried_objects : (sc : ℕ) (s : State) → (buried sc s).objects ≡ s.objects
buried_objects sc s = hushes_same (λ (x : State). x.objects) (λ c x. refl) (many s) sc sc (hushed sc (with_change (leaves sc) s))

pub buried_changes : (sc : ℕ) (s : State) → (buried sc s).changes ≡ s.changes ++ leaves sc ∷ []
buried_changes sc s = hushes_same (λ (x : State). x.changes) (λ c x. refl) (many s) sc sc (hushed sc (with_change (leaves sc) s))

pub buried_serial : (sc : ℕ) (s : State) → (buried sc s).serial ≡ s.serial
buried_serial sc s = hushes_same (λ (x : State). x.serial) (λ c x. refl) (many s) sc sc (hushed sc (with_change (leaves sc) s))

pub buried_handed : (sc : ℕ) (s : State) → (buried sc s).handed ≡ s.handed
buried_handed sc s = hushes_same (λ (x : State). x.handed) (λ c x. refl) (many s) sc sc (hushed sc (with_change (leaves sc) s))
