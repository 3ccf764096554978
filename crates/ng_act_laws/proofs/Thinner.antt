-- No program brings back a listener that is gone, whatever it opens.
use Rattle.std.proofs.Common.{◌≡◌, ℕ, zero, suc, List, length, Option, Some, None, refl, ap, ◌∙◌}
use Rattle.ng_behaviour.specs.Listeners.{place_of}
use Rattle.ng_behaviour.specs.Scopes.{Scope, next_scope, path_at}
use Rattle.ng_behaviour.proofs.Dying.{dead-length}
use Rattle.ng_core.specs.Burying.{next_then, hushed, hushes, buried, many}
use Rattle.ng_act.specs.Actions.{does}
use Rattle.ng_core.specs.State.{State, with_change, leaves}
use Rattle.ng_core.proofs.Buried.{buried_scopes}
use Rattle.ng_act_laws.proofs.Later.{Later, later-refl, later-trans, later-on_at, later-off, later-quiet}
use Rattle.ng_act.proofs.Programs.{Steps, IsKept, does-kept}

pub record Thinner (s t : State) : Type 0 where
  pub count : length t.scopes ≡ length s.scopes
  pub later : Later s.heard t.heard

next-later : (o : Option ℕ) (s : State) (f : ℕ → State) → ((sc : ℕ) → Later s.heard (f sc).heard) → Later s.heard (next_then o s f).heard
next-later None s f h = later-refl s.heard
next-later (Some sc) s f h = h sc

hushes-later : (k top last : ℕ) (s : State) → Later s.heard (hushes k top last s).heard
hushes-later zero top last s = later-refl s.heard
hushes-later (suc k) top last s =
    next-later (next_scope s.scopes (path_at s.scopes last) (path_at s.scopes top)) s (λ sc. hushes k top sc (hushed sc s))
    (λ sc. later-trans s.heard (hushed sc s).heard (hushes k top sc (hushed sc s)).heard (later-quiet s.heard sc) (hushes-later k top sc (hushed sc s)))

buried-later : (sc : ℕ) (s : State) → Later s.heard (buried sc s).heard
buried-later sc s =
    let t : State = hushed sc (with_change (leaves sc) s) in
    later-trans s.heard t.heard (hushes (many s) sc sc t).heard (later-quiet s.heard sc) (hushes-later (many s) sc sc t)

pub thinner : Steps Thinner
thinner = record {
  same = λ s. record { count = refl; later = later-refl s.heard };
  on = λ s t u a b. record { count = b.count ∙ a.count; later = later-trans s.heard t.heard u.heard a.later b.later };
  count = λ s t a. a.count;
  others = λ s t o n f es eh. record { count = ap (λ (x : List Scope). length x) es; later = rw eh (later-refl s.heard) };
  off = λ s id. record { count = refl; later = later-off s.heard id };
  listened = λ scope name p s live. record { count = refl; later = later-on_at (place_of s.heard scope name) s.heard scope name (record { id = length s.funs; body = p }) };
  buried = λ sc s l. record { count = ap (λ (x : List Scope). length x) (buried_scopes sc s) ∙ dead-length (path_at s.scopes sc) s.scopes; later = buried-later sc s };
}

pub does-thinner : (room : ℕ) → IsKept Thinner (does room)
does-thinner room = does-kept Thinner thinner room
