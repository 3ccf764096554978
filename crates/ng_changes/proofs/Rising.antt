-- No action lowers the next number of registration, or changes the path of a scope.
use Rattle.std.proofs.Common.{◌≡◌, ◌≤◌, ◌∙◌, ℕ, List, refl, ap, arith}
use Rattle.ng_behaviour.specs.Scopes.{path_at}
use Rattle.ng_core.specs.Burying.{buried}
use Rattle.ng_core.specs.State.{State}
use Rattle.ng_core.proofs.Buried.{buried_scopes, buried_serial}
use Rattle.ng_act.proofs.Programs.{Steps}
use Rattle.ng_changes.proofs.ScopePaths.{paths_of, dead_paths, same_count}

-- the next number of registration, and the paths of the scopes
abbrev pub Mark : Type 0
Mark = ℕ × List (List ℕ)

abbrev pub mark : State → Mark
mark s = (s.serial, paths_of s.scopes)

abbrev pub Rises : Mark → Mark → Type 0
Rises m n = (m.0 ≤ n.0) × (n.1 ≡ m.1)

pub rises-refl : (m : Mark) → Rises m m
rises-refl m = (omega arith, refl)

pub rises-trans : (a b c : Mark) → Rises a b → Rises b c → Rises a c
rises-trans a b c h k = (omega (arith, h.0, k.0), k.1 ∙ h.1)

pub buried-rises : (sc : ℕ) (s : State) → Rises (mark s) (mark (buried sc s))
buried-rises sc s =
    let n : (buried sc s).serial ≡ s.serial = buried_serial sc s in
    (omega (arith, n), ap paths_of (buried_scopes sc s) ∙ dead_paths (path_at s.scopes sc) s.scopes)

-- each step only raises it
abbrev pub Raised : State → State → Type 0
Raised s t = Rises (mark s) (mark t)

pub rising : Steps Raised
rising = record {
  same = λ s. rises-refl (mark s);
  on = λ s t u a b. rises-trans (mark s) (mark t) (mark u) a b;
  count = λ s t a. same_count s.scopes t.scopes a.1;
  others = λ s t o n f es eh. (n, ap paths_of es);
  off = λ s id. rises-refl (mark s);
  listened = λ scope name p s live. rises-refl (mark s);
  buried = λ sc s l. buried-rises sc s;
}
