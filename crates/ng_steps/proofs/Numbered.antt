-- What a run and the changes after it leave of works: the numbers of registration, the paths of the scopes, and what is linked.
use Rattle.std.proofs.Common.{◌≡◌, Bool, true, false, List, [], ◌∷◌, Result, Ok, Err, refl, ap, ◌∙◌, sym, subst}
use Rattle.std.specs.Prelude.{if◌then◌else◌}
use Rattle.ng_core.specs.State as act
use Rattle.ng_core.specs.State.{Change, Run, adds, removes, leaves, handed}
use Rattle.ng_base.specs.declared.fault.Fault.{Fault}
use Rattle.ng_changes.proofs.Rising.{Mark, mark, Rises, rises-refl, rises-trans}
use Rattle.ng_changes.proofs.Wholes.{SameLinked, changed_same, followed_same, linked-trans}
use Rattle.ng_changes.specs.Changes.{applied, applied_all, changed, without_changes, key_in}
use Rattle.ng_changes.specs.Runs.{followed}
use Rattle.ng_link.specs.Calls.{with_core}
use Rattle.ng_instances.specs.Instances.{is_site}
use Rattle.ng_link.specs.State.{State}

-- what is done for the watchers leaves the core
core_choice : (b : Bool) (s t : State) → t.core ≡ s.core → (let u : State = if b then s else t in u.core ≡ s.core)
core_choice true s t h = refl
core_choice false s t h = h

applied_core : (c : Change) (s : State) → (applied c s).core ≡ s.core
applied_core (adds w) s = core_choice (is_site s.inner s.instances (key_in s w.scope w.serial)) s _ refl
applied_core (removes scope serial) s = core_choice (is_site s.inner s.instances (key_in s scope serial)) s _ refl
applied_core (leaves scope) s = refl

pub all_core : (cs : List Change) (s : State) → (applied_all cs s).core ≡ s.core
all_core [] s = refl
all_core (c ∷ cs) s = all_core cs (applied c s) ∙ applied_core c s

handed_mark : {A : Type 0} (s : act.State) (o : Result A Fault) → mark (handed (s, o)) ≡ mark s
handed_mark s (Ok v) = refl
handed_mark s (Err e) = refl

pub changed_core : (s : State) → mark (changed s).core ≡ mark s.core
changed_core s = ap mark (all_core s.core.changes (without_changes s))

-- what follows a run leaves its number of registration and its paths
pub followed_mark : {A : Type 0} (r : Run A) (s : State) → mark (followed r s).core ≡ mark r.0
followed_mark r s = changed_core (with_core (handed r) s) ∙ handed_mark r.0 r.1

-- what is linked stays, and so do the paths of the scopes, and no number of registration is given twice
abbrev pub Lasts : State → State → Type 0
Lasts s t = SameLinked s t × Rises (mark s.core) (mark t.core)

pub lasts-trans : (s t u : State) → Lasts s t → Lasts t u → Lasts s u
lasts-trans s t u h k = (linked-trans s t u h.0 k.0, rises-trans (mark s.core) (mark t.core) (mark u.core) h.1 k.1)

pub core_lasts : (c : act.State) (s : State) → Rises (mark s.core) (mark c) → Lasts s (with_core c s)
core_lasts c s h = ((refl, refl), h)

pub changed_lasts : (s : State) → Lasts s (changed s)
changed_lasts s = (changed_same s, subst (λ (m : Mark). Rises (mark s.core) m) (sym (changed_core s)) (rises-refl (mark s.core)))

pub followed_lasts : {A : Type 0} (r : Run A) (s : State) → Rises (mark s.core) (mark r.0) → Lasts s (followed r s)
followed_lasts r s h = (followed_same r s, subst (λ (m : Mark). Rises (mark s.core) m) (sym (followed_mark r s)) h)
