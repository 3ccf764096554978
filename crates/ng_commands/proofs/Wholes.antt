-- What holds of works stays where no program ran: where faults are handed over or forgotten, and where a task or a probe is added.
use Rattle.std.proofs.Common.{◌≡◌, ◌<◌, ℕ, List, [], ◌∷◌, ◌++◌, map, length, None, refl, ap, sym, subst, ◌∙◌, arith}
use Rattle.std.specs.List.{AllByRecursion}
use Rattle.ng_core.specs.Frames as cores
use Rattle.ng_core.specs.Frames.{IsSound, TaskStands, task_of}
use Rattle.ng_core.specs.declared.core_state.Core.{Core}
use Rattle.ng_core.specs.declared.core_state.Handed.{Handed}
use Rattle.ng_core.specs.declared.pending.Task.{Task}
use Rattle.ng_core.specs.State as act
use Rattle.ng_base.specs.Objects.{Object}
use Rattle.ng_behaviour.specs.Scopes.{Scope}
use Rattle.ng_dom.specs.Document.{Shows}
use Rattle.ng_dom.specs.Drawing.{Stands}
use Rattle.ng_changes.specs.Whole.{IsWhole, ListenersStand, RowsStand, HaveScopes, HaveBodies}
use Rattle.ng_changes.proofs.Wholes.{whole_after}
use Rattle.ng_link.specs.Calls.{with_core}
use Rattle.ng_link.specs.Events.{named}
use Rattle.ng_link.specs.Standing.{Standing, Displays}
use Rattle.ng_link.specs.State.{State, state_of, templates_of, shown}
use Rattle.ng_link.specs.Untroubled.{untroubled}
use Rattle.ng_link.specs.declared.works.Works.{Works}
use Rattle.ng_link.proofs.Displayed.{page_displays, page_names}
use Rattle.ng_commands.specs.BetweenSteps.{WorksAre, PageIs}
use Rattle.ng_commands.specs.Settled.{IsWatched, Fits}
use Rattle.ng_commands.proofs.ScopesStay.{scopes_refl}
use Rattle.ng_commands.proofs.Watched.{watched_core}

-- the core has the scopes and objects that it had
pub whole_alike : (v w : Works) (c : act.State) → state_of w ≡ with_core c (state_of v) → c.scopes ≡ (state_of v).core.scopes → c.objects ≡ (state_of v).core.objects
    → (IsSound v.core → IsSound w.core) → w.core.depth ≡ v.core.depth → ((ts : Stands) → Standing v ts → Standing w ts) → IsWhole v → IsWhole w
whole_alike v w c e scopes objects sound depth stands h =
    let s : (state_of w).core.scopes ≡ (state_of v).core.scopes = ap (λ (x : State). x.core.scopes) e ∙ scopes in
    let o : (state_of w).core.objects ≡ (state_of v).core.objects = ap (λ (x : State). x.core.objects) e ∙ objects in
    record {
      sound = sound h.sound;
      idle = depth ∙ h.idle;
      root = subst (λ (t : List Scope). 0 < length t) (sym s) h.root;
      standing = (h.standing.0, stands h.standing.0 h.standing.1);
      listeners = subst (λ (x : State). ListenersStand (length x.core.scopes) x.declared) (sym e) (subst (λ (t : List Scope). ListenersStand (length t) (state_of v).declared) (sym scopes) h.listeners);
      kept = subst (λ (x : State). RowsStand (length x.core.objects) x.inner x.instances x.watchers) (sym e) (subst (λ (t : List Object). RowsStand (length t) (state_of v).inner (state_of v).instances (state_of v).watchers) (sym objects) h.kept);
      scopes = subst (λ (x : State). HaveScopes x.core.scopes x.inner x.instances) (sym e) (subst (λ (t : List Scope). HaveScopes t (state_of v).inner (state_of v).instances) (sym scopes) h.scopes);
      bodies = subst (λ (x : State). HaveBodies x.templates x.instances) (sym e) h.bodies;
    }

pub works_alike : (v w : Works) (c : act.State) → state_of w ≡ with_core c (state_of v) → c.scopes ≡ (state_of v).core.scopes → c.objects ≡ (state_of v).core.objects
    → (IsSound v.core → IsSound w.core) → w.core.depth ≡ v.core.depth → ((ts : Stands) → Standing v ts → Standing w ts) → templates_of w ≡ templates_of v → WorksAre v → WorksAre w
works_alike v w c e scopes objects sound depth stands templates h = record {
  whole = whole_alike v w c e scopes objects sound depth stands h.whole;
  templates = subst (λ ts. 0 < length ts) (sym templates) h.templates;
}

-- what stands is displayed
pub works_display : (w : Works) → WorksAre w → Displays w (shown (state_of w))
works_display w h = page_displays w h.whole.standing.0 h.whole.standing.1

-- and under the names that its instance says
pub works_named : (w : Works) → WorksAre w → Shows w.dom (named (state_of w))
works_named w h = page_names w h.whole.standing.0 h.whole.standing.1

-- a command begins: what it counts is no matter to what holds
begun_sound : (c : Core) (h : Handed) → IsSound c → IsSound (record c { bodies = 0; handed = h })
begun_sound c h s = record {
  objects = s.objects;
  parents = s.parents;
  locals = s.locals;
  funs = s.funs;
  tasks = s.tasks;
  changes = s.changes;
  depth = s.depth;
  room = s.room;
}

pub begun_page : (w : Works) (h : Handed) → PageIs w → PageIs (record w { core = record w.core { bodies = 0; handed = h } })
begun_page w h p =
    let d : Core = record w.core { bodies = 0; handed = h } in
    record {
      works = record { whole = whole_after w d p.works.whole (begun_sound w.core h p.works.whole.sound) p.works.whole.idle refl (omega arith) (omega arith); templates = p.works.templates };
      watched = watched_core (state_of w) (cores.state_of d) (scopes_refl w.core.scopes) (omega arith) (λ g. g) p.watched;
      fits = p.fits;
    }

-- a task more, or a probe
queued_sound : (c d : Core) → AllByRecursion (TaskStands (length c.scopes)) (map task_of d.tasks.items) → IsSound c → IsSound (record c { tasks = d.tasks })
queued_sound c d h s = record {
  objects = s.objects;
  parents = s.parents;
  locals = s.locals;
  funs = s.funs;
  tasks = h;
  changes = s.changes;
  depth = s.depth;
  room = s.room;
}

pub queued_page : (w : Works) (d : Core) → AllByRecursion (TaskStands (length w.core.scopes)) (map task_of d.tasks.items) → PageIs w → PageIs (record w { core = record w.core { tasks = d.tasks } })
queued_page w d h p =
    let e : Core = record w.core { tasks = d.tasks } in
    record {
      works = record { whole = whole_after w e p.works.whole (queued_sound w.core d h p.works.whole.sound) p.works.whole.idle refl (omega arith) (omega arith); templates = p.works.templates };
      watched = watched_core (state_of w) (cores.state_of e) (scopes_refl w.core.scopes) (omega arith) (λ g. g) p.watched;
      fits = p.fits;
    }

probing_sound : (c d : Core) → IsSound c → IsSound (record c { probes = d.probes })
probing_sound c d s = record {
  objects = s.objects;
  parents = s.parents;
  locals = s.locals;
  funs = s.funs;
  tasks = s.tasks;
  changes = s.changes;
  depth = s.depth;
  room = s.room;
}

pub probing_page : (w : Works) (d : Core) → PageIs w → PageIs (record w { core = record w.core { probes = d.probes } })
probing_page w d p =
    let e : Core = record w.core { probes = d.probes } in
    record {
      works = record { whole = whole_after w e p.works.whole (probing_sound w.core d p.works.whole.sound) p.works.whole.idle refl (omega arith) (omega arith); templates = p.works.templates };
      watched = watched_core (state_of w) (cores.state_of e) (scopes_refl w.core.scopes) (omega arith) (λ g. g) p.watched;
      fits = p.fits;
    }

-- no fault was handed over yet
pub untroubled_page : (v w : Works) → state_of w ≡ with_core (untroubled (state_of v).core) (state_of v) → w.core ≡ record v.core { handed = record { count = 0; first = None } } → (IsSound v.core → IsSound w.core)
    → ((ts : Stands) → Standing v ts → Standing w ts) → templates_of w ≡ templates_of v → PageIs v → PageIs w
untroubled_page v w e core sound stands ts h = record {
  works = works_alike v w (untroubled (state_of v).core) e refl refl sound (ap (λ (c : Core). c.depth) core) stands ts h.works;
  watched = subst IsWatched (sym e) (watched_core (state_of v) (untroubled (state_of v).core) (scopes_refl (state_of v).core.scopes) (omega arith) (λ g. g) h.watched);
  fits = subst (Fits []) (sym e) h.fits;
}

pub all_pushed : (n : ℕ) (xs : List Task) (x : Task) → AllByRecursion (TaskStands n) (map task_of xs) → x.scope.0 < n → AllByRecursion (TaskStands n) (map task_of (xs ++ x ∷ []))
all_pushed n [] x h l = (l, tt)
all_pushed n (y ∷ xs) x h l = (h.0, all_pushed n xs x h.1 l)
