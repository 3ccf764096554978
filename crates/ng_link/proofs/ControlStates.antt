-- The states of controls, where one changes or some begin, and what is shown then.
use Rattle.std.proofs.Common.{◌≡◌, ◌+◌, ℕ, Bool, true, false, cond, List, [], ◌∷◌, Option, Some, None, refl, ap, ◌∙◌, sym}
use Rattle.std.specs.BTreeMap.{insert_entry, is_at}
use Rattle.std.specs.Map.{lookup}
use Rattle.std.specs.Ordering.{nat_cmp, match_ordering}
use Rattle.std.specs.Prelude.{option_map}
use Rattle.std.specs.declared.cmp.Ordering.{Ordering}
use Rattle.std.specs.declared.cmp.Ordering.TheVariants.{Less, Equal, Greater}
use Rattle.ng_base.specs.Views.{ViewTree}
use Rattle.ng_base.specs.declared.path.Key.{Key}
use Rattle.ng_control.specs.State.{ControlState, fresh}
use Rattle.ng_dom.specs.Drawing.{DifferAt}
use Rattle.ng_drawing.specs.Looks.{seen_by}
use Rattle.ng_drawing.specs.Template.{Control, Part, Contents, Parts, text_part, comment_part, element_part, anchor_part, children, bound, no_parts, part_then}
use Rattle.ng_drawing.specs.Nodes.{part_nodes}
use Rattle.ng_behaviour.specs.Keys.{key_cmp, is_key, begins}
use Rattle.ng_watch.specs.Seen.{Watcher}
use Rattle.ng_watch.specs.Table.{Table, with_kept}
use Rattle.ng_build.specs.Controls.{ControlHere, Controlled, with_control, part_controlled, contents_controlled, controlled, controlled_at, Controls, state_under, controls_begun, control_changed}
use Rattle.ng_build.specs.HandledOf.{control_of, controlled_of}
use Rattle.ng_link.specs.State.{Resting, kept_or, kept_in, look_of, looks_of}
use Rattle.ng_build.specs.declared.controlled.ControlHere as code
use Rattle.ng_build.proofs.Keys.{key_is, other_key}
use Rattle.ng_build.proofs.Tables.{put-other}
use Rattle.ng_instances.proofs.Keeping.{kept-other}

-- where one changes, another stays
pub changed-other : (f : ControlState → ControlState) (k q : Key) (cs : Controls) → (q ≡ k → ⊥) → state_under q (control_changed f k cs) ≡ state_under q cs
changed-other f k q [] ne = refl
changed-other f k q (e ∷ es) ne = by_test (is_key k e.0) refl (changed-other f k q es ne)
  where
    by_test : (b : Bool) → is_key k e.0 ≡ b → state_under q (control_changed f k es) ≡ state_under q es
        → state_under q (cond b ((e.0, f e.1) ∷ es) (e ∷ control_changed f k es)) ≡ cond (is_key q e.0) (Some e.1) (state_under q es)
    by_test true is more = let same : k ≡ e.0 = key_is k e.0 is in let apart : is_key q e.0 ≡ false = rw (← same) (other_key q k (λ g. ne (sym g))) in rw apart refl
    by_test false is more = ap (cond (is_key q e.0) (Some e.1)) more

-- what is shown differs at the key of the control at most
pub control_differs : (f : ControlState → ControlState) (k : Key) (t : Table) (r : Resting) (cs : Controls) → DifferAt k (looks_of t r cs) (looks_of t r (control_changed f k cs))
control_differs f k t r cs q ne = ap (λ (o : Option ControlState). look_of (seen_by o (kept_in t r q))) (sym (changed-other f k q cs ne))

pub keeping_differs : (f : ControlState → ControlState) (k : Key) (s : Option ViewTree) (t : Table) (r : Resting) (cs : Controls)
    → DifferAt k (looks_of t r cs) (looks_of (with_kept k s t) r (control_changed f k cs))
keeping_differs f k s t r cs q ne =
    ap (λ (o : Option Watcher). look_of (seen_by (state_under q cs) (kept_or o (lookup (is_key q) r)))) (sym (kept-other k q s t ne))
    ∙ control_differs f k (with_kept k s t) r cs q ne

-- all keys of controls are on a path, or below it
abbrev pub AreOn : List ℕ → Controlled → Type 0
AreOn p [] = Unit {0}
AreOn p (e ∷ es) = (begins p e.1.key.path ≡ true) × AreOn p es

put_on : (p : List ℕ) (n : ℕ) (c : ControlHere) (t : Controlled) → begins p c.key.path ≡ true → AreOn p t → AreOn p (insert_entry nat_cmp t n c)
put_on p n c [] on h = (on, tt)
put_on p n c (e ∷ es) on h = by_order (nat_cmp n e.0) (put_on p n c es on h.1)
  where
    by_order : (o : Ordering) → AreOn p (insert_entry nat_cmp es n c) → AreOn p (match_ordering o ((n, c) ∷ e ∷ es) ((e.0, c) ∷ es) (e ∷ insert_entry nat_cmp es n c))
    by_order Less more = (on, h)
    by_order Equal more = (on, h.1)
    by_order Greater more = (h.0, more)

module _ (p : List ℕ) (keys : ℕ → Key) (each : (n : ℕ) → begins p (keys n).path ≡ true) where
  one_on : (n : ℕ) (c : Option Control) (t : Controlled) → AreOn p t → AreOn p (with_control keys n c t)
  one_on n None t h = h
  one_on n (Some c) t h = put_on p n _ t (each c.site) h

  mutual
    part_on : (n : ℕ) (x : Part) (t : Controlled) → AreOn p t → AreOn p (part_controlled keys n x t)
    part_on n (text_part ps) t h = h
    part_on n (comment_part c) t h = h
    part_on n (anchor_part o own starts) t h = h
    part_on n (element_part e own acts ats c) t h = contents_on (n + 1) c (with_control keys n acts.control t) (one_on n acts.control t h)

    contents_on : (n : ℕ) (c : Contents) (t : Controlled) → AreOn p t → AreOn p (contents_controlled keys n c t)
    contents_on n (children ps) t h = all_on n ps t h
    contents_on n (bound k) t h = h

    pub all_on : (n : ℕ) (ps : Parts) (t : Controlled) → AreOn p t → AreOn p (controlled keys n ps t)
    all_on n no_parts t h = h
    all_on n (part_then x ps) t h = all_on (n + part_nodes x) ps (part_controlled keys n x t) (part_on n x t h)

-- a control of another path stays as it was, where some begin
pub begun-other : (p : List ℕ) (es : Controlled) (cs : Controls) (q : Key) → AreOn p es → begins p q.path ≡ false → state_under q (controls_begun es cs) ≡ state_under q cs
begun-other p [] cs q on off = refl
begun-other p (e ∷ es) cs q on off =
    begun-other p es (insert_entry key_cmp cs e.1.key (fresh e.1.kind)) q on.1 off
    ∙ put-other e.1.key q (fresh e.1.kind) cs (λ same. let two : true ≡ false = sym on.0 ∙ (ap (λ (k : Key). begins p k.path) (sym same) ∙ off) in cc)

-- controls that are entered, as they are kept and as they are seen
pub entered-seen : (n : ℕ) (es : List (ℕ × code.ControlHere)) → option_map control_of (lookup (is_at (nat_cmp n)) es) ≡ controlled_at n (controlled_of es)
entered-seen n [] = refl
entered-seen n (e ∷ es) = by_test (is_at (nat_cmp n) e.0) (entered-seen n es)
  where
    by_test : (b : Bool) → option_map control_of (lookup (is_at (nat_cmp n)) es) ≡ controlled_at n (controlled_of es)
        → option_map control_of (cond b (Some e.1) (lookup (is_at (nat_cmp n)) es)) ≡ cond b (Some (control_of e.1)) (controlled_at n (controlled_of es))
    by_test true more = refl
    by_test false more = more
