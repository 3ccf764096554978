-- What is set on scopes as they are linked gives no number of registration back, and changes no path.
use Rattle.std.proofs.Common.{ℕ, Bool, true, false, List, [], ◌∷◌, Option, Result, Ok, Err, refl, arith, ◌≡◌, ◌∙◌, ◌-◌, ◌++◌, zero, suc, length, map, take, Some, ap, sym}
use Rattle.std.proofs.lemmas.List.{length-map, map-append}
use Rattle.std.specs.Prelude.{option_map}
use Rattle.ng_base.specs.Views.{ViewTree}
use Rattle.ng_base.specs.declared.fault.Fault.{Fault}
use Rattle.ng_behaviour.specs.Scopes.{live_at}
use Rattle.ng_core.specs.Burying.{buried}
use Rattle.ng_core.specs.Keeping.{stores}
use Rattle.ng_core.specs.ScopeCalls.{listens, watches}
use Rattle.ng_core.specs.State.{State, Run, ◌>>=◌}
use Rattle.ng_drawing.specs.Template.{Piece, Site}
use Rattle.ng_changes.proofs.Rising.{mark, Rises, rises-refl, rises-trans, buried-rises}
use Rattle.ng_changes.proofs.RisingPrograms.{bind-rises, stores-rises}
use Rattle.ng_steps.specs.Attending.{installs, installs_all, declares_all, registers_all, registered_on}
use Rattle.ng_steps.specs.LinkBindings.{set_on, written_to, value_set, set_to_value, seen_over, text_set, set_to_text, shown_over}
use Rattle.ng_steps.specs.Links.{all_buried, keep_last}
use Rattle.ng_language.specs.Trees.{Trees}
use Rattle.ng_parts.specs.Directing.{Function, Watching, Hearing}
use Rattle.ng_value.specs.Snaps.{snap_of}
use Rattle.ng_value.specs.declared.snapshot.Snap.{Snap}
use Rattle.ng_write.specs.Making.{value_in}
use Rattle.std.specs.Prelude.{if◌then◌else◌}

pub written_rises : (scope : ℕ) (name : List ℕ) (v : ViewTree) (c : State) → Rises (mark c) (mark (written_to scope name v c).0)
written_rises scope name v c =
    let r : Run ViewTree = stores v c in
    bind-rises (mark c) r.0 r.1 (λ t d. (set_on scope name (value_in t) d, Ok tt)) (stores-rises v c) (λ t d. rises-refl (mark d))

value_rises : (scope : ℕ) (name : List ℕ) (o : Result (ViewTree × ViewTree) Fault) (c : State) → Rises (mark c) (mark (value_set scope name o c).0)
value_rises scope name (Err e) c = rises-refl (mark c)
value_rises scope name (Ok v) c =
    let r : Run (Unit {0}) = written_to scope name v.0 c in
    bind-rises (mark c) r.0 r.1 (λ u d. (d, Ok v.1)) (written_rises scope name v.0 c) (λ u d. rises-refl (mark d))

pub set_value_rises : (both : Bool) (scope : ℕ) (name : List ℕ) (over : ℕ) (p : Trees) (c : State) → Rises (mark c) (mark (set_to_value both scope name over p c).0)
set_value_rises both scope name over p c = value_rises scope name (seen_over both over p c) c

text_rises : (scope : ℕ) (name : List ℕ) (ps : List Piece) (o : Result (List (List ℕ)) Fault) (c : State) → Rises (mark c) (mark (text_set scope name ps o c).0)
text_rises scope name ps (Err e) c = rises-refl (mark c)
text_rises scope name ps (Ok ts) c = rises-refl (mark c)

pub set_text_rises : (scope : ℕ) (name : List ℕ) (over : ℕ) (site : ℕ → Option Site) (ps : List Piece) (c : State) → Rises (mark c) (mark (set_to_text scope name over site ps c).0)
set_text_rises scope name over site ps c = text_rises scope name ps (shown_over over site ps c) c

-- ---- what a directive does

pub installs_rises : (scope : ℕ) (fs : List Function) (c : State) → Rises (mark c) (mark (installs_all scope fs c))
installs_rises scope [] c = rises-refl (mark c)
installs_rises scope (f ∷ fs) c = installs_rises scope fs (installs scope f c)

pub declares_rises : (scope : ℕ) (ws : List Watching) (c : State) → Rises (mark c) (mark (declares_all scope ws c))
declares_rises scope [] c = rises-refl (mark c)
declares_rises scope (w ∷ ws) c =
    let d : State = (watches scope w.kind w.watched w.body c).0 in
    rises-trans (mark c) (mark d) (mark (declares_all scope ws d)) (omega arith, refl) (declares_rises scope ws d)

pub registers_rises : (scope : ℕ) (ls : List Hearing) (c : State) → Rises (mark c) (mark (registers_all scope ls c))
registers_rises scope [] c = rises-refl (mark c)
registers_rises scope (l ∷ ls) c = registers_rises scope ls (listens scope l.name l.body c).0

choice_rises : (b : Bool) (c d : State) → Rises (mark c) (mark d) → Rises (mark c) (mark (if b then d else c))
choice_rises true c d h = h
choice_rises false c d h = rises-refl (mark c)

pub registered_rises : (scope : ℕ) (ws : List Watching) (ls : List Hearing) (c : State) → Rises (mark c) (mark (registered_on scope ws ls c))
registered_rises scope ws ls c =
    let d : State = declares_all scope ws c in
    choice_rises (live_at c.scopes scope) c (registers_all scope ls d)
    (rises-trans (mark c) (mark d) (mark (registers_all scope ls d)) (declares_rises scope ws c) (registers_rises scope ls d))

-- ---- scopes that were made in vain

pub all_buried_rises : (ns : List ℕ) (c : State) → Rises (mark c) (mark (all_buried ns c))
all_buried_rises [] c = rises-refl (mark c)
all_buried_rises (n ∷ ns) c = rises-trans (mark c) (mark (buried n c)) (mark (all_buried ns (buried n c))) (buried-rises n c) (all_buried_rises ns (buried n c))

-- ---- what a name that is set to a value comes to

pub set_value_is : (both : Bool) (scope : ℕ) (name : List ℕ) (over : ℕ) (p : Trees) (c d : State) (v t snap : ViewTree) → seen_over both over p c ≡ Ok (v, snap) → stores v c ≡ (d, Ok t) → set_to_value both scope name over p c ≡ (set_on scope name (value_in t) d, Ok snap)
set_value_is both scope name over p c d v t snap seen stored =
    ap (λ (o : Result (ViewTree × ViewTree) Fault). value_set scope name o c) seen
    ∙ ap (λ (r : Run ViewTree). (r >>= λ x e. (set_on scope name (value_in x) e, Ok tt)) >>= λ u e. (e, Ok snap)) stored

-- the sites that were registered last keep a snapshot
pub kept_one : (ks ts ns : List (Option Snap)) (n : Snap) (m : ℕ) → m ≡ length ks - 1 → ts ≡ take m ks → ns ≡ ts ++ Some n ∷ [] → map (option_map snap_of) ns ≡ keep_last (map (option_map snap_of) ks) (Some (snap_of n) ∷ [])
kept_one ks ts ns n m few cut last =
    ap (map (option_map snap_of)) (last ∙ ap (λ (xs : List (Option Snap)). xs ++ Some n ∷ []) (cut ∙ ap (λ (k : ℕ). take k ks) few))
    ∙ (map-append (option_map snap_of) (take (length ks - 1) ks) (Some n ∷ [])
    ∙ ap (λ (xs : List (Option ViewTree)). xs ++ Some (snap_of n) ∷ []) (taken (length ks - 1) ks ∙ ap (λ (k : ℕ). take (k - 1) (map (option_map snap_of) ks)) (sym (length-map ks (option_map snap_of)))))
  where
    taken : (k : ℕ) (xs : List (Option Snap)) → map (option_map snap_of) (take k xs) ≡ take k (map (option_map snap_of) xs)
    taken zero [] = refl
    taken zero (x ∷ xs) = refl
    taken (suc k) [] = refl
    taken (suc k) (x ∷ xs) = ap (λ (ys : List (Option ViewTree)). option_map snap_of x ∷ ys) (taken k xs)
