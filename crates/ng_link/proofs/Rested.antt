-- A site that comes to rest goes on showing what it had kept.
use Rattle.std.proofs.Common.{◌≡◌, Bool, true, false, cond, List, [], ◌∷◌, Option, Some, None, refl, ap, ◌∙◌, sym}
use Rattle.std.specs.BTreeMap.{insert_entry}
use Rattle.std.specs.List.{filter}
use Rattle.std.specs.List.Sorted.{IsStrictlySortedBy}
use Rattle.std.specs.Map.{lookup, keys_of}
use Rattle.std.specs.Prelude.{not, is_some, option_map, option_and_then, if◌then◌else◌}
use Rattle.std.proofs.lemmas.Map.Made.{lookup-map_values}
use Rattle.std.proofs.lemmas.Map.Keys.{sorted_tail}
use Rattle.ng_base.specs.Views.{ViewTree}
use Rattle.ng_base.specs.declared.path.Key.{Key}
use Rattle.ng_value.specs.Snaps.{snap_of}
use Rattle.ng_value.specs.declared.snapshot.Snap.{Snap}
use Rattle.ng_behaviour.specs.Keys.{key_cmp, is_key}
use Rattle.ng_watch.specs.Seen.{Watcher}
use Rattle.ng_watch.specs.Table.{Table, found}
use Rattle.ng_link.specs.Calls.{rested}
use Rattle.ng_instances.specs.Instances.{Instances, Inners, is_site}
use Rattle.ng_link.specs.State.{Resting, kept_or, kept_in, resting_of}
use Rattle.ng_build.proofs.Keys.{key_is, same_key}
use Rattle.ng_build.proofs.Tables.{put-other, put-same, first_alone, passed, found_filtered, ordered_filtered}

-- what a watcher had kept, or else what was at rest before
abbrev rest_or : Option Watcher → Option (Option ViewTree) → Option (Option ViewTree)
rest_or None r = r
rest_or (Some w) r = Some w.kept

-- one watcher that was taken out
abbrev put : Inners → Instances → Key × Watcher → Resting → Resting
put inner l e r = if is_site inner l e.0 then insert_entry key_cmp r e.0 e.1.kept else r

put_apart : (inner : Inners) (l : Instances) (e : Key × Watcher) (r : Resting) (q : Key) → is_key q e.0 ≡ false → lookup (is_key q) (put inner l e r) ≡ lookup (is_key q) r
put_apart inner l e r q off = by_site (is_site inner l e.0)
  where
    apart : q ≡ e.0 → ⊥
    apart same = let here : is_key q e.0 ≡ true = rw same (same_key e.0) in let two : true ≡ false = sym here ∙ off in absurd (cc)

    by_site : (b : Bool) → lookup (is_key q) (cond b (insert_entry key_cmp r e.0 e.1.kept) r) ≡ lookup (is_key q) r
    by_site true = put-other e.0 q e.1.kept r apart
    by_site false = refl

rested_found : (inner : Inners) (l : Instances) (es : Table) (r : Resting) (q : Key) → IsStrictlySortedBy key_cmp (keys_of es) → is_site inner l q ≡ true → lookup (is_key q) (rested inner l es r) ≡ rest_or (found q es) (lookup (is_key q) r)
rested_found inner l [] r q o site = refl
rested_found inner l (e ∷ es) r q o site = by_key (is_key q e.0) refl (rested_found inner l es (put inner l e r) q (sorted_tail key_cmp e.0 (keys_of es) o) site)
  where
    by_key : (b : Bool) → is_key q e.0 ≡ b → lookup (is_key q) (rested inner l es (put inner l e r)) ≡ rest_or (found q es) (lookup (is_key q) (put inner l e r))
        → lookup (is_key q) (rested inner l es (put inner l e r)) ≡ rest_or (cond b (Some e.1) (found q es)) (lookup (is_key q) r)
    by_key true is more =
        let same : q ≡ e.0 = key_is q e.0 is in
        let alone : found q es ≡ None = rw same (first_alone e es o) in
        let here : is_site inner l e.0 ≡ true = rw (← same) site in
        let kept : lookup (is_key q) (put inner l e r) ≡ Some e.1.kept = rw (here, same) (put-same e.0 e.1.kept r) in
        more ∙ rw alone kept
    by_key false is more = more ∙ ap (rest_or (found q es)) (put_apart inner l e r q is)

-- what a site shows, where its watcher is taken out or stays
shown_still : (p : Key × Watcher → Bool) (q : Key) (o : Option Watcher) (r : Option (Option ViewTree)) → kept_or (passed (λ e. not (p e)) q o) (rest_or (passed p q o) r) ≡ kept_or o r
shown_still p q None r = refl
shown_still p q (Some w) r = by_pass (p (q, w))
  where
    by_pass : (b : Bool) → kept_or (cond (not b) (Some w) None) (rest_or (cond b (Some w) None) r) ≡ w.kept
    by_pass true = refl
    by_pass false = refl

pub kept_rested : (inner : Inners) (l : Instances) (p : Key × Watcher → Bool) (t : Table) (r : Resting) (q : Key) → IsStrictlySortedBy key_cmp (keys_of t) → is_site inner l q ≡ true
    → kept_in (filter (λ e. not (p e)) t) (rested inner l (filter p t) r) q ≡ kept_in t r q
kept_rested inner l p t r q o site =
    let out : found q (filter p t) ≡ passed p q (found q t) = found_filtered p q t o in
    let stays : found q (filter (λ e. not (p e)) t) ≡ passed (λ e. not (p e)) q (found q t) = found_filtered (λ e. not (p e)) q t o in
    let rests : lookup (is_key q) (rested inner l (filter p t) r) ≡ rest_or (found q (filter p t)) (lookup (is_key q) r) = rested_found inner l (filter p t) r q (ordered_filtered p t o) site in
    ap (λ (w : Option Watcher). kept_or w (lookup (is_key q) (rested inner l (filter p t) r))) stays
    ∙ (ap (kept_or (passed (λ e. not (p e)) q (found q t))) (rests ∙ ap (λ (w : Option Watcher). rest_or w (lookup (is_key q) r)) out)
    ∙ shown_still p q (found q t) (lookup (is_key q) r))

-- what a site that has no watcher shows
pub kept_found : (t : Table) (es : List (Key × Option Snap)) (k : Key) (o : Option (Option Snap)) → is_some (found k t) ≡ false → lookup (is_key k) es ≡ o → kept_in t (resting_of es) k ≡ option_and_then (λ (s : Option Snap). option_map snap_of s) o
kept_found t es k o none is = at_rest (found k t) none ∙ (ap (kept_or None) (lookup-map_values (λ (s : Option Snap). option_map snap_of s) (is_key k) es ∙ ap (option_map (λ (s : Option Snap). option_map snap_of s)) is) ∙ then_kept o)
  where
    at_rest : (w : Option Watcher) → is_some w ≡ false → kept_or w (lookup (is_key k) (resting_of es)) ≡ kept_or None (lookup (is_key k) (resting_of es))
    at_rest None e = refl
    at_rest (Some w) e = absurd (cc)

    then_kept : (r : Option (Option Snap)) → kept_or None (option_map (λ (s : Option Snap). option_map snap_of s) r) ≡ option_and_then (λ (s : Option Snap). option_map snap_of s) r
    then_kept None = refl
    then_kept (Some s) = refl
