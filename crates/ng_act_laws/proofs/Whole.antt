-- Whatever runs, the scopes stay a tree, and dead scopes have no listeners.
use Rattle.std.proofs.Common.{◌≡◌, ◌<◌, ◌≤◌, ◌+◌, ℕ, zero, suc, Bool, true, false, cond, not, eqb, if◌then◌else◌, List, [], ◌∷◌, ◌++◌, length, map, Option, Some, None, refl, ap, sym, ◌∙◌, arith, subst, inl, inr}
use Rattle.std.specs.List.{filter}
use Rattle.std.specs.Prelude.{codes}
use Rattle.std.specs.Str.{bytes_eq}
use Rattle.std.proofs.lemmas.Bool.Decides.{eqb_tells}
use Rattle.ng_behaviour.specs.Listeners.{Heard, Listener, heard_at, hear_at, nobody, listened, listened_at, place_of, place_from, is_for, dropped, is_called, without_listener}
use Rattle.ng_behaviour.specs.Scopes.{Scope, path_at, live_at, begins, dead_under, without_scope, next_scope, IsScopeTree}
use Rattle.ng_behaviour.proofs.Dying.{dead-live, dead-length, dead-path, tree-dies}
use Rattle.ng_language.specs.Trees.{Trees}
use Rattle.ng_core.specs.ScopeCalls.{listens}
use Rattle.ng_core.specs.Burying.{next_then, hushed, hushes, buried, many}
use Rattle.ng_act.specs.Asked.{a_broadcast}
use Rattle.ng_act.specs.Calls.{destroys}
use Rattle.ng_act.specs.Actions.{does}
use Rattle.ng_act_laws.specs.Laws.{IsQuiet, IsWhole, WholeLaw, SilentLaw, WatchLaw, last_change}
use Rattle.ng_core.specs.State.{State, Change, leaves, with_heard, with_change, handed}
use Rattle.ng_act_laws.proofs.ActLaws.{destroy_law, if_true}
use Rattle.ng_act.proofs.Programs.{Steps, does-kept, destroys-kept}
use Rattle.ng_core.proofs.Buried.{buried_scopes, buried_objects, buried_changes}
use Rattle.ng_act_laws.proofs.Silent.{hushes_quiet, buried_quiet, quiet_kept}

record Stays (s t : State) : Type 0 where
  count : length t.scopes ≡ length s.scopes
  whole : IsWhole s → IsWhole t

-- a listener less
fewer_none : (p : ℕ × Listener → Bool) (es : List (ℕ × Listener)) → es ≡ [] → filter p es ≡ []
fewer_none p es h = rw h refl

off_scope : (xs : List Heard) (id i : ℕ) → (heard_at (without_listener xs id) i).scope ≡ (heard_at xs i).scope
off_scope [] id i = refl
off_scope (x ∷ xs) id zero = refl
off_scope (x ∷ xs) id (suc i) = off_scope xs id i

off_none : (xs : List Heard) (id i : ℕ) → (heard_at xs i).entries ≡ [] → (heard_at (without_listener xs id) i).entries ≡ []
off_none [] id i h = refl
off_none (x ∷ xs) id zero h = fewer_none (λ e. not (is_called id e)) x.entries h
off_none (x ∷ xs) id (suc i) h = off_none xs id i h

off_quiet : (xs : List Heard) (id r : ℕ) → IsQuiet r xs → IsQuiet r (without_listener xs id)
off_quiet xs id r q i h = off_none xs id i (q i (sym (off_scope xs id i) ∙ h))

-- a listener more, at another scope
hear_quiet : (xs : List Heard) (j : ℕ) (l : Listener) (s r : ℕ) → (r ≡ s → ⊥) → (heard_at xs j).scope ≡ s → IsQuiet r xs → IsQuiet r (hear_at xs j (listened l))
hear_quiet [] j l s r n e q i h = refl
hear_quiet (x ∷ xs) zero l s r n e q zero h = absurd (n (sym h ∙ e))
hear_quiet (x ∷ xs) zero l s r n e q (suc i) h = q (suc i) h
hear_quiet (x ∷ xs) (suc j) l s r n e q zero h = q 0 h
hear_quiet (x ∷ xs) (suc j) l s r n e q (suc i) h = hear_quiet xs j l s r n e (λ k g. q (suc k) g) i h

added_quiet : (xs : List Heard) (y : Heard) (r : ℕ) → (r ≡ y.scope → ⊥) → IsQuiet r xs → IsQuiet r (xs ++ y ∷ [])
added_quiet [] y r n q zero h = absurd (n (sym h))
added_quiet [] y r n q (suc i) h = refl
added_quiet (x ∷ xs) y r n q zero h = q 0 h
added_quiet (x ∷ xs) y r n q (suc i) h = added_quiet xs y r n (λ k g. q (suc k) g) i h

record PlacedAt (xs : List Heard) (k s j : ℕ) : Type 0 where
  place : ℕ
  is : j ≡ k + place
  scope : (heard_at xs place).scope ≡ s

for_scope : (s : ℕ) (n : List ℕ) (x : Heard) → is_for s n x ≡ true → x.scope ≡ s
for_scope s n x h = elim (eqb_tells s x.scope) [
  | inl t ↦ sym t.1
  | inr t ↦ absurd (let z : is_for s n x ≡ false = rw t.0 refl in cc)
]

placed_at : (xs : List Heard) (k s j : ℕ) (n : List ℕ) → place_from k xs s n ≡ Some j → PlacedAt xs k s j
placed_at [] k s j n h = absurd (cc)
placed_at (x ∷ xs) k s j n h = step (is_for s n x) h (for_scope s n x) (placed_at xs (suc k) s j n)
  where
    step : (b : Bool) → (if b then Some k else place_from (suc k) xs s n) ≡ Some j → (b ≡ true → x.scope ≡ s) → (place_from (suc k) xs s n ≡ Some j → PlacedAt xs (suc k) s j) → PlacedAt (x ∷ xs) k s j
    step true h e rest = record { place = 0; is = (let q : k ≡ j = cc in omega arith); scope = e refl }
    step false h e rest = let r : PlacedAt xs (suc k) s j = rest h in record { place = suc r.place; is = (let q : j ≡ suc k + r.place = r.is in omega arith); scope = r.scope }

on_quiet : (o : Option ℕ) (xs : List Heard) (s : ℕ) (n : List ℕ) (l : Listener) (r : ℕ) → (r ≡ s → ⊥) → ((j : ℕ) → o ≡ Some j → (heard_at xs j).scope ≡ s) → IsQuiet r xs → IsQuiet r (listened_at o xs s n l)
on_quiet (Some j) xs s n l r d e q = hear_quiet xs j l s r d (e j refl) q
on_quiet None xs s n l r d e q = added_quiet xs (listened l (nobody s n)) r d q

listened_quiet : (xs : List Heard) (s : ℕ) (n : List ℕ) (l : Listener) (r : ℕ) → (r ≡ s → ⊥) → IsQuiet r xs → IsQuiet r (listened_at (place_of xs s n) xs s n l)
listened_quiet xs s n l r d q =
    on_quiet (place_of xs s n) xs s n l r d
    (λ j h. let p : PlacedAt xs 0 s j = placed_at xs 0 s j n h in let e : p.place ≡ j = (let z : j ≡ 0 + p.place = p.is in omega arith) in subst (λ i. (heard_at xs i).scope ≡ s) e p.scope)
    q

buried_silent : (sc r : ℕ) (s : State) → IsWhole s → sc < length s.scopes → r < length s.scopes → live_at (without_scope s.scopes sc) r ≡ false → IsQuiet r (buried sc s).heard
buried_silent sc r s w ls lr dead = by (begins (path_at s.scopes sc) (path_at s.scopes r)) (live_at s.scopes r) refl refl
  where
    before : IsQuiet r s.heard → IsQuiet r (buried sc s).heard
    before q = hushes_quiet (many s) sc sc r (hushed sc (with_change (leaves sc) s)) (quiet_kept s.heard sc r q)

    by : (b l : Bool) → b ≡ begins (path_at s.scopes sc) (path_at s.scopes r) → l ≡ live_at s.scopes r → IsQuiet r (buried sc s).heard
    by true true eb el = buried_quiet sc r s w.tree w.enough ls lr (sym eb) (sym el)
    by b false eb el = before (w.silent r lr (sym el))
    by false true eb el =
        let e : live_at (without_scope s.scopes sc) r ≡ cond (begins (path_at s.scopes sc) (path_at s.scopes r)) false (live_at s.scopes r) = dead-live (path_at s.scopes sc) s.scopes r in
        absurd (let z : live_at (without_scope s.scopes sc) r ≡ true = e ∙ rw (sym eb, sym el) refl in cc)

buried_whole : (sc : ℕ) (s : State) → sc < length s.scopes → IsWhole s → IsWhole (buried sc s)
buried_whole sc s ls w =
    let n : length (without_scope s.scopes sc) ≡ length s.scopes = dead-length (path_at s.scopes sc) s.scopes in
    record {
      tree = rw (buried_scopes sc s) (tree-dies s.scopes (path_at s.scopes sc) w.tree);
      enough = rw (buried_scopes sc s, buried_objects sc s, n) w.enough;
      silent = λ r l h. buried_silent sc r s w ls (let m : r < length (without_scope s.scopes sc) = rw (sym (buried_scopes sc s)) l in omega arith) (rw (sym (buried_scopes sc s)) h);
    }

listens_whole : (scope : ℕ) (name : List ℕ) (p : Trees) (s : State) → live_at s.scopes scope ≡ true → IsWhole s → IsWhole (listens scope name p s).0
listens_whole scope name p s live w = record {
  tree = w.tree;
  enough = w.enough;
  silent = λ r l h. listened_quiet s.heard scope name (record { id = length s.funs; body = p }) r (λ e. let z : live_at s.scopes r ≡ true = subst (λ x. live_at s.scopes x ≡ true) (sym e) live in cc) (w.silent r l h);
}

stays : Steps Stays
stays = record {
  same = λ s. record { count = refl; whole = λ w. w };
  on = λ s t u a b. record { count = b.count ∙ a.count; whole = λ w. b.whole (a.whole w) };
  count = λ s t a. a.count;
  others = λ s t o n f es eh. record {
    count = ap (λ (x : List Scope). length x) es;
    whole = λ w. record { tree = rw es w.tree; enough = (let m : length s.scopes ≤ length s.objects = w.enough in rw es (omega arith)); silent = rw (es, eh) w.silent };
  };
  off = λ s id. record { count = refl; whole = λ w. record { tree = w.tree; enough = w.enough; silent = λ r l h. off_quiet s.heard id r (w.silent r l h) } };
  listened = λ scope name p s live. record { count = refl; whole = listens_whole scope name p s live };
  buried = λ sc s l. record { count = ap (λ (x : List Scope). length x) (buried_scopes sc s) ∙ dead-length (path_at s.scopes sc) s.scopes; whole = buried_whole sc s l };
}

pub whole_law : WholeLaw
whole_law room a s w = let k : Stays s (does room a s).0 = does-kept Stays stays room a s in k.whole w

pub silent_law : SilentLaw
silent_law room scope r s w live l below =
    let k : Stays s (destroys (does room) scope s) = destroys-kept Stays stays (does room) (does-kept Stays stays room) scope s in
    let after : IsWhole (destroys (does room) scope s) = k.whole w in
    after.silent r (let n : length (destroys (does room) scope s).scopes ≡ length s.scopes = k.count in omega arith) (destroy_law room scope r s live below)

last_is : (xs : List Change) (c : Change) → last_change (xs ++ c ∷ []) ≡ Some c
last_is [] c = refl
last_is (x ∷ []) c = refl
last_is (x ∷ y ∷ xs) c = last_is (y ∷ xs) c

pub watch_law : WatchLaw
watch_law room scope s live =
    let t : State = handed (does room (a_broadcast scope (codes "$destroy") []) s) in
    let e : destroys (does room) scope s ≡ buried scope t = if_true (live_at s.scopes scope) (buried scope t) s live in
    rw e (rw (buried_changes scope t) (last_is t.changes (leaves scope)))
