-- A watcher that keeps a snapshot keeps its watch.
use Rattle.std.proofs.Common.{◌≡◌, ◌∙◌, Bool, true, false, cond, Option, None, Some, [], ◌∷◌, refl, ap, sym, subst}
use Rattle.std.specs.Prelude.{IsSome, option_map}
use Rattle.std.specs.Option.{ForSome}
use Rattle.ng_base.specs.Views.{ViewTree}
use Rattle.ng_base.specs.declared.path.Key.{Key}
use Rattle.ng_link.specs.Calls.{keeping_at}
use Rattle.ng_link.specs.State as link
use Rattle.ng_behaviour.specs.Keys.{is_key}
use Rattle.ng_watch.specs.Laws.{is_two_way}
use Rattle.ng_watch.specs.Seen.{Watcher}
use Rattle.ng_watch.specs.Table.{Table, found, keeping, with_kept}

-- the watcher of a key keeps a snapshot, and nothing else of it changes
found_kept : (k : Key) (o : Option ViewTree) (t : Table) → found k (with_kept k o t) ≡ option_map (keeping o) (found k t)
found_kept k o [] = refl
found_kept k o (x ∷ t) = by_test (is_key k x.0) refl (found_kept k o t)
  where
    by_test : (b : Bool) → is_key k x.0 ≡ b → found k (with_kept k o t) ≡ option_map (keeping o) (found k t) → found k (cond b ((x.0, keeping o x.1) ∷ t) (x ∷ with_kept k o t)) ≡ option_map (keeping o) (cond b (Some x.1) (found k t))
    by_test true is more = ap (λ (b : Bool). cond b (Some (keeping o x.1)) (found k t)) is
    by_test false is more = ap (λ (b : Bool). cond b (Some x.1) (found k (with_kept k o t))) is ∙ more

still_some : (o : Option ViewTree) (x : Option Watcher) → IsSome x → IsSome (option_map (keeping o) x)
still_some o None h = h
still_some o (Some w) h = h

pub kept_there : (k : Key) (v : ViewTree) (s u : link.State) → u ≡ keeping_at k v s → IsSome (found k s.watchers) → IsSome (found k u.watchers)
kept_there k v s u same h = subst (λ (z : link.State). IsSome (found k z.watchers)) (sym same) (subst IsSome (sym (found_kept k (Some v) s.watchers)) (still_some (Some v) (found k s.watchers) h))

pub plain_before : (k : Key) (v : ViewTree) (s u : link.State) → u ≡ keeping_at k v s → ForSome (found k u.watchers) (λ w. is_two_way w.watch.kind ≡ false) → ForSome (found k s.watchers) (λ w. is_two_way w.watch.kind ≡ false)
plain_before k v s u same h = λ x e. h (keeping (Some v) x) (ap (λ (z : link.State). found k z.watchers) same ∙ (found_kept k (Some v) s.watchers ∙ ap (option_map (keeping (Some v))) e))
