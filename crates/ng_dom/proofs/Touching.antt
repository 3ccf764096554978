-- Another node under a name, as the table of rooms has it.
use Rattle.std.proofs.Common.{◌≡◌, ◌≤◌, ℕ, Bool, true, false, Option, Some, None, Result, Ok, Err, refl, ap, sym, ◌∙◌, cond, is_some, option_map}
use Rattle.std.specs.Prelude.{◌==◌, OnErr}
use Rattle.std.proofs.lemmas.Bool.{eqb-true}
use Rattle.ng_dom.specs.Rooms.{Shape, reshaped, room_changed, room_added}
use Rattle.ng_dom.specs.Removal.{room_gone}
use Rattle.ng_dom.specs.Records.{Runs, node_at, node_set}
use Rattle.ng_dom.specs.Kept.{room_kept, rooms_of, homes_of, SameNodes}
use Rattle.ng_dom.specs.declared.record.Record.{Record}
use Rattle.ng_dom.proofs.Runs.{node_at-set, live-set}

-- what is seen of each node
module _ (nodes : Runs) (n : ℕ) (x y : Record) (there : Some x ≡ node_at nodes n) where
  seen_set : {X : Type 0} (f : Record → X) (q : ℕ) → option_map f (node_at (node_set nodes n y) q) ≡ cond (q == n) (Some (f y)) (option_map f (node_at nodes q))
  seen_set f q = ap (option_map f) (node_at-set nodes n q y (ap is_some (sym there))) ∙ by_test (q == n) (node_at nodes q)
    where
      by_test : (b : Bool) (o : Option Record) → option_map f (cond b (Some y) o) ≡ cond b (Some (f y)) (option_map f o)
      by_test true o = refl
      by_test false o = refl

  seen_at : {X : Type 0} (f : Record → X) (q : ℕ) → (q == n) ≡ true → Some (f x) ≡ option_map f (node_at nodes q)
  seen_at f q t = ap (option_map f) (there ∙ ap (node_at nodes) (sym (eqb-true q n t)))

  seen_same : {X : Type 0} (f : Record → X) → f y ≡ f x → (q : ℕ) → option_map f (node_at (node_set nodes n y) q) ≡ option_map f (node_at nodes q)
  seen_same f same q = seen_set f q ∙ by_test (q == n) refl
    where
      by_test : (b : Bool) → (q == n) ≡ b → cond b (Some (f y)) (option_map f (node_at nodes q)) ≡ option_map f (node_at nodes q)
      by_test true t = ap Some same ∙ seen_at f q t
      by_test false t = refl

  pub rooms_set : (h : Shape → Shape) → room_kept y ≡ reshaped h (room_kept x) → (q : ℕ) → rooms_of (node_set nodes n y) q ≡ room_changed n h (rooms_of nodes) q
  rooms_set h is q = seen_set room_kept q ∙ by_test (q == n) refl
    where
      by_test : (b : Bool) → (q == n) ≡ b → cond b (Some (room_kept y)) (rooms_of nodes q) ≡ cond b (option_map (reshaped h) (rooms_of nodes q)) (rooms_of nodes q)
      by_test true t = ap Some is ∙ ap (option_map (reshaped h)) (seen_at room_kept q t)
      by_test false t = refl

  pub rooms_kept : room_kept y ≡ room_kept x → (q : ℕ) → rooms_of (node_set nodes n y) q ≡ rooms_of nodes q
  rooms_kept is q = seen_same room_kept is q

  pub same_set : y.home ≡ x.home → SameNodes nodes (node_set nodes n y)
  same_set same = record {
    homes = λ q. seen_same (λ (z : Record). z.home) same q;
    live = live-set nodes n y;
    there = λ q. sym (some_seen (node_at (node_set nodes n y) q)) ∙ (ap is_some (seen_same (λ z. tt {0}) refl q) ∙ some_seen (node_at nodes q));
  }
    where
      some_seen : (o : Option Record) → is_some (option_map (λ z. tt {0}) o) ≡ is_some o
      some_seen None = refl
      some_seen (Some z) = refl

-- a name without a node
pub rooms_missed : (nodes : Runs) (n : ℕ) (h : Shape → Shape) → None ≡ node_at nodes n → (q : ℕ) → rooms_of nodes q ≡ room_changed n h (rooms_of nodes) q
rooms_missed nodes n h none q = by_test (q == n) refl
  where
    by_test : (b : Bool) → (q == n) ≡ b → rooms_of nodes q ≡ cond b (option_map (reshaped h) (rooms_of nodes q)) (rooms_of nodes q)
    by_test true t =
        let gone : rooms_of nodes q ≡ None = ap (option_map room_kept) (ap (node_at nodes) (eqb-true q n t) ∙ sym none) in
        gone ∙ ap (option_map (reshaped h)) (sym gone)
    by_test false t = refl

pub same_nodes : (nodes : Runs) → SameNodes nodes nodes
same_nodes nodes = record { homes = λ q. refl; live = refl; there = λ q. refl }

-- a node comes or goes
pub rooms_more : (nodes news : Runs) (n : ℕ) (x : Record) → ((q : ℕ) → node_at news q ≡ cond (q == n) (Some x) (node_at nodes q)) → (q : ℕ) → rooms_of news q ≡ room_added n (room_kept x) (rooms_of nodes) q
rooms_more nodes news n x is q = ap (option_map room_kept) (is q) ∙ by_test (q == n) (node_at nodes q)
  where
    by_test : (b : Bool) (o : Option Record) → option_map room_kept (cond b (Some x) o) ≡ cond b (Some (room_kept x)) (option_map room_kept o)
    by_test true o = refl
    by_test false o = refl

pub homes_more : (nodes news : Runs) (n : ℕ) (x : Record) → ((q : ℕ) → node_at news q ≡ cond (q == n) (Some x) (node_at nodes q)) → (q : ℕ) → homes_of news q ≡ cond (q == n) (Some x.home) (homes_of nodes q)
homes_more nodes news n x is q = ap (option_map (λ (z : Record). z.home)) (is q) ∙ by_test (q == n) (node_at nodes q)
  where
    by_test : (b : Bool) (o : Option Record) → option_map (λ (z : Record). z.home) (cond b (Some x) o) ≡ cond b (Some x.home) (option_map (λ (z : Record). z.home) o)
    by_test true o = refl
    by_test false o = refl

pub rooms_less : (nodes news : Runs) (n : ℕ) → ((q : ℕ) → node_at news q ≡ cond (q == n) None (node_at nodes q)) → (q : ℕ) → rooms_of news q ≡ room_gone n (rooms_of nodes) q
rooms_less nodes news n is q = ap (option_map room_kept) (is q) ∙ by_test (q == n) (node_at nodes q)
  where
    by_test : (b : Bool) (o : Option Record) → option_map room_kept (cond b None o) ≡ cond b None (option_map room_kept o)
    by_test true o = refl
    by_test false o = refl

pub on_err : {T E : Type 0} {P Q : Type 0} (r : Result T E) → (P → Q) → OnErr r P → OnErr r Q
on_err (Ok x) f p = tt
on_err (Err e) f p = f p
