-- A fragment stands as a body of an outlet: the document shows it, and nothing stands apart.
use Rattle.std.proofs.Common.{◌≡◌, ◌⊎◌, inl, inr, ◌<◌, ◌≤◌, ℕ, true, List, ◌++◌, Option, Some, None, ap, ◌∙◌, sym, subst, arith, nat_eq}
use Rattle.std.specs.List.{IsDistinct}
use Rattle.std.proofs.lemmas.Bool.{cases_lt}
use Rattle.ng_base.specs.declared.path.Key.{Key}
use Rattle.ng_dom.specs.Document.{rooms, next_name, IsLive, Shows, Holds, Becomes, Stays, Fewer}
use Rattle.ng_dom.specs.Drawing.{Look, Stands, Bodies, shows, show_bodies, names_standing, HomedAll, at_block_all}
use Rattle.ng_dom.specs.Editing.{changed_in, with_groups, group_inserted}
use Rattle.ng_dom.specs.Lists.{among}
use Rattle.ng_dom.specs.Nodes.{NamedForest, group_names, all_names}
use Rattle.ng_dom.specs.Rooms.{ReadsIn}
use Rattle.ng_dom.specs.declared.dom.Dom.{Dom}
use Rattle.ng_dom.proofs.Counting.{names_stand}
use Rattle.ng_dom.proofs.Focus.{groups_changed}
use Rattle.ng_dom.proofs.Homes.{live_names_are_given, bodies_are_homed}
use Rattle.ng_dom.proofs.Keeping.{holds_inserted}
use Rattle.ng_dom.proofs.Removing.{among-left, among-right}
use Rattle.ng_build.specs.Building.{unset, Builds}
use Rattle.ng_instances.specs.Instances.{Linked, Instances, keys_of}
use Rattle.ng_build.specs.Shape.{shape, unfilled}
use Rattle.ng_build.specs.Sources.{sources}
use Rattle.ng_link.specs.Standing.{IsBuilt}
use Rattle.ng_link.proofs.Agree.{all_agree}
use Rattle.ng_link.proofs.Blocks.{BlockAmong, IsAnchor, anchor_at, block_named}
use Rattle.ng_link.proofs.BodiesAt.{bodies_put, show_put, top_names, homed_put}
use Rattle.ng_link.proofs.Held.{built_held}
use Rattle.ng_link.proofs.Homed.{homed_more, older_stay, all_stay, older_live}
use Rattle.ng_link.proofs.Names.{up, among_up, up_among, distinct_up, distinct_append, names_given}

-- what stands of a fragment that was built apart, and nothing of it is kept
abbrev pub new_stands : Linked → Stands
new_stands l = shape (keys_of l.page) l.page.node unfilled l.fragment.parts

-- a body is put before the i-th of a block
module _ (places : Key → Option ℕ) (looks same : Key → Look) (d e g : Dom) (is : Instances) (ts new : Stands) (a i : ℕ) (bs : Bodies)
    (b : IsBuilt places looks d is ts) (alike : (k : Key) (n : ℕ) → places k ≡ Some n → looks k ≡ same k) (block : BlockAmong a bs ts)
    (count : ℕ) (names : names_standing new ≡ up (next_name d) count) (fresh : shows unset new ≡ shows same new)
    (builds : Builds (Some a) new count d e) (put : Becomes e g (changed_in a (with_groups (group_inserted i (shows unset new))))) (stays : Stays e g) where
  abbrev more : Bodies → Bodies
  more = bodies_put i new

  abbrev then_stands : Stands
  then_stands = at_block_all a more ts

  abbrev piece : NamedForest
  piece = shows same new

  alike_shown : shows looks ts ≡ shows same ts
  alike_shown = all_agree places (sources d) looks same (λ k n at drawn. alike k n at) ts (built_held places looks d is ts b)

  shown_apart : Shows e (shows same ts)
  shown_apart = subst (λ (f : NamedForest). Shows e f) alike_shown (builds.top ∙ b.holds.shows.0, builds.remains None (shows looks ts) b.holds.shows.1)

  anchor : IsAnchor a bs (rooms e) same
  anchor = anchor_at a bs (rooms e) same ts block None shown_apart.1

  was_named : all_names (shows looks ts) ≡ all_names (shows same ts)
  was_named = ap all_names alike_shown

  piece_named : all_names piece ≡ up (next_name d) count
  piece_named = names_stand same new ∙ names

  there : among a (all_names (shows same ts)) ≡ true
  there = ap (among a) (names_stand same ts) ∙ block_named a bs ts block

  -- each live node is one of the document's or of the piece's, and no two have one name
  live : (q : ℕ) → IsLive e q → among q (all_names (shows same ts) ++ all_names piece) ≡ true
  live q is_live = by_order (cases_lt q (next_name d))
    where
      by_order : (q < next_name d) ⊎ (next_name d ≤ q) → among q (all_names (shows same ts) ++ all_names piece) ≡ true
      by_order (inl older) =
          among-left q (all_names (shows same ts)) (all_names piece) (ap (among q) (sym was_named) ∙ b.holds.all q (older_live d e q (builds.homes q older) is_live))
      by_order (inr newer) =
          let to : q < next_name e = live_names_are_given e q is_live in
          let end = builds.next in
          among-right q (all_names (shows same ts)) (all_names piece) (ap (among q) piece_named ∙ up_among q (next_name d) count newer (omega (arith, to, end)))

  once : IsDistinct nat_eq (all_names (shows same ts) ++ all_names piece)
  once =
      subst (λ (ks : List ℕ). IsDistinct nat_eq (ks ++ all_names piece)) was_named
      (subst (λ (ks : List ℕ). IsDistinct nat_eq (all_names (shows looks ts) ++ ks)) (sym piece_named)
      (distinct_append (all_names (shows looks ts)) (up (next_name d) count) b.holds.once (distinct_up (next_name d) count)
      (λ q h k. let lt = names_given d (shows looks ts) b.holds q h in let from = (among_up q (next_name d) count k).0 in omega (arith, lt, from))))

  fewer : Fewer e g
  fewer = record { homes = λ q. inl (stays.homes q); next = stays.next }

  -- what is shown is drawn from what stands then
  drawn : changed_in a (with_groups (group_inserted i piece)) (shows same ts) ≡ shows same then_stands
  drawn =
      groups_changed (rooms e) None a anchor.room (group_names (show_bodies same bs)) same ts (group_inserted i piece) more shown_apart.1 anchor.there anchor.shape
      (λ cs are. sym (show_put same i new cs))

  written : changed_in a (with_groups (group_inserted i (shows unset new))) (shows same ts) ≡ shows same then_stands
  written = ap (λ (f : NamedForest). changed_in a (with_groups (group_inserted i f)) (shows same ts)) fresh ∙ drawn

  shown_then : Shows g (shows same then_stands)
  shown_then = (stays.top ∙ (shown_apart.0 ∙ sym (top_names same a more ts)), subst (λ (f : NamedForest). ReadsIn (rooms g) None f) written (put None (shows same ts) shown_apart.1))

  pub added_holds : Holds g (shows same then_stands)
  added_holds =
      subst (λ (f : NamedForest). Holds g f) drawn
      (holds_inserted e g a i anchor.room (group_names (show_bodies same bs)) (shows same ts) piece shown_apart anchor.there anchor.shape there live once fewer
      (subst (λ (f : NamedForest). Shows g f) (sym drawn) shown_then))

  -- all of it is drawn from something
  pub added_homed : HomedAll (sources g) then_stands
  added_homed =
      homed_more (sources e) (sources g) (all_stay e g stays.homes) then_stands
      (bodies_are_homed (sources e) a more ts (λ cs h. homed_put (sources e) i new builds.homed cs h) (homed_more (sources d) (sources e) (older_stay d e builds.homes) ts b.homed))
