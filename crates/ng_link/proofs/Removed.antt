-- A body of a block goes: the document shows the others, and nothing stands apart.
use Rattle.std.proofs.Common.{◌≡◌, inl, ℕ, zero, suc, Bool, true, false, cond, [], Option, Some, None, refl, ap, ◌∙◌, sym, subst}
use Rattle.std.specs.Prelude.{◌==◌}
use Rattle.ng_base.specs.declared.path.Key.{Key}
use Rattle.ng_dom.specs.Document.{rooms, Shows, Holds, Becomes, Stays, Fewer}
use Rattle.ng_dom.specs.Drawing.{Look, Source, Stand, Stands, Bodies, text_stands, comment_stands, element_stands, block_stands, none_stand, stand_then, no_bodies, body_then, shows, show_bodies, HomedAll, HomedBodies, at_block, at_block_all, at_block_bodies}
use Rattle.ng_dom.specs.Editing.{changed_in, with_groups, group_removed, group_at}
use Rattle.ng_dom.specs.Lists.{among, list_at}
use Rattle.ng_dom.specs.Nodes.{NamedForest, names_of, group_names}
use Rattle.ng_dom.specs.Removal.{groups_in, group_emptied, IsApartFromOthers}
use Rattle.ng_dom.specs.Rooms.{Room, Shape, ReadsIn}
use Rattle.ng_dom.specs.declared.dom.Dom.{Dom}
use Rattle.ng_dom.proofs.Apart.{groups_stand_apart}
use Rattle.ng_dom.proofs.Counting.{names_stand}
use Rattle.ng_dom.proofs.Focus.{groups_changed}
use Rattle.ng_dom.proofs.Groups.{names-at, reads-at}
use Rattle.ng_dom.proofs.Homes.{homes_stay, bodies_are_homed}
use Rattle.ng_dom.proofs.Keeping.{holds_emptied, holds_cut}
use Rattle.ng_build.specs.Sources.{source_of, sources}
use Rattle.ng_link.specs.Unlinking.{Empties}
use Rattle.ng_link.proofs.Blocks.{BlockAmong, IsAnchor, anchor_at, block_named, block_becomes}
use Rattle.ng_link.proofs.BodiesAt.{bodies_cut, bodies_emptied, show_cut, show_emptied, none_at, top_names, homed_cut}
use Rattle.ng_link.proofs.Homed.{homed_more, all_stay}

-- to empty a place first makes no difference to what is left
module _ (a i : ℕ) where
  abbrev emptied : Bodies → Bodies
  emptied = bodies_emptied i

  abbrev cut : Bodies → Bodies
  cut = bodies_cut i

  cut_within : (j : ℕ) (bs : Bodies) → at_block_bodies a cut (bodies_emptied j bs) ≡ bodies_emptied j (at_block_bodies a cut bs)
  cut_within j no_bodies = refl
  cut_within zero (body_then us bs) = refl
  cut_within (suc j) (body_then us bs) = ap (body_then (at_block_all a cut us)) (cut_within j bs)

  cut_place : (j : ℕ) (bs : Bodies) → bodies_cut j (bodies_emptied j bs) ≡ bodies_cut j bs
  cut_place j no_bodies = refl
  cut_place zero (body_then us bs) = refl
  cut_place (suc j) (body_then us bs) = ap (body_then us) (cut_place j bs)

  mutual
    one_cut : (m : Stand) → at_block a cut (at_block a emptied m) ≡ at_block a cut m
    one_cut (text_stands n ps) = refl
    one_cut (comment_stands n t) = refl
    one_cut (element_stands n e ats ms) = ap (element_stands n e ats) (all_cut ms)
    one_cut (block_stands n bs) = ap (block_stands n) (by_test (n == a) (bodies_are_cut bs))
      where
        by_test : (t : Bool) → at_block_bodies a cut (at_block_bodies a emptied bs) ≡ at_block_bodies a cut bs
            → cond t (cut (at_block_bodies a cut (cond t (emptied (at_block_bodies a emptied bs)) (at_block_bodies a emptied bs)))) (at_block_bodies a cut (cond t (emptied (at_block_bodies a emptied bs)) (at_block_bodies a emptied bs)))
            ≡ cond t (cut (at_block_bodies a cut bs)) (at_block_bodies a cut bs)
        by_test true h = ap cut (cut_within i (at_block_bodies a emptied bs)) ∙ (cut_place i (at_block_bodies a cut (at_block_bodies a emptied bs)) ∙ ap cut h)
        by_test false h = h

    pub all_cut : (ms : Stands) → at_block_all a cut (at_block_all a emptied ms) ≡ at_block_all a cut ms
    all_cut none_stand = refl
    all_cut (stand_then m ms) = ap (λ (x : Stand). stand_then x (at_block_all a cut (at_block_all a emptied ms))) (one_cut m) ∙ ap (stand_then (at_block a cut m)) (all_cut ms)

    bodies_are_cut : (bs : Bodies) → at_block_bodies a cut (at_block_bodies a emptied bs) ≡ at_block_bodies a cut bs
    bodies_are_cut no_bodies = refl
    bodies_are_cut (body_then us bs) = ap (λ (x : Stands). body_then x (at_block_bodies a cut (at_block_bodies a emptied bs))) (all_cut us) ∙ ap (body_then (at_block_all a cut us)) (bodies_are_cut bs)

homed_emptied : (home : ℕ → Option Source) (i : ℕ) (bs : Bodies) → HomedBodies home bs → HomedBodies home (bodies_emptied i bs)
homed_emptied home i no_bodies h = tt
homed_emptied home zero (body_then us bs) h = (tt, h.1)
homed_emptied home (suc i) (body_then us bs) h = (h.0, homed_emptied home i bs h.1)

module _ (looks : Key → Look) (d e g : Dom) (ts : Stands) (a i : ℕ) (bs : Bodies) (holds : Holds d (shows looks ts)) (homed : HomedAll (sources d) ts) (block : BlockAmong a bs ts)
    (empties : Empties a i d e) (becomes : Becomes e g (changed_in a (with_groups (group_removed i)))) (stays : Stays e g) where
  abbrev then_empty : Stands
  then_empty = at_block_all a (bodies_emptied i) ts

  abbrev then_stands : Stands
  then_stands = at_block_all a (bodies_cut i) ts

  anchor : IsAnchor a bs (rooms d) looks
  anchor = anchor_at a bs (rooms d) looks ts block None holds.shows.1

  groups_there : groups_in (rooms d a) ≡ group_names (show_bodies looks bs)
  groups_there = ap groups_in anchor.there ∙ ap (λ (s : Shape). groups_in (Some (record { parent = anchor.room.parent; shape = s }))) anchor.shape

  piece : NamedForest
  piece = group_at i (show_bodies looks bs)

  piece_names : names_of piece ≡ list_at i (groups_in (rooms d a))
  unfolding piece
  piece_names = names-at i (show_bodies looks bs) ∙ ap (list_at i) (sym groups_there)

  piece_reads : ReadsIn (rooms d) (Some a) piece
  unfolding piece
  piece_reads = reads-at (rooms d) (Some a) i (show_bodies looks bs) anchor.reads

  apart : IsApartFromOthers i (groups_in (rooms d a))
  apart = groups_stand_apart (rooms d) None (shows looks ts) a i holds.shows.1 holds.once (ap (among a) (names_stand looks ts) ∙ block_named a bs ts block)

  -- the nodes are gone
  drawn_empty : changed_in a (with_groups (group_emptied i)) (shows looks ts) ≡ shows looks then_empty
  drawn_empty =
      groups_changed (rooms d) None a anchor.room (group_names (show_bodies looks bs)) looks ts (group_emptied i) (bodies_emptied i) holds.shows.1 anchor.there anchor.shape (λ cs are. sym (show_emptied looks i cs))

  shown_empty : Shows e (changed_in a (with_groups (group_emptied i)) (shows looks ts))
  shown_empty = (
    empties.top ∙ (holds.shows.0 ∙ (sym (top_names looks a (bodies_emptied i) ts) ∙ ap names_of (sym drawn_empty))),
    empties.reads piece piece_names piece_reads apart None (shows looks ts) (λ is. (cc)) holds.shows.1 tt,
  )

  holds_empty : Holds e (changed_in a (with_groups (group_emptied i)) (shows looks ts))
  holds_empty = holds_emptied d e a i (shows looks ts) piece holds empties.fewer piece_names piece_reads (empties.gone piece piece_names piece_reads) shown_empty

  shown_e : Shows e (shows looks then_empty)
  shown_e = subst (λ (f : NamedForest). Shows e f) drawn_empty shown_empty

  -- and the place, too
  block_e : (cs : Bodies) × BlockAmong a (bodies_emptied i cs) then_empty
  block_e = block_becomes a bs (bodies_emptied i) ts block

  anchor_e : IsAnchor a (bodies_emptied i block_e.0) (rooms e) looks
  anchor_e = anchor_at a (bodies_emptied i block_e.0) (rooms e) looks then_empty block_e.1 None shown_e.1

  none_e : list_at i (groups_in (rooms e a)) ≡ []
  none_e =
      ap (λ (o : Option Room). list_at i (groups_in o)) anchor_e.there
      ∙ (ap (λ (s : Shape). list_at i (groups_in (Some (record { parent = anchor_e.room.parent; shape = s })))) anchor_e.shape ∙ none_at looks i block_e.0)

  drawn_cut : changed_in a (with_groups (group_removed i)) (shows looks then_empty) ≡ shows looks then_stands
  drawn_cut =
      groups_changed (rooms e) None a anchor_e.room (group_names (show_bodies looks (bodies_emptied i block_e.0))) looks then_empty (group_removed i) (bodies_cut i) shown_e.1 anchor_e.there anchor_e.shape
      (λ cs are. sym (show_cut looks i cs))
      ∙ ap (shows looks) (all_cut a i ts)

  fewer : Fewer e g
  fewer = record { homes = λ q. inl (stays.homes q); next = stays.next }

  abbrev was : NamedForest
  was = changed_in a (with_groups (group_emptied i)) (shows looks ts)

  drawn_was : changed_in a (with_groups (group_removed i)) was ≡ shows looks then_stands
  drawn_was = ap (λ (f : NamedForest). changed_in a (with_groups (group_removed i)) f) drawn_empty ∙ drawn_cut

  shown_g : Shows g (changed_in a (with_groups (group_removed i)) was)
  shown_g = (
    stays.top ∙ (empties.top ∙ (holds.shows.0 ∙ (sym (top_names looks a (bodies_cut i) ts) ∙ ap names_of (sym drawn_was)))),
    becomes None was shown_empty.1,
  )

  pub removed_holds : Holds g (shows looks then_stands)
  removed_holds = subst (λ (f : NamedForest). Holds g f) drawn_was (holds_cut e g a i was holds_empty fewer none_e shown_g)

  -- what is left is drawn from what it was
  homed_e : HomedAll (sources e) then_empty
  homed_e = homes_stay d e source_of None looks then_empty empties.fewer shown_e.1 (bodies_are_homed (sources d) a (bodies_emptied i) ts (λ cs h. homed_emptied (sources d) i cs h) homed)

  pub removed_homed : HomedAll (sources g) then_stands
  removed_homed =
      homed_more (sources e) (sources g) (all_stay e g stays.homes) then_stands
      (subst (λ (s : Stands). HomedAll (sources e) s) (all_cut a i ts) (bodies_are_homed (sources e) a (bodies_cut i) then_empty (λ cs h. homed_cut (sources e) i cs h) homed_e))
