-- What is live, and what it is drawn from, once nodes are gone.
use Rattle.std.proofs.Common.{◌≡◌, ◌≤◌, ◌<◌, ◌⊎◌, ℕ, Bool, true, false, Option, Some, None, refl, ap, ◌∙◌, sym, inl, inr, is_some}
use Rattle.std.specs.Prelude.{◌==◌, option_map, if◌then◌else◌}
use Rattle.std.proofs.lemmas.Bool.{cases_lt}
use Rattle.ng_base.specs.declared.path.Key.{Key}
use Rattle.ng_dom.specs.Records.{node_at}
use Rattle.ng_dom.specs.Document.{rooms, homes, IsLive}
use Rattle.ng_dom.specs.Drawing.{Look, Stand, Stands, Bodies, Source, text_stands, comment_stands, element_stands, block_stands, none_stand, stand_then, no_bodies, body_then, show, shows, show_bodies, Homed, HomedAll, HomedBodies, at_block, at_block_all, at_block_bodies}
use Rattle.ng_dom.specs.Kept.{room_kept}
use Rattle.ng_dom.specs.Laws.{LiveNodesHaveHomes, LiveNamesAreGiven, FewerAreLive, HomesStay, BodiesAreHomed}
use Rattle.ng_dom.specs.Nodes.{NamedNode, name_of}
use Rattle.ng_dom.specs.Rooms.{Rooms, room_of, HasRoom, ReadsInside, ReadsIn, ReadsGroups}
use Rattle.ng_dom.specs.declared.record.Record.{Record}

pub some_mapped : {X Y : Type 0} (f : X → Y) (o : Option X) → is_some (option_map f o) ≡ is_some o
some_mapped f None = refl
some_mapped f (Some x) = refl

pub live_nodes_have_homes : LiveNodesHaveHomes
live_nodes_have_homes d n = some_mapped (λ (x : Record). x.home) (node_at d.nodes n) ∙ sym (some_mapped room_kept (node_at d.nodes n))

pub live_names_are_given : LiveNamesAreGiven
live_names_are_given d n live = by_order (cases_lt n d.next)
  where
    by_order : (n < d.next) ⊎ (d.next ≤ n) → n < d.next
    by_order (inl lt) = lt
    by_order (inr le) = absurd (let two : true ≡ false = sym live ∙ (some_mapped room_kept (node_at d.nodes n) ∙ d.fresh n le) in cc)

pub fewer_are_live : FewerAreLive
fewer_are_live d e n fewer live = by_home (fewer.homes n)
  where
    by_home : (homes e n ≡ homes d n) ⊎ (rooms e n ≡ None) → IsLive d n
    by_home (inl same) = sym (live_nodes_have_homes d n) ∙ (ap is_some (sym same) ∙ (live_nodes_have_homes e n ∙ live))
    by_home (inr gone) = absurd (let two : true ≡ false = sym live ∙ ap is_some gone in cc)

-- what is read has a room, so what it is drawn from stays
module _ (r : Rooms) (h k : ℕ → Option Source) (v : Key → Look) (stays : (n : ℕ) → (k n ≡ h n) ⊎ (r n ≡ None)) where
  home_stays : (p : Option ℕ) (x : NamedNode) (s : Source) → HasRoom r p x → h (name_of x) ≡ Some s → k (name_of x) ≡ Some s
  home_stays p x s has is = by_room (stays (name_of x))
    where
      by_room : (k (name_of x) ≡ h (name_of x)) ⊎ (r (name_of x) ≡ None) → k (name_of x) ≡ Some s
      by_room (inl same) = same ∙ is
      by_room (inr gone) = absurd (let two : Some (room_of p x) ≡ None = sym has.1 ∙ gone in cc)

  mutual
    one_stays : (p : Option ℕ) (m : Stand) → HasRoom r p (show v m) → ReadsInside r (show v m) → Homed h m → Homed k m
    one_stays p (text_stands n ps) has t g = home_stays p (show v (text_stands n ps)) _ has g
    one_stays p (comment_stands n u) has t g = home_stays p (show v (comment_stands n u)) _ has g
    one_stays p (element_stands n e ats ms) has t g = (home_stays p (show v (element_stands n e ats ms)) _ has g.0, all_stay (Some n) ms t g.1)
    one_stays p (block_stands n bs) has t g = (home_stays p (show v (block_stands n bs)) _ has g.0, bodies_stay (Some n) bs t g.1)

    pub all_stay : (p : Option ℕ) (ms : Stands) → ReadsIn r p (shows v ms) → HomedAll h ms → HomedAll k ms
    all_stay p none_stand t g = tt
    all_stay p (stand_then m ms) t g = (one_stays p m t.0 t.1 g.0, all_stay p ms t.2 g.1)

    bodies_stay : (p : Option ℕ) (bs : Bodies) → ReadsGroups r p (show_bodies v bs) → HomedBodies h bs → HomedBodies k bs
    bodies_stay p no_bodies t g = tt
    bodies_stay p (body_then ms bs) t g = (all_stay p ms t.0 g.0, bodies_stay p bs t.1 g.1)

pub homes_stay : HomesStay
homes_stay d e source p v ms fewer reads homed = all_stay (rooms e) (λ n. option_map source (homes d n)) (λ n. option_map source (homes e n)) v (λ n. mapped n (fewer.homes n)) p ms reads homed
  where
    mapped : (n : ℕ) → (homes e n ≡ homes d n) ⊎ (rooms e n ≡ None) → (option_map source (homes e n) ≡ option_map source (homes d n)) ⊎ (rooms e n ≡ None)
    mapped n (inl same) = inl (ap (option_map source) same)
    mapped n (inr gone) = inr gone

-- other bodies of a block
module _ (home : ℕ → Option Source) (a : ℕ) (h : Bodies → Bodies) (keeps : (bs : Bodies) → HomedBodies home bs → HomedBodies home (h bs)) where
  at_it : (b : Bool) (bs : Bodies) → HomedBodies home bs → HomedBodies home (if b then h bs else bs)
  at_it true bs g = keeps bs g
  at_it false bs g = g

  mutual
    one_homed : (m : Stand) → Homed home m → Homed home (at_block a h m)
    one_homed (text_stands n ps) g = g
    one_homed (comment_stands n u) g = g
    one_homed (element_stands n e ats ms) g = (g.0, all_homed ms g.1)
    one_homed (block_stands n bs) g = (g.0, at_it (n == a) (at_block_bodies a h bs) (in_bodies bs g.1))

    pub all_homed : (ms : Stands) → HomedAll home ms → HomedAll home (at_block_all a h ms)
    all_homed none_stand g = tt
    all_homed (stand_then m ms) g = (one_homed m g.0, all_homed ms g.1)

    in_bodies : (bs : Bodies) → HomedBodies home bs → HomedBodies home (at_block_bodies a h bs)
    in_bodies no_bodies g = tt
    in_bodies (body_then ms bs) g = (all_homed ms g.0, in_bodies bs g.1)

pub bodies_are_homed : BodiesAreHomed
bodies_are_homed home a h ms keeps homed = all_homed home a h keeps ms homed
