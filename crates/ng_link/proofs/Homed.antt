-- What nodes are drawn from, where the document changes beside them.
use Rattle.std.proofs.Common.{◌≡◌, ◌<◌, ℕ, true, Option, Some, None, refl, ap, ◌∙◌, sym}
use Rattle.std.specs.Prelude.{is_some, option_map}
use Rattle.ng_dom.specs.Document.{homes, next_name, IsLive}
use Rattle.ng_dom.specs.Drawing.{Source, Stand, Stands, Bodies, text_stands, comment_stands, element_stands, block_stands, none_stand, stand_then, no_bodies, body_then, Homed, HomedAll, HomedBodies}
use Rattle.ng_dom.specs.declared.dom.Dom.{Dom}
use Rattle.ng_dom.specs.declared.record.Home.{Home}
use Rattle.ng_dom.proofs.Homes.{live_nodes_have_homes, live_names_are_given}
use Rattle.ng_build.specs.Sources.{source_of, sources}

-- what is drawn from something stays so
module _ (home same : ℕ → Option Source) (stays : (q : ℕ) (s : Source) → home q ≡ Some s → same q ≡ Some s) where
  mutual
    one_stays : (m : Stand) → Homed home m → Homed same m
    one_stays (text_stands n ps) h = stays n _ h
    one_stays (comment_stands n t) h = stays n _ h
    one_stays (element_stands n e ats ms) h = (stays n _ h.0, homed_more ms h.1)
    one_stays (block_stands n bs) h = (stays n _ h.0, bodies_stay bs h.1)

    pub homed_more : (ms : Stands) → HomedAll home ms → HomedAll same ms
    homed_more none_stand h = tt
    homed_more (stand_then m ms) h = (one_stays m h.0, homed_more ms h.1)

    bodies_stay : (bs : Bodies) → HomedBodies home bs → HomedBodies same bs
    bodies_stay no_bodies h = tt
    bodies_stay (body_then ms bs) h = (homed_more ms h.0, bodies_stay bs h.1)

-- a name with a source is that of a live node
pub live_source : (d : Dom) (q : ℕ) (s : Source) → sources d q ≡ Some s → IsLive d q
live_source d q s e = sym (live_nodes_have_homes d q) ∙ has_home (homes d q) e
  where
    has_home : (o : Option Home) → option_map source_of o ≡ Some s → is_some o ≡ true
    has_home None f = absurd (cc)
    has_home (Some x) f = refl

-- where older nodes are drawn from what they were
pub older_stay : (d e : Dom) → ((q : ℕ) → q < next_name d → homes e q ≡ homes d q) → (q : ℕ) (s : Source) → sources d q ≡ Some s → sources e q ≡ Some s
older_stay d e same q s h = ap (option_map source_of) (same q (live_names_are_given d q (live_source d q s h))) ∙ h

pub all_stay : (d e : Dom) → ((q : ℕ) → homes e q ≡ homes d q) → (q : ℕ) (s : Source) → sources d q ≡ Some s → sources e q ≡ Some s
all_stay d e same q s h = ap (option_map source_of) (same q) ∙ h

-- an older node that is live was live
pub older_live : (d e : Dom) (q : ℕ) → homes e q ≡ homes d q → IsLive e q → IsLive d q
older_live d e q same live = sym (live_nodes_have_homes d q) ∙ (ap is_some (sym same) ∙ (live_nodes_have_homes e q ∙ live))
