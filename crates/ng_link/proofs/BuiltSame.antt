-- What is built stays so where other things are kept.
use Rattle.std.proofs.Common.{◌≡◌, ℕ, Option, Some, ◌∙◌, sym, subst}
use Rattle.ng_base.specs.declared.path.Key.{Key}
use Rattle.ng_dom.specs.Document.{Shows, Holds, Fewer}
use Rattle.ng_dom.specs.Drawing.{Look, Stands, shows}
use Rattle.ng_dom.specs.Nodes.{NamedForest}
use Rattle.ng_dom.specs.declared.dom.Dom.{Dom}
use Rattle.ng_dom.proofs.Counting.{names_stand}
use Rattle.ng_dom.proofs.Keeping.{holds_same}
use Rattle.ng_instances.specs.Instances.{Instances}
use Rattle.ng_build.specs.Sources.{sources}
use Rattle.ng_link.specs.Standing.{ArePlaced, IsBuilt}
use Rattle.ng_link.proofs.Agree.{Agree, all_agree}
use Rattle.ng_link.proofs.Held.{built_held}
use Rattle.ng_link.proofs.Homed.{homed_more}

-- where all that is drawn shows what it showed
pub built_agree : (places : Key → Option ℕ) (looks same : Key → Look) (d : Dom) (is : Instances) (ts : Stands) → Agree places (sources d) looks same → IsBuilt places looks d is ts → IsBuilt places same d is ts
built_agree places looks same d is ts agree b = record {
  holds = subst (λ (f : NamedForest). Holds d f) (all_agree places (sources d) looks same agree ts (built_held places looks d is ts b)) b.holds;
  stands = b.stands;
  homed = b.homed;
  ordered = b.ordered;
  each = b.each;
  apart = b.apart;
  bodies = b.bodies;
}

-- where each site shows what it showed
pub built_same : (places : Key → Option ℕ) (looks same : Key → Look) (d : Dom) (is : Instances) (ts : Stands) → ((k : Key) (n : ℕ) → places k ≡ Some n → looks k ≡ same k)
    → IsBuilt places looks d is ts → IsBuilt places same d is ts
built_same places looks same d is ts alike b = built_agree places looks same d is ts (λ k n at drawn. alike k n at) b

-- where the document shows what sites have now, and no node came
pub built_told : (places : Key → Option ℕ) (looks same : Key → Look) (d e : Dom) (is : Instances) (ts : Stands) → Fewer d e → Shows e (shows same ts) → ((q : ℕ) → sources e q ≡ sources d q)
    → IsBuilt places looks d is ts → IsBuilt places same e is ts
built_told places looks same d e is ts fewer shown homes b = record {
  holds = holds_same d e (shows looks ts) (shows same ts) b.holds fewer (names_stand same ts ∙ sym (names_stand looks ts)) shown;
  stands = b.stands;
  homed = homed_more (sources d) (sources e) (λ q s h. homes q ∙ h) ts b.homed;
  ordered = b.ordered;
  each = subst (λ (n : ℕ). ArePlaced places n is) (sym fewer.next) b.each;
  apart = b.apart;
  bodies = b.bodies;
}
