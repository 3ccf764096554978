-- A start tag of an element of text alone.
use Rattle.std.proofs.Common.{◌≡◌, ◌∙◌, true, ℕ, List}
use Rattle.std.specs.Prelude.{Result, Ok, Err, IfOk}
use Rattle.ng_base.specs.Cells.{Cell}
use Rattle.ng_base.proofs.Binds.{if_true}
use Rattle.ng_tags.specs.Tags.{raw_event, behind_tag, started, opens_raw}
use Rattle.ng_tags.specs.declared.event.Event.TheVariants as event
use Rattle.ng_tags.specs.declared.event.Tag.{Tag}

pub if_ok_along : {A E : Type 0} (r : Result A E) (x y : A) → x ≡ y → IfOk r (λ v. v ≡ x) → IfOk r (λ v. v ≡ y)
if_ok_along (Ok v) x y h i = i ∙ h
if_ok_along (Err e) x y h i = tt

pub started_raw : (total : ℕ) (t : Tag) (cs : List Cell) → opens_raw t ≡ true → started total t cs ≡ raw_event total t (behind_tag t.name cs)
started_raw total t cs h = if_true (opens_raw t) (raw_event total t (behind_tag t.name cs)) (event.Start t, behind_tag t.name cs) h
