-- What holds of the works of a page once sites rest.
use Rattle.std.proofs.Common.{◌≡◌, ◌<◌, ℕ, OnOk, List, [], length, Result, Ok, Err, sym, subst}
use Rattle.ng_dom.specs.Drawing.{Stands}
use Rattle.ng_changes.proofs.Wholes.{Stays, left_stays, stays_of, whole_with}
use Rattle.ng_link.specs.Calls.{left_at}
use Rattle.ng_link.specs.Standing.{Standing}
use Rattle.ng_link.specs.State.{State, state_of, templates_of}
use Rattle.ng_link.specs.declared.works.Works.{Works}
use Rattle.ng_commands.specs.BetweenSteps.{WorksAre, PageIs}
use Rattle.ng_commands.proofs.FitsStay.{fits_stays}
use Rattle.ng_commands.proofs.Sites.{SitesStay, left_sites}
use Rattle.ng_commands.proofs.Watched.{watched_stays}

-- the sites rest, and what holds of the works holds
pub works_left : (v w : Works) (p : List ℕ) → state_of w ≡ left_at p (state_of v) → w.core ≡ v.core → ((ts : Stands) → Standing v ts → Standing w ts) → templates_of w ≡ templates_of v → WorksAre v → WorksAre w
works_left v w p e core stands ts h = record {
  whole = whole_with v w h.whole core stands (subst (λ (s : State). Stays v.core.scopes (length v.core.store) s) (sym e) (left_stays v.core.scopes (length v.core.store) p (state_of v) (stays_of v h.whole)));
  templates = subst (λ t. 0 < length t) (sym ts) h.templates;
}

pub page_rested : (v w : Works) (p : List ℕ) → state_of w ≡ left_at p (state_of v) → w.core ≡ v.core → ((ts : Stands) → Standing v ts → Standing w ts) → templates_of w ≡ templates_of v → PageIs v → PageIs w
page_rested v w p e core stands ts h = record {
  works = works_left v w p e core stands ts h.works;
  watched = watched_stays (state_of v) (state_of w) (subst (SitesStay (state_of v)) (sym e) (left_sites p (state_of v))) h.watched;
  fits = fits_stays (state_of v) (state_of w) [] (subst (SitesStay (state_of v)) (sym e) (left_sites p (state_of v))) h.watched.keys h.fits;
}

pub on_ok : {T E A B : Type 0} (r : Result T E) → OnOk r A → (A → B) → OnOk r B
on_ok (Ok v) h f = f h
on_ok (Err e) h f = tt
