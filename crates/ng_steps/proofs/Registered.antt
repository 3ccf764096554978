-- What a linking has come to, once no step of it met a fault, is what a fragment that is placed has to be.
use Rattle.std.proofs.Common.{◌≡◌, ◌<◌, ◌∙◌, ℕ, List, None, ap, sym, subst, length}
use Rattle.std.specs.Prelude.{slice_get}
use Rattle.ng_drawing.specs.Template.{Fragment}
use Rattle.ng_steps.proofs.GivenNumbers.{Gives}
use Rattle.ng_steps.proofs.Numbers.{begun_fresh, steps_give}
use Rattle.ng_steps.proofs.Underway.{IsUnderway, linking_underway}
use Rattle.ng_steps.specs.Links.{Linking, begins_linking, steps_linked}
use Rattle.ng_steps.specs.LinkingOf.{AreBelow}
use Rattle.ng_build.specs.Linking.{fault_in, steps}
use Rattle.ng_link.specs.Placing.{IsRegistered}
use Rattle.ng_instances.specs.Registering.{kept_of}
use Rattle.ng_link.specs.State.{State}
use Rattle.std.specs.Prelude.{Option}
use Rattle.ng_base.specs.Views.{ViewTree}

pub linking_registered : (s : State) (scope : ℕ) (os : List ℕ) (f : Fragment) (g : Linking) → 0 < length s.core.scopes → scope < length s.core.scopes → AreBelow (length s.core.scopes) os
    → (room : ℕ) → fault_in room (steps f.parts) ≡ None → g ≡ steps_linked f (steps f.parts) (begins_linking scope os s) → g.fault ≡ None → IsRegistered f scope g.made g.state
linking_registered s scope os f g root lt outs room ended is none =
    subst (λ (h : Linking). IsRegistered f scope h.made h.state) (sym is) (record {
      rising = under.rising;
      below = under.below;
      count = ap length given.serials ∙ given.count;
      ended = (room, ended);
      scopes = under.scopes;
      outsides = under.outsides;
      own = under.own;
      within = under.within;
      bounds = under.bounds;
      drawn = λ i n at off.
          (let one = given.drawn i n (ap (λ (ns : List ℕ). slice_get ns i) (sym given.serials) ∙ at) off in
          (one.0, ap (λ (ks : List (Option ViewTree)). kept_of (slice_get ks i)) given.kept ∙ one.1));
    })
  where
    end : Linking
    end = steps_linked f (steps f.parts) (begins_linking scope os s)

    under : IsUnderway s scope os end.state end.made
    under = linking_underway s scope os f (steps f.parts) root lt outs

    given : Gives (steps f.parts) (begins_linking scope os s) end
    given = steps_give f (steps f.parts) (begins_linking scope os s) (begun_fresh scope os s) (sym (ap (λ (h : Linking). h.fault) is) ∙ none)
