-- Outlets that are told without the rows that stand in them: their fire comes to the same.
use Rattle.std.proofs.Common.{◌≡◌, ◌∙◌, ◌+◌, ◌≤◌, ℕ, List, [], ◌∷◌, ◌++◌, map, refl, ap, arith, if◌then◌else◌}
use Rattle.std.specs.List.{AllByRecursion}
use Rattle.ng_base.specs.Views.{ViewTree}
use Rattle.ng_drawing.specs.Named.{Named}
use Rattle.ng_drawing.specs.Cases.{Case, case_in}
use Rattle.ng_drawing.specs.Template.{Filling, body_if, on_case, for_each, by_name}
use Rattle.ng_fire.specs.Blocks.{Firing, all_gone, outlet_emptied, outlets_emptied}
use Rattle.ng_fire.specs.Serving.{IsThere, due_count, AreDue}
use Rattle.ng_fire.specs.SiteFires.{filled_by, outlet_filled, outlets_filled, outlets_fired}
use Rattle.ng_instances.specs.Due.{Due, told_bodies, without_rows}
use Rattle.ng_instances.specs.Instances.{Body, Instances}
use Rattle.ng_link.specs.Standing.{body_count}
use Rattle.ng_rows.specs.Chosen.{cases_due, goes}

pub none_due : (ds : List Due) → map without_rows ds ≡ [] → ds ≡ []
none_due [] e = refl
none_due (d ∷ ds) e = absurd (cc)

-- ---- what goes and what is made

told_wholly : (d : Due) → told_bodies d.filling d.bodies ≡ d.bodies → without_rows d ≡ d
told_wholly d e = ap (λ (bs : List Body). (let x : Due = record d { bodies = bs } in x)) e

same_gone : (holder : List ℕ) (v : ViewTree) (f : Filling) (bs : List Body) (g : Firing) → (if goes f v then all_gone holder (told_bodies f bs) g else g) ≡ (if goes f v then all_gone holder bs g else g)
same_gone holder v (body_if b) bs g = refl
same_gone holder v (on_case c b) bs g = refl
same_gone holder v (for_each r b) bs g = refl
same_gone holder v (by_name b) bs g = refl

same_emptied : (holder : List ℕ) (v : ViewTree) (ds : List Due) (g : Firing) → outlets_emptied holder v (map without_rows ds) g ≡ outlets_emptied holder v ds g
same_emptied holder v [] g = refl
same_emptied holder v (d ∷ ds) g = same_emptied holder v ds (outlet_emptied holder v (without_rows d) g) ∙ ap (outlets_emptied holder v ds) (same_gone holder v d.filling d.bodies g)

same_cases : (ds : List Due) → cases_due (map without_rows ds) ≡ cases_due ds
same_cases [] = refl
same_cases (d ∷ ds) = ap (λ (cs : List Case). case_in d.filling ++ cs) (same_cases ds)

same_filled : (holder : List ℕ) (cases : List Case) (v : ViewTree) (d : Due) (g : Firing) → outlet_filled holder cases v (without_rows d) g ≡ outlet_filled holder cases v d g
same_filled holder cases v d g = by d.filling refl
  where
    wholly : (f : Filling) → told_bodies d.filling d.bodies ≡ d.bodies → filled_by holder cases v (without_rows d) f g ≡ filled_by holder cases v d f g
    wholly f e = ap (λ (x : Due). filled_by holder cases v x f g) (told_wholly d e)

    by : (f : Filling) → d.filling ≡ f → filled_by holder cases v (without_rows d) f g ≡ filled_by holder cases v d f g
    by (body_if b) e = wholly (body_if b) (ap (λ (f : Filling). told_bodies f d.bodies) e)
    by (on_case c b) e = wholly (on_case c b) (ap (λ (f : Filling). told_bodies f d.bodies) e)
    by (for_each r b) e = refl
    by (by_name b) e = wholly (by_name b) (ap (λ (f : Filling). told_bodies f d.bodies) e)

same_outlets : (holder : List ℕ) (cases : List Case) (v : ViewTree) (ds : List Due) (g : Firing) → outlets_filled holder cases v (map without_rows ds) g ≡ outlets_filled holder cases v ds g
same_outlets holder cases v [] g = refl
same_outlets holder cases v (d ∷ ds) g = same_outlets holder cases v ds (outlet_filled holder cases v (without_rows d) g) ∙ ap (outlets_filled holder cases v ds) (same_filled holder cases v d g)

pub same_fired : (holder : List ℕ) (v : ViewTree) (ds : List Due) (g : Firing) → outlets_fired holder v (map without_rows ds) g ≡ outlets_fired holder v ds g
same_fired holder v ds g =
    ap (λ (cs : List Case). outlets_filled holder cs v (map without_rows ds) (outlets_emptied holder v (map without_rows ds) g)) (same_cases ds)
    ∙ (ap (outlets_filled holder (cases_due ds) v (map without_rows ds)) (same_emptied holder v ds g)
    ∙ same_outlets holder (cases_due ds) v ds (outlets_emptied holder v ds g))

-- ---- what an outlet asks of the instance

fewer : (q : List ℕ) (f : Filling) (bs : List Body) → body_count q (told_bodies f bs) ≤ body_count q bs
fewer q (body_if b) bs = omega arith
fewer q (on_case c b) bs = omega arith
fewer q (for_each r b) bs = omega arith
fewer q (by_name b) bs = omega arith

fewer_due : (q : List ℕ) (ds : List Due) → due_count q (map without_rows ds) ≤ due_count q ds
fewer_due q [] = omega arith
fewer_due q (d ∷ ds) = let one = fewer q d.filling d.bodies in let more = fewer_due q ds in omega (arith, one, more)

still_there : (all : List Named) (holder : List ℕ) (is : Instances) (ds : List Due) → AllByRecursion (IsThere all holder is) ds → AllByRecursion (IsThere all holder is) (map without_rows ds)
still_there all holder is [] h = tt
still_there all holder is (d ∷ ds) h = (record { outlet = h.0.outlet; body = h.0.body }, still_there all holder is ds h.1)

pub still_due : (all : List Named) (holder : List ℕ) (is : Instances) (ds : List Due) → AreDue all holder is ds → AreDue all holder is (map without_rows ds)
still_due all holder is ds h = record {
  there = still_there all holder is ds h.there;
  bodies = λ q. (let some = h.bodies q in let less = fewer_due q ds in omega (arith, some, less));
}
