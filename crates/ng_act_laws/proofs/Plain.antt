-- Programs of names, members and operators act as they are evaluated.
use Rattle.std.proofs.Common.{◌≡◌, ℕ, Bool, true, false, if◌then◌else◌, Result, Ok, Err, refl}
use Rattle.ng_base.specs.Meets.{◌>>=◌ as ◌>>?◌}
use Rattle.ng_base.specs.Views.{ViewTree}
use Rattle.ng_base.specs.declared.fault.Fault.{Fault}
use Rattle.ng_behaviour.specs.Scopes.{object_at}
use Rattle.ng_language.specs.Trees.{Tree, Trees, a_number, a_text, a_name, the_scope, a_constant, member_of, item_of, call_of, a_list, a_record, in_brackets, signed, combined, both_of, either_of, choice_of, assigned, filtered, no_trees, tree_then}
use Rattle.ng_language.specs.Operators.{truthy}
use Rattle.ng_evaluation.specs.Evaluation.{evaluated, evaluated_statements}
use Rattle.ng_core.specs.Keeping.{nothing}
use Rattle.ng_act.specs.Asked.{Doing}
use Rattle.ng_act.specs.Expressions.{acted, statements}
use Rattle.ng_act.specs.Actions.{does}
use Rattle.ng_act_laws.specs.Laws.{IsPlain, ArePlain, PlainLaw}
use Rattle.ng_core.specs.State.{State, Run, ◌>>=◌}

then_plain : {A B : Type 0} (x : Run A) (s : State) (o : Result A Fault) (f : A → State → Run B) (g : A → Result B Fault) → x ≡ (s, o) → ((v : A) → f v s ≡ (s, g v)) → (x >>= f) ≡ (s, o >>? g)
then_plain x s (Ok v) f g e h = rw e (h v)
then_plain x s (Err d) f g e h = rw e refl

if_plain : {A : Type 0} (b : Bool) (x y : Run A) (s : State) (p q : Result A Fault) → x ≡ (s, p) → y ≡ (s, q) → (if b then x else y) ≡ (s, if b then p else q)
if_plain true x y s p q e h = e
if_plain false x y s p q e h = h

acted_plain : (go : Doing) (scope : ℕ) (t : Tree) (s : State) → IsPlain t → acted go scope t s ≡ (s, evaluated s.objects (object_at s.scopes scope) s.locals t)
acted_plain go scope (a_number n) s h = refl
acted_plain go scope (a_text t) s h = refl
acted_plain go scope (a_name n) s h = refl
acted_plain go scope the_scope s h = refl
acted_plain go scope (a_constant c) s h = refl
acted_plain go scope (member_of t n) s h = then_plain (acted go scope t s) s (evaluated s.objects (object_at s.scopes scope) s.locals t) _ _ (acted_plain go scope t s h) (λ v. refl)
acted_plain go scope (item_of t i) s h =
    then_plain (acted go scope t s) s (evaluated s.objects (object_at s.scopes scope) s.locals t) _ _ (acted_plain go scope t s h.0)
    (λ v. then_plain (acted go scope i s) s (evaluated s.objects (object_at s.scopes scope) s.locals i) _ _ (acted_plain go scope i s h.1) (λ w. refl))
acted_plain go scope (call_of t ts) s h = absurd h
acted_plain go scope (a_list ts) s h = absurd h
acted_plain go scope (a_record ps) s h = absurd h
acted_plain go scope (in_brackets t) s h = acted_plain go scope t s h
acted_plain go scope (signed o t) s h = then_plain (acted go scope t s) s (evaluated s.objects (object_at s.scopes scope) s.locals t) _ _ (acted_plain go scope t s h) (λ v. refl)
acted_plain go scope (combined o l r) s h =
    then_plain (acted go scope l s) s (evaluated s.objects (object_at s.scopes scope) s.locals l) _ _ (acted_plain go scope l s h.0)
    (λ v. then_plain (acted go scope r s) s (evaluated s.objects (object_at s.scopes scope) s.locals r) _ _ (acted_plain go scope r s h.1) (λ w. refl))
acted_plain go scope (both_of l r) s h =
    then_plain (acted go scope l s) s (evaluated s.objects (object_at s.scopes scope) s.locals l) _ _ (acted_plain go scope l s h.0)
    (λ v. if_plain (truthy v) (acted go scope r s) (s, Ok v) s (evaluated s.objects (object_at s.scopes scope) s.locals r) (Ok v) (acted_plain go scope r s h.1) refl)
acted_plain go scope (either_of l r) s h =
    then_plain (acted go scope l s) s (evaluated s.objects (object_at s.scopes scope) s.locals l) _ _ (acted_plain go scope l s h.0)
    (λ v. if_plain (truthy v) (s, Ok v) (acted go scope r s) s (Ok v) (evaluated s.objects (object_at s.scopes scope) s.locals r) refl (acted_plain go scope r s h.1))
acted_plain go scope (choice_of c l r) s h =
    then_plain (acted go scope c s) s (evaluated s.objects (object_at s.scopes scope) s.locals c) _ _ (acted_plain go scope c s h.0)
    (λ v. if_plain (truthy v) (acted go scope l s) (acted go scope r s) s (evaluated s.objects (object_at s.scopes scope) s.locals l) (evaluated s.objects (object_at s.scopes scope) s.locals r) (acted_plain go scope l s h.1.0) (acted_plain go scope r s h.1.1))
acted_plain go scope (assigned l r) s h = absurd h
acted_plain go scope (filtered t n ts) s h = absurd h

statements_plain : (go : Doing) (scope : ℕ) (v : ViewTree) (ts : Trees) (s : State) → ArePlain ts → statements go scope v ts s ≡ (s, evaluated_statements s.objects (object_at s.scopes scope) s.locals v ts)
statements_plain go scope v no_trees s h = refl
statements_plain go scope v (tree_then t ts) s h =
    then_plain (acted go scope t s) s (evaluated s.objects (object_at s.scopes scope) s.locals t) _ _ (acted_plain go scope t s h.0) (λ w. statements_plain go scope w ts s h.1)

pub plain_law : PlainLaw
plain_law room scope p s h = statements_plain (does room) scope nothing p s h
