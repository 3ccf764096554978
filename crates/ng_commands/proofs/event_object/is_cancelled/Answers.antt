use Rattle.std.proofs.Common.{◌≡◌, ap, subst, ◌∙◌, ℕ, List, ◌++◌, IfOk}
use Rattle.std.specs.Prelude.{codes}
use Rattle.ng_commands.specs.EventObject.{is_set}
use Rattle.ng_commands.proofs.event_object.is_cancelled.Goals as goal

pub returns : goal.returns
returns c =
    subst (λ n. IfOk c.is_set.result (λ b. b ≡ is_set c.args.store.now c.args.o.0 n))
    (c.in_ok-push_word.ensures.ok ∙ ap (λ (t : List ℕ). t ++ codes "cancelBubble") c.new-name.ensures)
    c.is_set.ensures
