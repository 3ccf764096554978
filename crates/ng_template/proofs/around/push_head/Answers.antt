use Rattle.std.proofs.Common.{◌∙◌, ap, sym, subst}
use Rattle.ng_base.specs.Meets.{Gives}
use Rattle.ng_template.specs.AroundOf.{before_of, blocks_of, programs_of}
use Rattle.ng_directives.specs.Free.{is_tpl_want}
use Rattle.ng_template.proofs.Blocks.{head-case, gives-started, head-repeat, head-block}
use Rattle.ng_template.proofs.around.push_head.Goals as goal

pub returns-in-Case : goal.returns-in-Case
returns-in-Case c =
    head-case c.args.place (blocks_of c.args.heads.now.items) (programs_of c.args.starts.items) c.args.pick.now (sym c.before_body.ensures ∙ ap before_of c.in-Case.is)

pub returns-in-Start : goal.returns-in-Start
returns-in-Start c =
    gives-started c.args.place (blocks_of c.args.heads.now.items) (programs_of c.args.starts.items) c.args.pick.now (sym c.before_body.ensures ∙ ap before_of c.in-Start.is) _ c.push_start.result c.push_start.ensures

pub returns-in-Repeat : goal.returns-in-Repeat
returns-in-Repeat c =
    subst (λ q. Gives is_tpl_want (λ s. (programs_of s.items, blocks_of c.push_repeat.new.heads.items)) q c.push_repeat.result)
    (sym (head-repeat c.args.place (blocks_of c.args.heads.now.items) (programs_of c.args.starts.items) c.args.pick.now (sym c.before_body.ensures ∙ ap before_of c.in-Repeat.is))) c.push_repeat.ensures

pub returns-in-Block : goal.returns-in-Block
returns-in-Block c =
    subst (λ q. Gives is_tpl_want (λ s. (programs_of s.items, blocks_of c.push_whole.new.heads.items)) q c.push_whole.result)
    (sym (head-block c.args.place (blocks_of c.args.heads.now.items) (programs_of c.args.starts.items) c.args.pick.now c.in-Block.named (sym c.before_body.ensures ∙ ap before_of c.in-Block.is))) c.push_whole.ensures
