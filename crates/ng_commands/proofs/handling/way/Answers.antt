use Rattle.std.proofs.Common.{sym, subst}
use Rattle.ng_dom.specs.Document.{Shows}
use Rattle.ng_link.specs.Events.{named}
use Rattle.ng_link.specs.State.{state_of}
use Rattle.ng_commands.proofs.Wholes.{works_named}
use Rattle.ng_commands.proofs.handling.way.Goals as goal

pub line-requires : goal.line-requires
line-requires c = record {
  stands = record {
    forest = named (state_of c.args.works.now);
    shows = subst (λ d. Shows d (named (state_of c.args.works.now))) (sym c.dom.ensures) (works_named c.args.works.now c.requires.page.works);
    inside = c.requires.stands;
  };
}
