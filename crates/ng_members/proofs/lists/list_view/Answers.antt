use Rattle.std.proofs.Common.{sym, subst}
use Rattle.ng_base.specs.ViewOf.{views_of}
use Rattle.ng_language.specs.Views.{ViewStands}
use Rattle.ng_members.proofs.Stand.{views_all_stand}
use Rattle.ng_members.proofs.lists.list_view.Goals as goal

pub returns-clause-stands : goal.returns-clause-stands
returns-clause-stands c = λ n a. subst (ViewStands n) (sym c.of_list.ensures) (views_all_stand n (views_of c.args.views) a)
