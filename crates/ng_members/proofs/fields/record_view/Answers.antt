use Rattle.std.proofs.Common.{sym, subst}
use Rattle.ng_base.specs.ViewOf.{fields_of}
use Rattle.ng_language.specs.Views.{ViewStands}
use Rattle.ng_members.proofs.Stand.{fields_all_stand}
use Rattle.ng_members.proofs.fields.record_view.Goals as goal

pub returns-clause-stands : goal.returns-clause-stands
returns-clause-stands c = λ n a. subst (ViewStands n) (sym c.of_fields.ensures) (fields_all_stand n (fields_of c.args.fields) a)
