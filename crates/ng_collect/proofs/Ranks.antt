-- The order of picked directives is total.
use Rattle.std.specs.Cmp.{IsTotalOrder}
use Rattle.std.proofs.lemmas.Cmp.{nat_cmp_total, int_cmp_total, on_total, then_total, back_total}
use Rattle.ng_base.specs.Order.{txt_cmp_total}
use Rattle.ng_collect.specs.declared.pick.Pick.{Pick}
use Rattle.ng_collect.specs.Sorted.{pick_cmp, registration}

pub pick_cmp_total : IsTotalOrder pick_cmp
pick_cmp_total =
    then_total (back_total (on_total (λ (p : Pick). p.priority) int_cmp_total))
    (then_total (on_total (λ (p : Pick). p.name) txt_cmp_total) (on_total (λ (p : Pick). registration p.directive) nat_cmp_total))
