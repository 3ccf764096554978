-- The table of a two-way binding (API: `$compile`, `scope`, `=`).
use Rattle.std.specs.Prelude.{Bool, true, false}
use Rattle.ng_bind.specs.declared.flow.Flow.{Flow}
use Rattle.ng_bind.specs.declared.flow.Flow.TheVariants.{Still, ToDest, ToParent}

-- whether the parent has another value than the last one | whether the isolate scope has | where a value goes
abbrev pub flow_of : Bool → Bool → Flow
flow_of true true = ToDest
flow_of true false = ToDest
flow_of false true = ToParent
flow_of false false = Still
