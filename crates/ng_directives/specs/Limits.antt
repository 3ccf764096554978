-- How many sites a template may have.
use Rattle.std.specs.Prelude.{ℕ}
use Rattle.ng_base.specs.declared.fault.Memory.TheVariants.{Worn}
use Rattle.ng_directives.specs.Texts.{refused}
use Rattle.ng_directives.specs.declared.fault.TplFault.{TplFault}
use Rattle.ng_directives.specs.declared.fault.TplKind.TheVariants.{Memory}

-- a template has at most as many sites
abbrev pub site_limit : ℕ
site_limit = 4294967295

-- there is no number left for a site
abbrev pub worn : TplFault
worn = refused (Memory Worn) 0
