-- Which fragment an instance is one of, and where the bodies in it come from (API: ngInclude). A template that is included has the bodies of
-- the outlets in it; and one template less may be included there.
use Rattle.std.specs.Prelude.{ℕ, ◌-◌, ◌==◌, ◌&&◌, Bool, [], Option, None, Some, is_some}
use Rattle.ng_base.specs.declared.name.TplId.{TplId}
use Rattle.ng_drawing.specs.declared.origin.Home.{Home}
use Rattle.ng_drawing.specs.declared.origin.Origin.{Origin}

-- how many templates may be included in one another, or be those of directives in one another
abbrev pub inclusion_limit : ℕ
inclusion_limit = 64

-- where a page's own template is linked
abbrev pub first_home : TplId → Home
first_home t = record { template = t; room = inclusion_limit; given = [] }

-- a fragment in which no template is included
abbrev pub plain_origin : Home → ℕ → Origin
plain_origin h n = record { home = h; fragment = n; included = None }

-- where the bodies of the outlets come from
abbrev pub home_in : Home → Option TplId → Home
home_in h None = h
home_in h (Some t) = record { template = t; room = h.room - 1; given = [] }

abbrev pub inner_home : Origin → Home
inner_home o = home_in o.home o.included

-- whether a template is included where no more may be
abbrev pub is_too_deep : Origin → Bool
is_too_deep o = is_some o.included && o.home.room == 0
