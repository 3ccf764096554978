-- How the sites of a template are watched, and where they are drawn.
use Rattle.std.specs.Prelude.{ℕ, List, [], ◌∷◌, Option, None, Some}
use Rattle.std.specs.BTreeMap.{insert_entry}
use Rattle.std.specs.Ordering.{nat_cmp}
use Rattle.ng_drawing.specs.Template.{Site}
use Rattle.ng_drawing.specs.declared.kind.SiteKind.{SiteKind}
use Rattle.ng_drawing.specs.declared.kind.SiteKind.TheVariants as sites
use Rattle.ng_base.specs.Views.{ViewTree}
use Rattle.ng_base.specs.declared.path.Key.{Key}
use Rattle.ng_watch.specs.Seen.{Watching}
use Rattle.ng_watch.specs.Table.{Table, with_watch, with_kept}
use Rattle.ng_watch.specs.declared.watch.WatchKind.{WatchKind}
use Rattle.ng_watch.specs.declared.watch.WatchKind.TheVariants as kinds

abbrev pub watch_kind : SiteKind → WatchKind
watch_kind sites.Text = kinds.Text
watch_kind sites.Words = kinds.Words
watch_kind sites.Reference = kinds.Reference
watch_kind sites.Collection = kinds.Collection
watch_kind sites.Deep = kinds.Deep
watch_kind sites.TwoWay = kinds.Reference

-- the site of a two-way binding is compared with a name of an isolate scope's object
abbrev pub kind_against : SiteKind → ℕ × List ℕ → WatchKind
kind_against sites.Text w = kinds.Text
kind_against sites.Words w = kinds.Words
kind_against sites.Reference w = kinds.Reference
kind_against sites.Collection w = kinds.Collection
kind_against sites.Deep w = kinds.Deep
kind_against sites.TwoWay w = kinds.TwoWay (record { 0 = w.0 }) w.1

abbrev pub kind_with : SiteKind → Option (ℕ × List ℕ) → WatchKind
kind_with k None = watch_kind k
kind_with k (Some w) = kind_against k w

-- How a site is watched: under a key, over an object, against a name of another where it is a two-way binding's, and what it has kept already.
pub record Row : Type 0 where
  pub key : Key
  pub object : ℕ
  pub way : Option (ℕ × List ℕ)
  pub kept : Option ViewTree

-- a site is watched over an object
abbrev pub watching_site : ℕ → Option (ℕ × List ℕ) → Site → Watching
watching_site object way x = record { kind = kind_with x.kind way; program = x.program; one_time = x.one_time; scope = object }

abbrev pub with_first : Key → Option ViewTree → Table → Table
with_first k None t = t
with_first k (Some v) t = with_kept k (Some v) t

abbrev pub with_row : Row → Site → Table → Table
with_row r x t = with_first r.key r.kept (with_watch r.key (watching_site r.object r.way x) t)

-- sites are watched, one after another
abbrev pub with_sites : List Row → List Site → Table → Table
with_sites [] xs t = t
with_sites (r ∷ rs) [] t = t
with_sites (r ∷ rs) (x ∷ xs) t = with_sites rs xs (with_row r x t)

-- the node that each site is drawn in, by the site's number of registration
abbrev pub spots_by : List ℕ → List ℕ → List (ℕ × ℕ) → List (ℕ × ℕ)
spots_by [] nodes m = m
spots_by (s ∷ ss) [] m = m
spots_by (s ∷ ss) (n ∷ ns) m = spots_by ss ns (insert_entry nat_cmp m s n)
