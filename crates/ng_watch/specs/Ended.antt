-- When a one-time binding has ended (guide: Expressions, "One-Time Binding").
use Rattle.std.specs.Prelude.{Bool, true, false, not, ◌&&◌, List, [], map, Result, Ok, Err, if◌then◌else◌}
use Rattle.std.specs.List.{filter, list_all}
use Rattle.ng_base.specs.Objects.{Object}
use Rattle.ng_base.specs.Views.{ViewTree, prim, list, rec, views_list, fields_list}
use Rattle.ng_base.specs.declared.fault.Fault.{Fault}
use Rattle.ng_language.specs.Sums.{is_undefined}
use Rattle.ng_language.specs.Trees.{Tree, Trees, a_list, a_record, tree_then, no_trees}
use Rattle.ng_watch.specs.Now.{value_now}
use Rattle.ng_watch.specs.Seen.{Watcher}
use Rattle.ng_watch.specs.Table.{Table}

abbrev pub is_literal_tree : Tree → Bool
is_literal_tree (a_list ts) = true
is_literal_tree (a_record ps) = true
is_literal_tree t = false

-- whether a program is one array or object literal, and nothing else
abbrev pub is_literal : Trees → Bool
is_literal (tree_then t no_trees) = is_literal_tree t
is_literal ts = false

-- the elements of an array literal, or the property values of an object literal
abbrev pub parts_of : ViewTree → List ViewTree
parts_of (prim v) = []
parts_of (list ts) = views_list ts
parts_of (rec fs) = map (λ f. f.1) (fields_list fs)

-- The value of a literal counts as undefined while one of its parts is undefined.
abbrev pub is_defined : Trees → ViewTree → Bool
is_defined p v = if is_literal p then list_all (λ part. not (is_undefined part)) (parts_of v) else not (is_undefined v)

-- whether a program has come to a value that is defined, which a fault is not
abbrev pub is_reached : Trees → Result ViewTree Fault → Bool
is_reached p (Ok v) = is_defined p v
is_reached p (Err f) = false

-- a one-time watcher is over where its program's value now is defined
abbrev pub is_over : List Object → Watcher → Bool
is_over objects w = w.watch.one_time && is_reached w.watch.program (value_now objects w.watch)

-- the one-time watchers whose binding has ended
abbrev pub over : List Object → Table → Table
over objects t = filter (λ e. is_over objects e.1) t

-- the other watchers
abbrev pub without_over : List Object → Table → Table
without_over objects t = filter (λ e. not (is_over objects e.1)) t
