-- What has the numbers of sites, with the numbers that these get where parts are composed.
use Rattle.std.specs.Prelude.{ℕ, List, map, slice_index_or, Option, None, option_map, unwrap_or}
use Rattle.ng_drawing.specs.Template.{Piece, word, hole, Hiding, while_true, while_false, PartClass, PartValue, always, unless_empty, flag, classes, PartAttributes, Control, Source, of_text, of_nothing, one_way, two_way, of_call, Binding, Uses, Scopes, Acts}

-- with the numbers that sites get
module _ (f : ℕ → ℕ) where
  abbrev pub moved_piece : Piece → Piece
  moved_piece (word t) = word t
  moved_piece (hole n) = hole (f n)

  abbrev pub moved_hiding : Hiding → Hiding
  moved_hiding (while_true n) = while_true (f n)
  moved_hiding (while_false n) = while_false (f n)

  abbrev pub moved_class : PartClass → PartClass
  moved_class c = record { written = c.written; pieces = map moved_piece c.pieces; words = map f c.words; hidings = map moved_hiding c.hidings }

  abbrev pub moved_value : PartValue → PartValue
  moved_value (always ps) = always (map moved_piece ps)
  moved_value (unless_empty ps) = unless_empty (map moved_piece ps)
  moved_value (flag w n) = flag w (f n)
  moved_value (classes c) = classes (moved_class c)

  abbrev pub moved_attributes : PartAttributes → PartAttributes
  moved_attributes ats = map (λ a. (a.0, moved_value a.1)) ats

  abbrev pub moved_control : Control → Control
  moved_control c = record { kind = c.kind; site = f c.site; writes = c.writes; changes = c.changes }

  abbrev pub moved_source : Source → Source
  moved_source (of_text ps) = of_text (map moved_piece ps)
  moved_source of_nothing = of_nothing
  moved_source (one_way n) = one_way (f n)
  moved_source (two_way n w) = two_way (f n) w
  moved_source (of_call p) = of_call p

  abbrev pub moved_binding : Binding → Binding
  moved_binding b = record b { source = moved_source b.source }

  abbrev pub moved_uses : Uses → Uses
  moved_uses u = record u { bindings = map moved_binding u.bindings }

-- the number that a site of the region got
abbrev pub found_in : List (Option ℕ) → ℕ → Option ℕ
found_in ns n = slice_index_or ns n None

abbrev pub moved_by : List (Option ℕ) → ℕ → ℕ
moved_by ns n = unwrap_or (found_in ns n) 0

abbrev pub composed_acts : (ℕ → ℕ) → Acts → Scopes → Acts
composed_acts f a s = record a { control = option_map (moved_control f) a.control; uses = option_map (moved_uses f) a.uses; scopes = s }
