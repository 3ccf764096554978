-- What a track key is told apart by: its kind, its number and its text.
use Rattle.std.specs.Prelude.{ℕ, pos, negsuc, List, [], if◌then◌else◌}
use Rattle.ng_base.specs.declared.value.Value.{Value}
use Rattle.ng_base.specs.declared.value.Value.TheVariants as value
use Rattle.ng_blocks.specs.declared.keys.TrackKey.{TrackKey}
use Rattle.ng_blocks.specs.declared.keys.TrackKey.TheVariants as key

-- the kinds of values in a row; a number below 0 has a kind of its own
abbrev pub value_kind : Value → ℕ
value_kind value.Undefined = 0
value_kind value.Null = 1
value_kind (value.Bool b) = 2
value_kind (value.Int (pos n)) = 3
value_kind (value.Int (negsuc n)) = 4
value_kind value.Nan = 5
value_kind (value.Text t) = 6
value_kind (value.Obj o) = 7
value_kind (value.Fun f) = 8

-- the number of a value that has one
abbrev pub value_number : Value → ℕ
value_number (value.Bool b) = if b then 1 else 0
value_number (value.Int (pos n)) = n
value_number (value.Int (negsuc n)) = n
value_number (value.Obj o) = o.0
value_number (value.Fun f) = f.0
value_number _ = 0

-- the text of a value that is one
abbrev pub value_text : Value → List ℕ
value_text (value.Text t) = t
value_text _ = []

abbrev pub kind_of : TrackKey → ℕ
kind_of (key.Prim v) = value_kind v
kind_of (key.Place p) = 9
kind_of (key.Text t) = 10

abbrev pub number_of : TrackKey → ℕ
number_of (key.Prim v) = value_number v
number_of (key.Place p) = p
number_of (key.Text t) = 0

abbrev pub text_of : TrackKey → List ℕ
text_of (key.Prim v) = value_text v
text_of (key.Place p) = []
text_of (key.Text t) = t
