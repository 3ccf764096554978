-- Values as texts, as JSON, and as class words.
use Rattle.std.specs.Prelude.{ℕ, suc, zero, ◌+◌, ◌*◌, ◌/◌, ◌%◌, Bool, true, false, List, [], ◌∷◌, ◌++◌, Result, Ok, Err, codes, nat_lt, ◌==◌, if◌then◌else◌}
use Rattle.std.specs.Char.{is_ascii_whitespace}
use Rattle.std.specs.Fmt.{signed_decimal}
use Rattle.ng_base.specs.Codes as char
use Rattle.ng_base.specs.Meets.{◌>>=◌}
use Rattle.ng_base.specs.Objects.{Object}
use Rattle.ng_base.specs.Views.{ViewTree, ViewTrees, ViewFields, prim, list, rec, no_views, view_then, no_fields, field_then}
use Rattle.ng_base.specs.declared.value.Value.{Value}
use Rattle.ng_base.specs.declared.value.Value.TheVariants as value
use Rattle.ng_base.specs.declared.fault.Fault.{Fault}
use Rattle.ng_language.specs.Operators.{truthy}
use Rattle.ng_language.specs.Unfolding.{unfolded}
use Rattle.ng_language.specs.declared.unfolding.Mode.TheVariants as modes

abbrev pub bool_text : Bool → List ℕ
bool_text true = codes "true"
bool_text false = codes "false"

abbrev pub value_text : Value → List ℕ
value_text value.Undefined = codes "undefined"
value_text value.Null = codes "null"
value_text (value.Bool b) = bool_text b
value_text (value.Int n) = signed_decimal n
value_text value.Nan = codes "NaN"
value_text (value.Text t) = t
value_text (value.Obj o) = codes "[object Object]"
value_text (value.Fun f) = codes "function"

-- an item's text: null and undefined are empty
abbrev pub item_text : ViewTree → List ℕ → List ℕ
item_text (prim value.Undefined) text = []
item_text (prim value.Null) text = []
item_text t text = text

-- a value as a text: items are joined by `,`
abbrev mutual
  pub text_of : ViewTree → List ℕ
  text_of (prim v) = value_text v
  text_of (list ts) = items_text ts
  text_of (rec fs) = codes "[object Object]"

  pub items_text : ViewTrees → List ℕ
  items_text no_views = []
  items_text (view_then t ts) = item_text t (text_of t) ++ more_text ts

  pub more_text : ViewTrees → List ℕ
  more_text no_views = []
  more_text (view_then t ts) = char.comma ∷ (item_text t (text_of t) ++ more_text ts)

abbrev pub to_text : List Object → ViewTree → Result (List ℕ) Fault
to_text objects t = unfolded modes.Text objects t >>= λ u. Ok (text_of u)

abbrev pub hex_digit : ℕ → ℕ
hex_digit d = if nat_lt d 10 then char.digit_zero + d else 87 + d

-- a control character by its number, and any other as it is
abbrev pub plain_char : ℕ → List ℕ
plain_char c = if nat_lt c char.space then char.backslash ∷ char.letter_u ∷ char.digit_zero ∷ char.digit_zero ∷ hex_digit (c / 16) ∷ hex_digit (c % 16) ∷ [] else c ∷ []

-- a character inside a JSON text
abbrev pub escaped_char : ℕ → List ℕ
escaped_char c =
    if c == char.quotation_mark then char.backslash ∷ char.quotation_mark ∷ []
    else (if c == char.backslash then char.backslash ∷ char.backslash ∷ []
    else (if c == char.backspace then char.backslash ∷ char.letter_b ∷ []
    else (if c == char.form_feed then char.backslash ∷ char.letter_f ∷ []
    else (if c == char.line_feed then char.backslash ∷ char.letter_n ∷ []
    else (if c == char.carriage_return then char.backslash ∷ char.letter_r ∷ []
    else (if c == char.tab then char.backslash ∷ char.letter_t ∷ []
    else plain_char c))))))

abbrev pub escaped : List ℕ → List ℕ
escaped [] = []
escaped (c ∷ cs) = escaped_char c ++ escaped cs

abbrev pub quoted : List ℕ → List ℕ
quoted t = char.quotation_mark ∷ (escaped t ++ char.quotation_mark ∷ [])

abbrev pub json_value : Value → List ℕ
json_value value.Undefined = codes "null"
json_value value.Null = codes "null"
json_value (value.Bool b) = bool_text b
json_value (value.Int n) = signed_decimal n
json_value value.Nan = codes "null"
json_value (value.Text t) = quoted t
json_value (value.Obj o) = codes "\"$SCOPE\""
json_value (value.Fun f) = codes "null"

abbrev pub spaces : ℕ → List ℕ
spaces zero = []
spaces (suc n) = char.space ∷ spaces n

-- a new line with its margin, where there is an indent
abbrev pub line : ℕ → List ℕ → List ℕ
line zero margin = []
line (suc n) margin = char.line_feed ∷ margin

-- the margin one level down
abbrev pub deeper : ℕ → List ℕ → List ℕ
deeper indent margin = margin ++ spaces indent

abbrev pub colon : ℕ → List ℕ
colon zero = char.colon ∷ []
colon (suc n) = char.colon ∷ char.space ∷ []

abbrev mutual
  pub json_of : ℕ → List ℕ → ViewTree → List ℕ
  json_of indent margin (prim v) = json_value v
  json_of indent margin (list ts) = json_items indent margin ts
  json_of indent margin (rec fs) = json_fields indent margin fs

  pub json_items : ℕ → List ℕ → ViewTrees → List ℕ
  json_items indent margin no_views = codes "[]"
  json_items indent margin (view_then t ts) = char.open_bracket ∷ (line indent (deeper indent margin) ++ (json_of indent (deeper indent margin) t ++ json_more_items indent margin ts))

  pub json_more_items : ℕ → List ℕ → ViewTrees → List ℕ
  json_more_items indent margin no_views = line indent margin ++ char.close_bracket ∷ []
  json_more_items indent margin (view_then t ts) = char.comma ∷ (line indent (deeper indent margin) ++ (json_of indent (deeper indent margin) t ++ json_more_items indent margin ts))

  pub json_fields : ℕ → List ℕ → ViewFields → List ℕ
  json_fields indent margin no_fields = codes "{}"
  json_fields indent margin (field_then name t fs) =
      char.open_brace ∷ (line indent (deeper indent margin) ++ (quoted name ++ (colon indent ++ (json_of indent (deeper indent margin) t ++ json_more_fields indent margin fs))))

  pub json_more_fields : ℕ → List ℕ → ViewFields → List ℕ
  json_more_fields indent margin no_fields = line indent margin ++ char.close_brace ∷ []
  json_more_fields indent margin (field_then name t fs) =
      char.comma ∷ (line indent (deeper indent margin) ++ (quoted name ++ (colon indent ++ (json_of indent (deeper indent margin) t ++ json_more_fields indent margin fs))))

abbrev pub json_text : List Object → ℕ → ViewTree → Result (List ℕ) Fault
json_text objects indent t = unfolded modes.Json objects t >>= λ u. Ok (json_of indent [] u)

-- what a hole shows: null, undefined and functions nothing, texts and numbers themselves, all else JSON
abbrev pub show_text : List Object → ViewTree → Result (List ℕ) Fault
show_text objects (prim value.Undefined) = Ok []
show_text objects (prim value.Null) = Ok []
show_text objects (prim (value.Int n)) = Ok (signed_decimal n)
show_text objects (prim value.Nan) = Ok (codes "NaN")
show_text objects (prim (value.Text t)) = Ok t
show_text objects (prim (value.Fun f)) = Ok []
show_text objects t = json_text objects 0 t

-- the words between white space, behind the characters of one that was begun
abbrev pub with_word : List ℕ → List (List ℕ) → List (List ℕ)
with_word [] words = words
with_word (c ∷ cs) words = (c ∷ cs) ∷ words

abbrev pub words_in : List ℕ → List ℕ → List (List ℕ)
words_in word [] = with_word word []
words_in word (c ∷ cs) = if is_ascii_whitespace c then with_word word (words_in [] cs) else words_in (word ++ c ∷ []) cs

-- class words: of a text its words, of a list those of its parts, of a record its names with true values
abbrev pub words_of_value : Value → List (List ℕ)
words_of_value (value.Text t) = words_in [] t
words_of_value v = []

abbrev mutual
  pub words_of : ViewTree → List (List ℕ)
  words_of (prim v) = words_of_value v
  words_of (list ts) = words_of_all ts
  words_of (rec fs) = words_of_names fs

  pub words_of_all : ViewTrees → List (List ℕ)
  words_of_all no_views = []
  words_of_all (view_then t ts) = words_of t ++ words_of_all ts

  pub words_of_names : ViewFields → List (List ℕ)
  words_of_names no_fields = []
  words_of_names (field_then name t fs) = if truthy t then words_in [] name ++ words_of_names fs else words_of_names fs

abbrev pub class_words : List Object → ViewTree → Result (List (List ℕ)) Fault
class_words objects t = unfolded modes.Words objects t >>= λ u. Ok (words_of u)
