-- Attributes of a tag.
use Rattle.std.specs.Prelude.{Bool, true, false, ℕ, zero, suc, ◌==◌, ◌||◌, List, [], ◌∷◌, ◌++◌, length, Option, None, Some, Result, Ok, Err, if◌then◌else◌}
use Rattle.std.specs.BTreeMap.{insert_entry}
use Rattle.ng_base.specs.Codes as char
use Rattle.ng_base.specs.Cells.{Cell}
use Rattle.ng_base.specs.Meets.{◌>>=◌}
use Rattle.ng_base.specs.Order.{txt_cmp}
use Rattle.std.specs.Str.{bytes_eq}
use Rattle.ng_markup.specs.Forest.{Attributes}
use Rattle.ng_tags.specs.Free.{fault, met_or, met_first}
use Rattle.ng_tags.specs.Letters.{is_space, is_in_attribute, is_bare, lower}
use Rattle.ng_tags.specs.Skips.{past_spaces}
use Rattle.ng_tags.specs.Texts.{no_text, text_run}
use Rattle.ng_tags.specs.declared.texts.Decoded.{Decoded}
use Rattle.ng_tags.specs.declared.attributes.Inside.{Inside}
use Rattle.ng_tags.specs.declared.fault.HtmlFault.{HtmlFault}
use Rattle.ng_tags.specs.declared.fault.HtmlKind.TheVariants as kind
use Rattle.ng_tags.specs.declared.until.Until.TheVariants as until

abbrev pub has_attribute : Attributes → List ℕ → Bool
has_attribute [] n = false
has_attribute (a ∷ done) n = bytes_eq n a.0 || has_attribute done n

-- in the order of the names; of two attributes of one name the first stands
abbrev pub with_attribute : Attributes → List ℕ → List ℕ → Attributes
with_attribute done n v = if has_attribute done n then done else insert_entry txt_cmp done n v

abbrev pub attribute_run : List ℕ → List Cell → List ℕ × List Cell
attribute_run n [] = (n, [])
attribute_run n (c ∷ cs) = if is_in_attribute c.0 then attribute_run (n ++ lower c.0 ∷ []) cs else (n, c ∷ cs)

-- a value with the first fault of a reference in it, and what is left; or what ends the reading of the tag
abbrev pub ValueRead : Type 0
ValueRead = Result (Decoded × List Cell) HtmlFault

-- behind the closing quote
abbrev pub quoted : ℕ → Decoded × List Cell → ValueRead
quoted total (d, []) = Err (met_or d.fault (fault kind.Unclosed total))
quoted total (d, c ∷ cs) = Ok (d, cs)

-- a backquote ends a value, but nothing begins with it there
abbrev pub unquoted : Decoded × List Cell → ValueRead
unquoted (d, []) = Ok (d, [])
unquoted (d, c ∷ cs) = if c.0 == char.backquote then Err (met_or d.fault (fault kind.BadAttr c.1)) else Ok (d, c ∷ cs)

-- the value behind `=`
abbrev pub value_at : ℕ → List Cell → ValueRead
value_at total [] = Err (fault kind.Unclosed total)
value_at total (c ∷ cs) =
    if c.0 == char.quotation_mark then quoted total (text_run until.Double cs)
    else if c.0 == char.apostrophe then quoted total (text_run until.Single cs)
    else if is_bare c.0 then unquoted (text_run until.Space (c ∷ cs))
    else Err (fault kind.BadAttr c.1)

-- the value behind a name, which is empty where no `=` stands
abbrev pub value_behind : ℕ → List Cell → ValueRead
value_behind total [] = Ok (no_text, [])
value_behind total (c ∷ cs) = if c.0 == char.equals_sign then value_at total (past_spaces cs) else Ok (no_text, c ∷ cs)

-- a name, and its value
abbrev pub AttributeRead : Type 0
AttributeRead = Result (List ℕ × Decoded × List Cell) HtmlFault

abbrev pub named : ℕ → List ℕ × List Cell → AttributeRead
named total r = value_behind total (past_spaces r.1) >>= λ v. Ok (r.0, v.0, v.1)

abbrev pub attribute_at : ℕ → Cell → List Cell → AttributeRead
attribute_at total c cs = if is_in_attribute c.0 then named total (attribute_run (lower c.0 ∷ []) cs) else Err (fault kind.BadAttr c.1)

-- what stands in a tag behind its name
abbrev pub inside : Attributes → Bool → Option HtmlFault → Inside
inside a b f = record { attrs = a; closed = b; fault = f }

-- the reading of a tag ends here
abbrev pub broken : Attributes → Option HtmlFault → HtmlFault → List Cell → Inside × List Cell
broken done f g cs = (inside done false (Some (met_or f g)), cs)

-- behind a `/` at a place
abbrev pub slash : ℕ → Attributes → Option HtmlFault → ℕ → List Cell → Inside × List Cell
slash total done f p [] = broken done f (fault kind.Unclosed total) []
slash total done f p (c ∷ cs) = if c.0 == char.greater_than_sign then (inside done true f, cs) else broken done f (fault kind.BadAttr p) (c ∷ cs)

abbrev pub either_way : {A B : Type 0} → (A → B) → (HtmlFault → B) → Result A HtmlFault → B
either_way f g (Ok x) = f x
either_way f g (Err e) = g e

-- the attributes up to the end of the tag, behind those that were read
abbrev pub attributes_within : ℕ → ℕ → Attributes → Option HtmlFault → List Cell → Inside × List Cell
attributes_within zero total done f cs = (inside done false f, cs)
attributes_within (suc k) total done f [] = broken done f (fault kind.Unclosed total) []
attributes_within (suc k) total done f (c ∷ cs) =
    if c.0 == char.greater_than_sign then (inside done false f, cs)
    else if c.0 == char.slash then slash total done f c.1 cs
    else if is_space c.0 then attributes_within k total done f cs
    else
    either_way (λ r. attributes_within k total (with_attribute done r.0 r.1.text) (met_first f r.1.fault) r.2) (λ g. broken done f g (c ∷ cs)) (attribute_at total c cs)

abbrev pub attributes_from : ℕ → Attributes → Option HtmlFault → List Cell → Inside × List Cell
attributes_from total done f cs = attributes_within (suc (length cs)) total done f cs

abbrev pub attributes : ℕ → List Cell → Inside × List Cell
attributes total cs = attributes_from total [] None cs
