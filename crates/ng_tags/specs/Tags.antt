-- Tags, and elements of text alone.
use Rattle.std.specs.Prelude.{Bool, true, not, ℕ, ◌==◌, ◌||◌, ◌&&◌, List, [], ◌∷◌, Option, None, Some, Result, Ok, Err, is_none, if◌then◌else◌}
use Rattle.ng_base.specs.Codes as char
use Rattle.ng_base.specs.Cells.{Cell}
use Rattle.ng_markup.specs.Tables.{is_left_out, is_raw, is_line_dropping}
use Rattle.ng_tags.specs.Free.{fault, met_or}
use Rattle.std.specs.Char.{is_ascii_alphabetic}
use Rattle.ng_tags.specs.Letters.{is_space, lower}
use Rattle.ng_tags.specs.Skips.{past_spaces, name_run, place_in}
use Rattle.ng_tags.specs.Texts.{text_run, past_end_tag}
use Rattle.ng_tags.specs.declared.texts.Decoded.{Decoded}
use Rattle.ng_tags.specs.Attributes.{attributes}
use Rattle.ng_tags.specs.declared.attributes.Inside.{Inside}
use Rattle.ng_tags.specs.declared.event.Event.{Event}
use Rattle.ng_tags.specs.declared.event.Event.TheVariants as event
use Rattle.ng_tags.specs.declared.event.Tag.{Tag}
use Rattle.ng_tags.specs.declared.fault.HtmlFault.{HtmlFault}
use Rattle.ng_tags.specs.declared.fault.HtmlKind.TheVariants as kind
use Rattle.ng_tags.specs.declared.until.Until.TheVariants as until

-- a step of the reading
abbrev pub EventRead : Type 0
EventRead = Result (Event × List Cell) HtmlFault

abbrev pub tag_of : List ℕ → ℕ → Inside → Tag
tag_of n p i = record { name = n; attrs = i.attrs; place = p; closed = i.closed; fault = i.fault }

abbrev pub with_fault : Tag → HtmlFault → Tag
with_fault t f = record { name = t.name; attrs = t.attrs; place = t.place; closed = t.closed; fault = Some f }

-- the line feed right behind some tags is dropped
abbrev pub past_line_feed : List Cell → List Cell
past_line_feed [] = []
past_line_feed (c ∷ cs) = if c.0 == char.line_feed then cs else c ∷ cs

abbrev pub behind_tag : List ℕ → List Cell → List Cell
behind_tag n cs = if is_line_dropping n then past_line_feed cs else cs

-- the end tag at which a text ended
abbrev pub past_end : List ℕ → List Cell → Option (List Cell)
past_end n [] = None
past_end n (c ∷ cs) = past_end_tag n cs

-- an element of text alone, unless a reference in it is refused
abbrev pub raw_or : Tag → ℕ → List ℕ → Option HtmlFault → Event
raw_or t p u None = event.Raw t u p
raw_or t p u (Some f) = event.Start (with_fault t f)

-- an element of text alone, whose content begins at a place
abbrev pub raw_with : ℕ → Tag → ℕ → Decoded → List Cell → Option (List Cell) → Event × List Cell
raw_with total t p d cs None = (event.Start (with_fault t (met_or d.fault (fault kind.Unclosed total))), cs)
raw_with total t p d cs (Some rest) = (raw_or t p d.text d.fault, rest)

abbrev pub raw_from : ℕ → Tag → ℕ → Decoded × List Cell → Event × List Cell
raw_from total t p r = raw_with total t p r.0 r.1 (past_end t.name r.1)

abbrev pub raw_event : ℕ → Tag → List Cell → Event × List Cell
raw_event total t cs = raw_from total t (place_in total cs) (text_run (until.EndTag t.name) cs)

-- whether the content of an element of text alone follows
abbrev pub opens_raw : Tag → Bool
opens_raw t = is_raw t.name && not t.closed && is_none t.fault

abbrev pub started : ℕ → Tag → List Cell → Event × List Cell
started total t cs = if opens_raw t then raw_event total t (behind_tag t.name cs) else (event.Start t, behind_tag t.name cs)

-- what may stand right behind a tag's name
abbrev pub may_follow_name : List Cell → Bool
may_follow_name [] = true
may_follow_name (c ∷ cs) = is_space c.0 || c.0 == char.greater_than_sign || c.0 == char.slash

abbrev pub start_with : ℕ → ℕ → List ℕ → Inside × List Cell → Event × List Cell
start_with total p n r = started total (tag_of n p r.0) r.1

-- a start tag at a place, behind its name
abbrev pub start_tag : ℕ → ℕ → List ℕ × List Cell → Result (Event × List Cell) HtmlFault
start_tag total p r =
    if is_left_out r.0 then Err (fault kind.BadTag p)
    else if may_follow_name r.1 then Ok (start_with total p r.0 (attributes total r.1))
    else Err (fault kind.BadTag p)

-- an end tag at a place, behind its name and white space
abbrev pub end_tag_end : ℕ → ℕ → List ℕ → List Cell → Result (Event × List Cell) HtmlFault
end_tag_end total p n [] = Err (fault kind.Unclosed total)
end_tag_end total p n (c ∷ cs) = if c.0 == char.greater_than_sign then Ok (event.End n p, cs) else Err (fault kind.BadTag p)

abbrev pub end_tag_named : ℕ → ℕ → List ℕ × List Cell → Result (Event × List Cell) HtmlFault
end_tag_named total p r = if is_left_out r.0 then Err (fault kind.BadTag p) else end_tag_end total p r.0 (past_spaces r.1)

-- an end tag at a place, behind its `</`
abbrev pub end_tag : ℕ → ℕ → List Cell → Result (Event × List Cell) HtmlFault
end_tag total p [] = Err (fault kind.BadTag p)
end_tag total p (c ∷ cs) = if is_ascii_alphabetic c.0 then end_tag_named total p (name_run (lower c.0 ∷ []) cs) else Err (fault kind.BadTag p)
