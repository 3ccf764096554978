-- Tags, texts and comments, from the left.
use Rattle.std.specs.Prelude.{Bool, ℕ, ◌==◌, ◌&&◌, List, [], ◌∷◌, ◌++◌, Option, None, Some, Result, Ok, Err, is_some, codes, if◌then◌else◌}
use Rattle.ng_base.specs.Codes as char
use Rattle.ng_base.specs.Cells.{Cell}
use Rattle.ng_tags.specs.Free.{fault}
use Rattle.std.specs.Char.{is_ascii_alphabetic}
use Rattle.ng_tags.specs.Letters.{lower}
use Rattle.ng_tags.specs.Skips.{past_spaces, past_word, name_run}
use Rattle.ng_tags.specs.References.{Read, character}
use Rattle.ng_tags.specs.Texts.{no_text, tag_follows, with_character, text_from}
use Rattle.ng_tags.specs.declared.texts.Decoded.{Decoded}
use Rattle.ng_tags.specs.Tags.{start_tag, end_tag}
use Rattle.ng_tags.specs.declared.event.Event.{Event}
use Rattle.ng_tags.specs.declared.event.Event.TheVariants as event
use Rattle.ng_tags.specs.declared.fault.HtmlFault.{HtmlFault}
use Rattle.ng_tags.specs.declared.fault.HtmlKind.TheVariants as kind
use Rattle.ng_tags.specs.declared.until.Until.TheVariants as until

-- a line feed in a comment reads as a space
abbrev pub as_space : ℕ → ℕ
as_space c = if c == char.line_feed then char.space else c

-- whether a comment ends here
abbrev pub ends_comment : List Cell → Bool
ends_comment cs = is_some (past_word (codes "-->") cs)

-- the text of a comment up to its end
abbrev pub comment_run : List ℕ → List Cell → List ℕ × List Cell
comment_run t [] = (t, [])
comment_run t (c ∷ cs) = if ends_comment (c ∷ cs) then (t, c ∷ cs) else comment_run (t ++ as_space c.0 ∷ []) cs

abbrev pub comment_with : ℕ → ℕ → List ℕ → Option (List Cell) → Result (Event × List Cell) HtmlFault
comment_with total p t None = Err (fault kind.Unclosed total)
comment_with total p t (Some rest) = Ok (event.Comment t p, rest)

abbrev pub comment_from : ℕ → ℕ → List ℕ × List Cell → Result (Event × List Cell) HtmlFault
comment_from total p r = comment_with total p r.0 (past_word (codes "-->") r.1)

-- a comment at a place, where `--` stood behind its `<!`
abbrev pub comment : ℕ → ℕ → Option (List Cell) → Result (Event × List Cell) HtmlFault
comment total p None = Err (fault kind.BadTag p)
comment total p (Some cs) = comment_from total p (comment_run [] cs)

-- what begins with a `<` at a place
abbrev pub markup : ℕ → ℕ → List Cell → Result (Event × List Cell) HtmlFault
markup total p [] = Err (fault kind.BadTag p)
markup total p (c ∷ cs) =
    if is_ascii_alphabetic c.0 then start_tag total p (name_run (lower c.0 ∷ []) cs)
    else if c.0 == char.slash then end_tag total p cs
    else if c.0 == char.exclamation_mark then comment total p (past_word (codes "--") cs)
    else Err (fault kind.BadTag p)

-- a text is refused for the first bad reference in it
abbrev pub text_or : ℕ → List ℕ → Option HtmlFault → List Cell → Result (Event × List Cell) HtmlFault
text_or p t None rest = Ok (event.Text t p, rest)
text_or p t (Some f) rest = Err f

abbrev pub text_event : ℕ → Decoded × List Cell → Result (Event × List Cell) HtmlFault
text_event p r = text_or p r.0.text r.0.fault r.1

-- a text behind its first character
abbrev pub text_behind : ℕ → Read → Decoded × List Cell
text_behind p r = text_from until.Tag (with_character no_text p r.0) r.1

-- the event that begins with this cell, and what is left
abbrev pub event_at : ℕ → Cell → List Cell → Result (Event × List Cell) HtmlFault
event_at total c cs = if c.0 == char.less_than_sign && tag_follows cs then markup total c.1 cs else text_event c.1 (text_behind c.1 (character c.0 cs))

-- behind the next `>`
abbrev pub past_sign : ℕ → List Cell → Result (List Cell) HtmlFault
past_sign p [] = Err (fault kind.BadTag p)
past_sign p (c ∷ cs) = if c.0 == char.greater_than_sign then Ok cs else past_sign p cs

abbrev pub doctype_behind : ℕ → List Cell → Option (List Cell) → Result (List Cell) HtmlFault
doctype_behind p all None = Ok all
doctype_behind p all (Some cs) = past_sign p cs

abbrev pub doctype_at : List Cell → List Cell → Result (List Cell) HtmlFault
doctype_at all [] = Ok all
doctype_at all (c ∷ cs) = if c.0 == char.less_than_sign then doctype_behind c.1 all (past_word (codes "!doctype") cs) else Ok all

-- what is left behind a doctype and the white space before it, if one stands first
abbrev pub after_doctype : List Cell → Result (List Cell) HtmlFault
after_doctype cs = doctype_at cs (past_spaces cs)
