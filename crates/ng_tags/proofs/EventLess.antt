-- An event leaves less than there was.
use Rattle.std.proofs.Common.{◌≡◌, ◌≤◌, ◌<◌, ℕ, suc, Bool, true, false, ◌&&◌, List, [], ◌∷◌, ◌++◌, length, ap, arith}
use Rattle.std.specs.Prelude.{Option, None, Some, Result, Ok, Err, if◌then◌else◌, ◌==◌, option_and_then, codes}
use Rattle.std.specs.Str.{bytes_eq}
use Rattle.ng_base.specs.Cells.{Cell}
use Rattle.ng_markup.specs.Tables.{is_left_out, is_line_dropping}
use Rattle.ng_tags.specs.Free.{fault}
use Rattle.std.specs.Char.{is_ascii_alphabetic}
use Rattle.ng_tags.specs.Letters.{lower}
use Rattle.ng_tags.specs.Skips.{past, past_spaces, past_word, name_run, place_in}
use Rattle.ng_tags.specs.References.{character}
use Rattle.ng_tags.specs.Texts.{no_text, tag_follows, with_character, text_run, past_name, past_end_tag}
use Rattle.ng_tags.specs.Attributes.{attributes}
use Rattle.ng_tags.specs.Tags.{past_line_feed, behind_tag, past_end, raw_with, raw_event, started, opens_raw, may_follow_name, start_with, start_tag, end_tag_end, end_tag_named, end_tag, tag_of}
use Rattle.ng_tags.specs.Lexing.{as_space, ends_comment, comment_run, comment_with, comment, markup, text_or, text_event, text_behind, event_at}
use Rattle.ng_tags.specs.declared.event.Event.{Event}
use Rattle.ng_tags.specs.declared.event.Event.TheVariants as event
use Rattle.ng_tags.specs.declared.event.Tag.{Tag}
use Rattle.ng_tags.specs.declared.fault.HtmlFault.{HtmlFault}
use Rattle.ng_tags.specs.declared.fault.HtmlKind.TheVariants as kind
use Rattle.ng_tags.specs.declared.texts.Decoded.{Decoded}
use Rattle.ng_tags.specs.declared.until.Until.TheVariants as until
use Rattle.ng_tags.proofs.Shorter.{Left, either, either_list, LeftCells, either_cells, spaces_less, past_less, name_less, character_less}
use Rattle.ng_tags.proofs.AttributeShorter.{LeftOk, either_ok, more_ok, text_less, run_less, attributes_less}

feed_less : (cs : List Cell) → length (past_line_feed cs) ≤ length cs
feed_less [] = omega arith
feed_less (c ∷ cs) = either_list (c.0 == 10) cs (c ∷ cs) (length (c ∷ cs)) (omega arith) (omega arith)

behind_tag_less : (n : List ℕ) (cs : List Cell) → length (behind_tag n cs) ≤ length cs
behind_tag_less n cs = either_list (is_line_dropping n) (past_line_feed cs) cs (length cs) (feed_less cs) (omega arith)

more_cells : (o : Option (List Cell)) (m k : ℕ) → LeftCells o m → m ≤ k → LeftCells o k
more_cells None m k h i = tt
more_cells (Some cs) m k h i = omega arith

past_name_less : (n : List ℕ) (r : List ℕ × List Cell) → LeftCells (past_name n r) (length r.1)
past_name_less n r = either_cells (bytes_eq n r.0) (past 62 (past_spaces r.1)) None (length r.1) (more_cells (past 62 (past_spaces r.1)) (length (past_spaces r.1)) (length r.1) (past_less 62 (past_spaces r.1)) (spaces_less r.1)) tt

then_name_less : (n : List ℕ) (o : Option (List Cell)) (m : ℕ) → LeftCells o m → LeftCells (option_and_then (λ ds. past_name n (name_run [] ds)) o) m
then_name_less n None m h = tt
then_name_less n (Some ds) m h = more_cells (past_name n (name_run [] ds)) (length (name_run [] ds).1) m (past_name_less n (name_run [] ds)) (omega (arith, name_less [] ds))

pub end_less : (n : List ℕ) (cs : List Cell) → LeftCells (past_end_tag n cs) (length cs)
end_less n cs = then_name_less n (past 47 cs) (length cs) (past_less 47 cs)

past_end_less : (n : List ℕ) (cs : List Cell) → LeftCells (past_end n cs) (length cs)
past_end_less n [] = tt
past_end_less n (c ∷ cs) = more_cells (past_end_tag n cs) (length cs) (length (c ∷ cs)) (end_less n cs) (omega arith)

with_less : (total : ℕ) (t : Tag) (p : ℕ) (d : Decoded) (cs : List Cell) (o : Option (List Cell)) → LeftCells o (length cs) → Left (raw_with total t p d cs o) (length cs)
with_less total t p d cs None h = omega arith
with_less total t p d cs (Some rest) h = omega arith

raw_less : (total : ℕ) (t : Tag) (cs : List Cell) → Left (raw_event total t cs) (length cs)
raw_less total t cs =
    let r = text_run (until.EndTag t.name) cs in
    omega (arith, run_less (until.EndTag t.name) cs, with_less total t (place_in total cs) r.0 r.1 (past_end t.name r.1) (past_end_less t.name r.1))

started_less : (total : ℕ) (t : Tag) (cs : List Cell) → Left (started total t cs) (length cs)
started_less total t cs =
    let less = behind_tag_less t.name cs in
    either (opens_raw t) (raw_event total t (behind_tag t.name cs)) (event.Start t, behind_tag t.name cs) (length cs) (omega (arith, less, raw_less total t (behind_tag t.name cs))) less

start_less : (total p : ℕ) (r : List ℕ × List Cell) → LeftOk (start_tag total p r) (length r.1)
start_less total p r =
    let i = attributes total r.1 in
    let bad : Result (Event × List Cell) HtmlFault = Err (fault kind.BadTag p) in
    let good : Result (Event × List Cell) HtmlFault = Ok (start_with total p r.0 i) in
    either_ok (is_left_out r.0) bad (if may_follow_name r.1 then good else bad) (length r.1) tt
    (either_ok (may_follow_name r.1) good bad (length r.1)
    (omega (arith, attributes_less (suc (length r.1)) total [] None r.1, started_less total (tag_of r.0 p i.0) i.1)) tt)

tag_end_less : (total p : ℕ) (n : List ℕ) (cs : List Cell) → LeftOk (end_tag_end total p n cs) (length cs)
tag_end_less total p n [] = tt
tag_end_less total p n (c ∷ cs) = either_ok (c.0 == 62) (Ok (event.End n p, cs)) (Err (fault kind.BadTag p)) (length (c ∷ cs)) (omega arith) tt

tag_named_less : (total p : ℕ) (r : List ℕ × List Cell) → LeftOk (end_tag_named total p r) (length r.1)
tag_named_less total p r =
    either_ok (is_left_out r.0) (Err (fault kind.BadTag p)) (end_tag_end total p r.0 (past_spaces r.1)) (length r.1) tt
    (more_ok (end_tag_end total p r.0 (past_spaces r.1)) (length (past_spaces r.1)) (length r.1) (tag_end_less total p r.0 (past_spaces r.1)) (spaces_less r.1))

end_tag_less : (total p : ℕ) (cs : List Cell) → LeftOk (end_tag total p cs) (length cs)
end_tag_less total p [] = tt
end_tag_less total p (c ∷ cs) =
    let r = name_run (lower c.0 ∷ []) cs in
    either_ok (is_ascii_alphabetic c.0) (end_tag_named total p r) (Err (fault kind.BadTag p)) (length (c ∷ cs))
    (more_ok (end_tag_named total p r) (length r.1) (length (c ∷ cs)) (tag_named_less total p r) (omega (arith, name_less (lower c.0 ∷ []) cs))) tt

abbrev WordLeft : Option (List Cell) → ℕ → Type 0
WordLeft None m = Unit {0}
WordLeft (Some cs) m = length cs ≤ m

either_word : (b : Bool) (x y : Option (List Cell)) (m : ℕ) → WordLeft x m → WordLeft y m → WordLeft (if b then x else y) m
either_word true x y m h i = h
either_word false x y m h i = i

more_word : (o : Option (List Cell)) (m k : ℕ) → WordLeft o m → m ≤ k → WordLeft o k
more_word None m k h i = tt
more_word (Some cs) m k h i = omega arith

word_less : (w : List ℕ) (cs : List Cell) → WordLeft (past_word w cs) (length cs)
word_less [] cs = omega arith
word_less (w ∷ ws) [] = tt
word_less (w ∷ ws) (c ∷ cs) = either_word (lower c.0 == w) (past_word ws cs) None (length (c ∷ cs)) (more_word (past_word ws cs) (length cs) (length (c ∷ cs)) (word_less ws cs) (omega arith)) tt

comment_run_less : (t : List ℕ) (cs : List Cell) → Left (comment_run t cs) (length cs)
comment_run_less t [] = omega arith
comment_run_less t (c ∷ cs) = either (ends_comment (c ∷ cs)) (t, c ∷ cs) (comment_run (t ++ as_space c.0 ∷ []) cs) (length (c ∷ cs)) (omega arith) (omega (arith, comment_run_less (t ++ as_space c.0 ∷ []) cs))

comment_with_less : (total p : ℕ) (t : List ℕ) (o : Option (List Cell)) (m : ℕ) → WordLeft o m → LeftOk (comment_with total p t o) m
comment_with_less total p t None m h = tt
comment_with_less total p t (Some rest) m h = h

comment_less : (total p : ℕ) (o : Option (List Cell)) (m : ℕ) → WordLeft o m → LeftOk (comment total p o) m
comment_less total p None m h = tt
comment_less total p (Some cs) m h =
    let r = comment_run [] cs in
    comment_with_less total p r.0 (past_word (codes "-->") r.1) m (more_word (past_word (codes "-->") r.1) (length r.1) m (word_less (codes "-->") r.1) (omega (arith, comment_run_less [] cs)))

markup_less : (total p : ℕ) (cs : List Cell) → LeftOk (markup total p cs) (length cs)
markup_less total p [] = tt
markup_less total p (c ∷ cs) =
    let m = length (c ∷ cs) in
    let r = name_run (lower c.0 ∷ []) cs in
    let bad : Result (Event × List Cell) HtmlFault = Err (fault kind.BadTag p) in
    let note = comment total p (past_word (codes "--") cs) in
    either_ok (is_ascii_alphabetic c.0) (start_tag total p r) (if c.0 == 47 then end_tag total p cs else if c.0 == 33 then note else bad) m
    (more_ok (start_tag total p r) (length r.1) m (start_less total p r) (omega (arith, name_less (lower c.0 ∷ []) cs)))
    (either_ok (c.0 == 47) (end_tag total p cs) (if c.0 == 33 then note else bad) m
    (more_ok (end_tag total p cs) (length cs) m (end_tag_less total p cs) (omega arith))
    (either_ok (c.0 == 33) note bad m (comment_less total p (past_word (codes "--") cs) m (more_word (past_word (codes "--") cs) (length cs) m (word_less (codes "--") cs) (omega arith))) tt))

text_or_less : (p : ℕ) (t : List ℕ) (f : Option HtmlFault) (rest : List Cell) (m : ℕ) → length rest ≤ m → LeftOk (text_or p t f rest) m
text_or_less p t None rest m h = h
text_or_less p t (Some f) rest m h = tt

at_less : (total : ℕ) (c : Cell) (cs : List Cell) → LeftOk (event_at total c cs) (length cs)
at_less total c cs =
    let r = character c.0 cs in
    let d = with_character no_text c.1 r.0 in
    let e = text_behind c.1 r in
    either_ok (c.0 == 60 && tag_follows cs) (markup total c.1 cs) (text_event c.1 e) (length cs) (markup_less total c.1 cs)
    (text_or_less c.1 e.0.text e.0.fault e.1 (length cs) (omega (arith, character_less c.0 cs, text_less (suc (length r.1)) until.Tag d r.1)))

left_ok : (x : Result (Event × List Cell) HtmlFault) (e : Event) (rest : List Cell) (m : ℕ) → LeftOk x m → x ≡ Ok (e, rest) → length rest ≤ m
left_ok (Ok r) e rest m h i =
    let same : r ≡ (e, rest) = cc in
    let lengths : length r.1 ≡ length rest = ap (λ (q : Event × List Cell). length q.1) same in
    omega arith
left_ok (Err g) e rest m h i = absurd (cc)

-- an event leaves less
pub lexed_less : (total : ℕ) (c : Cell) (cs : List Cell) (e : Event) (rest : List Cell) → event_at total c cs ≡ Ok (e, rest) → length rest < length (c ∷ cs)
lexed_less total c cs e rest h = omega (arith, left_ok (event_at total c cs) e rest (length cs) (at_less total c cs) h)
