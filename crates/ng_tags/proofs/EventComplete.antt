-- What spells an event is read as it.
use Rattle.std.proofs.Common.{◌≡◌, ℕ, true, false, ◌&&◌, List, [], ◌∷◌, ◌++◌, map, refl, ap, ◌∙◌, sym, subst, arith, append_assoc, append-nil}
use Rattle.std.proofs.lemmas.Bool.Decides.{nat_tests}
use Rattle.std.specs.Prelude.{None, Some, Result, Ok, Err, if◌then◌else◌, ◌==◌, codes, is_some}
use Rattle.ng_base.specs.Cells.{Cell}
use Rattle.ng_base.proofs.Binds.{if_true, if_false}
use Rattle.ng_markup.specs.Tables.{is_left_out}
use Rattle.ng_tags.specs.Free.{fault}
use Rattle.std.specs.Char.{is_ascii_alphabetic}
use Rattle.ng_tags.specs.Letters.{begins_tag, lower}
use Rattle.ng_tags.specs.Skips.{past_word, name_run}
use Rattle.ng_tags.specs.References.{character}
use Rattle.ng_tags.specs.Texts.{ends, no_text, tag_follows, text_run}
use Rattle.ng_tags.specs.Tags.{started, start_tag, end_tag}
use Rattle.ng_tags.specs.Lexing.{as_space, ends_comment, comment_run, comment_with, comment_from, comment, markup, text_event, text_behind, event_at}
use Rattle.ng_tags.specs.Spelling.{chars_of, Reads, no_more, itself, by_reference, ampersand, IsName, IsStartTag, IsEndTag, GoesOn, IsComment, IsTextOf, IsRaw, IsStart, Lexeme}
use Rattle.ng_tags.specs.declared.event.Event.{Event}
use Rattle.ng_tags.specs.declared.event.Event.TheVariants as event
use Rattle.ng_tags.specs.declared.event.Tag.{Tag}
use Rattle.ng_tags.specs.declared.fault.HtmlFault.{HtmlFault}
use Rattle.ng_tags.specs.declared.fault.HtmlKind.TheVariants as kind
use Rattle.ng_tags.specs.declared.until.Until.TheVariants as until
use Rattle.ng_tags.proofs.Runs.{code_is, both}
use Rattle.ng_tags.proofs.TextTurns.{text_on}
use Rattle.ng_tags.proofs.TextComplete.{amp_goes_on, reads_run}
use Rattle.ng_tags.proofs.TagComplete.{tag_on, start_on, raw_on, end_cells, end_tag_on}

-- the first cell of an event, and those after it
pub record LexRead (total : ℕ) (e : Event) (us rest : List Cell) : Type 0 where
  pub first : Cell
  pub more : List Cell
  pub whole : us ++ rest ≡ first ∷ more
  pub read : event_at total first more ≡ Ok (e, rest)

pub begins_letter : (c : ℕ) → is_ascii_alphabetic c ≡ true → begins_tag c ≡ true
begins_letter c h = grind (arith, nat_tests)

pub begins_slash : (c : ℕ) → c ≡ 47 → begins_tag c ≡ true
begins_slash c h = subst (λ (n : ℕ). begins_tag n ≡ true) (sym h) refl

pub begins_mark : (c : ℕ) → c ≡ 33 → begins_tag c ≡ true
begins_mark c h = subst (λ (n : ℕ). begins_tag n ≡ true) (sym h) refl

slash_no_letter : (c : ℕ) → c ≡ 47 → is_ascii_alphabetic c ≡ false
slash_no_letter c h = subst (λ (n : ℕ). is_ascii_alphabetic n ≡ false) (sym h) refl

mark_no_letter : (c : ℕ) → c ≡ 33 → is_ascii_alphabetic c ≡ false
mark_no_letter c h = subst (λ (n : ℕ). is_ascii_alphabetic n ≡ false) (sym h) refl

mark_no_slash : (c : ℕ) → c ≡ 33 → (c == 47) ≡ false
mark_no_slash c h = subst (λ (n : ℕ). (n == 47) ≡ false) (sym h) refl

pub markup_on : (total : ℕ) (a b : Cell) (cs : List Cell) → a.0 ≡ 60 → begins_tag b.0 ≡ true → event_at total a (b ∷ cs) ≡ markup total a.1 (b ∷ cs)
markup_on total a b cs h i =
    if_true (a.0 == 60 && begins_tag b.0) (markup total a.1 (b ∷ cs)) (text_event a.1 (text_behind a.1 (character a.0 (b ∷ cs)))) (both (a.0 == 60) (begins_tag b.0) (code_is a.0 60 h) i)

abbrev pub other : ℕ → ℕ → Cell → List Cell → Result (Event × List Cell) HtmlFault
other total p c cs = if c.0 == 33 then comment total p (past_word (codes "--") cs) else Err (fault kind.BadTag p)

pub letter_on : (total p : ℕ) (c : Cell) (cs : List Cell) → is_ascii_alphabetic c.0 ≡ true → markup total p (c ∷ cs) ≡ start_tag total p (name_run (lower c.0 ∷ []) cs)
letter_on total p c cs h = if_true (is_ascii_alphabetic c.0) (start_tag total p (name_run (lower c.0 ∷ []) cs)) (if c.0 == 47 then end_tag total p cs else other total p c cs) h

pub slash_on : (total p : ℕ) (c : Cell) (cs : List Cell) → c.0 ≡ 47 → markup total p (c ∷ cs) ≡ end_tag total p cs
slash_on total p c cs h =
    if_false (is_ascii_alphabetic c.0) (start_tag total p (name_run (lower c.0 ∷ []) cs)) (if c.0 == 47 then end_tag total p cs else other total p c cs) (slash_no_letter c.0 h)
    ∙ if_true (c.0 == 47) (end_tag total p cs) (other total p c cs) (code_is c.0 47 h)

pub mark_on : (total p : ℕ) (c : Cell) (cs : List Cell) → c.0 ≡ 33 → markup total p (c ∷ cs) ≡ comment total p (past_word (codes "--") cs)
mark_on total p c cs h =
    if_false (is_ascii_alphabetic c.0) (start_tag total p (name_run (lower c.0 ∷ []) cs)) (if c.0 == 47 then end_tag total p cs else other total p c cs) (mark_no_letter c.0 h)
    ∙ (if_false (c.0 == 47) (end_tag total p cs) (other total p c cs) (mark_no_slash c.0 h)
    ∙ if_true (c.0 == 33) (comment total p (past_word (codes "--") cs)) (Err (fault kind.BadTag p)) (code_is c.0 33 h))

-- a name has a first letter
record Named (cs : List Cell) : Type 0 where
  c : Cell
  w : List Cell
  whole : cs ≡ c ∷ w
  is_one : is_ascii_alphabetic c.0 ≡ true

name_of : (cs : List Cell) → IsName (chars_of cs) → Named cs
name_of [] h = absurd h
name_of (c ∷ w) h = record { c = c; w = w; whole = refl; is_one = h.0 }

-- a start tag, up to what follows from it
pub tagged : (total : ℕ) (t : Tag) (us rest : List Cell) (e : Event) (left : List Cell) → IsStartTag t us rest → started total t rest ≡ (e, left) → (first : Cell) × (more : List Cell) × (us ++ rest ≡ first ∷ more) × (event_at total first more ≡ Ok (e, left))
tagged total t us rest e left s h =
    let n = name_of s.name s.characters in
    let a = s.first in
    let cs = n.w ++ (s.inside ++ rest) in
    let whole : us ++ rest ≡ a ∷ n.c ∷ cs =
    ap (λ xs. xs ++ rest) s.whole ∙ (ap (λ xs. a ∷ xs) (append_assoc s.name s.inside rest) ∙ ap (λ xs. a ∷ (xs ++ (s.inside ++ rest))) n.whole) in (
      a,
      n.c ∷ cs,
      whole,
      markup_on total a n.c cs s.sign (begins_letter n.c.0 n.is_one)
          ∙ (letter_on total a.1 n.c cs n.is_one
          ∙ (tag_on total t us rest s n.c n.w n.whole
          ∙ ap (λ (r : Event × List Cell). let q : Result (Event × List Cell) HtmlFault = Ok r in q) h)),
    )

start_read : (total : ℕ) (t : Tag) (us rest : List Cell) → IsStart t us rest → LexRead total (event.Start t) us rest
start_read total t us rest s =
    let r = tagged total t s.tag (s.dropped ++ rest) (event.Start t) rest s.is_tag (start_on total t us rest s) in
    record { first = r.0; more = r.1; whole = ap (λ xs. xs ++ rest) s.whole ∙ (append_assoc s.tag s.dropped rest ∙ r.2); read = r.3 }

raw_read : (total : ℕ) (t : Tag) (text : List ℕ) (p : ℕ) (us rest : List Cell) → IsRaw t text p us rest → LexRead total (event.Raw t text p) us rest
raw_read total t text p us rest s =
    let more = s.inner ++ (s.closing ++ rest) in
    let r = tagged total t s.tag (s.dropped ++ more) (event.Raw t text p) rest s.is_tag (raw_on total t text p us rest s) in
    let ends : (s.dropped ++ (s.inner ++ s.closing)) ++ rest ≡ s.dropped ++ more = append_assoc s.dropped (s.inner ++ s.closing) rest ∙ ap (λ xs. s.dropped ++ xs) (append_assoc s.inner s.closing rest) in
    record { first = r.0; more = r.1; whole = ap (λ xs. xs ++ rest) s.whole ∙ (append_assoc s.tag (s.dropped ++ (s.inner ++ s.closing)) rest ∙ (ap (λ xs. s.tag ++ xs) ends ∙ r.2)); read = r.3 }

end_read : (total : ℕ) (n : List ℕ) (p : ℕ) (us rest : List Cell) → IsEndTag n p us × (is_left_out n ≡ false) → LexRead total (event.End n p) us rest
end_read total n p us rest l =
    let e = l.0 in
    let m = name_of e.name e.characters in
    let more = e.spaces ++ e.last ∷ rest in
    let cs = m.c ∷ (m.w ++ more) in
    record {
      first = e.first;
      more = e.second ∷ cs;
      whole = end_cells n p us rest e ∙ ap (λ xs. e.first ∷ e.second ∷ (xs ++ more)) m.whole;
      read = markup_on total e.first e.second cs e.sign (begins_slash e.second.0 e.slash)
          ∙ (slash_on total e.first.1 e.second cs e.slash ∙ end_tag_on total n p us rest e l.1 m.c m.w m.whole);
    }

-- a word of signs at the front
pub word_on : (w : List ℕ) (us cs : List Cell) → chars_of us ≡ w → map lower w ≡ w → past_word w (us ++ cs) ≡ Some cs
word_on [] [] cs h k = refl
word_on [] (c ∷ us) cs h k = absurd (cc (h))
word_on (x ∷ w) [] cs h k = absurd (cc (h))
word_on (x ∷ w) (c ∷ us) cs h k =
    let first : c.0 ≡ x = cc (h) in
    let more : chars_of us ≡ w = cc (h) in
    let low : lower x ≡ x = cc (k) in
    let lows : map lower w ≡ w = cc (k) in
    if_true (lower c.0 == x) (past_word w (us ++ cs)) None (code_is (lower c.0) x (ap lower first ∙ low)) ∙ word_on w us cs more lows

comment_run_on : (s : List ℕ) (w rest : List Cell) → GoesOn w rest → ends_comment rest ≡ true → comment_run s (w ++ rest) ≡ (s ++ map as_space (chars_of w), rest)
comment_run_on s [] [] g e = absurd (cc (e))
comment_run_on s [] (c ∷ cs) g e = if_true (ends_comment (c ∷ cs)) (s, c ∷ cs) (comment_run (s ++ as_space c.0 ∷ []) cs) e ∙ ap (λ (m : List ℕ). let q : List ℕ × List Cell = (m, c ∷ cs) in q) (sym (append-nil s))
comment_run_on s (c ∷ w) rest g e =
    if_false (ends_comment ((c ∷ w) ++ rest)) (s, c ∷ (w ++ rest)) (comment_run (s ++ as_space c.0 ∷ []) (w ++ rest)) g.0
    ∙ (comment_run_on (s ++ as_space c.0 ∷ []) w rest g.1 e
    ∙ ap (λ (m : List ℕ). let q : List ℕ × List Cell = (m, rest) in q) (append_assoc s (as_space c.0 ∷ []) (map as_space (chars_of w))))

-- the first of the characters of a comment's opening
record Opening (cs : List Cell) : Type 0 where
  b : Cell
  ds : List Cell
  whole : cs ≡ b ∷ ds
  mark : b.0 ≡ 33
  dashes : chars_of ds ≡ codes "--"

opening_of : (cs : List Cell) → chars_of cs ≡ codes "!--" → Opening cs
opening_of [] h = absurd (cc (h))
opening_of (b ∷ ds) h = let m : b.0 ≡ 33 = cc (h) in let d : chars_of ds ≡ codes "--" = cc (h) in record { b = b; ds = ds; whole = refl; mark = m; dashes = d }

comment_read : (total : ℕ) (t : List ℕ) (p : ℕ) (us rest : List Cell) → IsComment t p us rest → LexRead total (event.Comment t p) us rest
comment_read total t p us rest s =
    let o = opening_of s.opening s.opens in
    let a = s.first in
    let zs = s.closing ++ rest in
    let cs = o.ds ++ (s.inner ++ zs) in
    let close : past_word (codes "-->") zs ≡ Some rest = word_on (codes "-->") s.closing rest s.closes refl in
    let whole : us ++ rest ≡ a ∷ o.b ∷ cs =
    ap (λ xs. xs ++ rest) s.whole
    ∙ (ap (λ xs. a ∷ xs) (append_assoc s.opening (s.inner ++ s.closing) rest)
    ∙ (ap (λ xs. a ∷ (s.opening ++ xs)) (append_assoc s.inner s.closing rest)
    ∙ ap (λ xs. a ∷ (xs ++ (s.inner ++ zs))) o.whole)) in
    record {
      first = a;
      more = o.b ∷ cs;
      whole = whole;
      read = markup_on total a o.b cs s.sign (begins_mark o.b.0 o.mark)
          ∙ (mark_on total a.1 o.b cs o.mark
          ∙ (ap (comment total a.1) (word_on (codes "--") o.ds (s.inner ++ zs) o.dashes refl)
          ∙ (ap (comment_from total a.1) (comment_run_on [] s.inner zs s.goes_on (ap is_some close))
          ∙ (ap (comment_with total a.1 (map as_space (chars_of s.inner))) close
          ∙ (ap (λ (m : List ℕ). let q : Result (Event × List Cell) HtmlFault = Ok (event.Comment m a.1, rest) in q) (sym s.reads)
          ∙ ap (λ (m : ℕ). let q : Result (Event × List Cell) HtmlFault = Ok (event.Comment t m, rest) in q) s.place)))));
    }

-- no tag begins with the first character of a text
pub text_begins : (rest : List Cell) (a : Cell) (w : List Cell) (t : List ℕ) (us : List Cell) → us ≡ a ∷ w → Reads until.Tag rest us t → ends until.Tag a.0 (w ++ rest) ≡ false
text_begins rest a w t us h no_more = absurd (cc (h))
text_begins rest a w t us h (itself c vs v n k r) =
    let first : c ≡ a = cc (h) in
    let more : vs ≡ w = cc (h) in
    ap (λ (x : Cell). ends until.Tag x.0 (w ++ rest)) (sym first) ∙ (ap (λ (xs : List Cell). ends until.Tag c.0 (xs ++ rest)) (sym more) ∙ n)
text_begins rest a w t us h (by_reference c ws vs v x k n r) =
    let first : c ≡ a = cc (h) in
    amp_goes_on until.Tag a.0 (w ++ rest) (ap (λ (x : Cell). x.0) (sym first) ∙ k)
text_begins rest a w t us h (ampersand c vs v k n r) =
    let first : c ≡ a = cc (h) in
    amp_goes_on until.Tag a.0 (w ++ rest) (ap (λ (x : Cell). x.0) (sym first) ∙ k)

text_read : (total : ℕ) (t : List ℕ) (p : ℕ) (us rest : List Cell) → IsTextOf t p us rest → LexRead total (event.Text t p) us rest
text_read total t p us rest s =
    let a = s.first in
    let cs = s.more ++ rest in
    let n = text_begins rest a s.more t us s.whole s.reads in
    let whole : us ++ rest ≡ a ∷ cs = ap (λ xs. xs ++ rest) s.whole in
    let d = text_behind a.1 (character a.0 cs) in
    record {
      first = a;
      more = cs;
      whole = whole;
      read = if_false (a.0 == 60 && tag_follows cs) (markup total a.1 cs) (text_event a.1 d) n
          ∙ (ap (text_event a.1) (sym (text_on until.Tag no_text a cs n) ∙ (ap (text_run until.Tag) (sym whole) ∙ reads_run until.Tag us rest t s.reads s.ended))
          ∙ ap (λ (m : ℕ). let q : Result (Event × List Cell) HtmlFault = Ok (event.Text t m, rest) in q) s.place);
    }

lexeme_read : (total : ℕ) (e : Event) (us rest : List Cell) → Lexeme e us rest → LexRead total e us rest
lexeme_read total (event.Start t) us rest l = start_read total t us rest l
lexeme_read total (event.Raw t text p) us rest l = raw_read total t text p us rest l
lexeme_read total (event.End n p) us rest l = end_read total n p us rest l
lexeme_read total (event.Text t p) us rest l = text_read total t p us rest l
lexeme_read total (event.Comment t p) us rest l = comment_read total t p us rest l

-- what spells an event is read as it
pub lexed_complete : (total : ℕ) (e : Event) (us rest : List Cell) (c : Cell) (vs : List Cell) → Lexeme e us rest → us ≡ c ∷ vs → event_at total c (vs ++ rest) ≡ Ok (e, rest)
lexed_complete total e us rest c vs l h =
    let r = lexeme_read total e us rest l in
    let same : c ∷ (vs ++ rest) ≡ r.first ∷ r.more = ap (λ xs. xs ++ rest) (sym h) ∙ r.whole in
    let first : c ≡ r.first = cc (same) in
    let more : vs ++ rest ≡ r.more = cc (same) in
    ap (λ (x : Cell). event_at total x (vs ++ rest)) first ∙ (ap (event_at total r.first) more ∙ r.read)

-- an event has cells of its own
pub lexeme_some : (e : Event) (us rest : List Cell) → Lexeme e us rest → us ≡ [] → ⊥
lexeme_some (event.Start t) us rest l h = let e : [] ≡ l.is_tag.first ∷ ((l.is_tag.name ++ l.is_tag.inside) ++ l.dropped) = sym h ∙ (l.whole ∙ ap (λ xs. xs ++ l.dropped) l.is_tag.whole) in cc (e)
lexeme_some (event.Raw t text p) us rest l h =
    let more = l.dropped ++ (l.inner ++ l.closing) in
    let e : [] ≡ l.is_tag.first ∷ ((l.is_tag.name ++ l.is_tag.inside) ++ more) = sym h ∙ (l.whole ∙ ap (λ xs. xs ++ more) l.is_tag.whole) in cc (e)
lexeme_some (event.End n p) us rest l h = let e : [] ≡ l.0.first ∷ l.0.second ∷ (l.0.name ++ (l.0.spaces ++ l.0.last ∷ [])) = sym h ∙ l.0.whole in cc (e)
lexeme_some (event.Text t p) us rest l h = let e : [] ≡ l.first ∷ l.more = sym h ∙ l.whole in cc (e)
lexeme_some (event.Comment t p) us rest l h = let e : [] ≡ l.first ∷ (l.opening ++ (l.inner ++ l.closing)) = sym h ∙ l.whole in cc (e)
