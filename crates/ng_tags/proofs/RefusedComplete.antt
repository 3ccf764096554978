-- What has a reason to be refused is refused for it.
use Rattle.std.proofs.Common.{◌≡◌, ℕ, true, false, ◌&&◌, List, [], ◌∷◌, ◌++◌, map, refl, ap, ◌∙◌, sym, subst, append_assoc, append-nil}
use Rattle.std.specs.Prelude.{Option, None, Some, Result, Ok, Err, if◌then◌else◌, ◌==◌, codes}
use Rattle.ng_base.specs.Cells.{Cell}
use Rattle.ng_base.proofs.Binds.{if_true, if_false}
use Rattle.ng_markup.specs.Tables.{is_left_out}
use Rattle.ng_tags.specs.Free.{fault}
use Rattle.std.specs.Char.{is_ascii_alphabetic}
use Rattle.ng_tags.specs.Letters.{is_space, begins_tag, lower}
use Rattle.ng_tags.specs.Skips.{past_spaces, past_word, name_run}
use Rattle.ng_tags.specs.References.{character}
use Rattle.ng_tags.specs.Texts.{no_text, tag_follows}
use Rattle.ng_tags.specs.Attributes.{attributes}
use Rattle.ng_tags.specs.Tags.{may_follow_name, start_with, start_tag, end_tag_end, end_tag_named, end_tag}
use Rattle.ng_tags.specs.Lexing.{as_space, ends_comment, comment_run, comment_from, comment, markup, text_or, text_event, text_behind, event_at}
use Rattle.ng_tags.specs.Spelling.{chars_of, BeginsNot, AreSpaces, GoesOn}
use Rattle.ng_tags.specs.Refusals.{IsWholeName, is_follower, is_sign_or_space, BeginsNoWord, NoTag, left_out, no_follower, no_name, left_out_end, no_end, no_comment, question_mark, CutOff, end_tag_cut, comment_cut, Refused, bad_tag, unclosed, bad_reference}
use Rattle.ng_tags.specs.declared.event.Event.{Event}
use Rattle.ng_tags.specs.declared.event.Event.TheVariants as event
use Rattle.ng_tags.specs.declared.fault.HtmlFault.{HtmlFault}
use Rattle.ng_tags.specs.declared.fault.HtmlKind.TheVariants as kind
use Rattle.ng_tags.specs.declared.texts.Decoded.{Decoded}
use Rattle.ng_tags.specs.declared.until.Until.TheVariants as until
use Rattle.ng_tags.proofs.Runs.{neither, name_run_on, spaces_on}
use Rattle.ng_tags.proofs.TextTurns.{text_on}
use Rattle.ng_tags.proofs.EventSound.{word_is, signs_are}
use Rattle.ng_tags.proofs.EventComplete.{markup_on, letter_on, slash_on, mark_on, begins_letter, begins_slash, begins_mark, word_on}
use Rattle.ng_tags.proofs.TextRefused.{bad_text}

abbrev Answer : Type 0
Answer = Result (Event × List Cell) HtmlFault

-- a name at the front, and what is left
named_on : (n : List ℕ) (c : Cell) (w rest : List Cell) → IsWholeName n (c ∷ w) rest → name_run (lower c.0 ∷ []) (w ++ rest) ≡ (n, rest)
named_on n c w rest i = name_run_on (lower c.0 ∷ []) w rest i.characters.1 i.name_ends ∙ ap (λ (m : List ℕ). let q : List ℕ × List Cell = (m, rest) in q) (sym i.in_lower)

start_out : (total p : ℕ) (n : List ℕ) (ds : List Cell) → is_left_out n ≡ true → start_tag total p (n, ds) ≡ Err (fault kind.BadTag p)
start_out total p n ds h = if_true (is_left_out n) (Err (fault kind.BadTag p)) (if may_follow_name ds then Ok (start_with total p n (attributes total ds)) else Err (fault kind.BadTag p)) h

start_stops : (total p : ℕ) (n : List ℕ) (c : Cell) (cs : List Cell) → is_left_out n ≡ false → is_follower c.0 ≡ false → start_tag total p (n, c ∷ cs) ≡ Err (fault kind.BadTag p)
start_stops total p n c cs h i =
    let bad : Answer = Err (fault kind.BadTag p) in
    let good : Answer = Ok (start_with total p n (attributes total (c ∷ cs))) in
    if_false (is_left_out n) bad (if may_follow_name (c ∷ cs) then good else bad) h ∙ if_false (may_follow_name (c ∷ cs)) good bad i

-- a start tag that is none
start_on : (total : ℕ) (a : Cell) (n : List ℕ) (us ds : List Cell) → a.0 ≡ 60 → IsWholeName n us ds → start_tag total a.1 (n, ds) ≡ Err (fault kind.BadTag a.1) → event_at total a (us ++ ds) ≡ Err (fault kind.BadTag a.1)
start_on total a n [] ds h i e = absurd i.characters
start_on total a n (c ∷ w) ds h i e =
    markup_on total a c (w ++ ds) h (begins_letter c.0 i.characters.0)
    ∙ (letter_on total a.1 c (w ++ ds) i.characters.0 ∙ (ap (start_tag total a.1) (named_on n c w ds i) ∙ e))

-- an end tag that is none, or is cut off
end_on : (total : ℕ) (a s : Cell) (n : List ℕ) (us ds : List Cell) (f : HtmlFault) → a.0 ≡ 60 → s.0 ≡ 47 → IsWholeName n us ds → end_tag_named total a.1 (n, ds) ≡ Err f → event_at total a (s ∷ (us ++ ds)) ≡ Err f
end_on total a s n [] ds f h k i e = absurd i.characters
end_on total a s n (c ∷ w) ds f h k i e =
    markup_on total a s (c ∷ (w ++ ds)) h (begins_slash s.0 k)
    ∙ (slash_on total a.1 s (c ∷ (w ++ ds)) k
    ∙ (if_true (is_ascii_alphabetic c.0) (end_tag_named total a.1 (name_run (lower c.0 ∷ []) (w ++ ds))) (Err (fault kind.BadTag a.1)) i.characters.0
    ∙ (ap (end_tag_named total a.1) (named_on n c w ds i) ∙ e)))

end_out : (total p : ℕ) (n : List ℕ) (ds : List Cell) → is_left_out n ≡ true → end_tag_named total p (n, ds) ≡ Err (fault kind.BadTag p)
end_out total p n ds h = if_true (is_left_out n) (Err (fault kind.BadTag p)) (end_tag_end total p n (past_spaces ds)) h

end_stops : (total p : ℕ) (n : List ℕ) (sp : List Cell) (c : Cell) (cs : List Cell) → is_left_out n ≡ false → AreSpaces sp → is_sign_or_space c.0 ≡ false → end_tag_named total p (n, sp ++ c ∷ cs) ≡ Err (fault kind.BadTag p)
end_stops total p n sp c cs h i k =
    let b = neither (is_space c.0) (c.0 == 62) k in
    if_false (is_left_out n) (Err (fault kind.BadTag p)) (end_tag_end total p n (past_spaces (sp ++ c ∷ cs))) h
    ∙ (ap (end_tag_end total p n) (spaces_on sp (c ∷ cs) i b.0)
    ∙ if_false (c.0 == 62) (Ok (event.End n p, cs)) (Err (fault kind.BadTag p)) b.1)

end_cut : (total p : ℕ) (n : List ℕ) (sp : List Cell) → is_left_out n ≡ false → AreSpaces sp → end_tag_named total p (n, sp) ≡ Err (fault kind.Unclosed total)
end_cut total p n sp h i =
    if_false (is_left_out n) (Err (fault kind.BadTag p)) (end_tag_end total p n (past_spaces sp)) h
    ∙ ap (end_tag_end total p n) (ap past_spaces (sym (append-nil sp)) ∙ spaces_on sp [] i tt)

nameless : (total p : ℕ) (cs : List Cell) → BeginsNot is_ascii_alphabetic cs → end_tag total p cs ≡ Err (fault kind.BadTag p)
nameless total p [] h = refl
nameless total p (c ∷ cs) h = if_false (is_ascii_alphabetic c.0) (end_tag_named total p (name_run (lower c.0 ∷ []) cs)) (Err (fault kind.BadTag p)) h

word_known : (w : List ℕ) (cs : List Cell) (o : Option (List Cell)) → ((us : List Cell) → map lower (chars_of us) ≡ w → chars_of us ≡ w) → past_word w cs ≡ o → BeginsNoWord w cs → o ≡ None
word_known w cs None s e n = refl
word_known w cs (Some more) s e n = let x = word_is w cs more e in absurd (n x.us more x.whole (s x.us x.reads))

no_dashes : (cs : List Cell) → BeginsNoWord (codes "--") cs → past_word (codes "--") cs ≡ None
no_dashes cs n = word_known (codes "--") cs (past_word (codes "--") cs) (λ us e. signs_are (chars_of us) (codes "--") e refl) refl n

comment_over : (t : List ℕ) (w : List Cell) → GoesOn w [] → comment_run t w ≡ (t ++ map as_space (chars_of w), [])
comment_over t [] g = ap (λ (m : List ℕ). let q : List ℕ × List Cell = (m, []) in q) (sym (append-nil t))
comment_over t (c ∷ w) g =
    if_false (ends_comment (c ∷ w)) (t, c ∷ w) (comment_run (t ++ as_space c.0 ∷ []) w) (ap ends_comment (sym (append-nil (c ∷ w))) ∙ g.0)
    ∙ (comment_over (t ++ as_space c.0 ∷ []) w g.1
    ∙ ap (λ (m : List ℕ). let q : List ℕ × List Cell = (m, []) in q) (append_assoc t (as_space c.0 ∷ []) (map as_space (chars_of w))))

begins_question : (c : ℕ) → c ≡ 63 → begins_tag c ≡ true
begins_question c h = subst (λ (n : ℕ). begins_tag n ≡ true) (sym h) refl

question_on : (total p : ℕ) (c : Cell) (cs : List Cell) → c.0 ≡ 63 → markup total p (c ∷ cs) ≡ Err (fault kind.BadTag p)
question_on total p c cs h =
    let bad : Answer = Err (fault kind.BadTag p) in
    let note = comment total p (past_word (codes "--") cs) in
    if_false (is_ascii_alphabetic c.0) (start_tag total p (name_run (lower c.0 ∷ []) cs)) (if c.0 == 47 then end_tag total p cs else if c.0 == 33 then note else bad) (subst (λ (n : ℕ). is_ascii_alphabetic n ≡ false) (sym h) refl)
    ∙ (if_false (c.0 == 47) (end_tag total p cs) (if c.0 == 33 then note else bad) (subst (λ (n : ℕ). (n == 47) ≡ false) (sym h) refl)
    ∙ if_false (c.0 == 33) note bad (subst (λ (n : ℕ). (n == 33) ≡ false) (sym h) refl))

no_tag_on : (total : ℕ) (a : Cell) (cs : List Cell) → a.0 ≡ 60 → NoTag cs → event_at total a cs ≡ Err (fault kind.BadTag a.1)
no_tag_on total a cs h (left_out n us ds i o) = start_on total a n us ds h i (start_out total a.1 n ds o)
no_tag_on total a cs h (no_follower n us c ds i o k) = start_on total a n us (c ∷ ds) h i (start_stops total a.1 n c ds o k)
no_tag_on total a cs h (no_name s ds k b) =
    markup_on total a s ds h (begins_slash s.0 k) ∙ (slash_on total a.1 s ds k ∙ nameless total a.1 ds b)
no_tag_on total a cs h (left_out_end s n us ds k i o) = end_on total a s n us ds (fault kind.BadTag a.1) h k i (end_out total a.1 n ds o)
no_tag_on total a cs h (no_end s n us sp c ds k i o r e) = end_on total a s n us (sp ++ c ∷ ds) (fault kind.BadTag a.1) h k i (end_stops total a.1 n sp c ds o r e)
no_tag_on total a cs h (no_comment s ds k b) =
    markup_on total a s ds h (begins_mark s.0 k) ∙ (mark_on total a.1 s ds k ∙ ap (comment total a.1) (no_dashes ds b))
no_tag_on total a cs h (question_mark s ds k) = markup_on total a s ds h (begins_question s.0 k) ∙ question_on total a.1 s ds k

cut_on : (total : ℕ) (a : Cell) (cs : List Cell) → a.0 ≡ 60 → CutOff cs → event_at total a cs ≡ Err (fault kind.Unclosed total)
cut_on total a cs h (end_tag_cut s n us sp k i o r) = end_on total a s n us sp (fault kind.Unclosed total) h k i (end_cut total a.1 n sp o r)
cut_on total a cs h (comment_cut s dashes inner k d g) =
    markup_on total a s (dashes ++ inner) h (begins_mark s.0 k)
    ∙ (mark_on total a.1 s (dashes ++ inner) k
    ∙ (ap (comment total a.1) (word_on (codes "--") dashes inner d refl)
    ∙ ap (comment_from total a.1) (comment_over [] inner g)))

abbrev or_text : ℕ → List ℕ → List Cell → Option HtmlFault → Answer
or_text p t rest f = text_or p t f rest

-- what has a reason to be refused is refused for it
pub refused_complete : (total : ℕ) (c : Cell) (cs : List Cell) (f : HtmlFault) → Refused total c cs f → event_at total c cs ≡ Err f
refused_complete total c cs f (bad_tag h n) = no_tag_on total c cs h n
refused_complete total c cs f (unclosed h n) = cut_on total c cs h n
refused_complete total c cs f (bad_reference p n b) =
    let d = text_behind c.1 (character c.0 cs) in
    let bad : d.0.fault ≡ Some (fault kind.BadReference p) = sym (ap (λ (r : Decoded × List Cell). r.0.fault) (text_on until.Tag no_text c cs n)) ∙ bad_text until.Tag p (c ∷ cs) b in
    if_false (c.0 == 60 && tag_follows cs) (markup total c.1 cs) (text_event c.1 d) n ∙ ap (or_text c.1 d.0.text d.1) bad
