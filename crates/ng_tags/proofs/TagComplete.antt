-- What spells a tag is read as it.
use Rattle.std.proofs.Common.{◌≡◌, ℕ, Bool, true, false, not, ◌||◌, List, [], ◌∷◌, ◌++◌, map, refl, ap, ◌∙◌, sym, subst, arith, append_assoc}
use Rattle.std.proofs.lemmas.Bool.Decides.{nat_tests}
use Rattle.std.proofs.lemmas.Slice.Eq.{bytes_eq-Decides}
use Rattle.std.specs.Prelude.{Option, None, Some, is_some, Result, Ok, Err, if◌then◌else◌, ◌==◌, option_and_then}
use Rattle.std.specs.List.{list_all}
use Rattle.std.specs.Str.{bytes_eq}
use Rattle.ng_base.specs.Cells.{Cell}
use Rattle.ng_base.proofs.Binds.{if_true, if_false}
use Rattle.ng_markup.specs.Tables.{is_left_out, is_raw, is_line_dropping}
use Rattle.ng_tags.specs.Free.{fault}
use Rattle.std.specs.Char.{is_ascii_alphabetic}
use Rattle.ng_tags.specs.Letters.{is_in_name, is_space, lower}
use Rattle.ng_tags.specs.Skips.{past, past_spaces, name_run, place_in}
use Rattle.ng_tags.specs.Texts.{decoded, past_name, past_end_tag}
use Rattle.ng_tags.specs.Attributes.{attributes, inside}
use Rattle.ng_tags.specs.Tags.{tag_of, past_line_feed, behind_tag, past_end, raw_with, raw_from, raw_event, opens_raw, started, may_follow_name, start_with, start_tag, end_tag_end, end_tag_named, end_tag}
use Rattle.ng_tags.specs.Spelling.{chars_of, Ended, IsName, BeginsNot, is_line_feed, AreSpaces, NameEnds, IsStartTag, Dropped, line_feed, nothing, IsEndTag, BeginsAt, IsRaw, IsStart}
use Rattle.ng_tags.specs.declared.attributes.Inside.{Inside}
use Rattle.ng_tags.specs.declared.event.Event.{Event}
use Rattle.ng_tags.specs.declared.event.Event.TheVariants as event
use Rattle.ng_tags.specs.declared.event.Tag.{Tag}
use Rattle.ng_tags.specs.declared.fault.HtmlFault.{HtmlFault}
use Rattle.ng_tags.specs.declared.fault.HtmlKind.TheVariants as kind
use Rattle.ng_tags.specs.declared.until.Until.TheVariants as until
use Rattle.ng_tags.proofs.Runs.{code_is, both, both_true, past_on, name_run_on, spaces_on}
use Rattle.ng_tags.proofs.TextComplete.{reads_run}
use Rattle.ng_tags.proofs.AttributeComplete.{attributes_on}
use Rattle.ng_tags.proofs.TagSound.{opens_whole}

pub letter_in_name : (c : ℕ) → is_ascii_alphabetic c ≡ true → is_in_name c ≡ true
letter_in_name c h = grind (arith, nat_tests)

pub name_all : (cs : List ℕ) → IsName cs → list_all is_in_name cs ≡ true
name_all [] h = absurd h
name_all (c ∷ cs) h = both (is_in_name c) (list_all is_in_name cs) (letter_in_name c h.0) h.1

follows_no_name : (c : ℕ) → (is_space c || c == 62 || c == 47) ≡ true → is_in_name c ≡ false
follows_no_name c h = grind (arith, nat_tests)

ends_no_name : (us rest : List Cell) → NameEnds us → BeginsNot is_in_name (us ++ rest)
ends_no_name [] rest h = absurd h
ends_no_name (c ∷ cs) rest h = follows_no_name c.0 h

may_follow : (us rest : List Cell) → NameEnds us → may_follow_name (us ++ rest) ≡ true
may_follow [] rest h = absurd h
may_follow (c ∷ cs) rest h = h

pub drops_on : (n : List ℕ) (ds rest : List Cell) → Dropped n rest ds → behind_tag n (ds ++ rest) ≡ rest
drops_on n ds rest (line_feed c h e) =
    if_true (is_line_dropping n) (past_line_feed (c ∷ rest)) (c ∷ rest) h ∙ if_true (c.0 == 10) rest (c ∷ rest) (code_is c.0 10 e)
drops_on n ds rest (nothing f) = by_test (is_line_dropping n) refl
  where
    kept : (cs : List Cell) → BeginsNot is_line_feed cs → past_line_feed cs ≡ cs
    kept [] i = refl
    kept (c ∷ cs) i = if_false (c.0 == 10) cs (c ∷ cs) i

    by_test : (b : Bool) → is_line_dropping n ≡ b → behind_tag n rest ≡ rest
    by_test true e = if_true (is_line_dropping n) (past_line_feed rest) rest e ∙ kept rest (f e)
    by_test false e = if_false (is_line_dropping n) (past_line_feed rest) rest e

same_tag : (t : Tag) (p : ℕ) → p ≡ t.place → t.fault ≡ None → tag_of t.name p (inside t.attrs t.closed None) ≡ t
same_tag t p h n =
    ap (λ (q : ℕ). tag_of t.name q (inside t.attrs t.closed None)) h
    ∙ ap (λ (f : Option HtmlFault). let r : Tag = record { name = t.name; attrs = t.attrs; place = t.place; closed = t.closed; fault = f } in r) (sym n)

-- a tag at the front, behind its first letter
pub tag_on : (total : ℕ) (t : Tag) (us rest : List Cell) (s : IsStartTag t us rest) (c : Cell) (w : List Cell) → s.name ≡ c ∷ w →
    start_tag total s.first.1 (name_run (lower c.0 ∷ []) (w ++ (s.inside ++ rest))) ≡ Ok (started total t rest)
tag_on total t us rest s c w e =
    let p = s.first.1 in
    let more = s.inside ++ rest in
    let name : IsName (c.0 ∷ chars_of w) = subst (λ (xs : List Cell). IsName (chars_of xs)) e s.characters in
    let in_lower : lower c.0 ∷ map lower (chars_of w) ≡ t.name = sym (s.in_lower ∙ ap (λ (xs : List Cell). map lower (chars_of xs)) e) in
    let run : name_run (lower c.0 ∷ []) (w ++ more) ≡ (t.name, more) =
    name_run_on (lower c.0 ∷ []) w more name.1 (ends_no_name s.inside rest s.name_ends) ∙ ap (λ (m : List ℕ). let q : List ℕ × List Cell = (m, more) in q) in_lower in
    let bad : Result (Event × List Cell) HtmlFault = Err (fault kind.BadTag p) in
    let good : Result (Event × List Cell) HtmlFault = Ok (start_with total p t.name (attributes total more)) in
    ap (start_tag total p) run
    ∙ (if_false (is_left_out t.name) bad (if may_follow_name more then good else bad) s.not_left_out
    ∙ (if_true (may_follow_name more) good bad (may_follow s.inside rest s.name_ends)
    ∙ (ap (λ (r : Inside × List Cell). let q : Result (Event × List Cell) HtmlFault = Ok (start_with total p t.name r) in q) (attributes_on total rest [] s.inside t.attrs t.closed s.attributes)
    ∙ ap (λ (u : Tag). let q : Result (Event × List Cell) HtmlFault = Ok (started total u rest) in q) (same_tag t p s.place s.no_fault))))

-- a tag without content of text alone
pub start_on : (total : ℕ) (t : Tag) (us rest : List Cell) (s : IsStart t us rest) → started total t (s.dropped ++ rest) ≡ (event.Start t, rest)
start_on total t us rest s =
    let cs = behind_tag t.name (s.dropped ++ rest) in
    if_false (opens_raw t) (raw_event total t cs) (event.Start t, cs) (opens_whole t s.is_tag.no_fault ∙ s.has_content)
    ∙ ap (λ (xs : List Cell). let q : Event × List Cell = (event.Start t, xs) in q) (drops_on t.name s.dropped rest s.drops)

-- an end tag
sign_no_name : (c : ℕ) → c ≡ 62 → is_in_name c ≡ false
sign_no_name c h = subst (λ (n : ℕ). is_in_name n ≡ false) (sym h) refl

space_no_name : (c : ℕ) → is_space c ≡ true → is_in_name c ≡ false
space_no_name c h = grind (arith, nat_tests)

spaces_no_name : (s : List Cell) (z : Cell) (rest : List Cell) → AreSpaces s → z.0 ≡ 62 → BeginsNot is_in_name (s ++ z ∷ rest)
spaces_no_name [] z rest h e = sign_no_name z.0 e
spaces_no_name (c ∷ s) z rest h e = space_no_name c.0 (both_true (is_space c.0) (list_all is_space (chars_of s)) h).0

sign_no_space : (c : ℕ) → c ≡ 62 → is_space c ≡ false
sign_no_space c h = subst (λ (n : ℕ). is_space n ≡ false) (sym h) refl

slash_no_letter : (c : ℕ) → c ≡ 47 → is_ascii_alphabetic c ≡ false
slash_no_letter c h = subst (λ (n : ℕ). is_ascii_alphabetic n ≡ false) (sym h) refl

-- its cells apart
pub end_cells : (n : List ℕ) (p : ℕ) (us rest : List Cell) (e : IsEndTag n p us) → us ++ rest ≡ e.first ∷ e.second ∷ (e.name ++ (e.spaces ++ e.last ∷ rest))
end_cells n p us rest e =
    ap (λ xs. xs ++ rest) e.whole
    ∙ (ap (λ xs. e.first ∷ e.second ∷ xs) (append_assoc e.name (e.spaces ++ e.last ∷ []) rest)
    ∙ ap (λ xs. e.first ∷ e.second ∷ (e.name ++ xs)) (append_assoc e.spaces (e.last ∷ []) rest))

-- the end tag that ends a text
pub past_end_on : (n : List ℕ) (p : ℕ) (us rest : List Cell) → IsEndTag n p us → past_end n (us ++ rest) ≡ Some rest
past_end_on n p us rest e =
    let more = e.spaces ++ e.last ∷ rest in
    let step : Option (List Cell) → Option (List Cell) = option_and_then (λ ds. past_name n (name_run [] ds)) in
    ap (past_end n) (end_cells n p us rest e)
    ∙ (ap step (past_on 47 e.second (e.name ++ more) e.slash)
    ∙ (ap (past_name n) (name_run_on [] e.name more (name_all (chars_of e.name) e.characters) (spaces_no_name e.spaces e.last rest e.are_spaces e.is_close))
    ∙ (if_true (bytes_eq n (map lower (chars_of e.name))) (past 62 (past_spaces more)) None ((bytes_eq-Decides n (map lower (chars_of e.name))).1 e.in_lower)
    ∙ (ap (past 62) (spaces_on e.spaces (e.last ∷ rest) e.are_spaces (sign_no_space e.last.0 e.is_close))
    ∙ past_on 62 e.last rest e.is_close))))

pub end_ended : (n : List ℕ) (p : ℕ) (us rest : List Cell) → IsEndTag n p us → Ended (until.EndTag n) (us ++ rest)
end_ended n p us rest e =
    let more = e.second ∷ (e.name ++ (e.spaces ++ e.last ∷ rest)) in
    let past : past_end_tag n more ≡ Some rest = sym (ap (past_end n) (end_cells n p us rest e)) ∙ past_end_on n p us rest e in
    subst (Ended (until.EndTag n)) (sym (end_cells n p us rest e)) (both (e.first.0 == 60) (is_some (past_end_tag n more)) (code_is e.first.0 60 e.sign) (ap is_some past))

place_on : (total p : ℕ) (us rest : List Cell) → BeginsAt p us → place_in total (us ++ rest) ≡ p
place_on total p [] rest h = absurd h
place_on total p (c ∷ cs) rest h = h

-- an element of text alone, behind its tag
pub raw_on : (total : ℕ) (t : Tag) (text : List ℕ) (p : ℕ) (us rest : List Cell) (r : IsRaw t text p us rest) → started total t (r.dropped ++ (r.inner ++ (r.closing ++ rest))) ≡ (event.Raw t text p, rest)
raw_on total t text p us rest r =
    let more = r.closing ++ rest in
    let cs = r.inner ++ more in
    let ds = behind_tag t.name (r.dropped ++ cs) in
    let opens : opens_raw t ≡ true = opens_whole t r.is_tag.no_fault ∙ both (is_raw t.name) (not t.closed) r.is_raw (ap not r.is_open) in
    if_true (opens_raw t) (raw_event total t ds) (event.Start t, ds) opens
    ∙ (ap (raw_event total t) (drops_on t.name r.dropped cs r.drops)
    ∙ (ap (raw_from total t (place_in total cs)) (reads_run (until.EndTag t.name) r.inner more text r.reads (end_ended t.name r.q r.closing rest r.is_end))
    ∙ (ap (raw_with total t (place_in total cs) (decoded text None) more) (past_end_on t.name r.q r.closing rest r.is_end)
    ∙ ap (λ (q : ℕ). let x : Event × List Cell = (event.Raw t text q, rest) in x) (ap (place_in total) (sym (append_assoc r.inner r.closing rest)) ∙ place_on total p (r.inner ++ r.closing) rest r.place))))

-- an end tag, behind its first letter
pub end_tag_on : (total : ℕ) (n : List ℕ) (p : ℕ) (us rest : List Cell) (e : IsEndTag n p us) → is_left_out n ≡ false → (c : Cell) (w : List Cell) → e.name ≡ c ∷ w →
    end_tag total e.first.1 (c ∷ (w ++ (e.spaces ++ e.last ∷ rest))) ≡ Ok (event.End n p, rest)
end_tag_on total n p us rest e lo c w f =
    let q = e.first.1 in
    let more = e.spaces ++ e.last ∷ rest in
    let name : IsName (c.0 ∷ chars_of w) = subst (λ (xs : List Cell). IsName (chars_of xs)) f e.characters in
    let in_lower : lower c.0 ∷ map lower (chars_of w) ≡ n = sym (e.in_lower ∙ ap (λ (xs : List Cell). map lower (chars_of xs)) f) in
    let run : name_run (lower c.0 ∷ []) (w ++ more) ≡ (n, more) =
    name_run_on (lower c.0 ∷ []) w more name.1 (spaces_no_name e.spaces e.last rest e.are_spaces e.is_close) ∙ ap (λ (m : List ℕ). let r : List ℕ × List Cell = (m, more) in r) in_lower in
    if_true (is_ascii_alphabetic c.0) (end_tag_named total q (name_run (lower c.0 ∷ []) (w ++ more))) (Err (fault kind.BadTag q)) name.0
    ∙ (ap (end_tag_named total q) run
    ∙ (if_false (is_left_out n) (Err (fault kind.BadTag q)) (end_tag_end total q n (past_spaces more)) lo
    ∙ (ap (end_tag_end total q n) (spaces_on e.spaces (e.last ∷ rest) e.are_spaces (sign_no_space e.last.0 e.is_close))
    ∙ (if_true (e.last.0 == 62) (Ok (event.End n q, rest)) (Err (fault kind.BadTag q)) (code_is e.last.0 62 e.is_close)
    ∙ ap (λ (m : ℕ). let r : Result (Event × List Cell) HtmlFault = Ok (event.End n m, rest) in r) e.place))))
