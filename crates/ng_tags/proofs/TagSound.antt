-- What is read as a tag is spelled so.
use Rattle.std.proofs.Common.{◌≡◌, ℕ, Bool, true, false, not, ◌&&◌, List, [], ◌∷◌, ◌++◌, map, refl, ap, ◌∙◌, sym, subst, arith, inl, inr, append_assoc}
use Rattle.std.proofs.lemmas.Bool.Decides.{nat_tests}
use Rattle.std.proofs.lemmas.Slice.Eq.{bytes_eq-Decides}
use Rattle.std.specs.Prelude.{Option, None, Some, is_none, Result, Ok, Err, if◌then◌else◌, ◌==◌, option_and_then}
use Rattle.std.specs.List.{list_all}
use Rattle.std.specs.Str.{bytes_eq}
use Rattle.ng_base.specs.Cells.{Cell}
use Rattle.ng_base.proofs.Binds.{chosen, guarded}
use Rattle.ng_markup.specs.Forest.{Attributes}
use Rattle.ng_markup.specs.Tables.{is_left_out, is_raw, is_line_dropping}
use Rattle.ng_tags.specs.Free.{fault, met_or}
use Rattle.std.specs.Char.{is_ascii_alphabetic}
use Rattle.ng_tags.specs.Letters.{is_in_name, lower}
use Rattle.ng_tags.specs.Skips.{past, past_spaces, name_run, place_in}
use Rattle.ng_tags.specs.Texts.{no_text, text_run, past_name}
use Rattle.ng_tags.specs.Attributes.{attributes}
use Rattle.ng_tags.specs.Tags.{tag_of, with_fault, past_line_feed, behind_tag, past_end, raw_or, raw_with, raw_event, opens_raw, may_follow_name, start_with, start_tag, end_tag_end, end_tag_named, end_tag}
use Rattle.ng_tags.specs.Spelling.{chars_of, Reads, Ended, IsName, BeginsNot, is_line_feed, AreSpaces, AreAttributes, ends_open, ends_closed, space_then, attribute_then, NameEnds, IsStartTag, Dropped, line_feed, nothing, IsEndTag, BeginsAt, Lexeme, IsWhole}
use Rattle.ng_tags.specs.declared.attributes.Inside.{Inside}
use Rattle.ng_tags.specs.declared.event.Event.{Event}
use Rattle.ng_tags.specs.declared.event.Event.TheVariants as event
use Rattle.ng_tags.specs.declared.event.Tag.{Tag}
use Rattle.ng_tags.specs.declared.fault.HtmlFault.{HtmlFault}
use Rattle.ng_tags.specs.declared.fault.HtmlKind.TheVariants as kind
use Rattle.ng_tags.specs.declared.texts.Decoded.{Decoded}
use Rattle.ng_tags.specs.declared.until.Until.TheVariants as until
use Rattle.ng_tags.proofs.Runs.{is_code, both_true, name_runs, spaces_are, past_is}
use Rattle.ng_tags.proofs.TextSound.{text_read}
use Rattle.ng_tags.proofs.AttributeSound.{Attributed, attributes_read}

-- the front of the cells spells the event
pub record Lexed (e : Event) (cs rest : List Cell) : Type 0 where
  pub us : List Cell
  pub whole : cs ≡ us ++ rest
  pub lexeme : Lexeme e us rest

-- attributes have at least the end of their tag
pub some_attributes : (rest : List Cell) (done : Attributes) (us : List Cell) (all : Attributes) (b : Bool) → AreAttributes rest done us all b → us ≡ [] → ⊥
some_attributes rest done us all b (ends_open d z h) e = cc (e)
some_attributes rest done us all b (ends_closed d y z h i) e = cc (e)
some_attributes rest done us all b (space_then d f g c vs h m) e = cc (e)
some_attributes rest done us all b (attribute_then d f g n v ws vs a m) e =
    let w : ws ++ vs ≡ a.first ∷ ((a.more ++ a.behind) ++ vs) = ap (λ xs. xs ++ vs) a.whole in
    cc (w, e)

pub name_ends_of : (us rest : List Cell) → (us ≡ [] → ⊥) → may_follow_name (us ++ rest) ≡ true → NameEnds us
name_ends_of [] rest f h = f refl
name_ends_of (c ∷ cs) rest f h = h

-- a line feed that is dropped, or none
pub record DroppedBy (n : List ℕ) (cs rest : List Cell) : Type 0 where
  pub ds : List Cell
  pub whole : cs ≡ ds ++ rest
  pub drops : Dropped n rest ds

feed_dropped : (n : List ℕ) (cs rest : List Cell) → is_line_dropping n ≡ true → past_line_feed cs ≡ rest → DroppedBy n cs rest
feed_dropped n [] rest h e = record { ds = []; whole = e; drops = nothing (λ i. subst (BeginsNot is_line_feed) e tt) }
feed_dropped n (c ∷ cs) rest h e =
    elim (chosen (c.0 == 10) cs (c ∷ cs) rest e) [
      | inl g ↦ record { ds = c ∷ []; whole = ap (λ xs. c ∷ xs) g.1; drops = line_feed c h (is_code c.0 10 g.0) }
      | inr g ↦ record { ds = []; whole = g.1; drops = nothing (λ i. subst (BeginsNot is_line_feed) g.1 g.0) }
    ]

pub dropped_by : (n : List ℕ) (cs rest : List Cell) → behind_tag n cs ≡ rest → DroppedBy n cs rest
dropped_by n cs rest e =
    elim (chosen (is_line_dropping n) (past_line_feed cs) cs rest e) [
      | inl g ↦ feed_dropped n cs rest g.0 g.1
      | inr g ↦ record { ds = []; whole = g.1; drops = nothing (λ i. let no : true ≡ false = sym i ∙ g.0 in absurd (cc (no))) }
    ]

-- the names of an end tag and of its start tag begin with letters alike
letter_alike : (x y : ℕ) → lower x ≡ lower y → is_ascii_alphabetic y ≡ true → is_ascii_alphabetic x ≡ true
letter_alike x y h i = grind (arith, nat_tests)

name_alike : (v w : List ℕ) → map lower v ≡ map lower w → list_all is_in_name v ≡ true → IsName w → IsName v
name_alike v [] h i n = absurd n
name_alike [] (y ∷ w) h i n = absurd (cc (h))
name_alike (x ∷ v) (y ∷ w) h i n =
    let first : lower x ≡ lower y = cc (h) in
    (letter_alike x y first n.0, (both_true (is_in_name x) (list_all is_in_name v) i).1)

-- the end tag of an element of text alone
record EndsAt (n : List ℕ) (cs rest : List Cell) : Type 0 where
  us : List Cell
  place : ℕ
  whole : cs ≡ us ++ rest
  is_end : IsEndTag n place us

named_end : (n w : List ℕ) (a b : Cell) (ds rest : List Cell) → n ≡ map lower w → IsName w → a.0 ≡ 60 → b.0 ≡ 47 → past_name n (name_run [] ds) ≡ Some rest → EndsAt n (a ∷ b ∷ ds) rest
named_end n w a b ds rest h i k l e =
    let r = name_run [] ds in
    elim (chosen (bytes_eq n r.0) (past 62 (past_spaces r.1)) None (Some rest) e) [
      | inr g ↦ absurd (cc (g.1))
      | inl g ↦
          let same : n ≡ r.0 = (bytes_eq-Decides n r.0).0 g.0 in
          let v = name_runs [] r.0 ds r.1 refl in
          let s = spaces_are r.1 (past_spaces r.1) refl in
          let z = past_is 62 (past_spaces r.1) rest g.1 in
          let left : ds ≡ v.w ++ (s.s ++ z.0 ∷ rest) = v.whole ∙ ap (λ xs. v.w ++ xs) (s.whole ∙ ap (λ xs. s.s ++ xs) z.1) in
          let in_lower : n ≡ map lower (chars_of v.w) = same ∙ v.read in
          record {
            us = a ∷ b ∷ (v.w ++ (s.s ++ z.0 ∷ []));
            place = a.1;
            whole = ap (λ xs. a ∷ b ∷ xs) (left ∙ (ap (λ xs. v.w ++ xs) (sym (append_assoc s.s (z.0 ∷ []) rest)) ∙ sym (append_assoc v.w (s.s ++ z.0 ∷ []) rest)));
            is_end = record {
              first = a;
              second = b;
              name = v.w;
              spaces = s.s;
              last = z.0;
              whole = refl;
              sign = k;
              place = refl;
              slash = l;
              characters = name_alike (chars_of v.w) w (sym in_lower ∙ h) v.all i;
              in_lower = in_lower;
              are_spaces = s.are;
              is_close = z.2;
            };
          }
    ]

then_named_end : (n w : List ℕ) (a : Cell) (cs rest : List Cell) (o : Option (List Cell)) → n ≡ map lower w → IsName w → a.0 ≡ 60 → past 47 cs ≡ o → option_and_then (λ ds. past_name n (name_run [] ds)) o ≡ Some rest → EndsAt n (a ∷ cs) rest
then_named_end n w a cs rest None h i k e f = absurd (cc (f))
then_named_end n w a cs rest (Some ds) h i k e f =
    let b = past_is 47 cs ds e in
    let r = named_end n w a b.0 ds rest h i k b.2 f in
    record { us = r.us; place = r.place; whole = ap (λ xs. a ∷ xs) b.1 ∙ r.whole; is_end = r.is_end }

end_read : (n w : List ℕ) (cs rest : List Cell) → n ≡ map lower w → IsName w → Ended (until.EndTag n) cs → past_end n cs ≡ Some rest → EndsAt n cs rest
end_read n w [] rest h i s e = absurd (cc (e))
end_read n w (a ∷ cs) rest h i s e = then_named_end n w a cs rest (past 47 cs) h i (is_code a.0 60 (both_true (a.0 == 60) _ s).0) refl e

abbrev event_in : Event × List Cell → Event
event_in r = r.0

abbrev left_in : Event × List Cell → List Cell
left_in r = r.1

abbrev taken : List Cell → Option (List Cell) → List Cell
taken cs None = cs
taken cs (Some ds) = ds

begins_of : (total : ℕ) (us rest : List Cell) → (us ≡ [] → ⊥) → BeginsAt (place_in total (us ++ rest)) us
begins_of total [] rest f = f refl
begins_of total (c ∷ cs) rest f = refl

some_end : (inner us : List Cell) (n : List ℕ) (p : ℕ) → IsEndTag n p us → inner ++ us ≡ [] → ⊥
some_end [] us n p e h = let f : [] ≡ e.first ∷ e.second ∷ (e.name ++ (e.spaces ++ e.last ∷ [])) = sym h ∙ e.whole in cc (f)
some_end (c ∷ inner) us n p e h = cc (h)

-- the content of an element of text alone
record RawRead (t : Tag) (e : Event) (p : ℕ) (cs rest : List Cell) : Type 0 where
  inner : List Cell
  closing : List Cell
  text : List ℕ
  place : ℕ
  event : e ≡ event.Raw t text p
  whole : cs ≡ inner ++ (closing ++ rest)
  begins : BeginsAt p (inner ++ closing)
  reads : Reads (until.EndTag t.name) (closing ++ rest) inner text
  is_end : IsEndTag t.name place closing

raw_known : (total : ℕ) (t : Tag) (w : List ℕ) (cs : List Cell) (e : Event) (rest : List Cell) (d : Decoded) (more : List Cell) (o : Option (List Cell)) → t.name ≡ map lower w → IsName w →
    text_run (until.EndTag t.name) cs ≡ (d, more) → past_end t.name more ≡ o → raw_with total t (place_in total cs) d more o ≡ (e, rest) → IsWhole e → RawRead t e (place_in total cs) cs rest
raw_known total t w cs e rest d more None h i r k g n =
    let no : Some (met_or d.fault (fault kind.Unclosed total)) ≡ None = subst IsWhole (sym (ap event_in g)) n in
    absurd (cc (no))
raw_known total t w cs e rest d more (Some left) h i r k g n = by_fault d.fault refl
  where
    by_fault : (f : Option HtmlFault) → d.fault ≡ f → RawRead t e (place_in total cs) cs rest
    by_fault (Some f) m =
        let was : e ≡ event.Start (with_fault t f) = sym (ap event_in g) ∙ ap (raw_or t (place_in total cs) d.text) m in
        let no : Some f ≡ None = subst IsWhole was n in
        absurd (cc (no))
    by_fault None m =
        let was : e ≡ event.Raw t d.text (place_in total cs) = sym (ap event_in g) ∙ ap (raw_or t (place_in total cs) d.text) m in
        let same : left ≡ rest = ap left_in g in
        let x = text_read (until.EndTag t.name) no_text d cs more r m in
        let end = end_read t.name w more rest h i x.ended (k ∙ ap Some same) in
        let split : cs ≡ (x.us ++ end.us) ++ rest = x.whole ∙ (ap (λ xs. x.us ++ xs) end.whole ∙ sym (append_assoc x.us end.us rest)) in
        record {
          inner = x.us;
          closing = end.us;
          text = d.text;
          place = end.place;
          event = was;
          whole = x.whole ∙ ap (λ xs. x.us ++ xs) end.whole;
          begins = subst (λ (xs : List Cell). BeginsAt (place_in total xs) (x.us ++ end.us)) (sym split) (begins_of total (x.us ++ end.us) rest (some_end x.us end.us t.name end.place end.is_end));
          reads = subst (λ (v : List ℕ). Reads (until.EndTag t.name) (end.us ++ rest) x.us v) (sym x.text) (subst (λ (xs : List Cell). Reads (until.EndTag t.name) xs x.us x.t) end.whole x.reads);
          is_end = end.is_end;
        }

raw_read : (total : ℕ) (t : Tag) (w : List ℕ) (cs : List Cell) (e : Event) (rest : List Cell) → t.name ≡ map lower w → IsName w → raw_event total t cs ≡ (e, rest) → IsWhole e → RawRead t e (place_in total cs) cs rest
raw_read total t w cs e rest h i g n =
    let r = text_run (until.EndTag t.name) cs in
    raw_known total t w cs e rest r.0 r.1 (past_end t.name r.1) h i refl refl g n

-- whether the content of an element of text alone follows a tag without a fault
pub opens_whole : (t : Tag) → t.fault ≡ None → opens_raw t ≡ (is_raw t.name && not t.closed)
opens_whole t h = ap (λ (f : Option HtmlFault). is_raw t.name && not t.closed && is_none f) h ∙ last (is_raw t.name) (not t.closed)
  where
    last : (a b : Bool) → (a && b && true) ≡ (a && b)
    last true true = refl
    last true false = refl
    last false true = refl
    last false false = refl

pub raw_parts : (t : Tag) → t.fault ≡ None → opens_raw t ≡ true → (is_raw t.name ≡ true) × (t.closed ≡ false)
raw_parts t n h =
    let b = both_true (is_raw t.name) (not t.closed) (sym (opens_whole t n) ∙ h) in
    (b.0, opened t.closed b.1)
  where
    opened : (b : Bool) → not b ≡ true → b ≡ false
    opened true h = absurd (cc)
    opened false h = refl

pub none_opened : (t : Tag) → opens_raw t ≡ true → t.fault ≡ None
none_opened t h = is_nothing t.fault (second (is_raw t.name) (not t.closed) (is_none t.fault) h)
  where
    is_nothing : (f : Option HtmlFault) → is_none f ≡ true → f ≡ None
    is_nothing None i = refl
    is_nothing (Some g) i = absurd (cc (i))

    second : (a b c : Bool) → (a && b && c) ≡ true → c ≡ true
    second true true c i = i
    second true false c i = absurd (cc (i))
    second false true c i = absurd (cc (i))
    second false false c i = absurd (cc (i))

-- a start tag at the front, behind its name
pub start_read : (total : ℕ) (a c : Cell) (cs : List Cell) (e : Event) (rest : List Cell) → a.0 ≡ 60 → is_ascii_alphabetic c.0 ≡ true → start_tag total a.1 (name_run (lower c.0 ∷ []) cs) ≡ Ok (e, rest) → IsWhole e → Lexed e (a ∷ c ∷ cs) rest
start_read total a c cs e rest h l s n =
    let r = name_run (lower c.0 ∷ []) cs in
    let i = attributes total r.1 in
    let t = tag_of r.0 a.1 i.0 in
    let w = name_runs (lower c.0 ∷ []) r.0 cs r.1 refl in
    let bad : Result (Event × List Cell) HtmlFault = Err (fault kind.BadTag a.1) in
    let good : Result (Event × List Cell) HtmlFault = Ok (start_with total a.1 r.0 i) in
    elim (chosen (is_left_out r.0) bad (if may_follow_name r.1 then good else bad) (Ok (e, rest)) s) [
      | inl g ↦ absurd (cc (g.1))
      | inr g ↦
          let m = guarded (may_follow_name r.1) good (fault kind.BadTag a.1) (e, rest) g.1 in
          let x : start_with total a.1 r.0 i ≡ (e, rest) = cc (m.1) in
          behind r.0 r.1 i t w.w w.whole w.all w.read g.0 m.0 refl refl x
    ]
  where
    -- a start tag, once it is known that it has no fault
    tag_is : (m : List ℕ) (ds : List Cell) (i : Inside × List Cell) (w : List Cell) → list_all is_in_name (chars_of w) ≡ true → m ≡ (lower c.0 ∷ []) ++ map lower (chars_of w) → is_left_out m ≡ false → may_follow_name ds ≡ true →
        (found : Attributed [] None i.0 ds i.1) → i.0.fault ≡ None → IsStartTag (tag_of m a.1 i.0) (a ∷ ((c ∷ w) ++ found.us)) i.1
    tag_is m ds i w al rd lo mf found nf = record {
      first = a;
      name = c ∷ w;
      inside = found.us;
      whole = refl;
      sign = h;
      place = refl;
      characters = (l, al);
      in_lower = rd;
      not_left_out = lo;
      name_ends = name_ends_of found.us i.1 (some_attributes i.1 [] found.us i.0.attrs i.0.closed found.are) (subst (λ (xs : List Cell). may_follow_name xs ≡ true) found.whole mf);
      attributes = found.are;
      no_fault = nf;
    }

    front : (w ds us more : List Cell) → cs ≡ w ++ ds → ds ≡ us ++ more → a ∷ c ∷ cs ≡ (a ∷ ((c ∷ w) ++ us)) ++ more
    front w ds us more p q = ap (λ xs. a ∷ c ∷ xs) (p ∙ (ap (λ xs. w ++ xs) q ∙ sym (append_assoc w us more)))

    behind : (m : List ℕ) (ds : List Cell) (i : Inside × List Cell) (t : Tag) (w : List Cell) → cs ≡ w ++ ds → list_all is_in_name (chars_of w) ≡ true → m ≡ (lower c.0 ∷ []) ++ map lower (chars_of w) → is_left_out m ≡ false → may_follow_name ds ≡ true →
        attributes total ds ≡ i → tag_of m a.1 i.0 ≡ t → start_with total a.1 m i ≡ (e, rest) → Lexed e (a ∷ c ∷ cs) rest
    behind m ds i t w wh al rd lo mf found ti x =
        let t0 = tag_of m a.1 i.0 in
        let cs1 = behind_tag m i.1 in
        elim (chosen (opens_raw t0) (raw_event total t0 cs1) (event.Start t0, cs1) (e, rest) x) [
          | inl g ↦
              let no : i.0.fault ≡ None = none_opened t0 g.0 in
              let parts = raw_parts t0 no g.0 in
              let inside = attributes_read total ds i.0 i.1 found no in
              let d = dropped_by m i.1 cs1 refl in
              let q = raw_read total t0 (chars_of (c ∷ w)) cs1 e rest rd (l, al) g.1 n in
              let tag = a ∷ ((c ∷ w) ++ inside.us) in
              let more = q.inner ++ (q.closing ++ rest) in
              let left : i.1 ≡ d.ds ++ more = d.whole ∙ ap (λ xs. d.ds ++ xs) q.whole in
              let z : Lexeme (event.Raw t0 q.text (place_in total cs1)) (tag ++ (d.ds ++ (q.inner ++ q.closing))) rest = record {
                tag = tag;
                dropped = d.ds;
                inner = q.inner;
                closing = q.closing;
                q = q.place;
                whole = refl;
                is_tag = subst (λ (xs : List Cell). IsStartTag t0 tag xs) left (tag_is m ds i w al rd lo mf inside no);
                is_raw = parts.0;
                is_open = parts.1;
                drops = subst (λ (xs : List Cell). Dropped m xs d.ds) q.whole d.drops;
                place = q.begins;
                reads = q.reads;
                is_end = q.is_end;
              } in
              let ends : more ≡ (q.inner ++ q.closing) ++ rest = sym (append_assoc q.inner q.closing rest) in
              record {
                us = tag ++ (d.ds ++ (q.inner ++ q.closing));
                whole = front w ds inside.us i.1 wh inside.whole ∙ (ap (λ xs. tag ++ xs) (left ∙ (ap (λ xs. d.ds ++ xs) ends ∙ sym (append_assoc d.ds (q.inner ++ q.closing) rest))) ∙ sym (append_assoc tag (d.ds ++ (q.inner ++ q.closing)) rest));
                lexeme = subst (λ (v : Event). Lexeme v (tag ++ (d.ds ++ (q.inner ++ q.closing))) rest) (sym q.event) z;
              }
          | inr g ↦
              let was : event.Start t0 ≡ e = ap event_in g.1 in
              let left : cs1 ≡ rest = ap left_in g.1 in
              let no : i.0.fault ≡ None = subst IsWhole (sym was) n in
              let inside = attributes_read total ds i.0 i.1 found no in
              let d = dropped_by m i.1 rest left in
              let tag = a ∷ ((c ∷ w) ++ inside.us) in
              let z : Lexeme (event.Start t0) (tag ++ d.ds) rest = record {
                tag = tag;
                dropped = d.ds;
                whole = refl;
                is_tag = subst (λ (xs : List Cell). IsStartTag t0 tag xs) d.whole (tag_is m ds i w al rd lo mf inside no);
                has_content = sym (opens_whole t0 no) ∙ g.0;
                drops = d.drops;
              } in
              record {
                us = tag ++ d.ds;
                whole = front w ds inside.us i.1 wh inside.whole ∙ (ap (λ xs. tag ++ xs) d.whole ∙ sym (append_assoc tag d.ds rest));
                lexeme = subst (λ (v : Event). Lexeme v (tag ++ d.ds) rest) was z;
              }
        ]

-- an end tag at the front
pub end_tag_read : (total : ℕ) (a b : Cell) (cs : List Cell) (e : Event) (rest : List Cell) → a.0 ≡ 60 → b.0 ≡ 47 → end_tag total a.1 cs ≡ Ok (e, rest) → Lexed e (a ∷ b ∷ cs) rest
end_tag_read total a b [] e rest h k s = absurd (cc (s))
end_tag_read total a b (c ∷ cs) e rest h k s =
    let r = name_run (lower c.0 ∷ []) cs in
    let w = name_runs (lower c.0 ∷ []) r.0 cs r.1 refl in
    let p = spaces_are r.1 (past_spaces r.1) refl in
    let g = guarded (is_ascii_alphabetic c.0) (end_tag_named total a.1 r) (fault kind.BadTag a.1) (e, rest) s in
    elim (chosen (is_left_out r.0) (Err (fault kind.BadTag a.1)) (end_tag_end total a.1 r.0 (past_spaces r.1)) (Ok (e, rest)) g.1) [
      | inl m ↦ absurd (cc (m.1))
      | inr m ↦ closes r.0 (past_spaces r.1) w.w p.s (w.whole ∙ ap (λ xs. w.w ++ xs) p.whole) g.0 w.all w.read p.are m.0 m.1
    ]
  where
    closes : (n : List ℕ) (ds w s : List Cell) → cs ≡ w ++ (s ++ ds) → is_ascii_alphabetic c.0 ≡ true → list_all is_in_name (chars_of w) ≡ true → n ≡ (lower c.0 ∷ []) ++ map lower (chars_of w) → AreSpaces s → is_left_out n ≡ false →
        end_tag_end total a.1 n ds ≡ Ok (e, rest) → Lexed e (a ∷ b ∷ c ∷ cs) rest
    closes n [] w s wh l al rd ar lo f = absurd (cc (f))
    closes n (z ∷ zs) w s wh l al rd ar lo f =
        let g = guarded (z.0 == 62) (Ok (event.End n a.1, zs)) (fault kind.BadTag a.1) (e, rest) f in
        let x : (event.End n a.1, zs) ≡ (e, rest) = ok_is (event.End n a.1, zs) (e, rest) g.1 in
        let left : zs ≡ rest = ap left_in x in
        let us = a ∷ b ∷ ((c ∷ w) ++ (s ++ z ∷ [])) in
        let q : Lexeme (event.End n a.1) us rest = (
          record {
            first = a;
            second = b;
            name = c ∷ w;
            spaces = s;
            last = z;
            whole = refl;
            sign = h;
            place = refl;
            slash = k;
            characters = (l, al);
            in_lower = rd;
            are_spaces = ar;
            is_close = is_code z.0 62 g.0;
          },
          lo,
        ) in
        record {
          us = us;
          whole = ap (λ xs. a ∷ b ∷ c ∷ xs) (wh ∙ (ap (λ xs. w ++ xs) (ap (λ xs. s ++ z ∷ xs) left ∙ sym (append_assoc s (z ∷ []) rest)) ∙ sym (append_assoc w (s ++ z ∷ []) rest)));
          lexeme = subst (λ (v : Event). Lexeme v us rest) (ap event_in x) q;
        }
      where
        ok_is : (x y : Event × List Cell) → (let q : Result (Event × List Cell) HtmlFault = Ok x in q) ≡ Ok y → x ≡ y
        ok_is x y i = cc (i)
