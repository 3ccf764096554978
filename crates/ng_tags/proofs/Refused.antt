-- What is refused is refused for its reason.
use Rattle.std.proofs.Common.{◌≡◌, ℕ, true, false, ◌&&◌, List, [], ◌∷◌, ◌++◌, map, refl, ap, ◌∙◌, sym, subst, arith, inl, inr, append-nil}
use Rattle.std.proofs.lemmas.Bool.Decides.{nat_tests}
use Rattle.std.specs.Prelude.{Option, None, Some, is_some, Result, Ok, Err, if◌then◌else◌, ◌==◌, codes}
use Rattle.std.specs.List.{list_all}
use Rattle.ng_base.specs.Cells.{Cell}
use Rattle.ng_base.proofs.Binds.{chosen}
use Rattle.ng_markup.specs.Tables.{is_left_out}
use Rattle.ng_tags.specs.Free.{fault}
use Rattle.std.specs.Char.{is_ascii_alphabetic}
use Rattle.ng_tags.specs.Letters.{is_in_name, is_space, begins_tag, lower}
use Rattle.ng_tags.specs.Skips.{past_spaces, past_word, name_run}
use Rattle.ng_tags.specs.References.{character}
use Rattle.ng_tags.specs.Texts.{ends, no_text, tag_follows, text_run}
use Rattle.ng_tags.specs.Attributes.{attributes}
use Rattle.ng_tags.specs.Tags.{may_follow_name, start_with, start_tag, end_tag_end, end_tag_named, end_tag}
use Rattle.ng_tags.specs.Lexing.{ends_comment, comment_run, comment_with, comment, markup, text_or, text_event, text_behind, event_at, as_space}
use Rattle.ng_tags.specs.Spelling.{chars_of, BeginsNot, AreSpaces, GoesOn}
use Rattle.ng_tags.specs.Refusals.{IsWholeName, BeginsNoWord, NoTag, left_out, no_follower, no_name, left_out_end, no_end, no_comment, question_mark, CutOff, end_tag_cut, comment_cut, Refused, bad_tag, unclosed, bad_reference}
use Rattle.ng_tags.specs.declared.event.Event.{Event}
use Rattle.ng_tags.specs.declared.event.Event.TheVariants as event
use Rattle.ng_tags.specs.declared.fault.HtmlFault.{HtmlFault}
use Rattle.ng_tags.specs.declared.fault.HtmlKind.TheVariants as kind
use Rattle.ng_tags.specs.declared.texts.Decoded.{Decoded}
use Rattle.ng_tags.specs.declared.until.Until.TheVariants as until
use Rattle.ng_tags.proofs.Runs.{is_code, both_true, none, name_runs, spaces_are}
use Rattle.ng_tags.proofs.TextTurns.{text_on}
use Rattle.ng_tags.proofs.EventSound.{comment_runs, word_is, signs_are}
use Rattle.ng_tags.proofs.EventComplete.{word_on}
use Rattle.ng_tags.proofs.TextRefused.{text_bad}

abbrev Answer : Type 0
Answer = Result (Event × List Cell) HtmlFault

abbrev fault_in : HtmlFault → Result (Event × List Cell) HtmlFault → HtmlFault
fault_in g (Ok r) = g
fault_in g (Err f) = f

-- the same refusal
refused_as : (total : ℕ) (c : Cell) (cs : List Cell) (f g : HtmlFault) → (let q : Answer = Err g in q) ≡ Err f → Refused total c cs g → Refused total c cs f
refused_as total c cs f g h r = subst (λ (x : HtmlFault). Refused total c cs x) (ap (fault_in g) h) r

whole_name : (c : Cell) (w rest : List Cell) (n : List ℕ) → is_ascii_alphabetic c.0 ≡ true → list_all is_in_name (chars_of w) ≡ true → n ≡ (lower c.0 ∷ []) ++ map lower (chars_of w) → BeginsNot is_in_name rest → IsWholeName n (c ∷ w) rest
whole_name c w rest n l al rd s = record { characters = (l, al); in_lower = rd; name_ends = s }

-- a start tag
start_refused : (total : ℕ) (a c : Cell) (cs : List Cell) (f : HtmlFault) → a.0 ≡ 60 → is_ascii_alphabetic c.0 ≡ true → start_tag total a.1 (name_run (lower c.0 ∷ []) cs) ≡ Err f → Refused total a (c ∷ cs) f
start_refused total a c cs f h l s =
    let r = name_run (lower c.0 ∷ []) cs in
    let w = name_runs (lower c.0 ∷ []) r.0 cs r.1 refl in
    let bad : Answer = Err (fault kind.BadTag a.1) in
    let good : Answer = Ok (start_with total a.1 r.0 (attributes total r.1)) in
    let name = whole_name c w.w r.1 r.0 l w.all w.read w.stops in
    elim (chosen (is_left_out r.0) bad (if may_follow_name r.1 then good else bad) (Err f) s) [
      | inl g ↦ refused_as total a (c ∷ cs) f (fault kind.BadTag a.1) g.1 (bad_tag h (subst NoTag (sym (ap (λ xs. c ∷ xs) w.whole)) (left_out r.0 (c ∷ w.w) r.1 name g.0)))
      | inr g ↦ elim (chosen (may_follow_name r.1) good bad (Err f) g.1) [
        | inl k ↦ absurd (cc (k.1))
        | inr k ↦ refused_as total a (c ∷ cs) f (fault kind.BadTag a.1) k.1 (bad_tag h (subst NoTag (sym (ap (λ xs. c ∷ xs) w.whole)) (follower r.0 (c ∷ w.w) r.1 name g.0 k.0)))
      ]
    ]
  where
    follower : (n : List ℕ) (us ds : List Cell) → IsWholeName n us ds → is_left_out n ≡ false → may_follow_name ds ≡ false → NoTag (us ++ ds)
    follower n us [] i lo k = absurd (cc (k))
    follower n us (d ∷ ds) i lo k = no_follower n us d ds i lo k

-- an end tag
end_refused : (total : ℕ) (a s : Cell) (cs : List Cell) (f : HtmlFault) → a.0 ≡ 60 → s.0 ≡ 47 → end_tag total a.1 cs ≡ Err f → Refused total a (s ∷ cs) f
end_refused total a s [] f h k e = refused_as total a (s ∷ []) f (fault kind.BadTag a.1) e (bad_tag h (no_name s [] k tt))
end_refused total a s (c ∷ cs) f h k e =
    let r = name_run (lower c.0 ∷ []) cs in
    let w = name_runs (lower c.0 ∷ []) r.0 cs r.1 refl in
    let p = spaces_are r.1 (past_spaces r.1) refl in
    let bad : Answer = Err (fault kind.BadTag a.1) in
    elim (chosen (is_ascii_alphabetic c.0) (end_tag_named total a.1 r) bad (Err f) e) [
      | inr g ↦ refused_as total a (s ∷ c ∷ cs) f (fault kind.BadTag a.1) g.1 (bad_tag h (no_name s (c ∷ cs) k g.0))
      | inl g ↦
          let name = whole_name c w.w r.1 r.0 g.0 w.all w.read w.stops in
          elim (chosen (is_left_out r.0) bad (end_tag_end total a.1 r.0 (past_spaces r.1)) (Err f) g.1) [
            | inl m ↦ refused_as total a (s ∷ c ∷ cs) f (fault kind.BadTag a.1) m.1 (bad_tag h (subst (λ (xs : List Cell). NoTag (s ∷ c ∷ xs)) (sym w.whole) (left_out_end s r.0 (c ∷ w.w) r.1 k name m.0)))
            | inr m ↦ closes r.0 w.w p.s (past_spaces r.1) (w.whole ∙ ap (λ xs. w.w ++ xs) p.whole) (subst (IsWholeName r.0 (c ∷ w.w)) p.whole name) p.are p.stops m.0 m.1
          ]
    ]
  where
    closes : (n : List ℕ) (w sp ds : List Cell) → cs ≡ w ++ (sp ++ ds) → IsWholeName n (c ∷ w) (sp ++ ds) → AreSpaces sp → BeginsNot is_space ds → is_left_out n ≡ false → end_tag_end total a.1 n ds ≡ Err f → Refused total a (s ∷ c ∷ cs) f
    closes n w sp [] wh i ar st lo q =
        let left : cs ≡ w ++ sp = wh ∙ ap (λ xs. w ++ xs) (append-nil sp) in
        refused_as total a (s ∷ c ∷ cs) f (fault kind.Unclosed total) q
        (unclosed h (subst (λ (xs : List Cell). CutOff (s ∷ c ∷ xs)) (sym left) (end_tag_cut s n (c ∷ w) sp k (subst (IsWholeName n (c ∷ w)) (append-nil sp) i) lo ar)))
    closes n w sp (z ∷ zs) wh i ar st lo q =
        elim (chosen (z.0 == 62) (Ok (event.End n a.1, zs)) (Err (fault kind.BadTag a.1)) (Err f) q) [
          | inl g ↦ absurd (cc (g.1))
          | inr g ↦ refused_as total a (s ∷ c ∷ cs) f (fault kind.BadTag a.1) g.1 (bad_tag h (subst (λ (xs : List Cell). NoTag (s ∷ c ∷ xs)) (sym wh) (no_end s n (c ∷ w) sp z zs k i lo ar (none (is_space z.0) (z.0 == 62) st g.0))))
        ]

-- a comment
no_word : (w : List ℕ) (cs : List Cell) → map lower w ≡ w → past_word w cs ≡ None → BeginsNoWord w cs
no_word w cs l h us more e i = let f : Some more ≡ None = sym (word_on w us more i l) ∙ (ap (past_word w) (sym e) ∙ h) in cc (f)

comment_stops : (t u : List ℕ) (cs rest : List Cell) → comment_run t cs ≡ (u, rest) → past_word (codes "-->") rest ≡ None → rest ≡ []
comment_stops t u [] rest h n = sym (ap (λ (r : List ℕ × List Cell). r.1) h)
comment_stops t u (c ∷ cs) rest h n =
    elim (chosen (ends_comment (c ∷ cs)) (t, c ∷ cs) (comment_run (t ++ as_space c.0 ∷ []) cs) (u, rest) h) [
      | inl g ↦
          let left : c ∷ cs ≡ rest = ap (λ (r : List ℕ × List Cell). r.1) g.1 in
          let yes : true ≡ false = sym g.0 ∙ (ap ends_comment left ∙ ap is_some n) in
          absurd (cc (yes))
      | inr g ↦ comment_stops (t ++ as_space c.0 ∷ []) u cs rest g.1 n
    ]

cut_refused : (total : ℕ) (a s : Cell) (dashes ds : List Cell) (f : HtmlFault) (t : List ℕ) (rest : List Cell) (o : Option (List Cell)) → a.0 ≡ 60 → s.0 ≡ 33 → chars_of dashes ≡ codes "--" → comment_run [] ds ≡ (t, rest) → past_word (codes "-->") rest ≡ o →
    comment_with total a.1 t o ≡ Err f → Refused total a (s ∷ (dashes ++ ds)) f
cut_refused total a s dashes ds f t rest (Some more) h k d r e q = absurd (cc (q))
cut_refused total a s dashes ds f t rest None h k d r e q =
    let m = comment_runs [] t ds rest r in
    let over : rest ≡ [] = comment_stops [] t ds rest r e in
    let left : ds ≡ m.w = m.whole ∙ (ap (λ xs. m.w ++ xs) over ∙ append-nil m.w) in
    refused_as total a (s ∷ (dashes ++ ds)) f (fault kind.Unclosed total) q
    (unclosed h (subst (λ (xs : List Cell). CutOff (s ∷ (dashes ++ xs))) (sym left) (comment_cut s dashes m.w k d (subst (λ (xs : List Cell). GoesOn m.w xs) over m.goes_on))))

comment_refused : (total : ℕ) (a s : Cell) (cs : List Cell) (f : HtmlFault) (o : Option (List Cell)) → a.0 ≡ 60 → s.0 ≡ 33 → past_word (codes "--") cs ≡ o → comment total a.1 o ≡ Err f → Refused total a (s ∷ cs) f
comment_refused total a s cs f None h k e q = refused_as total a (s ∷ cs) f (fault kind.BadTag a.1) q (bad_tag h (no_comment s cs k (no_word (codes "--") cs refl e)))
comment_refused total a s cs f (Some ds) h k e q =
    let w = word_is (codes "--") cs ds e in
    let r = comment_run [] ds in
    subst (λ (xs : List Cell). Refused total a (s ∷ xs) f) (sym w.whole)
    (cut_refused total a s w.us ds f r.0 r.1 (past_word (codes "-->") r.1) h k (signs_are (chars_of w.us) (codes "--") w.reads refl) refl refl q)

last_mark : (c : ℕ) → begins_tag c ≡ true → is_ascii_alphabetic c ≡ false → (c == 47) ≡ false → (c == 33) ≡ false → c ≡ 63
last_mark c h i j k = grind (arith, nat_tests)

markup_refused : (total : ℕ) (a : Cell) (cs : List Cell) (f : HtmlFault) → a.0 ≡ 60 → tag_follows cs ≡ true → markup total a.1 cs ≡ Err f → Refused total a cs f
markup_refused total a [] f h t e = absurd (cc (t))
markup_refused total a (c ∷ cs) f h t e =
    let bad : Answer = Err (fault kind.BadTag a.1) in
    let start = start_tag total a.1 (name_run (lower c.0 ∷ []) cs) in
    let note = comment total a.1 (past_word (codes "--") cs) in
    elim (chosen (is_ascii_alphabetic c.0) start (if c.0 == 47 then end_tag total a.1 cs else if c.0 == 33 then note else bad) (Err f) e) [
      | inl g ↦ start_refused total a c cs f h g.0 g.1
      | inr g ↦ elim (chosen (c.0 == 47) (end_tag total a.1 cs) (if c.0 == 33 then note else bad) (Err f) g.1) [
        | inl k ↦ end_refused total a c cs f h (is_code c.0 47 k.0) k.1
        | inr k ↦ elim (chosen (c.0 == 33) note bad (Err f) k.1) [
          | inl m ↦ comment_refused total a c cs f (past_word (codes "--") cs) h (is_code c.0 33 m.0) refl m.1
          | inr m ↦ refused_as total a (c ∷ cs) f (fault kind.BadTag a.1) m.1 (bad_tag h (question_mark c cs (last_mark c.0 t g.0 k.0 m.0)))
        ]
      ]
    ]

text_refused : (total : ℕ) (a : Cell) (cs : List Cell) (f : HtmlFault) (t : List ℕ) (g : Option HtmlFault) (rest : List Cell) → ends until.Tag a.0 cs ≡ false → (text_run until.Tag (a ∷ cs)).0.fault ≡ g → text_or a.1 t g rest ≡ Err f → Refused total a cs f
text_refused total a cs f t None rest n h e = absurd (cc (e))
text_refused total a cs f t (Some g) rest n h e =
    let b = text_bad until.Tag (a ∷ cs) g h in
    subst (λ (x : HtmlFault). Refused total a cs x) (sym b.is_fault ∙ ap (fault_in g) e) (bad_reference b.p n b.bad)

-- what is refused is refused for its reason, at its place
pub refused_sound : (total : ℕ) (c : Cell) (cs : List Cell) (f : HtmlFault) → event_at total c cs ≡ Err f → Refused total c cs f
refused_sound total c cs f h =
    let d = text_behind c.1 (character c.0 cs) in
    elim (chosen (c.0 == 60 && tag_follows cs) (markup total c.1 cs) (text_event c.1 d) (Err f) h) [
      | inl g ↦ let b = both_true (c.0 == 60) (tag_follows cs) g.0 in markup_refused total c cs f (is_code c.0 60 b.0) b.1 g.1
      | inr g ↦ text_refused total c cs f d.0.text d.0.fault d.1 g.0 (ap (λ (r : Decoded × List Cell). r.0.fault) (text_on until.Tag no_text c cs g.0)) g.1
    ]
