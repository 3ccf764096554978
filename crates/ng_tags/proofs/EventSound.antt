-- What is read as an event spells it.
use Rattle.std.proofs.Common.{◌≡◌, ℕ, Bool, true, false, not, ◌&&◌, List, [], ◌∷◌, ◌++◌, map, refl, ap, ◌∙◌, sym, subst, arith, inl, inr, append_assoc, append-nil}
use Rattle.std.proofs.lemmas.Bool.Decides.{nat_tests}
use Rattle.std.specs.Prelude.{Option, None, Some, Result, Ok, Err, if◌then◌else◌, ◌==◌, nat_le, codes}
use Rattle.std.specs.List.{list_all}
use Rattle.ng_base.specs.Cells.{Cell}
use Rattle.ng_base.proofs.Binds.{chosen, guarded}
use Rattle.ng_tags.specs.Free.{fault}
use Rattle.std.specs.Char.{is_ascii_alphabetic}
use Rattle.ng_tags.specs.Letters.{lower}
use Rattle.ng_tags.specs.Skips.{past_word, name_run}
use Rattle.ng_tags.specs.References.{character}
use Rattle.ng_tags.specs.Texts.{ends, no_text, tag_follows, text_run}
use Rattle.ng_tags.specs.Tags.{start_tag, end_tag}
use Rattle.ng_tags.specs.Lexing.{as_space, ends_comment, comment_run, comment_with, comment, markup, text_or, text_event, text_behind, event_at}
use Rattle.ng_tags.specs.Spelling.{chars_of, Reads, Ended, GoesOn, IsTextOf, Lexeme, IsWhole}
use Rattle.ng_tags.specs.declared.event.Event.{Event}
use Rattle.ng_tags.specs.declared.event.Event.TheVariants as event
use Rattle.ng_tags.specs.declared.fault.HtmlFault.{HtmlFault}
use Rattle.ng_tags.specs.declared.fault.HtmlKind.TheVariants as kind
use Rattle.ng_tags.specs.declared.texts.Decoded.{Decoded}
use Rattle.ng_tags.specs.declared.until.Until.TheVariants as until
use Rattle.ng_tags.proofs.Runs.{is_code, both_true}
use Rattle.ng_tags.proofs.TextTurns.{text_on}
use Rattle.ng_tags.proofs.TextSound.{text_read}
use Rattle.ng_tags.proofs.TagSound.{Lexed, start_read, end_tag_read}

-- a word at the front
pub record Word (w : List ℕ) (cs rest : List Cell) : Type 0 where
  pub us : List Cell
  pub whole : cs ≡ us ++ rest
  pub reads : map lower (chars_of us) ≡ w

pub word_is : (w : List ℕ) (cs rest : List Cell) → past_word w cs ≡ Some rest → Word w cs rest
word_is [] cs rest h = let e : cs ≡ rest = cc (h) in record { us = []; whole = e; reads = refl }
word_is (x ∷ w) [] rest h = absurd (cc (h))
word_is (x ∷ w) (c ∷ cs) rest h =
    elim (chosen (lower c.0 == x) (past_word w cs) None (Some rest) h) [
      | inl g ↦
          let r = word_is w cs rest g.1 in
          let same : lower c.0 ≡ x = is_code (lower c.0) x g.0 in
          record { us = c ∷ r.us; whole = ap (λ xs. c ∷ xs) r.whole; reads = ap (λ (n : ℕ). n ∷ map lower (chars_of r.us)) same ∙ ap (λ (ns : List ℕ). x ∷ ns) r.reads }
      | inr g ↦ absurd (cc (g.1))
    ]

-- no small letter
abbrev pub is_sign : ℕ → Bool
is_sign c = not (nat_le 97 c && nat_le c 122)

sign_is : (c d : ℕ) → lower c ≡ d → is_sign d ≡ true → c ≡ d
sign_is c d h i = grind (arith, nat_tests)

-- a word of signs has no capital letters
pub signs_are : (us w : List ℕ) → map lower us ≡ w → list_all is_sign w ≡ true → us ≡ w
signs_are [] w h i = h
signs_are (c ∷ us) [] h i = absurd (cc (h))
signs_are (c ∷ us) (d ∷ w) h i =
    let first : lower c ≡ d = cc (h) in
    let more : map lower us ≡ w = cc (h) in
    let b = both_true (is_sign d) (list_all is_sign w) i in
    ap (λ (n : ℕ). n ∷ us) (sign_is c d first b.0) ∙ ap (λ (ns : List ℕ). d ∷ ns) (signs_are us w more b.1)

-- the text of a comment
pub record Commented (s t : List ℕ) (cs rest : List Cell) : Type 0 where
  pub w : List Cell
  pub whole : cs ≡ w ++ rest
  pub reads : t ≡ s ++ map as_space (chars_of w)
  pub goes_on : GoesOn w rest

pub comment_runs : (s t : List ℕ) (cs rest : List Cell) → comment_run s cs ≡ (t, rest) → Commented s t cs rest
comment_runs s t [] rest h = record { w = []; whole = ap (λ (r : List ℕ × List Cell). r.1) h; reads = sym (ap (λ (r : List ℕ × List Cell). r.0) h) ∙ sym (append-nil s); goes_on = tt }
comment_runs s t (c ∷ cs) rest h =
    elim (chosen (ends_comment (c ∷ cs)) (s, c ∷ cs) (comment_run (s ++ as_space c.0 ∷ []) cs) (t, rest) h) [
      | inl g ↦ record { w = []; whole = ap (λ (r : List ℕ × List Cell). r.1) g.1; reads = sym (ap (λ (r : List ℕ × List Cell). r.0) g.1) ∙ sym (append-nil s); goes_on = tt }
      | inr g ↦
          let r = comment_runs (s ++ as_space c.0 ∷ []) t cs rest g.1 in
          let whole : c ∷ cs ≡ (c ∷ r.w) ++ rest = ap (λ xs. c ∷ xs) r.whole in
          record { w = c ∷ r.w; whole = whole; reads = r.reads ∙ append_assoc s (as_space c.0 ∷ []) (map as_space (chars_of r.w)); goes_on = (ap ends_comment (sym whole) ∙ g.0, r.goes_on) }
    ]

abbrev event_in : Result (Event × List Cell) HtmlFault → Event → Event
event_in (Ok r) e = r.0
event_in (Err f) e = e

abbrev left_in : Result (Event × List Cell) HtmlFault → List Cell
left_in (Ok r) = r.1
left_in (Err f) = []

closed_read : (total : ℕ) (a b : Cell) (opening ds : List Cell) (t : List ℕ) (more : List Cell) (e : Event) (rest : List Cell) (o : Option (List Cell)) → a.0 ≡ 60 → chars_of (b ∷ opening) ≡ codes "!--" → Commented [] t ds more →
    past_word (codes "-->") more ≡ o → comment_with total a.1 t o ≡ Ok (e, rest) → Lexed e (a ∷ b ∷ (opening ++ ds)) rest
closed_read total a b opening ds t more e rest None h k r p s = absurd (cc (s))
closed_read total a b opening ds t more e rest (Some left) h k r p s =
    let was : event.Comment t a.1 ≡ e = ap (λ (x : Result (Event × List Cell) HtmlFault). event_in x e) s in
    let same : left ≡ rest = ap left_in s in
    let z = word_is (codes "-->") more rest (p ∙ ap Some same) in
    let us = a ∷ ((b ∷ opening) ++ (r.w ++ z.us)) in
    let q : Lexeme (event.Comment t a.1) us rest = record {
      first = a;
      opening = b ∷ opening;
      inner = r.w;
      closing = z.us;
      whole = refl;
      sign = h;
      place = refl;
      opens = k;
      closes = signs_are (chars_of z.us) (codes "-->") z.reads refl;
      goes_on = subst (λ (xs : List Cell). GoesOn r.w xs) z.whole r.goes_on;
      reads = r.reads;
    } in
    record {
      us = us;
      whole = ap (λ xs. a ∷ b ∷ (opening ++ xs)) (r.whole ∙ (ap (λ xs. r.w ++ xs) z.whole ∙ sym (append_assoc r.w z.us rest))) ∙ ap (λ xs. a ∷ b ∷ xs) (sym (append_assoc opening (r.w ++ z.us) rest));
      lexeme = subst (λ (v : Event). Lexeme v us rest) was q;
    }

comment_read : (total : ℕ) (a b : Cell) (cs : List Cell) (e : Event) (rest : List Cell) (o : Option (List Cell)) → a.0 ≡ 60 → b.0 ≡ 33 → past_word (codes "--") cs ≡ o → comment total a.1 o ≡ Ok (e, rest) → Lexed e (a ∷ b ∷ cs) rest
comment_read total a b cs e rest None h k p s = absurd (cc (s))
comment_read total a b cs e rest (Some ds) h k p s =
    let w = word_is (codes "--") cs ds p in
    let r = comment_run [] ds in
    let opens : chars_of (b ∷ w.us) ≡ codes "!--" = ap (λ (n : ℕ). n ∷ chars_of w.us) k ∙ ap (λ (ns : List ℕ). 33 ∷ ns) (signs_are (chars_of w.us) (codes "--") w.reads refl) in
    let x = closed_read total a b w.us ds r.0 r.1 e rest (past_word (codes "-->") r.1) h opens (comment_runs [] r.0 ds r.1 refl) refl s in
    record { us = x.us; whole = ap (λ xs. a ∷ b ∷ xs) w.whole ∙ x.whole; lexeme = x.lexeme }

markup_read : (total : ℕ) (a : Cell) (cs : List Cell) (e : Event) (rest : List Cell) → a.0 ≡ 60 → markup total a.1 cs ≡ Ok (e, rest) → IsWhole e → Lexed e (a ∷ cs) rest
markup_read total a [] e rest h s n = absurd (cc (s))
markup_read total a (c ∷ cs) e rest h s n =
    let bad : Result (Event × List Cell) HtmlFault = Err (fault kind.BadTag a.1) in
    let start = start_tag total a.1 (name_run (lower c.0 ∷ []) cs) in
    let note = comment total a.1 (past_word (codes "--") cs) in
    elim (chosen (is_ascii_alphabetic c.0) start (if c.0 == 47 then end_tag total a.1 cs else if c.0 == 33 then note else bad) (Ok (e, rest)) s) [
      | inl g ↦ start_read total a c cs e rest h g.0 g.1 n
      | inr g ↦ elim (chosen (c.0 == 47) (end_tag total a.1 cs) (if c.0 == 33 then note else bad) (Ok (e, rest)) g.1) [
        | inl k ↦ end_tag_read total a c cs e rest h (is_code c.0 47 k.0) k.1
        | inr k ↦
            let x = guarded (c.0 == 33) note (fault kind.BadTag a.1) (e, rest) k.1 in
            comment_read total a c cs e rest (past_word (codes "--") cs) h (is_code c.0 33 x.0) refl x.1
      ]
    ]

text_first : (a : Cell) (cs us rest : List Cell) (t : List ℕ) → a ∷ cs ≡ us ++ rest → ends until.Tag a.0 cs ≡ false → Reads until.Tag rest us t → Ended until.Tag rest → IsTextOf t a.1 us rest
text_first a cs [] [] t w n r e = absurd (cc (w))
text_first a cs [] (z ∷ zs) t w n r e =
    let first : a ≡ z = cc (w) in
    let more : cs ≡ zs = cc (w) in
    let yes : ends until.Tag a.0 cs ≡ true = ap (λ (x : Cell). ends until.Tag x.0 cs) first ∙ (ap (λ (xs : List Cell). ends until.Tag z.0 xs) more ∙ e) in
    let x : true ≡ false = sym yes ∙ n in
    absurd (cc (x))
text_first a cs (z ∷ us) rest t w n r e =
    let first : a ≡ z = cc (w) in
    record { first = z; more = us; whole = refl; place = ap (λ (x : Cell). x.1) (sym first); reads = r; ended = e }

text_or_read : (a : Cell) (cs : List Cell) (e : Event) (rest : List Cell) (d : Decoded) (more : List Cell) (f : Option HtmlFault) → ends until.Tag a.0 cs ≡ false → text_run until.Tag (a ∷ cs) ≡ (d, more) → d.fault ≡ f →
    text_or a.1 d.text f more ≡ Ok (e, rest) → Lexed e (a ∷ cs) rest
text_or_read a cs e rest d more (Some g) n h i s = absurd (cc (s))
text_or_read a cs e rest d more None n h i s =
    let was : event.Text d.text a.1 ≡ e = ap (λ (x : Result (Event × List Cell) HtmlFault). event_in x e) s in
    let same : more ≡ rest = ap left_in s in
    let t = text_read until.Tag no_text d (a ∷ cs) rest (h ∙ ap (λ (xs : List Cell). let p : Decoded × List Cell = (d, xs) in p) same) i in
    let reads : Reads until.Tag rest t.us d.text = subst (λ (v : List ℕ). Reads until.Tag rest t.us v) (sym t.text) t.reads in
    record { us = t.us; whole = t.whole; lexeme = subst (λ (v : Event). Lexeme v t.us rest) was (text_first a cs t.us rest d.text t.whole n reads t.ended) }

event_read : (total : ℕ) (c : Cell) (cs : List Cell) (e : Event) (rest : List Cell) → event_at total c cs ≡ Ok (e, rest) → IsWhole e → Lexed e (c ∷ cs) rest
event_read total c cs e rest h n =
    let d = text_behind c.1 (character c.0 cs) in
    elim (chosen (c.0 == 60 && tag_follows cs) (markup total c.1 cs) (text_event c.1 d) (Ok (e, rest)) h) [
      | inl g ↦ markup_read total c cs e rest (is_code c.0 60 (both_true (c.0 == 60) (tag_follows cs) g.0).0) g.1 n
      | inr g ↦ text_or_read c cs e rest d.0 d.1 d.0.fault g.0 (text_on until.Tag no_text c cs g.0) refl g.1
    ]

-- what is read as an event without a fault spells it
pub lexed_sound : (total : ℕ) (c : Cell) (cs : List Cell) (e : Event) (rest : List Cell) → event_at total c cs ≡ Ok (e, rest) → IsWhole e → (us : List Cell) × (c ∷ cs ≡ us ++ rest) × Lexeme e us rest
lexed_sound total c cs e rest h n = let x = event_read total c cs e rest h n in (x.us, x.whole, x.lexeme)
