-- What is refused is wrong, and all before it is read.
use Rattle.std.proofs.Common.{◌≡◌, ◌<◌, ℕ, zero, suc, Bool, true, false, not, ◌&&◌, nat_lt, List, [], ◌∷◌, ◌++◌, length, refl, ap, ◌∙◌, sym, subst, arith, inl, inr, append_assoc}
use Rattle.std.proofs.lemmas.Bool.Decides.{nat_tests}
use Rattle.std.proofs.lemmas.Slice.Eq.{bytes_eq-Decides}
use Rattle.std.specs.Prelude.{Result, Ok, Err, Option, None, Some, if◌then◌else◌, ◌⊎◌}
use Rattle.std.specs.Str.{bytes_eq}
use Rattle.ng_base.specs.Cells.{Cell}
use Rattle.ng_base.specs.Meets.{◌>>=◌}
use Rattle.ng_base.proofs.Binds.{bind_err, chosen}
use Rattle.ng_markup.specs.Tables.{is_void, is_omittable}
use Rattle.ng_markup.specs.Forest.{Forest, element}
use Rattle.ng_tags.specs.Free.{fault}
use Rattle.ng_tags.specs.Lexing.{event_at, after_doctype}
use Rattle.ng_tags.specs.Spelling.{Lexeme}
use Rattle.ng_tags.specs.declared.event.Event.{Event}
use Rattle.ng_tags.specs.declared.event.Event.TheVariants as event
use Rattle.ng_tags.specs.declared.event.Tag.{Tag}
use Rattle.ng_tags.specs.declared.fault.HtmlFault.{HtmlFault}
use Rattle.ng_tags.specs.declared.fault.HtmlKind.TheVariants as kind
use Rattle.ng_html.specs.Closing.{is_closing}
use Rattle.ng_html.specs.Building.{State, Around, open_limit, ended, take_event, unharmed, admitted, opened, content, entered, entered_raw, shut_by, close, finish_of, finished, with_leaf, empty}
use Rattle.ng_html.specs.Reading.{begin, reads, read_on, read_cells, cells_of, is_plain_text, sound_len, read_bytes}
use Rattle.ng_html.specs.Standing.{Stands}
use Rattle.ng_html.specs.Refusals.{WrittenBefore, left_open, CanEnd, CanFinish, IsWrongTag, IsWrongEvent, no_event, IsWrong, RefusesCells, Refuses}
use Rattle.ng_html.proofs.Bytes.{Answer, no_answer, plain_of, not_plain}
use Rattle.ng_html.proofs.Lexed.{lexed_less, lexed_sound, refused_sound, doctype_is}
use Rattle.ng_html.proofs.TreeSound.{take_stands, taken_whole}

err_same : {A : Type 0} (a b : HtmlFault) → ◌≡◌ {A = Result A HtmlFault} (Err a) (Err b) → b ≡ a
err_same a b h = cc

-- what a start tag leaves open
pub shut_left : (n : List ℕ) (os : List Around) (done : Forest) → (shut_by n os done).stack ≡ left_open n os
shut_left n [] done = refl
shut_left n (o ∷ os) done = cases (is_closing n o.name) (shut_by n os (ended o done)) (record { stack = o ∷ os; done = done }) (left_open n os) (o ∷ os) (shut_left n os (ended o done)) refl
  where
    cases : (b : Bool) (s t : State) (xs ys : List Around) → s.stack ≡ xs → t.stack ≡ ys → (if b then s else t).stack ≡ (if b then xs else ys)
    cases true s t xs ys h i = h
    cases false s t xs ys h i = i

harm_is : (o : Option HtmlFault) (f : HtmlFault) → unharmed o ≡ Err f → o ≡ Some f
harm_is None f h = absurd (cc)
harm_is (Some g) f h = cc

admitted_err : (os : List Around) (t : Tag) (v : Bool) (f : HtmlFault) → admitted (length os) t v ≡ Err f → IsWrongTag os t v f
admitted_err os t v f h =
    elim (chosen (nat_lt (length os) open_limit) (if t.closed && not v then Err (fault kind.SelfClosed t.place) else unharmed t.fault) (Err (fault kind.TooDeep t.place)) (Err f) h) [
      | inr g ↦ inl (grind (arith, nat_tests, g.0), err_same (fault kind.TooDeep t.place) f g.1)
      | inl g ↦ elim (chosen (t.closed && not v) (Err (fault kind.SelfClosed t.place)) (unharmed t.fault) (Err f) g.1) [
        | inl c ↦ inr (inl (grind (arith, nat_tests, g.0), c.0, err_same (fault kind.SelfClosed t.place) f c.1))
        | inr c ↦ inr (inr (grind (arith, nat_tests, g.0), c.0, harm_is t.fault f c.1))
      ]
    ]

entered_err : (s : State) (t : Tag) (f : HtmlFault) → entered s t ≡ Err f → IsWrongTag s.stack t (is_void t.name) f
entered_err s t f h =
    elim (bind_err (admitted (length s.stack) t (is_void t.name)) (λ u. let q : Result State HtmlFault = Ok (opened s t) in q) f h) [
      | inl e ↦ admitted_err s.stack t (is_void t.name) f e
      | inr e ↦ absurd (let k = e.2 in cc)
    ]

raw_err : (s : State) (t : Tag) (x : List ℕ) (f : HtmlFault) → entered_raw s t x ≡ Err f → IsWrongTag s.stack t false f
raw_err s t x f h =
    elim (bind_err (admitted (length s.stack) t false) (λ u. let q : Result State HtmlFault = Ok (with_leaf s (element t.name t.attrs (content x))) in q) f h) [
      | inl e ↦ admitted_err s.stack t false f e
      | inr e ↦ absurd (let k = e.2 in cc)
    ]

close_err : (os : List Around) (done : Forest) (n : List ℕ) (p : ℕ) (f : HtmlFault) → close os done n p ≡ Err f → (CanEnd n os → ⊥) × (f ≡ fault kind.Unmatched p)
close_err [] done n p f h = (λ c. c, err_same (fault kind.Unmatched p) f h)
close_err (o ∷ os) done n p f h =
    elim (chosen (bytes_eq o.name n) (Ok (record { stack = os; done = ended o done })) (if is_omittable o.name then close os (ended o done) n p else Err (fault kind.Unmatched p)) (Err f) h) [
      | inl g ↦ absurd (let k = g.1 in cc)
      | inr g ↦ other (chosen (is_omittable o.name) (close os (ended o done) n p) (Err (fault kind.Unmatched p)) (Err f) g.1) g.0 (λ k. close_err os (ended o done) n p f k)
    ]
  where
    not_own : bytes_eq o.name n ≡ false → o.name ≡ n → ⊥
    not_own i e = let t : bytes_eq o.name n ≡ true = (bytes_eq-Decides o.name n).1 e in cc

    other : ((is_omittable o.name ≡ true) × (close os (ended o done) n p ≡ Err f)) ⊎ ((is_omittable o.name ≡ false) × ◌≡◌ {A = Result State HtmlFault} (Err (fault kind.Unmatched p)) (Err f)) → bytes_eq o.name n ≡ false → (close os (ended o done) n p ≡ Err f → (CanEnd n os → ⊥) × (f ≡ fault kind.Unmatched p)) → (CanEnd n (o ∷ os) → ⊥) × (f ≡ fault kind.Unmatched p)
    other (inl k) i ih = let r = ih k.1 in (λ c. elim c [ inl e ↦ not_own i e | inr m ↦ r.0 m.1 ], r.1)
    other (inr k) i ih = (λ c. elim c [ inl e ↦ not_own i e | inr m ↦ let a = k.0 in let b = m.0 in cc ], err_same (fault kind.Unmatched p) f k.1)

finish_err : (total : ℕ) (os : List Around) (done : Forest) (f : HtmlFault) → finish_of total os done ≡ Err f → (CanFinish os → ⊥) × (f ≡ fault kind.Unclosed total)
finish_err total [] done f h = absurd (cc)
finish_err total (o ∷ os) done f h =
    elim (chosen (is_omittable o.name) (finish_of total os (ended o done)) (Err (fault kind.Unclosed total)) (Err f) h) [
      | inl g ↦ let r = finish_err total os (ended o done) f g.1 in (λ c. r.0 c.1, r.1)
      | inr g ↦ (λ c. let t : is_omittable o.name ≡ true = c.0 in let k = g.0 in cc, err_same (fault kind.Unclosed total) f g.1)
    ]

-- an event that is refused
take_err : (s : State) (e : Event) (f : HtmlFault) → take_event s e ≡ Err f → IsWrongEvent s.stack e f
take_err s (event.Start t) f h =
    subst (λ (os : List Around). IsWrongTag os t (is_void t.name) f) (shut_left t.name s.stack s.done) (entered_err (shut_by t.name s.stack s.done) t f h)
take_err s (event.Raw t x q) f h =
    subst (λ (os : List Around). IsWrongTag os t false f) (shut_left t.name s.stack s.done) (raw_err (shut_by t.name s.stack s.done) t x f h)
take_err s (event.End n p) f h = close_err s.stack s.done n p f h
take_err s (event.Text t p) f h = absurd (cc)
take_err s (event.Comment t p) f h = absurd (cc)

abbrev Took : State → List Event → State → Type 0
Took s [] t = s ≡ t
Took s (e ∷ es) t = (u : State) × (take_event s e ≡ Ok u) × Took u es t

took_stands : (s t : State) (es all rest : List Event) → Took s es t → Stands s.stack s.done all (es ++ rest) → Stands t.stack t.done all rest
took_stands s t [] all rest h i = subst (λ (u : State). Stands u.stack u.done all rest) h i
took_stands s t (e ∷ es) all rest h i = took_stands h.0 t es all rest h.2 (take_stands s h.0 e all (es ++ rest) h.1 i)

record IsStopped (total : ℕ) (s : State) (cs : List Cell) (f : HtmlFault) : Type 0 where
  us : List Cell
  ws : List Cell
  es : List Event
  rest : List Event
  to : State
  whole : cs ≡ us ++ ws
  written : WrittenBefore es us ws
  took : Took s es to
  wrong : IsWrong total to.stack rest ws f

stops_here : (total : ℕ) (s : State) (cs : List Cell) (f : HtmlFault) (rest : List Event) → IsWrong total s.stack rest cs f → IsStopped total s cs f
stops_here total s cs f rest w = record { us = []; ws = cs; es = []; rest = rest; to = s; whole = refl; written = refl; took = refl; wrong = w }

one_further : (total : ℕ) (s t : State) (cs more us : List Cell) (e : Event) (f : HtmlFault) → take_event s e ≡ Ok t → cs ≡ us ++ more → Lexeme e us more → IsStopped total t more f → IsStopped total s cs f
one_further total s t cs more us e f h whole l r =
    record {
      us = us ++ r.us;
      ws = r.ws;
      es = e ∷ r.es;
      rest = r.rest;
      to = r.to;
      whole = whole ∙ (ap (λ xs. us ++ xs) r.whole ∙ sym (append_assoc us r.us r.ws));
      written = (us, r.us, refl, subst (λ (xs : List Cell). Lexeme e us xs) r.whole l, r.written);
      took = (t, h, r.took);
      wrong = r.wrong;
    }

reads_err : (total k : ℕ) (s : State) (ps : List ℕ) (cs : List Cell) (f : HtmlFault) → length cs < k → reads total k s ps cs ≡ Err f → IsStopped total s cs f
reads_err total zero s ps cs f l h = absurd (omega arith)
reads_err total (suc k) s ps [] f l h =
    elim (bind_err (finished total s) (λ g. let q : Answer = Ok (g, ps) in q) f h) [
      | inl g ↦ let r = finish_err total s.stack s.done f g in stops_here total s [] f [] (refl, r.0, r.1)
      | inr g ↦ absurd (let e = g.2 in cc)
    ]
reads_err total (suc k) s ps (c ∷ cs) f l h =
    elim (bind_err (event_at total c cs) (λ r. take_event s r.0 >>= λ t. reads total k t (ps ++ begin r.0) r.1) f h) [
      | inl g ↦ stops_here total s (c ∷ cs) f no_event (inl (refl, refused_sound total c cs f g))
      | inr g ↦ elim (bind_err (take_event s g.0.0) (λ t. reads total k t (ps ++ begin g.0.0) g.0.1) f g.2) [
        | inl m ↦ stops_here total s (c ∷ cs) f (g.0.0 ∷ []) (inr (g.0.0, g.0.1, refl, g.1, take_err s g.0.0 f m))
        | inr m ↦
            let e = lexed_sound total c cs g.0.0 g.0.1 g.1 (taken_whole s m.0 g.0.0 m.1) in
            one_further total s m.0 (c ∷ cs) g.0.1 e.0 g.0.0 f m.1 e.1 e.2
            (reads_err total k m.0 (ps ++ begin g.0.0) g.0.1 f (omega (arith, lexed_less total c cs g.0.0 g.0.1 g.1)) m.2)
      ]
    ]

cells_refuse : (total : ℕ) (cs : List Cell) (f : HtmlFault) → read_on total empty [] cs ≡ Err f → RefusesCells total cs f
cells_refuse total cs f h =
    let r = reads_err total (suc (length cs)) empty [] cs f (omega arith) h in
    (r.us, r.ws, r.es, r.rest, r.to.stack, r.to.done, r.whole, r.written, took_stands empty r.to r.es (r.es ++ r.rest) r.rest r.took (refl, omega arith), r.wrong)

pub refuses : (bs : List ℕ) (f : HtmlFault) → read_bytes bs ≡ Err f → Refuses bs f
unfolding read_bytes
refuses bs f h =
    elim (chosen (is_plain_text bs) (read_cells (length bs) (cells_of bs)) (no_answer bs) (Err f) h) [
      | inr g ↦ inl (not_plain bs g.0, err_same (fault kind.Utf8 (sound_len bs)) f g.1)
      | inl g ↦ elim (bind_err (after_doctype (cells_of bs)) (λ cs. read_on (length bs) empty [] cs) f g.1) [
        | inl e ↦ inr (inl (plain_of bs g.0, doctype_is (cells_of bs) (Err f) e))
        | inr e ↦ inr (inr (plain_of bs g.0, e.0, doctype_is (cells_of bs) (Ok e.0) e.1, cells_refuse (length bs) e.0 f e.2))
      ]
    ]
