-- There is one refusal: what is wrong is what is refused.
use Rattle.std.proofs.Common.{◌≡◌, ◌≤◌, ◌<◌, ℕ, Bool, true, false, not, ◌&&◌, nat_lt, List, [], ◌∷◌, ◌++◌, length, refl, ap, ◌∙◌, sym, subst, arith, inl, inr, append_assoc, append-nil, length-append}
use Rattle.std.proofs.lemmas.Bool.Decides.{nat_tests}
use Rattle.std.proofs.lemmas.Slice.Eq.{bytes_eq-Decides}
use Rattle.std.specs.Prelude.{Result, Ok, Err, if◌then◌else◌}
use Rattle.std.specs.Str.{bytes_eq}
use Rattle.std.specs.List.{flat_map}
use Rattle.ng_base.specs.Cells.{Cell}
use Rattle.ng_base.specs.Meets.{◌>>=◌}
use Rattle.ng_base.proofs.Binds.{if_true, if_false}
use Rattle.ng_markup.specs.Tables.{is_void, is_omittable}
use Rattle.ng_markup.specs.Forest.{Forest, element}
use Rattle.ng_tags.specs.Free.{fault}
use Rattle.ng_tags.specs.declared.event.Event.{Event}
use Rattle.ng_tags.specs.declared.event.Event.TheVariants as event
use Rattle.ng_tags.specs.declared.event.Tag.{Tag}
use Rattle.ng_tags.specs.declared.fault.HtmlFault.{HtmlFault}
use Rattle.ng_tags.specs.declared.fault.HtmlKind.TheVariants as kind
use Rattle.ng_html.proofs.Lexed.{refused_complete, doctype_complete}
use Rattle.ng_html.specs.Building.{State, Around, open_limit, ended, take_event, unharmed, admitted, opened, content, entered, entered_raw, shut_by, close, finish_of, finished, with_leaf, empty}
use Rattle.ng_html.specs.Reading.{begin, read_on, read_bytes, cells_of}
use Rattle.ng_html.specs.Running.{run}
use Rattle.ng_html.specs.Standing.{Stands}
use Rattle.ng_html.specs.Refusals.{WrittenBefore, CanEnd, CanFinish, IsWrongTag, IsWrongEvent, IsWrong, RefusesCells, Refuses}
use Rattle.ng_html.proofs.Bytes.{Answer, plain_read, no_plain_read}
use Rattle.ng_html.proofs.Turns.{read_event_err, take_event_err}
use Rattle.ng_html.proofs.TreeRuns.{R_stands, finish_more}
use Rattle.ng_html.proofs.Refused.{shut_left}
use Rattle.ng_html.proofs.Whole.{one_read}

abbrev at : List Around → Forest → State
at os done = record { stack = os; done = done }

-- the events that are left where the first is refused, with it
abbrev stuck_on : Result State HtmlFault → List Event → List Event → (State → List Event → List Event) → List Event
stuck_on (Ok t) es all go = go t es
stuck_on (Err f) es all go = all

abbrev stuck : State → List Event → List Event
stuck s [] = []
stuck s (e ∷ es) = stuck_on (take_event s e) es (e ∷ es) (λ t rest. stuck t es)

abbrev Took : State → List Event → State → Type 0
Took s [] t = s ≡ t
Took s (e ∷ es) t = (u : State) × (take_event s e ≡ Ok u) × Took u es t

-- where no more is left than what stands behind, all before was taken
all_took : (s : State) (es rest : List Event) → length (stuck s (es ++ rest)) ≤ length rest → (t : State) × Took s es t × (stuck s (es ++ rest) ≡ stuck t rest)
all_took s [] rest h = (s, refl, refl)
all_took s (e ∷ es) rest h = by (take_event s e) refl h (λ u k. all_took u es rest k)
  where
    by : (r : Result State HtmlFault) → take_event s e ≡ r → length (stuck_on r (es ++ rest) (e ∷ (es ++ rest)) (λ t x. stuck t (es ++ rest))) ≤ length rest →
        ((u : State) → length (stuck u (es ++ rest)) ≤ length rest → (t : State) × Took u es t × (stuck u (es ++ rest) ≡ stuck t rest)) →
        (t : State) × Took s (e ∷ es) t × (stuck_on r (es ++ rest) (e ∷ (es ++ rest)) (λ t x. stuck t (es ++ rest)) ≡ stuck t rest)
    by (Ok u) i h ih = let r = ih u h in (r.0, (u, i, r.1), r.2)
    by (Err f) i h ih = absurd (omega (arith, length-append es rest))

abbrev stuck_next : Event → List Event → Result State HtmlFault → List Event
stuck_next e es r = stuck_on r es (e ∷ es) (λ t rest. stuck t es)

stuck_short : (rest : List Event) (s : State) → length (stuck s rest) ≤ length rest
stuck_short [] s = omega arith
stuck_short (e ∷ es) s = by (take_event s e) (λ u. stuck_short es u)
  where
    by : (r : Result State HtmlFault) → ((u : State) → length (stuck u es) ≤ length es) → length (stuck_on r es (e ∷ es) (λ t x. stuck t es)) ≤ length (e ∷ es)
    by (Ok u) ih = omega (arith, ih u)
    by (Err f) ih = omega arith

-- where what stands goes on with these events, all before was taken
stands_took : (os : List Around) (done : Forest) (es rest : List Event) → Stands os done (es ++ rest) rest → (t : State) × Took empty es t × (stuck (at os done) rest ≡ stuck t rest)
stands_took os done es rest s =
    let same : stuck empty (es ++ rest) ≡ stuck (at os done) rest = R_stands (List Event) stuck stuck_next (λ t e es. refl) (λ s e es. refl) (λ o os k h. refl) os done (es ++ rest) rest s in
    let r = all_took empty es rest (subst (λ (xs : List Event). length xs ≤ length rest) (sym same) (stuck_short rest (at os done))) in
    (r.0, r.1, sym same ∙ r.2)

took_run : (total : ℕ) (s t : State) (es rest : List Event) → Took s es t → run total s (es ++ rest) ≡ run total t rest
took_run total s t [] rest h = ap (λ (u : State). run total u rest) h
took_run total s t (e ∷ es) rest h = ap (λ (x : Result State HtmlFault). x >>= λ u. run total u (es ++ rest)) h.1 ∙ took_run total h.0 t es rest h.2

same_run : (total : ℕ) (os : List Around) (done : Forest) (t : State) (es rest : List Event) → Stands os done (es ++ rest) rest → Took empty es t → run total t rest ≡ run total (at os done) rest
same_run total os done t es rest s h =
    sym (took_run total empty t es rest h)
    ∙ R_stands (Result Forest HtmlFault) (run total) (λ e es r. r >>= λ u. run total u es) (λ t e es. refl) (λ s e es. refl) (finish_more total) os done (es ++ rest) rest s

took_read : (total : ℕ) (s t : State) (ps : List ℕ) (es : List Event) (us ws : List Cell) → WrittenBefore es us ws → Took s es t → read_on total s ps (us ++ ws) ≡ read_on total t (ps ++ flat_map begin es) ws
took_read total s t ps [] us ws w h =
    ap (λ xs. read_on total s ps (xs ++ ws)) w ∙ (ap (λ (u : State). read_on total u ps ws) h ∙ ap (λ xs. read_on total t xs ws) (sym (append-nil ps)))
took_read total s t ps (e ∷ es) us ws w h =
    ap (λ xs. read_on total s ps (xs ++ ws)) w.2
    ∙ (ap (read_on total s ps) (append_assoc w.0 w.1 ws)
    ∙ (one_read total s h.0 ps e w.0 (w.1 ++ ws) w.3 h.1
    ∙ (took_read total h.0 t (ps ++ begin e) es w.1 ws w.4 h.2
    ∙ ap (λ xs. read_on total t xs ws) (append_assoc ps (begin e) (flat_map begin es)))))

-- what is wrong about an event
close_not : (os : List Around) (done : Forest) (n : List ℕ) (p : ℕ) → (CanEnd n os → ⊥) → close os done n p ≡ Err (fault kind.Unmatched p)
close_not [] done n p c = refl
close_not (o ∷ os) done n p c = by (bytes_eq o.name n) (is_omittable o.name) refl refl (λ k. close_not os (ended o done) n p k)
  where
    by : (b d : Bool) → bytes_eq o.name n ≡ b → is_omittable o.name ≡ d → ((CanEnd n os → ⊥) → close os (ended o done) n p ≡ Err (fault kind.Unmatched p)) →
        (if b then Ok (at os (ended o done)) else (if d then close os (ended o done) n p else Err (fault kind.Unmatched p))) ≡ Err (fault kind.Unmatched p)
    by true d h i ih = absurd (c (inl ((bytes_eq-Decides o.name n).0 h)))
    by false true h i ih = ih (λ k. c (inr (i, k)))
    by false false h i ih = refl

finish_not : (total : ℕ) (os : List Around) (done : Forest) → (CanFinish os → ⊥) → finish_of total os done ≡ Err (fault kind.Unclosed total)
finish_not total [] done c = absurd (c tt)
finish_not total (o ∷ os) done c = by (is_omittable o.name) refl (λ k. finish_not total os (ended o done) k)
  where
    by : (d : Bool) → is_omittable o.name ≡ d → ((CanFinish os → ⊥) → finish_of total os (ended o done) ≡ Err (fault kind.Unclosed total)) →
        (if d then finish_of total os (ended o done) else Err (fault kind.Unclosed total)) ≡ Err (fault kind.Unclosed total)
    by true i ih = ih (λ k. c (i, k))
    by false i ih = refl

abbrev Admission : Type 0
Admission = Result (Unit {0}) HtmlFault

abbrev self_closed : Tag → Bool → Admission
self_closed t v = if t.closed && not v then Err (fault kind.SelfClosed t.place) else unharmed t.fault

admitted_room : (os : List Around) (t : Tag) (v : Bool) → length os < open_limit → admitted (length os) t v ≡ self_closed t v
admitted_room os t v h = if_true (nat_lt (length os) open_limit) (self_closed t v) (Err (fault kind.TooDeep t.place)) (grind (arith, nat_tests, h))

admitted_not : (os : List Around) (t : Tag) (v : Bool) (f : HtmlFault) → IsWrongTag os t v f → admitted (length os) t v ≡ Err f
admitted_not os t v f (inl (h, e)) =
    if_false (nat_lt (length os) open_limit) (self_closed t v) (Err (fault kind.TooDeep t.place)) (grind (arith, nat_tests, h))
    ∙ ap (λ (x : HtmlFault). let q : Admission = Err x in q) (sym e)
admitted_not os t v f (inr (inl (h, c, e))) =
    admitted_room os t v h
    ∙ (if_true (t.closed && not v) (Err (fault kind.SelfClosed t.place)) (unharmed t.fault) c
    ∙ ap (λ (x : HtmlFault). let q : Admission = Err x in q) (sym e))
admitted_not os t v f (inr (inr (h, c, e))) =
    admitted_room os t v h
    ∙ (if_false (t.closed && not v) (Err (fault kind.SelfClosed t.place)) (unharmed t.fault) c
    ∙ ap unharmed e)

entered_not : (s : State) (t : Tag) (f : HtmlFault) → IsWrongTag s.stack t (is_void t.name) f → entered s t ≡ Err f
entered_not s t f h = ap (λ (r : Admission). let q : Result State HtmlFault = (r >>= λ u. Ok (opened s t)) in q) (admitted_not s.stack t (is_void t.name) f h)

raw_not : (s : State) (t : Tag) (x : List ℕ) (f : HtmlFault) → IsWrongTag s.stack t false f → entered_raw s t x ≡ Err f
raw_not s t x f h = ap (λ (r : Admission). let q : Result State HtmlFault = (r >>= λ u. Ok (with_leaf s (element t.name t.attrs (content x)))) in q) (admitted_not s.stack t false f h)

take_not : (os : List Around) (done : Forest) (e : Event) (f : HtmlFault) → IsWrongEvent os e f → take_event (at os done) e ≡ Err f
take_not os done (event.Start t) f h =
    entered_not (shut_by t.name os done) t f (subst (λ (xs : List Around). IsWrongTag xs t (is_void t.name) f) (sym (shut_left t.name os done)) h)
take_not os done (event.Raw t x q) f h =
    raw_not (shut_by t.name os done) t x f (subst (λ (xs : List Around). IsWrongTag xs t false f) (sym (shut_left t.name os done)) h)
take_not os done (event.End n p) f h = close_not os done n p h.0 ∙ ap (λ (x : HtmlFault). let q : Result State HtmlFault = Err x in q) (sym h.1)
take_not os done (event.Text t p) f h = absurd h
take_not os done (event.Comment t p) f h = absurd h

-- what the state that stands refuses, the state that was built refuses
event_not : (total : ℕ) (s t : State) (e : Event) (f : HtmlFault) → take_event s e ≡ Err f → stuck s (e ∷ []) ≡ stuck t (e ∷ []) → run total t (e ∷ []) ≡ run total s (e ∷ []) → take_event t e ≡ Err f
event_not total s t e f h i j = by (take_event t e) refl
  where
    all_left : stuck s (e ∷ []) ≡ e ∷ []
    all_left = ap (λ (r : Result State HtmlFault). stuck_on r [] (e ∷ []) (λ t x. stuck t [])) h

    run_err : run total s (e ∷ []) ≡ Err f
    run_err = ap (λ (r : Result State HtmlFault). r >>= λ u. run total u []) h

    by : (r : Result State HtmlFault) → take_event t e ≡ r → r ≡ Err f
    by (Ok u) k = let none : stuck t (e ∷ []) ≡ [] = ap (λ (r : Result State HtmlFault). stuck_on r [] (e ∷ []) (λ t x. stuck t [])) k in absurd (cc)
    by (Err g) k =
        let m : run total t (e ∷ []) ≡ Err g = ap (λ (r : Result State HtmlFault). r >>= λ u. run total u []) k in
        let n : g ≡ f = cc in
        ap (λ (x : HtmlFault). Err x) n

wrong_read : (total : ℕ) (os : List Around) (done : Forest) (t : State) (ps : List ℕ) (rest : List Event) (ws : List Cell) (f : HtmlFault) →
    stuck (at os done) rest ≡ stuck t rest → run total t rest ≡ run total (at os done) rest → IsWrong total os rest ws f → read_on total t ps ws ≡ Err f
wrong_read total os done t ps rest [] f i j (none, cannot, e) =
    let here : run total t [] ≡ run total (at os done) [] = subst (λ (es : List Event). run total t es ≡ run total (at os done) es) none j in
    let r : finished total t ≡ Err (fault kind.Unclosed total) = here ∙ finish_not total os done cannot in
    ap (λ (x : Result Forest HtmlFault). x >>= λ g. let q : Answer = Ok (g, ps) in q) r ∙ ap (λ (x : HtmlFault). let q : Answer = Err x in q) (sym e)
wrong_read total os done t ps rest (c ∷ cs) f i j (inl (none, e)) = read_event_err total t ps c cs f (refused_complete total c cs f e)
wrong_read total os done t ps rest (c ∷ cs) f i j (inr (e, more, one, l, w)) =
    let h = event_not total (at os done) t e f (take_not os done e f w) (subst (λ (es : List Event). stuck (at os done) es ≡ stuck t es) one i) (subst (λ (es : List Event). run total t es ≡ run total (at os done) es) one j) in
    take_event_err total t ps c cs more e f l h

cells_refused : (total : ℕ) (cs : List Cell) (f : HtmlFault) → RefusesCells total cs f → read_on total empty [] cs ≡ Err f
cells_refused total cs f (us, ws, es, rest, os, done, whole, written, stands, wrong) =
    let t = stands_took os done es rest stands in
    ap (read_on total empty []) whole
    ∙ (took_read total empty t.0 [] es us ws written t.1
    ∙ wrong_read total os done t.0 (flat_map begin es) rest ws f t.2 (same_run total os done t.0 es rest stands t.1) wrong)

pub refused_read : (bs : List ℕ) (f : HtmlFault) → Refuses bs f → read_bytes bs ≡ Err f
refused_read bs f (inl (h, e)) = no_plain_read bs h ∙ ap (λ (x : HtmlFault). let q : Answer = Err x in q) (sym e)
refused_read bs f (inr (inl (h, e))) = plain_read bs h ∙ ap (λ (r : Result (List Cell) HtmlFault). r >>= λ cs. read_on (length bs) empty [] cs) (doctype_complete (cells_of bs) (Err f) e)
refused_read bs f (inr (inr (h, cs, e, w))) =
    plain_read bs h
    ∙ (ap (λ (r : Result (List Cell) HtmlFault). r >>= λ cs. read_on (length bs) empty [] cs) (doctype_complete (cells_of bs) (Ok cs) e)
    ∙ cells_refused (length bs) cs f w)
