-- Reading is exactly the form.
use Rattle.std.proofs.Common.{◌≡◌, ◌<◌, ℕ, zero, suc, List, [], ◌∷◌, ◌++◌, length, refl, ap, ◌∙◌, sym, arith, append_assoc, append-nil}
use Rattle.std.specs.Prelude.{Result, Ok, Err}
use Rattle.std.specs.List.{flat_map}
use Rattle.ng_base.specs.Cells.{Cell}
use Rattle.ng_base.specs.Meets.{◌>>=◌}
use Rattle.ng_base.proofs.Binds.{bind_ok, guarded}
use Rattle.ng_markup.specs.Forest.{Forest}
use Rattle.ng_tags.specs.Free.{fault}
use Rattle.ng_tags.specs.Lexing.{event_at, after_doctype}
use Rattle.ng_tags.specs.Spelling.{Lexeme}
use Rattle.ng_tags.specs.declared.event.Event.{Event}
use Rattle.ng_tags.specs.declared.fault.HtmlFault.{HtmlFault}
use Rattle.ng_tags.specs.declared.fault.HtmlKind.TheVariants as kind
use Rattle.ng_html.specs.Building.{State, take_event, finished, empty}
use Rattle.ng_html.specs.Reading.{begin, reads, read_on, read_cells, cells_of, is_plain_text, sound_len, read_bytes}
use Rattle.ng_html.specs.Running.{run}
use Rattle.ng_html.specs.Grammar.{Written, Spelled, Html}
use Rattle.ng_html.proofs.Bytes.{Answer, plain_of, plain_read}
use Rattle.ng_html.proofs.Lexed.{lexed_less, lexed_sound, lexed_complete, lexeme_some, doctype_is, doctype_complete}
use Rattle.ng_html.proofs.Turns.{read_event_on}
use Rattle.ng_html.proofs.TreeSound.{taken_whole, run_spells}
use Rattle.ng_html.proofs.TreeRuns.{spelled_runs}

abbrev forest_in : Forest → Answer → Forest
forest_in d (Ok r) = r.0
forest_in d (Err e) = d

abbrev places_in : Answer → List ℕ
places_in (Ok r) = r.1
places_in (Err e) = []

abbrev pub answer : Forest → List ℕ → Answer
answer f ps = Ok (f, ps)

record IsRead (total : ℕ) (s : State) (ps : List ℕ) (cs : List Cell) (f : Forest) (qs : List ℕ) : Type 0 where
  es : List Event
  written : Written es cs
  runs : run total s es ≡ Ok f
  places : qs ≡ ps ++ flat_map begin es

reads_written : (total k : ℕ) (s : State) (ps : List ℕ) (cs : List Cell) (f : Forest) (qs : List ℕ) → length cs < k → reads total k s ps cs ≡ answer f qs → IsRead total s ps cs f qs
reads_written total zero s ps cs f qs l h = absurd (omega arith)
reads_written total (suc k) s ps [] f qs l h =
    let b = bind_ok (finished total s) (λ g. Ok (g, ps)) (f, qs) h in
    let same : b.0 ≡ f = ap (forest_in f) b.2 in
    record {
      es = [];
      written = refl;
      runs = b.1 ∙ ap (λ g. let r : Result Forest HtmlFault = Ok g in r) same;
      places = sym (append-nil ps ∙ ap places_in b.2);
    }
reads_written total (suc k) s ps (c ∷ cs) f qs l h =
    let a = bind_ok (event_at total c cs) (λ r. take_event s r.0 >>= λ t. reads total k t (ps ++ begin r.0) r.1) (f, qs) h in
    let b = bind_ok (take_event s a.0.0) (λ t. reads total k t (ps ++ begin a.0.0) a.0.1) (f, qs) a.2 in
    let e = lexed_sound total c cs a.0.0 a.0.1 a.1 (taken_whole s b.0 a.0.0 b.1) in
    let r = reads_written total k b.0 (ps ++ begin a.0.0) a.0.1 f qs (omega (arith, lexed_less total c cs a.0.0 a.0.1 a.1)) b.2 in
    record {
      es = a.0.0 ∷ r.es;
      written = (e.0, a.0.1, e.1, e.2, r.written);
      runs = ap (λ (x : Result State HtmlFault). x >>= λ t. run total t r.es) b.1 ∙ r.runs;
      places = r.places ∙ append_assoc ps (begin a.0.0) (flat_map begin r.es);
    }

-- what is read is spelled
spelled_of : (total : ℕ) (cs : List Cell) (f : Forest) (ps : List ℕ) → read_on total empty [] cs ≡ answer f ps → Spelled cs f ps
spelled_of total cs f ps h =
    let r = reads_written total (suc (length cs)) empty [] cs f ps (omega arith) h in
    let s = run_spells total f r.es r.runs in
    (r.es, r.written, s.0, s.1, r.places)

pub one_read : (total : ℕ) (s t : State) (ps : List ℕ) (e : Event) (us rest : List Cell) → Lexeme e us rest → take_event s e ≡ Ok t → read_on total s ps (us ++ rest) ≡ read_on total t (ps ++ begin e) rest
one_read total s t ps e [] rest l h = absurd (lexeme_some e [] rest l refl)
one_read total s t ps e (c ∷ us) rest l h = read_event_on total s t ps c (us ++ rest) rest e (lexed_complete total e (c ∷ us) rest c us l refl) h

written_read : (total : ℕ) (s : State) (ps : List ℕ) (es : List Event) (cs : List Cell) (f : Forest) → Written es cs → run total s es ≡ Ok f → read_on total s ps cs ≡ answer f (ps ++ flat_map begin es)
written_read total s ps [] cs f w h =
    ap (read_on total s ps) w ∙ (ap (λ (x : Result Forest HtmlFault). x >>= λ g. answer g ps) h ∙ ap (answer f) (sym (append-nil ps)))
written_read total s ps (e ∷ es) cs f w h =
    let b = bind_ok (take_event s e) (λ t. run total t es) f h in
    ap (read_on total s ps) w.2
    ∙ (one_read total s b.0 ps e w.0 w.1 w.3 b.1
    ∙ (written_read total b.0 (ps ++ begin e) es w.1 f w.4 b.2
    ∙ ap (answer f) (append_assoc ps (begin e) (flat_map begin es))))

-- what is spelled is read
pub spelled_read : (total : ℕ) (cs : List Cell) (f : Forest) (ps : List ℕ) → Spelled cs f ps → read_on total empty [] cs ≡ answer f ps
spelled_read total cs f ps h =
    written_read total empty [] h.0 cs f h.1 (spelled_runs total f h.0 h.2 h.3) ∙ ap (answer f) (sym h.4)

pub html_of : (bs : List ℕ) (f : Forest) (ps : List ℕ) → read_bytes bs ≡ answer f ps → Html bs f ps
unfolding read_bytes
html_of bs f ps h =
    let g = guarded (is_plain_text bs) (read_cells (length bs) (cells_of bs)) (fault kind.Utf8 (sound_len bs)) (f, ps) h in
    let b = bind_ok (after_doctype (cells_of bs)) (λ cs. read_on (length bs) empty [] cs) (f, ps) g.1 in
    (plain_of bs g.0, b.0, doctype_is (cells_of bs) (Ok b.0) b.1, spelled_of (length bs) b.0 f ps b.2)

pub html_read : (bs : List ℕ) (f : Forest) (ps : List ℕ) → Html bs f ps → read_bytes bs ≡ answer f ps
html_read bs f ps h =
    plain_read bs h.0
    ∙ (ap (λ (r : Result (List Cell) HtmlFault). r >>= λ cs. read_on (length bs) empty [] cs) (doctype_complete (cells_of bs) (Ok h.1) h.2)
    ∙ spelled_read (length bs) h.1 f ps h.3)
