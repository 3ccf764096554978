-- The first fault of a start tag has its reason.
use Rattle.std.proofs.Common.{◌≡◌, ℕ, true, false, ◌&&◌, List, [], ◌∷◌, ◌++◌, map, refl, ap, ◌∙◌, sym, subst, inl, inr, append_assoc, append-nil}
use Rattle.std.specs.Prelude.{Option, None, Some, is_some, Result, Ok, Err, if◌then◌else◌, ◌==◌, codes}
use Rattle.std.specs.List.{list_all}
use Rattle.ng_base.specs.Cells.{Cell}
use Rattle.ng_base.proofs.Binds.{chosen, guarded}
use Rattle.ng_markup.specs.Tables.{is_left_out, is_raw}
use Rattle.ng_tags.specs.Free.{fault, met_or}
use Rattle.std.specs.Char.{is_ascii_alphabetic}
use Rattle.ng_tags.specs.Letters.{is_in_name, lower}
use Rattle.ng_tags.specs.Skips.{past_word, name_run, place_in}
use Rattle.ng_tags.specs.References.{character}
use Rattle.ng_tags.specs.Texts.{no_text, tag_follows, text_run, past_end_tag}
use Rattle.ng_tags.specs.Attributes.{attributes}
use Rattle.ng_tags.specs.Tags.{tag_of, with_fault, behind_tag, past_end, raw_or, raw_with, raw_event, opens_raw, may_follow_name, start_with, start_tag, end_tag}
use Rattle.ng_tags.specs.Lexing.{comment, markup, text_event, text_behind, event_at}
use Rattle.ng_tags.specs.Spelling.{chars_of, Reads, Ended, IsStartTag, Dropped}
use Rattle.ng_tags.specs.Refusals.{IsWholeName}
use Rattle.ng_tags.specs.Faults.{MayFollow, IsFaulty, in_tag, content_cut, bad_in_content}
use Rattle.ng_tags.specs.declared.attributes.Inside.{Inside}
use Rattle.ng_tags.specs.declared.event.Event.{Event}
use Rattle.ng_tags.specs.declared.event.Event.TheVariants as event
use Rattle.ng_tags.specs.declared.event.Tag.{Tag}
use Rattle.ng_tags.specs.declared.fault.HtmlFault.{HtmlFault}
use Rattle.ng_tags.specs.declared.fault.HtmlKind.TheVariants as kind
use Rattle.ng_tags.specs.declared.texts.Decoded.{Decoded}
use Rattle.ng_tags.specs.declared.until.Until.TheVariants as until
use Rattle.ng_tags.proofs.Runs.{is_code, both_true, name_runs}
use Rattle.ng_tags.proofs.TextSound.{text_read}
use Rattle.ng_tags.proofs.TextRefused.{text_bad}
use Rattle.ng_tags.proofs.AttributeSound.{Attributed, attributes_read}
use Rattle.ng_tags.proofs.TagSound.{some_attributes, name_ends_of, dropped_by, raw_parts, none_opened}
use Rattle.ng_tags.proofs.InsideRefused.{inside_wrong}
use Rattle.ng_tags.proofs.NoStart.{end_no_start, comment_no_start, text_no_start, no_start}

abbrev fault_in : HtmlFault → Event → Option HtmlFault
fault_in g (event.Start t) = t.fault
fault_in g (event.Raw t text p) = None
fault_in g (event.End n p) = None
fault_in g (event.Text t p) = None
fault_in g (event.Comment t p) = None

abbrev fault_or : HtmlFault → Option HtmlFault → HtmlFault
fault_or g None = g
fault_or g (Some f) = f

may_follow_of : (ds : List Cell) → may_follow_name ds ≡ true → MayFollow ds
may_follow_of [] h = tt
may_follow_of (c ∷ cs) h = h

-- what is known of a tag whose content is text alone, and not whole
record Content (c : Cell) (cs : List Cell) (t : Tag) (inner : List Cell) : Type 0 where
  tag : List Cell
  dropped : List Cell
  whole : c ∷ cs ≡ tag ++ (dropped ++ inner)
  is_tag : IsStartTag t tag (dropped ++ inner)
  raw : is_raw t.name ≡ true
  unclosed : t.closed ≡ false
  drops : Dropped t.name inner dropped

no_more_left : (n : List ℕ) (more : List Cell) → Ended (until.EndTag n) more → past_end n more ≡ None → more ≡ []
no_more_left n [] e h = refl
no_more_left n (z ∷ zs) e h =
    let yes : true ≡ false = sym (both_true (z.0 == 60) (is_some (past_end_tag n zs)) e).1 ∙ ap is_some h in
    absurd (cc (yes))

open_content : (total : ℕ) (c : Cell) (cs : List Cell) (t : Tag) (inner more : List Cell) (d : Decoded) → Content c cs t inner → text_run (until.EndTag t.name) inner ≡ (d, more) → d.fault ≡ None → past_end t.name more ≡ None → IsFaulty total c cs (fault kind.Unclosed total)
open_content total c cs t inner more d k h n e =
    let x = text_read (until.EndTag t.name) no_text d inner more h n in
    let over : more ≡ [] = no_more_left t.name more x.ended e in
    let left : inner ≡ x.us = x.whole ∙ (ap (λ xs. x.us ++ xs) over ∙ append-nil x.us) in
    let reads : Reads (until.EndTag t.name) [] inner x.t = subst (λ (xs : List Cell). Reads (until.EndTag t.name) [] xs x.t) (sym left) (subst (λ (xs : List Cell). Reads (until.EndTag t.name) xs x.us x.t) over x.reads) in
    content_cut t k.tag k.dropped inner x.t k.whole k.is_tag k.raw k.unclosed k.drops reads

bad_content : (total : ℕ) (c : Cell) (cs : List Cell) (t : Tag) (inner : List Cell) (g : HtmlFault) → Content c cs t inner → (text_run (until.EndTag t.name) inner).0.fault ≡ Some g → IsFaulty total c cs g
bad_content total c cs t inner g k h =
    let b = text_bad (until.EndTag t.name) inner g h in
    subst (λ (x : HtmlFault). IsFaulty total c cs x) (sym b.is_fault) (bad_in_content t k.tag k.dropped inner b.p k.whole k.is_tag k.raw k.unclosed k.drops b.bad)

as_fault : (total : ℕ) (c : Cell) (cs : List Cell) (f g : HtmlFault) (e : Event) (r : Event) → e ≡ r → fault_in f e ≡ Some f → fault_in f r ≡ Some g → IsFaulty total c cs g → IsFaulty total c cs f
as_fault total c cs f g e r h i j w =
    let same : Some g ≡ Some f = sym j ∙ (ap (fault_in f) (sym h) ∙ i) in
    subst (λ (x : HtmlFault). IsFaulty total c cs x) (ap (fault_or f) same) w

-- the content of an element of text alone that is not whole
raw_faulty : (total : ℕ) (c : Cell) (cs : List Cell) (t : Tag) (inner : List Cell) (e : Event) (rest : List Cell) (f : HtmlFault) (d : Decoded) (more : List Cell) (g : Option HtmlFault) (o : Option (List Cell)) → Content c cs t inner → text_run (until.EndTag t.name) inner ≡ (d, more) → d.fault ≡ g → past_end t.name more ≡ o →
    raw_with total t (place_in total inner) d more o ≡ (e, rest) → fault_in f e ≡ Some f → IsFaulty total c cs f
raw_faulty total c cs t inner e rest f d more None None k h i p w v =
    let was : event.Start (with_fault t (fault kind.Unclosed total)) ≡ e =
    ap (λ (x : Option HtmlFault). event.Start (with_fault t (met_or x (fault kind.Unclosed total)))) (sym i) ∙ ap (λ (r : Event × List Cell). r.0) w in
    as_fault total c cs f (fault kind.Unclosed total) e (event.Start (with_fault t (fault kind.Unclosed total))) (sym was) v refl (open_content total c cs t inner more d k h i p)
raw_faulty total c cs t inner e rest f d more (Some g) None k h i p w v =
    let was : event.Start (with_fault t g) ≡ e =
    ap (λ (x : Option HtmlFault). event.Start (with_fault t (met_or x (fault kind.Unclosed total)))) (sym i) ∙ ap (λ (r : Event × List Cell). r.0) w in
    as_fault total c cs f g e (event.Start (with_fault t g)) (sym was) v refl (bad_content total c cs t inner g k (ap (λ (r : Decoded × List Cell). r.0.fault) h ∙ i))
raw_faulty total c cs t inner e rest f d more None (Some left) k h i p w v =
    let was : event.Raw t d.text (place_in total inner) ≡ e = ap (raw_or t (place_in total inner) d.text) (sym i) ∙ ap (λ (r : Event × List Cell). r.0) w in
    let no_one : None ≡ Some f = ap (fault_in f) was ∙ v in
    absurd (cc (no_one))
raw_faulty total c cs t inner e rest f d more (Some g) (Some left) k h i p w v =
    let was : event.Start (with_fault t g) ≡ e = ap (raw_or t (place_in total inner) d.text) (sym i) ∙ ap (λ (r : Event × List Cell). r.0) w in
    as_fault total c cs f g e (event.Start (with_fault t g)) (sym was) v refl (bad_content total c cs t inner g k (ap (λ (r : Decoded × List Cell). r.0.fault) h ∙ i))

-- a start tag without a fault so far
tag_is : (a c : Cell) (m : List ℕ) (ds : List Cell) (i : Inside × List Cell) (w : List Cell) → a.0 ≡ 60 → is_ascii_alphabetic c.0 ≡ true → list_all is_in_name (chars_of w) ≡ true → m ≡ (lower c.0 ∷ []) ++ map lower (chars_of w) → is_left_out m ≡ false → may_follow_name ds ≡ true →
    (k : Attributed [] None i.0 ds i.1) → i.0.fault ≡ None → IsStartTag (tag_of m a.1 i.0) (a ∷ ((c ∷ w) ++ k.us)) i.1
tag_is a c m ds i w h l al rd lo mf k nf = record {
  first = a;
  name = c ∷ w;
  inside = k.us;
  whole = refl;
  sign = h;
  place = refl;
  characters = (l, al);
  in_lower = rd;
  not_left_out = lo;
  name_ends = name_ends_of k.us i.1 (some_attributes i.1 [] k.us i.0.attrs i.0.closed k.are) (subst (λ (xs : List Cell). may_follow_name xs ≡ true) k.whole mf);
  attributes = k.are;
  no_fault = nf;
}

behind_faulty : (total : ℕ) (a c : Cell) (cs : List Cell) (e : Event) (rest : List Cell) (f : HtmlFault) (m : List ℕ) (ds : List Cell) (i : Inside × List Cell) (w : List Cell) → a.0 ≡ 60 → is_ascii_alphabetic c.0 ≡ true → cs ≡ w ++ ds → list_all is_in_name (chars_of w) ≡ true →
    m ≡ (lower c.0 ∷ []) ++ map lower (chars_of w) → IsWholeName m (c ∷ w) ds → is_left_out m ≡ false → may_follow_name ds ≡ true → attributes total ds ≡ i → start_with total a.1 m i ≡ (e, rest) → fault_in f e ≡ Some f → IsFaulty total a (c ∷ cs) f
behind_faulty total a c cs e rest f m ds i w h l wh al rd nm lo mf q x v =
    let t0 = tag_of m a.1 i.0 in
    let cs1 = behind_tag m i.1 in
    elim (chosen (opens_raw t0) (raw_event total t0 cs1) (event.Start t0, cs1) (e, rest) x) [
      | inl g ↦
          let nf : i.0.fault ≡ None = none_opened t0 g.0 in
          let parts = raw_parts t0 nf g.0 in
          let k = attributes_read total ds i.0 i.1 q nf in
          let d = dropped_by m i.1 cs1 refl in
          let r = text_run (until.EndTag m) cs1 in
          let tag = a ∷ ((c ∷ w) ++ k.us) in
          let front : a ∷ c ∷ cs ≡ tag ++ (d.ds ++ cs1) =
          ap (λ xs. a ∷ c ∷ xs) (wh ∙ (ap (λ xs. w ++ xs) (k.whole ∙ ap (λ xs. k.us ++ xs) d.whole) ∙ sym (append_assoc w k.us (d.ds ++ cs1)))) in
          let content : Content a (c ∷ cs) t0 cs1 = record {
            tag = tag;
            dropped = d.ds;
            whole = front;
            is_tag = subst (λ (xs : List Cell). IsStartTag t0 tag xs) d.whole (tag_is a c m ds i w h l al rd lo mf k nf);
            raw = parts.0;
            unclosed = parts.1;
            drops = d.drops;
          } in
          raw_faulty total a (c ∷ cs) t0 cs1 e rest f r.0 r.1 r.0.fault (past_end m r.1) content refl refl refl g.1 v
      | inr g ↦
          let was : event.Start t0 ≡ e = ap (λ (r : Event × List Cell). r.0) g.1 in
          let found : i.0.fault ≡ Some f = ap (fault_in f) was ∙ v in
          in_tag m (c ∷ w) ds f h (ap (λ xs. c ∷ xs) wh) nm lo (may_follow_of ds mf) (inside_wrong total ds f (ap (λ (r : Inside × List Cell). r.0.fault) q ∙ found))
    ]

start_faulty : (total : ℕ) (a c : Cell) (cs : List Cell) (e : Event) (rest : List Cell) (f : HtmlFault) → a.0 ≡ 60 → is_ascii_alphabetic c.0 ≡ true → start_tag total a.1 (name_run (lower c.0 ∷ []) cs) ≡ Ok (e, rest) → fault_in f e ≡ Some f → IsFaulty total a (c ∷ cs) f
start_faulty total a c cs e rest f h l s v =
    let r = name_run (lower c.0 ∷ []) cs in
    let i = attributes total r.1 in
    let w = name_runs (lower c.0 ∷ []) r.0 cs r.1 refl in
    let bad : Result (Event × List Cell) HtmlFault = Err (fault kind.BadTag a.1) in
    let good : Result (Event × List Cell) HtmlFault = Ok (start_with total a.1 r.0 i) in
    elim (chosen (is_left_out r.0) bad (if may_follow_name r.1 then good else bad) (Ok (e, rest)) s) [
      | inl g ↦ absurd (cc (g.1))
      | inr g ↦
          let m = guarded (may_follow_name r.1) good (fault kind.BadTag a.1) (e, rest) g.1 in
          let x : start_with total a.1 r.0 i ≡ (e, rest) = cc (m.1) in
          behind_faulty total a c cs e rest f r.0 r.1 i w.w h l w.whole w.all w.read (record { characters = (l, w.all); in_lower = w.read; name_ends = w.stops }) g.0 m.0 refl x v
    ]

markup_faulty : (total : ℕ) (a : Cell) (cs : List Cell) (t : Tag) (rest : List Cell) (f : HtmlFault) → a.0 ≡ 60 → markup total a.1 cs ≡ Ok (event.Start t, rest) → t.fault ≡ Some f → IsFaulty total a cs f
markup_faulty total a [] t rest f h s v = absurd (cc (s))
markup_faulty total a (c ∷ cs) t rest f h s v =
    let bad : Result (Event × List Cell) HtmlFault = Err (fault kind.BadTag a.1) in
    let start = start_tag total a.1 (name_run (lower c.0 ∷ []) cs) in
    let note = comment total a.1 (past_word (codes "--") cs) in
    elim (chosen (is_ascii_alphabetic c.0) start (if c.0 == 47 then end_tag total a.1 cs else if c.0 == 33 then note else bad) (Ok (event.Start t, rest)) s) [
      | inl g ↦ start_faulty total a c cs (event.Start t) rest f h g.0 g.1 v
      | inr g ↦ elim (chosen (c.0 == 47) (end_tag total a.1 cs) (if c.0 == 33 then note else bad) (Ok (event.Start t, rest)) g.1) [
        | inl k ↦ absurd (no_start (end_tag total a.1 cs) t rest (end_no_start total a.1 cs) k.1)
        | inr k ↦
            let x = guarded (c.0 == 33) note (fault kind.BadTag a.1) (event.Start t, rest) k.1 in
            absurd (no_start note t rest (comment_no_start total a.1 (past_word (codes "--") cs)) x.1)
      ]
    ]

-- the first fault of a start tag has its reason, at its place
pub faulty_sound : (total : ℕ) (c : Cell) (cs : List Cell) (t : Tag) (rest : List Cell) (f : HtmlFault) → event_at total c cs ≡ Ok (event.Start t, rest) → t.fault ≡ Some f → IsFaulty total c cs f
faulty_sound total c cs t rest f h v =
    let d = text_behind c.1 (character c.0 cs) in
    elim (chosen (c.0 == 60 && tag_follows cs) (markup total c.1 cs) (text_event c.1 d) (Ok (event.Start t, rest)) h) [
      | inl g ↦ markup_faulty total c cs t rest f (is_code c.0 60 (both_true (c.0 == 60) (tag_follows cs) g.0).0) g.1 v
      | inr g ↦ absurd (no_start (text_event c.1 d) t rest (text_no_start c.1 d.0.text d.0.fault d.1) g.1)
    ]
