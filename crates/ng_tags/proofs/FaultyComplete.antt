-- What has a reason to be faulty has it as its first fault.
use Rattle.std.proofs.Common.{◌≡◌, ℕ, Bool, true, false, not, ◌&&◌, List, [], ◌∷◌, ◌++◌, refl, ap, ◌∙◌, sym, subst, append-nil}
use Rattle.std.specs.Prelude.{Option, None, Some, is_none, Result, Ok, Err, if◌then◌else◌}
use Rattle.ng_base.specs.Cells.{Cell}
use Rattle.ng_base.proofs.Binds.{if_true, if_false}
use Rattle.ng_markup.specs.Tables.{is_left_out, is_raw}
use Rattle.ng_tags.specs.Free.{fault, met_or}
use Rattle.ng_tags.specs.Letters.{lower}
use Rattle.ng_tags.specs.Skips.{name_run, place_in}
use Rattle.ng_tags.specs.Texts.{decoded, text_run}
use Rattle.ng_tags.specs.Attributes.{attributes}
use Rattle.ng_tags.specs.Tags.{tag_of, with_fault, behind_tag, past_end, raw_or, raw_with, raw_from, raw_event, opens_raw, started, may_follow_name, start_with, start_tag}
use Rattle.ng_tags.specs.Lexing.{event_at}
use Rattle.ng_tags.specs.Spelling.{IsStartTag, Dropped}
use Rattle.ng_tags.specs.Refusals.{IsWholeName}
use Rattle.ng_tags.specs.Faults.{MayFollow, IsFaulty, in_tag, content_cut, bad_in_content}
use Rattle.ng_tags.specs.declared.event.Event.{Event}
use Rattle.ng_tags.specs.declared.event.Event.TheVariants as event
use Rattle.ng_tags.specs.declared.event.Tag.{Tag}
use Rattle.ng_tags.specs.declared.fault.HtmlFault.{HtmlFault}
use Rattle.ng_tags.specs.declared.fault.HtmlKind.TheVariants as kind
use Rattle.ng_tags.specs.declared.texts.Decoded.{Decoded}
use Rattle.ng_tags.specs.declared.until.Until.TheVariants as until
use Rattle.ng_tags.proofs.Runs.{both, name_run_on}
use Rattle.ng_tags.proofs.TextComplete.{reads_run}
use Rattle.ng_tags.proofs.TextRefused.{bad_text}
use Rattle.ng_tags.proofs.TagSound.{opens_whole}
use Rattle.ng_tags.proofs.TagComplete.{drops_on}
use Rattle.ng_tags.proofs.EventComplete.{markup_on, letter_on, begins_letter, tagged}
use Rattle.ng_tags.proofs.InsideComplete.{wrong_inside}

-- a start tag with a fault is read
pub record Faulted (total : ℕ) (c : Cell) (cs : List Cell) (f : HtmlFault) : Type 0 where
  pub tag : Tag
  pub rest : List Cell
  pub read : event_at total c cs ≡ Ok (event.Start tag, rest)
  pub faulty : tag.fault ≡ Some f

may_follow_on : (ds : List Cell) → MayFollow ds → may_follow_name ds ≡ true
may_follow_on [] h = refl
may_follow_on (c ∷ cs) h = h

-- a tag with a fault opens no content
no_content : (t : Tag) (f : HtmlFault) → t.fault ≡ Some f → opens_raw t ≡ false
no_content t f h = ap (λ (o : Option HtmlFault). is_raw t.name && not t.closed && is_none o) h ∙ last (is_raw t.name) (not t.closed)
  where
    last : (a b : Bool) → (a && b && false) ≡ false
    last true true = refl
    last true false = refl
    last false true = refl
    last false false = refl

in_tag_on : (total : ℕ) (a : Cell) (n : List ℕ) (name behind : List Cell) (f : HtmlFault) → a.0 ≡ 60 → IsWholeName n name behind → is_left_out n ≡ false → MayFollow behind → (attributes total behind).0.fault ≡ Some f → Faulted total a (name ++ behind) f
in_tag_on total a n [] behind f h i lo mf w = absurd i.characters
in_tag_on total a n (c ∷ w) behind f h i lo mf e =
    let r = attributes total behind in
    let t = tag_of n a.1 r.0 in
    let cs = behind_tag n r.1 in
    let bad : Result (Event × List Cell) HtmlFault = Err (fault kind.BadTag a.1) in
    let good : Result (Event × List Cell) HtmlFault = Ok (start_with total a.1 n r) in
    let run : name_run (lower c.0 ∷ []) (w ++ behind) ≡ (n, behind) = name_run_on (lower c.0 ∷ []) w behind i.characters.1 i.name_ends ∙ ap (λ (m : List ℕ). let q : List ℕ × List Cell = (m, behind) in q) (sym i.in_lower) in
    record {
      tag = t;
      rest = cs;
      read = markup_on total a c (w ++ behind) h (begins_letter c.0 i.characters.0)
          ∙ (letter_on total a.1 c (w ++ behind) i.characters.0
          ∙ (ap (start_tag total a.1) run
          ∙ (if_false (is_left_out n) bad (if may_follow_name behind then good else bad) lo
          ∙ (if_true (may_follow_name behind) good bad (may_follow_on behind mf)
          ∙ ap (λ (x : Event × List Cell). let q : Result (Event × List Cell) HtmlFault = Ok x in q) (if_false (opens_raw t) (raw_event total t cs) (event.Start t, cs) (no_content t f e))))));
      faulty = e;
    }

-- the content of an element of text alone, with a fault
abbrev pub raw_rest : List Cell → Option (List Cell) → List Cell
raw_rest cs None = cs
raw_rest cs (Some rest) = rest

raw_bad : (total : ℕ) (t : Tag) (p : ℕ) (d : Decoded) (cs : List Cell) (g : HtmlFault) (o : Option (List Cell)) → d.fault ≡ Some g → raw_with total t p d cs o ≡ (event.Start (with_fault t g), raw_rest cs o)
raw_bad total t p d cs g None h = ap (λ (x : Option HtmlFault). let q : Event × List Cell = (event.Start (with_fault t (met_or x (fault kind.Unclosed total))), cs) in q) h
raw_bad total t p d cs g (Some rest) h = ap (λ (x : Option HtmlFault). let q : Event × List Cell = (raw_or t p d.text x, rest) in q) h

content_on : (total : ℕ) (t : Tag) (us dropped inner : List Cell) → IsStartTag t us (dropped ++ inner) → is_raw t.name ≡ true → t.closed ≡ false → Dropped t.name inner dropped → started total t (dropped ++ inner) ≡ raw_event total t inner
content_on total t us dropped inner s w c d =
    let cs = behind_tag t.name (dropped ++ inner) in
    if_true (opens_raw t) (raw_event total t cs) (event.Start t, cs) (opens_whole t s.no_fault ∙ both (is_raw t.name) (not t.closed) w (ap not c))
    ∙ ap (raw_event total t) (drops_on t.name dropped inner d)

faulted_at : (total : ℕ) (c : Cell) (cs : List Cell) (t : Tag) (us ds rest : List Cell) (f : HtmlFault) → c ∷ cs ≡ us ++ ds → IsStartTag t us ds → started total t ds ≡ (event.Start (with_fault t f), rest) → Faulted total c cs f
faulted_at total c cs t us ds rest f w s h =
    let r = tagged total t us ds (event.Start (with_fault t f)) rest s h in
    let same : c ∷ cs ≡ r.0 ∷ r.1 = w ∙ r.2 in
    let first : c ≡ r.0 = cc (same) in
    let more : cs ≡ r.1 = cc (same) in
    record { tag = with_fault t f; rest = rest; read = ap (λ (x : Cell). event_at total x cs) first ∙ (ap (event_at total r.0) more ∙ r.3); faulty = refl }

pub faulty_complete : (total : ℕ) (c : Cell) (cs : List Cell) (f : HtmlFault) → IsFaulty total c cs f → Faulted total c cs f
faulty_complete total c cs f (in_tag n name behind g h w i lo mf x) =
    subst (λ (xs : List Cell). Faulted total c xs g) (sym w) (in_tag_on total c n name behind g h i lo mf (wrong_inside total behind g x))
faulty_complete total c cs f (content_cut t tag dropped inner text w s r u d x) =
    let p = place_in total inner in
    let run : text_run (until.EndTag t.name) inner ≡ (decoded text None, []) = ap (text_run (until.EndTag t.name)) (sym (append-nil inner)) ∙ reads_run (until.EndTag t.name) inner [] text x tt in
    faulted_at total c cs t tag (dropped ++ inner) [] (fault kind.Unclosed total) w s
    (content_on total t tag dropped inner s r u d ∙ ap (raw_from total t p) run)
faulty_complete total c cs f (bad_in_content t tag dropped inner p w s r u d x) =
    let run = text_run (until.EndTag t.name) inner in
    let o = past_end t.name run.1 in
    faulted_at total c cs t tag (dropped ++ inner) (raw_rest run.1 o) (fault kind.BadReference p) w s
    (content_on total t tag dropped inner s r u d ∙ raw_bad total t (place_in total inner) run.0 run.1 (fault kind.BadReference p) o (bad_text (until.EndTag t.name) p inner x))
