-- What is read inside of a tag is spelled so.
use Rattle.std.proofs.Common.{◌≡◌, ◌<◌, ℕ, zero, suc, Bool, true, false, not, List, [], ◌∷◌, ◌++◌, length, refl, ap, ◌∙◌, sym, subst, arith, inl, inr, append_assoc}
use Rattle.std.specs.Prelude.{Option, None, Some, Ok, Err, if◌then◌else◌, ◌==◌}
use Rattle.std.specs.List.{list_all}
use Rattle.ng_base.specs.Cells.{Cell}
use Rattle.ng_base.proofs.Binds.{bind_ok, chosen, guarded}
use Rattle.ng_markup.specs.Forest.{Attributes}
use Rattle.ng_tags.specs.Free.{fault, met_or, met_first}
use Rattle.ng_tags.specs.Letters.{is_space, is_in_attribute, is_bare, lower}
use Rattle.ng_tags.specs.Skips.{past_spaces}
use Rattle.ng_tags.specs.Texts.{ends, no_text, text_run}
use Rattle.ng_tags.specs.Attributes.{ValueRead, AttributeRead, attribute_run, quoted, unquoted, value_at, value_behind, named, attribute_at, inside, broken, slash, with_attribute, attributes_within, attributes}
use Rattle.ng_tags.specs.Spelling.{chars_of, BeginsNot, is_equals_or_space, is_bare_or_backquote, AreSpaces, EqualsSign, IsQuote, Reads, Ended, Valued, IsAttribute, AreAttributes, ends_open, ends_closed, space_then, attribute_then}
use Rattle.ng_tags.specs.Spelling as spelling
use Rattle.ng_tags.specs.declared.attributes.Inside.{Inside}
use Rattle.ng_tags.specs.declared.fault.HtmlFault.{HtmlFault}
use Rattle.ng_tags.specs.declared.fault.HtmlKind.TheVariants as kind
use Rattle.ng_tags.specs.declared.texts.Decoded.{Decoded}
use Rattle.ng_tags.specs.declared.until.Until.{Until}
use Rattle.ng_tags.specs.declared.until.Until.TheVariants as until
use Rattle.ng_tags.proofs.AttributeTurns.{go_on, attribute_left}
use Rattle.ng_tags.proofs.Runs.{is_code, both, none, attribute_runs, spaces_are}
use Rattle.ng_tags.proofs.TextSound.{text_read}

abbrev read_in : Decoded → ValueRead → Decoded
read_in d (Ok r) = r.0
read_in d (Err f) = d

abbrev left_in : ValueRead → List Cell
left_in (Ok r) = r.1
left_in (Err f) = []

-- the value behind a `=` and white space
pub record Value (d : Decoded) (cs rest : List Cell) : Type 0 where
  pub us : List Cell
  pub whole : cs ≡ us ++ rest
  pub valued : (vs : List Cell) → EqualsSign vs → Valued rest d.text (vs ++ us)

quote_read : (total : ℕ) (u : Until) (q : Cell) (cs : List Cell) (d : Decoded) (rest : List Cell) (r : Decoded × List Cell) → IsQuote q.0 u → ((c : ℕ) (ds : List Cell) → ends u c ds ≡ true → c ≡ q.0) →
    text_run u cs ≡ r → quoted total r ≡ Ok (d, rest) → d.fault ≡ None → Value d (q ∷ cs) rest
quote_read total u q cs d rest (e, []) i k h g n = absurd (cc (g))
quote_read total u q cs d rest (e, z ∷ zs) i k h g n =
    let same : e ≡ d = ap (read_in d) g in
    let left : zs ≡ rest = ap left_in g in
    let t = text_read u no_text d cs (z ∷ rest) (h ∙ (ap (λ (x : Decoded). let p : Decoded × List Cell = (x, z ∷ zs) in p) same ∙ ap (λ (xs : List Cell). let p : Decoded × List Cell = (d, z ∷ xs) in p) left)) n in
    record {
      us = q ∷ (t.us ++ z ∷ []);
      whole = ap (λ xs. q ∷ xs) (t.whole ∙ sym (append_assoc t.us (z ∷ []) rest));
      valued = λ vs s. spelling.quoted d.text vs u q t.us z s i (subst (λ (v : List ℕ). Reads u (z ∷ rest) t.us v) (sym t.text) t.reads) (k z.0 rest t.ended);
    }

double_ends : (q : ℕ) → q ≡ 34 → (c : ℕ) (ds : List Cell) → ends until.Double c ds ≡ true → c ≡ q
double_ends q h c ds e = is_code c 34 e ∙ sym h

single_ends : (q : ℕ) → q ≡ 39 → (c : ℕ) (ds : List Cell) → ends until.Single c ds ≡ true → c ≡ q
single_ends q h c ds e = is_code c 39 e ∙ sym h

-- what stands behind a value without quotes
behind_bare : (rest : List Cell) → Ended until.Space rest → BeginsNot (λ c. c == 96) rest → BeginsNot is_bare_or_backquote rest
behind_bare [] h i = tt
behind_bare (c ∷ cs) h i = none (is_bare c.0) (c.0 == 96) (not_is (is_bare c.0) h) i
  where
    not_is : (b : Bool) → not b ≡ true → b ≡ false
    not_is true h = absurd (cc)
    not_is false h = refl

bare_of : (c : Cell) (cs : List Cell) (d : Decoded) (rest us : List Cell) → is_bare c.0 ≡ true → c ∷ cs ≡ us ++ rest → Reads until.Space rest us d.text → Ended until.Space rest → BeginsNot is_bare_or_backquote rest → Value d (c ∷ cs) rest
bare_of c cs d [] [] b w r e s = absurd (cc (w))
bare_of c cs d (z ∷ rest) [] b w r e s =
    let first : c ≡ z = cc (w) in
    let yes : is_bare z.0 ≡ true = ap (λ (x : Cell). is_bare x.0) (sym first) ∙ b in
    let no : not true ≡ true = ap not (sym yes) ∙ e in
    absurd (cc (no))
bare_of c cs d rest (a ∷ us) b w r e s =
    let first : c ≡ a = cc (w) in
    let yes : is_bare a.0 ≡ true = ap (λ (x : Cell). is_bare x.0) (sym first) ∙ b in
    record { us = a ∷ us; whole = w; valued = λ vs q. spelling.bare d.text vs a us q yes r s }

bare_end : (c : Cell) (cs : List Cell) (d : Decoded) (rest : List Cell) (r : Decoded × List Cell) → is_bare c.0 ≡ true → text_run until.Space (c ∷ cs) ≡ r → r ≡ (d, rest) → BeginsNot (λ x. x == 96) rest → d.fault ≡ None → Value d (c ∷ cs) rest
bare_end c cs d rest r b h i s n =
    let t = text_read until.Space no_text d (c ∷ cs) rest (h ∙ i) n in
    bare_of c cs d rest t.us b t.whole (subst (λ (v : List ℕ). Reads until.Space rest t.us v) (sym t.text) t.reads) t.ended (behind_bare rest t.ended s)

bare_read : (c : Cell) (cs : List Cell) (d : Decoded) (rest : List Cell) (r : Decoded × List Cell) → is_bare c.0 ≡ true → text_run until.Space (c ∷ cs) ≡ r → unquoted r ≡ Ok (d, rest) → d.fault ≡ None → Value d (c ∷ cs) rest
bare_read c cs d rest (e, []) b h g n =
    let same : e ≡ d = ap (read_in d) g in
    let left : [] ≡ rest = ap left_in g in
    bare_end c cs d rest (e, []) b h (ap (λ (x : Decoded). let p : Decoded × List Cell = (x, []) in p) same ∙ ap (λ (xs : List Cell). let p : Decoded × List Cell = (d, xs) in p) left) (subst (BeginsNot (λ x. x == 96)) left tt) n
bare_read c cs d rest (e, z ∷ zs) b h g n =
    elim (chosen (z.0 == 96) (Err (met_or e.fault (fault kind.BadAttr z.1))) (Ok (e, z ∷ zs)) (Ok (d, rest)) g) [
      | inl k ↦ absurd (cc (k.1))
      | inr k ↦
          let same : e ≡ d = ap (read_in d) k.1 in
          let left : z ∷ zs ≡ rest = ap left_in k.1 in
          bare_end c cs d rest (e, z ∷ zs) b h (ap (λ (x : Decoded). let p : Decoded × List Cell = (x, z ∷ zs) in p) same ∙ ap (λ (xs : List Cell). let p : Decoded × List Cell = (d, xs) in p) left) (subst (BeginsNot (λ x. x == 96)) left k.0) n
    ]

value_read : (total : ℕ) (cs : List Cell) (d : Decoded) (rest : List Cell) → value_at total cs ≡ Ok (d, rest) → d.fault ≡ None → Value d cs rest
value_read total [] d rest h n = absurd (cc)
value_read total (c ∷ cs) d rest h n =
    let double = quoted total (text_run until.Double cs) in
    let single = quoted total (text_run until.Single cs) in
    let bare = unquoted (text_run until.Space (c ∷ cs)) in
    let bad : ValueRead = Err (fault kind.BadAttr c.1) in
    elim (chosen (c.0 == 34) double (if c.0 == 39 then single else if is_bare c.0 then bare else bad) (Ok (d, rest)) h) [
      | inl g ↦ let q = is_code c.0 34 g.0 in quote_read total until.Double c cs d rest (text_run until.Double cs) (inl (q, refl)) (double_ends c.0 q) refl g.1 n
      | inr g ↦ elim (chosen (c.0 == 39) single (if is_bare c.0 then bare else bad) (Ok (d, rest)) g.1) [
        | inl k ↦ let q = is_code c.0 39 k.0 in quote_read total until.Single c cs d rest (text_run until.Single cs) (inr (q, refl)) (single_ends c.0 q) refl k.1 n
        | inr k ↦ let b = guarded (is_bare c.0) bare (fault kind.BadAttr c.1) (d, rest) k.1 in bare_read c cs d rest (text_run until.Space (c ∷ cs)) b.0 refl b.1 n
      ]
    ]

-- what stands behind an attribute's name
pub record Behind (d : Decoded) (cs rest : List Cell) : Type 0 where
  pub us : List Cell
  pub whole : cs ≡ us ++ rest
  pub valued : Valued rest d.text us

no_value_read : (s cs rest : List Cell) (d : Decoded) → AreSpaces s → no_text ≡ d → cs ≡ rest → BeginsNot is_equals_or_space cs → Behind d (s ++ cs) rest
no_value_read s cs rest d a i l b = record {
  us = s;
  whole = ap (λ xs. s ++ xs) l;
  valued = subst (λ (v : List ℕ). Valued rest v s) (ap (λ (x : Decoded). x.text) i) (spelling.no_value s a (subst (BeginsNot is_equals_or_space) l b));
}

behind_read : (total : ℕ) (s cs : List Cell) (d : Decoded) (rest : List Cell) → AreSpaces s → BeginsNot is_space cs → value_behind total cs ≡ Ok (d, rest) → d.fault ≡ None → Behind d (s ++ cs) rest
behind_read total s [] d rest a b h n = no_value_read s [] rest d a (ap (read_in d) h) (ap left_in h) tt
behind_read total s (c ∷ cs) d rest a b h n =
    elim (chosen (c.0 == 61) (value_at total (past_spaces cs)) (Ok (no_text, c ∷ cs)) (Ok (d, rest)) h) [
      | inl g ↦
          let p = spaces_are cs (past_spaces cs) refl in
          let v = value_read total (past_spaces cs) d rest g.1 n in
          record {
            us = (s ++ c ∷ p.s) ++ v.us;
            whole = ap (λ xs. s ++ c ∷ xs) (p.whole ∙ ap (λ xs. p.s ++ xs) v.whole) ∙ (ap (λ xs. s ++ c ∷ xs) (sym (append_assoc p.s v.us rest)) ∙ (sym (append_assoc s (c ∷ (p.s ++ v.us)) rest) ∙ ap (λ xs. xs ++ rest) (sym (append_assoc s (c ∷ p.s) v.us))));
            valued = v.valued (s ++ c ∷ p.s) (record { before = s; sign = c; behind = p.s; whole = refl; spaces_before = a; is_sign = is_code c.0 61 g.0; spaces_behind = p.are });
          }
      | inr g ↦ no_value_read s (c ∷ cs) rest d a (ap (read_in d) g.1) (ap left_in g.1) (none (c.0 == 61) (is_space c.0) g.0 b)
    ]

-- an attribute at the front
pub record Attribute (n v : List ℕ) (cs rest : List Cell) : Type 0 where
  pub us : List Cell
  pub whole : cs ≡ us ++ rest
  pub is_one : IsAttribute n v us rest

abbrev name_in : List ℕ → AttributeRead → List ℕ
name_in n (Ok r) = r.0
name_in n (Err f) = n

abbrev value_in : Decoded → AttributeRead → Decoded
value_in d (Ok r) = r.1
value_in d (Err f) = d

abbrev rest_in : AttributeRead → List Cell
rest_in (Ok r) = r.2
rest_in (Err f) = []

pub attribute_read : (total : ℕ) (c : Cell) (cs : List Cell) (n : List ℕ) (d : Decoded) (rest : List Cell) → attribute_at total c cs ≡ Ok (n, d, rest) → d.fault ≡ None → Attribute n d.text (c ∷ cs) rest
attribute_read total c cs n d rest h i =
    let r = attribute_run (lower c.0 ∷ []) cs in
    let build : Decoded × List Cell → AttributeRead = λ v. Ok (r.0, v.0, v.1) in
    let g = guarded (is_in_attribute c.0) (named total r) (fault kind.BadAttr c.1) (n, d, rest) h in
    let b = bind_ok (value_behind total (past_spaces r.1)) build (n, d, rest) g.1 in
    let is_name : r.0 ≡ n = ap (name_in n) b.2 in
    let is_value : b.0.0 ≡ d = ap (value_in d) b.2 in
    let is_rest : b.0.1 ≡ rest = ap rest_in b.2 in
    let found : value_behind total (past_spaces r.1) ≡ Ok (d, rest) = b.1 ∙ (ap (λ (x : Decoded). let q : ValueRead = Ok (x, b.0.1) in q) is_value ∙ ap (λ (x : List Cell). let q : ValueRead = Ok (d, x) in q) is_rest) in
    let w = attribute_runs (lower c.0 ∷ []) r.0 cs r.1 refl in
    let p = spaces_are r.1 (past_spaces r.1) refl in
    let v = behind_read total p.s (past_spaces r.1) d rest p.are p.stops found i in
    let left : r.1 ≡ v.us ++ rest = p.whole ∙ v.whole in
    record {
      us = c ∷ (w.w ++ v.us);
      whole = ap (λ xs. c ∷ xs) (w.whole ∙ (ap (λ xs. w.w ++ xs) left ∙ sym (append_assoc w.w v.us rest)));
      is_one = record {
        first = c;
        more = w.w;
        behind = v.us;
        whole = refl;
        characters = both (is_in_attribute c.0) (list_all is_in_attribute (chars_of w.w)) g.0 w.all;
        in_lower = sym is_name ∙ w.read;
        name_ends = subst (BeginsNot is_in_attribute) left w.stops;
        valued = v.valued;
      };
    }

-- what stands inside of a tag
pub record Attributed (done : Attributes) (f : Option HtmlFault) (i : Inside) (cs rest : List Cell) : Type 0 where
  pub us : List Cell
  pub whole : cs ≡ us ++ rest
  pub are : AreAttributes rest done us i.attrs i.closed
  pub no_fault : f ≡ None

was_broken : {T : Type 0} (done : Attributes) (f : Option HtmlFault) (g : HtmlFault) (cs : List Cell) (i : Inside) (rest : List Cell) → broken done f g cs ≡ (i, rest) → i.fault ≡ None → T
was_broken done f g cs i rest h n =
    let e : Some (met_or f g) ≡ i.fault = ap (λ (p : Inside × List Cell). p.0.fault) h in
    let o : Some (met_or f g) ≡ None = e ∙ n in
    absurd (cc (o))

slash_read : (total : ℕ) (done : Attributes) (f : Option HtmlFault) (c : Cell) (cs : List Cell) (i : Inside) (rest : List Cell) → c.0 ≡ 47 → slash total done f c.1 cs ≡ (i, rest) → i.fault ≡ None → Attributed done f i (c ∷ cs) rest
slash_read total done f c [] i rest k h n = was_broken done f (fault kind.Unclosed total) [] i rest h n
slash_read total done f c (z ∷ cs) i rest k h n =
    elim (chosen (z.0 == 62) (inside done true f, cs) (broken done f (fault kind.BadAttr c.1) (z ∷ cs)) (i, rest) h) [
      | inl g ↦
          let e : inside done true f ≡ i = ap (λ (p : Inside × List Cell). p.0) g.1 in
          record {
            us = c ∷ z ∷ [];
            whole = ap (λ (p : Inside × List Cell). c ∷ z ∷ p.1) g.1;
            are = subst (λ (j : Inside). AreAttributes rest done (c ∷ z ∷ []) j.attrs j.closed) e (ends_closed done c z k (is_code z.0 62 g.0));
            no_fault = ap (λ (j : Inside). j.fault) e ∙ n;
          }
      | inr g ↦ was_broken done f (fault kind.BadAttr c.1) (z ∷ cs) i rest g.1 n
    ]

first_none : (f g : Option HtmlFault) → met_first f g ≡ None → (f ≡ None) × (g ≡ None)
first_none None g h = (refl, h)
first_none (Some e) g h = absurd (cc (h))

abbrev AllAttributed : ℕ → ℕ → Type 0
AllAttributed k total = (done : Attributes) (f : Option HtmlFault) (cs : List Cell) (i : Inside) (rest : List Cell) → length cs < k → attributes_within k total done f cs ≡ (i, rest) → i.fault ≡ None → Attributed done f i cs rest

one_attributed : (k total : ℕ) (done : Attributes) (f : Option HtmlFault) (c : Cell) (cs : List Cell) (i : Inside) (rest : List Cell) (x : AttributeRead) → AllAttributed k total → length cs < k →
    attribute_at total c cs ≡ x → go_on k total done f c cs x ≡ (i, rest) → i.fault ≡ None → Attributed done f i (c ∷ cs) rest
one_attributed k total done f c cs i rest (Err g) ih l e h n = was_broken done f g (c ∷ cs) i rest h n
one_attributed k total done f c cs i rest (Ok r) ih l e h n =
    let less = attribute_left total c cs r e in
    let m = ih (with_attribute done r.0 r.1.text) (met_first f r.1.fault) r.2 i rest (omega (arith, less)) h n in
    let no = first_none f r.1.fault m.no_fault in
    let a = attribute_read total c cs r.0 r.1 r.2 e no.1 in
    record {
      us = a.us ++ m.us;
      whole = a.whole ∙ (ap (λ xs. a.us ++ xs) m.whole ∙ sym (append_assoc a.us m.us rest));
      are = attribute_then done i.attrs i.closed r.0 r.1.text a.us m.us (subst (λ (xs : List Cell). IsAttribute r.0 r.1.text a.us xs) m.whole a.is_one) m.are;
      no_fault = no.0;
    }

all_attributed : (k total : ℕ) → AllAttributed k total
all_attributed zero total done f cs i rest l h n = absurd (omega arith)
all_attributed (suc k) total done f [] i rest l h n = was_broken done f (fault kind.Unclosed total) [] i rest h n
all_attributed (suc k) total done f (c ∷ cs) i rest l h n =
    let on = go_on k total done f c cs (attribute_at total c cs) in
    elim (chosen (c.0 == 62) (inside done false f, cs) (if c.0 == 47 then slash total done f c.1 cs else if is_space c.0 then attributes_within k total done f cs else on) (i, rest) h) [
      | inl g ↦
          let e : inside done false f ≡ i = ap (λ (p : Inside × List Cell). p.0) g.1 in
          record {
            us = c ∷ [];
            whole = ap (λ (p : Inside × List Cell). c ∷ p.1) g.1;
            are = subst (λ (j : Inside). AreAttributes rest done (c ∷ []) j.attrs j.closed) e (ends_open done c (is_code c.0 62 g.0));
            no_fault = ap (λ (j : Inside). j.fault) e ∙ n;
          }
      | inr g ↦ elim (chosen (c.0 == 47) (slash total done f c.1 cs) (if is_space c.0 then attributes_within k total done f cs else on) (i, rest) g.1) [
        | inl s ↦ slash_read total done f c cs i rest (is_code c.0 47 s.0) s.1 n
        | inr s ↦ elim (chosen (is_space c.0) (attributes_within k total done f cs) on (i, rest) s.1) [
          | inl w ↦
              let m = all_attributed k total done f cs i rest (omega arith) w.1 n in
              record { us = c ∷ m.us; whole = ap (λ xs. c ∷ xs) m.whole; are = space_then done i.attrs i.closed c m.us w.0 m.are; no_fault = m.no_fault }
          | inr w ↦ one_attributed k total done f c cs i rest (attribute_at total c cs) (all_attributed k total) (omega arith) refl w.1 n
        ]
      ]
    ]

pub attributes_read : (total : ℕ) (cs : List Cell) (i : Inside) (rest : List Cell) → attributes total cs ≡ (i, rest) → i.fault ≡ None → Attributed [] None i cs rest
attributes_read total cs i rest h n = all_attributed (suc (length cs)) total [] None cs i rest (omega arith) h n
