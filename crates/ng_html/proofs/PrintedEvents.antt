-- The print of a tag, a text or a comment is a lexeme.
use Rattle.std.proofs.Common.{◌≡◌, ◌≢◌, ℕ, true, false, ◌&&◌, ◌==◌, List, [], ◌∷◌, ◌++◌, map, refl, ap, ◌∙◌, sym, subst, arith, inl, append_assoc, append-nil}
use Rattle.std.proofs.lemmas.Bool.Decides.{nat_tests}
use Rattle.std.specs.Prelude.{⊤, codes, is_some}
use Rattle.std.specs.List.{list_all, flat_map}
use Rattle.ng_base.specs.Cells.{Cell}
use Rattle.ng_markup.specs.Tables.{is_raw}
use Rattle.ng_markup.specs.Forest.{Attributes, comment, text_char, value_char, print_attribute, print_start, print_end, print_node}
use Rattle.std.specs.Char.{is_ascii_alphabetic}
use Rattle.ng_tags.specs.Letters.{is_in_attribute, begins_tag, lower}
use Rattle.ng_tags.specs.Texts.{ends, past_end_tag}
use Rattle.ng_tags.specs.Attributes.{with_attribute}
use Rattle.ng_tags.specs.Lexing.{as_space}
use Rattle.ng_tags.specs.Spelling.{chars_of, Reads, no_more, itself, by_reference, ampersand, Ended, IsName, BeginsNot, EqualsSign, Valued, quoted, IsAttribute, AreAttributes, ends_open, space_then, attribute_then, NameEnds, IsStartTag, is_line_feed, nothing, IsEndTag, BeginsAt, Lexeme}
use Rattle.ng_tags.specs.declared.event.Event.TheVariants as event
use Rattle.ng_tags.specs.declared.until.Until.{Until}
use Rattle.ng_tags.specs.declared.until.Until.TheVariants as until
use Rattle.ng_html.specs.Grammar.{tag}
use Rattle.ng_html.proofs.ReadTexts.{both, both_true, is_value_char}
use Rattle.ng_html.proofs.ReadComments.{NeverEnds, never_goes}
use Rattle.ng_html.proofs.ReadEvents.{IsReadName, is_name_char, IsAttributeName, AllRead, AreRead, is_line_char}
use Rattle.ng_html.proofs.SortedAttributes.{AreSorted, AreBelow, with_last, are_below_with, none_below}
use Rattle.ng_html.proofs.PrintedTexts.{parted, none_left, headed, text_writing, value_writing, writing_read}
use Rattle.ng_html.proofs.Lines.{NoLine, no_line_on, text_line}

-- a tag or a comment begins there, or nothing stands there
abbrev pub AtTag : List Cell → Type 0
AtTag [] = ⊤
AtTag (c ∷ []) = ⊥
AtTag (c ∷ d ∷ cs) = (c.0 ≡ 60) × (begins_tag d.0 ≡ true)

-- the characters of a tag's or a comment's print
abbrev pub BeginsTag : List ℕ → Type 0
BeginsTag xs = (d : ℕ) × (ys : List ℕ) × (xs ≡ 60 ∷ d ∷ ys) × (begins_tag d ≡ true)

pub at_tag : (us ws : List Cell) (xs : List ℕ) → chars_of us ≡ xs → BeginsTag xs → AtTag (us ++ ws)
at_tag [] ws xs h (d, ys, e, b) = absurd (cc)
at_tag (u ∷ []) ws xs h (d, ys, e, b) = absurd (cc)
at_tag (u ∷ v ∷ us) ws xs h (d, ys, e, b) =
    let first : u.0 ≡ 60 = cc in
    let second : v.0 ≡ d = cc in
    (first, ap begins_tag second ∙ b)

pub tag_no_line : (ws : List Cell) → AtTag ws → NoLine ws
tag_no_line [] a = tt
tag_no_line (c ∷ []) a = absurd a
tag_no_line (c ∷ d ∷ cs) a = ap (λ x. x == 10) a.0

pub begins_append : (xs ys : List ℕ) → BeginsTag xs → BeginsTag (xs ++ ys)
begins_append xs ys (d, zs, e, b) = (d, zs ++ ys, ap (λ x. x ++ ys) e, b)

pub end_begins : (n : List ℕ) → BeginsTag (print_end n)
end_begins n = (47, n ++ codes ">", refl, refl)

pub comment_begins : (t : List ℕ) → BeginsTag (print_node (comment t))
comment_begins t = (33, 45 ∷ 45 ∷ (t ++ codes "-->"), refl, refl)

letter_begins : (c : ℕ) → is_ascii_alphabetic c ≡ true → begins_tag c ≡ true
letter_begins c h = grind (arith, nat_tests, h)

pub start_begins : (n : List ℕ) (a : Attributes) → IsReadName n → BeginsTag (print_start n a)
start_begins [] a h = absurd h.0
start_begins (c ∷ n) a h = (c, n ++ flat_map print_attribute a ++ codes ">", refl, letter_begins c h.0.0)

ended_at : (ws : List Cell) → AtTag ws → Ended until.Tag ws
ended_at [] a = tt
ended_at (c ∷ []) a = absurd a
ended_at (c ∷ d ∷ cs) a = both (c.0 == 60) (begins_tag d.0) (ap (λ x. x == 60) a.0) a.1

in_attribute : (n : List ℕ) → list_all is_name_char n ≡ true → list_all is_in_attribute n ≡ true
in_attribute [] h = refl
in_attribute (c ∷ n) h =
    let b = both_true (is_name_char c) (list_all is_name_char n) h in
    both (is_in_attribute c) (list_all is_in_attribute n) (grind (arith, nat_tests, b.0)) (in_attribute n b.1)

-- the value of an attribute, with its sign and quotes
value_printed : (v : List ℕ) (us rest : List Cell) → chars_of us ≡ 61 ∷ 34 ∷ (flat_map value_char v ++ codes "\"") → Valued rest v us
value_printed v us rest h =
    let x = headed us 61 (34 ∷ (flat_map value_char v ++ codes "\"")) h in
    let y = headed x.behind 34 (flat_map value_char v ++ codes "\"") x.behind_is in
    let w = parted (flat_map value_char v) (codes "\"") y.behind y.behind_is in
    let z = headed w.last 34 [] w.last_is in
    let sign : Cell = (61, x.p) in
    let opening : Cell = (34, y.p) in
    let closing : Cell = (34, z.p) in
    let last : w.last ≡ closing ∷ [] = z.whole ∙ ap (λ xs. closing ∷ xs) (none_left z.behind z.behind_is) in
    let whole : us ≡ sign ∷ opening ∷ (w.first ++ closing ∷ []) = x.whole ∙ ap (λ xs. sign ∷ xs) (y.whole ∙ ap (λ xs. opening ∷ xs) (w.whole ∙ ap (λ xs. w.first ++ xs) last)) in
    let equals : EqualsSign (sign ∷ []) = record { before = []; sign = sign; behind = []; whole = refl; spaces_before = refl; is_sign = refl; spaces_behind = refl } in
    subst (Valued rest v) (sym whole)
    (quoted v (sign ∷ []) until.Double opening w.first closing equals (inl (refl, refl)) (writing_read until.Double value_char value_writing (closing ∷ rest) v w.first w.first_is) refl)

equals_ends : (us rest : List Cell) (xs : List ℕ) → chars_of us ≡ 61 ∷ xs → BeginsNot is_in_attribute (us ++ rest)
equals_ends us rest xs h = let x = headed us 61 xs h in subst (λ (ys : List Cell). BeginsNot is_in_attribute (ys ++ rest)) (sym x.whole) refl

attribute_printed : (n v : List ℕ) (us rest : List Cell) → IsAttributeName n → chars_of us ≡ n ++ (61 ∷ 34 ∷ (flat_map value_char v ++ codes "\"")) → IsAttribute n v us rest
attribute_printed n v us rest a h =
    let p = parted n (61 ∷ 34 ∷ (flat_map value_char v ++ codes "\"")) us h in by p.first p.last p.first_is p.last_is p.whole
  where
    by : (w last : List Cell) → chars_of w ≡ n → chars_of last ≡ 61 ∷ 34 ∷ (flat_map value_char v ++ codes "\"") → us ≡ w ++ last → IsAttribute n v us rest
    by [] last e f whole = absurd (a.0 (sym e))
    by (c ∷ w) last e f whole =
        record {
          first = c;
          more = w;
          behind = last;
          whole = whole;
          characters = ap (list_all is_in_attribute) e ∙ in_attribute n a.2;
          in_lower = sym a.1 ∙ ap (map lower) (sym e);
          name_ends = equals_ends last rest (34 ∷ (flat_map value_char v ++ codes "\"")) f;
          valued = value_printed v last rest f;
        }

attribute_is : (n v : List ℕ) → print_attribute (n, v) ≡ 32 ∷ (n ++ (61 ∷ 34 ∷ (flat_map value_char v ++ codes "\"")))
attribute_is n v =
    ap (λ xs. 32 ∷ xs) (append_assoc (n ++ codes "=\"") (flat_map value_char v) (codes "\"") ∙ append_assoc n (codes "=\"") (flat_map value_char v ++ codes "\""))

attributes_printed : (rest : List Cell) (more done : Attributes) (us : List Cell) → chars_of us ≡ flat_map print_attribute more ++ codes ">" → AllRead more → AreSorted more → AreBelow done more → AreAttributes rest done us (done ++ more) false
attributes_printed rest [] done us h r s b =
    let x = headed us 62 [] h in
    let whole : us ≡ (62, x.p) ∷ [] = x.whole ∙ ap (λ xs. (62, x.p) ∷ xs) (none_left x.behind x.behind_is) in
    subst (λ (xs : List Cell). AreAttributes rest done xs (done ++ []) false) (sym whole)
    (subst (λ (d : Attributes). AreAttributes rest done ((62, x.p) ∷ []) d false) (sym (append-nil done)) (ends_open done (62, x.p) refl))
attributes_printed rest ((n, v) ∷ more) done us h r s b =
    let p = parted (print_attribute (n, v)) (flat_map print_attribute more ++ codes ">") us (h ∙ append_assoc (print_attribute (n, v)) (flat_map print_attribute more) (codes ">")) in
    let x = headed p.first 32 (n ++ (61 ∷ 34 ∷ (flat_map value_char v ++ codes "\""))) (p.first_is ∙ attribute_is n v) in
    let whole : us ≡ (32, x.p) ∷ (x.behind ++ p.last) = p.whole ∙ ap (λ xs. xs ++ p.last) x.whole in
    let behind : AreAttributes rest (done ++ (n, v) ∷ []) p.last ((done ++ (n, v) ∷ []) ++ more) false =
    attributes_printed rest more (done ++ (n, v) ∷ []) p.last p.last_is r.2 s.1 (are_below_with done more n v b.1 s.0) in
    let all : AreAttributes rest (with_attribute done n v) p.last (done ++ (n, v) ∷ more) false =
    subst (λ (d : Attributes). AreAttributes rest d p.last (done ++ (n, v) ∷ more) false) (sym (with_last done n v b.0))
    (subst (λ (d : Attributes). AreAttributes rest (done ++ (n, v) ∷ []) p.last d false) (append_assoc done ((n, v) ∷ []) more) behind) in
    subst (λ (xs : List Cell). AreAttributes rest done xs (done ++ (n, v) ∷ more) false) (sym whole)
    (space_then done (done ++ (n, v) ∷ more) false (32, x.p) (x.behind ++ p.last) refl
    (attribute_then done (done ++ (n, v) ∷ more) false n v x.behind p.last (attribute_printed n v x.behind (p.last ++ rest) r.0 x.behind_is) all))

inside_ends : (more : Attributes) (us : List Cell) → chars_of us ≡ flat_map print_attribute more ++ codes ">" → NameEnds us
inside_ends [] us h = let x = headed us 62 [] h in subst NameEnds (sym x.whole) refl
inside_ends ((n, v) ∷ more) us h =
    let x = headed us 32 ((n ++ codes "=\"" ++ flat_map value_char v ++ codes "\"") ++ flat_map print_attribute more ++ codes ">") h in subst NameEnds (sym x.whole) refl

record TagPrinted (n : List ℕ) (a : Attributes) (us rest : List Cell) : Type 0 where
  q : ℕ
  is_tag : IsStartTag (tag n a q false) us rest

tag_printed : (n : List ℕ) (a : Attributes) (us rest : List Cell) → IsReadName n × AreRead a → chars_of us ≡ print_start n a → TagPrinted n a us rest
tag_printed n a us rest r h =
    let x = headed us 60 (n ++ flat_map print_attribute a ++ codes ">") h in
    let p = parted n (flat_map print_attribute a ++ codes ">") x.behind (x.behind_is ∙ append_assoc n (flat_map print_attribute a) (codes ">")) in
    record {
      q = x.p;
      is_tag =
          record {
            first = (60, x.p);
            name = p.first;
            inside = p.last;
            whole = x.whole ∙ ap (λ xs. (60, x.p) ∷ xs) p.whole;
            sign = refl;
            place = refl;
            characters = subst IsName (sym p.first_is) r.0.0;
            in_lower = sym r.0.1 ∙ ap (map lower) (sym p.first_is);
            not_left_out = r.0.2;
            name_ends = inside_ends a p.last p.last_is;
            attributes = attributes_printed rest a [] p.last p.last_is r.1.0 r.1.1 (none_below a);
            no_fault = refl;
          };
    }

pub start_printed : (n : List ℕ) (a : Attributes) (us rest : List Cell) → IsReadName n × AreRead a → is_raw n ≡ false → chars_of us ≡ print_start n a → NoLine rest → (q : ℕ) × Lexeme (event.Start (tag n a q false)) us rest
start_printed n a us rest r raw h l =
    let t = tag_printed n a us rest r h in
    (t.q, record { tag = us; dropped = []; whole = sym (append-nil us); is_tag = t.is_tag; has_content = ap (λ b. b && true) raw; drops = nothing (λ d. no_feed rest l) })
  where
    no_feed : (rest : List Cell) → NoLine rest → BeginsNot is_line_feed rest
    no_feed [] l = tt
    no_feed (c ∷ cs) l = l

record EndPrinted (n : List ℕ) (us : List Cell) : Type 0 where
  q : ℕ
  is_end : IsEndTag n q us

end_tag_printed : (n : List ℕ) (us : List Cell) → IsReadName n → chars_of us ≡ print_end n → EndPrinted n us
end_tag_printed n us r h =
    let x = headed us 60 (47 ∷ (n ++ codes ">")) h in
    let y = headed x.behind 47 (n ++ codes ">") x.behind_is in
    let p = parted n (codes ">") y.behind y.behind_is in
    let z = headed p.last 62 [] p.last_is in
    record {
      q = x.p;
      is_end =
          record {
            first = (60, x.p);
            second = (47, y.p);
            name = p.first;
            spaces = [];
            last = (62, z.p);
            whole = x.whole ∙ ap (λ xs. (60, x.p) ∷ xs) (y.whole ∙ ap (λ xs. (47, y.p) ∷ xs) (p.whole ∙ ap (λ xs. p.first ++ xs) (z.whole ∙ ap (λ xs. (62, z.p) ∷ xs) (none_left z.behind z.behind_is))));
            sign = refl;
            place = refl;
            slash = refl;
            characters = subst IsName (sym p.first_is) r.0;
            in_lower = sym r.1 ∙ ap (map lower) (sym p.first_is);
            are_spaces = refl;
            is_close = refl;
          };
    }

pub end_printed : (n : List ℕ) (us rest : List Cell) → IsReadName n → chars_of us ≡ print_end n → (q : ℕ) × Lexeme (event.End n q) us rest
end_printed n us rest r h = let e = end_tag_printed n us r h in (e.q, (e.is_end, r.2))

reads_none : (u : Until) (rest us : List Cell) (t : List ℕ) → Reads u rest us t → us ≡ [] → t ≡ []
reads_none u rest us t no_more e = refl
reads_none u rest us t (itself c vs v x m r) e = absurd (cc)
reads_none u rest us t (by_reference c ws vs v y x m r) e = absurd (cc)
reads_none u rest us t (ampersand c vs v x m r) e = absurd (cc)

up_to_tag : (c : ℕ) (ds : List Cell) → (c == 60) ≡ false → ends until.Tag c ds ≡ false
up_to_tag c [] h = ap (λ b. b && false) h
up_to_tag c (d ∷ ds) h = ap (λ b. b && begins_tag d.0) h

up_to_end : (n : List ℕ) (c : ℕ) (ds : List Cell) → (c == 60) ≡ false → ends (until.EndTag n) c ds ≡ false
up_to_end n c ds h = ap (λ b. b && is_some (past_end_tag n ds)) h

pub text_printed : (t : List ℕ) (us rest : List Cell) → (t ≢ []) × (list_all is_value_char t ≡ true) → chars_of us ≡ flat_map text_char t → AtTag rest → (q : ℕ) × Lexeme (event.Text t q) us rest
text_printed t us rest g h a = by us refl
  where
    reads : Reads until.Tag rest us t
    reads = writing_read until.Tag text_char (text_writing until.Tag up_to_tag) rest t us h

    by : (vs : List Cell) → us ≡ vs → (q : ℕ) × Lexeme (event.Text t q) us rest
    by [] e = absurd (g.0 (reads_none until.Tag rest us t reads e))
    by (c ∷ vs) e = (c.1, record { first = c; more = vs; whole = e; place = refl; reads = reads; ended = ended_at rest a })

pub comment_printed : (t : List ℕ) (us rest : List Cell) → (list_all is_line_char t ≡ true) × NeverEnds t → chars_of us ≡ print_node (comment t) → (q : ℕ) × Lexeme (event.Comment t q) us rest
comment_printed t us rest g h =
    let x = headed us 60 (codes "!--" ++ (t ++ codes "-->")) h in
    let p = parted (codes "!--") (t ++ codes "-->") x.behind x.behind_is in
    let i = parted t (codes "-->") p.last p.last_is in (
      x.p,
      record {
        first = (60, x.p);
        opening = p.first;
        inner = i.first;
        closing = i.last;
        whole = x.whole ∙ ap (λ xs. (60, x.p) ∷ xs) (p.whole ∙ ap (λ xs. p.first ++ xs) i.whole);
        sign = refl;
        place = refl;
        opens = p.first_is;
        closes = i.last_is;
        goes_on = never_goes i.first i.last rest i.last_is (subst NeverEnds (sym i.first_is) g.1);
        reads = sym (lines t g.0) ∙ ap (map as_space) (sym i.first_is);
      },
    )
  where
    one : (c : ℕ) → is_line_char c ≡ true → as_space c ≡ c
    one c h = grind (arith, nat_tests, h)

    lines : (t : List ℕ) → list_all is_line_char t ≡ true → map as_space t ≡ t
    lines [] h = refl
    lines (c ∷ t) h =
        let b = both_true (is_line_char c) (list_all is_line_char t) h in
        ap (λ y. y ∷ map as_space t) (one c b.0) ∙ ap (λ xs. c ∷ xs) (lines t b.1)

begins_somewhere : (us vs : List Cell) (c : ℕ) (ys : List ℕ) → chars_of vs ≡ c ∷ ys → (p : ℕ) × BeginsAt p (us ++ vs)
begins_somewhere (u ∷ us) vs c ys h = (u.1, refl)
begins_somewhere [] (v ∷ vs) c ys h = (v.1, refl)
begins_somewhere [] [] c ys h = absurd (cc)

pub raw_printed : (n : List ℕ) (a : Attributes) (x : List ℕ) (us rest : List Cell) → IsReadName n × AreRead a × (list_all is_value_char x ≡ true) → is_raw n ≡ true → chars_of us ≡ print_start n a ++ (flat_map text_char x ++ print_end n) → (q : ℕ) × (s : ℕ) × Lexeme (event.Raw (tag n a q false) x s) us rest
raw_printed n a x us rest r raw h =
    let p = parted (print_start n a) (flat_map text_char x ++ print_end n) us h in
    let i = parted (flat_map text_char x) (print_end n) p.last p.last_is in
    let t = tag_printed n a p.first (i.first ++ (i.last ++ rest)) (r.0, r.1) p.first_is in
    let e = end_tag_printed n i.last r.0 i.last_is in
    let s = begins_somewhere i.first i.last 60 (47 ∷ (n ++ codes ">")) i.last_is in
    let behind : NoLine (i.last ++ rest) = tag_no_line (i.last ++ rest) (at_tag i.last rest (print_end n) i.last_is (end_begins n)) in (
      t.q,
      s.0,
      record {
        tag = p.first;
        dropped = [];
        inner = i.first;
        closing = i.last;
        q = e.q;
        whole = p.whole ∙ ap (λ xs. p.first ++ xs) i.whole;
        is_tag = t.is_tag;
        is_raw = raw;
        is_open = refl;
        drops = nothing (λ d. no_feed (i.first ++ (i.last ++ rest)) (no_line_on i.first (i.last ++ rest) (ap (list_all is_line_char) i.first_is ∙ text_line x r.2) behind));
        place = s.1;
        reads = writing_read (until.EndTag n) text_char (text_writing (until.EndTag n) (up_to_end n)) (i.last ++ rest) x i.first i.first_is;
        is_end = e.is_end;
      },
    )
  where
    no_feed : (rest : List Cell) → NoLine rest → BeginsNot is_line_feed rest
    no_feed [] l = tt
    no_feed (c ∷ cs) l = l
