-- The first fault inside of a tag.
use Rattle.std.proofs.Common.{◌≡◌, ◌<◌, ℕ, zero, suc, Bool, true, false, ◌||◌, List, [], ◌∷◌, ◌++◌, length, refl, ap, ◌∙◌, sym, subst, arith, inl, inr, append_assoc, append-nil}
use Rattle.std.specs.Prelude.{Option, None, Some, Ok, Err, if◌then◌else◌, ◌==◌}
use Rattle.std.specs.List.{list_all}
use Rattle.ng_base.specs.Cells.{Cell}
use Rattle.ng_base.specs.Meets.{◌>>=◌}
use Rattle.ng_base.proofs.Binds.{chosen}
use Rattle.ng_markup.specs.Forest.{Attributes}
use Rattle.ng_tags.specs.Free.{fault, met_or, met_first}
use Rattle.ng_tags.specs.Letters.{is_space, is_in_attribute, is_bare, lower}
use Rattle.ng_tags.specs.Skips.{past_spaces}
use Rattle.ng_tags.specs.Texts.{no_text, text_run}
use Rattle.ng_tags.specs.Attributes.{ValueRead, AttributeRead, attribute_run, quoted, unquoted, value_at, value_behind, named, attribute_at, inside, broken, slash, with_attribute, attributes_within, attributes}
use Rattle.ng_tags.specs.Spelling.{chars_of, AreSpaces, EqualsSign, IsQuote, Reads, IsAttribute}
use Rattle.ng_tags.specs.Faults.{none_yet, space_first, attribute_first, WrongValue, value_cut, no_value, quote_cut, bad_in_quotes, bad_in_bare, backquote, Wrong, tag_cut, slash_cut, slash_inside, no_attribute, wrong_value, WrongInside}
use Rattle.ng_tags.specs.declared.attributes.Inside.{Inside}
use Rattle.ng_tags.specs.declared.fault.HtmlFault.{HtmlFault}
use Rattle.ng_tags.specs.declared.fault.HtmlKind.TheVariants as kind
use Rattle.ng_tags.specs.declared.texts.Decoded.{Decoded}
use Rattle.ng_tags.specs.declared.until.Until.{Until}
use Rattle.ng_tags.specs.declared.until.Until.TheVariants as until
use Rattle.ng_tags.proofs.Runs.{is_code, both, none, attribute_runs, spaces_are}
use Rattle.ng_tags.proofs.AttributeTurns.{go_on, attribute_left}
use Rattle.ng_tags.proofs.AttributeSound.{attribute_read}
use Rattle.ng_tags.proofs.TextSound.{text_read}
use Rattle.ng_tags.proofs.TextRefused.{text_bad}

-- the fault of a value, of an attribute, of what was read so far
abbrev pub value_fault : ValueRead → Option HtmlFault
value_fault (Ok r) = r.0.fault
value_fault (Err e) = Some e

abbrev pub attribute_fault : AttributeRead → Option HtmlFault
attribute_fault (Ok r) = r.1.fault
attribute_fault (Err e) = Some e

abbrev pub inside_fault : Inside × List Cell → Option HtmlFault
inside_fault r = r.0.fault

abbrev fault_or : HtmlFault → Option HtmlFault → HtmlFault
fault_or g None = g
fault_or g (Some f) = f

-- the same fault
as_value : (total : ℕ) (cs : List Cell) (f g : HtmlFault) → (let q : Option HtmlFault = Some g in q) ≡ Some f → WrongValue total cs g → WrongValue total cs f
as_value total cs f g h w = subst (λ (x : HtmlFault). WrongValue total cs x) (ap (fault_or g) h) w

quotes_bad : (total : ℕ) (u : Until) (q : Cell) (cs : List Cell) (f : HtmlFault) → IsQuote q.0 u → (text_run u cs).0.fault ≡ Some f → WrongValue total (q ∷ cs) f
quotes_bad total u q cs f k h =
    let b = text_bad u cs f h in
    subst (λ (x : HtmlFault). WrongValue total (q ∷ cs) x) (sym b.is_fault) (bad_in_quotes u b.p q cs k b.bad)

bare_bad : (total : ℕ) (c : Cell) (cs : List Cell) (f : HtmlFault) → is_bare c.0 ≡ true → (text_run until.Space (c ∷ cs)).0.fault ≡ Some f → WrongValue total (c ∷ cs) f
bare_bad total c cs f k h =
    let b = text_bad until.Space (c ∷ cs) f h in
    subst (λ (x : HtmlFault). WrongValue total (c ∷ cs) x) (sym b.is_fault) (bad_in_bare b.p c cs k b.bad)

quote_open : (total : ℕ) (u : Until) (q : Cell) (cs : List Cell) (d : Decoded) → IsQuote q.0 u → text_run u cs ≡ (d, []) → d.fault ≡ None → WrongValue total (q ∷ cs) (fault kind.Unclosed total)
quote_open total u q cs d k h n =
    let t = text_read u no_text d cs [] h n in
    let all : cs ≡ t.us = t.whole ∙ append-nil t.us in
    subst (λ (xs : List Cell). WrongValue total (q ∷ xs) (fault kind.Unclosed total)) (sym all) (quote_cut u t.t q t.us k t.reads)

quote_wrong : (total : ℕ) (u : Until) (q : Cell) (cs : List Cell) (f : HtmlFault) (d : Decoded) (ds : List Cell) (g : Option HtmlFault) → IsQuote q.0 u → text_run u cs ≡ (d, ds) → d.fault ≡ g → value_fault (quoted total (d, ds)) ≡ Some f → WrongValue total (q ∷ cs) f
quote_wrong total u q cs f d ds (Some g) k h e w =
    let bad = quotes_bad total u q cs g k (ap (λ (r : Decoded × List Cell). r.0.fault) h ∙ e) in
    by_rest ds w
  where
    by_rest : (xs : List Cell) → value_fault (quoted total (d, xs)) ≡ Some f → WrongValue total (q ∷ cs) f
    by_rest [] v = as_value total (q ∷ cs) f g (sym (ap (λ (o : Option HtmlFault). let r : Option HtmlFault = Some (met_or o (fault kind.Unclosed total)) in r) e) ∙ v) (quotes_bad total u q cs g k (ap (λ (r : Decoded × List Cell). r.0.fault) h ∙ e))
    by_rest (z ∷ zs) v = as_value total (q ∷ cs) f g (sym e ∙ v) (quotes_bad total u q cs g k (ap (λ (r : Decoded × List Cell). r.0.fault) h ∙ e))
quote_wrong total u q cs f d [] None k h e w =
    as_value total (q ∷ cs) f (fault kind.Unclosed total) (sym (ap (λ (o : Option HtmlFault). let r : Option HtmlFault = Some (met_or o (fault kind.Unclosed total)) in r) e) ∙ w) (quote_open total u q cs d k h e)
quote_wrong total u q cs f d (z ∷ zs) None k h e w = let no_one : None ≡ Some f = sym e ∙ w in absurd (cc (no_one))

back_wrong : (total : ℕ) (c : Cell) (cs : List Cell) (d : Decoded) (z : Cell) (zs us : List Cell) → is_bare c.0 ≡ true → z.0 ≡ 96 → c ∷ cs ≡ us ++ z ∷ zs → Reads until.Space (z ∷ zs) us d.text → WrongValue total (c ∷ cs) (fault kind.BadAttr z.1)
back_wrong total c cs d z zs [] b k w r =
    let first : c ≡ z = cc (w) in
    let no_one : true ≡ false = sym b ∙ (ap (λ (x : Cell). is_bare x.0) first ∙ subst (λ (n : ℕ). is_bare n ≡ false) (sym k) refl) in
    absurd (cc (no_one))
back_wrong total c cs d z zs (a ∷ us) b k w r =
    let first : c ≡ a = cc (w) in
    subst (λ (xs : List Cell). WrongValue total xs (fault kind.BadAttr z.1)) (sym w) (backquote d.text a us z zs (ap (λ (x : Cell). is_bare x.0) (sym first) ∙ b) r k)

bare_wrong : (total : ℕ) (c : Cell) (cs : List Cell) (f : HtmlFault) (d : Decoded) (ds : List Cell) (g : Option HtmlFault) → is_bare c.0 ≡ true → text_run until.Space (c ∷ cs) ≡ (d, ds) → d.fault ≡ g → value_fault (unquoted (d, ds)) ≡ Some f → WrongValue total (c ∷ cs) f
bare_wrong total c cs f d [] (Some g) b h e w = as_value total (c ∷ cs) f g (sym e ∙ w) (bare_bad total c cs g b (ap (λ (r : Decoded × List Cell). r.0.fault) h ∙ e))
bare_wrong total c cs f d [] None b h e w = let no_one : None ≡ Some f = sym e ∙ w in absurd (cc (no_one))
bare_wrong total c cs f d (z ∷ zs) g b h e w = by_test (z.0 == 96) refl w
  where
    here : HtmlFault
    here = fault kind.BadAttr z.1

    by_fault : (o : Option HtmlFault) → d.fault ≡ o → z.0 ≡ 96 → (let r : Option HtmlFault = Some (met_or d.fault (fault kind.BadAttr z.1)) in r) ≡ Some f → WrongValue total (c ∷ cs) f
    by_fault (Some x) i k v = as_value total (c ∷ cs) f x (sym (ap (λ (o : Option HtmlFault). let r : Option HtmlFault = Some (met_or o (fault kind.BadAttr z.1)) in r) i) ∙ v) (bare_bad total c cs x b (ap (λ (r : Decoded × List Cell). r.0.fault) h ∙ i))
    by_fault None i k v =
        let t = text_read until.Space no_text d (c ∷ cs) (z ∷ zs) h i in
        as_value total (c ∷ cs) f (fault kind.BadAttr z.1) (sym (ap (λ (o : Option HtmlFault). let r : Option HtmlFault = Some (met_or o (fault kind.BadAttr z.1)) in r) i) ∙ v)
        (back_wrong total c cs d z zs t.us b k t.whole (subst (λ (x : List ℕ). Reads until.Space (z ∷ zs) t.us x) (sym t.text) t.reads))

    kept : (o : Option HtmlFault) → d.fault ≡ o → d.fault ≡ Some f → WrongValue total (c ∷ cs) f
    kept o i v = bare_bad total c cs f b (ap (λ (r : Decoded × List Cell). r.0.fault) h ∙ v)

    by_test : (x : Bool) → (z.0 == 96) ≡ x → value_fault (if x then Err (met_or d.fault (fault kind.BadAttr z.1)) else Ok (d, z ∷ zs)) ≡ Some f → WrongValue total (c ∷ cs) f
    by_test true i v = by_fault d.fault refl (is_code z.0 96 i) v
    by_test false i v = kept d.fault refl v

value_wrong : (total : ℕ) (cs : List Cell) (f : HtmlFault) → value_fault (value_at total cs) ≡ Some f → WrongValue total cs f
value_wrong total [] f h = as_value total [] f (fault kind.Unclosed total) h value_cut
value_wrong total (c ∷ cs) f h =
    let double = quoted total (text_run until.Double cs) in
    let single = quoted total (text_run until.Single cs) in
    let bare = unquoted (text_run until.Space (c ∷ cs)) in
    let bad : ValueRead = Err (fault kind.BadAttr c.1) in
    elim (chosen (c.0 == 34) double (if c.0 == 39 then single else if is_bare c.0 then bare else bad) (value_at total (c ∷ cs)) refl) [
      | inl g ↦ let r = text_run until.Double cs in quote_wrong total until.Double c cs f r.0 r.1 r.0.fault (inl (is_code c.0 34 g.0, refl)) refl refl (ap value_fault g.1 ∙ h)
      | inr g ↦ elim (chosen (c.0 == 39) single (if is_bare c.0 then bare else bad) (value_at total (c ∷ cs)) g.1) [
        | inl k ↦ let r = text_run until.Single cs in quote_wrong total until.Single c cs f r.0 r.1 r.0.fault (inr (is_code c.0 39 k.0, refl)) refl refl (ap value_fault k.1 ∙ h)
        | inr k ↦ elim (chosen (is_bare c.0) bare bad (value_at total (c ∷ cs)) k.1) [
          | inl m ↦ let r = text_run until.Space (c ∷ cs) in bare_wrong total c cs f r.0 r.1 r.0.fault m.0 refl refl (ap value_fault m.1 ∙ h)
          | inr m ↦ as_value total (c ∷ cs) f (fault kind.BadAttr c.1) (ap value_fault m.1 ∙ h) (no_value c cs (none (is_bare c.0 || c.0 == 34) (c.0 == 39) (none (is_bare c.0) (c.0 == 34) m.0 g.0) k.0))
        ]
      ]
    ]

-- an attribute with a fault
record WrongAttribute (total : ℕ) (cs : List Cell) (f : HtmlFault) : Type 0 where
  wrong : Wrong total cs f

behind_wrong : (total : ℕ) (c : Cell) (w s cs : List Cell) (f : HtmlFault) → list_all is_in_attribute (chars_of (c ∷ w)) ≡ true → AreSpaces s → value_fault (value_behind total cs) ≡ Some f → Wrong total ((c ∷ w) ++ (s ++ cs)) f
behind_wrong total c w s [] f al a h = absurd (cc (h))
behind_wrong total c w s (e ∷ es) f al a h =
    elim (chosen (e.0 == 61) (value_at total (past_spaces es)) (Ok (no_text, e ∷ es)) (value_behind total (e ∷ es)) refl) [
      | inr g ↦ let no_one : None ≡ Some f = ap value_fault g.1 ∙ h in absurd (cc (no_one))
      | inl g ↦
          let p = spaces_are es (past_spaces es) refl in
          let sign : EqualsSign (s ++ e ∷ p.s) = record { before = s; sign = e; behind = p.s; whole = refl; spaces_before = a; is_sign = is_code e.0 61 g.0; spaces_behind = p.are } in
          let cs : (s ++ e ∷ p.s) ++ past_spaces es ≡ s ++ e ∷ es = append_assoc s (e ∷ p.s) (past_spaces es) ∙ ap (λ xs. s ++ e ∷ xs) (sym p.whole) in
          subst (λ (xs : List Cell). Wrong total ((c ∷ w) ++ xs) f) cs (wrong_value c w (s ++ e ∷ p.s) (past_spaces es) f al sign p.stops (value_wrong total (past_spaces es) f (ap value_fault g.1 ∙ h)))
    ]

then_fault : (n : List ℕ) (v : ValueRead) → attribute_fault (v >>= λ r. Ok (n, r.0, r.1)) ≡ value_fault v
then_fault n (Ok r) = refl
then_fault n (Err e) = refl

attribute_wrong : (total : ℕ) (c : Cell) (cs : List Cell) (f : HtmlFault) → (c.0 == 62) ≡ false → (c.0 == 47) ≡ false → is_space c.0 ≡ false → attribute_fault (attribute_at total c cs) ≡ Some f → Wrong total (c ∷ cs) f
attribute_wrong total c cs f a b s h =
    let r = attribute_run (lower c.0 ∷ []) cs in
    elim (chosen (is_in_attribute c.0) (named total r) (Err (fault kind.BadAttr c.1)) (attribute_at total c cs) refl) [
      | inl g ↦
          let w = attribute_runs (lower c.0 ∷ []) r.0 cs r.1 refl in
          let p = spaces_are r.1 (past_spaces r.1) refl in
          let v : value_fault (value_behind total (past_spaces r.1)) ≡ Some f = sym (then_fault r.0 (value_behind total (past_spaces r.1))) ∙ (ap attribute_fault g.1 ∙ h) in
          let whole : (c ∷ w.w) ++ (p.s ++ past_spaces r.1) ≡ c ∷ cs = ap (λ xs. c ∷ xs) (ap (λ xs. w.w ++ xs) (sym p.whole) ∙ sym w.whole) in
          subst (λ (xs : List Cell). Wrong total xs f) whole (behind_wrong total c w.w p.s (past_spaces r.1) f (both (is_in_attribute c.0) (list_all is_in_attribute (chars_of w.w)) g.0 w.all) p.are v)
      | inr g ↦
          let e : (let q : Option HtmlFault = Some (fault kind.BadAttr c.1) in q) ≡ Some f = ap attribute_fault g.1 ∙ h in
          subst (λ (x : HtmlFault). Wrong total (c ∷ cs) x) (ap (fault_or f) e)
          (no_attribute c cs (none (is_in_attribute c.0 || is_space c.0 || c.0 == 62) (c.0 == 47) (none (is_in_attribute c.0 || is_space c.0) (c.0 == 62) (none (is_in_attribute c.0) (is_space c.0) g.0 s) a) b))
    ]

-- a fault stays
broken_stays : (done : Attributes) (f : Option HtmlFault) (g : HtmlFault) (e : HtmlFault) (cs : List Cell) → f ≡ Some g → inside_fault (broken done f e cs) ≡ Some g
broken_stays done f g e cs h = ap (λ (o : Option HtmlFault). let q : Option HtmlFault = Some (met_or o e) in q) h

if_inside : (b : Bool) (x y : Inside × List Cell) (o : Option HtmlFault) → inside_fault x ≡ o → inside_fault y ≡ o → inside_fault (if b then x else y) ≡ o
if_inside true x y o h i = h
if_inside false x y o h i = i

slash_stays : (total : ℕ) (done : Attributes) (f : Option HtmlFault) (g : HtmlFault) (p : ℕ) (cs : List Cell) → f ≡ Some g → inside_fault (slash total done f p cs) ≡ Some g
slash_stays total done f g p [] h = broken_stays done f g (fault kind.Unclosed total) [] h
slash_stays total done f g p (c ∷ cs) h = if_inside (c.0 == 62) (inside done true f, cs) (broken done f (fault kind.BadAttr p) (c ∷ cs)) (Some g) h (broken_stays done f g (fault kind.BadAttr p) (c ∷ cs) h)

first_stays : (f o : Option HtmlFault) (g : HtmlFault) → f ≡ Some g → met_first f o ≡ Some g
first_stays None o g h = absurd (cc (h))
first_stays (Some e) o g h = h

abbrev Stays : ℕ → ℕ → Type 0
Stays k total = (done : Attributes) (f : Option HtmlFault) (g : HtmlFault) (cs : List Cell) → f ≡ Some g → inside_fault (attributes_within k total done f cs) ≡ Some g

way_stays : (k total : ℕ) (done : Attributes) (f : Option HtmlFault) (g : HtmlFault) (c : Cell) (cs : List Cell) (x : AttributeRead) → Stays k total → f ≡ Some g → inside_fault (go_on k total done f c cs x) ≡ Some g
way_stays k total done f g c cs (Ok r) ih h = ih (with_attribute done r.0 r.1.text) (met_first f r.1.fault) g r.2 (first_stays f r.1.fault g h)
way_stays k total done f g c cs (Err e) ih h = broken_stays done f g e (c ∷ cs) h

pub attributes_stay : (k total : ℕ) → Stays k total
attributes_stay zero total done f g cs h = h
attributes_stay (suc k) total done f g [] h = broken_stays done f g (fault kind.Unclosed total) [] h
attributes_stay (suc k) total done f g (c ∷ cs) h =
    let on = go_on k total done f c cs (attribute_at total c cs) in
    if_inside (c.0 == 62) (inside done false f, cs) (if c.0 == 47 then slash total done f c.1 cs else if is_space c.0 then attributes_within k total done f cs else on) (Some g) h
    (if_inside (c.0 == 47) (slash total done f c.1 cs) (if is_space c.0 then attributes_within k total done f cs else on) (Some g) (slash_stays total done f g c.1 cs h)
    (if_inside (is_space c.0) (attributes_within k total done f cs) on (Some g) (attributes_stay k total done f g cs h) (way_stays k total done f g c cs (attribute_at total c cs) (attributes_stay k total) h)))

-- what is wrong, at once
at_once : (total : ℕ) (cs : List Cell) (f g : HtmlFault) → (let q : Option HtmlFault = Some g in q) ≡ Some f → Wrong total cs g → WrongInside total cs f
at_once total cs f g h w = record { before = []; behind = cs; whole = refl; so_far = none_yet; wrong = subst (λ (x : HtmlFault). Wrong total cs x) (ap (fault_or g) h) w }

slash_wrong : (total : ℕ) (done : Attributes) (c : Cell) (cs : List Cell) (f : HtmlFault) → c.0 ≡ 47 → inside_fault (slash total done None c.1 cs) ≡ Some f → WrongInside total (c ∷ cs) f
slash_wrong total done c [] f k h = at_once total (c ∷ []) f (fault kind.Unclosed total) h (slash_cut c k)
slash_wrong total done c (z ∷ zs) f k h =
    elim (chosen (z.0 == 62) (inside done true None, zs) (broken done None (fault kind.BadAttr c.1) (z ∷ zs)) (slash total done None c.1 (z ∷ zs)) refl) [
      | inl g ↦ let no_one : None ≡ Some f = ap inside_fault g.1 ∙ h in absurd (cc (no_one))
      | inr g ↦ at_once total (c ∷ z ∷ zs) f (fault kind.BadAttr c.1) (ap inside_fault g.1 ∙ h) (slash_inside c z zs k g.0)
    ]

abbrev AllWrong : ℕ → ℕ → Type 0
AllWrong k total = (done : Attributes) (cs : List Cell) (f : HtmlFault) → length cs < k → inside_fault (attributes_within k total done None cs) ≡ Some f → WrongInside total cs f

one_wrong : (k total : ℕ) (done : Attributes) (c : Cell) (cs : List Cell) (f : HtmlFault) (x : AttributeRead) → AllWrong k total → length cs < k → (c.0 == 62) ≡ false → (c.0 == 47) ≡ false → is_space c.0 ≡ false →
    attribute_at total c cs ≡ x → inside_fault (go_on k total done None c cs x) ≡ Some f → WrongInside total (c ∷ cs) f
one_wrong k total done c cs f (Err e) ih l a b s h w =
    at_once total (c ∷ cs) f f refl (attribute_wrong total c cs f a b s (ap attribute_fault h ∙ w))
one_wrong k total done c cs f (Ok r) ih l a b s h w = by_fault r.1.fault refl
  where
    by_fault : (o : Option HtmlFault) → r.1.fault ≡ o → WrongInside total (c ∷ cs) f
    by_fault (Some g) e =
        let same : Some g ≡ Some f = sym (attributes_stay k total (with_attribute done r.0 r.1.text) (met_first None r.1.fault) g r.2 e) ∙ w in
        at_once total (c ∷ cs) f g same (attribute_wrong total c cs g a b s (ap attribute_fault h ∙ e))
    by_fault None e =
        let less = attribute_left total c cs r h in
        let on : inside_fault (attributes_within k total (with_attribute done r.0 r.1.text) None r.2) ≡ Some f =
        sym (ap (λ (o : Option HtmlFault). inside_fault (attributes_within k total (with_attribute done r.0 r.1.text) o r.2)) e) ∙ w in
        let m = ih (with_attribute done r.0 r.1.text) r.2 f (omega (arith, less)) on in
        let x = attribute_read total c cs r.0 r.1 r.2 h e in
        record {
          before = x.us ++ m.before;
          behind = m.behind;
          whole = x.whole ∙ (ap (λ xs. x.us ++ xs) m.whole ∙ sym (append_assoc x.us m.before m.behind));
          so_far = attribute_first r.0 r.1.text x.us m.before (subst (λ (xs : List Cell). IsAttribute r.0 r.1.text x.us xs) m.whole x.is_one) m.so_far;
          wrong = m.wrong;
        }

all_wrong : (k total : ℕ) → AllWrong k total
all_wrong zero total done cs f l h = absurd (omega arith)
all_wrong (suc k) total done [] f l h = at_once total [] f (fault kind.Unclosed total) h tag_cut
all_wrong (suc k) total done (c ∷ cs) f l h =
    let on = go_on k total done None c cs (attribute_at total c cs) in
    let all = attributes_within (suc k) total done None (c ∷ cs) in
    elim (chosen (c.0 == 62) (inside done false None, cs) (if c.0 == 47 then slash total done None c.1 cs else if is_space c.0 then attributes_within k total done None cs else on) all refl) [
      | inl g ↦ let no_one : None ≡ Some f = ap inside_fault g.1 ∙ h in absurd (cc (no_one))
      | inr g ↦ elim (chosen (c.0 == 47) (slash total done None c.1 cs) (if is_space c.0 then attributes_within k total done None cs else on) all g.1) [
        | inl s ↦ slash_wrong total done c cs f (is_code c.0 47 s.0) (ap inside_fault s.1 ∙ h)
        | inr s ↦ elim (chosen (is_space c.0) (attributes_within k total done None cs) on all s.1) [
          | inl w ↦
              let m = all_wrong k total done cs f (omega arith) (ap inside_fault w.1 ∙ h) in
              record { before = c ∷ m.before; behind = m.behind; whole = ap (λ xs. c ∷ xs) m.whole; so_far = space_first c m.before w.0 m.so_far; wrong = m.wrong }
          | inr w ↦ one_wrong k total done c cs f (attribute_at total c cs) (all_wrong k total) (omega arith) g.0 s.0 w.0 refl (ap inside_fault w.1 ∙ h)
        ]
      ]
    ]

-- the first fault inside of a tag has its reason
pub inside_wrong : (total : ℕ) (cs : List Cell) (f : HtmlFault) → (attributes total cs).0.fault ≡ Some f → WrongInside total cs f
inside_wrong total cs f h = all_wrong (suc (length cs)) total [] cs f (omega arith) h
