-- What is wrong inside of a tag is its first fault.
use Rattle.std.proofs.Common.{◌≡◌, ℕ, suc, Bool, true, false, not, ◌||◌, List, [], ◌∷◌, ◌++◌, map, length, refl, ap, ◌∙◌, sym, subst, inl, inr, append_assoc, append-nil}
use Rattle.std.proofs.lemmas.Bool.Decides.{nat_tests}
use Rattle.std.proofs.Common.{arith}
use Rattle.std.specs.Prelude.{Option, None, Some, Ok, Err, if◌then◌else◌, ◌==◌}
use Rattle.std.specs.List.{list_all}
use Rattle.ng_base.specs.Cells.{Cell}
use Rattle.ng_base.specs.Meets.{◌>>=◌}
use Rattle.ng_base.proofs.Binds.{if_true, if_false}
use Rattle.ng_markup.specs.Forest.{Attributes}
use Rattle.ng_tags.specs.Free.{fault, met_or, met_first}
use Rattle.ng_tags.specs.Letters.{is_space, is_in_attribute, is_bare, lower}
use Rattle.ng_tags.specs.Skips.{past_spaces}
use Rattle.ng_tags.specs.Texts.{decoded, text_run}
use Rattle.ng_tags.specs.Attributes.{ValueRead, AttributeRead, attribute_run, quoted, unquoted, value_at, value_behind, named, attribute_at, inside, broken, slash, with_attribute, attributes_within, attributes_from, attributes}
use Rattle.ng_tags.specs.Spelling.{chars_of, BeginsNot, AreSpaces, EqualsSign, IsQuote, Ended}
use Rattle.ng_tags.specs.Faults.{SoFar, none_yet, space_first, attribute_first, begins_value, WrongValue, value_cut, no_value, quote_cut, bad_in_quotes, bad_in_bare, backquote, Wrong, tag_cut, slash_cut, slash_inside, no_attribute, wrong_value, WrongInside}
use Rattle.ng_tags.specs.declared.fault.HtmlFault.{HtmlFault}
use Rattle.ng_tags.specs.declared.fault.HtmlKind.TheVariants as kind
use Rattle.ng_tags.specs.declared.texts.Decoded.{Decoded}
use Rattle.ng_tags.specs.declared.until.Until.{Until}
use Rattle.ng_tags.specs.declared.until.Until.TheVariants as until
use Rattle.ng_tags.proofs.Runs.{code_is, both_true, neither, attribute_run_on}
use Rattle.ng_tags.proofs.TextComplete.{reads_run}
use Rattle.ng_tags.proofs.TextRefused.{bad_text}
use Rattle.ng_tags.proofs.AttributeTurns.{go_on, attribute_here}
use Rattle.ng_tags.proofs.AttributeComplete.{equals_on, one_on, attribute_no_end, attribute_no_slash, attribute_no_space, space_no_end, space_no_slash, slash_no_end, bare_no_double, bare_no_single, single_no_double}
use Rattle.ng_tags.proofs.InsideRefused.{value_fault, attribute_fault, inside_fault, attributes_stay}

-- a fault of a text is that of its value
quoted_fault : (total : ℕ) (r : Decoded × List Cell) (f : HtmlFault) → r.0.fault ≡ Some f → value_fault (quoted total r) ≡ Some f
quoted_fault total (d, []) f h = ap (λ (o : Option HtmlFault). let q : Option HtmlFault = Some (met_or o (fault kind.Unclosed total)) in q) h
quoted_fault total (d, c ∷ cs) f h = h

unquoted_fault : (r : Decoded × List Cell) (f : HtmlFault) → r.0.fault ≡ Some f → value_fault (unquoted r) ≡ Some f
unquoted_fault (d, []) f h = h
unquoted_fault (d, c ∷ cs) f h = by_test (c.0 == 96)
  where
    by_test : (b : Bool) → value_fault (if b then Err (met_or d.fault (fault kind.BadAttr c.1)) else Ok (d, c ∷ cs)) ≡ Some f
    by_test true = ap (λ (o : Option HtmlFault). let q : Option HtmlFault = Some (met_or o (fault kind.BadAttr c.1)) in q) h
    by_test false = h

double_at : (total : ℕ) (q : Cell) (cs : List Cell) → q.0 ≡ 34 → value_at total (q ∷ cs) ≡ quoted total (text_run until.Double cs)
double_at total q cs h =
    let single = quoted total (text_run until.Single cs) in
    let bare = unquoted (text_run until.Space (q ∷ cs)) in
    let bad : ValueRead = Err (fault kind.BadAttr q.1) in
    if_true (q.0 == 34) (quoted total (text_run until.Double cs)) (if q.0 == 39 then single else if is_bare q.0 then bare else bad) (code_is q.0 34 h)

single_at : (total : ℕ) (q : Cell) (cs : List Cell) → q.0 ≡ 39 → value_at total (q ∷ cs) ≡ quoted total (text_run until.Single cs)
single_at total q cs h =
    let single = quoted total (text_run until.Single cs) in
    let bare = unquoted (text_run until.Space (q ∷ cs)) in
    let bad : ValueRead = Err (fault kind.BadAttr q.1) in
    if_false (q.0 == 34) (quoted total (text_run until.Double cs)) (if q.0 == 39 then single else if is_bare q.0 then bare else bad) (single_no_double q.0 h)
    ∙ if_true (q.0 == 39) single (if is_bare q.0 then bare else bad) (code_is q.0 39 h)

quote_at : (total : ℕ) (u : Until) (q : Cell) (cs : List Cell) → IsQuote q.0 u → value_at total (q ∷ cs) ≡ quoted total (text_run u cs)
quote_at total u q cs (inl k) = double_at total q cs k.0 ∙ ap (λ (x : Until). quoted total (text_run x cs)) (sym k.1)
quote_at total u q cs (inr k) = single_at total q cs k.0 ∙ ap (λ (x : Until). quoted total (text_run x cs)) (sym k.1)

bare_at : (total : ℕ) (c : Cell) (cs : List Cell) → is_bare c.0 ≡ true → value_at total (c ∷ cs) ≡ unquoted (text_run until.Space (c ∷ cs))
bare_at total c cs b =
    let double = quoted total (text_run until.Double cs) in
    let single = quoted total (text_run until.Single cs) in
    let bare = unquoted (text_run until.Space (c ∷ cs)) in
    let bad : ValueRead = Err (fault kind.BadAttr c.1) in
    if_false (c.0 == 34) double (if c.0 == 39 then single else if is_bare c.0 then bare else bad) (bare_no_double c.0 b)
    ∙ (if_false (c.0 == 39) single (if is_bare c.0 then bare else bad) (bare_no_single c.0 b) ∙ if_true (is_bare c.0) bare bad b)

none_at : (total : ℕ) (c : Cell) (cs : List Cell) → begins_value c.0 ≡ false → value_at total (c ∷ cs) ≡ Err (fault kind.BadAttr c.1)
none_at total c cs h =
    let double = quoted total (text_run until.Double cs) in
    let single = quoted total (text_run until.Single cs) in
    let bare = unquoted (text_run until.Space (c ∷ cs)) in
    let bad : ValueRead = Err (fault kind.BadAttr c.1) in
    let a = neither (is_bare c.0 || c.0 == 34) (c.0 == 39) h in
    let b = neither (is_bare c.0) (c.0 == 34) a.0 in
    if_false (c.0 == 34) double (if c.0 == 39 then single else if is_bare c.0 then bare else bad) b.1
    ∙ (if_false (c.0 == 39) single (if is_bare c.0 then bare else bad) a.1 ∙ if_false (is_bare c.0) bare bad b.0)

back_ends : (b : Cell) (cs : List Cell) → b.0 ≡ 96 → Ended until.Space (b ∷ cs)
back_ends b cs h = subst (λ (n : ℕ). not (is_bare n) ≡ true) (sym h) refl

wrong_value_on : (total : ℕ) (cs : List Cell) (f : HtmlFault) → WrongValue total cs f → value_fault (value_at total cs) ≡ Some f
wrong_value_on total cs f value_cut = refl
wrong_value_on total cs f (no_value c ds h) = ap value_fault (none_at total c ds h)
wrong_value_on total cs f (quote_cut u v q w k r) =
    ap value_fault (quote_at total u q w k)
    ∙ ap (λ (x : Decoded × List Cell). value_fault (quoted total x)) (ap (text_run u) (sym (append-nil w)) ∙ reads_run u w [] v r tt)
wrong_value_on total cs f (bad_in_quotes u p q ds k b) = ap value_fault (quote_at total u q ds k) ∙ quoted_fault total (text_run u ds) (fault kind.BadReference p) (bad_text u p ds b)
wrong_value_on total cs f (bad_in_bare p c ds k b) = ap value_fault (bare_at total c ds k) ∙ unquoted_fault (text_run until.Space (c ∷ ds)) (fault kind.BadReference p) (bad_text until.Space p (c ∷ ds) b)
wrong_value_on total cs f (backquote v c w b ds k r e) =
    ap value_fault (bare_at total c (w ++ b ∷ ds) k)
    ∙ (ap (λ (x : Decoded × List Cell). value_fault (unquoted x)) (reads_run until.Space (c ∷ w) (b ∷ ds) v r (back_ends b ds e))
    ∙ ap value_fault (if_true (b.0 == 96) (Err (fault kind.BadAttr b.1)) (Ok (decoded v None, b ∷ ds)) (code_is b.0 96 e)))

-- an attribute with a wrong value
equals_ends : (c : ℕ) → (is_space c || c == 61) ≡ true → is_in_attribute c ≡ false
equals_ends c h = grind (arith, nat_tests)

sign_or_space : (s : List Cell) (e : Cell) (more : List Cell) → AreSpaces s → e.0 ≡ 61 → BeginsNot is_in_attribute (s ++ e ∷ more)
sign_or_space [] e more a h = subst (λ (n : ℕ). is_in_attribute n ≡ false) (sym h) refl
sign_or_space (c ∷ s) e more a h = equals_ends c.0 (first (is_space c.0) (c.0 == 61) (both_true (is_space c.0) (list_all is_space (chars_of s)) a).0)
  where
    first : (x y : Bool) → x ≡ true → (x || y) ≡ true
    first true y i = refl
    first false y i = absurd (cc (i))

name_stops : (us cs : List Cell) → EqualsSign us → BeginsNot is_in_attribute (us ++ cs)
name_stops us cs e =
    subst (BeginsNot is_in_attribute) (sym (ap (λ xs. xs ++ cs) e.whole ∙ append_assoc e.before (e.sign ∷ e.behind) cs)) (sign_or_space e.before e.sign (e.behind ++ cs) e.spaces_before e.is_sign)

then_fault : (n : List ℕ) (v : ValueRead) → attribute_fault (v >>= λ r. Ok (n, r.0, r.1)) ≡ value_fault v
then_fault n (Ok r) = refl
then_fault n (Err e) = refl

attribute_on : (total : ℕ) (c : Cell) (w us cs : List Cell) (f : HtmlFault) → list_all is_in_attribute (chars_of (c ∷ w)) ≡ true → EqualsSign us → BeginsNot is_space cs → value_fault (value_at total cs) ≡ Some f → attribute_fault (attribute_at total c (w ++ (us ++ cs))) ≡ Some f
attribute_on total c w us cs f al e s h =
    let t = both_true (is_in_attribute c.0) (list_all is_in_attribute (chars_of w)) al in
    let n = lower c.0 ∷ map lower (chars_of w) in
    ap attribute_fault (if_true (is_in_attribute c.0) (named total (attribute_run (lower c.0 ∷ []) (w ++ (us ++ cs)))) (Err (fault kind.BadAttr c.1)) t.0
    ∙ ap (named total) (attribute_run_on (lower c.0 ∷ []) w (us ++ cs) t.1 (name_stops us cs e)))
    ∙ (then_fault n (value_behind total (past_spaces (us ++ cs)))
    ∙ (ap value_fault (equals_on total us cs e s) ∙ h))

-- what an attribute's fault is for the tag
go_fault : (k total : ℕ) (done : Attributes) (c : Cell) (cs : List Cell) (f : HtmlFault) (x : AttributeRead) → attribute_fault x ≡ Some f → inside_fault (go_on k total done None c cs x) ≡ Some f
go_fault k total done c cs f (Err e) h = h
go_fault k total done c cs f (Ok r) h = attributes_stay k total (with_attribute done r.0 r.1.text) (met_first None r.1.fault) f r.2 h

here_on : (total : ℕ) (done : Attributes) (c : Cell) (cs : List Cell) (f : HtmlFault) → (c.0 == 62) ≡ false → (c.0 == 47) ≡ false → is_space c.0 ≡ false → attribute_fault (attribute_at total c cs) ≡ Some f → inside_fault (attributes_from total done None (c ∷ cs)) ≡ Some f
here_on total done c cs f a b s h = ap inside_fault (attribute_here total done None c cs a b s) ∙ go_fault (suc (length cs)) total done c cs f (attribute_at total c cs) h

slash_at : (total : ℕ) (done : Attributes) (s : Cell) (cs : List Cell) → s.0 ≡ 47 → attributes_from total done None (s ∷ cs) ≡ slash total done None s.1 cs
slash_at total done s cs h =
    let k = suc (length cs) in
    let more = if is_space s.0 then attributes_within k total done None cs else go_on k total done None s cs (attribute_at total s cs) in
    if_false (s.0 == 62) (inside done false None, cs) (if s.0 == 47 then slash total done None s.1 cs else more) (slash_no_end s.0 h)
    ∙ if_true (s.0 == 47) (slash total done None s.1 cs) more (code_is s.0 47 h)

wrong_on : (total : ℕ) (done : Attributes) (cs : List Cell) (f : HtmlFault) → Wrong total cs f → inside_fault (attributes_from total done None cs) ≡ Some f
wrong_on total done cs f tag_cut = refl
wrong_on total done cs f (slash_cut s h) = ap inside_fault (slash_at total done s [] h)
wrong_on total done cs f (slash_inside s c ds h n) = ap inside_fault (slash_at total done s (c ∷ ds) h ∙ if_false (c.0 == 62) (inside done true None, ds) (broken done None (fault kind.BadAttr s.1) (c ∷ ds)) n)
wrong_on total done cs f (no_attribute c ds h) =
    let x = neither (is_in_attribute c.0 || is_space c.0 || c.0 == 62) (c.0 == 47) h in
    let y = neither (is_in_attribute c.0 || is_space c.0) (c.0 == 62) x.0 in
    let z = neither (is_in_attribute c.0) (is_space c.0) y.0 in
    here_on total done c ds (fault kind.BadAttr c.1) y.1 x.1 z.1 (ap attribute_fault (if_false (is_in_attribute c.0) (named total (attribute_run (lower c.0 ∷ []) ds)) (Err (fault kind.BadAttr c.1)) z.0))
wrong_on total done cs f (wrong_value c w us ds g al e s v) =
    let t = both_true (is_in_attribute c.0) (list_all is_in_attribute (chars_of w)) al in
    here_on total done c (w ++ (us ++ ds)) g (attribute_no_end c.0 t.0) (attribute_no_slash c.0 t.0) (attribute_no_space c.0 t.0) (attribute_on total c w us ds g al e s (wrong_value_on total ds g v))

space_at : (total : ℕ) (done : Attributes) (c : Cell) (cs : List Cell) → is_space c.0 ≡ true → attributes_from total done None (c ∷ cs) ≡ attributes_from total done None cs
space_at total done c cs h =
    let k = suc (length cs) in
    let on = go_on k total done None c cs (attribute_at total c cs) in
    let more = if is_space c.0 then attributes_within k total done None cs else on in
    if_false (c.0 == 62) (inside done false None, cs) (if c.0 == 47 then slash total done None c.1 cs else more) (space_no_end c.0 h)
    ∙ (if_false (c.0 == 47) (slash total done None c.1 cs) more (space_no_slash c.0 h)
    ∙ if_true (is_space c.0) (attributes_within k total done None cs) on h)

so_far_on : (total : ℕ) (ws us : List Cell) (f : HtmlFault) → SoFar ws us → ((done : Attributes) → inside_fault (attributes_from total done None ws) ≡ Some f) → (done : Attributes) → inside_fault (attributes_from total done None (us ++ ws)) ≡ Some f
so_far_on total ws us f none_yet w done = w done
so_far_on total ws us f (space_first c vs h m) w done = ap inside_fault (space_at total done c (vs ++ ws) h) ∙ so_far_on total ws vs f m w done
so_far_on total ws us f (attribute_first n v vs xs a m) w done =
    ap (λ ys. inside_fault (attributes_from total done None ys)) (append_assoc vs xs ws)
    ∙ (ap inside_fault (one_on total done n v vs (xs ++ ws) a) ∙ so_far_on total ws xs f m w (with_attribute done n v))

-- what is wrong inside of a tag is its first fault
pub wrong_inside : (total : ℕ) (cs : List Cell) (f : HtmlFault) → WrongInside total cs f → (attributes total cs).0.fault ≡ Some f
wrong_inside total cs f w =
    ap (λ xs. inside_fault (attributes total xs)) w.whole ∙ so_far_on total w.behind w.before f w.so_far (λ done. wrong_on total done w.behind f w.wrong) []
