-- What is spelled inside of a tag is read so.
use Rattle.std.proofs.Common.{◌≡◌, ℕ, suc, Bool, true, false, List, [], ◌∷◌, ◌++◌, map, length, refl, ap, ◌∙◌, sym, subst, arith, inl, inr, append_assoc}
use Rattle.std.proofs.lemmas.Bool.Decides.{nat_tests}
use Rattle.std.specs.Prelude.{None, Ok, Err, if◌then◌else◌, ◌==◌}
use Rattle.std.specs.List.{list_all}
use Rattle.ng_base.specs.Cells.{Cell}
use Rattle.ng_base.specs.Meets.{◌>>=◌}
use Rattle.ng_base.proofs.Binds.{if_true, if_false}
use Rattle.ng_markup.specs.Forest.{Attributes}
use Rattle.ng_tags.specs.Free.{fault, met_or}
use Rattle.ng_tags.specs.Letters.{is_space, is_in_attribute, is_bare, lower}
use Rattle.ng_tags.specs.Skips.{past_spaces}
use Rattle.ng_tags.specs.Texts.{decoded, no_text, text_run}
use Rattle.ng_tags.specs.Attributes.{ValueRead, AttributeRead, attribute_run, quoted, unquoted, value_at, value_behind, named, attribute_at, inside, broken, slash, with_attribute, attributes_within, attributes_from}
use Rattle.ng_tags.specs.Spelling.{chars_of, BeginsNot, is_equals_or_space, is_bare_or_backquote, AreSpaces, EqualsSign, IsQuote, Reads, Ended, Valued, IsAttribute, AreAttributes, ends_open, ends_closed, space_then, attribute_then}
use Rattle.ng_tags.specs.Spelling as spelling
use Rattle.ng_tags.specs.declared.fault.HtmlKind.TheVariants as kind
use Rattle.ng_tags.specs.declared.texts.Decoded.{Decoded}
use Rattle.ng_tags.specs.declared.until.Until.{Until}
use Rattle.ng_tags.specs.declared.until.Until.TheVariants as until
use Rattle.ng_tags.proofs.AttributeTurns.{go_on, attribute_on}
use Rattle.ng_tags.proofs.Runs.{code_is, both_true, neither, not_true, attribute_run_on, spaces_on}
use Rattle.ng_tags.proofs.TextComplete.{reads_run}

no_space : (rest : List Cell) → BeginsNot is_equals_or_space rest → BeginsNot is_space rest
no_space [] h = tt
no_space (c ∷ cs) h = (neither (c.0 == 61) (is_space c.0) h).1

no_equals : (total : ℕ) (rest : List Cell) → BeginsNot is_equals_or_space rest → value_behind total rest ≡ Ok (no_text, rest)
no_equals total [] h = refl
no_equals total (c ∷ cs) h = if_false (c.0 == 61) (value_at total (past_spaces cs)) (Ok (no_text, c ∷ cs)) (neither (c.0 == 61) (is_space c.0) h).0

equals_no_space : (c : ℕ) → c ≡ 61 → is_space c ≡ false
equals_no_space c h = subst (λ (n : ℕ). is_space n ≡ false) (sym h) refl

-- `=` and white space, and what stands behind
pub equals_on : (total : ℕ) (vs ds : List Cell) → EqualsSign vs → BeginsNot is_space ds → value_behind total (past_spaces (vs ++ ds)) ≡ value_at total ds
equals_on total vs ds e s =
    let more = e.sign ∷ (e.behind ++ ds) in
    ap (λ xs. value_behind total (past_spaces (xs ++ ds))) e.whole
    ∙ (ap (λ xs. value_behind total (past_spaces xs)) (append_assoc e.before (e.sign ∷ e.behind) ds)
    ∙ (ap (value_behind total) (spaces_on e.before more e.spaces_before (equals_no_space e.sign.0 e.is_sign))
    ∙ (if_true (e.sign.0 == 61) (value_at total (past_spaces (e.behind ++ ds))) (Ok (no_text, more)) (code_is e.sign.0 61 e.is_sign)
    ∙ ap (value_at total) (spaces_on e.behind ds e.spaces_behind s))))

pub bare_no_double : (c : ℕ) → is_bare c ≡ true → (c == 34) ≡ false
bare_no_double c h = grind (arith, nat_tests)

pub bare_no_single : (c : ℕ) → is_bare c ≡ true → (c == 39) ≡ false
bare_no_single c h = grind (arith, nat_tests)

bare_no_space : (c : ℕ) → is_bare c ≡ true → is_space c ≡ false
bare_no_space c h = grind (arith, nat_tests)

bare_ended : (rest : List Cell) → BeginsNot is_bare_or_backquote rest → Ended until.Space rest
bare_ended [] h = tt
bare_ended (c ∷ cs) h = not_true (is_bare c.0) (neither (is_bare c.0) (c.0 == 96) h).0

bare_stops : (d : Decoded) (rest : List Cell) → BeginsNot is_bare_or_backquote rest → unquoted (d, rest) ≡ Ok (d, rest)
bare_stops d [] h = refl
bare_stops d (c ∷ cs) h = if_false (c.0 == 96) (Err (met_or d.fault (fault kind.BadAttr c.1))) (Ok (d, c ∷ cs)) (neither (is_bare c.0) (c.0 == 96) h).1

bare_on : (total : ℕ) (c : Cell) (w rest : List Cell) (v : List ℕ) → is_bare c.0 ≡ true → Reads until.Space rest (c ∷ w) v → BeginsNot is_bare_or_backquote rest → value_at total (c ∷ (w ++ rest)) ≡ Ok (decoded v None, rest)
bare_on total c w rest v b r s =
    let cs = w ++ rest in
    let double = quoted total (text_run until.Double cs) in
    let single = quoted total (text_run until.Single cs) in
    let bare = unquoted (text_run until.Space (c ∷ cs)) in
    let bad : ValueRead = Err (fault kind.BadAttr c.1) in
    if_false (c.0 == 34) double (if c.0 == 39 then single else if is_bare c.0 then bare else bad) (bare_no_double c.0 b)
    ∙ (if_false (c.0 == 39) single (if is_bare c.0 then bare else bad) (bare_no_single c.0 b)
    ∙ (if_true (is_bare c.0) bare bad b
    ∙ (ap unquoted (reads_run until.Space (c ∷ w) rest v r (bare_ended rest s))
    ∙ bare_stops (decoded v None) rest s)))

double_on : (total : ℕ) (q : Cell) (w : List Cell) (z : Cell) (rest : List Cell) (v : List ℕ) → q.0 ≡ 34 → Reads until.Double (z ∷ rest) w v → z.0 ≡ q.0 → value_at total (q ∷ (w ++ z ∷ rest)) ≡ Ok (decoded v None, rest)
double_on total q w z rest v h r e =
    let cs = w ++ z ∷ rest in
    let single = quoted total (text_run until.Single cs) in
    let bare = unquoted (text_run until.Space (q ∷ cs)) in
    let bad : ValueRead = Err (fault kind.BadAttr q.1) in
    if_true (q.0 == 34) (quoted total (text_run until.Double cs)) (if q.0 == 39 then single else if is_bare q.0 then bare else bad) (code_is q.0 34 h)
    ∙ ap (quoted total) (reads_run until.Double w (z ∷ rest) v r (code_is z.0 34 (e ∙ h)))

pub single_no_double : (c : ℕ) → c ≡ 39 → (c == 34) ≡ false
single_no_double c h = subst (λ (n : ℕ). (n == 34) ≡ false) (sym h) refl

single_on : (total : ℕ) (q : Cell) (w : List Cell) (z : Cell) (rest : List Cell) (v : List ℕ) → q.0 ≡ 39 → Reads until.Single (z ∷ rest) w v → z.0 ≡ q.0 → value_at total (q ∷ (w ++ z ∷ rest)) ≡ Ok (decoded v None, rest)
single_on total q w z rest v h r e =
    let cs = w ++ z ∷ rest in
    let single = quoted total (text_run until.Single cs) in
    let bare = unquoted (text_run until.Space (q ∷ cs)) in
    let bad : ValueRead = Err (fault kind.BadAttr q.1) in
    if_false (q.0 == 34) (quoted total (text_run until.Double cs)) (if q.0 == 39 then single else if is_bare q.0 then bare else bad) (single_no_double q.0 h)
    ∙ (if_true (q.0 == 39) single (if is_bare q.0 then bare else bad) (code_is q.0 39 h)
    ∙ ap (quoted total) (reads_run until.Single w (z ∷ rest) v r (code_is z.0 39 (e ∙ h))))

quote_on : (total : ℕ) (u : Until) (q : Cell) (w : List Cell) (z : Cell) (rest : List Cell) (v : List ℕ) → IsQuote q.0 u → Reads u (z ∷ rest) w v → z.0 ≡ q.0 → value_at total (q ∷ (w ++ z ∷ rest)) ≡ Ok (decoded v None, rest)
quote_on total u q w z rest v (inl k) r e = double_on total q w z rest v k.0 (subst (λ (x : Until). Reads x (z ∷ rest) w v) k.1 r) e
quote_on total u q w z rest v (inr k) r e = single_on total q w z rest v k.0 (subst (λ (x : Until). Reads x (z ∷ rest) w v) k.1 r) e

quote_no_space : (u : Until) (q : ℕ) → IsQuote q u → is_space q ≡ false
quote_no_space u q (inl k) = subst (λ (n : ℕ). is_space n ≡ false) (sym k.0) refl
quote_no_space u q (inr k) = subst (λ (n : ℕ). is_space n ≡ false) (sym k.0) refl

valued_on : (total : ℕ) (v : List ℕ) (us rest : List Cell) → Valued rest v us → value_behind total (past_spaces (us ++ rest)) ≡ Ok (decoded v None, rest)
valued_on total v us rest (spelling.no_value s a b) = ap (value_behind total) (spaces_on s rest a (no_space rest b)) ∙ no_equals total rest b
valued_on total v us rest (spelling.bare x vs c w e b r s) =
    ap (λ xs. value_behind total (past_spaces xs)) (append_assoc vs (c ∷ w) rest)
    ∙ (equals_on total vs (c ∷ (w ++ rest)) e (bare_no_space c.0 b) ∙ bare_on total c w rest x b r s)
valued_on total v us rest (spelling.quoted x vs u q w z e k r s) =
    ap (λ xs. value_behind total (past_spaces xs)) (append_assoc vs (q ∷ (w ++ z ∷ [])) rest)
    ∙ (ap (λ xs. value_behind total (past_spaces (vs ++ q ∷ xs))) (append_assoc w (z ∷ []) rest)
    ∙ (equals_on total vs (q ∷ (w ++ z ∷ rest)) e (quote_no_space u q.0 k) ∙ quote_on total u q w z rest x k r s))

-- an attribute that is spelled so
attribute_spelled : (total : ℕ) (n v : List ℕ) (us rest : List Cell) (a : IsAttribute n v us rest) → attribute_at total a.first ((a.more ++ a.behind) ++ rest) ≡ Ok (n, decoded v None, rest)
attribute_spelled total n v us rest a =
    let c = a.first in
    let t = both_true (is_in_attribute c.0) (list_all is_in_attribute (chars_of a.more)) a.characters in
    let build : List ℕ → Decoded × List Cell → AttributeRead = λ m r. Ok (m, r.0, r.1) in
    ap (attribute_at total c) (append_assoc a.more a.behind rest)
    ∙ (if_true (is_in_attribute c.0) (named total (attribute_run (lower c.0 ∷ []) (a.more ++ (a.behind ++ rest)))) (Err (fault kind.BadAttr c.1)) t.0
    ∙ (ap (named total) (attribute_run_on (lower c.0 ∷ []) a.more (a.behind ++ rest) t.1 a.name_ends)
    ∙ (ap (λ (r : ValueRead). r >>= build (lower c.0 ∷ map lower (chars_of a.more))) (valued_on total v a.behind rest a.valued)
    ∙ ap (λ (m : List ℕ). let q : AttributeRead = Ok (m, decoded v None, rest) in q) (sym a.in_lower))))

pub attribute_no_end : (c : ℕ) → is_in_attribute c ≡ true → (c == 62) ≡ false
attribute_no_end c h = grind (arith, nat_tests)

pub attribute_no_slash : (c : ℕ) → is_in_attribute c ≡ true → (c == 47) ≡ false
attribute_no_slash c h = grind (arith, nat_tests)

pub attribute_no_space : (c : ℕ) → is_in_attribute c ≡ true → is_space c ≡ false
attribute_no_space c h = grind (arith, nat_tests)

pub space_no_end : (c : ℕ) → is_space c ≡ true → (c == 62) ≡ false
space_no_end c h = grind (arith, nat_tests)

pub space_no_slash : (c : ℕ) → is_space c ≡ true → (c == 47) ≡ false
space_no_slash c h = grind (arith, nat_tests)

pub slash_no_end : (c : ℕ) → c ≡ 47 → (c == 62) ≡ false
slash_no_end c h = subst (λ (n : ℕ). (n == 62) ≡ false) (sym h) refl

pub one_on : (total : ℕ) (done : Attributes) (n v : List ℕ) (us rest : List Cell) → IsAttribute n v us rest → attributes_from total done None (us ++ rest) ≡ attributes_from total (with_attribute done n v) None rest
one_on total done n v us rest a =
    let c = a.first in
    let t = both_true (is_in_attribute c.0) (list_all is_in_attribute (chars_of a.more)) a.characters in
    ap (λ xs. attributes_from total done None (xs ++ rest)) a.whole
    ∙ attribute_on total done None c ((a.more ++ a.behind) ++ rest) n (decoded v None) rest (attribute_no_end c.0 t.0) (attribute_no_slash c.0 t.0) (attribute_no_space c.0 t.0) (attribute_spelled total n v us rest a)

pub attributes_on : (total : ℕ) (rest : List Cell) (done : Attributes) (us : List Cell) (all : Attributes) (b : Bool) → AreAttributes rest done us all b → attributes_from total done None (us ++ rest) ≡ (inside all b None, rest)
attributes_on total rest done us all b (ends_open d z h) =
    let k = suc (length rest) in
    if_true (z.0 == 62) (inside d false None, rest) (if z.0 == 47 then slash total d None z.1 rest else if is_space z.0 then attributes_within k total d None rest else go_on k total d None z rest (attribute_at total z rest)) (code_is z.0 62 h)
attributes_on total rest done us all b (ends_closed d y z h i) =
    let cs = z ∷ rest in
    let k = suc (length cs) in
    let more = if is_space y.0 then attributes_within k total d None cs else go_on k total d None y cs (attribute_at total y cs) in
    if_false (y.0 == 62) (inside d false None, cs) (if y.0 == 47 then slash total d None y.1 cs else more) (slash_no_end y.0 h)
    ∙ (if_true (y.0 == 47) (slash total d None y.1 cs) more (code_is y.0 47 h)
    ∙ if_true (z.0 == 62) (inside d true None, rest) (broken d None (fault kind.BadAttr y.1) cs) (code_is z.0 62 i))
attributes_on total rest done us all b (space_then d e f c vs h m) =
    let cs = vs ++ rest in
    let k = suc (length cs) in
    let on = go_on k total d None c cs (attribute_at total c cs) in
    let more = if is_space c.0 then attributes_within k total d None cs else on in
    if_false (c.0 == 62) (inside d false None, cs) (if c.0 == 47 then slash total d None c.1 cs else more) (space_no_end c.0 h)
    ∙ (if_false (c.0 == 47) (slash total d None c.1 cs) more (space_no_slash c.0 h)
    ∙ (if_true (is_space c.0) (attributes_within k total d None cs) on h
    ∙ attributes_on total rest d vs e f m))
attributes_on total rest done us all b (attribute_then d e f n v ws vs a m) =
    ap (attributes_from total d None) (append_assoc ws vs rest)
    ∙ (one_on total d n v ws (vs ++ rest) a ∙ attributes_on total rest (with_attribute d n v) vs e f m)
