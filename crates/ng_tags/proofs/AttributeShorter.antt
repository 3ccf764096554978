-- What is read of a tag leaves no more than there was.
use Rattle.std.proofs.Common.{◌≤◌, ℕ, zero, suc, Bool, true, false, List, [], ◌∷◌, ◌++◌, length, arith}
use Rattle.std.specs.Prelude.{Option, Result, Ok, Err, if◌then◌else◌, ◌==◌}
use Rattle.ng_base.specs.Cells.{Cell}
use Rattle.ng_base.specs.Meets.{◌>>=◌}
use Rattle.ng_markup.specs.Forest.{Attributes}
use Rattle.ng_tags.specs.Free.{fault, met_or, met_first}
use Rattle.ng_tags.specs.Letters.{is_space, is_in_attribute, is_bare, lower}
use Rattle.ng_tags.specs.Skips.{past_spaces}
use Rattle.ng_tags.specs.References.{character}
use Rattle.ng_tags.specs.Texts.{ends, with_character, text_within, text_run, no_text}
use Rattle.ng_tags.specs.Attributes.{ValueRead, AttributeRead, attribute_run, quoted, unquoted, value_at, value_behind, named, attribute_at, inside, broken, slash, either_way, with_attribute, attributes_within}
use Rattle.ng_tags.specs.declared.attributes.Inside.{Inside}
use Rattle.ng_tags.specs.declared.fault.HtmlFault.{HtmlFault}
use Rattle.ng_tags.specs.declared.fault.HtmlKind.TheVariants as kind
use Rattle.ng_tags.specs.declared.texts.Decoded.{Decoded}
use Rattle.ng_tags.specs.declared.until.Until.{Until}
use Rattle.ng_tags.specs.declared.until.Until.TheVariants as until
use Rattle.ng_tags.proofs.Shorter.{Left, either, spaces_less, character_less}

pub text_less : (k : ℕ) (u : Until) (d : Decoded) (cs : List Cell) → Left (text_within k u d cs) (length cs)
text_less zero u d cs = omega arith
text_less (suc k) u d [] = omega arith
text_less (suc k) u d (c ∷ cs) =
    let r = character c.0 cs in
    either (ends u c.0 cs) (d, c ∷ cs) (text_within k u (with_character d c.1 r.0) r.1) (length (c ∷ cs)) (omega arith)
    (omega (arith, text_less k u (with_character d c.1 r.0) r.1, character_less c.0 cs))

pub run_less : (u : Until) (cs : List Cell) → Left (text_run u cs) (length cs)
run_less u cs = text_less (suc (length cs)) u no_text cs

abbrev pub LeftOk : {A E : Type 0} → Result (A × List Cell) E → ℕ → Type 0
LeftOk (Ok r) m = length r.1 ≤ m
LeftOk (Err e) m = Unit {0}

pub either_ok : {A E : Type 0} (b : Bool) (x y : Result (A × List Cell) E) (m : ℕ) → LeftOk x m → LeftOk y m → LeftOk (if b then x else y) m
either_ok true x y m h i = h
either_ok false x y m h i = i

pub more_ok : {A E : Type 0} (x : Result (A × List Cell) E) (m n : ℕ) → LeftOk x m → m ≤ n → LeftOk x n
more_ok (Ok r) m n h i = omega arith
more_ok (Err e) m n h i = tt

quoted_less : (total m : ℕ) (r : Decoded × List Cell) → Left r m → LeftOk (quoted total r) m
quoted_less total m (d, []) h = tt
quoted_less total m (d, c ∷ cs) h = omega arith

unquoted_less : (m : ℕ) (r : Decoded × List Cell) → Left r m → LeftOk (unquoted r) m
unquoted_less m (d, []) h = h
unquoted_less m (d, c ∷ cs) h = either_ok (c.0 == 96) (Err (met_or d.fault (fault kind.BadAttr c.1))) (Ok (d, c ∷ cs)) m tt h

value_less : (total : ℕ) (cs : List Cell) → LeftOk (value_at total cs) (length cs)
value_less total [] = tt
value_less total (c ∷ cs) =
    let m = length (c ∷ cs) in
    let double = quoted total (text_run until.Double cs) in
    let single = quoted total (text_run until.Single cs) in
    let bare = unquoted (text_run until.Space (c ∷ cs)) in
    let bad : ValueRead = Err (fault kind.BadAttr c.1) in
    either_ok (c.0 == 34) double (if c.0 == 39 then single else if is_bare c.0 then bare else bad) m
    (quoted_less total m (text_run until.Double cs) (omega (arith, run_less until.Double cs)))
    (either_ok (c.0 == 39) single (if is_bare c.0 then bare else bad) m
    (quoted_less total m (text_run until.Single cs) (omega (arith, run_less until.Single cs)))
    (either_ok (is_bare c.0) bare bad m (unquoted_less m (text_run until.Space (c ∷ cs)) (run_less until.Space (c ∷ cs))) tt))

behind_less : (total : ℕ) (cs : List Cell) → LeftOk (value_behind total cs) (length cs)
behind_less total [] = omega arith
behind_less total (c ∷ cs) =
    either_ok (c.0 == 61) (value_at total (past_spaces cs)) (Ok (no_text, c ∷ cs)) (length (c ∷ cs))
    (more_ok (value_at total (past_spaces cs)) (length (past_spaces cs)) (length (c ∷ cs)) (value_less total (past_spaces cs)) (omega (arith, spaces_less cs)))
    (omega arith)

pub run_less_name : (n : List ℕ) (cs : List Cell) → Left (attribute_run n cs) (length cs)
run_less_name n [] = omega arith
run_less_name n (c ∷ cs) = either (is_in_attribute c.0) (attribute_run (n ++ lower c.0 ∷ []) cs) (n, c ∷ cs) (length (c ∷ cs)) (omega (arith, run_less_name (n ++ lower c.0 ∷ []) cs)) (omega arith)

-- an attribute leaves no more than this
abbrev pub AttributeLeft : AttributeRead → ℕ → Type 0
AttributeLeft (Ok r) m = length r.2 ≤ m
AttributeLeft (Err e) m = Unit {0}

then_less : (n : List ℕ) (x : ValueRead) (m k : ℕ) → LeftOk x k → k ≤ m → AttributeLeft (x >>= λ v. Ok (n, v.0, v.1)) m
then_less n (Ok v) m k h i = omega arith
then_less n (Err e) m k h i = tt

either_attribute : (b : Bool) (x y : AttributeRead) (m : ℕ) → AttributeLeft x m → AttributeLeft y m → AttributeLeft (if b then x else y) m
either_attribute true x y m h i = h
either_attribute false x y m h i = i

pub attribute_less : (total : ℕ) (c : Cell) (cs : List Cell) → AttributeLeft (attribute_at total c cs) (length cs)
attribute_less total c cs =
    let r = attribute_run (lower c.0 ∷ []) cs in
    either_attribute (is_in_attribute c.0) (named total r) (Err (fault kind.BadAttr c.1)) (length cs)
    (then_less r.0 (value_behind total (past_spaces r.1)) (length cs) (length (past_spaces r.1)) (behind_less total (past_spaces r.1)) (omega (arith, spaces_less r.1, run_less_name (lower c.0 ∷ []) cs)))
    tt

slash_less : (total : ℕ) (done : Attributes) (f : Option HtmlFault) (p : ℕ) (cs : List Cell) → Left (slash total done f p cs) (length cs)
slash_less total done f p [] = omega arith
slash_less total done f p (c ∷ cs) = either (c.0 == 62) (inside done true f, cs) (broken done f (fault kind.BadAttr p) (c ∷ cs)) (length (c ∷ cs)) (omega arith) (omega arith)

abbrev Go : Type 0
Go = (List ℕ × Decoded × List Cell) → Inside × List Cell

way_less : (x : AttributeRead) (f : Go) (g : HtmlFault → Inside × List Cell) (m k : ℕ) → AttributeLeft x k → ((r : List ℕ × Decoded × List Cell) → length r.2 ≤ k → Left (f r) m) → ((e : HtmlFault) → Left (g e) m) → Left (either_way f g x) m
way_less (Ok r) f g m k h i j = i r h
way_less (Err e) f g m k h i j = j e

pub attributes_less : (k total : ℕ) (done : Attributes) (f : Option HtmlFault) (cs : List Cell) → Left (attributes_within k total done f cs) (length cs)
attributes_less zero total done f cs = omega arith
attributes_less (suc k) total done f [] = omega arith
attributes_less (suc k) total done f (c ∷ cs) =
    let m = length (c ∷ cs) in
    let on = either_way (λ r. attributes_within k total (with_attribute done r.0 r.1.text) (met_first f r.1.fault) r.2) (λ g. broken done f g (c ∷ cs)) (attribute_at total c cs) in
    either (c.0 == 62) (inside done false f, cs) (if c.0 == 47 then slash total done f c.1 cs else if is_space c.0 then attributes_within k total done f cs else on) m (omega arith)
    (either (c.0 == 47) (slash total done f c.1 cs) (if is_space c.0 then attributes_within k total done f cs else on) m (omega (arith, slash_less total done f c.1 cs))
    (either (is_space c.0) (attributes_within k total done f cs) on m (omega (arith, attributes_less k total done f cs))
    (way_less (attribute_at total c cs) (λ r. attributes_within k total (with_attribute done r.0 r.1.text) (met_first f r.1.fault) r.2) (λ g. broken done f g (c ∷ cs)) m (length cs) (attribute_less total c cs)
    (λ r h. omega (arith, attributes_less k total (with_attribute done r.0 r.1.text) (met_first f r.1.fault) r.2))
    (λ e. omega arith))))
