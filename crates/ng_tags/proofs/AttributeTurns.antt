-- One attribute more.
use Rattle.std.proofs.Common.{◌≡◌, ◌≤◌, ◌<◌, ℕ, zero, suc, Bool, true, false, List, [], ◌∷◌, length, refl, ap, ◌∙◌, arith}
use Rattle.std.specs.Prelude.{Option, Result, Ok, Err, if◌then◌else◌, ◌==◌}
use Rattle.ng_base.specs.Cells.{Cell}
use Rattle.ng_base.proofs.Binds.{if_false}
use Rattle.ng_markup.specs.Forest.{Attributes}
use Rattle.ng_tags.specs.Free.{met_first}
use Rattle.ng_tags.specs.Letters.{is_space}
use Rattle.ng_tags.specs.Attributes.{AttributeRead, attribute_at, inside, broken, slash, either_way, with_attribute, attributes_within, attributes_from}
use Rattle.ng_tags.specs.declared.attributes.Inside.{Inside}
use Rattle.ng_tags.specs.declared.fault.HtmlFault.{HtmlFault}
use Rattle.ng_tags.specs.declared.texts.Decoded.{Decoded}
use Rattle.ng_tags.proofs.TextTurns.{same_if}
use Rattle.ng_tags.proofs.AttributeShorter.{AttributeLeft, attribute_less}

-- behind an attribute, or at what is none
abbrev pub go_on : ℕ → ℕ → Attributes → Option HtmlFault → Cell → List Cell → AttributeRead → Inside × List Cell
go_on k total done f c cs x = either_way (λ r. attributes_within k total (with_attribute done r.0 r.1.text) (met_first f r.1.fault) r.2) (λ g. broken done f g (c ∷ cs)) x

same_way : {A B : Type 0} (x : Result A HtmlFault) (f h : A → B) (g : HtmlFault → B) → ((r : A) → x ≡ Ok r → f r ≡ h r) → either_way f g x ≡ either_way h g x
same_way (Ok r) f h g i = i r refl
same_way (Err e) f h g i = refl

both_ifs : {A : Type 0} (b : Bool) (x y z w : A) → x ≡ z → y ≡ w → (if b then x else y) ≡ (if b then z else w)
both_ifs true x y z w f g = f
both_ifs false x y z w f g = g

left_of : (x : AttributeRead) (r : List ℕ × Decoded × List Cell) (m : ℕ) → AttributeLeft x m → x ≡ Ok r → length r.2 ≤ m
left_of (Ok s) r m h e = let same : s ≡ r = cc in let rests : length s.2 ≡ length r.2 = ap (λ (q : List ℕ × Decoded × List Cell). length q.2) same in omega arith
left_of (Err e) r m h i = absurd (cc)

-- any room for what is left is enough
pub same_room : (k j total : ℕ) (done : Attributes) (f : Option HtmlFault) (cs : List Cell) → length cs < k → length cs < j → attributes_within k total done f cs ≡ attributes_within j total done f cs
same_room zero j total done f cs h i = absurd (omega arith)
same_room (suc k) zero total done f cs h i = absurd (omega arith)
same_room (suc k) (suc j) total done f [] h i = refl
same_room (suc k) (suc j) total done f (c ∷ cs) h i =
    let x = attribute_at total c cs in
    let less = attribute_less total c cs in
    same_if (c.0 == 62) (inside done false f, cs)
    (if c.0 == 47 then slash total done f c.1 cs else if is_space c.0 then attributes_within k total done f cs else go_on k total done f c cs x)
    (if c.0 == 47 then slash total done f c.1 cs else if is_space c.0 then attributes_within j total done f cs else go_on j total done f c cs x)
    (λ e. same_if (c.0 == 47) (slash total done f c.1 cs) (if is_space c.0 then attributes_within k total done f cs else go_on k total done f c cs x) (if is_space c.0 then attributes_within j total done f cs else go_on j total done f c cs x)
    (λ e2. both_ifs (is_space c.0) (attributes_within k total done f cs) (go_on k total done f c cs x) (attributes_within j total done f cs) (go_on j total done f c cs x)
    (same_room k j total done f cs (omega arith) (omega arith))
    (same_way x (λ r. attributes_within k total (with_attribute done r.0 r.1.text) (met_first f r.1.fault) r.2) (λ r. attributes_within j total (with_attribute done r.0 r.1.text) (met_first f r.1.fault) r.2) (λ g. broken done f g (c ∷ cs))
    (λ r e3. let l : length r.2 ≤ length cs = left_of x r (length cs) less e3 in same_room k j total (with_attribute done r.0 r.1.text) (met_first f r.1.fault) r.2 (omega arith) (omega arith)))))

-- what stands behind no sign and no white space
pub attribute_here : (total : ℕ) (done : Attributes) (f : Option HtmlFault) (c : Cell) (cs : List Cell) → (c.0 == 62) ≡ false → (c.0 == 47) ≡ false → is_space c.0 ≡ false →
    attributes_from total done f (c ∷ cs) ≡ go_on (suc (length cs)) total done f c cs (attribute_at total c cs)
attribute_here total done f c cs h i j =
    let k = suc (length cs) in
    let on = go_on k total done f c cs (attribute_at total c cs) in
    if_false (c.0 == 62) (inside done false f, cs) (if c.0 == 47 then slash total done f c.1 cs else if is_space c.0 then attributes_within k total done f cs else on) h
    ∙ (if_false (c.0 == 47) (slash total done f c.1 cs) (if is_space c.0 then attributes_within k total done f cs else on) i
    ∙ if_false (is_space c.0) (attributes_within k total done f cs) on j)

pub attribute_on : (total : ℕ) (done : Attributes) (f : Option HtmlFault) (c : Cell) (cs : List Cell) (n : List ℕ) (d : Decoded) (rest : List Cell) → (c.0 == 62) ≡ false → (c.0 == 47) ≡ false → is_space c.0 ≡ false →
    attribute_at total c cs ≡ Ok (n, d, rest) → attributes_from total done f (c ∷ cs) ≡ attributes_from total (with_attribute done n d.text) (met_first f d.fault) rest
attribute_on total done f c cs n d rest h i j e =
    let l : length rest ≤ length cs = left_of (attribute_at total c cs) (n, d, rest) (length cs) (attribute_less total c cs) e in
    attribute_here total done f c cs h i j
    ∙ (ap (go_on (suc (length cs)) total done f c cs) e
    ∙ same_room (suc (length cs)) (suc (length rest)) total (with_attribute done n d.text) (met_first f d.fault) rest (omega arith) (omega arith))

pub attribute_err : (total : ℕ) (done : Attributes) (f : Option HtmlFault) (c : Cell) (cs : List Cell) (g : HtmlFault) → (c.0 == 62) ≡ false → (c.0 == 47) ≡ false → is_space c.0 ≡ false →
    attribute_at total c cs ≡ Err g → attributes_from total done f (c ∷ cs) ≡ broken done f g (c ∷ cs)
attribute_err total done f c cs g h i j e = attribute_here total done f c cs h i j ∙ ap (go_on (suc (length cs)) total done f c cs) e

pub attribute_left : (total : ℕ) (c : Cell) (cs : List Cell) (r : List ℕ × Decoded × List Cell) → attribute_at total c cs ≡ Ok r → length r.2 ≤ length cs
attribute_left total c cs r e = left_of (attribute_at total c cs) r (length cs) (attribute_less total c cs) e

pub ruleset attribute_turns = (attribute_on, attribute_err, attribute_less)
