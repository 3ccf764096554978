use Rattle.std.proofs.Common.{◌≡◌, ◌≤◌, ◌<◌, ◌∙◌, ℕ, List, [], Bool, sym, ap, refl, true, false, bytes_eq, map, drop, length, arith}
use Rattle.std.specs.Prelude.{not}
use Rattle.std.proofs.lemmas.List.{drop_all, length-map}
use Rattle.ng_base.specs.Order.{path_cmp-eq}
use Rattle.ng_link.specs.Arranging.{are_alike}
use Rattle.ng_instances.specs.Instances.{is_path}
use Rattle.ng_instances.specs.InstanceOf.{body_of}
use Rattle.ng_instances.specs.declared.instances.Body as code
use Rattle.ng_link.proofs.AlikeBodies.{alike_longer, alike_next}
use Rattle.ng_link.proofs.arranging.are_alike.Goals as goal

-- what a test for a difference tells
was_same : (t u : Bool) → u ≡ not t → u ≡ false → t ≡ true
was_same true u e f = refl
was_same false u e f = let two : true ≡ false = sym e ∙ f in cc

was_other : (t u : Bool) → u ≡ not t → u ≡ true → t ≡ false
was_other false u e f = refl
was_other true u e f = let two : false ≡ true = sym e ∙ f in cc

-- what a test of two paths tells of the paths that they are
on_paths : (p q left right : List ℕ) (t : Bool) → left ≡ p → right ≡ q → bytes_eq left right ≡ t → is_path p q ≡ t
on_paths p q left right t is_left is_right test =
    sym (path_cmp-eq p q) ∙ (ap (λ (x : List ℕ). bytes_eq x q) (sym is_left) ∙ (ap (bytes_eq left) (sym is_right) ∙ test))

pub returns-then-old-new : goal.returns-then-old-new
returns-then-old-new c =
    let old = c.args.old.now in
    let new = c.args.new.now in
    sym (alike_longer (map body_of old) (map body_of new) (λ e. c.if-old-new.true (sym (length-map old body_of) ∙ (e ∙ length-map new body_of))))

pub returns-then-ne : goal.returns-then-ne
returns-then-ne c =
    let old = c.args.old.now in
    let new = c.args.new.now in
    let i = c.loop-i.i in
    let b = c.index-old-i.result in
    let d = c.index-new-i.result in
    let within : i < length new = omega (arith, c.loop-i-test.true, c.if-old-new.false) in
    let left : List ℕ = c.path.result.now in
    let right : List ℕ = c.path-in-loop-i.result.now in
    let other : bytes_eq left right ≡ false = was_other (bytes_eq left right) c.ne.result c.ne.ensures c.if-ne.true in
    sym (alike_next old new i b d false c.loop-i-test.true within c.index-old-i.is c.index-new-i.is (on_paths b.path d.path left right false c.path.ensures c.path-in-loop-i.ensures other)) ∙ c.loop-i.invariant

pub loop-i-preserved : goal.loop-i-preserved
loop-i-preserved c =
    let old = c.args.old.now in
    let new = c.args.new.now in
    let i = c.loop-i.i in
    let b = c.index-old-i.result in
    let d = c.index-new-i.result in
    let within : i < length new = omega (arith, c.loop-i-test.true, c.if-old-new.false) in
    let left : List ℕ = c.path.result.now in
    let right : List ℕ = c.path-in-loop-i.result.now in
    let same : bytes_eq left right ≡ true = was_same (bytes_eq left right) c.ne.result c.ne.ensures c.if-ne.false in
    sym (alike_next old new i b d true c.loop-i-test.true within c.index-old-i.is c.index-new-i.is (on_paths b.path d.path left right true c.path.ensures c.path-in-loop-i.ensures same)) ∙ c.loop-i.invariant

pub returns : goal.returns
returns c =
    let old = c.args.old.now in
    let new = c.args.new.now in
    let i = c.loop-i.i in
    let past : length new ≤ i = omega (arith, c.loop-i-test.false, c.if-old-new.false) in
    let left : drop i old ≡ [] = drop_all i old c.loop-i-test.false in
    let right : drop i new ≡ [] = drop_all i new past in
    sym (ap (λ (bs : List code.Body). are_alike (map body_of bs) (map body_of (drop i new))) left ∙ ap (λ (bs : List code.Body). are_alike [] (map body_of bs)) right) ∙ c.loop-i.invariant
