-- What is built of events is spelled by them.
use Rattle.std.proofs.Common.{◌≡◌, ◌≤◌, ◌<◌, ℕ, suc, ◌+◌, Bool, true, false, not, ◌&&◌, ◌-◌, nat_lt, List, [], ◌∷◌, length, refl, ap, ◌∙◌, sym, subst, arith, inl, inr}
use Rattle.std.proofs.lemmas.Bool.Decides.{nat_tests}
use Rattle.std.proofs.lemmas.Slice.Eq.{bytes_eq-Decides}
use Rattle.std.specs.Prelude.{Result, Ok, Err, Option, None, Some, if◌then◌else◌}
use Rattle.std.specs.Str.{bytes_eq}
use Rattle.ng_base.proofs.Binds.{bind_ok, chosen, guarded, if_held}
use Rattle.ng_markup.specs.Tables.{is_void, is_omittable}
use Rattle.ng_markup.specs.Forest.{Node, Forest, Attributes, element, text, comment, no_nodes, node, with_node}
use Rattle.ng_tags.specs.Free.{fault}
use Rattle.ng_tags.specs.Spelling.{IsWhole}
use Rattle.ng_tags.specs.declared.event.Event.{Event}
use Rattle.ng_tags.specs.declared.event.Event.TheVariants as event
use Rattle.ng_tags.specs.declared.event.Tag.{Tag}
use Rattle.ng_tags.specs.declared.fault.HtmlFault.{HtmlFault}
use Rattle.ng_tags.specs.declared.fault.HtmlKind.TheVariants as kind
use Rattle.ng_html.specs.Closing.{is_closing}
use Rattle.ng_html.specs.Building.{State, Around, open_limit, ended, take_event, unharmed, admitted, opened, content, entered, entered_raw, shut_by, top_closed, close, finish_of, with_leaf, empty}
use Rattle.ng_html.specs.Grammar.{MayFollow, Ends, IsInside, AllInside, tag, SpellsNode, SpellsForest, node_height, height}
use Rattle.ng_html.specs.Running.{run}
use Rattle.ng_html.specs.Standing.{Stands}
use Rattle.ng_html.proofs.Omitted.{closing_omittable}

-- one node more
snoc : (f : Forest) (n : Node) (es mid rest : List Event) → SpellsForest f es mid → SpellsNode n mid rest → SpellsForest (with_node f n) es rest
snoc no_nodes n es mid rest s m = (rest, subst (λ xs. SpellsNode n xs rest) (sym s) m, refl)
snoc (node k f) n es mid rest s m = (s.0, s.1, snoc f n s.0 mid rest s.2 m)

inside_snoc : (p : List ℕ) (f : Forest) (n : Node) → AllInside p f → IsInside p n → AllInside p (with_node f n)
inside_snoc p no_nodes n a i = (i, tt)
inside_snoc p (node k f) n a i = (a.0, inside_snoc p f n a.1 i)

height_snoc : (f : Forest) (n : Node) (m : ℕ) → height f ≤ m → node_height n ≤ m → height (with_node f n) ≤ m
height_snoc no_nodes n m h i = omega arith
height_snoc (node k f) n m h i = let e : height (with_node f n) ≤ m = height_snoc f n m (omega arith) i in omega (arith, e)

-- a node fits where the innermost element is not closed by it
abbrev FitsTop : Node → List Around → Type 0
FitsTop n [] = Unit {0}
FitsTop n (o ∷ os) = IsInside o.name n

element_fits : (n : List ℕ) (a : Attributes) (f : Forest) (os : List Around) → top_closed n os ≡ false → FitsTop (element n a f) os
element_fits n a f [] h = tt
element_fits n a f (o ∷ os) h = h

text_fits : (t : List ℕ) (os : List Around) → FitsTop (text t) os
text_fits t [] = tt
text_fits t (o ∷ os) = tt

comment_fits : (t : List ℕ) (os : List Around) → FitsTop (comment t) os
comment_fits t [] = tt
comment_fits t (o ∷ os) = tt

one_more : (os : List Around) (done : Forest) (n : Node) (es mid rest : List Event) → Stands os done es mid → SpellsNode n mid rest → FitsTop n os → node_height n + length os ≤ open_limit → Stands os (with_node done n) es rest
one_more [] done n es mid rest s m i h = (snoc done n es mid rest s.0 m, height_snoc done n open_limit s.1 (omega arith))
one_more (o ∷ os) done n es mid rest s m i h =
    let d : ℕ = open_limit - suc (length os) in
    let e : height (with_node done n) ≤ d = height_snoc done n d (omega (arith, s.7)) (omega (arith, h)) in
    (s.0, s.1, s.2, snoc done n s.1 mid rest s.3 m, s.4, inside_snoc o.name done n s.5 i, s.6, omega (arith, e, s.7))

-- the innermost element ends
ended_at : (o : Around) (os : List Around) (done : Forest) (es after rest : List Event) → Stands (o ∷ os) done es after → Ends o.name after rest → Stands os (ended o done) es rest
ended_at o os done es after rest s e =
    one_more os o.before (element o.name o.attributes done) es (event.Start (tag o.name o.attributes s.0 false) ∷ s.1) rest s.2
    (inr (inr (s.0, s.1, after, s.4, s.5, refl, s.3, e)))
    (element_fits o.name o.attributes done os s.6)
    (omega (arith, s.7))

abbrev pub Stood : State → List Event → List Event → Type 0
Stood s es rest = Stands s.stack s.done es rest

-- what an event begins with closes what it closes
record Shut (n : List ℕ) (s : State) (es : List Event) (rest : List Event) : Type 0 where
  stood : Stood s es rest
  fits : top_closed n s.stack ≡ false

shut_stands : (n : List ℕ) (os : List Around) (done : Forest) (es rest : List Event) → ((m : List ℕ) → is_closing n m ≡ true → MayFollow m rest) → Stands os done es rest → Shut n (shut_by n os done) es rest
shut_stands n [] done es rest k s = record { stood = s; fits = refl }
shut_stands n (o ∷ os) done es rest k s =
    if_held (is_closing n o.name) (shut_by n os (ended o done)) (record { stack = o ∷ os; done = done })
    (λ t. Shut n t es rest)
    (λ h. shut_stands n os (ended o done) es rest k (ended_at o os done es rest rest s (inr (closing_omittable n o.name h, refl, k o.name h))))
    (λ h. record { stood = s; fits = h })

-- a tag that is admitted
pub record IsAdmitted (k : ℕ) (t : Tag) (v : Bool) : Type 0 where
  pub room : k < open_limit
  pub closes : (t.closed && not v) ≡ false
  pub no_fault : t.fault ≡ None

unharmed_is : (o : Option HtmlFault) (u : Unit {0}) → unharmed o ≡ Ok u → o ≡ None
unharmed_is None u h = refl
unharmed_is (Some f) u h = absurd (cc)

pub admitted_is : (k : ℕ) (t : Tag) (v : Bool) (u : Unit {0}) → admitted k t v ≡ Ok u → IsAdmitted k t v
admitted_is k t v u h =
    let g = guarded (nat_lt k open_limit) (if t.closed && not v then Err (fault kind.SelfClosed t.place) else unharmed t.fault) (fault kind.TooDeep t.place) u h in
    elim (chosen (t.closed && not v) (Err (fault kind.SelfClosed t.place)) (unharmed t.fault) (Ok u) g.1) [
      | inl c ↦ absurd (let e = c.1 in cc)
      | inr c ↦ record { room = grind (arith, nat_tests, g.0); closes = c.0; no_fault = unharmed_is t.fault u c.1 }
    ]

-- a tag without a fault is the one of its parts
tag_is : (t : Tag) → t.fault ≡ None → tag t.name t.attrs t.place t.closed ≡ t
tag_is t h = ap (λ o. let u : Tag = record { name = t.name; attrs = t.attrs; place = t.place; closed = t.closed; fault = o } in u) (sym h)

not_closed : (c v : Bool) → (c && not v) ≡ false → v ≡ false → c ≡ false
not_closed false v h i = refl
not_closed true v h i = absurd (cc)

ok_same : {x y : State} → ◌≡◌ {A = Result State HtmlFault} (Ok x) (Ok y) → x ≡ y
ok_same e = cc

start_is : (t : Tag) → t.fault ≡ None → (b : Bool) → t.closed ≡ b → event.Start t ≡ event.Start (tag t.name t.attrs t.place b)
start_is t h b c = ap event.Start (sym (tag_is t h) ∙ ap (tag t.name t.attrs t.place) c)

opened_stands : (s : State) (t : Tag) (es rest : List Event) → IsAdmitted (length s.stack) t (is_void t.name) → Stood s es (event.Start t ∷ rest) → top_closed t.name s.stack ≡ false → Stood (opened s t) es rest
opened_stands s t es rest a i c =
    if_held (is_void t.name) (with_leaf s (element t.name t.attrs no_nodes)) (record { stack = record { name = t.name; attributes = t.attrs; before = s.done } ∷ s.stack; done = no_nodes })
    (λ u. Stood u es rest)
    (λ v. one_more s.stack s.done (element t.name t.attrs no_nodes) es (event.Start t ∷ rest) rest i
    (inl (t.place, t.closed, v, refl, ap (λ e. e ∷ rest) (start_is t a.no_fault t.closed refl)))
    (element_fits t.name t.attrs no_nodes s.stack c)
    (omega (arith, a.room)))
    (λ v. (
      t.place,
      rest,
      subst (λ e. Stands s.stack s.done es (e ∷ rest)) (start_is t a.no_fault false (not_closed t.closed (is_void t.name) a.closes v)) i,
      refl,
      v,
      tt,
      c,
      omega (arith, a.room),
    ))

entered_stands : (s t : State) (g : Tag) (es rest : List Event) → entered s g ≡ Ok t → Stood s es (event.Start g ∷ rest) → top_closed g.name s.stack ≡ false → Stood t es rest
entered_stands s t g es rest h i c =
    let b = bind_ok (admitted (length s.stack) g (is_void g.name)) (λ u. Ok (opened s g)) t h in
    subst (λ u. Stood u es rest) (ok_same b.2) (opened_stands s g es rest (admitted_is (length s.stack) g (is_void g.name) b.0 b.1) i c)

content_height : (x : List ℕ) → height (content x) ≡ 0
content_height [] = refl
content_height (c ∷ cs) = refl

raw_stands : (s t : State) (g : Tag) (x : List ℕ) (q : ℕ) (es rest : List Event) → entered_raw s g x ≡ Ok t → Stood s es (event.Raw g x q ∷ rest) → top_closed g.name s.stack ≡ false → Stood t es rest
raw_stands s t g x q es rest h i c =
    let b = bind_ok (admitted (length s.stack) g false) (λ u. Ok (with_leaf s (element g.name g.attrs (content x)))) t h in
    let a = admitted_is (length s.stack) g false b.0 b.1 in
    let e : height (content x) ≡ 0 = content_height x in
    subst (λ u. Stood u es rest) (ok_same b.2)
    (one_more s.stack s.done (element g.name g.attrs (content x)) es (event.Raw g x q ∷ rest) rest i
    (inr (inl (g.place, q, x, refl, ap (λ u. event.Raw u x q ∷ rest) (sym (tag_is g a.no_fault) ∙ ap (tag g.name g.attrs g.place) (not_closed g.closed false a.closes refl)))))
    (element_fits g.name g.attrs (content x) s.stack c)
    (omega (arith, a.room, e)))

close_stands : (os : List Around) (done : Forest) (n : List ℕ) (p : ℕ) (t : State) (es rest : List Event) → close os done n p ≡ Ok t → Stands os done es (event.End n p ∷ rest) → Stood t es rest
close_stands [] done n p t es rest h s = absurd (cc)
close_stands (o ∷ os) done n p t es rest h s =
    elim (chosen (bytes_eq o.name n) (Ok (record { stack = os; done = ended o done })) (if is_omittable o.name then close os (ended o done) n p else Err (fault kind.Unmatched p)) (Ok t) h) [
      | inl g ↦
          let e : o.name ≡ n = (bytes_eq-Decides o.name n).0 g.0 in
          subst (λ (u : State). Stood u es rest) (ok_same g.1) (ended_at o os done es (event.End n p ∷ rest) rest s (inl (p, ap (λ m. event.End m p ∷ rest) (sym e))))
      | inr g ↦
          let k = guarded (is_omittable o.name) (close os (ended o done) n p) (fault kind.Unmatched p) t g.1 in
          close_stands os (ended o done) n p t es rest k.1 (ended_at o os done es (event.End n p ∷ rest) (event.End n p ∷ rest) s (inr (k.0, refl, g.0)))
    ]

forest_same : {x y : Forest} → ◌≡◌ {A = Result Forest HtmlFault} (Ok x) (Ok y) → x ≡ y
forest_same e = cc

finish_stands : (total : ℕ) (os : List Around) (done f : Forest) (es : List Event) → finish_of total os done ≡ Ok f → Stands os done es [] → SpellsForest f es [] × (height f ≤ open_limit)
finish_stands total [] done f es h s = subst (λ (g : Forest). SpellsForest g es [] × (height g ≤ open_limit)) (forest_same h) s
finish_stands total (o ∷ os) done f es h s =
    let k = guarded (is_omittable o.name) (finish_of total os (ended o done)) (fault kind.Unclosed total) f h in
    finish_stands total os (ended o done) f es k.1 (ended_at o os done es [] [] s (inr (k.0, refl, tt)))

depth_left : (os : List Around) (done : Forest) (es rest : List Event) → Stands os done es rest → 0 + length os ≤ open_limit
depth_left [] done es rest s = omega arith
depth_left (o ∷ os) done es rest s = omega (arith, s.7)

leaf_stands : (s t : State) (n : Node) (e : Event) (es rest : List Event) → ◌≡◌ {A = Result State HtmlFault} (Ok (with_leaf s n)) (Ok t) → SpellsNode n (e ∷ rest) rest → FitsTop n s.stack → node_height n ≡ 0 → Stood s es (e ∷ rest) → Stood t es rest
leaf_stands s t n e es rest h m f z i =
    let d = depth_left s.stack s.done es (e ∷ rest) i in
    subst (λ (u : State). Stood u es rest) (ok_same h) (one_more s.stack s.done n es (e ∷ rest) rest i m f (omega (arith, d, z)))

pub take_stands : (s t : State) (e : Event) (es rest : List Event) → take_event s e ≡ Ok t → Stood s es (e ∷ rest) → Stood t es rest
take_stands s t (event.Start g) es rest h i =
    let k = shut_stands g.name s.stack s.done es (event.Start g ∷ rest) (λ m c. c) i in
    entered_stands (shut_by g.name s.stack s.done) t g es rest h k.stood k.fits
take_stands s t (event.Raw g x q) es rest h i =
    let k = shut_stands g.name s.stack s.done es (event.Raw g x q ∷ rest) (λ m c. c) i in
    raw_stands (shut_by g.name s.stack s.done) t g x q es rest h k.stood k.fits
take_stands s t (event.End n p) es rest h i = close_stands s.stack s.done n p t es rest h i
take_stands s t (event.Text x p) es rest h i = leaf_stands s t (text x) (event.Text x p) es rest h (p, refl) (text_fits x s.stack) refl i
take_stands s t (event.Comment x p) es rest h i = leaf_stands s t (comment x) (event.Comment x p) es rest h (p, refl) (comment_fits x s.stack) refl i

-- what is taken has no fault
pub taken_whole : (s t : State) (e : Event) → take_event s e ≡ Ok t → IsWhole e
taken_whole s t (event.Start g) h =
    let u = shut_by g.name s.stack s.done in
    let b = bind_ok (admitted (length u.stack) g (is_void g.name)) (λ x. Ok (opened u g)) t h in
    (admitted_is (length u.stack) g (is_void g.name) b.0 b.1).no_fault
taken_whole s t (event.Raw g x q) h =
    let u = shut_by g.name s.stack s.done in
    let b = bind_ok (admitted (length u.stack) g false) (λ y. Ok (with_leaf u (element g.name g.attrs (content x)))) t h in
    (admitted_is (length u.stack) g false b.0 b.1).no_fault
taken_whole s t (event.End n p) h = tt
taken_whole s t (event.Text x p) h = tt
taken_whole s t (event.Comment x p) h = tt

run_stands : (total : ℕ) (s : State) (f : Forest) (es rest : List Event) → run total s rest ≡ Ok f → Stood s es rest → SpellsForest f es [] × (height f ≤ open_limit)
run_stands total s f es [] h i = finish_stands total s.stack s.done f es h i
run_stands total s f es (e ∷ rest) h i =
    let b = bind_ok (take_event s e) (λ t. run total t rest) f h in
    run_stands total b.0 f es rest b.2 (take_stands s b.0 e es rest b.1 i)

pub run_spells : (total : ℕ) (f : Forest) (es : List Event) → run total empty es ≡ Ok f → SpellsForest f es [] × (height f ≤ open_limit)
run_spells total f es h = run_stands total empty f es es h (refl, omega arith)
