-- What is spelled by events is built of them, for whatever goes over events one by one.
use Rattle.std.proofs.Common.{◌≡◌, ◌≤◌, ◌<◌, ℕ, suc, ◌+◌, Bool, true, false, not, ◌&&◌, nat_lt, List, [], ◌∷◌, length, refl, ap, ◌∙◌, sym, subst, arith, inl, inr}
use Rattle.std.proofs.lemmas.Bool.Decides.{nat_tests}
use Rattle.std.proofs.lemmas.Slice.Eq.{bytes_eq-Decides}
use Rattle.std.specs.Prelude.{Result, Ok, Err, if◌then◌else◌}
use Rattle.std.specs.Str.{bytes_eq}
use Rattle.ng_base.specs.Meets.{◌>>=◌}
use Rattle.ng_base.proofs.Binds.{if_true, if_false}
use Rattle.ng_markup.specs.Tables.{is_void, is_omittable}
use Rattle.ng_markup.specs.Forest.{Node, Forest, Attributes, element, text, comment, no_nodes, node, with_node}
use Rattle.ng_tags.specs.Free.{fault}
use Rattle.ng_tags.specs.declared.event.Event.{Event}
use Rattle.ng_tags.specs.declared.event.Event.TheVariants as event
use Rattle.ng_tags.specs.declared.fault.HtmlFault.{HtmlFault}
use Rattle.ng_tags.specs.declared.fault.HtmlKind.TheVariants as kind
use Rattle.ng_html.specs.Closing.{is_closing}
use Rattle.ng_html.specs.Building.{State, Around, open_limit, ended, take_event, admitted, opened, content, entered, entered_raw, shut_by, top_closed, close, finish_of, empty}
use Rattle.ng_html.specs.Grammar.{MayFollow, Ends, IsInside, AllInside, tag, SpellsNode, SpellsForest, node_height, height}
use Rattle.ng_html.specs.Running.{joined, run}
use Rattle.ng_html.specs.Standing.{Stands}

joined-none : (d : Forest) → joined d no_nodes ≡ d
joined-none no_nodes = refl
joined-none (node n d) = ap (node n) (joined-none d)

joined-node : (d : Forest) (n : Node) (f : Forest) → joined (with_node d n) f ≡ joined d (node n f)
joined-node no_nodes n f = refl
joined-node (node k d) n f = ap (node k) (joined-node d n f)

abbrev at : List Around → Forest → State
at os done = record { stack = os; done = done }

abbrev AllFitTop : Forest → List Around → Type 0
AllFitTop f [] = Unit {0}
AllFitTop f (o ∷ os) = AllInside o.name f

abbrev FitsTop : Node → List Around → Type 0
FitsTop n [] = Unit {0}
FitsTop n (o ∷ os) = IsInside o.name n

first_fits : (n : Node) (f : Forest) (os : List Around) → AllFitTop (node n f) os → FitsTop n os × AllFitTop f os
first_fits n f [] a = (tt, tt)
first_fits n f (o ∷ os) a = a

top_fits : (n : List ℕ) (a : Attributes) (f : Forest) (os : List Around) → top_closed n os ≡ false → FitsTop (element n a f) os
top_fits n a f [] h = tt
top_fits n a f (o ∷ os) h = h

not_shut : (n : List ℕ) (a : Attributes) (f : Forest) (os : List Around) (done : Forest) → FitsTop (element n a f) os → shut_by n os done ≡ at os done
not_shut n a f [] done h = refl
not_shut n a f (o ∷ os) done h = if_false (is_closing n o.name) (shut_by n os (ended o done)) (at (o ∷ os) done) h

-- a tag in which nothing is wrong is admitted where there is room
is_admitted : (k : ℕ) (n : List ℕ) (a : Attributes) (p : ℕ) (c v : Bool) → k < open_limit → (c && not v) ≡ false → admitted k (tag n a p c) v ≡ Ok tt
is_admitted k n a p c v room h =
    let t = tag n a p c in
    if_true (nat_lt k open_limit) (if c && not v then Err (fault kind.SelfClosed p) else Ok tt) (Err (fault kind.TooDeep p)) (grind (arith, nat_tests, room))
    ∙ if_false (c && not v) (Err (fault kind.SelfClosed p)) (Ok tt) h

abbrev leaf : List Around → Forest → Node → State
leaf os done n = at os (with_node done n)

abbrev inside : List ℕ → Attributes → List Around → Forest → State
inside n a os done = at (record { name = n; attributes = a; before = done } ∷ os) no_nodes

start_taken : (n : List ℕ) (a : Attributes) (p : ℕ) (c : Bool) (f : Forest) (os : List Around) (done : Forest) → FitsTop (element n a f) os → length os < open_limit → (c && not (is_void n)) ≡ false →
    take_event (at os done) (event.Start (tag n a p c)) ≡ Ok (opened (at os done) (tag n a p c))
start_taken n a p c f os done h room k =
    ap (λ (t : State). entered t (tag n a p c)) (not_shut n a f os done h)
    ∙ ap (λ (r : Result (Unit {0}) HtmlFault). let q : Result State HtmlFault = (r >>= λ u. Ok (opened (at os done) (tag n a p c))) in q) (is_admitted (length os) n a p c (is_void n) room k)

raw_taken : (n : List ℕ) (a : Attributes) (p q : ℕ) (x : List ℕ) (os : List Around) (done : Forest) → FitsTop (element n a (content x)) os → length os < open_limit →
    take_event (at os done) (event.Raw (tag n a p false) x q) ≡ Ok (leaf os done (element n a (content x)))
raw_taken n a p q x os done h room =
    ap (λ (t : State). entered_raw t (tag n a p false) x) (not_shut n a (content x) os done h)
    ∙ ap (λ (r : Result (Unit {0}) HtmlFault). let q : Result State HtmlFault = (r >>= λ u. Ok (leaf os done (element n a (content x)))) in q) (is_admitted (length os) n a p false false room refl)

void_opened : (n : List ℕ) (a : Attributes) (p : ℕ) (c : Bool) (os : List Around) (done : Forest) → is_void n ≡ true → opened (at os done) (tag n a p c) ≡ leaf os done (element n a no_nodes)
void_opened n a p c os done v = if_true (is_void n) (leaf os done (element n a no_nodes)) (inside n a os done) v

full_opened : (n : List ℕ) (a : Attributes) (p : ℕ) (c : Bool) (os : List Around) (done : Forest) → is_void n ≡ false → opened (at os done) (tag n a p c) ≡ inside n a os done
full_opened n a p c os done v = if_false (is_void n) (leaf os done (element n a no_nodes)) (inside n a os done) v

may_void : (c v : Bool) → v ≡ true → (c && not v) ≡ false
may_void true true h = refl
may_void false true h = refl
may_void c false h = absurd (cc)

-- R goes over events one by one, and takes an element that may be left open at the end as closed
module _ (X : Type 0) (R : State → List Event → X) (N : Event → List Event → Result State HtmlFault → X)
    (went : (t : State) (e : Event) (es : List Event) → N e es (Ok t) ≡ R t es)
    (turn : (s : State) (e : Event) (es : List Event) → R s (e ∷ es) ≡ N e es (take_event s e))
    (end : (o : Around) (os : List Around) (k : Forest) → is_omittable o.name ≡ true → R (at (o ∷ os) k) [] ≡ R (at os (ended o k)) []) where
  same_turn : (s t : State) (e : Event) (es : List Event) → take_event s e ≡ take_event t e → R s (e ∷ es) ≡ R t (e ∷ es)
  same_turn s t e es h = turn s e es ∙ (ap (N e es) h ∙ sym (turn t e es))

  step : (s t : State) (e : Event) (es : List Event) → take_event s e ≡ Ok t → R s (e ∷ es) ≡ R t es
  step s t e es h = turn s e es ∙ (ap (N e es) h ∙ went t e es)

  shut_more : (o : Around) (os : List Around) (k : Forest) (n : List ℕ) → is_closing n o.name ≡ true → shut_by n (o ∷ os) k ≡ shut_by n os (ended o k)
  shut_more o os k n m = if_true (is_closing n o.name) (shut_by n os (ended o k)) (at (o ∷ os) k) m

  R_left_out : (o : Around) (os : List Around) (k : Forest) (rest : List Event) → is_omittable o.name ≡ true → MayFollow o.name rest → R (at (o ∷ os) k) rest ≡ R (at os (ended o k)) rest
  R_left_out o os k [] h m = end o os k h
  R_left_out o os k (event.Start g ∷ r) h m =
      same_turn (at (o ∷ os) k) (at os (ended o k)) (event.Start g) r (ap (λ (t : State). entered t g) (shut_more o os k g.name m))
  R_left_out o os k (event.Raw g x q ∷ r) h m =
      same_turn (at (o ∷ os) k) (at os (ended o k)) (event.Raw g x q) r (ap (λ (t : State). entered_raw t g x) (shut_more o os k g.name m))
  R_left_out o os k (event.End n p ∷ r) h m =
      same_turn (at (o ∷ os) k) (at os (ended o k)) (event.End n p) r
      (if_false (bytes_eq o.name n) (Ok (at os (ended o k))) (if is_omittable o.name then close os (ended o k) n p else Err (fault kind.Unmatched p)) m
      ∙ if_true (is_omittable o.name) (close os (ended o k) n p) (Err (fault kind.Unmatched p)) h)
  R_left_out o os k (event.Text t p ∷ r) h m = absurd m
  R_left_out o os k (event.Comment t p ∷ r) h m = absurd m

  R_ends : (o : Around) (os : List Around) (k : Forest) (after rest : List Event) → Ends o.name after rest → R (at (o ∷ os) k) after ≡ R (at os (ended o k)) rest
  R_ends o os k after rest (inl e) =
      ap (R (at (o ∷ os) k)) e.1
      ∙ step (at (o ∷ os) k) (at os (ended o k)) (event.End o.name e.0) rest
      (if_true (bytes_eq o.name o.name) (Ok (at os (ended o k))) (if is_omittable o.name then close os (ended o k) o.name e.0 else Err (fault kind.Unmatched e.0)) ((bytes_eq-Decides o.name o.name).1 refl))
  R_ends o os k after rest (inr e) = ap (R (at (o ∷ os) k)) e.1 ∙ R_left_out o os k rest e.0 e.2

  R_opens : (n : List ℕ) (a : Attributes) (p : ℕ) (f : Forest) (os : List Around) (done : Forest) (mid : List Event) → FitsTop (element n a f) os → length os < open_limit → is_void n ≡ false →
      R (at os done) (event.Start (tag n a p false) ∷ mid) ≡ R (inside n a os done) mid
  R_opens n a p f os done mid h room v =
      step (at os done) (inside n a os done) (event.Start (tag n a p false)) mid
      (start_taken n a p false f os done h room refl ∙ ap (λ (t : State). Ok t) (full_opened n a p false os done v))

  abbrev RunsForest : Forest → Type 0
  RunsForest f = (os : List Around) (done : Forest) (es rest : List Event) → SpellsForest f es rest → AllFitTop f os → height f + length os ≤ open_limit → R (at os done) es ≡ R (at os (joined done f)) rest

  R_element : (n : List ℕ) (a : Attributes) (f : Forest) → RunsForest f → (os : List Around) (done : Forest) (es rest : List Event) → SpellsNode (element n a f) es rest → FitsTop (element n a f) os → suc (height f) + length os ≤ open_limit →
      R (at os done) es ≡ R (leaf os done (element n a f)) rest
  R_element n a f ih os done es rest (inl (p, c, v, f_is, es_is)) i h =
      ap (R (at os done)) es_is
      ∙ (step (at os done) (leaf os done (element n a no_nodes)) (event.Start (tag n a p c)) rest
      (start_taken n a p c f os done i (omega (arith, h)) (may_void c (is_void n) v) ∙ ap (λ (t : State). Ok t) (void_opened n a p c os done v))
      ∙ ap (λ (g : Forest). R (leaf os done (element n a g)) rest) (sym f_is))
  R_element n a f ih os done es rest (inr (inl (p, q, x, f_is, es_is))) i h =
      ap (R (at os done)) es_is
      ∙ (step (at os done) (leaf os done (element n a (content x))) (event.Raw (tag n a p false) x q) rest
      (raw_taken n a p q x os done (subst (λ (g : Forest). FitsTop (element n a g) os) f_is i) (omega (arith, h)))
      ∙ ap (λ (g : Forest). R (leaf os done (element n a g)) rest) (sym f_is))
  R_element n a f ih os done es rest (inr (inr (p, mid, after, v, fits, es_is, s, e))) i h =
      ap (R (at os done)) es_is
      ∙ (R_opens n a p f os done mid i (omega (arith, h)) v
      ∙ (ih (record { name = n; attributes = a; before = done } ∷ os) no_nodes mid after s fits (omega (arith, h))
      ∙ R_ends (record { name = n; attributes = a; before = done }) os f after rest e))

  mutual
    R_node : (n : Node) (os : List Around) (done : Forest) (es rest : List Event) → SpellsNode n es rest → FitsTop n os → node_height n + length os ≤ open_limit → R (at os done) es ≡ R (at os (with_node done n)) rest
    R_node (text t) os done es rest s i h = ap (R (at os done)) s.1 ∙ step (at os done) (at os (with_node done (text t))) (event.Text t s.0) rest refl
    R_node (comment t) os done es rest s i h = ap (R (at os done)) s.1 ∙ step (at os done) (at os (with_node done (comment t))) (event.Comment t s.0) rest refl
    R_node (element n a f) os done es rest s i h = R_element n a f (λ os done es rest s i h. R_forest f os done es rest s i h) os done es rest s i h

    pub R_forest : (f : Forest) (os : List Around) (done : Forest) (es rest : List Event) → SpellsForest f es rest → AllFitTop f os → height f + length os ≤ open_limit → R (at os done) es ≡ R (at os (joined done f)) rest
    R_forest no_nodes os done es rest s i h = ap (R (at os done)) s ∙ ap (λ (d : Forest). R (at os d) rest) (sym (joined-none done))
    R_forest (node n f) os done es rest s i h =
        R_node n os done es s.0 s.1 (first_fits n f os i).0 (omega (arith, h))
        ∙ (R_forest f os (with_node done n) s.0 rest s.2 (first_fits n f os i).1 (omega (arith, h))
        ∙ ap (λ (d : Forest). R (at os d) rest) (joined-node done n f))

  -- to go over all events is to go on from what stands
  pub R_stands : (os : List Around) (done : Forest) (es rest : List Event) → Stands os done es rest → R empty es ≡ R (at os done) rest
  R_stands [] done es rest s = R_forest done [] no_nodes es rest s.0 tt (omega (arith, s.1))
  R_stands (o ∷ os) done es rest s =
      R_stands os o.before es (event.Start (tag o.name o.attributes s.0 false) ∷ s.1) s.2
      ∙ (R_opens o.name o.attributes s.0 done os o.before s.1 (top_fits o.name o.attributes done os s.6) (omega (arith, s.7)) s.4
      ∙ R_forest done (o ∷ os) no_nodes s.1 rest s.3 s.5 (omega (arith, s.7)))

pub finish_more : (total : ℕ) (o : Around) (os : List Around) (k : Forest) → is_omittable o.name ≡ true → finish_of total (o ∷ os) k ≡ finish_of total os (ended o k)
finish_more total o os k h = if_true (is_omittable o.name) (finish_of total os (ended o k)) (Err (fault kind.Unclosed total)) h

-- the events of a forest give that forest
pub spelled_runs : (total : ℕ) (f : Forest) (es : List Event) → SpellsForest f es [] → height f ≤ open_limit → run total empty es ≡ Ok f
spelled_runs total f es s h =
    R_forest (Result Forest HtmlFault) (run total) (λ e es r. r >>= λ u. run total u es) (λ t e es. refl) (λ s e es. refl) (finish_more total)
    f [] no_nodes es [] s tt (omega (arith, h))
