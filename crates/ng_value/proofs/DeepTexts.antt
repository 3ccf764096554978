-- What a deep snapshot keeps of a value is enough for its text.
use Rattle.std.proofs.Common.{◌≡◌, ◌∙◌, ◌≤◌, ℕ, zero, suc, List, [], ◌∷◌, ◌++◌, refl, ap, subst, arith, if◌then◌else◌, Bool, true, false}
use Rattle.std.specs.Prelude.{Ok, Err}
use Rattle.ng_base.specs.Objects.{Object, object_at}
use Rattle.ng_base.specs.Views.{ViewTree, ViewFields, prim, list, rec, no_fields, views_from, fields_from, views_list, fields_list}
use Rattle.ng_base.specs.declared.heap.ObjKind.{ObjKind}
use Rattle.ng_base.specs.declared.heap.ObjKind.TheVariants as kinds
use Rattle.ng_base.specs.declared.name.Oid.{Oid}
use Rattle.ng_base.specs.declared.value.Value.{Value}
use Rattle.ng_base.specs.declared.value.Value.TheVariants as value
use Rattle.ng_language.specs.Unfolding.{Field, Spent, and_then, as_list, as_record, unfold_within, unfold_view, unfold_object, unfold_items, unfold_fields, below_object, is_left_out, prims, own_entries, object_order, record_order, level_limit, node_limit, made}
use Rattle.ng_language.specs.declared.unfolding.Mode.{Mode}
use Rattle.ng_language.specs.declared.unfolding.Mode.TheVariants as modes
use Rattle.ng_language.specs.Texts.{text_of, items_text, more_text, item_text, to_text}
use Rattle.ng_language.specs.Snapshots.{snapshot}
use Rattle.ng_language.specs.declared.snapshots.SnapKind.TheVariants as snaps

-- a result that was reached in two steps
pub record Stepped {A B : Type 0} (r : Spent A) (f : A → ℕ → Spent B) (y : B × ℕ) : Type 0 where
  pub first : A
  pub left : ℕ
  pub is : r ≡ Ok (first, left)
  pub then_is : f first left ≡ Ok y

stepped : {A B : Type 0} (r : Spent A) (f : A → ℕ → Spent B) (y : B × ℕ) → and_then r f ≡ Ok y → Stepped r f y
stepped (Ok p) f y h = record { first = p.0; left = p.1; is = refl; then_is = h }
stepped (Err e) f y h = absurd (cc)

left_of : {A : Type 0} → Spent A → A → A
left_of (Ok p) d = p.0
left_of (Err e) d = d

rest_of : {A : Type 0} → Spent A → ℕ → ℕ
rest_of (Ok p) n = p.1
rest_of (Err e) n = n

ok_value : {A : Type 0} (a b : A) (m n : ℕ) → (let x : Spent A = Ok (a, m) in let y : Spent A = Ok (b, n) in x ≡ y) → a ≡ b
unfolding left_of
ok_value a b m n h = ap (λ r. left_of r a) h

ok_rest : {A : Type 0} (a b : A) (m n : ℕ) → (let x : Spent A = Ok (a, m) in let y : Spent A = Ok (b, n) in x ≡ y) → m ≡ n
unfolding rest_of
ok_rest a b m n h = ap (λ r. rest_of r m) h

-- what is left never grows
abbrev pub Spends : {A : Type 0} → (ℕ → Spent A) → Type 0
Spends {A} go = (left : ℕ) (u : A) (rest : ℕ) → go left ≡ Ok (u, rest) → rest ≤ left

items_spend : (go : ViewTree → ℕ → Spent ViewTree) → ((t : ViewTree) → Spends (go t)) → (ts done : List ViewTree) → Spends (unfold_items go ts done)
items_spend go s [] done left u rest h = let e = ok_rest done u left rest h in omega (arith, e)
items_spend go s (t ∷ ts) done left u rest h =
    let p = stepped (go t left) (λ v r. unfold_items go ts (done ++ v ∷ []) r) (u, rest) h in
    let a = s t left p.first p.left p.is in
    let b = items_spend go s ts (done ++ p.first ∷ []) p.left u rest p.then_is in
    omega (arith, a, b)

fields_spend : (m : Mode) (go : ViewTree → ℕ → Spent ViewTree) → ((t : ViewTree) → Spends (go t)) → (fs done : List Field) → Spends (unfold_fields m go fs done)
fields_spend m go s [] done left u rest h = let e = ok_rest done u left rest h in omega (arith, e)
fields_spend m go s (f ∷ fs) done left u rest h = by (is_left_out m f.0 f.1) (fields_spend m go s fs) h
  where
    by : (b : Bool) → ((d : List Field) → Spends (unfold_fields m go fs d))
        → (if b then unfold_fields m go fs done left else and_then (go f.1 left) (λ v r. unfold_fields m go fs (done ++ (f.0, v) ∷ []) r)) ≡ Ok (u, rest) → rest ≤ left
    by true more k = more done left u rest k
    by false more k =
        let p = stepped (go f.1 left) (λ v r. unfold_fields m go fs (done ++ (f.0, v) ∷ []) r) (u, rest) k in
        let a = s f.1 left p.first p.left p.is in
        let b = more (done ++ (f.0, p.first) ∷ []) p.left u rest p.then_is in
        omega (arith, a, b)

list_spends : (go : ℕ → Spent (List ViewTree)) → Spends go → Spends (λ left. as_list (go left))
list_spends go s left u rest h =
    let p = stepped (go left) (λ ts r. Ok (list (views_from ts), r)) (u, rest) h in
    let a = s left p.first p.left p.is in
    let e = ok_rest (list (views_from p.first)) u p.left rest p.then_is in
    omega (arith, a, e)

record_spends : (order : List Field → List Field) (go : ℕ → Spent (List Field)) → Spends go → Spends (λ left. as_record order (go left))
record_spends order go s left u rest h =
    let p = stepped (go left) (λ fs r. Ok (rec (fields_from (order fs)), r)) (u, rest) h in
    let a = s left p.first p.left p.is in
    let e = ok_rest (rec (fields_from (order p.first))) u p.left rest p.then_is in
    omega (arith, a, e)

prim_spends : (v : Value) → Spends (λ left. Ok (prim v, left))
prim_spends v left u rest h = let e = ok_rest (prim v) u left rest h in omega (arith, e)

deep_object_spends : (go : Mode → ViewTree → ℕ → Spent ViewTree) → ((t : ViewTree) → Spends (go modes.Deep t)) → (k : ObjKind) (v : Value) (x : Object) → Spends (unfold_object modes.Deep go (below_object modes.Deep k) v x)
deep_object_spends go s kinds.Array v x = list_spends (unfold_items (go modes.Deep) (prims x.items) []) (items_spend (go modes.Deep) s (prims x.items) [])
deep_object_spends go s kinds.Scope v x = prim_spends v
deep_object_spends go s kinds.Plain v x = record_spends (object_order modes.Deep) (unfold_fields modes.Deep (go modes.Deep) (own_entries x) []) (fields_spend modes.Deep (go modes.Deep) s (own_entries x) [])
deep_object_spends go s kinds.Event v x = record_spends (object_order modes.Deep) (unfold_fields modes.Deep (go modes.Deep) (own_entries x) []) (fields_spend modes.Deep (go modes.Deep) s (own_entries x) [])

deep_view_spends : (go : Mode → ViewTree → ℕ → Spent ViewTree) → ((t : ViewTree) → Spends (go modes.Deep t)) → (objects : List Object) (t : ViewTree) → Spends (unfold_view modes.Deep go objects t)
deep_view_spends go s objects (prim value.Undefined) = prim_spends value.Undefined
deep_view_spends go s objects (prim value.Null) = prim_spends value.Null
deep_view_spends go s objects (prim (value.Bool b)) = prim_spends (value.Bool b)
deep_view_spends go s objects (prim (value.Int n)) = prim_spends (value.Int n)
deep_view_spends go s objects (prim value.Nan) = prim_spends value.Nan
deep_view_spends go s objects (prim (value.Text c)) = prim_spends (value.Text c)
deep_view_spends go s objects (prim (value.Fun f)) = prim_spends (value.Fun f)
deep_view_spends go s objects (prim (value.Obj o)) = deep_object_spends go s (object_at objects o.0).kind (value.Obj o) (object_at objects o.0)
deep_view_spends go s objects (list ts) = list_spends (unfold_items (go modes.Deep) (views_list ts) []) (items_spend (go modes.Deep) s (views_list ts) [])
deep_view_spends go s objects (rec fs) = record_spends (record_order modes.Deep) (unfold_fields modes.Deep (go modes.Deep) (fields_list fs) []) (fields_spend modes.Deep (go modes.Deep) s (fields_list fs) [])

deep_spends : (k : ℕ) (objects : List Object) (t : ViewTree) → Spends (unfold_within k objects modes.Deep t)
deep_spends zero objects t left u rest h = absurd (cc)
deep_spends (suc k) objects t zero u rest h = absurd (cc)
deep_spends (suc k) objects t (suc left) u rest h =
    let a = deep_view_spends (unfold_within k objects) (deep_spends k objects) objects t left u rest h in
    omega (arith, a)

-- a view and one that is read the same way
pub record IsReadAs (d x : ViewTree) : Type 0 where
  pub text : text_of x ≡ text_of d
  pub item : (s : List ℕ) → item_text x s ≡ item_text d s

abbrev pub AreReadAs : List ViewTree → List ViewTree → Type 0
AreReadAs [] [] = Unit {0}
AreReadAs (d ∷ ds) (x ∷ xs) = IsReadAs d x × AreReadAs ds xs
AreReadAs ds xs = ⊥

read_self : (d : ViewTree) → IsReadAs d d
read_self d = record { text = refl; item = λ s. refl }

read_more : (ds xs : List ViewTree) (d x : ViewTree) → AreReadAs ds xs → IsReadAs d x → AreReadAs (ds ++ d ∷ []) (xs ++ x ∷ [])
read_more [] [] d x a r = (r, tt)
read_more [] (y ∷ ys) d x a r = absurd a
read_more (e ∷ es) [] d x a r = absurd a
read_more (e ∷ es) (y ∷ ys) d x a r = (a.0, read_more es ys d x a.1 r)

item_same : (d x : ViewTree) → IsReadAs d x → item_text x (text_of x) ≡ item_text d (text_of d)
item_same d x r = r.item (text_of x) ∙ ap (item_text d) r.text

more_same : (ds xs : List ViewTree) → AreReadAs ds xs → more_text (views_from xs) ≡ more_text (views_from ds)
more_same [] [] a = refl
more_same [] (y ∷ ys) a = absurd a
more_same (e ∷ es) [] a = absurd a
more_same (d ∷ ds) (x ∷ xs) a =
    ap (λ s. 44 ∷ (s ++ more_text (views_from xs))) (item_same d x a.0) ∙ ap (λ s. 44 ∷ (item_text d (text_of d) ++ s)) (more_same ds xs a.1)

items_same : (ds xs : List ViewTree) → AreReadAs ds xs → items_text (views_from xs) ≡ items_text (views_from ds)
items_same [] [] a = refl
items_same [] (y ∷ ys) a = absurd a
items_same (e ∷ es) [] a = absurd a
items_same (d ∷ ds) (x ∷ xs) a =
    ap (λ s. s ++ more_text (views_from xs)) (item_same d x a.0) ∙ ap (λ s. item_text d (text_of d) ++ s) (more_same ds xs a.1)

-- a text that was reached with at least as many nodes left
pub record HasText (r : Spent ViewTree) (d : ViewTree) (rest : ℕ) : Type 0 where
  pub view : ViewTree
  pub left : ℕ
  pub is : r ≡ Ok (view, left)
  pub enough : rest ≤ left
  pub read : IsReadAs d view

pub record HaveTexts (r : Spent (List ViewTree)) (ds : List ViewTree) (rest : ℕ) : Type 0 where
  pub views : List ViewTree
  pub left : ℕ
  pub is : r ≡ Ok (views, left)
  pub enough : rest ≤ left
  pub read : AreReadAs ds views

abbrev pub Follows : (ℕ → Spent ViewTree) → (ℕ → Spent ViewTree) → Type 0
Follows deep text = (left more : ℕ) (d : ViewTree) (rest : ℕ) → left ≤ more → deep left ≡ Ok (d, rest) → HasText (text more) d rest

items_follow : (deep text : ViewTree → ℕ → Spent ViewTree) → ((t : ViewTree) → Follows (deep t) (text t)) → (ts ds xs : List ViewTree) → AreReadAs ds xs
    → (left more : ℕ) (us : List ViewTree) (rest : ℕ) → left ≤ more → unfold_items deep ts ds left ≡ Ok (us, rest) → HaveTexts (unfold_items text ts xs more) us rest
items_follow deep text f [] ds xs a left more us rest l h =
    let e = ok_rest ds us left rest h in
    record { views = xs; left = more; is = refl; enough = omega (arith, e); read = subst (λ vs. AreReadAs vs xs) (ok_value ds us left rest h) a }
items_follow deep text f (t ∷ ts) ds xs a left more us rest l h =
    let p = stepped (deep t left) (λ v r. unfold_items deep ts (ds ++ v ∷ []) r) (us, rest) h in
    let q = f t left more p.first p.left l p.is in
    let r = items_follow deep text f ts (ds ++ p.first ∷ []) (xs ++ q.view ∷ []) (read_more ds xs p.first q.view a q.read) p.left q.left us rest q.enough p.then_is in
    record { views = r.views; left = r.left; is = rw q.is r.is; enough = r.enough; read = r.read }

list_follows : (deep text : ViewTree → ℕ → Spent ViewTree) → ((t : ViewTree) → Follows (deep t) (text t)) → (ts : List ViewTree)
    → Follows (λ left. as_list (unfold_items deep ts [] left)) (λ left. as_list (unfold_items text ts [] left))
list_follows deep text f ts left more d rest l h =
    let p = stepped (unfold_items deep ts [] left) (λ vs r. Ok (list (views_from vs), r)) (d, rest) h in
    let q = items_follow deep text f ts [] [] tt left more p.first p.left l p.is in
    let v = ok_value (list (views_from p.first)) d p.left rest p.then_is in
    let e = ok_rest (list (views_from p.first)) d p.left rest p.then_is in
    let read : IsReadAs (list (views_from p.first)) (list (views_from q.views)) = record { text = items_same p.first q.views q.read; item = λ s. refl } in
    record { view = list (views_from q.views); left = q.left; is = rw q.is refl; enough = subst (λ n. n ≤ q.left) e q.enough; read = subst (λ t. IsReadAs t (list (views_from q.views))) v read }

-- a record reads as any object
record_follows : (order : List Field → List Field) (go : ℕ → Spent (List Field)) (x : ViewTree) → Spends go → ((fs : ViewFields) → IsReadAs (rec fs) x)
    → Follows (λ left. as_record order (go left)) (λ left. Ok (x, left))
record_follows order go x s a left more d rest l h =
    let p = stepped (go left) (λ fs r. Ok (rec (fields_from (order fs)), r)) (d, rest) h in
    let w = s left p.first p.left p.is in
    let v = ok_value (rec (fields_from (order p.first))) d p.left rest p.then_is in
    let e = ok_rest (rec (fields_from (order p.first))) d p.left rest p.then_is in
    record { view = x; left = more; is = refl; enough = omega (arith, w, e); read = subst (λ t. IsReadAs t x) v (a (fields_from (order p.first))) }

prim_follows : (v : Value) → Follows (λ left. Ok (prim v, left)) (λ left. Ok (prim v, left))
prim_follows v left more d rest l h =
    let w = ok_value (prim v) d left rest h in
    let e = ok_rest (prim v) d left rest h in
    record { view = prim v; left = more; is = refl; enough = omega (arith, e); read = subst (λ t. IsReadAs t (prim v)) w (read_self (prim v)) }

object_reads : (o : Oid) (fs : ViewFields) → IsReadAs (rec fs) (prim (value.Obj o))
object_reads o fs = record { text = refl; item = λ s. refl }

record_reads : (fs : ViewFields) → IsReadAs (rec fs) (rec no_fields)
record_reads fs = record { text = refl; item = λ s. refl }

object_follows : (go : Mode → ViewTree → ℕ → Spent ViewTree) → ((t : ViewTree) → Spends (go modes.Deep t)) → ((t : ViewTree) → Follows (go modes.Deep t) (go modes.Text t)) → (k : ObjKind) (o : Oid) (x : Object)
    → Follows (unfold_object modes.Deep go (below_object modes.Deep k) (value.Obj o) x) (unfold_object modes.Text go (below_object modes.Text k) (value.Obj o) x)
object_follows go s f kinds.Array o x = list_follows (go modes.Deep) (go modes.Text) f (prims x.items)
object_follows go s f kinds.Scope o x = prim_follows (value.Obj o)
object_follows go s f kinds.Plain o x =
    record_follows (object_order modes.Deep) (unfold_fields modes.Deep (go modes.Deep) (own_entries x) []) (prim (value.Obj o)) (fields_spend modes.Deep (go modes.Deep) s (own_entries x) []) (object_reads o)
object_follows go s f kinds.Event o x =
    record_follows (object_order modes.Deep) (unfold_fields modes.Deep (go modes.Deep) (own_entries x) []) (prim (value.Obj o)) (fields_spend modes.Deep (go modes.Deep) s (own_entries x) []) (object_reads o)

view_follows : (go : Mode → ViewTree → ℕ → Spent ViewTree) → ((t : ViewTree) → Spends (go modes.Deep t)) → ((t : ViewTree) → Follows (go modes.Deep t) (go modes.Text t)) → (objects : List Object) (t : ViewTree)
    → Follows (unfold_view modes.Deep go objects t) (unfold_view modes.Text go objects t)
view_follows go s f objects (prim value.Undefined) = prim_follows value.Undefined
view_follows go s f objects (prim value.Null) = prim_follows value.Null
view_follows go s f objects (prim (value.Bool b)) = prim_follows (value.Bool b)
view_follows go s f objects (prim (value.Int n)) = prim_follows (value.Int n)
view_follows go s f objects (prim value.Nan) = prim_follows value.Nan
view_follows go s f objects (prim (value.Text c)) = prim_follows (value.Text c)
view_follows go s f objects (prim (value.Fun g)) = prim_follows (value.Fun g)
view_follows go s f objects (prim (value.Obj o)) = object_follows go s f (object_at objects o.0).kind o (object_at objects o.0)
view_follows go s f objects (list ts) = list_follows (go modes.Deep) (go modes.Text) f (views_list ts)
view_follows go s f objects (rec fs) =
    record_follows (record_order modes.Deep) (unfold_fields modes.Deep (go modes.Deep) (fields_list fs) []) (rec no_fields) (fields_spend modes.Deep (go modes.Deep) s (fields_list fs) []) record_reads

within_follows : (k : ℕ) (objects : List Object) (t : ViewTree) → Follows (unfold_within k objects modes.Deep t) (unfold_within k objects modes.Text t)
within_follows zero objects t left more d rest l h = absurd (cc)
within_follows (suc k) objects t zero more d rest l h = absurd (cc)
within_follows (suc k) objects t (suc left) zero d rest l h = absurd (omega arith)
within_follows (suc k) objects t (suc left) (suc more) d rest l h =
    view_follows (unfold_within k objects) (deep_spends k objects) (within_follows k objects) objects t left more d rest (omega arith) h

made_ok : {A : Type 0} (r : Spent A) (d : A) → made r ≡ Ok d → (rest : ℕ) × (r ≡ Ok (d, rest))
made_ok (Ok p) d h = (p.1, (let e : p.0 ≡ d = cc in ap (λ x. Ok (x, p.1)) e))
made_ok (Err e) d h = absurd (cc)

-- the text of a value is that of its deep snapshot
pub deep_text : (objects : List Object) (t d : ViewTree) → snapshot snaps.Deep objects t ≡ Ok d → to_text objects t ≡ Ok (text_of d)
deep_text objects t d h =
    let p = made_ok (unfold_within level_limit objects modes.Deep t node_limit) d h in
    let q = within_follows level_limit objects t node_limit node_limit d p.0 (omega arith) p.1 in
    rw q.is (ap Ok q.read.text)
