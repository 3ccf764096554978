-- What `filter` keeps, and what `limitTo` leaves.
use Rattle.std.proofs.Common.{◌≡◌, ◌∙◌, ◌-◌, ℕ, ℤ, Bool, true, false, cond, List, [], ◌∷◌, ◌++◌, filter, length, take, drop, refl, sym, ap, append_assoc, append-nil, take-append-drop, if◌then◌else◌}
use Rattle.std.specs.Prelude.{Result, Ok, Err}
use Rattle.ng_base.specs.Meets.{◌>>=◌}
use Rattle.ng_base.specs.Objects.{Object}
use Rattle.ng_base.specs.Views.{ViewTree, list, views_from}
use Rattle.ng_base.specs.declared.fault.Fault.{Fault}
use Rattle.ng_base.proofs.ViewLists.{views_list-from}
use Rattle.ng_language.specs.Unfolding.{is_nothing}
use Rattle.ng_filters.specs.declared.view_ref.Shape.{Shape}
use Rattle.ng_filters.specs.declared.view_ref.Shape.TheVariants as shapes
use Rattle.ng_filters.specs.Parts.{shape_of, items}
use Rattle.ng_filters.specs.Limits.{whole, begin_at, window, between, part}
use Rattle.ng_filters.specs.Matching.{item_matches, kept_with, matching_from, matching, filtered_by, filtered}
use Rattle.ng_filters.specs.Laws.{is_found, stays}

given : {A : Type 0} → Result A Fault → A → A
given (Ok a) d = a
given (Err e) d = d

ok_same : {A : Type 0} (a b : A) → (let x : Result A Fault = Ok a in let y : Result A Fault = Ok b in x ≡ y) → a ≡ b
unfolding given
ok_same a b h = ap (λ r. given r a) h

kept_more : (b : Bool) (t : ViewTree) (done us : List ViewTree) → kept_with b t done ++ us ≡ done ++ cond b (t ∷ us) us
kept_more true t done us = append_assoc done (t ∷ []) us
kept_more false t done us = refl

pub matching_is : (objects : List Object) (p : ViewTree) (done ts us : List ViewTree) → matching_from objects p done ts ≡ Ok us → us ≡ done ++ filter (stays objects p) ts
matching_is objects p done [] us h = sym (ok_same done us h) ∙ sym (append-nil done)
matching_is objects p done (t ∷ ts) us h = by (item_matches objects p t) (λ b. matching_is objects p (kept_with b t done) ts us) h
  where
    by : (r : Result Bool Fault) → ((b : Bool) → matching_from objects p (kept_with b t done) ts ≡ Ok us → us ≡ kept_with b t done ++ filter (stays objects p) ts)
        → (r >>= λ found. matching_from objects p (kept_with found t done) ts) ≡ Ok us → us ≡ done ++ cond (is_found r) (t ∷ filter (stays objects p) ts) (filter (stays objects p) ts)
    by (Ok b) more k = more b k ∙ kept_more b t done (filter (stays objects p) ts)
    by (Err e) more k = absurd (cc)

pub filter_is : (objects : List Object) (t p result : ViewTree) → shape_of objects t ≡ shapes.Items → is_nothing p ≡ false → filtered objects t p ≡ Ok result → items objects result ≡ filter (stays objects p) (items objects t)
filter_is objects t p result a n h = all (matching_from objects p [] (items objects t)) refl (rw (a, n) at h)
  where
    all : (r : Result (List ViewTree) Fault) → matching_from objects p [] (items objects t) ≡ r → (r >>= λ ts. Ok (list (views_from ts))) ≡ Ok result → items objects result ≡ filter (stays objects p) (items objects t)
    all (Ok us) e k =
        let same : list (views_from us) ≡ result = ok_same (list (views_from us)) result k in
        ap (items objects) (sym same) ∙ (views_list-from us ∙ matching_is objects p [] (items objects t) us e)
    all (Err f) e k = absurd (cc)

pub part_within : {A : Type 0} (n : ℤ) (begin : ViewTree) (xs : List A) → (before : List A) × (behind : List A) × (before ++ (part n begin xs ++ behind) ≡ xs)
part_within n begin xs =
    let w = window n (begin_at (whole begin) (length xs)) (length xs) in
    (take w.0 xs, drop (w.1 - w.0) (drop w.0 xs), ap (λ ys. take w.0 xs ++ ys) (take-append-drop (w.1 - w.0) (drop w.0 xs)) ∙ take-append-drop w.0 xs)
