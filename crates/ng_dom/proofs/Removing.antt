-- Nodes are taken away one after another.
use Rattle.std.proofs.Common.{◌≡◌, ℕ, Bool, true, false, List, [], ◌∷◌, ◌++◌, Some, None, refl, ap, ◌∙◌, sym, cond, inl, inr, ◌+◌, ◌<◌, length, drop, get_or, drop-cons, add-one, append_assoc}
use Rattle.std.specs.Prelude.{◌==◌, ◌⊎◌}
use Rattle.std.proofs.lemmas.Bool.{eqb-true, eq-eqb}
use Rattle.ng_dom.specs.Records.{Runs}
use Rattle.ng_dom.specs.Lists.{among}
use Rattle.ng_dom.specs.Rooms.{Shape, Room, Rooms, text_shape, comment_shape, element_shape, anchor_shape}
use Rattle.ng_dom.specs.Removal.{all_of, one_if, chosen, chosen_groups, chosen_held, held, is_under, has_parent, room_gone, IsDoomed, Taking}
use Rattle.ng_dom.specs.Kept.{Loses}

pub either : {A B C : Type 0} → (A → C) → (B → C) → A ⊎ B → C
either f g (inl a) = f a
either f g (inr b) = g b

-- a name among two lists is among one of them
among_by : (b : Bool) (q : ℕ) (xs ys : List ℕ) → (among q (xs ++ ys) ≡ true → (among q xs ≡ true) ⊎ (among q ys ≡ true)) → cond b true (among q (xs ++ ys)) ≡ true → (cond b true (among q xs) ≡ true) ⊎ (among q ys ≡ true)
among_by true q xs ys h e = inl refl
among_by false q xs ys h e = h e

pub among-append : (q : ℕ) (xs ys : List ℕ) → among q (xs ++ ys) ≡ true → (among q xs ≡ true) ⊎ (among q ys ≡ true)
among-append q [] ys e = inr e
among-append q (x ∷ xs) ys e = among_by (x == q) q xs ys (among-append q xs ys) e

left_by : (b : Bool) (q : ℕ) (xs ys : List ℕ) → (among q xs ≡ true → among q (xs ++ ys) ≡ true) → cond b true (among q xs) ≡ true → cond b true (among q (xs ++ ys)) ≡ true
left_by true q xs ys h e = refl
left_by false q xs ys h e = h e

pub among-left : (q : ℕ) (xs ys : List ℕ) → among q xs ≡ true → among q (xs ++ ys) ≡ true
among-left q [] ys e = absurd (cc)
among-left q (x ∷ xs) ys e = left_by (x == q) q xs ys (among-left q xs ys) e

right_by : (b : Bool) (q : ℕ) (zs : List ℕ) → among q zs ≡ true → cond b true (among q zs) ≡ true
right_by true q zs e = refl
right_by false q zs e = e

pub among-right : (q : ℕ) (xs ys : List ℕ) → among q ys ≡ true → among q (xs ++ ys) ≡ true
among-right q [] ys e = e
among-right q (x ∷ xs) ys e = right_by (x == q) q (xs ++ ys) (among-right q xs ys e)

one_by : (b : Bool) (q n : ℕ) → (n == q) ≡ b → cond b true false ≡ true → n ≡ q
one_by true q n t e = eqb-true n q t
one_by false q n t e = absurd (cc)

pub among-one : (q n : ℕ) → among q (n ∷ []) ≡ true → n ≡ q
among-one q n e = one_by (n == q) q n refl e

-- a name that passes a test
passes_by : (b : Bool) (p : ℕ → Bool) (q x : ℕ) → p x ≡ b → among q (one_if b x) ≡ true → p q ≡ true
passes_by true p q x s e = ap p (sym (among-one q x e)) ∙ s
passes_by false p q x s e = absurd (cc)

pub among-passes : (p : ℕ → Bool) (q : ℕ) (xs : List ℕ) → among q (chosen p xs) ≡ true → p q ≡ true
among-passes p q [] e = absurd (cc)
among-passes p q (x ∷ xs) e = either (λ h. passes_by (p x) p q x refl h) (among-passes p q xs) (among-append q (one_if (p x) x) (chosen p xs) e)

pub groups-pass : (p : ℕ → Bool) (q : ℕ) (kss : List (List ℕ)) → among q (chosen_groups p kss) ≡ true → p q ≡ true
groups-pass p q [] e = absurd (cc)
groups-pass p q (ks ∷ kss) e = either (among-passes p q ks) (groups-pass p q kss) (among-append q (chosen p ks) (chosen_groups p kss) e)

pub held-passes : (p : ℕ → Bool) (q : ℕ) (x : Shape) → among q (chosen_held p x) ≡ true → p q ≡ true
held-passes p q (text_shape t) e = absurd (cc)
held-passes p q (comment_shape t) e = absurd (cc)
held-passes p q (element_shape n ats ks) e = among-passes p q ks e
held-passes p q (anchor_shape gs) e = groups-pass p q gs e

kept_by : (b : Bool) (p : ℕ → Bool) (q x : ℕ) (zs ys : List ℕ) → (x == q) ≡ b → p q ≡ true → (among q zs ≡ true → among q ys ≡ true) → cond b true (among q zs) ≡ true → among q (one_if (p x) x ++ ys) ≡ true
kept_by true p q x zs ys t is h e = rw (ap p (eqb-true x q t) ∙ is, t) refl
kept_by false p q x zs ys t is h e = among-right q (one_if (p x) x) ys (h e)

pub among-chosen : (p : ℕ → Bool) (q : ℕ) (xs : List ℕ) → p q ≡ true → among q xs ≡ true → among q (chosen p xs) ≡ true
among-chosen p q [] is e = absurd (cc)
among-chosen p q (x ∷ xs) is e = kept_by (x == q) p q x xs (chosen p xs) refl is (among-chosen p q xs is) e

pub groups-chosen : (p : ℕ → Bool) (q : ℕ) (kss : List (List ℕ)) → p q ≡ true → among q (all_of kss) ≡ true → among q (chosen_groups p kss) ≡ true
groups-chosen p q [] is e = absurd (cc)
groups-chosen p q (ks ∷ kss) is e =
    either (λ h. among-left q (chosen p ks) (chosen_groups p kss) (among-chosen p q ks is h))
    (λ h. among-right q (chosen p ks) (chosen_groups p kss) (groups-chosen p q kss is h)) (among-append q ks (all_of kss) e)

pub held-chosen : (p : ℕ → Bool) (q : ℕ) (x : Shape) → p q ≡ true → among q (held x) ≡ true → among q (chosen_held p x) ≡ true
held-chosen p q (text_shape t) is e = absurd (cc)
held-chosen p q (comment_shape t) is e = absurd (cc)
held-chosen p q (element_shape n ats ks) is e = among-chosen p q ks is e
held-chosen p q (anchor_shape gs) is e = groups-chosen p q gs is e

pub chosen-step : (p : ℕ → Bool) (xs : List ℕ) (i d : ℕ) (left new whole : List ℕ) → i < length xs → left ++ chosen p (drop i xs) ≡ whole
    → new ≡ left ++ one_if (p (get_or xs i d)) (get_or xs i d) → new ++ chosen p (drop (i + 1) xs) ≡ whole
chosen-step p xs i d left new whole h inv e =
    let x = get_or xs i d in
    let step : drop i xs ≡ x ∷ drop (i + 1) xs = rw add-one (drop-cons xs i d h) in
    ap (λ (ys : List ℕ). ys ++ chosen p (drop (i + 1) xs)) e
    ∙ (append_assoc left (one_if (p x) x) (chosen p (drop (i + 1) xs)) ∙ (ap (λ (ys : List ℕ). left ++ ys) (sym (ap (chosen p) step)) ∙ inv))

-- before any is taken
pub taking_start : (names : List ℕ) (r : Rooms) → Taking names r r names
taking_start names r = record {
  each = λ q. inl refl;
  doomed = λ q e. inl e;
  roots = λ q e. inr e;
  closed = λ p q x is gone among under. absurd (let two : Some x ≡ None = sym is ∙ gone in cc);
}

-- the next name is taken
module _ (names : List ℕ) (r a b : Rooms) (n : ℕ) (left : List ℕ) (was : Taking names r a (left ++ n ∷ [])) (rooms : (q : ℕ) → b q ≡ room_gone n a q) where
  gone_here : b n ≡ None
  gone_here = rooms n ∙ rw (eq-eqb n n refl) refl

  others : (q : ℕ) → (q == n) ≡ false → b q ≡ a q
  others q t = rooms q ∙ rw t refl

  stays_gone : (q : ℕ) → a q ≡ None → b q ≡ None
  stays_gone q e = by_test (q == n) refl
    where
      by_test : (c : Bool) → (q == n) ≡ c → b q ≡ None
      by_test true t = rooms q ∙ rw t refl
      by_test false t = others q t ∙ e

  still_doomed : (q : ℕ) → IsDoomed names r a q → IsDoomed names r b q
  still_doomed q (inl e) = inl e
  still_doomed q (inr h) = inr (record { parent = h.parent; under = h.under; gone = stays_gone h.parent h.gone })

  each_now : (q : ℕ) → (b q ≡ r q) ⊎ ((b q ≡ None) × IsDoomed names r b q)
  each_now q = by_test (q == n) refl
    where
      before : (q == n) ≡ false → (a q ≡ r q) ⊎ ((a q ≡ None) × IsDoomed names r a q) → (b q ≡ r q) ⊎ ((b q ≡ None) × IsDoomed names r b q)
      before t (inl e) = inl (others q t ∙ e)
      before t (inr h) = inr (stays_gone q h.0, still_doomed q h.1)

      by_test : (c : Bool) → (q == n) ≡ c → (b q ≡ r q) ⊎ ((b q ≡ None) × IsDoomed names r b q)
      by_test true t =
          let same : n ≡ q = sym (eqb-true q n t) in
          inr (ap b (sym same) ∙ gone_here, still_doomed q (was.doomed q (among-right q left (n ∷ []) (rw (eq-eqb n q same) refl))))
      by_test false t = before t (was.each q)

  -- it isn't there
  module _ (none : a n ≡ None) where
    pass_by : (q : ℕ) → (a q ≡ None) ⊎ (among q (left ++ n ∷ []) ≡ true) → (b q ≡ None) ⊎ (among q left ≡ true)
    pass_by q (inl h) = inl (stays_gone q h)
    pass_by q (inr e) = split (among-append q left (n ∷ []) e)
      where
        split : (among q left ≡ true) ⊎ (among q (n ∷ []) ≡ true) → (b q ≡ None) ⊎ (among q left ≡ true)
        split (inl h) = inr h
        split (inr h) = inl (ap b (sym (among-one q n h)) ∙ gone_here)

    was_gone : (p : ℕ) → b p ≡ None → a p ≡ None
    was_gone p e = by_test (p == n) refl
      where
        by_test : (c : Bool) → (p == n) ≡ c → a p ≡ None
        by_test true t = ap a (eqb-true p n t) ∙ none
        by_test false t = sym (others p t) ∙ e

    pub taking_pass : Taking names r b left
    taking_pass = record {
      each = each_now;
      doomed = λ q e. still_doomed q (was.doomed q (among-left q left (n ∷ []) e));
      roots = λ q e. pass_by q (was.roots q e);
      closed = λ p q x is gone in_it under. pass_by q (was.closed p q x is (was_gone p gone) in_it under);
    }

  -- it is there, and what it held is to be taken too
  module _ (x : Room) (here : a n ≡ Some x) where
    abbrev more : List ℕ
    more = chosen_held (is_under b n) x.shape

    doomed_now : (q : ℕ) → among q (left ++ more) ≡ true → IsDoomed names r b q
    doomed_now q e = split (among-append q left more e)
      where
        by_each : is_under b n q ≡ true → (b q ≡ r q) ⊎ ((b q ≡ None) × IsDoomed names r b q) → IsDoomed names r b q
        by_each u (inl same) = inr (record { parent = n; under = ap (has_parent n) (sym same) ∙ u; gone = gone_here })
        by_each u (inr h) = h.1

        split : (among q left ≡ true) ⊎ (among q more ≡ true) → IsDoomed names r b q
        split (inl h) = still_doomed q (was.doomed q (among-left q left (n ∷ []) h))
        split (inr h) = by_each (held-passes (is_under b n) q x.shape h) (each_now q)

    step_by : (q : ℕ) → (a q ≡ None) ⊎ (among q (left ++ n ∷ []) ≡ true) → (b q ≡ None) ⊎ (among q (left ++ more) ≡ true)
    step_by q (inl h) = inl (stays_gone q h)
    step_by q (inr e) = split (among-append q left (n ∷ []) e)
      where
        split : (among q left ≡ true) ⊎ (among q (n ∷ []) ≡ true) → (b q ≡ None) ⊎ (among q (left ++ more) ≡ true)
        split (inl h) = inr (among-left q left more h)
        split (inr h) = inl (ap b (sym (among-one q n h)) ∙ gone_here)

    was_here : r n ≡ Some x
    was_here = by_each (was.each n)
      where
        by_each : (a n ≡ r n) ⊎ ((a n ≡ None) × IsDoomed names r a n) → r n ≡ Some x
        by_each (inl same) = sym same ∙ here
        by_each (inr h) = absurd (let two : Some x ≡ None = sym here ∙ h.0 in cc)

    closed_now : (p q : ℕ) (y : Room) → r p ≡ Some y → b p ≡ None → among q (held y.shape) ≡ true → is_under r p q ≡ true → (b q ≡ None) ⊎ (among q (left ++ more) ≡ true)
    closed_now p q y is none in_it under = by_test (p == n) refl
      where
        by_each : p ≡ n → (b q ≡ r q) ⊎ ((b q ≡ None) × IsDoomed names r b q) → (b q ≡ None) ⊎ (among q (left ++ more) ≡ true)
        by_each same (inr h) = inl h.0
        by_each same (inl e) =
            let two : Some y ≡ Some x = sym is ∙ (ap r same ∙ was_here) in
            let one : y ≡ x = cc in
            let u : is_under b n q ≡ true = ap (has_parent n) e ∙ (ap (λ (m : ℕ). is_under r m q) (sym same) ∙ under) in
            inr (among-right q left more (held-chosen (is_under b n) q x.shape u (ap (λ (z : Room). among q (held z.shape)) (sym one) ∙ in_it)))

        by_test : (c : Bool) → (p == n) ≡ c → (b q ≡ None) ⊎ (among q (left ++ more) ≡ true)
        by_test true t = by_each (eqb-true p n t) (each_now q)
        by_test false t = step_by q (was.closed p q y is (sym (others p t) ∙ none) in_it under)

    pub taking_step : Taking names r b (left ++ chosen_held (is_under b n) x.shape)
    taking_step = record {
      each = each_now;
      doomed = doomed_now;
      roots = λ q e. step_by q (was.roots q e);
      closed = closed_now;
    }

-- each node is as it was, or no longer there
pub loses_none : (m : Runs) → Loses m m
loses_none m = record { each = λ q. inl refl }
