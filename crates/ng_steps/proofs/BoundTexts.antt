-- The pieces of a text's binding, one after another: their numbers of registration, what they show, and what sites keep of that.
use Rattle.std.proofs.Common.{◌≡◌, ◌-◌, false, ℕ, List, [], ◌∷◌, ◌++◌, Option, Some, None, Result, Ok, Err, ap, sym, ◌∙◌, refl, drop, take, length, map, zero, suc, append_assoc}
use Rattle.std.proofs.lemmas.List.{append-nil, drop_at, length-map}
use Rattle.std.specs.Prelude.{IsErrAnd, option_map}
use Rattle.ng_base.specs.Faults.{is_memory}
use Rattle.ng_base.specs.Meets.{Gives, ◌>>=◌ as ◌>>?◌}
use Rattle.ng_base.specs.Views.{ViewTree}
use Rattle.ng_base.specs.declared.fault.Fault.{Fault}
use Rattle.ng_behaviour.specs.Scopes.{object_at}
use Rattle.ng_core.specs.State as act
use Rattle.ng_drawing.specs.Instance.{text_now, text_view}
use Rattle.ng_drawing.specs.Template.{Piece, word, hole, Site}
use Rattle.ng_steps.specs.LinkBindings.{and_shown, bound_pieces, hole_shown, numbers_of, piece_shown, shown_over}
use Rattle.ng_steps.specs.Links.{Linking, keep_last, registered_many}
use Rattle.ng_language.specs.Trees.{Trees}
use Rattle.ng_instances.specs.Bindings.{BoundPiece}
use Rattle.ng_build.specs.Linking.{piece_steps}
use Rattle.ng_value.specs.Snaps.{snap_of}
use Rattle.ng_value.specs.declared.snapshot.Snap.{Snap}

-- a fault that is handed on
pub gives_err : {A B : Type 0} (seen : A → B) (asked : Result B Fault) (r : Result A Fault) (e : Fault) → IsErrAnd r (λ y. y ≡ e) → (is_memory e ≡ false → asked ≡ Err e) → Gives is_memory seen asked r
gives_err seen asked (Ok v) e is h = absurd is
gives_err seen asked (Err d) e is h = λ (free : is_memory d ≡ false). h (ap is_memory (sym is) ∙ free) ∙ ap Err (sym is)

-- ---- what is registered

-- the sites of a piece come before those of the others
pub registered_first : (x : Piece) (ps : List Piece) (g : Linking) → registered_many (piece_steps ps) (registered_many (piece_steps (x ∷ [])) g) ≡ registered_many (piece_steps (x ∷ ps)) g
registered_first (word w) ps g = refl
registered_first (hole n) ps g = refl

pub registered_turn : (x : Piece) (ps all : List Piece) (g h k : Linking) → h ≡ registered_many (piece_steps (x ∷ [])) g → registered_many (piece_steps (x ∷ ps)) g ≡ registered_many (piece_steps all) k → registered_many (piece_steps ps) h ≡ registered_many (piece_steps all) k
registered_turn x ps all g h k one so_far = ap (registered_many (piece_steps ps)) one ∙ (registered_first x ps g ∙ so_far)

-- each piece takes the numbers that come
pub numbers_first : (all : List Piece) (old : List ℕ) (more : List ℕ) → bound_pieces all (drop (length old) (old ++ more)) ≡ bound_pieces all more
numbers_first all old more = ap (bound_pieces all) (drop_at old more (length old) refl)

pub numbers_turn : (x : Piece) (b : BoundPiece) (ps all : List Piece) (bs : List BoundPiece) (count : ℕ) (now next : List ℕ) → ((qs : List Piece) (ns : List ℕ) → bound_pieces (x ∷ qs) (numbers_of b ++ ns) ≡ b ∷ bound_pieces qs ns) → next ≡ now ++ numbers_of b
    → ((more : List ℕ) → bound_pieces all (drop count (now ++ more)) ≡ bs ++ bound_pieces (x ∷ ps) more) → (more : List ℕ) → bound_pieces all (drop count (next ++ more)) ≡ (bs ++ b ∷ []) ++ bound_pieces ps more
numbers_turn x b ps all bs count now next its grown so_far more =
    ap (λ (ns : List ℕ). bound_pieces all (drop count (ns ++ more))) grown
    ∙ (ap (λ (ns : List ℕ). bound_pieces all (drop count ns)) (append_assoc now (numbers_of b) more)
    ∙ (so_far (numbers_of b ++ more) ∙ (ap (λ (xs : List BoundPiece). bs ++ xs) (its ps more) ∙ sym (append_assoc bs (b ∷ []) (bound_pieces ps more)))))

pub numbers_last : (all rest : List Piece) (bs : List BoundPiece) (count : ℕ) (now : List ℕ) → rest ≡ [] → ((more : List ℕ) → bound_pieces all (drop count (now ++ more)) ≡ bs ++ bound_pieces rest more) → bs ≡ bound_pieces all (drop count now)
numbers_last all rest bs count now none so_far =
    sym (append-nil bs)
    ∙ (ap (λ (ps : List Piece). bs ++ bound_pieces ps []) (sym none) ∙ (sym (so_far []) ∙ ap (λ (ns : List ℕ). bound_pieces all (drop count ns)) (append-nil now)))

-- ---- what is shown

abbrev shown_well : List (List ℕ) → Result (List (List ℕ)) Fault
shown_well ts = Ok ts

pub nothing_more : (done : List (List ℕ)) → and_shown done (Ok []) ≡ Ok done
nothing_more done = ap shown_well (append-nil done)

module _ (over : ℕ) (c : act.State) (done : List (List ℕ)) where
  -- a hole without a site shows nothing
  pub none_shown : (x : Option Site) → None ≡ option_map (λ (y : Site). y.program) x → and_shown done (hole_shown over c x) ≡ Ok done
  none_shown None e = nothing_more done
  none_shown (Some y) e = absurd (cc)

  pub hole_is : (x : Option Site) (p : Trees) (t : List ℕ) → Some p ≡ option_map (λ (y : Site). y.program) x → text_now c.objects (object_at c.scopes over) p ≡ Ok t → and_shown done (hole_shown over c x) ≡ Ok (done ++ t ∷ [])
  hole_is None p t same shown = absurd (cc)
  hole_is (Some y) p t same shown =
      let its : y.program ≡ p = cc in
      ap (λ (r : Result (List ℕ) Fault). and_shown done (r >>? λ s. Ok (s ∷ []))) (ap (text_now c.objects (object_at c.scopes over)) its ∙ shown)

  pub hole_faults : (x : Option Site) (p : Trees) (f : Fault) → Some p ≡ option_map (λ (y : Site). y.program) x → text_now c.objects (object_at c.scopes over) p ≡ Err f → and_shown done (hole_shown over c x) ≡ Err f
  hole_faults None p f same shown = absurd (cc)
  hole_faults (Some y) p f same shown =
      let its : y.program ≡ p = cc in
      ap (λ (r : Result (List ℕ) Fault). and_shown done (r >>? λ s. Ok (s ∷ []))) (ap (text_now c.objects (object_at c.scopes over)) its ∙ shown)

nothing_before : (r : Result (List (List ℕ)) Fault) → and_shown [] r ≡ r
nothing_before (Ok ts) = refl
nothing_before (Err f) = refl

pub shown_from : (r s : Result (List (List ℕ)) Fault) → s ≡ r → r ≡ and_shown [] s
shown_from r s e = sym e ∙ sym (nothing_before s)

-- a piece is shown before the others
shown_first : (over : ℕ) (site : ℕ → Option Site) (x : Piece) (ps : List Piece) (c : act.State) → shown_over over site (x ∷ ps) c ≡ (piece_shown over site x c >>? λ ts. and_shown ts (shown_over over site ps c))
shown_first over site (word w) ps c = sym (nothing_before (shown_over over site ps c))
shown_first over site (hole n) ps c = refl

and_then : (done ts : List (List ℕ)) (r : Result (List (List ℕ)) Fault) → and_shown done (and_shown ts r) ≡ and_shown (done ++ ts) r
and_then done ts (Ok us) = ap shown_well (sym (append_assoc done ts us))
and_then done ts (Err f) = refl

module _ (over : ℕ) (site : ℕ → Option Site) (x : Piece) (ps : List Piece) (c : act.State) (done : List (List ℕ)) (all : Result (List (List ℕ)) Fault) where
  shown_next : (r : Result (List (List ℕ)) Fault) (next : List (List ℕ)) → and_shown done r ≡ Ok next → and_shown done (r >>? λ ts. and_shown ts (shown_over over site ps c)) ≡ and_shown next (shown_over over site ps c)
  shown_next (Ok ts) next e =
      let same : done ++ ts ≡ next = cc in
      and_then done ts (shown_over over site ps c) ∙ ap (λ (vs : List (List ℕ)). and_shown vs (shown_over over site ps c)) same
  shown_next (Err f) next e = absurd (cc)

  shown_ends : (r : Result (List (List ℕ)) Fault) (f : Fault) → and_shown done r ≡ Err f → and_shown done (r >>? λ ts. and_shown ts (shown_over over site ps c)) ≡ Err f
  shown_ends (Ok ts) f e = absurd (cc)
  shown_ends (Err g) f e = e

  pub shown_turn : (next : List (List ℕ)) → and_shown done (piece_shown over site x c) ≡ Ok next → all ≡ and_shown done (shown_over over site (x ∷ ps) c) → all ≡ and_shown next (shown_over over site ps c)
  shown_turn next one so_far = so_far ∙ (ap (and_shown done) (shown_first over site x ps c) ∙ shown_next (piece_shown over site x c) next one)

  pub shown_faults : (f : Fault) → and_shown done (piece_shown over site x c) ≡ Err f → all ≡ and_shown done (shown_over over site (x ∷ ps) c) → all ≡ Err f
  shown_faults f one so_far = so_far ∙ (ap (and_shown done) (shown_first over site x ps c) ∙ shown_ends (piece_shown over site x c) f one)

pub shown_last : (over : ℕ) (site : ℕ → Option Site) (rest : List Piece) (c : act.State) (done : List (List ℕ)) (all : Result (List (List ℕ)) Fault) → rest ≡ [] → all ≡ and_shown done (shown_over over site rest c) → all ≡ Ok done
shown_last over site rest c done all none so_far =
    so_far ∙ (ap (λ (ps : List Piece). and_shown done (shown_over over site ps c)) none ∙ nothing_more done)

-- ---- what sites keep

taken : (k : ℕ) (xs : List (Option Snap)) → map (option_map snap_of) (take k xs) ≡ take k (map (option_map snap_of) xs)
taken zero [] = refl
taken zero (x ∷ xs) = refl
taken (suc k) [] = refl
taken (suc k) (x ∷ xs) = ap (λ (ys : List (Option ViewTree)). option_map snap_of x ∷ ys) (taken k xs)

-- the sites that were registered last keep texts
pub kept_many : (ks cut new : List (Option Snap)) (ts : List (List ℕ)) (m : ℕ) → m ≡ length ks - length ts → cut ≡ take m ks → map (option_map snap_of) new ≡ map (option_map snap_of) cut ++ map (λ t. Some (text_view t)) ts
    → map (option_map snap_of) new ≡ keep_last (map (option_map snap_of) ks) (map (λ t. Some (text_view t)) ts)
kept_many ks cut new ts m few first behind =
    behind
    ∙ ap (λ (xs : List (Option ViewTree)). xs ++ map (λ t. Some (text_view t)) ts)
    (ap (map (option_map snap_of)) first
    ∙ (taken m ks
    ∙ ap (λ (k : ℕ). take k (map (option_map snap_of) ks))
    (few ∙ (ap (λ (k : ℕ). k - length ts) (sym (length-map ks (option_map snap_of))) ∙ ap (λ (k : ℕ). length (map (option_map snap_of) ks) - k) (sym (length-map ts (λ t. Some (text_view t))))))))
