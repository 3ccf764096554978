-- What was read before a refusal, and what it lacks.
use Rattle.std.proofs.Common.{◌≡◌, ◌≤◌, ℕ, List, [], ◌∷◌, ◌++◌, length, refl, ap, ◌∙◌, sym, subst, append_assoc, append-nil, inl, inr}
use Rattle.std.specs.Prelude.{Option, Some, None, Result, Ok, Err, ◌⊎◌, codes}
use Rattle.std.specs.Str.{bytes_eq}
use Rattle.ng_base.specs.Meets.{◌>>=◌}
use Rattle.ng_base.proofs.Binds.{chosen}
use Rattle.ng_language.specs.Choice.{when_some}
use Rattle.ng_language.specs.Trees.{Tree, Trees, PairTree, Pairs, a_number, tree_then}
use Rattle.ng_language.specs.Tokens.{after, name_at, label_at}
use Rattle.ng_language.specs.Reading.{Read, unfit, expect, word_tree, leaf, label, lone_label}
use Rattle.ng_language.specs.Grammar.{rank, label_token, Spells, SpellsArguments, SpellsValues, SpellsItems, SpellsPair, SpellsPairs}
use Rattle.ng_language.specs.declared.syntax.Sign.{Sign}
use Rattle.ng_language.specs.declared.syntax.Sign.TheVariants as sign
use Rattle.ng_language.specs.declared.syntax.Token.{Token}
use Rattle.ng_language.specs.declared.syntax.Token.TheVariants as token
use Rattle.ng_language.specs.declared.syntax.Label.{Label}
use Rattle.ng_language.specs.declared.syntax.Label.TheVariants as labels
use Rattle.ng_language.specs.declared.syntax.Refusal.{Refusal}
use Rattle.ng_language.specs.declared.syntax.Refusal.TheVariants as refusals
use Rattle.ng_language.proofs.Sound.{got}
use Rattle.ng_language.proofs.Fronts.{after_some, name_some, label_some}
use Rattle.ng_refusals.proofs.Local.{then_read}

-- a refusal stands before these tokens; where something can't be assigned, at a `=`
abbrev pub StandsAt : Refusal → List Token → Type 0
StandsAt (refusals.Unfit n) rest = n ≡ length rest
StandsAt (refusals.NotAssignable n) rest = (us : List Token) × (rest ≡ token.Sign sign.Assign ∷ us) × (n ≡ length rest)
StandsAt (refusals.Memory m) rest = ⊥

-- what was read before a refusal can be completed to what is wanted
pub record Completable (P : List Token → Type 0) (e : Refusal) (ts : List Token) : Type 0 where
  pub us : List Token
  pub rest : List Token
  pub whole : ts ≡ us ++ rest
  pub stands : StandsAt e rest
  pub xs : List Token
  pub complete : P (us ++ xs)

-- nothing was read
pub at_once : (P : List Token → Type 0) (e : Refusal) (ts xs : List Token) → StandsAt e ts → P xs → Completable P e ts
at_once P e ts xs s p = record { us = []; rest = ts; whole = refl; stands = s; xs = xs; complete = p }

-- what was read first, and what was read then
pub behind : (P : List Token → Type 0) (e : Refusal) (us vs ts : List Token) → ts ≡ us ++ vs → Completable (λ ys. P (us ++ ys)) e vs → Completable P e ts
behind P e us vs ts h c = record {
  us = us ++ c.us;
  rest = c.rest;
  whole = h ∙ (ap (λ xs. us ++ xs) c.whole ∙ sym (append_assoc us c.us c.rest));
  stands = c.stands;
  xs = c.xs;
  complete = subst P (sym (append_assoc us c.us c.xs)) c.complete;
}

-- what completes one thing completes another, with some more behind it
pub with_more : (Q P : List Token → Type 0) (e : Refusal) (ts zs : List Token) → ((ys : List Token) → Q ys → P (ys ++ zs)) → Completable Q e ts → Completable P e ts
with_more Q P e ts zs f c = record {
  us = c.us;
  rest = c.rest;
  whole = c.whole;
  stands = c.stands;
  xs = c.xs ++ zs;
  complete = subst P (append_assoc c.us c.xs zs) (f (c.us ++ c.xs) c.complete);
}

pub also : (Q P : List Token → Type 0) (e : Refusal) (ts : List Token) → ((ys : List Token) → Q ys → P ys) → Completable Q e ts → Completable P e ts
also Q P e ts f c = record { us = c.us; rest = c.rest; whole = c.whole; stands = c.stands; xs = c.xs; complete = f (c.us ++ c.xs) c.complete }

-- where a refusal came from
StandsIn : {A : Type 0} → List Token → Result A Refusal → Type 0
StandsIn ts (Ok a) = Unit {0}
StandsIn ts (Err e) = StandsAt e ts

pub unfit_err : {A : Type 0} (ts : List Token) (e : Refusal) → (let r : Result A Refusal = unfit ts in r) ≡ Err e → StandsAt e ts
unfolding StandsIn
unfit_err {A} ts e h = subst (λ (r : Result A Refusal). StandsIn ts r) h refl

pub not_assignable_err : {A : Type 0} (ts us : List Token) (e : Refusal) → ts ≡ token.Sign sign.Assign ∷ us → (let r : Result A Refusal = Err (refusals.NotAssignable (length ts)) in r) ≡ Err e → StandsAt e ts
unfolding StandsIn
not_assignable_err {A} ts us e g h = subst (λ (r : Result A Refusal). StandsIn ts r) h (us, g, refl)

pub then_err : {A B : Type 0} (r : Read A) (g : A → List Token → Read B) (e : Refusal) → then_read r g ≡ Err e → (r ≡ Err e) ⊎ ((a : A) × (us : List Token) × (r ≡ got us a) × (g a us ≡ Err e))
then_err (Ok x) g e h = inr (x.0, x.1, refl, h)
then_err (Err d) g e h = inl (cc)

pub after_err : {B : Type 0} (s : Sign) (ts : List Token) (f : List Token → Result B Refusal) (d : Result B Refusal) (e : Refusal) → when_some (after s ts) f d ≡ Err e → ((us : List Token) × (ts ≡ token.Sign s ∷ us) × (f us ≡ Err e)) ⊎ (d ≡ Err e)
after_err {B} s ts f d e h = go (after s ts) refl h
  where
    go : (o : Option (List Token)) → after s ts ≡ o → when_some o f d ≡ Err e → ((us : List Token) × (ts ≡ token.Sign s ∷ us) × (f us ≡ Err e)) ⊎ (d ≡ Err e)
    go (Some us) i h = inl (us, after_some s ts us i, h)
    go None i h = inr h

pub expect_err : {B : Type 0} (s : Sign) (ts : List Token) (f : List Token → Result B Refusal) (e : Refusal) → (expect s ts >>= f) ≡ Err e → StandsAt e ts ⊎ ((us : List Token) × (ts ≡ token.Sign s ∷ us) × (f us ≡ Err e))
expect_err {B} s ts f e h = go (after s ts) refl h
  where
    go : (o : Option (List Token)) → after s ts ≡ o → (when_some o (λ us. let r : Result (List Token) Refusal = Ok us in r) (unfit ts) >>= f) ≡ Err e → StandsAt e ts ⊎ ((us : List Token) × (ts ≡ token.Sign s ∷ us) × (f us ≡ Err e))
    go (Some us) i h = inr (us, after_some s ts us i, h)
    go None i h = inl (unfit_err ts e h)

pub name_err : {B : Type 0} (ts : List Token) (f : List ℕ × List Token → Result B Refusal) (e : Refusal) → when_some (name_at ts) f (unfit ts) ≡ Err e → StandsAt e ts ⊎ ((n : List ℕ) × (us : List Token) × (ts ≡ token.Name n ∷ us) × (f (n, us) ≡ Err e))
name_err {B} ts f e h = go (name_at ts) refl h
  where
    go : (o : Option (List ℕ × List Token)) → name_at ts ≡ o → when_some o f (unfit ts) ≡ Err e → StandsAt e ts ⊎ ((n : List ℕ) × (us : List Token) × (ts ≡ token.Name n ∷ us) × (f (n, us) ≡ Err e))
    go (Some p) i h = inr (p.0, p.1, name_some ts p.1 p.0 i, h)
    go None i h = inl (unfit_err ts e h)

pub label_err : {B : Type 0} (ts : List Token) (f : Label → List Token → Read B) (e : Refusal) → then_read (label ts) f ≡ Err e → StandsAt e ts ⊎ ((l : Label) × (us : List Token) × (ts ≡ label_token l ∷ us) × (f l us ≡ Err e))
label_err {B} ts f e h = go (label_at ts) refl h
  where
    go : (o : Option (Label × List Token)) → label_at ts ≡ o → then_read (when_some o (λ l. got l.1 l.0) (unfit ts)) f ≡ Err e → StandsAt e ts ⊎ ((l : Label) × (us : List Token) × (ts ≡ label_token l ∷ us) × (f l us ≡ Err e))
    go (Some p) i h = inr (p.0, p.1, label_some ts p.1 p.0 i, h)
    go None i h = inl (unfit_err ts e h)

pub leaf_err : (ts : List Token) (e : Refusal) → leaf ts ≡ Err e → StandsAt e ts
leaf_err [] e h = unfit_err [] e h
leaf_err (token.Name n ∷ ts) e h =
    elim (chosen (bytes_eq n (codes "$locals")) (unfit (token.Name n ∷ ts)) (got ts (word_tree n)) (Err e) h) [
      | inl g ↦ unfit_err (token.Name n ∷ ts) e g.1
      | inr g ↦ absurd (cc)
    ]
leaf_err (token.Number n ∷ ts) e h = absurd (cc)
leaf_err (token.Text n ∷ ts) e h = absurd (cc)
leaf_err (token.Sign n ∷ ts) e h = unfit_err (token.Sign n ∷ ts) e h

pub lone_err : (l : Label) (ts : List Token) (e : Refusal) → lone_label l ts ≡ Err e → StandsAt e ts
lone_err (labels.Name n) ts e h = absurd (cc)
lone_err (labels.Text n) ts e h = unfit_err ts e h
lone_err (labels.Number n) ts e h = unfit_err ts e h

-- a tree that binds so tightly
abbrev pub ATree : ℕ → List Token → Type 0
ATree l ys = (t : Tree) × (l ≤ rank t) × Spells t ys

abbrev pub SomeArguments : List Token → Type 0
SomeArguments ys = (bs : Trees) × SpellsArguments bs ys

-- with the closing bracket behind them
abbrev pub Closed : Sign → (List Token → Type 0) → List Token → Type 0
Closed s P ys = (zs : List Token) × P zs × (ys ≡ zs ++ token.Sign s ∷ [])

abbrev pub SomeValues : List Token → Type 0
SomeValues = Closed sign.CloseRound (λ zs. (bs : Trees) × SpellsValues bs zs)

-- at least one of them
abbrev pub ManyValues : List Token → Type 0
ManyValues = Closed sign.CloseRound (λ zs. (t : Tree) × (bs : Trees) × SpellsValues (tree_then t bs) zs)

abbrev pub SomeItems : List Token → Type 0
SomeItems = Closed sign.CloseSquare (λ zs. (bs : Trees) × SpellsItems bs zs)

abbrev pub SomePairs : List Token → Type 0
SomePairs = Closed sign.CloseCurly (λ zs. (ps : Pairs) × SpellsPairs ps zs)

abbrev pub APair : List Token → Type 0
APair ys = (p : PairTree) × SpellsPair p ys

-- the shortest tree
abbrev pub naught : List Token
naught = token.Number 0 ∷ []

pub naught_so : (l : ℕ) → l ≤ 11 → ATree l naught
naught_so l h = (a_number 0, h, refl)

pub as_it_is : (l : ℕ) (t : Tree) (us : List Token) → l ≤ rank t → Spells t us → ATree l (us ++ [])
as_it_is l t us h s = (t, h, subst (λ (ys : List Token). Spells t ys) (sym (append-nil us)) s)
