-- What operators and what stands behind a primary have read before a refusal can be completed.
use Rattle.std.proofs.Common.{◌≡◌, ◌≤◌, ℕ, suc, List, [], ◌∷◌, ◌++◌, refl, ap, ◌∙◌, sym, subst, arith, append_assoc, inl, inr, lit≤}
use Rattle.std.specs.Prelude.{Option, Some, None, Ok, Err, codes}
use Rattle.ng_base.specs.Meets.{◌>>=◌}
use Rattle.ng_language.specs.Choice.{when_some}
use Rattle.ng_language.specs.Trees.{Tree, Trees, member_of, item_of, call_of, signed, trees_from}
use Rattle.ng_language.specs.Tokens.{after, name_at, unary_at, joint_of, joint_at, tightness}
use Rattle.ng_language.specs.Reading.{Read, unfit, expect, joined, expression, operators, operand, operations, unary, primary, postfix, called, head}
use Rattle.ng_language.specs.Grammar.{sign_of_unary, sign_of_binary, binary_rank, rank, Spells}
use Rattle.ng_language.specs.declared.syntax.Sign.{Sign}
use Rattle.ng_language.specs.declared.syntax.Sign.TheVariants as sign
use Rattle.ng_language.specs.declared.syntax.Token.{Token}
use Rattle.ng_language.specs.declared.syntax.Token.TheVariants as token
use Rattle.ng_language.specs.declared.syntax.Level.{Level}
use Rattle.ng_language.specs.declared.syntax.Level.TheVariants as levels
use Rattle.ng_language.specs.declared.syntax.Joint.{Joint}
use Rattle.ng_language.specs.declared.syntax.Joint.TheVariants as joints
use Rattle.ng_language.specs.declared.syntax.Unary.{Unary}
use Rattle.ng_language.specs.declared.syntax.Refusal.{Refusal}
use Rattle.ng_language.proofs.Sound.{got}
use Rattle.ng_language.proofs.Complete.{trees_back}
use Rattle.ng_language.proofs.Fronts.{unary_some, joint_some}
use Rattle.ng_language.proofs.Whole.{sound}
use Rattle.ng_refusals.proofs.Local.{then_read}
use Rattle.ng_refusals.proofs.Completable.{Completable, at_once, behind, with_more, also, then_err, after_err, expect_err, name_err, ATree, SomeValues}
use Rattle.ng_refusals.proofs.Completed.{IsCompleted, looser, joined_rows}

-- the sign and the level of what joins two operands
abbrev IsJoint : Level → Sign → Option Joint → Type 0
IsJoint l g None = Unit {0}
IsJoint l g (Some joints.Or) = (tightness l ≡ 4) × (g ≡ sign.Or)
IsJoint l g (Some joints.And) = (tightness l ≡ 5) × (g ≡ sign.And)
IsJoint l g (Some (joints.Operator o)) = (tightness l ≡ binary_rank o) × (g ≡ sign_of_binary o)

joint_fits : (l : Level) (g : Sign) → IsJoint l g (joint_of l g)
joint_fits levels.Or sign.Or = (refl, refl)
joint_fits levels.And sign.And = (refl, refl)
joint_fits levels.Equality sign.Equal = (refl, refl)
joint_fits levels.Equality sign.NotEqual = (refl, refl)
joint_fits levels.Equality sign.Same = (refl, refl)
joint_fits levels.Equality sign.NotSame = (refl, refl)
joint_fits levels.Relation sign.Less = (refl, refl)
joint_fits levels.Relation sign.Greater = (refl, refl)
joint_fits levels.Relation sign.AtMost = (refl, refl)
joint_fits levels.Relation sign.AtLeast = (refl, refl)
joint_fits levels.Sum sign.Plus = (refl, refl)
joint_fits levels.Sum sign.Minus = (refl, refl)
joint_fits levels.Term sign.Star = (refl, refl)
joint_fits levels.Term sign.Slash = (refl, refl)
joint_fits levels.Term sign.Percent = (refl, refl)
joint_fits _ _ = tt

joint_tree : (l : Level) (g : Sign) (j : Joint) (a b : Tree) (us vs : List Token) → IsJoint l g (Some j) → tightness l ≤ rank a → Spells a us → suc (tightness l) ≤ rank b → Spells b vs → (tightness l ≤ rank (joined j a b)) × Spells (joined j a b) (us ++ token.Sign g ∷ vs)
joint_tree l g joints.Or a b us vs f la sa lb sb = (omega arith, (us, vs, (omega arith, sa), (omega arith, sb), ap (λ s. us ++ token.Sign s ∷ vs) f.1))
joint_tree l g joints.And a b us vs f la sa lb sb = (omega arith, (us, vs, (omega arith, sa), (omega arith, sb), ap (λ s. us ++ token.Sign s ∷ vs) f.1))
joint_tree l g (joints.Operator o) a b us vs f la sa lb sb = (omega arith, (us, vs, (omega arith, sa), (omega arith, sb), ap (λ s. us ++ token.Sign s ∷ vs) f.1))

-- one more call: operators
pub operators_completed : (k : ℕ) → IsCompleted k → (l : Level) (ts : List Token) (e : Refusal) → operators (suc k) l ts ≡ Err e → Completable (ATree (tightness l)) e ts
operators_completed k ih l ts e h =
    elim (then_err (operand k l ts) (λ a us. operations k l a us) e h) [
      | inl p ↦ looser (tightness l) (suc (tightness l)) e ts (omega arith) (ih.operands l ts e p)
      | inr p ↦ let x = (sound k).operands l ts p.1 p.0 p.2 in behind (ATree (tightness l)) e x.us p.1 ts x.whole (ih.more_operated l p.0 x.us p.1 e (omega (arith, x.low)) x.spells p.3)
    ]

pub operand_completed : (k : ℕ) → IsCompleted k → (l : Level) (ts : List Token) (e : Refusal) → operand (suc k) l ts ≡ Err e → Completable (ATree (suc (tightness l))) e ts
operand_completed k ih levels.Or ts e h = ih.operated levels.And ts e h
operand_completed k ih levels.And ts e h = ih.operated levels.Equality ts e h
operand_completed k ih levels.Equality ts e h = ih.operated levels.Relation ts e h
operand_completed k ih levels.Relation ts e h = ih.operated levels.Sum ts e h
operand_completed k ih levels.Sum ts e h = ih.operated levels.Term ts e h
operand_completed k ih levels.Term ts e h = ih.unaries ts e h

abbrev operated_on : ℕ → Level → Tree → Joint × List Token → Read Tree
operated_on k l a j = operand k l j.1 >>= λ r. operations k l (joined j.0 a r.0) r.1

pub operations_completed : (k : ℕ) → IsCompleted k → (l : Level) (a : Tree) (ws ts : List Token) (e : Refusal) → tightness l ≤ rank a → Spells a ws → operations (suc k) l a ts ≡ Err e → Completable (λ ys. ATree (tightness l) (ws ++ ys)) e ts
operations_completed k ih l a ws ts e low s h = go (joint_at l ts) refl h
  where
    second : (g : Sign) (j : Joint) (us : List Token) → IsJoint l g (Some j) → operated_on k l a (j, us) ≡ Err e → Completable (λ ys. ATree (tightness l) (ws ++ token.Sign g ∷ ys)) e us
    second g j us f i =
        elim (then_err (operand k l us) (λ b vs. operations k l (joined j a b) vs) e i) [
          | inl q ↦ also (ATree (suc (tightness l))) (λ ys. ATree (tightness l) (ws ++ token.Sign g ∷ ys)) e us (λ ys b. let t = joint_tree l g j a b.0 ws ys f low s b.1 b.2 in (joined j a b.0, t.0, t.1)) (ih.operands l us e q)
          | inr q ↦
              let x = (sound k).operands l us q.1 q.0 q.2 in
              let t = joint_tree l g j a q.0 ws x.us f low s x.low x.spells in
              behind (λ ys. ATree (tightness l) (ws ++ token.Sign g ∷ ys)) e x.us q.1 us x.whole
              (joined_rows (tightness l) ws (token.Sign g ∷ x.us) e q.1 (ih.more_operated l (joined j a q.0) (ws ++ token.Sign g ∷ x.us) q.1 e t.0 t.1 q.3))
        ]

    go : (o : Option (Joint × List Token)) → joint_at l ts ≡ o → when_some o (operated_on k l a) (got ts a) ≡ Err e → Completable (λ ys. ATree (tightness l) (ws ++ ys)) e ts
    go (Some j) i g =
        let q = joint_some l ts j.1 j.0 i in
        behind (λ ys. ATree (tightness l) (ws ++ ys)) e (token.Sign q.0 ∷ []) j.1 ts q.1 (second q.0 j.0 j.1 (subst (IsJoint l q.0) q.2 (joint_fits l q.0)) g)
    go None i g = absurd (cc)

pub unary_completed : (k : ℕ) → IsCompleted k → (ts : List Token) (e : Refusal) → unary (suc k) ts ≡ Err e → Completable (ATree 10) e ts
unary_completed k ih ts e h = go (unary_at ts) refl h
  where
    go : (o : Option (Unary × List Token)) → unary_at ts ≡ o → when_some o (λ o. unary k o.1 >>= λ r. Ok (signed o.0 r.0, r.1)) (primary k ts) ≡ Err e → Completable (ATree 10) e ts
    go (Some o) i g =
        behind (ATree 10) e (token.Sign (sign_of_unary o.0) ∷ []) o.1 ts (unary_some ts o.1 o.0 i) (
        elim (then_err (unary k o.1) (λ b vs. got vs (signed o.0 b)) e g) [
          | inl q ↦ also (ATree 10) (λ ys. ATree 10 (token.Sign (sign_of_unary o.0) ∷ ys)) e o.1 (λ ys b. (signed o.0 b.0, lit≤ tt, (ys, (b.1, b.2), refl))) (ih.unaries o.1 e q)
          | inr q ↦ absurd (cc)
        ])
    go None i g = looser 10 11 e ts (lit≤ tt) (ih.primaries ts e g)

pub primary_completed : (k : ℕ) → IsCompleted k → (ts : List Token) (e : Refusal) → primary (suc k) ts ≡ Err e → Completable (ATree 11) e ts
primary_completed k ih ts e h =
    elim (then_err (head k ts) (λ a us. postfix k a us) e h) [
      | inl p ↦ ih.heads ts e p
      | inr p ↦ let x = (sound k).heads ts p.1 p.0 p.2 in behind (ATree 11) e x.us p.1 ts x.whole (ih.postfixes p.0 x.us p.1 e x.low x.spells p.3)
    ]

-- what stands behind a primary
abbrev Behind : List Token → Sign → Refusal → List Token → Type 0
Behind ws s e us = Completable (λ ys. ATree 11 (ws ++ token.Sign s ∷ ys)) e us

dot_completed : (k : ℕ) → IsCompleted k → (a : Tree) (ws us : List Token) (e : Refusal) → 11 ≤ rank a → Spells a ws → when_some (name_at us) (λ n. postfix k (member_of a n.0) n.1) (unfit us) ≡ Err e → Behind ws sign.Dot e us
dot_completed k ih a ws us e low s h =
    elim (name_err us (λ n. postfix k (member_of a n.0) n.1) e h) [
      | inl i ↦ at_once (λ ys. ATree 11 (ws ++ token.Sign sign.Dot ∷ ys)) e us (token.Name (codes "a") ∷ []) i (member_of a (codes "a"), lit≤ tt, (ws, (low, s), refl))
      | inr p ↦
          let front : List Token = token.Sign sign.Dot ∷ token.Name p.0 ∷ [] in
          behind (λ ys. ATree 11 (ws ++ token.Sign sign.Dot ∷ ys)) e (token.Name p.0 ∷ []) p.1 us p.2 (joined_rows 11 ws front e p.1 (ih.postfixes (member_of a p.0) (ws ++ front) p.1 e (lit≤ tt) (ws, (low, s), refl) p.3))
    ]

square_completed : (k : ℕ) → IsCompleted k → (a : Tree) (ws us : List Token) (e : Refusal) → 11 ≤ rank a → Spells a ws → then_read (expression k us) (λ i vs. expect sign.CloseSquare vs >>= λ xs. postfix k (item_of a i) xs) ≡ Err e → Behind ws sign.OpenSquare e us
square_completed k ih a ws us e low s h =
    let close : List Token = token.Sign sign.CloseSquare ∷ [] in
    elim (then_err (expression k us) (λ i vs. expect sign.CloseSquare vs >>= λ xs. postfix k (item_of a i) xs) e h) [
      | inl q ↦ with_more (ATree 2) (λ ys. ATree 11 (ws ++ token.Sign sign.OpenSquare ∷ ys)) e us close (λ ys i. (item_of a i.0, lit≤ tt, (ws, ys, (low, s), (i.1, i.2), refl))) (ih.expressions us e q)
      | inr q ↦ let x = (sound k).expressions us q.1 q.0 q.2 in behind (λ ys. ATree 11 (ws ++ token.Sign sign.OpenSquare ∷ ys)) e x.us q.1 us x.whole (
          elim (expect_err sign.CloseSquare q.1 (λ xs. postfix k (item_of a q.0) xs) e q.3) [
            | inl i ↦ at_once (λ ys. ATree 11 (ws ++ token.Sign sign.OpenSquare ∷ (x.us ++ ys))) e q.1 close i (item_of a q.0, lit≤ tt, (ws, x.us, (low, s), (x.low, x.spells), refl))
            | inr p ↦
                let front : List Token = token.Sign sign.OpenSquare ∷ (x.us ++ close) in
                let rest : Completable (λ ys. ATree 11 (ws ++ token.Sign sign.OpenSquare ∷ ((x.us ++ close) ++ ys))) e p.0 = joined_rows 11 ws front e p.0 (ih.postfixes (item_of a q.0) (ws ++ front) p.0 e (lit≤ tt) (ws, x.us, (low, s), (x.low, x.spells), refl) p.2) in
                behind (λ ys. ATree 11 (ws ++ token.Sign sign.OpenSquare ∷ (x.us ++ ys))) e close p.0 q.1 p.1
                (also (λ ys. ATree 11 (ws ++ token.Sign sign.OpenSquare ∷ ((x.us ++ close) ++ ys))) (λ ys. ATree 11 (ws ++ token.Sign sign.OpenSquare ∷ (x.us ++ token.Sign sign.CloseSquare ∷ ys))) e p.0
                (λ ys t. subst (λ zs. ATree 11 (ws ++ token.Sign sign.OpenSquare ∷ zs)) (append_assoc x.us close ys) t) rest)
          ])
    ]

round_completed : (k : ℕ) → IsCompleted k → (a : Tree) (ws us : List Token) (e : Refusal) → 11 ≤ rank a → Spells a ws → then_read (called k us) (λ bs vs. postfix k (call_of a (trees_from bs)) vs) ≡ Err e → Behind ws sign.OpenRound e us
round_completed k ih a ws us e low s h =
    elim (then_err (called k us) (λ bs vs. postfix k (call_of a (trees_from bs)) vs) e h) [
      | inl q ↦ also SomeValues (λ ys. ATree 11 (ws ++ token.Sign sign.OpenRound ∷ ys)) e us (λ ys c. (call_of a c.1.0, lit≤ tt, (ws, c.0, (low, s), c.1.1, ap (λ xs. ws ++ token.Sign sign.OpenRound ∷ xs) c.2))) (ih.callings us e q)
      | inr q ↦
          let x = (sound k).callings q.0 us q.1 q.2 in
          let same : trees_from q.0 ≡ x.more = ap trees_from x.all ∙ trees_back x.more in
          let close : List Token = token.Sign sign.CloseRound ∷ [] in
          let front : List Token = token.Sign sign.OpenRound ∷ (x.us ++ close) in
          let spelled : Spells (call_of a (trees_from q.0)) (ws ++ front) = subst (λ (t : Trees). Spells (call_of a t) (ws ++ front)) (sym same) (ws, x.us, (low, s), x.spells, refl) in
          behind (λ ys. ATree 11 (ws ++ token.Sign sign.OpenRound ∷ ys)) e (x.us ++ close) q.1 us (x.whole ∙ sym (append_assoc x.us close q.1)) (joined_rows 11 ws front e q.1 (ih.postfixes (call_of a (trees_from q.0)) (ws ++ front) q.1 e (lit≤ tt) spelled q.3))
    ]

abbrev squared : ℕ → Tree → List Token → Read Tree
squared k a us = then_read (expression k us) (λ i vs. expect sign.CloseSquare vs >>= λ xs. postfix k (item_of a i) xs)

abbrev rounded : ℕ → Tree → List Token → Read Tree
rounded k a us = then_read (called k us) (λ bs vs. postfix k (call_of a (trees_from bs)) vs)

pub postfix_completed : (k : ℕ) → IsCompleted k → (a : Tree) (ws ts : List Token) (e : Refusal) → 11 ≤ rank a → Spells a ws → postfix (suc k) a ts ≡ Err e → Completable (λ ys. ATree 11 (ws ++ ys)) e ts
postfix_completed k ih a ws ts e low s h =
    elim (after_err sign.Dot ts (λ us. when_some (name_at us) (λ n. postfix k (member_of a n.0) n.1) (unfit us)) (when_some (after sign.OpenSquare ts) (squared k a) (when_some (after sign.OpenRound ts) (rounded k a) (got ts a))) e h) [
      | inl p ↦ behind (λ ys. ATree 11 (ws ++ ys)) e (token.Sign sign.Dot ∷ []) p.0 ts p.1 (dot_completed k ih a ws p.0 e low s p.2)
      | inr p ↦
          elim (after_err sign.OpenSquare ts (squared k a) (when_some (after sign.OpenRound ts) (rounded k a) (got ts a)) e p) [
            | inl q ↦ behind (λ ys. ATree 11 (ws ++ ys)) e (token.Sign sign.OpenSquare ∷ []) q.0 ts q.1 (square_completed k ih a ws q.0 e low s q.2)
            | inr q ↦
                elim (after_err sign.OpenRound ts (rounded k a) (got ts a) e q) [
                  | inl r ↦ behind (λ ys. ATree 11 (ws ++ ys)) e (token.Sign sign.OpenRound ∷ []) r.0 ts r.1 (round_completed k ih a ws r.0 e low s r.2)
                  | inr r ↦ absurd (cc)
                ]
          ]
    ]
