-- The names before `in`, as they are read and as they are spelled.
use Rattle.std.proofs.Common.{◌≡◌, ℕ, List, [], ◌∷◌, length, refl, ap, subst, ◌∙◌, Option, Some, None, Result, Ok, Err, encode_utf8_all}
use Rattle.ng_language.specs.Choice.{when_some}
use Rattle.ng_language.specs.Lexing.{lexed}
use Rattle.ng_language.specs.Tokens.{after, name_at}
use Rattle.ng_language.proofs.Fronts.{after_some, name_some}
use Rattle.ng_language.proofs.SignSound.{lexed_is}
use Rattle.ng_language.proofs.LexComplete.{lexed_only}
use Rattle.ng_language.specs.declared.syntax.Sign.TheVariants as sign
use Rattle.ng_language.specs.declared.syntax.Token.{Token}
use Rattle.ng_language.specs.declared.syntax.Token.TheVariants as token
use Rattle.ng_language.specs.declared.syntax.LexFault.{LexFault}
use Rattle.ng_blocks.specs.Heads.{only, one_name, two_names, head_in, head_lexed, head_of}
use Rattle.ng_blocks.specs.RepeatSpelling.{IsHead, IsNames}
use Rattle.ng_blocks.specs.declared.repeats.Head.{Head}
use Rattle.ng_blocks.proofs.Dividers.{some_of}

only_is : {A : Type 0} (ts : List Token) (a b : A) → only ts a ≡ Some b → (ts ≡ []) × (a ≡ b)
only_is [] a b h = (refl, cc)
only_is (t ∷ ts) a b h = absurd (cc)

one_is : (ts : List Token) (n : List ℕ) → one_name ts ≡ Some n → ts ≡ token.Name n ∷ []
one_is ts n h =
    let (r, name, last) = some_of (name_at ts) (λ n. only n.1 n.0) n h in
    let (none, same) = only_is r.1 r.0 n last in
    name_some ts r.1 r.0 name ∙ ap (λ x. token.Name r.0 ∷ x) none ∙ ap (λ x. token.Name x ∷ []) same

two_is : (ts : List Token) (p : List ℕ × List ℕ) → two_names ts ≡ Some p → IsHead (Some p.0) p.1 ts
two_is ts p h =
    let (a, opened, h1) = some_of (after sign.OpenRound ts) (λ a. when_some (name_at a) (λ k. when_some (after sign.Comma k.1) (λ b. when_some (name_at b) (λ n. when_some (after sign.CloseRound n.1) (λ e. only e (k.0, n.0)) None) None) None) None) p h in
    let (k, key, h2) = some_of (name_at a) (λ k. when_some (after sign.Comma k.1) (λ b. when_some (name_at b) (λ n. when_some (after sign.CloseRound n.1) (λ e. only e (k.0, n.0)) None) None) None) p h1 in
    let (b, comma, h3) = some_of (after sign.Comma k.1) (λ b. when_some (name_at b) (λ n. when_some (after sign.CloseRound n.1) (λ e. only e (k.0, n.0)) None) None) p h2 in
    let (n, name, h4) = some_of (name_at b) (λ n. when_some (after sign.CloseRound n.1) (λ e. only e (k.0, n.0)) None) p h3 in
    let (e, close, h5) = some_of (after sign.CloseRound n.1) (λ e. only e (k.0, n.0)) p h4 in
    let (none, same) = only_is e (k.0, n.0) p h5 in
    let whole : IsHead (Some k.0) n.0 ts =
    after_some sign.OpenRound ts a opened
    ∙ ap (λ x. token.Sign sign.OpenRound ∷ x) (name_some a k.1 k.0 key)
    ∙ ap (λ x. token.Sign sign.OpenRound ∷ token.Name k.0 ∷ x) (after_some sign.Comma k.1 b comma)
    ∙ ap (λ x. token.Sign sign.OpenRound ∷ token.Name k.0 ∷ token.Sign sign.Comma ∷ x) (name_some b n.1 n.0 name)
    ∙ ap (λ x. token.Sign sign.OpenRound ∷ token.Name k.0 ∷ token.Sign sign.Comma ∷ token.Name n.0 ∷ x) (after_some sign.CloseRound n.1 e close ∙ ap (λ x. token.Sign sign.CloseRound ∷ x) none) in
    subst (λ (q : List ℕ × List ℕ). IsHead (Some q.0) q.1 ts) same whole

head_is : (ts : List Token) (h : Head) → head_in ts ≡ Some h → IsHead h.key h.name ts
head_is ts h e = one (one_name ts) refl e
  where
    two : (o : Option (List ℕ × List ℕ)) → two_names ts ≡ o → when_some o (λ p. Some (record { key = Some p.0; name = p.1 })) None ≡ Some h → IsHead h.key h.name ts
    two (Some p) f g = let same : record { key = Some p.0; name = p.1 } ≡ h = cc in subst (λ (x : Head). IsHead x.key x.name ts) same (two_is ts p f)
    two None f g = absurd (cc)

    one : (o : Option (List ℕ)) → one_name ts ≡ o → when_some o (λ n. Some (record { key = None; name = n })) (when_some (two_names ts) (λ p. Some (record { key = Some p.0; name = p.1 })) None) ≡ Some h → IsHead h.key h.name ts
    one (Some n) f g = let same : record { key = None; name = n } ≡ h = cc in subst (λ (x : Head). IsHead x.key x.name ts) same (one_is ts n f)
    one None f g = two (two_names ts) refl g

pub names_is : (cs : List ℕ) (h : Head) → head_of cs ≡ Some h → IsNames h.key h.name cs
names_is cs h e = decide (lexed (length (encode_utf8_all cs)) cs) refl e
  where
    decide : (r : Result (List Token × List ℕ) LexFault) → lexed (length (encode_utf8_all cs)) cs ≡ r → head_lexed r ≡ Some h → IsNames h.key h.name cs
    decide (Ok p) f g = (p.0, (p.1, lexed_is (length (encode_utf8_all cs)) cs p.0 p.1 f), head_is p.0 h g)
    decide (Err x) f g = absurd (cc)

head_only : (key : Option (List ℕ)) (name : List ℕ) (ts : List Token) → IsHead key name ts → head_in ts ≡ Some (record { key = key; name = name })
unfolding after name_at
head_only None n ts e = ap head_in e
head_only (Some k) n ts e = ap head_in e

pub names_only : (cs : List ℕ) (key : Option (List ℕ)) (name : List ℕ) → IsNames key name cs → head_of cs ≡ Some (record { key = key; name = name })
names_only cs key name k = ap head_lexed (lexed_only (length (encode_utf8_all cs)) cs k.0 k.1.0 k.1.1) ∙ head_only key name k.0 k.2
