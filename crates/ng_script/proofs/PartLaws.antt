-- What each part of a command is read as, and how it is spelled.
use Rattle.std.proofs.Common.{◌≡◌, ◌⊎◌, inl, inr, length, arith, ℕ, Bool, true, false, List, [], ◌∷◌, Option, None, Some, is_some, ap, sym, ◌∙◌, refl, subst, codes, if◌then◌else◌, encode_utf8_all}
use Rattle.std.proofs.lemmas.Slice.Eq.{bytes_eq-Decides}
use Rattle.std.specs.Prelude.{Result, Ok, Err}
use Rattle.std.specs.Str.{chars, bytes_eq}
use Rattle.serde_json.specs.Data.{Data, null, boolean, number, string, array, object, no_items, no_members}
use Rattle.serde_json.specs.Read.{read}
use Rattle.serde_json.specs.Find.{as_str, as_array, as_object}
use Rattle.ng_base.specs.Codes.{number_sign, slash}
use Rattle.ng_base.specs.Meets.{◌>>=◌}
use Rattle.ng_base.specs.declared.path.Target.{Target}
use Rattle.ng_base.specs.declared.path.Target.TheVariants as target
use Rattle.ng_base.proofs.Binds.{bind_ok, guarded, if_true, if_false}
use Rattle.ng_language.specs.Trees.{Trees}
use Rattle.ng_language.specs.Lexing as lexing
use Rattle.ng_language.specs.Parsing as parsing
use Rattle.ng_language.specs.declared.syntax.Token.{Token}
use Rattle.ng_language.specs.declared.syntax.LexFault.{LexFault}
use Rattle.ng_language.specs.declared.syntax.ParseFault.{ParseFault}
use Rattle.ng_language.proofs.SignSound.{lexed_is}
use Rattle.ng_language.proofs.LexComplete.{lexed_only}
use Rattle.ng_language.proofs.Whole.{parsed_is, parsed_only}
use Rattle.ng_language.specs.Spelling.{Written}
use Rattle.ng_language.specs.Grammar.{IsParsed}
use Rattle.ng_evaluation.specs.Purity.{ArePure, all_filters_known, are_pure}
use Rattle.ng_purity.proofs.Pure.{known_are, are_known_test, pure_are, are_pure_test}
use Rattle.ng_script.specs.Expressions.{IsExpression, tokens_or, program_or, with_known, spelled_in, program_of, pure_program_of}
use Rattle.ng_script.specs.Json.{IsJson, IsJsonText, IsJsonObject, IsJsonList, or_bad_argument, json_of, as_text, text_of, object_of, list_of}
use Rattle.ng_script.specs.Parts.{is_over, ended, next_target, scope_of, next_scope, next_name, next_event, next_flag}
use Rattle.ng_script.specs.Spelling.{IsScope, flag_word}
use Rattle.ng_script.specs.Targets.{IsTarget, has_no_blank, target_of}
use Rattle.ng_script.specs.Verbs.{is_event, flag_named}
use Rattle.ng_script.specs.Words.{word, next_part}
use Rattle.ng_script.specs.declared.commands.ScopeOf.{ScopeOf}
use Rattle.ng_script.specs.declared.commands.ScopeOf.TheVariants as scope
use Rattle.ng_script.specs.declared.fault.ScriptKind.{ScriptKind}
use Rattle.ng_script.specs.declared.fault.ScriptKind.TheVariants as kinds
use Rattle.ng_script.proofs.Solid.{Solid, Rest, word_solid}
use Rattle.ng_script.proofs.TargetLaws.{target_is, target_read, target_solid}

-- a part that was read: something stands there, it is the next word, and what follows is left
pub record Next (A : Type 0) (r : List ℕ) (p : A × List ℕ) : Type 0 where
  pub stands : Solid r
  pub left : p.1 ≡ next_part r

same_ok : {A E : Type 0} (x y : A) → (let r : Result A E = Ok x in r) ≡ Ok y → x ≡ y
same_ok x y e = cc

pub ok_is : {A : Type 0} (x y : A) → (let r : Result A ScriptKind = Ok x in r) ≡ Ok y → x ≡ y
ok_is x y e = cc

stands_there : (r : List ℕ) → Rest r → is_over r ≡ false → Solid r
stands_there r (inl e) h = let o : is_over r ≡ true = ap is_over e in absurd (cc)
stands_there r (inr s) h = s

pub ended_is : {A : Type 0} (a b : A) (r : List ℕ) → ended a r ≡ Ok b → (r ≡ []) × (a ≡ b)
ended_is a b [] h = (refl, ok_is a b h)
ended_is a b (c ∷ r) h = absurd (cc)

-- targets
target_by : (r : List ℕ) (p : Target × List ℕ) (b : Bool) → is_over r ≡ b → Rest r → (if b then Err kinds.BadArgument else (target_of (word r) >>= λ t. Ok (t, next_part r))) ≡ Ok p → Next Target r p × IsTarget p.0 (word r)
target_by r p true o s h = absurd (cc)
target_by r p false o s h =
    let f : Target → Result (Target × List ℕ) ScriptKind = λ t. Ok (t, next_part r) in
    let b = bind_ok (target_of (word r)) f p h in
    let e = ok_is (b.0, next_part r) p b.2 in (
      record { stands = stands_there r s o; left = sym (ap (λ (q : Target × List ℕ). q.1) e) },
      subst (λ (t : Target). IsTarget t (word r)) (ap (λ (q : Target × List ℕ). q.0) e) (target_is (word r) b.0 (word_solid r) b.1),
    )

pub next_target_is : (r : List ℕ) (p : Target × List ℕ) → Rest r → next_target r ≡ Ok p → Next Target r p × IsTarget p.0 (word r)
next_target_is r p s h = target_by r p (is_over r) refl s h

pub next_target_read : (r w l : List ℕ) (t : Target) → is_over r ≡ false → word r ≡ w → next_part r ≡ l → IsTarget t w → next_target r ≡ Ok (t, l)
next_target_read r w l t o e f h =
    let g : Target → Result (Target × List ℕ) ScriptKind = λ t. Ok (t, next_part r) in
    if_false (is_over r) (Err kinds.BadArgument) (target_of (word r) >>= g) o
    ∙ (ap (λ (v : List ℕ). target_of v >>= g) e ∙ (ap (λ (x : Result Target ScriptKind). x >>= g) (target_read t w h)
    ∙ ap (λ (v : List ℕ). let x : Result (Target × List ℕ) ScriptKind = Ok (t, v) in x) f))

-- scopes
scope_by : (w : List ℕ) (s : ScopeOf) (b : Bool) → bytes_eq w (codes "root") ≡ b → has_no_blank w ≡ true → (if b then Ok scope.Root else (target_of w >>= λ t. Ok (scope.Node t))) ≡ Ok s → IsScope s w
scope_by w s true e n h =
    subst (λ (x : ScopeOf). IsScope x w) (ok_is scope.Root s h) ((bytes_eq-Decides w (codes "root")).0 e)
scope_by w s false e n h =
    let f : Target → Result ScopeOf ScriptKind = λ t. Ok (scope.Node t) in
    let b = bind_ok (target_of w) f s h in
    subst (λ (x : ScopeOf). IsScope x w) (ok_is (scope.Node b.0) s b.2) (target_is w b.0 n b.1)

no_root : (b : Bool) → (b ≡ true → ⊥) → b ≡ false
no_root true h = absurd (h refl)
no_root false h = refl

first_code : List ℕ → ℕ
first_code [] = 0
first_code (c ∷ cs) = c

target_begins : (t : Target) (w : List ℕ) → IsTarget t w → (first_code w ≡ number_sign) ⊎ (first_code w ≡ slash)
unfolding first_code
target_begins (target.Id n) w h = inl (ap first_code h.0)
target_begins (target.Path []) w h = absurd (omega (arith, h.0))
target_begins (target.Path (n ∷ ns)) w h = inr (ap first_code h.1.2)

root_begins : first_code (codes "root") ≡ 114
unfolding first_code
root_begins = refl

no_sign : (c : ℕ) → c ≡ 114 → (c ≡ number_sign) ⊎ (c ≡ slash) → ⊥
no_sign c e (inl h) = omega (arith, e, h)
no_sign c e (inr h) = omega (arith, e, h)

target_not_root : (t : Target) (w : List ℕ) → IsTarget t w → bytes_eq w (codes "root") ≡ false
target_not_root t w h = no_root (bytes_eq w (codes "root")) (λ e. no_sign (first_code w) (ap first_code ((bytes_eq-Decides w (codes "root")).0 e) ∙ root_begins) (target_begins t w h))

pub scope_read : (s : ScopeOf) (w : List ℕ) → IsScope s w → scope_of w ≡ Ok s
scope_read scope.Root w h = ap scope_of h
scope_read (scope.Node t) w h =
    let f : Target → Result ScopeOf ScriptKind = λ t. Ok (scope.Node t) in
    if_false (bytes_eq w (codes "root")) (Ok scope.Root) (target_of w >>= f) (target_not_root t w h) ∙ ap (λ (x : Result Target ScriptKind). x >>= f) (target_read t w h)

pub scope_solid : (s : ScopeOf) (w : List ℕ) → IsScope s w → has_no_blank w ≡ true
scope_solid scope.Root w h = ap has_no_blank h
scope_solid (scope.Node t) w h = target_solid t w h

next_scope_by : (r : List ℕ) (p : ScopeOf × List ℕ) (b : Bool) → is_over r ≡ b → Rest r → (if b then Err kinds.BadArgument else (scope_of (word r) >>= λ s. Ok (s, next_part r))) ≡ Ok p → Next ScopeOf r p × IsScope p.0 (word r)
next_scope_by r p true o s h = absurd (cc)
next_scope_by r p false o s h =
    let f : ScopeOf → Result (ScopeOf × List ℕ) ScriptKind = λ t. Ok (t, next_part r) in
    let b = bind_ok (scope_of (word r)) f p h in
    let e = ok_is (b.0, next_part r) p b.2 in (
      record { stands = stands_there r s o; left = sym (ap (λ (q : ScopeOf × List ℕ). q.1) e) },
      subst (λ (t : ScopeOf). IsScope t (word r)) (ap (λ (q : ScopeOf × List ℕ). q.0) e) (scope_by (word r) b.0 (bytes_eq (word r) (codes "root")) refl (word_solid r) b.1),
    )

pub next_scope_is : (r : List ℕ) (p : ScopeOf × List ℕ) → Rest r → next_scope r ≡ Ok p → Next ScopeOf r p × IsScope p.0 (word r)
next_scope_is r p s h = next_scope_by r p (is_over r) refl s h

pub next_scope_read : (r w l : List ℕ) (s : ScopeOf) → is_over r ≡ false → word r ≡ w → next_part r ≡ l → IsScope s w → next_scope r ≡ Ok (s, l)
next_scope_read r w l s o e f h =
    let g : ScopeOf → Result (ScopeOf × List ℕ) ScriptKind = λ t. Ok (t, next_part r) in
    if_false (is_over r) (Err kinds.BadArgument) (scope_of (word r) >>= g) o
    ∙ (ap (λ (v : List ℕ). scope_of v >>= g) e ∙ (ap (λ (x : Result ScopeOf ScriptKind). x >>= g) (scope_read s w h)
    ∙ ap (λ (v : List ℕ). let x : Result (ScopeOf × List ℕ) ScriptKind = Ok (s, v) in x) f))

-- names
next_name_by : (r : List ℕ) (p : List ℕ × List ℕ) (b : Bool) → is_over r ≡ b → Rest r → (if b then Err kinds.BadArgument else Ok (word r, next_part r)) ≡ Ok p → Next (List ℕ) r p × (p.0 ≡ word r)
next_name_by r p true o s h = absurd (cc)
next_name_by r p false o s h =
    let e = ok_is (word r, next_part r) p h in
    (record { stands = stands_there r s o; left = sym (ap (λ (q : List ℕ × List ℕ). q.1) e) }, sym (ap (λ (q : List ℕ × List ℕ). q.0) e))

pub next_name_is : (r : List ℕ) (p : List ℕ × List ℕ) → Rest r → next_name r ≡ Ok p → Next (List ℕ) r p × (p.0 ≡ word r)
next_name_is r p s h = next_name_by r p (is_over r) refl s h

pub next_name_read : (r w l : List ℕ) → is_over r ≡ false → word r ≡ w → next_part r ≡ l → next_name r ≡ Ok (w, l)
next_name_read r w l o e f =
    if_false (is_over r) (Err kinds.BadArgument) (Ok (word r, next_part r)) o
    ∙ (ap (λ (v : List ℕ). let x : Result (List ℕ × List ℕ) ScriptKind = Ok (v, next_part r) in x) e
    ∙ ap (λ (v : List ℕ). let x : Result (List ℕ × List ℕ) ScriptKind = Ok (w, v) in x) f)

-- events
next_event_by : (r : List ℕ) (p : List ℕ × List ℕ) (b k : Bool) → is_over r ≡ b → is_event (word r) ≡ k → Rest r → (if b then Err kinds.BadArgument else if k then Ok (word r, next_part r) else Err kinds.UnknownCommand) ≡ Ok p → Next (List ℕ) r p × (p.0 ≡ word r) × (is_event (word r) ≡ true)
next_event_by r p true k o v s h = absurd (cc)
next_event_by r p false true o v s h =
    let e = ok_is (word r, next_part r) p h in
    (record { stands = stands_there r s o; left = sym (ap (λ (q : List ℕ × List ℕ). q.1) e) }, sym (ap (λ (q : List ℕ × List ℕ). q.0) e), v)
next_event_by r p false false o v s h = absurd (cc)

pub next_event_is : (r : List ℕ) (p : List ℕ × List ℕ) → Rest r → next_event r ≡ Ok p → Next (List ℕ) r p × (p.0 ≡ word r) × (is_event (word r) ≡ true)
next_event_is r p s h = next_event_by r p (is_over r) (is_event (word r)) refl refl s h

pub next_event_read : (r w l : List ℕ) → is_over r ≡ false → word r ≡ w → next_part r ≡ l → is_event w ≡ true → next_event r ≡ Ok (w, l)
next_event_read r w l o e f v =
    if_false (is_over r) (Err kinds.BadArgument) (if is_event (word r) then Ok (word r, next_part r) else Err kinds.UnknownCommand) o
    ∙ (if_true (is_event (word r)) (Ok (word r, next_part r)) (Err kinds.UnknownCommand) (ap is_event e ∙ v)
    ∙ (ap (λ (v : List ℕ). let x : Result (List ℕ × List ℕ) ScriptKind = Ok (v, next_part r) in x) e
    ∙ ap (λ (v : List ℕ). let x : Result (List ℕ × List ℕ) ScriptKind = Ok (w, v) in x) f))

-- truth values
flag_by : (w : List ℕ) (b : Bool) (k m : Bool) → bytes_eq w (codes "true") ≡ k → bytes_eq w (codes "false") ≡ m → (if k then Some true else if m then Some false else None) ≡ Some b → w ≡ flag_word b
flag_by w true true m e f h = (bytes_eq-Decides w (codes "true")).0 e
flag_by w false true m e f h = absurd (cc)
flag_by w true false true e f h = absurd (cc)
flag_by w false false true e f h = (bytes_eq-Decides w (codes "false")).0 f
flag_by w b false false e f h = absurd (cc)

or_bad_ok : {A : Type 0} (o : Option A) (x : A) → or_bad_argument o ≡ Ok x → o ≡ Some x
or_bad_ok None x h = absurd (cc)
or_bad_ok (Some y) x h = ap (λ z. Some z) (ok_is y x h)

no_flag : (b : Bool) → [] ≡ flag_word b → ⊥
no_flag true e = cc
no_flag false e = cc

flag_stands : (r : List ℕ) (b : Bool) → Rest r → word r ≡ flag_word b → Solid r
flag_stands r b (inl e) h = absurd (no_flag b (sym (ap word e) ∙ h))
flag_stands r b (inr s) h = s

pub next_flag_is : (r : List ℕ) (p : Bool × List ℕ) → Rest r → next_flag r ≡ Ok p → Next Bool r p × (word r ≡ flag_word p.0)
next_flag_is r p s h =
    let f : Bool → Result (Bool × List ℕ) ScriptKind = λ b. Ok (b, next_part r) in
    let b = bind_ok (or_bad_argument (flag_named (word r))) f p h in
    let w = flag_by (word r) b.0 (bytes_eq (word r) (codes "true")) (bytes_eq (word r) (codes "false")) refl refl (or_bad_ok (flag_named (word r)) b.0 b.1) in
    let e = ok_is (b.0, next_part r) p b.2 in
    (record { stands = flag_stands r b.0 s w; left = sym (ap (λ (q : Bool × List ℕ). q.1) e) }, w ∙ ap flag_word (ap (λ (q : Bool × List ℕ). q.0) e))

flag_named_word : (b : Bool) → flag_named (flag_word b) ≡ Some b
flag_named_word true = refl
flag_named_word false = refl

pub flag_solid : (b : Bool) → has_no_blank (flag_word b) ≡ true
flag_solid true = refl
flag_solid false = refl

pub next_flag_read : (r l : List ℕ) (b : Bool) → word r ≡ flag_word b → next_part r ≡ l → next_flag r ≡ Ok (b, l)
next_flag_read r l b e f =
    let g : Bool → Result (Bool × List ℕ) ScriptKind = λ b. Ok (b, next_part r) in
    ap (λ (o : Option Bool). or_bad_argument o >>= g) (ap flag_named e ∙ flag_named_word b)
    ∙ ap (λ (v : List ℕ). let x : Result (Bool × List ℕ) ScriptKind = Ok (b, v) in x) f

-- expressions
tokens_ok : (r : Result (List Token × List ℕ) LexFault) (ts : List Token × List ℕ) → tokens_or r ≡ Ok ts → r ≡ Ok ts
tokens_ok (Ok us) ts h = ap (λ (x : List Token × List ℕ). let r : Result (List Token × List ℕ) LexFault = Ok x in r) (ok_is us ts h)
tokens_ok (Err f) ts h = absurd (cc)

program_ok : (r : Result Trees ParseFault) (p : Trees) → program_or r ≡ Ok p → r ≡ Ok p
program_ok (Ok q) p h = ap (λ (x : Trees). let r : Result Trees ParseFault = Ok x in r) (ok_is q p h)
program_ok (Err f) p h = absurd (cc)

spelled_is : (cs : List ℕ) (p : Trees) → spelled_in cs ≡ Ok p → (ts : List Token) × (ps : List ℕ) × Written (length (encode_utf8_all cs)) ts ps cs × IsParsed p ts
spelled_is cs p h =
    let n = length (encode_utf8_all cs) in
    let f : List Token × List ℕ → Result Trees ScriptKind = λ ts. program_or (parsing.parsed ts.0 ts.1 n) in
    let b = bind_ok (tokens_or (lexing.lexed n cs)) f p h in
    (b.0.0, b.0.1, lexed_is n cs b.0.0 b.0.1 (tokens_ok (lexing.lexed n cs) b.0 b.1), parsed_is p b.0.0 b.0.1 n (program_ok (parsing.parsed b.0.0 b.0.1 n) p b.2))

pub expression_is : (cs : List ℕ) (p : Trees) → program_of cs ≡ Ok p → IsExpression p cs
expression_is cs p h =
    let b = bind_ok (spelled_in cs) with_known p h in
    let ok : Result Trees ScriptKind = Ok b.0 in
    let g = guarded (all_filters_known b.0) ok kinds.BadExpression p b.2 in
    let e = ok_is b.0 p g.1 in
    let s = spelled_is cs p (b.1 ∙ ap (λ (q : Trees). let r : Result Trees ScriptKind = Ok q in r) e) in
    (s.0, s.1, s.2, s.3, known_are p (sym (ap all_filters_known e) ∙ g.0))

pub expression_read : (p : Trees) (cs : List ℕ) → IsExpression p cs → program_of cs ≡ Ok p
expression_read p cs h =
    let n = length (encode_utf8_all cs) in
    let f : List Token × List ℕ → Result Trees ScriptKind = λ ts. program_or (parsing.parsed ts.0 ts.1 n) in
    ap (λ (r : Result Trees ScriptKind). r >>= with_known)
    (ap (λ (r : Result (List Token × List ℕ) LexFault). tokens_or r >>= f) (lexed_only n cs h.0 h.1 h.2) ∙ ap program_or (parsed_only p h.0 h.1 n h.3))
    ∙ if_true (all_filters_known p) (Ok p) (Err kinds.BadExpression) (are_known_test p h.4)

abbrev if_pure : Trees → Result Trees ScriptKind
if_pure p = if are_pure p then Ok p else Err kinds.BadExpression

pub pure_is : (cs : List ℕ) (p : Trees) → pure_program_of cs ≡ Ok p → IsExpression p cs × ArePure p
pure_is cs p h =
    let b = bind_ok (program_of cs) if_pure p h in
    let ok : Result Trees ScriptKind = Ok b.0 in
    let g = guarded (are_pure b.0) ok kinds.BadExpression p b.2 in
    let e = ok_is b.0 p g.1 in
    (subst (λ (q : Trees). IsExpression q cs) e (expression_is cs b.0 b.1), pure_are p (sym (ap are_pure e) ∙ g.0))

pub pure_read : (p : Trees) (cs : List ℕ) → IsExpression p cs → ArePure p → pure_program_of cs ≡ Ok p
pure_read p cs h k = ap (λ (r : Result Trees ScriptKind). r >>= if_pure) (expression_read p cs h) ∙ if_true (are_pure p) (Ok p) (Err kinds.BadExpression) (are_pure_test p k)

-- JSON
json_is : (cs : List ℕ) (d : Data) → json_of cs ≡ Ok d → IsJson d cs
json_is cs d h = or_bad_ok (read (encode_utf8_all cs)) d h

json_read : (d : Data) (cs : List ℕ) → IsJson d cs → json_of cs ≡ Ok d
json_read d cs h = ap or_bad_argument h

text_by : (d : Data) (cs t : List ℕ) → IsJson d cs → as_text (as_str d) ≡ Ok t → IsJsonText t cs
text_by null cs t j h = absurd (cc)
text_by (boolean b) cs t j h = absurd (cc)
text_by (number n) cs t j h = absurd (cc)
text_by (string s) cs t j h = (s, j, sym (ok_is (chars s) t h))
text_by (array ds) cs t j h = absurd (cc)
text_by (object ms) cs t j h = absurd (cc)

pub text_is : (cs t : List ℕ) → text_of cs ≡ Ok t → IsJsonText t cs
text_is cs t h =
    let f : Data → Result (List ℕ) ScriptKind = λ d. as_text (as_str d) in
    let b = bind_ok (json_of cs) f t h in
    text_by b.0 cs t (json_is cs b.0 b.1) b.2

pub text_read : (t cs : List ℕ) → IsJsonText t cs → text_of cs ≡ Ok t
text_read t cs h =
    let f : Data → Result (List ℕ) ScriptKind = λ d. as_text (as_str d) in
    ap (λ (r : Result Data ScriptKind). r >>= f) (json_read (string h.0) cs h.1) ∙ ap (λ (x : List ℕ). let r : Result (List ℕ) ScriptKind = Ok x in r) (sym h.2)

kept : (k : Data → Bool) (d e : Data) (cs : List ℕ) → IsJson d cs → (if k d then Ok d else Err kinds.BadArgument) ≡ Ok e → IsJson e cs × (k e ≡ true)
kept k d e cs j h =
    let ok : Result Data ScriptKind = Ok d in
    let g = guarded (k d) ok kinds.BadArgument e h in
    let s = ok_is d e g.1 in
    (subst (λ (x : Data). IsJson x cs) s j, ap k (sym s) ∙ g.0)

pub object_is : (cs : List ℕ) (d : Data) → object_of cs ≡ Ok d → IsJsonObject d cs
object_is [] d h = sym (ok_is (object no_members) d h)
object_is (c ∷ cs) d h =
    let f : Data → Result Data ScriptKind = λ d. if is_some (as_object d) then Ok d else Err kinds.BadArgument in
    let b = bind_ok (json_of (c ∷ cs)) f d h in
    kept (λ d. is_some (as_object d)) b.0 d (c ∷ cs) (json_is (c ∷ cs) b.0 b.1) b.2

pub object_read : (d : Data) (cs : List ℕ) → IsJsonObject d cs → object_of cs ≡ Ok d
object_read d [] h = ap (λ (x : Data). let r : Result Data ScriptKind = Ok x in r) (sym h)
object_read d (c ∷ cs) h =
    let f : Data → Result Data ScriptKind = λ d. if is_some (as_object d) then Ok d else Err kinds.BadArgument in
    ap (λ (r : Result Data ScriptKind). r >>= f) (json_read d (c ∷ cs) h.0) ∙ if_true (is_some (as_object d)) (Ok d) (Err kinds.BadArgument) h.1

pub list_is : (cs : List ℕ) (d : Data) → list_of cs ≡ Ok d → IsJsonList d cs
list_is [] d h = sym (ok_is (array no_items) d h)
list_is (c ∷ cs) d h =
    let f : Data → Result Data ScriptKind = λ d. if is_some (as_array d) then Ok d else Err kinds.BadArgument in
    let b = bind_ok (json_of (c ∷ cs)) f d h in
    kept (λ d. is_some (as_array d)) b.0 d (c ∷ cs) (json_is (c ∷ cs) b.0 b.1) b.2

pub list_read : (d : Data) (cs : List ℕ) → IsJsonList d cs → list_of cs ≡ Ok d
list_read d [] h = ap (λ (x : Data). let r : Result Data ScriptKind = Ok x in r) (sym h)
list_read d (c ∷ cs) h =
    let f : Data → Result Data ScriptKind = λ d. if is_some (as_array d) then Ok d else Err kinds.BadArgument in
    ap (λ (r : Result Data ScriptKind). r >>= f) (json_read d (c ∷ cs) h.0) ∙ if_true (is_some (as_array d)) (Ok d) (Err kinds.BadArgument) h.1
