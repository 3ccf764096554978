-- What a line commands is what it spells, and what it spells is what it commands.
use Rattle.std.proofs.Common.{◌≡◌, inl, inr, ℕ, Bool, true, false, List, [], ◌∷◌, ◌++◌, Option, None, Some, ap, sym, ◌∙◌, refl, subst, codes, if◌then◌else◌}
use Rattle.std.proofs.lemmas.Slice.Eq.{bytes_eq-Decides}
use Rattle.std.specs.Prelude.{Result, Ok}
use Rattle.std.specs.Str.{bytes_eq}
use Rattle.serde_json.specs.Data.{Data}
use Rattle.serde_json.specs.Read.{read}
use Rattle.serde_json.proofs.OnLiterals.{serde_json_on_literals}
use Rattle.ng_base.specs.Meets.{◌>>=◌}
use Rattle.ng_base.specs.declared.path.Target.{Target}
use Rattle.ng_base.proofs.Binds.{bind_ok}
use Rattle.ng_language.specs.Trees.{Trees}
use Rattle.ng_script.specs.Acts.{Act, click_on, fire_at, type_into, check_at, eval_root, eval_at, emit_from, broadcast_from, queue_task, probe_root, destroy_scope, make_digest}
use Rattle.ng_script.specs.Commanding.{click_of, fire_of, typed_of, check_of, eval_of, at_of, event_of, emit_of, broadcast_of, async_of, probe_of, destroy_of, act_named, command_of}
use Rattle.ng_script.specs.Expressions.{program_of, pure_program_of}
use Rattle.ng_script.specs.Json.{IsJsonText, IsJsonList, text_of, object_of, list_of}
use Rattle.ng_script.specs.Parts.{is_over, ended, next_target, next_scope, next_name, next_event, next_flag}
use Rattle.ng_script.specs.Spelling.{begins_solid, IsOneWord, IsLine, with_last, IsScope, flag_word, Spells}
use Rattle.ng_script.specs.Targets.{has_no_blank}
use Rattle.ng_script.specs.Verbs.{verb_named, is_event}
use Rattle.ng_script.specs.Words.{word, next_part}
use Rattle.ng_script.specs.declared.commands.ScopeOf.{ScopeOf}
use Rattle.ng_script.specs.declared.fault.ScriptKind.{ScriptKind}
use Rattle.ng_script.specs.declared.verbs.Verb.{Verb}
use Rattle.ng_script.specs.declared.verbs.Verb.TheVariants as verb
use Rattle.ng_script.proofs.Solid.{Solid, Rest, rest_of, word_one, prepend, tail_line, not_over, first_part, last_word, first_of_last, word_of_last}
use Rattle.ng_script.proofs.PartLaws.{Next, ok_is, ended_is, next_target_is, next_target_read, next_scope_is, next_scope_read, scope_solid, next_name_is, next_name_read, next_event_is, next_event_read, next_flag_is, next_flag_read, flag_solid, expression_is, expression_read, pure_is, pure_read, text_is, text_read, object_is, object_read, list_is, list_read}
use Rattle.ng_script.proofs.TargetLaws.{target_solid}

abbrev Kinded : Type 0 → Type 0
Kinded A = Result A ScriptKind

-- the word of a command
abbrev pub verb_word : Verb → List ℕ
verb_word verb.Click = codes "click"
verb_word verb.Fire = codes "fire"
verb_word verb.Typed = codes "type"
verb_word verb.Check = codes "check"
verb_word verb.Eval = codes "eval"
verb_word verb.At = codes "at"
verb_word verb.Emit = codes "emit"
verb_word verb.Broadcast = codes "broadcast"
verb_word verb.Async = codes "async"
verb_word verb.Probe = codes "probe"
verb_word verb.Destroy = codes "destroy"
verb_word verb.Digest = codes "digest"

pick_by : (n : List ℕ) (u v : Verb) (o : Option Verb) (b : Bool) → bytes_eq n (verb_word u) ≡ b → (if b then Some u else o) ≡ Some v → (o ≡ Some v → n ≡ verb_word v) → n ≡ verb_word v
pick_by n u v o true e h k = let same : u ≡ v = cc in (bytes_eq-Decides n (verb_word u)).0 e ∙ ap verb_word same
pick_by n u v o false e h k = k h

pick : (n : List ℕ) (u v : Verb) (o : Option Verb) → (if bytes_eq n (verb_word u) then Some u else o) ≡ Some v → (o ≡ Some v → n ≡ verb_word v) → n ≡ verb_word v
pick n u v o h k = pick_by n u v o (bytes_eq n (verb_word u)) refl h k

nothing : (n : List ℕ) (v : Verb) → (let o : Option Verb = None in o) ≡ Some v → n ≡ verb_word v
nothing n v h = absurd (cc)

named_is : (n : List ℕ) (v : Verb) → verb_named n ≡ Some v → n ≡ verb_word v
named_is n v h =
    pick n verb.Click v _ h (λ h. pick n verb.Fire v _ h (λ h. pick n verb.Typed v _ h (λ h. pick n verb.Check v _ h (λ h.
    pick n verb.Eval v _ h (λ h. pick n verb.At v _ h (λ h. pick n verb.Emit v _ h (λ h. pick n verb.Broadcast v _ h (λ h.
    pick n verb.Async v _ h (λ h. pick n verb.Probe v _ h (λ h. pick n verb.Destroy v _ h (λ h. pick n verb.Digest v _ h (nothing n v))))))))))))

one_last : (a r : List ℕ) → a ∷ with_last [] r ≡ with_last (a ∷ []) r
one_last a [] = refl
one_last a (c ∷ r) = refl

two_last : (a b r : List ℕ) → a ∷ b ∷ with_last [] r ≡ with_last (a ∷ b ∷ []) r
two_last a b [] = refl
two_last a b (c ∷ r) = refl

three_last : (a b d r : List ℕ) → a ∷ b ∷ d ∷ with_last [] r ≡ with_last (a ∷ b ∷ d ∷ []) r
three_last a b d [] = refl
three_last a b d (c ∷ r) = refl

rest_left : (A : Type 0) (r : List ℕ) (p : A × List ℕ) → Next A r p → Rest p.1
rest_left A r p n = subst (λ (t : List ℕ). Rest t) (sym n.left) (rest_of r n.stands)

-- one part more, before what is left of it
before : (A : Type 0) (r : List ℕ) (p : A × List ℕ) (ws : List (List ℕ)) → Next A r p → IsLine ws p.1 → IsLine (word r ∷ ws) r
before A r p ws n l = prepend r ws n.stands (subst (λ (t : List ℕ). IsLine ws t) n.left l)

headed : (ws : List (List ℕ)) (a b : List ℕ) → a ≡ b → a ∷ ws ≡ b ∷ ws
headed ws a b e = ap (λ (x : List ℕ). x ∷ ws) e

-- nothing is no JSON
read_nothing : read [] ≡ None
unfolding serde_json_on_literals
read_nothing = refl

no_json : (t : List ℕ) → IsJsonText t [] → ⊥
no_json t j = let none = read_nothing in let some = j.1 in cc

solid_text : (r t : List ℕ) → Rest r → IsJsonText t r → begins_solid r ≡ true
solid_text r t (inl e) j = absurd (no_json t (subst (λ (x : List ℕ). IsJsonText t x) e j))
solid_text r t (inr s) j = s.begins

click_is : (cs : List ℕ) (a : Act) → Solid cs → word cs ≡ codes "click" → click_of (next_part cs) ≡ Ok a → Spells a cs
click_is cs a s w h =
    let r = next_part cs in
    let f : Target × List ℕ → Kinded Act = λ t. ended (click_on t.0) t.1 in
    let b = bind_ok (next_target r) f a h in
    let t = next_target_is r b.0 (rest_of cs s) b.1 in
    let e = ended_is (click_on b.0.0) a b.0.1 b.2 in
    let l = prepend cs (word r ∷ []) s (before Target r b.0 [] t.0 e.0) in
    subst (λ (x : Act). Spells x cs) e.1 (word cs ∷ word r ∷ [], l, (word r, headed (word r ∷ []) (word cs) (codes "click") w, t.1))

fire_is : (cs : List ℕ) (a : Act) → Solid cs → word cs ≡ codes "fire" → fire_of (next_part cs) ≡ Ok a → Spells a cs
fire_is cs a s w h =
    let r = next_part cs in
    let f : List ℕ × List ℕ → Kinded Act = λ e. next_target e.1 >>= λ t. object_of t.1 >>= λ d. Ok (fire_at e.0 t.0 d) in
    let b = bind_ok (next_event r) f a h in
    let v = next_event_is r b.0 (rest_of cs s) b.1 in
    let g : Target × List ℕ → Kinded Act = λ t. object_of t.1 >>= λ d. Ok (fire_at b.0.0 t.0 d) in
    let k = bind_ok (next_target b.0.1) g a b.2 in
    let t = next_target_is b.0.1 k.0 (rest_left (List ℕ) r b.0 v.0) k.1 in
    let j : Data → Kinded Act = λ d. Ok (fire_at b.0.0 k.0.0 d) in
    let d = bind_ok (object_of k.0.1) j a k.2 in
    let l1 = before Target b.0.1 k.0 (with_last [] k.0.1) t.0 (tail_line k.0.1 (rest_left Target b.0.1 k.0 t.0)) in
    let l2 = before (List ℕ) r b.0 (word b.0.1 ∷ with_last [] k.0.1) v.0 l1 in
    let l = prepend cs (word r ∷ word b.0.1 ∷ with_last [] k.0.1) s l2 in
    let names : word cs ∷ word r ∷ word b.0.1 ∷ with_last [] k.0.1 ≡ with_last (codes "fire" ∷ b.0.0 ∷ word b.0.1 ∷ []) k.0.1 =
    headed (word r ∷ word b.0.1 ∷ with_last [] k.0.1) (word cs) (codes "fire") w
    ∙ (ap (λ (x : List ℕ). codes "fire" ∷ x ∷ word b.0.1 ∷ with_last [] k.0.1) (sym v.1) ∙ three_last (codes "fire") b.0.0 (word b.0.1) k.0.1) in
    subst (λ (x : Act). Spells x cs) (ok_is (fire_at b.0.0 k.0.0 d.0) a d.2)
    (word cs ∷ word r ∷ word b.0.1 ∷ with_last [] k.0.1, l, (word b.0.1, k.0.1, names, ap is_event v.1 ∙ v.2, t.1, object_is k.0.1 d.0 d.1))

typed_is : (cs : List ℕ) (a : Act) → Solid cs → word cs ≡ codes "type" → typed_of (next_part cs) ≡ Ok a → Spells a cs
typed_is cs a s w h =
    let r = next_part cs in
    let f : Target × List ℕ → Kinded Act = λ t. text_of t.1 >>= λ x. Ok (type_into t.0 x) in
    let b = bind_ok (next_target r) f a h in
    let t = next_target_is r b.0 (rest_of cs s) b.1 in
    let g : List ℕ → Kinded Act = λ x. Ok (type_into b.0.0 x) in
    let x = bind_ok (text_of b.0.1) g a b.2 in
    let j = text_is b.0.1 x.0 x.1 in
    let l = prepend cs (word r ∷ b.0.1 ∷ []) s (before Target r b.0 (b.0.1 ∷ []) t.0 (refl, solid_text b.0.1 x.0 (rest_left Target r b.0 t.0) j)) in
    subst (λ (y : Act). Spells y cs) (ok_is (type_into b.0.0 x.0) a x.2) (word cs ∷ word r ∷ b.0.1 ∷ [], l, (word r, b.0.1, headed (word r ∷ b.0.1 ∷ []) (word cs) (codes "type") w, t.1, j))

check_is : (cs : List ℕ) (a : Act) → Solid cs → word cs ≡ codes "check" → check_of (next_part cs) ≡ Ok a → Spells a cs
check_is cs a s w h =
    let r = next_part cs in
    let f : Target × List ℕ → Kinded Act = λ t. next_flag t.1 >>= λ b. ended (check_at t.0 b.0) b.1 in
    let b = bind_ok (next_target r) f a h in
    let t = next_target_is r b.0 (rest_of cs s) b.1 in
    let g : Bool × List ℕ → Kinded Act = λ k. ended (check_at b.0.0 k.0) k.1 in
    let k = bind_ok (next_flag b.0.1) g a b.2 in
    let n = next_flag_is b.0.1 k.0 (rest_left Target r b.0 t.0) k.1 in
    let e = ended_is (check_at b.0.0 k.0.0) a k.0.1 k.2 in
    let l = prepend cs (word r ∷ word b.0.1 ∷ []) s (before Target r b.0 (word b.0.1 ∷ []) t.0 (before Bool b.0.1 k.0 [] n.0 e.0)) in
    let names : word cs ∷ word r ∷ word b.0.1 ∷ [] ≡ codes "check" ∷ word r ∷ flag_word k.0.0 ∷ [] =
    headed (word r ∷ word b.0.1 ∷ []) (word cs) (codes "check") w ∙ ap (λ (x : List ℕ). codes "check" ∷ word r ∷ x ∷ []) n.1 in
    subst (λ (x : Act). Spells x cs) e.1 (word cs ∷ word r ∷ word b.0.1 ∷ [], l, (word r, names, t.1))

-- a command with an expression alone
alone_line : (cs w : List ℕ) → Solid cs → word cs ≡ w → (ws : List (List ℕ)) × IsLine ws cs × (ws ≡ with_last (w ∷ []) (next_part cs))
alone_line cs w s e = (
  word cs ∷ with_last [] (next_part cs),
  prepend cs (with_last [] (next_part cs)) s (tail_line (next_part cs) (rest_of cs s)),
  headed (with_last [] (next_part cs)) (word cs) w e ∙ one_last w (next_part cs),
)

eval_is : (cs : List ℕ) (a : Act) → Solid cs → word cs ≡ codes "eval" → eval_of (next_part cs) ≡ Ok a → Spells a cs
eval_is cs a s w h =
    let f : Trees → Kinded Act = λ p. Ok (eval_root p) in
    let b = bind_ok (program_of (next_part cs)) f a h in
    let l = alone_line cs (codes "eval") s w in
    subst (λ (x : Act). Spells x cs) (ok_is (eval_root b.0) a b.2) (l.0, l.1, (next_part cs, l.2, expression_is (next_part cs) b.0 b.1))

async_is : (cs : List ℕ) (a : Act) → Solid cs → word cs ≡ codes "async" → async_of (next_part cs) ≡ Ok a → Spells a cs
async_is cs a s w h =
    let f : Trees → Kinded Act = λ p. Ok (queue_task p) in
    let b = bind_ok (program_of (next_part cs)) f a h in
    let l = alone_line cs (codes "async") s w in
    subst (λ (x : Act). Spells x cs) (ok_is (queue_task b.0) a b.2) (l.0, l.1, (next_part cs, l.2, expression_is (next_part cs) b.0 b.1))

probe_is : (cs : List ℕ) (a : Act) → Solid cs → word cs ≡ codes "probe" → probe_of (next_part cs) ≡ Ok a → Spells a cs
probe_is cs a s w h =
    let f : Trees → Kinded Act = λ p. Ok (probe_root p) in
    let b = bind_ok (pure_program_of (next_part cs)) f a h in
    let l = alone_line cs (codes "probe") s w in
    let e = pure_is (next_part cs) b.0 b.1 in
    subst (λ (x : Act). Spells x cs) (ok_is (probe_root b.0) a b.2) (l.0, l.1, (next_part cs, l.2, e.0, e.1))

at_is : (cs : List ℕ) (a : Act) → Solid cs → word cs ≡ codes "at" → at_of (next_part cs) ≡ Ok a → Spells a cs
at_is cs a s w h =
    let r = next_part cs in
    let f : ScopeOf × List ℕ → Kinded Act = λ s. program_of s.1 >>= λ p. Ok (eval_at s.0 p) in
    let b = bind_ok (next_scope r) f a h in
    let t = next_scope_is r b.0 (rest_of cs s) b.1 in
    let g : Trees → Kinded Act = λ p. Ok (eval_at b.0.0 p) in
    let p = bind_ok (program_of b.0.1) g a b.2 in
    let l = prepend cs (word r ∷ with_last [] b.0.1) s (before ScopeOf r b.0 (with_last [] b.0.1) t.0 (tail_line b.0.1 (rest_left ScopeOf r b.0 t.0))) in
    let names : word cs ∷ word r ∷ with_last [] b.0.1 ≡ with_last (codes "at" ∷ word r ∷ []) b.0.1 =
    headed (word r ∷ with_last [] b.0.1) (word cs) (codes "at") w ∙ two_last (codes "at") (word r) b.0.1 in
    subst (λ (x : Act). Spells x cs) (ok_is (eval_at b.0.0 p.0) a p.2) (word cs ∷ word r ∷ with_last [] b.0.1, l, (word r, b.0.1, names, t.1, expression_is b.0.1 p.0 p.1))

abbrev Sent : ScopeOf → List ℕ → Data → List ℕ → List ℕ → Type 0
Sent s n d v cs = (ws : List (List ℕ)) × IsLine ws cs × ((w : List ℕ) × (js : List ℕ) × (ws ≡ with_last (v ∷ w ∷ n ∷ []) js) × IsScope s w × IsOneWord n × IsJsonList d js)

event_is : (cs v : List ℕ) (e : ScopeOf × List ℕ × Data) → Solid cs → word cs ≡ v → event_of (next_part cs) ≡ Ok e → Sent e.0 e.1 e.2 v cs
event_is cs v e s w h =
    let r = next_part cs in
    let f : ScopeOf × List ℕ → Kinded (ScopeOf × List ℕ × Data) = λ s. next_name s.1 >>= λ n. list_of n.1 >>= λ d. Ok (s.0, n.0, d) in
    let b = bind_ok (next_scope r) f e h in
    let t = next_scope_is r b.0 (rest_of cs s) b.1 in
    let g : List ℕ × List ℕ → Kinded (ScopeOf × List ℕ × Data) = λ n. list_of n.1 >>= λ d. Ok (b.0.0, n.0, d) in
    let k = bind_ok (next_name b.0.1) g e b.2 in
    let n = next_name_is b.0.1 k.0 (rest_left ScopeOf r b.0 t.0) k.1 in
    let j : Data → Kinded (ScopeOf × List ℕ × Data) = λ d. Ok (b.0.0, k.0.0, d) in
    let d = bind_ok (list_of k.0.1) j e k.2 in
    let l1 = before (List ℕ) b.0.1 k.0 (with_last [] k.0.1) n.0 (tail_line k.0.1 (rest_left (List ℕ) b.0.1 k.0 n.0)) in
    let l2 = before ScopeOf r b.0 (word b.0.1 ∷ with_last [] k.0.1) t.0 l1 in
    let l = prepend cs (word r ∷ word b.0.1 ∷ with_last [] k.0.1) s l2 in
    let names : word cs ∷ word r ∷ word b.0.1 ∷ with_last [] k.0.1 ≡ with_last (v ∷ word r ∷ k.0.0 ∷ []) k.0.1 =
    headed (word r ∷ word b.0.1 ∷ with_last [] k.0.1) (word cs) v w
    ∙ (ap (λ (x : List ℕ). v ∷ word r ∷ x ∷ with_last [] k.0.1) (sym n.1) ∙ three_last v (word r) k.0.0 k.0.1) in
    subst (λ (x : ScopeOf × List ℕ × Data). Sent x.0 x.1 x.2 v cs) (ok_is (b.0.0, k.0.0, d.0) e d.2)
    (word cs ∷ word r ∷ word b.0.1 ∷ with_last [] k.0.1, l, (word r, k.0.1, names, t.1, subst (λ (x : List ℕ). IsOneWord x) (sym n.1) (word_one b.0.1 n.0.stands), list_is k.0.1 d.0 d.1))

emit_is : (cs : List ℕ) (a : Act) → Solid cs → word cs ≡ codes "emit" → emit_of (next_part cs) ≡ Ok a → Spells a cs
emit_is cs a s w h =
    let f : ScopeOf × List ℕ × Data → Kinded Act = λ e. Ok (emit_from e.0 e.1 e.2) in
    let b = bind_ok (event_of (next_part cs)) f a h in
    let e = event_is cs (codes "emit") b.0 s w b.1 in
    subst (λ (x : Act). Spells x cs) (ok_is (emit_from b.0.0 b.0.1 b.0.2) a b.2) (e.0, e.1, e.2)

broadcast_is : (cs : List ℕ) (a : Act) → Solid cs → word cs ≡ codes "broadcast" → broadcast_of (next_part cs) ≡ Ok a → Spells a cs
broadcast_is cs a s w h =
    let f : ScopeOf × List ℕ × Data → Kinded Act = λ e. Ok (broadcast_from e.0 e.1 e.2) in
    let b = bind_ok (event_of (next_part cs)) f a h in
    let e = event_is cs (codes "broadcast") b.0 s w b.1 in
    subst (λ (x : Act). Spells x cs) (ok_is (broadcast_from b.0.0 b.0.1 b.0.2) a b.2) (e.0, e.1, e.2)

destroy_is : (cs : List ℕ) (a : Act) → Solid cs → word cs ≡ codes "destroy" → destroy_of (next_part cs) ≡ Ok a → Spells a cs
destroy_is cs a s w h =
    let r = next_part cs in
    let f : ScopeOf × List ℕ → Kinded Act = λ s. ended (destroy_scope s.0) s.1 in
    let b = bind_ok (next_scope r) f a h in
    let t = next_scope_is r b.0 (rest_of cs s) b.1 in
    let e = ended_is (destroy_scope b.0.0) a b.0.1 b.2 in
    let l = prepend cs (word r ∷ []) s (before ScopeOf r b.0 [] t.0 e.0) in
    subst (λ (x : Act). Spells x cs) e.1 (word cs ∷ word r ∷ [], l, (word r, headed (word r ∷ []) (word cs) (codes "destroy") w, t.1))

digest_is : (cs : List ℕ) (a : Act) → Solid cs → word cs ≡ codes "digest" → ended make_digest (next_part cs) ≡ Ok a → Spells a cs
digest_is cs a s w h =
    let e = ended_is make_digest a (next_part cs) h in
    subst (λ (x : Act). Spells x cs) e.1 (word cs ∷ [], prepend cs [] s e.0, headed [] (word cs) (codes "digest") w)

act_is : (cs : List ℕ) (a : Act) (o : Option Verb) → verb_named (word cs) ≡ o → Solid cs → act_named o (next_part cs) ≡ Ok a → Spells a cs
act_is cs a None e s h = absurd (cc)
act_is cs a (Some verb.Click) e s h = click_is cs a s (named_is (word cs) verb.Click e) h
act_is cs a (Some verb.Fire) e s h = fire_is cs a s (named_is (word cs) verb.Fire e) h
act_is cs a (Some verb.Typed) e s h = typed_is cs a s (named_is (word cs) verb.Typed e) h
act_is cs a (Some verb.Check) e s h = check_is cs a s (named_is (word cs) verb.Check e) h
act_is cs a (Some verb.Eval) e s h = eval_is cs a s (named_is (word cs) verb.Eval e) h
act_is cs a (Some verb.At) e s h = at_is cs a s (named_is (word cs) verb.At e) h
act_is cs a (Some verb.Emit) e s h = emit_is cs a s (named_is (word cs) verb.Emit e) h
act_is cs a (Some verb.Broadcast) e s h = broadcast_is cs a s (named_is (word cs) verb.Broadcast e) h
act_is cs a (Some verb.Async) e s h = async_is cs a s (named_is (word cs) verb.Async e) h
act_is cs a (Some verb.Probe) e s h = probe_is cs a s (named_is (word cs) verb.Probe e) h
act_is cs a (Some verb.Destroy) e s h = destroy_is cs a s (named_is (word cs) verb.Destroy e) h
act_is cs a (Some verb.Digest) e s h = digest_is cs a s (named_is (word cs) verb.Digest e) h

-- what is read from a line is spelled so
pub command_is : (cs : List ℕ) (a : Act) → Solid cs → command_of cs ≡ Ok a → Spells a cs
command_is cs a s h = act_is cs a (verb_named (word cs)) refl s h

-- a command that is spelled so is read

over_last : (w : List ℕ) (ws : List (List ℕ)) (es cs : List ℕ) → IsLine (with_last (w ∷ ws) es) cs → is_over cs ≡ false
over_last w ws [] cs l = not_over w ws cs l
over_last w ws (c ∷ es) cs l = not_over w (ws ++ (c ∷ es) ∷ []) cs l

of_word : (cs : List ℕ) (v : Verb) → word cs ≡ verb_word v → command_of cs ≡ act_named (Some v) (next_part cs)
of_word cs v e = ap (λ (x : List ℕ). act_named (verb_named x) (next_part cs)) e ∙ ap (λ (o : Option Verb). act_named o (next_part cs)) (named v)
  where
    named : (v : Verb) → verb_named (verb_word v) ≡ Some v
    named verb.Click = refl
    named verb.Fire = refl
    named verb.Typed = refl
    named verb.Check = refl
    named verb.Eval = refl
    named verb.At = refl
    named verb.Emit = refl
    named verb.Broadcast = refl
    named verb.Async = refl
    named verb.Probe = refl
    named verb.Destroy = refl
    named verb.Digest = refl

placed : (ws vs : List (List ℕ)) (cs : List ℕ) → ws ≡ vs → IsLine ws cs → IsLine vs cs
placed ws vs cs e l = subst (λ (x : List (List ℕ)). IsLine x cs) e l

ended_read : {A : Type 0} (a : A) (r : List ℕ) → r ≡ [] → ended a r ≡ Ok a
ended_read a r e = ap (ended a) e

click_read : (t : Target) (cs : List ℕ) → Spells (click_on t) cs → command_of cs ≡ Ok (click_on t)
click_read t cs h =
    let w = h.2.0 in
    let p = first_part (codes "click") w [] cs (placed h.0 (codes "click" ∷ w ∷ []) cs h.2.1 h.1) in
    let q = last_word w (next_part cs) p.1 (target_solid t w h.2.2) in
    let f : Target × List ℕ → Kinded Act = λ t. ended (click_on t.0) t.1 in
    of_word cs verb.Click p.0 ∙ ap (λ (x : Kinded (Target × List ℕ)). x >>= f) (next_target_read (next_part cs) w [] t (not_over w [] (next_part cs) p.1) q.0 q.1 h.2.2)

-- the parts of an event's line
fire_read : (e : List ℕ) (t : Target) (d : Data) (cs : List ℕ) → Spells (fire_at e t d) cs → command_of cs ≡ Ok (fire_at e t d)
fire_read e t d cs h =
    let w = h.2.0 in
    let js = h.2.1 in
    let p = first_of_last (codes "fire") e (w ∷ []) js cs (placed h.0 (with_last (codes "fire" ∷ e ∷ w ∷ []) js) cs h.2.2 h.1) in
    let q = first_of_last e w [] js (next_part cs) p.1 in
    let l = word_of_last w js (next_part (next_part cs)) q.1 (target_solid t w h.2.4) in
    let f : List ℕ × List ℕ → Kinded Act = λ e. next_target e.1 >>= λ t. object_of t.1 >>= λ d. Ok (fire_at e.0 t.0 d) in
    let g : Target × List ℕ → Kinded Act = λ t. object_of t.1 >>= λ d. Ok (fire_at e t.0 d) in
    let j : Data → Kinded Act = λ d. Ok (fire_at e t d) in
    of_word cs verb.Fire p.0
    ∙ (ap (λ (x : Kinded (List ℕ × List ℕ)). x >>= f) (next_event_read (next_part cs) e (next_part (next_part cs)) (over_last e (w ∷ []) js (next_part cs) p.1) q.0 refl h.2.3)
    ∙ (ap (λ (x : Kinded (Target × List ℕ)). x >>= g) (next_target_read (next_part (next_part cs)) w js t (over_last w [] js (next_part (next_part cs)) q.1) l.0 l.1 h.2.4)
    ∙ ap (λ (x : Kinded Data). x >>= j) (object_read d js h.2.5)))

typed_read : (t : Target) (x : List ℕ) (cs : List ℕ) → Spells (type_into t x) cs → command_of cs ≡ Ok (type_into t x)
typed_read t x cs h =
    let w = h.2.0 in
    let js = h.2.1 in
    let p = first_part (codes "type") w (js ∷ []) cs (placed h.0 (codes "type" ∷ w ∷ js ∷ []) cs h.2.2 h.1) in
    let q = first_part w js [] (next_part cs) p.1 in
    let f : Target × List ℕ → Kinded Act = λ t. text_of t.1 >>= λ x. Ok (type_into t.0 x) in
    let g : List ℕ → Kinded Act = λ x. Ok (type_into t x) in
    of_word cs verb.Typed p.0
    ∙ (ap (λ (y : Kinded (Target × List ℕ)). y >>= f) (next_target_read (next_part cs) w js t (not_over w (js ∷ []) (next_part cs) p.1) q.0 q.1.0 h.2.3)
    ∙ ap (λ (y : Kinded (List ℕ)). y >>= g) (text_read x js h.2.4))

check_read : (t : Target) (b : Bool) (cs : List ℕ) → Spells (check_at t b) cs → command_of cs ≡ Ok (check_at t b)
check_read t b cs h =
    let w = h.2.0 in
    let p = first_part (codes "check") w (flag_word b ∷ []) cs (placed h.0 (codes "check" ∷ w ∷ flag_word b ∷ []) cs h.2.1 h.1) in
    let q = first_part w (flag_word b) [] (next_part cs) p.1 in
    let l = last_word (flag_word b) (next_part (next_part cs)) q.1 (flag_solid b) in
    let f : Target × List ℕ → Kinded Act = λ t. next_flag t.1 >>= λ b. ended (check_at t.0 b.0) b.1 in
    let g : Bool × List ℕ → Kinded Act = λ k. ended (check_at t k.0) k.1 in
    of_word cs verb.Check p.0
    ∙ (ap (λ (y : Kinded (Target × List ℕ)). y >>= f) (next_target_read (next_part cs) w (next_part (next_part cs)) t (not_over w (flag_word b ∷ []) (next_part cs) p.1) q.0 refl h.2.2)
    ∙ ap (λ (y : Kinded (Bool × List ℕ)). y >>= g) (next_flag_read (next_part (next_part cs)) [] b l.0 l.1))

alone_read : (w es cs : List ℕ) (ws : List (List ℕ)) → ws ≡ with_last (w ∷ []) es → has_no_blank w ≡ true → IsLine ws cs → (word cs ≡ w) × (next_part cs ≡ es)
alone_read w es cs ws e n l = word_of_last w es cs (placed ws (with_last (w ∷ []) es) cs e l) n

eval_read : (p : Trees) (cs : List ℕ) → Spells (eval_root p) cs → command_of cs ≡ Ok (eval_root p)
eval_read p cs h =
    let q = alone_read (codes "eval") h.2.0 cs h.0 h.2.1 refl h.1 in
    let f : Trees → Kinded Act = λ p. Ok (eval_root p) in
    of_word cs verb.Eval q.0 ∙ ap (λ (y : Kinded Trees). y >>= f) (ap program_of q.1 ∙ expression_read p h.2.0 h.2.2)

async_read : (p : Trees) (cs : List ℕ) → Spells (queue_task p) cs → command_of cs ≡ Ok (queue_task p)
async_read p cs h =
    let q = alone_read (codes "async") h.2.0 cs h.0 h.2.1 refl h.1 in
    let f : Trees → Kinded Act = λ p. Ok (queue_task p) in
    of_word cs verb.Async q.0 ∙ ap (λ (y : Kinded Trees). y >>= f) (ap program_of q.1 ∙ expression_read p h.2.0 h.2.2)

probe_read : (p : Trees) (cs : List ℕ) → Spells (probe_root p) cs → command_of cs ≡ Ok (probe_root p)
probe_read p cs h =
    let q = alone_read (codes "probe") h.2.0 cs h.0 h.2.1 refl h.1 in
    let f : Trees → Kinded Act = λ p. Ok (probe_root p) in
    of_word cs verb.Probe q.0 ∙ ap (λ (y : Kinded Trees). y >>= f) (ap pure_program_of q.1 ∙ pure_read p h.2.0 h.2.2 h.2.3)

at_read : (s : ScopeOf) (p : Trees) (cs : List ℕ) → Spells (eval_at s p) cs → command_of cs ≡ Ok (eval_at s p)
at_read s p cs h =
    let w = h.2.0 in
    let es = h.2.1 in
    let a = first_of_last (codes "at") w [] es cs (placed h.0 (with_last (codes "at" ∷ w ∷ []) es) cs h.2.2 h.1) in
    let l = word_of_last w es (next_part cs) a.1 (scope_solid s w h.2.3) in
    let f : ScopeOf × List ℕ → Kinded Act = λ s. program_of s.1 >>= λ p. Ok (eval_at s.0 p) in
    let g : Trees → Kinded Act = λ p. Ok (eval_at s p) in
    of_word cs verb.At a.0
    ∙ (ap (λ (y : Kinded (ScopeOf × List ℕ)). y >>= f) (next_scope_read (next_part cs) w es s (over_last w [] es (next_part cs) a.1) l.0 l.1 h.2.3)
    ∙ ap (λ (y : Kinded Trees). y >>= g) (expression_read p es h.2.4))

event_read : (cs v w n js : List ℕ) (s : ScopeOf) (d : Data) → IsLine (with_last (v ∷ w ∷ n ∷ []) js) cs → IsScope s w → IsOneWord n → IsJsonList d js → (word cs ≡ v) × (event_of (next_part cs) ≡ Ok (s, n, d))
event_read cs v w n js s d h i o k =
    let p = first_of_last v w (n ∷ []) js cs h in
    let q = first_of_last w n [] js (next_part cs) p.1 in
    let l = word_of_last n js (next_part (next_part cs)) q.1 o.1 in
    let f : ScopeOf × List ℕ → Kinded (ScopeOf × List ℕ × Data) = λ s. next_name s.1 >>= λ n. list_of n.1 >>= λ d. Ok (s.0, n.0, d) in
    let g : List ℕ × List ℕ → Kinded (ScopeOf × List ℕ × Data) = λ n. list_of n.1 >>= λ d. Ok (s, n.0, d) in
    let j : Data → Kinded (ScopeOf × List ℕ × Data) = λ d. Ok (s, n, d) in (
      p.0,
      ap (λ (y : Kinded (ScopeOf × List ℕ)). y >>= f) (next_scope_read (next_part cs) w (next_part (next_part cs)) s (over_last w (n ∷ []) js (next_part cs) p.1) q.0 refl i)
          ∙ (ap (λ (y : Kinded (List ℕ × List ℕ)). y >>= g) (next_name_read (next_part (next_part cs)) n js (over_last n [] js (next_part (next_part cs)) q.1) l.0 l.1)
          ∙ ap (λ (y : Kinded Data). y >>= j) (list_read d js k)),
    )

emit_read : (s : ScopeOf) (n : List ℕ) (d : Data) (cs : List ℕ) → Spells (emit_from s n d) cs → command_of cs ≡ Ok (emit_from s n d)
emit_read s n d cs h =
    let e = event_read cs (codes "emit") h.2.0 n h.2.1 s d (placed h.0 (with_last (codes "emit" ∷ h.2.0 ∷ n ∷ []) h.2.1) cs h.2.2 h.1) h.2.3 h.2.4 h.2.5 in
    let f : ScopeOf × List ℕ × Data → Kinded Act = λ e. Ok (emit_from e.0 e.1 e.2) in
    of_word cs verb.Emit e.0 ∙ ap (λ (y : Kinded (ScopeOf × List ℕ × Data)). y >>= f) e.1

broadcast_read : (s : ScopeOf) (n : List ℕ) (d : Data) (cs : List ℕ) → Spells (broadcast_from s n d) cs → command_of cs ≡ Ok (broadcast_from s n d)
broadcast_read s n d cs h =
    let e = event_read cs (codes "broadcast") h.2.0 n h.2.1 s d (placed h.0 (with_last (codes "broadcast" ∷ h.2.0 ∷ n ∷ []) h.2.1) cs h.2.2 h.1) h.2.3 h.2.4 h.2.5 in
    let f : ScopeOf × List ℕ × Data → Kinded Act = λ e. Ok (broadcast_from e.0 e.1 e.2) in
    of_word cs verb.Broadcast e.0 ∙ ap (λ (y : Kinded (ScopeOf × List ℕ × Data)). y >>= f) e.1

destroy_read : (s : ScopeOf) (cs : List ℕ) → Spells (destroy_scope s) cs → command_of cs ≡ Ok (destroy_scope s)
destroy_read s cs h =
    let w = h.2.0 in
    let p = first_part (codes "destroy") w [] cs (placed h.0 (codes "destroy" ∷ w ∷ []) cs h.2.1 h.1) in
    let q = last_word w (next_part cs) p.1 (scope_solid s w h.2.2) in
    let f : ScopeOf × List ℕ → Kinded Act = λ s. ended (destroy_scope s.0) s.1 in
    of_word cs verb.Destroy p.0 ∙ ap (λ (x : Kinded (ScopeOf × List ℕ)). x >>= f) (next_scope_read (next_part cs) w [] s (not_over w [] (next_part cs) p.1) q.0 q.1 h.2.2)

digest_read : (cs : List ℕ) → Spells make_digest cs → command_of cs ≡ Ok make_digest
digest_read cs h =
    let q = last_word (codes "digest") cs (placed h.0 (codes "digest" ∷ []) cs h.2 h.1) refl in
    of_word cs verb.Digest q.0 ∙ ended_read make_digest (next_part cs) q.1

-- what is spelled so is read from a line
pub command_read : (a : Act) (cs : List ℕ) → Spells a cs → command_of cs ≡ Ok a
command_read (click_on t) cs h = click_read t cs h
command_read (fire_at e t d) cs h = fire_read e t d cs h
command_read (type_into t x) cs h = typed_read t x cs h
command_read (check_at t b) cs h = check_read t b cs h
command_read (eval_root p) cs h = eval_read p cs h
command_read (eval_at s p) cs h = at_read s p cs h
command_read (emit_from s n d) cs h = emit_read s n d cs h
command_read (broadcast_from s n d) cs h = broadcast_read s n d cs h
command_read (queue_task p) cs h = async_read p cs h
command_read (probe_root p) cs h = probe_read p cs h
command_read (destroy_scope s) cs h = destroy_read s cs h
command_read make_digest cs h = digest_read cs h
