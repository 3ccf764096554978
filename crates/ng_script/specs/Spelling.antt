-- How a command is spelled: a line is its parts, with blanks between them.
use Rattle.std.specs.Prelude.{◌≡◌, ◌<◌, not, ℕ, Bool, true, false, List, [], ◌∷◌, ◌++◌, length, codes}
use Rattle.std.specs.List.{list_all}
use Rattle.ng_evaluation.specs.Purity.{ArePure}
use Rattle.ng_script.specs.Acts.{Act, click_on, fire_at, type_into, check_at, eval_root, eval_at, emit_from, broadcast_from, queue_task, probe_root, destroy_scope, make_digest}
use Rattle.ng_script.specs.Expressions.{IsExpression}
use Rattle.ng_script.specs.Json.{IsJsonText, IsJsonObject, IsJsonList}
use Rattle.ng_script.specs.Targets.{IsTarget, has_no_blank}
use Rattle.ng_script.specs.Verbs.{is_event}
use Rattle.ng_script.specs.Words.{is_blank}
use Rattle.ng_script.specs.declared.commands.ScopeOf.{ScopeOf}
use Rattle.ng_script.specs.declared.commands.ScopeOf.TheVariants as scope

-- blanks, and at least one
abbrev pub IsGap : List ℕ → Type 0
IsGap cs = (0 < length cs) × (list_all is_blank cs ≡ true)

-- characters without a blank, and at least one
abbrev pub IsOneWord : List ℕ → Type 0
IsOneWord cs = (0 < length cs) × (has_no_blank cs ≡ true)

abbrev pub begins_solid : List ℕ → Bool
begins_solid [] = false
begins_solid (c ∷ cs) = not (is_blank c)

-- the parts of a line, with a gap between two of them: words, and at last whatever is left and begins with no blank
abbrev pub IsLine : List (List ℕ) → List ℕ → Type 0
IsLine [] cs = cs ≡ []
IsLine (t ∷ []) cs = (cs ≡ t) × (begins_solid t ≡ true)
IsLine (w ∷ v ∷ ws) cs = (gap : List ℕ) × (rest : List ℕ) × (cs ≡ w ++ (gap ++ rest)) × IsOneWord w × IsGap gap × IsLine (v ∷ ws) rest

-- these parts, and a last one where that is not empty
abbrev pub with_last : List (List ℕ) → List ℕ → List (List ℕ)
with_last ws [] = ws
with_last ws (c ∷ cs) = ws ++ (c ∷ cs) ∷ []

-- a scope is that of a target, or the root's
abbrev pub IsScope : ScopeOf → List ℕ → Type 0
IsScope scope.Root w = w ≡ codes "root"
IsScope (scope.Node t) w = IsTarget t w

abbrev pub flag_word : Bool → List ℕ
flag_word true = codes "true"
flag_word false = codes "false"

-- the parts of each command
--
--   click T                      fire EVENT T [JSON object]
--   type T JSONTEXT              check T true, check T false
--   eval E                       at S E
--   emit S NAME [JSON list]      broadcast S NAME [JSON list]
--   async E                      probe E
--   destroy S                    digest
abbrev pub IsCommand : Act → List (List ℕ) → Type 0
IsCommand (click_on t) ws = (w : List ℕ) × (ws ≡ codes "click" ∷ w ∷ []) × IsTarget t w
IsCommand (fire_at e t d) ws = (w : List ℕ) × (js : List ℕ) × (ws ≡ with_last (codes "fire" ∷ e ∷ w ∷ []) js) × (is_event e ≡ true) × IsTarget t w × IsJsonObject d js
IsCommand (type_into t x) ws = (w : List ℕ) × (js : List ℕ) × (ws ≡ codes "type" ∷ w ∷ js ∷ []) × IsTarget t w × IsJsonText x js
IsCommand (check_at t b) ws = (w : List ℕ) × (ws ≡ codes "check" ∷ w ∷ flag_word b ∷ []) × IsTarget t w
IsCommand (eval_root p) ws = (es : List ℕ) × (ws ≡ with_last (codes "eval" ∷ []) es) × IsExpression p es
IsCommand (eval_at s p) ws = (w : List ℕ) × (es : List ℕ) × (ws ≡ with_last (codes "at" ∷ w ∷ []) es) × IsScope s w × IsExpression p es
IsCommand (emit_from s n d) ws = (w : List ℕ) × (js : List ℕ) × (ws ≡ with_last (codes "emit" ∷ w ∷ n ∷ []) js) × IsScope s w × IsOneWord n × IsJsonList d js
IsCommand (broadcast_from s n d) ws = (w : List ℕ) × (js : List ℕ) × (ws ≡ with_last (codes "broadcast" ∷ w ∷ n ∷ []) js) × IsScope s w × IsOneWord n × IsJsonList d js
IsCommand (queue_task p) ws = (es : List ℕ) × (ws ≡ with_last (codes "async" ∷ []) es) × IsExpression p es
IsCommand (probe_root p) ws = (es : List ℕ) × (ws ≡ with_last (codes "probe" ∷ []) es) × IsExpression p es × ArePure p
IsCommand (destroy_scope s) ws = (w : List ℕ) × (ws ≡ codes "destroy" ∷ w ∷ []) × IsScope s w
IsCommand make_digest ws = ws ≡ codes "digest" ∷ []

-- the characters of a line spell a command
abbrev pub Spells : Act → List ℕ → Type 0
Spells a cs = (ws : List (List ℕ)) × IsLine ws cs × IsCommand a ws
