-- Files that are text, and others.
use Rattle.std.proofs.Common.{◌≡◌, ◌+◌, ◌==◌, ℕ, List, [], take, count_by, Bool, true, false, refl, ap, ◌∙◌, sym}
use Rattle.std.proofs.lemmas.Str.{is_utf8-from_IsUtf8, IsUtf8-from_is_utf8}
use Rattle.std.specs.Prelude.{Result, Err}
use Rattle.std.specs.Str.{chars, IsUtf8, is_utf8}
use Rattle.std.specs.Str.Lossy.{utf8_valid_len}
use Rattle.ng_base.specs.Codes.{line_feed}
use Rattle.ng_base.proofs.Binds.{if_true, if_false}
use Rattle.ng_script.specs.Acts.{Entry}
use Rattle.ng_script.specs.Lines.{lines}
use Rattle.ng_script.specs.Scripts.{fault, commands_from, ill_formed_line, script_of}
use Rattle.ng_script.specs.declared.fault.ScriptFault.{ScriptFault}
use Rattle.ng_script.specs.declared.fault.ScriptKind.TheVariants as kinds

abbrev Answer : Type 0
Answer = Result (List Entry) ScriptFault

abbrev no_text : ℕ → List ℕ → Answer
no_text n bs = Err (fault (count_by (λ b. b == line_feed) (take n bs) + 1) kinds.Utf8)

not_so : (b : Bool) → (b ≡ true → ⊥) → b ≡ false
not_so true h = absurd (h refl)
not_so false h = refl

pub text_read : (bs : List ℕ) → IsUtf8 bs → script_of bs ≡ commands_from 0 [] (lines (chars bs))
text_read bs u = if_true (is_utf8 bs) (commands_from 0 [] (lines (chars bs))) (Err (fault (ill_formed_line bs) kinds.Utf8)) (is_utf8-from_IsUtf8 bs u)

pub no_text_read : (bs : List ℕ) → (IsUtf8 bs → ⊥) → script_of bs ≡ Err (fault (ill_formed_line bs) kinds.Utf8)
no_text_read bs h = if_false (is_utf8 bs) (commands_from 0 [] (lines (chars bs))) (Err (fault (ill_formed_line bs) kinds.Utf8)) (not_so (is_utf8 bs) (λ t. h (IsUtf8-from_is_utf8 bs t)))

pub ill_formed_read : (bs : List ℕ) (n : ℕ) → (IsUtf8 bs → ⊥) → n ≡ utf8_valid_len bs → script_of bs ≡ Err (fault (count_by (λ b. b == line_feed) (take n bs) + 1) kinds.Utf8)
ill_formed_read bs n h e = no_text_read bs h ∙ ap (λ m. no_text m bs) (sym e)
