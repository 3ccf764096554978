-- What a script is: its lines in order, of which each is skipped or spells a command. And what is refused.
use Rattle.std.specs.Prelude.{◌≡◌, ◌≤◌, ◌<◌, ◌+◌, ◌⊎◌, ℕ, true, false, List, [], ◌∷◌, ◌++◌, length, Err}
use Rattle.std.specs.Str.{chars, IsUtf8}
use Rattle.ng_script.specs.Acts.{Act, Entry}
use Rattle.ng_script.specs.Commanding.{command_of}
use Rattle.ng_script.specs.Lines.{trimmed, lines}
use Rattle.ng_script.specs.Scripts.{most, fault, is_skipped, entry, ill_formed_line}
use Rattle.ng_script.specs.Spelling.{Spells}
use Rattle.ng_script.specs.declared.fault.ScriptFault.{ScriptFault}
use Rattle.ng_script.specs.declared.fault.ScriptKind.{ScriptKind}
use Rattle.ng_script.specs.declared.fault.ScriptKind.TheVariants as kinds

-- the commands of lines, after so many lines before them
abbrev pub AreCommands : ℕ → List Entry → List (List ℕ) → Type 0
AreCommands n es [] = es ≡ []
AreCommands n es (l ∷ ls) =
    ((is_skipped (trimmed l) ≡ true) × AreCommands (n + 1) es ls)
    ⊎ ((is_skipped (trimmed l) ≡ false) × (a : Act) × (fs : List Entry) × (es ≡ entry (n + 1) (trimmed l) a ∷ fs) × Spells a (trimmed l) × AreCommands (n + 1) fs ls)

-- the bytes of a file are a script of these commands
abbrev pub IsScript : List Entry → List ℕ → Type 0
IsScript es bytes = IsUtf8 bytes × (length es ≤ most) × AreCommands 0 es (lines (chars bytes))

-- a line after so many commands is refused: it is one too many, or it spells no command
abbrev pub RefusesLine : ℕ → List ℕ → ScriptKind → Type 0
RefusesLine n l k = ((n ≡ most) × (k ≡ kinds.TooMany)) ⊎ ((n < most) × ((a : Act) → Spells a l → ⊥) × (command_of l ≡ Err k))

-- the lines before a line are commands, and that line is refused
pub record RefusesAt (ls : List (List ℕ)) (f : ScriptFault) : Type 0 where
  pub before : List (List ℕ)
  pub line : List ℕ
  pub after : List (List ℕ)
  pub commands : List Entry
  pub kind : ScriptKind
  pub whole : ls ≡ before ++ line ∷ after
  pub read : AreCommands 0 commands before
  pub few : length commands ≤ most
  pub stands : is_skipped (trimmed line) ≡ false
  pub refused : RefusesLine (length commands) (trimmed line) kind
  pub is : f ≡ fault (length before + 1) kind

-- the refusal of a file: it is not UTF-8, or it is that of the first line that is refused
abbrev pub Refuses : List ℕ → ScriptFault → Type 0
Refuses bytes f =
    ((IsUtf8 bytes → ⊥) × (f ≡ fault (ill_formed_line bytes) kinds.Utf8))
    ⊎ (IsUtf8 bytes × RefusesAt (lines (chars bytes)) f)
