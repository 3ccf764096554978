-- The words of a run. They are of the form where `clap` takes them as the command line below, and the parts stand together.
use Rattle.std.specs.Prelude.{ℕ, ◌==◌, ◌&&◌, ◌||◌, not, Bool, true, false, List, [], ◌∷◌, map, codes, encode_utf8_all, Option, None, Some, option_map, is_some, if◌then◌else◌}
use Rattle.std.specs.Option.{option_map_or}
use Rattle.std.specs.Str.{bytes_eq, chars}
use Rattle.clap.specs.Words.{App, Kinds, Row, Rule, Text, fault_of, first_of, matches_of, new_app, new_rule, with_rule}
use Rattle.clap.specs.Simple.{on_top}
use Rattle.clap.specs.declared.builder.action.ArgAction.TheVariants.{SetTrue}
use Rattle.ng_base.specs.Codes.{hyphen}

-- ---- the command line

-- a part that is told by its place
abbrev pub positional : Text → Rule
positional name = new_rule name

-- the flag `--name`
abbrev pub flag : Text → Rule
flag name = record (new_rule name) { long = Some name; action = Some SetTrue }

-- the option `--name`, which has a value
abbrev pub with_value : Text → Rule
with_value name = record (new_rule name) { long = Some name }

-- a command whose words don't begin with the program's name
abbrev pub command_named : Text → App
command_named name = on_top (λ s. record s { no_binary_name = true }) (new_app name)

abbrev pub command_line : App
command_line = with_rule (with_rule (with_rule (with_rule (with_rule (with_rule (with_rule (command_named (codes "ngrun"))
    (positional (codes "template")))
    (positional (codes "application")))
    (positional (codes "script")))
    (flag (codes "trace")))
    (flag (codes "patches")))
    (flag (codes "static")))
    (with_value (codes "load"))

-- ---- which parts stand together

pub record Flags : Type 0 where
  pub trace : Bool
  pub is_static : Bool

-- what the words ask for: flags, a template, an application, and a script where one is given
pub record Words : Type 0 where
  pub flags : Flags
  pub template : List ℕ
  pub application : List ℕ
  pub script : Option (List ℕ)

-- a flag is set
abbrev pub is_set : Text → List Row → Bool
is_set id parts = option_map_or (λ t. bytes_eq t (codes "true")) (first_of id parts) false

-- the text of a part that has one
abbrev pub name_of : Text → List Row → Option (List ℕ)
name_of id parts = option_map chars (first_of id parts)

-- a file's name doesn't begin with `-`
abbrev pub is_file_name : List ℕ → Bool
is_file_name [] = true
is_file_name (c ∷ cs) = not (c == hyphen)

-- a template and an application are named, and all names are names of files
abbrev pub files_named : Flags → Option (List ℕ) → Option (List ℕ) → Option (List ℕ) → Option Words
files_named f None a s = None
files_named f (Some t) None s = None
files_named f (Some t) (Some a) s =
    if is_file_name t && (is_file_name a && option_map_or is_file_name s true) then Some (record { flags = f; template = t; application = a; script = s })
    else None

abbrev pub flags_of : List Row → Flags
flags_of parts = record { trace = is_set (codes "trace") parts; is_static = is_set (codes "static") parts }

-- `--patches` and `--load` are not built yet: no other part stands with them
abbrev pub together : List Row → Option Words
together parts =
    if is_set (codes "patches") parts || is_some (first_of (codes "load") parts) then None
    else files_named (flags_of parts) (name_of (codes "template") parts) (name_of (codes "application") parts) (name_of (codes "script") parts)

-- ---- the form

-- there is no kind of error that an answer may have
abbrev pub is_taken : Kinds → Bool
is_taken [] = true
is_taken (k ∷ ks) = false

-- what `clap` takes has the parts that its contract tells
abbrev pub parsed : List Text → Option Words
parsed texts = if is_taken (fault_of command_line texts) then together (matches_of command_line texts) else None

-- the words of a run, where they are of the form
unfoldable pub words_of : List (List ℕ) → Option Words
words_of ws = parsed (map encode_utf8_all ws)
