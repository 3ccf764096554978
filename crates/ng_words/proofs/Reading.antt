-- What clap's answers say of the words.
use Rattle.std.proofs.Common.{◌≡◌, ◌∙◌, true, List, [], ◌∷◌, Option, None, refl, sym, ap, subst, inl, inr, if◌then◌else◌}
use Rattle.clap.specs.Words.{App, HasKind, HasMatchesOf, IsAmong, Kinds, Text, fault_of, found_of, is_simple, is_simple_and_free, kind_of, matches_of, rows_of}
use Rattle.clap.specs.declared.error.Error.{Error}
use Rattle.clap.specs.declared.error.kind.ErrorKind.{ErrorKind}
use Rattle.clap.specs.declared.error.kind.ErrorKind.TheVariants.{OutOfMemory}
use Rattle.clap.specs.declared.parser.matches.ArgMatches.{ArgMatches}
use Rattle.ng_words.specs.Words.{Words, command_line, is_taken, parsed, together}

-- clap's contract is exact for the command line
line_is_simple : is_simple command_line ≡ true
line_is_simple = refl

line_is_free : is_simple_and_free command_line ≡ true
line_is_free = refl

passed : (kinds : Kinds) (o : Option Words) → kinds ≡ [] → o ≡ (if is_taken kinds then o else None)
passed kinds o none = sym (ap (λ k. if is_taken k then o else None) none)

failed : (kinds : Kinds) (o : Option Words) (k : ErrorKind) → IsAmong k kinds → None ≡ (if is_taken kinds then o else None)
failed [] o k among = absurd among
failed (x ∷ xs) o k among = refl

no_kind : (a : App) (texts : List Text) → a ≡ command_line → (is_simple_and_free a ≡ true → fault_of a texts ≡ []) → fault_of command_line texts ≡ []
no_kind a texts same kinds = subst (λ x. is_simple_and_free x ≡ true → fault_of x texts ≡ []) same kinds line_is_free

has_kind : (a : App) (texts : List Text) (e : Error) → a ≡ command_line → (is_simple_and_free a ≡ true → HasKind (fault_of a texts) e) → HasKind (fault_of command_line texts) e
has_kind a texts e same kinds = subst (λ x. is_simple_and_free x ≡ true → HasKind (fault_of x texts) e) same kinds line_is_free

rows_are : (a : App) (texts : List Text) (m : ArgMatches) → a ≡ command_line → HasMatchesOf a texts m → rows_of (found_of m) ≡ matches_of command_line texts
rows_are a texts m same has = (subst (λ x. HasMatchesOf x texts m) same has line_is_simple).0

-- an `Ok` has the parts that the words have
pub taken : (a : App) (texts : List Text) (m : ArgMatches) → a ≡ command_line → (is_simple_and_free a ≡ true → fault_of a texts ≡ []) → HasMatchesOf a texts m
    → together (rows_of (found_of m)) ≡ parsed texts
taken a texts m same kinds has =
    ap together (rows_are a texts m same has) ∙ passed (fault_of command_line texts) (together (matches_of command_line texts)) (no_kind a texts same kinds)

-- an `Err` that is no want of memory is a refusal of the words
pub refused : (a : App) (texts : List Text) (e : Error) → a ≡ command_line → (is_simple_and_free a ≡ true → HasKind (fault_of a texts) e) → (kind_of e ≡ OutOfMemory → ⊥)
    → None ≡ parsed texts
refused a texts e same kinds other = go (has_kind a texts e same kinds)
  where
    go : HasKind (fault_of command_line texts) e → None ≡ parsed texts
    go (inl memory) = absurd (other memory)
    go (inr among) = failed (fault_of command_line texts) (together (matches_of command_line texts)) (kind_of e) among
