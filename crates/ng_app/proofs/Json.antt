-- Reading an application, a step at a time.
use Rattle.std.proofs.Common.{◌≡◌, ℕ, List, Bool, true, false, if◌then◌else◌, refl, ap, Option, Some, None}
use Rattle.std.proofs.lemmas.Str.{IsUtf8-from_is_utf8, is_utf8-from_IsUtf8}
use Rattle.std.specs.Prelude.{Err}
use Rattle.std.specs.Str.{IsUtf8, is_utf8}
use Rattle.serde_json.specs.Data.{Data}
use Rattle.serde_json.specs.Read.{read}
use Rattle.serde_json.specs.Find.{as_object}
use Rattle.ng_app.specs.App.{facts_of, facts_of_json, facts_of_object}
use Rattle.ng_entries.specs.Refused.{fault}
use Rattle.ng_entries.specs.declared.fault.AppKind.TheVariants.{Json}
use Rattle.ng_entries.specs.declared.fault.Member.TheVariants.{File}

pub facts_of-read : (bytes : List ℕ) (d : Data) → IsUtf8 bytes → read bytes ≡ Some d → facts_of bytes ≡ facts_of_object (as_object d)
facts_of-read bytes d u e = rw (is_utf8-from_IsUtf8 bytes u, e) refl

refused_by : (b : Bool) (o : Option Data) → (b ≡ true → o ≡ None) → (if b then facts_of_json o else Err (fault File Json)) ≡ Err (fault File Json)
refused_by true o h = ap facts_of_json (h refl)
refused_by false o h = refl

pub facts_of-refused : (bytes : List ℕ) → (IsUtf8 bytes → read bytes ≡ None) → facts_of bytes ≡ Err (fault File Json)
facts_of-refused bytes h = refused_by (is_utf8 bytes) (read bytes) (λ t. h (IsUtf8-from_is_utf8 bytes t))
