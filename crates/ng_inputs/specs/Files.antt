-- The files of a run, in the order of fetching, and what their fetches bring.
use Rattle.std.specs.Prelude.{ℕ, ◌≡◌, ◌≤◌, ◌<◌, ◌⊎◌, List, [], ◌∷◌, ◌++◌, length, codes, Option, None, Some, if◌then◌else◌}
use Rattle.std.specs.Str.{bytes_eq}
use Rattle.ng_base.specs.Outside.{longest}
use Rattle.ng_words.specs.Words.{Words}
use Rattle.ng_inputs.specs.declared.files.Role.{Role}
use Rattle.ng_inputs.specs.declared.files.Role.TheVariants.{Template, Application, Script}

pub record File : Type 0 where
  pub role : Role
  pub name : List ℕ

abbrev pub file : Role → List ℕ → File
file role name = record { role = role; name = name }

abbrev pub script_files : Option (List ℕ) → List File
script_files None = []
script_files (Some s) = file Script s ∷ []

-- the files of these words, in the order of fetching
abbrev pub files_of : Words → List File
files_of w = file Template w.template ∷ file Application w.application ∷ script_files w.script

-- a run whose words are not of the form has no file
abbrev pub run_files : Option Words → List File
run_files None = []
run_files (Some w) = files_of w

abbrev pub role_name : Role → List ℕ
role_name Template = codes "template"
role_name Application = codes "application"
role_name Script = codes "script"

-- a name is told by the role of the first file that has it
abbrev pub first_role : List ℕ → List File → Role → Role
first_role name [] role = role
first_role name (f ∷ fs) role = if bytes_eq name f.name then f.role else first_role name fs role

-- the bytes of a run's files; a script that isn't given is empty
pub record Inputs : Type 0 where
  pub template : List ℕ
  pub application : List ℕ
  pub script : List ℕ

abbrev pub no_inputs : Inputs
no_inputs = record { template = []; application = []; script = [] }

abbrev pub with_file : Role → List ℕ → Inputs → Inputs
with_file Template b i = record i { template = b }
with_file Application b i = record i { application = b }
with_file Script b i = record i { script = b }

-- the bytes that a shelf tells of a name
abbrev pub Telling : Type 0
Telling = List ℕ → Option (List ℕ)

-- what one fetch brings
pub data Got : Type 0 where
  failed : Got
  too_long : ℕ → Got
  bytes : List ℕ → Got

-- what a fetch may bring, where the shelf tells the bytes
abbrev pub Brings : Option (List ℕ) → Got → Type 0
Brings told failed = Unit {0}
Brings None (too_long n) = longest < n
Brings (Some f) (too_long n) = (longest < n) × (length f ≡ n)
Brings None (bytes b) = Unit {0}
Brings (Some f) (bytes b) = (length f ≤ longest) × (b ≡ f)

-- what all fetches bring: the bytes of the files, or the first file that didn't come
pub data Fetched : Type 0 where
  brought : Inputs → Fetched
  unread : File → Fetched
  overlong : Role → ℕ → Fetched

-- after one fetch: the list of failures grows by the file's name where it failed, and only a file that came is followed by the next one
abbrev pub FetchedThen : (List ℕ → Type 0) → File → List (List ℕ) → List (List ℕ) → Fetched → Got → Type 0
FetchedThen next f before now end failed = (now ≡ before ++ f.name ∷ []) × (end ≡ unread f)
FetchedThen next f before now end (too_long n) = (now ≡ before) × (end ≡ overlong f.role n)
FetchedThen next f before now end (bytes b) = next b

-- The files are fetched in their order, up to the first that doesn't come.
abbrev pub Fetches : Telling → Inputs → List File → List (List ℕ) → List (List ℕ) → Fetched → Type 0
Fetches told i [] before now end = (now ≡ before) × (end ≡ brought i)
Fetches told i (f ∷ fs) before now end = (g : Got) × Brings (told f.name) g × FetchedThen (λ b. Fetches told (with_file f.role b i) fs before now end) f before now end g

-- the shelf tells all files, and none is too long
abbrev pub Tells : Telling → Inputs → List File → Inputs → Type 0
Tells told i [] all = all ≡ i
Tells told i (f ∷ fs) all = (b : List ℕ) × (told f.name ≡ Some b) × (length b ≤ longest) × Tells told (with_file f.role b i) fs all

-- it is the name of one of the files
abbrev pub IsNamed : List ℕ → List File → Type 0
IsNamed name [] = ⊥
IsNamed name (f ∷ fs) = (name ≡ f.name) ⊎ IsNamed name fs

-- the list of failures grew by the name of one of the files
abbrev pub FetchFailed : List File → List (List ℕ) → List (List ℕ) → Type 0
FetchFailed fs before now = (name : List ℕ) × IsNamed name fs × (now ≡ before ++ name ∷ [])

-- of a file that the shelf doesn't tell nothing is said
abbrev pub MayBeLong : Option (List ℕ) → Type 0
MayBeLong None = Unit {0}
MayBeLong (Some b) = longest < length b

abbrev pub MayBeShort : Option (List ℕ) → Type 0
MayBeShort None = Unit {0}
MayBeShort (Some b) = length b ≤ longest

-- the first file that doesn't come is too long
abbrev pub LongFile : Telling → List File → Type 0
LongFile told [] = ⊥
LongFile told (f ∷ fs) = MayBeLong (told f.name) ⊎ (MayBeShort (told f.name) × LongFile told fs)

-- the shelf tells that a file is too long, and that those before it are not
abbrev pub HasLong : Telling → List File → Type 0
HasLong told [] = ⊥
HasLong told (f ∷ fs) = (b : List ℕ) × (told f.name ≡ Some b) × ((longest < length b) ⊎ ((length b ≤ longest) × HasLong told fs))
