-- The track keys of entries, by which a repeat knows its rows (API: ngRepeat, "Tracking and Duplicates").
use Rattle.std.specs.Prelude.{ℕ, suc, pos, List, [], ◌∷◌, ◌++◌, Option, None, Some, Result, Ok, codes}
use Rattle.ng_base.specs.Meets.{◌>>=◌}
use Rattle.ng_base.specs.Objects.{Object}
use Rattle.ng_base.specs.Views.{ViewTree, prim, list, rec}
use Rattle.ng_base.specs.declared.fault.Fault.{Fault}
use Rattle.ng_base.specs.declared.value.Value.{Value}
use Rattle.ng_base.specs.declared.value.Value.TheVariants as value
use Rattle.ng_blocks.specs.declared.keys.TrackKey.{TrackKey}
use Rattle.ng_blocks.specs.declared.keys.TrackKey.TheVariants as keys
use Rattle.ng_drawing.specs.Roles.{Entry}
use Rattle.ng_drawing.specs.Template.{Repeated}
use Rattle.ng_language.specs.Texts.{to_text}
use Rattle.ng_language.specs.Trees.{Trees}
use Rattle.ng_members.specs.Leaves.{Local}
use Rattle.ng_evaluation.specs.Evaluation.{evaluated_program}

-- an entry with its value; that of a fresh list or record is a new object
pub record Item : Type 0 where
  pub entry : Entry
  pub value : Value

-- the key of an entry as programs see it: the name of a named value, or the place of an item
abbrev pub key_value : ℕ → Option (List ℕ) → Value
key_value i (Some name) = value.Text name
key_value i None = value.Int (pos i)

-- under the name of the key, where the repeat has one
abbrev pub key_local : Option (List ℕ) → Value → List Local
key_local None v = []
key_local (Some k) v = (k, v) ∷ []

abbrev pub index_name : List ℕ
index_name = codes "$index"

-- the locals of a track expression: of two that have one name `$index` stands before the item, and the item before its key
abbrev pub track_locals : Repeated → ℕ → Item → List Local
track_locals r i x = (index_name, value.Int (pos i)) ∷ (r.name, x.value) ∷ key_local r.key (key_value i x.entry.name)

-- without a track expression a named value is known by its name, a fresh list or record by its place, and any other value by itself
abbrev pub plain_key : ℕ → Option (List ℕ) → ViewTree → TrackKey
plain_key i (Some name) t = keys.Text name
plain_key i None (prim v) = keys.Prim v
plain_key i None (list ts) = keys.Place i
plain_key i None (rec fs) = keys.Place i

-- with one it is known by the text of that
abbrev pub tracked_text : List Object → ℕ → List Local → Trees → Result (List ℕ) Fault
tracked_text objects o locals p = evaluated_program objects o locals p >>= to_text objects

abbrev pub tracked_by : List Object → ℕ → List Local → Trees → Result TrackKey Fault
tracked_by objects o locals p = tracked_text objects o locals p >>= λ t. Ok (keys.Text t)

abbrev pub track_key : List Object → ℕ → Repeated → Option Trees → ℕ → Item → Result TrackKey Fault
track_key objects o r None i x = Ok (plain_key i x.entry.name x.entry.value)
track_key objects o r (Some p) i x = tracked_by objects o (track_locals r i x) p

-- the keys of items, of which the first has this place, after keys that are known; the first fault stands
abbrev pub track_keys : List Object → ℕ → Repeated → ℕ → List TrackKey → List Item → Result (List TrackKey) Fault
track_keys objects o r i done [] = Ok done
track_keys objects o r i done (x ∷ xs) = track_key objects o r r.track i x >>= λ k. track_keys objects o r (suc i) (done ++ k ∷ []) xs
