-- What is seen of a site: the snapshot that it has kept, as a text, as words and as a truth. What has kept nothing shows nothing. The site of
-- a control's model is seen as what the control shows, its state classes, and whether it is checked (API: ngModel).
use Rattle.std.specs.Prelude.{ℕ, Bool, false, not, List, [], ◌∷◌, ◌++◌, Option, Some, None, option_map, unwrap_or}
use Rattle.ng_base.specs.Views.{ViewTree, ViewTrees, prim, list, no_views, view_then}
use Rattle.ng_base.specs.declared.value.Value.TheVariants as value
use Rattle.ng_control.specs.Kept.{model_kept, shown_with, classes_with}
use Rattle.ng_control.specs.Shown.{is_checked}
use Rattle.ng_control.specs.State.{ControlState}
use Rattle.ng_language.specs.Operators.{truthy}

-- the text that a kept snapshot holds
abbrev pub kept_text : Option ViewTree → List ℕ
kept_text None = []
kept_text (Some (prim (value.Text t))) = t
kept_text (Some v) = []

-- whether a value counts as true, once one was kept
abbrev pub kept_truth : Option ViewTree → Option Bool
kept_truth s = option_map truthy s

abbrev pub is_kept_true : Option ViewTree → Bool
is_kept_true s = unwrap_or (kept_truth s) false

abbrev pub is_kept_false : Option ViewTree → Bool
is_kept_false s = unwrap_or (option_map not (kept_truth s)) false

-- the word that a part of a list of words is
abbrev pub word_of : ViewTree → List (List ℕ)
word_of (prim (value.Text t)) = t ∷ []
word_of v = []

abbrev pub words_of : ViewTrees → List (List ℕ)
words_of no_views = []
words_of (view_then v vs) = word_of v ++ words_of vs

-- the words that a kept snapshot holds
abbrev pub kept_words : Option ViewTree → List (List ℕ)
kept_words (Some (list vs)) = words_of vs
kept_words s = []

-- a text, words, and whether it counts as true, once there is a value
pub record Seen : Type 0 where
  pub text : List ℕ
  pub words : List (List ℕ)
  pub truth : Option Bool

abbrev pub is_seen_true : Seen → Bool
is_seen_true e = unwrap_or e.truth false

abbrev pub is_seen_false : Seen → Bool
is_seen_false e = unwrap_or (option_map not e.truth) false

abbrev pub unseen : Seen
unseen = record { text = []; words = []; truth = None }

abbrev pub seen_of : Option ViewTree → Seen
seen_of s = record { text = kept_text s; words = kept_words s; truth = kept_truth s }

abbrev pub control_seen : ControlState → Option ViewTree → Seen
control_seen c None = unseen
control_seen c (Some v) = record { text = shown_with c v (model_kept v); words = classes_with c v (model_kept v); truth = Some (is_checked v) }

-- of a site that may be that of a control
abbrev pub seen_by : Option ControlState → Option ViewTree → Seen
seen_by None s = seen_of s
seen_by (Some c) s = control_seen c s
