use Rattle.std.proofs.Common.{◌≡◌, refl, List, ℕ, [], ap, sym, ◌∙◌}
use Rattle.std.specs.Prelude.{encode_utf8_all}
use Rattle.std.proofs.lemmas.Str.{chars-nil}
use Rattle.ng_base.specs.declared.value.Value.{Value}
use Rattle.ng_base.specs.declared.value.Value.TheVariants as value
use Rattle.ng_blocks.specs.Keys.{value_text}
use Rattle.ng_blocks.proofs.keys.value_text.Goals as goal

no_text : (v : Value) → ((t : List ℕ) → v ≡ value.Text t → ⊥) → value_text v ≡ []
no_text (value.Text t) n = absurd (n t refl)
no_text value.Undefined n = refl
no_text value.Null n = refl
no_text (value.Bool b) n = refl
no_text (value.Int i) n = refl
no_text value.Nan n = refl
no_text (value.Obj o) n = refl
no_text (value.Fun f) n = refl

pub returns-in_default : goal.returns-in_default
returns-in_default c =
    let none = no_text c.args.value.now c.in_default.not-Text in
    record { bytes = ap encode_utf8_all (sym none); chars = chars-nil ∙ sym none }
