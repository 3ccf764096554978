-- What is printed piece by piece is printed.
use Rattle.std.proofs.Common.{◌≡◌, ℕ, List, [], ◌∷◌, ◌++◌, map, refl, ap, append_assoc, append-nil}
use Rattle.std.proofs.lemmas.Str.{encodes-append, encodes-chars}
use Rattle.std.specs.Prelude.{encode_utf8_all, false}
use Rattle.std.proofs.Common.{sym, ◌∙◌}
use Rattle.ng_base.proofs.Ascii.{chars-word}
use Rattle.ng_base.proofs.Binds.{if_false}
use Rattle.ng_markup.specs.Tables.{is_void}
use Rattle.ng_markup.specs.Forest.{Attributes, Forest, element, print, print_node, print_start, print_end}
use Rattle.ng_html.proofs.Forests.{forest_of-items}

pub ruleset word_steps = (chars-word)

pub ruleset print_steps = (encodes-append, encodes-chars, append_assoc, append-nil, forest_of-items)

-- an element that is printed in three pieces
pub printed_element : (name : List ℕ) (a : Attributes) (kids : Forest) (bs ds es fs : List ℕ) → is_void name ≡ false → ds ≡ bs ++ encode_utf8_all (print_start name a) → es ≡ ds ++ encode_utf8_all (print kids) →
    fs ≡ es ++ encode_utf8_all (print_end name) → fs ≡ bs ++ encode_utf8_all (print_node (element name a kids))
printed_element name a kids bs ds es fs v h i j =
    j ∙ (ap (λ xs. xs ++ encode_utf8_all (print_end name)) (i ∙ ap (λ xs. xs ++ encode_utf8_all (print kids)) h)
    ∙ (append_assoc (bs ++ encode_utf8_all (print_start name a)) (encode_utf8_all (print kids)) (encode_utf8_all (print_end name))
    ∙ (append_assoc bs (encode_utf8_all (print_start name a)) (encode_utf8_all (print kids) ++ encode_utf8_all (print_end name))
    ∙ ap (λ xs. bs ++ xs) (sym (ap encode_utf8_all (if_false (is_void name) (print_start name a) (print_start name a ++ print kids ++ print_end name) v)
    ∙ (ap encode_utf8_all (append_assoc (print_start name a) (print kids) (print_end name))
    ∙ (encodes-append (print_start name a) (print kids ++ print_end name)
    ∙ ap (λ xs. encode_utf8_all (print_start name a) ++ xs) (encodes-append (print kids) (print_end name)))))))))
