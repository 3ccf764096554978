-- A document: a list of nodes, each an element, a text or a comment, and its text.
use Rattle.std.specs.Prelude.{ℕ, ◌==◌, List, [], ◌∷◌, ◌++◌, codes, if◌then◌else◌}
use Rattle.std.specs.List.{flat_map}
use Rattle.ng_base.specs.Codes.{line_feed, carriage_return, quotation_mark, ampersand, less_than_sign, greater_than_sign}
use Rattle.ng_markup.specs.Tables.{is_void}

-- names and values, in order of the names
abbrev pub Attributes : Type 0
Attributes = List (List ℕ × List ℕ)

mutual
  pub data Node : Type 0 where
    element : List ℕ → Attributes → Forest → Node
    text : List ℕ → Node
    comment : List ℕ → Node

  pub data Forest : Type 0 where
    no_nodes : Forest
    node : Node → Forest → Forest

-- one node more at the end
abbrev pub with_node : Forest → Node → Forest
with_node no_nodes m = node m no_nodes
with_node (node n f) m = node n (with_node f m)

-- the forest of a list of nodes
abbrev pub forest_from : List Node → Forest
forest_from [] = no_nodes
forest_from (n ∷ ns) = node n (forest_from ns)

-- a character of a text, as it is printed
abbrev pub text_char : ℕ → List ℕ
text_char c =
    if c == ampersand then codes "&amp;"
    else if c == less_than_sign then codes "&lt;"
    else if c == greater_than_sign then codes "&gt;"
    else if c == line_feed then codes "&#10;"
    else if c == carriage_return then codes "&#13;"
    else c ∷ []

-- a character of an attribute's value, as it is printed
abbrev pub value_char : ℕ → List ℕ
value_char c =
    if c == ampersand then codes "&amp;"
    else if c == quotation_mark then codes "&quot;"
    else if c == line_feed then codes "&#10;"
    else if c == carriage_return then codes "&#13;"
    else c ∷ []

abbrev pub print_attribute : List ℕ × List ℕ → List ℕ
print_attribute a = codes " " ++ a.0 ++ codes "=\"" ++ flat_map value_char a.1 ++ codes "\""

abbrev pub print_start : List ℕ → Attributes → List ℕ
print_start name attributes = codes "<" ++ name ++ flat_map print_attribute attributes ++ codes ">"

abbrev pub print_end : List ℕ → List ℕ
print_end name = codes "</" ++ name ++ codes ">"

-- the text of a forest, in characters; it has no line feed
abbrev mutual
  pub print_node : Node → List ℕ
  print_node (element name attributes kids) =
      if is_void name then print_start name attributes else print_start name attributes ++ print kids ++ print_end name
  print_node (text t) = flat_map text_char t
  print_node (comment t) = codes "<!--" ++ t ++ codes "-->"

  pub print : Forest → List ℕ
  print no_nodes = []
  print (node n ns) = print_node n ++ print ns
