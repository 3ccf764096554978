-- What the code's types stand for.
use Rattle.ng_markup.specs.Forest.{Node, Forest, element, text, comment, forest_from}
use Rattle.ng_html.specs.declared.forest.Node.{fold-Node}
use Rattle.ng_html.specs.declared.forest.Forest.{fold-Forest}
use Rattle.ng_html.specs.declared.forest.Node as code_node
use Rattle.ng_html.specs.declared.forest.Forest as code_forest
use Rattle.ng_html.specs.declared.forest.Node.TheOpen.{Node-F, Forest-F}

abbrev pub node_step : Node-F Node Forest → Node
node_step (Node-F.Element n a f) = element n a f
node_step (Node-F.Text t) = text t
node_step (Node-F.Comment t) = comment t

abbrev pub forest_step : Forest-F Node Forest → Forest
forest_step v = forest_from v.items.items

abbrev pub node_of : code_node.Node → Node
node_of = fold-Node Node Forest node_step forest_step

abbrev pub forest_of : code_forest.Forest → Forest
forest_of = fold-Forest Node Forest node_step forest_step
