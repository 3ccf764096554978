use Rattle.std.proofs.Common.{true, false}
use Rattle.ng_dom.specs.Document.{rooms}
use Rattle.ng_page.proofs.Aimed.{element_there}
use Rattle.ng_page.proofs.page.element_at.Goals as goal

pub returns-then-is_element-clause-found : goal.returns-then-is_element-clause-found
returns-then-is_element-clause-found c = λ f shows. element_there (rooms c.args.dom.now) c.args.path.now f c.in-Some.n.made.0 true shows.1 (c.in-Some.ensures.found f shows) c.if-is_element.ensures

pub returns-else-is_element-clause-found : goal.returns-else-is_element-clause-found
returns-else-is_element-clause-found c = λ f shows. element_there (rooms c.args.dom.now) c.args.path.now f c.in-Some.n.made.0 false shows.1 (c.in-Some.ensures.found f shows) c.if-is_element.ensures
