-- What the parts of the code stand for.
use Rattle.std.specs.Prelude.{map}
use Rattle.ng_drawing.specs.Template.{Part, Contents, Parts, text_part, comment_part, element_part, anchor_part, children, bound, parts_from}
use Rattle.ng_parse.specs.ProgramOf.{program}
unfoldable pub use Rattle.ng_parts.specs.ActsOf.{handler_of, control_of, acts_of}
use Rattle.ng_parts.specs.declared.parts.Part as code_part
use Rattle.ng_parts.specs.declared.parts.Contents as code_contents
use Rattle.ng_parts.specs.declared.parts.Parts as code_parts
use Rattle.ng_parts.specs.declared.parts.Part.{fold-Part}
use Rattle.ng_parts.specs.declared.parts.Contents.{fold-Contents}
use Rattle.ng_parts.specs.declared.parts.Parts.{fold-Parts}
use Rattle.ng_parts.specs.declared.parts.Contents.TheOpen.{Contents-F, Part-F, Parts-F}

-- one level, with the parts inside seen already
abbrev pub part_step : Part-F Contents Part Parts → Part
part_step (Part-F.Text pieces) = text_part pieces
part_step (Part-F.Comment t) = comment_part t
part_step (Part-F.Element name own acts attributes contents) = element_part name own.items (acts_of acts) attributes contents
part_step (Part-F.Anchor outlet own starts) = anchor_part outlet own.items (map program starts.items)

abbrev pub contents_step : Contents-F Contents Part Parts → Contents
contents_step (Contents-F.Children ps) = children ps
contents_step (Contents-F.Bound n) = bound n

abbrev pub parts_step : Parts-F Contents Part Parts → Parts
parts_step v = parts_from v.items.items

abbrev pub part_of : code_part.Part → Part
part_of = fold-Part Contents Part Parts contents_step part_step parts_step

abbrev pub contents_of : code_contents.Contents → Contents
contents_of = fold-Contents Contents Part Parts contents_step part_step parts_step

abbrev pub parts_of : code_parts.Parts → Parts
parts_of = fold-Parts Contents Part Parts contents_step part_step parts_step
