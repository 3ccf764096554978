-- Whether parts are drawn from such sites alone. A binding of a directive only reads the values of its sites.
use Rattle.std.specs.Prelude.{ℕ, ◌&&◌, Bool, true}
use Rattle.std.specs.List.{list_all}
use Rattle.ng_drawing.specs.Template.{Part, Contents, Parts, text_part, comment_part, element_part, anchor_part, children, bound, no_parts, part_then}
use Rattle.ng_drawing.specs.Numbering.{is_piece_drawn, are_drawn}

abbrev mutual
  pub part_shows : (ℕ → Bool) → Part → Bool
  part_shows test (text_part ps) = list_all (is_piece_drawn test) ps
  part_shows test (comment_part t) = true
  part_shows test (element_part e own acts ats p) = are_drawn test ats && contents_show test p
  part_shows test (anchor_part outlet own starts) = true

  pub contents_show : (ℕ → Bool) → Contents → Bool
  contents_show test (children ps) = parts_show test ps
  contents_show test (bound b) = test b

  pub parts_show : (ℕ → Bool) → Parts → Bool
  parts_show test no_parts = true
  parts_show test (part_then p ps) = part_shows test p && parts_show test ps
