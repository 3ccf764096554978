-- Which events are no start tags.
use Rattle.std.proofs.Common.{◌≡◌, ℕ, Bool, true, false, List, [], ◌∷◌, subst}
use Rattle.std.specs.Prelude.{Option, None, Some, Result, Ok, Err, if◌then◌else◌, ◌==◌, codes}
use Rattle.ng_base.specs.Cells.{Cell}
use Rattle.ng_markup.specs.Tables.{is_left_out}
use Rattle.ng_tags.specs.Free.{fault}
use Rattle.std.specs.Char.{is_ascii_alphabetic}
use Rattle.ng_tags.specs.Letters.{lower}
use Rattle.ng_tags.specs.Skips.{past_spaces, past_word, name_run}
use Rattle.ng_tags.specs.Tags.{end_tag_end, end_tag_named, end_tag}
use Rattle.ng_tags.specs.Lexing.{comment_run, comment_with, comment, text_or}
use Rattle.ng_tags.specs.declared.event.Event.{Event}
use Rattle.ng_tags.specs.declared.event.Event.TheVariants as event
use Rattle.ng_tags.specs.declared.event.Tag.{Tag}
use Rattle.ng_tags.specs.declared.fault.HtmlFault.{HtmlFault}
use Rattle.ng_tags.specs.declared.fault.HtmlKind.TheVariants as kind

abbrev Answer : Type 0
Answer = Result (Event × List Cell) HtmlFault

abbrev pub IsNoStart : Event → Type 0
IsNoStart (event.Start t) = ⊥
IsNoStart (event.Raw t text p) = Unit {0}
IsNoStart (event.End n p) = Unit {0}
IsNoStart (event.Text t p) = Unit {0}
IsNoStart (event.Comment t p) = Unit {0}

abbrev pub GivesNoStart : Result (Event × List Cell) HtmlFault → Type 0
GivesNoStart (Ok r) = IsNoStart r.0
GivesNoStart (Err f) = Unit {0}

either : (b : Bool) (x y : Answer) → GivesNoStart x → GivesNoStart y → GivesNoStart (if b then x else y)
either true x y h i = h
either false x y h i = i

end_end : (total p : ℕ) (n : List ℕ) (cs : List Cell) → GivesNoStart (end_tag_end total p n cs)
end_end total p n [] = tt
end_end total p n (c ∷ cs) = either (c.0 == 62) (Ok (event.End n p, cs)) (Err (fault kind.BadTag p)) tt tt

end_named : (total p : ℕ) (r : List ℕ × List Cell) → GivesNoStart (end_tag_named total p r)
end_named total p r = either (is_left_out r.0) (Err (fault kind.BadTag p)) (end_tag_end total p r.0 (past_spaces r.1)) tt (end_end total p r.0 (past_spaces r.1))

pub end_no_start : (total p : ℕ) (cs : List Cell) → GivesNoStart (end_tag total p cs)
end_no_start total p [] = tt
end_no_start total p (c ∷ cs) =
    let r = name_run (lower c.0 ∷ []) cs in
    either (is_ascii_alphabetic c.0) (end_tag_named total p r) (Err (fault kind.BadTag p)) (end_named total p r) tt

with_no_start : (total p : ℕ) (t : List ℕ) (o : Option (List Cell)) → GivesNoStart (comment_with total p t o)
with_no_start total p t None = tt
with_no_start total p t (Some rest) = tt

pub comment_no_start : (total p : ℕ) (o : Option (List Cell)) → GivesNoStart (comment total p o)
comment_no_start total p None = tt
comment_no_start total p (Some cs) = let r = comment_run [] cs in with_no_start total p r.0 (past_word (codes "-->") r.1)

pub text_no_start : (p : ℕ) (t : List ℕ) (f : Option HtmlFault) (rest : List Cell) → GivesNoStart (text_or p t f rest)
text_no_start p t None rest = tt
text_no_start p t (Some f) rest = tt

pub no_start : (x : Result (Event × List Cell) HtmlFault) (t : Tag) (rest : List Cell) → GivesNoStart x → x ≡ Ok (event.Start t, rest) → ⊥
no_start x t rest g h = subst GivesNoStart h g
