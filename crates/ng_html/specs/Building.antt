-- The tree of the events so far.
use Rattle.std.specs.Prelude.{Bool, false, not, ◌&&◌, ℕ, nat_lt, List, [], ◌∷◌, length, Option, None, Some, Result, Ok, Err, if◌then◌else◌}
use Rattle.std.specs.Str.{bytes_eq}
use Rattle.ng_base.specs.Meets.{◌>>=◌}
use Rattle.ng_markup.specs.Tables.{is_void, is_omittable}
use Rattle.ng_markup.specs.Forest.{Node, Forest, Attributes, element, text, comment, no_nodes, node, with_node}
use Rattle.ng_tags.specs.Free.{fault}
use Rattle.ng_tags.specs.declared.event.Event.{Event}
use Rattle.ng_tags.specs.declared.event.Event.TheVariants as event
use Rattle.ng_tags.specs.declared.event.Tag.{Tag}
use Rattle.ng_tags.specs.declared.fault.HtmlFault.{HtmlFault}
use Rattle.ng_tags.specs.declared.fault.HtmlKind.TheVariants as kind
use Rattle.ng_html.specs.Closing.{is_closing}

-- the most elements that may be open
abbrev pub open_limit : ℕ
open_limit = 200

-- an open element, and its elder siblings
pub record Around : Type 0 where
  pub name : List ℕ
  pub attributes : Attributes
  pub before : Forest

-- the open elements, the innermost first, and what stands in it so far
pub record State : Type 0 where
  pub stack : List Around
  pub done : Forest

abbrev pub empty : State
empty = record { stack = []; done = no_nodes }

-- the element that ends, behind its elder siblings
abbrev pub ended : Around → Forest → Forest
ended o kids = with_node o.before (element o.name o.attributes kids)

-- a start tag of this name closes the innermost element
abbrev pub top_closed : List ℕ → List Around → Bool
top_closed n [] = false
top_closed n (o ∷ os) = is_closing n o.name

-- what a start tag of this name closes is closed
abbrev pub shut_by : List ℕ → List Around → Forest → State
shut_by n [] done = record { stack = []; done = done }
shut_by n (o ∷ os) done = if is_closing n o.name then shut_by n os (ended o done) else record { stack = o ∷ os; done = done }

-- what is wrong inside of a tag
abbrev pub unharmed : Option HtmlFault → Result (Unit {0}) HtmlFault
unharmed None = Ok tt
unharmed (Some f) = Err f

-- a start tag where so many elements are open, which may end in `/>` or not: at its `<` too many are the first refusal,
-- then comes an end of its own that may not be, and only then what is wrong inside
abbrev pub admitted : ℕ → Tag → Bool → Result (Unit {0}) HtmlFault
admitted k t may_close =
    if nat_lt k open_limit then (if t.closed && not may_close then Err (fault kind.SelfClosed t.place) else unharmed t.fault)
    else Err (fault kind.TooDeep t.place)

abbrev pub with_leaf : State → Node → State
with_leaf s n = record { stack = s.stack; done = with_node s.done n }

-- an element opens, or stands as it is where it is void
abbrev pub opened : State → Tag → State
opened s t =
    if is_void t.name then with_leaf s (element t.name t.attrs no_nodes)
    else record { stack = record { name = t.name; attributes = t.attrs; before = s.done } ∷ s.stack; done = no_nodes }

-- a text is a node where it has characters
abbrev pub content : List ℕ → Forest
content [] = no_nodes
content (c ∷ cs) = node (text (c ∷ cs)) no_nodes

abbrev pub entered : State → Tag → Result State HtmlFault
entered s t = admitted (length s.stack) t (is_void t.name) >>= λ u. Ok (opened s t)

abbrev pub entered_raw : State → Tag → List ℕ → Result State HtmlFault
entered_raw s t x = admitted (length s.stack) t false >>= λ u. Ok (with_leaf s (element t.name t.attrs (content x)))

-- an end tag: elements whose own may be left out are closed until its element is the innermost
abbrev pub close : List Around → Forest → List ℕ → ℕ → Result State HtmlFault
close [] done n p = Err (fault kind.Unmatched p)
close (o ∷ os) done n p =
    if bytes_eq o.name n then Ok (record { stack = os; done = ended o done })
    else if is_omittable o.name then close os (ended o done) n p
    else Err (fault kind.Unmatched p)

-- an event more
abbrev pub take_event : State → Event → Result State HtmlFault
take_event s (event.Start t) = entered (shut_by t.name s.stack s.done) t
take_event s (event.Raw t x q) = entered_raw (shut_by t.name s.stack s.done) t x
take_event s (event.End n p) = close s.stack s.done n p
take_event s (event.Text t p) = Ok (with_leaf s (text t))
take_event s (event.Comment t p) = Ok (with_leaf s (comment t))

-- the end of the input: elements whose end tags may be left out are closed
abbrev pub finish_of : ℕ → List Around → Forest → Result Forest HtmlFault
finish_of total [] done = Ok done
finish_of total (o ∷ os) done = if is_omittable o.name then finish_of total os (ended o done) else Err (fault kind.Unclosed total)

abbrev pub finished : ℕ → State → Result Forest HtmlFault
finished total s = finish_of total s.stack s.done
