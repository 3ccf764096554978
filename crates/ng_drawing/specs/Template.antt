-- A compiled template: a tree of parts whose texts and attributes are cut at their holes, and its sites, the expressions
-- that are watched, numbered in document order (guide: HTML Compiler).
use Rattle.std.specs.Prelude.{ℕ, Bool, false, List, [], ◌∷◌, Option, None, slice_get}
use Rattle.ng_control.specs.declared.kind.ControlKind.{ControlKind}
use Rattle.ng_language.specs.Trees.{Trees}
use Rattle.ng_drawing.specs.declared.kind.SiteKind.{SiteKind}
use Rattle.ng_drawing.specs.declared.origin.Home.{Home}

-- plain words of a text, or the hole of a site
pub data Piece : Type 0 where
  word : List ℕ → Piece
  hole : ℕ → Piece

-- an element is hidden while the value of a site is true, or while it is not
pub data Hiding : Type 0 where
  while_true : ℕ → Hiding
  while_false : ℕ → Hiding

-- What a class is made of: whether the template has one, the text that is written there, the sites whose words it gets, and the
-- sites that hide the element (API: ngClass, ngShow, ngHide).
pub record PartClass : Type 0 where
  pub written : Bool
  pub pieces : List Piece
  pub words : List ℕ
  pub hidings : List Hiding

-- What an attribute gets: the text of pieces; that text, where it is not empty; a word, where the value of a site is true; or the
-- words of a class.
pub data PartValue : Type 0 where
  always : List Piece → PartValue
  unless_empty : List Piece → PartValue
  flag : List ℕ → ℕ → PartValue
  classes : PartClass → PartValue

-- Attributes in the order in which they are set: what the document has, and then what each directive sets. Of two values of one
-- name the later one stands.
abbrev pub PartAttributes : Type 0
PartAttributes = List (List ℕ × PartValue)

-- A control: its kind, the number of the site that watches its model, the program that writes what was put in to the model, and those that
-- run after that (API: ngModel, ngChange).
pub record Control : Type 0 where
  pub kind : ControlKind
  pub site : ℕ
  pub writes : Trees
  pub changes : List Trees

-- Where a property of an isolate scope comes from (API: `$compile`, `scope`): the text of an attribute, or nothing where that is missing; the
-- value of a site; the value of a site, and back to it by a program, where it can be written to; or a function that runs a program.
pub data Source : Type 0 where
  of_text : List Piece → Source
  of_nothing : Source
  one_way : ℕ → Source
  two_way : ℕ → Option Trees → Source
  of_call : Trees → Source

-- a property of an isolate scope by its name
pub record Binding : Type 0 where
  pub name : List ℕ
  pub source : Source

-- The directives of the application that an element has, by their numbers (guide: Directives, "Creating Directives"): whether one asks for a child
-- scope; the one that has an isolate scope, with the bindings of that; the template that stands in place of the children, whether it stands on the
-- isolate scope, and whether it may have the children in it; and the body that these are then.
pub record Uses : Type 0 where
  pub directives : List ℕ
  pub child : Bool
  pub isolate : Option ℕ
  pub bindings : List Binding
  pub template : Option ℕ
  pub apart : Bool
  pub passes : Bool
  pub content : Option ℕ

-- The scope outside a directive's element: one of the instance's, by its number, or one that the instance was given.
pub data Outside : Type 0 where
  inside : ℕ → Outside
  handed : ℕ → Outside

-- The scopes of an element by their numbers in its instance: the one round it, its own, and the isolate one of its directive. An element that is
-- a slot has children on a scope of their own, which inherits from the one outside; and where a directive is inside too many others nothing is made.
pub record Scopes : Type 0 where
  pub outer : ℕ
  pub own : ℕ
  pub isolate : ℕ
  pub slot : Option Outside
  pub deep : Bool

-- all on the instance's own scope
abbrev pub one_scope : Scopes
one_scope = record { outer = 0; own = 0; isolate = 0; slot = None; deep = false }

-- What an element does: programs that run when it is linked; programs that handle events of the document, each with the name
-- of its event (API: ngInit, ngClick); the control that it is; the directives of the application that it has, if it has some; whether it is a slot
-- for the children that a directive transcludes (API: ngTransclude); and its scopes.
pub record Acts : Type 0 where
  pub starts : List Trees
  pub handlers : List (List ℕ × Trees)
  pub control : Option Control
  pub uses : Option Uses
  pub slot : Bool
  pub scopes : Scopes

-- an element without directives that do anything
abbrev pub no_acts : Acts
no_acts = record { starts = []; handlers = []; control = None; uses = None; slot = false; scopes = one_scope }

-- An element has its name, the numbers of its own sites in the order of its directives, what it does, its attributes and its
-- contents: its children, or the text that one of its sites shows (API: ngBind). An anchor stands where a block was: it has the number
-- of its outlet, which bodies fill, the numbers of its own sites, and programs that run when it is linked.
mutual
  pub data Part : Type 0 where
    text_part : List Piece → Part
    comment_part : List ℕ → Part
    element_part : (name : List ℕ) → (own : List ℕ) → Acts → PartAttributes → Contents → Part
    anchor_part : (outlet : ℕ) → (own : List ℕ) → (starts : List Trees) → Part

  pub data Contents : Type 0 where
    children : Parts → Contents
    bound : ℕ → Contents

  pub data Parts : Type 0 where
    no_parts : Parts
    part_then : Part → Parts → Parts

abbrev pub parts_from : List Part → Parts
parts_from [] = no_parts
parts_from (p ∷ ps) = part_then p (parts_from ps)

-- one part more at the end
abbrev pub with_part : Parts → Part → Parts
with_part no_parts q = part_then q no_parts
with_part (part_then p ps) q = part_then p (with_part ps q)

-- what is watched: what a watcher keeps of the value, whether it ends once it has one, and the program
pub record Site : Type 0 where
  pub kind : SiteKind
  pub one_time : Bool
  pub program : Trees

-- What a repeat says beside its collection: the name of an item, that of its key, where it has one, and what its rows are tracked by
-- (API: ngRepeat).
pub record Repeated : Type 0 where
  pub key : Option (List ℕ)
  pub name : List ℕ
  pub track : Option Trees

-- How an outlet is filled: the body of this number stands while the value of its site is true (API: ngIf); or it is a case of a switch, with
-- its text, or a default (API: ngSwitch); or there is one of it for each entry of a collection (API: ngRepeat); or it stands while the value is
-- true, with the template in it that the value names (API: ngInclude).
pub data Filling : Type 0 where
  body_if : (body : ℕ) → Filling
  on_case : (text : Option (List ℕ)) → (body : ℕ) → Filling
  for_each : Repeated → (body : ℕ) → Filling
  by_name : (body : ℕ) → Filling

-- an outlet is filled by the value of a site
pub record Outlet : Type 0 where
  pub site : ℕ
  pub filling : Filling

-- the scopes of a site by their numbers in its instance: the one that its key stands on, and the one that its expression is evaluated on
pub record SiteScopes : Type 0 where
  pub under : ℕ
  pub over : ℕ

-- of an outlet: where its bodies come from, the scope round them, and the scopes outside the directives whose children may be in them
pub record OutletScope : Type 0 where
  pub home : Home
  pub scope : ℕ
  pub outsides : List Outside

-- A part of a template that is linked as a whole: its sites and outlets are numbered in document order. Where directives of the application
-- have scopes of their own in it, it is said for each site and each outlet which; else all is on the one scope of the instance.
pub record Fragment : Type 0 where
  pub parts : Parts
  pub sites : List Site
  pub outlets : List Outlet
  pub marks : List SiteScopes
  pub spots : List OutletScope

-- A template: its own fragment, and those of its blocks' bodies, each after those in it
pub record Template : Type 0 where
  pub own : Fragment
  pub bodies : List Fragment

abbrev pub no_fragment : Fragment
no_fragment = record { parts = no_parts; sites = []; outlets = []; marks = []; spots = [] }

-- the fragment of a number: 0 is the template's own, and its bodies follow
abbrev pub fragment_at : Template → ℕ → Option Fragment
fragment_at t n = slice_get (t.own ∷ t.bodies) n
