-- What a command is aimed at, in the document with names.
use Rattle.std.proofs.Common.{◌≡◌, ℕ, Bool, true, false, cond, ap, sym, ◌∙◌}
use Rattle.std.specs.Prelude.{Option, None, Some, option_map}
use Rattle.ng_base.specs.declared.name.NodeId.{NodeId}
use Rattle.ng_base.specs.declared.path.Target.{Target}
use Rattle.ng_base.specs.declared.path.Target.TheVariants as target
use Rattle.ng_control.specs.State.{ControlState}
use Rattle.ng_control.specs.Typed.{TakesText, IsCheckbox}
use Rattle.ng_control.specs.declared.kind.ControlKind.{ControlKind}
use Rattle.ng_control.specs.declared.kind.ControlKind.TheVariants as kinds
use Rattle.ng_dom.specs.Nodes.{NamedNode, NamedForest, named_text, named_comment, named_element, named_anchor, name_of}
use Rattle.ng_dom.specs.Paths.{StandsIn}
use Rattle.ng_dom.specs.Printed.{at_place}
use Rattle.ng_dom.proofs.Stands.{places_stand, found_stand}
use Rattle.ng_build.specs.Controls.{IsOfKind, kind_in}
use Rattle.ng_link.specs.Events.{named, scope_of}
use Rattle.ng_link.proofs.Displayed.{page_names}
use Rattle.ng_page.specs.PageOf.{state_of, Names}
use Rattle.ng_page.specs.Targets.{element_name, target_in}
use Rattle.ng_page.specs.declared.page.Page.{Page}
use Rattle.ng_script.specs.declared.commands.ScopeOf.TheVariants as scope
use Rattle.ng_performing.specs.Aims.{takes_text, is_checkbox, is_of_kind, if_control, control_in, scope_in}
use Rattle.ng_page.specs.Ready.{IsReady}

element_is : (o : Option NamedNode) (n : ℕ) → element_name o ≡ Some n → option_map name_of o ≡ Some n
element_is None n e = cc
element_is (Some (named_text m t)) n e = cc
element_is (Some (named_comment m t)) n e = cc
element_is (Some (named_element m x ats f)) n e = e
element_is (Some (named_anchor m gs)) n e = cc

-- a control whose kind takes texts, and one that is checked
taken_by : (k : ControlKind) → takes_text k ≡ true → TakesText k
taken_by (kinds.Text trim) e = tt
taken_by kinds.Number e = tt
taken_by kinds.Checkbox e = absurd (cc)

checked_by : (k : ControlKind) → is_checkbox k ≡ true → IsCheckbox k
checked_by (kinds.Text trim) e = absurd (cc)
checked_by kinds.Number e = absurd (cc)
checked_by kinds.Checkbox e = tt

pub text_kind : (c : Option ControlState) (k : ControlKind) → Some k ≡ kind_in c → takes_text k ≡ true → IsOfKind TakesText c
text_kind None k is e = absurd (cc)
text_kind (Some c) k is e = let same : k ≡ c.kind = cc in taken_by c.kind (ap takes_text (sym same) ∙ e)

pub checkbox_kind : (c : Option ControlState) (k : ControlKind) → Some k ≡ kind_in c → is_checkbox k ≡ true → IsOfKind IsCheckbox c
checkbox_kind None k is e = absurd (cc)
checkbox_kind (Some c) k is e = let same : k ≡ c.kind = cc in checked_by c.kind (ap is_checkbox (sym same) ∙ e)

-- whether it is one of those
abbrev when : Bool → ℕ → Option ℕ
when b n = cond b (Some n) None

pub of_kind : (takes : ControlKind → Bool) (n : ℕ) (k : ControlKind) (o : Option ControlKind) → Some k ≡ o → takes k ≡ true → Some n ≡ when (is_of_kind takes o) n
of_kind takes n k o is e = ap (λ (b : Bool). when b n) (sym e) ∙ ap (λ (x : Option ControlKind). when (is_of_kind takes x) n) is

pub of_no_kind : (takes : ControlKind → Bool) (n : ℕ) (o : Option ControlKind) → is_of_kind takes o ≡ false → None ≡ when (is_of_kind takes o) n
of_no_kind takes n o e = ap (λ (b : Bool). when b n) (sym e)

-- a target is a node that stands
aim_stands : (t : Target) (f : NamedForest) (n : ℕ) → target_in t f ≡ Some n → StandsIn n f
aim_stands (target.Id id) f n e = found_stand id f n e
aim_stands (target.Path p) f n e = places_stand p f n (element_is (at_place p f) n e)

module _ (p : Page) (ready : IsReady p) (t : Target) where
  abbrev IsFound : Option NodeId → Type 0
  IsFound o = (f : NamedForest) → Names p f → option_map (λ (n : NodeId). n.made.0) o ≡ target_in t f

  abbrev document : NamedForest
  document = named (state_of p)

  -- the document of a page has the names that its state says
  has_names : Names p document
  has_names = let standing = (ready.page ready.unspent).works.whole.standing in page_names p.engine.works standing.0 standing.1

  pub fired_found : (n : NodeId) → IsFound (Some n) → target_in t document ≡ Some n.made.0
  fired_found n h = sym (h document has_names)

  pub fired_stands : (n : NodeId) → IsFound (Some n) → StandsIn n.made.0 document
  fired_stands n h = aim_stands t document n.made.0 (fired_found n h)

  -- the control of some kinds at a target, and there is none where no element stands
  pub control_nowhere : (takes : ControlKind → Bool) → IsFound None → None ≡ control_in takes t (state_of p)
  control_nowhere takes h = ap (if_control takes (state_of p)) (h document has_names)

  pub control_found : (takes : ControlKind → Bool) (n : NodeId) → IsFound (Some n) → if_control takes (state_of p) (Some n.made.0) ≡ control_in takes t (state_of p)
  control_found takes n h = ap (if_control takes (state_of p)) (h document has_names)

  -- the scope of an element is that of the instance to which its node belongs, and there is none where no element stands
  pub scope_nowhere : IsFound None → None ≡ scope_in (scope.Node t) (state_of p)
  scope_nowhere h = ap (option_map (scope_of (state_of p))) (h document has_names)

  pub scope_found : (n : NodeId) → IsFound (Some n) → Some (scope_of (state_of p) n.made.0) ≡ scope_in (scope.Node t) (state_of p)
  scope_found n h = ap (option_map (scope_of (state_of p))) (h document has_names)
