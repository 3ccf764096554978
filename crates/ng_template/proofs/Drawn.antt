-- What an element's directives set is drawn from the element's own sites.
use Rattle.std.proofs.Common.{◌≡◌, ◌<◌, ◌≤◌, ◌+◌, ℕ, Bool, true, false, cond, List, [], ◌∷◌, ◌++◌, length, Option, None, Some, Result, Ok, Err, refl, ap, sym, subst, length-append, arith}
use Rattle.std.proofs.lemmas.Bool.{and_parts, and_from, ne_eqb, not_from_false}
use Rattle.std.specs.List.{list_all}
use Rattle.std.specs.Map.{lookup}
use Rattle.std.specs.Prelude.{◌&&◌, ◌==◌, not, option_map, codes}
use Rattle.std.specs.Str.{bytes_eq}
use Rattle.ng_base.specs.Meets.{◌>>=◌}
use Rattle.ng_base.proofs.Binds.{if_held}
use Rattle.ng_collect.specs.Cloak.{kept_attributes}
use Rattle.ng_collect.specs.declared.pick.Pick.{Pick}
use Rattle.ng_control.specs.declared.kind.ControlKind.{ControlKind}
use Rattle.ng_control.specs.declared.kind.ControlKind.TheVariants as controls
use Rattle.ng_drawing.specs.Template.{Control, Hiding, while_true, while_false, PartClass, PartAttributes, always, classes}
use Rattle.ng_drawing.specs.Template as template
use Rattle.ng_drawing.specs.declared.kind.SiteKind.{SiteKind}
use Rattle.ng_drawing.specs.declared.kind.SiteKind.TheVariants as kinds
use Rattle.ng_interp.specs.Parts.{Piece, hole, place_behind, bytes_before, expression_at}
use Rattle.ng_interp.specs.declared.pieces.InterpFault.{InterpFault}
use Rattle.ng_language.specs.OneTime.{one_time_of}
use Rattle.ng_language.specs.Trees.{Trees}
use Rattle.ng_markup.specs.Forest.{Attributes}
use Rattle.ng_elements.specs.Elements.{class_with, bare_with}
use Rattle.ng_directives.specs.Directives.{Head, name_on, text_on, whole, parts_for, kind_for, set_by, class_by, bound_by, switch_by, with_parts, with_model, changed_more, with_change, is_classed, class_setting, control_attribute, control_setting, with_states, attributes_of}
use Rattle.ng_directives.specs.Manners.{target_of}
use Rattle.ng_elements.specs.Plain.{plain_values}
use Rattle.ng_drawing.specs.Numbering.{is_within, is_apart, is_piece_drawn, is_hiding_drawn, is_class_drawn, is_value_drawn, are_drawn}
use Rattle.ng_directives.specs.Texts.{numbered, sites_in}
use Rattle.ng_elements.specs.Using.{Asked}
use Rattle.ng_directives.specs.Writing.{is_named_piece, not_named, named_only}
use Rattle.ng_directives.specs.declared.manners.Setting.{Setting}
use Rattle.ng_directives.specs.declared.manners.Setting.TheVariants.{Interpolates, Links, Switches, Binds, Classes, Shows, Hides, Chooses, Names}
use Rattle.ng_parts.proofs.More.{class_more, attributes_more}
use Rattle.ng_template.proofs.HoleNumbers.{numbered-drawn}
use Rattle.ng_parts.proofs.Within.{apart_from, is_not, within_parts, within_from, apart_parts, apart_whole, both_all}

abbrev pub is_bound_within : ℕ → ℕ → Option ℕ → Bool
is_bound_within n c None = true
is_bound_within n c (Some b) = is_within n c b

-- the site of a control
abbrev pub is_control_drawn : (ℕ → Bool) → Option Control → Bool
is_control_drawn test None = true
is_control_drawn test (Some c) = test c.site

-- an element whose own sites are those from n on
pub record Drawn (n : ℕ) (h : Head) : Type 0 where
  pub least : n ≤ length h.sites
  pub bound : is_bound_within n (length h.sites) h.bound ≡ true
  pub switch : is_bound_within n (length h.sites) h.switch ≡ true
  pub attributes : are_drawn (apart_from h.bound h.switch n (length h.sites)) h.attributes ≡ true
  pub class : is_class_drawn (apart_from h.bound h.switch n (length h.sites)) h.class ≡ true
  pub control : is_control_drawn (apart_from h.bound h.switch n (length h.sites)) h.acts.control ≡ true

pub one : {A : Type 0} (p : A → Bool) (x : A) → p x ≡ true → list_all p (x ∷ []) ≡ true
one p x e = and_from (p x) true e refl

-- a number that is none from a bound on is not the number there
not_above : (c k : ℕ) → k < c → is_not (Some c) k ≡ true
not_above c k u = not_from_false (k == c) (ne_eqb k c (λ same. omega (arith, same, u)))

-- and one from there on is none that is below
not_below : (n c : ℕ) (o : Option ℕ) (k : ℕ) → is_bound_within n c o ≡ true → c ≤ k → is_not o k ≡ true
not_below n c None k e l = refl
not_below n c (Some b) k e l = let h = within_parts n c b e in not_from_false (k == b) (ne_eqb k b (λ same. let u = h.1 in omega (arith, same, u, l)))

-- numbers below c are numbers below d
module _ (n c d : ℕ) (up : c ≤ d) where
  within_more : (k : ℕ) → is_within n c k ≡ true → is_within n d k ≡ true
  within_more k e = let h = within_parts n c k e in within_from n d k h.0 (omega arith)

  bound_more : (o : Option ℕ) → is_bound_within n c o ≡ true → is_bound_within n d o ≡ true
  bound_more None e = refl
  bound_more (Some b) e = within_more b e

  -- a number that is there is apart from those that come
  still_apart : (o w : Option ℕ) (k : ℕ) → apart_from o w n c k ≡ true → (p q : Option ℕ) → (is_not o k ≡ true → is_not p k ≡ true) → (is_not w k ≡ true → is_not q k ≡ true) → apart_from p q n d k ≡ true
  still_apart o w k e p q f g = let h = apart_parts n c o w k e in apart_whole n d p q k (within_more k h.0) (f h.1.0) (g h.1.1)

  old : (s : Setting) (o w : Option ℕ) (k : ℕ) → apart_from o w n c k ≡ true → apart_from (bound_by s c o) (switch_by s c w) n d k ≡ true
  old Interpolates o w k e = still_apart o w k e o w (λ x. x) (λ x. x)
  old Links o w k e = still_apart o w k e o w (λ x. x) (λ x. x)
  old Switches o w k e = still_apart o w k e o w (λ x. x) (λ x. x)
  old Binds o w k e = still_apart o w k e (Some c) w (λ x. not_above c k (within_parts n c k (apart_parts n c o w k e).0).1) (λ x. x)
  old Classes o w k e = still_apart o w k e o w (λ x. x) (λ x. x)
  old Shows o w k e = still_apart o w k e o w (λ x. x) (λ x. x)
  old Hides o w k e = still_apart o w k e o w (λ x. x) (λ x. x)
  old Names o w k e = still_apart o w k e o w (λ x. x) (λ x. x)
  old Chooses o w k e = still_apart o w k e o (Some c) (λ x. x) (λ x. not_above c k (within_parts n c k (apart_parts n c o w k e).0).1)

  -- and so is the site of a control that is there
  control_still : (s : Setting) (o w : Option ℕ) (x : Option Control) → is_control_drawn (apart_from o w n c) x ≡ true → is_control_drawn (apart_from (bound_by s c o) (switch_by s c w) n d) x ≡ true
  control_still s o w None e = refl
  control_still s o w (Some x) e = old s o w x.site e

  -- and a new one from those that were
  apart_new : (o w : Option ℕ) → n ≤ c → is_bound_within n c o ≡ true → is_bound_within n c w ≡ true → (k : ℕ) → c ≤ k → k < d → apart_from o w n d k ≡ true
  apart_new o w l e f k from below = apart_whole n d o w k (within_from n d k (omega arith) below) (not_below n c o k e from) (not_below n c w k f from)

-- more that is drawn of a class
module _ (p : ℕ → Bool) (c : PartClass) (e : is_class_drawn p c ≡ true) where
  class_pieces : list_all (is_piece_drawn p) c.pieces ≡ true
  class_pieces = (and_parts (list_all (is_piece_drawn p) c.pieces) (list_all p c.words && list_all (is_hiding_drawn p) c.hidings) e).0

  class_rest : (list_all p c.words && list_all (is_hiding_drawn p) c.hidings) ≡ true
  class_rest = (and_parts (list_all (is_piece_drawn p) c.pieces) (list_all p c.words && list_all (is_hiding_drawn p) c.hidings) e).1

  rest : (list_all p c.words ≡ true) × (list_all (is_hiding_drawn p) c.hidings ≡ true)
  rest = and_parts (list_all p c.words) (list_all (is_hiding_drawn p) c.hidings) class_rest

  with_pieces : (ps : List template.Piece) → list_all (is_piece_drawn p) ps ≡ true → is_class_drawn p (record c { pieces = ps }) ≡ true
  with_pieces ps h = and_from (list_all (is_piece_drawn p) ps) (list_all p c.words && list_all (is_hiding_drawn p) c.hidings) h class_rest

  with_word : (k : ℕ) → p k ≡ true → is_class_drawn p (record c { words = c.words ++ k ∷ [] }) ≡ true
  with_word k h =
      and_from (list_all (is_piece_drawn p) c.pieces) (list_all p (c.words ++ k ∷ []) && list_all (is_hiding_drawn p) c.hidings) class_pieces
      (and_from (list_all p (c.words ++ k ∷ [])) (list_all (is_hiding_drawn p) c.hidings) (both_all p c.words (k ∷ []) rest.0 (one p k h)) rest.1)

  with_hiding : (x : Hiding) → is_hiding_drawn p x ≡ true → is_class_drawn p (record c { hidings = c.hidings ++ x ∷ [] }) ≡ true
  with_hiding x h =
      and_from (list_all (is_piece_drawn p) c.pieces) (list_all p c.words && list_all (is_hiding_drawn p) (c.hidings ++ x ∷ [])) class_pieces
      (and_from (list_all p c.words) (list_all (is_hiding_drawn p) (c.hidings ++ x ∷ [])) rest.0 (both_all (is_hiding_drawn p) c.hidings (x ∷ []) rest.1 (one (is_hiding_drawn p) x h)))

-- a whole expression is one hole
one_hole : (kind : SiteKind) (once : Bool) (r : Result Trees InterpFault) (ps : List Piece) → (r >>= (λ b. Ok (hole once b)) >>= λ h. Ok (h ∷ [])) ≡ Ok ps → length (sites_in kind ps) ≡ 1
one_hole kind once (Ok b) ps e =
    let same : hole once b ∷ [] ≡ ps = (cc) in
    ap (λ (qs : List Piece). length (sites_in kind qs)) (sym same)
one_hole kind once (Err f) ps e = absurd (cc)

module _ (n c : ℕ) (o w : Option ℕ) (l : n ≤ c) (b : is_bound_within n c o ≡ true) (v : is_bound_within n c w ≡ true) (t : List ℕ) (ps : List Piece) where
  abbrev end : Setting → ℕ
  end s = c + length (sites_in (kind_for s) ps)

  abbrev test : Setting → ℕ → Bool
  test s = apart_from (bound_by s c o) (switch_by s c w) n (end s)

  new : (d k : ℕ) → c ≤ d → c ≤ k → k < d → apart_from o w n d k ≡ true
  new d k up from below = apart_new n c d up o w l b v k from below

  whole_one : (kind : SiteKind) → whole t ≡ Ok ps → length (sites_in kind ps) ≡ 1
  whole_one kind e = one_hole kind (one_time_of t).0 (expression_at (place_behind 0 (bytes_before (one_time_of t).0 t)) (one_time_of t).1) ps e

  first_new : (kind : SiteKind) → whole t ≡ Ok ps → apart_from o w n (c + length (sites_in kind ps)) c ≡ true
  first_new kind e = let h = whole_one kind e in new (c + length (sites_in kind ps)) c (omega arith) (omega arith) (omega arith)

  pieces_new : list_all (is_piece_drawn (apart_from o w n (c + length (sites_in kinds.Text ps)))) (numbered c ps) ≡ true
  pieces_new = numbered-drawn kinds.Text (apart_from o w n (c + length (sites_in kinds.Text ps))) c ps (λ k from below. new (c + length (sites_in kinds.Text ps)) k (omega arith) from below)

  set_drawn : (s : Setting) (own target : List ℕ) → parts_for s t ≡ Ok ps → are_drawn (test s) (set_by s own target c (numbered c ps)) ≡ true
  set_drawn Interpolates own target e = and_from _ true pieces_new refl
  set_drawn Links own target e = and_from _ _ pieces_new (and_from _ true pieces_new refl)
  set_drawn Switches own target e = and_from _ true (first_new kinds.Reference e) refl
  set_drawn Binds own target e = refl
  set_drawn Classes own target e = refl
  set_drawn Shows own target e = refl
  set_drawn Hides own target e = refl
  set_drawn Chooses own target e = refl
  set_drawn Names own target e = refl

  class_drawn : (s : Setting) (own : List ℕ) (cl : PartClass) → parts_for s t ≡ Ok ps → is_class_drawn (test s) cl ≡ true → is_class_drawn (test s) (class_by s own c (numbered c ps) cl) ≡ true
  class_drawn Interpolates own cl e h =
      if_held (bytes_eq own (codes "class")) (record cl { pieces = numbered c ps }) cl (λ x. is_class_drawn (test Interpolates) x ≡ true)
      (λ _. with_pieces (test Interpolates) cl h (numbered c ps) pieces_new) (λ _. h)
  class_drawn Links own cl e h = h
  class_drawn Switches own cl e h = h
  class_drawn Binds own cl e h = h
  class_drawn Classes own cl e h = with_word (test Classes) cl h c (first_new kinds.Words e)
  class_drawn Shows own cl e h = with_hiding (test Shows) cl h (while_false c) (first_new kinds.Reference e)
  class_drawn Hides own cl e h = with_hiding (test Hides) cl h (while_true c) (first_new kinds.Reference e)
  class_drawn Chooses own cl e h = h
  class_drawn Names own cl e h = h

  bound_drawn : (s : Setting) → parts_for s t ≡ Ok ps → is_bound_within n (end s) (bound_by s c o) ≡ true
  bound_drawn Interpolates e = bound_more n c (end Interpolates) (omega arith) o b
  bound_drawn Links e = bound_more n c (end Links) (omega arith) o b
  bound_drawn Switches e = bound_more n c (end Switches) (omega arith) o b
  bound_drawn Binds e = let h = whole_one kinds.Text e in within_from n (end Binds) c l (omega arith)
  bound_drawn Classes e = bound_more n c (end Classes) (omega arith) o b
  bound_drawn Shows e = bound_more n c (end Shows) (omega arith) o b
  bound_drawn Hides e = bound_more n c (end Hides) (omega arith) o b
  bound_drawn Chooses e = bound_more n c (end Chooses) (omega arith) o b
  bound_drawn Names e = bound_more n c (end Names) (omega arith) o b

  switch_drawn : (s : Setting) → parts_for s t ≡ Ok ps → is_bound_within n (end s) (switch_by s c w) ≡ true
  switch_drawn Interpolates e = bound_more n c (end Interpolates) (omega arith) w v
  switch_drawn Links e = bound_more n c (end Links) (omega arith) w v
  switch_drawn Switches e = bound_more n c (end Switches) (omega arith) w v
  switch_drawn Binds e = bound_more n c (end Binds) (omega arith) w v
  switch_drawn Classes e = bound_more n c (end Classes) (omega arith) w v
  switch_drawn Shows e = bound_more n c (end Shows) (omega arith) w v
  switch_drawn Hides e = bound_more n c (end Hides) (omega arith) w v
  switch_drawn Names e = bound_more n c (end Names) (omega arith) w v
  switch_drawn Chooses e = let h = whole_one kinds.Deep e in within_from n (end Chooses) c l (omega arith)

-- a directive more
module _ (p : Pick) (s : Setting) (ps : List Piece) (e : parts_for s (text_on p.attribute) ≡ Ok ps) (n : ℕ) (h : Head) (g : Drawn n h) where
  abbrev first : ℕ
  first = length h.sites

  abbrev last : ℕ
  last = first + length (sites_in (kind_for s) ps)

  abbrev now : ℕ → Bool
  now = apart_from (bound_by s first h.bound) (switch_by s first h.switch) n last

  size : length (h.sites ++ sites_in (kind_for s) ps) ≡ last
  size = length-append h.sites (sites_in (kind_for s) ps)

  kept : (k : ℕ) → apart_from h.bound h.switch n first k ≡ true → now k ≡ true
  kept k d = old n first last (omega arith) s h.bound h.switch k d

  attributes_now : are_drawn now (with_parts p s ps h).attributes ≡ true
  attributes_now =
      let set : PartAttributes = set_by s (name_on p.attribute) (target_of p.directive) first (numbered first ps) in
      both_all (λ a. is_value_drawn now a.1) h.attributes set (attributes_more (apart_from h.bound h.switch n first) now kept h.attributes g.attributes)
      (set_drawn n first h.bound h.switch g.least g.bound g.switch (text_on p.attribute) ps s (name_on p.attribute) (target_of p.directive) e)

  class_now : is_class_drawn now (with_parts p s ps h).class ≡ true
  class_now =
      class_drawn n first h.bound h.switch g.least g.bound g.switch (text_on p.attribute) ps s (name_on p.attribute) h.class e (class_more (apart_from h.bound h.switch n first) now kept h.class g.class)

  pub parts_drawn : Drawn n (with_parts p s ps h)
  parts_drawn = record {
    least = omega (arith, size, g.least);
    bound = subst (λ c. is_bound_within n c (bound_by s first h.bound) ≡ true) (sym size) (bound_drawn n first h.bound h.switch g.least g.bound g.switch (text_on p.attribute) ps s e);
    switch = subst (λ c. is_bound_within n c (switch_by s first h.switch) ≡ true) (sym size) (switch_drawn n first h.bound h.switch g.least g.bound g.switch (text_on p.attribute) ps s e);
    attributes = subst (λ c. are_drawn (apart_from (bound_by s first h.bound) (switch_by s first h.switch) n c) (with_parts p s ps h).attributes ≡ true) (sym size) attributes_now;
    class = subst (λ c. is_class_drawn (apart_from (bound_by s first h.bound) (switch_by s first h.switch) n c) (with_parts p s ps h).class ≡ true) (sym size) class_now;
    control = subst (λ c. is_control_drawn (apart_from (bound_by s first h.bound) (switch_by s first h.switch) n c) h.acts.control ≡ true) (sym size) (control_still n first last (omega arith) s h.bound h.switch h.acts.control g.control);
  }

-- the text of a model is a whole expression
abbrev read : List Piece → Result (List Piece) InterpFault
read ps = Ok ps

abbrev read_if : Bool → List Piece → Result (List Piece) InterpFault
read_if b ps = cond b (Ok ps) (Err not_named)

read_whole : (b : Bool) (qs ps : List Piece) → read_if b qs ≡ read ps → read qs ≡ read ps
read_whole true qs ps h = h
read_whole false qs ps h = absurd (cc)

named_whole : (r : Result (List Piece) InterpFault) (ps : List Piece) → (r >>= named_only) ≡ Ok ps → r ≡ Ok ps
named_whole (Err f) ps e = absurd (cc)
named_whole (Ok qs) ps e = read_whole (list_all is_named_piece qs) qs ps e

-- a model, whose site is the control's
module _ (p : Pick) (b : Trees) (ps : List Piece) (e : parts_for Names (text_on p.attribute) ≡ Ok ps) (n : ℕ) (h : Head) (g : Drawn n h) where
  abbrev modelled : Head
  modelled = with_model (length h.sites) b h

  its_site : apart_from h.bound h.switch n (length h.sites + length (sites_in kinds.Deep ps)) (length h.sites) ≡ true
  its_site = first_new n (length h.sites) h.bound h.switch g.least g.bound g.switch (text_on p.attribute) ps kinds.Deep (named_whole (whole (text_on p.attribute)) ps e)

  pub model_drawn : Drawn n (with_parts p Names ps modelled)
  model_drawn =
      let d : Drawn n (with_parts p Names ps h) = parts_drawn p Names ps e n h g in
      record {
        least = d.least;
        bound = d.bound;
        switch = d.switch;
        attributes = d.attributes;
        class = d.class;
        control = subst (λ c. apart_from h.bound h.switch n c (length h.sites) ≡ true) (sym (length-append h.sites (sites_in kinds.Deep ps))) its_site;
      }

-- a program that runs after a control's model was written
pub change_drawn : (b : Trees) (n : ℕ) (h : Head) → Drawn n h → Drawn n (with_change b h)
change_drawn b n h g = record { least = g.least; bound = g.bound; switch = g.switch; attributes = g.attributes; class = g.class; control = by_control h.acts.control g.control }
  where
    by_control : (c : Option Control) → is_control_drawn (apart_from h.bound h.switch n (length h.sites)) c ≡ true → is_control_drawn (apart_from h.bound h.switch n (length h.sites)) (option_map (changed_more b) c) ≡ true
    by_control None e = e
    by_control (Some c) e = e

-- no directive yet
pub plain_drawn : (test : ℕ → Bool) (ats : Attributes) → are_drawn test (plain_values ats) ≡ true
plain_drawn test [] = refl
plain_drawn test (a ∷ ats) = plain_drawn test ats

class_with_drawn : (test : ℕ → Bool) (o : Option (List ℕ)) → is_class_drawn test (class_with o) ≡ true
class_with_drawn test None = refl
class_with_drawn test (Some t) = refl

pub bare_drawn : (kind : ControlKind) (ats : Attributes) (a : Asked) → Drawn (length a.sites) (bare_with kind ats a)
bare_drawn kind ats a = record {
  least = omega arith;
  bound = refl;
  switch = refl;
  attributes = plain_drawn (apart_from None None (length a.sites) (length a.sites)) (kept_attributes ats);
  class = class_with_drawn (apart_from None None (length a.sites) (length a.sites)) (lookup (λ n. bytes_eq n (codes "class")) (kept_attributes ats));
  control = refl;
}

-- what a control sets
control_drawn : (test : ℕ → Bool) (c : Option Control) → is_control_drawn test c ≡ true → are_drawn test (control_setting c) ≡ true
control_drawn test None e = refl
control_drawn test (Some c) e = by_kind c.kind
  where
    text_value : are_drawn test ((codes "value", always (template.hole c.site ∷ [])) ∷ []) ≡ true
    text_value = and_from _ true (and_from (test c.site) true e refl) refl

    by_kind : (k : ControlKind) → are_drawn test (control_attribute k c.site) ≡ true
    by_kind (controls.Text trim) = text_value
    by_kind controls.Number = text_value
    by_kind controls.Checkbox = and_from (test c.site) true e refl

states_drawn : (test : ℕ → Bool) (c : Option Control) (p : PartClass) → is_control_drawn test c ≡ true → is_class_drawn test p ≡ true → is_class_drawn test (with_states c p) ≡ true
states_drawn test None p e h = h
states_drawn test (Some c) p e h = with_word test p h c.site e

-- all attributes, with what a control sets, and the class
pub all_drawn : (n : ℕ) (h : Head) → Drawn n h → are_drawn (apart_from h.bound h.switch n (length h.sites)) (attributes_of h) ≡ true
all_drawn n h g =
    let test : ℕ → Bool = apart_from h.bound h.switch n (length h.sites) in
    let class : PartClass = with_states h.acts.control h.class in
    let drawn : is_class_drawn test class ≡ true = states_drawn test h.acts.control h.class g.control g.class in
    let last : are_drawn test (class_setting class) ≡ true =
    if_held (is_classed class) ((codes "class", classes class) ∷ []) [] (λ ats. are_drawn test ats ≡ true) (λ _. and_from (is_class_drawn test class) true drawn refl) (λ _. refl) in
    both_all (λ a. is_value_drawn test a.1) h.attributes (control_setting h.acts.control ++ class_setting class) g.attributes
    (both_all (λ a. is_value_drawn test a.1) (control_setting h.acts.control) (class_setting class) (control_drawn test h.acts.control g.control) last)

-- so an element is numbered: its attributes are drawn from its own sites, but for that of its contents
pub any_alone : (o w : Option ℕ) (n c : ℕ) (ats : PartAttributes) → are_drawn (apart_from o w n c) ats ≡ true → are_drawn (is_within n c) ats ≡ true
any_alone o w n c ats e = attributes_more (apart_from o w n c) (is_within n c) (λ k f. (apart_parts n c o w k f).0) ats e

pub plain_alone : (n c : ℕ) (w : Option ℕ) (ats : PartAttributes) → are_drawn (apart_from None w n c) ats ≡ true → are_drawn (is_within n c) ats ≡ true
plain_alone n c w ats e = any_alone None w n c ats e

pub bound_alone : (b n c : ℕ) (w : Option ℕ) (ats : PartAttributes) → is_within n c b ≡ true → are_drawn (apart_from (Some b) w n c) ats ≡ true → (is_within n c b && are_drawn (is_apart b n c) ats) ≡ true
bound_alone b n c w ats e f =
    and_from (is_within n c b) (are_drawn (is_apart b n c) ats) e
    (attributes_more (apart_from (Some b) w n c) (is_apart b n c) (λ k g. let h = apart_parts n c (Some b) w k g in and_from (is_within n c k) (not (k == b)) h.0 h.1.0) ats f)
