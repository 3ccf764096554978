-- The blocks round an element, stage by stage.
use Rattle.std.proofs.Common.{◌≡◌, ◌<◌, ◌+◌, ℕ, suc, ℤ, Bool, true, false, cond, List, [], ◌∷◌, ◌++◌, map, drop, get_or, length, Option, None, Some, Result, Ok, Err, refl, ap, sym, ◌∙◌, append_assoc, append-nil}
use Rattle.std.proofs.lemmas.List.{at_drop_more}
use Rattle.std.proofs.lemmas.List.Folds.{list_any-append}
use Rattle.std.specs.List.{list_any}
use Rattle.std.specs.Prelude.{◌||◌, is_none, unwrap_or, IsErrAnd}
use Rattle.ng_base.specs.Meets.{◌>>=◌, Gives}
use Rattle.ng_collect.specs.Collected.{collected}
use Rattle.ng_collect.specs.declared.definition.DirectiveDef.{DirectiveDef}
use Rattle.ng_collect.specs.declared.pick.Pick.{Pick}
use Rattle.ng_drawing.specs.Cases.{Case}
use Rattle.ng_drawing.specs.Template.{Site, Repeated, Part}
use Rattle.ng_interp.specs.Parts.{Piece}
use Rattle.ng_interp.specs.declared.pieces.InterpFault.{InterpFault}
use Rattle.ng_language.specs.Trees.{Trees}
use Rattle.ng_markup.specs.Forest.{Node}
use Rattle.ng_template.specs.Around.{attributes_in, picks_in, at_place, checked_as, checked, block_priority, Inside, is_plain, has_picks, has_template, Block, block_for, block_with, kind_of_block, names_template, templated, inside_in, Heads, checked_program, whole_heads, for_heads, start_heads, a_case, a_start, a_repeat, a_block, before_of, head_by, head_at, heads_from, head_onto, heads_onto, starts_in, Around, cases_in, switched, heads_of, Found, first_case, found_after, with_found, bare_around, around_these, is_orphan, around_picks, around_below, block_room, around_node}
use Rattle.ng_elements.specs.Elements.{Made, Switch}
use Rattle.ng_template.specs.Compiles.{Outermost, rounds, begun_body, wrapped, in_rounds, node_made}
use Rattle.ng_directives.specs.Directives.{text_on, whole}
use Rattle.ng_directives.specs.Free.{is_tpl_want}
use Rattle.ng_directives.specs.Manners.{any_makes_plain}
use Rattle.ng_directives.specs.Programs.{program_in, judged_program}
use Rattle.ng_template.specs.Repeating.{repeat_in}
use Rattle.ng_directives.specs.Texts.{refused, wrong, judged_as, judged, sites_in}
use Rattle.ng_directives.specs.declared.fault.TplFault.{TplFault}
use Rattle.ng_directives.specs.declared.fault.TplKind.{TplKind}
use Rattle.ng_directives.specs.declared.fault.TplKind.TheVariants.{Orphan, UnknownFilter}
use Rattle.ng_evaluation.specs.Purity.{all_filters_known}

-- what is judged of a text is what it is checked for
judged_as-checked : (place : ℕ) (o : Option TplKind) (ps : List Piece) → judged_as place o ps ≡ at_place place (checked_as o ps)
judged_as-checked place None ps = refl
judged_as-checked place (Some kind) ps = refl

pub judged-checked : (place : ℕ) (r : Result (List Piece) InterpFault) → judged place r ≡ at_place place (checked r)
judged-checked place (Err f) = refl
judged-checked place (Ok ps) = judged_as-checked place (wrong ps) ps

placed_ok : {A : Type 0} (place : ℕ) (r : Result A TplKind) (v : A) → at_place place r ≡ Ok v → r ≡ Ok v
placed_ok place (Ok w) v e = cc
placed_ok place (Err kind) v e = absurd (cc)

-- the first refusal stands
pub refused_first : {A B : Type 0} (place : ℕ) (r : Result A TplKind) (go : A → Result B TplKind) (f : TplFault) → at_place place r ≡ Err f → at_place place (r >>= go) ≡ Err f
refused_first place (Ok v) go f e = absurd (cc)
refused_first place (Err kind) go f e = cc

-- blocks after those that were found
onto-both : (before hs : List Block) (g : Result (List Block) TplKind) → heads_onto before (g >>= λ ks. Ok (hs ++ ks)) ≡ heads_onto (before ++ hs) g
onto-both before hs (Ok ks) = ap Ok (sym (append_assoc before hs ks))
onto-both before hs (Err kind) = refl

onto-more : (place : ℕ) (before : List Block) (now : Heads) (r : Result Heads TplKind) (go : List Trees → Result (List Block) TplKind) → at_place place (head_onto before r) ≡ Ok now
    → heads_onto before (r >>= λ h. go h.0 >>= λ hs. Ok (h.1 ++ hs)) ≡ heads_onto now.1 (go now.0)
onto-more place before now (Ok h) go e =
    let same : (h.0, before ++ h.1) ≡ now = (cc) in
    onto-both before h.1 (go h.0) ∙ ap (λ (n : Heads). heads_onto n.1 (go n.0)) same
onto-more place before now (Err kind) go e = absurd (cc)

onto-refused : (place : ℕ) (before : List Block) (r : Result Heads TplKind) (go : Heads → Result (List Block) TplKind) (f : TplFault) → at_place place (head_onto before r) ≡ Err f
    → at_place place (heads_onto before (r >>= go)) ≡ Err f
onto-refused place before (Ok h) go f e = absurd (cc)
onto-refused place before (Err kind) go f e = cc

-- a block more
module _ (place : ℕ) (xs : List Pick) (i : ℕ) (x : Pick) (l : i < length xs) (is : x ≡ get_or xs i x) (starts : List Trees) (before : List Block) where
  abbrev with_starts : List Pick → Result (List Block) TplFault
  with_starts zs = at_place place (heads_onto before (heads_from starts zs))

  here : at_place place (head_onto before (head_at starts x)) ≡ at_place place (head_onto before (head_at starts (get_or xs i x)))
  here = ap (λ (y : Pick). at_place place (head_onto before (head_at starts y))) is

  pub heads-turn : (now : Heads) → at_place place (head_onto before (head_at starts x)) ≡ Ok now
      → at_place place (heads_onto now.1 (heads_from now.0 (drop (i + 1) xs))) ≡ with_starts (drop i xs)
  heads-turn now made =
      sym (at_drop_more with_starts xs i x l
      ∙ ap (at_place place) (onto-more place before now (head_at starts (get_or xs i x)) (λ ts. heads_from ts (drop (i + 1) xs)) (sym here ∙ made)))

  pub heads-refused : (f : TplFault) → at_place place (head_onto before (head_at starts x)) ≡ Err f → with_starts (drop i xs) ≡ Err f
  heads-refused f made =
      at_drop_more with_starts xs i x l
      ∙ onto-refused place before (head_at starts (get_or xs i x)) (λ h. heads_from h.0 (drop (i + 1) xs) >>= λ hs. Ok (h.1 ++ hs)) f (sym here ∙ made)

-- the block whose text is an expression as a whole, from what was judged of that
module _ (place : ℕ) (named : Bool) (starts : List Trees) (before : List Block) (t : List ℕ) where
  abbrev text : Result (List Piece) InterpFault
  text = whole t

  abbrev go : List Piece → Result Heads TplKind
  go h = Ok ([], map (block_with named starts) (sites_in (kind_of_block named) h))

  pub whole-made : (h : List Piece) → judged place text ≡ Ok h
      → at_place place (head_onto before (whole_heads named starts t)) ≡ Ok ([], before ++ map (block_with named starts) (sites_in (kind_of_block named) h))
  whole-made h e =
      let c : checked text ≡ Ok h = placed_ok place (checked text) h (sym (judged-checked place text) ∙ e) in
      ap (λ (r : Result (List Piece) TplKind). at_place place (head_onto before (r >>= go))) c

  pub whole-wrong : (f : TplFault) → judged place text ≡ Err f → at_place place (head_onto before (whole_heads named starts t)) ≡ Err f
  whole-wrong f e =
      let c : at_place place (checked text) ≡ Err f = sym (judged-checked place text) ∙ e in
      refused_first place (checked text >>= go) (λ (h : Heads). Ok (h.0, before ++ h.1)) f (refused_first place (checked text) go f c)

-- that of a repeat
module _ (place : ℕ) (before : List Block) (t : List ℕ) where
  abbrev went : Site × Repeated → Result Heads TplKind
  went r = Ok ([], block_for r.0 r.1 ∷ [])

  pub for-made : (r : Site × Repeated) → at_place place (repeat_in t) ≡ Ok r → at_place place (head_onto before (for_heads t)) ≡ Ok ([], before ++ block_for r.0 r.1 ∷ [])
  for-made r e = ap (λ (x : Result (Site × Repeated) TplKind). at_place place (head_onto before (x >>= went))) (placed_ok place (repeat_in t) r e)

  pub for-wrong : (f : TplFault) → at_place place (repeat_in t) ≡ Err f → at_place place (head_onto before (for_heads t)) ≡ Err f
  for-wrong f e = refused_first place (repeat_in t >>= went) (λ (h : Heads). Ok (h.0, before ++ h.1)) f (refused_first place (repeat_in t) went f e)

-- a program that runs before its block's value is asked, from what was judged of it
judged-program : (place : ℕ) (r : Option Trees) → judged_program place r ≡ at_place place (checked_program r)
judged-program place None = refl
judged-program place (Some b) = by (all_filters_known b)
  where
    by : (known : Bool) → cond known (Ok b) (Err (refused UnknownFilter place)) ≡ at_place place (cond known (Ok b) (Err UnknownFilter))
    by true = refl
    by false = refl

module _ (place : ℕ) (starts : List Trees) (t : List ℕ) where
  abbrev started : Trees → Result Heads TplKind
  started b = Ok (starts ++ b ∷ [], [])

  pub start-made : (b : Trees) → judged_program place (program_in t) ≡ Ok b → at_place place (starts_in (start_heads starts t)) ≡ Ok (starts ++ b ∷ [])
  start-made b e = ap (λ (r : Result Trees TplKind). at_place place (starts_in (r >>= started))) (placed_ok place (checked_program (program_in t)) b (sym (judged-program place (program_in t)) ∙ e))

  pub start-wrong : (f : TplFault) → judged_program place (program_in t) ≡ Err f → at_place place (starts_in (start_heads starts t)) ≡ Err f
  start-wrong f e = refused_first place (start_heads starts t) (λ (h : Heads). Ok h.0) f (refused_first place (checked_program (program_in t)) started f (sym (judged-program place (program_in t)) ∙ e))

-- the programs of a directive that adds no block but them
module _ (place : ℕ) (before : List Block) (starts : List Trees) (p : Pick) where
  pub head-case : before_of p.directive ≡ a_case → at_place place (head_onto before (head_at starts p)) ≡ Ok (starts, before)
  head-case is = ap (λ b. at_place place (head_onto before (head_by b starts (text_on p.attribute)))) is ∙ ap (λ (hs : List Block). Ok (starts, hs)) (append-nil before)

  started_onto : (r : Result Trees TplKind) → head_onto before (r >>= started place starts (text_on p.attribute)) ≡ (starts_in (r >>= started place starts (text_on p.attribute)) >>= λ ts. Ok (ts, before))
  started_onto (Ok b) = ap (λ (hs : List Block). Ok (starts ++ b ∷ [], hs)) (append-nil before)
  started_onto (Err kind) = refl

  head-start : before_of p.directive ≡ a_start → head_onto before (head_at starts p) ≡ (starts_in (start_heads starts (text_on p.attribute)) >>= λ ts. Ok (ts, before))
  head-start is = ap (λ b. head_onto before (head_by b starts (text_on p.attribute))) is ∙ started_onto (checked_program (program_in (text_on p.attribute)))

  pub head-started : (ts : List Trees) → before_of p.directive ≡ a_start → at_place place (starts_in (start_heads starts (text_on p.attribute))) ≡ Ok ts → at_place place (head_onto before (head_at starts p)) ≡ Ok (ts, before)
  head-started ts is e = ap (at_place place) (head-start is ∙ ap (λ (r : Result (List Trees) TplKind). r >>= λ us. Ok (us, before)) (placed_ok place (starts_in (start_heads starts (text_on p.attribute))) ts e))

  pub head-unstarted : (f : TplFault) → before_of p.directive ≡ a_start → at_place place (starts_in (start_heads starts (text_on p.attribute))) ≡ Err f → at_place place (head_onto before (head_at starts p)) ≡ Err f
  head-unstarted f is e = ap (at_place place) (head-start is) ∙ refused_first place (starts_in (start_heads starts (text_on p.attribute))) (λ us. Ok (us, before)) f e

  pub head-repeat : before_of p.directive ≡ a_repeat → at_place place (head_onto before (head_at starts p)) ≡ at_place place (head_onto before (for_heads (text_on p.attribute)))
  head-repeat is = ap (λ b. at_place place (head_onto before (head_by b starts (text_on p.attribute)))) is

  pub head-block : (named : Bool) → before_of p.directive ≡ a_block named → at_place place (head_onto before (head_at starts p)) ≡ at_place place (head_onto before (whole_heads named starts (text_on p.attribute)))
  head-block named is = ap (λ b. at_place place (head_onto before (head_by b starts (text_on p.attribute)))) is

-- what directives add to what was found
module _ (place : ℕ) (f : Found) (has_switch : Bool) (ps : List Pick) where
  abbrev pub cases_found : Result (Option Case) TplKind
  cases_found = switched has_switch (cases_in ps)

  abbrev found_with : Option Case → List Block → Result Found TplKind
  found_with c hs = Ok (first_case f.0 c, hs)

  abbrev with_heads : Option Case → Result (List Block) TplKind → Result Found TplKind
  with_heads c r = r >>= λ hs. found_with c (f.1 ++ hs)

  abbrev more : Option Case → Result Found TplKind
  more c = with_heads c (heads_of ps)

  pub case-refused : (e : TplFault) → at_place place cases_found ≡ Err e → at_place place (found_after f has_switch ps) ≡ Err e
  case-refused e h = refused_first place cases_found more e h

  with_case : (c : Option Case) → at_place place cases_found ≡ Ok c → found_after f has_switch ps ≡ more c
  with_case c h = ap (λ (r : Result (Option Case) TplKind). r >>= more) (placed_ok place cases_found c h)

  onto_found : (c : Option Case) (r : Result (List Block) TplKind) (now : List Block) → at_place place (heads_onto f.1 r) ≡ Ok now → with_heads c r ≡ found_with c now
  onto_found c (Ok hs) now e = let same : f.1 ++ hs ≡ now = (cc) in ap (found_with c) same
  onto_found c (Err kind) now e = absurd (cc)

  onto_wrong : (c : Option Case) (r : Result (List Block) TplKind) (e : TplFault) → at_place place (heads_onto f.1 r) ≡ Err e → at_place place (with_heads c r) ≡ Err e
  onto_wrong c (Ok hs) e h = absurd (cc)
  onto_wrong c (Err kind) e h = cc

  pub found-more : (c : Option Case) → at_place place cases_found ≡ Ok c → (now : List Block) → at_place place (heads_onto f.1 (heads_of ps)) ≡ Ok now → at_place place (found_after f has_switch ps) ≡ Ok (first_case f.0 c, now)
  found-more c h now e = ap (at_place place) (with_case c h ∙ onto_found c (heads_of ps) now e)

  pub heads-wrong : (c : Option Case) → at_place place cases_found ≡ Ok c → (e : TplFault) → at_place place (heads_onto f.1 (heads_of ps)) ≡ Err e → at_place place (found_after f has_switch ps) ≡ Err e
  heads-wrong c h e g = ap (at_place place) (with_case c h) ∙ onto_wrong c (heads_of ps) e g

-- what was found, and more
abbrev joined : Found → Found → Found
joined f g = (first_case f.0 g.0, f.1 ++ g.1)

found-joined : (f : Found) (has_switch : Bool) (ps : List Pick) → found_after f has_switch ps ≡ (found_after (None, []) has_switch ps >>= λ g. Ok (joined f g))
found-joined f has_switch ps = by (switched has_switch (cases_in ps)) (heads_of ps)
  where
    by : (c : Result (Option Case) TplKind) (h : Result (List Block) TplKind) → (c >>= λ x. h >>= λ hs. Ok (first_case f.0 x, f.1 ++ hs)) ≡ ((c >>= λ x. h >>= λ hs. Ok (x, hs)) >>= λ g. Ok (joined f g))
    by (Ok c) (Ok hs) = refl
    by (Ok c) (Err kind) = refl
    by (Err kind) h = refl

first-assoc : (a b c : Option Case) → first_case a (first_case b c) ≡ first_case (first_case a b) c
first-assoc None b c = refl
first-assoc (Some x) b c = refl

-- the blocks round an element, after those that are found
abbrev pub around_after : Found → Result Around TplKind → Result Around TplKind
around_after f r = r >>= λ a. Ok (with_found f a)

after-none : (r : Result Around TplKind) → around_after (None, []) r ≡ r
after-none (Ok a) = refl
after-none (Err kind) = refl

-- an element in blocks of which some name a template
templated-twice : (i : Inside) → templated (templated i) ≡ templated i
templated-twice is_plain = refl
templated-twice (has_picks ps) = refl
templated-twice (has_template ps) = refl

inside-both : (bs cs : List Block) (i : Inside) → inside_in bs (inside_in cs i) ≡ inside_in (bs ++ cs) i
inside-both bs cs i = by (list_any names_template bs) (list_any names_template cs) ∙ ap (λ (b : Bool). cond b (templated i) i) (sym (list_any-append names_template bs cs))
  where
    by : (b c : Bool) → cond b (templated (cond c (templated i) i)) (cond c (templated i) i) ≡ cond (b || c) (templated i) i
    by true true = templated-twice i
    by true false = refl
    by false c = refl

after-both : (f g : Found) (r : Result Around TplKind) → around_after f (r >>= λ a. Ok (with_found g a)) ≡ around_after (joined f g) r
after-both f g (Ok a) =
    ap (λ (c : Option Case). let b : Around = record { case = c; heads = f.1 ++ (g.1 ++ a.heads); inside = inside_in f.1 (inside_in g.1 a.inside) } in Ok b) (first-assoc f.0 g.0 a.case)
    ∙ (ap (λ (hs : List Block). let b : Around = record { case = first_case (first_case f.0 g.0) a.case; heads = hs; inside = inside_in f.1 (inside_in g.1 a.inside) } in Ok b) (sym (append_assoc f.1 g.1 a.heads))
    ∙ ap (λ (i : Inside). let b : Around = record { case = first_case (first_case f.0 g.0) a.case; heads = (f.1 ++ g.1) ++ a.heads; inside = i } in Ok b) (inside-both f.1 g.1 a.inside))
after-both f g (Err kind) = refl

-- nothing more is round it
after-bare : (f : Found) (i : Inside) → with_found f (bare_around i) ≡ record { case = f.0; heads = f.1; inside = inside_in f.1 i }
after-bare f i =
    ap (λ (hs : List Block). record { case = first_case f.0 None; heads = hs; inside = inside_in f.1 i }) (append-nil f.1)
    ∙ ap (λ (c : Option Case). record { case = c; heads = f.1; inside = inside_in f.1 i }) (last f.0)
  where
    last : (c : Option Case) → first_case c None ≡ c
    last None = refl
    last (Some c) = refl

-- what blocks leave to the body
these-after : (place : ℕ) (f now : Found) (s : Result Found TplKind) (r : Result Around TplKind) → at_place place (s >>= λ g. Ok (joined f g)) ≡ Ok now
    → at_place place (around_after f (s >>= λ g. r >>= λ a. Ok (with_found g a))) ≡ at_place place (around_after now r)
these-after place f now (Ok g) r e =
    let same : joined f g ≡ now = (cc) in
    ap (at_place place) (after-both f g r) ∙ ap (λ all. at_place place (around_after all r)) same
these-after place f now (Err kind) r e = absurd (cc)

these-refused : (place : ℕ) (f : Found) (s : Result Found TplKind) (r : Result Around TplKind) (e : TplFault) → at_place place (s >>= λ g. Ok (joined f g)) ≡ Err e
    → at_place place (around_after f (s >>= λ g. r >>= λ a. Ok (with_found g a))) ≡ Err e
these-refused place f (Ok g) r e h = absurd (cc)
these-refused place f (Err kind) r e h = cc

-- a plain element stays so in any blocks
abbrev pub around_with : Found → Inside → Around
around_with f i = record { case = f.0; heads = f.1; inside = i }

plain-in : (bs : List Block) → inside_in bs is_plain ≡ is_plain
plain-in bs = by (list_any names_template bs)
  where
    by : (b : Bool) → cond b (templated is_plain) is_plain ≡ is_plain
    by true = refl
    by false = refl

after-plain : (f : Found) → with_found f (bare_around is_plain) ≡ around_with f is_plain
after-plain f = after-bare f is_plain ∙ ap (around_with f) (plain-in f.1)

module _ (place : ℕ) (defs : List DirectiveDef) (slots : Bool) (n : Node) where
  abbrev pub rest : Found → Bool → ℕ → Option ℤ → Result Around TplFault
  rest f has_switch room limit = at_place place (around_after f (around_below room defs slots has_switch limit n))

  pub first-stage : (f : Found) (has_switch : Bool) (room : ℕ) → f ≡ (None, []) → room ≡ block_room → rest f has_switch room None ≡ at_place place (around_node defs slots has_switch n)
  first-stage f has_switch room none all =
      ap (λ g. rest g has_switch room None) none
      ∙ (ap (at_place place) (after-none (around_below room defs slots has_switch None n)) ∙ ap (λ k. at_place place (around_below k defs slots has_switch None n)) all)

  pub last-stage : (f : Found) (has_switch : Bool) (room : ℕ) (limit : Option ℤ) → room ≡ 0 → rest f has_switch room limit ≡ Ok (around_with f is_plain)
  last-stage f has_switch room limit none = ap (λ k. rest f has_switch k limit) none ∙ ap Ok (after-plain f)

  module _ (f : Found) (has_switch : Bool) (room k : ℕ) (limit : Option ℤ) (more : room ≡ suc k) where
    abbrev below : ℤ → Result Around TplKind
    below l = around_below k defs slots false (Some l) n

    abbrev picks_here : Result (List Pick) TplKind
    picks_here = picks_in (attributes_in n) (collected defs limit n)

    pub picks-refused : (e : TplFault) → at_place place picks_here ≡ Err e → rest f has_switch room limit ≡ Err e
    picks-refused e h =
        ap (λ j. rest f has_switch j limit) more
        ∙ refused_first place (picks_here >>= λ ps. around_picks slots has_switch ps below) (λ a. Ok (with_found f a)) e (refused_first place picks_here (λ ps. around_picks slots has_switch ps below) e h)

    module _ (ps : List Pick) (read : at_place place picks_here ≡ Ok ps) where
      abbrev picked : Bool → Bool → Option ℤ → Result Around TplFault
      picked plain orphan o = at_place place (around_after f (cond plain (Ok (bare_around is_plain)) (cond orphan (Err Orphan) (around_these has_switch ps o below))))

      stage : rest f has_switch room limit ≡ picked (any_makes_plain ps) (is_orphan slots ps) (block_priority ps)
      stage =
          ap (λ j. rest f has_switch j limit) more
          ∙ ap (λ r. at_place place (around_after f (r >>= λ qs. around_picks slots has_switch qs below))) (placed_ok place picks_here ps read)

      pub plain-stage : any_makes_plain ps ≡ true → rest f has_switch room limit ≡ Ok (around_with f is_plain)
      plain-stage plain = stage ∙ (ap (λ b. picked b (is_orphan slots ps) (block_priority ps)) plain ∙ ap Ok (after-plain f))

      module _ (plain : any_makes_plain ps ≡ false) where
        read_stage : (b : Bool) → is_orphan slots ps ≡ b → rest f has_switch room limit ≡ picked false b (block_priority ps)
        read_stage b built = stage ∙ (ap (λ c. picked c (is_orphan slots ps) (block_priority ps)) plain ∙ ap (λ c. picked false c (block_priority ps)) built)

        pub orphan-stage : is_orphan slots ps ≡ true → rest f has_switch room limit ≡ Err (refused Orphan place)
        orphan-stage orphan = read_stage true orphan

        pub inner-stage : is_orphan slots ps ≡ false → block_priority ps ≡ None → rest f has_switch room limit ≡ Ok (around_with f (inside_in f.1 (has_picks ps)))
        inner-stage built none = read_stage false built ∙ (ap (picked false false) none ∙ ap Ok (after-bare f (has_picks ps)))

        pub last-found : is_orphan slots ps ≡ false → (o : Option ℤ) → o ≡ block_priority ps → is_none o ≡ true → rest f has_switch room limit ≡ Ok (around_with f (inside_in f.1 (has_picks ps)))
        last-found built None is none = inner-stage built (sym is)
        last-found built (Some l) is none = absurd (cc)

        pub block-stage : is_orphan slots ps ≡ false → (o : Option ℤ) → o ≡ block_priority ps → is_none o ≡ false → (now : Found) → at_place place (found_after f has_switch ps) ≡ Ok now
            → rest now false k o ≡ rest f has_switch room limit
        block-stage built None some is now e = absurd (cc)
        block-stage built (Some l) some is now e =
            sym (read_stage false built ∙ (ap (picked false false) (sym some)
            ∙ these-after place f now (found_after (None, []) has_switch ps) (below l) (ap (at_place place) (sym (found-joined f has_switch ps)) ∙ e)))

        pub heads-stage : is_orphan slots ps ≡ false → (o : Option ℤ) → o ≡ block_priority ps → is_none o ≡ false → (e : TplFault) → at_place place (found_after f has_switch ps) ≡ Err e → rest f has_switch room limit ≡ Err e
        heads-stage built None some is e h = absurd (cc)
        heads-stage built (Some l) some is e h =
            read_stage false built
            ∙ (ap (picked false false) (sym some) ∙ these-refused place f (found_after (None, []) has_switch ps) (below l) e (ap (at_place place) (sym (found-joined f has_switch ps)) ∙ h))

-- the programs of a directive, of which nothing is known but what the call said
pub gives-started : {A : Type 0} (place : ℕ) (before : List Block) (starts : List Trees) (p : Pick) → before_of p.directive ≡ a_start → (seen : A → List Trees) (r : Result A TplFault)
    → Gives is_tpl_want seen (at_place place (starts_in (start_heads starts (text_on p.attribute)))) r → Gives is_tpl_want (λ a. (seen a, before)) (at_place place (head_onto before (head_at starts p))) r
gives-started place before starts p is seen (Ok a) h = head-started place before starts p (seen a) is h
gives-started place before starts p is seen (Err f) h = λ (free : is_tpl_want f ≡ false). head-unstarted place before starts p f is (h free)

-- a refusal that is handed on
pub gives_err : {A B : Type 0} (seen : A → B) (asked : Result B TplFault) (r : Result A TplFault) (e : TplFault) → IsErrAnd r (λ y. y ≡ e) → (is_tpl_want e ≡ false → asked ≡ Err e) → Gives is_tpl_want seen asked r
gives_err seen asked (Ok v) e is h = absurd is
gives_err seen asked (Err d) e is h = λ (free : is_tpl_want d ≡ false). h (ap is_tpl_want (sym is) ∙ free) ∙ ap Err (sym is)

-- an element with what is found round it
module _ (place : ℕ) (r : Result Around TplKind) (go : Inside → Switch → Made → Result (Part × Made) TplFault) (outer : Switch) (m : Made) (a : Around) (found : at_place place r ≡ Ok a) where
  node_is : (at_place place r >>= node_made go outer m) ≡ node_made go outer m a
  node_is = ap (λ (s : Result Around TplFault). s >>= node_made go outer m) found

  pub alone_is : rounds (unwrap_or outer 0) a.case a.heads ≡ None → (at_place place r >>= node_made go outer m) ≡ go a.inside outer m
  alone_is none = node_is ∙ ap (λ o. in_rounds o (go a.inside) outer m) none

  pub wrapped_is : (o : Outermost) (bs : List Block) (q : Part × Made) → rounds (unwrap_or outer 0) a.case a.heads ≡ Some (o, bs) → go a.inside None (begun_body m) ≡ Ok q
      → (at_place place r >>= node_made go outer m) ≡ wrapped o bs m.sites m.outlets q
  wrapped_is o bs q some inner =
      node_is
      ∙ (ap (λ x. in_rounds x (go a.inside) outer m) some
      ∙ ap (λ (s : Result (Part × Made) TplFault). s >>= wrapped o bs m.sites m.outlets) inner)

  pub wrapped_wrong : (o : Outermost) (bs : List Block) (e : TplFault) → rounds (unwrap_or outer 0) a.case a.heads ≡ Some (o, bs) → go a.inside None (begun_body m) ≡ Err e
      → (at_place place r >>= node_made go outer m) ≡ Err e
  wrapped_wrong o bs e some inner =
      node_is
      ∙ (ap (λ x. in_rounds x (go a.inside) outer m) some
      ∙ ap (λ (s : Result (Part × Made) TplFault). s >>= wrapped o bs m.sites m.outlets) inner)
