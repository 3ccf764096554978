-- Without a switch round it an element is no case.
use Rattle.std.proofs.Common.{◌≡◌, ℕ, zero, suc, ℤ, Bool, true, false, cond, List, [], ◌∷◌, Option, None, Some, Result, Ok, Err, refl, ap, sym, ◌∙◌}
use Rattle.ng_base.specs.Meets.{◌>>=◌}
use Rattle.ng_collect.specs.Collected.{collected}
use Rattle.ng_collect.specs.declared.definition.DirectiveDef.{DirectiveDef}
use Rattle.ng_collect.specs.declared.pick.Pick.{Pick}
use Rattle.ng_drawing.specs.Cases.{Case}
use Rattle.ng_markup.specs.Forest.{Node}
use Rattle.ng_template.specs.Around.{attributes_in, picks_in, block_priority, is_plain, has_picks, Block, Around, cases_in, switched, heads_of, Found, first_case, found_after, with_found, bare_around, around_these, is_orphan, around_picks, around_below, block_room, around_node}
use Rattle.ng_directives.specs.Manners.{any_makes_plain}
use Rattle.ng_directives.specs.declared.fault.TplKind.{TplKind}
use Rattle.ng_directives.specs.declared.fault.TplKind.TheVariants.{Orphan}

-- what answers with this has it without a case
abbrev NoCase : Result Around TplKind → Type 0
NoCase r = (a : Around) → r ≡ Ok a → a.case ≡ None

bare_none : (r : Result Around TplKind) (b : Around) → b.case ≡ None → r ≡ Ok b → NoCase r
bare_none r b none e a is = let same : b ≡ a = let two = sym e ∙ is in cc in ap (λ (x : Around). x.case) (sym same) ∙ none

abbrev with_heads : Option Case → Result (List Block) TplKind → Result Found TplKind
with_heads c r = r >>= λ hs. Ok (c, hs)

heads_none : (r : Result (List Block) TplKind) (f : Found) → with_heads None r ≡ Ok f → f.0 ≡ None
heads_none (Ok hs) f e =
    let found : Found = (None, hs) in
    let same : found ≡ f = cc in
    ap (λ (x : Found). x.0) (sym same)
heads_none (Err kind) f e = absurd (cc)

none_found : (cs : List Case) (ps : List Pick) (f : Found) → (switched false cs >>= λ c. with_heads c (heads_of ps)) ≡ Ok f → f.0 ≡ None
none_found [] ps f e = heads_none (heads_of ps) f e
none_found (c ∷ cs) ps f e = absurd (cc)

these_none : (s : Result Found TplKind) (r : Result Around TplKind) → ((f : Found) → s ≡ Ok f → f.0 ≡ None) → NoCase r → NoCase (s >>= λ f. r >>= λ a. Ok (with_found f a))
these_none (Ok f) (Ok b) found below a e =
    let same : with_found f b ≡ a = cc in
    ap (λ (x : Around). x.case) (sym same) ∙ (ap (λ (c : Option Case). first_case c b.case) (found f refl) ∙ below b refl)
these_none (Ok f) (Err kind) found below a e = absurd (cc)
these_none (Err kind) r found below a e = absurd (cc)

picks_none : (r : Result (List Pick) TplKind) (go : List Pick → Result Around TplKind) → ((ps : List Pick) → NoCase (go ps)) → NoCase (r >>= go)
picks_none (Ok ps) go all a e = all ps a e
picks_none (Err kind) go all a e = absurd (cc)

module _ (defs : List DirectiveDef) (slots : Bool) (n : Node) where
  abbrev below : ℕ → ℤ → Result Around TplKind
  below room l = around_below room defs slots false (Some l) n

  by_plain : (room : ℕ) → ((l : ℤ) → NoCase (below room l)) → (ps : List Pick) (plain orphan : Bool) (o : Option ℤ)
      → NoCase (cond plain (Ok (bare_around is_plain)) (cond orphan (Err Orphan) (around_these false ps o (below room))))
  by_plain room go ps true orphan o = bare_none _ (bare_around is_plain) refl refl
  by_plain room go ps false false None = bare_none _ (bare_around (has_picks ps)) refl refl
  by_plain room go ps false false (Some l) = these_none (found_after (None, []) false ps) (below room l) (λ f e. none_found (cases_in ps) ps f e) (go l)
  by_plain room go ps false true o = λ a e. absurd (cc)

  below_none : (room : ℕ) (limit : Option ℤ) → NoCase (around_below room defs slots false limit n)
  below_none zero limit = bare_none _ (bare_around is_plain) refl refl
  below_none (suc room) limit =
      picks_none (picks_in (attributes_in n) (collected defs limit n)) (λ ps. around_picks slots false ps (below room))
      (λ ps. by_plain room (λ l. below_none room (Some l)) ps (any_makes_plain ps) (is_orphan slots ps) (block_priority ps))

  pub no_case : NoCase (around_node defs slots false n)
  no_case = below_none block_room None
