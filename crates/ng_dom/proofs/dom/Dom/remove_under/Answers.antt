use Rattle.std.proofs.Common.{ℕ, List, None, subst, ◌∙◌}
use Rattle.std.proofs.lemmas.Result.{on_ok_weaker}
use Rattle.ng_dom.specs.Document.{rooms}
use Rattle.ng_dom.specs.Removal.{Takes}
use Rattle.ng_dom.proofs.Sparing.{removed_reads, removed_gone, top_cut}
use Rattle.ng_dom.proofs.dom.Dom.remove_under.Goals as goal

pub returns-clause-reads : goal.returns-clause-reads
returns-clause-reads c =
    let r = rooms c.args.self.now in
    let t = rooms c.cut_out.new.self in
    let s = rooms c.take_out.new.self in
    let P : List ℕ → Type 0 = λ names. Takes names t s in
    on_ok_weaker c.take_out.result
    (λ takes p f h there. removed_reads r t s c.args.n c.args.parent c.requires c.in_ok-cut_out.ensures.cut.0 (subst P c.in_ok-names.ensures takes) p f h there)
    c.take_out.ensures.takes

pub returns-clause-shows : goal.returns-clause-shows
returns-clause-shows c =
    let r = rooms c.args.self.now in
    let t = rooms c.cut_out.new.self in
    let s = rooms c.take_out.new.self in
    let P : List ℕ → Type 0 = λ names. Takes names t s in
    on_ok_weaker c.take_out.result
    (λ takes f shown. (
      top_cut c.args.n c.args.parent r _ _ f c.requires shown.0 shown.1 (c.take_out.ensures.top ∙ c.in_ok-cut_out.ensures.cut.1),
      removed_reads r t s c.args.n c.args.parent c.requires c.in_ok-cut_out.ensures.cut.0 (subst P c.in_ok-names.ensures takes) None f shown.1 tt,
    ))
    c.take_out.ensures.takes

pub returns-clause-gone : goal.returns-clause-gone
returns-clause-gone c =
    let r = rooms c.args.self.now in
    let t = rooms c.cut_out.new.self in
    let s = rooms c.take_out.new.self in
    let P : List ℕ → Type 0 = λ names. Takes names t s in
    on_ok_weaker c.take_out.result
    (λ takes p x e has h. removed_gone r t s c.args.n c.args.parent c.requires c.in_ok-cut_out.ensures.cut.0 (subst P c.in_ok-names.ensures takes) p x e has h)
    c.take_out.ensures.takes
