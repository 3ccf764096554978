use Rattle.std.proofs.Common.{refl, ap, sym, ◌∙◌, ◌≡◌, ◌-◌, ◌/◌, ◌++◌, ◌∷◌, [], ℕ, arith, length, get_or, Some, slice_get, slice_set}
use Rattle.std.proofs.lemmas.Option.{slice_get_read, get_or_from_slice_get}
use Rattle.ng_dom.specs.Records.{Rows}
use Rattle.ng_dom.proofs.Runs.{pushed_in, pushed_new, on_ok}
use Rattle.ng_dom.proofs.records.put_last.Goals as goal
use Rattle.ng_dom.proofs.records.put_last.Goals.{else-len-gt0-via-then-len-gt0+else-number-n, else-len-gt0-via-else-len-gt0}

pub returns-then-number-n-clause-ok : goal.returns-then-number-n-clause-ok
returns-then-number-n-clause-ok c =
    let rs = c.args.runs.now.items in
    let i = c.len-len.result - 1 in
    let r = c.index_mut.result.now in
    let g : slice_get rs i ≡ Some r = slice_get_read rs (length rs) i r refl (omega (arith, c.len-len.ensures, c.if-len-gt0.true)) c.index_mut.ensures.value in
    let same : r ≡ c.index.result.now = sym (get_or_from_slice_get rs i r c.index.result.now g) ∙ sym c.index.ensures in
    let is : r.0 ≡ c.args.n / 64 = ap (λ (t : ℕ × Rows). t.0) same ∙ (sym c.number.ensures ∙ c.if-number-n.true) in
    on_ok c.push.result (λ e. ap (slice_set rs i) e ∙ pushed_in c.args.n c.args.node rs i r g (omega (arith, c.len-len.ensures, c.if-len-gt0.true)) is) c.push.ensures.ok

pub returns-clause-ok : goal.returns-clause-ok
returns-clause-ok c =
    let rs = c.args.runs.now.items in
    c.in_ok-push.ensures.items ∙ (ap (λ (t : ℕ × Rows). rs ++ t ∷ []) c.in_ok-run.ensures ∙ pushed_new c.args.n c.args.node rs (λ i r g l u. elim c.else-len-gt0.branch [
      | else-len-gt0-via-then-len-gt0+else-number-n w ↦
          let at : c.len-len.result - 1 ≡ i = omega (arith, c.len-len.ensures, l) in
          let same : w.index.result.now ≡ r = w.index.ensures ∙ (ap (λ (k : ℕ). get_or rs k w.index.result.now) at ∙ get_or_from_slice_get rs i r w.index.result.now g) in
          w.if-number-n.false (w.number.ensures ∙ (ap (λ (t : ℕ × Rows). t.0) same ∙ u))
      | else-len-gt0-via-else-len-gt0 w ↦ absurd (omega (arith, c.len-len.ensures, l, w.if-len-gt0.false))
    ]))
