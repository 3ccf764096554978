use Rattle.std.proofs.Common.{rules, refl, ap, ◌∙◌, add-one}
use Rattle.ng_chain.proofs.Edits.{hollow-more, serials-hole}
use Rattle.ng_chain.proofs.slots.hollow.Goals as goal

pub loop-i-preserved : goal.loop-i-preserved
loop-i-preserved g c = record {
  emptied = rw add-one (hollow-more c.loop-i.slots.items c.loop-i.i _ (search rules) refl c.loop-i.invariant.emptied);
  same =
      serials-hole c.loop-i.slots.items c.loop-i.i c.index_mut.result.now _ (search rules) (ap (λ s. s.serial) c.index_mut.ensures.value)
      ∙ c.loop-i.invariant.same;
}
