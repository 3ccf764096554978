use Rattle.std.proofs.Common.{rules, ◌≡◌, ◌∙◌, List, [], ◌∷◌, ◌++◌, ap, length, subst, sym, arith}
use Rattle.std.proofs.lemmas.List.{map-append}
use Rattle.ng_core.specs.Frames.{state_of}
use Rattle.ng_drawing.specs.Roles.{Entry}
use Rattle.ng_drawing.specs.RolesOf.{entry_of, entries_of}
use Rattle.ng_rows.proofs.KeptItems.{entries_wider, items_pushed, items_wider}
use Rattle.ng_rows.proofs.FirstItems.{first_made}
use Rattle.ng_rows.specs.RepeatRows.{items_made}
use Rattle.ng_rows.specs.Tracking.{Item}
use Rattle.ng_rows.specs.TrackingOf.{EntriesStand, ItemsStand, item_of, items_of}
use Rattle.ng_rows.proofs.tracking.make_items.Goals as goal

pub loop-entry-preserved : goal.loop-entry-preserved
loop-entry-preserved c =
    let l = c.loop-entry in
    let core = c.make_item.new.core in
    let n = length core.store in
    let x : Item = item_of c.in_ok-make_item.field-0 in
    let e : Entry = entry_of c.in-Some.entry in
    let rest : List Entry = entries_of c.next.new.self.rest.items in
    let done : List Item = items_of l.items.items in
    let first : entries_of l.entry-iterator.rest.items ≡ e ∷ rest = search rules in
    let more : items_of c.push.new.self.items ≡ done ++ x ∷ [] = ap items_of c.in_ok-push.ensures.items ∙ map-append item_of l.items.items (c.in_ok-make_item.field-0 ∷ []) in
    let made = c.in_ok-make_item.ensures in
    record {
      run = ap (λ (xs : List Item). items_made rest xs (state_of core)) more
          ∙ (sym (first_made e rest done (state_of l.core) (state_of core) x made.run)
          ∙ (sym (ap (λ (es : List Entry). items_made es done (state_of l.core)) first) ∙ l.invariant.run));
      sound = made.sound;
      depth = made.depth ∙ l.invariant.depth;
      grown = (let one = made.grown in let all = l.invariant.grown in omega (arith, one, all));
      stands = subst (λ (xs : List Item). ItemsStand n xs) (sym more) (items_pushed n done x (items_wider (length l.core.store) n made.grown done l.invariant.stands) made.stands);
      entries = entries_wider (length l.core.store) n made.grown rest (subst (λ (es : List Entry). EntriesStand (length l.core.store) es) first l.invariant.entries).1;
    }
