use Rattle.std.proofs.Common.{◌∙◌, None, Some, ap, sym, map}
use Rattle.std.specs.Prelude.{option_map, slice_get}
use Rattle.ng_parts.specs.FragmentOf.{mark_of, own_mark}
use Rattle.ng_parts.proofs.Lookups.{lookup_seen, got_or}
use Rattle.ng_parts.proofs.fragment.Fragment.mark.Goals as goal

pub returns-in-Some : goal.returns-in-Some
returns-in-Some c =
    let seen = lookup_seen mark_of c.deref.result.now c.args.site c.get.result c.get.ensures.lookup ∙ ap (λ xs. slice_get (map mark_of xs) c.args.site) c.deref.ensures.value in
    got_or (map mark_of c.args.self.now.marks.items) c.args.site own_mark (Some (mark_of c.in-Some.mark.now)) (ap (option_map (λ m. mark_of m.now)) (sym c.in-Some.is) ∙ seen)

pub returns-in-None : goal.returns-in-None
returns-in-None c =
    let seen = lookup_seen mark_of c.deref.result.now c.args.site c.get.result c.get.ensures.lookup ∙ ap (λ xs. slice_get (map mark_of xs) c.args.site) c.deref.ensures.value in
    got_or (map mark_of c.args.self.now.marks.items) c.args.site own_mark None (ap (option_map (λ m. mark_of m.now)) (sym c.in-None.is) ∙ seen)
