use Rattle.std.proofs.Common.{◌≡◌, ◌∙◌, ℕ, Option, None, Some, ap, sym, subst, refl}
use Rattle.std.specs.Prelude.{option_map}
use Rattle.ng_dom.specs.Nodes.{NamedForest, names_of}
use Rattle.ng_dom.specs.Rooms.{Room, Rooms, room_of, ReadsIn}
use Rattle.ng_dom.specs.Removal.{without}
use Rattle.ng_dom.specs.Document.{rooms}
use Rattle.ng_dom.proofs.Sparing.{without_absent}
use Rattle.ng_dom.proofs.dom.Dom.remove.Goals as goal

-- a name without a parent has no room
no_room : (o : Option Room) → option_map (λ (x : Room). x.parent) o ≡ None → o ≡ None
no_room None e = refl
no_room (Some x) e = absurd (cc)

reads_absent : (r : Rooms) (n : ℕ) → r n ≡ None → (p : Option ℕ) (f : NamedForest) → ReadsIn r p f → ReadsIn r p (without n f)
reads_absent r n none p f h = let P : NamedForest → Type 0 = λ g. ReadsIn r p g in subst P (sym (without_absent r n none p f h)) h

pub returns-in-None-clause-reads : goal.returns-in-None-clause-reads
returns-in-None-clause-reads c = λ p f h there.
    reads_absent (rooms c.args.self.now) c.args.n.made.0 (no_room (rooms c.args.self.now c.args.n.made.0) (sym c.parent_of.ensures ∙ c.in-None.is)) p f h

pub returns-in-None-clause-shows : goal.returns-in-None-clause-shows
returns-in-None-clause-shows c = λ f shown.
    let none = no_room (rooms c.args.self.now c.args.n.made.0) (sym c.parent_of.ensures ∙ c.in-None.is) in
    (shown.0 ∙ sym (ap names_of (without_absent (rooms c.args.self.now) c.args.n.made.0 none None f shown.1)), reads_absent (rooms c.args.self.now) c.args.n.made.0 none None f shown.1)

pub returns-in-None-clause-gone : goal.returns-in-None-clause-gone
returns-in-None-clause-gone c = λ p x e has h.
    let none = no_room (rooms c.args.self.now c.args.n.made.0) (sym c.parent_of.ensures ∙ c.in-None.is) in
    absurd (let two : Some (room_of p x) ≡ None = sym has.1 ∙ (ap (rooms c.args.self.now) e ∙ none) in cc)
