-- What handles events at the nodes, as the code's table has it.
use Rattle.std.proofs.Common.{◌≡◌, ℕ, List, [], ◌∷◌, Option, Some, None, refl, ap, ◌∙◌, sym, map, length}
use Rattle.std.specs.Prelude.{option_map, is_some, ◌==◌, false}
use Rattle.std.specs.BTreeMap.{insert_entry, is_at}
use Rattle.std.specs.Map.{lookup}
use Rattle.std.specs.Ordering.{nat_cmp}
use Rattle.std.specs.declared.alloc.Global.{Global}
use Rattle.std.specs.declared.vec.Vec.{Vec}
use Rattle.std.proofs.lemmas.Map.Made.{lookup-map_values}
use Rattle.ng_parts.specs.Seen.{handler_of}
use Rattle.ng_parts.specs.declared.acts.Handler.{Handler}
use Rattle.ng_build.specs.Handlers.{Handlers, Handled, with_handlers, entered_at, is_entered}
use Rattle.ng_build.specs.HandledOf.{handled_of}
use Rattle.ng_build.proofs.Tables.{put-seen}

-- what a row of the table stands for
abbrev pub handlers_of : Vec Handler Global → Handlers
handlers_of v = map handler_of v.items

-- an element that has handlers
with_any : (n : ℕ) (hs : List Handler) (t : Handled) → (length hs == 0) ≡ false → with_handlers n (map handler_of hs) t ≡ insert_entry nat_cmp t n (map handler_of hs)
with_any n [] t any = absurd (cc)
with_any n (h ∷ hs) t any = refl

pub entered_in : (n : ℕ) (hs : List Handler) (copy : Vec Handler Global) (es : List (ℕ × Vec Handler Global)) → (length hs == 0) ≡ false → handlers_of copy ≡ map handler_of hs
    → handled_of (insert_entry nat_cmp es n copy) ≡ with_handlers n (map handler_of hs) (handled_of es)
entered_in n hs copy es any same =
    put-seen handlers_of nat_cmp n copy es ∙ (ap (insert_entry nat_cmp (handled_of es) n) same ∙ sym (with_any n hs (handled_of es) any))

-- what is found under a node's name
pub entered_seen : (n : ℕ) (es : List (ℕ × Vec Handler Global)) (o : Option (Vec Handler Global)) → lookup (is_at (nat_cmp n)) es ≡ o → entered_at n (handled_of es) ≡ option_map handlers_of o
entered_seen n es o is = lookup-map_values handlers_of (is_at (nat_cmp n)) es ∙ ap (option_map handlers_of) is

some_seen : (o : Option (Vec Handler Global)) → is_some o ≡ is_some (option_map handlers_of o)
some_seen None = refl
some_seen (Some v) = refl

pub is_entered_seen : (n : ℕ) (es : List (ℕ × Vec Handler Global)) → is_some (lookup (is_at (nat_cmp n)) es) ≡ is_entered n (handled_of es)
is_entered_seen n es = some_seen (lookup (is_at (nat_cmp n)) es) ∙ ap is_some (sym (lookup-map_values handlers_of (is_at (nat_cmp n)) es))
