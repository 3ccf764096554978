use Rattle.std.proofs.Common.{◌≡◌, ℕ, List, Bool, true, false, bytes_eq, refl, ap, sym, ◌∙◌}
use Rattle.std.proofs.lemmas.Slice.Eq.{bytes_eq-Decides}
use Rattle.ng_base.specs.declared.path.Key.{Key}
use Rattle.ng_behaviour.specs.Keys.{is_key}
use Rattle.ng_instances.specs.Instances.{scope_path}
use Rattle.ng_build.specs.Shape.{key_on}
use Rattle.ng_instances.specs.InstanceOf.{page_of}
use Rattle.ng_build.proofs.Keys.{other_key, same_key}
use Rattle.ng_instances.proofs.instances.Linked.is_own.Goals as goal

-- a key is the one of its number on a path, where that is its path
own_key : (k : Key) (p : List ℕ) → bytes_eq k.path p ≡ is_key k (key_on p k.serial.0)
own_key k p = by_test (bytes_eq k.path p) refl
  where
    by_test : (b : Bool) → bytes_eq k.path p ≡ b → b ≡ is_key k (key_on p k.serial.0)
    by_test true e = sym (ap (λ (q : List ℕ). is_key k (key_on q k.serial.0)) (sym ((bytes_eq-Decides k.path p).0 e)) ∙ same_key k)
    by_test false e = sym (other_key k (key_on p k.serial.0) (λ same. let two : true ≡ false = sym ((bytes_eq-Decides k.path p).1 (ap (λ (q : Key). q.path) (sym same))) ∙ e in cc))

pub returns : goal.returns
returns c =
    let k = c.args.key.now in
    let p = page_of c.args.path.now c.args.self.now in
    c.eq.ensures ∙ (own_key k (c.path_at.result.now) ∙ ap (λ (q : List ℕ). is_key k (key_on q k.serial.0)) (c.path_at.ensures ∙ ap (λ m. scope_path p m.under) c.mark_at.ensures))
