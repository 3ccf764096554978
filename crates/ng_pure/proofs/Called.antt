-- The methods that change nothing are no methods of scopes, of events, or such as change arrays.
use Rattle.std.proofs.Common.{◌≡◌, ◌∙◌, ℕ, Bool, true, false, List, refl, sym, ap, subst, bytes_eq, Option, Some, None, codes, true≢false}
use Rattle.std.specs.Prelude.{IsTrue}
use Rattle.std.proofs.lemmas.Slice.Eq.{bytes_eq-Decides}
use Rattle.ng_base.specs.Objects.{Object, object_at}
use Rattle.ng_base.specs.Views.{ViewTree, prim}
use Rattle.ng_base.specs.declared.heap.ObjKind.{ObjKind}
use Rattle.ng_base.specs.declared.heap.ObjKind.TheVariants as kinds
use Rattle.ng_base.specs.declared.value.Value.TheVariants as value
use Rattle.ng_behaviour.specs.Scopes.{Scope, of_object}
use Rattle.ng_members.specs.Names.{is_pure_method}
use Rattle.ng_write.specs.Changing.{change_named}
use Rattle.ng_write.specs.Events.{event_call_named}
use Rattle.ng_core.specs.Calling.{called_on, plainly_called, scope_called, kind_called, of_method, event_or, change_or, scope_method}
use Rattle.ng_core.specs.declared.called.Called.{Called}

record IsPlainly (name : List ℕ) : Type 0 where
  scope : scope_method name ≡ None
  event : event_call_named name ≡ None
  change : change_named name ≡ None

at_word : (name word : List ℕ) → bytes_eq name word ≡ true → IsPlainly word → IsPlainly name
at_word name word h p = subst IsPlainly (sym ((bytes_eq-Decides name word).0 h)) p

plainly : (name : List ℕ) → IsTrue (is_pure_method name) → IsPlainly name
plainly name h = first (bytes_eq name (codes "indexOf")) refl
  where
    first : (b : Bool) → bytes_eq name (codes "indexOf") ≡ b → IsPlainly name
    first true e = at_word name (codes "indexOf") e (record { scope = refl; event = refl; change = refl })
    first false e = second (bytes_eq name (codes "slice")) refl
      where
        second : (b : Bool) → bytes_eq name (codes "slice") ≡ b → IsPlainly name
        second true e2 = at_word name (codes "slice") e2 (record { scope = refl; event = refl; change = refl })
        second false e2 = third (bytes_eq name (codes "concat")) refl
          where
            third : (b : Bool) → bytes_eq name (codes "concat") ≡ b → IsPlainly name
            third true e3 = at_word name (codes "concat") e3 (record { scope = refl; event = refl; change = refl })
            third false e3 = fourth (bytes_eq name (codes "join")) refl
              where
                fourth : (b : Bool) → bytes_eq name (codes "join") ≡ b → IsPlainly name
                fourth true e4 = at_word name (codes "join") e4 (record { scope = refl; event = refl; change = refl })
                fourth false e4 = fifth (bytes_eq name (codes "trim")) refl
                  where
                    fifth : (b : Bool) → bytes_eq name (codes "trim") ≡ b → IsPlainly name
                    fifth true e5 = at_word name (codes "trim") e5 (record { scope = refl; event = refl; change = refl })
                    fifth false e5 = sixth (bytes_eq name (codes "toUpperCase")) refl
                      where
                        sixth : (b : Bool) → bytes_eq name (codes "toUpperCase") ≡ b → IsPlainly name
                        sixth true e6 = at_word name (codes "toUpperCase") e6 (record { scope = refl; event = refl; change = refl })
                        sixth false e6 = last (bytes_eq name (codes "toLowerCase")) refl
                          where
                            last : (b : Bool) → bytes_eq name (codes "toLowerCase") ≡ b → IsPlainly name
                            last true e7 = at_word name (codes "toLowerCase") e7 (record { scope = refl; event = refl; change = refl })
                            last false e7 = absurd (true≢false (sym (rw (e, e2, e3, e4, e5, e6, e7) at h)))

of_kinds : (k : ObjKind) (o : ℕ) (name : List ℕ) (c : Called) → IsPlainly name → kind_called k o name c ≡ c
of_kinds kinds.Plain o name c p = refl
of_kinds kinds.Array o name c p = ap (λ m. change_or m o c) p.change
of_kinds kinds.Scope o name c p = refl
of_kinds kinds.Event o name c p = ap (λ m. event_or m o c) p.event

of_scopes : (s : Option ℕ) (name : List ℕ) (c : Called) → IsPlainly name → scope_called s name c ≡ c
of_scopes (Some s) name c p = ap (λ m. of_method s m c) p.scope
of_scopes None name c p = refl

pub called_plainly : (objects : List Object) (scopes : List Scope) (name : List ℕ) → IsTrue (is_pure_method name) → (u : ViewTree) → called_on objects scopes u name ≡ plainly_called objects u name
unfolding called_on
called_plainly objects scopes name h (prim (value.Obj o)) =
    let p = plainly name h in
    of_scopes (of_object scopes o.0) name _ p ∙ of_kinds (object_at objects o.0).kind o.0 name _ p
called_plainly objects scopes name h u = refl
