-- The commands of a script, one after another.
use Rattle.std.proofs.Common.{◌≡◌, ◌+◌, ◌<◌, ℕ, zero, suc, Bool, List, [], ◌∷◌, ◌++◌, map, length, take, get_or, ap, sym, ◌∙◌, subst, arith}
use Rattle.std.specs.Prelude.{◌&&◌, Option, Ok, Err}
use Rattle.std.proofs.lemmas.List.{take_more, get_or-map, length-take-le, length-map}
use Rattle.ng_inputs.specs.Acts.{IsSound, AreSound}
use Rattle.ng_page.specs.declared.page.Page.{Page}
use Rattle.ng_script.specs.Acts.{act_of, entry_of}
use Rattle.ng_script.specs.declared.commands.Command.{Command}
use Rattle.ng_run.specs.Doing.{DidOne, HasDone, HasStopped, DidAll}
use Rattle.ng_printing.specs.Left.{Left}
use Rattle.ng_run.specs.declared.doing.Halt.{Halt}
use Rattle.ng_run.specs.declared.doing.Halt.TheVariants as halt
use Rattle.ng_run.proofs.Putting.{did_more, did_stop, did_want}

sound_all : (cs : List Command) (k : ℕ) (d : Command) → k < length cs → AreSound (map entry_of cs) → IsSound (act_of (get_or cs k d).what)
sound_all [] k d l h = absurd (omega arith)
sound_all (c ∷ cs) zero d l h = h.0
sound_all (c ∷ cs) (suc k) d l h = sound_all cs k d (omega arith) h.1

pub sound_at : (cs : List Command) (k : ℕ) (x : Command) → k < length cs → x ≡ get_or cs k x → AreSound (map entry_of cs) → IsSound (act_of x.what)
sound_at cs k x l is h = subst (λ (c : Command). IsSound (act_of c.what)) (sym is) (sound_all cs k x l h)

module _ (cs : List Command) (k : ℕ) (x : Command) (l : k < length cs) (is : x ≡ get_or cs k x) where
  pub one_more : take (k + 1) (map entry_of cs) ≡ take k (map entry_of cs) ++ entry_of x ∷ []
  one_more =
      let inside : k < length (map entry_of cs) = subst (λ n. k < n) (sym (length-map cs entry_of)) l in
      take_more (map entry_of cs) k (entry_of x) inside ∙ ap (λ e. take k (map entry_of cs) ++ e ∷ []) (get_or-map entry_of cs k x (entry_of x) l ∙ ap entry_of (sym is))

  first_length : length (take k (map entry_of cs)) ≡ k
  first_length = length-take-le k (map entry_of cs) (let n = length-map cs entry_of in omega arith)

  module _ {K : Type 0} (taken : K → Option (List ℕ)) (faults : K → ℕ) (trace : Bool) (old mid new : K) (left : Left) (page after : Page) (well : Bool) (n : ℕ) (num : n ≡ k + 1) (h : HasDone taken old mid trace (take k (map entry_of cs)) left page well) where
    at : n ≡ 1 + length (take k (map entry_of cs))
    at = let e = first_length in omega arith

    pub done_more : (w : Bool) → DidOne taken faults mid new trace n (entry_of x) page after (Ok w) → HasDone taken old new trace (take (k + 1) (map entry_of cs)) left after (well && w)
    done_more w d = subst (λ es. HasDone taken old new trace es left after (well && w)) (sym one_more) (did_more taken faults trace old mid new (take k (map entry_of cs)) (entry_of x) left page after well n at h w d)

    pub halted : faults mid ≡ faults old → (e : Halt) → DidOne taken faults mid new trace n (entry_of x) page after (Err e) → DidAll taken faults old new trace (map entry_of cs) left after (Err e)
    halted same halt.Put d = (k + 1, subst (λ es. HasStopped taken faults old new trace es left) (sym one_more) (did_stop taken faults trace old mid new (take k (map entry_of cs)) (entry_of x) left page after well n at h same d))
    halted same halt.Memory d = (k, did_want taken faults trace old mid new (take k (map entry_of cs)) (entry_of x) left page after well n at h d)
