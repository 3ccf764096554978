-- Steps that are put one after another.
use Rattle.std.proofs.Common.{◌≡◌, ◌+◌, ℕ, Bool, List, [], ◌∷◌, ◌++◌, length, take, ap, sym, ◌∙◌, subst, arith, append-nil, length-append}
use Rattle.std.specs.Prelude.{◌&&◌, Option, Ok, Err}
use Rattle.std.specs.Io.KnownBytes.{Appends}
use Rattle.std.proofs.KnownBytes.{Appends-trans}
use Rattle.std.proofs.Math.Seq.{take-append-add}
use Rattle.std.proofs.lemmas.List.{take_all}
use Rattle.ng_base.specs.Outside.{TookAll, StopsAtFailure}
use Rattle.ng_page.specs.declared.page.Page.{Page}
use Rattle.ng_script.specs.Acts.{Entry}
use Rattle.ng_run.specs.Doing.{steps_bytes, DidOne, HasDone, HasStopped, HasWanted}
use Rattle.ng_run.specs.Doing.{IsStepOf}
use Rattle.ng_printing.specs.StepSeen.{step_seen}
use Rattle.ng_printing.specs.Left.{Left}
use Rattle.ng_run.specs.Steps.{Does}
use Rattle.ng_run.specs.declared.doing.Halt.TheVariants as halt
use Rattle.ng_printing.specs.declared.reply.Lines.{Lines}
use Rattle.ng_run.proofs.Continuing.{continues_more, bytes_more, well_more}

-- a whole was taken, and then a first part
pub took_after : (old mid new : Option (List ℕ)) (b c : List ℕ) → Appends old mid b → TookAll mid new c → TookAll old new (b ++ c)
took_after old mid new b c h (n, l, k) =
    let all = length-append b c in
    (length b + n, omega arith, subst (λ x. Appends old new x) (sym (take-append-add b c n)) (Appends-trans old mid new b (take n c) h k))

pub took_whole : (old new : Option (List ℕ)) (b : List ℕ) → Appends old new b → TookAll old new b
took_whole old new b h = (length b, omega arith, subst (λ x. Appends old new x) (sym (take_all (length b) b (omega arith))) h)

module _ {K : Type 0} (taken : K → Option (List ℕ)) (faults : K → ℕ) where
  -- a whole was put, and then a put failed
  pub stops_after : (old mid new : K) (b c : List ℕ) → Appends (taken old) (taken mid) b → faults mid ≡ faults old → StopsAtFailure taken faults mid new c → StopsAtFailure taken faults old new (b ++ c)
  stops_after old mid new b c h same (at, n, l, k, e, keeps, rose) =
      let all = length-append b c in
      (at, length b + n, omega arith, subst (λ x. Appends (taken old) (taken at) x) (sym (take-append-add b c n)) (Appends-trans (taken old) (taken mid) (taken at) b (take n c) h k), e ∙ same, keeps, rose)

  -- one command
  module _ (old new : K) (trace : Bool) (k : ℕ) (e : Entry) (before after : Page) (l : Lines) (did : IsStepOf trace k e before l after) where
    pub one_stopped : TookAll (taken old) (taken new) l.piece.items → StopsAtFailure taken faults old new l.piece.items → DidOne taken faults old new trace k e before after (Err halt.Put)
    one_stopped part stops = (step_seen l, did.0, did.1, part, stops)

  module _ (trace : Bool) (old mid new : K) (es : List Entry) (e : Entry) (left : Left) (page after : Page) (well : Bool) (n : ℕ) (num : n ≡ 1 + length es) (h : HasDone taken old mid trace es left page well) where
    pub did_more : (w : Bool) → DidOne taken faults mid new trace n e page after (Ok w) → HasDone taken old new trace (es ++ e ∷ []) left after (well && w)
    did_more w (x, next, does, put, good, leaves) = record {
      steps = h.steps ++ x ∷ [];
      end = next;
      continues = continues_more trace 1 n es e left h.steps h.end x next num h.continues (subst (λ s. Does trace n e s x next) h.leaves.state does);
      put = subst (λ b. Appends (taken old) (taken new) b) (sym (bytes_more h.steps x)) (Appends-trans (taken old) (taken mid) (taken new) (steps_bytes h.steps) x.lines h.put put);
      good = well_more h.steps x ∙ (ap (λ b. b && x.well) h.good ∙ ap (λ b. well && b) good);
      leaves = leaves;
    }

    pub did_stop : faults mid ≡ faults old → DidOne taken faults mid new trace n e page after (Err halt.Put) → HasStopped taken faults old new trace (es ++ e ∷ []) left
    did_stop same (x, next, does, part, stops) = record {
      steps = h.steps ++ x ∷ [];
      end = next;
      continues = continues_more trace 1 n es e left h.steps h.end x next num h.continues (subst (λ s. Does trace n e s x next) h.leaves.state does);
      part = subst (λ b. TookAll (taken old) (taken new) b) (sym (bytes_more h.steps x)) (took_after (taken old) (taken mid) (taken new) (steps_bytes h.steps) x.lines h.put part);
      stops = subst (λ b. StopsAtFailure taken faults old new b) (sym (bytes_more h.steps x)) (stops_after old mid new (steps_bytes h.steps) x.lines h.put same stops);
    }

    pub did_want : DidOne taken faults mid new trace n e page after (Err halt.Memory) → HasWanted taken old new trace es left
    did_want put = record {
      steps = h.steps;
      end = h.end;
      continues = h.continues;
      put = subst (λ b. Appends (taken old) (taken new) b) (append-nil (steps_bytes h.steps)) (Appends-trans (taken old) (taken mid) (taken new) (steps_bytes h.steps) [] h.put put);
    }
