-- What was put of a reply.
use Rattle.std.proofs.Common.{◌≡◌, ◌≢◌, ℕ, Bool, true, false, List, [], ◌∷◌, ◌++◌, refl, ap, sym, ◌∙◌, subst, Option, Some, None, Err, arith, append-nil}
use Rattle.std.specs.Prelude.{◌&&◌, if◌then◌else◌}
use Rattle.std.specs.Io.KnownBytes.{Appends}
use Rattle.std.proofs.KnownBytes.{Appends-trans}
use Rattle.ng_base.specs.Outside.{TookAll, StopsAtFailure}
use Rattle.ng_page.specs.declared.page.Page.{Page}
use Rattle.ng_script.specs.Acts.{entries_of}
use Rattle.ng_inputs.specs.Files.{Telling}
use Rattle.ng_words.specs.Words.{Words}
use Rattle.ng_run.specs.Doing.{steps_bytes, HasDone, HasStopped, HasWanted, DidAll, WritesPage}
use Rattle.ng_printing.specs.StepSeen.{step_seen}
use Rattle.ng_run.specs.ReplyOf.{IsPageTo}
use Rattle.ng_run.specs.Run.{Puts, Writes, RunsSession, is_traced, Causes, HasPage}
use Rattle.ng_run.specs.Session.{Reply, reply_bytes, done, Extent, whole, first, within, SessionWithin, Replies}
use Rattle.ng_printing.specs.Left.{Left}
use Rattle.ng_run.specs.declared.doing.Halt.{Halt}
use Rattle.ng_run.specs.declared.doing.Halt.TheVariants as halt
use Rattle.ng_printing.specs.declared.reply.Opened.{Opened}
use Rattle.ng_run.proofs.Causes.{reply_session, reply_causes, reply_left}
use Rattle.ng_run.proofs.Putting.{took_after, took_whole, stops_after}
use Rattle.ng_run.proofs.Sessions.{session_took}

abbrev pub line_reply : ℕ → List ℕ → Reply
line_reply status piece = record { status = status; pieces = piece ∷ []; page = None }

module _ {K : Type 0} (taken : K → Option (List ℕ)) (faults : K → ℕ) where
  -- a put failed, and nothing is said but of what was put
  pub stopped_put : (old new : K) (x : Extent) (r : Reply) → TookAll (taken old) (taken new) (reply_bytes r) → StopsAtFailure taken faults old new (reply_bytes r) → Puts taken faults old new 7 None x r
  stopped_put old new x r part stops = record {
    part = part;
    bytes = λ n. absurd (n refl);
    stopped = λ _. stops;
    extent = λ n _. absurd (n refl);
    answer = λ n _. absurd (n refl);
    left = λ n _. absurd (n refl);
  }

  -- ---- the steps of a page

  module _ (old mid new : K) (o : Opened) (left : Left) where
    -- the first step was not put whole
    pub none_put : TookAll (taken old) (taken new) o.step.piece.items → StopsAtFailure taken faults old new o.step.piece.items → WritesPage taken faults old new 7 None o left
    none_put part stops = (
      first 0,
      [],
      left,
      (refl, refl),
      stopped_put old new (first 0) (done (step_seen o.step ∷ []) left) (subst (λ b. TookAll (taken old) (taken new) b) (sym (append-nil o.step.piece.items)) part)
          (subst (λ b. StopsAtFailure taken faults old new b) (sym (append-nil o.step.piece.items)) stops),
    )

    module _ (put : Appends (taken old) (taken mid) o.step.piece.items) where
      abbrev by_well : Bool → ℕ
      by_well b = if b then 0 else 1

      not_seven : (b : Bool) → by_well b ≡ 7 → ⊥
      not_seven true e = omega (arith, e)
      not_seven false e = omega (arith, e)

      pub all_put : (well : Bool) (page : Page) → HasDone taken mid new o.flags.trace (entries_of o.commands) left page well → WritesPage taken faults old new (by_well (o.step.well && well)) (Some page) o left
      all_put well page h =
          let bytes : Appends (taken old) (taken new) (o.step.piece.items ++ steps_bytes h.steps) = Appends-trans (taken old) (taken mid) (taken new) o.step.piece.items (steps_bytes h.steps) put h.put in (
            whole,
            h.steps,
            h.end,
            h.continues,
            record {
              part = took_whole (taken old) (taken new) (o.step.piece.items ++ steps_bytes h.steps) bytes;
              bytes = λ _. bytes;
              stopped = λ e. absurd (not_seven (o.step.well && well) e);
              extent = λ _ _. refl;
              answer = λ _ _. ap (λ b. by_well (o.step.well && b)) (sym h.good);
              left = λ _ _. h.leaves;
            },
          )

      pub some_stopped : (n : Extent) → HasStopped taken faults mid new o.flags.trace (within n (entries_of o.commands)) left → faults mid ≡ faults old → WritesPage taken faults old new 7 None o left
      some_stopped n h same = (
        n,
        h.steps,
        h.end,
        h.continues,
        stopped_put old new n (done (step_seen o.step ∷ h.steps) h.end) (took_after (taken old) (taken mid) (taken new) o.step.piece.items (steps_bytes h.steps) put h.part)
            (stops_after taken faults old mid new o.step.piece.items (steps_bytes h.steps) put same h.stops),
      )

      pub some_wanted : (n : Extent) → HasWanted taken mid new o.flags.trace (within n (entries_of o.commands)) left → WritesPage taken faults old new 8 None o left
      some_wanted n h =
          let bytes : Appends (taken old) (taken new) (o.step.piece.items ++ steps_bytes h.steps) = Appends-trans (taken old) (taken mid) (taken new) o.step.piece.items (steps_bytes h.steps) put h.put in (
            n,
            h.steps,
            h.end,
            h.continues,
            record {
              part = took_whole (taken old) (taken new) (o.step.piece.items ++ steps_bytes h.steps) bytes;
              bytes = λ _. bytes;
              stopped = λ e. absurd (omega (arith, e));
              extent = λ _ n. absurd (n refl);
              answer = λ _ n. absurd (n refl);
              left = λ _ n. absurd (n refl);
            },
          )

      -- a put failed, or memory was refused, at some command
      pub stopped_at : (h : Halt) (page : Page) → h ≡ halt.Put → DidAll taken faults mid new o.flags.trace (entries_of o.commands) left page (Err h) → faults mid ≡ faults old → WritesPage taken faults old new 7 None o left
      stopped_at h page is d same = let at = subst (λ k. DidAll taken faults mid new o.flags.trace (entries_of o.commands) left page (Err k)) is d in some_stopped (first at.0) at.1 same

      pub wanted_at : (h : Halt) (page : Page) → h ≡ halt.Memory → DidAll taken faults mid new o.flags.trace (entries_of o.commands) left page (Err h) → WritesPage taken faults old new 8 None o left
      wanted_at h page is d = let at = subst (λ k. DidAll taken faults mid new o.flags.trace (entries_of o.commands) left page (Err k)) is d in some_wanted (first at.0) at.1

  -- a run that ended so
  pub ended_so : (old new : K) (o : Opened) (left : Left) (status n : ℕ) (page : Option Page) → status ≡ n → page ≡ None → WritesPage taken faults old new n None o left → WritesPage taken faults old new status page o left
  ended_so old new o left status n page e f h = subst (λ s. WritesPage taken faults old new s page o left) (sym e) (subst (λ p. WritesPage taken faults old new n p o left) (sym f) h)

  pub page_writes : (old new : K) (status : ℕ) (page : Option Page) (Calls : Extent → Reply → Type 0) (o : Opened) (to : IsPageTo Calls o) → WritesPage taken faults old new status page o to.left → Writes taken faults old new status page Calls
  page_writes old new status page Calls o to (e, rest, end, more, puts) = (e, done (step_seen o.step ∷ rest) end, to.calls e rest end more, puts)

  -- ---- the session

  module _ (old new : K) (status : ℕ) (page : Option Page) (words : Option Words) (told : Telling) (before now : List (List ℕ)) where
    pub writes_session : Writes taken faults old new status page (λ e r. Replies e words told before now r) → RunsSession taken old new status page words told before now
    writes_session (e, r, calls, puts) i tells same =
        let is = reply_session e words told before now r calls i tells same in
        record {
          part = λ q h. session_took e (is_traced words) i r q (taken old) (taken new) is h puts.part;
          whole = λ n m. (r, subst (λ x. SessionWithin x (is_traced words) i r) (puts.extent n m) is, puts.bytes n, puts.answer n m, puts.left n m);
        }

    pub writes_causes : Writes taken faults old new status page (λ e r. Replies e words told before now r) → status ≢ 7 → status ≢ 8 → Causes words told before now status
    writes_causes (e, r, calls, puts) n m = subst (λ k. Causes words told before now k) (sym (puts.answer n m)) (reply_causes e words told before now r (puts.extent n m) calls)

    -- a line leaves no page
    pub line_page : (s : ℕ) (piece : List ℕ) → Replies whole words told before now (line_reply s piece) → Puts taken faults old new status page whole (line_reply s piece) → page ≡ None → HasPage status page
    line_page s piece calls puts none =
        let left = reply_left whole words told before now (line_reply s piece) calls in
        subst (λ p. HasPage status p) (sym none) (
          (λ e. left.0 (sym (puts.answer (λ k. omega (arith, e, k)) (λ k. omega (arith, e, k))) ∙ e)),
          (λ e. left.1 (sym (puts.answer (λ k. omega (arith, e, k)) (λ k. omega (arith, e, k))) ∙ e)),
        )
