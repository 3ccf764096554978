-- What a reply says of the words, the fetches and the files.
use Rattle.std.proofs.Common.{◌≡◌, ◌≢◌, ℕ, Bool, true, false, List, refl, ap, sym, ◌∙◌, subst, Option, Some, None, arith, inl, inr}
use Rattle.std.specs.Prelude.{◌⊎◌, ◌↔◌, Result, Ok, Err, if◌then◌else◌}
use Rattle.ng_inputs.specs.Files.{File, Inputs, Telling, Fetched, brought, unread, overlong, Fetches, files_of, no_inputs, FetchFailed, LongFile}
use Rattle.ng_inputs.specs.Refusals.{Accepted, accepted, refusal_status}
use Rattle.ng_words.specs.Words.{Words}
use Rattle.ng_inputs.specs.declared.refusal.Refusal.{Refusal}
use Rattle.ng_inputs.specs.declared.refusal.Refusal.TheVariants.{Document, Application, Template, Script}
use Rattle.ng_inputs.proofs.Fetching.{tells_brought, unread_failed, IsUnread, failed_unread, overlong_long, IsOverlong, long_overlong}
use Rattle.ng_run.specs.Run.{is_traced, TellsAll, StepsEnd, SessionCauses, Causes}
use Rattle.ng_run.specs.Session.{Reply, all_well, Extent, whole, Runs, SessionOf, SessionWithin, Session, FetchedReply, Replies}
use Rattle.ng_printing.specs.Left.{Left, Step}
use Rattle.ng_run.specs.Steps.{RunsSteps}
use Rattle.ng_run.proofs.Sessions.{steps_one}

abbrev status_of : Reply → ℕ
status_of r = r.status

-- ---- the session by its causes

abbrev by_well : Bool → ℕ
by_well well = if well then 0 else 1

well_zero : (b : Bool) → by_well b ≡ 0 → b ≡ true
well_zero true e = refl
well_zero false e = absurd (omega (arith, e))

well_one : (b : Bool) → by_well b ≡ 1 → b ≡ false
well_one true e = absurd (omega (arith, e))
well_one false e = refl

either : (b : Bool) → (by_well b ≡ 0) ⊎ (by_well b ≡ 1)
either true = inl refl
either false = inr refl

-- the steps of a page are the same in each run
same_well : (trace : Bool) (a : Accepted) (xs : List Step) (l : Left) (b : Bool) → RunsSteps trace a xs l → StepsEnd b trace a → all_well xs ≡ b
same_well trace a xs l b h (ys, m, k, e) = ap all_well (steps_one trace a xs ys l m h k).0 ∙ e

runs_well : (trace : Bool) (a : Accepted) (r : Reply) → Runs whole trace a r → ((status_of r ≡ 0) ↔ StepsEnd true trace a) × ((status_of r ≡ 1) ↔ StepsEnd false trace a) × ((status_of r ≡ 0) ⊎ (status_of r ≡ 1))
runs_well trace a r (xs, l, h, e) =
    let w = all_well xs in
    let is : status_of r ≡ by_well w = ap status_of e in (
      ((λ z. (xs, l, h, well_zero w (sym is ∙ z))), (λ k. is ∙ ap by_well (same_well trace a xs l true h k))),
      ((λ z. (xs, l, h, well_one w (sym is ∙ z))), (λ k. is ∙ ap by_well (same_well trace a xs l false h k))),
      subst (λ n. (n ≡ 0) ⊎ (n ≡ 1)) (sym is) (either w),
    )

abbrev ok_of : Accepted → Result Accepted Refusal
ok_of a = Ok a

abbrev err_of : Refusal → Result Accepted Refusal
err_of f = Err f

same_refusal : (f g : Refusal) → err_of f ≡ err_of g → f ≡ g
same_refusal f g e = cc

not_both : (a : Accepted) (f : Refusal) → ok_of a ≡ err_of f → ⊥
not_both a f e = cc

accepted_same : (i : Inputs) (a b : Accepted) → accepted i ≡ Ok a → accepted i ≡ Ok b → a ≡ b
accepted_same i a b e f = let x : ok_of a ≡ ok_of b = sym e ∙ f in cc

caused : (trace : Bool) (i : Inputs) (c : Result Accepted Refusal) (r : Reply) → accepted i ≡ c → SessionOf whole trace c r → SessionCauses trace i (status_of r)
caused trace i (Ok a) r is o = record {
  refused = λ f e. absurd (not_both a f (sym is ∙ e));
  opened = λ b e. (runs_well trace a r o).2;
  well = λ b e. subst (λ x. (status_of r ≡ 0) ↔ StepsEnd true trace x) (accepted_same i a b is e) (runs_well trace a r o).0;
  faulted = λ b e. subst (λ x. (status_of r ≡ 1) ↔ StepsEnd false trace x) (accepted_same i a b is e) (runs_well trace a r o).1;
}
caused trace i (Err f) r is o = record {
  refused = λ g e. ap status_of o ∙ ap refusal_status (same_refusal f g (sym is ∙ e));
  opened = λ b e. absurd (not_both b f (sym e ∙ is));
  well = λ b e. absurd (not_both b f (sym e ∙ is));
  faulted = λ b e. absurd (not_both b f (sym e ∙ is));
}

pub session_causes : (trace : Bool) (i : Inputs) (r : Reply) → Session trace i r → SessionCauses trace i (status_of r)
session_causes trace i r o = caused trace i (accepted i) r refl o

-- ---- the statuses

-- a session has none of the other statuses
abbrev OfSession : ℕ → Type 0
OfSession n = (n ≢ 2) × (n ≢ 6) × (n ≢ 7) × (n ≢ 8) × (n ≢ 9)

refusal_of_session : (f : Refusal) → OfSession (refusal_status f)
refusal_of_session (Document f) = ((λ e. omega (arith, e)), (λ e. omega (arith, e)), (λ e. omega (arith, e)), (λ e. omega (arith, e)), (λ e. omega (arith, e)))
refusal_of_session (Application f) = ((λ e. omega (arith, e)), (λ e. omega (arith, e)), (λ e. omega (arith, e)), (λ e. omega (arith, e)), (λ e. omega (arith, e)))
refusal_of_session (Template f) = ((λ e. omega (arith, e)), (λ e. omega (arith, e)), (λ e. omega (arith, e)), (λ e. omega (arith, e)), (λ e. omega (arith, e)))
refusal_of_session (Script f) = ((λ e. omega (arith, e)), (λ e. omega (arith, e)), (λ e. omega (arith, e)), (λ e. omega (arith, e)), (λ e. omega (arith, e)))

well_of_session : (b : Bool) → OfSession (by_well b)
well_of_session true = ((λ e. omega (arith, e)), (λ e. omega (arith, e)), (λ e. omega (arith, e)), (λ e. omega (arith, e)), (λ e. omega (arith, e)))
well_of_session false = ((λ e. omega (arith, e)), (λ e. omega (arith, e)), (λ e. omega (arith, e)), (λ e. omega (arith, e)), (λ e. omega (arith, e)))

session_status : (x : Extent) (trace : Bool) (c : Result Accepted Refusal) (r : Reply) → SessionOf x trace c r → OfSession (status_of r)
session_status x trace (Ok a) r (xs, l, h, e) = subst OfSession (sym (ap status_of e)) (well_of_session (all_well xs))
session_status x trace (Err f) r e = subst OfSession (sym (ap status_of e)) (refusal_of_session f)

abbrev OfEnd : Fetched → ℕ → Type 0
OfEnd (brought i) n = OfSession n
OfEnd (unread f) n = n ≡ 6
OfEnd (overlong role m) n = n ≡ 9

end_status : (x : Extent) (trace : Bool) (fs : List File) (end : Fetched) (r : Reply) → FetchedReply x trace fs end r → OfEnd end (status_of r)
end_status x trace fs (brought i) r h = session_status x trace (accepted i) r h
end_status x trace fs (unread f) r h = ap status_of h
end_status x trace fs (overlong role n) r h = ap status_of h

-- ---- the causes

not_two : (end : Fetched) (n : ℕ) → OfEnd end n → n ≡ 2 → ⊥
not_two (brought i) n h e = h.0 e
not_two (unread f) n h e = absurd (omega (arith, h, e))
not_two (overlong role m) n h e = absurd (omega (arith, h, e))

unread_at_six : (end : Fetched) (n : ℕ) → OfEnd end n → n ≡ 6 → IsUnread end
unread_at_six (brought i) n h e = absurd (h.1 e)
unread_at_six (unread f) n h e = (f, refl)
unread_at_six (overlong role m) n h e = absurd (omega (arith, h, e))

overlong_at_nine : (end : Fetched) (n : ℕ) → OfEnd end n → n ≡ 9 → IsOverlong end
overlong_at_nine (brought i) n h e = absurd (h.4 e)
overlong_at_nine (unread f) n h e = absurd (omega (arith, h, e))
overlong_at_nine (overlong role m) n h e = (role, m, refl)

module _ (x : Extent) (w : Words) (told : Telling) (before now : List (List ℕ)) (end : Fetched) (r : Reply) (fetches : Fetches told no_inputs (files_of w) before now end) (reply : FetchedReply x w.flags.trace (files_of w) end r) where
  status : OfEnd end (status_of r)
  status = end_status x w.flags.trace (files_of w) end r reply

  six : IsUnread end → status_of r ≡ 6
  six (f, e) = subst (λ x. OfEnd x (status_of r)) e status

  nine : IsOverlong end → status_of r ≡ 9
  nine (role, n, e) = subst (λ x. OfEnd x (status_of r)) e status

  grew : IsUnread end → FetchFailed (files_of w) before now
  grew (f, e) = unread_failed told (files_of w) no_inputs before now f (subst (λ x. Fetches told no_inputs (files_of w) before now x) e fetches)

  grown : FetchFailed (files_of w) before now → IsUnread end
  grown (name, is, e) = failed_unread told (files_of w) no_inputs before now name end fetches e

  long : IsOverlong end → LongFile told (files_of w)
  long (role, n, e) = overlong_long told (files_of w) no_inputs before now role n (subst (λ x. Fetches told no_inputs (files_of w) before now x) e fetches)

  of_files : (i : Inputs) → TellsAll (Some w) told i → now ≡ before → SessionWithin x w.flags.trace i r
  of_files i tells same = subst (λ f. FetchedReply x w.flags.trace (files_of w) f r) (tells_brought told (files_of w) no_inputs i before now end fetches tells same) reply

  some_causes : x ≡ whole → Causes (Some w) told before now (status_of r)
  some_causes all = record {
    usage = ((λ e. absurd (not_two end (status_of r) status e)), (λ e. absurd (cc)));
    unread = ((λ e. grew (unread_at_six end (status_of r) status e)), (λ h. six (grown h)));
    overlong = λ e. long (overlong_at_nine end (status_of r) status e);
    long = λ h same. nine (long_overlong told (files_of w) no_inputs before now end fetches h same);
    session = λ i tells same. session_causes w.flags.trace i r (subst (λ e. SessionWithin e w.flags.trace i r) all (of_files i tells same));
  }

  no_put : (e : Fetched) → OfEnd e (status_of r) → (status_of r ≢ 7) × (status_of r ≢ 8)
  no_put (brought i) h = (h.2, h.3)
  no_put (unread f) h = ((λ e. omega (arith, h, e)), (λ e. omega (arith, h, e)))
  no_put (overlong role n) h = ((λ e. omega (arith, h, e)), (λ e. omega (arith, h, e)))

  some_put : (status_of r ≢ 7) × (status_of r ≢ 8)
  some_put = no_put end status

none_causes : (told : Telling) (before now : List (List ℕ)) (n : ℕ) → n ≡ 2 → Causes None told before now n
none_causes told before now n two = record {
  usage = ((λ e. refl), (λ e. two));
  unread = ((λ e. absurd (omega (arith, two, e))), (λ h. absurd (h.1)));
  overlong = λ e. absurd (omega (arith, two, e));
  long = λ h same. absurd h;
  session = λ i tells same. absurd tells;
}

pub reply_causes : (x : Extent) (words : Option Words) (told : Telling) (before now : List (List ℕ)) (r : Reply) → x ≡ whole → Replies x words told before now r → Causes words told before now r.status
reply_causes x None told before now r all h = none_causes told before now (status_of r) (ap status_of h.1)
reply_causes x (Some w) told before now r all (end, fetches, reply) = some_causes x w told before now end r fetches reply all

pub reply_session : (x : Extent) (words : Option Words) (told : Telling) (before now : List (List ℕ)) (r : Reply) → Replies x words told before now r → (i : Inputs) → TellsAll words told i → now ≡ before → SessionWithin x (is_traced words) i r
reply_session x None told before now r h i tells same = absurd tells
reply_session x (Some w) told before now r (end, fetches, reply) i tells same = of_files x w told before now end r fetches reply i tells same

-- no reply has the status of a put that failed, or of want of memory
pub reply_put : (x : Extent) (words : Option Words) (told : Telling) (before now : List (List ℕ)) (r : Reply) → Replies x words told before now r → (r.status ≢ 7) × (r.status ≢ 8)
reply_put x None told before now r h = let two = ap status_of h.1 in ((λ e. omega (arith, two, e)), (λ e. omega (arith, two, e)))
reply_put x (Some w) told before now r (end, fetches, reply) = some_put x w told before now end r fetches reply

-- ---- the page

abbrev pub HasLeft : ℕ → Option Left → Type 0
HasLeft n None = (n ≢ 0) × (n ≢ 1)
HasLeft n (Some l) = (n ≡ 0) ⊎ (n ≡ 1)

abbrev pub LeftBy : Reply → Type 0
LeftBy r = HasLeft r.status r.page

refusal_left : (f : Refusal) → (refusal_status f ≢ 0) × (refusal_status f ≢ 1)
refusal_left (Document f) = ((λ e. omega (arith, e)), (λ e. omega (arith, e)))
refusal_left (Application f) = ((λ e. omega (arith, e)), (λ e. omega (arith, e)))
refusal_left (Template f) = ((λ e. omega (arith, e)), (λ e. omega (arith, e)))
refusal_left (Script f) = ((λ e. omega (arith, e)), (λ e. omega (arith, e)))

session_left : (x : Extent) (trace : Bool) (c : Result Accepted Refusal) (r : Reply) → SessionOf x trace c r → LeftBy r
session_left x trace (Ok a) r (xs, l, h, e) = subst LeftBy (sym e) (either (all_well xs))
session_left x trace (Err f) r e = subst LeftBy (sym e) (refusal_left f)

end_left : (x : Extent) (trace : Bool) (fs : List File) (end : Fetched) (r : Reply) → FetchedReply x trace fs end r → LeftBy r
end_left x trace fs (brought i) r h = session_left x trace (accepted i) r h
end_left x trace fs (unread f) r e = subst LeftBy (sym e) ((λ k. omega (arith, k)), (λ k. omega (arith, k)))
end_left x trace fs (overlong role n) r e = subst LeftBy (sym e) ((λ k. omega (arith, k)), (λ k. omega (arith, k)))

pub reply_left : (x : Extent) (words : Option Words) (told : Telling) (before now : List (List ℕ)) (r : Reply) → Replies x words told before now r → LeftBy r
reply_left x None told before now r h = subst LeftBy (sym h.1) ((λ k. omega (arith, k)), (λ k. omega (arith, k)))
reply_left x (Some w) told before now r (end, fetches, reply) = end_left x w.flags.trace (files_of w) end r reply
