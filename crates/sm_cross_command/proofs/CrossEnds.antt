-- How `cross` ends, from a session that was run over what was opened, and whose requests were written.
use Rattle.std.proofs.Common.{◌≡◌, ℕ, inl, inr, List, Option, Some, None, Ok, Err, take, drop, sym, ap, subst, refl}
use Rattle.std.specs.Prelude.{Result, IfSome, IsErrOf}
use Rattle.std.proofs.lemmas.List.{take-append-drop}
use Rattle.sm_io.specs.Causes.{HasCause}
use Rattle.sm_io.specs.Files.{Folder, Holds, KeepsOthers, WritesFile}
use Rattle.sm_io.specs.Seen.{FilesSeen}
use Rattle.sm_io.specs.Writing.{AppendsPrefix}
use Rattle.sm_io.specs.declared.files.FileRefusal.{FileRefusal}
use Rattle.sm_io.specs.declared.files.FileRefusal.TheVariants.{Failed, TooLong, NoMemory as no_room}
use Rattle.sm_io.proofs.Counts.{quiet_not_rose}
use Rattle.sm_asked_ends.specs.load.Laws.{ReadyModels}
use Rattle.sm_asked_gateway.specs.service.Laws.{OneService}
use Rattle.sm_session.specs.Sessions.{SessionSaid, flat}
use Rattle.sm_session.specs.declared.session_end.SessionEnd.{SessionEnd}
use Rattle.sm_session.specs.declared.session_end.SessionEnd.TheVariants.{Closed, Quota, FrontEnded, BackEnded, FrontFraming, BackFraming}
use Rattle.sm_session.specs.declared.session_end.SessionEnd.TheVariants.{FrontRead, FrontWrite, BackRead, BackWrite, NoMemory}
use Rattle.sm_asked_ends.specs.asked.Answer.{Came, came_writing}
use Rattle.sm_asked_ends.specs.asked.Answer.InputUse.{in_part}
use Rattle.sm_asked_ends.specs.asked.AskedLaws.{TellsAll}
use Rattle.sm_asked_ends.specs.asked.CommandAsked.{told_by}
use Rattle.sm_asked_ends.specs.asked.Outside.{Outside}
use Rattle.sm_asked_ends.specs.asked.Stages.{Told, IsInput}
use Rattle.sm_asked_ends.specs.asked.declared.status.Status.{Status}
use Rattle.sm_asked_ends.proofs.asked.Answered.{none_is_some}
use Rattle.sm_asked_ends.specs.AskedEnds.{AnswersFor, AskedEnds, HasStreamed, IsWrittenInPart, PrintsFor, PutsPart, WritesPart}
use Rattle.sm_asked_gateway.specs.gateway.GatewayTurns.{Session}
use Rattle.sm_asked_gateway.specs.gateway.GatewayView.{gateway_data}
use Rattle.sm_cross_command.specs.Cross.{CrossSays, cross_asked, end_status, requests_file, session_answer}
use Rattle.sm_cross_command.specs.Cross.CrossSays.{not_opened, session}
use Rattle.sm_cross_command.specs.CrossStages.{CrossOpens, gateway_of}
use Rattle.sm_cross_command.specs.CrossWords.{CrossAsked}
use Rattle.sm_cross_command.specs.declared.cross.Opened.{Opened}
use Rattle.sm_cross_command.specs.steps.CrossSteps.{IsOpenedCross, PartsPut, RanOver, RunsAndWrites, SessionEnds, WholeSession}
use Rattle.sm_cross_command.specs.steps.CrossSteps.{status_after}
use Rattle.sm_cross_command.proofs.OneCross.{answer_apart, session_moved}

-- files that are as they were keep all
pub others_kept : (before after : Option Folder) (name : List ℕ) → after ≡ before → KeepsOthers before after name
others_kept before after name e = subst (λ x. KeepsOthers before x name) (sym e) (kept before)
  where
    kept : (folder : Option Folder) → KeepsOthers folder folder name
    kept None = tt
    kept (Some folder) = λ other apart. refl

module _ (ones : OneService) (ready : ReadyModels) (before after : Outside) (w : CrossAsked)
    (opens : CrossOpens (told_by before.inputs None) w) (refusals : after.inputs.store.refusals ≡ before.inputs.store.refusals)
    (requests : List ℕ) where
  abbrev t : Told
  t = told_by before.inputs None

  -- a session of these bytes of the back
  abbrev Says : List ℕ → SessionSaid → Type 0
  Says front said = Session (gateway_of t w opens) before.inputs.test front opens.back.bytes said

  abbrev Ran : SessionEnd → Type 0
  Ran end = RanOver (gateway_of t w opens) before.inputs.test opens.back.bytes before.inputs.input after.inputs.input before.output after.output
      requests end

  abbrev Whole : SessionEnd → List ℕ → Type 0
  Whole end = WholeSession (gateway_of t w opens) before.inputs.test opens.back.bytes before.output after.output requests end

  streamed : HasStreamed before after (cross_asked w)
  streamed = record { streams = refl; reached = opens; refusals = refusals }

  -- what is said of it is the session's, and parts of it were put
  abbrev IsSessionOf : Came → Type 0
  IsSessionOf c =
      (said : SessionSaid) × (c ≡ came_writing in_part (session_answer said) (Some (requests_file w.out_file said)))
      × PartsPut before.output after.output requests said

  parts_said : (end : SessionEnd) → Ran end → (folder : Folder) (input : List ℕ) (c : Came) → TellsAll t folder input → CrossSays t w c
      → IsSessionOf c
  parts_said end ran folder input c all (not_opened a h e) = absurd (answer_apart ones ready t folder input all w a h opens)
  parts_said end ran folder input c all (session o front is said x e) = (
    said,
    e,
    subst (λ i. IfSome i (λ f. (s : SessionSaid) → Says f s → PartsPut before.output after.output requests s)) all.input ran.parts said
        (session_moved ones ready t folder input all w o opens front input said is
        (subst (λ i. IsInput i input) (sym all.input) refl) x),
  )

  puts_part : (end : SessionEnd) → Ran end → PutsPart before after (cross_asked w)
  puts_part end ran folder input c all says =
      let h = parts_said end ran folder input c all says in
      subst (λ (x : Came). AppendsPrefix before.output.bytes after.output.bytes x.answer.text) (sym h.1) h.2.answers

  -- the file holds the requests that were put
  module _ (holds : Holds after.inputs.files.held w.out_file (Some requests)) where
    in_part_of : (said : SessionSaid) → PartsPut before.output after.output requests said
        → IsWrittenInPart before.inputs.files.held after.inputs.files.held (Some (requests_file w.out_file said))
    in_part_of said p =
        let count = p.requests_are.0 in
        let all = flat said.requests in
        inr (
          take count all,
          drop count all,
          sym (take-append-drop count all),
          subst (λ x. Holds after.inputs.files.held w.out_file (Some x)) p.requests_are.1 holds,
        )

    writes_part : (end : SessionEnd) → Ran end → WritesPart before after (cross_asked w)
    writes_part end ran folder input c all says =
        let h = parts_said end ran folder input c all says in
        subst (λ (x : Came). IsWrittenInPart before.inputs.files.held after.inputs.files.held x.written) (sym h.1)
        (in_part_of h.0 h.2)

    -- the whole session, where the input is told
    whole_prints : (end : SessionEnd) (front : List ℕ) → before.inputs.input.bytes ≡ Some front → Whole end front
        → PrintsFor before after (end_status end) (cross_asked w)
    whole_prints end front is h = (
      flat h.said.answers,
      record {
        taken = in_part;
        written = Some (requests_file w.out_file h.said);
        pattern = None;
        by = refusals;
        only = λ u e. none_is_some u e;
        says = session opens front (subst (λ i. IsInput i front) (sym is) refl) h.said h.is
            (ap (λ s. came_writing in_part (record { status = s; text = flat h.said.answers })
            (Some (requests_file w.out_file h.said))) (ap end_status (sym h.ending)));
        left = tt;
      },
      h.answers,
      subst (λ x. Holds after.inputs.files.held w.out_file (Some x)) h.requests_are holds,
    )

    told_prints : (end : SessionEnd) (input : Option (List ℕ)) → before.inputs.input.bytes ≡ input → IfSome input (Whole end)
        → IfSome input (λ bytes. PrintsFor before after (end_status end) (cross_asked w))
    told_prints end None is h = tt
    told_prints end (Some front) is h = whole_prints end front is h

    answers_for : (end : SessionEnd) → IfSome before.inputs.input.bytes (Whole end)
        → AnswersFor before after (end_status end) (cross_asked w)
    answers_for end h = inr (record { streamed = streamed; told = told_prints end before.inputs.input.bytes refl h })

    -- by its end
    ends_by : (end : SessionEnd) → Ran end
        → SessionEnds (gateway_of t w opens) before.inputs.test opens.back.bytes before.inputs.input after.inputs.input before.output
        after.output requests end
        → AskedEnds before after (cross_asked w) (end_status end)
    ends_by Closed ran so = answers_for Closed so
    ends_by Quota ran so = answers_for Quota so
    ends_by FrontEnded ran so = answers_for FrontEnded so
    ends_by BackEnded ran so = answers_for BackEnded so
    ends_by (FrontFraming why) ran so = answers_for (FrontFraming why) so
    ends_by (BackFraming why) ran so = answers_for (BackFraming why) so
    ends_by FrontRead ran so =
        inr (record { rose = so; reached = opens; refusals = refusals }, (puts_part FrontRead ran, writes_part FrontRead ran))
    ends_by FrontWrite ran so = inr (record {
      streamed = streamed;
      rose = inl so;
      text = puts_part FrontWrite ran;
      file = λ quiet. writes_part FrontWrite ran;
    })
    ends_by BackRead ran so = absurd so
    ends_by BackWrite ran so = absurd so
    ends_by NoMemory ran so = inr (streamed, puts_part NoMemory ran)

  -- by what writing the requests came to
  ends_after : (end : SessionEnd) → Ran end → (result : Result (Unit {0}) FileRefusal)
      → WritesFile before.inputs.files.held after.inputs.files.held w.out_file requests result
      → HasCause (IsErrOf result Failed) before.inputs.files.write_faults after.inputs.files.write_faults
      → AskedEnds before after (cross_asked w) (status_after end result)
  ends_after end ran (Ok done) writes cause = ends_by writes.0 end ran ran.so
  ends_after end ran (Err Failed) writes cause = inr (record {
    streamed = streamed;
    rose = inr (cause refl);
    text = puts_part end ran;
    file = λ quiet. absurd (quiet_not_rose before.inputs.files.write_faults after.inputs.files.write_faults quiet (cause refl));
  })
  ends_after end ran (Err TooLong) writes cause = absurd writes
  ends_after end ran (Err no_room) writes cause = inr (streamed, puts_part end ran)

-- a session of what was opened
pub cross_ends : OneService → ReadyModels → (before after : Outside) (files1 : FilesSeen) (w : CrossAsked) (o : Opened) (status : Status)
    → files1.held ≡ before.inputs.files.held → files1.write_faults ≡ before.inputs.files.write_faults
    → IsOpenedCross before.inputs.files before.inputs.test before.inputs.store w before.inputs.input.bytes o
    → after.inputs.store.refusals ≡ before.inputs.store.refusals
    → RunsAndWrites (gateway_data o.gateway) before.inputs.test o.back.items w.out_file files1 after.inputs.files before.inputs.input
    after.inputs.input before.output after.output status
    → AskedEnds before after (cross_asked w) status
cross_ends ones ready before after files1 w o status held count opened refusals runs =
    let t = told_by before.inputs None in
    let ran : RanOver (gateway_of t w opened.opens) before.inputs.test opened.opens.back.bytes before.inputs.input after.inputs.input
    before.output after.output runs.requests runs.end =
    subst (λ g. RanOver g before.inputs.test opened.opens.back.bytes before.inputs.input after.inputs.input before.output after.output
    runs.requests runs.end) opened.gateway
    (subst (λ b. RanOver (gateway_data o.gateway) before.inputs.test b before.inputs.input after.inputs.input before.output after.output
    runs.requests runs.end) opened.back runs.ran) in
    subst (AskedEnds before after (cross_asked w)) (sym runs.is)
    (ends_after ones ready before after w opened.opens refusals runs.requests runs.end ran runs.result
    (subst (λ h. WritesFile h after.inputs.files.held w.out_file runs.requests runs.result) held runs.writes)
    (subst (λ n. HasCause (IsErrOf runs.result Failed) n after.inputs.files.write_faults) count runs.cause))
