-- Files, an input and a store that are told come to one session, or to one answer before it.
use Rattle.std.proofs.Common.{◌≡◌, ℕ, List, Some, refl, sym, ap, subst, ◌∙◌}
use Rattle.sm_io.specs.Files.{Folder, Holds}
use Rattle.sm_codec.specs.Defaults.{filled}
use Rattle.sm_asked_ends.specs.load.Laws.{ReadyModels}
use Rattle.sm_asked_gateway.specs.service.Filled.{over_table}
use Rattle.sm_asked_gateway.specs.service.Laws.{OneService, StaysServable}
use Rattle.sm_asked_gateway.specs.service.ServiceData.{ServiceData}
use Rattle.sm_session.specs.Sessions.{SessionSaid, turn_limit}
use Rattle.sm_asked_ends.specs.asked.Answer.{Answer, Came, came, came_writing}
use Rattle.sm_asked_ends.specs.asked.Answer.InputUse.{in_part, untouched}
use Rattle.sm_asked_ends.specs.asked.AskedLaws.{ComesToOne, TellsAll}
use Rattle.sm_asked_ends.specs.asked.Stages.{Told, FileRead, FileTooLong, IsInput}
use Rattle.sm_asked_ends.proofs.asked.FilesRead.{bytes_same, not_long}
use Rattle.sm_asked_ends.proofs.asked.ToldAll.{IsToldWhole, all_told}
use Rattle.sm_asked_gateway.proofs.asked_service.OneServiceAsked.{service_apart, service_same, services_same}
use Rattle.sm_asked_gateway.proofs.asked_service.ServicesMade.{served_with, service_ready}
use Rattle.sm_asked_gateway.specs.gateway.GatewayData.{GatewayData, ServesBoth}
use Rattle.sm_asked_gateway.specs.gateway.GatewayTurns.{Session}
use Rattle.sm_asked_gateway.specs.gateway.Laws.{OneSession}
use Rattle.sm_asked_gateway.specs.rest.Laws.{TargetTextsWhereJson}
use Rattle.sm_asked_gateway.specs.asked_service.ServiceStages.{service_of}
use Rattle.sm_asked_gateway.proofs.LoadedServices.{loaded_serves}
use Rattle.sm_cross_command.specs.Cross.{CrossAnswers, CrossSays, cross_asked, requests_file, session_answer}
use Rattle.sm_cross_command.specs.Cross.CrossAnswers.{not_made, long_back}
use Rattle.sm_cross_command.specs.Cross.CrossSays.{not_opened, session}
use Rattle.sm_cross_command.specs.CrossStages.{CrossOpens, gateway_of}
use Rattle.sm_cross_command.specs.CrossWords.{CrossAsked}

-- a session that may begin is one of a gateway that serves
pub opens_serves : StaysServable → TargetTextsWhereJson → (t : Told) (w : CrossAsked) (o : CrossOpens t w)
    → ServesBoth (gateway_of t w o) t.test
opens_serves stays texts t w o =
    let m = o.made in
    loaded_serves texts t w.models w.service (service_of t w.models w.service m) (record { made = m; is = refl }) m.now.added
    (served_with m.one t.test m.now.added stays
    (service_ready m.there.loaded.graph w.service t.test t.store m.now m.one m.compiled))
    w.front w.back w.host

module _ (ones : OneService) (ready : ReadyModels) (t : Told) (folder : Folder) (input : List ℕ) (all : TellsAll t folder input)
    (w : CrossAsked) where
  abbrev whole : IsToldWhole t
  whole = all_told t folder input all

  -- one gateway, and one back
  gateways_same : (h i : CrossOpens t w) → Path GatewayData (gateway_of t w h) (gateway_of t w i)
  gateways_same h i =
      ap (λ (s : ServiceData). record {
        service = over_table s (filled s.table t.test);
        front = w.front;
        back = w.back;
        host = w.host;
      })
      (services_same t whole w.models w.service ones ready h.made i.made)

  backs_same : (h i : FileRead t.files w.back_file) → h.bytes ≡ i.bytes
  backs_same h i =
      bytes_same folder w.back_file h.bytes i.bytes (subst (λ f. Holds f w.back_file (Some h.bytes)) all.files h.held)
      (subst (λ f. Holds f w.back_file (Some i.bytes)) all.files i.held)

  -- so a session of the one is that of the other
  pub session_moved : (h i : CrossOpens t w) (front front1 : List ℕ) (said : SessionSaid) → IsInput t.input front → IsInput t.input front1
      → Session (gateway_of t w h) t.test front h.back.bytes said → Session (gateway_of t w i) t.test front1 i.back.bytes said
  session_moved h i front front1 said is is1 x =
      subst (λ g. Session g t.test front1 i.back.bytes said) (gateways_same h i)
      (subst (λ b. Session (gateway_of t w h) t.test front1 b said) (backs_same h.back i.back)
      (subst (λ f. Session (gateway_of t w h) t.test f h.back.bytes said) (whole.inputs front front1 is is1) x))

  not_long_back : FileTooLong t.files w.back_file → FileRead t.files w.back_file → ⊥
  not_long_back long read =
      not_long folder w.back_file (subst (λ f. FileTooLong f w.back_file) all.files long)
      (subst (λ f. FileRead f w.back_file) all.files read)

  -- no answer stands before a session that may begin
  pub answer_apart : (a : Answer) → CrossAnswers t w a → CrossOpens t w → ⊥
  answer_apart a (not_made h) o = service_apart t whole w.models w.service a h o.made
  answer_apart a (long_back made long e) o = not_long_back long o.back

  -- and two are one
  answers_same : (a b : Answer) → CrossAnswers t w a → CrossAnswers t w b → a ≡ b
  answers_same a b (not_made h) (not_made h1) = service_same t whole w.models w.service a b h h1
  answers_same a b (not_made h) (long_back made1 long1 e1) = absurd (service_apart t whole w.models w.service a h made1)
  answers_same a b (long_back made long e) (not_made h1) = absurd (service_apart t whole w.models w.service b h1 made)
  answers_same a b (long_back made long e) (long_back made1 long1 e1) = e ∙ sym e1

  module _ (stays : StaysServable) (texts : TargetTextsWhereJson) (sessions : OneSession) where
    said_same : (h i : CrossOpens t w) (front front1 : List ℕ) (said said1 : SessionSaid) → IsInput t.input front → IsInput t.input front1
        → Session (gateway_of t w h) t.test front h.back.bytes said → Session (gateway_of t w i) t.test front1 i.back.bytes said1
        → said ≡ said1
    said_same h i front front1 said said1 is is1 x y =
        sessions (gateway_of t w i) t.test (opens_serves stays texts t w i) turn_limit front1 i.back.bytes said said1
        (session_moved h i front front1 said is is1 x) y

    pub cross_same : (c d : Came) → CrossSays t w c → CrossSays t w d → c ≡ d
    cross_same c d (not_opened a h e) (not_opened a1 h1 e1) = e ∙ ap (came untouched) (answers_same a a1 h h1) ∙ sym e1
    cross_same c d (not_opened a h e) (session o1 f1 is1 said1 x1 e1) = absurd (answer_apart a h o1)
    cross_same c d (session o f is said x e) (not_opened a1 h1 e1) = absurd (answer_apart a1 h1 o)
    cross_same c d (session o f is said x e) (session o1 f1 is1 said1 x1 e1) =
        e ∙ ap (λ (s : SessionSaid). came_writing in_part (session_answer s) (Some (requests_file w.out_file s)))
        (said_same o o1 f f1 said said1 is is1 x x1) ∙ sym e1

pub one_cross : OneService → ReadyModels → StaysServable → TargetTextsWhereJson → OneSession → (w : CrossAsked) → ComesToOne (cross_asked w)
one_cross ones ready stays texts sessions w t folder input c d all says says1 =
    cross_same ones ready t folder input all w stays texts sessions c d says says1
