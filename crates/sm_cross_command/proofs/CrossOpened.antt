-- What opening a session comes to, from what its service and the back's file come to.
use Rattle.std.proofs.Common.{◌≡◌, ◌≤◌, ℕ, List, Option, Some, None, Ok, Err, ap, sym, subst, ◌∙◌, refl, arith}
use Rattle.std.specs.Prelude.{Result, IfOk}
use Rattle.sm_io.specs.Causes.{Rose}
use Rattle.sm_io.specs.Files.{Holds}
use Rattle.sm_io.specs.Seen.{FilesSeen}
use Rattle.sm_shapes.specs.Fitting.{Test}
use Rattle.sm_shapes.specs.InOrder.{AreStored}
use Rattle.sm_compile.specs.Answers.{StoreSeen}
use Rattle.sm_asked_gateway.specs.service.ServiceData.{ServiceData}
use Rattle.sm_asked_gateway.specs.service.ServiceView.{service_data}
use Rattle.sm_asked_gateway.specs.service.declared.service.Service.{Service}
use Rattle.sm_asked_ends.specs.asked.Answer.{Answer}
use Rattle.sm_asked_ends.specs.asked.Stages.{FileTooLong, told}
use Rattle.sm_asked_ends.specs.asked.declared.stop.CommandStop.{CommandStop}
use Rattle.sm_asked_ends.specs.asked.steps.FileSteps.{PassesLimit}
use Rattle.sm_asked_ends.proofs.asked.Answered.{none_is_some}
use Rattle.sm_asked_ends.proofs.asked.Stops.{stops_map}
use Rattle.sm_asked_gateway.specs.asked_service.LoadsService.{CanBeServed, LoadsService, StandsBefore}
use Rattle.sm_asked_gateway.specs.asked_service.ServiceAnswers.{ServiceAnswers}
use Rattle.sm_asked_gateway.specs.gateway.GatewayData.{GatewayData, ServesBoth}
use Rattle.sm_asked_gateway.specs.gateway.GatewayView.{gateway_data}
use Rattle.sm_asked_gateway.specs.rest.Laws.{TargetTextsWhereJson}
use Rattle.sm_asked_gateway.proofs.LoadedServices.{loaded_serves}
use Rattle.sm_cross_command.specs.Cross.{CrossAnswers}
use Rattle.sm_cross_command.specs.Cross.CrossAnswers.{not_made, long_back}
use Rattle.sm_cross_command.specs.CrossWords.{CrossAsked}
use Rattle.sm_cross_command.specs.declared.cross.Opened.{Opened}
use Rattle.sm_cross_command.specs.steps.CrossSteps.{IsOpened, IsOpenedCross, OpensCross, OpensService}

-- a service that isn't there
pub service_stops : (files files1 : FilesSeen) (test : Test) (store store1 : StoreSeen) (w : CrossAsked) (stop : CommandStop)
    → LoadsService files files1 test store store1 w.models w.service (Err stop) → OpensCross files files1 test store store1 w (Err stop)
service_stops files files1 test store store1 w stop h =
    stops_map (StandsBefore (λ t a. ServiceAnswers t w.models w.service a) files test store store1)
    (StandsBefore (λ t a. CrossAnswers t w a) files test store store1)
    (Rose files.read_faults files1.read_faults × (store1.refusals ≡ store.refusals))
    (Rose files.read_faults files1.read_faults × (store1.refusals ≡ store.refusals)) (Unit {0}) (Unit {0}) stop
    (λ a is. record { pattern = is.pattern; by = is.by; only = is.only; says = λ input. not_made (is.says input) })
    (λ fails. fails) (λ short. short) h

abbrev gateway_with : CrossAsked → ServiceData → GatewayData
gateway_with w s = record { service = s; front = w.front; back = w.back; host = w.host }

-- a service that is there
module _ (files files1 files2 : FilesSeen) (test : Test) (store store1 : StoreSeen) (w : CrossAsked) (made : Service)
    (loads : LoadsService files files1 test store store1 w.models w.service (Ok made)) (held : files1.held ≡ files.held)
    (later : files.read_faults ≤ files1.read_faults) where
  back_says : (a : Answer) → PassesLimit files1.held w.back_file a → StandsBefore (λ t a. CrossAnswers t w a) files test store store1 a
  back_says a (long, e) = record {
    pattern = None;
    by = loads.0;
    only = λ u n. none_is_some u n;
    says = λ input. long_back (loads.1 input).made (subst (λ f. FileTooLong f w.back_file) held long) e;
  }

  is_opened : (o : Opened) → IsOpened files1.held w (service_data made) o → (input : Option (List ℕ))
      → IsOpenedCross files test store w input o
  is_opened o h input =
      let l = loads.1 input in
      record {
        opens = record {
          made = l.made;
          back = record {
            bytes = o.back.items;
            held = subst (λ f. Holds f w.back_file (Some o.back.items)) held h.held;
            within = h.within;
          };
        };
        gateway = h.gateway ∙ ap (gateway_with w) l.is;
        back = refl;
      }

  pub cross_opens : (result : Result Opened CommandStop) → OpensService files1 files2 w (service_data made) result
      → OpensCross files files2 test store store1 w result
  cross_opens (Ok o) h = (loads.0, is_opened o h)
  cross_opens (Err stop) h =
      stops_map (PassesLimit files1.held w.back_file) (StandsBefore (λ t a. CrossAnswers t w a) files test store store1)
      (Rose files1.read_faults files2.read_faults) (Rose files.read_faults files2.read_faults × (store1.refusals ≡ store.refusals))
      (Unit {0}) (Unit {0}) stop back_says (λ rose. (rose_on rose, loads.0)) (λ short. short) h
    where
      rose_on : Rose files1.read_faults files2.read_faults → Rose files.read_faults files2.read_faults
      rose_on rose = omega (arith, later, rose)

  -- the gateway serves, and its patterns are stored
  module _ (added : List (List ℕ)) (served : CanBeServed (service_data made) test added) where
    pub opened_serves : TargetTextsWhereJson → (result : Result Opened CommandStop)
        → OpensService files1 files2 w (service_data made) result → IfOk result (λ o. ServesBoth (gateway_data o.gateway) test)
    opened_serves texts (Ok o) h =
        subst (λ g. ServesBoth g test) (sym h.gateway)
        (loaded_serves texts (told files.held None test store None) w.models w.service (service_data made) (loads.1 None) added served
        w.front w.back w.host)
    opened_serves texts (Err stop) h = tt

    pub opened_stored : (result : Result Opened CommandStop) → OpensService files1 files2 w (service_data made) result
        → IfOk result (λ o. AreStored (gateway_data o.gateway).service.table.patterns added)
    opened_stored (Ok o) h = subst (λ (g : GatewayData). AreStored g.service.table.patterns added) (sym h.gateway) served.stored
    opened_stored (Err stop) h = tt
