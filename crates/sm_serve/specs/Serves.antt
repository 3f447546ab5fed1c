-- What `serve` comes to.
use Rattle.std.specs.Prelude.{◌≡◌, ◌⊎◌, ℕ, List}
use Rattle.sm_io.specs.Causes.{Rose}
use Rattle.sm_io.specs.Seen.{FilesSeen}
use Rattle.sm_shapes.specs.Fitting.{Test}
use Rattle.sm_compile.specs.Answers.{StoreSeen}
use Rattle.sm_doors.specs.DoorsSeen.{DoorsSeen, behind_listen}
use Rattle.sm_asked_gateway.specs.asked.Answer.{code_of}
use Rattle.sm_asked_gateway.specs.asked.declared.status.Status.TheVariants.{ReadFault}
use Rattle.sm_asked_gateway.specs.MakesGateway.{GatewayIsMade}
use Rattle.sm_asked_gateway.specs.gateway.GatewayData.{GatewayData}
use Rattle.sm_serve.specs.Links.{ServesLinks}
use Rattle.sm_serve.specs.ServeWords.{ServeAsked}
use Rattle.sm_serve.specs.Starts.{ForServe, Stops}

-- the doors couldn't listen: no link was accepted, and the cause is their fault
pub record ListensNot (before after : DoorsSeen) (faults faults1 code : ℕ) : Type 0 where
  pub is : code ≡ code_of ReadFault
  pub rose : Rose faults faults1
  pub same : Path DoorsSeen after before

-- or they listened, and the links were served that were asked for
abbrev pub ListensAndServes : GatewayData → Test → ServeAsked → DoorsSeen → DoorsSeen → ℕ → ℕ → ℕ → Type 0
ListensAndServes g test w before after faults faults1 code =
    ListensNot before after faults faults1 code
    ⊎ ServesLinks g test (behind_listen before) after faults faults1 w.count code

-- there is a gateway, by which links are served
abbrev pub StartsAndServes : FilesSeen → Test → StoreSeen → StoreSeen → DoorsSeen → DoorsSeen → ℕ → ℕ → ℕ → ServeAsked → Type 0
StartsAndServes files test store store1 before after faults faults1 code w =
    (g : GatewayData) × GatewayIsMade files test store store1 w.gateway g × ListensAndServes g test w before after faults faults1 code

-- there is none, and the doors are as they were
pub record StartsNot (words : List (List ℕ)) (files files1 : FilesSeen) (test : Test) (store store1 : StoreSeen) (before after : DoorsSeen)
    (faults faults1 code : ℕ) : Type 0 where
  pub stops : Stops words files files1 test store store1 code
  pub same : Path DoorsSeen after before
  pub quiet : faults1 ≡ faults

abbrev pub Serves : List (List ℕ) → FilesSeen → FilesSeen → Test → StoreSeen → StoreSeen → DoorsSeen → DoorsSeen → ℕ → ℕ → ℕ → Type 0
Serves words files files1 test store store1 before after faults faults1 code =
    StartsNot words files files1 test store store1 before after faults faults1 code
    ⊎ ForServe words (StartsAndServes files test store store1 before after faults faults1 code)
