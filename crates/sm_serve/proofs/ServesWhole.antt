-- Links that were served by the gateway of `start`: the words have one reading.
use Rattle.std.proofs.Common.{◌≡◌, ℕ, List, subst, ◌∙◌}
use Rattle.sm_io.specs.Seen.{FilesSeen}
use Rattle.sm_shapes.specs.Fitting.{Test}
use Rattle.sm_compile.specs.Answers.{StoreSeen}
use Rattle.sm_doors.specs.DoorsSeen.{DoorsSeen}
use Rattle.sm_asked_gateway.specs.MakesGateway.{GatewayIsMade}
use Rattle.sm_asked_gateway.specs.gateway.GatewayData.{GatewayData}
use Rattle.sm_serve.specs.ServeWords.{IsServeForm, ServeAsked}
use Rattle.sm_serve.specs.Serves.{ListensAndServes, StartsAndServes}
use Rattle.sm_serve.specs.Starts.{ForServe}
use Rattle.sm_serve.proofs.ServeForms.{one_serve_form}

pub served_whole : (words : List (List ℕ)) (files : FilesSeen) (test : Test) (store store1 store2 : StoreSeen) (before after : DoorsSeen)
    (faults faults1 code : ℕ) (g : GatewayData) (w : ServeAsked) → IsServeForm words w
    → ForServe words (λ v. GatewayIsMade files test store store1 v.gateway g) → store2.refusals ≡ store1.refusals
    → ListensAndServes g test w before after faults faults1 code
    → ForServe words (StartsAndServes files test store store2 before after faults faults1 code)
served_whole words files test store store1 store2 before after faults faults1 code g w form started refusals served =
    let made : GatewayIsMade files test store store1 w.gateway g =
    subst (λ v. GatewayIsMade files test store store1 v.gateway g) (one_serve_form words started.0 w started.1 form) started.2 in
    (w, form, (g, (refusals ∙ made.0, made.1), served))
