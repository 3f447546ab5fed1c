-- What a gateway is seen as: a service, the protocol of its front and that of its back, and the host that its requests to the back name.
use Rattle.std.specs.Prelude.{◌<◌, ◌&&◌, Bool, IsTrue, List, ℕ, length, nat_le}
use Rattle.std.specs.List.{list_all}
use Rattle.sm_shapes.specs.Fitting.{Test}
use Rattle.sm_http.specs.declared.message.Protocol.{Protocol}
use Rattle.sm_protocols.specs.service.ServiceData.{ServiceData}
use Rattle.sm_protocols.specs.messages.Crossings.{towards}
use Rattle.sm_protocols.specs.messages.IsForm.{Serves, ServesOperation}
use Rattle.sm_protocols.specs.messages.MessageForm.{MessageForm}
use Rattle.sm_protocols.specs.Forms.{form_of}

pub record GatewayData : Type 0 where
  pub service : ServiceData
  pub front : Protocol
  pub back : Protocol
  pub host : List ℕ

abbrev pub front_form : GatewayData → MessageForm
front_form g = form_of g.front

abbrev pub back_form : GatewayData → MessageForm
back_form g = form_of g.back

-- what a host may be called: 1 to 255 visible bytes of ASCII
abbrev pub is_visible : ℕ → Bool
is_visible c = nat_le 33 c && nat_le c 126

abbrev pub IsHost : List ℕ → Type 0
IsHost host = (0 < length host) × (length host < 256) × IsTrue (list_all is_visible host)

-- both protocols serve the service, and its defaults pass their patterns
abbrev pub ServesBoth : GatewayData → Test → Type 0
ServesBoth g test = Serves (towards (front_form g) (back_form g)) g.service test

-- the operation is one of the service, and both protocols serve it
abbrev pub ServesAtBoth : GatewayData → ℕ → Type 0
ServesAtBoth g o = ServesOperation (towards (front_form g) (back_form g)) g.service o
