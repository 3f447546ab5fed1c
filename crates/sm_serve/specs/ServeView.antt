-- What the words of the code ask for.
use Rattle.sm_asked_gateway.specs.GatewayView.{gateway_asked}
use Rattle.sm_serve.specs.ServeWords.{ServeAsked}
use Rattle.sm_serve.specs.declared.words.ServeWords.{ServeWords}

abbrev pub serve_said : ServeWords → ServeAsked
serve_said w = record { gateway = gateway_asked w.gateway; listen = w.listen.now; connect = w.connect.now; count = w.count }
