use Rattle.std.proofs.Common.{◌≡◌, ◌++◌, rules, subst}
use Rattle.sm_rest.specs.service.ServiceView.{service_data}
use Rattle.sm_rest.specs.bind.BindingsView.{bindings_data}
use Rattle.sm_rest_read.specs.Begun.{TakesRest, rest_codec, rest_state}
use Rattle.sm_rest_read.proofs.PlacesJoined.{lawful_there, pass_there}
use Rattle.sm_rest_read.proofs.RestBodies.{rest_begun_on, rest_received}
use Rattle.sm_rest_read.proofs.body.RestBody.piece.Goals as goal

pub returns-in-Ok-clause-begun : goal.returns-in-Ok-clause-begun
returns-in-Ok-clause-begun g c asked head empty come begun =
    let rest = c.args.rest.now in
    let same : c.replace-body.result ≡ c.args.self.now = search rules in
    rest_begun_on rest (service_data c.args.service.now) g.P.Patterns.test asked head empty come c.args.bytes.now c.args.self.now
    c.in-Ok.body
    (subst (λ b. TakesRest (rest_codec rest g.P.Patterns.test) b c.args.bytes.now c.in-Ok.body) same c.in-Ok.ensures.takes) begun

pub returns-in-Ok-clause-few : goal.returns-in-Ok-clause-few
returns-in-Ok-clause-few g c asked head empty come pass begun =
    let rest = c.args.rest.now in
    let s = service_data c.args.service.now in
    let kept = bindings_data rest.bindings in
    let are = c.requires.rest.bindings in
    c.holds_few.ensures (rest_codec rest g.P.Patterns.test) (come ++ c.args.bytes.now) (rest_state c.in-Ok.body)
    (lawful_there s.table kept g.P.Patterns.test are (pass_there s.table kept _ g.P.Patterns.test are c.requires.stored pass))
    (rest_received rest s g.P.Patterns.test asked head empty (come ++ c.args.bytes.now) c.in-Ok.body
    (returns-in-Ok-clause-begun g c asked head empty come begun))
