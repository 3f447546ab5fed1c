use Rattle.std.proofs.Common.{[], None}
use Rattle.sm_gateway.specs.GatewayView.{gateway_data}
use Rattle.sm_gateway.specs.steps.Reading.{both_spoken}
use Rattle.sm_gateway.proofs.MessagesCrossed.{front_whole}
use Rattle.sm_gateway.proofs.crossing.request_value.Goals as goal

pub read_on-requires-clause-begun : goal.read_on-requires-clause-begun
read_on-requires-clause-begun g c = (
  record { request = None; head = c.args.message.now.head; empty = c.is_empty.result },
  [],
  c.in-Ok.ensures g.P.Patterns.test
      c.requires.serves,
)

pub finish_front-requires-clause-whole : goal.finish_front-requires-clause-whole
finish_front-requires-clause-whole g c = (
  c.args.message.now,
  front_whole (both_spoken c.args.gateway.now) (gateway_data c.args.gateway.now) g.P.Patterns.test c.read_on.new.body c.args.message.now
      c.is_empty.result
      c.as_slice-bytes.result.now c.as_slice-bytes.ensures c.is_empty.ensures
      (c.in-Ok-read_on.ensures.reads _ [] (c.in-Ok.ensures g.P.Patterns.test c.requires.serves)),
)

pub returns-in-Ok-read_on-clause-reads : goal.returns-in-Ok-read_on-clause-reads
returns-in-Ok-read_on-clause-reads g c =
    c.finish_front.ensures.answers c.args.message.now
    (front_whole (both_spoken c.args.gateway.now) (gateway_data c.args.gateway.now) g.P.Patterns.test c.read_on.new.body
    c.args.message.now c.is_empty.result
    c.as_slice-bytes.result.now c.as_slice-bytes.ensures c.is_empty.ensures
    (c.in-Ok-read_on.ensures.reads _ [] (c.in-Ok.ensures g.P.Patterns.test c.requires.serves)))
