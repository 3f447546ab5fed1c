use Rattle.sm_shapes.specs.ValueView.{val_of}
use Rattle.sm_protocols.specs.messages.Goals.{goal_of, the_input}
use Rattle.sm_protocols.specs.Kept.{protocol_of}
use Rattle.sm_gateway.specs.GatewayData.{back_form, front_form}
use Rattle.sm_gateway.specs.GatewayView.{gateway_data}
use Rattle.sm_gateway.specs.steps.Reading.{ReadsBoth}
use Rattle.sm_gateway.proofs.MessagesCrossed.{crossed_request, refused_request, uncarried_request}
use Rattle.sm_gateway.proofs.MessagesFinished.{request_value}
use Rattle.sm_gateway.proofs.ValuesKept.{far_serves}
use Rattle.sm_gateway.proofs.gateway.Gateway.cross_request.Goals as goal

pub request_value-requires-clause-reads : goal.request_value-requires-clause-reads
request_value-requires-clause-reads g c =
    record {
      front = (c.each_is_form.ensures (protocol_of c.args.self.now.front)).reads;
      back =
          (c.each_is_form.ensures (protocol_of c.args.self.now.back)).reads;
    }

pub ask_whole-requires-clause-served : goal.ask_whole-requires-clause-served
ask_whole-requires-clause-served g c =
    let gw = gateway_data c.args.self.now in
    let reads : ReadsBoth gw =
    record { front = (c.each_is_form.ensures gw.front).reads; back = (c.each_is_form.ensures gw.back).reads } in
    far_serves (front_form gw) (back_form gw) gw.service c.in-Ok.read.0
    (request_value gw g.P.Patterns.test c.requires.serves reads c.args.message.now (goal_of c.in-Ok.read.0 the_input)
    (val_of c.in-Ok.read.1)
    c.in-Ok.ensures.reads).served

pub ask_whole-requires-clause-fits : goal.ask_whole-requires-clause-fits
ask_whole-requires-clause-fits g c =
    let gw = gateway_data c.args.self.now in
    let reads : ReadsBoth gw =
    record { front = (c.each_is_form.ensures gw.front).reads; back = (c.each_is_form.ensures gw.back).reads } in
    (request_value gw g.P.Patterns.test c.requires.serves reads c.args.message.now (goal_of c.in-Ok.read.0 the_input)
    (val_of c.in-Ok.read.1)
    c.in-Ok.ensures.reads).fits_any

pub returns-in-Err-clause-crosses : goal.returns-in-Err-clause-crosses
returns-in-Err-clause-crosses g c =
    refused_request (gateway_data c.args.self.now) g.P.Patterns.test c.args.message.now c.in-Err.refusal c.in-Err.ensures.reads

pub returns-in-Ok-ask_whole-clause-crosses : goal.returns-in-Ok-ask_whole-clause-crosses
returns-in-Ok-ask_whole-clause-crosses g c =
    crossed_request (gateway_data c.args.self.now) g.P.Patterns.test c.args.message.now c.in-Ok-ask_whole.far c.in-Ok.read.0
    (val_of c.in-Ok.read.1) c.in-Ok.ensures.reads c.in-Ok-ask_whole.ensures

pub returns-clause-crosses : goal.returns-clause-crosses
returns-clause-crosses g c =
    uncarried_request (gateway_data c.args.self.now) g.P.Patterns.test c.args.message.now c.in-Ok.read.0 (val_of c.in-Ok.read.1)
    c.in-Err-ask_whole.refusal c.in-Ok.ensures.reads c.in-Err-ask_whole.ensures
