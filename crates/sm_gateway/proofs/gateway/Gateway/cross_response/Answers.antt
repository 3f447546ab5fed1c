use Rattle.sm_protocols.specs.messages.Answers.{reply_role, reply_val}
use Rattle.sm_protocols.specs.messages.Goals.{a_response, goal_of}
use Rattle.sm_gateway.specs.GatewayData.{back_form, front_form}
use Rattle.sm_gateway.specs.GatewayView.{gateway_data}
use Rattle.sm_gateway.proofs.GatewayLaws.{operation_other_way, other_way}
use Rattle.sm_gateway.proofs.MessagesCrossed.{crossed_response, refused_response}
use Rattle.sm_gateway.proofs.ValuesRead.{value_read}
use Rattle.sm_gateway.proofs.gateway.Gateway.cross_response.Goals as goal

pub tell_whole-requires-clause-goal : goal.tell_whole-requires-clause-goal
tell_whole-requires-clause-goal g c =
    let gw = gateway_data c.args.self.now in
    let test = g.P.Patterns.test in
    let h = goal_of c.args.operation (reply_role c.in-Ok.reply) in
    (value_read (back_form gw) (front_form gw) (c.each_is_form.ensures gw.back).reads gw.service test (a_response c.args.operation)
    c.args.message.now h (reply_val c.in-Ok.reply) (other_way (front_form gw) (back_form gw) gw.service test c.requires.serves)
    (operation_other_way (front_form gw) (back_form gw) gw.service c.args.operation c.requires.served) c.in-Ok.ensures.reads).near_goal.goal

pub tell_whole-requires-clause-fits : goal.tell_whole-requires-clause-fits
tell_whole-requires-clause-fits g c =
    let gw = gateway_data c.args.self.now in
    let test = g.P.Patterns.test in
    let h = goal_of c.args.operation (reply_role c.in-Ok.reply) in
    (value_read (back_form gw) (front_form gw) (c.each_is_form.ensures gw.back).reads gw.service test (a_response c.args.operation)
    c.args.message.now h (reply_val c.in-Ok.reply) (other_way (front_form gw) (back_form gw) gw.service test c.requires.serves)
    (operation_other_way (front_form gw) (back_form gw) gw.service c.args.operation c.requires.served) c.in-Ok.ensures.reads).fits_any

pub returns-in-Ok-clause-crosses : goal.returns-in-Ok-clause-crosses
returns-in-Ok-clause-crosses g c =
    let gw = gateway_data c.args.self.now in
    crossed_response gw g.P.Patterns.test c.args.operation c.args.message.now c.in-Ok.reply c.tell_whole.result c.in-Ok.ensures.reads
    (c.tell_whole.ensures gw.host)

pub returns-in-Err-clause-crosses : goal.returns-in-Err-clause-crosses
returns-in-Err-clause-crosses g c =
    refused_response (gateway_data c.args.self.now) g.P.Patterns.test c.args.operation c.args.message.now c.in-Err.refusal
    c.in-Err.ensures.reads
