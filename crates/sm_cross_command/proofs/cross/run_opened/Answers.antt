use Rattle.sm_asked_gateway.specs.gateway.GatewayView.{gateway_data}
use Rattle.sm_cross_command.proofs.SessionsOver.{quiet_zero, ran_over}
use Rattle.sm_cross_command.proofs.cross.run_opened.Goals as goal

pub returns-clause-runs : goal.returns-clause-runs
returns-clause-runs g c = record {
  requests = c.bytes.result.now;
  end = c.serve_session-end.result;
  ran = ran_over (gateway_data c.args.opened.gateway) g.P.Patterns.test _ _ c.args.opened.back.items c.bytes.result.now
      c.new-back_in.ensures.left c.new-back_out.ensures c.bytes.ensures quiet_zero quiet_zero c.serve_session-end.result
      c.serve_session-end.ensures.session;
  result = c.write-written.result;
  writes = c.write-written.ensures.bytes;
  cause = c.write-written.ensures.cause;
  is = c.status_after.ensures;
}
