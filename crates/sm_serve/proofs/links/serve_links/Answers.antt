use Rattle.std.proofs.Common.{◌≡◌, ap, sym, subst, ◌∙◌, refl, arith}
use Rattle.sm_asked_gateway.specs.asked.Answer.{code_of}
use Rattle.sm_asked_gateway.specs.asked.declared.status.Status.TheVariants.{ReadFault}
use Rattle.sm_asked_gateway.specs.gateway.GatewayView.{gateway_data}
use Rattle.sm_serve.specs.Links.{HasServed}
use Rattle.sm_serve.proofs.LinksServed.{all_served, next_served, none_served}
use Rattle.sm_serve.proofs.links.serve_links.Goals as goal

pub loop-served-init : goal.loop-served-init
loop-served-init g c = record {
  within = omega arith;
  served = none_served (gateway_data c.args.gateway.now) g.P.Patterns.test (g.D.Doors.seen c.args.doors.now) c.requires.open;
  later = omega arith;
  added = refl;
  refused = refl;
  refusals = refl;
}

pub loop-served-preserved : goal.loop-served-preserved
loop-served-preserved g c = record {
  within = omega (arith, c.loop-served-test.true);
  served = next_served (gateway_data c.args.gateway.now) g.P.Patterns.test c.loop-served.short c.short_after-short.result
      c.loop-served.served (g.D.Doors.seen c.args.doors.now) (g.D.Doors.seen c.loop-served.doors) (g.D.Doors.seen c.accept.new.self)
      (g.D.Doors.seen c.serve_link-end.new.doors) _ c.serve_link-end.result c.loop-served.invariant.served c.in-Ok.ensures.accepts.0
      c.serve_link-end.ensures.link c.short_after-short.ensures;
  later = omega (arith, c.loop-served.invariant.later, c.accept.ensures.later, c.serve_link-end.ensures.later);
  added = c.serve_link-end.ensures.added ∙ c.loop-served.invariant.added;
  refused = c.serve_link-end.ensures.refused ∙ c.loop-served.invariant.refused;
  refusals = c.serve_link-end.ensures.refusals ∙ c.loop-served.invariant.refusals;
}

pub returns-in-Err-clause-links : goal.returns-in-Err-clause-links
returns-in-Err-clause-links g c = (
  ReadFault,
  c.code.ensures,
  (
    c.loop-served.served,
    c.loop-served.short,
    c.loop-served-test.true,
    omega (arith, c.loop-served.invariant.later, c.in-Err.ensures.cause refl),
    subst
        (HasServed (gateway_data c.args.gateway.now) g.P.Patterns.test c.loop-served.short c.loop-served.served
        (g.D.Doors.seen c.args.doors.now))
        (sym c.in-Err.ensures.accepts) c.loop-served.invariant.served,
  ),
)

pub returns-clause-links : goal.returns-clause-links
returns-clause-links g c =
    let all : c.loop-served.served ≡ c.args.count = omega (arith, c.loop-served.invariant.within, c.loop-served-test.false) in
    all_served (gateway_data c.args.gateway.now) g.P.Patterns.test (g.D.Doors.seen c.args.doors.now)
    (g.D.Doors.seen c.loop-served.doors) (g.D.Doors.faults c.args.doors.now) (g.D.Doors.faults c.loop-served.doors) c.args.count
    c.code-2.result c.loop-served.short
    (subst
    (λ n. HasServed (gateway_data c.args.gateway.now) g.P.Patterns.test c.loop-served.short n (g.D.Doors.seen c.args.doors.now)
    (g.D.Doors.seen c.loop-served.doors))
    all c.loop-served.invariant.served)
    (c.code-2.ensures ∙ ap code_of c.all_status.ensures)
