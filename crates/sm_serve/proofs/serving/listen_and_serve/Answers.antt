use Rattle.std.proofs.Common.{inl, inr, ap, refl, subst}
use Rattle.sm_doors.specs.DoorsSeen.{DoorsSeen}
use Rattle.sm_asked_gateway.specs.gateway.GatewayView.{gateway_data}
use Rattle.sm_serve.specs.Links.{ServesLinks}
use Rattle.sm_serve.proofs.LinksServed.{served_earlier}
use Rattle.sm_serve.proofs.serving.listen_and_serve.Goals as goal

pub serve_links-requires : goal.serve_links-requires
serve_links-requires g c = record {
  serves = c.requires.serves;
  kept = c.requires.kept;
  stored = c.requires.stored;
  «open» = ap (λ (d : DoorsSeen). d.phase) c.in-Ok.ensures.listens;
}

pub returns-in-Ok-clause-serves : goal.returns-in-Ok-clause-serves
returns-in-Ok-clause-serves g c =
    inr (subst
    (λ d. ServesLinks (gateway_data c.args.gateway.now) g.P.Patterns.test d (g.D.Doors.seen c.serve_links.new.doors)
    (g.D.Doors.faults c.args.doors.now) (g.D.Doors.faults c.serve_links.new.doors) c.args.words.count c.serve_links.result)
    c.in-Ok.ensures.listens
    (served_earlier (gateway_data c.args.gateway.now) g.P.Patterns.test (g.D.Doors.seen c.listen.new.self)
    (g.D.Doors.seen c.serve_links.new.doors) (g.D.Doors.faults c.args.doors.now) (g.D.Doors.faults c.listen.new.self)
    (g.D.Doors.faults c.serve_links.new.doors) c.args.words.count c.serve_links.result c.listen.ensures.later
    c.serve_links.ensures.links))

pub returns-in-Err-clause-serves : goal.returns-in-Err-clause-serves
returns-in-Err-clause-serves g c =
    inl (record { is = c.code.ensures; rose = c.in-Err.ensures.cause refl; same = c.in-Err.ensures.listens })
