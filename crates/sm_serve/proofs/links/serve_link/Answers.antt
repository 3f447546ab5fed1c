use Rattle.sm_serve.proofs.links.serve_link.Goals as goal

pub returns-clause-link : goal.returns-clause-link
returns-clause-link g c = record { left = _; run = c.serve_session-end.ensures.session; closes = c.close.ensures.closes }
