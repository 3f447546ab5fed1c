use Rattle.std.proofs.Common.{subst, sym, ap}
use Rattle.sm_codec.specs.Defaults.{filled}
use Rattle.sm_service.specs.Filled.{over_table}
use Rattle.sm_service.specs.ServiceView.{service_data}
use Rattle.sm_asked_service.specs.LoadsService.{CanBeServed}
use Rattle.sm_asked_service.proofs.ServicesMade.{served_with}
use Rattle.sm_asked_service.proofs.service.with_defaults.Goals as goal

pub returns-in-Ok-clause-filled : goal.returns-in-Ok-clause-filled
returns-in-Ok-clause-filled g c = ap (over_table (service_data c.args.service)) c.in-Ok.ensures.filled

pub returns-in-Ok-clause-served : goal.returns-in-Ok-clause-served
returns-in-Ok-clause-served g c =
    let s = service_data c.args.service in
    subst (λ t. CanBeServed (over_table s t) g.P.Patterns.test (g.P.Patterns.added c.fill_defaults.new.patterns))
    (sym c.in-Ok.ensures.filled)
    (subst (λ added. CanBeServed (over_table s (filled s.table g.P.Patterns.test)) g.P.Patterns.test added) (sym c.fill_defaults.ensures.added)
    (served_with s g.P.Patterns.test (g.P.Patterns.added c.args.patterns.now) c.stays_servable.ensures c.requires))
