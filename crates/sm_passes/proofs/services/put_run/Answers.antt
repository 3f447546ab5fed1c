use Rattle.std.proofs.Common.{length, subst, sym, take, ◌<◌, ◌∙◌}
use Rattle.sm_rules.specs.RuleEvents.{Puts}
use Rattle.sm_passes.specs.Closures.{AreOwnServices}
use Rattle.sm_passes.specs.steps.Groups.{HaveOneClosure, IsServiceRow}
use Rattle.sm_passes.specs.Putting.{ToldOf}
use Rattle.sm_passes.proofs.SharedClosures.{of_first, one_closure, own_services, some_services}
use Rattle.sm_passes.proofs.services.put_run.Goals as goal

pub put_group-requires-clause-own : goal.put_group-requires-clause-own
put_group-requires-clause-own g c =
    let graph = c.args.graph.now in
    let steps = c.args.ways.now.on in
    let rows = c.args.rows.now in
    let count = c.run_len-count.result in
    subst (AreOwnServices graph) (sym (c.as_slice.ensures.value ∙ c.in_ok-services.ensures))
    (own_services graph steps (take count rows) (of_first (IsServiceRow graph steps) count rows c.requires.rows))

pub put_group-requires-clause-some : goal.put_group-requires-clause-some
put_group-requires-clause-some g c =
    subst (λ ks. 0 < length ks) (sym (c.as_slice.ensures.value ∙ c.in_ok-services.ensures))
    (some_services c.args.rows.now c.run_len-count.result c.run_len-count.ensures.some c.run_len-count.ensures.within)

pub put_group-requires-clause-one : goal.put_group-requires-clause-one
put_group-requires-clause-one g c =
    let graph = c.args.graph.now in
    let steps = c.args.ways.now.on in
    let rows = c.args.rows.now in
    let count = c.run_len-count.result in
    let one = c.run_len-count.ensures.one in
    subst (HaveOneClosure graph) (sym (c.as_slice.ensures.value ∙ c.in_ok-services.ensures))
    (one_closure graph steps c.requires.ways.are_on one.0 (take count rows)
    (of_first (IsServiceRow graph steps) count rows c.requires.rows) one.1)

pub returns-clause-told : goal.returns-clause-told
returns-clause-told g c =
    subst (λ ks. Puts (ToldOf (g.R.OfServices.tells c.args.rule.now c.args.graph.now) ks) c.args.events.now.items
    c.put_group.new.events.items) (c.as_slice.ensures.value ∙ c.in_ok-services.ensures) c.in_ok-put_group.ensures.told
