use Rattle.std.proofs.Common.{length, arith}
use Rattle.sm_model.specs.GraphView.{entries_of, maps_of}
use Rattle.sm_rules.specs.Http.{HasNoUri}
use Rattle.sm_rules.specs.declared.rule.Rule.TheVariants.{HttpUri}
use Rattle.sm_http_traits.proofs.HttpSaid.{operation_there}
use Rattle.sm_passes.proofs.Numbered.{puts_numbers}
use Rattle.sm_http_rules.proofs.uris.put_uris.Goals as goal

pub returns : goal.returns
returns c =
    puts_numbers c.args.graph.now HttpUri (HasNoUri (maps_of c.args.graph.now))
    (λ id detail h. operation_there (maps_of c.args.graph.now) id h.is_operation) (length (entries_of c.args.graph.now)) (omega arith)
    c.args.events.now.items c.put_each.new.events.items c.in_ok-put_each.ensures
