use Rattle.std.proofs.Common.{length, arith}
use Rattle.sm_model.specs.GraphView.{entries_of, maps_of}
use Rattle.sm_rules.specs.Http.{HasWrongStatusCode}
use Rattle.sm_rules.specs.declared.rule.Rule.TheVariants.{HttpCode}
use Rattle.sm_http_rules.proofs.HttpCodes.{code_there}
use Rattle.sm_passes.proofs.Numbered.{puts_numbers}
use Rattle.sm_http_rules.proofs.codes.put_codes.Goals as goal

pub returns : goal.returns
returns c =
    puts_numbers c.args.graph.now HttpCode (HasWrongStatusCode (maps_of c.args.graph.now)) (code_there (maps_of c.args.graph.now))
    (length (entries_of c.args.graph.now)) (omega arith) c.args.events.now.items c.put_each.new.events.items c.in_ok-put_each.ensures
