use Rattle.std.proofs.Common.{◌⊎◌}
use Rattle.sm_model.specs.GraphView.{maps_of}
use Rattle.sm_model.specs.Reaching.{id_of_number}
use Rattle.sm_passes.proofs.EventsPut.{puts_both}
use Rattle.sm_http_rules.specs.steps.WireNames.{ToldHeaders, ToldJson, ToldQueries}
use Rattle.sm_http_rules.proofs.wire_names.put_names.Goals as goal

pub returns : goal.returns
returns c =
    let m = maps_of c.args.graph.now in
    let id = id_of_number c.args.graph.now c.args.shape in
    puts_both (λ e. ToldHeaders m id e ⊎ ToldQueries m id e) (ToldJson m id) c.args.events.now.items c.put_queries.new.events.items
    c.put_json.new.events.items
    (puts_both (ToldHeaders m id) (ToldQueries m id) c.args.events.now.items c.put_headers.new.events.items c.put_queries.new.events.items
    c.in_ok-put_headers.ensures c.in_ok-put_queries.ensures) c.in_ok-put_json.ensures
