use Rattle.std.proofs.Common.{ap, ◌∙◌}
use Rattle.std.specs.Option.{option_map}
use Rattle.std.proofs.lemmas.Option.{slice_get-map}
use Rattle.sm_model.specs.Reaching.{id_of_number}
use Rattle.sm_service.proofs.error_rows.error_row.Goals as goal

pub returns : goal.returns
returns c =
    let id = id_of_number c.args.graph.now in
    record {
      id_is = c.in_ok-id.ensures;
      number = slice_get-map id c.args.shapes.now c.row_at.result ∙ ap (option_map id) c.row_at.ensures;
      client = c.is_client.ensures;
      status = c.status_of.ensures;
    }
