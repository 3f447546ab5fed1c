use Rattle.std.proofs.Common.{map, ◌∙◌}
use Rattle.std.specs.Prelude.{string_bytes}
use Rattle.std.proofs.lemmas.Result.{on_ok_weaker}
use Rattle.sm_parts.specs.Targets.{written_pair}
use Rattle.sm_routes.proofs.WrittenPieces.{query_done}
use Rattle.sm_routes.proofs.target.put_query.Goals as goal

pub returns : goal.returns
returns c =
    on_ok_weaker c.put_pairs.result (λ e. e ∙ query_done (string_bytes c.args.out.now) (string_bytes c.put_literals.new.out)
    c.args.literals.now (map written_pair c.args.pairs.now) c.is_empty.result c.in_ok-put_literals.ensures c.is_empty.ensures)
    c.put_pairs.ensures
