use Rattle.std.proofs.Common.{◌++◌, map, ap, ◌∙◌, append_assoc}
use Rattle.std.specs.Prelude.{string_bytes}
use Rattle.std.proofs.lemmas.Result.{on_ok_weaker}
use Rattle.sm_parts.specs.Targets.{written_literal, written_pair, written_query}
use Rattle.sm_routes.specs.WrittenTargets.{written_path}
use Rattle.sm_routes.proofs.target.put_parts.Goals as goal

pub returns : goal.returns
returns c =
    let query = written_query (map written_literal c.args.literals.now ++ map written_pair c.args.pairs.now) in
    on_ok_weaker c.put_query.result (λ e. e ∙ ap (λ m. m ++ query) c.in_ok-put_path.ensures
    ∙ append_assoc (string_bytes c.args.out.now) (written_path c.args.segments.now c.args.labels.now) query) c.put_query.ensures
