use Rattle.std.proofs.Common.{ap, sym, ◌∙◌}
use Rattle.std.specs.Prelude.{◌||◌}
use Rattle.std.specs.Str.{bytes_eq}
use Rattle.sm_model.specs.SaidView.{statement_view}
use Rattle.sm_merge.specs.Stated.{defines}
use Rattle.sm_merge.specs.steps.Known.{has_text}
use Rattle.sm_merge.proofs.NamesKnown.{one_more}
use Rattle.sm_merge.proofs.names.put_name.Goals as goal

pub returns-in-Ok : goal.returns-in-Ok
returns-in-Ok c = λ id.
    one_more c.args.ids.now c.insert.new.self c.as_str.result.now c.in-Ok.ensures.updates id
    ∙ ap (λ k. has_text c.args.ids.now id || bytes_eq k id) c.as_str.ensures
    ∙ ap (λ s. has_text c.args.ids.now id || defines id (statement_view s)) (sym c.in-Shape.is)
