use Rattle.sm_messages.specs.HeadAnswers.{unmarked}
use Rattle.std.proofs.Common.{refl, sym, ◌∙◌}
use Rattle.sm_rpc.proofs.context.Rpc.begin_response.Goals as goal

pub returns-else-is_marked : goal.returns-else-is_marked
returns-else-is_marked c test = unmarked (sym c.is_marked.ensures ∙ c.if-is_marked.false) refl
