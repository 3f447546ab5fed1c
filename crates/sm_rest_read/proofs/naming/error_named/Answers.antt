use Rattle.std.proofs.Common.{sym, ◌∙◌}
use Rattle.sm_tree.specs.View.{node_of}
use Rattle.sm_rest.specs.service.ServiceView.{service_data}
use Rattle.sm_rest_read.proofs.RestAnswered.{empty_tells_none, names_error, names_none, naming_refused}
use Rattle.sm_rest_read.proofs.naming.error_named.Goals as goal

pub returns-then-is_empty : goal.returns-then-is_empty
returns-then-is_empty c =
    empty_tells_none (service_data c.args.service.now) c.args.operation c.args.bytes.now (sym c.is_empty.ensures ∙ c.if-is_empty.true)

pub returns-in-Some : goal.returns-in-Some
returns-in-Some c =
    names_error (service_data c.args.service.now) c.args.operation c.args.bytes.now (node_of c.in-Ok.tree) c.in-Some.place
    (sym c.is_empty.ensures ∙ c.if-is_empty.false) c.in-Ok.ensures.text (sym c.place_in.ensures ∙ c.in-Some.is)

pub returns-in-Ok : goal.returns-in-Ok
returns-in-Ok c =
    names_none (service_data c.args.service.now) c.args.operation c.args.bytes.now (node_of c.in-Ok.tree)
    (sym c.is_empty.ensures ∙ c.if-is_empty.false) c.in-Ok.ensures.text (sym c.place_in.ensures ∙ c.in-None.is)

pub returns : goal.returns
returns c =
    naming_refused (service_data c.args.service.now) c.args.operation c.args.bytes.now c.in-Err.refusal c.syntax_refused.result
    (sym c.is_empty.ensures ∙ c.if-is_empty.false) c.syntax_refused.ensures c.in-Err.ensures.text
