use Rattle.std.proofs.Common.{map, sym, ap, ◌∙◌}
use Rattle.std.specs.Prelude.{Some}
use Rattle.sm_shapes.specs.TableView.{binding_data}
use Rattle.sm_messages.specs.service.WireMembers.{query_of}
use Rattle.sm_bind_write.specs.steps.FreeKeys.{keys_before}
use Rattle.sm_bind_write.specs.steps.Naming.{is_named}
use Rattle.sm_bind_write.proofs.KeysFree.{all_entries}
use Rattle.sm_bind_write.proofs.taken.before_query.Goals as goal

pub returns-in-Label : goal.returns-in-Label
returns-in-Label c =
    all_entries c.args.entries.now
    ∙ ap (λ b. keys_before (is_named (query_of (Some (binding_data b)))) (map (λ e. e.0) c.args.entries.now)) (sym c.in-Label.is)

pub returns-in-QueryParams : goal.returns-in-QueryParams
returns-in-QueryParams c =
    all_entries c.args.entries.now
    ∙ ap (λ b. keys_before (is_named (query_of (Some (binding_data b)))) (map (λ e. e.0) c.args.entries.now)) (sym c.in-QueryParams.is)

pub returns-in-Header : goal.returns-in-Header
returns-in-Header c =
    all_entries c.args.entries.now
    ∙ ap (λ b. keys_before (is_named (query_of (Some (binding_data b)))) (map (λ e. e.0) c.args.entries.now)) (sym c.in-Header.is)

pub returns-in-PrefixHeaders : goal.returns-in-PrefixHeaders
returns-in-PrefixHeaders c =
    all_entries c.args.entries.now
    ∙ ap (λ b. keys_before (is_named (query_of (Some (binding_data b)))) (map (λ e. e.0) c.args.entries.now)) (sym c.in-PrefixHeaders.is)

pub returns-in-Payload : goal.returns-in-Payload
returns-in-Payload c =
    all_entries c.args.entries.now
    ∙ ap (λ b. keys_before (is_named (query_of (Some (binding_data b)))) (map (λ e. e.0) c.args.entries.now)) (sym c.in-Payload.is)

pub returns-in-ResponseCode : goal.returns-in-ResponseCode
returns-in-ResponseCode c =
    all_entries c.args.entries.now
    ∙ ap (λ b. keys_before (is_named (query_of (Some (binding_data b)))) (map (λ e. e.0) c.args.entries.now)) (sym c.in-ResponseCode.is)
