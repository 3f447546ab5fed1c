use Rattle.std.proofs.Common.{map, sym, ap, ◌∙◌}
use Rattle.std.specs.Option.{option_map}
use Rattle.sm_shapes.specs.TableView.{binding_data}
use Rattle.sm_messages.specs.service.WireMembers.{query_of}
use Rattle.sm_bind_write.specs.steps.FreeKeys.{keys_before}
use Rattle.sm_bind_write.specs.steps.Naming.{is_named}
use Rattle.sm_bind_write.proofs.KeysFree.{all_entries}
use Rattle.sm_bind_write.proofs.taken.before_bound.Goals as goal

pub returns-in-None : goal.returns-in-None
returns-in-None c =
    all_entries c.args.entries.now
    ∙ ap (λ o. keys_before (is_named (query_of (option_map (λ b. binding_data b.now) o))) (map (λ e. e.0) c.args.entries.now)) (sym c.in-None.is)
