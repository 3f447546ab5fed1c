use Rattle.std.proofs.Common.{map, min, sym, ap, ◌∙◌}
use Rattle.std.specs.List.{filter_map}
use Rattle.sm_messages.specs.service.WireMembers.{query_of}
use Rattle.sm_bind.specs.BoundView.{bound_of}
use Rattle.sm_bind.specs.Roles.{binding_on, is_among, query_names}
use Rattle.sm_bind_write.specs.steps.FreeKeys.{keys_before}
use Rattle.sm_bind_write.proofs.KeysFree.{either}
use Rattle.sm_bind_write.proofs.taken.free_len.Goals as goal

pub returns : goal.returns
returns c =
    let keys = map (λ e. e.0) c.args.entries.now in
    let b = bound_of c.args.place.now in
    c.smaller.ensures ∙ ap (λ n. min n c.before_names.result) c.before_literals.ensures
    ∙ ap (λ n. min (keys_before (is_among b.literals) keys) n) (c.before_names.ensures
    ∙ ap (λ ms. keys_before (is_among (filter_map (λ k. query_of (binding_on b k)) ms)) keys) c.members.ensures)
    ∙ sym (either (is_among b.literals) (is_among (query_names b)) keys)
