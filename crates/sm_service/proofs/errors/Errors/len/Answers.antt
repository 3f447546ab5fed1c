use Rattle.std.proofs.Common.{◌≡◌, ◌+◌, length, ap, sym, ◌∙◌, arith, rules}
use Rattle.std.proofs.lemmas.List.{length-append}
use Rattle.sm_shapes.specs.SharedView.{shared_list}
use Rattle.sm_service.specs.ErrorsView.{but_at}
use Rattle.sm_service.proofs.errors.Errors.len.Goals as goal

pub overflow_add-result : goal.overflow_add-result
overflow_add-result c =
    let inside = c.self.inside in
    let kept = but_at inside.again.items 0 (shared_list inside.shared) in
    let whole : length c.args.self.now ≡ length inside.own.items + length kept =
    sym (ap length c.self.view_is) ∙ length-append inside.own.items kept in
    let own : c.len.result ≡ length inside.own.items = search rules in
    let others : c.kept_len.result ≡ length kept = search rules in
    omega (arith, whole, own, others, c.requires)
