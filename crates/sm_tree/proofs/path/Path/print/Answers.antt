use Rattle.std.proofs.Common.{◌≤◌, ◌++◌, length, string_bytes, subst, sym, ap, ◌∙◌, append-nil}
use Rattle.std.proofs.lemmas.List.{at_drop_all}
use Rattle.sm_tree.specs.Pointer.{pointer}
use Rattle.sm_tree.proofs.path.Path.print.Goals as goal

pub returns : goal.returns
returns c =
    let steps = c.args.self.now in
    let past : length steps ≤ c.loop-step.step-index = subst (λ s. length s ≤ c.loop-step.step-index) c.as_slice-step-items.ensures
    c.loop-step-test.false in
    let none_left = at_drop_all pointer steps c.loop-step.step-index past in
    sym (append-nil (string_bytes c.loop-step.out)) ∙ ap (λ s. string_bytes c.loop-step.out ++ s) (sym none_left) ∙ c.loop-step.invariant
