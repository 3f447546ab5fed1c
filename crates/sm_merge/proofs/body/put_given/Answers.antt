use Rattle.std.proofs.Common.{◌≡◌, ◌++◌, [], ◌∷◌, sym, ap, subst, ◌∙◌}
use Rattle.std.specs.Prelude.{OnOk, if◌then◌else◌}
use Rattle.std.proofs.lemmas.List.{append-nil}
use Rattle.sm_tree.specs.View.{members_view, node_of}
use Rattle.sm_merge.specs.steps.Meant.{filled}
use Rattle.sm_merge.proofs.body.put_given.Goals as goal

pub returns-then-is_empty : goal.returns-then-is_empty
returns-then-is_empty c =
    let old = members_view c.args.fields.now.items in
    let name = c.args.name.now in
    let n = node_of c.in_ok-tree.tree in
    sym (append-nil old)
    ∙ ap (λ b. old ++ (if b then [] else (name, n) ∷ [])) (sym (sym c.is_empty.ensures ∙ c.if-is_empty.true))
    ∙ ap (λ m. old ++ filled name m) c.in_ok-tree.ensures

pub returns : goal.returns
returns c =
    let old = members_view c.args.fields.now.items in
    let name = c.args.name.now in
    let n = node_of c.in_ok-tree.tree in
    subst (λ ps. OnOk c.put_pair.result (members_view c.put_pair.new.fields.items ≡ old ++ ps))
    (ap (λ b. if b then [] else (name, n) ∷ []) (sym (sym c.is_empty.ensures ∙ c.if-is_empty.false))
    ∙ ap (filled name) c.in_ok-tree.ensures)
    c.put_pair.ensures
