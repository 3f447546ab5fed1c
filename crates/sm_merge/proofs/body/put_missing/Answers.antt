use Rattle.std.proofs.Common.{◌≡◌, ◌++◌, [], ◌∷◌, sym, subst, ◌∙◌}
use Rattle.std.specs.Prelude.{OnOk, if◌then◌else◌}
use Rattle.sm_tree.specs.Node.{text}
use Rattle.sm_tree.specs.View.{members_view}
use Rattle.sm_model.specs.PreludeShapes.{unit_id}
use Rattle.sm_merge.proofs.body.put_missing.Goals as goal

pub returns : goal.returns
returns c =
    subst (λ b. OnOk c.put_unit.result (members_view c.put_unit.new.fields.items
    ≡ members_view c.args.fields.now.items ++ (if b then (c.args.name.now, text unit_id) ∷ [] else [])))
    (sym c.if-not-is_needed.false ∙ c.is_needed.ensures) c.put_unit.ensures
