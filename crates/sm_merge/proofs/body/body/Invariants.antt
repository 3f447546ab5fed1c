use Rattle.std.proofs.Common.{◌≡◌, ◌++◌, drop, map}
use Rattle.sm_tree.specs.View.{members_view}
use Rattle.sm_model.specs.FieldsView.{fields_view}
use Rattle.sm_model.specs.RawView.{raw_members_view}
use Rattle.sm_merge.specs.steps.Known.{known}
use Rattle.sm_merge.specs.steps.Meant.{fields_named}
use Rattle.sm_merge.proofs.body.body.Given as goal

abbrev pub invariant-loop-field : goal.invariant-loop-field
invariant-loop-field l =
    members_view l.fields.items
    ++ fields_named (known l.names) l.kind (map (λ f. f.0) (fields_view (drop l.field-index l.wanted))) (raw_members_view l.pairs)
    ≡ fields_named (known l.names) l.kind (map (λ f. f.0) (fields_view l.wanted)) (raw_members_view l.pairs)
