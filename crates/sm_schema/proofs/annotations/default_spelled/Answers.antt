use Rattle.std.proofs.Common.{ap, ◌∙◌}
use Rattle.sm_shapes.specs.Fitting.{any_text}
use Rattle.sm_shapes.specs.Places.{member_place}
use Rattle.sm_shapes.specs.TableView.{table_data}
use Rattle.sm_shapes.specs.ValueView.{val_of}
use Rattle.sm_codec.specs.Conventions.{json_convention}
use Rattle.sm_schema.specs.steps.Plain.{is_plain}
use Rattle.sm_schema.proofs.PlainDefaults.{default_plain}
use Rattle.sm_schema.proofs.annotations.default_spelled.Goals as goal

pub invariant_of-result : goal.invariant_of-result
invariant_of-result c =
    let t = table_data c.args.table.now in
    let v = val_of c.args.value.now in
    let none = c.all_carried_at.ensures.0 c.if-all_carried_at.true in record {
      plain = ap is_plain c.in_ok-tree.ensures.tree
          ∙ default_plain t c.args.json_names c.args.member v c.requires.shaped c.requires.value none
          (c.written_is_json.ensures t (json_convention c.args.json_names) any_text (member_place c.args.member) v c.requires.shaped
          (c.json_leaves_written.ensures c.args.json_names) c.requires.member (c.requires.shaped.fit c.args.member v c.requires.value) none);
    }
