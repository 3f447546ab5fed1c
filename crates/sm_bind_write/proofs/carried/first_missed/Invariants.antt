use Rattle.std.proofs.Common.{◌≡◌, drop}
use Rattle.sm_shapes.specs.InOrder.{AreMembersOf}
use Rattle.sm_shapes.specs.Values.{fields_of}
use Rattle.sm_shapes.specs.ValueView.{each_field_view}
use Rattle.sm_codec.specs.Encoded.{first_path}
use Rattle.sm_bind.specs.BoundView.{bound_of}
use Rattle.sm_bind_write.specs.CarriedParts.{uncarried_members}
use Rattle.sm_bind_write.specs.steps.FieldsMet.{FieldsIn, Rising}
use Rattle.sm_bind_write.proofs.carried.first_missed.Given as goal

abbrev pub invariant-loop-member : goal.invariant-loop-member
invariant-loop-member l = record {
  first : first_path (uncarried_members (bound_of l.place) (fields_of (each_field_view l.rest)) (drop l.member-index l.members))
      ≡ first_path (uncarried_members (bound_of l.place) (fields_of (each_field_view l.fields)) l.members);
  met : FieldsIn (bound_of l.place).table (drop l.member-index l.members) (fields_of (each_field_view l.rest));
  stand : AreMembersOf (bound_of l.place).table l.place.shape (drop l.member-index l.members);
  rise : Rising (drop l.member-index l.members);
}
