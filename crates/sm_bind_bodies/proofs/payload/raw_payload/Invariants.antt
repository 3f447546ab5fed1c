use Rattle.std.proofs.Common.{◌≡◌, drop}
use Rattle.sm_shapes.specs.Values.{fields_of}
use Rattle.sm_shapes.specs.ValueView.{each_field_view}
use Rattle.sm_bind_write.specs.bind.BoundView.{bound_of}
use Rattle.sm_bind_write.specs.WrittenParts.{payload_among}
use Rattle.sm_bind_bodies.specs.WrittenBodies.{content_bytes}
use Rattle.sm_bind_bodies.proofs.payload.raw_payload.Given as goal

abbrev pub invariant-loop-field : goal.invariant-loop-field
invariant-loop-field l =
    content_bytes (payload_among (bound_of l.place) (fields_of (each_field_view (drop l.field-index l.fields))))
    ≡ content_bytes (payload_among (bound_of l.place) (fields_of (each_field_view l.fields)))
