use Rattle.std.proofs.Common.{subst}
use Rattle.std.specs.Prelude.{Err}
use Rattle.sm_rest.specs.bind.BindingsView.{bindings_data, body_at, bound_side, parts_data}
use Rattle.sm_rest.specs.bind.BoundView.{bound_of}
use Rattle.sm_rest.specs.bind_read.PartFaults.{parts_reading}
use Rattle.sm_part_values.specs.Joins.{JoinsTo}
use Rattle.sm_rest_read.specs.Begun.{bindings_codec}
use Rattle.sm_rest_read.specs.steps.Contents.{GivesContent}
use Rattle.sm_rest_read.proofs.ValuesJoined.{joined_faulty, joined_good, joined_refused}
use Rattle.sm_rest_read.proofs.values.joined_value.Goals as goal

pub returns-in-Ok-join_parts-clause-joins : goal.returns-in-Ok-join_parts-clause-joins
returns-in-Ok-join_parts-clause-joins g c = λ used bytes given.
    let b = bound_of c.args.place.now in
    let d = bindings_data c.args.bindings.now in
    let codec = bindings_codec d g.P.Patterns.test in
    let shape = body_at d (bound_side c.args.place.now.side) c.args.place.now.shape in
    joined_good b g.P.Patterns.test (parts_data c.args.parts.now) used bytes codec shape c.in-Ok.body c.in-Ok-join_parts.value
    (subst (GivesContent b used codec shape bytes) c.in-Ok.is given) c.in-Ok-join_parts.ensures.joins

pub returns-in-Err-Fault-clause-joins : goal.returns-in-Err-Fault-clause-joins
returns-in-Err-Fault-clause-joins g c = λ used bytes given.
    let b = bound_of c.args.place.now in
    let d = bindings_data c.args.bindings.now in
    let parts = parts_data c.args.parts.now in
    let codec = bindings_codec d g.P.Patterns.test in
    let shape = body_at d (bound_side c.args.place.now.side) c.args.place.now.shape in
    joined_faulty b g.P.Patterns.test parts used bytes codec shape c.in-Ok.body c.in-Err-Fault.fault
    (subst (GivesContent b used codec shape bytes) c.in-Ok.is given)
    (λ content stands. subst (λ e. JoinsTo (parts_reading b g.P.Patterns.test parts content) (Err e)) c.in-Err-Fault.field-0-is
    (c.in-Err-Fault.ensures.joins content stands))

pub returns-in-Err-clause-joins : goal.returns-in-Err-clause-joins
returns-in-Err-clause-joins g c = λ used bytes given.
    let b = bound_of c.args.place.now in
    let d = bindings_data c.args.bindings.now in
    let codec = bindings_codec d g.P.Patterns.test in
    let shape = body_at d (bound_side c.args.place.now.side) c.args.place.now.shape in
    joined_refused b g.P.Patterns.test (parts_data c.args.parts.now) used bytes codec shape c.in-Err.refusal
    (subst (GivesContent b used codec shape bytes) c.in-Err.is given)
