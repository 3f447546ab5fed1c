use Rattle.std.proofs.Common.{◌+◌, drop, get_or, sym, subst, arith}
use Rattle.std.specs.List.{join_with_byte}
use Rattle.sm_bytes.specs.Ascii.{slash}
use Rattle.sm_model.specs.GraphView.{maps_of}
use Rattle.sm_model.specs.Reaching.{id_of_number}
use Rattle.sm_compile.specs.Answers.{TellsServed}
use Rattle.sm_compile.specs.declared.compiled.Served.TheVariants.{Yes, Unserved}
use Rattle.sm_service.specs.PathView.{member_path_text}
use Rattle.sm_service.specs.ServedOperation.{TellsAllServed}
use Rattle.sm_service.specs.declared.serving.WalkStart.TheVariants as start
use Rattle.sm_service.specs.steps.ServingRooms.{shape_said}
use Rattle.sm_service.specs.steps.WalkStarts.{roots_of, start_names, start_shape}
use Rattle.sm_service.proofs.ServedRoots.{if_ok, served_on, served_until, told_at, told_end}
use Rattle.sm_service.proofs.serving.served_from.Goals as goal

pub returns-in-Ok-Unserved-clause-served : goal.returns-in-Ok-Unserved-clause-served
returns-in-Ok-Unserved-clause-served c =
    let g = c.args.graph.now in
    let starts = c.args.starts.now in
    let i = c.loop-start.start-index in
    let w = get_or starts i (start.Input 0) in
    let way = c.in-Ok-Unserved.way.value in
    let path = member_path_text (join_with_byte slash (start_names w)) way in
    let here = subst (λ s. TellsServed (maps_of g) (id_of_number g (start_shape w)) (shape_said s)) c.in-Ok-Unserved.field-0-is
    (subst (λ k. TellsServed (maps_of g) (id_of_number g k) (shape_said c.in-Ok-Unserved.field-0)) c.shape.ensures
    c.in-Ok-Unserved.ensures.served) in
    let told = c.loop-start.invariant.told (Unserved path)
    (told_at starts i c.loop-start-test.true g (Unserved path) (served_until g c.requires.names w (drop (i + 1) starts) way here)) in
    if_ok c.unserved_by.result (λ s is. subst (TellsAllServed (maps_of g) (roots_of g starts)) (sym is) told) c.unserved_by.ensures

pub loop-start-preserved : goal.loop-start-preserved
loop-start-preserved c =
    let g = c.args.graph.now in
    let starts = c.args.starts.now in
    let i = c.loop-start.start-index in
    let w = get_or starts i (start.Input 0) in
    let here = subst (λ s. TellsServed (maps_of g) (id_of_number g (start_shape w)) (shape_said s)) c.in-Ok-Yes.field-0-is
    (subst (λ k. TellsServed (maps_of g) (id_of_number g k) (shape_said c.in-Ok-Yes.field-0)) c.shape.ensures c.in-Ok-Yes.ensures.served) in
    record {
      room = c.served.ensures.room;
      told = λ s rest. c.loop-start.invariant.told s
          (told_at starts i c.loop-start-test.true g s (served_on g c.requires.names w (drop (i + 1) starts) s here rest));
    }

pub returns-clause-served : goal.returns-clause-served
returns-clause-served c =
    let starts = c.args.starts.now in
    let i = c.loop-start.start-index in
    c.loop-start.invariant.told Yes (told_end starts i (omega (arith, c.loop-start-test.false)) c.args.graph.now)
