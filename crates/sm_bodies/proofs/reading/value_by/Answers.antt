use Rattle.std.proofs.Common.{refl, subst, ◌∙◌, ◌≡◌, ◌-◌, ◌+◌, arith, take}
use Rattle.std.proofs.lemmas.List.{take_all}
use Rattle.sm_shapes.specs.TableView.{table_data}
use Rattle.sm_codec.specs.Codec.{codec_of}
use Rattle.sm_bodies.specs.Fed.{BodyFed}
use Rattle.sm_bodies.proofs.BodiesFed.{piece_behind}
use Rattle.sm_bodies.proofs.reading.value_by.Goals as goal

pub loop-at-init : goal.loop-at-init
loop-at-init g c = record {
  inside = omega arith;
  fed = c.in-Ok.ensures.fed (codec_of (table_data c.args.table.now) (g.L.Leaves.convention c.args.leaves.now) g.P.Patterns.test) refl;
  added = refl;
  refused = refl;
  refusals = refl;
}

pub piece-requires-clause-fed : goal.piece-requires-clause-fed
piece-requires-clause-fed g c = (c.args.shape, take c.loop-at.at c.args.bytes.now, c.loop-at.invariant.fed)

pub loop-at-preserved : goal.loop-at-preserved
loop-at-preserved g c =
    let step : c.loop-at.at + c.min.result - c.loop-at.at ≡ c.min.result = omega arith in
    record {
      inside = omega (arith, c.min.ensures, c.loop-at-test.true);
      fed = subst (BodyFed g.S.EventSource.source
          (codec_of (table_data c.args.table.now) (g.L.Leaves.convention c.args.leaves.now) g.P.Patterns.test) c.args.shape
          c.piece.new.self.reader c.piece.new.self.decoder)
          (piece_behind c.loop-at.at c.min.result (c.loop-at.at + c.min.result - c.loop-at.at) c.args.bytes.now step)
          (c.in-Ok-piece.ensures.fed c.args.shape (take c.loop-at.at c.args.bytes.now) c.loop-at.invariant.fed);
      added = c.in-Ok-piece.ensures.added ∙ c.loop-at.invariant.added;
      refused = c.in-Ok-piece.ensures.refused ∙ c.loop-at.invariant.refused;
      refusals = c.in-Ok-piece.ensures.refusals ∙ c.loop-at.invariant.refusals;
    }

pub finish-requires-clause-fed : goal.finish-requires-clause-fed
finish-requires-clause-fed g c = (c.args.shape, take c.loop-at.at c.args.bytes.now, c.loop-at.invariant.fed)

pub returns-clause-value : goal.returns-clause-value
returns-clause-value g c =
    c.finish.ensures.value c.args.shape c.args.bytes.now
    (subst (BodyFed g.S.EventSource.source
    (codec_of (table_data c.args.table.now) (g.L.Leaves.convention c.args.leaves.now) g.P.Patterns.test) c.args.shape c.loop-at.body.reader
    c.loop-at.body.decoder) (take_all c.loop-at.at c.args.bytes.now (omega (arith, c.loop-at-test.false))) c.loop-at.invariant.fed)
