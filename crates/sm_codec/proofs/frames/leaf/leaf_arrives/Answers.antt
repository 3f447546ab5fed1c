use Rattle.std.proofs.Common.{sym, subst}
use Rattle.sm_tree.specs.View.{node_of}
use Rattle.sm_shapes.specs.TableView.{table_data}
use Rattle.sm_codec.specs.FrameView.{outcome_of}
use Rattle.sm_codec.specs.Named.{is_null}
use Rattle.sm_codec.specs.PlaceView.{place_of}
use Rattle.sm_codec.specs.Readings.{leaf_in}
use Rattle.sm_codec.specs.steps.Arrivals.{IsArrival}
use Rattle.sm_codec.proofs.LeafPlaces.{outcome_arrives}
use Rattle.sm_codec.proofs.frames.leaf.leaf_arrives.Goals as goal

pub returns-in-Ok-clause-arrival : goal.returns-in-Ok-clause-arrival
returns-in-Ok-clause-arrival g c =
    let n = node_of c.args.leaf.now in
    let r = leaf_in (table_data c.args.table.now) (g.L.Leaves.convention c.args.leaves.now) g.P.Patterns.test (place_of c.args.place) n in
    subst (IsArrival (is_null n) r) (sym c.arrives.ensures)
    (outcome_arrives r (outcome_of c.in-Ok.outcome) (is_null n) (sym c.if-is_null.ensures) c.in-Ok.ensures.outcome)
