use Rattle.std.proofs.Common.{sym, ap, ◌∙◌}
use Rattle.sm_shapes.specs.Broken.{broken, first_broken}
use Rattle.sm_shapes.specs.Fitting.{finder}
use Rattle.sm_shapes.specs.Places.{constraints_of}
use Rattle.sm_shapes.specs.TableView.{table_data}
use Rattle.sm_shapes.specs.ValueView.{val_of}
use Rattle.sm_codec.specs.Codec.{broken_in}
use Rattle.sm_codec.specs.FrameView.{fault_at}
use Rattle.sm_codec.specs.PlaceView.{place_of}
use Rattle.sm_part_values.proofs.TextsJoined.{judged_bad}
use Rattle.sm_part_values.proofs.texts.judged.Goals as goal

pub returns-in-Ok-Some-clause-joins : goal.returns-in-Ok-Some-clause-joins
returns-in-Ok-Some-clause-joins g c =
    let t = table_data c.args.table.now in
    let test = g.P.Patterns.test in
    let p = place_of c.args.place in
    let v = val_of c.args.value in
    judged_bad (broken_in t test p v) v c.in-Ok-Some.kind (fault_at c.fault_here.result)
    (ap (λ k. first_broken (broken (finder t test) k (constraints_of t p) v)) (sym c.kind.ensures)
    ∙ ap (λ cs. first_broken (broken (finder t test) c.kind.result cs v)) (sym c.constraints.ensures)
    ∙ sym c.in-Ok-Some.ensures.first ∙ c.in-Ok-Some.field-0-is)
    c.fault_here.ensures
