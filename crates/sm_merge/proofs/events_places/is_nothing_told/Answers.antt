use Rattle.std.proofs.Common.{length, sym, ◌∙◌}
use Rattle.std.proofs.lemmas.Bool.{eqb-true}
use Rattle.std.proofs.lemmas.List.{nil_from_length}
use Rattle.sm_merge.proofs.NothingTold.{nothing_told}
use Rattle.sm_merge.proofs.OthersPut.{not_true}
use Rattle.sm_merge.proofs.events_places.is_nothing_told.Goals as goal

pub returns : goal.returns
returns c = λ calm.
    nothing_told c.args.traits.now c.args.applied.now
    (nil_from_length c.args.applied.now
    (eqb-true (length c.args.applied.now) 0 (sym c.is_empty.ensures ∙ c.if-not-is_empty.false)))
    (sym c.is_some_conflict.ensures ∙ not_true c.is_some_conflict.result calm)
