use Rattle.sm_compile.proofs.TextsPlaced.{none_put}
use Rattle.sm_compile.proofs.patterns.carried_texts.Goals as goal

pub loop-number-init : goal.loop-number-init
loop-number-init c =
    none_put c.args.graph.now c.args.marks.now (record { firsts = c.new.result; places = c.new-2.result }) c.new.ensures.items
    c.new-2.ensures.empty
