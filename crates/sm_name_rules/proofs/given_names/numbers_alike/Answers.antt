use Rattle.std.proofs.Common.{subst, ap, ◌∙◌, ◌++◌}
use Rattle.std.proofs.lemmas.List.{take_all}
use Rattle.sm_name_rules.specs.steps.Renaming.{HasAlike}
use Rattle.sm_name_rules.proofs.AlikeHeld.{alike_first, alike_next, alike_same}
use Rattle.sm_name_rules.proofs.given_names.numbers_alike.Goals as goal

pub loop-pair-init : goal.loop-pair-init
loop-pair-init c =
    let names = c.args.names.now in
    alike_first c.args.graph.now names.inside.now c.requires.names.whole names.twins.items c.extend_from_slice.new.self.items
    c.requires.names.twins
    (c.in_ok-extend_from_slice.ensures.items ∙ ap (λ ns. ns ++ c.twins.result.now) c.new-numbers.ensures.items ∙ c.twins.ensures)

pub loop-pair-preserved : goal.loop-pair-preserved
loop-pair-preserved c =
    alike_next c.args.graph.now c.args.names.now.inside.now c.args.pairs.now c.loop-pair.pair-index c.pair-item.result
    c.loop-pair-test.true c.pair-item.is c.loop-pair.numbers.items c.push_pair.new.numbers.items c.loop-pair.invariant
    c.in_ok-push_pair.ensures.more c.in_ok-push_pair.ensures.pair

pub returns-clause-alike : goal.returns-clause-alike
returns-clause-alike c =
    alike_same c.args.graph.now c.args.names.now.inside.now c.args.pairs.now c.loop-pair.numbers.items c.rising.result.items
    c.rising.ensures.same
    (subst (λ ps. HasAlike c.args.graph.now c.args.names.now.inside.now ps c.loop-pair.numbers.items)
    (take_all c.loop-pair.pair-index c.args.pairs.now c.loop-pair-test.false) c.loop-pair.invariant)
