use Rattle.std.proofs.Common.{subst}
use Rattle.std.proofs.lemmas.List.{take_all}
use Rattle.sm_tree.specs.Node.{nodes_of}
use Rattle.sm_tree.specs.View.{nodes_view}
use Rattle.sm_trait_rules.specs.steps.Conflicting.{AreTextsOf}
use Rattle.sm_trait_rules.proofs.TextsHeld.{texts_next, texts_none}
use Rattle.sm_trait_rules.proofs.text_set.TextSet.among.Goals as goal

pub loop-entry-init : goal.loop-entry-init
loop-entry-init c = texts_none c.new-set.result.texts c.new-set.ensures

pub loop-entry-preserved : goal.loop-entry-preserved
loop-entry-preserved c =
    texts_next c.args.entries.now c.loop-entry.entry-index c.entry-item.result c.loop-entry-test.true c.entry-item.is
    c.loop-entry.set.texts c.put_entry.new.self.texts c.loop-entry.invariant c.in_ok-put_entry.ensures

pub returns : goal.returns
returns c =
    subst (λ ts. AreTextsOf (nodes_of (nodes_view ts)) c.loop-entry.set.texts)
    (take_all c.loop-entry.entry-index c.args.entries.now c.loop-entry-test.false) c.loop-entry.invariant
