use Rattle.std.proofs.Common.{subst}
use Rattle.std.specs.declared.cmp.Ordering.TheVariants.{Equal}
use Rattle.sm_model.specs.Joins.{Joins}
use Rattle.sm_model.proofs.Linking.{joins_none}
use Rattle.sm_trait_rules.specs.steps.Conflicting.{HasText, IsGreaterBy}
use Rattle.sm_trait_rules.proofs.conflicts.take_greater.Goals as goal

pub returns-in_ok-put-in-Less : goal.returns-in_ok-put-in-Less
returns-in_ok-put-in-Less c =
    subst (λ o. Joins (HasText c.args.told.now.texts) (IsGreaterBy o c.args.name.now c.args.other.now) (HasText c.put.new.self.texts))
    c.in-Less.ensures c.in_ok-put-in-Less.ensures

pub returns-in-Equal : goal.returns-in-Equal
returns-in-Equal c =
    subst (λ o. Joins (HasText c.args.told.now.texts) (IsGreaterBy o c.args.name.now c.args.other.now) (HasText c.args.told.now.texts))
    c.in-Equal.ensures
    (joins_none (HasText c.args.told.now.texts) (IsGreaterBy Equal c.args.name.now c.args.other.now) (λ id none. none))

pub returns-in_ok-put-in-Greater : goal.returns-in_ok-put-in-Greater
returns-in_ok-put-in-Greater c =
    subst (λ o. Joins (HasText c.args.told.now.texts) (IsGreaterBy o c.args.name.now c.args.other.now)
    (HasText c.put-in-Greater.new.self.texts)) c.in-Greater.ensures c.in_ok-put-in-Greater.ensures
