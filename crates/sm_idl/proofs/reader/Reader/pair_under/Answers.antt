use Rattle.sm_idl.specs.steps.ReaderView.{left}
use Rattle.sm_idl.specs.steps.HomeView.{home_of_file}
use Rattle.std.proofs.Common.{sym, subst}
use Rattle.sm_idl.specs.steps.FieldSteps.{under}
use Rattle.sm_idl.specs.steps.ReaderView.{raw_pair, ReadsAs}
use Rattle.sm_idl.proofs.reader.Reader.pair_under.Goals as goal

pub returns-then-renames-clause-reads : goal.returns-then-renames-clause-reads
returns-then-renames-clause-reads c = λ before seen.
    subst (λ b. ReadsAs raw_pair (under (home_of_file c.args.home.now) b before) (left c.args.self.now) (left c.renaming.new.self)
    c.renaming.result) (sym c.if-renames.true) (c.renaming.ensures.reads before seen)

pub returns-clause-reads : goal.returns-clause-reads
returns-clause-reads c = λ before seen.
    subst (λ b. ReadsAs raw_pair (under (home_of_file c.args.home.now) b before) (left c.args.self.now)
    (left c.named_reference.new.self) c.named_reference.result) (sym c.if-renames.false) (c.named_reference.ensures.reads before seen)
