use Rattle.sm_idl.specs.steps.Firm.{HeadIs}
use Rattle.sm_idl.specs.steps.Classes.{With}
use Rattle.sm_idl.specs.steps.HomeView.{home_of_file}
use Rattle.sm_idl.specs.steps.ReaderView.{left}
use Rattle.sm_idl.proofs.NodeRows.{refused}
use Rattle.sm_idl.proofs.ReadIds.{mixins_here, no_mixins}
use Rattle.sm_idl.proofs.reader.Reader.mixins.Goals as goal

pub returns-then-is_at_word : goal.returns-then-is_at_word
returns-then-is_at_word c =
    mixins_here (home_of_file c.args.home.now) (λ refs. refs.items) (left c.args.self.now) (left c.with_mixins.new.self)
    c.with_mixins.result (c.is_at_word.ensures.0 c.if-is_at_word.true) c.with_mixins.ensures

pub returns : goal.returns
returns c =
    no_mixins (home_of_file c.args.home.now) c.new.result.items (left c.args.self.now) c.new.ensures.items
    (refused c.is_at_word.result (HeadIs With (left c.args.self.now)) c.is_at_word.ensures c.if-is_at_word.false)
