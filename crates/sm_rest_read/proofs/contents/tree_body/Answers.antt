use Rattle.sm_rest_read.proofs.ContentsGiven.{absent_given, document_given, present_given}
use Rattle.sm_rest_read.proofs.contents.tree_body.Goals as goal

pub returns-then-document : goal.returns-then-document
returns-then-document c = λ codec shape n same is. document_given codec shape n c.args.document c.args.absent c.args.outcome c.if-document.true is

pub returns-then-absent : goal.returns-then-absent
returns-then-absent c = λ codec shape n same is.
    absent_given codec shape n c.args.document c.args.absent c.if-document.false c.if-absent.true same

pub returns-else-absent : goal.returns-else-absent
returns-else-absent c = λ codec shape n same is.
    present_given codec shape n c.args.document c.args.absent c.args.outcome c.if-document.false c.if-absent.false same is
