use Rattle.std.proofs.Common.{sym, subst}
use Rattle.sm_lex.specs.Tokens.{lexeme_of}
use Rattle.sm_idl.specs.Nodes.{LeafSaid}
use Rattle.sm_idl.specs.steps.ReaderView.{SaysNode}
use Rattle.sm_idl.proofs.leaf.leaf_node.Goals as goal

pub returns-in-Word : goal.returns-in-Word
returns-in-Word g c =
    subst (λ kind. SaysNode (LeafSaid (g.W.Words.home c.args.words.now) kind (lexeme_of c.args.token.now)) c.word_node.result)
    (sym c.in-Word.is)
    c.word_node.ensures
