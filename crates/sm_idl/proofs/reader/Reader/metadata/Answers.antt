use Rattle.sm_idl.specs.steps.ReaderView.{left}
use Rattle.sm_model.specs.RawView.{raw_view}
use Rattle.sm_idl.specs.Nodes.{pair_names}
use Rattle.sm_idl.proofs.ReadBeginning.{data_word_stop, data_key_stop, data_equals_stop, data_node_stop, data_read}
use Rattle.sm_idl.proofs.reader.Reader.metadata.Goals as goal

pub returns-in-Err-clause-reads : goal.returns-in-Err-clause-reads
returns-in-Err-clause-reads g c = λ before seen.
    data_word_stop (g.W.Words.home c.args.words.now) before (left c.args.self.now) (left c.the_word.new.self) c.in-Err.stop c.in-Err.ensures

pub returns-in-Err-key-clause-reads : goal.returns-in-Err-key-clause-reads
returns-in-Err-key-clause-reads g c = λ before seen.
    data_key_stop (g.W.Words.home c.args.words.now) before (left c.args.self.now) (left c.the_word.new.self) (left c.key.new.self)
    c.in-Err-key.stop c.in-Ok.ensures (c.in-Err-key.ensures.reads (pair_names before) seen)

pub returns-in-Err-mark-clause-reads : goal.returns-in-Err-mark-clause-reads
returns-in-Err-mark-clause-reads g c = λ before seen.
    data_equals_stop (g.W.Words.home c.args.words.now) before c.in-Ok-key.key (left c.args.self.now) (left c.the_word.new.self)
    (left c.key.new.self) (left c.mark.new.self) c.in-Err-mark.stop c.in-Ok.ensures (c.in-Ok-key.ensures.reads (pair_names before) seen)
    c.in-Err-mark.ensures

pub returns-in-Err-node-clause-reads : goal.returns-in-Err-node-clause-reads
returns-in-Err-node-clause-reads g c = λ before seen.
    data_node_stop (g.W.Words.home c.args.words.now) before c.in-Ok-key.key (left c.args.self.now) (left c.the_word.new.self)
    (left c.key.new.self) (left c.mark.new.self) (left c.node.new.self) c.in-Err-node.stop c.in-Ok.ensures
    (c.in-Ok-key.ensures.reads (pair_names before) seen) c.in-Ok-mark.ensures c.in-Err-node.ensures

pub returns-in-Ok-node-clause-reads : goal.returns-in-Ok-node-clause-reads
returns-in-Ok-node-clause-reads g c = λ before seen.
    data_read (g.W.Words.home c.args.words.now) before c.in-Ok-key.key (raw_view c.in-Ok-node.node) (left c.args.self.now)
    (left c.the_word.new.self) (left c.key.new.self) (left c.mark.new.self) (left c.node.new.self) c.in-Ok.ensures
    (c.in-Ok-key.ensures.reads (pair_names before) seen) c.in-Ok-mark.ensures c.in-Ok-node.ensures
