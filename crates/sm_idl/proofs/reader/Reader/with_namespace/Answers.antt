use Rattle.sm_idl.specs.steps.ReaderView.{left}
use Rattle.std.proofs.Common.{◌∙◌}
use Rattle.sm_idl.proofs.ReadFile.{word_stop, name_stop, use_stop, in_section_at}
use Rattle.sm_idl.proofs.reader.Reader.with_namespace.Goals as goal

pub returns-in-Err : goal.returns-in-Err
returns-in-Err c = λ cs ms begins here.
    word_stop cs ms (left c.args.start) (left c.args.self.now) begins (left c.the_word.new.self) c.in-Err.stop here c.in-Err.ensures

pub returns-in-Err-namespace : goal.returns-in-Err-namespace
returns-in-Err-namespace c = λ cs ms begins here.
    name_stop cs ms (left c.args.start) (left c.args.self.now) begins (left c.the_word.new.self) (left c.namespace.new.self)
    c.in-Err-namespace.stop here c.in-Ok.ensures c.in-Err-namespace.ensures

pub returns-in-Err-uses : goal.returns-in-Err-uses
returns-in-Err-uses c = λ cs ms begins here.
    use_stop cs ms (left c.args.start) (left c.args.self.now) begins c.in-Ok-namespace.namespace.now (left c.the_word.new.self)
    (left c.namespace.new.self) (left c.uses.new.self) c.in-Err-uses.stop here c.in-Ok.ensures c.in-Ok-namespace.ensures
    c.in-Err-uses.ensures

pub returns : goal.returns
returns c = λ cs ms begins here.
    c.rest.ensures (in_section_at cs ms (left c.args.start) (left c.args.self.now) begins _ c.in-Ok-uses.ensures.0
    (left c.the_word.new.self) (left c.namespace.new.self) (left c.uses.new.self) here c.in-Ok.ensures c.in-Ok-namespace.ensures
    (c.in-Ok-new.ensures ∙ c.in-Ok-uses.ensures.1) c.in-Ok-uses.ensures.2)
