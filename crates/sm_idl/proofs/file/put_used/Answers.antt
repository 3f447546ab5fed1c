use Rattle.sm_idl.proofs.UsedWords.{used_kept, used_skipped}
use Rattle.sm_idl.proofs.file.put_used.Goals as goal

pub returns-in-Ok-put_id : goal.returns-in-Ok-put_id
returns-in-Ok-put_id c = λ is_word.
    used_kept c.args.word.now c.in-Ok.id c.in-Ok-new.id c.args.uses.now.items c.put_id.new.uses.items c.in-Ok.ensures
    c.in-Ok-new.ensures c.in-Ok-put_id.ensures

pub returns-in-Err : goal.returns-in-Err
returns-in-Err c = λ is_word.
    used_skipped c.args.word.now c.in-Err.field-0 c.args.uses.now.items c.in-Err.ensures is_word
