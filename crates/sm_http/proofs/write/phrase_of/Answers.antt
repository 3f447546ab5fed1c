use Rattle.std.proofs.Common.{sym}
use Rattle.sm_http.proofs.Phrases.{no_status}
use Rattle.sm_http.proofs.write.phrase_of.Goals as goal

pub returns-in-Err : goal.returns-in-Err
returns-in-Err c = sym (no_status c.args.status c.in-Err.ensures)
