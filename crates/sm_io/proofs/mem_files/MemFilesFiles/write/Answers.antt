use Rattle.sm_io.proofs.Look.{stands_for}
use Rattle.sm_io.proofs.mem_files.MemFilesFiles.write.Goals as goal

pub returns-in-Ok-clause-bytes : goal.returns-in-Ok-clause-bytes
returns-in-Ok-clause-bytes c = stands_for _ _ _ _ _ c.in-Ok.ensures.put
