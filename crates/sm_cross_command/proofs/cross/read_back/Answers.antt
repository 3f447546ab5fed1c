use Rattle.sm_asked_ends.specs.asked.Lines.{file_limit_line}
use Rattle.sm_io.specs.Seen.{files_seen}
use Rattle.sm_asked_ends.proofs.asked.LongFiles.{file_past}
use Rattle.sm_cross_command.proofs.cross.read_back.Goals as goal

pub returns-in-Err-TooLong-clause-opens : goal.returns-in-Err-TooLong-clause-opens
returns-in-Err-TooLong-clause-opens g c =
    let long = rw c.in-Err-TooLong.field-0-is at c.in-Err-TooLong.ensures.bytes in
    file_past (files_seen (g.F.Files.held c.args.files.now) (g.F.Files.read_faults c.args.files.now)
    (g.F.Files.write_faults c.args.files.now))
    (files_seen (g.F.Files.held c.read.new.self) (g.F.Files.read_faults c.read.new.self) (g.F.Files.write_faults c.read.new.self))
    c.args.name.now c.past.result long (c.past.ensures file_limit_line c.limit_line.ensures)
