use Rattle.std.proofs.Common.{◌≡◌, ◌≤◌, ◌++◌, List, drop}
use Rattle.sm_io.specs.Files.{LetsSame}
use Rattle.sm_asked.specs.Answer.{Answer}
use Rattle.sm_asked.specs.Limits.{bytes_limit}
use Rattle.sm_asked.specs.ModelFiles.{AreRead, PassesOne}
use Rattle.sm_load.specs.ModelFiles.{FileGiven, given_files}
use Rattle.sm_asked.proofs.files.read_models.Given as goal

abbrev pub invariant-loop-word : goal.invariant-loop-word
invariant-loop-word g l = record {
  held : g.F.Files.held l.files ≡ g.F.Files.held l.fn.files;
  read_faults : g.F.Files.read_faults l.fn.files ≤ g.F.Files.read_faults l.files;
  write_faults : g.F.Files.write_faults l.files ≡ g.F.Files.write_faults l.fn.files;
  same_reads : LetsSame (g.F.Files.lets_read l.fn.files) (g.F.Files.lets_read l.files);
  same_writes : LetsSame (g.F.Files.lets_write l.fn.files) (g.F.Files.lets_write l.files);
  within : l.total ≤ bytes_limit;
  reads : (more : List FileGiven) → AreRead (g.F.Files.held l.fn.files) l.total (drop l.word-index l.names) more
      → AreRead (g.F.Files.held l.fn.files) 0 l.names (given_files l.read.items ++ more);
  passes : (a : Answer) → PassesOne (g.F.Files.held l.fn.files) l.total (drop l.word-index l.names) a
      → PassesOne (g.F.Files.held l.fn.files) 0 l.names a;
}
