-- What the objects over memory hold.
use Rattle.std.specs.Prelude.{ℕ, List, [], drop}
use Rattle.sm_io.specs.Script.{Script}
use Rattle.sm_io.specs.Files.{Folder, folder_of}
use Rattle.sm_io.specs.Files.Others.{nothing, empty_file}
use Rattle.sm_io.specs.declared.calm.CalmSource.{CalmSource}
use Rattle.sm_io.specs.declared.calm.CalmSink.{CalmSink}
use Rattle.sm_io.specs.declared.memory.MemSource.{MemSource}
use Rattle.sm_io.specs.declared.memory.MemSink.{MemSink}
use Rattle.sm_io.specs.declared.calm_files.CalmFiles.{CalmFiles}
use Rattle.sm_io.specs.declared.mem_files.MemFiles.{MemFiles}

-- the bytes left of a source, and its script
abbrev pub calm_left : CalmSource → List ℕ
calm_left source = drop source.bytes.at source.bytes.bytes.items

abbrev pub calm_script : CalmSource → Script
calm_script source = record { cuts = source.bytes.cuts.items; failing = []; calls = source.calls }

abbrev pub source_left : MemSource → List ℕ
source_left source = drop source.bytes.at source.bytes.bytes.items

abbrev pub source_script : MemSource → Script
source_script source = record { cuts = source.bytes.cuts.items; failing = source.failing.failing.items; calls = source.failing.calls }

-- the bytes written to a sink, and its script
abbrev pub calm_written : CalmSink → List ℕ
calm_written sink = sink.bytes.items

abbrev pub sink_written : MemSink → List ℕ
sink_written sink = sink.bytes.items

abbrev pub sink_script : MemSink → Script
sink_script sink = record { cuts = []; failing = sink.failing.failing.items; calls = sink.failing.calls }

-- what the names of the two kinds of files stand for, and the script of those that fail
abbrev pub calm_folder : CalmFiles → Folder
calm_folder files = folder_of files.files.files.items empty_file

abbrev pub mem_folder : MemFiles → Folder
mem_folder files = folder_of files.files.files.items nothing

abbrev pub files_script : MemFiles → Script
files_script files = record { cuts = []; failing = files.failing.failing.items; calls = files.failing.calls }
