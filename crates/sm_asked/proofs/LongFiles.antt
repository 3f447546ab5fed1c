-- A file that is longer than its limit is one by its bytes, where they are told or not.
use Rattle.std.proofs.Common.{◌≡◌, ℕ, ◌<◌, ◌+◌, List, Option, Some, None, Err, length, refl, arith}
use Rattle.std.specs.Prelude.{IsSomeAnd, replicate}
use Rattle.std.proofs.lemmas.List.{length-replicate}
use Rattle.sm_io.specs.Causes.{Rose}
use Rattle.sm_io.specs.Files.{Folder, Holds, HoldsLonger, file_at}
use Rattle.sm_io.specs.Seen.{FilesSeen}
use Rattle.sm_asked.specs.Limits.{file_limit}
use Rattle.sm_asked.specs.Lines.{file_limit_line}
use Rattle.sm_asked.specs.Comes.{EndsWithLimit}
use Rattle.sm_asked.specs.steps.FileSteps.{PassesLimit, OpensFile}
use Rattle.sm_asked.specs.declared.stop.CommandStop.{CommandStop}
use Rattle.sm_asked.proofs.Stops.{limit_stops}

-- a list of any length
pub long_list : (n : ℕ) → (xs : List ℕ) × (length xs ≡ n)
long_list n = (replicate n 0, length-replicate n 0)

-- such a file
longer_file : (told : Option Folder) (name : List ℕ) (limit : ℕ) → HoldsLonger told name limit
    → (file : List ℕ) × Holds told name (Some file) × (limit < length file)
longer_file None name limit h = let w = long_list (limit + 1) in (w.0, tt, omega (arith, w.1))
longer_file (Some folder) name limit h = at_file (file_at folder name) h
  where
    at_file : (content : Option (List ℕ)) → IsSomeAnd content (λ bytes. limit < length bytes)
        → (file : List ℕ) × (content ≡ Some file) × (limit < length file)
    at_file None h = absurd h
    at_file (Some bytes) h = (bytes, refl, h)

pub file_past : (files files1 : FilesSeen) (name : List ℕ) (stop : CommandStop) → HoldsLonger files.held name file_limit
    → EndsWithLimit file_limit_line stop → OpensFile files files1 name (Err stop)
file_past files files1 name stop long ends = let w = longer_file files.held name file_limit long in
    limit_stops (PassesLimit files.held name) (Rose files.read_faults files1.read_faults) (Unit {0}) file_limit_line stop
    (record { bytes = w.0; held = w.1; long = w.2 }, refl) tt ends
