-- A file that is there has one list of bytes, and isn't longer than it is.
use Rattle.std.proofs.Common.{◌≡◌, ◌<◌, ℕ, List, Some, length, subst, arith}
use Rattle.sm_io.specs.Files.{Folder, file_at}
use Rattle.sm_asked.specs.Limits.{file_limit}
use Rattle.sm_asked.specs.Stages.{FileTooLong, FileRead}

pub bytes_same : (folder : Folder) (name f g : List ℕ) → file_at folder name ≡ Some f → file_at folder name ≡ Some g → f ≡ g
bytes_same folder name f g h i = cc

pub not_long : (folder : Folder) (name : List ℕ) (w : FileTooLong (Some folder) name) (h : FileRead (Some folder) name) → ⊥
not_long folder name w h =
    let one : w.bytes ≡ h.bytes = bytes_same folder name w.bytes h.bytes w.held h.held in
    omega (arith, subst (λ x. file_limit < length x) one w.long, h.within)
