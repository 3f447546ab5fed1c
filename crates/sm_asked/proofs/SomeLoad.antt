-- Model files that are there come to a graph or to an answer. Where a case can't be decided, each of its two sides is denied in turn.
use Rattle.std.proofs.Common.{◌+◌, ◌⊎◌, ℕ, suc, inl, inr, List, [], ◌∷◌, Some, length, refl, arith}
use Rattle.std.proofs.lemmas.Bool.{cases_lt}
use Rattle.sm_io.specs.Files.{Folder}
use Rattle.sm_load.specs.Laws.{SomeLoad}
use Rattle.sm_load.specs.ModelFiles.{FileGiven, file_given}
use Rattle.sm_asked.specs.Limits.{files_limit, file_limit, bytes_limit}
use Rattle.sm_asked.specs.Lines.{files_limit_line, file_limit_line, bytes_limit_line}
use Rattle.sm_asked.specs.Answer.{Answer, past}
use Rattle.sm_asked.specs.Loading.{FilesRead, Loaded, LoadAnswers, refusal_answer}
use Rattle.sm_asked.specs.Loading.LoadAnswers.{many_files, long_files, not_loaded}
use Rattle.sm_asked.specs.ModelFiles.{AreRead, PassesOne}
use Rattle.sm_asked.specs.AskedLaws.{AreThere}
use Rattle.sm_asked.specs.Stages.{FileRead}
use Rattle.sm_asked.specs.declared.lines.Shown.{Shown}

-- files are all read, or a limit is passed
abbrev PassedOrRead : Folder → ℕ → List (List ℕ) → Type 0
PassedOrRead folder before names =
    ((a : Answer) × PassesOne (Some folder) before names a) ⊎ ((read : List FileGiven) × AreRead (Some folder) before names read)

there_later : (folder : Folder) (name : List ℕ) (names : List (List ℕ)) → AreThere folder (name ∷ names) → AreThere folder names
there_later folder name names there other among = there other (suc among.0, omega (arith, among.1), among.2)

-- a file within its limit, and then the others
within_passed : (folder : Folder) (before : ℕ) (name : List ℕ) (names : List (List ℕ)) (file : FileRead (Some folder) name)
    → PassedOrRead folder (before + length file.bytes) names → PassedOrRead folder before (name ∷ names)
within_passed folder before name names file later = elim (cases_lt bytes_limit (before + length file.bytes)) [
  | inl over ↦ inl (past bytes_limit_line, inr (inl (file, over, refl)))
  | inr within ↦ elim later [
    | inl passes ↦ inl (passes.0, inr (inr (file, within, passes.1)))
    | inr read ↦ inr (file_given name file.bytes ∷ read.0, (file, read.0, refl, within, read.1))
  ]
]

passed_or_read : (folder : Folder) (before : ℕ) (names : List (List ℕ)) → AreThere folder names → PassedOrRead folder before names
passed_or_read folder before [] there = inr ([], refl)
passed_or_read folder before (name ∷ names) there =
    let found = there name (0, omega arith, refl) in
    elim (cases_lt file_limit (length found.0)) [
      | inl long ↦ inl (past file_limit_line, inl (record { bytes = found.0; held = found.1; long = long }, refl))
      | inr within ↦ within_passed folder before name names (record { bytes = found.0; held = found.1; within = within })
          (passed_or_read folder (before + length found.0) names (there_later folder name names there))
    ]

-- model files are loaded, or have an answer
module _ (loads : SomeLoad) (shown : Shown) (folder : Folder) (names : List (List ℕ)) (there : AreThere folder names)
    (none : (a : Answer) → LoadAnswers shown (Some folder) names a → ⊥)
    (some : Loaded (Some folder) names → ⊥) where
  of_texts : FilesRead (Some folder) names → ⊥
  of_texts texts =
      loads texts.read
      (λ r told is. none (refusal_answer shown texts.read r) (not_loaded texts r (record { loads = is; told = told }) refl))
      (λ g accepted. some (record { texts = texts; graph = g; accepted = accepted }))

  pub load_answered : ⊥
  load_answered = elim (cases_lt files_limit (length names)) [
    | inl many ↦ none (past files_limit_line) (many_files many refl)
    | inr few ↦ elim (passed_or_read folder 0 names there) [
      | inl passes ↦ none passes.0 (long_files few passes.1)
      | inr read ↦ of_texts (record { few = few; read = read.0; are_read = read.1 })
    ]
  ]
