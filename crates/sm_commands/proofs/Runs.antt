-- From how the words' command ends to how the program does. The answers of `run` cite it.
use Rattle.std.proofs.Common.{◌≡◌, ◌≢◌, ℕ, List, [], Option, Some, None, sym, subst, refl, arith}
use Rattle.std.specs.Prelude.{Contains}
use Rattle.sm_io.specs.Files.{Folder, KeepsOthers}
use Rattle.sm_model_commands.specs.asked.Answer.{code_of}
use Rattle.sm_model_commands.specs.asked.CommandAsked.{CommandAsked}
use Rattle.sm_model_commands.specs.asked.Outside.{Outside}
use Rattle.sm_model_commands.specs.asked.declared.status.Status.{Status}
use Rattle.sm_model_commands.specs.asked.declared.status.Status.TheVariants.{Done, Refused, Usage, ReadFault, WriteFault, NoMemory, Pattern, Limit}
use Rattle.sm_cross_command.specs.asked_ends.AskedEnds.{AskedEnds, StandsAsBefore}
use Rattle.sm_cross_command.specs.Cross.{cross_asked}
use Rattle.sm_cross_command.specs.CrossWords.{CrossAsked}
use Rattle.sm_commands.specs.Commands.{Command, IsCommandForm, asked_of}
use Rattle.sm_commands.specs.Run.{KeepsFiles, RunAnswers, RunEnds, WritingNone}
use Rattle.sm_commands.specs.steps.CarrySteps.{KeepsUnnamed, NamingNone}
use Rattle.sm_commands.proofs.OneForm.{one_form}

-- the command of the words ends so, and the run as it
run_ends : (words : List (List ℕ)) (before after : Outside) (command : Command) (status : Status) → IsCommandForm words command
    → AskedEnds before after (asked_of command) status → RunEnds words before after status
run_ends words before after command Done is ends = (command, is, ends)
run_ends words before after command Refused is ends = (command, is, ends)
run_ends words before after command Pattern is ends = (command, is, ends)
run_ends words before after command Limit is ends = (command, is, ends)
run_ends words before after command Usage is ends = absurd ends
run_ends words before after command ReadFault is ends = (command, is, ends)
run_ends words before after command WriteFault is ends = (command, is, ends)
run_ends words before after command NoMemory is ends = (command, is, ends)

pub command_runs : (words : List (List ℕ)) (before after : Outside) (command : Command) (status : Status) (code : ℕ)
    → IsCommandForm words command → AskedEnds before after (asked_of command) status → code ≡ code_of status
    → RunAnswers words before after code
command_runs words before after command status code is ends number = (status, number, run_ends words before after command status is ends)

-- what it leaves of files, by the words
pub unnamed_kept : (words : List (List ℕ)) (before after : Option Folder) (command : Command) → IsCommandForm words command
    → KeepsUnnamed (asked_of command) before after → KeepsFiles words before after
unnamed_kept words before after command is keeps other name is1 none =
    keeps name (subst (λ x. Contains (asked_of x).writes name → ⊥) (one_form words other command is1 is) none)

pub naming_none : (words : List (List ℕ)) (command : Command) (P : Type 0) → IsCommandForm words command → NamingNone (asked_of command) P
    → WritingNone words P
naming_none words command P is holds other is1 none =
    holds (subst (λ x. (asked_of x).writes ≡ []) (one_form words other command is1 is) none)

-- files that are as they were
pub files_kept : (asked : CommandAsked) (before after : Option Folder) → after ≡ before → KeepsUnnamed asked before after
files_kept asked before after e name other = subst (λ x. StandsAsBefore before x name) (sym e) (kept before)
  where
    kept : (folder : Option Folder) → StandsAsBefore folder folder name
    kept None = tt
    kept (Some folder) = refl

-- `cross` writes its file alone
pub others_kept : (w : CrossAsked) (before after : Option Folder) → KeepsOthers before after w.out_file
    → KeepsUnnamed (cross_asked w) before after
others_kept w before after keeps name none = kept before after keeps
  where
    other : name ≢ w.out_file
    other e = none (0, omega arith, sym e)

    kept : (before after : Option Folder) → KeepsOthers before after w.out_file → StandsAsBefore before after name
    kept None after keeps = tt
    kept (Some folder) None keeps = absurd keeps
    kept (Some folder) (Some later) keeps = keeps name other
