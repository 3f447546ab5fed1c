-- What holds of a command that reads files alone: it comes to what its files come to, and leaves the input.
use Rattle.std.proofs.Common.{◌≡◌, ℕ, inl, List, Option, Some, Result, ap, subst, sym, ◌∙◌, refl}
use Rattle.std.specs.Global.{Vec}
use Rattle.sm_io.specs.Causes.{Rose}
use Rattle.sm_io.specs.Files.{Folder}
use Rattle.sm_io.specs.Seen.{FilesSeen, Stream}
use Rattle.sm_shapes.specs.Fitting.{Test}
use Rattle.sm_compile.specs.Answers.{StoreSeen}
use Rattle.sm_asked.specs.Answer.{Answer, Came, came}
use Rattle.sm_asked.specs.Answer.InputUse.{untouched}
use Rattle.sm_asked.specs.CommandAsked.{Answers, ReadFails, StopsShort, over_files}
use Rattle.sm_asked.specs.AskedLaws.{AreThere, ComesToOne, ComesToSome, ReachesInput, WritesAsNamed}
use Rattle.sm_asked.specs.Comes.{CommandComesTo, FilesComeTo}
use Rattle.sm_asked.specs.Outside.{InputsSeen, inputs_seen}
use Rattle.sm_asked.specs.declared.stop.CommandStop.{CommandStop}
use Rattle.sm_asked.proofs.Answered.{answer_before, none_is_some}
use Rattle.sm_asked.proofs.Stops.{comes_map}

pub files_come : (names : List (List ℕ)) (FilesSay : Option Folder → Answer → Type 0) (files files1 : FilesSeen) (input : Stream)
    (test : Test) (store : StoreSeen) (result : Result (Vec ℕ) CommandStop) → files1.held ≡ files.held
    → FilesComeTo FilesSay files files1 result
    → CommandComesTo (inputs_seen files input test store) (inputs_seen files1 input test store) (over_files names FilesSay) result
files_come names FilesSay files files1 input test store result held h =
    let before : InputsSeen = inputs_seen files input test store in
    let after : InputsSeen = inputs_seen files1 input test store in
    let asked = over_files names FilesSay in
    comes_map (FilesSay files.held) (Answers before after asked) (Rose files.read_faults files1.read_faults) (ReadFails before after asked)
    (Unit {0}) (StopsShort before after asked) result (λ a says. answer_before before after asked a (a, says, refl) refl refl)
    (λ rose. inl (record { rose = rose; held = held; input = refl; refusals = refl })) (λ short. inl refl) h

pub one_over_files : (names : List (List ℕ)) (FilesSay : Option Folder → Answer → Type 0)
    → ((folder : Folder) (a b : Answer) → FilesSay (Some folder) a → FilesSay (Some folder) b → a ≡ b)
    → ComesToOne (over_files names FilesSay)
one_over_files names FilesSay same t folder input c d all (a, h, e) (b, i, f) =
    e ∙ ap (came untouched) (same folder a b (subst (λ x. FilesSay x a) all.files h) (subst (λ x. FilesSay x b) all.files i)) ∙ sym f

pub some_over_files : (names : List (List ℕ)) (FilesSay : Option Folder → Answer → Type 0)
    → ((folder : Folder) → AreThere folder names → ((a : Answer) → FilesSay (Some folder) a → ⊥) → ⊥)
    → ComesToSome (over_files names FilesSay)
some_over_files names FilesSay some t folder input all there none =
    some folder there (λ a h. none (came untouched a) (a, subst (λ x. FilesSay x a) (sym all.files) h, refl))

pub reach_over_files : (names : List (List ℕ)) (FilesSay : Option Folder → Answer → Type 0) → ReachesInput (over_files names FilesSay)
reach_over_files names FilesSay t = (λ c says. inl (ap (λ (x : Came). x.input) says.2), λ h. absurd h)

pub none_over_files : (names : List (List ℕ)) (FilesSay : Option Folder → Answer → Type 0) → WritesAsNamed (over_files names FilesSay)
none_over_files names FilesSay t c file says is = none_is_some file (sym (ap (λ (x : Came). x.written) says.2) ∙ is)
