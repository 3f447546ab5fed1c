-- Where the files and the input are told, what model files come to is one thing, and the input is one.
use Rattle.std.proofs.Common.{◌≡◌, ℕ, List, Option, Some, sym, subst, ◌∙◌}
use Rattle.sm_io.specs.Files.{Folder}
use Rattle.sm_model.specs.Graphs.{GraphMaps}
use Rattle.sm_asked.specs.Answer.{Answer}
use Rattle.sm_asked.specs.Loading.{Loaded, LoadAnswers}
use Rattle.sm_asked.specs.AskedLaws.{TellsAll}
use Rattle.sm_asked.specs.Stages.{Told, IsInput}
use Rattle.sm_asked.specs.declared.lines.Shown.TheVariants.{Errors}
use Rattle.sm_asked.proofs.OneLoad.{load_same, load_apart, graph_same}

pub record IsToldWhole (t : Told) : Type 0 where
  pub answers : (names : List (List ℕ)) (a b : Answer) → LoadAnswers Errors t.files names a → LoadAnswers Errors t.files names b → a ≡ b
  pub apart : (names : List (List ℕ)) (a : Answer) → LoadAnswers Errors t.files names a → Loaded t.files names → ⊥
  pub graphs : (names : List (List ℕ)) (k l : Loaded t.files names) → Path GraphMaps k.graph l.graph
  pub inputs : (xs ys : List ℕ) → IsInput t.input xs → IsInput t.input ys → xs ≡ ys

abbrev HaveOneAnswer : Option Folder → Type 0
HaveOneAnswer files = (names : List (List ℕ)) (a b : Answer) → LoadAnswers Errors files names a → LoadAnswers Errors files names b → a ≡ b

abbrev AnswerOrGraph : Option Folder → Type 0
AnswerOrGraph files = (names : List (List ℕ)) (a : Answer) → LoadAnswers Errors files names a → Loaded files names → ⊥

abbrev HaveOneGraph : Option Folder → Type 0
HaveOneGraph files = (names : List (List ℕ)) (k l : Loaded files names) → Path GraphMaps k.graph l.graph

abbrev IsOneInput : Option (List ℕ) → Type 0
IsOneInput input = (xs ys : List ℕ) → IsInput input xs → IsInput input ys → xs ≡ ys

one_input : (bytes : List ℕ) → IsOneInput (Some bytes)
one_input bytes xs ys h i = sym h ∙ i

pub all_told : (t : Told) (folder : Folder) (input : List ℕ) → TellsAll t folder input → IsToldWhole t
all_told t folder input all = record {
  answers = subst HaveOneAnswer (sym all.files) (load_same Errors folder);
  apart = subst AnswerOrGraph (sym all.files) (load_apart Errors folder);
  graphs = subst HaveOneGraph (sym all.files) (graph_same folder);
  inputs = subst IsOneInput (sym all.input) (one_input input);
}
