-- Model files come to one answer of the command `check`, and to some.
use Rattle.std.proofs.Common.{◌≡◌, ℕ, List, Some, ap, subst, sym, refl, ◌∙◌}
use Rattle.sm_io.specs.Files.{Folder}
use Rattle.sm_asked.specs.load.Events.{AreModelEvents}
use Rattle.sm_asked.proofs.load.OneModelLoaded.{one_event_list}
use Rattle.sm_asked.specs.load.Laws.{SomeLoad, SomeModelEvents}
use Rattle.sm_asked.specs.Answer.{Answer, done}
use Rattle.sm_model_commands.specs.Check.{CheckSays}
use Rattle.sm_model_commands.specs.Check.CheckSays.{not_loaded, checked}
use Rattle.sm_asked.specs.Lines.{event_lines}
use Rattle.sm_asked.specs.AskedLaws.{AreThere}
use Rattle.sm_asked.specs.declared.lines.Shown.TheVariants.{All}
use Rattle.sm_asked.proofs.OneLoad.{graph_same, load_apart, load_same}
use Rattle.sm_asked.proofs.SomeLoad.{load_answered}

pub check_same : (folder : Folder) (models : List (List ℕ)) (a b : Answer) → CheckSays (Some folder) models a
    → CheckSays (Some folder) models b → a ≡ b
check_same folder models a b (not_loaded h) (not_loaded i) = load_same All folder models a b h i
check_same folder models a b (not_loaded h) (checked l es are is) = absurd (load_apart All folder models a h l)
check_same folder models a b (checked k es are is) (not_loaded i) = absurd (load_apart All folder models b i k)
check_same folder models a b (checked k es are is) (checked l fs are1 is1) =
    let same = one_event_list l.graph es fs (subst (λ g. AreModelEvents g es) (graph_same folder models k l) are) are1 in
    is ∙ ap (λ xs. done (event_lines All xs)) same ∙ sym is1

pub check_answered : SomeLoad → SomeModelEvents → (folder : Folder) (models : List (List ℕ)) → AreThere folder models
    → ((a : Answer) → CheckSays (Some folder) models a → ⊥) → ⊥
check_answered loads events folder models there none =
    load_answered loads All folder models there (λ a h. none a (not_loaded h))
    (λ l. events l.graph (λ es are. none (done (event_lines All es)) (checked l es are refl)))
