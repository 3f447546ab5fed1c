-- Files and a selector come to one answer of the command `select`, and where the files are there, to some.
use Rattle.std.proofs.Common.{◌≡◌, ℕ, List, Some, sym, ap, subst, ◌∙◌, refl}
use Rattle.sm_io.specs.Files.{Folder}
use Rattle.sm_model.specs.Graphs.{GraphMaps}
use Rattle.sm_select.specs.Answers.{ArePicked}
use Rattle.sm_select.specs.Selectors.{Steps}
use Rattle.sm_select.specs.SelectorText.{SelectorText}
use Rattle.sm_select.proofs.OneAnswer.{one_answer, one_selector}
use Rattle.sm_select.proofs.SomeAnswer.{some_answer}
use Rattle.sm_select.proofs.SomePicked.{one_picked, some_picked}
use Rattle.sm_asked.specs.load.Laws.{SomeLoad}
use Rattle.sm_asked.specs.Answer.{Answer, done, refused}
use Rattle.sm_model_commands.specs.SelectLines.{broken_selector_line, id_lines, other_selector_line}
use Rattle.sm_asked.specs.AskedLaws.{AreThere}
use Rattle.sm_model_commands.specs.Select.{NoSelectorSays, SelectorSays, SelectSays}
use Rattle.sm_model_commands.specs.Select.NoSelectorSays.{breaks, leaves}
use Rattle.sm_model_commands.specs.Select.SelectorSays.{no_selector, picks}
use Rattle.sm_model_commands.specs.Select.SelectSays.{not_loaded, selected}
use Rattle.sm_asked.specs.declared.lines.Shown.TheVariants.{Errors}
use Rattle.sm_asked.proofs.OneLoad.{load_same, load_apart, graph_same}
use Rattle.sm_asked.proofs.SomeLoad.{load_answered}

pub no_selector_same : (text : List ℕ) (a b : Answer) → NoSelectorSays text a → NoSelectorSays text b → a ≡ b
no_selector_same text a b (breaks at h is) (breaks at1 h1 is1) =
    is ∙ ap (λ k. refused (broken_selector_line k)) (one_answer.one_break text at at1 h h1) ∙ sym is1
no_selector_same text a b (breaks at h is) (leaves at1 h1 is1) = absurd (one_answer.break_or_other text at at1 h h1)
no_selector_same text a b (leaves at h is) (breaks at1 h1 is1) = absurd (one_answer.break_or_other text at1 at h1 h)
no_selector_same text a b (leaves at h is) (leaves at1 h1 is1) =
    is ∙ ap (λ k. refused (other_selector_line k)) (one_answer.one_other text at at1 h h1) ∙ sym is1

-- a text that is a selector has none of these answers
pub no_selector_apart : (text : List ℕ) (a : Answer) (steps : Steps) → NoSelectorSays text a → SelectorText steps text → ⊥
no_selector_apart text a steps (breaks at h is) k = one_answer.selector_or_break text at (steps, k) h
no_selector_apart text a steps (leaves at h is) k = one_answer.selector_or_other text at (steps, k) h

selector_same : (g : GraphMaps) (text : List ℕ) (a b : Answer) → SelectorSays g text a → SelectorSays g text b → a ≡ b
selector_same g text a b (no_selector h) (no_selector i) = no_selector_same text a b h i
selector_same g text a b (no_selector h) (picks steps i ids are is) = absurd (no_selector_apart text a steps h i)
selector_same g text a b (picks steps h ids are is) (no_selector i) = absurd (no_selector_apart text b steps i h)
selector_same g text a b (picks steps h ids are is) (picks steps1 h1 ids1 are1 is1) =
    is ∙ ap (λ ks. done (id_lines ks))
    (one_picked g steps1 ids ids1 (subst (λ x. ArePicked g x ids) (one_selector text steps steps1 h h1) are) are1) ∙ sym is1

pub select_same : (folder : Folder) (models : List (List ℕ)) (selector : List ℕ) (a b : Answer) → SelectSays (Some folder) models selector a
    → SelectSays (Some folder) models selector b → a ≡ b
select_same folder models selector a b (not_loaded h) (not_loaded i) = load_same Errors folder models a b h i
select_same folder models selector a b (not_loaded h) (selected l says) = absurd (load_apart Errors folder models a h l)
select_same folder models selector a b (selected l says) (not_loaded h) = absurd (load_apart Errors folder models b h l)
select_same folder models selector a b (selected k says) (selected l says1) =
    selector_same l.graph selector a b (subst (λ g. SelectorSays g selector a) (graph_same folder models k l) says) says1

-- it can't be that a text is no selector and has none of them
pub no_selector_answered : (text : List ℕ) → ((steps : Steps) → SelectorText steps text → ⊥) → ((a : Answer) → NoSelectorSays text a → ⊥) → ⊥
no_selector_answered text no_text none =
    some_answer text (λ is. no_text is.0 is.1) (λ at h. none (refused (broken_selector_line at)) (breaks at h refl))
    (λ at h. none (refused (other_selector_line at)) (leaves at h refl))

selector_answered : (g : GraphMaps) (text : List ℕ) → ((a : Answer) → SelectorSays g text a → ⊥) → ⊥
selector_answered g text none =
    no_selector_answered text
    (λ steps is. some_picked g steps (λ ids are. none (done (id_lines ids)) (picks steps is ids are refl)))
    (λ a says. none a (no_selector says))

pub select_answered : SomeLoad → (folder : Folder) (models : List (List ℕ)) (selector : List ℕ) → AreThere folder models
    → ((a : Answer) → SelectSays (Some folder) models selector a → ⊥) → ⊥
select_answered loads folder models selector there none =
    load_answered loads Errors folder models there (λ a says. none a (not_loaded says))
    (λ l. selector_answered l.graph selector (λ a says. none a (selected l says)))
