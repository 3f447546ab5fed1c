-- Files and what is asked come to one answer of the command `transform`.
use Rattle.std.proofs.Common.{◌≡◌, ℕ, List, Some, sym, ap, subst, ◌∙◌}
use Rattle.sm_io.specs.Files.{Folder}
use Rattle.sm_model.specs.Graphs.{GraphMaps}
use Rattle.sm_model.specs.declared.event.ModelEvent.{ModelEvent}
use Rattle.sm_select.proofs.OneAnswer.{one_selector}
use Rattle.sm_model_commands.specs.asked.load.Events.{AreModelEvents}
use Rattle.sm_model_commands.specs.asked.load.Loading.{HasError}
use Rattle.sm_model_commands.proofs.asked.load.OneModelLoaded.{one_event_list}
use Rattle.sm_transform.specs.Changed.{Change, exclude, include, rename}
use Rattle.sm_transform.specs.Laws.{OneChanged}
use Rattle.sm_model_commands.specs.asked.Answer.{Answer, done, refused}
use Rattle.sm_model_commands.specs.asked.Lines.{event_lines}
use Rattle.sm_model_commands.specs.asked.declared.lines.Shown.TheVariants.{Errors}
use Rattle.sm_model_commands.proofs.asked.OneLoad.{graph_same, load_apart, load_same}
use Rattle.sm_model_commands.specs.Convert.{converted}
use Rattle.sm_model_commands.specs.Forms.{as_ast}
use Rattle.sm_model_commands.proofs.OneSelect.{no_selector_apart, no_selector_same}
use Rattle.sm_transform_command.specs.Transform.{ChangedSays, GraphSays, IsMeant, NoChangeSays, TransformSays}
use Rattle.sm_transform_command.specs.Transform.ChangedSays.{no_name, printed, rejected}
use Rattle.sm_transform_command.specs.Transform.GraphSays.{changed, no_change}
use Rattle.sm_transform_command.specs.Transform.TransformSays.{loaded, not_loaded}
use Rattle.sm_transform_command.specs.TransformForm.{ChangeAsked, asks_exclude, asks_include, asks_rename}

-- what is asked means one change
change_same : (asked : ChangeAsked) (x y : Change) → IsMeant asked x → IsMeant asked y → x ≡ y
change_same (asks_include text) (include s) (include t) h k = ap include (one_selector text s t h k)
change_same (asks_include text) (include s) (exclude t) h k = absurd k
change_same (asks_include text) (include s) (rename a b) h k = absurd k
change_same (asks_include text) (exclude s) y h k = absurd h
change_same (asks_include text) (rename a b) y h k = absurd h
change_same (asks_exclude text) (exclude s) (exclude t) h k = ap exclude (one_selector text s t h k)
change_same (asks_exclude text) (exclude s) (include t) h k = absurd k
change_same (asks_exclude text) (exclude s) (rename a b) h k = absurd k
change_same (asks_exclude text) (include s) y h k = absurd h
change_same (asks_exclude text) (rename a b) y h k = absurd h
change_same (asks_rename from to) (rename a b) (rename c d) h k = λ i. rename ((h.0 ∙ sym k.0) i) ((h.1 ∙ sym k.1) i)
change_same (asks_rename from to) (rename a b) (include t) h k = absurd k
change_same (asks_rename from to) (rename a b) (exclude t) h k = absurd k
change_same (asks_rename from to) (include s) y h k = absurd h
change_same (asks_rename from to) (exclude s) y h k = absurd h

none_same : (asked : ChangeAsked) (a b : Answer) → NoChangeSays asked a → NoChangeSays asked b → a ≡ b
none_same (asks_include text) a b h k = no_selector_same text a b h k
none_same (asks_exclude text) a b h k = no_selector_same text a b h k
none_same (asks_rename from to) a b h k = absurd h

none_apart : (asked : ChangeAsked) (a : Answer) (x : Change) → NoChangeSays asked a → IsMeant asked x → ⊥
none_apart (asks_include text) a (include s) h k = no_selector_apart text a s h k
none_apart (asks_include text) a (exclude s) h k = k
none_apart (asks_include text) a (rename b c) h k = k
none_apart (asks_exclude text) a (exclude s) h k = no_selector_apart text a s h k
none_apart (asks_exclude text) a (include s) h k = k
none_apart (asks_exclude text) a (rename b c) h k = k
none_apart (asks_rename from to) a x h k = h

module _ (one : OneChanged) where
  changed_same : (g : GraphMaps) (change : Change) (a b : Answer) → ChangedSays g change a → ChangedSays g change b → a ≡ b
  changed_same g change a b (no_name h is) (no_name k is1) = is ∙ sym is1
  changed_same g change a b (no_name h is) (rejected goes x made es rejects is1) = absurd (goes h)
  changed_same g change a b (no_name h is) (printed goes x made none is1) = absurd (goes h)
  changed_same g change a b (rejected goes x made es rejects is) (no_name k is1) = absurd (goes k)
  changed_same g change a b (rejected goes x made es rejects is) (rejected goes1 y made1 fs rejects1 is1) =
      let same : Path GraphMaps x y = one g x y change made made1 in
      is ∙ ap (λ (ts : List ModelEvent). refused (event_lines Errors ts))
      (one_event_list y es fs (subst (λ k. AreModelEvents k es) same rejects.1) rejects1.1) ∙ sym is1
  changed_same g change a b (rejected goes x made es rejects is) (printed goes1 y made1 none is1) =
      let same : Path GraphMaps x y = one g x y change made made1 in absurd (none (subst HasError same rejects.0))
  changed_same g change a b (printed goes x made none is) (no_name k is1) = absurd (goes k)
  changed_same g change a b (printed goes x made none is) (rejected goes1 y made1 es rejects is1) =
      let same : Path GraphMaps y x = one g y x change made1 made in absurd (none (subst HasError same rejects.0))
  changed_same g change a b (printed goes x made none is) (printed goes1 y made1 none1 is1) =
      let same : Path GraphMaps x y = one g x y change made made1 in
      is ∙ ap (λ (k : GraphMaps). done (converted as_ast k)) same ∙ sym is1

  graph_says_same : (g : GraphMaps) (asked : ChangeAsked) (a b : Answer) → GraphSays g asked a → GraphSays g asked b → a ≡ b
  graph_says_same g asked a b (no_change h) (no_change k) = none_same asked a b h k
  graph_says_same g asked a b (no_change h) (changed x is says) = absurd (none_apart asked a x h is)
  graph_says_same g asked a b (changed x is says) (no_change k) = absurd (none_apart asked b x k is)
  graph_says_same g asked a b (changed x is says) (changed y is1 says1) =
      changed_same g y a b (subst (λ (z : Change). ChangedSays g z a) (change_same asked x y is is1) says) says1

  pub transform_same : (folder : Folder) (models : List (List ℕ)) (asked : ChangeAsked) (a b : Answer)
      → TransformSays (Some folder) models asked a → TransformSays (Some folder) models asked b → a ≡ b
  transform_same folder models asked a b (not_loaded h) (not_loaded i) = load_same Errors folder models a b h i
  transform_same folder models asked a b (not_loaded h) (loaded l says) = absurd (load_apart Errors folder models a h l)
  transform_same folder models asked a b (loaded l says) (not_loaded h) = absurd (load_apart Errors folder models b h l)
  transform_same folder models asked a b (loaded k says) (loaded l says1) =
      graph_says_same l.graph asked a b (subst (λ g. GraphSays g asked a) (graph_same folder models k l) says) says1
