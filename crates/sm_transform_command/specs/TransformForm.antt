-- The form of the words of `transform`.
use Rattle.std.specs.Prelude.{◌≡◌, ◌<◌, ℕ, List, [], ◌∷◌, ◌++◌, codes, length}
use Rattle.sm_bytes.specs.Ascii.{equals}
use Rattle.sm_ids.specs.Identifier.{IsNamespace}
use Rattle.sm_transform_command.specs.declared.words.ChangeWords.{ChangeWords}
use Rattle.sm_transform_command.specs.declared.words.ChangeWords.TheVariants.{Include, Exclude, Rename}

-- what is asked: that what a selector picks is kept, or taken out, or that a namespace gets another name
pub data ChangeAsked : Type 0 where
  -- include SELECTOR
  asks_include : (selector : List ℕ) → ChangeAsked
  -- exclude SELECTOR
  asks_exclude : (selector : List ℕ) → ChangeAsked
  -- rename A=B
  asks_rename : (from to : List ℕ) → ChangeAsked

-- what the words of the code ask
abbrev pub change_asked : ChangeWords → ChangeAsked
change_asked (Include selector) = asks_include selector.now
change_asked (Exclude selector) = asks_exclude selector.now
change_asked (Rename from to) = asks_rename from.now to.now

-- its two words
abbrev pub verb_word : ChangeAsked → List ℕ
verb_word (asks_include selector) = codes "include"
verb_word (asks_exclude selector) = codes "exclude"
verb_word (asks_rename from to) = codes "rename"

abbrev pub argument_word : ChangeAsked → List ℕ
argument_word (asks_include selector) = selector
argument_word (asks_exclude selector) = selector
argument_word (asks_rename from to) = from ++ equals ∷ to

-- the names of `rename` are namespaces (Smithy 2.0, "Shape ID")
abbrev pub HasNamespaces : ChangeAsked → Type 0
HasNamespaces (asks_include selector) = Unit {0}
HasNamespaces (asks_exclude selector) = Unit {0}
HasNamespaces (asks_rename from to) = IsNamespace from × IsNamespace to

pub record SaysChange (verb argument : List ℕ) (asked : ChangeAsked) : Type 0 where
  pub verb_is : verb ≡ verb_word asked
  pub argument_is : argument ≡ argument_word asked
  pub named : HasNamespaces asked

-- transform MODEL+ VERB ARG
pub record IsTransformForm (words models : List (List ℕ)) (asked : ChangeAsked) : Type 0 where
  pub some : 0 < length models
  pub are : words ≡ codes "transform" ∷ (models ++ verb_word asked ∷ argument_word asked ∷ [])
  pub named : HasNamespaces asked
