-- A model's text (Smithy 2.0, "Smithy IDL"): which statements its tokens spell, which tokens the grammar begins with, and which
-- versions are read.
use Rattle.std.specs.Prelude.{◌≡◌, ◌⊎◌, ℕ, List, [], ◌∷◌, ◌++◌, map, Option, Some, None, codes}
use Rattle.std.specs.List.{filter, flat_map}
pub use Rattle.sm_ids.specs.TextParts.{is_absolute}
use Rattle.sm_ids.specs.Identifier.{IsNamespace}
use Rattle.sm_lex.specs.Tokens.{Lexeme, TokensSpell}
use Rattle.sm_tree.specs.Limits.{most_levels}
use Rattle.sm_tree.specs.Node.{text}
use Rattle.sm_model.specs.Raw.{raw_leaf}
use Rattle.sm_model.specs.Said.{Said, metadata_said}
use Rattle.sm_idl.specs.Productions.{Tokens, spaced, Production, gives, ◌>>=◌, ◌>>◌, maybe, each, many}
use Rattle.sm_idl.specs.Words.{mark, the_word, word_that, id, key}
use Rattle.sm_idl.specs.Nodes.{Home, Pair, pair_names, pair_of, node}
use Rattle.sm_idl.specs.Bodies.{Controls, Suffixes, suffixes}
use Rattle.sm_idl.specs.Shapes.{item}

-- control = "$" key ":" node
abbrev pub control : Option Home → List Pair → Production Pair
control home before = mark (codes "$") >> pair_of (node home most_levels) before

-- metadata = "metadata" key "=" node
abbrev pub metadata : Option Home → List Pair → Production Pair
metadata home before = do
  the_word (codes "metadata")
  k ← key (pair_names before)
  mark (codes "=")
  n ← node home most_levels
  gives (k, n)

-- use = "use" word
abbrev pub used : Production (List ℕ)
used = the_word (codes "use") >> id

-- the ids that are used: a name without its namespace changes nothing
abbrev pub home_of : List ℕ → List (List ℕ) → Home
home_of namespace ws = record { namespace = namespace; uses = filter is_absolute ws }

-- what stands behind the metadata: the file's namespace and the ids that it uses, and its statements
pub record SectionSaid : Type 0 where
  pub home : Home
  pub said : List Said

abbrev pub items : Home → Suffixes → Production SectionSaid
items home endings = do
  said ← many (item home endings)
  gives (record { home = home; said = flat_map (λ ss. ss) said })

-- "namespace" word use* item*
abbrev pub section : Suffixes → Production SectionSaid
section endings = do
  the_word (codes "namespace")
  namespace ← word_that IsNamespace
  ws ← many used
  items (home_of namespace ws) endings

-- a file: what its words are relative to, its controls, and its statements
pub record FileSaid : Type 0 where
  pub home : Option Home
  pub controls : Controls
  pub said : List Said

abbrev pub section_home : Option SectionSaid → Option Home
section_home None = None
section_home (Some s) = Some s.home

abbrev pub section_said : Option SectionSaid → List Said
section_said None = []
section_said (Some s) = s.said

abbrev pub metadata_statements : List Pair → List Said
metadata_statements ms = map (λ m. metadata_said m.0 m.1) ms

-- file = control* metadata* [ "namespace" word use* item* ]. The nodes before the namespace are relative to it too
abbrev pub file : Option Home → Production FileSaid
file home = do
  controls ← each (control home)
  ms ← each (metadata home)
  s ← maybe (section (suffixes controls))
  gives (record { home = section_home s; controls = controls; said = metadata_statements ms ++ section_said s })

-- the tokens spell this file
abbrev pub FileSpelled : FileSaid → Tokens → Type 0
FileSpelled f ts = (file f.home).whole f ts []

-- The tokens are begun by the productions. What stands so far is that of a file with a namespace, whose words are ids: so a suffix
-- that is a word is none, wherever the namespace stands
abbrev pub Begun : Tokens → Type 0
Begun ts = (home : Home) × (file (Some home)).begun ts

-- the text is that of this file
abbrev pub Idl : FileSaid → List ℕ → Type 0
Idl f bytes = (xs : List Lexeme) × TokensSpell xs bytes × FileSpelled f (spaced bytes xs)

-- the control `version` is there, and is "2" or "2.0"
abbrev pub IsVersion : Pair → Type 0
IsVersion c = (c.0 ≡ codes "version") × ((c.1 ≡ raw_leaf (text (codes "2"))) ⊎ (c.1 ≡ raw_leaf (text (codes "2.0"))))

abbrev pub HaveVersion : Controls → Type 0
HaveVersion [] = ⊥
HaveVersion (c ∷ cs) = IsVersion c ⊎ HaveVersion cs
