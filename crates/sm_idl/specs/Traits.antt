-- Traits (Smithy 2.0, "Smithy IDL", "Applying traits", "Documentation comment", "apply statement"), and the traits that other
-- forms stand for.
use Rattle.std.specs.Prelude.{◌≡◌, ℕ, true, false, List, [], ◌∷◌, Option, Some, None, codes}
use Rattle.sm_lex.specs.Space.{Documents}
use Rattle.sm_tree.specs.Limits.{most_levels}
use Rattle.sm_tree.specs.Node.{text}
use Rattle.sm_model.specs.PreludeShapes.{api_id}
use Rattle.sm_model.specs.Raw.{Raw, raw_leaf, empty_raw}
use Rattle.sm_model.specs.References.{absolute}
use Rattle.sm_model.specs.Said.{TraitSaid, Said, apply_said}
use Rattle.sm_idl.specs.Productions.{Tokens, Production, gives, ◌>>=◌, ◌>>◌, ◌or◌, maybe, each_behind, many}
use Rattle.sm_idl.specs.Words.{mark, the_word, id}
use Rattle.sm_idl.specs.Nodes.{Home, written, pair_of, as_object, node}

-- a node of a file with a namespace, of as many levels as are read
abbrev pub node_in : Home → Production Raw
node_in home = node (Some home) most_levels

-- pair+ | node
abbrev pub pairs_or_node : Home → Production Raw
pairs_or_node home = (do
  first ← pair_of (node_in home) []
  more ← each_behind (pair_of (node_in home)) (first ∷ [])
  gives (as_object (first ∷ more))) or node_in home

-- "(" [ pair+ | node ] ")"
abbrev pub arguments : Home → Production (Option Raw)
arguments home = do
  mark (codes "(")
  value ← maybe (pairs_or_node home)
  mark (codes ")")
  gives value

-- without parentheses, or with empty ones, the value is {}
abbrev pub argument_value : Option (Option Raw) → Raw
argument_value None = empty_raw
argument_value (Some None) = empty_raw
argument_value (Some (Some value)) = value

-- trait = "@" word [ "(" [ pair+ | node ] ")" ]
abbrev pub applied : Home → Production TraitSaid
applied home = do
  mark (codes "@")
  w ← id
  given ← maybe (arguments home)
  gives (record { id = written home w true; value = argument_value given })

abbrev pub traits : Home → Production (List TraitSaid)
traits home = many (applied home)

-- a trait of the prelude that another form stands for
abbrev pub standing_for : List ℕ → Raw → TraitSaid
standing_for name value = record { id = absolute (api_id name) true; value = value }

abbrev pub value_trait : List ℕ → Option Raw → List TraitSaid
value_trait name None = []
value_trait name (Some value) = standing_for name value ∷ []

-- the documentation comments before the first of these tokens are the trait `documentation`
abbrev pub DocsBefore : Tokens → Option (List ℕ) → Type 0
DocsBefore [] docs = docs ≡ None
DocsBefore (t ∷ s) docs = Documents t.space docs

abbrev pub docs_trait : Option (List ℕ) → List TraitSaid
docs_trait None = []
docs_trait (Some docs) = standing_for (codes "documentation") (raw_leaf (text docs)) ∷ []

abbrev pub documented : {X : Type 0} → (List TraitSaid → Production X) → Production X
documented p = record {
  whole = λ x s r. (docs : Option (List ℕ)) × DocsBefore s docs × (p (docs_trait docs)).whole x s r;
  begun = λ s. (docs : Option (List ℕ)) × DocsBefore s docs × (p (docs_trait docs)).begun s;
}

-- trait | "{" trait* "}"
abbrev pub one_trait : Home → Production (List TraitSaid)
one_trait home = do
  t ← applied home
  gives (t ∷ [])

abbrev pub braced_traits : Home → Production (List TraitSaid)
braced_traits home = do
  mark (codes "{")
  ts ← traits home
  mark (codes "}")
  gives ts

-- apply = "apply" word ( trait | "{" trait* "}" )
abbrev pub apply : Home → Production Said
apply home = do
  the_word (codes "apply")
  w ← id
  ts ← one_trait home or braced_traits home
  gives (apply_said (written home w false) ts)
