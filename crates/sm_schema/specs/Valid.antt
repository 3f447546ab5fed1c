-- Which instances a schema accepts, by JSON Schema 2020-12 ("Core", 4.3.1 to 4.3.3, and 8.2.3). A schema is `true`, `false`, or an object
-- whose keywords all hold; a keyword that isn't among those of Keywords is an annotation, and holds. So of schemas whose other keywords
-- are annotations this is what the standard says. A reference is one into the definitions of the whole schema, by a name without escapes.
use Rattle.std.specs.Prelude.{◌≡◌, ℕ, zero, suc, ◌+◌, ◌==◌, Bool, true, false, ◌&&◌, cond, List, [], ◌∷◌, Option, Some, None, codes}
use Rattle.std.specs.Str.{bytes_eq}
use Rattle.sm_tree.specs.Node.{Node, Nodes, Members, bool, text, list, object, no_nodes, node}
use Rattle.sm_tree.specs.Node.{no_members, member}
use Rattle.sm_tree.specs.Parts.{tree_named}
use Rattle.sm_tree.specs.Size.{node_size}
use Rattle.sm_shapes.specs.Fitting.{Test}
use Rattle.sm_schema.specs.Keywords.{Part, Property, Instance, type_holds, enum_holds, minimum_holds, maximum_holds, min_length_holds}
use Rattle.sm_schema.specs.Keywords.{max_length_holds, pattern_holds, min_items_holds, max_items_holds, unique_items_holds}
use Rattle.sm_schema.specs.Keywords.{min_properties_holds, max_properties_holds, required_holds, items_hold, properties_hold}
use Rattle.sm_schema.specs.Keywords.{schemas_in, schemas_of, additional_hold, names_hold}

-- what a schema is asked with: the test of patterns, what the schema that a reference leads to says of the instance, and the instance
pub record Asked : Type 0 where
  pub test : Test
  pub refers : List ℕ → Bool
  pub instance : Instance

-- "Core", 8.2.3.1, "$ref"
abbrev pub reference_holds : (List ℕ → Bool) → Node → Bool
reference_holds refers (text u) = refers u
reference_holds refers v = false

-- what the keyword of this name says, by its value, by the keywords beside it, and by how many of the schemas in its value accept the
-- instance ("Core", 10.2.1.3, "oneOf": exactly one)
abbrev pub keyword_holds : Asked → Members → List ℕ → Node → ℕ → Bool
keyword_holds x beside name v accepting =
    cond (bytes_eq name (codes "$ref")) (reference_holds x.refers v) (
    cond (bytes_eq name (codes "type")) (type_holds v x.instance.tree) (
    cond (bytes_eq name (codes "enum")) (enum_holds v x.instance.tree) (
    cond (bytes_eq name (codes "minimum")) (minimum_holds v x.instance.tree) (
    cond (bytes_eq name (codes "maximum")) (maximum_holds v x.instance.tree) (
    cond (bytes_eq name (codes "minLength")) (min_length_holds v x.instance.tree) (
    cond (bytes_eq name (codes "maxLength")) (max_length_holds v x.instance.tree) (
    cond (bytes_eq name (codes "pattern")) (pattern_holds x.test v x.instance.tree) (
    cond (bytes_eq name (codes "minItems")) (min_items_holds v x.instance.tree) (
    cond (bytes_eq name (codes "maxItems")) (max_items_holds v x.instance.tree) (
    cond (bytes_eq name (codes "uniqueItems")) (unique_items_holds v x.instance.tree) (
    cond (bytes_eq name (codes "minProperties")) (min_properties_holds v x.instance.tree) (
    cond (bytes_eq name (codes "maxProperties")) (max_properties_holds v x.instance.tree) (
    cond (bytes_eq name (codes "required")) (required_holds v x.instance.tree) (
    cond (bytes_eq name (codes "items")) (items_hold v x.instance) (
    cond (bytes_eq name (codes "properties")) (properties_hold v x.instance) (
    cond (bytes_eq name (codes "additionalProperties")) (additional_hold beside v x.instance) (
    cond (bytes_eq name (codes "propertyNames")) (names_hold v x.instance) (
    cond (bytes_eq name (codes "oneOf")) (accepting == 1)
    true))))))))))))))))))

abbrev mutual
  -- the schema accepts the instance
  pub accepts : Asked → Node → Bool
  accepts x (bool b) = b
  accepts x (object keywords) = all_hold x keywords keywords
  accepts x n = false

  -- these keywords hold, of all that stand beside each other
  pub all_hold : Asked → Members → Members → Bool
  all_hold x beside no_members = true
  all_hold x beside (member name v keywords) = keyword_holds x beside name v (how_many_in x v) && all_hold x beside keywords

  -- how many of these schemas accept it
  pub how_many_in : Asked → Node → ℕ
  how_many_in x (list schemas) = how_many x schemas
  how_many_in x v = 0

  pub how_many : Asked → Nodes → ℕ
  how_many x no_nodes = 0
  how_many x (node schema schemas) = cond (accepts x schema) 1 0 + how_many x schemas

-- the rest of a text that begins so
abbrev pub behind_prefix : List ℕ → List ℕ → Option (List ℕ)
behind_prefix [] u = Some u
behind_prefix (a ∷ as_given) [] = None
behind_prefix (a ∷ as_given) (b ∷ u) = cond (a == b) (behind_prefix as_given u) None

-- "Core", 8.2.4, "$defs": what stands there under a name
abbrev pub defined : Members → Option (List ℕ) → Option Node
defined definitions None = None
defined definitions (Some name) = tree_named name definitions

-- what a reference leads to in the whole schema
abbrev pub referred : Node → List ℕ → Option Node
referred root u = defined (schemas_of (tree_named (codes "$defs") (schemas_in root))) (behind_prefix (codes "#/$defs/") u)

-- A reference that leads nowhere accepts nothing. Nor does one behind so many others that one has come twice: there a reader turns in a
-- circle ("Core", 9.4.1).
abbrev pub accepts_referred : Asked → Option Node → Bool
accepts_referred x None = false
accepts_referred x (Some schema) = accepts x schema

abbrev pub refers_by : Test → Node → Instance → ℕ → List ℕ → Bool
refers_by test root i zero u = false
refers_by test root i (suc left) u =
    accepts_referred (record { test = test; refers = λ w. refers_by test root i left w; instance = i }) (referred root u)

-- what an instance is asked with by the schemas of a whole schema
abbrev pub asked : Test → Node → Instance → Asked
asked test root i = record { test = test; refers = λ u. refers_by test root i (suc (node_size root)) u; instance = i }

-- an instance that is no array and no object
abbrev pub leaf_instance : Node → Instance
leaf_instance n = record { tree = n; elements = []; properties = [] }

abbrev mutual
  pub instance_of : Test → Node → Node → Instance
  instance_of test root (list ns) = record { tree = list ns; elements = elements_of test root ns; properties = [] }
  instance_of test root (object ms) = record { tree = object ms; elements = []; properties = properties_of test root ms }
  instance_of test root n = leaf_instance n

  pub elements_of : Test → Node → Nodes → List Part
  elements_of test root no_nodes = []
  elements_of test root (node n ns) =
      record { tree = n; accepted = λ schema. accepts (asked test root (instance_of test root n)) schema } ∷ elements_of test root ns

  pub properties_of : Test → Node → Members → List Property
  properties_of test root no_members = []
  properties_of test root (member name n ms) =
      record {
        name = name;
        name_accepted = λ schema. accepts (asked test root (leaf_instance (text name))) schema;
        value = record { tree = n; accepted = λ schema. accepts (asked test root (instance_of test root n)) schema };
      } ∷ properties_of test root ms

-- whether a schema, which is the whole one, accepts a tree
abbrev pub is_valid : Test → Node → Node → Bool
is_valid test root n = accepts (asked test root (instance_of test root n)) root

abbrev pub Valid : Test → Node → Node → Type 0
Valid test root n = is_valid test root n ≡ true
