-- The commands as data: the form of each one's words, and what each asks.
use Rattle.std.specs.Prelude.{◌≡◌, ℕ, Bool, List, codes, Contains}
use Rattle.sm_bodies.specs.declared.form.BodyForm.{BodyForm}
use Rattle.sm_model_commands.specs.asked.CommandAsked.{CommandAsked}
use Rattle.sm_model_commands.specs.Check.{check_asked}
use Rattle.sm_model_commands.specs.Convert.{convert_asked}
use Rattle.sm_model_commands.specs.Forms.{GraphForm, IsCheckForm, IsConvertForm, IsSelectForm}
use Rattle.sm_model_commands.specs.Select.{select_asked}
use Rattle.sm_body_command.specs.Body.{body_asked}
use Rattle.sm_body_command.specs.BodyWords.{IsBodyForm}
use Rattle.sm_cross_command.specs.Cross.{cross_asked}
use Rattle.sm_cross_command.specs.CrossWords.{CrossAsked, IsCrossForm}
use Rattle.sm_schema_command.specs.Schema.{schema_asked}
use Rattle.sm_schema_command.specs.SchemaForm.{IsSchemaForm}
use Rattle.sm_transform_command.specs.Transform.{transform_asked}
use Rattle.sm_transform_command.specs.TransformForm.{ChangeAsked, IsTransformForm}

pub data Command : Type 0 where
  -- check MODEL+
  check_command : (models : List (List ℕ)) → Command
  -- body MODELFILE SHAPE NEAR FAR
  body_command : (model shape : List ℕ) → (near far : BodyForm) → Command
  -- convert MODEL+ FORM
  convert_command : (models : List (List ℕ)) → (form : GraphForm) → Command
  -- select MODEL+ SELECTOR
  select_command : (models : List (List ℕ)) → (selector : List ℕ) → Command
  -- schema MODELFILE SHAPE NAMES, or schema MODELFILE SHAPE NAMES described
  schema_command : (model shape : List ℕ) → (json_names described : Bool) → Command
  -- cross MODEL+ SERVICE FRONT BACK HOST BACKFILE OUTFILE
  cross_command : (words : CrossAsked) → Command
  -- transform MODEL+ VERB ARG
  transform_command : (models : List (List ℕ)) → (asked : ChangeAsked) → Command

-- the words have the form of the command
abbrev pub IsCommandForm : List (List ℕ) → Command → Type 0
IsCommandForm words (check_command models) = IsCheckForm words models
IsCommandForm words (body_command model shape near far) = IsBodyForm words model shape near far
IsCommandForm words (convert_command models form) = IsConvertForm words models form
IsCommandForm words (select_command models selector) = IsSelectForm words models selector
IsCommandForm words (schema_command model shape json_names described) = IsSchemaForm words model shape json_names described
IsCommandForm words (cross_command w) = IsCrossForm words w
IsCommandForm words (transform_command models asked) = IsTransformForm words models asked

-- what it asks
abbrev pub asked_of : Command → CommandAsked
asked_of (check_command models) = check_asked models
asked_of (body_command model shape near far) = body_asked model shape near far
asked_of (convert_command models form) = convert_asked models form
asked_of (select_command models selector) = select_asked models selector
asked_of (schema_command model shape json_names described) = schema_asked model shape json_names described
asked_of (cross_command w) = cross_asked w
asked_of (transform_command models asked) = transform_asked models asked

-- its first word
abbrev pub first_word : Command → List ℕ
first_word (check_command models) = codes "check"
first_word (body_command model shape near far) = codes "body"
first_word (convert_command models form) = codes "convert"
first_word (select_command models selector) = codes "select"
first_word (schema_command model shape json_names described) = codes "schema"
first_word (cross_command w) = codes "cross"
first_word (transform_command models asked) = codes "transform"

-- the words have the form of none
abbrev pub IsNoForm : List (List ℕ) → Type 0
IsNoForm words = (command : Command) → IsCommandForm words command → ⊥

-- a law: words have the form of one command at most
abbrev pub OneCommandForm : Type 0
OneCommandForm = (words : List (List ℕ)) (command command1 : Command) → IsCommandForm words command → IsCommandForm words command1
    → command ≡ command1

-- the files that such words name to be read may be read
abbrev pub LetsRead : (List ℕ → Type 0) → List (List ℕ) → Type 0
LetsRead lets words = (command : Command) (name : List ℕ) → IsCommandForm words command → Contains (asked_of command).reads name → lets name

-- and those that they name to be written may be written
abbrev pub LetsWrite : (List ℕ → Type 0) → List (List ℕ) → Type 0
LetsWrite lets words = (command : Command) (name : List ℕ) → IsCommandForm words command → Contains (asked_of command).writes name → lets name
