-- Classes of tokens in a file: what begins its parts, and what goes on with them.
use Rattle.std.specs.Prelude.{codes}
use Rattle.sm_model.specs.Kinds.{kind_name}
use Rattle.sm_model.specs.declared.kind.Kind.{Kind}
use Rattle.sm_idl.specs.steps.Firm.{Class}
use Rattle.sm_idl.specs.steps.Classes.{Either, AMark, AWord, At, Paren, With}

abbrev pub TypeWord : Class
TypeWord t = (k : Kind) × AWord (kind_name k) t

-- what begins a shape, and an item
abbrev pub ShapeStart : Class
ShapeStart = Either At TypeWord

abbrev pub Apply : Class
Apply = AWord (codes "apply")

-- what begins an item, and goes on with it
abbrev pub ItemStart : Class
ItemStart = Either ShapeStart Apply

abbrev pub ItemGoesOn : Class
ItemGoesOn = Either With Paren

abbrev pub Dollar : Class
Dollar = AMark (codes "$")

abbrev pub Metadata : Class
Metadata = AWord (codes "metadata")

abbrev pub Namespace : Class
Namespace = AWord (codes "namespace")

abbrev pub Use : Class
Use = AWord (codes "use")

abbrev pub ItemsGoOn : Class
ItemsGoOn = Either ItemStart ItemGoesOn

abbrev pub SectionGoesOn : Class
SectionGoesOn = Either Namespace (Either ItemsGoOn Use)

abbrev pub AfterControls : Class
AfterControls = Either Metadata Namespace

abbrev pub FileGoesOn : Class
FileGoesOn = Either (Either SectionGoesOn Metadata) Dollar
