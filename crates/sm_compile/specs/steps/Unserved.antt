-- Whether a shape isn't served by itself, told of its members one after the other.
use Rattle.std.specs.Prelude.{◌≡◌, ◌⊎◌, ℕ, Bool, true, false, List, [], ◌∷◌}
use Rattle.sm_model.specs.Graphs.{GraphMaps, member_id}
use Rattle.sm_model.specs.declared.kind.Kind.{Kind}
use Rattle.sm_model.specs.declared.kind.Kind.TheVariants.{Structure, Union}
use Rattle.sm_compile.specs.Served.{type_name}
use Rattle.sm_compile.specs.Sound.{json_name_of}

abbrev pub may_tell_type : Kind → Bool
may_tell_type Structure = true
may_tell_type Union = true
may_tell_type kind = false

-- the id is that of a member of the shape with the name under which a message tells its type
abbrev pub NamesType : GraphMaps → List ℕ → List ℕ → Type 0
NamesType g shape id =
    (name : List ℕ) × (id ≡ member_id shape name) × ((name ≡ type_name) ⊎ (json_name_of g shape name ≡ type_name))

abbrev pub TellsType : GraphMaps → List ℕ → List (List ℕ) → Type 0
TellsType g shape [] = ⊥
TellsType g shape (id ∷ ids) = NamesType g shape id ⊎ TellsType g shape ids
