-- What a shape comes to with its mixins (Smithy 2.0, "Mixins"): its members are those of its mixins in their order, then its own; a
-- member that is defined again keeps its first place and target. Traits of mixins and of their members are copied; a later mixin's
-- value takes the place of an earlier one's, and a value that is given directly that of both.
use Rattle.std.specs.Prelude.{◌≡◌, ◌⊎◌, ◌↔◌, ℕ, Bool, not, List, [], ◌∷◌, ◌++◌, map, Option, Some, None, codes}
use Rattle.std.specs.List.{list_any, filter, flat_map, cons_option, Contains}
use Rattle.std.specs.Option.{option_or, unwrap_or}
use Rattle.std.specs.FinMap as fin
use Rattle.std.specs.Str.{bytes_eq}
use Rattle.sm_tree.specs.Node.{Node, Nodes, no_nodes, node, no_members}
use Rattle.sm_tree.specs.Parts.{text_in, entries_in, pairs_in, tree_named}
use Rattle.sm_model.specs.Graphs.{text_cmp, NodeMap, MemberEntry, MemberGiven, member_id}
use Rattle.sm_model.specs.PreludeShapes.{api_id}
use Rattle.sm_merge.specs.Stated.{ShapeStated, Stated}
use Rattle.sm_merge.specs.Values.{IsValueOf}
use Rattle.sm_merge.specs.Places.{shape_under, mixins_of, trait_values}

-- members by their names, in order, and traits
abbrev pub EffectiveMembers : Type 0
EffectiveMembers = List (List ℕ × MemberEntry)

pub record EffectiveShape : Type 0 where
  pub members : EffectiveMembers
  pub traits : NodeMap

abbrev pub mixin_trait : List ℕ
mixin_trait = api_id (codes "mixin")

-- one shape mixes in the other
abbrev pub MixesIn : List Stated → List ℕ → List ℕ → Type 0
MixesIn ss id mixin = Contains (mixins_of (shape_under id ss)) mixin

-- by these shapes, one after the other, the last of which mixes in the given one
abbrev pub IsPath : List Stated → List ℕ → List (List ℕ) → List ℕ → Type 0
IsPath ss id [] end = MixesIn ss id end
IsPath ss id (next ∷ more) end = MixesIn ss id next × IsPath ss next more end

-- a shape that is mixed in, one way or another, by itself
abbrev pub IsOnCycle : List Stated → List ℕ → Type 0
IsOnCycle ss id = (between : List (List ℕ)) × IsPath ss id between id

-- a mixin that contributes to a shape: it is there, has the shape's type, is marked, and stands on no cycle
pub record Contributes (ss : List Stated) (s : ShapeStated) (mixin : List ℕ) : Type 0 where
  pub found : ShapeStated
  pub there : shape_under mixin ss ≡ Some found
  pub kind : found.shape.kind ≡ s.shape.kind
  pub mixin_value : Node
  pub marked : IsValueOf (trait_values ss mixin mixin_trait) mixin_value
  pub acyclic : IsOnCycle ss mixin → ⊥

-- the traits of a mixin that its `localTraits` names
abbrev pub texts_among : Nodes → List (List ℕ)
texts_among no_nodes = []
texts_among (node n ns) = cons_option (text_in n) (texts_among ns)

abbrev pub local_names : Option Node → List (List ℕ)
local_names None = []
local_names (Some n) = texts_among (unwrap_or (entries_in n) no_nodes)

abbrev pub local_traits : Node → List (List ℕ)
local_traits value = local_names (tree_named (codes "localTraits") (unwrap_or (pairs_in value) no_members))

-- what is copied from a mixin: all but `mixin`, of the shape and of its members, and on the shape but its local traits
abbrev pub is_copied : Node → List ℕ → Bool
is_copied value name = not (list_any (bytes_eq name) (mixin_trait ∷ local_traits value))

abbrev pub member_copied : MemberEntry → MemberEntry
member_copied e = record { target = e.target; traits = fin.remove e.traits mixin_trait }

abbrev pub copy_of : Node → EffectiveShape → EffectiveShape
copy_of value m = record { members = map (λ e. (e.0, member_copied e.1)) m.members; traits = fin.retain_keys m.traits (is_copied value) }

-- the members of mixins, one after the other, and behind them the shape's own
abbrev pub own_member : MemberGiven → List ℕ × MemberEntry
own_member m = (m.name, record { target = m.target; traits = fin.empty })

abbrev pub all_members : List EffectiveShape → List MemberGiven → EffectiveMembers
all_members copied own = flat_map (λ m. m.members) copied ++ map own_member own

abbrev pub names_of : EffectiveMembers → List (List ℕ)
names_of ms = map (λ m. m.0) ms

-- each name where it stands first
abbrev pub each_once : List (List ℕ) → List (List ℕ)
each_once [] = []
each_once (name ∷ names) = name ∷ filter (λ other. not (bytes_eq name other)) (each_once names)

-- the values of a trait that the copies have, mixin by mixin: on the shape, and on the member of a name
abbrev pub member_value : List ℕ → Option MemberEntry → Option Node
member_value name None = None
member_value name (Some e) = fin.get e.traits name

abbrev pub shape_values : List EffectiveShape → List ℕ → List (Option Node)
shape_values copied name = map (λ m. fin.get m.traits name) copied

abbrev pub member_values : List EffectiveShape → List ℕ → List ℕ → List (Option Node)
member_values copied member name = map (λ m. member_value name (fin.find text_cmp member m.members)) copied

-- the last that is there
abbrev pub last_there : List (Option Node) → Option Node
last_there [] = None
last_there (o ∷ os) = option_or (last_there os) o

-- the value of a trait: what is given directly, else what the last mixin has that has it
abbrev pub IsEffectiveValue : List Stated → List ℕ → List (Option Node) → List ℕ → Node → Type 0
IsEffectiveValue ss place copied name n =
    IsValueOf (trait_values ss place name) n ⊎ ((trait_values ss place name ≡ []) × (last_there copied ≡ Some n))

-- a member has the target of the first of its name
pub record IsEffectiveMember (ss : List Stated) (id : List ℕ) (copied : List EffectiveShape) (all : EffectiveMembers) (name : List ℕ)
    (e : MemberEntry) : Type 0 where
  pub first : MemberEntry
  pub found : fin.find text_cmp name all ≡ Some first
  pub target : e.target ≡ first.target
  pub traits : (t : List ℕ) (n : Node)
      → (fin.get e.traits t ≡ Some n) ↔ IsEffectiveValue ss (member_id id name) (member_values copied name t) t n

abbrev pub AreEffectiveMembers : List Stated → List ℕ → List EffectiveShape → EffectiveMembers → EffectiveMembers → Type 0
AreEffectiveMembers ss id copied all [] = Unit {0}
AreEffectiveMembers ss id copied all (m ∷ ms) = IsEffectiveMember ss id copied all m.0 m.1 × AreEffectiveMembers ss id copied all ms

-- a shape with its mixins, from the copies of those that contribute
pub record IsMadeFrom (ss : List Stated) (id : List ℕ) (s : ShapeStated) (copied : List EffectiveShape) (m : EffectiveShape) : Type 0 where
  pub names : names_of m.members ≡ each_once (names_of (all_members copied s.shape.members))
  pub members : AreEffectiveMembers ss id copied (all_members copied s.shape.members) m.members
  pub traits : (t : List ℕ) (n : Node) → (fin.get m.traits t ≡ Some n) ↔ IsEffectiveValue ss id (shape_values copied t) t n

mutual
  -- what stands under an id, with its mixins
  pub data IsEffective (ss : List Stated) : List ℕ → EffectiveShape → Type 0 where
    effective : (id : List ℕ) (m : EffectiveShape) (s : ShapeStated) (copied : List EffectiveShape) → shape_under id ss ≡ Some s
        → AreCopied ss s s.mixins copied → IsMadeFrom ss id s copied m → IsEffective ss id m

  -- the copies of these mixins of a shape, but for those that don't contribute
  pub data AreCopied (ss : List Stated) : ShapeStated → List (List ℕ) → List EffectiveShape → Type 0 where
    no_mixins : (s : ShapeStated) → AreCopied ss s [] []
    mixed_in : (s : ShapeStated) (mixin : List ℕ) (mixins : List (List ℕ)) (c : Contributes ss s mixin) (m : EffectiveShape)
        (copied : List EffectiveShape)
        → IsEffective ss mixin m → AreCopied ss s mixins copied → AreCopied ss s (mixin ∷ mixins) (copy_of c.mixin_value m ∷ copied)
    passed_over : (s : ShapeStated) (mixin : List ℕ) (mixins : List (List ℕ)) (copied : List EffectiveShape)
        → (Contributes ss s mixin → ⊥) → AreCopied ss s mixins copied → AreCopied ss s (mixin ∷ mixins) copied
