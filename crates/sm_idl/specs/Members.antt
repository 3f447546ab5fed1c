-- Members (Smithy 2.0, "Smithy IDL", "Aggregate types"): of enums, of lists, maps and unions, and of structures.
use Rattle.std.specs.Prelude.{ℕ, false, if◌then◌else◌, List, [], ◌∷◌, ◌++◌, map, Option, Some, None, codes}
use Rattle.std.specs.Str.{bytes_eq}
use Rattle.sm_ids.specs.Identifier.{IsIdentifier}
use Rattle.sm_model.specs.Formed.{StandsAmong, stated_names}
use Rattle.sm_model.specs.Kinds.{MemberForm, none, exactly, any}
use Rattle.sm_model.specs.PreludeShapes.{unit_id}
use Rattle.sm_model.specs.Raw.{Raw}
use Rattle.sm_model.specs.References.{absolute}
use Rattle.sm_model.specs.Said.{TraitSaid, MemberSaid}
use Rattle.sm_model.specs.declared.reference.Ref.{Ref}
use Rattle.sm_idl.specs.Productions.{Production, gives, ◌>>=◌, ◌>>◌, maybe, each, many}
use Rattle.sm_idl.specs.Words.{mark, mark_where, the_word, word_that, id, IsNew}
use Rattle.sm_idl.specs.Nodes.{Home, written}
use Rattle.sm_idl.specs.Traits.{node_in, traits, value_trait, documented}

-- which names a shape's members may have: any, or those of its type
abbrev pub IsNameOf : MemberForm → List ℕ → Type 0
IsNameOf none name = ⊥
IsNameOf (exactly names) name = StandsAmong name names
IsNameOf any name = Unit

-- all of these names are among a shape's members
abbrev pub StandAmong : List (List ℕ) → List (List ℕ) → Type 0
StandAmong [] names = Unit
StandAmong (k ∷ ks) names = StandsAmong k names × StandAmong ks names

abbrev pub HasMembers : MemberForm → List MemberSaid → Type 0
HasMembers none ms = Unit
HasMembers (exactly names) ms = StandAmong names (stated_names ms)
HasMembers any ms = Unit

-- the members of a list or a map stand in the order of the type, whatever the text's
abbrev pub member_under : List ℕ → List MemberSaid → List MemberSaid
member_under name [] = []
member_under name (m ∷ ms) = if bytes_eq m.name name then m ∷ [] else member_under name ms

abbrev pub members_under : List (List ℕ) → List MemberSaid → List MemberSaid
members_under [] ms = []
members_under (k ∷ ks) ms = member_under k ms ++ members_under ks ms

abbrev pub arranged : MemberForm → List MemberSaid → List MemberSaid
arranged none ms = ms
arranged (exactly names) ms = members_under names ms
arranged any ms = ms

-- a member's name: an identifier that the type takes, and that no member before it has
abbrev pub member_name : MemberForm → List MemberSaid → Production (List ℕ)
member_name form before = word_that (λ name. IsIdentifier name × IsNameOf form name × IsNew name (stated_names before))

-- "=" node
abbrev pub equals_node : Home → Production Raw
equals_node home = mark (codes "=") >> node_in home

-- [ "=" node ]
abbrev pub given_value : Home → Production (Option Raw)
given_value home = maybe (equals_node home)

-- enumMember = trait* word [ "=" node ]
abbrev pub enum_member_with : Home → List MemberSaid → List TraitSaid → Production MemberSaid
enum_member_with home before docs = do
  ts ← traits home
  name ← member_name any before
  value ← given_value home
  gives (record { name = name; target = absolute unit_id false; traits = docs ++ ts ++ value_trait (codes "enumValue") value })

abbrev pub enum_member : Home → List MemberSaid → Production MemberSaid
enum_member home before = documented (enum_member_with home before)

-- member = trait* word ":" word
abbrev pub member_with : Home → MemberForm → List MemberSaid → List TraitSaid → Production MemberSaid
member_with home form before docs = do
  ts ← traits home
  name ← member_name form before
  mark (codes ":")
  target ← id
  gives (record { name = name; target = written home target false; traits = docs ++ ts })

abbrev pub member : Home → MemberForm → List MemberSaid → Production MemberSaid
member home form before = documented (member_with home form before)

-- field = member [ "=" node ]
abbrev pub field : Home → List MemberSaid → Production MemberSaid
field home before = do
  m ← member home any before
  value ← given_value home
  gives (record m { traits = m.traits ++ value_trait (codes "default") value })

-- "{" member* "}", for each kind of member
abbrev pub members : MemberForm → (List MemberSaid → Production MemberSaid) → Production (List MemberSaid)
members form each_member = do
  mark (codes "{")
  ms ← each each_member
  mark_where (codes "}") (HasMembers form ms)
  gives (arranged form ms)

-- with = "with" "[" word* "]"
abbrev pub with_mixins : Home → Production (List Ref)
with_mixins home = do
  the_word (codes "with")
  mark (codes "[")
  ws ← many id
  mark (codes "]")
  gives (map (λ w. written home w false) ws)

abbrev pub or_none : {X : Type 0} → Option (List X) → List X
or_none None = []
or_none (Some xs) = xs

-- [ with ]
abbrev pub mixins : Home → Production (List Ref)
mixins home = do
  given ← maybe (with_mixins home)
  gives (or_none given)
