-- A table that is filled number by number, in an order in which each stands behind those that its entry is made from.
use Rattle.std.specs.Prelude.{◌≡◌, ◌<◌, ◌++◌, ℕ, Bool, List, [], ◌∷◌, Option, None, Some, slice_get, if◌then◌else◌, not}
use Rattle.std.specs.Global.{Vec}
use Rattle.std.specs.List.{filter, flat_map}
use Rattle.std.specs.FinMap as fin
use Rattle.std.specs.Str.{bytes_eq}
use Rattle.std.specs.Prelude.{map}
use Rattle.sm_tree.specs.View.{node_of}
use Rattle.sm_model.specs.Graphs.{member_id, text_cmp}
use Rattle.sm_model.specs.steps.Rising.{Rise}
use Rattle.sm_merge.specs.Mixins.{is_copied, mixin_trait}
use Rattle.sm_merge.specs.steps.EffectiveTables.{by_members, trait_names, traits_of_member}
use Rattle.sm_merge.specs.steps.Firsts.{NamesAndTargets, firsts, targets_view}
use Rattle.sm_merge.specs.steps.Links.{At}
use Rattle.sm_merge.specs.steps.MixedIn.{items_at}
use Rattle.sm_merge.specs.steps.Tables.{named_view, traits_found}
use Rattle.sm_merge.specs.declared.effective.MemberTraits.{MemberTraits}
use Rattle.sm_merge.specs.declared.effective.NamedFolded.{NamedFolded}
use Rattle.sm_merge.specs.declared.effective.ShapeTraits.{ShapeTraits}
use Rattle.sm_merge.specs.declared.firsts.NamedTarget.{NamedTarget}
use Rattle.sm_merge.specs.declared.mixins.Contributing.{Contributing}
use Rattle.sm_merge.specs.declared.parts.BareShape.{BareShape}
use Rattle.sm_merge.specs.declared.table.PlaceRow.{PlaceRow}
use Rattle.sm_merge.specs.declared.value.Folded.{Folded}

-- all numbers that stand in the order before a place have their entries
pub record HasEntry {E : Type 0} (R : ℕ → List E → E → Type 0) (all : List E) (v : ℕ) : Type 0 where
  pub entry : E
  pub there : At all v entry
  pub is : R v all entry

abbrev pub IsFilled : {E : Type 0} → (ℕ → List E → E → Type 0) → List ℕ → ℕ → List E → Type 0
IsFilled R order k all = (i v : ℕ) → i < k → At order i v → HasEntry R all v

-- the shape at a number
abbrev pub id_in : Option BareShape → List ℕ
id_in None = []
id_in (Some row) = row.id

abbrev pub id_at : List BareShape → ℕ → List ℕ
id_at rows v = id_in (slice_get rows v)

abbrev pub own_in : Option BareShape → NamesAndTargets
own_in None = []
own_in (Some row) = row.members.items

abbrev pub own_at : List BareShape → ℕ → NamesAndTargets
own_at rows v = own_in (slice_get rows v)

-- members: those of the mixins one after the other, then the shape's own, each name once
abbrev pub members_at : List (Vec NamedTarget) → ℕ → NamesAndTargets
members_at all v = targets_view (items_at all v)

abbrev pub mixed_members : List (Vec NamedTarget) → List Contributing → NamesAndTargets
mixed_members all cs = flat_map (λ c. members_at all c.number) cs

abbrev pub all_targets : List (Vec NamedTarget) → List Contributing → NamesAndTargets → NamesAndTargets
all_targets all cs own = mixed_members all cs ++ own

abbrev pub HasMixedMembers : List BareShape → List (Vec Contributing) → ℕ → List (Vec NamedTarget) → Vec NamedTarget → Type 0
HasMixedMembers rows mixed v all ms = targets_view ms.items ≡ firsts (all_targets all (items_at mixed v) (own_at rows v))

-- traits by their names
abbrev pub FoldedRows : Type 0
FoldedRows = List (List ℕ × Folded)

abbrev pub folded_rows : List NamedFolded → FoldedRows
folded_rows ts = map (λ t. (t.name.now, t.folded.now)) ts

-- what mixins have, the last mixin first
abbrev pub last_first : (Contributing → FoldedRows) → List Contributing → FoldedRows
last_first f [] = []
last_first f (c ∷ cs) = last_first f cs ++ f c

-- the traits of a shape of a table
abbrev pub own_traits : Option ShapeTraits → List NamedFolded
own_traits None = []
own_traits (Some t) = t.own.items

abbrev pub copied_traits : Option ShapeTraits → List NamedFolded
copied_traits None = []
copied_traits (Some t) = t.copied.items

abbrev pub member_lists : Option ShapeTraits → List MemberTraits
member_lists None = []
member_lists (Some t) = t.members.items

-- traits of a shape: given directly, or copied from the last mixin that has them
abbrev pub copied_at : List ShapeTraits → Contributing → FoldedRows
copied_at all c = folded_rows (copied_traits (slice_get all c.number))

abbrev pub shape_rows : List PlaceRow → List ℕ → List ShapeTraits → List Contributing → FoldedRows
shape_rows traits id all cs = named_view (traits_found id traits) ++ last_first (copied_at all) cs

-- those of a member of a name: given directly, if it is a member, or copied from the last mixin that has them
abbrev pub is_kept : List ℕ × Folded → Bool
is_kept r = not (bytes_eq r.0 mixin_trait)

abbrev pub kept_at : List ℕ → List ShapeTraits → Contributing → FoldedRows
kept_at name all c = filter is_kept (folded_rows (traits_of_member name (member_lists (slice_get all c.number))))

abbrev pub kept_of : List MemberTraits → List ℕ → FoldedRows
kept_of [] name = []
kept_of (m ∷ ms) name = (if bytes_eq m.member name then filter is_kept (folded_rows m.traits.items) else []) ++ kept_of ms name

abbrev pub kept_by : List ℕ → List ShapeTraits → Contributing → FoldedRows
kept_by name all c = kept_of (member_lists (slice_get all c.number)) name

abbrev pub given_rows : List PlaceRow → List ℕ → NamesAndTargets → List ℕ → FoldedRows
given_rows traits id [] name = []
given_rows traits id (p ∷ ps) name =
    (if bytes_eq p.0 name then named_view (traits_found (member_id id p.0) traits) else []) ++ given_rows traits id ps name

abbrev pub member_rows : List PlaceRow → List ℕ → NamesAndTargets → List ShapeTraits → List Contributing → List ℕ → FoldedRows
member_rows traits id ms all cs name = given_rows traits id ms name ++ last_first (kept_by name all) cs

-- the first of each name, in the order of the names
pub record AreFirstRows (rows : FoldedRows) (ts : List NamedFolded) : Type 0 where
  pub rise : Rise (trait_names ts)
  pub same : (name : List ℕ) → fin.find text_cmp name (folded_rows ts) ≡ fin.find text_cmp name rows

-- the copies that other shapes get of traits, by the value of the trait `mixin`
abbrev pub copies_by : Option Folded → FoldedRows → FoldedRows
copies_by None rows = []
copies_by (Some f) rows = filter (λ r. is_copied (node_of f.value) r.0) rows

abbrev pub mixin_value : List PlaceRow → List ℕ → Option Folded
mixin_value traits id = fin.find text_cmp mixin_trait (named_view (traits_found id traits))

-- the traits of a shape and of its members
pub record AreTraitsFrom (traits : List PlaceRow) (id : List ℕ) (ms : NamesAndTargets) (cs : List Contributing) (all : List ShapeTraits)
    (t : ShapeTraits) : Type 0 where
  pub own : AreFirstRows (shape_rows traits id all cs) t.own.items
  pub copied : folded_rows t.copied.items ≡ copies_by (mixin_value traits id) (folded_rows t.own.items)
  pub rise : Rise (map (λ m. m.0) (by_members t.members.items))
  pub members : (name : List ℕ) → AreFirstRows (member_rows traits id ms all cs name) (traits_of_member name t.members.items)

abbrev pub HasMixedTraits : List PlaceRow → List BareShape → List (Vec NamedTarget) → List (Vec Contributing) → ℕ → List ShapeTraits
    → ShapeTraits → Type 0
HasMixedTraits traits rows members mixed v all t = AreTraitsFrom traits (id_at rows v) (members_at members v) (items_at mixed v) all t
