-- Rows of traits under members' names, before the first of each name is kept.
use Rattle.std.specs.Prelude.{◌≡◌, ◌++◌, ℕ, List, map}
use Rattle.std.specs.Global.{Vec}
use Rattle.std.specs.List.{flat_map}
use Rattle.sm_model.specs.steps.Rising.{Rise}
use Rattle.sm_merge.specs.steps.EffectiveTables.{by_members, traits_of_member}
use Rattle.sm_merge.specs.steps.Filling.{AreFirstRows, FoldedRows, folded_rows}
use Rattle.sm_groups.specs.Groups.{all_under}
use Rattle.sm_merge.specs.steps.Links.{At}
use Rattle.sm_merge.specs.steps.Tables.{ComeToRows}
use Rattle.sm_merge.specs.declared.effective.MemberTraits.{MemberTraits}
use Rattle.sm_merge.specs.declared.effective.NamedFolded.{NamedFolded}
use Rattle.sm_merge.specs.declared.effective.ShapeTraits.{ShapeTraits}
use Rattle.sm_merge.specs.declared.mixins.Contributing.{Contributing}

-- the traits of the mixin at a place
pub record IsEntryOf (mixed : List Contributing) (all : List ShapeTraits) (place : ℕ) (t : ShapeTraits) : Type 0 where
  pub mixin : Contributing
  pub there : At mixed place mixin
  pub entry : At all mixin.number t

abbrev pub joined_rows : List (Vec NamedFolded) → FoldedRows
joined_rows lists = flat_map (λ rows. folded_rows rows.items) lists

-- all rows under a name
abbrev pub rows_under : List ℕ → List (List ℕ × Vec NamedFolded) → FoldedRows
rows_under name lists = joined_rows (all_under name lists)

-- more rows are put behind those that are there, name by name
abbrev pub PutsRows : List (List ℕ × Vec NamedFolded) → List (List ℕ × Vec NamedFolded) → (List ℕ → FoldedRows) → Type 0
PutsRows before after more = (name : List ℕ) → rows_under name after ≡ rows_under name before ++ more name

-- the first row of each name, member by member
abbrev pub ComeToFirsts : List (List ℕ × List (Vec NamedFolded)) → List MemberTraits → Type 0
ComeToFirsts groups lists = ComeToRows (λ vs ts. AreFirstRows (joined_rows vs) ts) groups (by_members lists)

pub record AreMemberTraits (rows : List ℕ → FoldedRows) (lists : List MemberTraits) : Type 0 where
  pub rise : Rise (map (λ m. m.0) (by_members lists))
  pub each : (name : List ℕ) → AreFirstRows (rows name) (traits_of_member name lists)
