-- Whether the graph of statements is past a limit of shapes or members, by the names of their shapes' members.
use Rattle.std.proofs.Common.{◌≡◌, inl, inr, ℕ, ◌+◌, ◌<◌, List, [], ◌∷◌, map, length, IsPermutation, refl, sym, subst, ◌∙◌}
use Rattle.std.proofs.Common.{arith}
use Rattle.std.specs.Global.{Vec}
use Rattle.std.specs.List.{sum_by}
use Rattle.std.proofs.lemmas.List.{length-map}
use Rattle.std.proofs.lemmas.List.Sorted.{IsPermutation-sym, sum_by-IsPermutation}
use Rattle.std.proofs.lemmas.List.Sums.{sum_by-cons}
use Rattle.sm_tree.specs.Node.{Node}
use Rattle.sm_model.specs.Graphs.{GraphMaps, given_entries, traits_in}
use Rattle.sm_merge.specs.Limits.{IsPast, members_in, own_entries, shapes_in, traits_size}
use Rattle.sm_merge.specs.Merged.{IsGraphOf}
use Rattle.sm_merge.specs.Mixins.{EffectiveShape}
use Rattle.sm_merge.specs.Stated.{Stated}
use Rattle.sm_merge.specs.declared.firsts.NamedTarget.{NamedTarget}
use Rattle.sm_merge.specs.Limits.{most_shapes, most_members, most_members_in_all, most_in_traits}
use Rattle.sm_merge.specs.declared.limit.LimitKind.{LimitKind}
use Rattle.sm_merge.specs.declared.limit.LimitKind.TheVariants.{Shapes, Members, AllMembers, Traits}
use Rattle.sm_merge.specs.declared.parts.BareShape.{BareShape}
use Rattle.sm_merge.specs.steps.Made.{HaveManyMembers, members_count}
use Rattle.sm_merge.specs.steps.Placed.{bare_view}
use Rattle.sm_merge.specs.steps.ShapeTables.{AreShapesOf}
use Rattle.sm_merge.specs.steps.Whole.{AreEffective, whole_graph, whole_member, whole_shape, whole_shapes}
use Rattle.sm_merge.proofs.EffectiveSound.{GivesNodes}
use Rattle.sm_merge.proofs.EntriesMoved.{any_moved}
use Rattle.sm_merge.proofs.GivenCounts.{SomeHaveMany, any_many, many_any, member_count, members_counted, own_moved, shapes_counted}
use Rattle.sm_merge.proofs.OneMerged.{one_graph}
use Rattle.sm_merge.specs.steps.SoundStated.{AreSoundStated}
use Rattle.sm_merge.proofs.WholeGraph.{IsMetadataOf, all_differ, is_graph}

-- lists of names are as long as those of members
abbrev pub HaveLengths : List EffectiveShape → List (Vec NamedTarget) → Type 0
HaveLengths [] [] = Unit {0}
HaveLengths [] (ms ∷ mss) = ⊥
HaveLengths (e ∷ es) [] = ⊥
HaveLengths (e ∷ es) (ms ∷ mss) = (length e.members ≡ length ms.items) × HaveLengths es mss

-- how many there are
pub shapes_many : (ss : List Stated) (rows : List BareShape) (es : List EffectiveShape) → AreEffective ss rows es
    → length (whole_shapes rows es) ≡ length rows
shapes_many ss [] es are = refl
shapes_many ss (r ∷ rows) [] are = absurd are
shapes_many ss (r ∷ rows) (e ∷ es) are = let rest = shapes_many ss rows es are.1 in omega (arith, rest)

members_many : (r : BareShape) (e : EffectiveShape) (ms : Vec NamedTarget) → length e.members ≡ length ms.items
    → length (map (whole_member r.kind) e.members) ≡ length ms.items
members_many r e ms same = length-map e.members (whole_member r.kind) ∙ same

pub all_members_many : (ss : List Stated) (rows : List BareShape) (es : List EffectiveShape) (mss : List (Vec NamedTarget))
    → AreEffective ss rows es → HaveLengths es mss → sum_by member_count (whole_shapes rows es) ≡ members_count mss
all_members_many ss [] [] [] are long = refl
all_members_many ss [] [] (ms ∷ mss) are long = absurd long
all_members_many ss [] (e ∷ es) mss are long = absurd are
all_members_many ss (r ∷ rows) [] mss are long = absurd are
all_members_many ss (r ∷ rows) (e ∷ es) [] are long = absurd long
all_members_many ss (r ∷ rows) (e ∷ es) (ms ∷ mss) are long =
    sum_by-cons member_count (whole_shape (bare_view r) e) (whole_shapes rows es)
    ∙ (λ i. members_many r e ms long.0 i + all_members_many ss rows es mss are.1 long.1 i)

many_made : (ss : List Stated) (rows : List BareShape) (es : List EffectiveShape) (mss : List (Vec NamedTarget))
    → AreEffective ss rows es → HaveLengths es mss → HaveManyMembers mss → SomeHaveMany (whole_shapes rows es)
many_made ss rows es [] are long h = absurd h
many_made ss rows [] (ms ∷ mss) are long h = absurd long
many_made ss [] (e ∷ es) (ms ∷ mss) are long h = absurd are
many_made ss (r ∷ rows) (e ∷ es) (ms ∷ mss) are long (inl here) =
    inl (subst (λ n. most_members < n) (sym (members_many r e ms long.0)) here)
many_made ss (r ∷ rows) (e ∷ es) (ms ∷ mss) are long (inr later) = inr (many_made ss rows es mss are.1 long.1 later)

made_many : (ss : List Stated) (rows : List BareShape) (es : List EffectiveShape) (mss : List (Vec NamedTarget))
    → AreEffective ss rows es → HaveLengths es mss → SomeHaveMany (whole_shapes rows es) → HaveManyMembers mss
made_many ss [] es mss are long h = absurd h
made_many ss (r ∷ rows) [] mss are long h = absurd h
made_many ss (r ∷ rows) (e ∷ es) [] are long h = absurd long
made_many ss (r ∷ rows) (e ∷ es) (ms ∷ mss) are long (inl here) =
    inl (subst (λ n. most_members < n) (members_many r e ms long.0) here)
made_many ss (r ∷ rows) (e ∷ es) (ms ∷ mss) are long (inr later) = inr (made_many ss rows es mss are.1 long.1 later)

-- tables are past a limit, but for that of traits
abbrev pub ArePast : LimitKind → List BareShape → List (Vec NamedTarget) → Type 0
ArePast Shapes rows mss = most_shapes < length rows
ArePast Members rows mss = HaveManyMembers mss
ArePast AllMembers rows mss = most_members_in_all < members_count mss
ArePast Traits rows mss = ⊥

abbrev pub IsOfMembers : LimitKind → Type 0
IsOfMembers Shapes = Unit {0}
IsOfMembers Members = Unit {0}
IsOfMembers AllMembers = Unit {0}
IsOfMembers Traits = ⊥

-- statements that a graph may be made of, and their table of shapes
pub record AreGood (ss : List Stated) (rows : List BareShape) (metadata : List (List ℕ × Node)) : Type 0 where
  pub gives : GivesNodes ss
  pub sound : AreSoundStated ss
  pub shapes : AreShapesOf ss rows
  pub metadata_is : IsMetadataOf ss metadata

module _ (ss : List Stated) (rows : List BareShape) (metadata : List (List ℕ × Node)) (good : AreGood ss rows metadata)
    (es : List EffectiveShape) (are : AreEffective ss rows es) where
  abbrev pub whole : GraphMaps
  whole = whole_graph rows es metadata

  pub whole_is : IsGraphOf ss whole
  whole_is = is_graph ss good.gives good.sound rows good.shapes es are metadata good.metadata_is

  pub whole_moved : IsPermutation (given_entries (whole_shapes rows es)) (own_entries whole)
  whole_moved = own_moved (whole_shapes rows es) (all_differ ss good.gives good.sound rows good.shapes es are) metadata

  pub one_whole : (g : GraphMaps) → IsGraphOf ss g → Path GraphMaps whole g
  one_whole g is = one_graph ss whole g whole_is is

  shape_sum : sum_by (λ e. shapes_in e.1) (own_entries whole) ≡ length rows
  shape_sum =
      sum_by-IsPermutation (λ e. shapes_in e.1) _ _ whole_moved ∙ shapes_counted (whole_shapes rows es) ∙ shapes_many ss rows es are

  pub many_shapes : most_shapes < length rows → (g : GraphMaps) → IsGraphOf ss g → IsPast Shapes g
  many_shapes past g is = subst (IsPast Shapes) (one_whole g is) (subst (λ n. most_shapes < n) (sym shape_sum) past)

  pub past_shapes : (g : GraphMaps) → IsGraphOf ss g → IsPast Shapes g → most_shapes < length rows
  past_shapes g is past = subst (λ n. most_shapes < n) shape_sum (subst (IsPast Shapes) (sym (one_whole g is)) past)

  pub long_told : SomeHaveMany (whole_shapes rows es) → (g : GraphMaps) → IsGraphOf ss g → IsPast Members g
  long_told some g is =
      subst (IsPast Members) (one_whole g is)
      (any_moved (λ e. most_members < members_in e.1) _ _ whole_moved (many_any (whole_shapes rows es) some))

  pub large_told : most_in_traits < sum_by (λ e. traits_size (traits_in e.1)) (given_entries (whole_shapes rows es)) → (g : GraphMaps)
      → IsGraphOf ss g → IsPast Traits g
  large_told past g is =
      subst (IsPast Traits) (one_whole g is)
      (subst (λ n. most_in_traits < n) (sym (sum_by-IsPermutation (λ e. traits_size (traits_in e.1)) _ _ whole_moved)) past)

  module _ (mss : List (Vec NamedTarget)) (long : HaveLengths es mss) where
    member_sum : sum_by (λ e. members_in e.1) (own_entries whole) ≡ members_count mss
    member_sum =
        sum_by-IsPermutation (λ e. members_in e.1) _ _ whole_moved ∙ members_counted (whole_shapes rows es)
        ∙ all_members_many ss rows es mss are long

    whole_past : (kind : LimitKind) → ArePast kind rows mss → IsPast kind whole
    whole_past Shapes past = subst (λ n. most_shapes < n) (sym shape_sum) past
    whole_past Members past =
        any_moved (λ e. most_members < members_in e.1) _ _ whole_moved
        (many_any (whole_shapes rows es) (many_made ss rows es mss are long past))
    whole_past AllMembers past = subst (λ n. most_members_in_all < n) (sym member_sum) past
    whole_past Traits past = absurd past

    past_whole : (kind : LimitKind) → IsOfMembers kind → IsPast kind whole → ArePast kind rows mss
    past_whole Shapes of past = subst (λ n. most_shapes < n) shape_sum past
    past_whole Members of past =
        made_many ss rows es mss are long (any_many (whole_shapes rows es) (any_moved (λ e. most_members < members_in e.1) _ _
        (IsPermutation-sym (given_entries (whole_shapes rows es)) (own_entries whole) whole_moved) past))
    past_whole AllMembers of past = subst (λ n. most_members_in_all < n) member_sum past
    past_whole Traits of past = absurd of

    pub past_told : (kind : LimitKind) → ArePast kind rows mss → (g : GraphMaps) → IsGraphOf ss g → IsPast kind g
    past_told kind past g is = subst (IsPast kind) (one_whole g is) (whole_past kind past)

    pub told_past : (kind : LimitKind) → IsOfMembers kind → (g : GraphMaps) → IsGraphOf ss g → IsPast kind g → ArePast kind rows mss
    told_past kind of g is past = past_whole kind of (subst (IsPast kind) (sym (one_whole g is)) past)
