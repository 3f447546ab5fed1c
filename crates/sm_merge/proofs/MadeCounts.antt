-- The graph of statements by the tables that its shapes are made from: what its traits count, and that it may be built.
use Rattle.std.proofs.Common.{◌≡◌, inl, inr, ℕ, suc, ◌+◌, ◌<◌, ◌≤◌, ◌^◌, List, [], ◌∷◌, ◌++◌, length, refl, sym, ap, subst, ◌∙◌}
use Rattle.std.proofs.Common.{arith}
use Rattle.std.proofs.Common.{length-append, rules}
use Rattle.std.specs.Global.{Vec}
use Rattle.std.specs.List.{sum_by}
use Rattle.std.specs.FinMap as fin
use Rattle.std.proofs.lemmas.List.{length-map, map-append}
use Rattle.std.proofs.lemmas.List.Sorted.{sum_by-IsPermutation}
use Rattle.sm_tree.specs.Node.{Node}
use Rattle.sm_model.specs.Formed.{DifferInNames}
use Rattle.sm_model.specs.Given.{AreGiven, AreGivenShapes, IsNodeMap, given_ids}
use Rattle.sm_model.specs.Graphs.{GraphMaps, ShapeGiven, given_entries, graph_of, traits_in}
use Rattle.sm_model.specs.PreludeShapes.{prelude_shapes}
use Rattle.sm_merge.specs.Limits.{IsPast, IsWithinLimits, own_entries, traits_size}
use Rattle.sm_merge.specs.Merged.{IsGraphOf}
use Rattle.sm_merge.specs.Mixins.{IsEffective}
use Rattle.sm_merge.specs.Stated.{Stated}
use Rattle.sm_merge.specs.declared.effective.ShapeTraits.{ShapeTraits}
use Rattle.sm_merge.specs.declared.firsts.NamedTarget.{NamedTarget}
use Rattle.sm_merge.specs.Limits.{most_shapes, most_members_in_all, most_in_traits}
use Rattle.sm_merge.specs.declared.limit.LimitKind.{LimitKind}
use Rattle.sm_merge.specs.declared.limit.LimitKind.TheVariants.{Shapes, Members, AllMembers, Traits}
use Rattle.sm_merge.specs.declared.parts.BareShape.{BareShape}
use Rattle.sm_merge.specs.steps.EffectiveTables.{effective_member, effective_view}
use Rattle.sm_merge.specs.steps.Firsts.{target_view, targets_view}
use Rattle.sm_merge.specs.steps.Links.{At}
use Rattle.sm_merge.specs.steps.Made.{AreAllSound, effective_views, made_shapes, members_count, shapes_size}
use Rattle.sm_merge.specs.steps.ShapeTables.{ids_of}
use Rattle.sm_merge.specs.steps.Whole.{AreEffective, whole_shapes}
use Rattle.sm_merge.proofs.Ats.{sides}
use Rattle.sm_merge.proofs.GivenCounts.{entries_counted, sizes_counted}
use Rattle.sm_merge.proofs.MadeShapes.{made_given, shapes_made}
use Rattle.sm_merge.proofs.PreludeGiven.{prelude_given}
use Rattle.sm_merge.proofs.WholeCounts.{AreGood, ArePast, HaveLengths, IsOfMembers, all_members_many, one_whole, shapes_many, told_past}
use Rattle.sm_merge.proofs.WholeCounts.{whole}
use Rattle.sm_merge.proofs.WholeCounts.{whole_is, whole_moved}
use Rattle.sm_merge.proofs.WholeGiven.{all_given, given_joined, rows_stated, shapes_given}
use Rattle.sm_merge.proofs.WholeGraph.{entries_joined}

-- as many of each
abbrev pub AreAsMany : List BareShape → List (Vec NamedTarget) → List ShapeTraits → Type 0
AreAsMany [] [] [] = Unit {0}
AreAsMany [] [] (t ∷ ts) = ⊥
AreAsMany [] (ms ∷ mss) ts = ⊥
AreAsMany (r ∷ rows) [] ts = ⊥
AreAsMany (r ∷ rows) (ms ∷ mss) [] = ⊥
AreAsMany (r ∷ rows) (ms ∷ mss) (t ∷ ts) = AreAsMany rows mss ts

pub as_many : (rows : List BareShape) (mss : List (Vec NamedTarget)) (ts : List ShapeTraits) → length mss ≡ length rows
    → length ts ≡ length rows → AreAsMany rows mss ts
as_many [] [] [] h k = tt
as_many [] [] (t ∷ ts) h k = absurd (omega (arith, k))
as_many [] (ms ∷ mss) ts h k = absurd (omega (arith, h))
as_many (r ∷ rows) [] ts h k = absurd (omega (arith, h))
as_many (r ∷ rows) (ms ∷ mss) [] h k = absurd (omega (arith, k))
as_many (r ∷ rows) (ms ∷ mss) (t ∷ ts) h k = as_many rows mss ts (omega (arith, h)) (omega (arith, k))

-- by number, and row by row
pub effective_rows : (ss : List Stated) (rows : List BareShape) (mss : List (Vec NamedTarget)) (ts : List ShapeTraits)
    → AreAsMany rows mss ts
    → ((v : ℕ) (id : List ℕ) (ms : Vec NamedTarget) (t : ShapeTraits) → At (ids_of rows) v id → At mss v ms → At ts v t
    → IsEffective ss id (effective_view ms.items t))
    → AreEffective ss rows (effective_views mss ts)
effective_rows ss [] [] [] many each = tt
effective_rows ss [] [] (t ∷ ts) many each = absurd many
effective_rows ss [] (ms ∷ mss) ts many each = absurd many
effective_rows ss (r ∷ rows) [] ts many each = absurd many
effective_rows ss (r ∷ rows) (ms ∷ mss) [] many each = absurd many
effective_rows ss (r ∷ rows) (ms ∷ mss) (t ∷ ts) many each = (
  each 0 r.id ms t refl refl refl,
  effective_rows ss rows mss ts many (λ v id ns u at_id at_ms at_t. each (suc v) id ns u at_id at_ms at_t),
)

-- members that are made are as many as their names
lengths_made : (rows : List BareShape) (mss : List (Vec NamedTarget)) (ts : List ShapeTraits) → AreAsMany rows mss ts
    → HaveLengths (effective_views mss ts) mss
lengths_made [] [] [] many = tt
lengths_made [] [] (t ∷ ts) many = absurd many
lengths_made [] (ms ∷ mss) ts many = absurd many
lengths_made (r ∷ rows) [] ts many = absurd many
lengths_made (r ∷ rows) (ms ∷ mss) [] many = absurd many
lengths_made (r ∷ rows) (ms ∷ mss) (t ∷ ts) many = (
  length-map (targets_view ms.items) (effective_member t.members.items) ∙ length-map ms.items target_view,
  lengths_made rows mss ts many,
)

ids_made : (rows : List BareShape) (mss : List (Vec NamedTarget)) (ts : List ShapeTraits)
    → given_ids (whole_shapes rows (effective_views mss ts)) ≡ given_ids (made_shapes rows mss ts)
ids_made [] mss ts = refl
ids_made (r ∷ rows) [] ts = refl
ids_made (r ∷ rows) (ms ∷ mss) [] = refl
ids_made (r ∷ rows) (ms ∷ mss) (t ∷ ts) = ap (λ ids. r.id ∷ ids) (ids_made rows mss ts)

-- they are few
at_most : (k n : ℕ) → (k < n → ⊥) → n ≤ k
at_most k n h = elim (sides k n) [
  | inl more ↦ absurd (h more)
  | inr less ↦ less
]

few_of_prelude : length (given_entries prelude_shapes) ≤ 100
few_of_prelude = search rules

few_enough : (shapes members others : ℕ) → shapes ≤ most_shapes → members ≤ most_members_in_all → others ≤ 100
    → (shapes + members) + others < 2 ^ 32
few_enough shapes members others a b c = omega (arith, a, b, c)

module _ (ss : List Stated) (rows : List BareShape) (metadata : List (List ℕ × Node)) (good : AreGood ss rows metadata)
    (mss : List (Vec NamedTarget)) (ts : List ShapeTraits) (many : AreAsMany rows mss ts)
    (are : AreEffective ss rows (effective_views mss ts)) (sound : AreAllSound ts) where
  abbrev made : List ShapeGiven
  made = made_shapes rows mss ts

  abbrev wholes : List ShapeGiven
  wholes = whole_shapes rows (effective_views mss ts)

  wholes_given : AreGivenShapes wholes
  wholes_given = shapes_given ss good.gives good.sound rows (effective_views mss ts) (rows_stated ss rows good.shapes) are

  shapes_are : AreGivenShapes made
  shapes_are = made_given rows mss ts sound wholes_given

  trait_sum : sum_by (λ e. traits_size (traits_in e.1)) (own_entries (whole ss rows metadata good (effective_views mss ts) are))
      ≡ shapes_size made
  trait_sum =
      sum_by-IsPermutation (λ e. traits_size (traits_in e.1)) _ _ (whole_moved ss rows metadata good (effective_views mss ts) are)
      ∙ ap (sum_by (λ e. traits_size (traits_in e.1))) (sym (shapes_made rows mss ts)) ∙ sizes_counted made shapes_are

  long : HaveLengths (effective_views mss ts) mss
  long = lengths_made rows mss ts many

  -- each graph of the statements is the one that is made
  module _ (g : GraphMaps) (is : IsGraphOf ss g) where
    same : Path GraphMaps (whole ss rows metadata good (effective_views mss ts) are) g
    same = one_whole ss rows metadata good (effective_views mss ts) are g is

    few : (kind : LimitKind) → (ArePast kind rows mss → ⊥) → IsOfMembers kind → IsPast kind g → ⊥
    few kind none of past = none (told_past ss rows metadata good (effective_views mss ts) are mss long kind of g is past)

    pub none_told : ((kind : LimitKind) → ArePast kind rows mss → ⊥) → (most_in_traits < shapes_size made → ⊥) → IsWithinLimits g
    none_told none small Shapes = few Shapes (none Shapes) tt
    none_told none small Members = few Members (none Members) tt
    none_told none small AllMembers = few AllMembers (none AllMembers) tt
    none_told none small Traits =
        λ past. small (subst (λ n. most_in_traits < n) trait_sum (subst (IsPast Traits) (sym same) past))

  -- the graph that is built
  entries_same : given_entries (made ++ prelude_shapes) ≡ given_entries (wholes ++ prelude_shapes)
  entries_same =
      entries_joined made prelude_shapes ∙ ap (λ es. es ++ given_entries prelude_shapes) (shapes_made rows mss ts)
      ∙ sym (entries_joined wholes prelude_shapes)

  pub built_is : IsGraphOf ss (graph_of (made ++ prelude_shapes) metadata)
  built_is =
      let back = sym entries_same in
      subst (IsGraphOf ss) (λ i. record { shapes = fin.from_entries (back i); metadata = fin.from_entries metadata })
      (whole_is ss rows metadata good (effective_views mss ts) are)

  ids_same : given_ids (wholes ++ prelude_shapes) ≡ given_ids (made ++ prelude_shapes)
  ids_same =
      map-append (λ (s : ShapeGiven). s.id) wholes prelude_shapes
      ∙ ap (λ ids. ids ++ given_ids prelude_shapes) (ids_made rows mss ts)
      ∙ sym (map-append (λ (s : ShapeGiven). s.id) made prelude_shapes)

  counted : length (given_entries (made ++ prelude_shapes)) ≡ (length rows + members_count mss) + length (given_entries prelude_shapes)
  counted =
      ap length (entries_joined made prelude_shapes) ∙ length-append (given_entries made) (given_entries prelude_shapes)
      ∙ ap (λ n. n + length (given_entries prelude_shapes)) (ap length (shapes_made rows mss ts) ∙ entries_counted wholes
      ∙ (λ i. shapes_many ss rows (effective_views mss ts) are i + all_members_many ss rows (effective_views mss ts) mss are long i))

  pub may_build : ((kind : LimitKind) → ArePast kind rows mss → ⊥) → IsNodeMap metadata → AreGiven (made ++ prelude_shapes) metadata
  may_build none nodes = record {
    each = given_joined made prelude_shapes shapes_are prelude_given.each;
    differ = subst DifferInNames ids_same (all_given ss good.gives good.sound rows good.shapes (effective_views mss ts) are).differ;
    few =
        subst (λ n. n < 2 ^ 32) (sym counted)
        (few_enough (length rows) (members_count mss) (length (given_entries prelude_shapes))
        (at_most most_shapes (length rows) (none Shapes))
        (at_most most_members_in_all (members_count mss) (none AllMembers)) few_of_prelude);
    metadata_is = nodes;
  }
