-- Whether statements are past a limit of shapes or members is told by the names of members alone.
use Rattle.std.proofs.Common.{◌⊎◌, inl, inr, ℕ, zero, suc, ◌<◌, List, [], ◌∷◌, length, sym, subst, arith}
use Rattle.std.specs.Global.{Vec}
use Rattle.std.specs.List.{Any, sum_by}
use Rattle.std.proofs.lemmas.List.{length-map}
use Rattle.std.proofs.lemmas.Option.{none-some, same_Some}
use Rattle.sm_tree.specs.Node.{Node}
use Rattle.sm_model.specs.Graphs.{Entry, GraphMaps, given_entries, traits_in}
use Rattle.sm_merge.specs.Limits.{IsFirstPast, IsPast, members_in, own_entries, traits_size}
use Rattle.sm_merge.specs.Merged.{IsGraphOf}
use Rattle.sm_merge.specs.Mixins.{EffectiveShape, IsEffective}
use Rattle.sm_merge.specs.Stated.{Stated}
use Rattle.sm_merge.specs.declared.firsts.NamedTarget.{NamedTarget}
use Rattle.sm_merge.specs.Limits.{most_shapes, most_members, most_members_in_all, most_in_traits}
use Rattle.sm_merge.specs.declared.limit.LimitKind.{LimitKind}
use Rattle.sm_merge.specs.declared.limit.LimitKind.TheVariants.{Shapes, Members, AllMembers, Traits}
use Rattle.sm_merge.specs.declared.parts.BareShape.{BareShape}
use Rattle.sm_merge.specs.declared.walk.Walk.{Walk}
use Rattle.sm_merge.specs.steps.EffectiveTables.{AreMembersOf}
use Rattle.sm_merge.specs.steps.Links.{At}
use Rattle.sm_merge.specs.steps.Numbered.{IsMixinWalk}
use Rattle.sm_merge.specs.steps.ShapeTables.{ids_of}
use Rattle.sm_merge.specs.steps.Whole.{AreEffective, whole_member, whole_shapes}
use Rattle.sm_merge.proofs.Ats.{sides}
use Rattle.sm_merge.proofs.GivenCounts.{SomeHaveMany, any_either, any_first, any_later, none_in}
use Rattle.sm_merge.proofs.SomeEffective.{Must, SomeRows, lengths_of, must, some_effective, thence}
use Rattle.sm_merge.proofs.WholeCounts.{AreGood, ArePast, IsOfMembers, large_told}
use Rattle.sm_merge.proofs.WholeCounts.{long_told, many_shapes, past_shapes, past_told, told_past}

-- what can be decided, and must be, is
stable_less : (k n : ℕ) → Must (k < n) → k < n
stable_less k n h = elim (sides k n) [
  | inl less ↦ less
  | inr more ↦ absurd (h (λ less. omega (arith, less, more)))
]

module _ {X : Type 0} (count : X → ℕ) (limit : ℕ) where
  abbrev IsAbove : X → Type 0
  IsAbove x = limit < count x

  known : (xs : List X) → Any IsAbove xs ⊎ (Any IsAbove xs → ⊥)
  known [] = inr (none_in IsAbove)
  known (x ∷ xs) = elim (sides limit (count x)) [
    | inl above ↦ inl (any_first IsAbove x xs above)
    | inr below ↦ elim (known xs) [
      | inl later ↦ inl (any_later IsAbove x xs later)
      | inr none ↦ inr (λ any. elim (any_either IsAbove x xs any) [
        | inl above ↦ omega (arith, above, below)
        | inr later ↦ none later
      ])
    ]
  ]

  stable_any : (xs : List X) → Must (Any IsAbove xs) → Any IsAbove xs
  stable_any xs h = elim (known xs) [
    | inl any ↦ any
    | inr none ↦ absurd (h none)
  ]

stable_past : (kind : LimitKind) → IsOfMembers kind → (g : GraphMaps) → Must (IsPast kind g) → IsPast kind g
stable_past Shapes of g h = stable_less most_shapes _ h
stable_past Members of g h = stable_any (λ (e : List ℕ × Entry). members_in e.1) most_members (own_entries g) h
stable_past AllMembers of g h = stable_less most_members_in_all _ h
stable_past Traits of g h = absurd of

-- a shape of the table has many members, whatever it comes to
some_long : (ss : List Stated) (rows : List BareShape) (es : List EffectiveShape) → AreEffective ss rows es → (v : ℕ) (id : List ℕ)
    → At (ids_of rows) v id → ((m : EffectiveShape) → IsEffective ss id m → most_members < length m.members)
    → SomeHaveMany (whole_shapes rows es)
some_long ss [] es are v id there long = absurd (none-some id there)
some_long ss (r ∷ rows) [] are v id there long = absurd are
some_long ss (r ∷ rows) (e ∷ es) are zero id there long =
    inl (subst (λ n. most_members < n) (sym (length-map e.members (whole_member r.kind)))
    (long e (subst (λ k. IsEffective ss k e) (same_Some r.id id there) are.0)))
some_long ss (r ∷ rows) (e ∷ es) are (suc v) id there long = inr (some_long ss rows es are.1 v id there long)

module _ (ss : List Stated) (rows : List BareShape) (metadata : List (List ℕ × Node)) (good : AreGood ss rows metadata)
    (walk : Walk) (walked : IsMixinWalk ss (ids_of rows) walk) (g : GraphMaps) (is : IsGraphOf ss g) where
  come : Must (SomeRows ss rows)
  come = some_effective ss rows walk good.shapes walked

  pub shapes_told : most_shapes < length rows → IsFirstPast Shapes g
  shapes_told past = stable_past Shapes tt g (thence come (λ e. must (many_shapes ss rows metadata good e.0 e.1 past g is)))

  pub long_shape_told : (most_shapes < length rows → ⊥) → (v : ℕ) (id : List ℕ) → At (ids_of rows) v id
      → ((m : EffectiveShape) → IsEffective ss id m → most_members < length m.members) → IsFirstPast Members g
  long_shape_told few v id there long = (
    λ past. come (λ e. few (past_shapes ss rows metadata good e.0 e.1 g is past)),
    stable_past Members tt g (thence come (λ e.
        must (long_told ss rows metadata good e.0 e.1 (some_long ss rows e.0 e.1 v id there long) g is))),
  )

  module _ (mss : List (Vec NamedTarget)) (members : AreMembersOf ss rows mss) where
    is_past : (kind : LimitKind) → IsOfMembers kind → ArePast kind rows mss → IsPast kind g
    is_past kind of past =
        stable_past kind of g (thence come (λ e.
        must (past_told ss rows metadata good e.0 e.1 mss (lengths_of ss rows mss e.0 members e.1) kind past g is)))

    not_past : (kind : LimitKind) → IsOfMembers kind → (ArePast kind rows mss → ⊥) → IsPast kind g → ⊥
    not_past kind of none past =
        come (λ e. none (told_past ss rows metadata good e.0 e.1 mss (lengths_of ss rows mss e.0 members e.1) kind of g is past))

    pub all_members_told : (ArePast Shapes rows mss → ⊥) → (ArePast Members rows mss → ⊥) → ArePast AllMembers rows mss
        → IsFirstPast AllMembers g
    all_members_told few short past = (not_past Shapes tt few, not_past Members tt short, is_past AllMembers tt past)

    pub large_traits_told : ((kind : LimitKind) → IsOfMembers kind → ArePast kind rows mss → ⊥)
        → ((es : List EffectiveShape) → AreEffective ss rows es
        → most_in_traits < sum_by (λ e. traits_size (traits_in e.1)) (given_entries (whole_shapes rows es)))
        → IsFirstPast Traits g
    large_traits_told none past = (
      not_past Shapes tt (none Shapes tt),
      not_past Members tt (none Members tt),
      not_past AllMembers tt (none AllMembers tt),
      stable_less most_in_traits _ (thence come (λ e. must (large_told ss rows metadata good e.0 e.1 (past e.0 e.1) g is))),
    )
