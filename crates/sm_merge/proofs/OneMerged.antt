-- Statements have one graph, wherever files are cut; and none have the prelude.
use Rattle.std.proofs.Common.{◌≡◌, ◌<◌, inl, inr, ℕ, true, cond, List, [], ◌∷◌, map, Some, None, refl, sym, ap, subst, ◌∙◌, arith}
use Rattle.std.specs.Prelude.{not}
use Rattle.std.specs.List.{Any, Contains, filter, sum_by}
use Rattle.std.specs.Option.{is_some}
use Rattle.std.specs.FinMap.{get-empty}
use Rattle.sm_model.specs.Graphs.{text_cmp, Entry, given_entries, traits_in}
use Rattle.sm_model.specs.PreludeShapes.{is_prelude_id, prelude_graph, prelude_shapes}
use Rattle.sm_model.specs.EventView.{EventTold}
use Rattle.sm_model.proofs.MapFacts.{Each, each_entry}
use Rattle.sm_merge.specs.Stated.{stated, stated_by, defined_among}
use Rattle.sm_merge.specs.Merged.{IsWrong, StandsUnder}
use Rattle.sm_merge.specs.Merged.{other_shape, stated_again, trait_conflict, metadata_conflict, applied_to_nothing, defined_otherwise}
use Rattle.sm_merge.specs.Merged.{bad_mixin}
use Rattle.sm_merge.specs.Limits.{IsPast, is_own, own_entries, shapes_in, members_in, traits_size}
use Rattle.sm_merge.specs.Answers.{StatementsComeTo}
use Rattle.sm_merge.specs.Laws.{NoFiles, OneFileOrSeveral, OneGraph}
use Rattle.sm_merge.specs.Limits.{most_shapes, most_members, most_members_in_all, most_in_traits}
use Rattle.sm_merge.specs.declared.limit.LimitKind.{LimitKind}
use Rattle.sm_merge.specs.declared.limit.LimitKind.TheVariants.{Shapes, Members, AllMembers, Traits}
use Rattle.sm_merge.proofs.OneEffective.{same_told}

pub one_graph : OneGraph
one_graph ss g h is also =
    let shapes = same_told (StandsUnder ss) g.shapes h.shapes is.shapes also.shapes in
    let metadata = same_told _ g.metadata h.metadata is.metadata also.metadata in
    λ i. record { shapes = shapes i; metadata = metadata i }

pub one_file_or_several : OneFileOrSeveral
one_file_or_several files more answer e h = subst (λ said. StatementsComeTo (map (stated (defined_among said)) said) answer) e h

-- the ids of the prelude, each by its test
some_told : {X : Type 0} (x : X) → None ≡ Some x → ⊥
some_told x e = subst (λ o. cond (is_some o) ⊥ (Unit {0})) e tt

abbrev pub IsOfPreludeId : List ℕ → Entry → Type 0
IsOfPreludeId id e = is_prelude_id id ≡ true

pub prelude_ids : Each IsOfPreludeId (given_entries prelude_shapes)
prelude_ids = (
  refl,
  (
    refl,
    (
      refl,
      (
        refl,
        (
          refl,
          (
            refl,
            (
              refl,
              (
                refl,
                (
                  refl,
                  (
                    refl,
                    (
                      refl,
                      (refl, (refl, (refl, (refl, (refl, (refl, (refl, (refl, (refl, (refl, tt)))))))))),
                    ),
                  ),
                ),
              ),
            ),
          ),
        ),
      ),
    ),
  ),
)

pub none_own : (es : List (List ℕ × Entry)) → Each IsOfPreludeId es → filter is_own es ≡ []
none_own [] h = refl
none_own (e ∷ es) h = ap (λ b. cond (not b) (e ∷ filter is_own es) (filter is_own es)) h.0 ∙ none_own es h.1

nothing_own : own_entries prelude_graph ≡ []
nothing_own = none_own _ (each_entry IsOfPreludeId (given_entries prelude_shapes) prelude_ids)

-- nothing is past no limit
too_few : (limit : ℕ) (count : List (List ℕ × Entry) → ℕ) → own_entries prelude_graph ≡ [] → (count [] ≡ 0)
    → limit < count (own_entries prelude_graph) → ⊥
too_few limit count none zero past = let counted = ap count none in omega (arith, zero, counted, past)

none_any : {X : Type 0} {P : X → Type 0} → Any P [] → ⊥
none_any (k, x, inside, at, holds) = omega (arith, inside)

within : (kind : LimitKind) → IsPast kind prelude_graph → ⊥
within Shapes h = too_few most_shapes (λ es. sum_by (λ e. shapes_in e.1) es) nothing_own refl h
within Members h = none_any (subst (λ es. Any (λ e. most_members < members_in e.1) es) nothing_own h)
within AllMembers h = too_few most_members_in_all (λ es. sum_by (λ e. members_in e.1) es) nothing_own refl h
within Traits h = too_few most_in_traits (λ es. sum_by (λ e. traits_size (traits_in e.1)) es) nothing_own refl h

none_among : {X : Type 0} {x : X} → Contains [] x → ⊥
none_among (k, inside, at) = omega (arith, inside)

no_events : (e : EventTold) → IsWrong (stated_by []) e → ⊥
no_events e (other_shape id h is) = some_told h.first h.there
no_events e (stated_again id h is) = none_among h.among
no_events e (trait_conflict id name h is) = h.conflict
no_events e (metadata_conflict key h is) = h
no_events e (applied_to_nothing id h is) = none_among h.among
no_events e (defined_otherwise id target h is) = some_told h.s h.there
no_events e (bad_mixin id mixin h is) = some_told h.s h.there

pub no_files : NoFiles
no_files = record {
  graph = record {
    shapes = λ id e. (
      λ found. inr (inr found),
      λ stands. elim stands [
        | inl h ↦ absurd (some_told h.s h.there)
        | inr (inl h) ↦ absurd (some_told h.s h.there)
        | inr (inr found) ↦ found
      ],
    );
    metadata = λ key n. (λ found. some_told n (sym (get-empty text_cmp key) ∙ found), λ never. absurd never);
  };
  within = within;
  nothing_wrong = no_events;
}
