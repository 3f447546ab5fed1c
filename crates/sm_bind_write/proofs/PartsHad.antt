-- What is carried of maps and texts has its texts, as the writers of parts ask.
use Rattle.std.proofs.Common.{◌≡◌, ℕ, ◌<◌, Bool, true, false, ◌&&◌, cond, List, [], ◌∷◌, refl, ap, ◌∙◌}
use Rattle.std.specs.List.{AllByRecursion}
use Rattle.sm_time.proofs.StampForms.{and_first, and_second}
use Rattle.sm_tree.specs.declared.path.Step.{Step}
use Rattle.sm_tree.specs.declared.path.Step.TheVariants.{Key}
use Rattle.sm_shapes.specs.InOrder.{AreMembersOf}
use Rattle.sm_shapes.specs.Places.{Place}
use Rattle.sm_shapes.specs.TableData.{TableData, member_count}
use Rattle.sm_shapes.specs.Values.{EntryVals, entry, no_entries}
use Rattle.sm_codec.specs.Written.{paths_under}
use Rattle.sm_codec.proofs.NoFaults.{none_behind, none_first}
use Rattle.sm_codec.proofs.WrittenValues.{none_of_paths}
use Rattle.sm_part_texts.specs.CarriedTexts.{fields_have_texts, has_text_at, here_unless, is_carried, keyed_have_texts}
use Rattle.sm_part_texts.specs.CarriedTexts.{uncarried_query, value_passes}
use Rattle.sm_part_texts.specs.PlaceTexts.{in_fields, in_targets}
use Rattle.sm_part_texts.specs.declared.carried.TextTest.TheVariants.{OfField, OfQuery}
use Rattle.sm_part_texts.proofs.TextsHad.{passed_here, texts_had}
use Rattle.sm_bind.specs.Roles.{Bound, is_taken_key}
use Rattle.sm_bind_write.specs.CarriedParts.{is_prefix_key, is_prefixed_entry, params_failing, prefixed_failing, some_params_failing}
use Rattle.sm_bind_write.specs.CarriedParts.{some_prefixed_failing, uncarried_param}

-- members of a shape are members of the table
pub all_inside : (t : TableData) (s : ℕ) (ks : List ℕ) → AreMembersOf t s ks → AllByRecursion (λ k. k < member_count t) ks
all_inside t s [] h = tt
all_inside t s (k ∷ ks) h = (h.0, all_inside t s ks h.2)

free_param : (taken : Bool) (paths : List (List Step)) → cond taken ([] ∷ []) paths ≡ [] → paths ≡ []
free_param true paths h = absurd cc
free_param false paths h = h

params_had : (b : Bound) (q : Place) (es : EntryVals) → params_failing b q es ≡ [] → keyed_have_texts b.table q es ≡ true
params_had b q no_entries h = refl
params_had b q (entry key v es) h =
    let here = uncarried_param b q key v in
    let rest = params_failing b q es in
    let own = free_param (is_taken_key b key) (uncarried_query b.table q v)
    (none_of_paths (Key key) here (none_first (paths_under (Key key) here) rest h)) in
    ap (λ t. t && keyed_have_texts b.table q es) (texts_had OfQuery OfQuery in_targets b.table q v refl refl own)
    ∙ params_had b q es (none_behind (paths_under (Key key) here) rest h)

pub some_params_had : (b : Bound) (q : Place) (es : EntryVals) → some_params_failing b q es ≡ [] → keyed_have_texts b.table q es ≡ true
some_params_had b q no_entries h = refl
some_params_had b q (entry key v es) h = params_had b q (entry key v es) h

prefixed_had : (b : Bound) (prefix : List ℕ) (q : Place) (es : EntryVals) → prefixed_failing b prefix q es ≡ []
    → fields_have_texts b.table q es ≡ true
prefixed_had b prefix q no_entries h = refl
prefixed_had b prefix q (entry key v es) h =
    let here = here_unless (is_prefixed_entry b prefix q key v) in
    let rest = prefixed_failing b prefix q es in
    let own = passed_here (is_prefixed_entry b prefix q key v) (none_of_paths (Key key) here (none_first (paths_under (Key key) here) rest h)) in
    let carried = and_second (is_prefix_key b prefix key) (is_carried OfField b.table q v) own in
    ap (λ t. t && fields_have_texts b.table q es) (and_first (has_text_at in_fields b.table q v) (value_passes OfField v) carried)
    ∙ prefixed_had b prefix q es (none_behind (paths_under (Key key) here) rest h)

pub some_prefixed_had : (b : Bound) (prefix : List ℕ) (q : Place) (es : EntryVals) → some_prefixed_failing b prefix q es ≡ []
    → fields_have_texts b.table q es ≡ true
some_prefixed_had b prefix q no_entries h = refl
some_prefixed_had b prefix q (entry key v es) h = prefixed_had b prefix q (entry key v es) h
