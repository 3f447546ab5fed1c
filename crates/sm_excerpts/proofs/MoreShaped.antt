-- A table with an excerpt more is in order where the table was, and the excerpt has copies of its members.
use Rattle.std.proofs.Common.{◌≡◌, ◌⊎◌, inl, inr, ℕ, suc, ◌+◌, ◌<◌, ◌≤◌, Bool, ◌||◌, cond, List, [], ◌∷◌, map, length, refl, sym, ap, ◌∙◌}
use Rattle.std.proofs.Common.{subst, arith}
use Rattle.std.proofs.lemmas.Bool.{cases_lt}
use Rattle.std.proofs.lemmas.List.{length-append}
use Rattle.std.proofs.lemmas.List.Elements.{All-from_recursion, recursion_from_All}
use Rattle.std.proofs.lemmas.List.Sorted.{All-permutation, IsPermutation-sym}
use Rattle.std.proofs.lemmas.Option.{slice_get_within}
use Rattle.std.specs.Prelude.{IsUtf8, None, Option, Some, is_some, slice_get}
use Rattle.std.specs.List.{AllByRecursion, AllZip, Contains, filter}
use Rattle.std.specs.List.Sorted.{IsStrictlySortedBy}
use Rattle.std.specs.Ordering.{nat_cmp}
use Rattle.std.specs.Cmp.Lexicographic.{slice_cmp}
use Rattle.sm_tree.specs.Node.{Node}
use Rattle.sm_shapes.specs.Broken.{broken}
use Rattle.sm_shapes.specs.Fitting.{Fits, IsOfKind, MeetsConstraints, Test, any_text}
use Rattle.sm_shapes.specs.InOrder.{AreByName, AreMembersOf, AreStored, Built, HasItsMembers, IsTextKind, MayDefault, MayHaveDefault}
use Rattle.sm_shapes.specs.InOrder.{MayHaveNode, NamesPattern, Shaped, is_needed}
use Rattle.sm_shapes.specs.Names.{AllDiffer}
use Rattle.sm_shapes.specs.Places.{kind_of, member_place}
use Rattle.sm_shapes.specs.TableData.{ConstraintData, MemberData, ShapeData, TableData, binding_in, by_json_name_at}
use Rattle.sm_shapes.specs.TableData.{by_json_name_in, by_name_at, by_name_in, constraints_at, constraints_in, default_at, default_in}
use Rattle.sm_shapes.specs.TableData.{default_node_at, default_node_in, first_text, format_in, home_at, home_in, json_name_at, json_name_in}
use Rattle.sm_shapes.specs.TableData.{kind_at, kind_in, member_count, members_at, members_in, name_at, name_in, needed_at, needed_in}
use Rattle.sm_shapes.specs.TableData.{required_at, required_in, shape_constraints_at, shape_constraints_in, shape_count, target_at}
use Rattle.sm_shapes.specs.TableData.{target_in, texts_numbered}
use Rattle.sm_shapes.specs.Values.{Val, EntryVals, Vals, blob_val, bool_val, entry, int_val, list_val, map_val, no_entries, no_vals, null_val}
use Rattle.sm_shapes.specs.Values.{structure_val, text_val, time_val, union_val, val}
use Rattle.sm_shapes.specs.declared.kinds.ShapeKind.{ShapeKind}
use Rattle.sm_shapes.specs.declared.kinds.ShapeKind.TheVariants as kind
use Rattle.sm_excerpts.specs.Excerpts.{Extends, IsCopy, IsExcerpt}
use Rattle.sm_excerpts.specs.steps.Rows.{AddsExcerpt, copies_of, copy_in, numbers_from, rows_alone}
use Rattle.sm_excerpts.proofs.MoreRows.{IsCopyRow, SaysRow, copied_rows, copies_long, json_names_copied, names_copied, says_alike, says_copy}
use Rattle.sm_excerpts.proofs.MoreRows.{says_itself}
use Rattle.sm_excerpts.proofs.NumbersRun.{at_number, number_within, numbers_rise}
use Rattle.sm_excerpts.proofs.RowPlaces.{get_end, get_left}

module _ (t d : TableData) (ks : List ℕ) (a : AddsExcerpt t d ks) (inside : AllByRecursion (λ k. k < member_count t) ks) where
  abbrev copies : List MemberData
  copies = copies_of t.members (shape_count t) ks

  abbrev n : ℕ
  n = member_count t

  abbrev new : ℕ
  new = shape_count t

  -- how many
  pub shapes_many : shape_count d ≡ suc new
  shapes_many =
      let all = ap length a.shapes in
      let long = length-append t.shapes (a.row ∷ []) in omega (arith, all, long)

  members_many : member_count d ≡ n + length ks
  members_many =
      ap length a.members ∙ length-append t.members copies ∙ ap (λ c. n + c) (copies_long t.members new ks inside)

  -- what stands at a number
  shape_stays : (s : ℕ) → s < new → slice_get d.shapes s ≡ slice_get t.shapes s
  shape_stays s lt = ap (λ rows. slice_get rows s) a.shapes ∙ get_left t.shapes (a.row ∷ []) s lt

  shape_new : slice_get d.shapes new ≡ Some a.row
  shape_new = ap (λ rows. slice_get rows new) a.shapes ∙ get_end t.shapes a.row []

  member_stays : (k : ℕ) → k < n → slice_get d.members k ≡ slice_get t.members k
  member_stays k lt = ap (λ rows. slice_get rows k) a.members ∙ get_left t.members copies k lt

  copied : AllZip (IsCopyRow d.members t.members new) (numbers_from n (length ks)) ks
  copied =
      subst (λ rows. AllZip (IsCopyRow rows t.members new) (numbers_from n (length ks)) ks) (sym a.members)
      (copied_rows t.members new t.members ks inside)

  shape_either : (s : ℕ) → s < shape_count d → (s < new) ⊎ (s ≡ new)
  shape_either s lt = elim (cases_lt s new) [
    | inl less ↦ inl less
    | inr ge ↦ let many = shapes_many in inr (omega (arith, ge, lt, many))
  ]

  member_either : (j : ℕ) → j < member_count d → (j < n) ⊎ ((n ≤ j) × ((k : ℕ) × IsCopyRow d.members t.members new j k))
  member_either j lt = elim (cases_lt j n) [
    | inl less ↦ inl less
    | inr ge ↦ let many = members_many in inr (ge, at_number (IsCopyRow d.members t.members new) ks n j ge (omega (arith, lt, many)) copied)
  ]

  -- each member says what one of the table says
  says : (j : ℕ) → j < member_count d → (k : ℕ) × (k < n) × SaysRow d.members t.members j k
  says j lt = elim (member_either j lt) [
    | inl less ↦ (j, less, says_itself d.members t.members j less (member_stays j less))
    | inr copy ↦ (
      copy.1.0,
      slice_get_within t.members copy.1.0 copy.1.1.0 copy.1.1.2,
      says_copy d.members t.members new j copy.1.0 copy.1.1,
    )
  ]

  same_target : (j k : ℕ) → SaysRow d.members t.members j k → target_at d j ≡ target_at t k
  same_target j k h = says_alike d.members t.members j k h target_in (λ m. refl)

  same_required : (j k : ℕ) → SaysRow d.members t.members j k → required_at d j ≡ required_at t k
  same_required j k h = says_alike d.members t.members j k h required_in (λ m. refl)

  same_constraints : (j k : ℕ) → SaysRow d.members t.members j k → constraints_at d j ≡ constraints_at t k
  same_constraints j k h = says_alike d.members t.members j k h constraints_in (λ m. refl)

  same_default : (j k : ℕ) → SaysRow d.members t.members j k → default_at d j ≡ default_at t k
  same_default j k h = says_alike d.members t.members j k h default_in (λ m. refl)

  same_node : (j k : ℕ) → SaysRow d.members t.members j k → default_node_at d j ≡ default_node_at t k
  same_node j k h = says_alike d.members t.members j k h default_node_in (λ m. refl)

  same_name : (j k : ℕ) → SaysRow d.members t.members j k → name_at d j ≡ name_at t k
  same_name j k h = says_alike d.members t.members j k h name_in (λ m. refl)

  same_json_name : (j k : ℕ) → SaysRow d.members t.members j k → json_name_at d j ≡ json_name_at t k
  same_json_name j k h = says_alike d.members t.members j k h json_name_in (λ m. refl)

  is_copy : (j k : ℕ) → SaysRow d.members t.members j k → IsCopy d t j k
  is_copy j k h = record {
    name = same_name j k h;
    json_name = same_json_name j k h;
    target = same_target j k h;
    required = same_required j k h;
    constraints = same_constraints j k h;
    format = says_alike d.members t.members j k h format_in (λ m. refl);
    default = same_default j k h;
  }

  -- lists of numbers of the table
  abbrev AreOld : List ℕ → Type 0
  AreOld js = AllByRecursion (λ j. j < n) js

  old_members : (s : ℕ) (js : List ℕ) → AreMembersOf t s js → AreOld js
  old_members s [] h = tt
  old_members s (j ∷ js) h = (h.0, old_members s js h.2)

  maps_stay : {A : Type 0} (f g : ℕ → A) → ((j : ℕ) → j < n → f j ≡ g j) → (js : List ℕ) → AreOld js → map f js ≡ map g js
  maps_stay f g same [] h = refl
  maps_stay f g same (j ∷ js) h = let one = same j h.0 in let more = maps_stay f g same js h.1 in λ i. one i ∷ more i

  filters_stay : (f g : ℕ → Bool) → ((j : ℕ) → j < n → f j ≡ g j) → (js : List ℕ) → AreOld js → filter f js ≡ filter g js
  filters_stay f g same [] h = refl
  filters_stay f g same (j ∷ js) h =
      let one = same j h.0 in let more = filters_stay f g same js h.1 in λ i. cond (one i) (j ∷ more i) (more i)

  itself : (j : ℕ) → j < n → SaysRow d.members t.members j j
  itself j lt = says_itself d.members t.members j lt (member_stays j lt)

  name_stays : (j : ℕ) → j < n → name_at d j ≡ name_at t j
  name_stays j lt = same_name j j (itself j lt)

  json_name_stays : (j : ℕ) → j < n → json_name_at d j ≡ json_name_at t j
  json_name_stays j lt = same_json_name j j (itself j lt)

  needed_stays : (j : ℕ) → j < n → is_needed d j ≡ is_needed t j
  needed_stays j lt =
      let required = same_required j j (itself j lt) in
      let node = same_node j j (itself j lt) in
      let default = same_default j j (itself j lt) in
      λ i. required i || (is_some (node i) || is_some (default i))

  still_members : (s : ℕ) (js : List ℕ) → AreMembersOf t s js → AreMembersOf d s js
  still_members s [] h = tt
  still_members s (j ∷ js) h =
      let many = members_many in let lt = h.0 in
      (omega (arith, lt, many), ap home_in (member_stays j h.0) ∙ h.1, still_members s js h.2)

  new_members : (js ls : List ℕ) → AllZip (IsCopyRow d.members t.members new) js ls → AreMembersOf d new js
  new_members [] [] h = tt
  new_members [] (l ∷ ls) h = absurd h
  new_members (j ∷ js) [] h = absurd h
  new_members (j ∷ js) (l ∷ ls) h =
      (slice_get_within d.members j (copy_in new h.0.0) h.0.1, ap home_in h.0.1, new_members js ls h.1)

  excerpt_copies : (js ls : List ℕ) → AllZip (IsCopyRow d.members t.members new) js ls → AllZip (IsCopy d t) js ls
  excerpt_copies [] [] h = tt
  excerpt_copies [] (l ∷ ls) h = absurd h
  excerpt_copies (j ∷ js) [] h = absurd h
  excerpt_copies (j ∷ js) (l ∷ ls) h = (is_copy j l (says_copy d.members t.members new j l h.0), excerpt_copies js ls h.1)

  -- words of shapes
  kind_stays : (s : ℕ) → s < new → kind_at d s ≡ kind_at t s
  kind_stays s lt = ap kind_in (shape_stays s lt)

  kind_new : kind_at d new ≡ kind.Structure
  kind_new = ap kind_in shape_new ∙ a.is.kind

  members_new : members_at d new ≡ numbers_from n (length ks)
  members_new = ap members_in shape_new ∙ a.is.members

  pub extends : Extends d t
  extends = record { shapes = (a.row ∷ [], a.shapes); members = (copies, a.members); patterns = a.patterns }

  pub excerpt : IsExcerpt d t new ks
  excerpt = record {
    there = let many = shapes_many in omega (arith, many);
    kind = kind_new;
    copies = subst (λ js. AllZip (IsCopy d t) js ks) (sym members_new) (excerpt_copies (numbers_from n (length ks)) ks copied);
  }

  still_own : (kd : ShapeKind) (s : ℕ) (js : List ℕ) → Shaped t → AreMembersOf t s js → HasItsMembers t kd js → HasItsMembers d kd js
  still_own kind.List s (k ∷ []) shaped at h = h
  still_own kind.List s [] shaped at h = h
  still_own kind.List s (j ∷ k ∷ js) shaped at h = h
  still_own kind.Map s [] shaped at h = h
  still_own kind.Map s (k ∷ []) shaped at h = h
  still_own kind.Map s (j ∷ k ∷ []) shaped at h =
      let same = same_target j j (itself j at.0) in
      let stays = kind_stays (target_at t j) (shaped.targets j at.0) in
      subst IsTextKind (sym (ap (kind_at d) same ∙ stays)) h
  still_own kind.Map s (j ∷ k ∷ l ∷ js) shaped at h = h
  still_own kind.Blob s js shaped at h = h
  still_own kind.Boolean s js shaped at h = h
  still_own kind.Text s js shaped at h = h
  still_own kind.Enum s js shaped at h = h
  still_own kind.Byte s js shaped at h = h
  still_own kind.Short s js shaped at h = h
  still_own kind.Integer s js shaped at h = h
  still_own kind.IntEnum s js shaped at h = h
  still_own kind.Long s js shaped at h = h
  still_own kind.Timestamp s js shaped at h = h
  still_own kind.Structure s js shaped at h = h
  still_own kind.Union s js shaped at h = h
  still_own kind.LeftOut s js shaped at h = h

  still_named : (o : Option ℕ) → NamesPattern t o → NamesPattern d o
  still_named None h = tt
  still_named (Some p) h = (h.0, ap (texts_numbered p) a.patterns ∙ h.1)

  -- names in order
  by_name_stays : (f g : ℕ → List ℕ) → ((j : ℕ) → j < n → f j ≡ g j) → (s : ℕ) (js ordered : List ℕ) → AreMembersOf t s js
      → AreByName g js ordered → AreByName f js ordered
  by_name_stays f g same s js ordered at h =
      let moved = IsPermutation-sym ordered js h.0 in
      let old = recursion_from_All (λ j. j < n) ordered
      (All-permutation (λ j. j < n) js ordered moved (All-from_recursion (λ j. j < n) js (old_members s js at))) in
      (h.0, subst (IsStrictlySortedBy (slice_cmp nat_cmp)) (sym (maps_stay f g same ordered old)) h.1)

  new_by_name : (js ordered : List ℕ) → AreByName (name_at (rows_alone d.members)) js ordered → AreByName (name_at d) js ordered
  new_by_name js ordered h = h

  new_by_json_name : (js ordered : List ℕ) → AreByName (json_name_at (rows_alone d.members)) js ordered
      → AreByName (json_name_at d) js ordered
  new_by_json_name js ordered h = h

  new_needed : (js : List ℕ) → filter (is_needed (rows_alone d.members)) js ≡ filter (is_needed d) js
  new_needed js = refl

  -- defaults
  meets : (test : Test) (v : Val) (j k : ℕ) → SaysRow d.members t.members j k → target_at t k < new
      → MeetsConstraints t test (member_place k) v → MeetsConstraints d test (member_place j) v
  meets test v j k h lt met =
      let kinds : kind_of d (member_place j) ≡ kind_of t (member_place k) =
      ap (kind_at d) (same_target j k h) ∙ kind_stays (target_at t k) lt in
      let constraints = same_constraints j k h in
      let finds = ap (λ (ps : List (ℕ × List ℕ)). λ (p : ℕ) (u : List ℕ). test (first_text (texts_numbered p ps)) u) a.patterns in
      (λ i. broken (finds i) (kinds i) (constraints i) v) ∙ met

  simple_fits : (v : Val) (j k : ℕ) → SaysRow d.members t.members j k → target_at t k < new
      → IsOfKind (kind_of t (member_place k)) v × MeetsConstraints t any_text (member_place k) v
      → IsOfKind (kind_of d (member_place j)) v × MeetsConstraints d any_text (member_place j) v
  simple_fits v j k h lt fits =
      let kinds : kind_of d (member_place j) ≡ kind_of t (member_place k) =
      ap (kind_at d) (same_target j k h) ∙ kind_stays (target_at t k) lt in
      (subst (λ kd. IsOfKind kd v) (sym kinds) fits.0, meets any_text v j k h lt fits.1)

  default_fits : (v : Val) (j k : ℕ) → SaysRow d.members t.members j k → target_at t k < new
      → MayHaveDefault (kind_of t (member_place k)) v → Fits t any_text (member_place k) v → Fits d any_text (member_place j) v
  default_fits null_val j k h lt may fits = fits
  default_fits (bool_val b) j k h lt may fits = simple_fits (bool_val b) j k h lt fits
  default_fits (int_val z) j k h lt may fits = simple_fits (int_val z) j k h lt fits
  default_fits (text_val u) j k h lt may fits = simple_fits (text_val u) j k h lt fits
  default_fits (blob_val u) j k h lt may fits = simple_fits (blob_val u) j k h lt fits
  default_fits (time_val ms) j k h lt may fits = simple_fits (time_val ms) j k h lt fits
  default_fits (list_val no_vals) j k h lt may fits = (
    ap (kind_at d) (same_target j k h) ∙ kind_stays (target_at t k) lt ∙ fits.0,
    meets any_text (list_val no_vals) j k h lt fits.1,
    λ e. tt,
    tt,
  )
  default_fits (list_val (val v vs)) j k h lt may fits = absurd (no_list v vs (subst (λ kd. MayHaveDefault kd (list_val (val v vs))) fits.0 may))
    where
      no_list : (v : Val) (vs : Vals) → list_val (val v vs) ≡ list_val no_vals → ⊥
      no_list v vs e = cc
  default_fits (map_val no_entries) j k h lt may fits = (
    ap (kind_at d) (same_target j k h) ∙ kind_stays (target_at t k) lt ∙ fits.0,
    meets any_text (map_val no_entries) j k h lt fits.1,
    fits.2,
    tt,
  )
  default_fits (map_val (entry key v es)) j k h lt may fits =
      absurd (no_map key v es (subst (λ kd. MayHaveDefault kd (map_val (entry key v es))) fits.0 may))
    where
      no_map : (key : List ℕ) (v : Val) (es : EntryVals) → map_val (entry key v es) ≡ map_val no_entries → ⊥
      no_map key v es e = cc
  default_fits (structure_val fs) j k h lt may fits = absurd (subst (λ kd. MayHaveDefault kd (structure_val fs)) fits.0 may)
  default_fits (union_val l v) j k h lt may fits = absurd (subst (λ kd. MayHaveDefault kd (union_val l v)) fits.0 may)

  -- a member with a node or a default is there
  node_there : (j : ℕ) (nd : Node) (o : Option MemberData) → slice_get d.members j ≡ o → default_node_in o ≡ Some nd → j < member_count d
  node_there j nd None e h = absurd cc
  node_there j nd (Some m) e h = slice_get_within d.members j m e

  default_there : (j : ℕ) (v : Val) (o : Option MemberData) → slice_get d.members j ≡ o → default_in o ≡ Some v → j < member_count d
  default_there j v None e h = absurd cc
  default_there j v (Some m) e h = slice_get_within d.members j m e

  -- which is a structure's, and has no binding
  may_default : Shaped t → (j : ℕ) → j < member_count d → ((k : ℕ) → SaysRow d.members t.members j k → MayDefault t k) → MayDefault d j
  may_default shaped j lt may = elim (member_either j lt) [
    | inl less ↦ let old = may j (itself j less) in (
      ap (kind_at d) (ap home_in (member_stays j less)) ∙ kind_stays (home_at t j) (shaped.homes j less).0 ∙ old.0,
      ap binding_in (member_stays j less) ∙ old.1,
    )
    | inr copy ↦ (ap (kind_at d) (ap home_in copy.1.1.1) ∙ kind_new, ap binding_in copy.1.1.1)
  ]

  module _ (shaped : Shaped t) where
    in_range : (k : ℕ) → k < n → target_at t k < new
    in_range k lt = shaped.targets k lt

    module _ (names : AllDiffer (map (name_at t) ks)) (json_names : AllDiffer (map (json_name_at t) ks)) where
      pub more_shaped : Shaped d
      more_shaped = record {
        targets = λ j lt.
            let of = says j lt in
            let same = same_target j of.0 of.2 in
            let at = in_range of.0 of.1 in
            let many = shapes_many in omega (arith, same, at, many);
        homes = λ j lt. elim (member_either j lt) [
          | inl less ↦
              let same : home_at d j ≡ home_at t j = ap home_in (member_stays j less) in
              let home = shaped.homes j less in
              let many = shapes_many in
              let at = home.0 in (
                omega (arith, same, at, many),
                subst (λ js. Contains js j) (sym (ap (members_at d) same ∙ ap members_in (shape_stays (home_at t j) at))) home.1,
              )
          | inr copy ↦
              let same : home_at d j ≡ new = ap home_in copy.1.1.1 in
              let many = shapes_many in (
                omega (arith, same, many),
                subst (λ js. Contains js j) (sym (ap (members_at d) same ∙ members_new)) (stands j copy.0 lt),
              )
        ];
        members = λ s lt. elim (shape_either s lt) [
          | inl less ↦ subst (AreMembersOf d s) (sym (ap members_in (shape_stays s less)))
              (still_members s (members_at t s) (shaped.members s less))
          | inr is ↦ subst (λ (x : ℕ). AreMembersOf d x (members_at d x)) (sym is)
              (subst (AreMembersOf d new) (sym members_new) (new_members (numbers_from n (length ks)) ks copied))
        ];
        rises = λ s lt. elim (shape_either s lt) [
          | inl less ↦ subst (IsStrictlySortedBy nat_cmp) (sym (ap members_in (shape_stays s less))) (shaped.rises s less)
          | inr is ↦ subst (λ (x : ℕ). IsStrictlySortedBy nat_cmp (members_at d x)) (sym is)
              (subst (IsStrictlySortedBy nat_cmp) (sym members_new) (numbers_rise n (length ks)))
        ];
        by_name = λ s lt. elim (shape_either s lt) [
          | inl less ↦ subst (λ (o : Option ShapeData). AreByName (name_at d) (members_in o) (by_name_in o)) (sym (shape_stays s less))
              (by_name_stays (name_at d) (name_at t) name_stays s (members_at t s) (by_name_at t s) (shaped.members s less)
              (shaped.by_name s less))
          | inr is ↦ subst (λ (x : ℕ). AreByName (name_at d) (members_at d x) (by_name_at d x)) (sym is)
              (subst (λ (o : Option ShapeData). AreByName (name_at d) (members_in o) (by_name_in o)) (sym shape_new)
              (new_by_name a.row.members a.row.by_name a.is.by_name))
        ];
        by_json_name = λ s lt. elim (shape_either s lt) [
          | inl less ↦ subst (λ (o : Option ShapeData). AreByName (json_name_at d) (members_in o) (by_json_name_in o))
              (sym (shape_stays s less))
              (by_name_stays (json_name_at d) (json_name_at t) json_name_stays s (members_at t s) (by_json_name_at t s)
              (shaped.members s less) (shaped.by_json_name s less))
          | inr is ↦ subst (λ (x : ℕ). AreByName (json_name_at d) (members_at d x) (by_json_name_at d x)) (sym is)
              (subst (λ (o : Option ShapeData). AreByName (json_name_at d) (members_in o) (by_json_name_in o)) (sym shape_new)
              (new_by_json_name a.row.members a.row.by_json_name a.is.by_json_name))
        ];
        needed = λ s lt. elim (shape_either s lt) [
          | inl less ↦ ap needed_in (shape_stays s less) ∙ shaped.needed s less
              ∙ sym (filters_stay (is_needed d) (is_needed t) needed_stays (members_at t s)
              (old_members s (members_at t s) (shaped.members s less)))
              ∙ ap (filter (is_needed d)) (sym (ap members_in (shape_stays s less)))
          | inr is ↦ subst (λ (x : ℕ). needed_at d x ≡ filter (is_needed d) (members_at d x)) (sym is)
              (ap needed_in shape_new ∙ a.is.needed ∙ new_needed a.row.members ∙ ap (filter (is_needed d)) (sym (ap members_in shape_new)))
        ];
        own = λ s lt. elim (shape_either s lt) [
          | inl less ↦ subst (λ (o : Option ShapeData). HasItsMembers d (kind_in o) (members_in o)) (sym (shape_stays s less))
              (still_own (kind_at t s) s (members_at t s) shaped (shaped.members s less) (shaped.own s less))
          | inr is ↦ subst (λ (x : ℕ). HasItsMembers d (kind_at d x) (members_at d x)) (sym is)
              (subst (λ kd. HasItsMembers d kd (members_at d new)) (sym kind_new) tt)
        ];
        names = λ s lt. elim (shape_either s lt) [
          | inl less ↦ subst (λ js. AllDiffer (map (name_at d) js)) (sym (ap members_in (shape_stays s less)))
              (subst AllDiffer (sym (maps_stay (name_at d) (name_at t) name_stays (members_at t s)
              (old_members s (members_at t s) (shaped.members s less)))) (shaped.names s less))
          | inr is ↦ subst (λ (x : ℕ). AllDiffer (map (name_at d) (members_at d x))) (sym is)
              (subst (λ js. AllDiffer (map (name_at d) js)) (sym members_new)
              (subst AllDiffer (sym (names_copied d.members t.members new (numbers_from n (length ks)) ks copied)) names))
        ];
        json_names = λ s lt. elim (shape_either s lt) [
          | inl less ↦ subst (λ js. AllDiffer (map (json_name_at d) js)) (sym (ap members_in (shape_stays s less)))
              (subst AllDiffer (sym (maps_stay (json_name_at d) (json_name_at t) json_name_stays (members_at t s)
              (old_members s (members_at t s) (shaped.members s less)))) (shaped.json_names s less))
          | inr is ↦ subst (λ (x : ℕ). AllDiffer (map (json_name_at d) (members_at d x))) (sym is)
              (subst (λ js. AllDiffer (map (json_name_at d) js)) (sym members_new)
              (subst AllDiffer (sym (json_names_copied d.members t.members new (numbers_from n (length ks)) ks copied)) json_names))
        ];
        utf8 = λ j lt.
            let of = says j lt in
            let texts = shaped.utf8 of.0 of.1 in
            (subst IsUtf8 (sym (same_name j of.0 of.2)) texts.0, subst IsUtf8 (sym (same_json_name j of.0 of.2)) texts.1);
        shape_patterns = λ s lt. elim (shape_either s lt) [
          | inl less ↦ subst (λ (c : ConstraintData). NamesPattern d c.pattern) (sym (ap shape_constraints_in (shape_stays s less)))
              (still_named (shape_constraints_at t s).pattern (shaped.shape_patterns s less))
          | inr is ↦ subst (λ (x : ℕ). NamesPattern d (shape_constraints_at d x).pattern) (sym is)
              (subst (λ (o : Option ShapeData). NamesPattern d (shape_constraints_in o).pattern) (sym shape_new)
              (subst (NamesPattern d) (sym a.is.pattern) tt))
        ];
        member_patterns = λ j lt.
            let of = says j lt in
            subst (λ (c : ConstraintData). NamesPattern d c.pattern) (sym (same_constraints j of.0 of.2))
            (still_named (constraints_at t of.0).pattern (shaped.member_patterns of.0 of.1));
        nodes = λ j nd is.
            let lt = node_there j nd (slice_get d.members j) refl is in
            let of = says j lt in (
              may_default shaped j lt (λ k row. (shaped.nodes k nd (sym (same_node j k row) ∙ is)).0),
              subst (λ kd. MayHaveNode kd nd)
                  (sym (ap (kind_at d) (same_target j of.0 of.2) ∙ kind_stays (target_at t of.0) (in_range of.0 of.1)))
                  (shaped.nodes of.0 nd (sym (same_node j of.0 of.2) ∙ is)).1,
            );
        values = λ j v is.
            let lt = default_there j v (slice_get d.members j) refl is in
            let of = says j lt in (
              may_default shaped j lt (λ k row. (shaped.values k v (sym (same_default j k row) ∙ is)).0),
              subst (λ kd. MayHaveDefault kd v)
                  (sym (ap (kind_at d) (same_target j of.0 of.2) ∙ kind_stays (target_at t of.0) (in_range of.0 of.1)))
                  (shaped.values of.0 v (sym (same_default j of.0 of.2) ∙ is)).1,
            );
        fit = λ j v is.
            let lt = default_there j v (slice_get d.members j) refl is in
            let of = says j lt in
            let said = sym (same_default j of.0 of.2) ∙ is in
            default_fits v j of.0 of.2 (in_range of.0 of.1) (shaped.values of.0 v said).1 (shaped.fit of.0 v said);
      }
        where
          stands : (j : ℕ) → n ≤ j → j < member_count d → Contains (numbers_from n (length ks)) j
          stands j ge lt = let many = members_many in number_within n (length ks) j ge (omega (arith, lt, many))

    pub more_built : (added : List (List ℕ)) (test : Test) → Built t added test → Built d added test
    more_built added test built = record {
      stored = subst (λ ps. AreStored ps added) (sym a.patterns) built.stored;
      defaults = λ j v is.
          let lt = default_there j v (slice_get d.members j) refl is in
          let of = says j lt in
          meets test v j of.0 of.2 (in_range of.0 of.1) (built.defaults of.0 v (sym (same_default j of.0 of.2) ∙ is));
    }
