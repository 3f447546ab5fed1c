-- The rows of copies: each says of values what the row says that it is a copy of.
use Rattle.std.proofs.Common.{◌≡◌, ℕ, suc, ◌<◌, List, [], ◌∷◌, ◌++◌, length, map, refl, sym, ap, ◌∙◌, subst, arith}
use Rattle.std.proofs.lemmas.List.{append_assoc, length-append}
use Rattle.std.specs.Prelude.{Option, None, Some, slice_get}
use Rattle.std.specs.List.{AllByRecursion, AllZip}
use Rattle.std.specs.Option.{option_map}
use Rattle.sm_shapes.specs.Names.{AllDiffer}
use Rattle.sm_shapes.specs.TableData.{MemberData, json_name_at, json_name_in, name_at, name_in}
use Rattle.sm_excerpts.specs.steps.Rows.{copies_of, copy_in, listed, numbers_from, rows_alone}
use Rattle.sm_excerpts.proofs.RowPlaces.{get_end, there}

-- a row without what a copy changes
abbrev pub bare : MemberData → MemberData
bare m = record m { shape = 0; binding = None }

-- the row at a number among some says what the row at another number among others says
abbrev pub SaysRow : List MemberData → List MemberData → ℕ → ℕ → Type 0
SaysRow rows others j k =
    (n m : MemberData) × (slice_get rows j ≡ Some n) × (slice_get others k ≡ Some m) × (bare n ≡ bare m)

-- and it is the copy
abbrev pub IsCopyRow : List MemberData → List MemberData → ℕ → ℕ → ℕ → Type 0
IsCopyRow rows others s j k = (m : MemberData) × (slice_get rows j ≡ Some (copy_in s m)) × (slice_get others k ≡ Some m)

pub says_copy : (rows others : List MemberData) (s j k : ℕ) → IsCopyRow rows others s j k → SaysRow rows others j k
says_copy rows others s j k h = (copy_in s h.0, h.0, h.1, h.2, refl)

pub says_itself : (rows others : List MemberData) (j : ℕ) → j < length others → slice_get rows j ≡ slice_get others j → SaysRow rows others j j
says_itself rows others j lt same = let row = there others j lt in (row.0, row.0, same ∙ row.1, row.1, refl)

module _ (ms : List MemberData) (s : ℕ) where
  next_copy : (k : ℕ) (ks : List ℕ) (m : MemberData) → slice_get ms k ≡ Some m → copies_of ms s (k ∷ ks) ≡ copy_in s m ∷ copies_of ms s ks
  next_copy k ks m e = ap (λ o. listed (option_map (copy_in s) o) ++ copies_of ms s ks) e

  pub copies_long : (ks : List ℕ) → AllByRecursion (λ k. k < length ms) ks → length (copies_of ms s ks) ≡ length ks
  copies_long [] h = refl
  copies_long (k ∷ ks) h =
      let row = there ms k h.0 in ap length (next_copy k ks row.0 row.1) ∙ ap suc (copies_long ks h.1)

  -- the copies stand behind these rows
  pub copied_rows : (front : List MemberData) (ks : List ℕ) → AllByRecursion (λ k. k < length ms) ks
      → AllZip (IsCopyRow (front ++ copies_of ms s ks) ms s) (numbers_from (length front) (length ks)) ks
  copied_rows front [] h = tt
  copied_rows front (k ∷ ks) h =
      let row = there ms k h.0 in
      let next = next_copy k ks row.0 row.1 in
      let long = length-append front (copy_in s row.0 ∷ []) in
      let count : length (front ++ copy_in s row.0 ∷ []) ≡ suc (length front) = omega (arith, long) in
      let all = append_assoc front (copy_in s row.0 ∷ []) (copies_of ms s ks) in
      let rest = copied_rows (front ++ copy_in s row.0 ∷ []) ks h.1 in
      subst (λ xs. AllZip (IsCopyRow (front ++ xs) ms s) (numbers_from (length front) (length (k ∷ ks))) (k ∷ ks)) (sym next) (
        (row.0, get_end front (copy_in s row.0) (copies_of ms s ks), row.1),
        subst (λ n. AllZip (IsCopyRow (front ++ copy_in s row.0 ∷ copies_of ms s ks) ms s) (numbers_from n (length ks)) ks) count
            (subst (λ xs. AllZip (IsCopyRow xs ms s) (numbers_from (length (front ++ copy_in s row.0 ∷ [])) (length ks)) ks) all rest),
      )

-- what is looked up of a row but what a copy changes
module _ (rows others : List MemberData) (j k : ℕ) (says : SaysRow rows others j k) where
  pub says_alike : {A : Type 0} (look : Option MemberData → A) → ((m : MemberData) → look (Some (bare m)) ≡ look (Some m))
      → look (slice_get rows j) ≡ look (slice_get others k)
  says_alike look same =
      ap look says.2 ∙ sym (same says.0) ∙ ap (λ m. look (Some m)) says.4 ∙ same says.1 ∙ sym (ap look says.3)

  pub same_name : name_at (rows_alone rows) j ≡ name_at (rows_alone others) k
  same_name = says_alike name_in (λ m. refl)

  pub same_json_name : json_name_at (rows_alone rows) j ≡ json_name_at (rows_alone others) k
  same_json_name = says_alike json_name_in (λ m. refl)

-- the names of copies
module _ (rows others : List MemberData) (s : ℕ) where
  pub names_copied : (js ks : List ℕ) → AllZip (IsCopyRow rows others s) js ks
      → map (name_at (rows_alone rows)) js ≡ map (name_at (rows_alone others)) ks
  names_copied [] [] h = refl
  names_copied [] (k ∷ ks) h = absurd h
  names_copied (j ∷ js) [] h = absurd h
  names_copied (j ∷ js) (k ∷ ks) h =
      let one = same_name rows others j k (says_copy rows others s j k h.0) in
      let more = names_copied js ks h.1 in λ i. one i ∷ more i

  pub json_names_copied : (js ks : List ℕ) → AllZip (IsCopyRow rows others s) js ks
      → map (json_name_at (rows_alone rows)) js ≡ map (json_name_at (rows_alone others)) ks
  json_names_copied [] [] h = refl
  json_names_copied [] (k ∷ ks) h = absurd h
  json_names_copied (j ∷ js) [] h = absurd h
  json_names_copied (j ∷ js) (k ∷ ks) h =
      let one = same_json_name rows others j k (says_copy rows others s j k h.0) in
      let more = json_names_copied js ks h.1 in λ i. one i ∷ more i

-- names that differ do so among copies
module _ (ms : List MemberData) (s : ℕ) (ks : List ℕ) (inside : AllByRecursion (λ k. k < length ms) ks) where
  abbrev all : List MemberData
  all = ms ++ copies_of ms s ks

  pub names_differ : AllDiffer (map (name_at (rows_alone ms)) ks)
      → AllDiffer (map (name_at (rows_alone all)) (numbers_from (length ms) (length ks)))
  names_differ h = subst AllDiffer (sym (names_copied all ms s (numbers_from (length ms) (length ks)) ks (copied_rows ms s ms ks inside))) h

  pub json_names_differ : AllDiffer (map (json_name_at (rows_alone ms)) ks)
      → AllDiffer (map (json_name_at (rows_alone all)) (numbers_from (length ms) (length ks)))
  json_names_differ h =
      subst AllDiffer (sym (json_names_copied all ms s (numbers_from (length ms) (length ks)) ks (copied_rows ms s ms ks inside))) h
