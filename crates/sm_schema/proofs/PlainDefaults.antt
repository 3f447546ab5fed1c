-- The tree that is written for a default is one that JSON can spell.
use Rattle.std.proofs.Common.{◌≡◌, ℕ, ℤ, Bool, true, false, ◌&&◌, not, cond, List, [], ◌∷◌, Some, refl, sym, ap, ◌∙◌, subst}
use Rattle.std.specs.Prelude.{pos, int_div}
use Rattle.std.specs.Str.{bytes_eq}
use Rattle.std.proofs.lemmas.Slice.Eq.{bytes_eq-Decides}
use Rattle.std.proofs.lemmas.Str.{is_utf8-from_IsUtf8}
use Rattle.sm_time.specs.declared.format.Format.{Format}
use Rattle.sm_time.specs.declared.format.Format.TheVariants.{DateTime, HttpDate, EpochSeconds}
use Rattle.sm_time.specs.StampTexts.{is_stamp}
use Rattle.sm_time.specs.Written.{written_stamp}
use Rattle.sm_time.proofs.StampForms.{and_first, stamp_decides}
use Rattle.sm_time.proofs.StampTold.{written_told}
use Rattle.sm_tree.specs.Json.{IsJson}
use Rattle.sm_tree.specs.Node.{int, number}
use Rattle.sm_tree.specs.declared.path.Step.{Step}
use Rattle.sm_shapes.specs.Values.{Val, null_val, bool_val, int_val, text_val, blob_val, time_val, list_val, map_val, structure_val, union_val}
use Rattle.sm_shapes.specs.InOrder.{MayHaveDefault, Shaped}
use Rattle.sm_shapes.specs.Places.{member_place}
use Rattle.sm_shapes.specs.TableData.{TableData, default_at}
use Rattle.sm_codec.specs.declared.simple.Simple.{Simple}
use Rattle.sm_codec.specs.declared.simple.Simple.TheVariants as the
use Rattle.sm_codec.specs.Convention.{is_of}
use Rattle.sm_codec.specs.Conventions.{format_of_simple, is_whole_second, json_carries, json_carries_leaf, json_convention, json_written}
use Rattle.sm_codec.specs.Conventions.{json_written_time}
use Rattle.sm_codec.specs.Sorts.{Sort, simple, a_list, a_map, a_structure, a_union, left_out, sort_of}
use Rattle.sm_codec.specs.Written.{uncarried, uncarried_leaf, written, written_leaf}
use Rattle.sm_schema.specs.steps.Plain.{is_plain, is_written_stamp}
use Rattle.sm_schema.proofs.PlainTrees.{word_fits}

-- a number of seconds
seconds_plain : (ms : ℤ) (b : Bool) → is_whole_second ms ≡ b → is_stamp ms ≡ true
    → IsJson (cond b (int (int_div ms (pos 1000))) (number (written_stamp EpochSeconds ms)))
    → is_plain (cond b (int (int_div ms (pos 1000))) (number (written_stamp EpochSeconds ms))) ≡ true
seconds_plain ms true e stamp h = word_fits (int_div ms (pos 1000)) h
seconds_plain ms false e stamp h =
    let u = written_stamp EpochSeconds ms in
    ap (λ o. is_written_stamp o u) (written_told EpochSeconds ms ((stamp_decides ms).0 stamp) tt)
    ∙ ap (λ b. not b && bytes_eq u u) e ∙ (bytes_eq-Decides u u).1 refl

time_plain : (format : Format) (ms : ℤ) → is_stamp ms ≡ true → IsJson (json_written_time format ms)
    → is_plain (json_written_time format ms) ≡ true
time_plain DateTime ms stamp h = is_utf8-from_IsUtf8 (written_stamp DateTime ms) h
time_plain HttpDate ms stamp h = is_utf8-from_IsUtf8 (written_stamp HttpDate ms) h
time_plain EpochSeconds ms stamp h = seconds_plain ms (is_whole_second ms) refl stamp h

-- a leaf
stamp_of_time : (x : Simple) (ms : ℤ) → is_of x (time_val ms) ≡ true → is_stamp ms ≡ true
stamp_of_time (the.Time format) ms h = h
stamp_of_time the.Blob ms h = absurd cc
stamp_of_time the.Boolean ms h = absurd cc
stamp_of_time the.Text ms h = absurd cc
stamp_of_time (the.Number bits) ms h = absurd cc

simple_plain : (x : Simple) (v : Val) → json_carries x v ≡ true → IsJson (json_written x v) → is_plain (json_written x v) ≡ true
simple_plain x null_val h json = refl
simple_plain x (bool_val b) h json = refl
simple_plain x (int_val z) h json = word_fits z json
simple_plain x (text_val u) h json = is_utf8-from_IsUtf8 u json
simple_plain x (blob_val u) h json = is_utf8-from_IsUtf8 _ json
simple_plain x (time_val ms) h json =
    time_plain (format_of_simple x) ms
    (stamp_of_time x ms (and_first (is_of x (time_val ms)) (json_carries_leaf x (time_val ms)) h)) json
simple_plain x (list_val vs) h json = refl
simple_plain x (map_val es) h json = refl
simple_plain x (structure_val fs) h json = refl
simple_plain x (union_val k v) h json = refl

carried_by : (b : Bool) → cond {A = List (List Step)} b [] ([] ∷ []) ≡ [] → b ≡ true
carried_by true e = refl
carried_by false e = absurd cc

module _ (t : TableData) (json_names : Bool) (k : ℕ) where
  leaf_plain : (s : Sort) (v : Val) → uncarried_leaf (json_convention json_names) s v ≡ []
      → IsJson (written_leaf (json_convention json_names) s v) → is_plain (written_leaf (json_convention json_names) s v) ≡ true
  leaf_plain (simple x) v h json = simple_plain x v (carried_by (json_carries x v) h) json
  leaf_plain a_list v h json = refl
  leaf_plain a_map v h json = refl
  leaf_plain a_structure v h json = refl
  leaf_plain a_union v h json = refl
  leaf_plain left_out v h json = refl

  abbrev IsWrittenPlain : Val → Type 0
  IsWrittenPlain v = is_plain (written t (json_convention json_names) (member_place k) v) ≡ true

  abbrev at_place : Sort
  at_place = sort_of t (member_place k)

  pub default_plain : (v : Val) → Shaped t → default_at t k ≡ Some v → uncarried t (json_convention json_names) (member_place k) v ≡ []
      → IsJson (written t (json_convention json_names) (member_place k) v) → IsWrittenPlain v
  default_plain null_val shaped e h json = refl
  default_plain (bool_val b) shaped e h json = leaf_plain at_place (bool_val b) h json
  default_plain (int_val z) shaped e h json = leaf_plain at_place (int_val z) h json
  default_plain (text_val u) shaped e h json = leaf_plain at_place (text_val u) h json
  default_plain (blob_val u) shaped e h json = leaf_plain at_place (blob_val u) h json
  default_plain (time_val ms) shaped e h json = leaf_plain at_place (time_val ms) h json
  default_plain (list_val vs) shaped e h json =
      let may = subst (λ kind. MayHaveDefault kind (list_val vs)) (shaped.fit k (list_val vs) e).0 (shaped.values k (list_val vs) e).1 in
      subst IsWrittenPlain (sym may) refl
  default_plain (map_val es) shaped e h json =
      let may = subst (λ kind. MayHaveDefault kind (map_val es)) (shaped.fit k (map_val es) e).0 (shaped.values k (map_val es) e).1 in
      subst IsWrittenPlain (sym may) refl
  default_plain (structure_val fs) shaped e h json =
      absurd (subst (λ kind. MayHaveDefault kind (structure_val fs)) (shaped.fit k (structure_val fs) e).0
      (shaped.values k (structure_val fs) e).1)
  default_plain (union_val j v) shaped e h json =
      absurd (subst (λ kind. MayHaveDefault kind (union_val j v)) (shaped.fit k (union_val j v) e).0 (shaped.values k (union_val j v) e).1)
