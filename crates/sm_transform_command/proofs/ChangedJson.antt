-- What is written for a changed graph of model files that are accepted is JSON: its ids are texts in UTF-8, its bodies and values JSON.
use Rattle.std.proofs.Common.{◌≡◌, ◌<◌, ◌≤◌, ◌+◌, inl, inr, ℕ, Bool, true, false, List, [], ◌∷◌, length, get_or, Some, None}
use Rattle.std.proofs.Common.{refl, sym, subst, arith, IsUtf8}
use Rattle.std.specs.Prelude.{◌==◌, if◌then◌else◌}
use Rattle.std.specs.Char.{is_ascii}
use Rattle.std.specs.FinMap as fin
use Rattle.std.specs.List.{after_first, position_or_len}
use Rattle.std.proofs.Math.ListN.{drop_of_length-le}
use Rattle.std.proofs.lemmas.Bool.{cases_lt}
use Rattle.std.proofs.lemmas.Bool.Decides.{nat_tests}
use Rattle.std.proofs.lemmas.List.Sums.{passes_at_first}
use Rattle.std.proofs.lemmas.Str.{IsCharBoundary-after_ascii, IsUtf8-append, IsUtf8-drop, IsUtf8-nil}
use Rattle.sm_ids.specs.Identifier.{IsNamespace}
use Rattle.sm_ids.specs.TextParts.{absolute_id, is_byte, local_part}
use Rattle.sm_ids.proofs.Cutting.{list_all_weaker}
use Rattle.sm_ids.proofs.Namespaces.{is_namespace_byte, namespace_bytes}
use Rattle.sm_tree.specs.Json.{IsJson}
use Rattle.sm_model.specs.Graphs.{Entry, GraphMaps, NodeMap, member_entry, shape_entry}
use Rattle.sm_model.specs.Relations.{HasEntry}
use Rattle.sm_ast.specs.Written.{written_ast}
use Rattle.sm_ast.proofs.JsonGiven.{id_utf8, identifier_utf8}
use Rattle.sm_ast.proofs.JsonWritten.{AreJsonPairs, EntryIsJson, utf8, written_json}
use Rattle.sm_merge.proofs.EntriesFound.{each_has, has_get}
use Rattle.sm_merge.proofs.GraphSound.{IsMemberId, IsSoundEntry, stands_sound}
use Rattle.sm_model_commands.specs.asked.load.Loading.{AreAccepted}
use Rattle.sm_model_commands.specs.asked.load.ModelFiles.{FileGiven}
use Rattle.sm_transform.specs.Changed.{Change, Changed, IsMadeOf, exclude, include, rename, unless}
use Rattle.sm_transform.specs.IdChanges.{IdChange, entry_after}
use Rattle.sm_transform.specs.Namespaces.{is_of_namespace}
use Rattle.sm_transform.specs.Renamed.{renamed_id, renames}
use Rattle.sm_transformed.specs.Transformed.{IsSaid}
use Rattle.sm_model_commands.proofs.MergedJson.{metadata_json, traits_json as merged_traits}
use Rattle.sm_transform_command.proofs.ChangedTexts.{TextThere, body_json, target_text, traits_json}

-- what stands behind a byte of ASCII in a text
at_byte : (b c : ℕ) → (b == c) ≡ true → b ≡ c
at_byte b c h = grind (arith, nat_tests)

behind_utf8 : (c : ℕ) → c < 128 → (t : List ℕ) → IsUtf8 t → IsUtf8 (after_first (is_byte c) t)
behind_utf8 c small t h =
    let n = position_or_len (is_byte c) t in
    elim (cases_lt n (length t)) [
      | inl inside ↦
          let here : get_or t n 0 ≡ c = at_byte (get_or t n 0) c (passes_at_first (is_byte c) t 0 inside) in
          let low : get_or t n 0 < 128 = subst (λ b. b < 128) (sym here) small in
          IsUtf8-drop t (n + 1) h (IsCharBoundary-after_ascii t n h inside low)
      | inr past ↦
          let long : length t ≤ n + 1 = omega (arith, past) in
          subst IsUtf8 (sym (drop_of_length-le t long)) IsUtf8-nil
    ]

namespace_ascii : (c : ℕ) → is_namespace_byte c ≡ true → is_ascii c ≡ true
namespace_ascii c h = grind (arith, nat_tests)

namespace_utf8 : (t : List ℕ) → IsNamespace t → IsUtf8 t
namespace_utf8 t h = utf8 t (list_all_weaker is_namespace_byte is_ascii namespace_ascii t (namespace_bytes t h))

-- an id in another namespace
renamed_utf8 : (from to : List ℕ) → IsNamespace to → (t : List ℕ) → IsUtf8 t → IsUtf8 (renamed_id from to t)
renamed_utf8 from to named t h =
    let small : 35 < 128 = omega arith in
    by (IsUtf8-append to (35 ∷ local_part t) (namespace_utf8 to named)
    (IsUtf8-append (35 ∷ []) (local_part t) (utf8 (35 ∷ []) refl) (behind_utf8 35 small t h))) (is_of_namespace from t)
  where
    by : IsUtf8 (absolute_id to (local_part t)) → (b : Bool) → IsUtf8 (if b then absolute_id to (local_part t) else t)
    by moved true = moved
    by moved false = h

-- what stands under an id
abbrev IsTextEntry : List ℕ → Entry → Type 0
IsTextEntry id (shape_entry s) = IsUtf8 id × IsJson s.properties × AreJsonPairs (fin.entries s.traits)
IsTextEntry id (member_entry m) = IsUtf8 id × IsUtf8 m.target × AreJsonPairs (fin.entries m.traits)

record IsTextGraph (g : GraphMaps) : Type 0 where
  shapes : (id : List ℕ) (e : Entry) → HasEntry g id e → IsTextEntry id e
  metadata : AreJsonPairs (fin.entries g.metadata)

-- such a graph is written as JSON
entry_json : (id : List ℕ) (e : Entry) → IsTextEntry id e → EntryIsJson id e
entry_json id (shape_entry s) h = h
entry_json id (member_entry m) h = let small : 36 < 128 = omega arith in (behind_utf8 36 small id h.0, h.1, h.2)

texts_json : (g : GraphMaps) → IsTextGraph g → IsJson (written_ast g)
texts_json g h = written_json g (record {
  shapes = each_has EntryIsJson (fin.entries g.shapes) (λ id e there. entry_json id e (h.shapes id e (has_get g.shapes id e there)));
  metadata = h.metadata;
})

-- that of model files is one
member_utf8 : (id : List ℕ) → IsMemberId id → IsUtf8 id
member_utf8 id h =
    subst IsUtf8 (sym h.is)
    (IsUtf8-append h.shape (36 ∷ h.name) (id_utf8 h.shape (h.of_shape.0, h.of_shape.1))
    (IsUtf8-append (36 ∷ []) h.name (utf8 (36 ∷ []) refl) (identifier_utf8 h.name h.named)))

sound_texts : (id : List ℕ) (e : Entry) → IsSoundEntry id e → IsTextEntry id e
sound_texts id (shape_entry s) h = (id_utf8 id (h.0.0, h.0.1), h.1.0, merged_traits s.traits h.2)
sound_texts id (member_entry m) h = (member_utf8 id h.0, id_utf8 m.target h.1, merged_traits m.traits h.2)

accepted_texts : (files : List FileGiven) (g : GraphMaps) → AreAccepted files g → IsTextGraph g
accepted_texts files g a = record {
  shapes = λ id e there. sound_texts id e (stands_sound a.said a.formed id e ((a.merged.is_graph.shapes id e).0 there));
  metadata = metadata_json a.said g a.formed a.merged.is_graph;
}

-- and what a change makes of one
entry_texts : (change : IdChange) → ((t : List ℕ) → IsUtf8 t → TextThere (change t)) → (id new : List ℕ) (e : Entry) → IsUtf8 new
    → IsTextEntry id e → IsTextEntry new (entry_after change e)
entry_texts change texts id new (shape_entry s) u h = (u, body_json change texts s.kind s.properties h.1, traits_json change texts s.traits h.2)
entry_texts change texts id new (member_entry m) u h = (u, target_text change texts m.target h.1, traits_json change texts m.traits h.2)

id_of_entry : (id : List ℕ) (e : Entry) → IsTextEntry id e → IsUtf8 id
id_of_entry id (shape_entry s) h = h.0
id_of_entry id (member_entry m) h = h.0

made_texts : (g h : GraphMaps) (Stays : List ℕ → Type 0) (moved : List ℕ → List ℕ) (after : Entry → Entry) → IsTextGraph g
    → ((id : List ℕ) (e : Entry) → IsTextEntry id e → IsTextEntry (moved id) (after e)) → IsMadeOf Stays moved after g h → IsTextGraph h
made_texts g h Stays moved after texts keeps made = record {
  shapes = λ id e there.
      let c = (made.shapes id e).0 there in
      subst (λ k. IsTextEntry k e) (sym c.4)
      (subst (IsTextEntry (moved c.0)) (sym c.5) (keeps c.0 c.1 (texts.shapes c.0 c.1 c.2)));
  metadata = subst (λ (m : NodeMap). AreJsonPairs (fin.entries m)) (sym made.metadata) texts.metadata;
}

kept_utf8 : (out : List ℕ → Bool) (t : List ℕ) → IsUtf8 t → TextThere (unless out t)
kept_utf8 out t h = by (out t)
  where
    by : (b : Bool) → TextThere (if b then None else Some t)
    by true = tt
    by false = h

changed_texts : (g h : GraphMaps) (change : Change) → IsSaid change → IsTextGraph g → Changed g change h → IsTextGraph h
changed_texts g h (include steps) said texts made = made_texts g h _ (λ id. id) (λ e. e) texts (λ id e k. k) made
changed_texts g h (exclude steps) said texts made =
    made_texts g h _ (λ id. id) (entry_after (unless made.out)) texts
    (λ id e k. entry_texts (unless made.out) (kept_utf8 made.out) id id e (id_of_entry id e k) k) made.made
changed_texts g h (rename from to) said texts made =
    made_texts g h _ (renamed_id from to) (entry_after (renames from to)) texts
    (λ id e k. entry_texts (renames from to) (renamed_utf8 from to said) id (renamed_id from to id) e
    (renamed_utf8 from to said id (id_of_entry id e k)) k) made

pub changed_json : (files : List FileGiven) (g : GraphMaps) → AreAccepted files g → (change : Change) → IsSaid change → (h : GraphMaps)
    → Changed g change h → IsJson (written_ast h)
changed_json files g a change said h made = texts_json h (changed_texts g h change said (accepted_texts files g a) made)
