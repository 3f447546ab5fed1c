-- What is written for a merged graph is the text of files: the graph is that of its shapes, whose names and values are as they are
-- written. What these texts say merges to the graph.
use Rattle.std.proofs.Common.{◌≡◌, ◌<◌, ◌≤◌, ◌^◌, inl, inr, ℕ, List, [], ◌∷◌, Some, Ok, refl, sym, ap, subst, ◌∙◌, IsUtf8}
use Rattle.std.specs.FinMap as fin
use Rattle.sm_ids.specs.IdText.{IsIdText}
use Rattle.sm_tree.specs.Levels.{levels}
use Rattle.sm_tree.specs.Limits.{most_levels}
use Rattle.sm_tree.specs.Node.{Node}
use Rattle.sm_model.specs.Formed.{StandsAmong}
use Rattle.sm_model.specs.Given.{AreGiven}
use Rattle.sm_model.specs.Graphs.{Entry, GraphMaps, NodeMap, ShapeEntry, graph_of, member_entry, member_id, shape_entry}
use Rattle.sm_model.specs.GraphView.{maps_of}
use Rattle.sm_model.specs.Said.{Said}
use Rattle.sm_model.proofs.MapFacts.{Each, keys_differ}
use Rattle.sm_merge.specs.Answers.{MergesTo}
use Rattle.sm_merge.specs.Merged.{IsGraphOf}
use Rattle.sm_merge.specs.Stated.{stated_by}
use Rattle.sm_merge.proofs.EntriesFound.{each_has, has_get, map_again}
use Rattle.sm_merge.proofs.GraphSound.{IsNamedNode, IsSoundEntry, metadata_named, stands_sound}
use Rattle.sm_merge.proofs.RegularGraphs.{merged_regular}
use Rattle.sm_idl.specs.Idl.{FileSaid, Idl}
use Rattle.sm_idl.specs.Written.{written_idl}
use Rattle.sm_idl.specs.WrittenFile.{namespace_file}
use Rattle.sm_model.specs.Named.{AreNamed, AreUnderIds, AreUnderTexts, HaveTraitIds, MembersAreUnderIds}
use Rattle.sm_idl.specs.WrittenNames.{AreFew, MembersNestFew, NestFew, ShapesNestFew}
use Rattle.sm_idl.proofs.FileWritten.{written_is_file}
use Rattle.sm_idl.proofs.OneFile.{one_reading}
use Rattle.sm_again.specs.WrittenMerges.{written_files}
use Rattle.sm_again.specs.WrittenTexts.{AllSayIdl, AreShallow, IsShallow, ReadMerges, WrittenTexts, written_texts}
use Rattle.sm_again.proofs.MergedShapes.{IsWholeShape, LooksUp, all_differ, all_given, are_given, as_many, each_there, few_entries, members_of}
use Rattle.sm_again.proofs.MergedShapes.{named_each, nodes_of, shapes_again, shapes_given, whole_shape}
use Rattle.sm_again.proofs.WrittenMerges.{written_merges}

-- names, and values that nest few levels
ids_under : (ps : List (List ℕ × Node)) → Each (IsNamedNode IsIdText) ps → AreUnderIds ps
ids_under [] h = tt
ids_under (p ∷ ps) h = (h.0.0, ids_under ps h.1)

texts_under : (ps : List (List ℕ × Node)) → Each (IsNamedNode IsUtf8) ps → AreUnderTexts ps
texts_under [] h = tt
texts_under (p ∷ ps) h = (h.0.0, texts_under ps h.1)

abbrev IsLow : List ℕ → Node → Type 0
IsLow k n = levels n ≤ most_levels

each_few : (ps : List (List ℕ × Node)) → Each IsLow ps → NestFew ps
each_few [] h = tt
each_few (p ∷ ps) h = (h.0, each_few ps h.1)

map_few : (m : NodeMap) → AreShallow m → NestFew (fin.entries m)
map_few m h = each_few (fin.entries m) (each_has IsLow (fin.entries m) (λ k n there. h k n (has_get m k n there)))

-- a merged graph is that of given shapes, named as they are written
module _ (g : GraphMaps) (sound : (k : List ℕ) (e : Entry) → fin.get g.shapes k ≡ Some e → IsSoundEntry k e) (shallow : IsShallow g) where
  members_named : (id : List ℕ) (names : List (List ℕ)) (look : LooksUp g id names) → MembersAreUnderIds (members_of g id names look)
  members_named id [] look = tt
  members_named id (k ∷ ks) look =
      let here = look k (inl refl) in (
        ids_under (fin.entries here.0.traits) (named_each here.0.traits (sound (member_id id k) (member_entry here.0) here.1).2),
        members_named id ks (λ name later. look name (inr later)),
      )

  members_few : (id : List ℕ) (names : List (List ℕ)) (look : LooksUp g id names) → MembersNestFew (members_of g id names look)
  members_few id [] look = tt
  members_few id (k ∷ ks) look =
      let here = look k (inl refl) in (
        map_few here.0.traits (shallow.traits (member_id id k) (member_entry here.0) here.1),
        members_few id ks (λ name later. look name (inr later)),
      )

  module _ (whole : (id : List ℕ) (s : ShapeEntry) → fin.get g.shapes id ≡ Some (shape_entry s) → IsWholeShape g id s) where
    have_ids : HaveTraitIds (shapes_given g whole)
    have_ids = all_given g whole HaveTraitIds tt (λ id s found rest hs.
        let w = whole id s found in (
          ids_under (fin.entries s.traits) (named_each s.traits (sound id (shape_entry s) found).2),
          members_named id w.names w.each,
          hs,
        )) (fin.entries g.shapes) (each_there g whole)

    nest_few : ShapesNestFew (shapes_given g whole)
    nest_few = all_given g whole ShapesNestFew tt (λ id s found rest hs.
        let w = whole id s found in (
          map_few s.traits (shallow.traits id (shape_entry s) found),
          members_few id w.names w.each,
          hs,
        )) (fin.entries g.shapes) (each_there g whole)

pub written_texts_law : WrittenTexts
written_texts_law files graph namespace formed merged shallow is =
    let g : GraphMaps = maps_of graph in
    let of : IsGraphOf (stated_by files) g = merged.0 in
    let regular = merged_regular files formed g of in
    let sound : (k : List ℕ) (e : Entry) → fin.get g.shapes k ≡ Some e → IsSoundEntry k e =
    λ k e found. stands_sound files formed k e ((of.shapes k e).0 found) in
    let whole : (id : List ℕ) (s : ShapeEntry) → fin.get g.shapes id ≡ Some (shape_entry s) → IsWholeShape g id s =
    whole_shape files formed g of in
    let ms : List (List ℕ × Node) = fin.entries g.metadata in
    let named : Each (IsNamedNode IsUtf8) ms = each_has (IsNamedNode IsUtf8) ms
    (λ k n there. metadata_named files formed k n ((of.metadata k n).0 (has_get g.metadata k n there))) in
    let given : AreGiven (shapes_given g whole) ms = record {
      each = are_given g whole regular sound;
      differ = all_differ g whole regular sound;
      few = subst (λ n. n < 2 ^ 32) (sym (as_many g whole regular sound)) (few_entries graph);
      metadata_is = record { differ = keys_differ g.metadata; nodes = nodes_of IsUtf8 ms named };
    } in
    let names : AreNamed (shapes_given g whole) ms = record { traits = have_ids g sound shallow whole; keys = texts_under ms named } in
    let few : AreFew (shapes_given g whole) ms = record {
      traits = nest_few g sound shallow whole;
      metadata_is = map_few g.metadata shallow.metadata;
    } in
    let same : Path GraphMaps (graph_of (shapes_given g whole) ms) g = λ i. record {
      shapes = sym (shapes_again g whole regular sound) i;
      metadata = map_again g.metadata i;
    } in
    subst (λ m. Idl (namespace_file m namespace) (written_idl m namespace)) same
    (written_is_file (shapes_given g whole) ms namespace given names few is)

-- what the texts say
module _ (g : GraphMaps) where
  abbrev AreTexts : List (List ℕ) → Type 0
  AreTexts namespaces = (namespace : List ℕ) → StandsAmong namespace namespaces
      → Idl (namespace_file g namespace) (written_idl g namespace)

  all_say : (namespaces : List (List ℕ)) → AreTexts namespaces → AllSayIdl (written_texts g namespaces) (written_files g namespaces)
  all_say [] texts = tt
  all_say (n ∷ ns) texts = (
    record { file = namespace_file g n; is_text = texts n (inl refl); version = inl (refl, inr refl); says = refl },
    all_say ns (λ m later. texts m (inr later)),
  )

  only_these : (namespaces : List (List ℕ)) → AreTexts namespaces → (said : List (List Said)) → AllSayIdl (written_texts g namespaces) said
      → written_files g namespaces ≡ said
  only_these [] texts [] h = refl
  only_these [] texts (s ∷ said) h = absurd h
  only_these (n ∷ ns) texts [] h = absurd h
  only_these (n ∷ ns) texts (s ∷ said) h =
      let one : Path FileSaid (namespace_file g n) h.0.file =
      one_reading (written_idl g n) (namespace_file g n) h.0.file (texts n (inl refl)) h.0.is_text in
      let first : (namespace_file g n).said ≡ s = ap (λ (f : FileSaid). f.said) one ∙ h.0.says in
      let rest = only_these ns (λ m later. texts m (inr later)) said h.1 in
      λ i. first i ∷ rest i

pub read_merges : ReadMerges
read_merges files graph namespaces formed merged shallow enums all room are =
    let texts : (namespace : List ℕ) → StandsAmong namespace namespaces
    → Idl (namespace_file (maps_of graph) namespace) (written_idl (maps_of graph) namespace) =
    λ namespace among. written_texts_law files graph namespace formed merged shallow (are namespace among) in
    record {
      said = all_say (maps_of graph) namespaces texts;
      merges = λ said say. subst (λ ss. MergesTo ss (Ok graph)) (only_these (maps_of graph) namespaces texts said say)
          (written_merges files graph namespaces formed merged enums all room);
    }
