-- The whole text of a namespace is that of its file.
use Rattle.std.proofs.Common.{◌≡◌, ℕ, inl, Bool, true, false, List, [], ◌∷◌, ◌++◌, Option, Some, refl, sym, ap}
use Rattle.std.proofs.Common.{subst, ◌∙◌, append-nil, arith, codes}
use Rattle.std.specs.Prelude.{if◌then◌else◌}
use Rattle.std.specs.FinMap as fin
use Rattle.std.specs.List.{flat_map}
use Rattle.std.specs.Str.{bytes_eq}
use Rattle.sm_ids.specs.Identifier.{IsNamespace}
use Rattle.sm_ids.proofs.Cutting.{both}
use Rattle.sm_tree.specs.Limits.{most_levels}
use Rattle.sm_tree.specs.Node.{Members, text, object}
use Rattle.sm_tree.specs.Parts.{pairs_in}
use Rattle.sm_tree.proofs.Equal.{bytes_equal_is}
use Rattle.sm_model.specs.Given.{AreNodes}
use Rattle.sm_model.specs.Graphs.{ShapeMap, ShapeEntry, Entry, GraphMaps, shape_entry, member_entry, graph_of}
use Rattle.sm_model.specs.Kinds.{kind_name}
use Rattle.sm_model.specs.Properties.{property_forms}
use Rattle.sm_model.specs.Raw.{Raw, raw_leaf, raw_of}
use Rattle.sm_model.specs.Said.{MemberSaid, ShapeSaid, Said, metadata_said, shape_said}
use Rattle.sm_model.specs.declared.kind.Kind.{Kind}
use Rattle.sm_model.proofs.MapFacts.{Each, each_entry, keys_differ}
use Rattle.sm_idl.specs.Productions.{Tokens, maybe, each, each_behind, many}
use Rattle.sm_idl.specs.Words.{IsWord, IsKey, IsNew, word_that, key}
use Rattle.sm_idl.specs.Nodes.{Home, as_object, node}
use Rattle.sm_idl.specs.Bodies.{Suffixes, suffixes}
use Rattle.sm_idl.specs.Shapes.{item}
use Rattle.sm_idl.specs.Idl.{control, metadata, used, SectionSaid, items, section, FileSaid, file, FileSpelled, Idl, metadata_statements}
use Rattle.sm_idl.specs.Written.{NodePairs, metadata_lines, shape_lines, written_entry, written_shape, is_written}
use Rattle.sm_ids.specs.TextParts.{local_part, namespace_part}
use Rattle.sm_idl.specs.Written.{body_in_form, trait_lines, written_idl}
use Rattle.sm_idl.specs.WrittenFile.{home_alone, traits_said, fields_said, body_said, members_said, entry_said, entry_statements}
use Rattle.sm_idl.specs.WrittenFile.{shapes_said}
use Rattle.sm_idl.specs.WrittenFile.{metadata_of, version_control, namespace_file}
use Rattle.sm_idl.specs.WrittenForms.{written_form}
use Rattle.sm_idl.specs.WrittenLaws.{WrittenIsFile}
use Rattle.sm_idl.specs.WrittenNames.{NestFew}
use Rattle.sm_idl.specs.declared.write.form.WrittenForm.{WrittenForm}
use Rattle.sm_idl.specs.declared.write.form.WrittenForm.TheVariants.{Alone, Names, Targets, Fields}
use Rattle.sm_idl.proofs.TextTokens.{are_there, lexemes, Goes, Spells, goes_end, goes_white, goes_gives, goes_both, goes_there, goes_none}
use Rattle.sm_idl.proofs.TextTokens.{goes_next, goes_joined, goes_flat, goes_value, flat_four}
use Rattle.sm_idl.proofs.WrittenTokens.{goes_marked, goes_word, goes_worded, word_text, namespace_word}
use Rattle.sm_idl.proofs.NodesWritten.{text_leaf}
use Rattle.sm_idl.proofs.TraitsWritten.{IsMetadata, metadata_pairs, metadata_go}
use Rattle.sm_idl.proofs.MembersWritten.{FoundMember, found_said}
use Rattle.sm_idl.proofs.ShapesWritten.{body_text, found_text, shape_said_by, shape_goes}
use Rattle.sm_ids.proofs.TextCuts.{id_cut}
use Rattle.sm_idl.proofs.GraphWritten.{IsSoundShape, EntryIsSound, FoundAll, graph_sound}

-- a shape of a graph is written and said by what is found of it
in_form : (form : WrittenForm) (shapes : ShapeMap) (kind : Kind) (ids : List (List ℕ)) (found : List FoundMember) (ms : Members)
    → FoundAll shapes ids found → body_in_form form shapes kind ids (object ms) ≡ body_text form kind found ms
in_form Alone shapes kind ids found ms all = refl
in_form Names shapes kind ids found ms all = ap (λ (u : List ℕ). codes " {\n" ++ u ++ codes "}\n") all.alone
in_form Targets shapes kind ids found ms all = ap (λ (u : List ℕ). codes " {\n" ++ u ++ codes "}\n") all.targeted
in_form Fields shapes kind ids found ms all = refl

module _ (shapes : ShapeMap) (id : List ℕ) (s : ShapeEntry) (h : IsSoundShape shapes id s) where
  shape_written : written_shape shapes id s ≡ found_text s.kind (local_part id) h.found h.pairs (fin.entries s.traits)
  shape_written =
      ap (λ b. trait_lines [] (fin.entries s.traits)
      ++ (kind_name s.kind ++ codes " " ++ local_part id ++ body_in_form (written_form s.kind) shapes s.kind s.members b)) h.is_object
      ∙ ap (λ (u : List ℕ). trait_lines [] (fin.entries s.traits) ++ (kind_name s.kind ++ codes " " ++ local_part id ++ u))
      (in_form (written_form s.kind) shapes s.kind s.members h.found h.pairs h.all)

  abbrev said_of : Home → List ℕ → List MemberSaid → Raw → ShapeSaid
  said_of home i members properties = record {
    id = i;
    kind = s.kind;
    members = members;
    mixins = [];
    properties = properties;
    traits = traits_said home (fin.entries s.traits);
  }

  abbrev found_members : Home → List MemberSaid
  found_members home = found_said home (written_form s.kind) h.found

  abbrev fields_of : Home → Raw
  fields_of home = as_object (fields_said home (property_forms s.kind) h.pairs)

  said_so : (home : Home) → home.namespace ≡ namespace_part id
      → shape_said_by home s.kind (local_part id) h.found h.pairs (fin.entries s.traits) ≡ entry_said home shapes id s
  said_so home same =
      let cut = id_cut id h.is_shape in
      ap (λ i. said_of home i (found_members home) (fields_of home)) (ap (λ n. n ++ 35 ∷ local_part id) same ∙ sym cut.parts)
      ∙ ap (λ ms. said_of home id ms (fields_of home)) (sym (h.all.said home (written_form s.kind)))
      ∙ ap (λ n. said_of home id (members_said home (written_form s.kind) shapes s.members)
      (as_object (body_said home (property_forms s.kind) (pairs_in n)))) (sym h.is_object)

-- the shapes of the namespace
module _ (home : Home) (endings : Suffixes) (shapes : ShapeMap) where
  abbrev group_if : Bool → List ℕ → ShapeEntry → List (List Said)
  group_if true id s = (shape_said (entry_said home shapes id s) ∷ []) ∷ []
  group_if false id s = []

  abbrev group : List ℕ → Entry → List (List Said)
  group id (shape_entry s) = group_if (is_written home.namespace id) id s
  group id (member_entry m) = []

  abbrev groups : List (List ℕ × Entry) → List (List Said)
  groups [] = []
  groups (e ∷ es) = group e.0 e.1 ++ groups es

  abbrev all_said : List (List Said) → List Said
  all_said gs = flat_map (λ ss. ss) gs

  one_flat : (b : Bool) (id : List ℕ) (s : ShapeEntry) (gs : List (List Said)) (said : List Said) → all_said gs ≡ said
      → all_said (group_if b id s ++ gs) ≡ (if b then shape_said (entry_said home shapes id s) ∷ [] else []) ++ said
  one_flat true id s gs said e = ap (λ ss. shape_said (entry_said home shapes id s) ∷ ss) e
  one_flat false id s gs said e = e

  entry_flat : (id : List ℕ) (x : Entry) (gs : List (List Said)) (said : List Said) → all_said gs ≡ said
      → all_said (group id x ++ gs) ≡ entry_statements home shapes id x ++ said
  entry_flat id (shape_entry s) gs said e = one_flat (is_written home.namespace id) id s gs said e
  entry_flat id (member_entry m) gs said e = e

  flat_said : (es : List (List ℕ × Entry)) → all_said (groups es) ≡ shapes_said home shapes es
  flat_said [] = refl
  flat_said (e ∷ es) = entry_flat e.0 e.1 (groups es) (shapes_said home shapes es) (flat_said es)

  in_namespace : (id : List ℕ) → is_written home.namespace id ≡ true → home.namespace ≡ namespace_part id
  in_namespace id e =
      sym ((bytes_equal_is (namespace_part id) home.namespace).0
      (both (bytes_eq (namespace_part id) home.namespace) _ e).0)

  one_goes : (b : Bool) (id : List ℕ) (s : ShapeEntry) → is_written home.namespace id ≡ b → IsSoundShape shapes id s
      → (gs : List (List Said)) (before : List (List Said)) (t : List ℕ) (Q : Tokens → Type 0)
      → ((be : List (List Said)) → Goes (Spells (each_behind (λ _. item home endings) be) gs Q) t)
      → Goes (Spells (each_behind (λ _. item home endings) before) (group_if b id s ++ gs) Q)
      ((if b then 10 ∷ written_shape shapes id s else []) ++ t)
  one_goes false id s e h gs before t Q next = next before
  one_goes true id s e h gs before t Q next =
      let said : List Said = shape_said (entry_said home shapes id s) ∷ [] in
      let cut = id_cut id h.is_shape in
      goes_white 10 refl
      (goes_next (λ _. item home endings) before said gs
      (goes_value (item home endings) (ap (λ x. shape_said x ∷ []) (said_so shapes id s h home (in_namespace id e)))
      (goes_flat (ap (λ (u : List ℕ). u ++ t) (shape_written shapes id s h))
      (shape_goes home endings s.kind (local_part id) h.found h.pairs (fin.entries s.traits) t cut.name h.body h.traits
      (next (before ++ said ∷ []))))))

  entry_goes : (id : List ℕ) (x : Entry) → EntryIsSound shapes id x → (gs before : List (List Said)) (t : List ℕ) (Q : Tokens → Type 0)
      → ((be : List (List Said)) → Goes (Spells (each_behind (λ _. item home endings) be) gs Q) t)
      → Goes (Spells (each_behind (λ _. item home endings) before) (group id x ++ gs) Q) (written_entry shapes home.namespace id x ++ t)
  entry_goes id (shape_entry s) h gs before t Q next = one_goes (is_written home.namespace id) id s refl h gs before t Q next
  entry_goes id (member_entry m) h gs before t Q next = next before

  shapes_go : (es : List (List ℕ × Entry)) → Each (EntryIsSound shapes) es → (before : List (List Said)) (t : List ℕ)
      (Q : Tokens → Type 0) → Goes Q t
      → Goes (Spells (each_behind (λ _. item home endings) before) (groups es) Q) (shape_lines shapes home.namespace es ++ t)
  shapes_go [] all before t Q h = goes_none (λ _. item home endings) before h
  shapes_go (e ∷ es) all before t Q h =
      goes_joined (written_entry shapes home.namespace e.0 e.1) (shape_lines shapes home.namespace es) t
      (entry_goes e.0 e.1 all.0 (groups es) before (shape_lines shapes home.namespace es ++ t) Q
      (λ be. shapes_go es all.1 be t Q h))

-- the version
version_goes : (home : Home) (s : List ℕ) {Q : Tokens → Type 0} → Goes Q s
    → Goes (Spells (each (control (Some home))) version_control Q) (codes "$version: \"2.0\"\n" ++ s)
version_goes home s h =
    let value : Raw = raw_leaf (text (codes "2.0")) in
    goes_next (control (Some home)) [] (codes "version", value) []
    (goes_marked 36 _ refl refl
    (goes_both (key []) _ (codes "version")
    (goes_word (λ t k. IsKey k t × IsNew k []) (codes "version") (codes "version")
    (word_text (codes "version") 118 (codes "ersion") refl refl refl) refl (λ t w. (inl w, λ among. among))
    (goes_marked 58 _ refl refl
    (goes_white 32 refl
    (goes_both (node (Some home) most_levels) _ value
    (text_leaf home most_levels (codes "2.0") refl
    (goes_gives (codes "version", value) (goes_white 10 refl (goes_none (control (Some home)) ((codes "version", value) ∷ []) h))))))))))

metadata_same : (ms : NodePairs) → metadata_statements (metadata_pairs ms) ≡ metadata_of ms
metadata_same [] = refl
metadata_same (m ∷ ms) = ap (λ ss. metadata_said m.0 (raw_of m.1) ∷ ss) (metadata_same ms)

-- the metadata of a map
each_metadata : (ms : NodePairs) → AreNodes ms → NestFew ms → Each IsMetadata ms
each_metadata [] nodes few = tt
each_metadata (m ∷ ms) nodes few = ((nodes.0, few.0), each_metadata ms nodes.1 few.1)

abbrev section_with : Home → List Said → SectionSaid
section_with home said = record { home = home; said = said }

abbrev file_with : Option Home → List Said → FileSaid
file_with home said = record { home = home; controls = version_control; said = said }

section_goes : (namespace : List ℕ) (shapes : ShapeMap) → IsNamespace namespace
    → Each (EntryIsSound shapes) (fin.entries shapes) → {Q : Tokens → Type 0} → Goes Q []
    → Goes (Spells (section (suffixes version_control))
    (record { home = home_alone namespace; said = shapes_said (home_alone namespace) shapes (fin.entries shapes) }) Q)
    (codes "namespace " ++ (namespace ++ (10 ∷ shape_lines shapes namespace (fin.entries shapes))))
section_goes namespace shapes is sound h =
    let home : Home = home_alone namespace in
    let endings : Suffixes = suffixes version_control in
    let es = fin.entries shapes in
    let gs : List (List Said) = groups home endings shapes es in
    let lines : List ℕ = shape_lines shapes namespace es in
    goes_worded (codes "namespace") _ (word_text (codes "namespace") 110 (codes "amespace") refl refl refl) refl
    (goes_white 32 refl
    (goes_both (word_that IsNamespace) _ namespace
    (goes_word (λ t w. IsWord w t × IsNamespace w) namespace namespace (namespace_word namespace is) refl (λ t w. (w, is))
    (goes_both (many used) _ []
    (goes_none (λ _. used) []
    (goes_white 10 refl
    (goes_value (items home endings) (ap (λ (ss : List Said). section_with home ss) (flat_said home endings shapes es))
    (goes_both (many (item home endings)) _ gs
    (goes_flat (sym (append-nil lines))
    (shapes_go home endings shapes es sound [] [] _
    (goes_gives (section_with home (all_said home endings shapes gs)) h)))))))))))

file_goes : (g : GraphMaps) (namespace : List ℕ) → IsNamespace namespace → Each IsMetadata (fin.entries g.metadata)
    → Each (EntryIsSound g.shapes) (fin.entries g.shapes)
    → Goes (Spells (file (Some (home_alone namespace))) (namespace_file g namespace) (λ r. r ≡ [])) (written_idl g namespace)
file_goes g namespace is values sound =
    let home : Home = home_alone namespace in
    let ms : NodePairs = fin.entries g.metadata in
    let es = fin.entries g.shapes in
    let lines : List ℕ = shape_lines g.shapes namespace es in
    let said : List Said = shapes_said home g.shapes es in
    let s : SectionSaid = section_with home said in
    goes_flat (flat_four (codes "$version: \"2.0\"\n") (metadata_lines ms) (codes "namespace ") namespace (10 ∷ []) lines)
    (goes_value (file (Some home)) (ap (λ (ss : List Said). file_with (Some home) (ss ++ said)) (metadata_same ms))
    (goes_both (each (control (Some home))) _ version_control
    (version_goes home (metadata_lines ms ++ (codes "namespace " ++ (namespace ++ (10 ∷ lines))))
    (goes_both (each (metadata (Some home))) _ (metadata_pairs ms)
    (metadata_go home ms [] (codes "namespace " ++ (namespace ++ (10 ∷ lines))) values (keys_differ g.metadata) (λ k has among. among)
    (goes_both (maybe (section (suffixes version_control))) _ (Some s)
    (goes_there (section (suffixes version_control))
    (section_goes namespace g.shapes is sound
    (goes_gives (file_with (Some home) (metadata_statements (metadata_pairs ms) ++ said)) goes_end)))))))))

-- a text whose tokens spell a file is that of the file
text_is : (f : FileSaid) (bytes : List ℕ) → Goes (Spells (file f.home) f (λ r. r ≡ [])) bytes → Idl f bytes
text_is f bytes h =
    let it = h.tokens [] tt 0 in
    let there = are_there bytes 0 bytes it.0 (omega arith) refl it.1 in (
      lexemes it.0,
      (there.to, there.leads, there.ends),
      subst (FileSpelled f) (sym there.same)
          (subst (λ r. (file f.home).whole f it.0 r) it.3.behind it.3.whole),
    )

pub written_is_file : WrittenIsFile
written_is_file shapes metadata namespace h named few is =
    let g : GraphMaps = graph_of shapes metadata in
    text_is (namespace_file g namespace) (written_idl g namespace)
    (file_goes g namespace is
    (each_entry IsMetadata metadata (each_metadata metadata h.metadata_is.nodes few.metadata_is))
    (graph_sound shapes metadata h named few))
