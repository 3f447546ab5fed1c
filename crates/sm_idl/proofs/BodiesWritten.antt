-- The bodies of operations, services and resources are read as they are said.
use Rattle.std.proofs.Common.{◌≡◌, ℕ, inl, false, List, [], ◌∷◌, ◌++◌, drop, map, Option, Some, None, refl, sym, ap, ap₂, subst}
use Rattle.std.proofs.Common.{append_assoc, codes}
use Rattle.std.specs.List.{flat_map}
use Rattle.sm_ids.specs.IdText.{IsIdText}
use Rattle.sm_tree.specs.Node.{Node, Nodes, Members, list, no_nodes, node}
use Rattle.sm_tree.specs.Parts.{entries_in, tree_named}
use Rattle.sm_tree.specs.Same.{AreDistinct}
use Rattle.sm_model.specs.Formed.{DifferInNames}
use Rattle.sm_model.specs.Given.{IsIdNode, AreIdNodes, AreNodeFields}
use Rattle.sm_model.specs.Properties.{TypeFields, property_forms, operation_fields, service_fields, resource_fields}
use Rattle.sm_model.specs.Raw.{Raw, raw_id, raw_list, raws_of}
use Rattle.sm_model.specs.Said.{Said}
use Rattle.sm_model.specs.declared.kind.Kind.{Kind}
use Rattle.sm_model.specs.declared.kind.Kind.TheVariants.{Service, Resource}
use Rattle.sm_model.specs.declared.property.PropertyForm.TheVariants.{Reference, References}
use Rattle.sm_idl.specs.Productions.{Tokens, Production, each, each_behind, many}
use Rattle.sm_idl.specs.Words.{IsWord, IsNew, IsWordId, id as id_word_of}
use Rattle.sm_idl.specs.Nodes.{Home, Pair, written, as_object}
use Rattle.sm_idl.specs.Bodies.{Suffixes, PartSaid, part_names, part_word, part_target, part_shape, part_errors, part, property}
use Rattle.sm_idl.specs.Bodies.{braced_pairs}
use Rattle.sm_idl.specs.Shapes.{BodySaid, part_pairs, operation_body, pairs_body}
use Rattle.sm_idl.specs.Written.{indent, written_id, more_ids, written_ids, written_value, value_there, field_lines, braced}
use Rattle.sm_idl.specs.WrittenFile.{id_said, ids_said, list_said, value_said, value_there_said, field_said, fields_said}
use Rattle.sm_idl.proofs.TextTokens.{Goes, Spells, goes_white, goes_whites, goes_gives, goes_both, goes_left, goes_right, goes_none}
use Rattle.sm_idl.proofs.TextTokens.{goes_next}
use Rattle.sm_idl.proofs.TextTokens.{goes_joined, goes_flat, goes_value, flat_four}
use Rattle.sm_idl.proofs.WrittenTokens.{Closed, IsWordText, goes_marked, goes_word, identifier_word, id_word}
use Rattle.sm_idl.proofs.MembersWritten.{indent_white}
use Rattle.sm_idl.proofs.ValuesWritten.{ids_closed}
use Rattle.sm_idl.proofs.FieldsWritten.{FieldCase, ReadsField, put_there, all_put, AllRead, fields_row, differ_by_test, IsFieldNode}
use Rattle.sm_idl.proofs.FieldsWritten.{field_found}
use Rattle.sm_idl.proofs.FieldsWritten.{as_pair, pair_name, AreKnown, properties_read}

-- what stands in braces
pub braced_text : (lines s : List ℕ) → braced lines ++ s ≡ 32 ∷ (123 ∷ (10 ∷ (lines ++ (125 ∷ (10 ∷ s)))))
braced_text lines s = ap (λ (u : List ℕ). 32 ∷ (123 ∷ (10 ∷ u))) (append_assoc lines (125 ∷ (10 ∷ [])) s)

abbrev pub body_with : Raw → BodySaid
body_with properties = record { members = []; mixins = []; properties = properties; defined = [] }

-- services and resources
same_there : (p : List Pair → Production Pair) (name : List ℕ) (o : Option Raw) (xs ys : List Pair) → xs ≡ ys
    → put_there p as_pair pair_name name o ++ xs ≡ field_said name o ++ ys
same_there p name None xs ys e = e
same_there p name (Some r) xs ys e = ap (λ ps. (name, r) ∷ ps) e

same_pairs : (home : Home) (p : List Pair → Production Pair) (ms : Members) (fs : TypeFields)
    → all_put p as_pair pair_name home fs ms ≡ fields_said home fs ms
same_pairs home p ms [] = refl
same_pairs home p ms (f ∷ fs) =
    same_there p f.0 (value_there_said home f.1 (tree_named f.0 ms)) (all_put p as_pair pair_name home fs ms) (fields_said home fs ms)
    (same_pairs home p ms fs)

pub pairs_goes : (home : Home) (kind : Kind) (ms : Members) (s : List ℕ) {Q : Tokens → Type 0}
    → AreNodeFields (property_forms kind) ms → AreDistinct ms → DifferInNames (map (λ f. f.0) (property_forms kind))
    → AreKnown home (property_forms kind) (property_forms kind) → Goes Q s
    → Goes (Spells (pairs_body home kind) (body_with (as_object (fields_said home (property_forms kind) ms))) Q)
    (braced (field_lines (property_forms kind) ms) ++ s)
pairs_goes home kind ms s are apart differ known h =
    let fs : TypeFields = property_forms kind in
    let p : List Pair → Production Pair = property home fs in
    let ps : List Pair = all_put p as_pair pair_name home fs ms in
    goes_value (pairs_body home kind) (ap (λ qs. body_with (as_object qs)) (same_pairs home p ms fs))
    (goes_flat (braced_text (field_lines fs ms) s)
    (goes_white 32 refl
    (goes_both (braced_pairs p) _ (as_object ps)
    (goes_marked 123 _ refl refl
    (goes_white 10 refl
    (goes_both (each p) _ ps
    (fields_row p as_pair pair_name (λ k r. refl) home ms fs [] (125 ∷ (10 ∷ s)) _ (properties_read home fs ms are apart fs known) differ
    (λ k has among. among)
    (goes_marked 125 _ refl refl (goes_gives (as_object ps) (goes_gives (body_with (as_object ps)) (goes_white 10 refl h)))))))))))

pub service_goes : (home : Home) (ms : Members) (s : List ℕ) {Q : Tokens → Type 0} → AreNodeFields service_fields ms → AreDistinct ms
    → Goes Q s
    → Goes (Spells (pairs_body home Service) (body_with (as_object (fields_said home service_fields ms))) Q)
    (braced (field_lines service_fields ms) ++ s)
service_goes home ms s are apart h =
    pairs_goes home Service ms s are apart (differ_by_test (map (λ f. f.0) service_fields) refl)
    (refl, refl, (refl, refl, (refl, refl, (refl, refl, (refl, refl, tt))))) h

pub resource_goes : (home : Home) (ms : Members) (s : List ℕ) {Q : Tokens → Type 0} → AreNodeFields resource_fields ms → AreDistinct ms
    → Goes Q s
    → Goes (Spells (pairs_body home Resource) (body_with (as_object (fields_said home resource_fields ms))) Q)
    (braced (field_lines resource_fields ms) ++ s)
resource_goes home ms s are apart h =
    let all : TypeFields = resource_fields in
    let bound : AreKnown home all (drop 8 all) = (refl, refl, (refl, refl, (refl, refl, tt))) in
    let last : AreKnown home all (drop 5 all) =
    (refl, refl, (refl, refl, (refl, refl, bound))) in
    let cycle : AreKnown home all (drop 2 all) = (refl, refl, (refl, refl, (refl, refl, last))) in
    pairs_goes home Resource ms s are apart (differ_by_test (map (λ f. f.0) all) refl) (refl, refl, (refl, refl, cycle)) h

-- parts of operations
abbrev as_part : List ℕ → Raw → PartSaid
as_part k r = record { name = k; value = r; defined = [] }

abbrev part_name : PartSaid → List ℕ
part_name p = p.name

-- the word of a part, and what stands behind its colon
part_line : (name value s : List ℕ)
    → indent ++ name ++ codes ": " ++ value ++ codes "\n" ++ s ≡ indent ++ (name ++ (58 ∷ (32 ∷ (value ++ (10 ∷ s)))))
part_line name value s = flat_four indent name (codes ": ") value (codes "\n") s

target_goes : (home : Home) (operation : List ℕ) (suffix : Option (List ℕ)) (name : List ℕ) (before : List PartSaid) (t s : List ℕ)
    {Q : Tokens → Type 0} → IsWordText name → IsIdText t → IsNew name (part_names before) → Goes Q s
    → Goes (Spells (part_shape home operation suffix name before) (as_part name (raw_id (written home t false))) Q)
    (name ++ (58 ∷ (32 ∷ (t ++ (10 ∷ s)))))
target_goes home operation suffix name before t s word is new h =
    goes_both (part_word name before) _ tt
    (goes_word (λ u _. IsWord name u × IsNew name (part_names before)) tt name word refl (λ u w. (w, new))
    (goes_left (part_target home name) _
    (goes_marked 58 _ refl refl
    (goes_white 32 refl
    (goes_both id_word_of _ t
    (goes_word (λ u w. IsWord w u × IsWordId w) t t (id_word t is) refl (λ u w. (w, inl is))
    (goes_gives (as_part name (raw_id (written home t false))) (goes_white 10 refl h))))))))

module _ (home : Home) (endings : Suffixes) (operation : List ℕ) where
  abbrev parts : List PartSaid → Production PartSaid
  parts before = part home endings operation before

  input_node : (n : Node) → IsIdNode n
      → ReadsField parts as_part part_name (codes "input") (written_value Reference n) (value_said home Reference n)
  input_node n (t, e, is) = λ before s Q new h.
      subst (λ m. FieldCase parts as_part part_name (codes "input") before (written_value Reference m) (value_said home Reference m) s Q)
      (sym e)
      (goes_flat (part_line (codes "input") t s)
      (goes_whites indent indent_white
      (goes_left (part_shape home operation endings.input (codes "input") before) _
      (target_goes home operation endings.input (codes "input") before t s (identifier_word (codes "input") refl) is new h))))

  output_node : (n : Node) → IsIdNode n
      → ReadsField parts as_part part_name (codes "output") (written_value Reference n) (value_said home Reference n)
  output_node n (t, e, is) = λ before s Q new h.
      subst (λ m. FieldCase parts as_part part_name (codes "output") before (written_value Reference m) (value_said home Reference m) s Q)
      (sym e)
      (goes_flat (part_line (codes "output") t s)
      (goes_whites indent indent_white
      (goes_right (part_shape home operation endings.input (codes "input") before) _
      (goes_left (part_shape home operation endings.output (codes "output") before) _
      (target_goes home operation endings.output (codes "output") before t s (identifier_word (codes "output") refl) is new h)))))

  -- errors
  abbrev id_texts : Nodes → List (List ℕ)
  id_texts no_nodes = []
  id_texts (node n ns) = written_id n ∷ id_texts ns

  texts_said : (ns : Nodes) → map (λ w. raw_id (written home w false)) (id_texts ns) ≡ ids_said home ns
  texts_said no_nodes = refl
  texts_said (node n ns) = ap (λ rs. id_said home n ∷ rs) (texts_said ns)

  one_id : (n : Node) (s : List ℕ) {Q : Tokens → Type 0} → IsIdNode n → Closed s → Goes Q s
      → Goes (Spells id_word_of (written_id n) Q) (written_id n ++ s)
  one_id n s {Q = Q} (t, e, is) closed h =
      subst (λ m. Goes (Spells id_word_of (written_id m) Q) (written_id m ++ s)) (sym e)
      (goes_word (λ u w. IsWord w u × IsWordId w) t t (id_word t is) closed (λ u w. (w, inl is)) h)

  more_go : (ns : Nodes) (before : List (List ℕ)) (s : List ℕ) {Q : Tokens → Type 0} → AreIdNodes ns → Goes Q (93 ∷ s)
      → Goes (Spells (each_behind (λ _. id_word_of) before) (id_texts ns) Q) (more_ids ns ++ s)
  more_go no_nodes before s are h = goes_none (λ _. id_word_of) before h
  more_go (node n ns) before s are h =
      goes_white 44 refl
      (goes_white 32 refl
      (goes_joined (written_id n) (more_ids ns) s
      (goes_next (λ _. id_word_of) before (written_id n) (id_texts ns)
      (one_id n (more_ids ns ++ s) are.0 (ids_closed ns s)
      (more_go ns (before ++ written_id n ∷ []) s are.1 h)))))

  abbrev errors_said : List Raw → PartSaid
  errors_said rs = as_part (codes "errors") (raw_list (raws_of rs))

  errors_goes : (n : Node) (ns : Nodes) (before : List PartSaid) (s : List ℕ) {Q : Tokens → Type 0} → AreIdNodes (node n ns)
      → IsNew (codes "errors") (part_names before) → Goes Q s
      → Goes (Spells (part_errors home before) (errors_said (ids_said home (node n ns))) Q)
      (codes "errors" ++ (58 ∷ (32 ∷ (91 ∷ ((written_id n ++ more_ids ns) ++ (10 ∷ s))))))
  errors_goes n ns before s are new h =
      let ws : List (List ℕ) = id_texts (node n ns) in
      goes_value (part_errors home before) (ap errors_said (texts_said (node n ns)))
      (goes_both (part_word (codes "errors") before) _ tt
      (goes_word (λ u _. IsWord (codes "errors") u × IsNew (codes "errors") (part_names before)) tt (codes "errors")
      (identifier_word (codes "errors") refl) refl (λ u w. (w, new))
      (goes_marked 58 _ refl refl
      (goes_white 32 refl
      (goes_marked 91 _ refl refl
      (goes_both (many id_word_of) _ ws
      (goes_joined (written_id n) (more_ids ns) (10 ∷ s)
      (goes_next (λ _. id_word_of) [] (written_id n) (id_texts ns)
      (one_id n (more_ids ns ++ (10 ∷ s)) are.0 (ids_closed ns (10 ∷ s))
      (more_go ns (written_id n ∷ []) (10 ∷ s) are.1
      (goes_marked 93 _ refl refl
      (goes_gives (errors_said (map (λ w. raw_id (written home w false)) ws)) (goes_white 10 refl h)))))))))))))

  errors_case : (ns : Nodes) → AreIdNodes ns → (before : List PartSaid) (s : List ℕ) (Q : Tokens → Type 0)
      → IsNew (codes "errors") (part_names before) → Goes Q s
      → FieldCase parts as_part part_name (codes "errors") before (written_ids (Some ns)) (list_said home (Some ns)) s Q
  errors_case no_nodes are before s Q new h = tt
  errors_case (node n ns) are before s Q new h =
      goes_flat (part_line (codes "errors") (91 ∷ (written_id n ++ more_ids ns)) s)
      (goes_whites indent indent_white
      (goes_right (part_shape home operation endings.input (codes "input") before) _
      (goes_right (part_shape home operation endings.output (codes "output") before) (part_errors home before)
      (errors_goes n ns before s are new h))))

  errors_node : (n : Node) → (ns : Nodes) × (n ≡ list ns) × AreIdNodes ns
      → ReadsField parts as_part part_name (codes "errors") (written_value References n) (value_said home References n)
  errors_node n (ns, e, are) = λ before s Q new h.
      subst
      (λ m. FieldCase parts as_part part_name (codes "errors") before (written_ids (entries_in m)) (list_said home (entries_in m)) s Q)
      (sym e) (errors_case ns are before s Q new h)

  -- each may be missing
  input_reads : (o : Option Node) → ((n : Node) → o ≡ Some n → IsFieldNode Reference n)
      → ReadsField parts as_part part_name (codes "input") (value_there Reference o) (value_there_said home Reference o)
  input_reads None fits = λ before s Q new h. tt
  input_reads (Some n) fits = input_node n (fits n refl).0

  output_reads : (o : Option Node) → ((n : Node) → o ≡ Some n → IsFieldNode Reference n)
      → ReadsField parts as_part part_name (codes "output") (value_there Reference o) (value_there_said home Reference o)
  output_reads None fits = λ before s Q new h. tt
  output_reads (Some n) fits = output_node n (fits n refl).0

  errors_reads : (o : Option Node) → ((n : Node) → o ≡ Some n → IsFieldNode References n)
      → ReadsField parts as_part part_name (codes "errors") (value_there References o) (value_there_said home References o)
  errors_reads None fits = λ before s Q new h. tt
  errors_reads (Some n) fits = errors_node n (fits n refl).0

  parts_read : (ms : Members) → AreNodeFields operation_fields ms → AreDistinct ms
      → AllRead parts as_part part_name home ms operation_fields
  parts_read ms are apart = (
    input_reads (tree_named (codes "input") ms) (field_found operation_fields ms are apart (codes "input") Reference refl),
    (
      output_reads (tree_named (codes "output") ms) (field_found operation_fields ms are apart (codes "output") Reference refl),
      (
        errors_reads (tree_named (codes "errors") ms) (field_found operation_fields ms are apart (codes "errors") References refl),
        tt,
      ),
    ),
  )

  -- what they say together
  pairs_there : (name : List ℕ) (o : Option Raw) (xs : List PartSaid) (ys : List Pair) → part_pairs xs ≡ ys
      → part_pairs (put_there parts as_part part_name name o ++ xs) ≡ field_said name o ++ ys
  pairs_there name None xs ys e = e
  pairs_there name (Some r) xs ys e = ap (λ ps. (name, r) ∷ ps) e

  all_pairs : (ms : Members) (fs : TypeFields) → part_pairs (all_put parts as_part part_name home fs ms) ≡ fields_said home fs ms
  all_pairs ms [] = refl
  all_pairs ms (f ∷ fs) =
      pairs_there f.0 (value_there_said home f.1 (tree_named f.0 ms)) (all_put parts as_part part_name home fs ms) (fields_said home fs ms)
      (all_pairs ms fs)

  abbrev defined_by : List PartSaid → List Said
  defined_by ps = flat_map (λ p. p.defined) ps

  none_there : (name : List ℕ) (o : Option Raw) (xs : List PartSaid) → defined_by xs ≡ []
      → defined_by (put_there parts as_part part_name name o ++ xs) ≡ []
  none_there name None xs e = e
  none_there name (Some r) xs e = e

  none_defined : (ms : Members) (fs : TypeFields) → defined_by (all_put parts as_part part_name home fs ms) ≡ []
  none_defined ms [] = refl
  none_defined ms (f ∷ fs) =
      none_there f.0 (value_there_said home f.1 (tree_named f.0 ms)) (all_put parts as_part part_name home fs ms) (none_defined ms fs)

  abbrev body_of : List Pair → List Said → BodySaid
  body_of ps defined = record { members = []; mixins = []; properties = as_object ps; defined = defined }

  pub operation_goes : (ms : Members) (s : List ℕ) {Q : Tokens → Type 0} → AreNodeFields operation_fields ms → AreDistinct ms → Goes Q s
      → Goes (Spells (operation_body home endings operation) (body_with (as_object (fields_said home operation_fields ms))) Q)
      (braced (field_lines operation_fields ms) ++ s)
  operation_goes ms s are apart h =
      let ps : List PartSaid = all_put parts as_part part_name home operation_fields ms in
      goes_value (operation_body home endings operation) (ap₂ body_of (all_pairs ms operation_fields) (none_defined ms operation_fields))
      (goes_flat (braced_text (field_lines operation_fields ms) s)
      (goes_white 32 refl
      (goes_marked 123 _ refl refl
      (goes_white 10 refl
      (goes_both (each parts) _ ps
      (fields_row parts as_part part_name (λ k r. refl) home ms operation_fields [] (125 ∷ (10 ∷ s)) _ (parts_read ms are apart)
      (differ_by_test (map (λ f. f.0) operation_fields) refl) (λ k has among. among)
      (goes_marked 125 _ refl refl
      (goes_gives (body_of (part_pairs ps) (defined_by ps)) (goes_white 10 refl h)))))))))
