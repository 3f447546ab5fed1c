-- The lines of fields, one behind the other: what is written for a field is read as what is said of it, or neither is there.
use Rattle.std.proofs.Common.{◌≡◌, ℕ, inl, inr, Bool, true, false, not, List, [], ◌∷◌, ◌++◌, map, Option, Some, None, refl, sym, ap, subst}
use Rattle.std.proofs.Common.{◌∙◌, codes}
use Rattle.std.specs.Prelude.{◌||◌, ◌&&◌, if◌then◌else◌}
use Rattle.std.specs.List.{list_any}
use Rattle.std.specs.Str.{bytes_eq}
use Rattle.std.proofs.lemmas.List.{map_push}
use Rattle.sm_ids.specs.Identifier.{IsIdentifier}
use Rattle.sm_ids.proofs.Cutting.{both}
use Rattle.sm_json.specs.Written.{written as json}
use Rattle.sm_tree.specs.Node.{Node, Nodes, Members, text, no_nodes, node, no_members, member}
use Rattle.sm_tree.specs.Parts.{text_in, entries_in, pairs_in, tree_named}
use Rattle.sm_tree.specs.Same.{HasDistinctNames, AreDistinct}
use Rattle.sm_tree.proofs.Equal.{bytes_equal_is}
use Rattle.sm_model.specs.Formed.{StandsAmong, DifferInNames}
use Rattle.sm_model.specs.Given.{AreIdNodes, AreNamedIds, AreRenamed, NodeHasForm, AreNodeFields}
use Rattle.sm_model.specs.Properties.{TypeFields, form_named}
use Rattle.sm_model.specs.Raw.{Raw, raw_leaf}
use Rattle.sm_model.specs.declared.property.PropertyForm.{PropertyForm}
use Rattle.sm_model.specs.declared.property.PropertyForm.TheVariants.{Reference, References, NamedReferences, Text, Rename}
use Rattle.sm_idl.specs.Productions.{Tokens, Production, one, each_behind}
use Rattle.sm_idl.specs.Words.{IsNew}
use Rattle.sm_idl.specs.Nodes.{Home, Pair}
use Rattle.sm_idl.specs.Bodies.{TextSays, FieldNamed, field_value, property}
use Rattle.sm_idl.specs.Written.{indent, written_ids, written_named_ids, written_pairs, written_value, value_there, field_line, field_lines}
use Rattle.sm_idl.specs.WrittenFile.{id_said, list_said, named_said, renamed_said, value_said, value_there_said}
use Rattle.sm_idl.proofs.TextTokens.{Goes, Spells, goes_white, goes_whites, goes_gives, goes_both, goes_none, goes_next, goes_joined}
use Rattle.sm_idl.proofs.TextTokens.{goes_flat, flat_four}
use Rattle.sm_idl.proofs.WrittenTokens.{goes_marked, goes_word, identifier_word}
use Rattle.sm_idl.proofs.StringsWritten.{goes_text}
use Rattle.sm_idl.proofs.MembersWritten.{indent_white}
use Rattle.sm_idl.proofs.TraitsWritten.{new_names}
use Rattle.sm_idl.proofs.ValuesWritten.{or_true, reference_goes, references_go, named_go, renamed_go}

-- the value of a field
abbrev pub ValueCase : Home → PropertyForm → Option (List ℕ) → Option Raw → List ℕ → (Tokens → Type 0) → Type 0
ValueCase home form None None s Q = Unit {0}
ValueCase home form None (Some raw) s Q = ⊥
ValueCase home form (Some value) None s Q = ⊥
ValueCase home form (Some value) (Some raw) s Q = Goes (Spells (field_value home form) raw Q) (value ++ (10 ∷ s))

ids_case : (home : Home) (ns : Nodes) → AreIdNodes ns → (s : List ℕ) (Q : Tokens → Type 0) → Goes Q s
    → ValueCase home References (written_ids (Some ns)) (list_said home (Some ns)) s Q
ids_case home no_nodes are s Q h = tt
ids_case home (node n ns) are s Q h = references_go home n ns (10 ∷ s) are (goes_white 10 refl h)

named_case : (home : Home) (ms : Members) → AreNamedIds ms → AreDistinct ms → (s : List ℕ) (Q : Tokens → Type 0) → Goes Q s
    → ValueCase home NamedReferences (written_named_ids (Some ms)) (named_said home (Some ms)) s Q
named_case home no_members are differ s Q h = tt
named_case home (member k n ms) are differ s Q h = named_go home k n ms (10 ∷ s) are differ (goes_white 10 refl h)

renamed_case : (home : Home) (ms : Members) → AreRenamed ms → AreDistinct ms → (s : List ℕ) (Q : Tokens → Type 0) → Goes Q s
    → ValueCase home Rename (written_pairs (Some ms)) (renamed_said (Some ms)) s Q
renamed_case home no_members are differ s Q h = tt
renamed_case home (member k n ms) are differ s Q h = renamed_go k n ms (10 ∷ s) are differ (goes_white 10 refl h)

pub value_reads : (home : Home) (form : PropertyForm) (n : Node) → NodeHasForm form n → HasDistinctNames n → (s : List ℕ)
    (Q : Tokens → Type 0) → Goes Q s → ValueCase home form (written_value form n) (value_said home form n) s Q
value_reads home Reference n (t, e, is) d s Q h =
    subst (λ m. ValueCase home Reference (text_in m) (Some (id_said home m)) s Q) (sym e)
    (reference_goes home t (10 ∷ s) is refl (goes_white 10 refl h))
value_reads home References n (ns, e, are) d s Q h =
    subst (λ m. ValueCase home References (written_ids (entries_in m)) (list_said home (entries_in m)) s Q) (sym e)
    (ids_case home ns are s Q h)
value_reads home NamedReferences n (ms, e, are) d s Q h =
    subst (λ m. ValueCase home NamedReferences (written_named_ids (pairs_in m)) (named_said home (pairs_in m)) s Q) (sym e)
    (named_case home ms are (subst HasDistinctNames e d) s Q h)
value_reads home Text n (t, e) d s Q h =
    subst (λ m. ValueCase home Text (Some (json m)) (Some (raw_leaf m)) s Q) (sym e)
    (goes_text (TextSays home) (raw_leaf (text t)) t refl (λ u kind it. inl (t, inl it, refl)) (goes_white 10 refl h))
value_reads home Rename n (ms, e, are) d s Q h =
    subst (λ m. ValueCase home Rename (written_pairs (pairs_in m)) (renamed_said (pairs_in m)) s Q) (sym e)
    (renamed_case home ms are (subst HasDistinctNames e d) s Q h)

-- a field among others
module _ {X : Type 0} (p : List X → Production X) (put : List ℕ → Raw → X) (name_of : X → List ℕ) where
  abbrev pub FieldCase : List ℕ → List X → Option (List ℕ) → Option Raw → List ℕ → (Tokens → Type 0) → Type 0
  FieldCase name before None None s Q = Unit {0}
  FieldCase name before None (Some raw) s Q = ⊥
  FieldCase name before (Some value) None s Q = ⊥
  FieldCase name before (Some value) (Some raw) s Q = Goes (Spells (p before) (put name raw) Q) (field_line name (Some value) ++ s)

  abbrev pub ReadsField : List ℕ → Option (List ℕ) → Option Raw → Type 1
  ReadsField name w r = (before : List X) (s : List ℕ) (Q : Tokens → Type 0) → IsNew name (map name_of before) → Goes Q s
      → FieldCase name before w r s Q

  abbrev pub put_there : List ℕ → Option Raw → List X
  put_there name None = []
  put_there name (Some r) = put name r ∷ []

  abbrev pub all_put : Home → TypeFields → Members → List X
  all_put home [] ms = []
  all_put home (f ∷ fs) ms = put_there f.0 (value_there_said home f.1 (tree_named f.0 ms)) ++ all_put home fs ms

  abbrev pub AllRead : Home → Members → TypeFields → Type 1
  AllRead home ms [] = Unit {1}
  AllRead home ms (f ∷ fs) =
      ReadsField f.0 (value_there f.1 (tree_named f.0 ms)) (value_there_said home f.1 (tree_named f.0 ms)) × AllRead home ms fs

  abbrev pub AreNewFields : List (List ℕ) → List X → Type 0
  AreNewFields names before = (k : List ℕ) → StandsAmong k names → IsNew k (map name_of before)

  module _ (named : (k : List ℕ) (r : Raw) → name_of (put k r) ≡ k) where
    later : (name : List ℕ) (names : List (List ℕ)) (before : List X) (raw : Raw) → AreNewFields (name ∷ names) before
        → (StandsAmong name names → ⊥) → AreNewFields names (before ++ put name raw ∷ [])
    later name names before raw new apart k has among =
        new_names (map name_of before) name names new apart k has
        (subst (StandsAmong k) (map_push name_of before (put name raw) ∙ ap (λ j. map name_of before ++ j ∷ []) (named name raw)) among)

    step : (name : List ℕ) (w : Option (List ℕ)) (r : Option Raw) → ReadsField name w r → (more : List X) (names : List (List ℕ))
        (before : List X) (s : List ℕ) (Q : Tokens → Type 0) → AreNewFields (name ∷ names) before → (StandsAmong name names → ⊥)
        → ((b : List X) → AreNewFields names b → Goes (Spells (each_behind p b) more Q) s)
        → Goes (Spells (each_behind p before) (put_there name r ++ more) Q) (field_line name w ++ s)
    step name None None reads more names before s Q new apart next = next before (λ k has. new k (inr has))
    step name None (Some raw) reads more names before s Q new apart next =
        absurd (reads before s _ (new name (inl refl)) (next before (λ k has. new k (inr has))))
    step name (Some value) None reads more names before s Q new apart next =
        absurd (reads before s _ (new name (inl refl)) (next before (λ k has. new k (inr has))))
    step name (Some value) (Some raw) reads more names before s Q new apart next =
        goes_next p before (put name raw) more
        (reads before s _ (new name (inl refl)) (next (before ++ put name raw ∷ []) (later name names before raw new apart)))

    pub fields_row : (home : Home) (ms : Members) (fs : TypeFields) (before : List X) (s : List ℕ) (Q : Tokens → Type 0)
        → AllRead home ms fs → DifferInNames (map (λ f. f.0) fs) → AreNewFields (map (λ f. f.0) fs) before → Goes Q s
        → Goes (Spells (each_behind p before) (all_put home fs ms) Q) (field_lines fs ms ++ s)
    fields_row home ms [] before s Q all differ new h = goes_none p before h
    fields_row home ms (f ∷ fs) before s Q all differ new h =
        let w : Option (List ℕ) = value_there f.1 (tree_named f.0 ms) in
        let r : Option Raw = value_there_said home f.1 (tree_named f.0 ms) in
        goes_joined (field_line f.0 w) (field_lines fs ms) s
        (step f.0 w r all.0 (all_put home fs ms) (map (λ g. g.0) fs) before (field_lines fs ms ++ s) Q new differ.0
        (λ b newer. fields_row home ms fs b s Q all.1 differ.1 newer h))

-- names that differ, by a test
abbrev pub all_differ : List (List ℕ) → Bool
all_differ [] = true
all_differ (k ∷ ks) = not (list_any (bytes_eq k) ks) && all_differ ks

stands_true : (k : List ℕ) (ks : List (List ℕ)) → StandsAmong k ks → list_any (bytes_eq k) ks ≡ true
stands_true k [] among = absurd among
stands_true k (j ∷ js) (inl e) = ap (λ b. b || list_any (bytes_eq k) js) ((bytes_equal_is k j).1 e)
stands_true k (j ∷ js) (inr among) = ap (λ b. bytes_eq k j || b) (stands_true k js among) ∙ or_true (bytes_eq k j)

not_both : (b : Bool) → not b ≡ true → b ≡ true → ⊥
not_both true h k = absurd cc
not_both false h k = absurd cc

pub differ_by_test : (ks : List (List ℕ)) → all_differ ks ≡ true → DifferInNames ks
differ_by_test [] h = tt
differ_by_test (k ∷ ks) h =
    let l = both (not (list_any (bytes_eq k) ks)) (all_differ ks) h in
    ((λ among. not_both (list_any (bytes_eq k) ks) l.0 (stands_true k ks among)), differ_by_test ks l.1)

-- what stands in a field of a body
some_is : (m n : Node) → Some m ≡ Some n → m ≡ n
some_is m n e = cc

same_form : (a b : PropertyForm) → Some a ≡ Some b → a ≡ b
same_form a b e = cc

abbrev pub IsFieldNode : PropertyForm → Node → Type 0
IsFieldNode form n = NodeHasForm form n × HasDistinctNames n

pub field_found : (all : TypeFields) (ms : Members) → AreNodeFields all ms → AreDistinct ms → (name : List ℕ) (form : PropertyForm)
    → form_named name all ≡ Some form → (n : Node) → tree_named name ms ≡ Some n → IsFieldNode form n
field_found all no_members are differ name form known n e = let none : None ≡ Some n = e in absurd cc
field_found all (member k m ms) are differ name form known n e =
    by_name (bytes_eq k name) refl e (λ found. field_found all ms are.1 differ.2 name form known n found)
  where
    by_name : (b : Bool) → bytes_eq k name ≡ b → (if b then Some m else tree_named name ms) ≡ Some n
        → (tree_named name ms ≡ Some n → IsFieldNode form n) → IsFieldNode form n
    by_name true same found later =
        let k_is : k ≡ name = (bytes_equal_is k name).0 same in
        let there = are.0 in
        let form_is : there.0 ≡ form = same_form there.0 form (sym there.1 ∙ ap (λ q. form_named q all) k_is ∙ known) in
        subst (IsFieldNode form) (some_is m n found) (subst (λ g. NodeHasForm g m) form_is there.2, differ.1)
    by_name false other found later = later found

-- the pairs of services and resources
abbrev pub as_pair : List ℕ → Raw → Pair
as_pair k r = (k, r)

abbrev pub pair_name : Pair → List ℕ
pair_name p = p.0

module _ (home : Home) (all : TypeFields) where
  from_value : (name : List ℕ) (form : PropertyForm) → IsIdentifier name → form_named name all ≡ Some form → (w : Option (List ℕ))
      (r : Option Raw) → ((s : List ℕ) (Q : Tokens → Type 0) → Goes Q s → ValueCase home form w r s Q)
      → ReadsField (property home all) as_pair pair_name name w r
  from_value name form is known None None v = λ before s Q new h. tt
  from_value name form is known None (Some raw) v = λ before s Q new h. v s Q h
  from_value name form is known (Some value) None v = λ before s Q new h. v s Q h
  from_value name form is known (Some value) (Some raw) v = λ before s Q new h.
      goes_flat (flat_four indent name (58 ∷ (32 ∷ [])) value (codes "\n") s)
      (goes_whites indent indent_white
      (goes_both (one (FieldNamed all before)) _ (name, form)
      (goes_word (FieldNamed all before) (name, form) name (identifier_word name is) refl (λ t w. (inl w, known, new))
      (goes_marked 58 _ refl refl
      (goes_white 32 refl
      (goes_both (field_value home form) _ raw (v s _ (goes_gives (name, raw) h))))))))

  pub property_reads : (name : List ℕ) (form : PropertyForm) → IsIdentifier name → form_named name all ≡ Some form → (o : Option Node)
      → ((n : Node) → o ≡ Some n → IsFieldNode form n)
      → ReadsField (property home all) as_pair pair_name name (value_there form o) (value_there_said home form o)
  property_reads name form is known None fits = λ before s Q new h. tt
  property_reads name form is known (Some n) fits =
      let it = fits n refl in
      from_value name form is known (written_value form n) (value_said home form n) (value_reads home form n it.0 it.1)

  abbrev pub AreKnown : TypeFields → Type 0
  AreKnown [] = Unit {0}
  AreKnown (f ∷ fs) = IsIdentifier f.0 × (form_named f.0 all ≡ Some f.1) × AreKnown fs

  pub properties_read : (ms : Members) → AreNodeFields all ms → AreDistinct ms → (fs : TypeFields) → AreKnown fs
      → AllRead (property home all) as_pair pair_name home ms fs
  properties_read ms are differ [] known = tt
  properties_read ms are differ (f ∷ fs) known = (
    property_reads f.0 f.1 known.0 known.1 (tree_named f.0 ms) (field_found all ms are differ f.0 f.1 known.1),
    properties_read ms are differ fs known.2,
  )
