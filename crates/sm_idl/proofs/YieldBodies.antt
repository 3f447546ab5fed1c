-- Operations, services and resources of a text that is UTF-8 are as merging asks for them.
use Rattle.std.proofs.Common.{◌≡◌, ℕ, inl, inr, List, [], ◌∷◌, ◌++◌, map, Option, Some, codes, refl, sym, subst}
use Rattle.std.proofs.Common.{false}
use Rattle.std.specs.Prelude.{IsUtf8}
use Rattle.std.proofs.lemmas.List.{map_push}
use Rattle.sm_ids.specs.Identifier.{IsIdentifier}
use Rattle.sm_ids.specs.IdText.{IsIdText}
use Rattle.sm_model.specs.Formed.{DifferInNames, IsRaw, AreRawReferences, AreNamedReferences, IsNewName, AreNewNames}
use Rattle.sm_model.specs.Formed.{HasPropertyForm, AreFields, AreProperties, AreTraits, AreFormed}
use Rattle.sm_model.specs.Kinds.{any}
use Rattle.sm_model.specs.Properties.{TypeFields, form_named, operation_fields}
use Rattle.sm_model.specs.Raw.{Raw, raw_id, raw_list, raws_of, raw_members_of, empty_raw}
use Rattle.sm_model.specs.References.{AreReferences}
use Rattle.sm_model.specs.Said.{TraitSaid, MemberSaid}
use Rattle.sm_model.specs.declared.property.PropertyForm.{PropertyForm}
use Rattle.sm_model.specs.declared.property.PropertyForm.TheVariants.{Reference, References, NamedReferences, Text, Rename}
use Rattle.sm_model.specs.declared.reference.Ref.{Ref}
use Rattle.sm_idl.specs.Productions.{Spaced, one, ◌or◌, many}
use Rattle.sm_idl.specs.Words.{IsNew, IsWordId, word_that, id}
use Rattle.sm_idl.specs.Nodes.{Home, written, IsNodeId, Pair, pair_names, as_object, pair_of}
use Rattle.sm_idl.specs.Traits.{traits}
use Rattle.sm_idl.specs.Members.{field, members, mixins}
use Rattle.sm_idl.specs.Bodies.{Suffixes, PartSaid, part_names, part_word, part_target, inline_name, inline_said, inline_with}
use Rattle.sm_idl.specs.Bodies.{part_inline}
use Rattle.sm_idl.specs.Bodies.{part_shape, part_errors, part, reference, references, braced_pairs, TextSays, text_node, new_name, renaming}
use Rattle.sm_idl.specs.Bodies.{field_value, FieldNamed, property}
use Rattle.sm_idl.proofs.Yields.{IsFine, Yields, Each, each_more, yields_one, yields_gives, yields_both, yields_or, yields_as}
use Rattle.sm_idl.proofs.Yields.{yields_many}
use Rattle.sm_idl.proofs.Yields.{yields_word, yields_marked, yields_given}
use Rattle.sm_idl.proofs.YieldNodes.{IsHome, word_fine, key_fine, text_fine, shape_id, defined_reference, written_reference, differ_more}
use Rattle.sm_idl.proofs.YieldNodes.{PairsAre}
use Rattle.sm_idl.proofs.YieldNodes.{IsRawPair, pairs_more, pair_yields, object_raw, list_raw, braced_yields, empty_is_raw, traits_yields}
use Rattle.sm_idl.proofs.YieldNodes.{traits_joined}
use Rattle.sm_idl.proofs.YieldNodes.{standing, documented_yields}
use Rattle.sm_idl.proofs.YieldMembers.{HasForm, field_yields, members_yields, mixins_yields}

-- a node of a field
abbrev pub IsFieldNode : PropertyForm → Raw → Type 0
IsFieldNode form n = IsRaw n × HasPropertyForm form n

abbrev IsNamedReference : Pair → Type 0
IsNamedReference p = IsUtf8 p.0 × IsFieldNode Reference p.1

reference_node : (home : Home) (w : List ℕ) → IsHome home → IsWordId w → IsFieldNode Reference (raw_id (written home w false))
reference_node home w h k = let r = written_reference home w false h k in (r, r)

reference_yields : (home : Home) → IsHome home → Yields (reference home) (IsFieldNode Reference)
reference_yields home h =
    yields_given (word_that IsNodeId) _ IsNodeId (IsFieldNode Reference) (yields_word IsNodeId) (λ w k. reference_node home w h k.1)

raw_references : (ns : List Raw) → Each (IsFieldNode Reference) ns → AreRawReferences (raws_of ns)
raw_references [] h = tt
raw_references (n ∷ ns) h = (h.0.1, raw_references ns h.1)

raws_there : (ns : List Raw) → Each (IsFieldNode Reference) ns → Each IsRaw ns
raws_there [] h = tt
raws_there (n ∷ ns) h = (h.0.0, raws_there ns h.1)

list_node : (ns : List Raw) → Each (IsFieldNode Reference) ns → IsFieldNode References (raw_list (raws_of ns))
list_node ns h = (list_raw ns (raws_there ns h), (raws_of ns, refl, raw_references ns h))

references_yields : (home : Home) → IsHome home → Yields (references home) (IsFieldNode References)
references_yields home h =
    yields_marked (codes "[") _ (IsFieldNode References) (λ _.
    yields_both (many (reference home)) _ (Each (IsFieldNode Reference)) (IsFieldNode References)
    (yields_many (reference home) (IsFieldNode Reference) (reference_yields home h)) (λ ns are.
    yields_marked (codes "]") _ (IsFieldNode References) (λ _. yields_gives (raw_list (raws_of ns)) (IsFieldNode References)
    (list_node ns are))))

-- pairs whose values are raw
raw_each : (G : Pair → Type 0) → ((p : Pair) → G p → IsRawPair p) → (ps : List Pair) → Each G ps → Each IsRawPair ps
raw_each G f [] h = tt
raw_each G f (p ∷ ps) h = (f p h.0, raw_each G f ps h.1)

pub object_of_such : (G : Pair → Type 0) → ((p : Pair) → G p → IsRawPair p) → (ps : List Pair) → PairsAre G ps → IsRaw (as_object ps)
object_of_such G f ps h = object_raw ps (h.0, raw_each G f ps h.1)

named_references : (ps : List Pair) → Each IsNamedReference ps → AreNamedReferences (raw_members_of ps)
named_references [] h = tt
named_references (p ∷ ps) h = (h.0.1.1, named_references ps h.1)

named_yields : (home : Home) → IsHome home → Yields (braced_pairs (pair_of (reference home))) (IsFieldNode NamedReferences)
named_yields home h =
    braced_yields (pair_of (reference home)) IsNamedReference (IsFieldNode NamedReferences)
    (pair_yields (reference home) (IsFieldNode Reference) (reference_yields home h))
    (λ ps are. (object_of_such IsNamedReference (λ p k. (k.0, k.1.0)) ps are, (raw_members_of ps, refl, named_references ps are.1)))

-- texts
text_says : (home : Home) (t : Spaced) (n : Raw) → IsHome home → IsFine t → TextSays home t.token n → IsFieldNode Text n
text_says home t n h fine (inl (v, is, e)) = subst (IsFieldNode Text) (sym e) (text_fine t v fine is, (v, refl))
text_says home t n h fine (inr (w, word, k, e)) = subst (IsFieldNode Text) (sym e) (written_reference home w false h k.1, tt)

text_yields : (home : Home) → IsHome home → Yields (text_node home) (IsFieldNode Text)
text_yields home h = yields_one (TextSays home) (IsFieldNode Text) (λ t n fine says. text_says home t n h fine says)

-- new names under ids
abbrev IsRenaming : Pair → Type 0
IsRenaming p = IsUtf8 p.0 × IsIdText p.0 × IsRaw p.1 × IsNewName p.1

name_yields : Yields new_name (λ n. IsRaw n × IsNewName n)
name_yields = yields_one _ _ (λ t n fine says.
    subst (λ m. IsRaw m × IsNewName m) (sym says.3) (text_fine t says.0 fine says.1, (says.0, refl, says.2)))

renaming_yields : (before : List Pair) → PairsAre IsRenaming before → Yields (renaming before) (λ p. PairsAre IsRenaming (before ++ p ∷ []))
renaming_yields before are =
    yields_both _ _ (λ k. IsUtf8 k × IsIdText k × IsNew k (pair_names before)) _
    (yields_one _ _ (λ t k fine says. (key_fine t k fine says.0, says.1, says.2))) (λ k is.
    yields_marked (codes ":") _ _ (λ _.
    yields_given new_name (λ n. (k, n)) (λ n. IsRaw n × IsNewName n) _ name_yields (λ n named.
    pairs_more IsRenaming before (k, n) are is.2 (is.0, is.1, named.0, named.1))))

new_names : (ps : List Pair) → Each IsRenaming ps → AreNewNames (raw_members_of ps)
new_names [] h = tt
new_names (p ∷ ps) h = (h.0.1, h.0.3, new_names ps h.1)

rename_yields : Yields (braced_pairs renaming) (IsFieldNode Rename)
rename_yields =
    braced_yields renaming IsRenaming (IsFieldNode Rename) renaming_yields
    (λ ps are. (object_of_such IsRenaming (λ p k. (k.0, k.2)) ps are, (raw_members_of ps, refl, new_names ps are.1)))

-- fields of services and resources
field_node_yields : (home : Home) (form : PropertyForm) → IsHome home → Yields (field_value home form) (IsFieldNode form)
field_node_yields home Reference h = reference_yields home h
field_node_yields home References h = references_yields home h
field_node_yields home NamedReferences h = named_yields home h
field_node_yields home Text h = text_yields home h
field_node_yields home Rename h = rename_yields

pub record IsField (fs : TypeFields) (p : Pair) : Type 0 where
  pub utf8 : IsUtf8 p.0
  pub raw : IsRaw p.1
  pub form : PropertyForm
  pub named : form_named p.0 fs ≡ Some form
  pub has : HasPropertyForm form p.1

pub property_yields : (home : Home) (fs : TypeFields) → IsHome home → (before : List Pair) → PairsAre (IsField fs) before
    → Yields (property home fs before) (λ p. PairsAre (IsField fs) (before ++ p ∷ []))
property_yields home fs h before are =
    yields_both (one (FieldNamed fs before)) _ (λ f. IsUtf8 f.0 × (form_named f.0 fs ≡ Some f.1) × IsNew f.0 (pair_names before)) _
    (yields_one (FieldNamed fs before) _ (λ t f fine says. (key_fine t f.0 fine says.0, says.1, says.2))) (λ f is.
    yields_marked (codes ":") _ _ (λ _.
    yields_given (field_value home f.1) (λ n. (f.0, n)) (IsFieldNode f.1) _ (field_node_yields home f.1 h) (λ n node.
    pairs_more (IsField fs) before (f.0, n) are is.2 (record { utf8 = is.0; raw = node.0; form = f.1; named = is.1; has = node.1 }))))

are_fields : (fs : TypeFields) (ps : List Pair) → Each (IsField fs) ps → AreFields fs (raw_members_of ps)
are_fields fs [] h = tt
are_fields fs (p ∷ ps) h = ((h.0.form, h.0.named, h.0.has), are_fields fs ps h.1)

pub are_properties : (fs : TypeFields) (ps : List Pair) → PairsAre (IsField fs) ps → AreProperties fs (as_object ps)
are_properties fs ps h = record {
  pairs = raw_members_of ps;
  is_object = refl;
  is_raw = object_of_such (IsField fs) (λ p k. (k.utf8, k.raw)) ps h;
  fields = are_fields fs ps h.1;
}

pub no_properties : (fs : TypeFields) → AreProperties fs empty_raw
no_properties fs = record { pairs = _; is_object = refl; is_raw = empty_is_raw; fields = tt }

-- parts of operations
pub record IsPart (name : List ℕ) (form : PropertyForm) (p : PartSaid) : Type 0 where
  pub name_is : p.name ≡ name
  pub node : IsFieldNode form p.value
  pub defined : AreFormed p.defined

target_yields : (home : Home) (name : List ℕ) → IsHome home → Yields (part_target home name) (IsPart name Reference)
target_yields home name h =
    yields_marked (codes ":") _ (IsPart name Reference) (λ _.
    yields_given id _ IsWordId (IsPart name Reference) (yields_word IsWordId) (λ w k.
    record { name_is = refl; node = reference_node home w h k; defined = tt }))

inline_part : (home : Home) (structure name : List ℕ) (ts : List TraitSaid) (mixed : List Ref) (ms : List MemberSaid) → IsHome home
    → IsIdentifier structure → IsIdentifier name → AreTraits ts → AreReferences mixed → HasForm any ms
    → IsPart name Reference (inline_said home structure name ts mixed ms)
inline_part home structure name ts mixed ms h s n are mixins form =
    let r = defined_reference home.namespace structure false h.0 s in
    record {
      name_is = refl;
      node = (r, r);
      defined = (
        record {
          id = shape_id home.namespace structure h.0 s;
          names = form.1;
          members = form.0;
          mixins = mixins;
          properties = no_properties [];
          traits = standing name empty_raw ts n empty_is_raw are;
        },
        tt,
      );
    }

inline_yields : (home : Home) (structure name : List ℕ) (docs : List TraitSaid) → IsHome home → IsIdentifier structure → IsIdentifier name
    → AreTraits docs → Yields (inline_with home structure name docs) (IsPart name Reference)
inline_yields home structure name docs h s n d =
    yields_both (traits home) _ AreTraits (IsPart name Reference) (traits_yields home h) (λ ts are.
    yields_both (mixins home) _ AreReferences (IsPart name Reference) (mixins_yields home h) (λ mixed refs.
    yields_given (members any (field home)) _ (HasForm any) (IsPart name Reference) (members_yields any (field home) tt
    (field_yields home h))
    (λ ms form. inline_part home structure name (docs ++ ts) mixed ms h s n (traits_joined docs ts d are) refs form)))

part_inline_yields : (home : Home) (operation : List ℕ) (suffix : Option (List ℕ)) (name : List ℕ) → IsHome home → IsIdentifier name
    → Yields (part_inline home operation suffix name) (IsPart name Reference)
part_inline_yields home operation suffix name h n =
    yields_both (inline_name operation suffix) _ IsIdentifier (IsPart name Reference)
    (yields_one _ IsIdentifier (λ t structure fine says. says.2)) (λ structure s.
    documented_yields (inline_with home structure name) (IsPart name Reference) (λ docs d. inline_yields home structure name docs h s n d))

-- a part that none before it is
record IsNextPart (before : List PartSaid) (p : PartSaid) : Type 0 where
  utf8 : IsUtf8 p.name
  new : IsNew p.name (part_names before)
  form : PropertyForm
  named : form_named p.name operation_fields ≡ Some form
  node : IsFieldNode form p.value
  defined : AreFormed p.defined

next_part : (name : List ℕ) (form : PropertyForm) (before : List PartSaid) (p : PartSaid) → form_named name operation_fields ≡ Some form
    → IsUtf8 name → IsNew name (part_names before) → IsPart name form p → IsNextPart before p
next_part name form before p named u new is = record {
  utf8 = subst IsUtf8 (sym is.name_is) u;
  new = subst (λ n. IsNew n (part_names before)) (sym is.name_is) new;
  form = form;
  named = subst (λ n. form_named n operation_fields ≡ Some form) (sym is.name_is) named;
  node = is.node;
  defined = is.defined;
}

word_yields : (name : List ℕ) (before : List PartSaid) → Yields (part_word name before) (λ _. IsUtf8 name × IsNew name (part_names before))
word_yields name before = yields_one _ _ (λ t x fine says. (word_fine t name fine says.0, says.1))

shape_yields : (home : Home) (operation : List ℕ) (suffix : Option (List ℕ)) (name : List ℕ) (before : List PartSaid) → IsHome home
    → IsIdentifier name → form_named name operation_fields ≡ Some Reference
    → Yields (part_shape home operation suffix name before) (IsNextPart before)
shape_yields home operation suffix name before h n named =
    yields_both (part_word name before) _ (λ _. IsUtf8 name × IsNew name (part_names before)) (IsNextPart before) (word_yields name before)
    (λ _ is.
    yields_as (part_target home name or part_inline home operation suffix name) (IsPart name Reference) (IsNextPart before)
    (yields_or (part_target home name) (part_inline home operation suffix name) (IsPart name Reference) (target_yields home name h)
    (part_inline_yields home operation suffix name h n)) (λ p part. next_part name Reference before p named is.0 is.1 part))

each_node : (home : Home) (ws : List (List ℕ)) → IsHome home → Each IsWordId ws
    → Each (IsFieldNode Reference) (map (λ w. raw_id (written home w false)) ws)
each_node home [] h are = tt
each_node home (w ∷ ws) h are = (reference_node home w h are.0, each_node home ws h are.1)

errors_yields : (home : Home) (before : List PartSaid) → IsHome home → Yields (part_errors home before) (IsNextPart before)
errors_yields home before h =
    yields_both (part_word (codes "errors") before) _ (λ _. IsUtf8 (codes "errors") × IsNew (codes "errors") (part_names before))
    (IsNextPart before) (word_yields (codes "errors") before) (λ _ is.
    yields_marked (codes ":") _ (IsNextPart before) (λ _.
    yields_marked (codes "[") _ (IsNextPart before) (λ _.
    yields_both (many id) _ (Each IsWordId) (IsNextPart before) (yields_many id IsWordId (yields_word IsWordId)) (λ ws are.
    yields_marked (codes "]") _ (IsNextPart before) (λ _.
    yields_gives _ (IsNextPart before) (next_part (codes "errors") References before _ refl is.0 is.1
    (record { name_is = refl; node = list_node _ (each_node home ws h are); defined = tt })))))))

-- the parts of an operation
pub record AreParts (ps : List PartSaid) : Type 0 where
  pub differ : DifferInNames (part_names ps)
  pub fields : Each (λ p. IsField operation_fields (p.name, p.value)) ps
  pub defined : Each (λ p. AreFormed p.defined) ps

pub no_parts : AreParts []
no_parts = record { differ = tt; fields = tt; defined = tt }

parts_more : (before : List PartSaid) (p : PartSaid) → AreParts before → IsNextPart before p → AreParts (before ++ p ∷ [])
parts_more before p h next = record {
  differ = subst DifferInNames (sym (map_push (λ q. q.name) before p)) (differ_more (part_names before) p.name h.differ next.new);
  fields = each_more (λ q. IsField operation_fields (q.name, q.value)) before p h.fields
      (record { utf8 = next.utf8; raw = next.node.0; form = next.form; named = next.named; has = next.node.1 });
  defined = each_more (λ q. AreFormed q.defined) before p h.defined next.defined;
}

pub part_yields : (home : Home) (endings : Suffixes) (operation : List ℕ) → IsHome home → (before : List PartSaid) → AreParts before
    → Yields (part home endings operation before) (λ p. AreParts (before ++ p ∷ []))
part_yields home endings operation h before are =
    yields_as (part home endings operation before) (IsNextPart before) (λ p. AreParts (before ++ p ∷ []))
    (yields_or (part_shape home operation endings.input (codes "input") before) _ (IsNextPart before)
    (shape_yields home operation endings.input (codes "input") before h refl refl)
    (yields_or (part_shape home operation endings.output (codes "output") before) _ (IsNextPart before)
    (shape_yields home operation endings.output (codes "output") before h refl refl) (errors_yields home before h)))
    (λ p next. parts_more before p are next)
