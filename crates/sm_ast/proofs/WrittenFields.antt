-- What is written for the body of an operation, service or resource says it.
use Rattle.std.proofs.Common.{◌≡◌, inl, inr, ℕ, false, List, [], ◌∷◌, ◌++◌, Option, Some, None, refl, sym, ap, subst, ◌∙◌, append_assoc}
use Rattle.std.proofs.Common.{if◌then◌else◌, bytes_eq}
use Rattle.sm_tree.specs.Node.{Node, Nodes, Members, null, bool, int, number, text, bytes, tag, opaque, list, object, no_nodes, node}
use Rattle.sm_tree.specs.Node.{no_members, member}
use Rattle.sm_tree.specs.Node.{nodes_of, members_of}
use Rattle.sm_tree.specs.Same.{HasName, HasDistinctNames, HaveDistinctNames, AreDistinct}
use Rattle.sm_model.specs.Given.{AreIdNodes, AreNamedIds, AreRenamed, NodeHasForm, AreNodeFields, IsIdNode}
use Rattle.sm_model.specs.Properties.{TypeFields, form_named}
use Rattle.sm_model.specs.Raw.{Raw, RawMembers, raw_leaf, raw_list, raw_object, no_raw_members, raw_member, raw_members_of}
use Rattle.sm_model.specs.References.{absolute}
use Rattle.sm_model.specs.declared.property.PropertyForm.{PropertyForm}
use Rattle.sm_model.specs.declared.property.PropertyForm.TheVariants.{Reference, References, NamedReferences, Text, Rename}
use Rattle.sm_model.proofs.FieldsAmong.{AreAmong}
use Rattle.sm_ast.specs.Ast.{RawReferenceSays, RawReferencesSay, NamedReferencesSay, NewNamesSay, PropertySays, PropertyPairsSay}
use Rattle.sm_tree.specs.Parts.{tree_named}
use Rattle.sm_ast.specs.GraphSaid.{body_said, filled_raws, filled_raw_members, form_said, form_there_said, id_said, ids_said}
use Rattle.sm_ast.specs.GraphSaid.{named_ids_said}
use Rattle.sm_ast.specs.GraphSaid.{names_said, raw_field}
use Rattle.sm_ast.specs.Written.{WrittenPairs, field_there, filled_list, filled_object, property_there, written_entries, written_pairs}
use Rattle.sm_ast.specs.Written.{written_properties, written_property, written_reference}
use Rattle.sm_ast.specs.PartsSaid.{entries_said, pairs_said}
use Rattle.sm_ast.proofs.FaultlessParts.{distinct_under}
use Rattle.sm_ast.proofs.Judged.{either_way, same_text, some_same, some_is_none, named_pair}
use Rattle.sm_ast.proofs.WrittenNames.{EachDistinct, distinct_joined}

-- references
reference_says : (id : Node) → IsIdNode id → RawReferenceSays (written_reference id) (id_said id)
reference_says id (t, is, spelled) =
    subst (λ n. RawReferenceSays (written_reference n) (id_said n)) (sym is) (absolute t false, (t, refl, spelled, refl), refl)

entries_say : (ids : Nodes) → AreIdNodes ids → RawReferencesSay (nodes_of (written_entries ids)) (ids_said ids)
entries_say no_nodes h = refl
entries_say (node id ids) h = (id_said id, ids_said ids, refl, reference_says id h.0, entries_say ids h.1)

named_ids_say : (ids : Members) → AreNamedIds ids → NamedReferencesSay (members_of (written_pairs ids)) (named_ids_said ids)
named_ids_say no_members h = refl
named_ids_say (member k id ids) h = (id_said id, named_ids_said ids, refl, reference_says id h.0, named_ids_say ids h.1)

-- new names
leaf_same : (n : Node) (t : List ℕ) → n ≡ text t → (k : List ℕ) (more : RawMembers)
    → raw_member k (raw_leaf n) more ≡ raw_member k (raw_leaf (text t)) more
leaf_same n t is k more = ap (λ m. raw_member k (raw_leaf m) more) is

names_say : (ms : Members) → AreRenamed ms → NewNamesSay ms (names_said ms)
names_say no_members h = refl
names_say (member k n ms) (id, (t, is, identifier), rest) =
    (t, names_said ms, id, is, identifier, leaf_same n t is k (names_said ms), names_say ms rest)

-- a field before others: what is put, and what it says
abbrev Puts : TypeFields → List ℕ → WrittenPairs → List (List ℕ × Raw) → Option Node → Option Raw → Type 0
Puts all k after more o r = PropertyPairsSay all (members_of (field_there k o ++ after)) (raw_members_of (raw_field k r ++ more))

one_put : (all : TypeFields) (k : List ℕ) (after : WrittenPairs) (more : List (List ℕ × Raw)) (form : PropertyForm)
    → form_named k all ≡ Some form → PropertyPairsSay all (members_of after) (raw_members_of more)
    → (n : Node) (r : Raw) → PropertySays form n r → Puts all k after more (Some n) (Some r)
one_put all k after more form named rest n r says = inr (form, r, raw_members_of more, named, says, refl, rest)

module _ (all : TypeFields) (k : List ℕ) (after : WrittenPairs) (more : List (List ℕ × Raw))
    (rest : PropertyPairsSay all (members_of after) (raw_members_of more)) where
  reference_put : form_named k all ≡ Some Reference → (id : Node) → IsIdNode id
      → Puts all k after more (written_property Reference id) (form_said Reference id)
  reference_put named id h = one_put all k after more Reference named rest (written_reference id) (id_said id) (reference_says id h)

  entries_put : form_named k all ≡ Some References → (ids : Nodes) → AreIdNodes ids
      → Puts all k after more (filled_list (nodes_of (written_entries ids))) (filled_raws (ids_said ids))
  entries_put named no_nodes h = rest
  entries_put named (node id ids) h =
      one_put all k after more References named rest (list (nodes_of (written_entries (node id ids)))) (raw_list (ids_said (node id ids)))
      (nodes_of (written_entries (node id ids)), ids_said (node id ids), refl, refl, entries_say (node id ids) h)

  named_put : form_named k all ≡ Some NamedReferences → (ids : Members) → AreNamedIds ids
      → Puts all k after more (filled_object (members_of (written_pairs ids))) (filled_raw_members (named_ids_said ids))
  named_put named no_members h = rest
  named_put named (member j id ids) h =
      one_put all k after more NamedReferences named rest (object (members_of (written_pairs (member j id ids))))
      (raw_object (named_ids_said (member j id ids)))
      (members_of (written_pairs (member j id ids)), named_ids_said (member j id ids), refl, refl, named_ids_say (member j id ids) h)

  text_put : form_named k all ≡ Some Text → (t : List ℕ) → Puts all k after more (Some (text t)) (Some (raw_leaf (text t)))
  text_put named t = one_put all k after more Text named rest (text t) (raw_leaf (text t)) (t, refl, refl)

  names_put : form_named k all ≡ Some Rename → (ms : Members) → AreRenamed ms
      → Puts all k after more (filled_object ms) (filled_raw_members (names_said ms))
  names_put named no_members h = rest
  names_put named (member j n ms) h =
      one_put all k after more Rename named rest (object (member j n ms)) (raw_object (names_said (member j n ms)))
      (member j n ms, names_said (member j n ms), refl, refl, names_say (member j n ms) h)

  form_put : (form : PropertyForm) → form_named k all ≡ Some form → (n : Node) → NodeHasForm form n
      → Puts all k after more (written_property form n) (form_said form n)
  form_put Reference named n h = reference_put named n h
  form_put References named n (ns, is, h) =
      subst (λ m. Puts all k after more (written_property References m) (form_said References m)) (sym is) (entries_put named ns h)
  form_put NamedReferences named n (ms, is, h) =
      subst (λ m. Puts all k after more (written_property NamedReferences m) (form_said NamedReferences m)) (sym is) (named_put named ms h)
  form_put Text named n (t, is) =
      subst (λ m. Puts all k after more (written_property Text m) (form_said Text m)) (sym is) (text_put named t)
  form_put Rename named n (ms, is, h) =
      subst (λ m. Puts all k after more (written_property Rename m) (form_said Rename m)) (sym is) (names_put named ms h)

  there_put : (form : PropertyForm) → form_named k all ≡ Some form → (o : Option Node)
      → ((n : Node) → o ≡ Some n → NodeHasForm form n) → Puts all k after more (property_there form o) (form_there_said form o)
  there_put form named None h = rest
  there_put form named (Some n) h = form_put form named n (h n refl)

-- what the body has in a field is of its form
form_under : (fs : TypeFields) (ms : Members) → AreNodeFields fs ms → (k : List ℕ) (form : PropertyForm) → form_named k fs ≡ Some form
    → (n : Node) → tree_named k ms ≡ Some n → NodeHasForm form n
form_under fs no_members fields k form named n there = some_is_none n (sym there)
form_under fs (member l m ms) fields k form named n there = elim (either_way (bytes_eq l k)) [
  | inl same ↦
      let is_form : fields.0.0 ≡ form =
      some_same fields.0.0 form (sym fields.0.1 ∙ ap (λ j. form_named j fs) (same_text l k same) ∙ named) in
      let is_node : m ≡ n = some_same m n (ap (λ b. if b then Some m else tree_named k ms) (sym same) ∙ there) in
      subst (NodeHasForm form) is_node (subst (λ f. NodeHasForm f m) is_form fields.0.2)
  | inr other ↦ form_under fs ms fields.1 k form named n (ap (λ b. if b then Some m else tree_named k ms) (sym other) ∙ there)
]

pub fields_say : (all fs : TypeFields) → AreAmong all fs → (body : Members) → AreNodeFields all body → (after : WrittenPairs)
    → PropertyPairsSay all (members_of after) no_raw_members
    → PropertyPairsSay all (members_of (written_properties fs body ++ after)) (raw_members_of (body_said fs body))
fields_say all [] among body fields after rest = rest
fields_say all (f ∷ fs) among body fields after rest =
    let o = tree_named f.0 body in
    subst (λ ps. PropertyPairsSay all (members_of ps) (raw_members_of (body_said (f ∷ fs) body)))
    (sym (append_assoc (field_there f.0 (property_there f.1 o)) (written_properties fs body) after))
    (there_put all f.0 (written_properties fs body ++ after) (body_said fs body)
    (fields_say all fs among.1 body fields after rest) f.1 among.0 o
    (form_under all body fields f.0 f.1 among.0))

-- pairs that are no such fields are passed over
abbrev pub AreUnnamed : TypeFields → WrittenPairs → Type 0
AreUnnamed fs [] = Unit {0}
AreUnnamed fs (p ∷ ps) = (form_named p.0 fs ≡ None) × AreUnnamed fs ps

pub passed_over : (fs : TypeFields) (ps after : WrittenPairs) (said : RawMembers) → AreUnnamed fs ps
    → PropertyPairsSay fs (members_of after) said → PropertyPairsSay fs (members_of (ps ++ after)) said
passed_over fs [] after said unnamed rest = rest
passed_over fs (p ∷ ps) after said unnamed rest = inl (unnamed.0, passed_over fs ps after said unnamed.1 rest)

pub all_passed_over : (fs : TypeFields) (ps : WrittenPairs) → AreUnnamed fs ps → PropertyPairsSay fs (members_of ps) no_raw_members
all_passed_over fs [] unnamed = refl
all_passed_over fs (p ∷ ps) unnamed = inl (unnamed.0, all_passed_over fs ps unnamed.1)

-- names differ in what is written
entries_distinct : (ns : Nodes) → HaveDistinctNames ns → HaveDistinctNames (nodes_of (written_entries ns))
entries_distinct no_nodes d = tt
entries_distinct (node n ns) d = (((λ has. has), d.0, tt), entries_distinct ns d.1)

same_names : (k : List ℕ) (ms : Members) → HasName k (members_of (written_pairs ms)) → HasName k ms
same_names k no_members has = has
same_names k (member l n ms) (inl same) = inl same
same_names k (member l n ms) (inr has) = inr (same_names k ms has)

pairs_distinct : (ms : Members) → AreDistinct ms → AreDistinct (members_of (written_pairs ms))
pairs_distinct no_members d = tt
pairs_distinct (member k n ms) d = ((λ has. d.0 (same_names k ms has)), ((λ has. has), d.1, tt), pairs_distinct ms d.2)

entries_said_distinct : (n : Node) → HasDistinctNames n → HaveDistinctNames (entries_said n)
entries_said_distinct null d = tt
entries_said_distinct (bool b) d = tt
entries_said_distinct (int z) d = tt
entries_said_distinct (number t) d = tt
entries_said_distinct (text t) d = tt
entries_said_distinct (bytes t) d = tt
entries_said_distinct (tag k n) d = tt
entries_said_distinct (opaque b) d = tt
entries_said_distinct (list ns) d = d
entries_said_distinct (object ms) d = tt

pub pairs_said_distinct : (n : Node) → HasDistinctNames n → AreDistinct (pairs_said n)
pairs_said_distinct null d = tt
pairs_said_distinct (bool b) d = tt
pairs_said_distinct (int z) d = tt
pairs_said_distinct (number t) d = tt
pairs_said_distinct (text t) d = tt
pairs_said_distinct (bytes t) d = tt
pairs_said_distinct (tag k n) d = tt
pairs_said_distinct (opaque b) d = tt
pairs_said_distinct (list ns) d = tt
pairs_said_distinct (object ms) d = d

list_distinct : (k : List ℕ) (ns : Nodes) → HaveDistinctNames ns → EachDistinct (field_there k (filled_list ns))
list_distinct k no_nodes d = tt
list_distinct k (node n ns) d = (d, tt)

pub object_distinct : (k : List ℕ) (ms : Members) → AreDistinct ms → EachDistinct (field_there k (filled_object ms))
object_distinct k no_members d = tt
object_distinct k (member l n ms) d = (d, tt)

property_distinct : (k : List ℕ) (form : PropertyForm) (n : Node) → HasDistinctNames n
    → EachDistinct (field_there k (written_property form n))
property_distinct k Reference n d = (((λ has. has), d, tt), tt)
property_distinct k References n d =
    list_distinct k (nodes_of (written_entries (entries_said n))) (entries_distinct (entries_said n) (entries_said_distinct n d))
property_distinct k NamedReferences n d =
    object_distinct k (members_of (written_pairs (pairs_said n))) (pairs_distinct (pairs_said n) (pairs_said_distinct n d))
property_distinct k Text n d = (d, tt)
property_distinct k Rename n d = object_distinct k (pairs_said n) (pairs_said_distinct n d)

there_distinct : (k : List ℕ) (form : PropertyForm) (o : Option Node) → ((n : Node) → o ≡ Some n → HasDistinctNames n)
    → EachDistinct (field_there k (property_there form o))
there_distinct k form None h = tt
there_distinct k form (Some n) h = property_distinct k form n (h n refl)

pub fields_distinct : (fs : TypeFields) (body : Members) → AreDistinct body → EachDistinct (written_properties fs body)
fields_distinct [] body d = tt
fields_distinct (f ∷ fs) body d =
    distinct_joined (field_there f.0 (property_there f.1 (tree_named f.0 body))) (written_properties fs body)
    (there_distinct f.0 f.1 (tree_named f.0 body) (λ n there. distinct_under f.0 n body d (named_pair f.0 body n there)))
    (fields_distinct fs body d)
