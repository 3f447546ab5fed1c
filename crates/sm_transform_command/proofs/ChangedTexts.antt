-- Where ids that become others, or are gone, become texts in UTF-8, bodies and traits stay JSON.
use Rattle.std.proofs.Common.{ℕ, Bool, true, false, List, [], ◌∷◌, Option, Some, None, IsUtf8}
use Rattle.std.specs.FinMap as fin
use Rattle.std.specs.List.{cons_option, filter_map}
use Rattle.std.specs.Option.{option_map, unwrap_or}
use Rattle.sm_tree.specs.Json.{AreJson, AreJsonMembers, IsJson}
use Rattle.sm_tree.specs.Node.{Node, Nodes, Members, null, bool, int, number, text, bytes, tag, opaque, list, object, no_nodes, node}
use Rattle.sm_tree.specs.Node.{no_members, member}
use Rattle.sm_tree.specs.Parts.{entries_in, pairs_in, text_in}
use Rattle.sm_model.specs.Graphs.{NodeMap}
use Rattle.sm_model.specs.Properties.{form_named, property_forms}
use Rattle.sm_model.specs.declared.kind.Kind.{Kind}
use Rattle.sm_model.specs.declared.property.PropertyForm.{PropertyForm}
use Rattle.sm_model.specs.declared.property.PropertyForm.TheVariants.{Reference, References, NamedReferences, Text, Rename}
use Rattle.sm_model.proofs.MapFacts.{Each, each_entry}
use Rattle.sm_ast.proofs.JsonWritten.{AreJsonPairs}
use Rattle.sm_transform.specs.IdChanges.{IdChange, body_after, entries_after, field_after, fields_after, is_needed, keys_after, list_left}
use Rattle.sm_transform.specs.IdChanges.{listed_after, named_after, object_left, pairs_after, put_entry, put_pair, put_under}
use Rattle.sm_transform.specs.IdChanges.{reference_after, renames_after, text_after, trait_after, traits_after, value_after, values_after}

-- what may be gone
abbrev JsonThere : Option Node → Type 0
JsonThere None = Unit {0}
JsonThere (Some n) = IsJson n

abbrev pub TextThere : Option (List ℕ) → Type 0
TextThere None = Unit {0}
TextThere (Some t) = IsUtf8 t

abbrev NodesThere : Option Nodes → Type 0
NodesThere None = Unit {0}
NodesThere (Some ns) = AreJson ns

abbrev MembersThere : Option Members → Type 0
MembersThere None = Unit {0}
MembersThere (Some ms) = AreJsonMembers ms

-- the parts of a tree of JSON
text_there : (n : Node) → IsJson n → TextThere (text_in n)
text_there (text t) h = h
text_there null h = tt
text_there (bool b) h = tt
text_there (int z) h = tt
text_there (number t) h = tt
text_there (bytes t) h = tt
text_there (tag k n) h = tt
text_there (opaque b) h = tt
text_there (list ns) h = tt
text_there (object ms) h = tt

entries_there : (n : Node) → IsJson n → NodesThere (entries_in n)
entries_there (list ns) h = h
entries_there null h = tt
entries_there (bool b) h = tt
entries_there (int z) h = tt
entries_there (number t) h = tt
entries_there (text t) h = tt
entries_there (bytes t) h = tt
entries_there (tag k n) h = tt
entries_there (opaque b) h = tt
entries_there (object ms) h = tt

pairs_there : (n : Node) → IsJson n → MembersThere (pairs_in n)
pairs_there (object ms) h = h
pairs_there null h = tt
pairs_there (bool b) h = tt
pairs_there (int z) h = tt
pairs_there (number t) h = tt
pairs_there (text t) h = tt
pairs_there (bytes t) h = tt
pairs_there (tag k n) h = tt
pairs_there (opaque b) h = tt
pairs_there (list ns) h = tt

-- what is left of lists and objects
list_json : (ns left : Nodes) → AreJson left → JsonThere (list_left ns left)
list_json no_nodes left h = h
list_json (node n ns) no_nodes h = tt
list_json (node n ns) (node m left) h = h

object_json : (ms left : Members) → AreJsonMembers left → JsonThere (object_left ms left)
object_json no_members left h = h
object_json (member k n ms) no_members h = tt
object_json (member k n ms) (member j m left) h = h

put_entry_json : (o : Option Node) (ns : Nodes) → JsonThere o → AreJson ns → AreJson (put_entry o ns)
put_entry_json None ns h k = k
put_entry_json (Some n) ns h k = (h, k)

put_pair_json : (k : List ℕ) (o : Option Node) (ms : Members) → IsUtf8 k → JsonThere o → AreJsonMembers ms
    → AreJsonMembers (put_pair k o ms)
put_pair_json k None ms u h rest = rest
put_pair_json k (Some n) ms u h rest = (u, h, rest)

put_under_json : (o : Option (List ℕ)) (n : Node) (ms : Members) → TextThere o → IsJson n → AreJsonMembers ms
    → AreJsonMembers (put_under o n ms)
put_under_json None n ms u h rest = rest
put_under_json (Some k) n ms u h rest = (u, h, rest)

kept_json : (n : Node) (o : Option Node) → IsJson n → JsonThere o → IsJson (unwrap_or o n)
kept_json n None h k = h
kept_json n (Some m) h k = k

-- pairs of texts and trees
abbrev IsPair : List ℕ → Node → Type 0
IsPair k n = IsUtf8 k × IsJson n

each_pair : (ps : List (List ℕ × Node)) → AreJsonPairs ps → Each IsPair ps
each_pair [] h = tt
each_pair (p ∷ ps) h = ((h.0, h.1), each_pair ps h.2)

pair_each : (ps : List (List ℕ × Node)) → Each IsPair ps → AreJsonPairs ps
pair_each [] h = tt
pair_each (p ∷ ps) h = (h.0.0, h.0.1, pair_each ps h.1)

module _ (change : IdChange) (texts : (t : List ℕ) → IsUtf8 t → TextThere (change t)) where
  text_json : (o : Option (List ℕ)) → TextThere o → JsonThere (option_map text o)
  text_json None h = tt
  text_json (Some t) h = h

  reference_json : (n : Node) → IsJson n → JsonThere (reference_after change n)
  reference_json n h = by (text_in n) (text_there n h)
    where
      by : (o : Option (List ℕ)) → TextThere o → JsonThere (text_after change n o)
      by None k = h
      by (Some t) k = text_json (change t) (texts t k)

  entries_json : (ns : Nodes) → AreJson ns → AreJson (entries_after change ns)
  entries_json no_nodes h = tt
  entries_json (node n ns) h =
      put_entry_json (reference_after change n) (entries_after change ns) (reference_json n h.0) (entries_json ns h.1)

  values_json : (ms : Members) → AreJsonMembers ms → AreJsonMembers (values_after change ms)
  values_json no_members h = tt
  values_json (member k n ms) h =
      put_pair_json k (reference_after change n) (values_after change ms) h.0 (reference_json n h.1) (values_json ms h.2)

  keys_json : (ms : Members) → AreJsonMembers ms → AreJsonMembers (keys_after change ms)
  keys_json no_members h = tt
  keys_json (member k n ms) h = put_under_json (change k) n (keys_after change ms) (texts k h.0) h.1 (keys_json ms h.2)

  -- a field, by its form
  listed_json : (n : Node) → IsJson n → JsonThere (listed_after change n (entries_in n))
  listed_json n h = by (entries_in n) (entries_there n h)
    where
      by : (o : Option Nodes) → NodesThere o → JsonThere (listed_after change n o)
      by None k = h
      by (Some ns) k = list_json ns (entries_after change ns) (entries_json ns k)

  named_json : (n : Node) → IsJson n → JsonThere (named_after change n (pairs_in n))
  named_json n h = by (pairs_in n) (pairs_there n h)
    where
      by : (o : Option Members) → MembersThere o → JsonThere (named_after change n o)
      by None k = h
      by (Some ms) k = object_json ms (values_after change ms) (values_json ms k)

  renamed_json : (n : Node) → IsJson n → JsonThere (renames_after change n (pairs_in n))
  renamed_json n h = by (pairs_in n) (pairs_there n h)
    where
      by : (o : Option Members) → MembersThere o → JsonThere (renames_after change n o)
      by None k = h
      by (Some ms) k = object_json ms (keys_after change ms) (keys_json ms k)

  value_json : (form : PropertyForm) (n : Node) → IsJson n → JsonThere (value_after change form n)
  value_json Reference n h = reference_json n h
  value_json References n h = listed_json n h
  value_json NamedReferences n h = named_json n h
  value_json Text n h = h
  value_json Rename n h = renamed_json n h

  field_json : (needed : Bool) (form : Option PropertyForm) (n : Node) → IsJson n → JsonThere (field_after change needed form n)
  field_json needed None n h = h
  field_json true (Some form) n h = kept_json n (value_after change form n) h (value_json form n h)
  field_json false (Some form) n h = value_json form n h

  fields_json : (kind : Kind) (ms : Members) → AreJsonMembers ms → AreJsonMembers (fields_after change kind ms)
  fields_json kind no_members h = tt
  fields_json kind (member k n ms) h =
      put_pair_json k (field_after change (is_needed kind k) (form_named k (property_forms kind)) n) (fields_after change kind ms) h.0
      (field_json (is_needed kind k) (form_named k (property_forms kind)) n h.1) (fields_json kind ms h.2)

  pub body_json : (kind : Kind) (n : Node) → IsJson n → IsJson (body_after change kind n)
  body_json kind n h = by (pairs_in n) (pairs_there n h)
    where
      by : (o : Option Members) → MembersThere o → IsJson (pairs_after change kind n o)
      by None k = h
      by (Some ms) k = fields_json kind ms k

  -- traits
  traits_left : (ps : List (List ℕ × Node)) → Each IsPair ps → Each IsPair (filter_map (trait_after change) ps)
  traits_left [] h = tt
  traits_left (p ∷ ps) h = by (traits_left ps h.1) (change p.0) (texts p.0 h.0.0)
    where
      by : Each IsPair (filter_map (trait_after change) ps) → (o : Option (List ℕ)) → TextThere o
          → Each IsPair (cons_option (option_map (λ id. (id, p.1)) o) (filter_map (trait_after change) ps))
      by rest None k = rest
      by rest (Some t) k = ((k, h.0.1), rest)

  pub traits_json : (m : NodeMap) → AreJsonPairs (fin.entries m) → AreJsonPairs (fin.entries (traits_after change m))
  traits_json m h =
      pair_each (fin.entries (traits_after change m))
      (each_entry IsPair (filter_map (trait_after change) (fin.entries m)) (traits_left (fin.entries m) (each_pair (fin.entries m) h)))

  pub target_text : (t : List ℕ) → IsUtf8 t → IsUtf8 (unwrap_or (change t) t)
  target_text t h = by (change t) (texts t h)
    where
      by : (o : Option (List ℕ)) → TextThere o → IsUtf8 (unwrap_or o t)
      by None k = h
      by (Some u) k = k
