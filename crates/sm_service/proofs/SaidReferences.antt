-- What the fields of an operation and of a service refer to, in a body; ids each once.
use Rattle.std.proofs.Common.{◌≡◌, ◌⊎◌, inl, inr, ℕ, Bool, true, false, cond, not, List, [], ◌∷◌, ◌++◌, Option, Some, None, refl, sym, ap, ◌∙◌}
use Rattle.std.proofs.Common.{subst, filter}
use Rattle.std.specs.Prelude.{codes, if◌then◌else◌}
use Rattle.std.specs.List.{Contains, cons_option}
use Rattle.std.specs.Option.{option_and_then, unwrap_or}
use Rattle.std.specs.Str.{bytes_eq}
use Rattle.std.proofs.lemmas.List.Elements.{Contains-append_cases}
use Rattle.std.proofs.lemmas.Option.{none-some, same_Some}
use Rattle.std.proofs.lemmas.Slice.Eq.{bytes_eq-Decides}
use Rattle.sm_tree.specs.Node.{Node, Nodes, Members, null, bool, int, number, text, bytes, tag, opaque, list, object, node, no_nodes}
use Rattle.sm_tree.specs.Node.{member, no_members}
use Rattle.sm_tree.specs.Parts.{entries_in, text_in, tree_named}
use Rattle.sm_tree.specs.Same.{HasName, HasPair}
use Rattle.sm_model.specs.Graphs.{ShapeEntry}
use Rattle.sm_model.specs.Relations.{HasBodyPair, IsEntryText, Refers, SaysInBody, field_relations, relation_under}
use Rattle.sm_model.specs.declared.relation.Relation.{Relation}
use Rattle.sm_model.proofs.OneRising.{contains_behind, contains_either, contains_head, contains_none}
use Rattle.sm_model.proofs.Worklist.{apart}
use Rattle.sm_shapes.specs.Names.{AllDiffer}
use Rattle.sm_compile.specs.TraitNodes.{field_of, text_of}
use Rattle.sm_service.specs.References.{errors_said, once, reference_in, references_in, texts_among}
use Rattle.sm_service.proofs.ServableIds.{is_none, none_is}

-- the first tree under a name is that of a pair
pair_there : (k : List ℕ) (n : Node) (ms : Members) → tree_named k ms ≡ Some n → HasPair k n ms
pair_there k n no_members h = absurd (none-some n h)
pair_there k n (member l m ms) h = by (λ rest. pair_there k n ms rest) (bytes_eq l k) refl h
  where
    by : (tree_named k ms ≡ Some n → HasPair k n ms) → (b : Bool) → bytes_eq l k ≡ b → (if b then Some m else tree_named k ms) ≡ Some n
        → HasPair k n (member l m ms)
    by later true same is = inl (sym ((bytes_eq-Decides l k).0 same), sym (same_Some m n is))
    by later false other is = inr (later is)

pub name_of_pair : (k : List ℕ) (n : Node) (ms : Members) → HasPair k n ms → HasName k ms
name_of_pair k n no_members h = h
name_of_pair k n (member l m ms) (inl same) = inl same.0
name_of_pair k n (member l m ms) (inr later) = inr (name_of_pair k n ms later)

pub body_pair : (k : List ℕ) (n body : Node) → field_of k body ≡ Some n → HasBodyPair k n body
body_pair k n (object ms) h = pair_there k n ms h
body_pair k n null h = absurd (none-some n h)
body_pair k n (bool b) h = absurd (none-some n h)
body_pair k n (int z) h = absurd (none-some n h)
body_pair k n (number t) h = absurd (none-some n h)
body_pair k n (text t) h = absurd (none-some n h)
body_pair k n (bytes t) h = absurd (none-some n h)
body_pair k n (tag i m) h = absurd (none-some n h)
body_pair k n (opaque b) h = absurd (none-some n h)
body_pair k n (list ns) h = absurd (none-some n h)

text_is : (n : Node) (t : List ℕ) → text_in n ≡ Some t → n ≡ text t
text_is (text u) t h = ap text (same_Some u t h)
text_is null t h = absurd (none-some t h)
text_is (bool b) t h = absurd (none-some t h)
text_is (int z) t h = absurd (none-some t h)
text_is (number u) t h = absurd (none-some t h)
text_is (bytes u) t h = absurd (none-some t h)
text_is (tag i m) t h = absurd (none-some t h)
text_is (opaque b) t h = absurd (none-some t h)
text_is (list ns) t h = absurd (none-some t h)
text_is (object ms) t h = absurd (none-some t h)

-- a field with one id
one_referred : (o : Option Node) (id : List ℕ) → text_of o ≡ Some id → (n : Node) × (o ≡ Some n) × Refers id n
one_referred None id h = absurd (none-some id h)
one_referred (Some n) id h = (n, refl, subst (Refers id) (sym (text_is n id h)) refl)

-- and with several
entry_text : (ns : Nodes) (id : List ℕ) → Contains (texts_among ns) id → IsEntryText id ns
entry_text no_nodes id h = contains_none id h
entry_text (node n ns) id h = by (λ rest. entry_text ns id rest) (text_in n) refl h
  where
    by : (Contains (texts_among ns) id → IsEntryText id ns) → (o : Option (List ℕ)) → text_in n ≡ o
        → Contains (cons_option o (texts_among ns)) id → IsEntryText id (node n ns)
    by later None is there = inr (later there)
    by later (Some t) is there = elim (contains_either t id (texts_among ns) there) [
      | inl same ↦ inl (text_is n id (is ∙ ap Some same))
      | inr rest ↦ inr (later rest)
    ]

some_referred : (o : Option Node) (id : List ℕ) → Contains (texts_among (unwrap_or (option_and_then entries_in o) no_nodes)) id
    → (n : Node) × (o ≡ Some n) × Refers id n
some_referred None id h = absurd (contains_none id h)
some_referred (Some (list ns)) id h = (list ns, refl, entry_text ns id h)
some_referred (Some null) id h = absurd (contains_none id h)
some_referred (Some (bool b)) id h = absurd (contains_none id h)
some_referred (Some (int z)) id h = absurd (contains_none id h)
some_referred (Some (number t)) id h = absurd (contains_none id h)
some_referred (Some (text t)) id h = absurd (contains_none id h)
some_referred (Some (bytes t)) id h = absurd (contains_none id h)
some_referred (Some (tag i m)) id h = absurd (contains_none id h)
some_referred (Some (opaque b)) id h = absurd (contains_none id h)
some_referred (Some (object ms)) id h = absurd (contains_none id h)

module _ (s : ShapeEntry) (name : List ℕ) (relation : Relation) (under : relation_under name (field_relations s.kind) ≡ Some relation)
    (id : List ℕ) where
  pub one_said : reference_in name s ≡ Some id → SaysInBody relation s id
  one_said h =
      let r = one_referred (field_of name s.properties) id h in (name, r.0, body_pair name r.0 s.properties r.1, under, r.2)

  pub some_said : Contains (references_in name s) id → SaysInBody relation s id
  some_said h =
      let r = some_referred (field_of name s.properties) id h in (name, r.0, body_pair name r.0 s.properties r.1, under, r.2)

-- what passes a test
filtered : (p : List ℕ → Bool) (xs : List (List ℕ)) (y : List ℕ) → Contains (filter p xs) y → Contains xs y × (p y ≡ true)
filtered p [] y h = absurd (contains_none y h)
filtered p (x ∷ xs) y h = by (λ rest. filtered p xs y rest) (p x) refl h
  where
    by : (Contains (filter p xs) y → Contains xs y × (p y ≡ true)) → (b : Bool) → p x ≡ b
        → Contains (cond b (x ∷ filter p xs) (filter p xs)) y → Contains (x ∷ xs) y × (p y ≡ true)
    by later true is there = elim (contains_either x y (filter p xs) there) [
      | inl same ↦ (subst (Contains (x ∷ xs)) same (contains_head x xs), subst (λ z. p z ≡ true) same is)
      | inr rest ↦ let r = later rest in (contains_behind x y xs r.0, r.1)
    ]
    by later false is there = let r = later there in (contains_behind x y xs r.0, r.1)

differ_filtered : (p : List ℕ → Bool) (xs : List (List ℕ)) → AllDiffer xs → AllDiffer (filter p xs)
differ_filtered p [] h = tt
differ_filtered p (x ∷ xs) h = by (differ_filtered p xs h.1) (p x)
  where
    by : AllDiffer (filter p xs) → (b : Bool) → AllDiffer (cond b (x ∷ filter p xs) (filter p xs))
    by rest true = (none_is x (filter p xs) (λ y there same. is_none x xs h.0 y (filtered p xs y there).0 same), rest)
    by rest false = rest

-- each id once
other_text : (a b : List ℕ) → not (bytes_eq a b) ≡ true → a ≡ b → ⊥
other_text a b h same = apart (sym (ap not ((bytes_eq-Decides a b).1 same)) ∙ h)

pub once_differ : (ids : List (List ℕ)) → AllDiffer (once ids)
once_differ [] = tt
once_differ (id ∷ ids) = (
  none_is id (filter (λ other. not (bytes_eq other id)) (once ids))
      (λ y there same. other_text y id (filtered (λ other. not (bytes_eq other id)) (once ids) y there).1 same),
  differ_filtered (λ other. not (bytes_eq other id)) (once ids) (once_differ ids),
)

pub once_among : (ids : List (List ℕ)) (id : List ℕ) → Contains (once ids) id → Contains ids id
once_among [] id h = h
once_among (x ∷ xs) id h = elim (contains_either x id (filter (λ other. not (bytes_eq other x)) (once xs)) h) [
  | inl same ↦ subst (Contains (x ∷ xs)) same (contains_head x xs)
  | inr later ↦ contains_behind x id xs (once_among xs id (filtered (λ other. not (bytes_eq other x)) (once xs) id later).0)
]

pub error_said : (operation service : ShapeEntry) (id : List ℕ) → Contains (errors_said operation service) id
    → Contains (references_in (codes "errors") operation) id ⊎ Contains (references_in (codes "errors") service) id
error_said operation service id h =
    let own = references_in (codes "errors") operation in
    let shared = references_in (codes "errors") service in
    Contains-append_cases own shared id (once_among (own ++ shared) id h)
