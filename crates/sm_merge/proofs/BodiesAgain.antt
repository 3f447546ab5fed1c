-- The body of an operation, service or resource, said again field by field: it comes to itself, since its fields stand in the order of
-- its type, with something in each.
use Rattle.std.proofs.Common.{◌≡◌, ◌⊎◌, inl, inr, ℕ, Bool, true, false, List, [], ◌∷◌, ◌++◌, map, Option, Some, None, refl, sym}
use Rattle.std.proofs.Common.{ap, subst, ◌∙◌}
use Rattle.std.proofs.Common.{bytes_eq}
use Rattle.std.specs.Prelude.{◌||◌, if◌then◌else◌}
use Rattle.std.specs.List.{list_any}
use Rattle.std.specs.Option.{unwrap_or}
use Rattle.std.proofs.lemmas.Bool.{cases_Bool}
use Rattle.std.proofs.lemmas.Option.{none-some, same_Some}
use Rattle.std.proofs.lemmas.Slice.Eq.{bytes_eq-Decides}
use Rattle.sm_tree.specs.Node.{Node, Members, text, object, no_members, member, members_of}
use Rattle.sm_tree.specs.Parts.{pairs_in, tree_named}
use Rattle.sm_tree.specs.Same.{HasName, HasPair}
use Rattle.sm_model.specs.Formed.{StandsAmong}
use Rattle.sm_model.specs.Given.{AreNodeFields, HasNeeded, HasShapeBody, HaveNames, NodeHasForm}
use Rattle.sm_model.specs.PreludeShapes.{unit_id}
use Rattle.sm_model.specs.Properties.{TypeFields, form_named, needed_fields, property_forms}
use Rattle.sm_model.specs.Raw.{Raw, raw_object, raw_members_of}
use Rattle.sm_model.specs.declared.kind.Kind.{Kind}
use Rattle.sm_model.specs.declared.property.PropertyForm.{PropertyForm}
use Rattle.sm_model.proofs.FieldsAmong.{AreAmong, fields_among}
use Rattle.sm_merge.specs.Meaning.{Defined, members_meant, node_meant}
use Rattle.sm_merge.proofs.PreludeGiven.{clash}
use Rattle.sm_merge.specs.Stated.{body_of, field_stated, fields_stated, is_empty}

-- what a field says: nothing where it isn't there, and else what comes to it again
pub record SaysForms (defined : Defined) (said : PropertyForm → Option Node → Option Raw) : Type 0 where
  pub none : (form : PropertyForm) → said form None ≡ None
  pub some : (form : PropertyForm) (n : Node) → NodeHasForm form n → is_empty n ≡ false
      → (r : Raw) × (said form (Some n) ≡ Some r) × (node_meant defined r ≡ n)

abbrev pub one_said : List ℕ → Option Raw → List (List ℕ × Raw)
one_said name None = []
one_said name (Some r) = (name, r) ∷ []

abbrev pub forms_said : (PropertyForm → Option Node → Option Raw) → TypeFields → Members → List (List ℕ × Raw)
forms_said said [] ms = []
forms_said said (f ∷ fs) ms = one_said f.0 (said f.1 (tree_named f.0 ms)) ++ forms_said said fs ms

-- what stands under a name is a pair
named_pair : (k : List ℕ) (n : Node) (ms : Members) → tree_named k ms ≡ Some n → HasPair k n ms
named_pair k n no_members e = absurd (none-some n e)
named_pair k n (member j m ms) e = by_test (λ rest. named_pair k n ms rest) (bytes_eq j k) refl e
  where
    by_test : (tree_named k ms ≡ Some n → HasPair k n ms) → (b : Bool) → bytes_eq j k ≡ b
        → (if b then Some m else tree_named k ms) ≡ Some n → HasPair k n (member j m ms)
    by_test later true same e = inl (sym ((bytes_eq-Decides j k).0 same), sym (same_Some m n e))
    by_test later false apart e = inr (later e)

name_found : (k : List ℕ) (ms : Members) → HasName k ms → (n : Node) × (tree_named k ms ≡ Some n)
name_found k no_members h = absurd h
name_found k (member j m ms) (inl same) =
    (m, ap (λ b. if b then Some m else tree_named k ms) ((bytes_eq-Decides j k).1 (sym same)))
name_found k (member j m ms) (inr later) = by_test (name_found k ms later) (bytes_eq j k)
  where
    by_test : (n : Node) × (tree_named k ms ≡ Some n) → (b : Bool) → (n : Node) × ((if b then Some m else tree_named k ms) ≡ Some n)
    by_test rest true = (m, refl)
    by_test rest false = rest

pair_name : (k : List ℕ) (n : Node) (ms : Members) → HasPair k n ms → HasName k ms
pair_name k n no_members h = h
pair_name k n (member j m ms) (inl (same, is)) = inl same
pair_name k n (member j m ms) (inr later) = inr (pair_name k n ms later)

needs : (ks : List (List ℕ)) (ms : Members) → HaveNames ks ms → (k : List ℕ) → list_any (bytes_eq k) ks ≡ true → HasName k ms
needs [] ms h k is = absurd (clash false is refl)
needs (j ∷ []) ms h k is = by_test (bytes_eq k j) refl is
  where
    by_test : (b : Bool) → bytes_eq k j ≡ b → (b || false) ≡ true → HasName k ms
    by_test true same is = subst (λ x. HasName x ms) (sym ((bytes_eq-Decides k j).0 same)) h
    by_test false apart is = absurd (clash false is refl)
needs (j ∷ i ∷ ks) ms h k is = by_test (λ later. needs (i ∷ ks) ms h.1 k later) (bytes_eq k j) refl is
  where
    by_test : (list_any (bytes_eq k) (i ∷ ks) ≡ true → HasName k ms) → (b : Bool) → bytes_eq k j ≡ b
        → (b || list_any (bytes_eq k) (i ∷ ks)) ≡ true → HasName k ms
    by_test rest true same is = subst (λ x. HasName x ms) (sym ((bytes_eq-Decides k j).0 same)) h.0
    by_test rest false apart is = rest is

-- the first of a list
abbrev first_node : List (List ℕ × Node) → Node → Node
first_node [] d = d
first_node (p ∷ ps) d = p.1

abbrev IsFull : List (List ℕ × Node) → Type 0
IsFull [] = ⊥
IsFull (p ∷ ps) = Unit {0}

-- one pair
abbrev one_pair : List ℕ → Node → List (List ℕ × Node)
one_pair k n = (k, n) ∷ []

one_node : (k : List ℕ) (n m : Node) → one_pair k n ≡ one_pair k m → n ≡ m
one_node k n m same = ap (λ (ps : List (List ℕ × Node)). first_node ps n) same

-- the fields that a body comes to
module _ (kind : Kind) (ms : Members) where
  abbrev block : List ℕ → List (List ℕ × Node)
  block k = field_stated kind k (tree_named k ms)

  -- one that is there has something in it
  filled_if : (k : List ℕ) (o : Option Node) (n : Node) → field_stated kind k o ≡ one_pair k n → is_empty n ≡ false
  filled_if k None n is = by_test (list_any (bytes_eq k) (needed_fields kind)) is
    where
      by_test : (b : Bool) → (if b then one_pair k (text unit_id) else []) ≡ one_pair k n → is_empty n ≡ false
      by_test true is = ap is_empty (sym (one_node k (text unit_id) n is))
      by_test false is = absurd (subst IsFull (sym is) tt)
  filled_if k (Some m) n is = by_test (is_empty m) refl is
    where
      by_test : (b : Bool) → is_empty m ≡ b → (if b then [] else one_pair k m) ≡ one_pair k n → is_empty n ≡ false
      by_test true empty is = absurd (subst IsFull (sym is) tt)
      by_test false full is = ap is_empty (sym (one_node k m n is)) ∙ full

  -- there or not
  block_is : (k : List ℕ) (o : Option Node) → (field_stated kind k o ≡ []) ⊎ ((n : Node) × (field_stated kind k o ≡ one_pair k n))
  block_is k None = by_test (list_any (bytes_eq k) (needed_fields kind))
    where
      by_test : (b : Bool) → ((if b then one_pair k (text unit_id) else []) ≡ [])
          ⊎ ((n : Node) × ((if b then one_pair k (text unit_id) else []) ≡ one_pair k n))
      by_test true = inr (text unit_id, refl)
      by_test false = inl refl
  block_is k (Some m) = by_test (is_empty m)
    where
      by_test : (b : Bool) → ((if b then [] else one_pair k m) ≡ []) ⊎ ((n : Node) × ((if b then [] else one_pair k m) ≡ one_pair k n))
      by_test true = inl refl
      by_test false = inr (m, refl)

  -- a pair of them is a field's
  pair_of_block : (fs : TypeFields) (k : List ℕ) (n : Node) → HasPair k n (members_of (fields_stated kind fs ms)) → block k ≡ one_pair k n
  pair_of_block [] k n h = absurd h
  pair_of_block (f ∷ fs) k n h = by_block (λ rest. pair_of_block fs k n rest) (block f.0) refl (block_is f.0 (tree_named f.0 ms)) h
    where
      here : (m : Node) → block f.0 ≡ one_pair f.0 m → (k ≡ f.0) × (n ≡ m) → block k ≡ one_pair k n
      here m one (same, is) =
          ap (λ x. block x) same ∙ one ∙ ap (λ x. one_pair x m) (sym same) ∙ ap (λ x. one_pair k x) (sym is)

      by_block : (HasPair k n (members_of (fields_stated kind fs ms)) → block k ≡ one_pair k n) → (xs : List (List ℕ × Node))
          → block f.0 ≡ xs → (xs ≡ []) ⊎ ((m : Node) × (xs ≡ one_pair f.0 m))
          → HasPair k n (members_of (xs ++ fields_stated kind fs ms)) → block k ≡ one_pair k n
      by_block later xs are (inl none) h =
          later (subst (λ ys. HasPair k n (members_of (ys ++ fields_stated kind fs ms))) none h)
      by_block later xs are (inr (m, one)) h =
          elim (subst (λ ys. HasPair k n (members_of (ys ++ fields_stated kind fs ms))) one h) [
            | inl found ↦ here m (are ∙ one) found
            | inr rest ↦ later rest
          ]

  block_of_pair : (fs : TypeFields) (k : List ℕ) → StandsAmong k (map (λ f. f.0) fs) → (n : Node) → block k ≡ one_pair k n
      → HasPair k n (members_of (fields_stated kind fs ms))
  block_of_pair [] k h n one = absurd h
  block_of_pair (f ∷ fs) k (inl same) n one =
      subst (λ ys. HasPair k n (members_of (ys ++ fields_stated kind fs ms))) (sym (ap (λ x. block x) (sym same) ∙ one)) (inl (refl, refl))
  block_of_pair (f ∷ fs) k (inr later) n one =
      behind (block f.0) (block_of_pair fs k later n one)
    where
      behind : (xs : List (List ℕ × Node)) → HasPair k n (members_of (fields_stated kind fs ms))
          → HasPair k n (members_of (xs ++ fields_stated kind fs ms))
      behind [] h = h
      behind (x ∷ xs) h = inr (behind xs h)

-- a body that a statement has come to
module _ (kind : Kind) (ms : Members) where
  abbrev fs : TypeFields
  fs = property_forms kind

  abbrev body : Members
  body = members_of (fields_stated kind (property_forms kind) ms)

  module _ (is : HasNeeded kind body) (forms : AreNodeFields (property_forms kind) body) where
    filled : (k : List ℕ) (n : Node) → tree_named k body ≡ Some n → is_empty n ≡ false
    filled k n found =
        filled_if kind ms k (tree_named k ms) n (pair_of_block kind ms (property_forms kind) k n (named_pair k n body found))

    not_needed : (k : List ℕ) → tree_named k body ≡ None → list_any (bytes_eq k) (needed_fields kind) ≡ false
    not_needed k none = elim (cases_Bool (list_any (bytes_eq k) (needed_fields kind))) [
      | inl needed ↦
          let found = name_found k body (needs (needed_fields kind) body is k needed) in
          absurd (none-some found.0 (sym none ∙ found.1))
      | inr free ↦ free
    ]

    -- a field that is looked up again
    field_again : (k : List ℕ) → StandsAmong k (map (λ f. f.0) (property_forms kind)) → (o : Option Node) → tree_named k body ≡ o
        → field_stated kind k o ≡ block kind ms k
    field_again k among (Some n) found =
        ap (λ b. if b then [] else one_pair k n) (filled k n found)
        ∙ sym (pair_of_block kind ms (property_forms kind) k n (named_pair k n body found))
    field_again k among None none =
        ap (λ b. if b then one_pair k (text unit_id) else []) (not_needed k none)
        ∙ (elim (block_is kind ms k (tree_named k ms)) [
          | inl nothing ↦ sym nothing
          | inr (n, one) ↦
              let pair = block_of_pair kind ms (property_forms kind) k among n one in
              let found = name_found k body (pair_name k n body pair) in
              absurd (none-some found.0 (sym none ∙ found.1))
        ])

    fields_again : (gs : TypeFields)
        → ((k : List ℕ) → StandsAmong k (map (λ f. f.0) gs) → StandsAmong k (map (λ f. f.0) (property_forms kind)))
        → fields_stated kind gs body ≡ fields_stated kind gs ms
    fields_again [] within = refl
    fields_again (g ∷ gs) within =
        ap (λ xs. xs ++ fields_stated kind gs body) (field_again g.0 (within g.0 (inl refl)) (tree_named g.0 body) refl)
        ∙ ap (λ xs. block kind ms g.0 ++ xs) (fields_again gs (λ k later. within k (inr later)))

    -- what is said of it
    has_form : (k : List ℕ) (n : Node) (qs : Members) → AreNodeFields (property_forms kind) qs → HasPair k n qs
        → (form : PropertyForm) × (form_named k (property_forms kind) ≡ Some form) × NodeHasForm form n
    has_form k n no_members h pair = absurd pair
    has_form k n (member j m qs) h (inl (same, is)) =
        (h.0.0, ap (λ x. form_named x (property_forms kind)) same ∙ h.0.1, subst (NodeHasForm h.0.0) (sym is) h.0.2)
    has_form k n (member j m qs) h (inr later) = has_form k n qs h.1 later

    module _ (defined : Defined) (said : PropertyForm → Option Node → Option Raw) (says : SaysForms defined said) where
      field_meant : (k : List ℕ) (form : PropertyForm) → form_named k (property_forms kind) ≡ Some form → (o : Option Node)
          → tree_named k body ≡ o → (more : List (List ℕ × Raw)) (rest : List (List ℕ × Node))
          → members_meant defined (raw_members_of more) ≡ members_of rest
          → members_meant defined (raw_members_of (one_said k (said form o) ++ more)) ≡ members_of (field_stated kind k o ++ rest)
      field_meant k form named None none more rest same =
          ap (λ r. members_meant defined (raw_members_of (one_said k r ++ more))) (says.none form) ∙ same
          ∙ sym (ap (λ b. members_of ((if b then one_pair k (text unit_id) else []) ++ rest)) (not_needed k none))
      field_meant k form named (Some n) found more rest same =
          let held = has_form k n body forms (named_pair k n body found) in
          let form_is : held.0 ≡ form = same_Some held.0 form (sym held.1 ∙ named) in
          let one = says.some form n (subst (λ f. NodeHasForm f n) form_is held.2) (filled k n found) in
          ap (λ r. members_meant defined (raw_members_of (one_said k r ++ more))) one.1
          ∙ ap (λ m. member k m (members_meant defined (raw_members_of more))) one.2
          ∙ ap (λ xs. member k n xs) same
          ∙ sym (ap (λ b. members_of ((if b then [] else one_pair k n) ++ rest)) (filled k n found))

      fields_meant : (gs : TypeFields) → AreAmong (property_forms kind) gs
          → members_meant defined (raw_members_of (forms_said said gs body)) ≡ members_of (fields_stated kind gs body)
      fields_meant [] among = refl
      fields_meant (g ∷ gs) among =
          field_meant g.0 g.1 among.0 (tree_named g.0 body) refl (forms_said said gs body) (fields_stated kind gs body)
          (fields_meant gs among.1)

      body_said_again : body_of kind (node_meant defined (raw_object (raw_members_of (forms_said said (property_forms kind) body))))
          ≡ object body
      body_said_again =
          let once = fields_again (property_forms kind) (λ k among. among) in
          ap (λ qs. body_of kind (object qs)) (fields_meant (property_forms kind) (fields_among kind))
          ∙ ap (λ xs. body_of kind (object (members_of xs))) once
          ∙ ap (λ xs. object (members_of xs)) once

-- a body of statements comes to itself, where it is said field by field
abbrev pub pairs_or_none : Node → Members
pairs_or_none n = unwrap_or (pairs_in n) no_members

pub body_again : (kind : Kind) (n given : Node) → n ≡ body_of kind given → HasShapeBody kind n → (defined : Defined)
    (said : PropertyForm → Option Node → Option Raw) → SaysForms defined said
    → body_of kind (node_meant defined (raw_object (raw_members_of (forms_said said (property_forms kind) (pairs_or_none n))))) ≡ n
body_again kind n given is h defined said says =
    let body : Members = members_of (fields_stated kind (property_forms kind) (pairs_or_none given)) in
    let pairs : h.pairs ≡ body = ap pairs_or_none (sym h.is_object ∙ is) in
    let again : Node → Node = λ m.
    body_of kind (node_meant defined (raw_object (raw_members_of (forms_said said (property_forms kind) (pairs_or_none m))))) in
    subst (λ m. again m ≡ m) (sym is)
    (body_said_again kind (pairs_or_none given) (subst (HasNeeded kind) pairs h.needed)
    (subst (AreNodeFields (property_forms kind)) pairs h.fields) defined said says)
