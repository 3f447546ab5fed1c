-- An instance within another, by the reference to the definition of its place: what holds of each tree by itself holds of it there.
use Rattle.std.proofs.Common.{◌≡◌, ℕ, ◌^◌, ◌<◌, Bool, true, false, cond, List, [], length, refl, sym, ap, ◌∙◌}
use Rattle.std.specs.Prelude.{Ok, Err}
use Rattle.sm_tree.specs.Node.{Node, null, bool, int, number, text, bytes, tag, opaque, list, object}
use Rattle.sm_shapes.specs.Values.{null_val}
use Rattle.sm_shapes.specs.Fitting.{Test}
use Rattle.sm_shapes.specs.Places.{Place}
use Rattle.sm_shapes.specs.declared.fault.FaultKind.TheVariants.{Null}
use Rattle.sm_codec.specs.Codec.{Codec, InTable}
use Rattle.sm_codec.specs.FaultLists.{faults_in}
use Rattle.sm_codec.specs.Named.{is_null}
use Rattle.sm_codec.specs.Readings.{child_of, entry_reading, faults, one_here, reading}
use Rattle.sm_codec.proofs.ChildLists.{null_is}
use Rattle.sm_schema.specs.Valid.{Asked, accepts, asked, instance_of}
use Rattle.sm_schema.specs.Definitions.{Listing, reference}
use Rattle.sm_schema.specs.Described.{definition, schema_tree, nullable, nullable_if}
use Rattle.sm_schema.specs.SchemaLaws.{json_codec, AllTold}
use Rattle.sm_schema.proofs.PlacesListed.{IsListed}
use Rattle.sm_schema.proofs.References.{refers_to, refuses_null, takes_null, takes_other}

pub tree_of : (test : Test) (root n : Node) → (instance_of test root n).tree ≡ n
tree_of test root null = refl
tree_of test root (bool b) = refl
tree_of test root (int z) = refl
tree_of test root (number u) = refl
tree_of test root (text u) = refl
tree_of test root (bytes u) = refl
tree_of test root (tag k n) = refl
tree_of test root (opaque b) = refl
tree_of test root (list ns) = refl
tree_of test root (object ms) = refl

module _ (d : Listing) (test : Test) (few : length d.places < 2 ^ 64) where
  abbrev pub root : Node
  root = schema_tree d

  abbrev pub codec : Codec
  codec = json_codec d.table d.json_names test

  abbrev pub asked_by : (List ℕ → Bool) → Node → Asked
  asked_by refers n = record { test = test; refers = refers; instance = instance_of test root n }

  abbrev pub says : Node → Node → Bool
  says n schema = accepts (asked test root (instance_of test root n)) schema

  -- without a fault the definition accepts it, whatever references say
  abbrev pub IsAccepted : Node → Type 0
  IsAccepted n =
      (p : Place) (refers : List ℕ → Bool) → InTable d.table p → IsListed d.table d.places p → faults codec n p ≡ []
      → accepts (asked_by refers n) (definition d p) ≡ true

  -- accepted by the definition it has no fault, where the place and all to which it leads are told
  abbrev pub IsClean : Node → Type 0
  IsClean n =
      (p : Place) (refers : List ℕ → Bool) → InTable d.table p → IsListed d.table d.places p → AllTold d.table p
      → accepts (asked_by refers n) (definition d p) ≡ true → faults codec n p ≡ []

  -- the same of a reference
  pub referred : (n : Node) (q : Place) → IsAccepted n → InTable d.table q → IsListed d.table d.places q → faults codec n q ≡ []
      → says n (reference d q) ≡ true
  referred n q is inside listed h = refers_to d test few (instance_of test root n) q listed ∙ is q _ inside listed h

  pub unreferred : (n : Node) (q : Place) → IsClean n → InTable d.table q → IsListed d.table d.places q → AllTold d.table q
      → says n (reference d q) ≡ true → faults codec n q ≡ []
  unreferred n q is inside listed told h =
      is q _ inside listed told (sym (refers_to d test few (instance_of test root n) q listed) ∙ h)

  null_tree : (n : Node) → is_null n ≡ true → (instance_of test root n).tree ≡ null
  null_tree n h = tree_of test root n ∙ null_is n h

  pub null_refused : (n : Node) (q : Place) → IsListed d.table d.places q → is_null n ≡ true → says n (reference d q) ≡ true → ⊥
  null_refused n q listed h g = both (says n (reference d q)) g (refuses_null d test few (instance_of test root n) q listed (null_tree n h))
    where
      both : (b : Bool) → b ≡ true → b ≡ false → ⊥
      both b x y = cc

  pub null_taken : (n : Node) (q : Place) → IsListed d.table d.places q → is_null n ≡ true → says n (nullable (reference d q)) ≡ true
  null_taken n q listed h = takes_null d test few (instance_of test root n) q listed (null_tree n h)

  pub other_taken : (n : Node) (q : Place) → is_null n ≡ false → says n (nullable (reference d q)) ≡ says n (reference d q)
  other_taken n q h = takes_other d test few (instance_of test root n) q (ap is_null (tree_of test root n) ∙ h)

  -- an entry of a list or a value of a map, where null may stand or may not
  pub entry_accepted : (sparse : Bool) (n : Node) (q : Place) → IsAccepted n → InTable d.table q → IsListed d.table d.places q
      → faults_in (entry_reading sparse q (child_of codec n)) ≡ [] → says n (nullable_if sparse (reference d q)) ≡ true
  entry_accepted sparse n q is inside listed h = by (is_null n) refl sparse h
    where
      by : (b : Bool) → is_null n ≡ b → (sparse : Bool)
          → faults_in (cond b (cond sparse (Ok null_val) (Err (one_here Null))) (reading codec n q)) ≡ []
          → says n (nullable_if sparse (reference d q)) ≡ true
      by true e true g = null_taken n q listed e
      by true e false g = absurd cc
      by false e true g = other_taken n q e ∙ referred n q is inside listed g
      by false e false g = referred n q is inside listed g

  pub entry_clean : (sparse : Bool) (n : Node) (q : Place) → IsClean n → InTable d.table q → IsListed d.table d.places q
      → AllTold d.table q → says n (nullable_if sparse (reference d q)) ≡ true
      → faults_in (entry_reading sparse q (child_of codec n)) ≡ []
  entry_clean sparse n q is inside listed told h = by (is_null n) refl sparse h
    where
      by : (b : Bool) → is_null n ≡ b → (sparse : Bool) → says n (nullable_if sparse (reference d q)) ≡ true
          → faults_in (cond b (cond sparse (Ok null_val) (Err (one_here Null))) (reading codec n q)) ≡ []
      by true e true g = refl
      by true e false g = absurd (null_refused n q listed e g)
      by false e true g = unreferred n q is inside listed told (sym (other_taken n q e) ∙ g)
      by false e false g = unreferred n q is inside listed told g
