-- Trees that are no list and no object where those are asked for, at a place of each kind: without a fault they are accepted, and
-- accepted they have none.
use Rattle.std.proofs.Common.{◌≡◌, ℕ, ◌-◌, ◌^◌, ◌<◌, ℤ, Bool, true, false, ◌&&◌, cond, List, []}
use Rattle.std.proofs.Common.{◌∷◌, ◌++◌, codes, refl, sym, ap, ◌∙◌, subst, arith}
use Rattle.std.specs.Prelude.{Ok, Err, unwrap_or}
use Rattle.std.specs.Str.{is_utf8}
use Rattle.std.proofs.lemmas.Bool.{and_parts, and_from}
use Rattle.std.proofs.lemmas.Str.{is_utf8-from_IsUtf8}
use Rattle.sm_time.specs.declared.format.Format.{Format}
use Rattle.sm_time.specs.declared.format.Format.TheVariants.{DateTime, HttpDate, EpochSeconds}
use Rattle.sm_tree.specs.Json.{IsJson}
use Rattle.sm_tree.specs.Node.{Node, Members, null, bool, int, number, text, bytes, tag, opaque, list, object}
use Rattle.sm_tree.specs.Node.{no_members, member}
use Rattle.sm_shapes.specs.Values.{Val, bool_val, int_val, text_val}
use Rattle.sm_shapes.specs.TableData.{ConstraintData}
use Rattle.sm_shapes.specs.Places.{Place, kind_of, constraints_of, format_of}
use Rattle.sm_shapes.specs.Broken.{range_broken, broken}
use Rattle.sm_shapes.specs.Fitting.{Test, finder}
use Rattle.sm_shapes.specs.declared.kinds.ShapeKind.{ShapeKind}
use Rattle.sm_shapes.specs.declared.kinds.ShapeKind.TheVariants as kinds
use Rattle.sm_shapes.specs.declared.fault.FaultKind.TheVariants.{WrongType, Width}
use Rattle.sm_codec.specs.Convention.{fits_bits}
use Rattle.sm_codec.specs.Conventions.{read_boolean, read_text, read_number, read_base64, json_time}
use Rattle.sm_codec.specs.Codec.{Codec}
use Rattle.sm_codec.specs.FaultLists.{FaultAt, here, faults_in, settled}
use Rattle.sm_codec.specs.Readings.{leaf_reading, leaf_by}
use Rattle.sm_codec.specs.Sorts.{sort_by}
use Rattle.sm_codec.proofs.NoFaults.{none_here}
use Rattle.sm_schema.specs.Keywords.{Part, Property, is_of_type}
use Rattle.sm_schema.specs.Valid.{accepts}
use Rattle.sm_schema.specs.Definitions.{Listing}
use Rattle.sm_schema.specs.Described.{definition_by, typed, text_keywords, text_nodes, number_nodes, range_keywords, whole_number, time_type}
use Rattle.sm_schema.specs.SchemaLaws.{json_codec, HasNoNumber}
use Rattle.sm_schema.proofs.Comparisons.{and_true}
use Rattle.sm_schema.proofs.LeafDefinitions.{is_nil, nil_is, is_nil_of, nil_joined, asked_of, string_says, enum_says, number_says}
use Rattle.sm_schema.proofs.LeafDefinitions.{number_enum_says}

pub faults_settled : (fs : List FaultAt) (v : Val) → faults_in (settled fs v) ≡ fs
faults_settled [] v = refl
faults_settled (f ∷ fs) v = refl

-- a tree that isn't of the type of a kind with parts
abbrev pub IsOther : ShapeKind → Node → Type 0
IsOther kinds.List n = is_of_type (codes "array") n ≡ false
IsOther kinds.Map n = is_of_type (codes "object") n ≡ false
IsOther kinds.Structure n = is_of_type (codes "object") n ≡ false
IsOther kinds.Union n = is_of_type (codes "object") n ≡ false
IsOther kind n = Unit {0}

module _ (d : Listing) (test : Test) (p : Place) (refers : List ℕ → Bool) (elements : List Part) (properties : List Property) where
  abbrev c : Codec
  c = json_codec d.table d.json_names test

  abbrev held : ConstraintData
  held = constraints_of d.table p

  abbrev Accepted : Node → Node → Type 0
  Accepted n schema = accepts (asked_of test refers n elements properties) schema ≡ true

  clean : (kind : ShapeKind) (v : Val) → kind_of d.table p ≡ kind → faults_in (leaf_reading c p (Ok v)) ≡ []
      → broken (finder d.table test) kind held v ≡ []
  clean kind v e h =
      let fs = broken (finder d.table test) (kind_of d.table p) held v in
      subst (λ k. broken (finder d.table test) k held v ≡ []) e (none_here fs (sym (faults_settled (here fs) v) ∙ h))

  kept : (kind : ShapeKind) (v : Val) → kind_of d.table p ≡ kind → broken (finder d.table test) kind held v ≡ []
      → faults_in (leaf_reading c p (Ok v)) ≡ []
  kept kind v e h =
      let fs = broken (finder d.table test) (kind_of d.table p) held v in
      faults_settled (here fs) v ∙ ap here (subst (λ k. broken (finder d.table test) k held v ≡ []) (sym e) h)

  -- texts
  text_accepted : (kind : ShapeKind) (schema : Node) → kind_of d.table p ≡ kind
      → ((u : List ℕ) → accepts (asked_of test refers (text u) elements properties) schema
      ≡ is_nil (broken (finder d.table test) kind held (text_val u)))
      → (n : Node) → faults_in (leaf_reading c p (read_text n)) ≡ [] → Accepted n schema
  text_accepted kind schema e says (text u) h = by (is_utf8 u) h
    where
      by : (b : Bool) → faults_in (leaf_reading c p (cond b (Ok (text_val u)) (Err WrongType))) ≡ [] → Accepted (text u) schema
      by true g = says u ∙ is_nil_of (broken (finder d.table test) kind held (text_val u)) (clean kind (text_val u) e g)
      by false g = absurd cc
  text_accepted kind schema e says n h = absurd cc

  text_spelled : (kind : ShapeKind) (more : Members) → kind_of d.table p ≡ kind
      → ((u : List ℕ) → accepts (asked_of test refers (text u) elements properties) (typed (codes "string") more)
      ≡ is_nil (broken (finder d.table test) kind held (text_val u)))
      → (n : Node) → IsJson n → Accepted n (typed (codes "string") more) → faults_in (leaf_reading c p (read_text n)) ≡ []
  text_spelled kind more e says (text u) json h =
      ap (λ b. faults_in (leaf_reading c p (cond b (Ok (text_val u)) (Err WrongType)))) (is_utf8-from_IsUtf8 u json)
      ∙ kept kind (text_val u) e (nil_is (broken (finder d.table test) kind held (text_val u)) (sym (says u) ∙ h))
  text_spelled kind more e says n json h =
      absurd cc

  -- whole numbers
  number_accepted : (bits : ℕ) (kind : ShapeKind) (schema : Node) → kind_of d.table p ≡ kind
      → ((z : ℤ) → accepts (asked_of test refers (int z) elements properties) schema
      ≡ (fits_bits bits z && is_nil (broken (finder d.table test) kind held (int_val z))))
      → (n : Node) → faults_in (leaf_reading c p (read_number bits n)) ≡ [] → Accepted n schema
  number_accepted bits kind schema e says (int z) h = by (fits_bits bits z) refl h
    where
      by : (b : Bool) → fits_bits bits z ≡ b → faults_in (leaf_reading c p (cond b (Ok (int_val z)) (Err Width))) ≡ []
          → Accepted (int z) schema
      by true f g =
          says z ∙ and_from (fits_bits bits z) (is_nil (broken (finder d.table test) kind held (int_val z))) f
          (is_nil_of (broken (finder d.table test) kind held (int_val z)) (clean kind (int_val z) e g))
      by false f g = absurd cc
  number_accepted bits kind schema e says n h = absurd cc

  number_spelled : (bits : ℕ) (kind : ShapeKind) (more : Members) → kind_of d.table p ≡ kind
      → ((z : ℤ) → accepts (asked_of test refers (int z) elements properties) (typed (codes "integer") more)
      ≡ (fits_bits bits z && is_nil (broken (finder d.table test) kind held (int_val z))))
      → (n : Node) → HasNoNumber n → Accepted n (typed (codes "integer") more) → faults_in (leaf_reading c p (read_number bits n)) ≡ []
  number_spelled bits kind more e says (int z) none h =
      let w = and_parts (fits_bits bits z) (is_nil (broken (finder d.table test) kind held (int_val z))) (sym (says z) ∙ h) in
      ap (λ b. faults_in (leaf_reading c p (cond b (Ok (int_val z)) (Err Width)))) w.0
      ∙ kept kind (int_val z) e (nil_is (broken (finder d.table test) kind held (int_val z)) w.1)
  number_spelled bits kind more e says (number u) none h = absurd none
  number_spelled bits kind more e says n none h =
      absurd cc

  plain_number : (bits : ℕ) → 0 < 2 ^ (bits - 1) → (z : ℤ)
      → accepts (asked_of test refers (int z) elements properties) (whole_number bits held)
      ≡ (fits_bits bits z && is_nil (range_broken held z ++ []))
  plain_number bits some z =
      number_says test refers elements properties bits held z some
      ∙ ap (λ b. fits_bits bits z && b) (sym (nil_joined (range_broken held z) [] ∙ and_true (is_nil (range_broken held z))))

  boolean_accepted : (n : Node) → faults_in (leaf_reading c p (read_boolean n)) ≡ [] → Accepted n (typed (codes "boolean") no_members)
  boolean_accepted (bool b) h = refl
  boolean_accepted n h = absurd cc

  boolean_spelled : (n : Node) → kind_of d.table p ≡ kinds.Boolean → Accepted n (typed (codes "boolean") no_members)
      → faults_in (leaf_reading c p (read_boolean n)) ≡ []
  boolean_spelled (bool b) e h = kept kinds.Boolean (bool_val b) e refl
  boolean_spelled (number u) e h = absurd cc
  boolean_spelled n e h = absurd cc

  blob_accepted : (n : Node) → faults_in (leaf_reading c p (read_base64 n)) ≡ [] → Accepted n (typed (codes "string") no_members)
  blob_accepted (text u) h = refl
  blob_accepted n h = absurd cc

  time_accepted : (format : Format) (n : Node) → faults_in (leaf_reading c p (json_time format n)) ≡ []
      → Accepted n (typed (time_type format) no_members)
  time_accepted EpochSeconds (int z) h = refl
  time_accepted EpochSeconds (number u) h = refl
  time_accepted EpochSeconds null h = absurd cc
  time_accepted EpochSeconds (bool b) h = absurd cc
  time_accepted EpochSeconds (text u) h = absurd cc
  time_accepted EpochSeconds (bytes u) h = absurd cc
  time_accepted EpochSeconds (tag k n) h = absurd cc
  time_accepted EpochSeconds (opaque b) h = absurd cc
  time_accepted EpochSeconds (list ns) h = absurd cc
  time_accepted EpochSeconds (object ms) h = absurd cc
  time_accepted DateTime (text u) h = refl
  time_accepted DateTime n h = absurd cc
  time_accepted HttpDate (text u) h = refl
  time_accepted HttpDate n h = absurd cc

  pub leaf_accepted : (kind : ShapeKind) (n : Node) → kind_of d.table p ≡ kind
      → faults_in (leaf_by (sort_by kind (format_of d.table p)) c p n) ≡ [] → Accepted n (definition_by kind d p)
  leaf_accepted kinds.Blob n e h = blob_accepted n h
  leaf_accepted kinds.Boolean n e h = boolean_accepted n h
  leaf_accepted kinds.Text n e h =
      text_accepted kinds.Text (typed (codes "string") (text_keywords d.table held)) e
      (λ u. string_says test refers elements properties d.table held u) n h
  leaf_accepted kinds.Enum n e h =
      text_accepted kinds.Enum (typed (codes "string") (member (codes "enum") (list (text_nodes held.texts)) (text_keywords d.table held))) e
      (λ u. enum_says test refers elements properties d.table held u) n h
  leaf_accepted kinds.Byte n e h =
      number_accepted 8 kinds.Byte (whole_number 8 held) e (λ z. plain_number 8 (omega arith) z) n h
  leaf_accepted kinds.Short n e h =
      number_accepted 16 kinds.Short (whole_number 16 held) e (λ z. plain_number 16 (omega arith) z) n h
  leaf_accepted kinds.Integer n e h =
      number_accepted 32 kinds.Integer (whole_number 32 held) e (λ z. plain_number 32 (omega arith) z) n h
  leaf_accepted kinds.IntEnum n e h =
      number_accepted 32 kinds.IntEnum
      (typed (codes "integer") (member (codes "enum") (list (number_nodes held.numbers)) (range_keywords 32 held))) e
      (λ z. number_enum_says test refers elements properties d.table held z) n h
  leaf_accepted kinds.Long n e h =
      number_accepted 64 kinds.Long (whole_number 64 held) e (λ z. plain_number 64 (omega arith) z) n h
  leaf_accepted kinds.Timestamp n e h = time_accepted (unwrap_or (format_of d.table p) EpochSeconds) n h
  leaf_accepted kinds.List n e h = absurd cc
  leaf_accepted kinds.Map n e h = absurd cc
  leaf_accepted kinds.Structure n e h = absurd cc
  leaf_accepted kinds.Union n e h = absurd cc
  leaf_accepted kinds.LeftOut n e h = absurd cc

  other_type : (a b : Bool) → a ≡ false → (a && b) ≡ true → ⊥
  other_type true b e h = cc
  other_type false b e h = cc

  pub leaf_spelled : (kind : ShapeKind) (n : Node) → kind_of d.table p ≡ kind → (kind_of d.table p ≡ kinds.Blob → ⊥)
      → (kind_of d.table p ≡ kinds.Timestamp → ⊥) → IsOther kind n → IsJson n → HasNoNumber n → Accepted n (definition_by kind d p)
      → faults_in (leaf_by (sort_by kind (format_of d.table p)) c p n) ≡ []
  leaf_spelled kinds.Blob n e blob time other json none h = absurd (blob e)
  leaf_spelled kinds.Boolean n e blob time other json none h = boolean_spelled n e h
  leaf_spelled kinds.Text n e blob time other json none h =
      text_spelled kinds.Text (text_keywords d.table held) e (λ u. string_says test refers elements properties d.table held u) n json h
  leaf_spelled kinds.Enum n e blob time other json none h =
      text_spelled kinds.Enum (member (codes "enum") (list (text_nodes held.texts)) (text_keywords d.table held)) e
      (λ u. enum_says test refers elements properties d.table held u) n json h
  leaf_spelled kinds.Byte n e blob time other json none h =
      number_spelled 8 kinds.Byte (range_keywords 8 held) e (λ z. plain_number 8 (omega arith) z) n none h
  leaf_spelled kinds.Short n e blob time other json none h =
      number_spelled 16 kinds.Short (range_keywords 16 held) e (λ z. plain_number 16 (omega arith) z) n none h
  leaf_spelled kinds.Integer n e blob time other json none h =
      number_spelled 32 kinds.Integer (range_keywords 32 held) e (λ z. plain_number 32 (omega arith) z) n none h
  leaf_spelled kinds.IntEnum n e blob time other json none h =
      number_spelled 32 kinds.IntEnum (member (codes "enum") (list (number_nodes held.numbers)) (range_keywords 32 held)) e
      (λ z. number_enum_says test refers elements properties d.table held z) n none h
  leaf_spelled kinds.Long n e blob time other json none h =
      number_spelled 64 kinds.Long (range_keywords 64 held) e (λ z. plain_number 64 (omega arith) z) n none h
  leaf_spelled kinds.Timestamp n e blob time other json none h = absurd (time e)
  leaf_spelled kinds.List n e blob time other json none h = absurd (other_type (is_of_type (codes "array") n) _ other h)
  leaf_spelled kinds.Map n e blob time other json none h = absurd (other_type (is_of_type (codes "object") n) _ other h)
  leaf_spelled kinds.Structure n e blob time other json none h = absurd (other_type (is_of_type (codes "object") n) _ other h)
  leaf_spelled kinds.Union n e blob time other json none h = absurd (other_type (is_of_type (codes "object") n) _ other h)
  leaf_spelled kinds.LeftOut n e blob time other json none h = absurd cc
