-- What the definitions of simple values say of a tree, and that it is what the place asks for.
use Rattle.std.proofs.Common.{◌≡◌, ℕ, ◌-◌, ◌^◌, ◌<◌, ℤ, pos, Bool, true, false, ◌&&◌, ◌||◌, Option, Some, None, List, [], ◌∷◌, ◌++◌}
use Rattle.std.proofs.Common.{length, int_le, int_eq, refl, sym, ap, ◌∙◌, arith, codes}
use Rattle.std.specs.List.{list_any}
use Rattle.std.specs.Str.{bytes_eq, chars}
use Rattle.sm_tree.specs.Node.{Node, Members, int, text, list}
use Rattle.sm_tree.specs.Node.{member}
use Rattle.sm_shapes.specs.Values.{int_val, text_val}
use Rattle.sm_shapes.specs.TableData.{TableData, ConstraintData, pattern_at}
use Rattle.sm_shapes.specs.Broken.{is_at_least, is_at_most, is_between, unless, length_broken, range_broken, pattern_broken, broken}
use Rattle.sm_shapes.specs.Fitting.{Test, finder}
use Rattle.sm_shapes.specs.declared.kinds.ShapeKind.TheVariants as kinds
use Rattle.sm_shapes.specs.declared.fault.FaultKind.{FaultKind}
use Rattle.sm_shapes.specs.declared.fault.FaultKind.TheVariants.{Length, Range, Pattern, Enum}
use Rattle.sm_codec.specs.Convention.{fits_bits}
use Rattle.sm_schema.specs.Decimals.{number_le}
use Rattle.sm_schema.specs.Keywords.{Part, Property, is_among}
use Rattle.sm_schema.specs.Valid.{Asked, accepts, all_hold}
use Rattle.sm_schema.specs.Described.{with_bound, with_pattern, text_keywords, text_nodes, number_nodes, range_keywords, typed, whole_number}
use Rattle.sm_schema.specs.Described.{narrow_min, narrow_max, least_of, greatest_of}
use Rattle.sm_schema.proofs.Comparisons.{and_true, ints_le, ints_same, narrowed}

abbrev pub is_nil : {A : Type 0} → List A → Bool
is_nil [] = true
is_nil (x ∷ xs) = false

pub nil_is : {A : Type 0} (xs : List A) → is_nil xs ≡ true → xs ≡ []
nil_is [] h = refl
nil_is (x ∷ xs) h = absurd cc

pub is_nil_of : {A : Type 0} (xs : List A) → xs ≡ [] → is_nil xs ≡ true
is_nil_of xs h = ap is_nil h

pub nil_joined : {A : Type 0} (xs ys : List A) → is_nil (xs ++ ys) ≡ (is_nil xs && is_nil ys)
nil_joined [] ys = refl
nil_joined (x ∷ xs) ys = refl

pub nil_unless : (b : Bool) (kind : FaultKind) → is_nil (unless b kind) ≡ b
nil_unless true kind = refl
nil_unless false kind = refl

-- what is asked with a tree by itself
abbrev pub asked_of : Test → (List ℕ → Bool) → Node → List Part → List Property → Asked
asked_of test refers n elements properties =
    record { test = test; refers = refers; instance = record { tree = n; elements = elements; properties = properties } }

module _ (test : Test) (refers : List ℕ → Bool) (elements : List Part) (properties : List Property) where
  abbrev at_tree : Node → Asked
  at_tree n = asked_of test refers n elements properties

  least_length : (beside more : Members) (o : Option ℤ) (u : List ℕ)
      → all_hold (at_tree (text u)) beside (with_bound (codes "minLength") o more)
      ≡ (is_at_least o (pos (length (chars u))) && all_hold (at_tree (text u)) beside more)
  least_length beside more None u = refl
  least_length beside more (Some z) u =
      ap (λ b. b && all_hold (at_tree (text u)) beside more) (ints_le z (pos (length (chars u))))

  greatest_length : (beside more : Members) (o : Option ℤ) (u : List ℕ)
      → all_hold (at_tree (text u)) beside (with_bound (codes "maxLength") o more)
      ≡ (is_at_most o (pos (length (chars u))) && all_hold (at_tree (text u)) beside more)
  greatest_length beside more None u = refl
  greatest_length beside more (Some z) u =
      ap (λ b. b && all_hold (at_tree (text u)) beside more) (ints_le (pos (length (chars u))) z)

  pattern_found : (beside : Members) (t : TableData) (o : Option ℕ) (u : List ℕ)
      → all_hold (at_tree (text u)) beside (with_pattern t o) ≡ is_nil (pattern_broken (finder t test) o u)
  pattern_found beside t None u = refl
  pattern_found beside t (Some n) u = and_true (test (pattern_at t n) u) ∙ sym (nil_unless (test (pattern_at t n) u) Pattern)

  text_parts : (beside : Members) (t : TableData) (c : ConstraintData) (u : List ℕ)
      → all_hold (at_tree (text u)) beside (text_keywords t c)
      ≡ (is_at_least c.min (pos (length (chars u))) && (is_at_most c.max (pos (length (chars u)))
      && is_nil (pattern_broken (finder t test) c.pattern u)))
  text_parts beside t c u =
      least_length beside (with_bound (codes "maxLength") c.max (with_pattern t c.pattern)) c.min u
      ∙ ap (λ b. is_at_least c.min (pos (length (chars u))) && b)
      (greatest_length beside (with_pattern t c.pattern) c.max u
      ∙ ap (λ b. is_at_most c.max (pos (length (chars u))) && b) (pattern_found beside t c.pattern u))

  plain_text : (a b p : Bool) → (a && (b && p)) ≡ (((a && b) && p) && true)
  plain_text true true true = refl
  plain_text true true false = refl
  plain_text true false p = refl
  plain_text false b p = refl

  enum_text : (e a b p : Bool) → (e && (a && (b && p))) ≡ (((a && b) && p) && e)
  enum_text true true true true = refl
  enum_text true true true false = refl
  enum_text true true false p = refl
  enum_text true false b p = refl
  enum_text false true true true = refl
  enum_text false true true false = refl
  enum_text false true false p = refl
  enum_text false false b p = refl

  broken_parts : (l p e : List FaultKind) (b : Bool) → is_nil l ≡ b → is_nil ((l ++ p) ++ e) ≡ ((b && is_nil p) && is_nil e)
  broken_parts l p e b h =
      nil_joined (l ++ p) e ∙ ap (λ x. x && is_nil e) (nil_joined l p ∙ ap (λ x. x && is_nil p) h)

  -- a text at a place of strings
  pub string_says : (t : TableData) (c : ConstraintData) (u : List ℕ)
      → accepts (at_tree (text u)) (typed (codes "string") (text_keywords t c))
      ≡ is_nil (broken (finder t test) kinds.Text c (text_val u))
  string_says t c u =
      let n = pos (length (chars u)) in
      text_parts (member (codes "type") (text (codes "string")) (text_keywords t c)) t c u
      ∙ plain_text (is_at_least c.min n) (is_at_most c.max n) (is_nil (pattern_broken (finder t test) c.pattern u))
      ∙ sym (broken_parts (length_broken c (length (chars u))) (pattern_broken (finder t test) c.pattern u) [] (is_between c n)
      (nil_unless (is_between c n) Length))

  values_found : (us : List (List ℕ)) (u : List ℕ) → is_among (text_nodes us) (text u) ≡ list_any (λ w. bytes_eq w u) us
  values_found [] u = refl
  values_found (w ∷ us) u = ap (λ b. bytes_eq w u || b) (values_found us u)

  -- at one of enums
  pub enum_says : (t : TableData) (c : ConstraintData) (u : List ℕ)
      → accepts (at_tree (text u)) (typed (codes "string") (member (codes "enum") (list (text_nodes c.texts)) (text_keywords t c)))
      ≡ is_nil (broken (finder t test) kinds.Enum c (text_val u))
  enum_says t c u =
      let n = pos (length (chars u)) in
      let e = list_any (λ w. bytes_eq w u) c.texts in
      let all = member (codes "type") (text (codes "string")) (member (codes "enum") (list (text_nodes c.texts)) (text_keywords t c)) in
      ap (λ b. b && all_hold (at_tree (text u)) all (text_keywords t c)) (values_found c.texts u)
      ∙ ap (λ b. e && b) (text_parts all t c u)
      ∙ enum_text e (is_at_least c.min n) (is_at_most c.max n) (is_nil (pattern_broken (finder t test) c.pattern u))
      ∙ ap (λ b. (is_between c n && is_nil (pattern_broken (finder t test) c.pattern u)) && b) (sym (nil_unless e Enum))
      ∙ sym (broken_parts (length_broken c (length (chars u))) (pattern_broken (finder t test) c.pattern u) (unless e Enum)
      (is_between c n) (nil_unless (is_between c n) Length))

  range_parts : (beside : Members) (bits : ℕ) (c : ConstraintData) (z : ℤ) → 0 < 2 ^ (bits - 1)
      → all_hold (at_tree (int z)) beside (range_keywords bits c) ≡ (fits_bits bits z && is_between c z)
  range_parts beside bits c z some =
      let low = narrow_min (least_of bits) c.min in
      let high = narrow_max (greatest_of bits) c.max in
      ap (λ b. b && (number_le (int z) (int high) && true)) (ints_le low z)
      ∙ ap (λ b. int_le low z && (b && true)) (ints_le z high)
      ∙ ap (λ b. int_le low z && b) (and_true (int_le z high))
      ∙ narrowed bits c z some

  -- an integer at a place of whole numbers
  pub number_says : (bits : ℕ) (c : ConstraintData) (z : ℤ) → 0 < 2 ^ (bits - 1)
      → accepts (at_tree (int z)) (whole_number bits c) ≡ (fits_bits bits z && is_nil (range_broken c z))
  number_says bits c z some =
      range_parts (member (codes "type") (text (codes "integer")) (range_keywords bits c)) bits c z some
      ∙ ap (λ b. fits_bits bits z && b) (sym (nil_unless (is_between c z) Range))

  numbers_found : (zs : List ℤ) (z : ℤ) → is_among (number_nodes zs) (int z) ≡ list_any (λ w. int_eq w z) zs
  numbers_found [] z = refl
  numbers_found (w ∷ zs) z =
      ap (λ b. b || is_among (number_nodes zs) (int z)) (ints_same w z) ∙ ap (λ b. int_eq w z || b) (numbers_found zs z)

  enum_number : (e a b : Bool) → (e && (a && b)) ≡ (a && (b && e))
  enum_number true true true = refl
  enum_number true true false = refl
  enum_number true false b = refl
  enum_number false true true = refl
  enum_number false true false = refl
  enum_number false false b = refl

  -- at one of enums of numbers
  pub number_enum_says : (t : TableData) (c : ConstraintData) (z : ℤ)
      → accepts (at_tree (int z)) (typed (codes "integer") (member (codes "enum") (list (number_nodes c.numbers)) (range_keywords 32 c)))
      ≡ (fits_bits 32 z && is_nil (broken (finder t test) kinds.IntEnum c (int_val z)))
  number_enum_says t c z =
      let e = list_any (λ w. int_eq w z) c.numbers in
      let all = member (codes "type") (text (codes "integer")) (member (codes "enum") (list (number_nodes c.numbers)) (range_keywords 32 c)) in
      ap (λ b. b && all_hold (at_tree (int z)) all (range_keywords 32 c)) (numbers_found c.numbers z)
      ∙ ap (λ b. e && b) (range_parts all 32 c z (omega arith))
      ∙ enum_number e (fits_bits 32 z) (is_between c z)
      ∙ ap (λ b. fits_bits 32 z && b) (ap (λ b. is_between c z && b) (sym (nil_unless e Enum))
      ∙ ap (λ b. b && is_nil (unless e Enum)) (sym (nil_unless (is_between c z) Range))
      ∙ sym (nil_joined (range_broken c z) (unless e Enum)))
