-- What a reference leads to: the definition of the place for which it was written.
use Rattle.std.proofs.Common.{◌≡◌, ℕ, suc, ◌+◌, ◌^◌, ◌<◌, ◌≤◌, ◌==◌, Bool, true, false, ◌&&◌, ◌||◌, cond, Some, List}
use Rattle.std.proofs.Common.{[], ◌∷◌, length, codes, refl, sym, ap, ◌∙◌, arith, decimal, if◌then◌else◌}
use Rattle.std.specs.Str.{bytes_eq}
use Rattle.std.proofs.lemmas.Bool.{and_parts, and_left, false_from_ne_true}
use Rattle.std.proofs.lemmas.Fmt.{decimal_injective}
use Rattle.std.proofs.lemmas.Slice.Eq.{bytes_eq-Decides}
use Rattle.sm_tree.specs.Node.{Node, Members, null, bool, int, number, text, bytes, tag, opaque, list, object}
use Rattle.sm_tree.specs.Node.{no_members, member}
use Rattle.sm_tree.specs.Parts.{tree_named}
use Rattle.sm_tree.specs.Size.{node_size}
use Rattle.sm_shapes.specs.Fitting.{Test}
use Rattle.sm_shapes.specs.Places.{Place, kind_of, format_of}
use Rattle.sm_codec.specs.Named.{is_null}
use Rattle.sm_shapes.specs.declared.kinds.ShapeKind.{ShapeKind}
use Rattle.sm_shapes.specs.declared.kinds.ShapeKind.TheVariants as kinds
use Rattle.sm_time.specs.declared.format.Format.{Format}
use Rattle.sm_time.specs.declared.format.Format.TheVariants.{DateTime, HttpDate, EpochSeconds}
use Rattle.sm_schema.specs.Decimals.{decimal_of, is_whole}
use Rattle.sm_schema.specs.Keywords.{Instance, is_of_type}
use Rattle.sm_schema.specs.Valid.{Asked, accepts, all_hold, asked, refers_by, accepts_referred}
use Rattle.sm_schema.specs.Definitions.{defined_place, number_in, has_place, same_place, Listing, definition_name, reference}
use Rattle.sm_schema.specs.Described.{definition, definition_by, definitions, schema_tree, nullable, typed, time_type}
use Rattle.sm_schema.proofs.Comparisons.{and_true}
use Rattle.sm_schema.proofs.PlacesListed.{IsListed, place_is, definition_same}
use Rattle.std.specs.Prelude.{unwrap_or}

-- definitions under different numbers have different names
cut : (m n : ℕ) → definition_name m ≡ definition_name n → decimal m ≡ decimal n
cut m n h = cc

names_differ : (k m : ℕ) → k + suc m < 2 ^ 64 → bytes_eq (definition_name k) (definition_name (k + suc m)) ≡ false
names_differ k m few = false_from_ne_true (bytes_eq (definition_name k) (definition_name (k + suc m)))
    (λ h. below (decimal_injective k (k + suc m) (omega (arith, few)) few
    (cut k (k + suc m) ((bytes_eq-Decides (definition_name k) (definition_name (k + suc m))).0 h))))
  where
    below : k ≡ k + suc m → ⊥
    below e = omega (arith, e)

number_within : (ps : List Place) (p : Place) → has_place p ps ≡ true → number_in ps p < length ps
number_within [] p h = absurd cc
number_within (q ∷ ps) p h = by (same_place q p) refl (λ g. number_within ps p g)
  where
    by : (b : Bool) → same_place q p ≡ b → (has_place p ps ≡ true → number_in ps p < length ps)
        → cond b 0 (suc (number_in ps p)) < suc (length ps)
    by true e more = omega arith
    by false e more = omega (arith, more (ap (λ b. b || has_place p ps) (sym e) ∙ h))

-- the definition of a place stands under its number
found : (d : Listing) (k : ℕ) (ps : List Place) (p : Place) → has_place p ps ≡ true → k + length ps ≤ 2 ^ 64
    → tree_named (definition_name (k + number_in ps p)) (definitions d k ps) ≡ Some (definition d p)
found d k [] p h few = absurd cc
found d k (q ∷ ps) p h few = by (same_place q p) refl (λ g l. found d (suc k) ps p g l)
  where
    by : (b : Bool) → same_place q p ≡ b
        → (has_place p ps ≡ true → suc k + length ps ≤ 2 ^ 64
        → tree_named (definition_name (suc k + number_in ps p)) (definitions d (suc k) ps) ≡ Some (definition d p))
        → tree_named (definition_name (k + cond b 0 (suc (number_in ps p)))) (definitions d k (q ∷ ps)) ≡ Some (definition d p)
    by true e more =
        ap (λ b. if b then Some (definition d q) else tree_named (definition_name (k + 0)) (definitions d (suc k) ps))
        ((bytes_eq-Decides (definition_name k) (definition_name (k + 0))).1 (ap definition_name (omega arith)))
        ∙ ap (λ x. Some (definition d x)) (place_is q p e)
    by false e more =
        let there : has_place p ps ≡ true = ap (λ b. b || has_place p ps) (sym e) ∙ h in
        let n = number_in ps p in
        ap (λ b. if b then Some (definition d q) else tree_named (definition_name (k + suc n)) (definitions d (suc k) ps))
        (names_differ k n (omega (arith, number_within ps p there, few)))
        ∙ ap (λ m. tree_named (definition_name m) (definitions d (suc k) ps)) (omega arith)
        ∙ more there (omega (arith, few))

-- a definition with a type accepts no tree of another
pub of_its_type : (x : Asked) (name : List ℕ) (more : Members) → accepts x (typed name more) ≡ true → is_of_type name x.instance.tree ≡ true
of_its_type x name more h =
    (and_parts (is_of_type name x.instance.tree) (all_hold x (member (codes "type") (text name) more) more) h).0

time_refuses : (x : Asked) (format : Format) → x.instance.tree ≡ null → accepts x (typed (time_type format) no_members) ≡ false
time_refuses x DateTime h = and_left (is_of_type (codes "string") x.instance.tree) true (ap (is_of_type (codes "string")) h)
time_refuses x HttpDate h = and_left (is_of_type (codes "string") x.instance.tree) true (ap (is_of_type (codes "string")) h)
time_refuses x EpochSeconds h = and_left (is_of_type (codes "number") x.instance.tree) true (ap (is_of_type (codes "number")) h)

-- no definition accepts null
not_null : (x : Asked) (d : Listing) (p : Place) (kind : ShapeKind) → x.instance.tree ≡ null → accepts x (definition_by kind d p) ≡ false
not_null x d p kinds.Blob h = and_left (is_of_type (codes "string") x.instance.tree) _ (ap (is_of_type (codes "string")) h)
not_null x d p kinds.Boolean h = and_left (is_of_type (codes "boolean") x.instance.tree) _ (ap (is_of_type (codes "boolean")) h)
not_null x d p kinds.Text h = and_left (is_of_type (codes "string") x.instance.tree) _ (ap (is_of_type (codes "string")) h)
not_null x d p kinds.Enum h = and_left (is_of_type (codes "string") x.instance.tree) _ (ap (is_of_type (codes "string")) h)
not_null x d p kinds.Byte h = and_left (is_of_type (codes "integer") x.instance.tree) _ (ap (is_of_type (codes "integer")) h)
not_null x d p kinds.Short h = and_left (is_of_type (codes "integer") x.instance.tree) _ (ap (is_of_type (codes "integer")) h)
not_null x d p kinds.Integer h = and_left (is_of_type (codes "integer") x.instance.tree) _ (ap (is_of_type (codes "integer")) h)
not_null x d p kinds.IntEnum h = and_left (is_of_type (codes "integer") x.instance.tree) _ (ap (is_of_type (codes "integer")) h)
not_null x d p kinds.Long h = and_left (is_of_type (codes "integer") x.instance.tree) _ (ap (is_of_type (codes "integer")) h)
not_null x d p kinds.Timestamp h = time_refuses x (unwrap_or (format_of d.table p) EpochSeconds) h
not_null x d p kinds.List h = and_left (is_of_type (codes "array") x.instance.tree) _ (ap (is_of_type (codes "array")) h)
not_null x d p kinds.Map h = and_left (is_of_type (codes "object") x.instance.tree) _ (ap (is_of_type (codes "object")) h)
not_null x d p kinds.Structure h = and_left (is_of_type (codes "object") x.instance.tree) _ (ap (is_of_type (codes "object")) h)
not_null x d p kinds.Union h = and_left (is_of_type (codes "object") x.instance.tree) _ (ap (is_of_type (codes "object")) h)
not_null x d p kinds.LeftOut h = refl

null_type : (n : Node) → is_of_type (codes "null") n ≡ is_null n
null_type null = refl
null_type (bool b) = refl
null_type (int z) = refl
null_type (number u) = by (is_whole (decimal_of u))
  where
    by : (b : Bool) → ((false && b) || false) ≡ false
    by b = refl
null_type (text u) = refl
null_type (bytes u) = refl
null_type (tag k n) = refl
null_type (opaque b) = refl
null_type (list ns) = refl
null_type (object ms) = refl

alone : (r : Bool) → (((cond r 1 0 + (0 + 0)) == 1) && true) ≡ r
alone true = refl
alone false = refl

module _ (d : Listing) (test : Test) (few : length d.places < 2 ^ 64) where
  -- what an instance is asked with behind one reference
  abbrev pub behind : Instance → Asked
  behind i = record { test = test; refers = λ w. refers_by test (schema_tree d) i (node_size (schema_tree d)) w; instance = i }

  -- a reference says what the definition says
  pub refers_to : (i : Instance) (p : Place) → IsListed d.table d.places p
      → accepts (asked test (schema_tree d) i) (reference d p) ≡ accepts (behind i) (definition d p)
  refers_to i p listed =
      and_true (accepts_referred (behind i) (tree_named (definition_name (number_in d.places (defined_place d.table p)))
      (definitions d 0 d.places)))
      ∙ ap (accepts_referred (behind i))
      (ap (λ m. tree_named (definition_name m) (definitions d 0 d.places)) (omega arith)
      ∙ found d 0 d.places (defined_place d.table p) listed (omega (arith, few)))
      ∙ ap (accepts (behind i)) (definition_same d p)

  -- the whole schema says what the first definition says
  pub whole_says : (i : Instance) (p : Place) (ps : List Place) → d.places ≡ p ∷ ps
      → accepts (asked test (schema_tree d) i) (schema_tree d) ≡ accepts (behind i) (definition d p)
  whole_says i p ps first =
      and_true (accepts_referred (behind i) (tree_named (definition_name 0) (definitions d 0 d.places)))
      ∙ ap (λ all. accepts_referred (behind i) (tree_named (definition_name 0) (definitions d 0 all))) first
      ∙ ap (λ b. accepts_referred (behind i) (if b then Some (definition d p) else tree_named (definition_name 0) (definitions d 1 ps)))
      ((bytes_eq-Decides (definition_name 0) (definition_name 0)).1 refl)

  -- and accepts no null
  pub refuses_null : (i : Instance) (p : Place) → IsListed d.table d.places p → i.tree ≡ null
      → accepts (asked test (schema_tree d) i) (reference d p) ≡ false
  refuses_null i p listed h = refers_to i p listed ∙ not_null (behind i) d p (kind_of d.table p) h

  -- where null may stand, null is accepted, and all else as without
  pub takes_null : (i : Instance) (p : Place) → IsListed d.table d.places p → i.tree ≡ null
      → accepts (asked test (schema_tree d) i) (nullable (reference d p)) ≡ true
  takes_null i p listed h =
      ap (λ r. ((cond r 1 0 + (cond (is_of_type (codes "null") i.tree && true) 1 0 + 0)) == 1) && true) (refuses_null i p listed h)
      ∙ ap (λ n. ((0 + (cond (is_of_type (codes "null") n && true) 1 0 + 0)) == 1) && true) h

  pub takes_other : (i : Instance) (p : Place) → is_null i.tree ≡ false
      → accepts (asked test (schema_tree d) i) (nullable (reference d p)) ≡ accepts (asked test (schema_tree d) i) (reference d p)
  takes_other i p h =
      let r = accepts (asked test (schema_tree d) i) (reference d p) in
      ap (λ b. ((cond r 1 0 + (cond (b && true) 1 0 + 0)) == 1) && true) (null_type i.tree ∙ h) ∙ alone r
