-- An object at a place of unions: without a fault it is accepted, and accepted it has none.
use Rattle.std.proofs.Common.{◌≡◌, ◌⊎◌, inl, inr, ℕ, ◌+◌, ◌^◌, ◌<◌, ◌==◌, Bool, true, false, ◌&&◌, not, cond, Some, None}
use Rattle.std.proofs.Common.{is_some, List, [], ◌∷◌, ◌++◌, length, map, refl, sym, ap, ◌∙◌, subst, arith, if◌then◌else◌}
use Rattle.std.specs.Prelude.{Ok}
use Rattle.std.specs.Str.{bytes_eq}
use Rattle.std.proofs.lemmas.Bool.{and_parts, and_from, eqb-true}
use Rattle.std.proofs.lemmas.Slice.Eq.{bytes_eq-Decides}
use Rattle.sm_tree.specs.Node.{Node, Members, object, no_members, member}
use Rattle.sm_tree.specs.Parts.{tree_named}
use Rattle.sm_tree.specs.Same.{HasPair, AreDistinct}
use Rattle.sm_tree.specs.declared.path.Step.TheVariants.{Member}
use Rattle.sm_shapes.specs.Fitting.{Test}
use Rattle.sm_shapes.specs.Names.{AllDiffer}
use Rattle.sm_shapes.specs.Places.{Place, member_place, shape_of, members_of_place}
use Rattle.sm_shapes.specs.TableData.{name_at}
use Rattle.sm_shapes.specs.Values.{Val}
use Rattle.sm_shapes.specs.declared.fault.FaultKind.TheVariants.{UnionCount}
use Rattle.sm_codec.specs.Codec.{Codec, InTable}
use Rattle.sm_codec.specs.FaultLists.{FaultAt, under, faults_in}
use Rattle.sm_codec.specs.Named.{is_null}
use Rattle.sm_codec.specs.Readings.{Child, child_of, children_of, named_children, one_here, under_names, repeated_faults, repeats, standing}
use Rattle.sm_codec.specs.Readings.{all_standing, standing_faults, union_faults, standing_fields, union_reading_of, union_reading, reading}
use Rattle.sm_codec.specs.Readings.{member_fields, present_reading}
use Rattle.sm_codec.proofs.NoFaults.{none_joined, none_under, clean_reading, reading_is}
use Rattle.sm_schema.specs.Equal.{trees_named}
use Rattle.sm_schema.specs.Keywords.{accepted_by}
use Rattle.sm_schema.specs.Valid.{accepts, how_many}
use Rattle.sm_schema.specs.Definitions.{Listing, reference}
use Rattle.sm_schema.specs.Described.{nullable, name_of, schemas_under, choice_schema, choice, choices, union_definition}
use Rattle.sm_schema.specs.SchemaLaws.{AllTold}
use Rattle.sm_schema.proofs.Comparisons.{and_true, alike}
use Rattle.sm_schema.proofs.Pairs.{AllPairs, of_pair, pair_of, alone_named, never_two, first_named, children_named}
use Rattle.sm_schema.proofs.PlacesListed.{IsListed, IsOne}
use Rattle.sm_schema.proofs.Instances.{root, codec, asked_by, says, IsAccepted, IsClean, referred, unreferred, null_refused, null_taken}
use Rattle.sm_schema.proofs.Instances.{other_taken}
use Rattle.sm_schema.proofs.MemberNames.{schema_found, schema_of_member}
use Rattle.sm_schema.proofs.Properties.{property_of, all_properties, each_property}
use Rattle.sm_schema.proofs.Structures.{pass, trees_at}

-- one tree stands, and it isn't null
abbrev is_standing : List Node → Bool
is_standing [] = false
is_standing (n ∷ []) = not (is_null n)
is_standing (n ∷ m ∷ ns) = false

clash : (b : Bool) → b ≡ true → b ≡ false → ⊥
clash b x y = cc

module _ (d : Listing) (test : Test) (few : length d.places < 2 ^ 64) where
  abbrev c : Codec
  c = codec d test few

  abbrev counted : (List ℕ → Bool) → Members → ℕ → List ℕ → ℕ
  counted refers ms s ks = how_many (asked_by d test few refers (object ms)) (choices d s ks)

  union_says : (refers : List ℕ → Bool) (ms : Members) (p : Place)
      → accepts (asked_by d test few refers (object ms)) (union_definition d p)
      ≡ (pass d test few ms (schemas_under d (shape_of d.table p) (choice_schema d) (members_of_place d.table p))
      && (counted refers ms (shape_of d.table p) (members_of_place d.table p) == 1))
  union_says refers ms p =
      ap (λ b. pass d test few ms (schemas_under d (shape_of d.table p) (choice_schema d) (members_of_place d.table p)) && b)
      (and_true (counted refers ms (shape_of d.table p) (members_of_place d.table p) == 1))

  abbrev alone : ℕ → ℕ → Members
  alone s k = member (name_of d s k) (reference d (member_place k)) no_members

  -- a choice passes where its member stands
  passes_alone : (ms : Members) (s k : ℕ) (n : Node) → AreDistinct ms → HasPair (name_of d s k) n ms
      → pass d test few ms (alone s k) ≡ says d test few n (reference d (member_place k))
  passes_alone ms s k n distinct pair = alike (pass d test few ms (alone s k)) (says d test few n (reference d (member_place k)))
      (λ h. sym (own name n ((bytes_eq-Decides name name).1 refl))
      ∙ each_property test (root d test few) (λ q. accepted_by (tree_named q.name (alone s k)) q.value) ms h name n pair)
      (λ h. all_properties test (root d test few) (λ q. accepted_by (tree_named q.name (alone s k)) q.value) ms
      (λ other m is. other_pair other m (bytes_eq name other) refl is h))
    where
      name : List ℕ
      name = name_of d s k

      own : (other : List ℕ) (m : Node) → bytes_eq name other ≡ true
          → accepted_by (tree_named other (alone s k)) (property_of test (root d test few) other m).value
          ≡ says d test few m (reference d (member_place k))
      own other m e =
          ap (λ b. accepted_by (if b then Some (reference d (member_place k)) else None) (property_of test (root d test few) other m).value) e

      one : (x y : Node) → x ∷ [] ≡ y ∷ [] → x ≡ y
      one x y e = cc

      other_pair : (other : List ℕ) (m : Node) (b : Bool) → bytes_eq name other ≡ b → HasPair other m ms
          → says d test few n (reference d (member_place k)) ≡ true
          → accepted_by (tree_named other (alone s k)) (property_of test (root d test few) other m).value ≡ true
      other_pair other m true e is h =
          let same = (bytes_eq-Decides name other).0 e in
          own other m e
          ∙ subst (λ x. says d test few x (reference d (member_place k)) ≡ true)
          (one n m (sym (alone_named name n ms distinct pair) ∙ ap (λ x. trees_named x ms) same ∙ alone_named other m ms distinct is)) h
      other_pair other m false e is h =
          ap (λ b. accepted_by (if b then Some (reference d (member_place k)) else None) (property_of test (root d test few) other m).value) e

  -- a choice is accepted where its member stands and isn't null
  choice_says : (refers : List ℕ → Bool) (p : Place) (ms : Members) (k : ℕ) (ns : List Node) → AreDistinct ms
      → IsListed d.table d.places (member_place k)
      → ((n : Node) → trees_at d test few p ms k ≡ n ∷ [] → is_null n ≡ false → says d test few n (reference d (member_place k)) ≡ true)
      → trees_at d test few p ms k ≡ ns
      → accepts (asked_by d test few refers (object ms)) (choice d (shape_of d.table p) k) ≡ is_standing ns
  choice_says refers p ms k [] distinct listed taken e =
      ap (λ o. pass d test few ms (alone (shape_of d.table p) k) && ((is_some o && true) && true))
      (first_named (name_of d (shape_of d.table p) k) ms [] e) ∙ gone (pass d test few ms (alone (shape_of d.table p) k))
    where
      gone : (b : Bool) → (b && false) ≡ false
      gone true = refl
      gone false = refl
  choice_says refers p ms k (n ∷ []) distinct listed taken e =
      ap (λ o. pass d test few ms (alone (shape_of d.table p) k) && ((is_some o && true) && true))
      (first_named (name_of d (shape_of d.table p) k) ms (n ∷ []) e)
      ∙ and_true (pass d test few ms (alone (shape_of d.table p) k))
      ∙ passes_alone ms (shape_of d.table p) k n distinct (pair_of (name_of d (shape_of d.table p) k) n [] ms e)
      ∙ by (is_null n) refl
    where
      refused : (b : Bool) → b ≡ says d test few n (reference d (member_place k)) → is_null n ≡ true → b ≡ false
      refused true f g = absurd (null_refused d test few n (member_place k) listed g (sym f))
      refused false f g = refl

      by : (b : Bool) → is_null n ≡ b → says d test few n (reference d (member_place k)) ≡ not b
      by true g = refused (says d test few n (reference d (member_place k))) refl g
      by false g = taken n e g
  choice_says refers p ms k (n ∷ m ∷ ns) distinct listed taken e =
      absurd (never_two (name_of d (shape_of d.table p) k) n m ns ms distinct e)

  abbrev stands : Place → Members → ℕ → List Child
  stands p ms = under_names c p (named_children c ms)

  stands_are : (p : Place) (ms : Members) (k : ℕ) (ns : List Node) → trees_at d test few p ms k ≡ ns → stands p ms k ≡ children_of c ns
  stands_are p ms k ns e = children_named c (name_of d (shape_of d.table p) k) ms ∙ ap (children_of c) e

  one_more : (k : ℕ) (ns : List Node) (rest : List (ℕ × Child))
      → length (standing k (children_of c ns) ++ rest) ≡ (cond (is_standing ns) 1 0 + length rest)
  one_more k [] rest = omega arith
  one_more k (n ∷ []) rest = by (is_null n)
    where
      by : (b : Bool) → length (cond b [] ((k, child_of c n) ∷ []) ++ rest) ≡ (cond (not b) 1 0 + length rest)
      by true = omega arith
      by false = omega arith
  one_more k (n ∷ m ∷ ns) rest = omega arith

  -- as many choices are accepted as members stand
  counted_standing : (refers : List ℕ → Bool) (p : Place) (ms : Members) (ks : List ℕ)
      → ((k : ℕ) → IsOne k ks → accepts (asked_by d test few refers (object ms)) (choice d (shape_of d.table p) k)
      ≡ is_standing (trees_at d test few p ms k))
      → counted refers ms (shape_of d.table p) ks ≡ length (all_standing (stands p ms) ks)
  counted_standing refers p ms [] h = refl
  counted_standing refers p ms (k ∷ ks) h =
      let ns = trees_at d test few p ms k in
      ap (λ b. cond b 1 0 + counted refers ms (shape_of d.table p) ks) (h k (inl refl))
      ∙ ap (λ m. cond (is_standing ns) 1 0 + m) (counted_standing refers p ms ks (λ j is. h j (inr is)))
      ∙ sym (one_more k ns (all_standing (stands p ms) ks))
      ∙ ap (λ cs. length (standing k cs ++ all_standing (stands p ms) ks)) (sym (stands_are p ms k ns refl))

  -- of each that stands
  abbrev AllStand : (ℕ × Child → Type 0) → List (ℕ × Child) → Type 0
  AllStand P [] = Unit {0}
  AllStand P (m ∷ ms) = P m × AllStand P ms

  stand_behind : (P : ℕ × Child → Type 0) (xs ys : List (ℕ × Child)) → AllStand P (xs ++ ys) → AllStand P ys
  stand_behind P [] ys h = h
  stand_behind P (x ∷ xs) ys h = stand_behind P xs ys h.1

  stand_joined : (P : ℕ × Child → Type 0) (xs ys : List (ℕ × Child)) → AllStand P xs → AllStand P ys → AllStand P (xs ++ ys)
  stand_joined P [] ys h g = g
  stand_joined P (x ∷ xs) ys h g = (h.0, stand_joined P xs ys h.1 g)

  stands_first : (P : ℕ × Child → Type 0) (k : ℕ) (n : Node) (rest : List (ℕ × Child)) → is_null n ≡ false
      → AllStand P (standing k (children_of c (n ∷ [])) ++ rest) → P (k, child_of c n)
  stands_first P k n rest e h =
      (subst (λ b. AllStand P (cond b [] ((k, child_of c n) ∷ []) ++ rest)) e h).0

  stands_at : (P : ℕ × Child → Type 0) (p : Place) (ms : Members) (ks : List ℕ) (k : ℕ) (n : Node) → IsOne k ks
      → trees_at d test few p ms k ≡ n ∷ [] → is_null n ≡ false → AllStand P (all_standing (stands p ms) ks) → P (k, child_of c n)
  stands_at P p ms [] k n is e other h = absurd is
  stands_at P p ms (j ∷ ks) k n (inl same) e other h =
      let there : trees_at d test few p ms j ≡ n ∷ [] = ap (trees_at d test few p ms) (sym same) ∙ e in
      subst (λ x. P (x, child_of c n)) (sym same)
      (stands_first P j n (all_standing (stands p ms) ks) other
      (subst (λ cs. AllStand P (standing j cs ++ all_standing (stands p ms) ks)) (stands_are p ms j (n ∷ []) there) h))
  stands_at P p ms (j ∷ ks) k n (inr is) e other h =
      stands_at P p ms ks k n is e other (stand_behind P (standing j (stands p ms j)) (all_standing (stands p ms) ks) h)

  stand_all : (P : ℕ × Child → Type 0) (p : Place) (ms : Members) (ks : List ℕ)
      → ((k : ℕ) (n : Node) → IsOne k ks → trees_at d test few p ms k ≡ n ∷ [] → is_null n ≡ false → P (k, child_of c n))
      → AllStand P (all_standing (stands p ms) ks)
  stand_all P p ms [] h = tt
  stand_all P p ms (k ∷ ks) h =
      stand_joined P (standing k (stands p ms k)) (all_standing (stands p ms) ks)
      (subst (λ cs. AllStand P (standing k cs)) (sym (stands_are p ms k (trees_at d test few p ms k) refl))
      (by (trees_at d test few p ms k) refl))
      (stand_all P p ms ks (λ j n is e other. h j n (inr is) e other))
    where
      one : (n : Node) (b : Bool) → is_null n ≡ b → trees_at d test few p ms k ≡ n ∷ [] → AllStand P (cond b [] ((k, child_of c n) ∷ []))
      one n true g e = tt
      one n false g e = (h k n (inl refl) e g, tt)

      by : (ns : List Node) → trees_at d test few p ms k ≡ ns → AllStand P (standing k (children_of c ns))
      by [] e = tt
      by (n ∷ []) e = one n (is_null n) refl e
      by (n ∷ m ∷ ns) e = tt

  -- exactly one stands, and it has no fault
  abbrev one_stands : List FaultAt → List (ℕ × Child) → List FaultAt
  one_stands fs ms = union_faults d.table (one_here UnionCount) fs ms

  only_one : (fs : List FaultAt) (ms : List (ℕ × Child)) → one_stands fs ms ≡ []
      → (length ms ≡ 1) × AllStand (λ m. standing_faults d.table m ≡ []) ms
  only_one (f ∷ fs) ms h = absurd cc
  only_one [] [] h = absurd cc
  only_one [] (m ∷ []) h = (refl, (h, tt))
  only_one [] (m ∷ more ∷ ms) h = absurd cc

  no_faults : (fs : List FaultAt) (vs : List (ℕ × Val)) → faults_in (union_reading_of fs vs) ≡ [] → fs ≡ []
  no_faults (f ∷ fs) vs h = absurd cc
  no_faults [] vs h = refl

  pub union_accepted : (p : Place) (refers : List ℕ → Bool) (ms : Members) → AreDistinct ms → AllPairs (IsAccepted d test few) ms
      → ((k : ℕ) → IsOne k (members_of_place d.table p) → InTable d.table (member_place k) × IsListed d.table d.places (member_place k))
      → faults_in (union_reading c p (named_children c ms)) ≡ []
      → accepts (asked_by d test few refers (object ms)) (union_definition d p) ≡ true
  union_accepted p refers ms distinct all within h =
      let ks = members_of_place d.table p in
      let s = shape_of d.table p in
      let standing_now = all_standing (stands p ms) ks in
      let again = repeats d.table (stands p ms) ks in
      let found = only_one again standing_now (no_faults (one_stands again standing_now) (standing_fields standing_now) h) in
      let taken : (k : ℕ) → IsOne k ks → (n : Node) → trees_at d test few p ms k ≡ n ∷ [] → is_null n ≡ false
      → says d test few n (reference d (member_place k)) ≡ true =
      λ k is n e other. referred d test few n (member_place k)
      (of_pair (IsAccepted d test few) (name_of d s k) n ms all (pair_of (name_of d s k) n [] ms e)) (within k is).0 (within k is).1
      (none_under (Member (name_at d.table k)) (faults_in (reading c n (member_place k)))
      (stands_at (λ m. standing_faults d.table m ≡ []) p ms ks k n is e other found.1)) in
      union_says refers ms p
      ∙ and_from (pass d test few ms (schemas_under d s (choice_schema d) ks)) (counted refers ms s ks == 1)
      (all_properties test (root d test few) (λ q. accepted_by (tree_named q.name (schemas_under d s (choice_schema d) ks)) q.value) ms
      (λ name n is. pair_taken name n is taken (schema_found d s (choice_schema d) ks name)))
      (ap (λ m. m == 1) (counted_standing refers p ms ks
      (λ k is. choice_says refers p ms k (trees_at d test few p ms k) distinct (within k is).1 (taken k is) refl) ∙ found.0))
    where
      pair_taken : (name : List ℕ) (n : Node) → HasPair name n ms
          → ((k : ℕ) → IsOne k (members_of_place d.table p) → (m : Node) → trees_at d test few p ms k ≡ m ∷ [] → is_null m ≡ false
          → says d test few m (reference d (member_place k)) ≡ true)
          → (tree_named name (schemas_under d (shape_of d.table p) (choice_schema d) (members_of_place d.table p)) ≡ None)
          ⊎ ((k : ℕ) × IsOne k (members_of_place d.table p) × (name_of d (shape_of d.table p) k ≡ name)
          × (tree_named name (schemas_under d (shape_of d.table p) (choice_schema d) (members_of_place d.table p))
          ≡ Some (choice_schema d k)))
          → accepted_by (tree_named name (schemas_under d (shape_of d.table p) (choice_schema d) (members_of_place d.table p)))
          (property_of test (root d test few) name n).value ≡ true
      pair_taken name n is taken (inl e) = ap (λ o. accepted_by o (property_of test (root d test few) name n).value) e
      pair_taken name n is taken (inr (k, one, same, e)) =
          ap (λ o. accepted_by o (property_of test (root d test few) name n).value) e ∙ by (is_null n) refl
        where
          by : (b : Bool) → is_null n ≡ b → says d test few n (nullable (reference d (member_place k))) ≡ true
          by true g = null_taken d test few n (member_place k) (within k one).1 g
          by false g =
              other_taken d test few n (member_place k) g
              ∙ taken k one n (ap (λ x. trees_named x ms) same ∙ alone_named name n ms distinct is) g

  -- what is read of one that stands
  abbrev IsValue : ℕ × Child → Type 0
  IsValue m = (v : Val) × (m.1.reading (member_place m.0) ≡ Ok v)

  never_again : (p : Place) (ms : Members) (ks : List ℕ) → AreDistinct ms → repeats d.table (stands p ms) ks ≡ []
  never_again p ms [] distinct = refl
  never_again p ms (k ∷ ks) distinct =
      none_joined (under (Member (name_at d.table k)) (repeated_faults (stands p ms k))) (repeats d.table (stands p ms) ks)
      (ap (under (Member (name_at d.table k)))
      (ap repeated_faults (stands_are p ms k (trees_at d test few p ms k) refl) ∙ by (trees_at d test few p ms k) refl))
      (never_again p ms ks distinct)
    where
      by : (ns : List Node) → trees_at d test few p ms k ≡ ns → repeated_faults (children_of c ns) ≡ []
      by [] e = refl
      by (n ∷ []) e = refl
      by (n ∷ m ∷ ns) e = absurd (never_two (name_of d (shape_of d.table p) k) n m ns ms distinct e)

  one_value : (ms : List (ℕ × Child)) → length ms ≡ 1 → AllStand IsValue ms
      → faults_in (union_reading_of (one_stands [] ms) (standing_fields ms)) ≡ []
  one_value [] e h = absurd (omega (arith, e))
  one_value (m ∷ more ∷ ms) e h = absurd (omega (arith, e))
  one_value (m ∷ []) e h =
      subst (λ r. faults_in (union_reading_of (under (Member (name_at d.table m.0)) (faults_in r)) (member_fields m.0 (present_reading r) ++ []))
      ≡ []) (sym h.0.1) refl

  pub union_clean : (p : Place) (refers : List ℕ → Bool) (ms : Members) → AreDistinct ms → AllPairs (IsClean d test few) ms
      → AllDiffer (map (name_of d (shape_of d.table p)) (members_of_place d.table p))
      → ((k : ℕ) → IsOne k (members_of_place d.table p) → InTable d.table (member_place k) × IsListed d.table d.places (member_place k)
      × AllTold d.table (member_place k))
      → accepts (asked_by d test few refers (object ms)) (union_definition d p) ≡ true
      → faults_in (union_reading c p (named_children c ms)) ≡ []
  union_clean p refers ms distinct all differ within h =
      let ks = members_of_place d.table p in
      let s = shape_of d.table p in
      let standing_now = all_standing (stands p ms) ks in
      let w = and_parts (pass d test few ms (schemas_under d s (choice_schema d) ks)) (counted refers ms s ks == 1)
      (sym (union_says refers ms p) ∙ h) in
      let taken : (k : ℕ) → IsOne k ks → (n : Node) → trees_at d test few p ms k ≡ n ∷ [] → is_null n ≡ false
      → says d test few n (reference d (member_place k)) ≡ true =
      λ k is n e other. sym (other_taken d test few n (member_place k) other)
      ∙ sym (ap (λ o. accepted_by o (property_of test (root d test few) (name_of d s k) n).value)
      (schema_of_member d s (choice_schema d) ks k differ is))
      ∙ each_property test (root d test few) (λ q. accepted_by (tree_named q.name (schemas_under d s (choice_schema d) ks)) q.value) ms w.0
      (name_of d s k) n (pair_of (name_of d s k) n [] ms e) in
      let count : length standing_now ≡ 1 =
      sym (counted_standing refers p ms ks
      (λ k is. choice_says refers p ms k (trees_at d test few p ms k) distinct (within k is).1 (taken k is) refl))
      ∙ eqb-true (counted refers ms s ks) 1 w.1 in
      let values : AllStand IsValue standing_now =
      stand_all IsValue p ms ks (λ k n is e other. clean_reading (reading c n (member_place k)) (reading_is c n (member_place k))
      (unreferred d test few n (member_place k)
      (of_pair (IsClean d test few) (name_of d s k) n ms all (pair_of (name_of d s k) n [] ms e)) (within k is).0 (within k is).1
      (within k is).2 (taken k is n e other))) in
      subst (λ fs. faults_in (union_reading_of (one_stands fs standing_now) (standing_fields standing_now)) ≡ [])
      (sym (never_again p ms ks distinct)) (one_value standing_now count values)
