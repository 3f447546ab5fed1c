-- Where a place is listed, so are the places of its members; and a place's definition is that of the place under which it is listed.
use Rattle.std.proofs.Common.{◌≡◌, ◌⊎◌, inl, inr, ℕ, zero, suc, ◌<◌, ◌≤◌, ◌==◌, ℤ, Bool, true, false, ◌||◌, cond, Option, Some}
use Rattle.std.proofs.Common.{None, List, [], ◌∷◌, ◌++◌, length, slice_get, int_eq, codes, refl, sym, ap, ◌∙◌, subst, arith}
use Rattle.std.specs.Cmp.Lexicographic.{pointwise, pointwise_decides}
use Rattle.std.specs.Str.{bytes_eq}
use Rattle.std.proofs.lemmas.Bool.{and_parts, eqb-true, eq-eqb, or_cases, or_right, cases_lt}
use Rattle.std.proofs.lemmas.Bool.Decides.{Decides-int_eq}
use Rattle.std.proofs.lemmas.Slice.Eq.{bytes_eq-Decides}
use Rattle.sm_tree.specs.Node.{Node, list, member}
use Rattle.sm_shapes.specs.TableData.{TableData, ConstraintData, kind_at, target_at, constraints_at, shape_constraints_at}
use Rattle.sm_shapes.specs.Places.{Place, root_place, member_place, members_of_place}
use Rattle.sm_shapes.specs.declared.kinds.ShapeKind.{ShapeKind}
use Rattle.sm_shapes.specs.declared.kinds.ShapeKind.TheVariants as kinds
use Rattle.sm_schema.specs.Definitions.{same_bound, same_pattern, same_constraints, has_shapes, member_defined}
use Rattle.sm_schema.specs.Definitions.{defined_place, same_place, has_place, with_place, with_members, Listed, Listing}
use Rattle.sm_schema.specs.Described.{definition_by, definition, typed, text_nodes, number_nodes, text_keywords, range_keywords}

-- the definitions of an enum and of an intEnum, by their constraints
abbrev enum_with : Listing → ConstraintData → Node
enum_with d c =
    typed (codes "string") (member (codes "enum") (list (text_nodes c.texts)) (text_keywords d.table c))

abbrev number_enum_with : ConstraintData → Node
number_enum_with c = typed (codes "integer") (member (codes "enum") (list (number_nodes c.numbers)) (range_keywords 32 c))

abbrev pub Has : List Place → Place → Type 0
Has ps p = has_place p ps ≡ true

pub place_is : (p q : Place) → same_place p q ≡ true → p ≡ q
place_is (root_place s) (root_place r) h = ap root_place (eqb-true s r h)
place_is (root_place s) (member_place k) h = absurd cc
place_is (member_place k) (root_place s) h = absurd cc
place_is (member_place k) (member_place j) h = ap member_place (eqb-true k j h)

pub place_itself : (p : Place) → same_place p p ≡ true
place_itself (root_place s) = eq-eqb s s refl
place_itself (member_place k) = eq-eqb k k refl

or_first : (a b : Bool) → a ≡ true → (a || b) ≡ true
or_first true b h = refl
or_first false b h = absurd cc

pub has_behind : (p : Place) (ps qs : List Place) → Has ps p → Has (ps ++ qs) p
has_behind p [] qs h = absurd cc
has_behind p (q ∷ ps) qs h = by (λ e. has_behind p ps qs e) (or_cases (same_place q p) (has_place p ps) h)
  where
    by : (Has ps p → Has (ps ++ qs) p) → (same_place q p ≡ true) ⊎ (has_place p ps ≡ true)
        → (same_place q p || has_place p (ps ++ qs)) ≡ true
    by more (inl e) = or_first (same_place q p) (has_place p (ps ++ qs)) e
    by more (inr e) = or_right (same_place q p) (has_place p (ps ++ qs)) (more e)

pub has_last : (p : Place) (ps : List Place) → Has (ps ++ p ∷ []) p
has_last p [] = or_first (same_place p p) false (place_itself p)
has_last p (q ∷ ps) = or_right (same_place q p) (has_place p (ps ++ p ∷ [])) (has_last p ps)

-- a place that is put there is there then, and all that were there still are
with_keeps : (ps : List Place) (p q : Place) → Has ps q → Has (with_place ps p) q
with_keeps ps p q h = by (has_place p ps)
  where
    by : (b : Bool) → Has (cond b ps (ps ++ p ∷ [])) q
    by true = h
    by false = has_behind q ps (p ∷ []) h

with_has : (ps : List Place) (p : Place) → Has (with_place ps p) p
with_has ps p = by (has_place p ps) refl
  where
    by : (b : Bool) → has_place p ps ≡ b → Has (cond b ps (ps ++ p ∷ [])) p
    by true e = e
    by false e = has_last p ps

members_keep : (t : TableData) (ps : List Place) (ks : List ℕ) (q : Place) → Has ps q → Has (with_members t ps ks) q
members_keep t ps [] q h = h
members_keep t ps (k ∷ ks) q h = members_keep t (with_place ps (member_defined t k)) ks q (with_keeps ps (member_defined t k) q h)

-- one of these numbers
abbrev pub IsOne : ℕ → List ℕ → Type 0
IsOne k [] = ⊥
IsOne k (j ∷ ks) = (k ≡ j) ⊎ IsOne k ks

members_have : (t : TableData) (ps : List Place) (ks : List ℕ) (k : ℕ) → IsOne k ks → Has (with_members t ps ks) (member_defined t k)
members_have t ps [] k i = absurd i
members_have t ps (j ∷ ks) k (inl e) =
    subst (λ x. Has (with_members t (with_place ps (member_defined t j)) ks) (member_defined t x)) (sym e)
    (members_keep t (with_place ps (member_defined t j)) ks (member_defined t j) (with_has ps (member_defined t j)))
members_have t ps (j ∷ ks) k (inr i) = members_have t (with_place ps (member_defined t j)) ks k i

slice_get_within : {A : Type 0} (xs : List A) (k : ℕ) (x : A) → slice_get xs k ≡ Some x → k < length xs
slice_get_within [] k x h = absurd cc
slice_get_within (y ∷ xs) zero x h = omega arith
slice_get_within (y ∷ xs) (suc k) x h = omega (arith, slice_get_within xs k x h)

nth_left : {A : Type 0} (xs ys : List A) (k : ℕ) → k < length xs → slice_get (xs ++ ys) k ≡ slice_get xs k
nth_left [] ys k lt = absurd (omega (arith, lt))
nth_left (x ∷ xs) ys zero lt = refl
nth_left (x ∷ xs) ys (suc k) lt = nth_left xs ys k (omega (arith, lt))

-- each place stays where it stood
stays : {A : Type 0} (xs ys : List A) (k : ℕ) (x : A) → slice_get xs k ≡ Some x → slice_get (xs ++ ys) k ≡ Some x
stays xs ys k x h = nth_left xs ys k (slice_get_within xs k x h) ∙ h

with_stays : (ps : List Place) (p : Place) (k : ℕ) (q : Place) → slice_get ps k ≡ Some q → slice_get (with_place ps p) k ≡ Some q
with_stays ps p k q h = by (has_place p ps)
  where
    by : (b : Bool) → slice_get (cond b ps (ps ++ p ∷ [])) k ≡ Some q
    by true = h
    by false = stays ps (p ∷ []) k q h

members_stay : (t : TableData) (ps : List Place) (ks : List ℕ) (k : ℕ) (q : Place) → slice_get ps k ≡ Some q
    → slice_get (with_members t ps ks) k ≡ Some q
members_stay t ps [] k q h = h
members_stay t ps (j ∷ ks) k q h =
    members_stay t (with_place ps (member_defined t j)) ks k q (with_stays ps (member_defined t j) k q h)

-- each place up to the k-th is there, with its members; and each that is there is up to the k-th, or behind it
abbrev pub HasMembers : TableData → List Place → Place → Type 0
HasMembers t ps p = (k : ℕ) → IsOne k (members_of_place t p) → Has ps (member_defined t k)

abbrev ClosedTo : TableData → List Place → ℕ → Type 0
ClosedTo t ps k = (i : ℕ) (p : Place) → i < k → slice_get ps i ≡ Some p → HasMembers t ps p

-- where a place stands
place_at : (p : Place) (ps : List Place) → Has ps p → (i : ℕ) × (slice_get ps i ≡ Some p)
place_at p [] h = absurd cc
place_at p (q ∷ ps) h = by (λ e. place_at p ps e) (or_cases (same_place q p) (has_place p ps) h)
  where
    by : (Has ps p → (i : ℕ) × (slice_get ps i ≡ Some p)) → (same_place q p ≡ true) ⊎ (has_place p ps ≡ true)
        → (i : ℕ) × (slice_get (q ∷ ps) i ≡ Some p)
    by more (inl e) = (0, ap Some (place_is q p e))
    by more (inr e) = (suc (more e).0, (more e).1)

past : {A : Type 0} (xs : List A) (k : ℕ) → slice_get xs k ≡ None → length xs ≤ k
past [] k h = omega arith
past (x ∷ xs) zero h = absurd cc
past (x ∷ xs) (suc k) h = omega (arith, past xs k h)

abbrev pub some_place : Place → Option Place
some_place x = Some x

abbrev no_place : Option Place
no_place = None

pub one_place : (x y : Place) → some_place x ≡ Some y → x ≡ y
one_place x y e = cc

some_is : (p q : Place) (o : Option Place) → o ≡ Some p → o ≡ Some q → p ≡ q
some_is p q o h g = one_place p q (sym h ∙ g)

some_at : {A : Type 0} (xs : List A) (i : ℕ) → i < length xs → (x : A) × (slice_get xs i ≡ Some x)
some_at [] i lt = absurd (omega (arith, lt))
some_at (x ∷ xs) zero lt = (x, refl)
some_at (x ∷ xs) (suc i) lt = some_at xs i (omega (arith, lt))

-- one turn more
turned : (t : TableData) (ps : List Place) (k : ℕ) (q : Place) → slice_get ps k ≡ Some q → ClosedTo t ps k
    → ClosedTo t (with_members t ps (members_of_place t q)) (suc k)
turned t ps k q there closed i r lt is j one = by (cases_lt i k)
  where
    now : List Place
    now = with_members t ps (members_of_place t q)

    old : (x : Place) × (slice_get ps i ≡ Some x)
    old = some_at ps i (omega (arith, lt, slice_get_within ps k q there))

    same : r ≡ old.0
    same = some_is r old.0 (slice_get now i) is (members_stay t ps (members_of_place t q) i old.0 old.1)

    by : (i < k) ⊎ (k ≤ i) → Has now (member_defined t j)
    by (inl below) =
        members_keep t ps (members_of_place t q) (member_defined t j)
        (closed i old.0 below old.1 j (subst (λ x. IsOne j (members_of_place t x)) same one))
    by (inr above) =
        let e : i ≡ k = omega (arith, lt, above) in
        let last : r ≡ q = same ∙ some_is old.0 q (slice_get ps k) (subst (λ x. slice_get ps x ≡ Some old.0) e old.1) there in
        members_have t ps (members_of_place t q) j (subst (λ x. IsOne j (members_of_place t x)) last one)

listed_closed : (t : TableData) (turns : ℕ) (ps : List Place) (k : ℕ) (all : List Place) → Listed t turns ps k all → ClosedTo t ps k
    → (p : Place) → Has all p → HasMembers t all p
listed_closed t zero ps k all h closed p is =
    let found = place_at p ps (subst (λ x. Has x p) h.1 is) in
    subst (λ x. HasMembers t x p) (sym h.1)
    (closed found.0 p (omega (arith, past ps k h.0, slice_get_within ps found.0 p found.1)) found.1)
listed_closed t (suc turns) ps k all (q, there, more) closed p is =
    listed_closed t turns (with_members t ps (members_of_place t q)) (suc k) all more (turned t ps k q there closed) p is

listed_keeps : (t : TableData) (turns : ℕ) (ps : List Place) (k : ℕ) (all : List Place) → Listed t turns ps k all
    → (p : Place) → Has ps p → Has all p
listed_keeps t zero ps k all h p is = subst (λ x. Has x p) (sym h.1) is
listed_keeps t (suc turns) ps k all (q, there, more) p is =
    listed_keeps t turns (with_members t ps (members_of_place t q)) (suc k) all more p
    (members_keep t ps (members_of_place t q) p is)

-- of a shape: its own place is listed, and so are the places of the members of each that is
pub root_listed : (t : TableData) (turns s : ℕ) (all : List Place) → Listed t turns (root_place s ∷ []) 0 all → Has all (root_place s)
root_listed t turns s all h =
    listed_keeps t turns (root_place s ∷ []) 0 all h (root_place s) (or_first (s == s) false (eq-eqb s s refl))

all_closed : (t : TableData) (turns s : ℕ) (all : List Place) → Listed t turns (root_place s ∷ []) 0 all
    → (p : Place) → Has all p → HasMembers t all p
all_closed t turns s all h = listed_closed t turns (root_place s ∷ []) 0 all h (λ i p lt. absurd (omega (arith, lt)))

-- the place under which it is listed has the same members
members_defined : (t : TableData) (p : Place) → members_of_place t (defined_place t p) ≡ members_of_place t p
members_defined t (root_place s) = refl
members_defined t (member_place k) = by (has_shapes t k (kind_at t (target_at t k)))
  where
    by : (b : Bool) → members_of_place t (cond b (root_place (target_at t k)) (member_place k)) ≡ members_of_place t (member_place k)
    by true = refl
    by false = refl

-- a place whose definition is listed
abbrev pub IsListed : TableData → List Place → Place → Type 0
IsListed t all p = Has all (defined_place t p)

pub member_listed : (t : TableData) (turns s : ℕ) (all : List Place) → Listed t turns (root_place s ∷ []) 0 all
    → (p : Place) (k : ℕ) → IsListed t all p → IsOne k (members_of_place t p) → IsListed t all (member_place k)
member_listed t turns s all h p k is one =
    all_closed t turns s all h (defined_place t p) is k (subst (λ ks. IsOne k ks) (sym (members_defined t p)) one)

-- tests of constraints tell that they are the same
bound_is : (y z : Option ℤ) → same_bound y z ≡ true → y ≡ z
bound_is None None h = refl
bound_is (Some y) (Some z) h = ap Some ((Decides-int_eq y z).0 h)
bound_is None (Some z) h = absurd cc
bound_is (Some y) None h = absurd cc

pattern_is : (m n : Option ℕ) → same_pattern m n ≡ true → m ≡ n
pattern_is None None h = refl
pattern_is (Some m) (Some n) h = ap Some (eqb-true m n h)
pattern_is None (Some n) h = absurd cc
pattern_is (Some m) None h = absurd cc

abbrev constraints_with : Option ℤ → Option ℤ → Option ℕ → List (List ℕ) → List ℤ → ConstraintData
constraints_with min max pattern texts numbers = record { min = min; max = max; pattern = pattern; texts = texts; numbers = numbers }

constraints_are : (c d : ConstraintData) → same_constraints c d ≡ true → c ≡ d
constraints_are c d h =
    let one = and_parts (same_bound c.min d.min) _ h in
    let two = and_parts (same_bound c.max d.max) _ one.1 in
    let three = and_parts (same_pattern c.pattern d.pattern) _ two.1 in
    let four = and_parts (pointwise bytes_eq c.texts d.texts) (pointwise int_eq c.numbers d.numbers) three.1 in
    ap (λ x. constraints_with x c.max c.pattern c.texts c.numbers) (bound_is c.min d.min one.0)
    ∙ ap (λ x. constraints_with d.min x c.pattern c.texts c.numbers) (bound_is c.max d.max two.0)
    ∙ ap (λ x. constraints_with d.min d.max x c.texts c.numbers) (pattern_is c.pattern d.pattern three.0)
    ∙ ap (λ x. constraints_with d.min d.max d.pattern x c.numbers) ((pointwise_decides bytes_eq-Decides c.texts d.texts).0 four.0)
    ∙ ap (λ x. constraints_with d.min d.max d.pattern d.texts x) ((pointwise_decides Decides-int_eq c.numbers d.numbers).0 four.1)

-- the definition of a place is that of the place under which it is listed
by_shape : (d : Listing) (k : ℕ) (kind : ShapeKind) → has_shapes d.table k kind ≡ true
    → definition_by kind d (root_place (target_at d.table k)) ≡ definition_by kind d (member_place k)
by_shape d k kinds.Structure h = refl
by_shape d k kinds.Union h = refl
by_shape d k kinds.Enum h =
    ap (enum_with d) (sym (constraints_are (constraints_at d.table k) (shape_constraints_at d.table (target_at d.table k)) h))
by_shape d k kinds.IntEnum h =
    ap number_enum_with (sym (constraints_are (constraints_at d.table k) (shape_constraints_at d.table (target_at d.table k)) h))
by_shape d k kinds.Blob h = absurd cc
by_shape d k kinds.Boolean h = absurd cc
by_shape d k kinds.Text h = absurd cc
by_shape d k kinds.Byte h = absurd cc
by_shape d k kinds.Short h = absurd cc
by_shape d k kinds.Integer h = absurd cc
by_shape d k kinds.Long h = absurd cc
by_shape d k kinds.Timestamp h = absurd cc
by_shape d k kinds.List h = absurd cc
by_shape d k kinds.Map h = absurd cc
by_shape d k kinds.LeftOut h = absurd cc

pub definition_same : (d : Listing) (p : Place) → definition d (defined_place d.table p) ≡ definition d p
definition_same d (root_place s) = refl
definition_same d (member_place k) = by (has_shapes d.table k (kind_at d.table (target_at d.table k))) refl
  where
    by : (b : Bool) → has_shapes d.table k (kind_at d.table (target_at d.table k)) ≡ b
        → definition d (cond b (root_place (target_at d.table k)) (member_place k)) ≡ definition d (member_place k)
    by true e = by_shape d k (kind_at d.table (target_at d.table k)) e
    by false e = refl

-- the first place stays the first
first_kept : (t : TableData) (p : Place) (ps : List Place) (ks : List ℕ) → (qs : List Place) × (with_members t (p ∷ ps) ks ≡ p ∷ qs)
first_kept t p ps [] = (ps, refl)
first_kept t p ps (k ∷ ks) = by (has_place (member_defined t k) (p ∷ ps)) (λ qs. first_kept t p qs ks)
  where
    by : (b : Bool) → ((qs : List Place) → (rs : List Place) × (with_members t (p ∷ qs) ks ≡ p ∷ rs))
        → (qs : List Place) × (with_members t (cond b (p ∷ ps) (p ∷ ps ++ member_defined t k ∷ [])) ks ≡ p ∷ qs)
    by true more = more ps
    by false more = more (ps ++ member_defined t k ∷ [])

listed_first : (t : TableData) (turns : ℕ) (p : Place) (ps : List Place) (k : ℕ) (all : List Place) → Listed t turns (p ∷ ps) k all
    → (qs : List Place) × (all ≡ p ∷ qs)
listed_first t zero p ps k all h = (ps, h.1)
listed_first t (suc turns) p ps k all (q, there, more) =
    let kept = first_kept t p ps (members_of_place t q) in
    listed_first t turns p kept.0 (suc k) all (subst (λ x. Listed t turns x (suc k) all) kept.1 more)

pub first_listed : (t : TableData) (turns s : ℕ) (all : List Place) → Listed t turns (root_place s ∷ []) 0 all
    → (qs : List Place) × (all ≡ root_place s ∷ qs)
first_listed t turns s all h = listed_first t turns (root_place s) [] 0 all h

none_some : (q : Place) → no_place ≡ Some q → ⊥
none_some q h = cc

-- the places of a shape are one list
pub listed_once : (t : TableData) (m n : ℕ) (ps : List Place) (k : ℕ) (a b : List Place) → Listed t m ps k a → Listed t n ps k b → a ≡ b
listed_once t zero zero ps k a b h g = h.1 ∙ sym g.1
listed_once t zero (suc n) ps k a b h (q, there, more) = absurd (none_some q (sym h.0 ∙ there))
listed_once t (suc m) zero ps k a b (q, there, more) g = absurd (none_some q (sym g.0 ∙ there))
listed_once t (suc m) (suc n) ps k a b (q, there, more) (r, also, others) =
    listed_once t m n (with_members t ps (members_of_place t q)) (suc k) a b more
    (subst (λ x. Listed t n (with_members t ps (members_of_place t x)) (suc k) b) (sym (some_is q r (slice_get ps k) there also)) others)
