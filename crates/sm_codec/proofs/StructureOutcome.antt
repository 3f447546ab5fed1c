-- What a structure's frame comes to where it ends is what the object comes to; and the members that are needed are enough to tell.
use Rattle.std.proofs.Common.{◌≡◌, inl, inr, ℕ, ◌<◌, nat_lt, Bool, true, false, ◌||◌, cond, List, [], ◌∷◌, ◌++◌, map, refl, sym, ap, ◌∙◌}
use Rattle.std.proofs.Common.{subst, arith}
use Rattle.std.specs.Prelude.{Option, Some, None, is_some, unwrap_or, Result, Ok, Err, IfOk}
use Rattle.std.specs.List.{filter}
use Rattle.std.specs.List.Sorted.{IsStrictlySortedBy}
use Rattle.std.specs.Ordering.{nat_cmp}
use Rattle.sm_tree.specs.Node.{Node}
use Rattle.sm_shapes.specs.Names.{AllDiffer}
use Rattle.sm_shapes.specs.Values.{Val, structure_val, fields_of}
use Rattle.sm_shapes.specs.TableData.{TableData, shape_count, member_count, name_at, members_at, needed_at, member_with, required_at}
use Rattle.sm_shapes.specs.TableData.{default_at, default_node_at}
use Rattle.sm_shapes.specs.InOrder.{Shaped, AreMembersOf, is_needed}
use Rattle.sm_shapes.specs.Places.{Place, shape_of, members_of_place}
use Rattle.sm_shapes.specs.declared.fault.FaultKind.{FaultKind}
use Rattle.sm_shapes.specs.declared.fault.FaultKind.TheVariants.{Missing}
use Rattle.sm_shapes.specs.FieldPuts.{has_field}
use Rattle.sm_shapes.proofs.NamedMembers.{IsAmong, found}
use Rattle.sm_codec.specs.Codec.{Codec, InTable}
use Rattle.sm_codec.specs.FaultLists.{FaultAt, Reading}
use Rattle.sm_codec.specs.Readings.{absent_with, when_closed, named_children_of, structure_reading}
use Rattle.sm_codec.specs.Decoding.{good, bad, MemberFrame, structure_frame}
use Rattle.sm_codec.specs.Kept.{HoldsPairs, IsOutcome}
use Rattle.sm_codec.specs.steps.MemberSteps.{first_name, at_member}
use Rattle.sm_codec.specs.steps.ClosingSteps.{missing_by, missing, missing_fault, put_default, defaults_put, is_before, ended_by}
use Rattle.sm_codec.specs.steps.ClosingSteps.{structure_end}
use Rattle.sm_codec.proofs.PlacesIn.{shape_in}
use Rattle.sm_codec.proofs.MemberParts.{AllBelow, AllAbove, rises_before, rises_behind, below_one, above_one, among_behind}
use Rattle.sm_codec.proofs.StructureRead.{StructureEnds, structure_clean, structure_faulty}

-- members that aren't needed are never missing, and have no default
module _ (t : TableData) where
  no_needs : (k : ℕ) (r n d : Bool) → required_at t k ≡ r → is_some (default_at t k) ≡ d → (r || (n || d)) ≡ false
      → (required_at t k ≡ false) × (is_some (default_at t k) ≡ false)
  no_needs k false false false e g h = (e, g)
  no_needs k false false true e g h = absurd cc
  no_needs k false true d e g h = absurd cc
  no_needs k true n d e g h = absurd cc

  not_some : (o : Option Val) → is_some o ≡ false → o ≡ None
  not_some None h = refl
  not_some (Some v) h = absurd cc

  spare : (k : ℕ) → is_needed t k ≡ false → (required_at t k ≡ false) × (default_at t k ≡ None)
  spare k h =
      let both = no_needs k (required_at t k) (is_some (default_node_at t k)) (is_some (default_at t k)) refl refl h in
      (both.0, not_some (default_at t k) both.1)

  never_missing : (k : ℕ) (o : Option Val) (b : Bool) (more : Option ℕ) → default_at t k ≡ o → required_at t k ≡ b → o ≡ None → b ≡ false
      → missing_by (when_closed t k) k more ≡ more
  never_missing k None false more e g h i =
      ap (λ x. missing_by (absent_with x (required_at t k)) k more) e ∙ ap (λ x. missing_by (absent_with None x) k more) g
  never_missing k None true more e g h i = absurd cc
  never_missing k (Some v) b more e g h i = absurd cc

  pub needed_missing : (fs : List (ℕ × Val)) (ks : List ℕ) → missing t fs (filter (is_needed t) ks) ≡ missing t fs ks
  needed_missing fs [] = refl
  needed_missing fs (k ∷ ks) = by_need (is_needed t k) refl (needed_missing fs ks)
    where
      by_have : (b : Bool) (x y z : Option ℕ) → x ≡ y → z ≡ y → x ≡ cond b y z
      by_have true x y z e g = e
      by_have false x y z e g = e ∙ sym g

      by_need : (b : Bool) → is_needed t k ≡ b → missing t fs (filter (is_needed t) ks) ≡ missing t fs ks
          → missing t fs (cond b (k ∷ filter (is_needed t) ks) (filter (is_needed t) ks)) ≡ missing t fs (k ∷ ks)
      by_need true e h = ap (λ o. cond (has_field k fs) o (missing_by (when_closed t k) k o)) h
      by_need false e h =
          let free = spare k e in
          by_have (has_field k fs) (missing t fs (filter (is_needed t) ks)) (missing t fs ks)
          (missing_by (when_closed t k) k (missing t fs ks)) h
          (never_missing k (default_at t k) (required_at t k) (missing t fs ks) refl refl free.1 free.0)

  defaults_by : (fs : List (ℕ × Val)) (k : ℕ) (ks rest : List ℕ) (b : Bool) → is_needed t k ≡ b
      → ((gs : List (ℕ × Val)) → defaults_put t rest gs ≡ defaults_put t ks gs)
      → defaults_put t (cond b (k ∷ rest) rest) fs ≡ defaults_put t (k ∷ ks) fs
  defaults_by fs k ks rest true e more = more (put_default k (default_at t k) fs)
  defaults_by fs k ks rest false e more = more fs ∙ ap (λ d. defaults_put t ks (put_default k d fs)) (sym (spare k e).1)

  pub needed_defaults : (fs : List (ℕ × Val)) (ks : List ℕ) → defaults_put t (filter (is_needed t) ks) fs ≡ defaults_put t ks fs
  needed_defaults fs [] = refl
  needed_defaults fs (k ∷ ks) =
      defaults_by fs k ks (filter (is_needed t) ks) (is_needed t k) refl (λ gs. needed_defaults gs ks)

  -- the first that is missing is one of the members, and that of members in two parts
  among_by : (fs : List (ℕ × Val)) (k : ℕ) (ks : List ℕ) (j : ℕ) (b : Bool) (r : Result (Option Val) FaultKind)
      → (missing t fs ks ≡ Some j → IsAmong j ks) → cond b (missing t fs ks) (missing_by r k (missing t fs ks)) ≡ Some j
      → IsAmong j (k ∷ ks)
  among_by fs k ks j true r more e = inr (more e)
  among_by fs k ks j false (Ok v) more e = inr (more e)
  among_by fs k ks j false (Err kind) more e = let same : k ≡ j = cc in inl (sym same)

  pub missing_among : (fs : List (ℕ × Val)) (ks : List ℕ) (j : ℕ) → missing t fs ks ≡ Some j → IsAmong j ks
  missing_among fs [] j h = absurd cc
  missing_among fs (k ∷ ks) j h = among_by fs k ks j (has_field k fs) (when_closed t k) (λ e. missing_among fs ks j e) h

  abbrev or_else : Option ℕ → Option ℕ → Option ℕ
  or_else None more = more
  or_else (Some k) more = Some k

  missing_two : (fs : List (ℕ × Val)) (ks js : List ℕ) → missing t fs (ks ++ js) ≡ or_else (missing t fs ks) (missing t fs js)
  missing_two fs [] js = refl
  missing_two fs (k ∷ ks) js = by_have (has_field k fs) (when_closed t k) (missing_two fs ks js)
    where
      by_have : (b : Bool) (r : Result (Option Val) FaultKind) → missing t fs (ks ++ js) ≡ or_else (missing t fs ks) (missing t fs js)
          → cond b (missing t fs (ks ++ js)) (missing_by r k (missing t fs (ks ++ js)))
          ≡ or_else (cond b (missing t fs ks) (missing_by r k (missing t fs ks))) (missing t fs js)
      by_have true r e = e
      by_have false (Ok v) e = e
      by_have false (Err kind) e = refl

-- which of a fault and a missing member stands first
module _ (t : TableData) (fields : List (ℕ × Val)) (pre : List ℕ) (j : ℕ) (post : List ℕ) where
  abbrev all : List ℕ
  all = pre ++ j ∷ post

  not_before : (k : ℕ) (b : Bool) → nat_lt k j ≡ b → IsAmong k (j ∷ post) → AllAbove j post → b ≡ false
  not_before k true e (inl same) above = absurd (grind (arith, e, same))
  not_before k true e (inr i) above = let up = above_one j k post above i in absurd (grind (arith, e, up))
  not_before k false e i above = refl

  is_lower : (k : ℕ) → k < j → nat_lt k j ≡ true
  is_lower k lt = grind (arith, lt)

  faulty_by : (g : FaultAt) (o more : Option ℕ) → missing t fields pre ≡ o → missing t fields (j ∷ post) ≡ more → AllBelow j pre
      → AllAbove j post
      → member_with (name_at t) (first_name g.0) all ≡ Some j
      → ended_by t all fields (Some g) (or_else t o more) ≡ bad (unwrap_or (missing_fault t o) g)
  faulty_by g None None e m below above named = refl
  faulty_by g None (Some k) e m below above named =
      ap (λ x. cond (is_before k x) (bad (at_member t k ([], Missing))) (bad g)) named
      ∙ ap (λ b. cond b (bad (at_member t k ([], Missing))) (bad g))
      (not_before k (nat_lt k j) refl (missing_among t fields (j ∷ post) k m) above)
  faulty_by g (Some k) more e m below above named =
      ap (λ x. cond (is_before k x) (bad (at_member t k ([], Missing))) (bad g)) named
      ∙ ap (λ b. cond b (bad (at_member t k ([], Missing))) (bad g))
      (is_lower k (below_one j k pre below (missing_among t fields pre k e)))

  pub faulty_ends : (g : FaultAt) → AllDiffer (map (name_at t) all) → IsStrictlySortedBy nat_cmp all → first_name g.0 ≡ name_at t j
      → ended_by t all fields (Some g) (missing t fields all) ≡ bad (unwrap_or (missing_fault t (missing t fields pre)) g)
  faulty_ends g differ sorted named =
      ap (ended_by t all fields (Some g)) (missing_two t fields pre (j ∷ post))
      ∙ faulty_by g (missing t fields pre) (missing t fields (j ∷ post)) refl refl (rises_before pre j post sorted)
      (rises_behind pre j post sorted)
      (ap (λ w. member_with (name_at t) w all) named ∙ found (name_at t) j all differ (among_behind j pre (j ∷ post) (inl refl)))

is_good : (r : Reading) (v : Val) → r ≡ Ok v → IsOutcome r (good v)
is_good (Ok w) v e = let same : w ≡ v = cc in ap good (sym same)
is_good (Err fs) v e = absurd cc

is_bad : (r : Reading) (f : FaultAt) (fs : List FaultAt) → r ≡ Err (f ∷ fs) → IsOutcome r (bad f)
is_bad (Ok w) f fs e = absurd cc
is_bad (Err gs) f fs e = let same : gs ≡ f ∷ fs = cc in (f, fs, same, refl)

clean_outcome : (c : Codec) (p : Place) (ms : List (List ℕ × Node)) (f : MemberFrame) (o : Option ℕ) → StructureEnds c p ms f o
    → IsOutcome (structure_reading c p (named_children_of c ms)) (ended_by c.table (members_of_place c.table p) f.fields None o)
clean_outcome c p ms f None h =
    is_good (structure_reading c p (named_children_of c ms)) (structure_val
    (fields_of (defaults_put c.table (members_of_place c.table p) f.fields))) h
clean_outcome c p ms f (Some k) h = is_bad (structure_reading c p (named_children_of c ms)) (at_member c.table k ([], Missing)) h.0 h.1

-- so what the frame comes to is the outcome of the object
outcome_by : (c : Codec) (p : Place) (ms : List (List ℕ × Node)) (f : MemberFrame) (o : Option FaultAt) → f.fault ≡ o → Shaped c.table
    → InTable c.table p → HoldsPairs c p (named_children_of c ms) None (structure_frame f)
    → IsOutcome (structure_reading c p (named_children_of c ms))
    (ended_by c.table (members_of_place c.table p) f.fields o (missing c.table f.fields (members_of_place c.table p)))
outcome_by c p ms f None e shaped inside h =
    clean_outcome c p ms f (missing c.table f.fields (members_of_place c.table p)) (structure_clean c p ms f shaped inside h e)
outcome_by c p ms f (Some g) e shaped inside h =
    let t = c.table in
    let faulty = structure_faulty c p ms f g shaped inside h e in
    let shape = shape_in t p shaped inside in
    let ks = members_of_place t p in
    let differ = subst (λ xs. AllDiffer (map (name_at t) xs)) faulty.3 (shaped.names (shape_of t p) shape) in
    let sorted = subst (λ xs. IsStrictlySortedBy nat_cmp xs) faulty.3 (shaped.rises (shape_of t p) shape) in
    let ends = faulty_ends t f.fields faulty.0 faulty.2 faulty.1 g differ sorted faulty.4 in
    let same : ended_by t ks f.fields (Some g) (missing t f.fields ks) ≡ bad (unwrap_or (missing_fault t (missing t f.fields faulty.0)) g) =
    ap (λ xs. ended_by t xs f.fields (Some g) (missing t f.fields xs)) faulty.3 ∙ ends in
    subst (λ o. IsOutcome (structure_reading c p (named_children_of c ms)) o) (sym same)
    (is_bad (structure_reading c p (named_children_of c ms)) (unwrap_or (missing_fault t (missing t f.fields faulty.0)) g) faulty.5.0
    faulty.5.1)

pub structure_outcome : (c : Codec) (p : Place) (ms : List (List ℕ × Node)) (f : MemberFrame) → Shaped c.table → InTable c.table p
    → HoldsPairs c p (named_children_of c ms) None (structure_frame f)
    → IsOutcome (structure_reading c p (named_children_of c ms)) (structure_end c.table f)
structure_outcome c p ms f shaped inside h =
    subst (λ s. IsOutcome (structure_reading c p (named_children_of c ms))
    (ended_by c.table (members_at c.table s) f.fields f.fault (missing c.table f.fields (members_at c.table s)))) (sym h.1.shape)
    (outcome_by c p ms f f.fault refl shaped inside h)

-- what code finds of a frame: its fault, and the first that is missing of the members that are needed
pub end_is : (t : TableData) (f : MemberFrame) (o : Option FaultAt) (m : Option ℕ) → f.fault ≡ o
    → missing t f.fields (members_at t f.shape) ≡ m
    → structure_end t f ≡ ended_by t (members_at t f.shape) f.fields o m
end_is t f o m e g =
    ap (λ x. ended_by t (members_at t f.shape) f.fields x (missing t f.fields (members_at t f.shape))) e
    ∙ ap (ended_by t (members_at t f.shape) f.fields o) g

pub lacking : (t : TableData) (s : ℕ) (fs : List (ℕ × Val)) (ks : List ℕ) (m : Option ℕ) → Shaped t → s < shape_count t
    → m ≡ missing t fs ks
    → ks ≡ needed_at t s → missing t fs (members_at t s) ≡ m
lacking t s fs ks m shaped lt e is =
    sym (needed_missing t fs (members_at t s)) ∙ ap (missing t fs) (sym (shaped.needed s lt)) ∙ ap (missing t fs) (sym is) ∙ sym e

pub put_needed : (t : TableData) (s : ℕ) (fs : List (ℕ × Val)) (ks : List ℕ) → Shaped t → s < shape_count t → ks ≡ needed_at t s
    → defaults_put t ks fs ≡ defaults_put t (members_at t s) fs
put_needed t s fs ks shaped lt is =
    ap (λ xs. defaults_put t xs fs) (is ∙ shaped.needed s lt) ∙ needed_defaults t fs (members_at t s)

among_in : (t : TableData) (s k : ℕ) (ks : List ℕ) → AreMembersOf t s ks → IsAmong k ks → k < member_count t
among_in t s k [] h i = absurd i
among_in t s k (j ∷ ks) h (inl e) = subst (λ n. n < member_count t) (sym e) h.0
among_in t s k (j ∷ ks) h (inr i) = among_in t s k ks h.2 i

pub missing_in : (t : TableData) (s : ℕ) (fs : List (ℕ × Val)) (k : ℕ) → Shaped t → s < shape_count t
    → missing t fs (members_at t s) ≡ Some k
    → k < member_count t
missing_in t s fs k shaped lt e = among_in t s k (members_at t s) (shaped.members s lt) (missing_among t fs (members_at t s) k e)

-- an answer that is known by less
pub known_by : {A E : Type 0} (P Q : A → Type 0) (r : Result A E) → ((x : A) → P x → Q x) → IfOk r P → IfOk r Q
known_by P Q (Ok x) f h = f x h
known_by P Q (Err e) f h = tt
