-- Where each member of a structure comes to its value, or to nothing where it is absent, the structure comes to the value of its fields.
use Rattle.std.proofs.Common.{◌≡◌, ℕ, false, cond, List, [], ◌∷◌, ◌++◌, refl, ap, ◌∙◌}
use Rattle.std.specs.Prelude.{◌&&◌, Err, None, Ok, Option, Some}
use Rattle.std.specs.List.{AllByRecursion}
use Rattle.sm_tree.specs.declared.path.Step.TheVariants.{Member}
use Rattle.sm_shapes.specs.Fitting.{Test}
use Rattle.sm_shapes.specs.Places.{member_place}
use Rattle.sm_shapes.specs.TableData.{TableData, default_at, name_at, required_at}
use Rattle.sm_shapes.specs.Values.{FieldVals, Val, fields_of, structure_val}
use Rattle.sm_shapes.specs.declared.fault.FaultKind.TheVariants.{WrongType}
use Rattle.sm_codec.specs.FaultLists.{settled, under}
use Rattle.sm_codec.specs.Readings.{ByMember, Child, absent_reading, absent_with, member_faults, member_fields, member_reading}
use Rattle.sm_codec.specs.Readings.{members_faults}
use Rattle.sm_codec.specs.Readings.{members_fields, one_here, present_reading, when_closed}
use Rattle.sm_codec.proofs.NoFaults.{ok_reading}
use Rattle.sm_bind_read.specs.messages.MessageForm.{Content}
use Rattle.sm_bind_read.specs.bind.PartsData.{PartsData}
use Rattle.sm_bind_read.specs.bind.Roles.{Bound, bound_members, has_document}
use Rattle.sm_bind_read.specs.PartFaults.{bound_codec, is_no_object, parts_reading}
use Rattle.sm_bind_read.specs.Parts.{stands}
use Rattle.sm_bind_write.specs.WrittenParts.{value_of}
use Rattle.sm_part_laws.specs.Coming.{ComeTo}
use Rattle.sm_bind_laws.proofs.FieldsEach.{FitsMaybe, fields_among}

-- what stands for a member: nothing where it is absent
abbrev pub StandFor : ℕ → Option Val → List Child → Type 0
StandFor k None children = children ≡ []
StandFor k (Some v) children = ComeTo (member_place k) v children

none_read : (t : TableData) (k : ℕ) → required_at t k ≡ false → default_at t k ≡ None → absent_reading (when_closed t k) ≡ Ok None
none_read t k optional without =
    ap (λ d. absent_reading (absent_with d (required_at t k))) without ∙ ap (λ r. absent_reading (absent_with None r)) optional

one_read : (t : TableData) (k : ℕ) (v : Val) (children : List Child) → ComeTo (member_place k) v children
    → member_reading (when_closed t) k children ≡ Ok (Some v)
one_read t k v [] h = absurd h
one_read t k v (child ∷ []) h =
    ap (λ b. cond b (absent_reading (when_closed t k)) (present_reading (child.reading (member_place k)))) h.0 ∙ ap present_reading h.1
one_read t k v (child ∷ more ∷ children) h = absurd h

pub member_read : (t : TableData) (test : Test) (k : ℕ) (o : Option Val) (children : List Child) → FitsMaybe t test k o
    → StandFor k o children
    → member_reading (when_closed t) k children ≡ Ok o
member_read t test k None children fits h = ap (member_reading (when_closed t) k) h ∙ none_read t k fits.0 fits.1
member_read t test k (Some v) children fits h = one_read t k v children h

module _ (t : TableData) (stand : ByMember) (fs : FieldVals) where
  abbrev IsReadHere : ℕ → Type 0
  IsReadHere k = member_reading (when_closed t) k (stand k) ≡ Ok (value_of k fs)

  no_faults : (ks : List ℕ) → AllByRecursion IsReadHere ks → members_faults t (when_closed t) stand ks ≡ []
  no_faults [] h = refl
  no_faults (k ∷ ks) h =
      ap (λ r. under (Member (name_at t k)) (member_faults r) ++ members_faults t (when_closed t) stand ks) h.0 ∙ no_faults ks h.1

  all_fields : (ks : List ℕ) → AllByRecursion IsReadHere ks → members_fields (when_closed t) stand ks ≡ fields_among ks fs
  all_fields [] h = refl
  all_fields (k ∷ ks) h =
      ap (λ r. member_fields k r ++ members_fields (when_closed t) stand ks) h.0
      ∙ ap (λ xs. member_fields k (Ok (value_of k fs)) ++ xs) (all_fields ks h.1)

  all_read : (ks : List ℕ) (test : Test) → AllByRecursion (λ k. FitsMaybe t test k (value_of k fs)) ks
      → AllByRecursion (λ k. StandFor k (value_of k fs) (stand k)) ks → AllByRecursion IsReadHere ks
  all_read [] test fits h = tt
  all_read (k ∷ ks) test fits h = (member_read t test k (value_of k fs) (stand k) fits.0 h.0, all_read ks test fits.1 h.1)

-- the structure
pub structure_joined : (b : Bound) (test : Test) (parts : PartsData) (content : Content) (fs : FieldVals)
    → (has_document b && is_no_object content) ≡ false
    → AllByRecursion (λ k. FitsMaybe b.table test k (value_of k fs)) (bound_members b)
    → AllByRecursion (λ k. StandFor k (value_of k fs) (stands b (bound_codec b test) parts content k)) (bound_members b)
    → fields_of (fields_among (bound_members b) fs) ≡ fs
    → parts_reading b test parts content ≡ Ok (structure_val fs)
structure_joined b test parts content fs object fits stand again =
    let by_member = stands b (bound_codec b test) parts content in
    let ks = bound_members b in
    let read = all_read b.table by_member fs ks test fits stand in
    ap (λ t. cond t (Err (one_here WrongType)) (settled (members_faults b.table (when_closed b.table) by_member ks)
    (structure_val (fields_of (members_fields (when_closed b.table) by_member ks))))) object
    ∙ ap (λ gs. settled gs (structure_val (fields_of (members_fields (when_closed b.table) by_member ks))))
    (no_faults b.table by_member fs ks read)
    ∙ ap (λ xs. ok_reading (structure_val (fields_of xs))) (all_fields b.table by_member fs ks read)
    ∙ ap (λ gs. ok_reading (structure_val gs)) again
