-- Members one after the other: their fields, or their first fault.
use Rattle.std.proofs.Common.{◌≡◌, cond, false, ℕ, ◌<◌, ◌+◌, List, [], ◌∷◌, ◌++◌, drop, get_or, length, refl, sym, ap, ◌∙◌, subst}
use Rattle.std.proofs.lemmas.List.{append-nil, append_assoc, drop_more}
use Rattle.std.specs.Global.{Vec}
use Rattle.std.specs.List.{AllByRecursion}
use Rattle.std.specs.Prelude.{◌&&◌, Err, Ok, Option, None}
use Rattle.sm_tree.specs.declared.path.Step.TheVariants.{Member}
use Rattle.sm_shapes.specs.Fitting.{Test}
use Rattle.sm_shapes.specs.TableData.{name_at}
use Rattle.sm_shapes.specs.Values.{Val, fields_of, structure_val}
use Rattle.sm_shapes.specs.ValueView.{each_field_view}
use Rattle.sm_shapes.specs.declared.fault.FaultKind.TheVariants.{WrongType}
use Rattle.sm_shapes.specs.declared.values.Value.{Value}
use Rattle.sm_codec.specs.FaultLists.{FaultAt, settled, under}
use Rattle.sm_codec.specs.Readings.{member_faults, member_fields, one_here}
use Rattle.sm_codec.specs.FrameView.{fault_at}
use Rattle.sm_codec.specs.declared.decoder.Refusal.{Refusal}
use Rattle.sm_codec.specs.declared.decoder.Refusal.TheVariants.{Fault as a_fault, NoMemory}
use Rattle.sm_messages.specs.MessageForm.{Content}
use Rattle.sm_part_values.specs.Joins.{ErrsWith, IsFirstOf, JoinsTo}
use Rattle.sm_part_values.specs.steps.Lists.{IsUnderStep}
use Rattle.sm_bind.specs.PartsData.{PartsData}
use Rattle.sm_bind.specs.Roles.{Bound, bound_members, has_document}
use Rattle.sm_bind_read.specs.PartFaults.{is_no_object, parts_reading}
use Rattle.sm_bind_read.specs.steps.Coming.{Came, ComesWith, FieldsAre, FieldsJoin, IsFaultOf, RefusesFirst, StopsAt, all_faults}
use Rattle.sm_bind_read.specs.steps.Coming.{all_fields, came_of}

-- the next element of a loop
pub next_of : {X : Type 0} (P : X → Type 0) (xs : List X) (i : ℕ) (x : X) → i < length xs → x ≡ get_or xs i x
    → AllByRecursion P (drop i xs) → P x × AllByRecursion P (drop (i + 1) xs)
next_of P xs i x lt is all =
    let parts : drop i xs ≡ x ∷ drop (i + 1) xs = drop_more xs i x lt ∙ ap (λ y. y ∷ drop (i + 1) xs) (sym is) in
    subst (AllByRecursion P) parts all

pub next_is : {X : Type 0} (xs : List X) (i : ℕ) (x : X) → i < length xs → x ≡ get_or xs i x → drop i xs ≡ x ∷ drop (i + 1) xs
next_is xs i x lt is = drop_more xs i x lt ∙ ap (λ y. y ∷ drop (i + 1) xs) (sym is)

-- and one that is a number
pub number_is : (xs : List ℕ) (i : ℕ) → i < length xs → drop i xs ≡ get_or xs i 0 ∷ drop (i + 1) xs
number_is xs i lt = drop_more xs i 0 lt

pub number_of : (P : ℕ → Type 0) (xs : List ℕ) (i : ℕ) → i < length xs → AllByRecursion P (drop i xs)
    → P (get_or xs i 0) × AllByRecursion P (drop (i + 1) xs)
number_of P xs i lt all = subst (AllByRecursion P) (number_is xs i lt) all

-- what is no value but has no fault has no field either
pub fields_from : (reading : Came) → member_faults reading ≡ [] → (o : Option Val) × FieldsAre reading o
fields_from (Ok o) h = (o, (h, λ n. refl))
fields_from (Err []) h = (None, (h, λ n. refl))
fields_from (Err (f ∷ fs)) h = absurd cc

pub fields_of_value : (reading : Came) (o : Option Val) → reading ≡ Ok o → FieldsAre reading o
fields_of_value reading o e = (ap member_faults e, λ n. ap (member_fields n) e)

module _ (b : Bound) (test : Test) (parts : PartsData) (content : Content) where
  abbrev came : ℕ → Came
  came = came_of b test parts content

  abbrev faults : List ℕ → List FaultAt
  faults = all_faults b test parts content

  abbrev fields : List ℕ → List (ℕ × Val)
  fields = all_fields b test parts content

  -- so far no member has a fault, and these are the fields
  pub record MembersSoFar (ks rest : List ℕ) (fs : List (ℕ × Val)) : Type 0 where
    pub faults_same : faults ks ≡ faults rest
    pub fields_same : fields ks ≡ fs ++ fields rest

  pub none_yet : (ks : List ℕ) → MembersSoFar ks ks []
  none_yet ks = record { faults_same = refl; fields_same = refl }

  pub one_more : (ks : List ℕ) (k : ℕ) (rest : List ℕ) (fs : List (ℕ × Val)) (o : Option Val) → MembersSoFar ks (k ∷ rest) fs
      → FieldsAre (came k) o → MembersSoFar ks rest (fs ++ member_fields k (Ok o))
  one_more ks k rest fs o h is = record {
    faults_same = h.faults_same ∙ ap (λ gs. under (Member (name_at b.table k)) gs ++ faults rest) is.0;
    fields_same = h.fields_same ∙ ap (λ gs. fs ++ (gs ++ fields rest)) (is.1 k)
        ∙ sym (append_assoc fs (member_fields k (Ok o)) (fields rest));
  }

  pub one_faulty : (ks : List ℕ) (k : ℕ) (rest : List ℕ) (fs : List (ℕ × Val)) (g longer : FaultAt) → MembersSoFar ks (k ∷ rest) fs
      → ErrsWith (came k) g → longer ≡ (Member (name_at b.table k) ∷ g.0, g.1) → IsFirstOf (faults ks) longer
  one_faulty ks k rest fs g longer h bad is = (
    under (Member (name_at b.table k)) bad.0 ++ faults rest,
    h.faults_same ∙ ap (λ r. under (Member (name_at b.table k)) (member_faults r) ++ faults rest) bad.1
        ∙ ap (λ y. y ∷ (under (Member (name_at b.table k)) bad.0 ++ faults rest)) (sym is),
  )

  pub all_done : (ks rest : List ℕ) (fs : List (ℕ × Val)) → MembersSoFar ks rest fs → rest ≡ []
      → (faults ks ≡ []) × (fields ks ≡ fs)
  all_done ks rest fs h none = (h.faults_same ∙ ap faults none, h.fields_same ∙ ap (λ xs. fs ++ fields xs) none ∙ append-nil fs)

  -- and where only faults are asked
  pub passed_over : (k : ℕ) (rest : List ℕ) → member_faults (came k) ≡ [] → faults (k ∷ rest) ≡ faults rest
  passed_over k rest h = ap (λ gs. under (Member (name_at b.table k)) gs ++ faults rest) h

  pub faulty_here : (k : ℕ) (rest : List ℕ) (g longer : FaultAt) → ErrsWith (came k) g → longer ≡ (Member (name_at b.table k) ∷ g.0, g.1)
      → IsFirstOf (faults (k ∷ rest)) longer
  faulty_here k rest g longer bad is = one_faulty (k ∷ rest) k rest [] g longer (none_yet (k ∷ rest)) bad is

  pub structure_good : (ks : List ℕ) (fs : List (ℕ × Val)) → faults ks ≡ [] → fields ks ≡ fs
      → settled (faults ks) (structure_val (fields_of (fields ks))) ≡ Ok (structure_val (fields_of fs))
  structure_good ks fs none are = λ i. settled (none i) (structure_val (fields_of (are i)))

  pub structure_bad : (ks : List ℕ) (f : FaultAt) → IsFirstOf (faults ks) f
      → ErrsWith (settled (faults ks) (structure_val (fields_of (fields ks)))) f
  structure_bad ks f first = (first.0, ap (λ fs. settled fs (structure_val (fields_of (fields ks)))) first.1)

  -- a member's refusal, seen from the structure
  pub refused_field : (ks : List ℕ) (k : ℕ) (rest : List ℕ) (fs : List (ℕ × Val)) → MembersSoFar ks (k ∷ rest) fs → (More : Type 0)
      → (refusal longer : Refusal) → ComesWith (came k) More (Err refusal) → IsUnderStep (Member (name_at b.table k)) refusal longer
      → FieldsJoin b test parts content ks (Err longer)
  refused_field ks k rest fs h More (a_fault f) (a_fault g) is under_it = one_faulty ks k rest fs (fault_at f) (fault_at g) h is under_it
  refused_field ks k rest fs h More NoMemory (a_fault g) is under_it = absurd under_it
  refused_field ks k rest fs h More refusal NoMemory is under_it = tt

  pub refused_first : (ks : List ℕ) (k : ℕ) (rest more : List ℕ) (at_ : FaultAt) → faults ks ≡ faults (k ∷ rest) → (refusal longer : Refusal)
      → StopsAt b came at_ k more (Err refusal) → IsUnderStep (Member (name_at b.table k)) refusal longer → RefusesFirst (faults ks) longer
  refused_first ks k rest more at_ h (a_fault f) (a_fault g) is under_it =
      subst (λ fs. IsFirstOf fs (fault_at g)) (sym h) (faulty_here k rest (fault_at f) (fault_at g) is under_it)
  refused_first ks k rest more at_ h NoMemory (a_fault g) is under_it = absurd under_it
  refused_first ks k rest more at_ h refusal NoMemory is under_it = tt

  pub stopped_first : (ks : List ℕ) (k : ℕ) (rest : List ℕ) (f : FaultAt) → faults ks ≡ faults (k ∷ rest) → IsFaultOf b came f k
      → IsFirstOf (faults ks) f
  stopped_first ks k rest f h is = subst (λ fs. IsFirstOf fs f) (sym h) (faulty_here k rest is.0 f is.1 is.2)

  -- the whole
  pub whole_good : (ks : List ℕ) (fs : Vec (ℕ × Value)) → (has_document b && is_no_object content) ≡ false → ks ≡ bound_members b
      → FieldsJoin b test parts content ks (Ok fs) → parts_reading b test parts content ≡ Ok (structure_val (fields_of (each_field_view fs.items)))
  whole_good ks fs off all h =
      (λ i. cond (off i) (Err (one_here WrongType)) (settled (faults (bound_members b)) (structure_val (fields_of (fields (bound_members b))))))
      ∙ structure_good (bound_members b) (each_field_view fs.items) (ap faults (sym all) ∙ h.0) (ap fields (sym all) ∙ h.1)

  whole_first : (ks : List ℕ) (f : FaultAt) → (has_document b && is_no_object content) ≡ false → ks ≡ bound_members b → IsFirstOf (faults ks) f
      → ErrsWith (parts_reading b test parts content) f
  whole_first ks f off all h =
      let first = structure_bad (bound_members b) f (subst (λ js. IsFirstOf (faults js) f) all h) in (
        first.0,
        (λ i. cond (off i) (Err (one_here WrongType)) (settled (faults (bound_members b)) (structure_val (fields_of (fields (bound_members b))))))
            ∙ first.1,
      )

  pub whole_bad : (ks : List ℕ) (refusal : Refusal) → (has_document b && is_no_object content) ≡ false → ks ≡ bound_members b
      → FieldsJoin b test parts content ks (Err refusal) → JoinsTo (parts_reading b test parts content) (Err refusal)
  whole_bad ks (a_fault f) off all h = whole_first ks (fault_at f) off all h
  whole_bad ks NoMemory off all h = tt

  pub whole_fault : (ks : List ℕ) (refusal : Refusal) → (has_document b && is_no_object content) ≡ false → ks ≡ bound_members b
      → RefusesFirst (faults ks) refusal → JoinsTo (parts_reading b test parts content) (Err refusal)
  whole_fault ks (a_fault f) off all h = whole_first ks (fault_at f) off all h
  whole_fault ks NoMemory off all h = tt
