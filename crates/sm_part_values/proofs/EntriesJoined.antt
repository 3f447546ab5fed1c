-- Lists of texts, entry by entry.
use Rattle.std.proofs.Common.{◌≡◌, ℕ, suc, ◌+◌, Bool, cond, List, [], ◌∷◌, ◌++◌, map, length, refl, sym, ap, ◌∙◌, arith}
use Rattle.std.proofs.lemmas.List.{append_assoc, length-append, length-map}
use Rattle.std.specs.Prelude.{◌&&◌, Err, Ok, Some}
use Rattle.sm_tree.specs.declared.path.Step.TheVariants.{Index}
use Rattle.sm_shapes.specs.Broken.{first_broken, has_twice, length_broken}
use Rattle.sm_shapes.specs.Places.{Place, constraints_of, entry_place, sparse_of, unique_of}
use Rattle.sm_shapes.specs.TableData.{TableData}
use Rattle.sm_shapes.specs.Values.{Val, list_val, vals_of}
use Rattle.sm_shapes.specs.declared.fault.FaultKind.{FaultKind}
use Rattle.sm_shapes.specs.declared.fault.FaultKind.TheVariants.{Unique}
use Rattle.sm_codec.specs.Codec.{Codec}
use Rattle.sm_codec.specs.FaultLists.{FaultAt, Reading, faults_in, here, settled, under, values_in}
use Rattle.sm_codec.specs.FrameView.{fault_at}
use Rattle.sm_codec.specs.declared.decoder.Refusal.{Refusal}
use Rattle.sm_codec.specs.declared.decoder.Refusal.TheVariants.{Fault as a_fault, NoMemory}
use Rattle.sm_codec.specs.Readings.{Child, entries_faults, entries_values, entry_reading, list_reading, one_here, unique_faults}
use Rattle.sm_parts.specs.declared.list_entry.ListEntry.{ListEntry}
use Rattle.sm_parts.specs.declared.list_entry.ListEntry.TheVariants.{Text as some_text, NoEntry as no_entry}
use Rattle.sm_part_values.specs.Joins.{ErrsWith, IsFirstOf, JoinsTo}
use Rattle.sm_part_values.specs.PartTexts.{TextForm, entry_child, text_child}
use Rattle.sm_part_values.specs.steps.Lists.{EntriesJoin, IsUnderStep, closed_list}

-- an entry isn't null
pub entry_read : (f : TextForm) (c : Codec) (sparse : Bool) (p : Place) (e : ListEntry)
    → entry_reading sparse p (entry_child f c e) ≡ (entry_child f c e).reading p
entry_read f c sparse p (some_text u) = refl
entry_read f c sparse p no_entry = refl

module _ (f : TextForm) (c : Codec) (p : Place) where
  abbrev children : List ListEntry → List Child
  children es = map (entry_child f c) es

  abbrev at : ListEntry → Reading
  at e = (entry_child f c e).reading (entry_place c.table p)

  next_faults : (i : ℕ) (e : ListEntry) (es : List ListEntry)
      → entries_faults c p i (children (e ∷ es)) ≡ under (Index i) (faults_in (at e)) ++ entries_faults c p (suc i) (children es)
  next_faults i e es =
      ap (λ r. under (Index i) (faults_in r) ++ entries_faults c p (suc i) (children es)) (entry_read f c (sparse_of c.table p) (entry_place c.table p) e)

  next_values : (e : ListEntry) (es : List ListEntry)
      → entries_values c p (children (e ∷ es)) ≡ values_in (at e) ++ entries_values c p (children es)
  next_values e es =
      ap (λ r. values_in r ++ entries_values c p (children es)) (entry_read f c (sparse_of c.table p) (entry_place c.table p) e)

  -- so far no entry has a fault, and these are the values
  pub record EntriesSoFar (es : List ListEntry) (i : ℕ) (rest : List ListEntry) (vs : List Val) : Type 0 where
    pub faults : entries_faults c p 0 (children es) ≡ entries_faults c p i (children rest)
    pub values : entries_values c p (children es) ≡ vs ++ entries_values c p (children rest)
    pub many : length vs + length rest ≡ length es

  pub none_yet : (es : List ListEntry) → EntriesSoFar es 0 es []
  none_yet es = record { faults = refl; values = refl; many = omega arith }

  pub one_more : (es : List ListEntry) (i : ℕ) (e : ListEntry) (rest : List ListEntry) (vs : List Val) (v : Val)
      → EntriesSoFar es i (e ∷ rest) vs → at e ≡ Ok v → EntriesSoFar es (i + 1) rest (vs ++ v ∷ [])
  one_more es i e rest vs v h is = record {
    faults = h.faults ∙ next_faults i e rest ∙ ap (λ r. under (Index i) (faults_in r) ++ entries_faults c p (suc i) (children rest)) is
        ∙ ap (λ n. entries_faults c p n (children rest)) (let e : suc i ≡ i + 1 = omega arith in e);
    values = h.values ∙ ap (λ ws. vs ++ ws) (next_values e rest ∙ ap (λ r. values_in r ++ entries_values c p (children rest)) is)
        ∙ sym (append_assoc vs (v ∷ []) (entries_values c p (children rest)));
    many = let long = length-append vs (v ∷ []) in let before = h.many in omega (arith, long, before);
  }

  pub one_faulty : (es : List ListEntry) (i : ℕ) (e : ListEntry) (rest : List ListEntry) (vs : List Val) (g longer : FaultAt)
      → EntriesSoFar es i (e ∷ rest) vs → ErrsWith (at e) g → longer ≡ (Index i ∷ g.0, g.1)
      → IsFirstOf (entries_faults c p 0 (children es)) longer
  one_faulty es i e rest vs g longer h bad is = (
    under (Index i) bad.0 ++ entries_faults c p (suc i) (children rest),
    h.faults ∙ next_faults i e rest ∙ ap (λ r. under (Index i) (faults_in r) ++ entries_faults c p (suc i) (children rest)) bad.1
        ∙ ap (λ x. x ∷ (under (Index i) bad.0 ++ entries_faults c p (suc i) (children rest))) (sym is),
  )

  pub all_done : (es : List ListEntry) (i : ℕ) (rest : List ListEntry) (vs : List Val) → EntriesSoFar es i rest vs → rest ≡ []
      → (entries_faults c p 0 (children es) ≡ []) × (entries_values c p (children es) ≡ vs) × (length (children es) ≡ length vs)
  all_done es i rest vs h none = (
    h.faults ∙ ap (λ xs. entries_faults c p i (children xs)) none,
    h.values ∙ ap (λ xs. vs ++ entries_values c p (children xs)) none ∙ all vs,
    let long = length-map es (entry_child f c) in
        let few = ap length none in
        let before = h.many in omega (arith, long, few, before),
  )
    where
      all : (xs : List Val) → xs ++ [] ≡ xs
      all [] = refl
      all (x ∷ xs) = ap (λ ys. x ∷ ys) (all xs)

-- a list whose entries have no fault
pub list_closed : (c : Codec) (p : Place) (children : List Child) (vs : List Val) → entries_faults c p 0 children ≡ []
    → entries_values c p children ≡ vs → length children ≡ length vs → list_reading c p children ≡ closed_list c.table p vs
list_closed c p children vs faults values many =
    (λ i. settled (faults i ++ here (length_broken (constraints_of c.table p) (many i)) ++ unique_faults c p (faults i) (values i))
    (list_val (vals_of (values i))))

-- and one of which an entry has a fault
pub list_faulty : (c : Codec) (p : Place) (children : List Child) (f : FaultAt) → IsFirstOf (entries_faults c p 0 children) f
    → ErrsWith (list_reading c p children) f
list_faulty c p xs f first =
    let lengths = here (length_broken (constraints_of c.table p) (length xs)) in
    let unique = unique_faults c p (entries_faults c p 0 xs) (entries_values c p xs) in
    ((first.0 ++ lengths) ++ unique, ap (λ fs. settled ((fs ++ lengths) ++ unique) (list_val (vals_of (entries_values c p xs)))) first.1)

pub list_refused : (c : Codec) (p : Place) (children : List Child) (refusal : Refusal) → EntriesJoin c p children (Err refusal)
    → JoinsTo (list_reading c p children) (Err refusal)
list_refused c p xs (a_fault f) h = list_faulty c p xs (fault_at f) h
list_refused c p xs NoMemory h = tt

-- an entry's refusal, seen from the list
pub entries_refused : (f : TextForm) (c : Codec) (p : Place) (es : List ListEntry) (i : ℕ) (e : ListEntry) (rest : List ListEntry) (vs : List Val)
    → EntriesSoFar f c p es i (e ∷ rest) vs → (refusal longer : Refusal) → JoinsTo ((entry_child f c e).reading (entry_place c.table p)) (Err refusal)
    → IsUnderStep (Index i) refusal longer → EntriesJoin c p (map (entry_child f c) es) (Err longer)
entries_refused f c p es i e rest vs h (a_fault g) (a_fault k) joins is = one_faulty f c p es i e rest vs (fault_at g) (fault_at k) h joins is
entries_refused f c p es i e rest vs h NoMemory (a_fault k) joins is = absurd is
entries_refused f c p es i e rest vs h refusal NoMemory joins is = tt

-- a list whose length breaks a constraint
settled_first : (bs : List FaultKind) (more : List FaultAt) (v : Val) (kind : FaultKind) (f : FaultAt) → first_broken bs ≡ Some kind
    → f ≡ ([], kind) → ErrsWith (settled (here bs ++ more) v) f
settled_first [] more v kind f h is = absurd cc
settled_first (k ∷ bs) more v kind f h is =
    let same : k ≡ kind = cc in
    (here bs ++ more, ap (λ x. Err (([], x) ∷ (here bs ++ more))) same ∙ ap (λ g. Err (g ∷ (here bs ++ more))) (sym is))

pub list_broken : (t : TableData) (p : Place) (vs : List Val) (bs : List FaultKind) (kind : FaultKind) (f : FaultAt)
    → bs ≡ length_broken (constraints_of t p) (length vs) → first_broken bs ≡ Some kind → f ≡ ([], kind) → ErrsWith (closed_list t p vs) f
list_broken t p vs bs kind f same h is =
    settled_first (length_broken (constraints_of t p) (length vs)) (cond (unique_of t p && has_twice vs) (one_here Unique) [])
    (list_val (vals_of vs)) kind f (ap first_broken (sym same) ∙ h) is

-- texts as entries
pub texts_entries : (f : TextForm) (c : Codec) (us : List (List ℕ)) → map (entry_child f c) (map some_text us) ≡ map (text_child f c) us
texts_entries f c [] = refl
texts_entries f c (u ∷ us) = ap (λ cs. text_child f c u ∷ cs) (texts_entries f c us)
