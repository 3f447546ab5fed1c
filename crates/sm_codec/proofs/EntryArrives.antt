-- A tree that is closed as an entry of a list, as the frame takes it, and what the frame comes to where the list ends.
use Rattle.std.proofs.Common.{◌≡◌, ℕ, suc, ◌+◌, Bool, true, false, ◌&&◌, cond, List, [], ◌∷◌, ◌++◌, length, append_assoc, append-nil}
use Rattle.std.proofs.Common.{refl, sym, ap, ◌∙◌, subst, arith}
use Rattle.std.specs.Prelude.{Option, Some, None, Ok, Err}
use Rattle.std.proofs.lemmas.List.{map-append, length-map}
use Rattle.sm_tree.specs.Node.{Node}
use Rattle.sm_tree.specs.declared.path.Step.TheVariants.{Index}
use Rattle.sm_shapes.specs.Values.{Val, null_val, list_val, vals_of}
use Rattle.sm_shapes.specs.Places.{Place, sparse_of, entry_place, constraints_of, unique_of}
use Rattle.sm_shapes.specs.Broken.{length_broken, has_twice}
use Rattle.sm_shapes.specs.declared.fault.FaultKind.TheVariants.{Null, Unique}
use Rattle.sm_codec.specs.Codec.{Codec}
use Rattle.sm_codec.specs.FaultLists.{FaultAt, Reading, here, under, first_fault, faults_in, values_in, settled}
use Rattle.sm_codec.specs.Readings.{Child, child_of, children_of, one_here, entry_reading, entries_faults, entries_values, unique_faults}
use Rattle.sm_codec.specs.Readings.{list_faults, list_reading}
use Rattle.sm_codec.specs.Decoding.{EntryFrame}
use Rattle.sm_codec.specs.Kept.{AreOf, AreKept, HoldsEntries}
use Rattle.sm_codec.specs.steps.Arrivals.{Arrival, null_comes, value_comes, fault_comes, IsArrival}
use Rattle.sm_codec.specs.steps.EntrySteps.{entry_comes, items_taken, kept_first, entry_fault, TakesEntry}
use Rattle.sm_codec.proofs.MembersKept.{all_of, of_joined, kept_of, kept_all, kept_from}
use Rattle.sm_codec.proofs.NoFaults.{none_behind}

-- what comes is what the entry comes to
abbrev pub IsEntry : Reading → Arrival → Type 0
IsEntry found null_comes = ⊥
IsEntry found (value_comes v) = found ≡ Ok v
IsEntry found (fault_comes f) = (fs : List FaultAt) × (found ≡ Err (f ∷ fs))

entry_null : (sparse : Bool) (found : Reading)
    → IsEntry (cond true (cond sparse (Ok null_val) (Err (one_here Null))) found) (entry_comes sparse null_comes)
entry_null true found = refl
entry_null false found = ([], refl)

pub entry_is : (sparse : Bool) (q : Place) (child : Child) (x : Arrival) → IsArrival child.null (child.reading q) x
    → IsEntry (entry_reading sparse q child) (entry_comes sparse x)
entry_is sparse q child null_comes h =
    subst (λ b. IsEntry (cond b (cond sparse (Ok null_val) (Err (one_here Null))) (child.reading q)) (entry_comes sparse null_comes))
    (sym h)
    (entry_null sparse (child.reading q))
entry_is sparse q child (value_comes v) h =
    ap (λ b. cond b (cond sparse (Ok null_val) (Err (one_here Null))) (child.reading q)) h.0 ∙ h.1
entry_is sparse q child (fault_comes f) h =
    (h.1.0, ap (λ b. cond b (cond sparse (Ok null_val) (Err (one_here Null))) (child.reading q)) h.0 ∙ h.1.1)

-- one entry more
module _ (c : Codec) (p : Place) (x : Child) where
  abbrev last : Reading
  last = entry_reading (sparse_of c.table p) (entry_place c.table p) x

  pub faults_more : (i : ℕ) (cs : List Child)
      → entries_faults c p i (cs ++ x ∷ []) ≡ entries_faults c p i cs ++ under (Index (i + length cs)) (faults_in last)
  faults_more i [] =
      append-nil (under (Index i) (faults_in last)) ∙ ap (λ j. under (Index j) (faults_in last)) (at_start i)
    where
      at_start : (i : ℕ) → i ≡ i + 0
      at_start i = omega arith
  faults_more i (y ∷ cs) =
      let own = under (Index i) (faults_in (entry_reading (sparse_of c.table p) (entry_place c.table p) y)) in
      ap (λ fs. own ++ fs) (faults_more (suc i) cs)
      ∙ sym (append_assoc own (entries_faults c p (suc i) cs) (under (Index (suc i + length cs)) (faults_in last)))
      ∙ ap (λ j. (own ++ entries_faults c p (suc i) cs) ++ under (Index j) (faults_in last)) (one_on i (length cs))
    where
      one_on : (i n : ℕ) → suc i + n ≡ i + suc n
      one_on i n = omega arith

  pub faults_behind : (cs : List Child)
      → entries_faults c p 0 (cs ++ x ∷ []) ≡ entries_faults c p 0 cs ++ under (Index (length cs)) (faults_in last)
  faults_behind cs =
      faults_more 0 cs ∙ ap (λ j. entries_faults c p 0 cs ++ under (Index j) (faults_in last)) (from_zero (length cs))
    where
      from_zero : (n : ℕ) → 0 + n ≡ n
      from_zero n = omega arith

  pub values_more : (cs : List Child) → entries_values c p (cs ++ x ∷ []) ≡ entries_values c p cs ++ values_in last
  values_more [] = append-nil (values_in last)
  values_more (y ∷ cs) =
      let own = values_in (entry_reading (sparse_of c.table p) (entry_place c.table p) y) in
      ap (λ vs. own ++ vs) (values_more cs) ∙ sym (append_assoc own (entries_values c p cs) (values_in last))

-- the first of faults in two parts
first_joined : (fs : List FaultAt) (g : FaultAt) (gs : List FaultAt) (old : Option FaultAt) → old ≡ first_fault fs
    → kept_first old g ≡ first_fault (fs ++ g ∷ gs)
first_joined [] g gs old e = ap (λ o. kept_first o g) e
first_joined (f ∷ fs) g gs old e = ap (λ o. kept_first o g) e

-- how the lists change, by what comes
module _ (c : Codec) (p : Place) (cs : List Child) (child : Child) where
  abbrev before_faults : List FaultAt
  before_faults = entries_faults c p 0 cs

  abbrev now_faults : List FaultAt
  now_faults = entries_faults c p 0 (cs ++ child ∷ [])

  abbrev found : Reading
  found = entry_reading (sparse_of c.table p) (entry_place c.table p) child

  abbrev Held : Option FaultAt → List Val → List Child → Type 0
  Held fault items ks =
      (fault ≡ first_fault (entries_faults c p 0 ks)) × AreKept (entries_faults c p 0 ks) items (entries_values c p ks)

  value_more : (v : Val) (fault : Option FaultAt) (items : List Val) → found ≡ Ok v → Held fault items cs
      → Held fault (items ++ v ∷ []) (cs ++ child ∷ [])
  value_more v fault items e h =
      let faults : now_faults ≡ before_faults =
      faults_behind c p child cs ∙ ap (λ r. before_faults ++ under (Index (length cs)) (faults_in r)) e ∙ append-nil before_faults in
      let values : entries_values c p (cs ++ child ∷ []) ≡ entries_values c p cs ++ v ∷ [] =
      values_more c p child cs ∙ ap (λ r. entries_values c p cs ++ values_in r) e in
      let some = of_joined items (entries_values c p cs) (v ∷ []) (v ∷ []) (kept_of before_faults items (entries_values c p cs) h.1)
      (all_of (v ∷ [])) in (
        h.0 ∙ ap first_fault (sym faults),
        kept_from now_faults (items ++ v ∷ []) (entries_values c p (cs ++ child ∷ []))
            (subst (λ vs. AreOf (items ++ v ∷ []) vs) (sym values) some)
            (λ none. ap (λ vs. vs ++ v ∷ []) (kept_all before_faults items (entries_values c p cs) h.1 (sym faults ∙ none)) ∙ sym values),
      )

  fault_more : (f : FaultAt) (fs : List FaultAt) (fault : Option FaultAt) (items : List Val) → found ≡ Err (f ∷ fs) → Held fault items cs
      → Held (kept_first fault (Index (length cs) ∷ f.0, f.1)) items (cs ++ child ∷ [])
  fault_more f fs fault items e h =
      let new : FaultAt = (Index (length cs) ∷ f.0, f.1) in
      let more = under (Index (length cs)) fs in
      let faults : now_faults ≡ before_faults ++ new ∷ more =
      faults_behind c p child cs ∙ ap (λ r. before_faults ++ under (Index (length cs)) (faults_in r)) e in
      let values : entries_values c p (cs ++ child ∷ []) ≡ entries_values c p cs =
      values_more c p child cs ∙ ap (λ r. entries_values c p cs ++ values_in r) e ∙ append-nil (entries_values c p cs) in (
        first_joined before_faults new more fault h.0 ∙ ap first_fault (sym faults),
        kept_from now_faults items (entries_values c p (cs ++ child ∷ []))
            (subst (λ vs. AreOf items vs) (sym values) (kept_of before_faults items (entries_values c p cs) h.1))
            (λ none. absurd (never_none new more (none_behind before_faults (new ∷ more) (sym faults ∙ none)))),
      )
    where
      never_none : (g : FaultAt) (gs : List FaultAt) → g ∷ gs ≡ [] → ⊥
      never_none g gs h = cc

  entry_more : (x : Arrival) (fault : Option FaultAt) (items : List Val) → IsEntry found x → Held fault items cs
      → Held (entry_fault (length cs) x fault) (items_taken x items) (cs ++ child ∷ [])
  entry_more null_comes fault items is h = absurd is
  entry_more (value_comes v) fault items is h = value_more v fault items is h
  entry_more (fault_comes f) fault items is h = fault_more f is.0 fault items is.1 h

-- so a list's frame holds the entries with this one
pub entry_held : (c : Codec) (p : Place) (ns : List Node) (n : Node) (x : Arrival) (f g : EntryFrame)
    → IsArrival (child_of c n).null ((child_of c n).reading (entry_place c.table p)) x → TakesEntry (sparse_of c.table p) x f g
    → HoldsEntries c p ns f → HoldsEntries c p (ns ++ n ∷ []) g
entry_held c p ns n x f g is takes h =
    let cs = children_of c ns in
    let child = child_of c n in
    let count : f.count ≡ length cs = h.count ∙ sym (length-map ns (child_of c)) in
    let come = entry_comes (sparse_of c.table p) x in
    let held = entry_more c p cs child come f.fault f.items (entry_is (sparse_of c.table p) (entry_place c.table p) child x is)
    (h.fault, h.items) in
    let all : children_of c (ns ++ n ∷ []) ≡ cs ++ child ∷ [] = map-append (child_of c) ns (n ∷ []) in
    let now = subst (λ ks. Held c p cs child (entry_fault (length cs) come f.fault) (items_taken come f.items) ks) (sym all) held in
    let same_fault : g.fault ≡ entry_fault (length cs) come f.fault = takes.3 ∙ ap (λ i. entry_fault i come f.fault) count in
    record {
      sort = h.sort;
      shape = takes.0 ∙ h.shape;
      count = takes.1 ∙ ap suc h.count ∙ sym (one_longer ns n);
      fault = same_fault ∙ now.0;
      items = subst (λ vs. AreKept (entries_faults c p 0 (children_of c (ns ++ n ∷ []))) vs
          (entries_values c p (children_of c (ns ++ n ∷ []))))
          (sym takes.2) now.1;
    }
  where
    one_longer : (ms : List Node) (m : Node) → length (ms ++ m ∷ []) ≡ suc (length ms)
    one_longer [] m = refl
    one_longer (k ∷ ms) m = ap suc (one_longer ms m)

-- where the list ends
ends_by : (c : Codec) (p : Place) (cs : List Child) (fs : List FaultAt) → entries_faults c p 0 cs ≡ fs
    → list_faults c p cs ≡ (fs ++ here (length_broken (constraints_of c.table p) (length cs))) ++ unique_faults c p fs
    (entries_values c p cs)
ends_by c p cs fs e =
    ap (λ xs. (xs ++ here (length_broken (constraints_of c.table p) (length cs))) ++ unique_faults c p xs (entries_values c p cs)) e

pub list_fault : (c : Codec) (p : Place) (ns : List Node) (f : EntryFrame) (g : FaultAt) → HoldsEntries c p ns f → f.fault ≡ Some g
    → (fs : List FaultAt) × (list_reading c p (children_of c ns) ≡ Err (g ∷ fs))
list_fault c p ns f g h e = by_faults (entries_faults c p 0 (children_of c ns)) refl (sym e ∙ h.fault)
  where
    by_faults : (fs : List FaultAt) → entries_faults c p 0 (children_of c ns) ≡ fs
        → Some g ≡ first_fault (entries_faults c p 0 (children_of c ns))
        → (more : List FaultAt) × (list_reading c p (children_of c ns) ≡ Err (g ∷ more))
    by_faults [] is first = let both : Some g ≡ None = first ∙ ap first_fault is in absurd cc
    by_faults (f ∷ fs) is first =
        let both : Some g ≡ Some f = first ∙ ap first_fault is in
        let same : f ≡ g = cc in
        let rest = (fs ++ here (length_broken (constraints_of c.table p) (length (children_of c ns)))) ++ [] in (
          rest,
          ap (λ xs. settled xs (list_val (vals_of (entries_values c p (children_of c ns)))))
              (ends_by c p (children_of c ns) (f ∷ fs) is) ∙ ap (λ x. Err (x ∷ rest)) same,
        )

pub list_ends : (c : Codec) (p : Place) (ns : List Node) (f : EntryFrame) → HoldsEntries c p ns f → f.fault ≡ None
    → list_reading c p (children_of c ns)
    ≡ settled (here (length_broken (constraints_of c.table p) f.count) ++ cond (unique_of c.table p && has_twice f.items)
    (one_here Unique) [])
    (list_val (vals_of f.items))
list_ends c p ns f h e =
    let cs = children_of c ns in
    let none : entries_faults c p 0 cs ≡ [] = no_first (entries_faults c p 0 cs) (sym e ∙ h.fault) in
    let items : f.items ≡ entries_values c p cs = kept_all (entries_faults c p 0 cs) f.items (entries_values c p cs) h.items none in
    let count : length cs ≡ f.count = length-map ns (child_of c) ∙ sym h.count in
    ap (λ fs. settled fs (list_val (vals_of (entries_values c p cs)))) (ends_by c p cs [] none)
    ∙ ap (λ n. settled (here (length_broken (constraints_of c.table p) n) ++ unique_faults c p [] (entries_values c p cs))
    (list_val (vals_of (entries_values c p cs)))) count
    ∙ ap (λ vs. settled (here (length_broken (constraints_of c.table p) f.count) ++ unique_faults c p [] vs) (list_val (vals_of vs)))
    (sym items)
  where
    no_first : (fs : List FaultAt) → None ≡ first_fault fs → fs ≡ []
    no_first [] i = refl
    no_first (g ∷ gs) i = absurd cc
