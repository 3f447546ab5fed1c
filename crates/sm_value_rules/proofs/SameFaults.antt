-- What a node comes to for a shape is one thing in all tables that have the shape.
use Rattle.std.proofs.Common.{◌≡◌, ℕ, zero, suc, ◌+◌, false, List, [], ◌∷◌, refl, sym, ap, ◌∙◌, arith}
use Rattle.std.specs.Prelude.{Option, Some, None, Ok, Err, slice_get}
use Rattle.std.specs.Option.{option_map}
use Rattle.std.proofs.lemmas.Option.{none-some, same_Some}
use Rattle.sm_tree.specs.Node.{Node}
use Rattle.sm_model.specs.Graphs.{GraphMaps}
use Rattle.sm_shapes.specs.DefaultPuts.{with_default}
use Rattle.sm_shapes.specs.Fitting.{Test, any_text}
use Rattle.sm_shapes.specs.Places.{member_place, root_place}
use Rattle.sm_shapes.specs.TableData.{MemberData, TableData, default_at, default_in}
use Rattle.sm_codec.specs.Codec.{Codec}
use Rattle.sm_codec.specs.Conventions.{node_convention}
use Rattle.sm_codec.specs.Defaults.{counted_default, filled, filled_members, node_codec, read_value}
use Rattle.sm_codec.specs.FaultLists.{FaultAt, Reading, faults_in}
use Rattle.sm_codec.specs.Readings.{reading}
use Rattle.sm_codec.specs.steps.Twins.{moved, moved_reading}
use Rattle.sm_codec.proofs.NodeLaws.{node_laws}
use Rattle.sm_codec.proofs.TwinPlaces.{faults_kept}
use Rattle.sm_codec.proofs.TwinReadings.{same_reading}
use Rattle.sm_value_rules.specs.Laws.{FaultsByEach, OneFaultList, SameFaults}
use Rattle.sm_rules.specs.NodeChecks.{HasRow, node_reading}
use Rattle.sm_value_rules.proofs.OtherNumbers.{nothing_lost, number_back}
use Rattle.sm_value_rules.proofs.TableTwins.{AreGiven, Good, f, have_twins, member_twins, nodes_alike, root_twins}

-- the row of a member that is given its default
filled_row : (c : Codec) (ms : List MemberData) (i k : ℕ) (d : MemberData) → slice_get ms k ≡ Some d
    → slice_get (filled_members c i ms) k ≡ Some (with_default d (counted_default c (i + k) d.default_node))
filled_row c [] i k d e = absurd (none-some d e)
filled_row c (m ∷ ms) i zero d e =
    let same : i + 0 ≡ i = omega arith in
    ap (λ (x : MemberData). Some (with_default x (counted_default c i x.default_node))) (same_Some m d e)
    ∙ ap (λ l. Some (with_default d (counted_default c l d.default_node))) (sym same)
filled_row c (m ∷ ms) i (suc k) d e =
    let same : suc i + k ≡ i + suc k = omega arith in
    filled_row c ms (suc i) k d e ∙ ap (λ l. Some (with_default d (counted_default c l d.default_node))) same

given_defaults : (t : TableData) (test : Test) → AreGiven t (filled_members (node_codec t test) 0 t.members)
given_defaults t test k d e =
    let same : 0 + k ≡ k = omega arith in (
      counted_default (node_codec t test) k d.default_node,
      filled_row (node_codec t test) t.members 0 k d e
          ∙ ap (λ l. Some (with_default d (counted_default (node_codec t test) l d.default_node))) same,
    )

as_it_is : (t : TableData) → AreGiven t t.members
as_it_is t k d e = (d.default, e)

value_moved : (f : ℕ → ℕ) (r : Reading) → option_map (moved f) (read_value r) ≡ read_value (moved_reading f r)
value_moved f (Ok v) = refl
value_moved f (Err fs) = refl

module _ (g : GraphMaps) (root : List ℕ) (roots others : List (List ℕ)) (t u : TableData) (row other_row : ℕ)
    (h : HasRow g roots t root row) (o : HasRow g others u root other_row) (test : Test) where
  abbrev to : ℕ → ℕ
  to = f g root roots others t u row other_row h o

  abbrev back : ℕ → ℕ
  back = number_back h.numbering.members o.numbering.members

  inverse : (k : ℕ) → back (to k) ≡ k
  inverse k = nothing_lost h.numbering.members o.numbering.members h.compiled.members_once k

  abbrev IsGood : ℕ → Type 0
  IsGood = Good g root roots others t u row other_row h o

  none_yet : (k : ℕ) (good : IsGood k) → option_map (moved to) (default_at t k) ≡ default_at u (to k)
  none_yet k good =
      let r = member_twins g root roots others t u row other_row h o k good in
      ap (λ x. option_map (moved to) (default_in x)) r.at_d ∙ ap (option_map (moved to)) r.a.no_default ∙ sym r.b.no_default
      ∙ sym (ap default_in r.at_e)

  -- before defaults are filled
  plain : (n : Node) (k : ℕ) → IsGood k
      → moved_reading to (reading (node_codec t test) n (member_place k)) ≡ reading (node_codec u test) n (member_place (to k))
  plain n k good =
      let have = have_twins g root roots others t u row other_row h o test t.members u.members (as_it_is t) (as_it_is u) none_yet in
      same_reading t u (node_convention false) test to back IsGood (node_laws false) have inverse n (member_place k)
      (member_place (to k)) (have.member k good)

  counted_alike : (o : Option Node) (k : ℕ) → IsGood k
      → option_map (moved to) (counted_default (node_codec t test) k o) ≡ counted_default (node_codec u test) (to k) o
  counted_alike None k good = refl
  counted_alike (Some n) k good =
      value_moved to (reading (node_codec t test) n (member_place k)) ∙ ap read_value (plain n k good)

  filled_alike : (k : ℕ) (good : IsGood k)
      → option_map (moved to) (default_at (filled t test) k) ≡ default_at (filled u test) (to k)
  unfolding given_defaults
  filled_alike k good =
      let r = member_twins g root roots others t u row other_row h o k good in
      let nodes = nodes_alike g h.numbering o.numbering t u k (to k) good.id good.shape r in
      ap (λ x. option_map (moved to) (default_in x)) (given_defaults t test k r.d r.at_d).1
      ∙ counted_alike r.d.default_node k good ∙ ap (counted_default (node_codec u test) (to k)) nodes
      ∙ sym (ap default_in (given_defaults u test (to k) r.e r.at_e).1)

  pub same_filled : (n : Node) → moved_reading to (node_reading t test n row) ≡ node_reading u test n other_row
  same_filled n =
      let left = filled_members (node_codec t test) 0 t.members in
      let right = filled_members (node_codec u test) 0 u.members in
      let have = have_twins g root roots others t u row other_row h o test left right (given_defaults t test) (given_defaults u test)
      filled_alike in
      let two = root_twins g root roots others t u row other_row h o test left right (given_defaults t test) (given_defaults u test) in
      same_reading (filled t test) (filled u test) (node_convention false) test to back IsGood (node_laws false) have inverse n
      (root_place row) (root_place other_row) two

-- the laws
pub same_faults : SameFaults
same_faults g roots others root t u j k h o test n =
    sym (ap faults_in (same_filled g root roots others t u j k h o test n))
    ∙ sym (faults_kept (f g root roots others t u j k h o) (node_reading t test n j))

as_faulty : (f : ℕ → ℕ) (r s : Reading) (fs : List FaultAt) → moved_reading f r ≡ s → r ≡ Err fs → s ≡ Err fs
as_faulty f r s fs e h = sym e ∙ ap (moved_reading f) h

pub faults_by_each : FaultsByEach
faults_by_each g root n faults h roots t k row =
    as_faulty (f g root h.roots roots h.t t h.k k h.row row) (node_reading h.t any_text n h.k) (node_reading t any_text n k) faults
    (same_filled g root h.roots roots h.t t h.k k h.row row any_text n) h.faulty

pub one_fault_list : OneFaultList
one_fault_list g root n one other h k =
    sym (ap faults_in (faults_by_each g root n one h k.roots k.t k.k k.row)) ∙ ap faults_in k.faulty
