-- A value of `length` or `range` that reads is wrong exactly where the test says so.
use Rattle.std.proofs.Common.{◌≡◌, ◌⊎◌, ◌&&◌, inl, inr, ℕ, Bool, true, false, List, Option, Some, None, refl, sym, ap, ◌∙◌, subst}
use Rattle.std.specs.Prelude.{◌||◌, cond, codes, not}
use Rattle.std.proofs.lemmas.Option.{none-some, same_Some}
use Rattle.sm_tree.specs.Node.{Node}
use Rattle.sm_model.specs.EventView.{EventTold}
use Rattle.std.specs.FinMap as fin
use Rattle.sm_model.specs.Graphs.{Entry, GraphMaps}
use Rattle.sm_model.specs.PreludeShapes.{is_prelude_id}
use Rattle.sm_model.specs.Relations.{IsInGraph}
use Rattle.sm_model.specs.declared.event.ModelEvent.{ModelEvent}
use Rattle.sm_model.specs.declared.kind.Kind.TheVariants.{Float, Integer}
use Rattle.sm_model.proofs.Searching.{and_left, and_right}
use Rattle.sm_model.proofs.Worklist.{apart}
use Rattle.sm_compile.specs.Sound.{trait_in, trait_of}
use Rattle.sm_compile.specs.TraitIds.{length_id, range_id}
use Rattle.sm_compile.specs.TraitNodes.{are_lengths, are_ordered, are_whole_bounds, is_range, where_there}
use Rattle.sm_rules.specs.TraitRows.{is_as_one, rows_of, that_reads}
use Rattle.sm_rules.specs.Constraints.{HasWrongBounds, wrong_length, wrong_range}
use Rattle.sm_rules.specs.RuleEvents.{IsEventAt, Puts, rule_event}
use Rattle.sm_rules.specs.declared.rule.Rule.TheVariants.{ConstraintBounds}
use Rattle.sm_value_rules.specs.steps.Bounding.{is_wrong_length, is_wrong_range}
use Rattle.sm_passes.specs.Putting.{IsWhere}
use Rattle.sm_passes.proofs.OwnShapes.{not_so}
use Rattle.sm_passes.proofs.EventsPut.{puts_both, puts_same}

-- how the rows of the two traits read
length_rows : (n : Node) → is_as_one (rows_of length_id) n ≡ (are_whole_bounds n || false)
length_rows n = refl

range_rows : (n : Node) → is_as_one (rows_of range_id) n ≡ (is_range Integer n || (is_range Float n || false))
range_rows n = refl

-- a value that reads is the value that is there
read_is : (b : Bool) (n m : Node) → cond b (Some n) None ≡ Some m → (b ≡ true) × (n ≡ m)
read_is true n m h = (refl, same_Some n m h)
read_is false n m h = absurd (none-some m h)

or_false : (b : Bool) → (b || false) ≡ b
or_false true = refl
or_false false = refl

module _ (trait : List ℕ) (reads wrong : Node → Bool) (rows : (n : Node) → is_as_one (rows_of trait) n ≡ reads n) where
  -- the value that may be there reads, and is wrong
  seen_wrong : (o : Option Node) → (where_there reads o && not (where_there wrong o)) ≡ true
      → (n : Node) × (that_reads trait o ≡ Some n) × (wrong n ≡ false)
  seen_wrong None h = absurd (apart h)
  seen_wrong (Some n) h = (
    n,
    ap (λ b. cond b (Some n) None) (rows n ∙ and_left (reads n) (not (wrong n)) h),
    not_so (wrong n) (and_right (reads n) (not (wrong n)) h),
  )

  wrong_seen : (o : Option Node) (n : Node) → that_reads trait o ≡ Some n → wrong n ≡ false
      → (where_there reads o && not (where_there wrong o)) ≡ true
  wrong_seen None n read bad = absurd (none-some n read)
  wrong_seen (Some m) n read bad =
      let is = read_is (is_as_one (rows_of trait) m) m n read in
      ap (λ b. b && not (wrong m)) (sym (rows m) ∙ is.0) ∙ ap not (subst (λ x. wrong x ≡ false) (sym is.1) bad)

-- the test of `length` is one of whether it reads, and of one thing
length_test : (o : Option Node)
    → is_wrong_length o ≡ (where_there are_whole_bounds o && not (where_there (λ n. are_ordered n && are_lengths n) o))
length_test None = refl
length_test (Some n) = refl

range_test : (o : Option Node)
    → is_wrong_range o ≡ (where_there (λ n. is_range Integer n || is_range Float n) o && not (where_there are_ordered o))
range_test None = refl
range_test (Some n) = refl

module _ (g : GraphMaps) (id : List ℕ) (own : is_prelude_id id ≡ false) where
  abbrev pub AnyBound : EventTold → Type 0
  AnyBound e =
      IsWhere (is_wrong_length (trait_of g id length_id)) (rule_event ConstraintBounds id (codes "length")) e
      ⊎ IsWhere (is_wrong_range (trait_of g id range_id)) (rule_event ConstraintBounds id (codes "range")) e

  bounds_forth : (e : EventTold) → AnyBound e → IsEventAt ConstraintBounds (HasWrongBounds g) id e
  bounds_forth e (inl h) =
      let o = trait_of g id length_id in
      let w = seen_wrong length_id are_whole_bounds (λ n. are_ordered n && are_lengths n)
      (λ n. length_rows n ∙ or_false (are_whole_bounds n)) o
      (sym (length_test o) ∙ h.0) in
      (codes "length", wrong_length w.0 own w.1 w.2 refl, h.1)
  bounds_forth e (inr h) =
      let o = trait_of g id range_id in
      let w = seen_wrong range_id (λ n. is_range Integer n || is_range Float n) are_ordered
      (λ n. range_rows n ∙ ap (λ b. is_range Integer n || b) (or_false (is_range Float n))) o (sym (range_test o) ∙ h.0) in
      (codes "range", wrong_range w.0 own w.1 w.2 refl, h.1)

  bounds_back : (e : EventTold) (detail : List ℕ) → HasWrongBounds g id detail → e ≡ rule_event ConstraintBounds id detail → AnyBound e
  bounds_back e detail (wrong_length n own read bad is) h =
      let o = trait_of g id length_id in
      inl (
        length_test o ∙ wrong_seen length_id are_whole_bounds (λ n. are_ordered n && are_lengths n)
            (λ n. length_rows n ∙ or_false (are_whole_bounds n)) o n read bad,
        h ∙ ap (rule_event ConstraintBounds id) is,
      )
  bounds_back e detail (wrong_range n own read bad is) h =
      let o = trait_of g id range_id in
      inr (
        range_test o ∙ wrong_seen range_id (λ n. is_range Integer n || is_range Float n) are_ordered
            (λ n. range_rows n ∙ ap (λ b. is_range Integer n || b) (or_false (is_range Float n))) o n read bad,
        h ∙ ap (rule_event ConstraintBounds id) is,
      )

  pub bounds_put : (a b c : List ModelEvent)
      → Puts (IsWhere (is_wrong_length (trait_of g id length_id)) (rule_event ConstraintBounds id (codes "length"))) a b
      → Puts (IsWhere (is_wrong_range (trait_of g id range_id)) (rule_event ConstraintBounds id (codes "range"))) b c
      → Puts (IsEventAt ConstraintBounds (HasWrongBounds g) id) a c
  bounds_put a b c first second =
      puts_same AnyBound (IsEventAt ConstraintBounds (HasWrongBounds g) id) a c
      (λ e. (bounds_forth e, λ h. bounds_back e h.0 h.1 h.2)) (puts_both _ _ a b c first second)

-- what has bounds is there
read_there : (trait : List ℕ) (o : Option Entry) (n : Node) → that_reads trait (trait_in trait o) ≡ Some n → (e : Entry) × (o ≡ Some e)
read_there trait None n h = absurd (none-some n h)
read_there trait (Some e) n h = (e, refl)

pub bounds_there : (g : GraphMaps) (id detail : List ℕ) → HasWrongBounds g id detail → IsInGraph g id
bounds_there g id detail (wrong_length n own read bad is) = read_there length_id (fin.get g.shapes id) n read
bounds_there g id detail (wrong_range n own read bad is) = read_there range_id (fin.get g.shapes id) n read
