-- Maps of texts, group by group.
use Rattle.std.proofs.Common.{◌≡◌, inl, inr, ℕ, ◌+◌, Bool, true, false, cond, List, [], ◌∷◌, ◌++◌, map, length, refl, sym, ap, ◌∙◌, subst, arith}
use Rattle.std.proofs.lemmas.List.{append_assoc, length-append, length-map}
use Rattle.std.specs.Prelude.{Err, Ok, Result, not}
use Rattle.std.proofs.lemmas.Bool.{true≢false}
use Rattle.std.specs.List.{AllByRecursion}
use Rattle.std.specs.Str.{bytes_eq}
use Rattle.std.proofs.lemmas.Slice.Eq.{bytes_eq-Decides}
use Rattle.sm_tree.specs.declared.path.Step.TheVariants.{Key}
use Rattle.sm_shapes.specs.Broken.{length_broken}
use Rattle.sm_shapes.specs.Places.{Place, constraints_of, value_place}
use Rattle.sm_shapes.specs.Values.{Val, entries_of, map_val}
use Rattle.sm_shapes.specs.declared.fault.FaultKind.TheVariants.{Repeated}
use Rattle.sm_groups.specs.Groups.{AreGroupsOf}
use Rattle.sm_codec.specs.Codec.{Codec}
use Rattle.sm_codec.specs.FaultLists.{FaultAt, Reading, faults_in, here, settled, under}
use Rattle.sm_codec.specs.Named.{in_byte_order, named, names_of}
use Rattle.sm_codec.specs.Readings.{Child, key_faults, keys_faults, keys_values, keyed, map_reading, pair_faults, pair_values}
use Rattle.std.specs.List.Sorted.{IsStrictlySortedBy}
use Rattle.std.specs.declared.cmp.Ordering.TheVariants.{Less}
use Rattle.sm_codec.proofs.KeyOrder.{InOrder, IsIn, before_one, is_ordered, never_before_itself, order, ordered, ordered_is, same_order}
use Rattle.sm_codec.proofs.KeyParts.{nothing_under}
use Rattle.sm_shapes.specs.ValueView.{val_of}
use Rattle.sm_shapes.specs.declared.values.Value.{Value}
use Rattle.sm_codec.specs.FrameView.{fault_at}
use Rattle.sm_codec.specs.declared.decoder.Refusal.{Refusal}
use Rattle.sm_codec.specs.declared.decoder.Refusal.TheVariants.{Fault as a_fault, NoMemory}
use Rattle.sm_part_values.specs.Joins.{ErrsWith, IsFirstOf, JoinsTo}
use Rattle.sm_part_values.specs.PartTexts.{TextForm, keyed_by, keyed_texts, list_child, text_child}
use Rattle.sm_part_values.specs.steps.Maps.{Grouped, GroupsJoin, PairJoins, closed_map, is_again, group_children, group_reading, groups_faults, groups_reading, groups_values}
use Rattle.sm_part_values.proofs.KeysGrouped.{IsFilled, groups_named, keys_grouped}

module _ (f : TextForm) (c : Codec) where
  -- pairs to texts
  texts_names : (pairs : List (List ℕ × List ℕ)) → names_of (keyed_texts f c pairs) ≡ names_of pairs
  texts_names [] = refl
  texts_names (pair ∷ pairs) = ap (λ ks. pair.0 ∷ ks) (texts_names pairs)

  texts_named : (key : List ℕ) (pairs : List (List ℕ × List ℕ)) → named key (keyed_texts f c pairs) ≡ map (text_child f c) (named key pairs)
  texts_named key [] = refl
  texts_named key (pair ∷ pairs) = by (bytes_eq pair.0 key) (texts_named key pairs)
    where
      by : (b : Bool) → named key (keyed_texts f c pairs) ≡ map (text_child f c) (named key pairs)
          → cond b (text_child f c pair.1 ∷ named key (keyed_texts f c pairs)) (named key (keyed_texts f c pairs))
          ≡ map (text_child f c) (cond b (pair.1 ∷ named key pairs) (named key pairs))
      by true rest = ap (λ cs. text_child f c pair.1 ∷ cs) rest
      by false rest = rest

  -- keys to lists
  module _ (child : List ℕ → Child) where
    abbrev listed : List (List ℕ) → List (List ℕ × Child)
    listed ks = map (λ key. (key, child key)) ks

    listed_names : (ks : List (List ℕ)) → names_of (listed ks) ≡ ks
    listed_names [] = refl
    listed_names (k ∷ ks) = ap (λ js. k ∷ js) (listed_names ks)

    listed_named : (ks : List (List ℕ)) → InOrder ks → (key : List ℕ) → IsIn key ks → named key (listed ks) ≡ child key ∷ []
    unfolding IsStrictlySortedBy
    listed_named [] h key i = absurd i
    listed_named (k ∷ ks) h key (inl e) =
        let itself : bytes_eq k key ≡ true = (bytes_eq-Decides k key).1 (sym e) in
        let rest : named key (listed ks) ≡ [] = nothing_under key (listed ks)
        (λ i. never_before_itself k key (sym e) (before_one k key ks h.0 (subst (IsIn key) (listed_names ks) i))) in
        ap (λ b. cond b (child k ∷ named key (listed ks)) (named key (listed ks))) itself
        ∙ ap (λ cs. child k ∷ cs) rest ∙ ap (λ w. child w ∷ []) (sym e)
    listed_named (k ∷ ks) h key (inr i) =
        let other : bytes_eq k key ≡ false = not_same (bytes_eq k key) refl (before_one k key ks h.0 i) in
        ap (λ b. cond b (child k ∷ named key (listed ks)) (named key (listed ks))) other ∙ listed_named ks h.1 key i
      where
        not_same : (b : Bool) → bytes_eq k key ≡ b → order k key ≡ Less → b ≡ false
        not_same false e below = refl
        not_same true e below = absurd (never_before_itself k key ((bytes_eq-Decides k key).0 e) below)

  abbrev keys : Grouped → List (List ℕ)
  keys gs = map (λ g. g.0) gs

  in_keys : (gs : Grouped) → AllByRecursion (λ g. IsIn g.0 (keys gs)) gs
  in_keys gs = by gs gs (λ key i. i)
    where
      by : (hs gs : Grouped) → ((key : List ℕ) → IsIn key (keys hs) → IsIn key (keys gs)) → AllByRecursion (λ g. IsIn g.0 (keys gs)) hs
      by [] gs h = tt
      by (g ∷ hs) gs h = (h g.0 (inl refl), by hs gs (λ key i. h key (inr i)))

  module _ (pairs : List (List ℕ × List ℕ)) (gs : Grouped) (are : AreGroupsOf pairs gs) (filled : AllByRecursion IsFilled gs) where
    abbrev ps : Bool → List (List ℕ × Child)
    ps lists = keyed_by lists f c pairs

    abbrev ordered_keys : List (List ℕ)
    ordered_keys = in_byte_order (names_of pairs)

    -- the keys
    keys_same : (lists : Bool) → in_byte_order (names_of (ps lists)) ≡ keys gs
    keys_same false = ap in_byte_order (texts_names pairs) ∙ sym (keys_grouped pairs gs are filled)
    keys_same true =
        ap in_byte_order (listed_names (λ key. list_child c (map (text_child f c) (named key pairs))) ordered_keys)
        ∙ same_order (in_byte_order ordered_keys) ordered_keys (ordered ordered_keys) (ordered (names_of pairs))
        (λ z i. ordered_is z ordered_keys i) (λ z i. is_ordered z ordered_keys i)
        ∙ sym (keys_grouped pairs gs are filled)

    -- and what stands under each
    children_by : (lists : Bool) (hs : Grouped) → AllByRecursion (λ g. named g.0 pairs ≡ g.1) hs
        → AllByRecursion (λ g. IsIn g.0 (keys gs)) hs → AllByRecursion (λ g. named g.0 (ps lists) ≡ group_children lists f c g.1) hs
    children_by lists [] named_all inside = tt
    children_by false (g ∷ hs) named_all inside =
        (texts_named g.0 pairs ∙ ap (map (text_child f c)) named_all.0, children_by false hs named_all.1 inside.1)
    children_by true (g ∷ hs) named_all inside =
        let child = λ (key : List ℕ). list_child c (map (text_child f c) (named key pairs)) in
        let there = subst (IsIn g.0) (keys_grouped pairs gs are filled) inside.0 in (
          listed_named child ordered_keys (ordered (names_of pairs)) g.0 there
              ∙ ap (λ us. list_child c (map (text_child f c) us) ∷ []) named_all.0,
          children_by true hs named_all.1 inside.1,
        )

    module _ (p : Place) (lists : Bool) where
      faults_by : (hs : Grouped) → AllByRecursion (λ g. named g.0 (ps lists) ≡ group_children lists f c g.1) hs
          → keys_faults c p (ps lists) (keys hs) ≡ groups_faults lists f c p hs
      faults_by [] h = refl
      faults_by (g ∷ hs) h =
          let one = h.0 in let more = faults_by hs h.1 in λ i. under (Key g.0) (pair_faults c p g.0 (one i)) ++ more i

      values_by : (hs : Grouped) → AllByRecursion (λ g. named g.0 (ps lists) ≡ group_children lists f c g.1) hs
          → keys_values c p (ps lists) (keys hs) ≡ groups_values lists f c p hs
      values_by [] h = refl
      values_by (g ∷ hs) h =
          let one = h.0 in let more = values_by hs h.1 in λ i. pair_values c p g.0 (one i) ++ more i

      -- a map of pairs is that of their groups
      pub map_grouped : groups_reading lists f c p gs ≡ map_reading c p (ps lists)
      map_grouped =
          let all = children_by lists gs (groups_named pairs gs are) (in_keys gs) in
          let ks = keys_same lists in
          let faults = sym (faults_by gs all) ∙ ap (keys_faults c p (ps lists)) (sym ks) in
          let values = sym (values_by gs all) ∙ ap (keys_values c p (ps lists)) (sym ks) in
          let many = sym (length-map gs (λ g. g.0)) ∙ ap length (sym ks) in
          λ i. settled (faults i ++ here (length_broken (constraints_of c.table p) (many i))) (map_val (entries_of (values i)))

  module _ (p : Place) (lists : Bool) where
    -- so far no group has a fault, and these are the entries
    pub record GroupsSoFar (gs rest : Grouped) (es : List (List ℕ × Val)) : Type 0 where
      pub faults : groups_faults lists f c p gs ≡ groups_faults lists f c p rest
      pub values : groups_values lists f c p gs ≡ es ++ groups_values lists f c p rest
      pub many : length es + length rest ≡ length gs

    pub none_yet : (gs : Grouped) → GroupsSoFar gs gs []
    none_yet gs = record { faults = refl; values = refl; many = omega arith }

    pub one_more : (gs : Grouped) (g : List ℕ × List (List ℕ)) (rest : Grouped) (es : List (List ℕ × Val)) (v : Val)
        → GroupsSoFar gs (g ∷ rest) es → pair_faults c p g.0 (group_children lists f c g.1) ≡ []
        → pair_values c p g.0 (group_children lists f c g.1) ≡ (g.0, v) ∷ [] → GroupsSoFar gs rest (es ++ (g.0, v) ∷ [])
    one_more gs g rest es v h none is = record {
      faults = h.faults ∙ ap (λ fs. under (Key g.0) fs ++ groups_faults lists f c p rest) none;
      values = h.values ∙ ap (λ xs. es ++ (xs ++ groups_values lists f c p rest)) is
          ∙ sym (append_assoc es ((g.0, v) ∷ []) (groups_values lists f c p rest));
      many = let long = length-append es ((g.0, v) ∷ []) in let before = h.many in omega (arith, long, before);
    }

    pub one_faulty : (gs : Grouped) (g : List ℕ × List (List ℕ)) (rest : Grouped) (es : List (List ℕ × Val)) (a longer : FaultAt)
        → GroupsSoFar gs (g ∷ rest) es → IsFirstOf (pair_faults c p g.0 (group_children lists f c g.1)) a
        → longer ≡ (Key g.0 ∷ a.0, a.1) → IsFirstOf (groups_faults lists f c p gs) longer
    one_faulty gs g rest es a longer h bad is = (
      under (Key g.0) bad.0 ++ groups_faults lists f c p rest,
      h.faults ∙ ap (λ fs. under (Key g.0) fs ++ groups_faults lists f c p rest) bad.1
          ∙ ap (λ x. x ∷ (under (Key g.0) bad.0 ++ groups_faults lists f c p rest)) (sym is),
    )

    pub all_done : (gs rest : Grouped) (es : List (List ℕ × Val)) → GroupsSoFar gs rest es → rest ≡ []
        → (groups_faults lists f c p gs ≡ []) × (groups_values lists f c p gs ≡ es) × (length gs ≡ length es)
    all_done gs rest es h none = (
      h.faults ∙ ap (groups_faults lists f c p) none,
      h.values ∙ ap (λ xs. es ++ groups_values lists f c p xs) none ∙ all es,
      let few = ap length none in let before = h.many in omega (arith, few, before),
    )
      where
        all : (xs : List (List ℕ × Val)) → xs ++ [] ≡ xs
        all [] = refl
        all (x ∷ xs) = ap (λ ys. x ∷ ys) (all xs)

    pub map_closed : (gs : Grouped) (es : List (List ℕ × Val)) → groups_faults lists f c p gs ≡ [] → groups_values lists f c p gs ≡ es
        → length gs ≡ length es → groups_reading lists f c p gs ≡ closed_map c.table p es
    map_closed gs es none values many =
        λ i. settled (none i ++ here (length_broken (constraints_of c.table p) (many i))) (map_val (entries_of (values i)))

    pub map_faulty : (gs : Grouped) (a : FaultAt) → IsFirstOf (groups_faults lists f c p gs) a → ErrsWith (groups_reading lists f c p gs) a
    map_faulty gs a first =
        let more = here (length_broken (constraints_of c.table p) (length gs)) in
        (first.0 ++ more, ap (λ fs. settled (fs ++ more) (map_val (entries_of (groups_values lists f c p gs)))) first.1)

  -- under a key
  module _ (p : Place) (key : List ℕ) where
    pub twice : (u v : List ℕ) (us : List (List ℕ)) (a : FaultAt) → a ≡ ([], Repeated)
        → IsFirstOf (pair_faults c p key (group_children false f c (u ∷ v ∷ us))) a
    twice u v us a is = ([], ap (λ x. x ∷ []) (sym is))

    -- one child: the key's faults go first, and then the value's
    one_child : (lists : Bool) (u : List ℕ) (us : List (List ℕ)) → (lists ≡ false → us ≡ []) → (r : Reading)
        → group_reading lists f c (value_place c.table p) (u ∷ us) ≡ r
        → (pair_faults c p key (group_children lists f c (u ∷ us)) ≡ key_faults c p key ++ faults_in r)
        × (pair_values c p key (group_children lists f c (u ∷ us)) ≡ keyed key r)
    one_child true u us alone r is = (ap (λ x. key_faults c p key ++ faults_in x) is, ap (keyed key) is)
    one_child false u us alone r is = (
      ap (λ ws. pair_faults c p key (group_children false f c (u ∷ ws))) (alone refl) ∙ ap (λ x. key_faults c p key ++ faults_in x) is,
      ap (λ ws. pair_values c p key (group_children false f c (u ∷ ws))) (alone refl) ∙ ap (keyed key) is,
    )

    pub key_faulty : (lists : Bool) (u : List ℕ) (us : List (List ℕ)) → (lists ≡ false → us ≡ []) → (a : FaultAt)
        → IsFirstOf (key_faults c p key) a → IsFirstOf (pair_faults c p key (group_children lists f c (u ∷ us))) a
    key_faulty lists u us alone a first =
        let r = group_reading lists f c (value_place c.table p) (u ∷ us) in
        let is = one_child lists u us alone r refl in
        (first.0 ++ faults_in r, is.0 ∙ ap (λ fs. fs ++ faults_in r) first.1)

    pub value_faulty : (lists : Bool) (u : List ℕ) (us : List (List ℕ)) → (lists ≡ false → us ≡ []) → (a : FaultAt)
        → key_faults c p key ≡ [] → ErrsWith (group_reading lists f c (value_place c.table p) (u ∷ us)) a
        → IsFirstOf (pair_faults c p key (group_children lists f c (u ∷ us))) a
    value_faulty lists u us alone a none bad =
        let is = one_child lists u us alone (Err (a ∷ bad.0)) bad.1 in (bad.0, is.0 ∙ ap (λ fs. fs ++ a ∷ bad.0) none)

    pub value_good : (lists : Bool) (u : List ℕ) (us : List (List ℕ)) → (lists ≡ false → us ≡ []) → (v : Val) → key_faults c p key ≡ []
        → group_reading lists f c (value_place c.table p) (u ∷ us) ≡ Ok v
        → (pair_faults c p key (group_children lists f c (u ∷ us)) ≡ [])
        × (pair_values c p key (group_children lists f c (u ∷ us)) ≡ (key, v) ∷ [])
    value_good lists u us alone v none good =
        let is = one_child lists u us alone (Ok v) good in (is.0 ∙ ap (λ fs. fs ++ []) none, is.1)

    -- more texts than one, where they are no list
    pub again_faulty : (lists : Bool) (u : List ℕ) (us : List (List ℕ)) (a : FaultAt) → is_again lists us ≡ true → a ≡ ([], Repeated)
        → IsFirstOf (pair_faults c p key (group_children lists f c (u ∷ us))) a
    again_faulty true u [] a h is = absurd (true≢false (sym h))
    again_faulty true u (v ∷ us) a h is = absurd (true≢false (sym h))
    again_faulty false u [] a h is = absurd (true≢false (sym h))
    again_faulty false u (v ∷ us) a h is = twice u v us a is

    pub is_alone : (lists : Bool) (us : List (List ℕ)) → is_again lists us ≡ false → lists ≡ false → us ≡ []
    is_alone lists [] h off = refl
    is_alone lists (v ∷ us) h off = absurd (true≢false (sym (ap not off) ∙ h))

    -- the value, or its refusal
    pub pair_joined : (lists : Bool) (u : List ℕ) (us : List (List ℕ)) → (lists ≡ false → us ≡ []) → key_faults c p key ≡ []
        → (r : Result Value Refusal) → JoinsTo (group_reading lists f c (value_place c.table p) (u ∷ us)) r
        → PairJoins c p key (group_children lists f c (u ∷ us)) r
    pair_joined lists u us alone none (Ok v) joins = value_good lists u us alone (val_of v) none joins
    pair_joined lists u us alone none (Err (a_fault g)) joins = value_faulty lists u us alone (fault_at g) none joins
    pair_joined lists u us alone none (Err NoMemory) joins = tt

  pub groups_refused : (p : Place) (lists : Bool) (gs : Grouped) (refusal : Refusal) → GroupsJoin lists f c p gs (Err refusal)
      → JoinsTo (groups_reading lists f c p gs) (Err refusal)
  groups_refused p lists gs (a_fault g) h = map_faulty p lists gs (fault_at g) h
  groups_refused p lists gs NoMemory h = tt
