-- The traits that tables are made from have values of their forms where no rule fails on traits.
use Rattle.std.proofs.Common.{◌≡◌, ℕ, Bool, true, false, cond, ◌&&◌, ◌||◌, List, [], ◌∷◌, Option, Some, None, refl, sym, ap, subst, ◌∙◌}
use Rattle.std.proofs.Common.{filter}
use Rattle.std.specs.Prelude.{codes}
use Rattle.std.specs.List.{list_any}
use Rattle.sm_tree.specs.Node.{Node}
use Rattle.sm_model.specs.Graphs.{GraphMaps}
use Rattle.sm_model.specs.PreludeShapes.{is_prelude_id}
use Rattle.sm_model.specs.declared.kind.Kind.{Kind}
use Rattle.sm_model.specs.declared.kind.Kind.TheVariants as model
use Rattle.sm_model.proofs.Worklist.{apart}
use Rattle.sm_compile.specs.Compiled.{IdSet}
use Rattle.sm_compile.specs.Kinds.{is_whole_kind}
use Rattle.sm_compile.specs.Sound.{trait_of}
use Rattle.sm_compile.specs.TraitIds.{required_id, sparse_id, unique_items_id, length_id, range_id, pattern_id, timestamp_format_id}
use Rattle.sm_compile.specs.TraitIds.{json_name_id}
use Rattle.sm_compile.specs.TraitNodes.{AreFormedTraits, are_lengths, are_ordered, are_whole_bounds, is_object, is_range, is_text}
use Rattle.sm_compile.specs.TraitNodes.{is_timestamp_format, where_there}
use Rattle.sm_rules.specs.TraitRows.{Spot, TraitRow, has_form, has_row, is_among, fraction_kinds, is_as_one, judging, may_stand}
use Rattle.sm_rules.specs.TraitRows.{row_takes_in, rows_of, takes_in, that_reads, with_members, api_row, whole_bounds, any_bounds}
use Rattle.sm_rules.specs.Constraints.{wrong_length, wrong_range}
use Rattle.sm_rules.specs.Ready.{NoneFailsIn}
use Rattle.sm_rules.specs.Traits.{IsSpot}
use Rattle.sm_rules.specs.Words.{read_trait}
use Rattle.sm_compile.proofs.SoundTests.{first_of, second_of}
use Rattle.sm_accepted.proofs.Lists.{or_later}

pub or_false : (b : Bool) → (b || false) ≡ b
or_false true = refl
or_false false = refl

-- what isn't false is true
pub must : (b : Bool) → (b ≡ false → ⊥) → b ≡ true
must true h = refl
must false h = absurd (h refl)

-- a value that some of the rows takes in
joined : (a b c : Bool) → (b ≡ true → c ≡ true) → (a || b) ≡ true → (a || c) ≡ true
joined true b c h e = refl
joined false b c h e = h e

module _ (p : TraitRow → Bool) (n : Node) where
  one_row : (r : TraitRow) (rows : List TraitRow) → (is_as_one (filter p rows) n ≡ true → is_as_one rows n ≡ true) → (b : Bool)
      → is_as_one (cond b (r ∷ filter p rows) (filter p rows)) n ≡ true → is_as_one (r ∷ rows) n ≡ true
  one_row r rows rest false h = or_later (has_form r.value n) (is_as_one rows n) (rest h)
  one_row r rows rest true h = joined (has_form r.value n) (is_as_one (filter p rows) n) (is_as_one rows n) rest h

  some_row : (rows : List TraitRow) → is_as_one (filter p rows) n ≡ true → is_as_one rows n ≡ true
  some_row [] h = h
  some_row (r ∷ rows) h = one_row r rows (λ e. some_row rows e) (p r) h

  chosen_row : (rows : List TraitRow) (b : Bool) → is_as_one (cond b (filter p rows) rows) n ≡ true → is_as_one rows n ≡ true
  chosen_row rows true h = some_row rows h
  chosen_row rows false h = h

-- a test of what may be there
pub where_known : (o : Option Node) (test : Node → Bool) → ((n : Node) → o ≡ Some n → test n ≡ true) → where_there test o ≡ true
where_known None test h = refl
where_known (Some n) test h = h n refl

-- `range`, by the rows whose places take it in
abbrev whole_row : TraitRow
whole_row = api_row (codes "range" ∷ []) whole_bounds (with_members is_whole_kind)

abbrev fraction_row : TraitRow
fraction_row = api_row (codes "range" ∷ []) any_bounds (with_members (is_among fraction_kinds))

abbrev range_rows : Bool → Bool → List TraitRow
range_rows b c = cond b (whole_row ∷ cond c (fraction_row ∷ []) []) (cond c (fraction_row ∷ []) [])

abbrev RangeBy : Kind → Node → Bool → Bool → Type 0
RangeBy kind n b c =
    (b || (c || false)) ≡ true
    → is_as_one (cond (b || (c || false)) (range_rows b c) (whole_row ∷ fraction_row ∷ [])) n ≡ true → is_range kind n ≡ true

range_of_kind : (kind : Kind) (n : Node) → RangeBy kind n (is_whole_kind kind) (is_among fraction_kinds kind)
range_of_kind model.Byte n placed h = sym (or_false _) ∙ h
range_of_kind model.Short n placed h = sym (or_false _) ∙ h
range_of_kind model.Integer n placed h = sym (or_false _) ∙ h
range_of_kind model.IntEnum n placed h = sym (or_false _) ∙ h
range_of_kind model.Long n placed h = sym (or_false _) ∙ h
range_of_kind model.Float n placed h = sym (or_false _) ∙ h
range_of_kind model.Double n placed h = sym (or_false _) ∙ h
range_of_kind model.BigInteger n placed h = sym (or_false _) ∙ h
range_of_kind model.BigDecimal n placed h = sym (or_false _) ∙ h
range_of_kind kind n placed h = absurd (apart placed)

range_by : (kind : Kind) (n : Node) (b c : Bool) → b ≡ is_whole_kind kind → c ≡ is_among fraction_kinds kind → RangeBy kind n b c
range_by kind n b c whole fraction =
    subst (λ x. RangeBy kind n x c) (sym whole)
    (subst (λ x. RangeBy kind n (is_whole_kind kind) x) (sym fraction) (range_of_kind kind n))

-- at a shape or member with this type, or with a target of it
module _ (g : GraphMaps) (In : IdSet) (none : NoneFailsIn g In) (id : List ℕ) (inside : In id) (own : is_prelude_id id ≡ false) (spot : Spot)
    (stands : IsSpot g id spot) where
  judged : (trait : List ℕ) (n : Node) → has_row trait ≡ true → trait_of g id trait ≡ Some n → is_as_one (judging trait spot) n ≡ true
  judged trait n row is =
      must (is_as_one (judging trait spot) n)
      (λ other. none.values id trait inside (record { n = n; carries = (own, is); spot = spot; stands = stands; row = row; other = other }))

  -- by one of its rows
  pub by_row : (trait : List ℕ) (n : Node) → has_row trait ≡ true → trait_of g id trait ≡ Some n → is_as_one (rows_of trait) n ≡ true
  by_row trait n row is = chosen_row (row_takes_in spot) n (rows_of trait) (may_stand trait spot) (judged trait n row is)

  pub placed : (trait : List ℕ) (n : Node) → has_row trait ≡ true → trait_of g id trait ≡ Some n → may_stand trait spot ≡ true
  placed trait n row is =
      must (may_stand trait spot)
      (λ away. none.places id trait inside (record { n = n; carries = (own, is); spot = spot; stands = stands; row = row; elsewhere = away }))

  reads : (trait : List ℕ) (n : Node) → has_row trait ≡ true → trait_of g id trait ≡ Some n → read_trait g id trait ≡ Some n
  reads trait n row is = ap (that_reads trait) is ∙ ap (λ b. cond b (Some n) None) (by_row trait n row is)

  right_length : (n : Node) → trait_of g id length_id ≡ Some n → (are_ordered n && are_lengths n) ≡ true
  right_length n is =
      must (are_ordered n && are_lengths n)
      (λ wrong. none.bounds id (codes "length") inside (wrong_length n own (reads length_id n refl is) wrong refl))

  right_range : (n : Node) → trait_of g id range_id ≡ Some n → are_ordered n ≡ true
  right_range n is =
      must (are_ordered n) (λ wrong. none.bounds id (codes "range") inside (wrong_range n own (reads range_id n refl is) wrong refl))

  module _ (kind : Kind) (sees : (kinds : Kind → Bool) → list_any (takes_in spot) (with_members kinds) ≡ kinds kind) where
    pub formed_traits : AreFormedTraits kind (trait_of g id)
    formed_traits = record {
      required = where_known (trait_of g id required_id) is_object (λ n is. sym (or_false (is_object n)) ∙ by_row required_id n refl is);
      sparse = where_known (trait_of g id sparse_id) is_object (λ n is. sym (or_false (is_object n)) ∙ by_row sparse_id n refl is);
      unique = where_known (trait_of g id unique_items_id) is_object
          (λ n is. sym (or_false (is_object n)) ∙ by_row unique_items_id n refl is);
      length = where_known (trait_of g id length_id) are_whole_bounds
          (λ n is. sym (or_false (are_whole_bounds n)) ∙ by_row length_id n refl is);
      lengths = where_known (trait_of g id length_id) are_lengths
          (λ n is. second_of (are_ordered n) (are_lengths n) (right_length n is));
      length_ordered = where_known (trait_of g id length_id) are_ordered
          (λ n is. first_of (are_ordered n) (are_lengths n) (right_length n is));
      range = where_known (trait_of g id range_id) (is_range kind)
          (λ n is. range_by kind n (row_takes_in spot whole_row) (row_takes_in spot fraction_row) (sees is_whole_kind)
          (sees (is_among fraction_kinds)) (placed range_id n refl is) (judged range_id n refl is));
      range_ordered = where_known (trait_of g id range_id) are_ordered right_range;
      pattern = where_known (trait_of g id pattern_id) is_text (λ n is. sym (or_false (is_text n)) ∙ by_row pattern_id n refl is);
      format = where_known (trait_of g id timestamp_format_id) is_timestamp_format
          (λ n is. sym (or_false (is_timestamp_format n)) ∙ by_row timestamp_format_id n refl is);
      json_name = where_known (trait_of g id json_name_id) is_text (λ n is. sym (or_false (is_text n)) ∙ by_row json_name_id n refl is);
    }
