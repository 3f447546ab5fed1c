-- What a shape comes to from the tables, where its mixins have come to what stands at their numbers.
use Rattle.std.proofs.Common.{◌≡◌, ◌⊎◌, inl, inr, ℕ, Bool, true, false, cond, List, [], ◌∷◌, ◌++◌, map, filter, Option, Some, None}
use Rattle.std.proofs.Common.{refl, sym, ap, subst, ◌∙◌, bytes_eq}
use Rattle.std.specs.Prelude.{◌↔◌, MatchOption, slice_get, not}
use Rattle.std.specs.Global.{Vec}
use Rattle.std.specs.List.{flat_map}
use Rattle.std.specs.Option.{option_map, option_or}
use Rattle.std.specs.Cmp.Lexicographic.{nat_list_cmp_total}
use Rattle.std.specs.FinMap as fin
use Rattle.std.specs.FinMap.{get-from_entries, get-remove, get-retain_keys}
use Rattle.std.specs.FinMap.Entries.{find}
use Rattle.std.specs.Ordering.{is_eq}
use Rattle.std.proofs.lemmas.Bool.{cases_Bool, true≢false}
use Rattle.std.proofs.lemmas.Option.{same_Some}
use Rattle.std.proofs.lemmas.Slice.Eq.{bytes_eq-Decides}
use Rattle.sm_tree.specs.Node.{Node}
use Rattle.sm_tree.specs.View.{node_of}
use Rattle.sm_model.specs.Graphs.{MemberEntry, MemberGiven, text_cmp}
use Rattle.sm_merge.specs.Mixins.{AreCopied, EffectiveMembers, EffectiveShape, IsEffective}
use Rattle.sm_merge.specs.Mixins.{all_members, copy_of, is_copied, last_there, member_copied}
use Rattle.sm_merge.specs.Mixins.{member_value, member_values, mixed_in, mixin_trait, names_of, no_mixins, own_member, passed_over}
use Rattle.sm_merge.specs.Mixins.{shape_values}
use Rattle.sm_merge.specs.Places.{names_and_targets}
use Rattle.sm_merge.specs.Stated.{ShapeStated, Stated}
use Rattle.sm_merge.specs.Values.{IsValueOf}
use Rattle.sm_merge.specs.steps.EffectiveTables.{effective_member, named_targets, trait_pairs, traits_map, traits_of_member}
use Rattle.sm_merge.specs.steps.Filling.{copied_at, folded_rows, kept_at, last_first, member_lists, members_at, mixed_members, own_traits}
use Rattle.sm_merge.specs.steps.Firsts.{NamesAndTargets}
use Rattle.sm_merge.specs.steps.Folding.{IsFolded}
use Rattle.sm_merge.specs.steps.Links.{At}
use Rattle.sm_merge.specs.steps.MixedIn.{MixIn}
use Rattle.sm_merge.specs.steps.ShapeTables.{ids_of}
use Rattle.sm_merge.specs.declared.effective.MemberTraits.{MemberTraits}
use Rattle.sm_merge.specs.declared.effective.NamedFolded.{NamedFolded}
use Rattle.sm_merge.specs.declared.effective.ShapeTraits.{ShapeTraits}
use Rattle.sm_merge.specs.declared.firsts.NamedTarget.{NamedTarget}
use Rattle.sm_merge.specs.declared.mixins.Contributing.{Contributing}
use Rattle.sm_merge.specs.declared.parts.BareShape.{BareShape}
use Rattle.sm_merge.specs.declared.value.Folded.{Folded}
use Rattle.sm_merge.proofs.FoundRows.{find_joined, find_kept, find_mapped, find_pairs, find_seen, or_mapped, same_key}
use Rattle.sm_groups.proofs.GroupsMade.{tests}
use Rattle.sm_merge.proofs.OneValue.{one_value}

abbrev pub value_node : Folded → Node
value_node f = node_of f.value

-- what stands at a number
abbrev pub seen_as : NamesAndTargets → List NamedFolded → List MemberTraits → EffectiveShape
seen_as ms own lists = record { members = map (effective_member lists) ms; traits = traits_map own }

abbrev pub shape_at_number : List (Vec NamedTarget) → List ShapeTraits → ℕ → EffectiveShape
shape_at_number members all v = seen_as (members_at members v) (own_traits (slice_get all v)) (member_lists (slice_get all v))

abbrev pub copy_at : List (Vec NamedTarget) → List ShapeTraits → Contributing → EffectiveShape
copy_at members all c = copy_of (node_of c.value.now) (shape_at_number members all c.number)

abbrev pub copies_at : List (Vec NamedTarget) → List ShapeTraits → List Contributing → List EffectiveShape
copies_at members all cs = map (copy_at members all) cs

-- names and targets of members
pub named_members : (lists : List MemberTraits) (ms : NamesAndTargets) → named_targets (map (effective_member lists) ms) ≡ ms
named_members lists [] = refl
named_members lists (m ∷ ms) = ap (λ rest. m ∷ rest) (named_members lists ms)

pub named_copies : (ms : EffectiveMembers) → named_targets (map (λ e. (e.0, member_copied e.1)) ms) ≡ named_targets ms
named_copies [] = refl
named_copies (m ∷ ms) = ap (λ rest. (m.0, m.1.target) ∷ rest) (named_copies ms)

pub named_joined : (ms ns : EffectiveMembers) → named_targets (ms ++ ns) ≡ named_targets ms ++ named_targets ns
named_joined [] ns = refl
named_joined (m ∷ ms) ns = ap (λ rest. (m.0, m.1.target) ∷ rest) (named_joined ms ns)

pub named_own : (own : List MemberGiven) → named_targets (map own_member own) ≡ names_and_targets own
named_own [] = refl
named_own (m ∷ ms) = ap (λ rest. (m.name, m.target) ∷ rest) (named_own ms)

pub names_named : (ms : EffectiveMembers) → names_of ms ≡ map (λ p. p.0) (named_targets ms)
names_named [] = refl
names_named (m ∷ ms) = ap (λ rest. m.0 ∷ rest) (names_named ms)

-- a member is found by its name, with its target
pub target_found : (name : List ℕ) (ms : EffectiveMembers)
    → find text_cmp name (named_targets ms) ≡ option_map (λ (e : MemberEntry). e.target) (find text_cmp name ms)
target_found name ms = find_mapped (λ (e : MemberEntry). e.target) name ms

-- the value of a trait: what is given, else what the copies have
pub value_told : (vs : List Node) (g o : Option Folded) (copied : List (Option Node)) (n : Node) → MatchOption g (vs ≡ []) (IsFolded vs)
    → option_map value_node o ≡ last_there copied
    → (option_map value_node (option_or g o) ≡ Some n) ↔ (IsValueOf vs n ⊎ ((vs ≡ []) × (last_there copied ≡ Some n)))
value_told vs None o copied n none same = (
  λ is. inr (none, sym same ∙ is),
  λ either. elim either [
    | inl given ↦ absurd (subst (λ ws. IsValueOf ws n) none given)
    | inr (nothing, last) ↦ same ∙ last
  ],
)
value_told vs (Some f) o copied n is same = (
  λ given. inl (subst (IsValueOf vs) (same_Some (value_node f) n given) is.value),
  λ either. elim either [
    | inl given ↦ ap (λ m. Some m) (one_value vs (value_node f) n is.value given)
    | inr (nothing, last) ↦ absurd (subst (λ ws. IsValueOf ws (value_node f)) nothing is.value)
  ],
)

-- a map of rows
pub got : (ts : List NamedFolded) (t : List ℕ) → fin.get (traits_map ts) t ≡ option_map value_node (find text_cmp t (folded_rows ts))
got ts t = get-from_entries nat_list_cmp_total (trait_pairs ts) t ∙ find_pairs t ts

map_cond : (b : Bool) (o : Option Folded) → option_map value_node (cond b o None) ≡ cond b (option_map value_node o) None
map_cond true o = refl
map_cond false o = refl

pub same_either : (a b : List ℕ) → bytes_eq a b ≡ bytes_eq b a
same_either a b = elim (cases_Bool (bytes_eq a b)) [
  | inl is ↦ is ∙ sym ((bytes_eq-Decides b a).1 (sym ((bytes_eq-Decides a b).0 is)))
  | inr apart ↦ elim (cases_Bool (bytes_eq b a)) [
    | inl is ↦ absurd (true≢false (sym ((bytes_eq-Decides a b).1 (sym ((bytes_eq-Decides b a).0 is))) ∙ apart))
    | inr also ↦ apart ∙ sym also
  ]
]

turned : (b : Bool) (o : Option Node) → cond (not b) o None ≡ cond b None o
turned true o = refl
turned false o = refl

-- all but one trait
removed_value : (m t : List ℕ) (rows : List NamedFolded)
    → option_map value_node (find text_cmp t (filter (λ r. not (bytes_eq r.0 m)) (folded_rows rows)))
    ≡ fin.get (fin.remove (traits_map rows) m) t
removed_value m t rows =
    ap (option_map value_node) (find_kept t (λ k. not (bytes_eq k m)) (folded_rows rows))
    ∙ map_cond (not (bytes_eq t m)) (find text_cmp t (folded_rows rows))
    ∙ (λ i. cond (not ((same_either t m ∙ sym (tests t m)) i)) (sym (got rows t) i) None)
    ∙ turned (is_eq (text_cmp t m)) (fin.get (traits_map rows) t) ∙ sym (get-remove nat_list_cmp_total (traits_map rows) m t)

no_value : (m t : List ℕ) (rows : List (List ℕ × Folded)) → find text_cmp t rows ≡ None
    → option_map value_node (find text_cmp t (filter (λ r. not (bytes_eq r.0 m)) rows)) ≡ None
no_value m t rows none =
    ap (option_map value_node) (find_kept t (λ k. not (bytes_eq k m)) rows ∙ ap (λ o. cond (not (bytes_eq t m)) o None) none)
    ∙ by (not (bytes_eq t m))
  where
    by : (b : Bool) → option_map value_node (cond b None None) ≡ None
    by true = refl
    by false = refl

module _ (members : List (Vec NamedTarget)) (all : List ShapeTraits) where
  abbrev own_rows_at : ℕ → List NamedFolded
  own_rows_at v = own_traits (slice_get all v)

  -- copies are told by the rows that other shapes get
  abbrev pub AreCopiedBy : Contributing → Type 0
  AreCopiedBy c = copied_at all c ≡ filter (λ r. is_copied (node_of c.value.now) r.0) (folded_rows (own_rows_at c.number))

  abbrev pub AllCopiedBy : List Contributing → Type 0
  AllCopiedBy [] = Unit {0}
  AllCopiedBy (c ∷ cs) = AreCopiedBy c × AllCopiedBy cs

  copied_value : (c : Contributing) (t : List ℕ) → AreCopiedBy c
      → option_map value_node (find text_cmp t (copied_at all c)) ≡ fin.get (copy_at members all c).traits t
  copied_value c t h =
      ap (λ rows. option_map value_node (find text_cmp t rows)) h
      ∙ ap (option_map value_node) (find_kept t (is_copied (node_of c.value.now)) (folded_rows (own_rows_at c.number)))
      ∙ map_cond (is_copied (node_of c.value.now) t) (find text_cmp t (folded_rows (own_rows_at c.number)))
      ∙ ap (λ o. cond (is_copied (node_of c.value.now) t) o None) (sym (got (own_rows_at c.number) t))
      ∙ sym (get-retain_keys (traits_map (own_rows_at c.number)) (is_copied (node_of c.value.now)) t
      (λ x e. ap (is_copied (node_of c.value.now)) (sym (same_key t x e))))

  pub shape_copies : (cs : List Contributing) (t : List ℕ) → AllCopiedBy cs
      → option_map value_node (find text_cmp t (last_first (copied_at all) cs)) ≡ last_there (shape_values (copies_at members all cs) t)
  shape_copies [] t h = refl
  shape_copies (c ∷ cs) t h =
      ap (option_map value_node) (find_joined t (last_first (copied_at all) cs) (copied_at all c))
      ∙ or_mapped value_node (find text_cmp t (last_first (copied_at all) cs)) (find text_cmp t (copied_at all c))
      ∙ (λ i. option_or (shape_copies cs t h.1 i) (copied_value c t h.0 i))

  -- a shape has no traits of what isn't its member
  abbrev pub HasNoOther : ℕ → Type 0
  HasNoOther v = (name t : List ℕ) → find text_cmp name (members_at members v) ≡ None
      → find text_cmp t (folded_rows (traits_of_member name (member_lists (slice_get all v)))) ≡ None

  abbrev pub AllHaveNoOther : List Contributing → Type 0
  AllHaveNoOther [] = Unit {0}
  AllHaveNoOther (c ∷ cs) = HasNoOther c.number × AllHaveNoOther cs

  member_found : (c : Contributing) (name : List ℕ)
      → find text_cmp name (copy_at members all c).members
      ≡ option_map member_copied (option_map (λ target. (effective_member (member_lists (slice_get all c.number)) (name, target)).1)
      (find text_cmp name (members_at members c.number)))
  member_found c name =
      find_mapped member_copied name (map (effective_member (member_lists (slice_get all c.number))) (members_at members c.number))
      ∙ ap (option_map member_copied)
      (find_seen (λ n target. (effective_member (member_lists (slice_get all c.number)) (n, target)).1) name (members_at members c.number))

  member_got : (c : Contributing) (name t : List ℕ) → HasNoOther c.number
      → option_map value_node (find text_cmp t (kept_at name all c))
      ≡ member_value t (find text_cmp name (copy_at members all c).members)
  member_got c name t none =
      by (find text_cmp name (members_at members c.number)) refl ∙ sym (ap (member_value t) (member_found c name))
    where
      lists : List MemberTraits
      lists = member_lists (slice_get all c.number)

      by : (o : Option (List ℕ)) → find text_cmp name (members_at members c.number) ≡ o
          → option_map value_node (find text_cmp t (kept_at name all c))
          ≡ member_value t (option_map member_copied (option_map
          (λ target. (effective_member (member_lists (slice_get all c.number)) (name, target)).1) o))
      by None is =
          no_value mixin_trait t (folded_rows (traits_of_member name (member_lists (slice_get all c.number)))) (none name t is)
      by (Some target) is = removed_value mixin_trait t (traits_of_member name (member_lists (slice_get all c.number)))

  pub member_copies : (cs : List Contributing) (name t : List ℕ) → AllHaveNoOther cs
      → option_map value_node (find text_cmp t (last_first (kept_at name all) cs))
      ≡ last_there (member_values (copies_at members all cs) name t)
  member_copies [] name t h = refl
  member_copies (c ∷ cs) name t h =
      ap (option_map value_node) (find_joined t (last_first (kept_at name all) cs) (kept_at name all c))
      ∙ or_mapped value_node (find text_cmp t (last_first (kept_at name all) cs)) (find text_cmp t (kept_at name all c))
      ∙ (λ i. option_or (member_copies cs name t h.1 i) (member_got c name t h.0 i))

  -- members of the copies
  mixed_named : (cs : List Contributing) → named_targets (flat_map (λ m. m.members) (copies_at members all cs)) ≡ mixed_members members cs
  mixed_named [] = refl
  mixed_named (c ∷ cs) =
      named_joined (copy_at members all c).members (flat_map (λ m. m.members) (copies_at members all cs))
      ∙ (λ i. (named_copies (shape_at_number members all c.number).members
      ∙ named_members (member_lists (slice_get all c.number)) (members_at members c.number)) i ++ mixed_named cs i)

  pub all_named : (cs : List Contributing) (own : List MemberGiven)
      → named_targets (all_members (copies_at members all cs) own) ≡ mixed_members members cs ++ names_and_targets own
  all_named cs own =
      named_joined (flat_map (λ m. m.members) (copies_at members all cs)) (map own_member own)
      ∙ (λ i. mixed_named cs i ++ named_own own i)

  -- the copies are those of the mixins
  module _ (ss : List Stated) (rows : List BareShape) (s : ShapeStated) where
    abbrev pub AllEffective : List Contributing → Type 0
    AllEffective [] = Unit {0}
    AllEffective (c ∷ cs) =
        ((mixin : List ℕ) → At (ids_of rows) c.number mixin → IsEffective ss mixin (shape_at_number members all c.number)) × AllEffective cs

    pub copied_by : (mixins : List (List ℕ)) (cs : List Contributing) → MixIn ss rows s mixins cs → AllEffective cs
        → AreCopied ss s mixins (copies_at members all cs)
    copied_by [] cs none h = subst (λ xs. AreCopied ss s [] (copies_at members all xs)) (sym none) (no_mixins s)
    copied_by (mixin ∷ mixins) cs (inl (never, rest)) h =
        passed_over s mixin mixins (copies_at members all cs) never (copied_by mixins cs rest h)
    copied_by (mixin ∷ mixins) cs (inr (c, told, rest, is, more)) h =
        let each : AllEffective (c ∷ rest) = subst AllEffective is h in
        subst (λ xs. AreCopied ss s (mixin ∷ mixins) (copies_at members all xs)) (sym is)
        (subst (λ n. AreCopied ss s (mixin ∷ mixins) (copy_of n (shape_at_number members all c.number) ∷ copies_at members all rest))
        told.value
        (mixed_in s mixin mixins told.contributes (shape_at_number members all c.number) (copies_at members all rest)
        (each.0 mixin told.there)
        (copied_by mixins rest more each.1)))
