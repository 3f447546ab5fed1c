-- Maps of texts: where the texts under each key come to its value, all pairs together come to the map.
use Rattle.std.proofs.Common.{◌≡◌, ℕ, suc, Bool, true, false, cond, List, [], ◌∷◌, ◌++◌, length, refl, sym, ap, ◌∙◌, subst}
use Rattle.std.specs.Prelude.{IsUtf8, Ok}
use Rattle.std.specs.List.{AllByRecursion}
use Rattle.std.proofs.lemmas.Str.{is_utf8-from_IsUtf8}
use Rattle.sm_tree.specs.declared.path.Step.TheVariants.{Key}
use Rattle.sm_shapes.specs.Broken.{length_broken}
use Rattle.sm_shapes.specs.Fitting.{FitPairs, Fits, IsOfKind, MeetsConstraints}
use Rattle.sm_shapes.specs.Places.{Place, constraints_of, key_place, kind_of, value_place}
use Rattle.sm_shapes.specs.Values.{EntryVals, Val, entries_of, entry, keys_of, map_val, no_entries, text_val}
use Rattle.sm_shapes.specs.declared.fault.FaultKind.TheVariants.{WrongType}
use Rattle.sm_shapes.specs.declared.kinds.ShapeKind.{ShapeKind}
use Rattle.sm_shapes.specs.declared.kinds.ShapeKind.TheVariants as kind
use Rattle.sm_codec.specs.Codec.{Codec, broken_at}
use Rattle.sm_codec.specs.FaultLists.{here, settled, under}
use Rattle.sm_codec.specs.Readings.{Child, key_faults, map_faults, map_reading, one_here, pair_faults, pair_values, pairs_values}
use Rattle.sm_codec.proofs.NoFaults.{ok_reading, settled_ok}
use Rattle.sm_part_values.specs.PartTexts.{TextForm, keyed_by, map_or_none, texts_by}
use Rattle.sm_part_values.specs.steps.Maps.{group_children, group_reading, groups_faults, groups_values}
use Rattle.sm_part_values.proofs.GroupsJoined.{map_grouped, value_good}
use Rattle.sm_part_values.proofs.KeysGrouped.{IsFilled}
use Rattle.sm_part_laws.specs.Coming.{ComeTo, HasEntries}
use Rattle.sm_part_laws.proofs.GroupsAgain.{Texts, are_groups, groups_of, pairs_of}

-- a key that fits has no fault
key_text : (k : ShapeKind) (key : List ℕ) → IsOfKind k (text_val key) → IsUtf8 key
key_text kind.Text key h = h
key_text kind.Enum key h = h
key_text k key h = absurd h

key_clear : (c : Codec) (p : Place) (key : List ℕ) → IsOfKind (kind_of c.table (key_place c.table p)) (text_val key)
    → MeetsConstraints c.table c.test (key_place c.table p) (text_val key) → key_faults c p key ≡ []
key_clear c p key of kept =
    ap (λ b. cond b (here (broken_at c (key_place c.table p) (text_val key))) (one_here WrongType))
    (is_utf8-from_IsUtf8 key (key_text (kind_of c.table (key_place c.table p)) key of))
    ∙ ap here kept

-- texts that come to a value are some, and one where they are no list
pub record Comes (lists : Bool) (f : TextForm) (c : Codec) (q : Place) (v : Val) (us : List (List ℕ)) : Type 0 where
  pub first : List ℕ
  pub more : List (List ℕ)
  pub all : us ≡ first ∷ more
  pub single : lists ≡ false → more ≡ []
  pub good : group_reading lists f c q (first ∷ more) ≡ Ok v

comes : (lists : Bool) (f : TextForm) (c : Codec) (q : Place) (v : Val) (us : List (List ℕ)) → ComeTo q v (texts_by lists f c us)
    → Comes lists f c q v us
comes true f c q v [] h = absurd h
comes true f c q v (u ∷ us) h = record { first = u; more = us; all = refl; single = λ off. absurd cc; good = h.1 }
comes false f c q v [] h = absurd h
comes false f c q v (u ∷ []) h = record { first = u; more = []; all = refl; single = λ off. refl; good = h.1 }
comes false f c q v (u ∷ w ∷ us) h = absurd h

-- the texts of each value come to it
abbrev pub EachComes : Bool → TextForm → Codec → Place → Texts → EntryVals → Type 0
EachComes lists f c q texts no_entries = Unit {0}
EachComes lists f c q texts (entry key v es) = ComeTo q v (texts_by lists f c (texts v)) × EachComes lists f c q texts es

module _ (lists : Bool) (f : TextForm) (c : Codec) (p : Place) (texts : Texts) where
  abbrev one_comes : (v : Val) → ComeTo (value_place c.table p) v (texts_by lists f c (texts v))
      → Comes lists f c (value_place c.table p) v (texts v)
  one_comes v h = comes lists f c (value_place c.table p) v (texts v) h

  all_filled : (es : EntryVals) → EachComes lists f c (value_place c.table p) texts es → AllByRecursion IsFilled (groups_of texts es)
  all_filled no_entries h = tt
  all_filled (entry key v es) h =
      let one = one_comes v h.0 in ((one.first, one.more, one.all), all_filled es h.1)

  -- what stands under one key
  abbrev OneGood : List ℕ → Val → List (List ℕ) → Type 0
  OneGood key v us =
      (pair_faults c p key (group_children lists f c us) ≡ []) × (pair_values c p key (group_children lists f c us) ≡ (key, v) ∷ [])

  one_good : (key : List ℕ) (v : Val) → key_faults c p key ≡ [] → ComeTo (value_place c.table p) v (texts_by lists f c (texts v))
      → OneGood key v (texts v)
  one_good key v clear h =
      let one = one_comes v h in
      subst (OneGood key v) (sym one.all) (value_good f c p key lists one.first one.more one.single v clear one.good)

  faults_none : (es : EntryVals) → FitPairs c.table c.test p es → EachComes lists f c (value_place c.table p) texts es
      → groups_faults lists f c p (groups_of texts es) ≡ []
  faults_none no_entries fits h = refl
  faults_none (entry key v es) fits h =
      ap (λ fs. under (Key key) fs ++ groups_faults lists f c p (groups_of texts es))
      (one_good key v (key_clear c p key fits.0 fits.1) h.0).0
      ∙ faults_none es fits.3 h.1

  values_all : (es : EntryVals) → FitPairs c.table c.test p es → EachComes lists f c (value_place c.table p) texts es
      → entries_of (groups_values lists f c p (groups_of texts es)) ≡ es
  values_all no_entries fits h = refl
  values_all (entry key v es) fits h =
      ap (λ xs. entries_of (xs ++ groups_values lists f c p (groups_of texts es)))
      (one_good key v (key_clear c p key fits.0 fits.1) h.0).1
      ∙ ap (entry key v) (values_all es fits.3 h.1)

  as_many : (es : EntryVals) → length (groups_of texts es) ≡ length (keys_of es)
  as_many no_entries = refl
  as_many (entry key v es) = ap suc (as_many es)

  map_read : (es : EntryVals) → Fits c.table c.test p (map_val es) → EachComes lists f c (value_place c.table p) texts es
      → map_reading c p (keyed_by lists f c (pairs_of texts es)) ≡ Ok (map_val es)
  map_read es fits h =
      let gs = groups_of texts es in
      let now = map_val (entries_of (groups_values lists f c p gs)) in
      sym (map_grouped f c (pairs_of texts es) gs (are_groups texts es fits.2) (all_filled es h) p lists)
      ∙ ap (λ fs. settled (fs ++ here (length_broken (constraints_of c.table p) (length gs))) now) (faults_none es fits.3 h)
      ∙ ap (λ n. settled (here (length_broken (constraints_of c.table p) n)) now) (as_many es)
      ∙ ap (λ kinds. settled (here kinds) now) fits.1
      ∙ ap (λ xs. ok_reading (map_val xs)) (values_all es fits.3 h)

-- pairs that come to a map with entries are some
same_entries : (es ds : EntryVals) → map_val es ≡ map_val ds → es ≡ ds
same_entries es ds h = cc

some_pairs : (c : Codec) (p : Place) (es : EntryVals) (ps : List (List ℕ × Child)) → HasEntries es → map_reading c p ps ≡ Ok (map_val es)
    → ComeTo p (map_val es) (map_or_none c ps)
some_pairs c p es [] has h =
    let found = settled_ok (map_faults c p []) (map_val (entries_of (pairs_values c p []))) (map_val es) h in
    absurd (subst HasEntries (sym (same_entries no_entries es found.1)) has)
some_pairs c p es (pair ∷ ps) has h = (refl, h)

pub map_again : (lists : Bool) (f : TextForm) (c : Codec) (p : Place) (texts : Texts) (es : EntryVals) → Fits c.table c.test p (map_val es)
    → HasEntries es → EachComes lists f c (value_place c.table p) texts es
    → ComeTo p (map_val es) (map_or_none c (keyed_by lists f c (pairs_of texts es)))
map_again lists f c p texts es fits has h =
    some_pairs c p es (keyed_by lists f c (pairs_of texts es)) has (map_read lists f c p texts es fits h)
