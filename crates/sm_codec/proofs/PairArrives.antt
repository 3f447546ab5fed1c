-- A tree that is closed under a key of a map, as the frame takes it: for the first time, or once more.
use Rattle.std.proofs.Common.{◌≡◌, ◌⊎◌, inl, inr, ℕ, Bool, true, false, cond, MatchBool, List, [], ◌∷◌, ◌++◌, refl, sym, ap, ◌∙◌, subst}
use Rattle.std.proofs.Common.{subst₂}
use Rattle.std.specs.Prelude.{Option, Some, None, Ok}
use Rattle.std.specs.BTreeMap.{insert_entry}
use Rattle.std.specs.Cmp.Lexicographic.{slice_cmp}
use Rattle.std.specs.List.Sorted.{IsPermutation}
use Rattle.std.specs.Option.{option_map}
use Rattle.std.specs.Ordering.{nat_cmp}
use Rattle.std.specs.Str.{bytes_eq, is_utf8}
use Rattle.std.specs.declared.cmp.Ordering.TheVariants.{Less, Greater}
use Rattle.std.proofs.lemmas.List.Sorted.{IsPermutation-middle, IsPermutation-sym, IsPermutation-trans, IsPermutation-cons}
use Rattle.std.proofs.lemmas.List.Sorted.{list_any-IsPermutation}
use Rattle.sm_tree.specs.declared.path.Step.TheVariants.{Key}
use Rattle.sm_shapes.specs.Values.{Val, text_val}
use Rattle.sm_shapes.specs.Places.{Place, sparse_of, key_place, value_place}
use Rattle.sm_shapes.specs.Broken.{first_broken}
use Rattle.sm_shapes.specs.declared.fault.FaultKind.{FaultKind}
use Rattle.sm_shapes.specs.declared.fault.FaultKind.TheVariants.{WrongType, Repeated}
use Rattle.sm_codec.specs.Codec.{Codec, broken_at}
use Rattle.sm_codec.specs.Named.{named, names_of, in_byte_order}
use Rattle.sm_codec.specs.FaultLists.{FaultAt, here, under, first_fault, faults_in}
use Rattle.sm_codec.specs.Readings.{Child, one_here, entry_reading, keyed, key_faults, pair_faults, keys_faults, pairs_faults}
use Rattle.sm_codec.specs.Decoding.{KeyFrame, map_frame}
use Rattle.sm_codec.specs.Kept.{AreKept, each_entry, spelled_entries, HoldsPairs}
use Rattle.sm_codec.specs.steps.Arrivals.{Arrival, null_comes, value_comes, fault_comes, IsArrival}
use Rattle.sm_codec.specs.steps.EntrySteps.{entry_comes}
use Rattle.sm_codec.specs.steps.MapSteps.{at_key, least_at, has_key, pair_comes, TakesKeyFirst, TakesKeyAgain, TakesKey}
use Rattle.sm_codec.proofs.EntryArrives.{IsEntry, entry_is}
use Rattle.sm_codec.proofs.KeyOrder.{IsIn, ordered, ordered_is, is_ordered}
use Rattle.sm_codec.proofs.KeyParts.{KeysAt, placed, not_among, among_these, has_in, in_has, keys_now, nothing_under, something_under}
use Rattle.sm_codec.proofs.KeyParts.{under_key, same_under, faults_joined, entries_joined, faults_same, entries_same, at_of, at_spelled}
use Rattle.sm_codec.proofs.KeyParts.{each_joined, insert_between, first_at, least_of_keys}
use Rattle.sm_codec.proofs.MembersKept.{kept_put, kept_grown}
use Rattle.sm_codec.proofs.NoFaults.{none_first, none_behind}

-- what comes under a key for the first time, as the frame is told
abbrev pub PairIs : Codec → Place → List ℕ → Child → Arrival → Type 0
PairIs c p key child null_comes = ⊥
PairIs c p key child (value_comes v) =
    (pair_faults c p key (child ∷ []) ≡ []) × (entry_reading (sparse_of c.table p) (value_place c.table p) child ≡ Ok v)
PairIs c p key child (fault_comes f) = (fs : List FaultAt) × (pair_faults c p key (child ∷ []) ≡ f ∷ fs)

abbrev own_kind : FaultKind → FaultAt
own_kind kind = ([], kind)

-- the first fault of a key is what its constraints say
pub key_first : (c : Codec) (p : Place) (key : List ℕ) → is_utf8 key ≡ true
    → first_fault (key_faults c p key) ≡ option_map (λ kind. ([], kind)) (first_broken (broken_at c (key_place c.table p) (text_val key)))
key_first c p key utf8 =
    ap (λ b. first_fault (cond b (here (broken_at c (key_place c.table p) (text_val key))) (one_here WrongType))) utf8
    ∙ by_kinds (broken_at c (key_place c.table p) (text_val key))
  where
    by_kinds : (kinds : List FaultKind) → first_fault (here kinds) ≡ option_map (λ kind. ([], kind)) (first_broken kinds)
    by_kinds [] = refl
    by_kinds (k ∷ ks) = refl

entry_pair : (c : Codec) (p : Place) (key : List ℕ) (child : Child) (x : Arrival) → key_faults c p key ≡ []
    → IsEntry (entry_reading (sparse_of c.table p) (value_place c.table p) child) x → PairIs c p key child x
entry_pair c p key child null_comes none is = is
entry_pair c p key child (value_comes v) none is =
    let found = entry_reading (sparse_of c.table p) (value_place c.table p) child in
    (ap (λ fs. fs ++ faults_in found) none ∙ ap faults_in is, is)
entry_pair c p key child (fault_comes f) none is =
    let found = entry_reading (sparse_of c.table p) (value_place c.table p) child in
    (is.0, ap (λ fs. fs ++ faults_in found) none ∙ ap faults_in is.1)

pub pair_is : (c : Codec) (p : Place) (key : List ℕ) (child : Child) (first : Option FaultKind) (x : Arrival)
    → first_fault (key_faults c p key) ≡ option_map (λ kind. ([], kind)) first
    → IsArrival child.null (child.reading (value_place c.table p)) x
    → PairIs c p key child (pair_comes first (entry_comes (sparse_of c.table p) x))
pair_is c p key child first x own is = by_faults first (key_faults c p key) refl own
  where
    by_faults : (first : Option FaultKind) (fs : List FaultAt) → key_faults c p key ≡ fs
        → first_fault fs ≡ option_map (λ kind. ([], kind)) first
        → PairIs c p key child (pair_comes first (entry_comes (sparse_of c.table p) x))
    by_faults None [] e h =
        entry_pair c p key child (entry_comes (sparse_of c.table p) x) e (entry_is (sparse_of c.table p) (value_place c.table p) child x is)
    by_faults None (f ∷ fs) e h = absurd cc
    by_faults (Some kind) [] e h = absurd cc
    by_faults (Some kind) (f ∷ fs) e h =
        let same : f ≡ own_kind kind = cc in
        let found = entry_reading (sparse_of c.table p) (value_place c.table p) child in
        (fs ++ faults_in found, ap (λ gs. gs ++ faults_in found) (e ∙ ap (λ g. g ∷ fs) same))

-- what a map's frame says of its closed keys
abbrev pub KeysHeld : Codec → Place → List (List ℕ × Child) → List (List ℕ) → Option FaultAt → List (List ℕ × Val) → Type 0
KeysHeld c p ps seen fault entries =
    IsPermutation seen (in_byte_order (names_of ps)) × (fault ≡ first_fault (pairs_faults c p ps))
    × AreKept (pairs_faults c p ps) entries (spelled_entries c p ps (in_byte_order (names_of ps)))

-- one pair more: the keys, with the place of its own
module _ (c : Codec) (p : Place) (ps : List (List ℕ × Child)) (key : List ℕ) (child : Child) (before behind : List (List ℕ)) where
  abbrev qs : List (List ℕ × Child)
  qs = ps ++ (key, child) ∷ []

  abbrev keys : List (List ℕ)
  keys = in_byte_order (names_of ps)

  abbrev all : List (List ℕ)
  all = in_byte_order (names_of qs)

  -- what stands under the key comes to these
  abbrev own : List Child → List FaultAt
  own cs = under (Key key) (pair_faults c p key cs)

  abbrev each : List Child → List (List ℕ × Val)
  each cs = each_entry c p key cs

  abbrev low_faults : List FaultAt
  low_faults = keys_faults c p ps before

  abbrev high_faults : List FaultAt
  high_faults = keys_faults c p ps behind

  abbrev low : List (List ℕ × Val)
  low = spelled_entries c p ps before

  abbrev high : List (List ℕ × Val)
  high = spelled_entries c p ps behind

  abbrev pub Arrived : Type 0
  Arrived = (all ≡ before ++ key ∷ behind) × KeysAt key Greater before × KeysAt key Less behind

  faults_now : (cs : List Child) → Arrived → named key qs ≡ cs → pairs_faults c p qs ≡ low_faults ++ (own cs ++ high_faults)
  faults_now cs a e =
      ap (keys_faults c p qs) a.0 ∙ faults_joined c p qs before (key ∷ behind)
      ∙ ap (λ fs. fs ++ (own (named key qs) ++ keys_faults c p qs behind))
      (faults_same c p ps qs before (same_under key child ps Greater before refl a.1))
      ∙ ap (λ fs. low_faults ++ (own (named key qs) ++ fs)) (faults_same c p ps qs behind (same_under key child ps Less behind refl a.2))
      ∙ ap (λ ds. low_faults ++ (own ds ++ high_faults)) e

  entries_now : (cs : List Child) → Arrived → named key qs ≡ cs → spelled_entries c p qs all ≡ low ++ (each cs ++ high)
  entries_now cs a e =
      ap (spelled_entries c p qs) a.0 ∙ entries_joined c p qs before (key ∷ behind)
      ∙ ap (λ es. es ++ (each (named key qs) ++ spelled_entries c p qs behind))
      (entries_same c p ps qs before (same_under key child ps Greater before refl a.1))
      ∙ ap (λ es. low ++ (each (named key qs) ++ es)) (entries_same c p ps qs behind (same_under key child ps Less behind refl a.2))
      ∙ ap (λ ds. low ++ (each ds ++ high)) e

  -- what there was, where the key is new, and where it stood
  abbrev pub IsNew : Type 0
  IsNew = (keys ≡ before ++ behind) × (named key ps ≡ [])

  abbrev pub IsOld : Child → List Child → Type 0
  IsOld b bs = (keys ≡ before ++ key ∷ behind) × (named key ps ≡ b ∷ bs)

  abbrev pub IsEither : Type 0
  IsEither = (keys ≡ before ++ key ∷ behind) ⊎ (keys ≡ before ++ behind)

  new_faults : IsNew → pairs_faults c p ps ≡ low_faults ++ high_faults
  new_faults h = ap (keys_faults c p ps) h.0 ∙ faults_joined c p ps before behind

  new_entries : IsNew → spelled_entries c p ps keys ≡ low ++ high
  new_entries h = ap (spelled_entries c p ps) h.0 ∙ entries_joined c p ps before behind

  one_now : IsNew → named key qs ≡ child ∷ []
  one_now h = under_key key child ps ∙ ap (λ cs. cs ++ child ∷ []) h.1

  -- the keys that are seen
  seen_new : (seen now : List (List ℕ)) → Arrived → IsNew → IsPermutation (key ∷ seen) now → IsPermutation seen keys
      → IsPermutation now all
  seen_new seen now a new put old =
      let was = subst (λ ks. IsPermutation seen ks) new.0 old in
      let more = IsPermutation-cons key seen (before ++ behind) was in
      let middle = IsPermutation-sym _ _ (IsPermutation-middle before key behind) in
      subst (λ ks. IsPermutation now ks) (sym a.0)
      (IsPermutation-trans _ _ _ (IsPermutation-sym _ _ put) (IsPermutation-trans _ _ _ more middle))

  -- a value, for the first time
  value_held : (seen now : List (List ℕ)) (v : Val) (fault : Option FaultAt) (entries : List (List ℕ × Val)) → Arrived → IsNew
      → PairIs c p key child (value_comes v) → IsPermutation (key ∷ seen) now → KeysHeld c p ps seen fault entries
      → KeysHeld c p qs now fault (insert_entry (slice_cmp nat_cmp) entries key v)
  value_held seen now v fault entries a new is put h =
      let one = one_now new in
      let faults : pairs_faults c p qs ≡ pairs_faults c p ps =
      faults_now (child ∷ []) a one ∙ ap (λ fs. low_faults ++ (under (Key key) fs ++ high_faults)) is.0 ∙ sym (new_faults new) in
      let is_now : spelled_entries c p qs all ≡ low ++ (key, v) ∷ high =
      entries_now (child ∷ []) a one ∙ ap (λ r. low ++ ((keyed key r ++ []) ++ high)) is.1 in
      let kept = kept_put (λ es. insert_entry (slice_cmp nat_cmp) es key v) (key, v) (pairs_faults c p ps) entries low high
      (λ es hs b d. insert_between key v es hs (at_of key Greater es low b (at_spelled c p key Greater ps before a.1))
      (at_of key Less hs high d (at_spelled c p key Less ps behind a.2)))
      (subst (λ xs. AreKept (pairs_faults c p ps) entries xs) (new_entries new) h.2) in (
        seen_new seen now a new put h.0,
        h.1 ∙ ap first_fault (sym faults),
        subst₂ (λ fs xs. AreKept fs (insert_entry (slice_cmp nat_cmp) entries key v) xs) (sym faults) (sym is_now) kept,
      )

  -- where the key has a fault now, that is not nothing
  never_none : (new : FaultAt) (more : List FaultAt) → pairs_faults c p qs ≡ low_faults ++ ((at_key key new ∷ more) ++ high_faults)
      → pairs_faults c p qs ≡ [] → ⊥
  never_none new more e none =
      let none_here = none_first (at_key key new ∷ more) high_faults
      (none_behind low_faults ((at_key key new ∷ more) ++ high_faults) (sym e ∙ none)) in
      clash (at_key key new) more none_here
    where
      clash : (f : FaultAt) (fs : List FaultAt) → f ∷ fs ≡ [] → ⊥
      clash f fs h = cc

  fault_now : (new : FaultAt) (more others : List FaultAt) (fault : Option FaultAt) → Arrived
      → pairs_faults c p qs ≡ low_faults ++ ((at_key key new ∷ more) ++ high_faults)
      → fault ≡ first_fault (low_faults ++ (under (Key key) others ++ high_faults))
      → least_at key new fault ≡ first_fault (pairs_faults c p qs)
  fault_now new more others fault a e old =
      ap (least_at key new) old
      ∙ sym (least_of_keys key new low_faults more others high_faults (first_at c p ps key Greater false before refl a.1)
      (first_at c p ps key Less true behind refl a.2))
      ∙ ap first_fault (sym e)

  -- a fault, for the first time
  fault_held : (seen now : List (List ℕ)) (f : FaultAt) (fault : Option FaultAt) (entries : List (List ℕ × Val)) → Arrived → IsNew
      → PairIs c p key child (fault_comes f) → IsPermutation (key ∷ seen) now → KeysHeld c p ps seen fault entries
      → KeysHeld c p qs now (least_at key f fault) entries
  fault_held seen now f fault entries a new is put h =
      let one = one_now new in
      let more = under (Key key) is.0 in
      let faults : pairs_faults c p qs ≡ low_faults ++ ((at_key key f ∷ more) ++ high_faults) =
      faults_now (child ∷ []) a one ∙ ap (λ fs. low_faults ++ (under (Key key) fs ++ high_faults)) is.1 in
      let kept = kept_grown (pairs_faults c p ps) (pairs_faults c p qs) entries low [] (each (child ∷ [])) high
      (never_none f more faults) (subst (λ xs. AreKept (pairs_faults c p ps) entries xs) (new_entries new) h.2) in (
        seen_new seen now a new put h.0,
        fault_now f more [] fault a faults (h.1 ∙ ap first_fault (new_faults new)),
        subst (λ xs. AreKept (pairs_faults c p qs) entries xs) (sym (entries_now (child ∷ []) a one)) kept,
      )

  -- a key that stands once more
  again_held : (seen : List (List ℕ)) (b : Child) (bs : List Child) (fault : Option FaultAt) (entries : List (List ℕ × Val)) → Arrived
      → IsOld b bs → KeysHeld c p ps seen fault entries → KeysHeld c p qs seen (least_at key ([], Repeated) fault) entries
  again_held seen b bs fault entries a old h =
      let two : named key qs ≡ b ∷ (bs ++ child ∷ []) = under_key key child ps ∙ ap (λ cs. cs ++ child ∷ []) old.1 in
      let was : pairs_faults c p ps ≡ low_faults ++ (own (b ∷ bs) ++ high_faults) =
      ap (keys_faults c p ps) old.0 ∙ faults_joined c p ps before (key ∷ behind)
      ∙ ap (λ cs. low_faults ++ (own cs ++ high_faults)) old.1 in
      let faults : pairs_faults c p qs ≡ low_faults ++ ((at_key key ([], Repeated) ∷ []) ++ high_faults) =
      faults_now (b ∷ (bs ++ child ∷ [])) a two ∙ ap (λ fs. low_faults ++ (under (Key key) fs ++ high_faults)) (repeated_by bs) in
      let stood : spelled_entries c p ps keys ≡ low ++ (each (b ∷ bs) ++ high) =
      ap (spelled_entries c p ps) old.0 ∙ entries_joined c p ps before (key ∷ behind)
      ∙ ap (λ cs. low ++ (each cs ++ high)) old.1 in
      let is_now : spelled_entries c p qs all ≡ low ++ ((each (b ∷ bs) ++ each (child ∷ [])) ++ high) =
      entries_now (b ∷ (bs ++ child ∷ [])) a two ∙ ap (λ es. low ++ (es ++ high)) (each_joined c p key (b ∷ bs) (child ∷ [])) in
      let kept = kept_grown (pairs_faults c p ps) (pairs_faults c p qs) entries low (each (b ∷ bs)) (each (child ∷ [])) high
      (never_none ([], Repeated) [] faults) (subst (λ xs. AreKept (pairs_faults c p ps) entries xs) stood h.2) in (
        subst (λ ks. IsPermutation seen ks) (old.0 ∙ sym a.0) h.0,
        fault_now ([], Repeated) [] (pair_faults c p key (b ∷ bs)) fault a faults (h.1 ∙ ap first_fault was),
        subst (λ xs. AreKept (pairs_faults c p qs) entries xs) (sym is_now) kept,
      )
    where
      repeated_by : (cs : List Child) → pair_faults c p key (b ∷ (cs ++ child ∷ [])) ≡ one_here Repeated
      repeated_by [] = refl
      repeated_by (x ∷ xs) = refl

  -- so the frame takes the tree
  takes_first : (x : Arrival) (f g : KeyFrame) → Arrived → IsNew → PairIs c p key child x → TakesKeyFirst key x f g
      → KeysHeld c p ps f.seen f.fault f.entries → KeysHeld c p qs g.seen g.fault g.entries
  takes_first null_comes f g a new is takes h = absurd is
  takes_first (value_comes v) f g a new is takes h =
      subst₂ (λ o es. KeysHeld c p qs g.seen o es) (sym takes.2) (sym takes.1)
      (value_held f.seen g.seen v f.fault f.entries a new is takes.0 h)
  takes_first (fault_comes w) f g a new is takes h =
      subst₂ (λ o es. KeysHeld c p qs g.seen o es) (sym takes.2) (sym takes.1)
      (fault_held f.seen g.seen w f.fault f.entries a new is takes.0 h)

  takes_again : (f g : KeyFrame) (b : Child) (bs : List Child) → Arrived → IsOld b bs → TakesKeyAgain key f g
      → KeysHeld c p ps f.seen f.fault f.entries → KeysHeld c p qs g.seen g.fault g.entries
  takes_again f g b bs a old takes h =
      subst (λ ks. KeysHeld c p qs ks g.fault g.entries) (sym takes.0)
      (subst₂ (λ o es. KeysHeld c p qs f.seen o es) (sym takes.2) (sym takes.1) (again_held f.seen b bs f.fault f.entries a old h))

  -- by whether the key is seen
  seen_is : (seen : List (List ℕ)) → IsPermutation seen keys → has_key key seen ≡ has_key key keys
  seen_is seen h = list_any-IsPermutation (λ k. bytes_eq key k) seen keys h

  is_new : Arrived → (IsIn key keys → ⊥) → IsEither → IsNew
  is_new a none (inl e) = absurd (none (subst (IsIn key) (sym e) (among_these key before behind)))
  is_new a none (inr e) = (e, nothing_under key ps (λ i. none (is_ordered key (names_of ps) i)))

  is_old : Arrived → IsIn key keys → IsEither → (b : Child) × (bs : List Child) × IsOld b bs
  is_old a there (inl e) =
      let one = something_under key ps (ordered_is key (names_of ps) there) in (one.0, one.1, (e, one.2))
  is_old a there (inr e) = absurd (not_among key before behind a.1 a.2 (subst (IsIn key) e there))

  takes_by : (x : Arrival) (f g : KeyFrame) (b : Bool) → has_key key f.seen ≡ b → Arrived → IsEither
      → PairIs c p key child x → MatchBool b (TakesKeyAgain key f g) (TakesKeyFirst key x f g)
      → KeysHeld c p ps f.seen f.fault f.entries → KeysHeld c p qs g.seen g.fault g.entries
  takes_by x f g true seen a split is takes h =
      let there = has_in key keys (sym (seen_is f.seen h.0) ∙ seen) in
      let old = is_old a there split in
      takes_again f g old.0 old.1 a old.2 takes h
  takes_by x f g false seen a split is takes h =
      let new = is_new a (λ i. unlike (has_key key f.seen) seen (seen_is f.seen h.0 ∙ in_has key keys i)) split in
      takes_first x f g a new is takes h
    where
      unlike : (b : Bool) → b ≡ false → b ≡ true → ⊥
      unlike true e g = cc
      unlike false e g = cc

-- so a map's frame holds the pairs with this one
pub pair_held : (c : Codec) (p : Place) (ps : List (List ℕ × Child)) (key : List ℕ) (child : Child) (x : Arrival) (f g : KeyFrame)
    → PairIs c p key child x → TakesKey key x f g → HoldsPairs c p ps (Some key) (map_frame f)
    → HoldsPairs c p (ps ++ (key, child) ∷ []) None (map_frame g)
pair_held c p ps key child x f g is takes h =
    let keys = in_byte_order (names_of ps) in
    let at = placed key keys (ordered (names_of ps)) in
    let now = takes_by c p ps key child at.0 at.1 x f g (has_key key f.seen) refl (keys_now key child ps ∙ at.2, at.3, at.4) at.5 is takes.2
    (h.1.seen, h.1.fault, h.1.entries) in
    (h.0, record { shape = takes.0 ∙ h.1.shape; seen = now.0; current = takes.1; fault = now.1; entries = now.2 })
