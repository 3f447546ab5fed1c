-- The patterns of a set of ids that can be listed: each text at the first id that carries it.
use Rattle.std.proofs.Common.{◌≡◌, ◌⊎◌, inl, inr, ℕ, ◌+◌, Bool, true, false, List, [], ◌∷◌, Option, Some, None, refl, sym, ap, ◌∙◌, subst}
use Rattle.std.proofs.Common.{bytes_eq, length}
use Rattle.std.specs.Prelude.{slice_get}
use Rattle.std.specs.Cmp.{tied_itself}
use Rattle.std.specs.Cmp.Lexicographic.{nat_list_cmp_total}
use Rattle.std.specs.List.{Contains}
use Rattle.std.specs.List.Sorted.{IsStrictlySortedBy}
use Rattle.std.specs.declared.cmp.Ordering.TheVariants.{Equal, Greater}
use Rattle.std.proofs.lemmas.Option.{none-some, same_Some, slice_get_read}
use Rattle.std.proofs.lemmas.Slice.Eq.{bytes_eq-Decides}
use Rattle.sm_model.specs.Graphs.{GraphMaps, text_cmp}
use Rattle.sm_model.proofs.OneRising.{before_one, contains_behind, contains_either, contains_head, contains_none}
use Rattle.sm_model.proofs.Worklist.{apart}
use Rattle.sm_compile.specs.Compiled.{AreNumberedFrom, ArePatternsOf, EachSays, IdSet, IsCarrier, IsFirstCarrier, NamesText}
use Rattle.sm_compile.specs.Compiled.{PatternRows, texts_of}
use Rattle.sm_compile.specs.steps.Carrying.{carried}
use Rattle.sm_compile.proofs.CarriedPatterns.{carries_told}
use Rattle.sm_compile.proofs.CarriedSets.{not_greater, not_tied}
use Rattle.sm_compile.proofs.KeptIds.{AreKept}
use Rattle.sm_compile.proofs.TextsStored.{named_at}

-- a pattern is one text or another
same_text : (o : Option (List ℕ)) (u : List ℕ) → (o ≡ Some u) ⊎ (o ≡ Some u → ⊥)
same_text None u = inr (λ h. none-some u h)
same_text (Some v) u = by (bytes_eq v u) refl
  where
    by : (b : Bool) → bytes_eq v u ≡ b → (Some v ≡ Some u) ⊎ (Some v ≡ Some u → ⊥)
    by true is = inl (ap (λ t. Some t) ((bytes_eq-Decides v u).0 is))
    by false is = inr (λ h. let same : true ≡ bytes_eq v u = sym ((bytes_eq-Decides v u).1 (same_Some v u h)) in apart (sym (same ∙ is)))

module _ (g : GraphMaps) (u : List ℕ) where
  -- the first of some ids that carry a text
  record IsFirstOf (xs : List (List ℕ)) (x : List ℕ) : Type 0 where
    pub among : Contains xs x
    pub carries : carried g x ≡ Some u
    pub least : (y : List ℕ) → Contains xs y → carried g y ≡ Some u → text_cmp x y ≡ Greater → ⊥

  first_of_all : (xs : List (List ℕ)) → IsStrictlySortedBy text_cmp xs → (x : List ℕ) → Contains xs x → carried g x ≡ Some u
      → (y : List ℕ) × IsFirstOf xs y
  unfolding IsStrictlySortedBy
  first_of_all [] rise x there is = absurd (contains_none x there)
  first_of_all (k ∷ ks) rise x there is = elim (same_text (carried g k) u) [
    | inl here ↦ (
      k,
      record {
        among = contains_head k ks;
        carries = here;
        least = λ y at same greater. elim (contains_either k y ks at) [
          | inl one ↦
              not_tied (text_cmp k y)
              (subst (λ z. text_cmp k z ≡ Equal) one (tied_itself nat_list_cmp_total k)) greater
          | inr later ↦ not_greater (text_cmp k y) (before_one nat_list_cmp_total k y ks rise.0 later) greater
        ];
      },
    )
    | inr other ↦ elim (contains_either k x ks there) [
      | inl same ↦ absurd (other (ap (carried g) same ∙ is))
      | inr later ↦
          let rest = first_of_all ks rise.1 x later is in (
            rest.0,
            record {
              among = contains_behind k rest.0 ks rest.1.among;
              carries = rest.1.carries;
              least = λ y at same greater. elim (contains_either k y ks at) [
                | inl one ↦ other (ap (carried g) one ∙ same)
                | inr too ↦ rest.1.least y too same greater
              ];
            },
          )
    ]
  ]

module _ (g : GraphMaps) (In : IdSet) where
  abbrev pub IsFirstOfSome : List ℕ → Type 0
  IsFirstOfSome x = (u : List ℕ) × IsFirstCarrier g In u x

  texts_there : (fs : List (List ℕ)) → ((x : List ℕ) → Contains fs x → IsFirstOfSome x)
      → (us : List (List ℕ)) × EachSays (λ u id. IsFirstCarrier g In u id) us fs
  texts_there [] h = ([], tt)
  texts_there (f ∷ fs) h =
      let here = h f (contains_head f fs) in
      let rest = texts_there fs (λ x there. h x (contains_behind f x fs there)) in
      (here.0 ∷ rest.0, (here.1, rest.1))

  text_at : (us fs : List (List ℕ)) → EachSays (λ u id. IsFirstCarrier g In u id) us fs → (x : List ℕ) → Contains fs x
      → (u : List ℕ) × Contains us u × IsFirstCarrier g In u x
  text_at [] [] h x there = absurd (contains_none x there)
  text_at [] (f ∷ fs) h x there = absurd h
  text_at (u ∷ us) [] h x there = absurd h
  text_at (u ∷ us) (f ∷ fs) h x there = elim (contains_either f x fs there) [
    | inl same ↦ (u, contains_head u us, subst (λ y. IsFirstCarrier g In u y) same h.0)
    | inr later ↦ let rest = text_at us fs h.1 x later in (rest.0, contains_behind u rest.0 us rest.1, rest.2)
  ]

  pub some_patterns : (rs fs : List (List ℕ)) → IsStrictlySortedBy text_cmp rs
      → ((id u : List ℕ) → IsCarrier g In u id → Contains rs id) → ((id : List ℕ) → Contains rs id → In id)
      → IsStrictlySortedBy text_cmp fs → AreKept IsFirstOfSome rs fs → (us : List (List ℕ)) × ArePatternsOf g In us
  some_patterns rs fs rise all within rises are =
      let texts = texts_there fs (λ x there. ((are x).0 there).1) in (
        texts.0,
        record {
          firsts = fs;
          each = texts.1;
          rise = rises;
          all = λ u id carrier.
              let first = first_of_all g u rs rise id (all id u carrier) ((carries_told g id u).1 carrier.1) in
              let y = first.0 in
              let is : IsFirstCarrier g In u y = record {
                carries = (within y first.1.among, (carries_told g y u).0 first.1.carries);
                least = λ other c greater. first.1.least other (all other u c) ((carries_told g other u).1 c.1) greater;
              } in
              let at = text_at texts.0 fs texts.1 y ((are y).1 (first.1.among, (u, is))) in
              let same : at.0 ≡ u =
              same_Some at.0 u (sym ((carries_told g y at.0).1 at.2.carries.1) ∙ (carries_told g y u).1 is.carries.1) in
              subst (Contains texts.0) same at.1;
        },
      )

-- texts as rows, numbered from a number on
abbrev pub rows_from : ℕ → List (List ℕ) → PatternRows
rows_from k [] = []
rows_from k (u ∷ us) = (k, u) ∷ rows_from (k + 1) us

pub rows_texts : (k : ℕ) (us : List (List ℕ)) → texts_of (rows_from k us) ≡ us
rows_texts k [] = refl
rows_texts k (u ∷ us) = ap (λ ts. u ∷ ts) (rows_texts (k + 1) us)

pub rows_numbered : (k : ℕ) (us : List (List ℕ)) → AreNumberedFrom k (rows_from k us)
rows_numbered k [] = tt
rows_numbered k (u ∷ us) = (refl, rows_numbered (k + 1) us)

-- the number that names a pattern among them
pub number_named : (k : ℕ) (ps : PatternRows) → AreNumberedFrom k ps → (o : Option (List ℕ))
    → ((u : List ℕ) → o ≡ Some u → Contains (texts_of ps) u) → (p : Option ℕ) × NamesText ps p o
number_named k ps numbered None among = (None, tt)
number_named k ps numbered (Some u) among =
    let c = among u refl in
    let at : slice_get (texts_of ps) c.0 ≡ Some u = slice_get_read (texts_of ps) (length (texts_of ps)) c.0 u refl c.1 (sym c.2) in
    (Some _, named_at k c.0 u ps (0, []) numbered at)
