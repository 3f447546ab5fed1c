-- Places with their numbers, as one more is put behind them.
use Rattle.std.proofs.Common.{◌≡◌, ◌⊎◌, inl, inr, ℕ, zero, suc, ◌<◌, ◌≤◌, Bool, true, false, ◌||◌, cond, Option, Some, None, List, [], ◌∷◌}
use Rattle.std.proofs.Common.{◌++◌, length, map, get_or, set, replicate, slice_get, refl, sym, ap, ◌∙◌, subst, arith, length-append}
use Rattle.std.proofs.lemmas.List.{length-set, get_or-set_same, get_or-set_other, get_or-replicate, length-replicate, map-append, length-map}
use Rattle.std.proofs.lemmas.Bool.{cases_eq, or_parts, eq-eqb, ne_eqb, false_from_ne_true}
use Rattle.sm_shapes.specs.TableData.{TableData, shape_count, member_count, members_at}
use Rattle.sm_shapes.specs.Places.{Place, root_place, member_place, shape_of, members_of_place}
use Rattle.sm_codec.specs.Codec.{InTable}
use Rattle.sm_schema.specs.Definitions.{HaveTargetsValues, has_place, number_in, same_place, with_place, with_members, member_defined, Listed}
use Rattle.sm_shapes.specs.InOrder.{AreMembersOf, Shaped}
use Rattle.sm_codec.proofs.PlacesIn.{shape_in}
use Rattle.sm_codec.specs.PlaceView.{place_of}
use Rattle.sm_codec.specs.declared.places.ValuePlace.{ValuePlace}
use Rattle.sm_codec.specs.declared.places.ValuePlace.TheVariants.{Root, Member}
use Rattle.sm_schema.specs.steps.Numbered.{numbered, Numbered, AllIn, AllMembers, AreListed}
use Rattle.sm_schema.proofs.PlacesListed.{place_is, place_itself, one_place, some_place}

abbrev one_later : Option ℕ → Option ℕ
one_later None = None
one_later (Some n) = Some (suc n)

later_if : (b : Bool) (n : ℕ) → cond b (Some (suc n)) None ≡ one_later (cond b (Some n) None)
later_if true n = refl
later_if false n = refl

later_cond : (b : Bool) (n : ℕ) (o : Option ℕ) → one_later (cond b (Some n) o) ≡ cond b (Some (suc n)) (one_later o)
later_cond true n o = refl
later_cond false n o = refl

-- behind a place that is another, each has the number that it has there, and one more
numbered_behind : (r : Place) (rs : List Place) (q : Place) → same_place r q ≡ false → numbered (r ∷ rs) q ≡ one_later (numbered rs q)
numbered_behind r rs q e =
    ap (λ b. cond {A = Option ℕ} (b || has_place q rs) (Some (cond b 0 (suc (number_in rs q)))) None) e ∙ later_if (has_place q rs) (number_in rs q)

numbered_first : (r : Place) (rs : List Place) (q : Place) → same_place r q ≡ true → numbered (r ∷ rs) q ≡ Some 0
numbered_first r rs q e = ap (λ b. cond {A = Option ℕ} (b || has_place q rs) (Some (cond b 0 (suc (number_in rs q)))) None) e

-- the place that is put last has the number of those before it
pub numbered_last : (ps : List Place) (p q : Place) → has_place p ps ≡ false
    → numbered (ps ++ p ∷ []) q ≡ cond (same_place p q) (Some (length ps)) (numbered ps q)
numbered_last [] p q new = by (same_place p q)
  where
    by : (b : Bool) → cond {A = Option ℕ} (b || false) (Some (cond b 0 1)) None ≡ cond {A = Option ℕ} b (Some 0) None
    by true = refl
    by false = refl
numbered_last (r ∷ ps) p q new = by (same_place r q) refl (λ g. numbered_last ps p q g)
  where
    w : (same_place r p ≡ false) × (has_place p ps ≡ false)
    w = or_parts (same_place r p) (has_place p ps) new

    never : same_place r q ≡ true → same_place p q ≡ true → ⊥
    never e f = no (same_place r p) (subst (λ x. same_place x p ≡ true) (place_is p q f ∙ sym (place_is r q e)) (place_itself p)) w.0
      where
        no : (b : Bool) → b ≡ true → b ≡ false → ⊥
        no b x y = cc

    by : (b : Bool) → same_place r q ≡ b
        → (has_place p ps ≡ false → numbered (ps ++ p ∷ []) q ≡ cond (same_place p q) (Some (length ps)) (numbered ps q))
        → numbered (r ∷ (ps ++ p ∷ [])) q ≡ cond (same_place p q) (Some (suc (length ps))) (numbered (r ∷ ps) q)
    by true e more =
        numbered_first r (ps ++ p ∷ []) q e ∙ sym (numbered_first r ps q e)
        ∙ sym (ap (λ b. cond b (Some (suc (length ps))) (numbered (r ∷ ps) q)) (false_from_ne_true (same_place p q) (never e)))
    by false e more =
        numbered_behind r (ps ++ p ∷ []) q e ∙ ap one_later (more w.1)
        ∙ later_cond (same_place p q) (length ps) (numbered ps q)
        ∙ ap (λ o. cond (same_place p q) (Some (suc (length ps))) o) (sym (numbered_behind r ps q e))

pub all_in_last : (t : TableData) (ps : List Place) (p : Place) → AllIn t ps → InTable t p → AllIn t (ps ++ p ∷ [])
all_in_last t [] p h i = (i, tt)
all_in_last t (q ∷ ps) p h i = (h.0, all_in_last t ps p h.1 i)

-- a place of a table among them
pub all_in_at : (t : TableData) (ps : List Place) (i : ℕ) (p : Place) → AllIn t ps → slice_get ps i ≡ Some p → InTable t p
all_in_at t [] i p h e = absurd cc
all_in_at t (q ∷ ps) zero p h e = subst (InTable t) (one_place q p e) h.0
all_in_at t (q ∷ ps) (suc i) p h e = all_in_at t ps i p h.1 e

-- none have a number where there are none
pub numbered_none : (t : TableData) (m n : ℕ) (known : Bool) → m ≡ shape_count t → n ≡ member_count t
    → (known ≡ true → HaveTargetsValues t) → Numbered t [] (replicate m None) (replicate n None) known
numbered_none t m n known e f values = record {
  shapes_many = length-replicate m None ∙ e;
  members_many = length-replicate n None ∙ f;
  of_shapes = λ s lt. get_or-replicate m s None None (omega (arith, lt, e));
  of_members = λ k lt. get_or-replicate n k None None (omega (arith, lt, f));
  inside = tt;
  values = values;
}

-- the number is set of the place that is put there
pub shape_put : (t : TableData) (ps : List Place) (shapes members : List (Option ℕ)) (known : Bool) (s : ℕ)
    → Numbered t ps shapes members known → has_place (root_place s) ps ≡ false → s < shape_count t
    → Numbered t (ps ++ root_place s ∷ []) (set shapes s (Some (length ps))) members known
shape_put t ps shapes members known s h new within = record {
  shapes_many = length-set shapes s (Some (length ps)) ∙ h.shapes_many;
  members_many = h.members_many;
  of_shapes = λ r lt. by r lt (cases_eq r s);
  of_members = λ k lt. h.of_members k lt ∙ sym (numbered_last ps (root_place s) (member_place k) new);
  inside = all_in_last t ps (root_place s) h.inside within;
  values = h.values;
}
  where
    by : (r : ℕ) → r < shape_count t → (r ≡ s) ⊎ (r ≡ s → ⊥)
        → get_or (set shapes s (Some (length ps))) r None ≡ numbered (ps ++ root_place s ∷ []) (root_place r)
    by r lt (inl e) =
        ap (λ x. get_or (set shapes s (Some (length ps))) x None) e
        ∙ get_or-set_same shapes s (Some (length ps)) None (omega (arith, h.shapes_many, within))
        ∙ sym (numbered_last ps (root_place s) (root_place r) new
        ∙ ap (λ b. cond b (Some (length ps)) (numbered ps (root_place r))) (eq-eqb s r (sym e)))
    by r lt (inr other) =
        get_or-set_other shapes s r (Some (length ps)) None other ∙ h.of_shapes r lt
        ∙ sym (numbered_last ps (root_place s) (root_place r) new
        ∙ ap (λ b. cond b (Some (length ps)) (numbered ps (root_place r))) (ne_eqb s r (λ e. other (sym e))))

pub member_put : (t : TableData) (ps : List Place) (shapes members : List (Option ℕ)) (known : Bool) (k : ℕ)
    → Numbered t ps shapes members known → has_place (member_place k) ps ≡ false → k < member_count t
    → Numbered t (ps ++ member_place k ∷ []) shapes (set members k (Some (length ps))) known
member_put t ps shapes members known k h new within = record {
  shapes_many = h.shapes_many;
  members_many = length-set members k (Some (length ps)) ∙ h.members_many;
  of_shapes = λ s lt. h.of_shapes s lt ∙ sym (numbered_last ps (member_place k) (root_place s) new);
  of_members = λ j lt. by j lt (cases_eq j k);
  inside = all_in_last t ps (member_place k) h.inside within;
  values = h.values;
}
  where
    by : (j : ℕ) → j < member_count t → (j ≡ k) ⊎ (j ≡ k → ⊥)
        → get_or (set members k (Some (length ps))) j None ≡ numbered (ps ++ member_place k ∷ []) (member_place j)
    by j lt (inl e) =
        ap (λ x. get_or (set members k (Some (length ps))) x None) e
        ∙ get_or-set_same members k (Some (length ps)) None (omega (arith, h.members_many, within))
        ∙ sym (numbered_last ps (member_place k) (member_place j) new
        ∙ ap (λ b. cond b (Some (length ps)) (numbered ps (member_place j))) (eq-eqb k j (sym e)))
    by j lt (inr other) =
        get_or-set_other members k j (Some (length ps)) None other ∙ h.of_members j lt
        ∙ sym (numbered_last ps (member_place k) (member_place j) new
        ∙ ap (λ b. cond b (Some (length ps)) (numbered ps (member_place j))) (ne_eqb k j (λ e. other (sym e))))

-- a place has a number exactly where it is one of them
pub number_there : (ps : List Place) (p : Place) (n : ℕ) → numbered ps p ≡ Some n → has_place p ps ≡ true
number_there ps p n h = by (has_place p ps) refl h
  where
    by : (b : Bool) → has_place p ps ≡ b → cond b (Some (number_in ps p)) None ≡ Some n → has_place p ps ≡ true
    by true e g = e
    by false e g = absurd cc

pub number_gone : (ps : List Place) (p : Place) → numbered ps p ≡ None → has_place p ps ≡ false
number_gone ps p h = by (has_place p ps) refl h
  where
    by : (b : Bool) → has_place p ps ≡ b → cond b (Some (number_in ps p)) None ≡ None → has_place p ps ≡ false
    by true e g = absurd cc
    by false e g = e

-- the same of places of the code
pub root_added : (t : TableData) (before after : List ValuePlace) (place : ValuePlace) (shapes members : List (Option ℕ)) (known : Bool)
    (s n : ℕ) → Numbered t (map place_of before) shapes members known → has_place (place_of place) (map place_of before) ≡ false
    → InTable t (place_of place) → place ≡ Root s → after ≡ before ++ place ∷ [] → n ≡ length before
    → Numbered t (map place_of after) (set shapes s (Some n)) members known
root_added t before after place shapes members known s n h new within is put many =
    let ps = map place_of before in
    let moved : map place_of after ≡ ps ++ root_place s ∷ [] =
    ap (map place_of) put ∙ map-append place_of before (place ∷ []) ∙ ap (λ x. ps ++ place_of x ∷ []) is in
    let count : n ≡ length ps = many ∙ sym (length-map before place_of) in
    subst (λ x. Numbered t x (set shapes s (Some n)) members known) (sym moved)
    (subst (λ x. Numbered t (ps ++ root_place s ∷ []) (set shapes s (Some x)) members known) (sym count)
    (shape_put t ps shapes members known s h (subst (λ x. has_place (place_of x) ps ≡ false) is new)
    (subst (λ x. InTable t (place_of x)) is within)))

pub member_added : (t : TableData) (before after : List ValuePlace) (place : ValuePlace) (shapes members : List (Option ℕ)) (known : Bool)
    (k n : ℕ) → Numbered t (map place_of before) shapes members known → has_place (place_of place) (map place_of before) ≡ false
    → InTable t (place_of place) → place ≡ Member k → after ≡ before ++ place ∷ [] → n ≡ length before
    → Numbered t (map place_of after) shapes (set members k (Some n)) known
member_added t before after place shapes members known k n h new within is put many =
    let ps = map place_of before in
    let moved : map place_of after ≡ ps ++ member_place k ∷ [] =
    ap (map place_of) put ∙ map-append place_of before (place ∷ []) ∙ ap (λ x. ps ++ place_of x ∷ []) is in
    let count : n ≡ length ps = many ∙ sym (length-map before place_of) in
    subst (λ x. Numbered t x shapes (set members k (Some n)) known) (sym moved)
    (subst (λ x. Numbered t (ps ++ member_place k ∷ []) shapes (set members k (Some x)) known) (sym count)
    (member_put t ps shapes members known k h (subst (λ x. has_place (place_of x) ps ≡ false) is new)
    (subst (λ x. InTable t (place_of x)) is within)))

pub all_members_of : (t : TableData) (s : ℕ) (ks : List ℕ) → AreMembersOf t s ks → AllMembers t ks
all_members_of t s [] h = tt
all_members_of t s (k ∷ ks) h = (h.0, all_members_of t s ks h.2)

-- what stands at a place of a vector
place_got : (ps : List ValuePlace) (i : ℕ) (p : ValuePlace) → i < length ps → p ≡ get_or ps i p → slice_get (map place_of ps) i ≡ Some (place_of p)
place_got [] i p lt e = absurd (omega (arith, lt))
place_got (q ∷ ps) zero p lt e = ap (λ x. some_place (place_of x)) (sym e)
place_got (q ∷ ps) (suc i) p lt e = place_got ps i p (omega (arith, lt)) e

pub got_inside : (t : TableData) (ps : List ValuePlace) (i : ℕ) (p : ValuePlace) → AllIn t (map place_of ps) → i < length ps → p ≡ get_or ps i p
    → InTable t (place_of p)
got_inside t ps i p h lt e = all_in_at t (map place_of ps) i (place_of p) h (place_got ps i p lt e)

-- one turn more of the search
pub listed_next : (t : TableData) (s : ℕ) (before : List ValuePlace) (turn next : ℕ) (place : ValuePlace) (after : List Place)
    → ((n : ℕ) (ps : List Place) → Listed t n (map place_of before) turn ps → AreListed t s ps) → turn < length before
    → place ≡ get_or before turn place → next ≡ suc turn
    → after ≡ with_members t (map place_of before) (members_of_place t (place_of place))
    → (n : ℕ) (ps : List Place) → Listed t n after next ps → AreListed t s ps
listed_next t s before turn next place after old lt e step moved n ps h =
    old (suc n) ps (
      place_of place,
      place_got before turn place lt e,
      subst (λ k. Listed t n (with_members t (map place_of before) (members_of_place t (place_of place))) k ps) step
          (subst (λ x. Listed t n x next ps) moved h),
    )

past_all : (ps : List Place) (k : ℕ) → length ps ≤ k → slice_get ps k ≡ None
past_all [] k le = refl
past_all (p ∷ ps) zero le = absurd (omega (arith, le))
past_all (p ∷ ps) (suc k) le = past_all ps k (omega (arith, le))

-- behind the last place the search ends
pub listed_all : (t : TableData) (s : ℕ) (all : List ValuePlace) (turn : ℕ)
    → ((n : ℕ) (ps : List Place) → Listed t n (map place_of all) turn ps → AreListed t s ps) → length all ≤ turn
    → AreListed t s (map place_of all)
listed_all t s all turn old le =
    old 0 (map place_of all) (past_all (map place_of all) turn (omega (arith, length-map all place_of, le)), refl)

pub listed_begin : (t : TableData) (s : ℕ) (all : List Place) → all ≡ root_place s ∷ []
    → (n : ℕ) (ps : List Place) → Listed t n all 0 ps → AreListed t s ps
listed_begin t s all e n ps h = (n, subst (λ x. Listed t n x 0 ps) e h)

-- places stay there, as members are put behind them
with_longer : (ps : List Place) (p : Place) → length ps ≤ length (with_place ps p)
with_longer ps p = by (has_place p ps)
  where
    by : (b : Bool) → length ps ≤ length (cond b ps (ps ++ p ∷ []))
    by true = omega arith
    by false = omega (arith, length-append ps (p ∷ []))

pub members_longer : (t : TableData) (ps : List Place) (ks : List ℕ) → length ps ≤ length (with_members t ps ks)
members_longer t ps [] = omega arith
members_longer t ps (k ∷ ks) =
    omega (arith, with_longer ps (member_defined t k), members_longer t (with_place ps (member_defined t k)) ks)

pub members_all : (t : TableData) (p : Place) (s : ℕ) (ks : List ℕ) → Shaped t → InTable t p → s ≡ shape_of t p → ks ≡ members_at t s
    → AllMembers t ks
members_all t p s ks shaped inside e f =
    subst (AllMembers t) (sym f)
    (all_members_of t s (members_at t s) (shaped.members s (subst (λ x. x < shape_count t) (sym e) (shape_in t p shaped inside))))
