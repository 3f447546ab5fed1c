-- Texts in UTF-8 byte by byte: the steps over a whole character, what may stand behind a run of characters, and that
-- from each place a text goes on where there is room. The proofs of readers cite them.
use Rattle.std.proofs.Common.{◌≡◌, ◌⊎◌, ◌&&◌, ◌≤◌, ◌<◌, ◌+◌, ◌-◌, ◌*◌, ℕ, zero, suc, Bool, true, false, Option, None, Some, List, [], ◌∷◌}
use Rattle.std.proofs.Common.{◌++◌, inl, inr, refl, sym, ap, ◌∙◌, subst, arith, length, encode_utf8_all, IsUtf8}
use Rattle.std.specs.Prelude.{option_and_then}
use Rattle.std.specs.Char.{IsScalar}
use Rattle.std.proofs.lemmas.Bool.{and_from, cases_lt, cases_order, cond-false, le-ltb, lt-ltb, le-leb}
use Rattle.std.proofs.lemmas.Bool.Decides.{nat_tests}
use Rattle.std.proofs.lemmas.Str.{IsUtf8-append, IsUtf8-nil, IsUtf8-encode}
use Rattle.sm_bytes.specs.declared.utf8.Utf8.{Utf8}
use Rattle.sm_bytes.specs.declared.utf8.Utf8.TheVariants.{Between, Second, LastTwo, Last}
use Rattle.sm_bytes.specs.Utf8.{IsTail, IsSecond, least_second, greatest_second, behind_second, step, owed, run, Rest, RestIsUtf8}
use Rattle.sm_bytes.proofs.CharacterBytes.{low_three, low_four, two_encode, three_encode, four_encode, one_byte}
use Rattle.sm_bytes.proofs.CharacterShapes.{IsOne, IsTwo, IsThree, IsFour, shape}
use lib.Utf8.{scalar, scalars, encode, low_scalar}

-- single steps
step_one : (c : ℕ) → c < 128 → step Between c ≡ Some Between
step_one c small = grind (arith, nat_tests)

step_lead : (c : ℕ) → 194 ≤ c → c < 245 → step Between c ≡ Some (Second c)
step_lead c low high = grind (arith, nat_tests)

step_second : (x y : ℕ) → IsSecond x y → step (Second x) y ≡ Some (behind_second x)
step_second x y h = grind (arith, nat_tests)

behind_two : (x : ℕ) → x < 224 → behind_second x ≡ Between
behind_two x small = grind (arith, nat_tests)

behind_three : (x : ℕ) → 224 ≤ x → x < 240 → behind_second x ≡ Last
behind_three x low high = grind (arith, nat_tests)

behind_four : (x : ℕ) → 240 ≤ x → behind_second x ≡ LastTwo
behind_four x low = grind (arith, nat_tests)

step_last : (y : ℕ) → IsTail y → step Last y ≡ Some Between
step_last y h = grind (arith, nat_tests)

step_two : (y : ℕ) → IsTail y → step LastTwo y ≡ Some Last
step_two y h = grind (arith, nat_tests)

-- what a byte does at each place
first_is : (c : ℕ) → (c < 128) ⊎ (((194 ≤ c) × (c < 245)) ⊎ (step Between c ≡ None))
first_is c = elim (cases_lt c 128) [
  | inl small ↦ inl small
  | inr big ↦ elim (cases_lt c 194) [
    | inl low ↦ inr (inr (grind (arith, nat_tests)))
    | inr high ↦ elim (cases_lt c 245) [ inl in_range ↦ inr (inl (high, in_range)) | inr past ↦ inr (inr (grind (arith, nat_tests))) ]
  ]
]

second_is : (x y : ℕ) → IsSecond x y ⊎ (step (Second x) y ≡ None)
second_is x y = elim (cases_lt y (least_second x)) [
  | inl low ↦ inr (grind (arith, nat_tests))
  | inr high ↦ elim (cases_lt (greatest_second x) y) [ inl past ↦ inr (grind (arith, nat_tests)) | inr in_range ↦ inl (high, in_range) ]
]

tail_is : (y : ℕ) → IsTail y ⊎ ((step LastTwo y ≡ None) × (step Last y ≡ None))
tail_is y = elim (cases_lt y 128) [
  | inl low ↦ inr (grind (arith, nat_tests), grind (arith, nat_tests))
  | inr high ↦ elim (cases_lt y 192) [
    | inl in_range ↦ inl (high, in_range)
    | inr past ↦ inr
        (grind (arith, nat_tests), grind (arith, nat_tests))
  ]
]

-- a step, and what comes behind it
pub over : (place q : Utf8) (c : ℕ) (u : List ℕ) → step place c ≡ Some q → run place (c ∷ u) ≡ run q u
over place q c u e = ap (option_and_then (λ p. run p u)) e

pub no_rest : (place : Utf8) (c : ℕ) (u : List ℕ) → step place c ≡ None → Rest place (c ∷ u) → ⊥
no_rest place c u e h = let f : option_and_then (λ p. run p u) None ≡ Some Between = ap (option_and_then (λ p. run p u)) (sym e) ∙ h in cc

-- a run behind another
bind_over : (o : Option Utf8) (u v : List ℕ) → ((q : Utf8) → run q (u ++ v) ≡ option_and_then (λ p. run p v) (run q u))
    → option_and_then (λ q. run q (u ++ v)) o ≡ option_and_then (λ p. run p v) (option_and_then (λ q. run q u) o)
bind_over None u v h = refl
bind_over (Some q) u v h = h q

pub run_append : (u v : List ℕ) (place : Utf8) → run place (u ++ v) ≡ option_and_then (λ q. run q v) (run place u)
run_append [] v place = refl
run_append (c ∷ u) v place = bind_over (step place c) u v (λ q. run_append u v q)

-- behind a run that ends between two characters
pub whole_then : (w u : List ℕ) (place : Utf8) → Rest place w → run place (w ++ u) ≡ run Between u
whole_then w u place h = run_append w u place ∙ ap (option_and_then (λ q. run q u)) h

-- the bytes of a character lead from between two characters to between two
one_run : (c : ℕ) (p : List ℕ) → IsOne c ⊎ (IsTwo c ⊎ (IsThree c ⊎ IsFour c)) → encode c ≡ p → Rest Between p
one_run c p (inl (small, e)) f = subst (Rest Between) (sym e ∙ f) (over Between Between c [] (step_one c small))
one_run c p (inr (inl (x, y, low, high, tail, e))) f =
    subst (Rest Between) (sym e ∙ f)
    (over Between (Second x) x (y ∷ []) (step_lead x low (omega arith))
    ∙ over (Second x) (behind_second x) y [] (step_second x y (grind (arith, nat_tests))) ∙ ap Some (behind_two x high))
one_run c p (inr (inr (inl (x, y, z, low, high, second, tail, e)))) f =
    subst (Rest Between) (sym e ∙ f)
    (over Between (Second x) x (y ∷ z ∷ []) (step_lead x (omega arith) (omega arith))
    ∙ over (Second x) (behind_second x) y (z ∷ []) (step_second x y second)
    ∙ ap (λ q. run q (z ∷ [])) (behind_three x low high) ∙ over Last Between z [] (step_last z tail))
one_run c p (inr (inr (inr (x, y, z, t, low, high, second, tail, last, e)))) f =
    subst (Rest Between) (sym e ∙ f)
    (over Between (Second x) x (y ∷ z ∷ t ∷ []) (step_lead x (omega arith) high)
    ∙ over (Second x) (behind_second x) y (z ∷ t ∷ []) (step_second x y second)
    ∙ ap (λ q. run q (z ∷ t ∷ [])) (behind_four x low) ∙ over LastTwo Last z (t ∷ []) (step_two z tail)
    ∙ over Last Between t [] (step_last t last))

and_parts : (x y : Bool) → (x && y) ≡ true → (x ≡ true) × (y ≡ true)
and_parts true y e = (refl, e)
and_parts false y e = absurd cc

scalars_head : (c : ℕ) (cs : List ℕ) → scalars (c ∷ cs) ≡ true → (scalar c ≡ true) × (scalars cs ≡ true)
scalars_head c cs e = and_parts (scalar c) (scalars cs) e

characters_run : (cs : List ℕ) → scalars cs ≡ true → Rest Between (encode_utf8_all cs)
characters_run [] e = refl
characters_run (c ∷ cs) e =
    let (first, more) = scalars_head c cs e in
    whole_then (encode c) (encode_utf8_all cs) Between (one_run c (encode c) (shape c first) refl) ∙ characters_run cs more

pub utf8_runs : (u : List ℕ) → IsUtf8 u → Rest Between u
utf8_runs u (cs, (e, f)) = subst (Rest Between) f (characters_run cs e)

-- which numbers are characters: those of whole sequences
pub high_scalar : (c : ℕ) → 57344 ≤ c → c < 1114112 → IsScalar c
high_scalar c low high = cond-false _ _ _ (le-ltb c 55296 (omega arith)) ∙ and_from _ _ (le-leb 57344 c low) (lt-ltb c 1114112 high)

surrogate_tail : (x y : ℕ) → x ≡ 237 → IsSecond x y → y < 160
surrogate_tail x y e h = grind (arith, nat_tests)

fourth_plane : (x y : ℕ) → x ≡ 244 → IsSecond x y → y < 144
fourth_plane x y e h = grind (arith, nat_tests)

pub three_scalar : (x y z : ℕ) → 224 ≤ x → x < 240 → IsSecond x y → IsTail z → (c : ℕ)
    → c ≡ ((x - 224) * 64 + (y - 128)) * 64 + (z - 128) → IsScalar c
three_scalar x y z a b h t c e =
    let low = low_three x y a h in
    elim (cases_order x 237) [
      | inl same ↦ let top = surrogate_tail x y same h in low_scalar c (omega arith)
      | inr other ↦ elim other [ inl below ↦ low_scalar c (omega arith) | inr above ↦ high_scalar c (omega arith) (omega arith) ]
    ]

pub four_scalar : (x y z w : ℕ) → 240 ≤ x → x < 245 → IsSecond x y → IsTail z → IsTail w → (c : ℕ)
    → c ≡ (((x - 240) * 64 + (y - 128)) * 64 + (z - 128)) * 64 + (w - 128) → IsScalar c
four_scalar x y z w a b h t u c e =
    let low = low_four x y a h in
    elim (cases_order x 244) [
      | inl same ↦ let top = fourth_plane x y same h in high_scalar c (omega arith) (omega arith)
      | inr other ↦ elim other [ inl below ↦ high_scalar c (omega arith) (omega arith) | inr above ↦ absurd (omega arith) ]
    ]

one_utf8 : (c : ℕ) (p : List ℕ) → IsScalar c → encode c ≡ p → IsUtf8 p
one_utf8 c p scalar e = subst IsUtf8 e (IsUtf8-encode c scalar)

-- the first character of a rest, and the rest behind it
abbrev Peeled : ℕ → List ℕ → Type 0
Peeled c u = (p u1 : List ℕ) × (c ∷ u ≡ p ++ u1) × IsUtf8 p × (length u1 ≤ length u) × Rest Between u1

unfinished : (place : Utf8) → (place ≡ Between → ⊥) → Rest place [] → ⊥
unfinished place other h = other cc

peel_two : (x : ℕ) (u : List ℕ) → 194 ≤ x → x < 224 → Rest (Second x) u → Peeled x u
peel_two x [] low high h = absurd (unfinished (Second x) (λ e. cc) h)
peel_two x (y ∷ u) low high h = elim (second_is x y) [
  | inl second ↦
      let range : (128 ≤ y) × (y < 192) = (grind (arith, nat_tests), grind (arith, nat_tests)) in
      let c = (x - 192) * 64 + (y - 128) in (
        x ∷ y ∷ [],
        u,
        refl,
        one_utf8 c (x ∷ y ∷ []) (low_scalar c (omega arith)) (two_encode x y low high range.0 range.1),
        omega arith,
        sym (over (Second x) (behind_second x) y u (step_second x y second) ∙ ap (λ q. run q u) (behind_two x high)) ∙ h,
      )
  | inr none ↦ absurd (no_rest (Second x) y u none h)
]

peel_last : (x y : ℕ) (u : List ℕ) → 224 ≤ x → x < 240 → IsSecond x y → Rest Last u → Peeled x (y ∷ u)
peel_last x y [] low high second h = absurd (unfinished Last (λ e. cc) h)
peel_last x y (z ∷ u) low high second h = elim (tail_is z) [
  | inl tail ↦
      let c = ((x - 224) * 64 + (y - 128)) * 64 + (z - 128) in (
        x ∷ y ∷ z ∷ [],
        u,
        refl,
        one_utf8 c (x ∷ y ∷ z ∷ []) (three_scalar x y z low high second tail c refl) (three_encode x y z low high second tail),
        omega arith,
        sym (over Last Between z u (step_last z tail)) ∙ h,
      )
  | inr none ↦ absurd (no_rest Last z u none.1 h)
]

peel_fourth : (x y z : ℕ) (u : List ℕ) → 240 ≤ x → x < 245 → IsSecond x y → IsTail z → Rest Last u → Peeled x (y ∷ z ∷ u)
peel_fourth x y z [] low high second tail h = absurd (unfinished Last (λ e. cc) h)
peel_fourth x y z (t ∷ u) low high second tail h = elim (tail_is t) [
  | inl last ↦
      let c = (((x - 240) * 64 + (y - 128)) * 64 + (z - 128)) * 64 + (t - 128) in (
        x ∷ y ∷ z ∷ t ∷ [],
        u,
        refl,
        one_utf8 c (x ∷ y ∷ z ∷ t ∷ []) (four_scalar x y z t low high second tail last c refl)
            (four_encode x y z t low high second tail last),
        omega arith,
        sym (over Last Between t u (step_last t last)) ∙ h,
      )
  | inr none ↦ absurd (no_rest Last t u none.1 h)
]

peel_third : (x y : ℕ) (u : List ℕ) → 240 ≤ x → x < 245 → IsSecond x y → Rest LastTwo u → Peeled x (y ∷ u)
peel_third x y [] low high second h = absurd (unfinished LastTwo (λ e. cc) h)
peel_third x y (z ∷ u) low high second h = elim (tail_is z) [
  | inl tail ↦ peel_fourth x y z u low high second tail (sym (over LastTwo Last z u (step_two z tail)) ∙ h)
  | inr none ↦ absurd (no_rest LastTwo z u none.0 h)
]

peel_long : (x : ℕ) (u : List ℕ) → 224 ≤ x → x < 245 → Rest (Second x) u → Peeled x u
peel_long x [] low high h = absurd (unfinished (Second x) (λ e. cc) h)
peel_long x (y ∷ u) low high h = elim (second_is x y) [
  | inl second ↦
      let there = over (Second x) (behind_second x) y u (step_second x y second) in
      elim (cases_lt x 240) [
        | inl three ↦ peel_last x y u low three second (sym (there ∙ ap (λ q. run q u) (behind_three x low three)) ∙ h)
        | inr four ↦ peel_third x y u four high second (sym (there ∙ ap (λ q. run q u) (behind_four x four)) ∙ h)
      ]
  | inr none ↦ absurd (no_rest (Second x) y u none h)
]

peel : (c : ℕ) (u : List ℕ) → Rest Between (c ∷ u) → Peeled c u
peel c u h = elim (first_is c) [
  | inl small ↦ (
    c ∷ [],
    u,
    refl,
    one_utf8 c (c ∷ []) (low_scalar c (omega arith)) (one_byte c small),
    omega arith,
    sym
        (over Between Between c u (step_one c small)) ∙ h,
  )
  | inr other ↦ elim other [
    | inl lead ↦
        let rest = sym (over Between (Second c) c u (step_lead c lead.0 lead.1)) ∙ h in
        elim (cases_lt c 224) [ inl two ↦ peel_two c u lead.0 two rest | inr long ↦ peel_long c u long lead.1 rest ]
    | inr none ↦ absurd (no_rest Between c u none h)
  ]
]

utf8_within : (k : ℕ) (u : List ℕ) → length u ≤ k → Rest Between u → IsUtf8 u
utf8_within k [] small h = IsUtf8-nil
utf8_within zero (c ∷ u) small h = absurd (omega arith)
utf8_within (suc k) (c ∷ u) small h =
    let (p, u1, e, is, shorter, rest) = peel c u h in
    subst IsUtf8 (sym e) (IsUtf8-append p u1 is (utf8_within k u1 (omega arith) rest))

pub rest_utf8 : (u : List ℕ) → Rest Between u → IsUtf8 u
rest_utf8 u h = utf8_within (length u) u (omega arith) h

pub rest_is_utf8 : RestIsUtf8
rest_is_utf8 u = (rest_utf8 u, utf8_runs u)

-- what a text owes at a place is there
owed_step : (place q : Utf8) (c : ℕ) → step place c ≡ Some q → owed place ≤ owed q + 1
owed_step Between q c e = omega arith
owed_step (Second x) q c e = elim (second_is x c) [
  | inl second ↦ let same : q ≡ behind_second x = (let f = step_second x c second in cc) in subst (λ p. owed (Second x) ≤ owed p + 1)
      (sym same) (owed_second x)
  | inr none ↦ absurd cc
]
  where
    owed_second : (x : ℕ) → owed (Second x) ≤ owed (behind_second x) + 1
    owed_second x = elim (cases_lt x 224) [
      | inl two ↦ grind (arith, nat_tests)
      | inr long ↦ elim (cases_lt x 240) [ inl three ↦ grind (arith, nat_tests) | inr four ↦ grind (arith, nat_tests) ]
    ]
owed_step LastTwo q c e = elim (tail_is c) [
  | inl tail ↦ let same : q ≡ Last = (let f = step_two c tail in cc) in subst (λ p. 2 ≤ owed p + 1) (sym same) (omega arith)
  | inr none ↦ absurd (let f = none.0 in cc)
]
owed_step Last q c e = omega arith

fits_step : (o : Option Utf8) (u : List ℕ) → ((q : Utf8) → Rest q u → owed q ≤ length u)
    → option_and_then (λ q. run q u) o ≡ Some Between → (q : Utf8) × (o ≡ Some q) × (owed q ≤ length u)
fits_step None u h e = absurd cc
fits_step (Some q) u h e = (q, refl, h q e)

pub rest_fits : (u : List ℕ) (place : Utf8) → Rest place u → owed place ≤ length u
rest_fits [] place h = let same : place ≡ Between = cc in subst (λ p. owed p ≤ 0) (sym same) (omega arith)
rest_fits (c ∷ u) place h =
    let (q, e, few) = fits_step (step place c) u (λ p r. rest_fits u p r) h in
    let one = owed_step place q c e in omega arith

-- and from each place a text goes on to any length that has room for what is owed
abbrev GoesOn : Utf8 → ℕ → Type 0
GoesOn place k = (u : List ℕ) × (length u ≡ k) × Rest place u

after_byte : (place q : Utf8) (c k : ℕ) → step place c ≡ Some q → GoesOn q k → GoesOn place (suc k)
after_byte place q c k e (u, len, rest) = (c ∷ u, ap suc len, over place q c u e ∙ rest)

between_on : (k : ℕ) → GoesOn Between k
between_on zero = ([], refl, refl)
between_on (suc k) = after_byte Between Between 0 k refl (between_on k)

last_on : (k : ℕ) → 1 ≤ k → GoesOn Last k
last_on zero room = absurd (omega arith)
last_on (suc k) room = after_byte Last Between 128 k refl (between_on k)

two_on : (k : ℕ) → 2 ≤ k → GoesOn LastTwo k
two_on zero room = absurd (omega arith)
two_on (suc k) room = after_byte LastTwo Last 128 k refl (last_on k (omega arith))

some_second : (x : ℕ) → IsSecond x (least_second x)
some_second x = (omega arith, grind (arith, nat_tests))

second_on : (x k : ℕ) → owed (Second x) ≤ k → GoesOn (Second x) k
second_on x zero room = absurd (grind (arith, nat_tests))
second_on x (suc k) room =
    let step_there : (q : Utf8) → behind_second x ≡ q → step (Second x) (least_second x) ≡ Some q = λ q e. step_second x (least_second x)
    (some_second x) ∙ ap Some e in
    elim (cases_lt x 224) [
      | inl two ↦ after_byte (Second x) Between (least_second x) k (step_there Between (behind_two x two)) (between_on k)
      | inr long ↦ elim (cases_lt x 240) [
        | inl three ↦ after_byte (Second x) Last (least_second x) k (step_there Last (behind_three x long three))
            (last_on k (grind (arith, nat_tests)))
        | inr four ↦ after_byte (Second x) LastTwo (least_second x) k (step_there LastTwo (behind_four x four))
            (two_on k (grind (arith, nat_tests)))
      ]
    ]

pub rest_goes_on : (place : Utf8) (k : ℕ) → owed place ≤ k → (u : List ℕ) × (length u ≡ k) × Rest place u
rest_goes_on Between k room = between_on k
rest_goes_on (Second x) k room = second_on x k room
rest_goes_on LastTwo k room = two_on k room
rest_goes_on Last k room = last_on k room

-- a number that is no byte goes on with no text
pub no_byte : (place : Utf8) → step place 256 ≡ None
no_byte Between = refl
no_byte (Second x) = elim (second_is x 256) [ inl second ↦ absurd (grind (arith, nat_tests)) | inr none ↦ none ]
no_byte LastTwo = refl
no_byte Last = refl
