-- Names of labels: of which none stands twice, and a new one that begins with any bytes.
use Rattle.std.proofs.Common.{◌≡◌, ℕ, suc, zero, ◌+◌, ◌<◌, ◌⊎◌, inl, inr, Bool, true, false, ◌||◌, List, [], ◌∷◌, ◌++◌, length, refl, sym}
use Rattle.std.proofs.Common.{ap, ◌∙◌, arith, length-append}
use Rattle.std.specs.List.{list_all, list_any}
use Rattle.std.specs.Str.{bytes_eq}
use Rattle.std.proofs.lemmas.Grind.{flat_map-append}
use Rattle.std.proofs.lemmas.Slice.Eq.{bytes_eq-Decides}
use Rattle.sm_ids.specs.Identifier.{is_identifier_byte}
use Rattle.sm_ids.proofs.Cutting.{clash}
use Rattle.sm_shapes.specs.Names.{AllDiffer, NoneIs}
use Rattle.sm_uri.specs.UriPattern.{label_name, label_names, greedy_names, IsGreedyLast}
use Rattle.sm_uri.specs.steps.UriReading.{is_some_name, labelled}
use Rattle.sm_uri.specs.declared.pattern.Segment.{Segment}
use Rattle.sm_uri.specs.declared.pattern.Segment.TheVariants.{Literal, Label, Greedy}

-- a name is among others
abbrev pub is_among_names : List ℕ → List (List ℕ) → Bool
is_among_names id names = list_any (λ k. bytes_eq k id) names

either_false : (a b : Bool) → (a || b) ≡ false → (a ≡ false) × (b ≡ false)
either_false true b h = cc
either_false false b h = (refl, h)

either_true : (a b : Bool) → (a || b) ≡ true → (a ≡ true) ⊎ (b ≡ true)
either_true true b h = inl refl
either_true false b h = inr h

none_after : (x n : List ℕ) (xs : List (List ℕ)) → NoneIs x xs → bytes_eq x n ≡ false → NoneIs x (xs ++ n ∷ [])
none_after x n [] h other = (λ e. clash (bytes_eq x n) ((bytes_eq-Decides x n).1 (sym e)) other, tt)
none_after x n (y ∷ xs) h other = (h.0, none_after x n xs h.1 other)

-- one that isn't among them may stand behind them
pub differ_more : (n : List ℕ) (xs : List (List ℕ)) → AllDiffer xs → is_among_names n xs ≡ false → AllDiffer (xs ++ n ∷ [])
differ_more n [] h new = (tt, tt)
differ_more n (x ∷ xs) h new =
    let k = either_false (bytes_eq x n) (is_among_names n xs) new in (none_after x n xs h.0 k.0, differ_more n xs h.1 k.1)

none_inside : (x n : List ℕ) (xs ys : List (List ℕ)) → NoneIs x (xs ++ n ∷ ys) → x ≡ n → ⊥
none_inside x n [] ys h e = h.0 (sym e)
none_inside x n (y ∷ xs) ys h e = none_inside x n xs ys h.1 e

-- one that is may not
pub not_twice : (n : List ℕ) (xs ys : List (List ℕ)) → is_among_names n xs ≡ true → AllDiffer (xs ++ n ∷ ys) → ⊥
not_twice n [] ys h d = cc
not_twice n (x ∷ xs) ys h d = elim (either_true (bytes_eq x n) (is_among_names n xs) h) [
  | inl e ↦ none_inside x n xs ys d.0 ((bytes_eq-Decides x n).0 e)
  | inr k ↦ not_twice n xs ys k d.1
]

pub names_of_both : (xs ys : List Segment) → label_names (xs ++ ys) ≡ label_names xs ++ label_names ys
names_of_both xs ys = flat_map-append label_name xs ys

pub name_of_label : (greedy : Bool) (name : List ℕ) → label_name (labelled greedy name) ≡ name ∷ []
name_of_label true name = refl
name_of_label false name = refl

-- bytes that go on with a name
pub letters : ℕ → List ℕ
letters zero = []
letters (suc n) = 97 ∷ letters n

pub letters_len : (n : ℕ) → length (letters n) ≡ n
unfolding letters
letters_len zero = refl
letters_len (suc n) = ap suc (letters_len n)

pub letters_of_names : (n : ℕ) → list_all is_identifier_byte (letters n) ≡ true
unfolding letters
letters_of_names zero = refl
letters_of_names (suc n) = letters_of_names n

-- how long a new name is
pub total : List (List ℕ) → ℕ
total [] = 0
total (n ∷ ns) = length n + total ns

pub new_when_long : (name : List ℕ) (names : List (List ℕ)) → total names < length name → is_among_names name names ≡ false
unfolding total
new_when_long name [] h = refl
new_when_long name (n ∷ ns) h =
    let rest : is_among_names name ns ≡ false = new_when_long name ns (omega (arith, h)) in
    here (bytes_eq n name) refl rest
  where
    here : (b : Bool) → bytes_eq n name ≡ b → is_among_names name ns ≡ false → (b || is_among_names name ns) ≡ false
    here true e rest = absurd (let same : length n ≡ length name = ap length ((bytes_eq-Decides n name).0 e) in omega (arith, h, same))
    here false e rest = rest

-- behind any bytes come letters enough to make a new name
pub new_name : (bytes : List ℕ) (names : List (List ℕ)) → is_among_names (bytes ++ letters (total names + 1)) names ≡ false
new_name bytes names =
    new_when_long (bytes ++ letters (total names + 1)) names
    (let len = length-append bytes (letters (total names + 1)) in let more = letters_len (total names + 1) in omega (arith, len, more))

-- the last label
pub greedy_last_text : (text : List ℕ) (xs : List Segment) → IsGreedyLast xs → IsGreedyLast (xs ++ Literal text ∷ [])
greedy_last_text text [] h = tt
greedy_last_text text (Literal t ∷ xs) h = greedy_last_text text xs h
greedy_last_text text (Label n ∷ xs) h = greedy_last_text text xs h
greedy_last_text text (Greedy n ∷ xs) h = names_of_both xs (Literal text ∷ []) ∙ ap (λ ns. ns ++ []) h

pub greedy_last_label : (greedy : Bool) (name : List ℕ) (xs : List Segment) → is_some_name (greedy_names xs) ≡ false
    → IsGreedyLast (xs ++ labelled greedy name ∷ [])
greedy_last_label true name [] h = refl
greedy_last_label false name [] h = tt
greedy_last_label greedy name (Literal t ∷ xs) h = greedy_last_label greedy name xs h
greedy_last_label greedy name (Label n ∷ xs) h = greedy_last_label greedy name xs h
greedy_last_label greedy name (Greedy n ∷ xs) h = cc

no_names : (xs : List Segment) (greedy : Bool) (name : List ℕ) (more : List Segment)
    → label_names (xs ++ labelled greedy name ∷ more) ≡ [] → ⊥
no_names xs greedy name more h =
    empty (label_names xs) (label_names more)
    (sym (names_of_both xs (labelled greedy name ∷ more) ∙ ap (λ ns. label_names xs ++ (ns ++ label_names more))
    (name_of_label greedy name)) ∙ h)
  where
    empty : (a b : List (List ℕ)) → a ++ name ∷ b ≡ [] → ⊥
    empty [] b e = cc
    empty (x ∷ a) b e = cc

pub no_label_behind : (xs : List Segment) (greedy : Bool) (name : List ℕ) (more : List Segment) → is_some_name (greedy_names xs) ≡ true
    → IsGreedyLast (xs ++ labelled greedy name ∷ more) → ⊥
no_label_behind [] greedy name more some h = cc
no_label_behind (Literal t ∷ xs) greedy name more some h = no_label_behind xs greedy name more some h
no_label_behind (Label n ∷ xs) greedy name more some h = no_label_behind xs greedy name more some h
no_label_behind (Greedy n ∷ xs) greedy name more some h = no_names xs greedy name more h
