-- The innermost of a decoder's frames stands last in their vector.
use Rattle.std.proofs.Common.{◌≡◌, ℕ, ◌<◌, ◌-◌, ◌+◌, List, [], ◌∷◌, ◌++◌, map, reverse, length, get_or, set, refl, sym, ap, ◌∙◌, subst}
use Rattle.std.proofs.Common.{arith}
use Rattle.std.specs.Prelude.{Some, slice_get}
use Rattle.std.specs.Option.{option_map}
use Rattle.std.proofs.lemmas.List.{map-append, reverse-append}
use Rattle.sm_codec.specs.Decoding as decoding
use Rattle.sm_codec.specs.StackView.{frame_of, stack_of, first_of}
use Rattle.sm_codec.specs.declared.frames.Frame.{Frame}

pub pushed : (fs : List Frame) (f : Frame) → stack_of (fs ++ f ∷ []) ≡ frame_of f ∷ stack_of fs
pushed fs f = ap reverse (map-append frame_of fs (f ∷ [])) ∙ reverse-append (map frame_of fs) (frame_of f ∷ [])

-- the last of some
pub last_split : (f : Frame) (fs : List Frame) → (front : List Frame) × (x : Frame) × (f ∷ fs ≡ front ++ x ∷ [])
last_split f [] = ([], f, refl)
last_split f (g ∷ fs) = let rest = last_split g fs in (f ∷ rest.0, rest.1, ap (λ xs. f ∷ xs) rest.2)

one_more : (front : List Frame) (x : Frame) → length (front ++ x ∷ []) - 1 ≡ length front
one_more front x = omega (arith, longer front)
  where
    longer : (fs : List Frame) → length (fs ++ x ∷ []) ≡ length fs + 1
    longer [] = refl
    longer (f ∷ fs) = let rest = longer fs in omega (arith, rest)

get_end : (front : List Frame) (x : Frame) → slice_get (front ++ x ∷ []) (length front) ≡ Some x
get_end [] x = refl
get_end (f ∷ front) x = get_end front x

at_end : (front : List Frame) (x d : Frame) → get_or (front ++ x ∷ []) (length front) d ≡ x
at_end [] x d = refl
at_end (f ∷ front) x d = at_end front x d

set_end : (front : List Frame) (x g : Frame) → set (front ++ x ∷ []) (length front) g ≡ front ++ g ∷ []
set_end [] x g = refl
set_end (f ∷ front) x g = ap (λ xs. f ∷ xs) (set_end front x g)

-- what the end of the vector says of the first of them
pub first_is : (fs : List Frame) → first_of (stack_of fs) ≡ option_map frame_of (slice_get fs (length fs - 1))
first_is [] = refl
first_is (f ∷ fs) =
    let split = last_split f fs in
    let end : slice_get (split.0 ++ split.1 ∷ []) (length (split.0 ++ split.1 ∷ []) - 1) ≡ Some split.1 =
    ap (slice_get (split.0 ++ split.1 ∷ [])) (one_more split.0 split.1) ∙ get_end split.0 split.1 in
    subst (λ xs. first_of (stack_of xs) ≡ option_map frame_of (slice_get xs (length xs - 1))) (sym split.2)
    (ap first_of (pushed split.0 split.1) ∙ ap (option_map frame_of) (sym end))

-- the frame that a vector lends to be changed is the first of them
pub lent_changed : (fs : List Frame) (n : ℕ) (x g : Frame) → n ≡ length fs → 0 < n → x ≡ get_or fs (n - 1) x
    → (rest : List decoding.Frame) × (stack_of fs ≡ frame_of x ∷ rest) × (stack_of (set fs (n - 1) g) ≡ frame_of g ∷ rest)
lent_changed [] n x g long some is = let none : n ≡ 0 = long in absurd (omega (arith, none, some))
lent_changed (f ∷ fs) n x g long some is =
    let split = last_split f fs in
    let front = split.0 in
    let y = split.1 in
    let place : n - 1 ≡ length front = ap (λ m. m - 1) (long ∙ ap length split.2) ∙ one_more front y in
    let there : x ≡ get_or (front ++ y ∷ []) (length front) x =
    is ∙ ap (λ xs. get_or xs (n - 1) x) split.2 ∙ ap (λ m. get_or (front ++ y ∷ []) m x) place in
    let same : y ≡ x = sym (there ∙ at_end front y x) in (
      stack_of front,
      ap stack_of split.2 ∙ pushed front y ∙ ap (λ z. frame_of z ∷ stack_of front) same,
      ap (λ xs. stack_of (set xs (n - 1) g)) split.2 ∙ ap (λ m. stack_of (set (front ++ y ∷ []) m g)) place
          ∙ ap stack_of (set_end front y g) ∙ pushed front g,
    )
