-- Lists of texts, and of pairs of texts, are compared text by text.
use Rattle.std.proofs.Common.{◌≡◌, ℕ, Bool, List, bytes_eq}
use Rattle.std.specs.Prelude.{◌&&◌}
use Rattle.std.specs.Bool.{Decides}
use Rattle.std.specs.Cmp.Lexicographic.{pointwise}
use Rattle.std.proofs.lemmas.Bool.{and_from, and_parts}
use Rattle.std.proofs.lemmas.Slice.Eq.{bytes_eq-Decides, slice_eq-Decides}

pub texts_decide : (xs ys : List (List ℕ)) (r : Bool) → r ≡ pointwise bytes_eq xs ys → Decides r (xs ≡ ys)
texts_decide xs ys r e = slice_eq-Decides bytes_eq-Decides xs ys r e

abbrev same_pair : List ℕ × List ℕ → List ℕ × List ℕ → Bool
same_pair a b = bytes_eq a.0 b.0 && bytes_eq a.1 b.1

pair_decides : (a b : List ℕ × List ℕ) → Decides (same_pair a b) (a ≡ b)
pair_decides a b = (
  λ h.
      let both = and_parts (bytes_eq a.0 b.0) (bytes_eq a.1 b.1) h in
      let first : a.0 ≡ b.0 = (bytes_eq-Decides a.0 b.0).0 both.0 in
      let second : a.1 ≡ b.1 = (bytes_eq-Decides a.1 b.1).0 both.1 in
      λ i. (first i, second i),
  λ e. and_from (bytes_eq a.0 b.0) (bytes_eq a.1 b.1) ((bytes_eq-Decides a.0 b.0).1 (λ i. (e i).0))
      ((bytes_eq-Decides a.1 b.1).1 (λ i. (e i).1)),
)

pub pairs_decide : (xs ys : List (List ℕ × List ℕ)) (r : Bool) → r ≡ pointwise same_pair xs ys → Decides r (xs ≡ ys)
pairs_decide xs ys r e = slice_eq-Decides pair_decides xs ys r e
