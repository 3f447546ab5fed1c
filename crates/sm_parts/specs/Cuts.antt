-- Bytes up to a mark, and what is behind it.
use Rattle.std.specs.Prelude.{◌≡◌, ◌==◌, ◌<◌, ℕ, Bool, false, List, [], ◌∷◌, ◌++◌, length, Option, Some, None, All}
use Rattle.std.specs.List.{after_first, before_first, slice_split}
use denote.Ref.{Bor}
use Rattle.sm_parts.specs.declared.cut.Cut.{Cut}

abbrev pub is_mark : ℕ → ℕ → Bool
is_mark mark b = b == mark

-- no mark stands in the bytes
pub record IsWhole (mark : ℕ) (bytes taken : List ℕ) : Type 0 where
  pub all : taken ≡ bytes
  pub split : slice_split (is_mark mark) bytes ≡ taken ∷ []
  pub before : before_first (is_mark mark) bytes ≡ taken
  pub after : after_first (is_mark mark) bytes ≡ []
  pub none : All (λ b. is_mark mark b ≡ false) taken

-- the first mark stands between these
pub record IsFirstPiece (mark : ℕ) (bytes taken behind : List ℕ) : Type 0 where
  pub all : bytes ≡ taken ++ mark ∷ behind
  pub split : slice_split (is_mark mark) bytes ≡ taken ∷ slice_split (is_mark mark) behind
  pub before : before_first (is_mark mark) bytes ≡ taken
  pub after : after_first (is_mark mark) bytes ≡ behind
  pub none : All (λ b. is_mark mark b ≡ false) taken
  pub shorter : length behind < length bytes

abbrev pub IsCutBy : ℕ → List ℕ → List ℕ → Option (Bor (List ℕ)) → Type 0
IsCutBy mark bytes taken None = IsWhole mark bytes taken
IsCutBy mark bytes taken (Some behind) = IsFirstPiece mark bytes taken behind.now

abbrev pub IsCutAt : ℕ → List ℕ → Cut → Type 0
IsCutAt mark bytes cut = IsCutBy mark bytes cut.taken.now cut.behind

-- what stands behind the mark, which is nothing where there is none
abbrev pub bytes_behind : Option (Bor (List ℕ)) → List ℕ
bytes_behind None = []
bytes_behind (Some behind) = behind.now
