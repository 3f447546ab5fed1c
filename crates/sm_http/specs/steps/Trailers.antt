-- Trailer lines and the empty line behind them, from any of them on, and what is seen of them in the bytes so far.
use Rattle.std.specs.Prelude.{◌≡◌, ℕ, ◌+◌, ◌≤◌, List, [], ◌∷◌, ◌++◌, length, drop, All}
use Rattle.sm_http.specs.Limits.{trailer_limit}
use Rattle.sm_http.specs.Chunks.{IsTrailer, print_trailer, print_trailers}
use Rattle.sm_http.specs.declared.trailers.SeenTrailer.{SeenTrailer}
use Rattle.sm_http.specs.declared.trailers.SeenTrailer.TheVariants as trailer
use Rattle.sm_http.specs.declared.trailers.SeenTrailers.{SeenTrailers}
use Rattle.sm_http.specs.declared.trailers.SeenTrailers.TheVariants.{Whole, Part, Never}

-- trailer lines, behind others of so many bytes, and the empty line, and the rest
pub record ReadsTrailers (used : ℕ) (bytes rest : List ℕ) : Type 0 where
  pub lines : List (List ℕ)
  pub are_trailers : All IsTrailer lines
  pub within : used + length (print_trailers lines) ≤ trailer_limit
  pub reads : bytes ≡ print_trailers lines ++ 13 ∷ 10 ∷ rest

abbrev pub HasNoTrailers : ℕ → List ℕ → Type 0
HasNoTrailers used bytes = (rest : List ℕ) → ReadsTrailers used bytes rest → ⊥

abbrev pub NeverHasTrailers : ℕ → List ℕ → Type 0
NeverHasTrailers used bytes = (more : List ℕ) → HasNoTrailers used (bytes ++ more)

pub record MayBecomeTrailers (used : ℕ) (bytes : List ℕ) : Type 0 where
  pub more : List ℕ
  pub reads : ReadsTrailers used (bytes ++ more) []

-- one trailer line of so many bytes, for which there is room
pub record ReadsTrailer (used : ℕ) (bytes : List ℕ) (len : ℕ) : Type 0 where
  pub line : List ℕ
  pub is_trailer : IsTrailer line
  pub long : length (print_trailer line) ≡ len
  pub within : used + len ≤ trailer_limit
  pub inside : len ≤ length bytes
  pub reads : bytes ≡ print_trailer line ++ drop len bytes

abbrev pub SeesTrailer : ℕ → List ℕ → SeenTrailer → Type 0
SeesTrailer used bytes trailer.Last = (2 ≤ length bytes) × (bytes ≡ 13 ∷ 10 ∷ drop 2 bytes)
SeesTrailer used bytes (trailer.Line len) = ReadsTrailer used bytes len
SeesTrailer used bytes trailer.Part = HasNoTrailers used bytes × MayBecomeTrailers used bytes
SeesTrailer used bytes trailer.Never = NeverHasTrailers used bytes

-- the bytes from a place on come to what all come to, whatever follows
pub record SameTrailers (at : ℕ) (bytes : List ℕ) : Type 0 where
  pub on : (more rest : List ℕ) → ReadsTrailers at (drop at bytes ++ more) rest → ReadsTrailers 0 (bytes ++ more) rest
  pub back : (more rest : List ℕ) → ReadsTrailers 0 (bytes ++ more) rest → ReadsTrailers at (drop at bytes ++ more) rest

abbrev pub SeesTrailers : List ℕ → SeenTrailers → Type 0
SeesTrailers bytes (Whole len) = (len ≤ length bytes) × ReadsTrailers 0 bytes (drop len bytes)
SeesTrailers bytes Part = HasNoTrailers 0 bytes × MayBecomeTrailers 0 bytes
SeesTrailers bytes Never = NeverHasTrailers 0 bytes
