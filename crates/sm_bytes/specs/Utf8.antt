-- UTF-8 byte by byte (RFC 3629, section 4): what may stand behind some bytes of a text. It is for readers that
-- take a text in pieces, or of a length that is told; that it is `IsUtf8` of std is a law.
use Rattle.std.specs.Prelude.{◌≡◌, ◌↔◌, ℕ, ◌≤◌, ◌<◌, ◌==◌, ◌&&◌, nat_le, nat_lt, cond, if◌then◌else◌, option_and_then, Option, None, Some}
use Rattle.std.specs.Prelude.{List, [], ◌∷◌, IsUtf8}
use Rattle.sm_bytes.specs.declared.utf8.Utf8.{Utf8}
use Rattle.sm_bytes.specs.declared.utf8.Utf8.TheVariants.{Between, Second, LastTwo, Last}

-- UTF8-tail = %x80-BF
abbrev pub IsTail : ℕ → Type 0
IsTail y = (0x80 ≤ y) × (y < 0xC0)

-- what may stand behind the first byte x of UTF8-2, UTF8-3 and UTF8-4: a tail, narrowed behind four of them
abbrev pub least_second : ℕ → ℕ
least_second x = cond (x == 0xE0) 0xA0 (cond (x == 0xF0) 0x90 0x80)

abbrev pub greatest_second : ℕ → ℕ
greatest_second x = cond (x == 0xED) 0x9F (cond (x == 0xF4) 0x8F 0xBF)

abbrev pub IsSecond : ℕ → ℕ → Type 0
IsSecond x y = (least_second x ≤ y) × (y ≤ greatest_second x)

-- UTF8-1 = %x00-7F; the first byte of a longer character is in %xC2-F4
abbrev pub first_step : ℕ → Option Utf8
first_step c = if nat_lt c 0x80 then Some Between else (if nat_le 0xC2 c && nat_lt c 0xF5 then Some (Second c) else None)

-- behind the second byte of UTF8-2, UTF8-3 and UTF8-4
abbrev pub behind_second : ℕ → Utf8
behind_second x = if nat_lt x 0xE0 then Between else (if nat_lt x 0xF0 then Last else LastTwo)

abbrev pub step : Utf8 → ℕ → Option Utf8
step Between c = first_step c
step (Second x) c = if nat_le (least_second x) c && nat_le c (greatest_second x) then Some (behind_second x) else None
step LastTwo c = if nat_le 0x80 c && nat_lt c 0xC0 then Some Last else None
step Last c = if nat_le 0x80 c && nat_lt c 0xC0 then Some Between else None

-- how many bytes of a character that has begun must still come
abbrev pub owed : Utf8 → ℕ
owed Between = 0
owed (Second x) = if nat_lt x 0xE0 then 1 else (if nat_lt x 0xF0 then 2 else 3)
owed LastTwo = 2
owed Last = 1

-- behind these bytes, if a text may go on so
abbrev pub run : Utf8 → List ℕ → Option Utf8
run place [] = Some place
run place (c ∷ u) = option_and_then (λ q. run q u) (step place c)

-- these bytes end a text whose next byte stands at this place
abbrev pub Rest : Utf8 → List ℕ → Type 0
Rest place u = run place u ≡ Some Between

-- from the start of a text, the rests are the texts in UTF-8
abbrev pub RestIsUtf8 : Type 0
RestIsUtf8 = (u : List ℕ) → Rest Between u ↔ IsUtf8 u
