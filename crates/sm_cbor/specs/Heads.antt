-- The heads of data items (RFC 8949, section 3): an initial byte, whose high-order 3 bits are the major type and
-- whose low-order 5 bits are the additional information, and the bytes of the argument. Each definition says "s begins
-- so, and r is what follows".
use Rattle.std.specs.Prelude.{◌≡◌, ℕ, zero, suc, ◌+◌, ◌*◌, ◌/◌, ◌%◌, ◌<◌, ◌⊎◌, List, [], ◌∷◌}

-- this byte, and then r
abbrev pub Byte : ℕ → List ℕ → List ℕ → Type 0
Byte b [] r = ⊥
Byte b (c ∷ s) r = (c ≡ b) × (s ≡ r)

-- n is v with k more bytes behind it, in network byte order: the most significant first
abbrev pub Number : ℕ → ℕ → ℕ → List ℕ → List ℕ → Type 0
Number zero v n s r = (n ≡ v) × (s ≡ r)
Number (suc k) v n [] r = ⊥
Number (suc k) v n (b ∷ s) r = (b < 256) × Number k (v * 256 + b) n s r

-- additional information 24, 25, 26 or 27: the argument's value is in the following 1, 2, 4 or 8 bytes
abbrev pub HasWidth : ℕ → ℕ → Type 0
HasWidth info k = ((info ≡ 24) × (k ≡ 1)) ⊎ (((info ≡ 25) × (k ≡ 2)) ⊎ (((info ≡ 26) × (k ≡ 4)) ⊎ ((info ≡ 27) × (k ≡ 8))))

-- the argument n: less than 24 it is the additional information itself. 28 to 31 tell none
abbrev pub Argument : ℕ → ℕ → List ℕ → List ℕ → Type 0
Argument info n s r = ((info < 24) × Number 0 info n s r) ⊎ ((k : ℕ) × HasWidth info k × Number k 0 n s r)

-- a head of this major type with the argument n, in any of the forms that hold n
abbrev pub Head : ℕ → ℕ → List ℕ → List ℕ → Type 0
Head major n [] r = ⊥
Head major n (c ∷ s) r = (c / 32 ≡ major) × Argument (c % 32) n s r

-- the major types
abbrev pub unsigned_type : ℕ
unsigned_type = 0

abbrev pub negative_type : ℕ
negative_type = 1

abbrev pub bytes_type : ℕ
bytes_type = 2

abbrev pub text_type : ℕ
text_type = 3

abbrev pub array_type : ℕ
array_type = 4

abbrev pub map_type : ℕ
map_type = 5

abbrev pub tag_type : ℕ
tag_type = 6

abbrev pub simple_type : ℕ
simple_type = 7

-- the initial bytes of the simple values 20 to 23, section 3.3
abbrev pub false_byte : ℕ
false_byte = 0xF4

abbrev pub true_byte : ℕ
true_byte = 0xF5

abbrev pub null_byte : ℕ
null_byte = 0xF6

abbrev pub undefined_byte : ℕ
undefined_byte = 0xF7

-- additional information 31: the length is indefinite
abbrev pub Indefinite : ℕ → List ℕ → List ℕ → Type 0
Indefinite major s r = Byte (major * 32 + 31) s r

-- the "break" that ends what has an indefinite length, section 3.2.1
abbrev pub break_byte : ℕ
break_byte = 0xFF

abbrev pub Break : List ℕ → List ℕ → Type 0
Break s r = Byte break_byte s r
