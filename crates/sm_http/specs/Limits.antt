-- The limits of the profile. Each counts bytes, but the fields, which are counted, and the digits.
use Rattle.std.specs.Prelude.{ℕ}

-- a head, from the first byte behind the last message to its empty line's end
abbrev pub head_limit : ℕ
head_limit = 16384

abbrev pub most_fields : ℕ
most_fields = 64

-- a body's data
abbrev pub message_body_limit : ℕ
message_body_limit = 8388608

-- the data that one call gives
abbrev pub piece_limit : ℕ
piece_limit = 4096

-- the hexadecimal digits of a chunk's size
abbrev pub most_size_digits : ℕ
most_size_digits = 8

-- a size line, without its line end
abbrev pub size_line_limit : ℕ
size_line_limit = 256

-- all trailer lines of a chunked body, with their line ends
abbrev pub trailer_limit : ℕ
trailer_limit = 4096
