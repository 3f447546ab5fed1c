-- The names of the bytes of ASCII (RFC 20, section 5.2) that definitions speak of. Digits and letters are named where a range or
-- an escape begins or ends.
use Rattle.std.specs.Prelude.{ℕ}

abbrev pub backspace : ℕ
backspace = 8

abbrev pub tab : ℕ
tab = 9

abbrev pub line_feed : ℕ
line_feed = 10

abbrev pub form_feed : ℕ
form_feed = 12

abbrev pub carriage_return : ℕ
carriage_return = 13

abbrev pub space : ℕ
space = 32

abbrev pub quote : ℕ
quote = 34

abbrev pub number_sign : ℕ
number_sign = 35

abbrev pub dollar : ℕ
dollar = 36

abbrev pub apostrophe : ℕ
apostrophe = 39

abbrev pub left_parenthesis : ℕ
left_parenthesis = 40

abbrev pub right_parenthesis : ℕ
right_parenthesis = 41

abbrev pub plus : ℕ
plus = 43

abbrev pub comma : ℕ
comma = 44

abbrev pub minus : ℕ
minus = 45

abbrev pub full_stop : ℕ
full_stop = 46

abbrev pub slash : ℕ
slash = 47

abbrev pub digit_zero : ℕ
digit_zero = 48

abbrev pub digit_one : ℕ
digit_one = 49

abbrev pub digit_nine : ℕ
digit_nine = 57

abbrev pub colon : ℕ
colon = 58

abbrev pub equals : ℕ
equals = 61

abbrev pub at_sign : ℕ
at_sign = 64

abbrev pub capital_a : ℕ
capital_a = 65

abbrev pub capital_e : ℕ
capital_e = 69

abbrev pub capital_f : ℕ
capital_f = 70

abbrev pub capital_t : ℕ
capital_t = 84

abbrev pub capital_z : ℕ
capital_z = 90

abbrev pub left_bracket : ℕ
left_bracket = 91

abbrev pub backslash : ℕ
backslash = 92

abbrev pub right_bracket : ℕ
right_bracket = 93

abbrev pub underscore : ℕ
underscore = 95

abbrev pub small_a : ℕ
small_a = 97

abbrev pub small_b : ℕ
small_b = 98

abbrev pub small_e : ℕ
small_e = 101

abbrev pub small_f : ℕ
small_f = 102

abbrev pub small_n : ℕ
small_n = 110

abbrev pub small_r : ℕ
small_r = 114

abbrev pub small_t : ℕ
small_t = 116

abbrev pub small_u : ℕ
small_u = 117

abbrev pub small_z : ℕ
small_z = 122

abbrev pub left_brace : ℕ
left_brace = 123

abbrev pub right_brace : ℕ
right_brace = 125

abbrev pub tilde : ℕ
tilde = 126

abbrev pub delete : ℕ
delete = 127
