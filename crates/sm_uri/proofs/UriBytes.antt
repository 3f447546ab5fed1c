-- The classes of bytes of a pattern's parts, and runs of them.
use Rattle.std.proofs.Common.{◌≡◌, ℕ, true, not, List, [], ◌∷◌, ap, arith}
use Rattle.std.proofs.lemmas.Bool.Decides.{nat_tests}
use Rattle.sm_ids.specs.Identifier.{is_identifier_byte}
use Rattle.sm_ids.specs.steps.Ahead.{EndsRun}
use Rattle.sm_uri.specs.UriPattern.{is_literal_byte, is_value_byte, is_key_byte}
use Rattle.sm_uri.specs.steps.UriReading.{is_inner_byte, ends_segment}

pub literal_inner : (c : ℕ) → is_literal_byte c ≡ true → is_inner_byte c ≡ true
literal_inner c h = grind (arith, nat_tests)

pub key_value : (c : ℕ) → is_key_byte c ≡ true → is_value_byte c ≡ true
key_value c h = grind (arith, nat_tests)

pub name_inner : (c : ℕ) → is_identifier_byte c ≡ true → is_inner_byte c ≡ true
name_inner c h = grind (arith, nat_tests)

-- what ends a segment ends every run of bytes within one
pub ends_inner : (x : List ℕ) → ends_segment x ≡ true → EndsRun is_inner_byte x
ends_inner [] h = tt
ends_inner (c ∷ x) h = ap not h
