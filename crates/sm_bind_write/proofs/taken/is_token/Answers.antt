use Rattle.std.proofs.Common.{◌≡◌, ◌&&◌, ◌||◌, true, false, sym, ap, ◌∙◌}
use Rattle.std.specs.Char.{to_ascii_lowercase}
use Rattle.std.specs.List.{list_all}
use Rattle.httparse.specs.Grammar.{is_token_byte}
use Rattle.sm_parts.specs.HeaderLists.{is_filled}
use Rattle.sm_bind_write.proofs.FieldNames.{token_joined}
use Rattle.sm_bind_write.proofs.taken.is_token.Goals as goal

pub returns-then-are_token_bytes : goal.returns-then-are_token_bytes
returns-then-are_token_bytes c =
    let P = c.args.prefix.now in
    let K = c.args.key.now in
    let A = list_all (λ b. is_token_byte (to_ascii_lowercase b)) P in
    let B = list_all is_token_byte K in
    let some : (is_filled P || is_filled K) ≡ true = sym c.has_byte.ensures ∙ c.if-has_byte.true in
    let front : A ≡ true =
    ap (list_all (λ b. is_token_byte (to_ascii_lowercase b))) (sym c.as_bytes.ensures.value) ∙ sym c.are_token_bytes.ensures
    ∙ c.if-are_token_bytes.true in
    c.are_lower_token_bytes.ensures ∙ ap (list_all is_token_byte) c.as_bytes-then-are_token_bytes.ensures.value
    ∙ sym (ap (λ t. t && (A && B)) some ∙ ap (λ t. t && B) front) ∙ token_joined P K

pub returns-else-are_token_bytes : goal.returns-else-are_token_bytes
returns-else-are_token_bytes c =
    let P = c.args.prefix.now in
    let K = c.args.key.now in
    let A = list_all (λ b. is_token_byte (to_ascii_lowercase b)) P in
    let B = list_all is_token_byte K in
    let some : (is_filled P || is_filled K) ≡ true = sym c.has_byte.ensures ∙ c.if-has_byte.true in
    let front : A ≡ false =
    ap (list_all (λ b. is_token_byte (to_ascii_lowercase b))) (sym c.as_bytes.ensures.value) ∙ sym c.are_token_bytes.ensures
    ∙ c.if-are_token_bytes.false in
    c.if-are_token_bytes.false ∙ sym (ap (λ t. t && (A && B)) some ∙ ap (λ t. t && B) front) ∙ token_joined P K
