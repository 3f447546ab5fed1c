use Rattle.std.proofs.Common.{◌≡◌, ◌∙◌, length, map, sym}
use Rattle.std.proofs.lemmas.List.{length-map}
use Rattle.sm_lex.specs.Tokens.{lexeme_of}
use Rattle.speeds.proofs.formats.turns.token_count.Goals as goal

pub returns-in-Ok-tokens : goal.returns-in-Ok-tokens
returns-in-Ok-tokens c =
    let found = c.in-Ok-tokens.found.items in
    let count : length (map lexeme_of found) ≡ length found = length-map found lexeme_of in
    (map lexeme_of found, c.in-Ok-tokens.ensures.lexes, count ∙ sym c.in-Ok-tokens.found.ok.0 ∙ sym c.len.ensures)
