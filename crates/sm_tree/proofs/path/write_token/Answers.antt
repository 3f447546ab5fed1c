use Rattle.std.proofs.Common.{◌≡◌, ◌≢◌, ◌++◌, string_bytes, encode_utf8, sym, ap, ◌∙◌, append_assoc, rules}
use Rattle.std.specs.Str.Iter.{chars_rest}
use Rattle.sm_tree.specs.Pointer.{reference_token}
use Rattle.sm_tree.proofs.Tokens.{token-letter}
use Rattle.sm_tree.proofs.path.write_token.Goals as goal

pub loop-letter-preserved : goal.loop-letter-preserved
loop-letter-preserved c =
    let rest = chars_rest c.next.new.self in
    let letter = c.in-Some.letter in
    let not_tilde : letter ≢ 126 = search rules in
    let not_slash : letter ≢ 47 = search rules in
    let here : reference_token (chars_rest c.loop-letter.letter-iterator) ≡ encode_utf8 letter ++ reference_token rest =
    ap reference_token c.in-Some.ensures.steps.0 ∙ token-letter letter rest not_tilde not_slash in
    ap (λ s. s ++ reference_token rest) c.in_ok-push-in_default.ensures.bytes
    ∙ append_assoc (string_bytes c.loop-letter.out) (encode_utf8 letter) (reference_token rest)
    ∙ ap (λ s. string_bytes c.loop-letter.out ++ s) (sym here) ∙ c.loop-letter.invariant
