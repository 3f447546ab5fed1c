use Rattle.std.proofs.Common.{ap, [], map, ◌∙◌}
use Rattle.std.specs.List.{cons_option}
use Rattle.std.specs.Str.{bytes_eq, str_to_ascii_lowercase}
use Rattle.sm_bind.specs.Roles.{is_among}
use Rattle.sm_bind_read.proofs.KeysTaken.{or_none}
use Rattle.sm_bind_read.proofs.taken.is_header_at.Goals as goal

pub returns-in-Some : goal.returns-in-Some
returns-in-Some c =
    let w = str_to_ascii_lowercase c.args.name.now in
    c.folds_to.ensures
    ∙ ap (λ u. bytes_eq (str_to_ascii_lowercase u) (str_to_ascii_lowercase c.as_bytes-in-Some.result.now)) c.as_bytes.ensures.value
    ∙ ap (λ u. bytes_eq w (str_to_ascii_lowercase u)) c.as_bytes-in-Some.ensures.value ∙ or_none (bytes_eq w (str_to_ascii_lowercase c.in-Some.header.now))
    ∙ ap (λ o. is_among (map str_to_ascii_lowercase (cons_option o [])) w) c.in-Some.ensures

pub returns-in-None : goal.returns-in-None
returns-in-None c =
    ap (λ o. is_among (map str_to_ascii_lowercase (cons_option o [])) (str_to_ascii_lowercase c.args.name.now)) c.in-None.ensures
