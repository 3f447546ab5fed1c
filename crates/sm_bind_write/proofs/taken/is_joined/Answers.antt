use Rattle.std.proofs.Common.{◌≡◌, ◌&&◌, ◌++◌, true, false, drop, length, sym, ap, ◌∙◌}
use Rattle.std.specs.Str.{str_eq_ignore_ascii_case}
use Rattle.std.proofs.lemmas.List.{take-append-drop}
use Rattle.sm_bind_write.proofs.FieldNames.{joined_parts}
use Rattle.sm_bind_write.proofs.taken.is_joined.Goals as goal

pub returns-then-folds_to : goal.returns-then-folds_to
returns-then-folds_to c =
    let P = c.args.prefix.now in
    let K = c.args.key.now in
    let N = c.args.name.now in
    let F = c.split_at.result.0.now in
    let B = c.split_at.result.1.now in
    let whole : N ≡ F ++ B =
    sym c.as_bytes.ensures.value ∙ sym (take-append-drop (length P) c.as_bytes.result.now)
    ∙ ap (λ u. u ++ drop (length P) c.as_bytes.result.now) (sym c.split_at.ensures.front) ∙ ap (λ u. F ++ u) (sym c.split_at.ensures.back) in
    let first : str_eq_ignore_ascii_case P F ≡ true =
    ap (λ u. str_eq_ignore_ascii_case u F) (sym c.as_bytes-2.ensures.value) ∙ sym c.folds_to.ensures ∙ c.if-folds_to.true in
    c.folds_to-then-folds_to.ensures ∙ ap (λ u. str_eq_ignore_ascii_case u B) c.as_bytes-then-folds_to.ensures.value
    ∙ sym (ap (λ t. t && str_eq_ignore_ascii_case K B) first) ∙ joined_parts P K N F B whole c.split_at.ensures.front_len c.requires

pub returns-else-folds_to : goal.returns-else-folds_to
returns-else-folds_to c =
    let P = c.args.prefix.now in
    let K = c.args.key.now in
    let N = c.args.name.now in
    let F = c.split_at.result.0.now in
    let B = c.split_at.result.1.now in
    let whole : N ≡ F ++ B =
    sym c.as_bytes.ensures.value ∙ sym (take-append-drop (length P) c.as_bytes.result.now)
    ∙ ap (λ u. u ++ drop (length P) c.as_bytes.result.now) (sym c.split_at.ensures.front) ∙ ap (λ u. F ++ u) (sym c.split_at.ensures.back) in
    let first : str_eq_ignore_ascii_case P F ≡ false =
    ap (λ u. str_eq_ignore_ascii_case u F) (sym c.as_bytes-2.ensures.value) ∙ sym c.folds_to.ensures ∙ c.if-folds_to.false in
    c.if-folds_to.false ∙ sym (ap (λ t. t && str_eq_ignore_ascii_case K B) first)
    ∙ joined_parts P K N F B whole c.split_at.ensures.front_len c.requires
