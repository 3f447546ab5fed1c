use Rattle.std.proofs.Common.{◌≡◌, ◌∙◌, is_some, true, sym, ap, subst, arith}
use Rattle.regex.specs.Patterns.{find_str}
use Rattle.regex_meta.specs.Programs.{pattern_of}
use Rattle.sm_shapes.specs.Regexes.{regex_finds}
use Rattle.sm_shapes.proofs.Searches.{Ended, found_at_start}
use Rattle.sm_shapes.proofs.stored_regex.StoredRegex.begins.Goals.{in-At, in-NoMatch}
use Rattle.sm_shapes.proofs.stored_regex.StoredRegex.begins.Goals as goal

pub returns-clause-found : goal.returns-clause-found
returns-clause-found c =
    let p = c.self.inside.program in
    let text = c.args.text.now in
    let written : is_some (find_str (pattern_of p) text 0) ≡ regex_finds c.args.self.now text =
    c.self.inside.as_written text (λ k. omega (arith, c.type_inv.text k)) ∙ ap (λ w. regex_finds w text) c.self.view_is in
    let ended : Ended p text true c.find_end.result = rw c.as_bytes-bytes.ensures.value at c.find_end.ensures.end in
    elim c.match-find_end.branch [
      | in-At w ↦ λ _. sym written ∙ found_at_start p text c.utf8.text (subst (Ended p text true) w.in-At.is ended).0
      | in-NoMatch w ↦ λ h. absurd cc
    ]
