use Rattle.std.proofs.Common.{◌≡◌, ◌∙◌, is_some, true, false, sym, ap, subst, arith}
use Rattle.std.specs.Prelude.{IfSome}
use Rattle.regex.specs.Patterns.{find_str}
use Rattle.regex_meta.specs.Programs.{pattern_of}
use Rattle.regex_meta.proofs.LeftmostLemmas.{are_bytes}
use Rattle.sm_shapes.specs.Regexes.{regex_finds}
use Rattle.sm_shapes.proofs.Searches.{Ended, found_nowhere, found_filled}
use Rattle.sm_shapes.proofs.stored_regex.StoredRegex.told.Goals.{in-At+then-self-gt0, in-At+else-self-gt0, in-NoMatch, in-Idle}
use Rattle.sm_shapes.proofs.stored_regex.StoredRegex.told.Goals as goal

pub returns-clause-found : goal.returns-clause-found
returns-clause-found c =
    let p = c.self.inside.program in
    let text = c.args.text.now in
    let bytes = are_bytes text c.type_inv.text in
    let written : is_some (find_str (pattern_of p) text 0) ≡ regex_finds c.args.self.now text =
    c.self.inside.as_written text (λ k. omega (arith, c.type_inv.text k)) ∙ ap (λ w. regex_finds w text) c.self.view_is in
    let ended : Ended p text false c.find_end.result = rw c.as_bytes-bytes.ensures.value at c.find_end.ensures.end in
    elim c.match-find_end.branch [
      | in-At+then-self-gt0 w ↦ subst (λ r. IfSome r (λ found. found ≡ regex_finds c.args.self.now text)) (sym w.result-is)
          (sym (found_filled p text bytes c.self.inside.whole w.if-self-gt0.true (subst (Ended p text false) w.in-At.is ended).0) ∙ written)
      | in-At+else-self-gt0 w ↦ subst (λ r. IfSome r (λ found. found ≡ regex_finds c.args.self.now text)) (sym w.result-is) tt
      | in-NoMatch w ↦ subst (λ r. IfSome r (λ found. found ≡ regex_finds c.args.self.now text)) (sym w.result-is)
          (sym (found_nowhere p text bytes (subst (Ended p text false) w.in-NoMatch.is ended)) ∙ written)
      | in-Idle w ↦ subst (λ r. IfSome r (λ found. found ≡ regex_finds c.args.self.now text)) (sym w.result-is) tt
    ]
