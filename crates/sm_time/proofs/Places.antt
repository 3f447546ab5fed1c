-- Bytes put into a buffer one after the other.
use Rattle.std.proofs.Common.{◌≡◌, ℕ, ◌+◌, ◌-◌, ◌≤◌, List, drop, sym, ap, ◌∙◌, arith}
use Rattle.std.proofs.lemmas.List.{drop-drop}

-- what lies behind the later place is as it was before both
pub kept_behind : (m n : ℕ) (old between new : List ℕ) → m ≤ n → drop m between ≡ drop m old → drop n new ≡ drop n between
    → drop n new ≡ drop n old
kept_behind m n old between new h first second =
    let on : m + (n - m) ≡ n = omega arith in
    let far = rw on at (drop-drop (n - m) m between) in
    let near = rw on at (drop-drop (n - m) m old) in
    second ∙ sym far ∙ ap (drop (n - m)) first ∙ near
