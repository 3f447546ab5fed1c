use Rattle.std.proofs.Common.{◌≡◌, ◌+◌, ◌∙◌, ◌∷◌, [], List, ℕ, ap, arith, drop, length}
use Rattle.std.proofs.lemmas.List.{length-append}
use Rattle.sm_bytes.specs.Ascii.{dollar}
use Rattle.sm_model.specs.Graphs.{member_id}
use Rattle.sm_model.specs.Reaching.{id_of_number}
use Rattle.sm_compile.proofs.LookedUp.{its_id}
use Rattle.sm_http_rules.proofs.naming.own_name.Goals as goal

pub returns : goal.returns
returns c =
    let shape = id_of_number c.args.graph.now c.args.shape in
    let long : length c.id_text.result.now + 1 ≡ length (member_id shape []) =
    ap (λ (t : List ℕ). length t + 1) c.id_text.ensures ∙ (let parts = length-append shape (dollar ∷ []) in omega (arith, parts)) in
    c.id_behind.ensures ∙ ap (λ n. drop n c.id.result.now) long ∙ ap (drop (length (member_id shape [])))
    (its_id c.args.graph.now c.args.member c.id.result.now c.id.ensures)
