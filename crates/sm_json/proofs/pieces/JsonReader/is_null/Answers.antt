use Rattle.sm_tree.proofs.Sources.{no_refusal}
use Rattle.sm_json.proofs.pieces.JsonReader.is_null.Goals as goal

pub returns-in-Some : goal.returns-in-Some
returns-in-Some c bytes come = (λ e. cc, λ h. absurd (no_refusal _ _ h.0 c.in-Some.is))

pub returns-in-None : goal.returns-in-None
returns-in-None c bytes come =
    let is = c.is_null_text.ensures bytes come in (λ t. (c.in-None.is, is.0 t), λ h. is.1 h.1)
