use Rattle.std.proofs.Common.{sym, ◌∙◌, ◌-◌, take, length, codes}
use Rattle.std.proofs.lemmas.Slice.Eq.{ends_is}
use Rattle.std.proofs.lemmas.Bool.Decides.{Decides-eqb}
use Rattle.sm_load.proofs.texts.ends_in_json.Goals as goal

pub returns : goal.returns
returns c =
    let says = ends_is Decides-eqb c.as_bytes.result.now (codes ".json") c.ends_with.result c.ends_with.ensures.value in (
      λ t. (take (length c.as_bytes.result.now - 5) c.as_bytes.result.now, sym c.as_bytes.ensures.value ∙ says.0 t),
      λ h. says.1 h.0
          (c.as_bytes.ensures.value ∙ h.1),
    )
