use Rattle.sm_cross_command.proofs.OneCross.{one_cross}
use Rattle.sm_cross_command.proofs.laws.one_answer.Goals as goal

pub returns : goal.returns
returns c =
    one_cross c.one_service.ensures c.sound_models.ensures.services c.stays_servable.ensures c.target_texts.ensures
    c.one_session.ensures
