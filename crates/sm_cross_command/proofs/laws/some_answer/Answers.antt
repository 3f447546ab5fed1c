use Rattle.sm_cross_command.proofs.SomeCross.{some_cross}
use Rattle.sm_cross_command.proofs.laws.some_answer.Goals as goal

pub returns : goal.returns
returns c =
    some_cross c.some_service.ensures c.some_load.ensures.files c.sound_models.ensures.services c.stays_servable.ensures
    c.target_texts.ensures c.some_session.ensures
