use Rattle.sm_rest_write.proofs.outline.outlined.Goals as goal

pub returns : goal.returns
returns c = record { parts = c.in_ok-parts.ensures; body = c.in_ok-body.ensures; content_type = c.body_type.ensures }
