use Rattle.sm_transform_command.proofs.transform.selector_of.Goals as goal

pub returns-in-Err : goal.returns-in-Err
returns-in-Err c = c.no_selector.ensures c.args.text.now c.in-Err.ensures
