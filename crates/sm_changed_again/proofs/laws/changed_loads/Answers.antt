use Rattle.sm_changed_again.proofs.WrittenChanges.{changed_loads}
use Rattle.sm_changed_again.proofs.laws.changed_loads.Goals as goal

pub returns : goal.returns
returns c = changed_loads c.written_is_json.ensures c.written_says.ensures c.written_spells.ensures c.formed_files.ensures
