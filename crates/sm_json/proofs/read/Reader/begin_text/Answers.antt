use Rattle.sm_json.proofs.Readers.{text_goes}
use Rattle.sm_json.proofs.read.Reader.begin_text.Goals as goal

pub returns : goal.returns
returns c = text_goes c.args.self.now c.args.role c.start.new.self c.requires.place c.start.ensures
