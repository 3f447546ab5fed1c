use Rattle.sm_json.proofs.Readers.{word_goes}
use Rattle.sm_json.proofs.read.Reader.begin_word.Goals as goal

pub returns : goal.returns
returns c = word_goes c.args.self.now c.args.word c.requires.place
