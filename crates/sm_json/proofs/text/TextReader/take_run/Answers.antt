-- A run is UTF-8, and from between two characters it is taken as it is.
use Rattle.std.proofs.Common.{◌++◌, take, ap, ◌∙◌, string_bytes}
use Rattle.sm_json.proofs.Runs.{run_utf8, run_at}
use Rattle.sm_json.proofs.text.TextReader.take_run.Goals as goal

pub from_utf8_unchecked-run-requires : goal.from_utf8_unchecked-run-requires
from_utf8_unchecked-run-requires c = run_utf8 (take c.plain_len-len.result c.args.bytes.now) c.plain_len-len.ensures.run

pub returns-in_ok-push_str-in-Plain : goal.returns-in_ok-push_str-in-Plain
returns-in_ok-push_str-in-Plain c =
    let old = string_bytes c.args.self.now.text in
    let run = take c.plain_len-len.result c.args.bytes.now in (
      c.plain_len-len.ensures.within,
      run_at c.args.self.now.spot old (string_bytes c.push_str.new.self) run c.in-Plain.is c.plain_len-len.ensures.run
          (c.in_ok-push_str-in-Plain.ensures.bytes ∙ ap (λ l. old ++ l) c.from_utf8_unchecked-run.ensures),
    )
