use Rattle.std.specs.Char.{is_ascii_hexdigit}
use Rattle.sm_http.proofs.LinesSeen.{run_passes}
use Rattle.sm_http.proofs.size_line.text_size.Goals as goal

pub size_value-requires-clause-digits : goal.size_value-requires-clause-digits
size_value-requires-clause-digits c = run_passes is_ascii_hexdigit c.args.text.now c.run_len-digits.result c.run_len-digits.ensures.run
