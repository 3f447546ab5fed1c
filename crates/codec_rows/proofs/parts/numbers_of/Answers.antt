use Rattle.std.proofs.lemmas.List.Sorted.{IsNonDecreasingBy-from_sort}
use Rattle.codec_rows.proofs.parts.numbers_of.Goals as goal

pub returns : goal.returns
returns c = IsNonDecreasingBy-from_sort (λ number. number) c.sort_unstable.new.self.items c.sort_unstable.ensures.sorted
