-- What holds of the events of all trees.
use Rattle.std.specs.Prelude.{◌≡◌, List, []}
use Rattle.sm_tree.specs.Node.{Node}
use Rattle.sm_tree.specs.Events.{NodeEvent, events}
use Rattle.sm_tree.specs.Streams.{Streams, numbered}

-- a stream begins with the events of one tree at most: where two trees, each with what follows, are the
-- same stream, they are the same tree, and the same follows
abbrev pub OneTreeAStream : Type 0
OneTreeAStream = (n m : Node) (es fs : List NodeEvent) → events n es ≡ events m fs → (n ≡ m) × (es ≡ fs)

-- a stream, whatever counts its openers have, is that of one tree
abbrev pub OneTreeOfStreams : Type 0
OneTreeOfStreams = (n m : Node) (es : List NodeEvent) → Streams n es [] → Streams m es [] → n ≡ m

-- each tree has a stream in which no opener has a count, and one in which all have
pub record HasStreams : Type 0 where
  pub without : (n : Node) → Streams n (events n []) []
  pub with_counts : (n : Node) → Streams n (numbered n []) []
