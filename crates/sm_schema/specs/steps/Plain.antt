-- Trees that JSON can spell, and whose numbers are whole and of 64 bits or written for stamps, as a test.
use Rattle.std.specs.Prelude.{ℕ, ℤ, Bool, true, false, ◌&&◌, not, List, Option, Some, None}
use Rattle.std.specs.Str.{bytes_eq, is_utf8}
use Rattle.sm_time.specs.declared.format.Format.TheVariants.{EpochSeconds}
use Rattle.sm_time.specs.StampTexts.{stamp_of}
use Rattle.sm_time.specs.Written.{written_stamp}
use Rattle.sm_tree.specs.Node.{Node, Nodes, Members, null, bool, int, number, text, bytes, tag, opaque, list, object, no_nodes, node}
use Rattle.sm_tree.specs.Node.{no_members, member}
use Rattle.sm_codec.specs.Convention.{fits_bits}
use Rattle.sm_codec.specs.Conventions.{is_whole_second}

-- the text is the one that is written for this stamp, which is of no whole second
abbrev pub is_written_stamp : Option ℤ → List ℕ → Bool
is_written_stamp None t = false
is_written_stamp (Some ms) t = not (is_whole_second ms) && bytes_eq t (written_stamp EpochSeconds ms)

abbrev mutual
  pub is_plain : Node → Bool
  is_plain null = true
  is_plain (bool b) = true
  is_plain (int z) = fits_bits 64 z
  is_plain (number t) = is_written_stamp (stamp_of EpochSeconds t) t
  is_plain (text t) = is_utf8 t
  is_plain (bytes t) = false
  is_plain (tag k n) = false
  is_plain (opaque b) = false
  is_plain (list ns) = are_plain ns
  is_plain (object ms) = are_plain_under ms

  pub are_plain : Nodes → Bool
  are_plain no_nodes = true
  are_plain (node n ns) = is_plain n && are_plain ns

  pub are_plain_under : Members → Bool
  are_plain_under no_members = true
  are_plain_under (member k n ms) = is_utf8 k && (is_plain n && are_plain_under ms)
