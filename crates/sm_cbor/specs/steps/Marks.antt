-- The two forms of keys over which the reader's laws are stated at once: texts, and texts or a mark.
use Rattle.sm_cbor.specs.CborItem.{KeyForm, TextString}
use Rattle.sm_cbor.specs.Refusals.{MarkedKey}

pub data Keys : Type 0 where
  plain marked : Keys

abbrev pub key_of : Keys → KeyForm
key_of plain = TextString
key_of marked = MarkedKey
