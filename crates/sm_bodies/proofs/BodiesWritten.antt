-- Of a value whose leaves are carried: a writer takes the events of its tree, and writes the tree's text or item.
use Rattle.sm_codec.proofs.WrittenForms.{written_is_json, written_is_cbor}
use Rattle.sm_codec.specs.Written.{written}
use Rattle.sm_bodies.specs.EncodedTexts.{EncodesJson, EncodesCbor}
use Rattle.sm_bodies.proofs.Handed.{text_taken, text_written, item_taken, item_is}

pub encodes_json : EncodesJson
encodes_json t l test p v shaped writes inside fits carried =
    let n = written t l p v in
    let is = written_is_json t l test p v shaped writes inside fits carried in
    (text_taken n is, text_written n is)

pub encodes_cbor : EncodesCbor
encodes_cbor t l test p v shaped writes inside fits carried =
    let n = written t l p v in
    let is = written_is_cbor t l test p v shaped writes inside fits carried in
    (item_taken n is, item_is n)
