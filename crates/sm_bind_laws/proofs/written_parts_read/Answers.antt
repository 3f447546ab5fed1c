use Rattle.sm_bind_laws.proofs.PartsRead.{parts_again}
use Rattle.sm_bind_laws.proofs.written_parts_read.Goals as goal

pub returns : goal.returns
returns c = parts_again (record {
  texts_pass = c.carried_texts_pass.ensures;
  labels = c.label_read.ensures;
  queries = c.query_read.ensures;
  query_maps = c.query_map_read.ensures;
  headers = c.header_read.ensures;
  prefixed = c.prefixed_read.ensures;
  blobs = c.raw_blob_read.ensures;
  texts = c.raw_text_read.ensures;
  statuses = c.status_read.ensures;
})
