use Rattle.std.proofs.Common.{Some, codes, refl}
use Rattle.std.specs.Prelude.{string_bytes}
use Rattle.sm_model.specs.RawView.{raw_view}
use Rattle.sm_idl.proofs.ReadDocs.{docs_put}
use Rattle.sm_idl.proofs.docs.docs_of.Goals as goal

pub returns-in-Ok-push : goal.returns-in-Ok-push
returns-in-Ok-push c = (
  Some (string_bytes c.in-Ok-Some.docs),
  rw c.in-Ok-Some.field-0-is at c.in-Ok-Some.ensures,
  docs_put
      (string_bytes c.in-Ok-Some.docs) (raw_view c.text_node.result) c.in-Ok.given c.new-traits.result.items c.push.new.self.items
      c.new-traits.ensures.items c.in-Ok-push.ensures.items (c.in-Ok.ensures (codes "documentation") refl) c.text_node.ensures,
)
