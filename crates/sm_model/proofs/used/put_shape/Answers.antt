use Rattle.std.proofs.Common.{cond, List, ℕ, Some, ap, ◌∙◌, bytes_eq, string_bytes}
use Rattle.std.specs.BTreeMap.{get_by_text}
use Rattle.std.proofs.lemmas.Map.Text.{btree_map_updates_text}
use Rattle.sm_model.specs.Used.{name_part}
use Rattle.sm_model.proofs.used.put_shape.Goals as goal

pub returns-in-Ok : goal.returns-in-Ok
returns-in-Ok c = λ q.
    btree_map_updates_text (string_bytes c.in_ok-name.name) c.args.shapes.now c.insert.new.self _ c.in-Ok.ensures.updates q
    ∙ ap (λ (t : List ℕ). cond (bytes_eq t q) (Some c.in_ok-shape.shape) (get_by_text c.args.shapes.now q))
    (c.in_ok-name.ensures.ok ∙ c.name_of.ensures)
    ∙ ap (λ (s : List ℕ). cond (bytes_eq (name_part c.args.id.now) q) (Some s) (get_by_text c.args.shapes.now q))
    (c.in_ok-shape.ensures.bytes ∙ c.without_member.ensures)
