use Rattle.std.proofs.Common.{◌≡◌, ◌∙◌, Some, string_bytes, ap, rules}
use Rattle.sm_io.proofs.Look.{Entry, look, look_added, look_put, look_other_added, look_other_put, map_with}
use Rattle.sm_io.proofs.named.NamedFiles.put.Goals as goal

pub returns-in-Some-clause-put : goal.returns-in-Some-clause-put
returns-in-Some-clause-put c =
    let file = c.index_mut.result.now in
    let is : string_bytes file.0 ≡ c.args.name.now = ap (λ (f : Entry). string_bytes f.0) c.index_mut.ensures.value
    ∙ c.in-Some.ensures.2 file in
    map_with c.args.self.now.files.items _ c.args.name.now c.args.bytes.now
    (look_put c.args.self.now.files.items c.in-Some.place (file.0, c.in_ok-copy.copy) _ c.in-Some.ensures.0 c.in-Some.ensures.1 is
    ∙ ap Some (search rules))
    (λ other apart. look_other_put c.args.self.now.files.items c.in-Some.place (file.0, c.in_ok-copy.copy) other
    (λ e. apart (e ∙ is)) (λ old e. apart (e ∙ c.in-Some.ensures.2 old)))

pub returns-in_ok-push-in-None-clause-put : goal.returns-in_ok-push-in-None-clause-put
returns-in_ok-push-in-None-clause-put c =
    map_with c.args.self.now.files.items _ c.args.name.now c.args.bytes.now
    (ap (look c.args.name.now) c.in_ok-push-in-None.ensures.items
    ∙ look_added c.args.self.now.files.items (c.in_ok-from_str-in-None.field-0, c.in_ok-copy.copy) c.args.name.now
    c.in-None.ensures c.in_ok-from_str-in-None.ensures.ok
    ∙ ap Some (search rules))
    (λ other apart. ap (look other) c.in_ok-push-in-None.ensures.items
    ∙ look_other_added c.args.self.now.files.items (c.in_ok-from_str-in-None.field-0, c.in_ok-copy.copy) other
    (λ e. apart (e ∙ c.in_ok-from_str-in-None.ensures.ok)))
