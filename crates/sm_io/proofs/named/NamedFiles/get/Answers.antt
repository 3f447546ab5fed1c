use Rattle.std.proofs.Common.{◌∙◌, ap, sym, Some}
use Rattle.sm_io.proofs.Look.{look_map, look_none, look_found, Entry}
use Rattle.sm_io.proofs.named.NamedFiles.get.Goals as goal

pub returns-in-Some : goal.returns-in-Some
returns-in-Some c =
    let file = c.index.result.now in
    ap Some (c.as_slice.ensures.value ∙ ap (λ (f : Entry). f.1.items) c.index.ensures)
    ∙ sym (look_map _ _ ∙ look_found c.args.self.now.files.items c.in-Some.place file c.args.name.now
    c.in-Some.ensures.0 c.in-Some.ensures.1 (c.in-Some.ensures.2 file))

pub returns-in-None : goal.returns-in-None
returns-in-None c = sym (look_map _ _ ∙ look_none c.args.self.now.files.items c.args.name.now c.in-None.ensures)
