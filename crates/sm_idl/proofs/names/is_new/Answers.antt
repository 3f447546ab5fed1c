use Rattle.std.proofs.Common.{◌++◌, ◌∷◌, ◌↔◌, [], true, sym, subst, IfOk, IsTrue}
use Rattle.std.specs.Prelude.{string_bytes}
use Rattle.std.proofs.lemmas.Map.Text.{btree_set_updates_text}
use Rattle.sm_idl.specs.Words.{IsNew}
use Rattle.sm_idl.specs.steps.Names.{Remembers}
use Rattle.sm_idl.proofs.NamesSeen.{name_put}
use Rattle.sm_idl.proofs.names.is_new.Goals.{in-Ok-insert, in-Err-insert}
use Rattle.sm_idl.proofs.names.is_new.Goals as goal

pub returns-after-insert : goal.returns-after-insert
returns-after-insert c = λ before h. elim c.match-insert.branch [
  | in-Ok-insert w ↦
      subst (λ z. IfOk z (λ new. (IsTrue new ↔ IsNew c.args.name.now before) × Remembers c.insert.new.self
      (before ++ c.args.name.now ∷ [])))
      (sym w.result-is)
      (name_put c.args.seen.now c.insert.new.self c.args.name.now (string_bytes c.in-Ok.text) before _ c.in-Ok.ensures.ok
      w.in-Ok-insert.ensures.added (btree_set_updates_text (string_bytes c.in-Ok.text) c.args.seen.now c.insert.new.self true
      w.in-Ok-insert.ensures.updates) h)
  | in-Err-insert w ↦
      subst (λ z. IfOk z (λ new. (IsTrue new ↔ IsNew c.args.name.now before) × Remembers c.insert.new.self
      (before ++ c.args.name.now ∷ [])))
      (sym w.result-is) tt
]
