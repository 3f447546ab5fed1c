-- What is read of a text is formed as merging asks.
use Rattle.std.proofs.Common.{ℕ, List, Result, Ok, Err, Vec, subst}
use Rattle.std.specs.Prelude.{IfOk, IsUtf8}
use Rattle.std.specs.declared.alloc.Global.{Global}
use Rattle.sm_model.specs.Formed.{AreFormed}
use Rattle.sm_model.specs.SaidView.{statements_view}
use Rattle.sm_model.specs.declared.statement.Statement.{Statement}
use Rattle.sm_idl.specs.Answers.{ReadsIdl}
use Rattle.sm_idl.specs.declared.refusal.IdlRefusal.{IdlRefusal}
use Rattle.sm_idl.proofs.YieldFiles.{formed_statements}

pub read_formed : (bytes : List ℕ) (result : Result (Vec Statement Global) IdlRefusal) → IsUtf8 bytes → ReadsIdl bytes result
    → IfOk result (λ ss. AreFormed (statements_view ss.items))
read_formed bytes (Ok ss) u (f, said, version, idl) = subst AreFormed said (formed_statements bytes f u idl)
read_formed bytes (Err e) u h = tt
