-- What an answer's case carries on.
use Rattle.std.specs.Prelude.{Result, Ok, Err, IfOk}

pub if_ok_so : {X E : Type 0} (P Q : X → Type 0) (r : Result X E) → ((x : X) → P x → Q x) → IfOk r P → IfOk r Q
if_ok_so P Q (Ok x) f h = f x h
if_ok_so P Q (Err e) f h = tt
