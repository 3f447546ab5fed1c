-- Errors of an operation one after the other, and the first of which bindings can't carry a member.
use Rattle.std.proofs.Common.{◌≡◌, ℕ, ◌<◌, List, ◌∷◌, length, get_or, ap, sym}
use Rattle.std.specs.Prelude.{None, Some}
use Rattle.std.specs.List.{Contains}
use Rattle.std.proofs.lemmas.List.{get_or_default}
use Rattle.sm_rules.specs.Bindings.{an_error}
use Rattle.sm_messages.specs.service.declared.error.ErrorShape.{ErrorShape}
use Rattle.sm_shapes.specs.TableData.{TableData}
use Rattle.sm_messages.specs.service.ServiceData.{OperationData}
use Rattle.sm_messages.specs.Goals.{no_error, no_operation}
use Rattle.sm_bind_write.specs.Restrictions.{error_root, path_below, path_or, refused_in_errors, refused_on}

pub error_there : (es : List ErrorShape) (k : ℕ) → k < length es → Contains es (get_or es k no_error)
error_there es k lt = (k, lt, get_or_default es k (get_or es k no_error) no_error lt)

pub found_first : (t : TableData) (e : ErrorShape) (es : List ErrorShape) (k : ℕ) → Some k ≡ refused_on t an_error e.shape
    → Some (path_below (error_root e) t k) ≡ refused_in_errors t (e ∷ es)
found_first t e es k h = ap (λ o. path_or (error_root e) t o (refused_in_errors t es)) h

pub found_later : (t : TableData) (e : ErrorShape) (es : List ErrorShape) → None ≡ refused_on t an_error e.shape
    → refused_in_errors t (e ∷ es) ≡ refused_in_errors t es
found_later t e es h = ap (λ o. path_or (error_root e) t o (refused_in_errors t es)) (sym h)

pub operation_there : (os : List OperationData) (k : ℕ) → k < length os → Contains os (get_or os k no_operation)
operation_there os k lt = (k, lt, get_or_default os k (get_or os k no_operation) no_operation lt)
