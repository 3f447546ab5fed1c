-- A structure of the code, and its fields.
use Rattle.std.proofs.Common.{◌≡◌, ℕ, List, [], ◌∷◌, refl, sym, ap, ◌∙◌}
use Rattle.sm_shapes.specs.Values.{Val, fields_of, structure_val}
use Rattle.sm_shapes.specs.ValueView.{value_step, entries_step, fields_step, items_step, val_of, fields_view}
use Rattle.sm_shapes.specs.declared.values.Fields.{Fields}
use Rattle.sm_shapes.specs.declared.values.Value.TheVariants.{Structure, rolls-Structure}
use Rattle.sm_shapes.specs.declared.values.Value.TheFolds.{fold-roll-Value}
use Rattle.sm_bind_read.specs.steps.Bodies.{fields_in, listed_fields}

pub fields_listed : (fs : List (ℕ × Val)) → listed_fields (fields_of fs) ≡ fs
fields_listed [] = refl
fields_listed (f ∷ fs) = ap (λ gs. f ∷ gs) (fields_listed fs)

structure_value : (v : Fields) → val_of (Structure v) ≡ structure_val (fields_of (fields_view v))
structure_value v = ap val_of (sym (rolls-Structure v))
    ∙ fold-roll-Value Val (List (List ℕ × Val)) (List (ℕ × Val)) (List Val) value_step entries_step fields_step items_step _

pub fields_told : (v : Fields) → fields_in (val_of (Structure v)) ≡ fields_view v
fields_told v = ap fields_in (structure_value v) ∙ fields_listed (fields_view v)
