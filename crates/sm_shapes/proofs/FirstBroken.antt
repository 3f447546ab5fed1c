-- The first constraint broken of two lists; and what is judged of lists and maps.
use Rattle.std.proofs.Common.{◌≡◌, ℕ, ℤ, suc, Bool, false, ◌&&◌, ◌||◌, List, [], ◌∷◌, length, refl, sym, ap, ◌∙◌}
use Rattle.std.specs.Prelude.{Option, Some, None, is_some}
use Rattle.sm_shapes.specs.Values.{Val, vals_of, entries_of, each_val, keys_of}
use Rattle.sm_shapes.specs.Broken.{first_broken, unless, text_broken, is_at_least, is_at_most}
use Rattle.std.specs.List.{list_any}
use Rattle.std.specs.Str.{bytes_eq}
use Rattle.sm_shapes.specs.declared.kinds.ShapeKind.{ShapeKind}
use Rattle.sm_shapes.specs.declared.kinds.ShapeKind.TheVariants.{Enum}
use Rattle.sm_shapes.specs.declared.fault.FaultKind.{FaultKind}
use Rattle.sm_shapes.specs.declared.fault.FaultKind.TheVariants as fault

pub each_of : (vs : List Val) → length (each_val (vals_of vs)) ≡ length vs
each_of [] = refl
each_of (v ∷ vs) = ap (λ n. suc n) (each_of vs)

pub keys_of_entries : (es : List (List ℕ × Val)) → length (keys_of (entries_of es)) ≡ length es
keys_of_entries [] = refl
keys_of_entries (e ∷ es) = ap (λ n. suc n) (keys_of_entries es)

-- a text that is none of an enum's
pub enum_first : (kind : ShapeKind) (texts : List (List ℕ)) (u : List ℕ) (b : Bool) → kind ≡ Enum
    → b ≡ list_any (λ w. bytes_eq w u) texts → first_broken (unless b fault.Enum) ≡ first_broken (text_broken kind texts u)
enum_first kind texts u b e is =
    ap (λ x. first_broken (unless x fault.Enum)) is ∙ sym (ap (λ k. first_broken (text_broken k texts u)) e)

-- no length is broken where no bound is there
pub unbounded : (least most : Option ℤ) (z : ℤ) → (is_some least || is_some most) ≡ false
    → None ≡ first_broken (unless (is_at_least least z && is_at_most most z) fault.Length)
unbounded None None z h = refl
unbounded None (Some m) z h = absurd cc
unbounded (Some l) most z h = absurd cc
