-- What follows of a result where it is there.
use Rattle.std.proofs.Common.{◌≡◌, ◌<◌, ◌==◌, ℕ, zero, suc, Bool, false, List, [], ◌∷◌, length, codes, ap, sym, ◌∙◌, arith, IfOk, OnOk}
use Rattle.std.specs.Prelude.{Result, Ok, Err}
use Rattle.std.proofs.lemmas.Bool.{eqb-false}
use Rattle.sm_tree.specs.Node.{Node, list, no_nodes, no_members, member}
use Rattle.sm_tree.specs.View.{nodes_view}
use Rattle.sm_tree.specs.declared.tree.Tree.{Tree}
use Rattle.sm_schema.specs.Described.{with_required}
use Rattle.sm_schema.specs.steps.Joined.{entries_joined}

pub on_ok : {A B P Q : Type 0} (r : Result A B) → (P → Q) → OnOk r P → OnOk r Q
on_ok (Ok x) f h = f h
on_ok (Err e) f h = h

pub if_ok : {A B : Type 0} {P Q : A → Type 0} (r : Result A B) → ((x : A) → P x → Q x) → IfOk r P → IfOk r Q
if_ok (Ok x) f h = f x h
if_ok (Err e) f h = h

pub not_empty : (many n : ℕ) (b : Bool) → b ≡ (many == 0) → b ≡ false → many ≡ n → 0 < n
not_empty many zero b e f g = absurd (eqb-false many 0 (sym e ∙ f) g)
not_empty many (suc n) b e f g = omega arith

pub required_put : (ts : List Tree) (n : Node) → 0 < length ts → n ≡ list (entries_joined (nodes_view ts) no_nodes)
    → member (codes "required") n no_members ≡ with_required (entries_joined (nodes_view ts) no_nodes)
required_put [] n some e = absurd (omega (arith, some))
required_put (t ∷ ts) n some e = ap (λ x. member (codes "required") x no_members) e
