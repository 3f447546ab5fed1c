-- What members target, by number.
use Rattle.std.proofs.Common.{◌≡◌, ℕ, Bool, true, false, List, Option, Some, None, refl, sym, ap, ◌∙◌, subst}
use Rattle.std.specs.FinMap as fin
use Rattle.std.proofs.lemmas.Option.{none-some, same_Some}
use Rattle.sm_model.specs.Graphs.{Entry, shape_entry, member_entry, GraphMaps}
use Rattle.sm_model.specs.GraphView.{IsShapeNumber, maps_of}
use Rattle.sm_model.specs.Reaching.{id_of_number}
use Rattle.sm_model.specs.declared.graph.Graph.{Graph}
use Rattle.sm_model.specs.declared.kind.Kind.{Kind}
use Rattle.sm_model.proofs.GraphFacts.{entry_under, id_at}
use Rattle.sm_model.proofs.LinkNumbers.{stands_at}
use Rattle.sm_compile.specs.Looked.{kind_in, kind_under, target_in}
use Rattle.sm_rules.specs.Bindings.{passes, target_passes}

-- what stands at a number
pub entry_at : (g : Graph) (k : ℕ) → IsShapeNumber g k → (e : Entry) × (fin.get (maps_of g).shapes (id_of_number g k) ≡ Some e)
entry_at g k small =
    let x = stands_at g k small in
    let same : x.0 ≡ id_of_number g k = sym (id_at g k x.0 x.1 x.2) in
    (x.1, subst (λ i. fin.get (maps_of g).shapes i ≡ Some x.1) same (entry_under g k x.0 x.1 x.2))

-- a test of its type
pub kind_passes : (test : Kind → Bool) (o : Option Entry) (kind : Kind) → Some kind ≡ kind_in o → passes test o ≡ test kind
kind_passes test None kind h = absurd (none-some kind (sym h))
kind_passes test (Some (shape_entry s)) kind h = ap test (same_Some s.kind kind (sym h))
kind_passes test (Some (member_entry m)) kind h = absurd (none-some kind (sym h))

pub member_fails : (test : Kind → Bool) (g : Graph) (k : ℕ) → IsShapeNumber g k → None ≡ kind_under (maps_of g) (id_of_number g k)
    → passes test (fin.get (maps_of g).shapes (id_of_number g k)) ≡ false
member_fails test g k small is = let x = entry_at g k small in ap (passes test) x.1 ∙ by x.0 (is ∙ ap kind_in x.1)
  where
    by : (e : Entry) → None ≡ kind_in (Some e) → passes test (Some e) ≡ false
    by (shape_entry s) none = absurd (none-some s.kind none)
    by (member_entry m) none = refl

-- what stands under the target of a member
pub target_tested : (test : Option Entry → Bool) (g : GraphMaps) (o : Option Entry) (id : List ℕ) → target_in o ≡ Some id
    → target_passes test g o ≡ test (fin.get g.shapes id)
target_tested test g None id h = absurd (none-some id h)
target_tested test g (Some (shape_entry s)) id h = absurd (none-some id h)
target_tested test g (Some (member_entry m)) id h = ap (λ t. test (fin.get g.shapes t)) (same_Some m.target id h)

-- where nothing stands
pub no_target : (test : Option Entry → Bool) → test None ≡ true → (g : GraphMaps) (o : Option Entry)
    → ((id : List ℕ) → target_in o ≡ Some id → fin.get g.shapes id ≡ None) → target_passes test g o ≡ true
no_target test free g None h = refl
no_target test free g (Some (shape_entry s)) h = refl
no_target test free g (Some (member_entry m)) h = ap test (h m.target refl) ∙ free
