-- What `http` of an operation is seen to say is what the rules say of it.
use Rattle.std.proofs.Common.{◌≡◌, ℕ, Bool, true, false, List, Option, Some, None, refl, sym, ap, ◌∙◌}
use Rattle.std.specs.Prelude.{◌&&◌, ◌||◌, cond, codes, is_some, not}
use Rattle.std.specs.FinMap as fin
use Rattle.std.proofs.lemmas.Option.{none-some}
use Rattle.sm_tree.specs.Node.{Node}
use Rattle.sm_model.specs.Graphs.{Entry, shape_entry, member_entry, ShapeEntry, GraphMaps}
use Rattle.sm_model.specs.PreludeShapes.{is_prelude_id}
use Rattle.sm_model.specs.Relations.{IsInGraph}
use Rattle.sm_model.specs.declared.kind.Kind.{Kind}
use Rattle.sm_model.specs.declared.kind.Kind.TheVariants.{Operation}
use Rattle.sm_model.proofs.Searching.{and_left, and_right}
use Rattle.sm_model.proofs.Worklist.{apart}
use Rattle.sm_compile.specs.Looked.{kind_in, kind_under}
use Rattle.sm_compile.specs.Sound.{trait_of}
use Rattle.sm_compile.specs.TraitIds.{http_id}
use Rattle.sm_compile.specs.TraitNodes.{field_of, is_number, is_object, is_text, where_there}
use Rattle.sm_rules.specs.TraitRows.{is_as_one, rows_of, that_reads}
use Rattle.sm_rules.specs.Words.{IsOperation, read_trait}
use Rattle.sm_http_traits.specs.Http.{http_seen, is_http_value, is_there_as, that_is_http}
use Rattle.sm_http_traits.specs.Carriers.{is_operation, is_own_operation}
use Rattle.sm_http_traits.proofs.OwnStructures.{not_so}

-- a field that must be there, and one that may be
pub needed : (test : Node → Bool) (o : Option Node) → (where_there test o && (not true || is_some o)) ≡ is_there_as test o
needed test None = refl
needed test (Some n) = and_true (test n)
  where
    and_true : (b : Bool) → (b && true) ≡ b
    and_true true = refl
    and_true false = refl

pub free : (test : Node → Bool) (o : Option Node) → ((where_there test o && (not false || is_some o)) && true) ≡ where_there test o
free test o = by (where_there test o)
  where
    by : (b : Bool) → ((b && true) && true) ≡ b
    by true = refl
    by false = refl

or_false : (b : Bool) → (b || false) ≡ b
or_false true = refl
or_false false = refl

-- the row of the trait
row_reads : (n : Node) → is_as_one (rows_of http_id) n ≡ is_http_value n
row_reads n =
    or_false _
    ∙ (λ i. is_object n && (needed is_text (field_of (codes "method") n) i && (needed is_text (field_of (codes "uri") n) i
    && free is_number (field_of (codes "code") n) i)))

reads : (o : Option Node) → that_reads http_id o ≡ that_is_http o
reads None = refl
reads (Some n) = ap (λ b. cond b (Some n) None) (row_reads n)

pub operation_kind : (k : Kind) → is_operation (Some k) ≡ true → k ≡ Operation
operation_kind Operation h = refl
operation_kind k h = absurd (apart h)

pub operation_in : (o : Option Entry) → is_operation (kind_in o) ≡ true
    → (s : ShapeEntry) × (o ≡ Some (shape_entry s)) × (s.kind ≡ Operation)
operation_in None h = absurd (apart h)
operation_in (Some (shape_entry s)) h = (s, refl, operation_kind s.kind h)
operation_in (Some (member_entry m)) h = absurd (apart h)

module _ (g : GraphMaps) (id : List ℕ) where
  pub own_operation : is_own_operation g id ≡ true → IsOperation g id
  own_operation h =
      let kind = and_left (is_operation (kind_under g id)) (not (is_prelude_id id)) h in
      let own = and_right (is_operation (kind_under g id)) (not (is_prelude_id id)) h in
      let s = operation_in (fin.get g.shapes id) kind in
      (s.0, (s.1, not_so (is_prelude_id id) own), s.2)

  pub is_own : IsOperation g id → is_own_operation g id ≡ true
  is_own own =
      ap (λ o. is_operation (kind_in o) && not (is_prelude_id id)) own.1.0
      ∙ ap (λ k. is_operation (Some k) && not (is_prelude_id id)) own.2
      ∙ ap not own.1.1

  pub operation_there : IsOperation g id → IsInGraph g id
  operation_there own = (shape_entry own.0, own.1.0)

  -- what is read of it, by any reader that finds nothing in nothing
  module _ {X : Type 0} (read : Option Node → Option X) (nothing : read None ≡ None) where
    pub seen_said : (x : X) → read (http_seen g id) ≡ Some x → IsOperation g id × (read (read_trait g id http_id) ≡ Some x)
    seen_said x h = by (is_own_operation g id) refl h
      where
        by : (b : Bool) → is_own_operation g id ≡ b → read (cond b (that_is_http (trait_of g id http_id)) None) ≡ Some x
            → IsOperation g id × (read (read_trait g id http_id) ≡ Some x)
        by true is h = (own_operation is, ap read (reads (trait_of g id http_id)) ∙ h)
        by false is h = absurd (none-some x (sym nothing ∙ h))

    pub said_seen : (x : X) → IsOperation g id → read (read_trait g id http_id) ≡ Some x → read (http_seen g id) ≡ Some x
    said_seen x own h =
        ap (λ b. read (cond b (that_is_http (trait_of g id http_id)) None)) (is_own own)
        ∙ ap read (sym (reads (trait_of g id http_id))) ∙ h
