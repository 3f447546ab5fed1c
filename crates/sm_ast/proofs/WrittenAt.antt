-- What is written for what stands at a number of a graph, from what its look-ups say of it.
use Rattle.std.proofs.Common.{◌≡◌, ℕ, suc, zero, true, false, cond, List, [], ◌∷◌, ◌++◌, drop, get_or, Some, None, refl, sym, ap, ◌∙◌}
use Rattle.std.proofs.Common.{subst, append_assoc, append-nil}
use Rattle.std.specs.Prelude.{IsSomeAnd, slice_get, if◌then◌else◌}
use Rattle.std.specs.FinMap as fin
use Rattle.sm_tree.specs.Node.{Node}
use Rattle.sm_model.specs.Graphs.{Entry, shape_entry, member_entry, ShapeMap, traits_in}
use Rattle.sm_model.specs.GraphView.{At, entries_of, ids, is_member_entry, maps_of, HasKind, HasMembers, HasBodyNode, Targets}
use Rattle.sm_model.specs.declared.graph.Graph.{Graph}
use Rattle.sm_model.specs.declared.kind.Kind.{Kind}
use Rattle.sm_model.proofs.GraphFacts.{Found, entry_under, id_at}
use Rattle.sm_model.specs.PreludeShapes.{is_prelude_id}
use Rattle.sm_ast.specs.Written.{WrittenPairs, field_there, member_object, member_there, shape_object, written_entry}
use Rattle.sm_ids.specs.TextParts.{member_name}
use Rattle.sm_ast.specs.Written.{written_member, written_members, written_shape, written_shapes}
use Rattle.sm_ast.specs.Written.{written_statement}
use Rattle.sm_ast.specs.PartsSaid.{pairs_said}
use Rattle.sm_ast.specs.steps.Writing.{IsWrittenShape}

-- the tree of a member, by its target and its traits
pub member_written : (o : Found) (target : List ℕ) (traits : WrittenPairs) (n : Node) → IsSomeAnd o (λ e. Targets target e.1)
    → IsSomeAnd o (λ e. fin.entries (traits_in e.1) ≡ traits) → n ≡ member_object target traits
    → IsSomeAnd o (λ e. written_member e.1 ≡ Some n)
member_written None target traits n h k is = h
member_written (Some e) target traits n h k is = by e.1 h k
  where
    by : (x : Entry) → Targets target x → fin.entries (traits_in x) ≡ traits → written_member x ≡ Some n
    by (shape_entry s) h k = absurd h
    by (member_entry m) h k =
        ap (λ t. Some (member_object t (fin.entries m.traits))) h ∙ ap (λ ts. Some (member_object target ts)) k ∙ ap Some (sym is)

-- a member that is put
pub member_put : (g : Graph) (k : ℕ) (id : List ℕ) (n : Node) → At g k (λ i e. id ≡ i) → At g k (λ i e. written_member e ≡ Some n)
    → member_there (maps_of g).shapes (get_or (ids g) k []) ≡ (member_name id, n) ∷ []
member_put g k id n same written = by (slice_get (entries_of g) k) refl same written
  where
    by : (o : Found) → slice_get (entries_of g) k ≡ o → IsSomeAnd o (λ e. id ≡ e.0) → IsSomeAnd o (λ e. written_member e.1 ≡ Some n)
        → member_there (maps_of g).shapes (get_or (ids g) k []) ≡ (member_name id, n) ∷ []
    by None there h w = absurd h
    by (Some e) there h w =
        ap (member_there (maps_of g).shapes) (id_at g k e.0 e.1 there ∙ sym h)
        ∙ ap (λ o. field_there (member_name id) (written_entry o)) (ap (fin.get (maps_of g).shapes) h ∙ entry_under g k e.0 e.1 there)
        ∙ ap (field_there (member_name id)) w

-- a number among members that is a shape's writes nothing
pub member_left_out : (g : Graph) (k : ℕ) → At g k (λ i e. is_member_entry e ≡ false)
    → member_there (maps_of g).shapes (get_or (ids g) k []) ≡ []
member_left_out g k other = by (slice_get (entries_of g) k) refl other
  where
    nothing : (x : Entry) → is_member_entry x ≡ false → written_member x ≡ None
    nothing (shape_entry s) h = refl
    nothing (member_entry m) h = absurd (subst (λ b. cond b (Unit {0}) ⊥) h tt)

    by : (o : Found) → slice_get (entries_of g) k ≡ o → IsSomeAnd o (λ e. is_member_entry e.1 ≡ false)
        → member_there (maps_of g).shapes (get_or (ids g) k []) ≡ []
    by None there h = absurd h
    by (Some e) there h =
        ap (member_there (maps_of g).shapes) (id_at g k e.0 e.1 there)
        ∙ ap (λ o. field_there (member_name e.0) (written_entry o)) (entry_under g k e.0 e.1 there)
        ∙ ap (field_there (member_name e.0)) (nothing e.1 h)

-- the tree of a shape, by what its look-ups say
pub shape_written : (shapes : ShapeMap) (o : Found) (kind : Kind) (members : List (List ℕ)) (body : Node) (traits : WrittenPairs) (n : Node)
    → IsSomeAnd o (λ e. HasKind kind e.1) → IsSomeAnd o (λ e. HasMembers members e.1) → IsSomeAnd o (λ e. HasBodyNode body e.1)
    → IsSomeAnd o (λ e. fin.entries (traits_in e.1) ≡ traits)
    → n ≡ shape_object kind (written_members shapes members) (pairs_said body) traits → IsSomeAnd o (λ e. IsWrittenShape shapes n e.1)
shape_written shapes None kind members body traits n a b c d is = a
shape_written shapes (Some e) kind members body traits n a b c d is = by e.1 a b c d
  where
    by : (x : Entry) → HasKind kind x → HasMembers members x → HasBodyNode body x → fin.entries (traits_in x) ≡ traits
        → IsWrittenShape shapes n x
    by (member_entry m) a b c d = a
    by (shape_entry s) a b c d =
        ap (λ k. shape_object k (written_members shapes s.members) (pairs_said s.properties) (fin.entries s.traits)) a
        ∙ ap (λ ms. shape_object kind (written_members shapes ms) (pairs_said s.properties) (fin.entries s.traits)) b
        ∙ ap (λ body. shape_object kind (written_members shapes members) (pairs_said body) (fin.entries s.traits)) c
        ∙ ap (λ ts. shape_object kind (written_members shapes members) (pairs_said body) ts) d ∙ sym is

-- what is put at a number, or isn't
abbrev pub Put : ShapeMap → Found → WrittenPairs → WrittenPairs → Type 0
Put shapes o now before = IsSomeAnd o (λ e. now ≡ before ++ field_there e.0 (written_statement shapes e.0 e.1))

pub member_skipped : (shapes : ShapeMap) (o : Found) (ps : WrittenPairs) → IsSomeAnd o (λ e. is_member_entry e.1 ≡ true)
    → Put shapes o ps ps
member_skipped shapes None ps h = h
member_skipped shapes (Some e) ps h = by e.1 h
  where
    by : (x : Entry) → is_member_entry x ≡ true → ps ≡ ps ++ field_there e.0 (written_statement shapes e.0 x)
    by (shape_entry s) k = absurd (subst (λ b. cond b ⊥ (Unit {0})) k tt)
    by (member_entry m) k = sym (append-nil ps)

pub prelude_skipped : (shapes : ShapeMap) (o : Found) (ps : WrittenPairs) (id : List ℕ) → IsSomeAnd o (λ e. id ≡ e.0)
    → is_prelude_id id ≡ true → Put shapes o ps ps
prelude_skipped shapes None ps id h known = h
prelude_skipped shapes (Some e) ps id h known = by e.1
  where
    by : (x : Entry) → ps ≡ ps ++ field_there e.0 (written_statement shapes e.0 x)
    by (shape_entry s) =
        sym (append-nil ps) ∙ ap (λ b. ps ++ field_there e.0 (if b then None else Some (written_shape shapes s)))
        (sym known ∙ ap is_prelude_id h)
    by (member_entry m) = sym (append-nil ps)

pub shape_put : (shapes : ShapeMap) (o : Found) (now before : WrittenPairs) (id : List ℕ) (n : Node) → IsSomeAnd o (λ e. id ≡ e.0)
    → is_prelude_id id ≡ false → IsSomeAnd o (λ e. IsWrittenShape shapes n e.1) → now ≡ before ++ (id, n) ∷ [] → Put shapes o now before
shape_put shapes None now before id n h own written is = h
shape_put shapes (Some e) now before id n h own written is = by e.1 written
  where
    by : (x : Entry) → IsWrittenShape shapes n x → now ≡ before ++ field_there e.0 (written_statement shapes e.0 x)
    by (shape_entry s) w =
        is ∙ ap (λ i. before ++ (i, n) ∷ []) h ∙ ap (λ m. before ++ (e.0, m) ∷ []) (sym w)
        ∙ ap (λ b. before ++ field_there e.0 (if b then None else Some (written_shape shapes s))) (sym own ∙ ap is_prelude_id h)
    by (member_entry m) w = absurd w

-- and then the numbers behind it
pub put_then : (shapes : ShapeMap) (es : List (List ℕ × Entry)) (k : ℕ) (now before : WrittenPairs) → Put shapes (slice_get es k) now before
    → now ++ written_shapes shapes (drop (suc k) es) ≡ before ++ written_shapes shapes (drop k es)
put_then shapes [] k now before h = absurd h
put_then shapes (e ∷ es) zero now before h =
    ap (λ ps. ps ++ written_shapes shapes es) h ∙ append_assoc before (field_there e.0 (written_statement shapes e.0 e.1))
    (written_shapes shapes es)
put_then shapes (e ∷ es) (suc k) now before h = put_then shapes es k now before h
