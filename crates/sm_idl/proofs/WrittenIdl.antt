-- What is written for what stands at a number of a graph, from what its look-ups say of it.
use Rattle.std.proofs.Common.{◌≡◌, ℕ, suc, zero, Bool, true, false, cond, List, [], ◌∷◌, ◌++◌, drop, get_or, length, Some, None}
use Rattle.std.proofs.Common.{refl, sym, ap, ◌∙◌, subst, append_assoc, append-nil}
use Rattle.std.specs.Prelude.{IsSomeAnd, slice_get, if◌then◌else◌, ◌==◌}
use Rattle.std.specs.FinMap as fin
use Rattle.sm_bytes.specs.Ascii.{line_feed}
use Rattle.sm_json.specs.Written.{written}
use Rattle.sm_tree.specs.Node.{Node, object, members_of}
use Rattle.sm_tree.specs.Parts.{pairs_in}
use Rattle.sm_tree.specs.View.{members_view}
use Rattle.sm_tree.specs.declared.tree.Tree.{Tree}
use Rattle.sm_model.specs.Graphs.{Entry, shape_entry, member_entry, ShapeMap, traits_in}
use Rattle.sm_model.specs.GraphView.{At, entries_of, ids, is_member_entry, IsMemberAt, IsShapeAt, maps_of}
use Rattle.sm_model.specs.GraphView.{HasKind, HasMembers, HasBodyNode, Targets}
use Rattle.sm_model.specs.declared.graph.Graph.{Graph}
use Rattle.sm_model.specs.declared.kind.Kind.{Kind}
use Rattle.sm_model.proofs.GraphFacts.{Found, entry_under, id_at, member_found, shape_found}
use Rattle.sm_idl.specs.Written.{NodePairs, is_written, member_text, member_there}
use Rattle.sm_ids.specs.TextParts.{local_part, member_name}
use Rattle.sm_idl.specs.Written.{shape_lines, shape_text, stated_text, trait_lines, written_entry, written_member}
use Rattle.sm_idl.specs.Written.{written_pairs, written_shape}
use Rattle.sm_idl.specs.steps.Writing.{IsShapeText, member_at}

-- what the look-ups of a number say, once tests have answered
pub told_at : (g : Graph) (k : ℕ) (b c : Bool) → At g k (λ id e. is_member_entry e ≡ b) → b ≡ c → At g k (λ id e. is_member_entry e ≡ c)
told_at g k b c told is = subst (λ x. At g k (λ id e. is_member_entry e ≡ x)) is told

pub member_there_at : (g : Graph) (k : ℕ) (b : Bool) → At g k (λ id e. is_member_entry e ≡ b) → b ≡ true → IsMemberAt g k
member_there_at g k b told is = member_found (slice_get (entries_of g) k) (told_at g k b true told is)

pub shape_there_at : (g : Graph) (k : ℕ) (b : Bool) → At g k (λ id e. is_member_entry e ≡ b) → b ≡ false → IsShapeAt g k
shape_there_at g k b told is = shape_found (slice_get (entries_of g) k) (told_at g k b false told is)

pub id_there : (g : Graph) (k : ℕ) (t r : List ℕ) → t ≡ r → At g k (λ id e. r ≡ id) → At g k (λ id e. t ≡ id)
id_there g k t r same = subst (λ x. At g k (λ id e. x ≡ id)) (sym same)

-- a member, by its id, its target and its traits
pub member_is : (g : Graph) (k : ℕ) (targets : Bool) (id target : List ℕ) (traits : NodePairs) → At g k (λ i e. id ≡ i)
    → At g k (λ i e. Targets target e) → At g k (λ i e. fin.entries (traits_in e) ≡ traits)
    → member_text targets (member_name id) target traits ≡ member_at targets (maps_of g).shapes (get_or (ids g) k [])
member_is g k targets id target traits same aims carries = by (slice_get (entries_of g) k) refl same aims carries
  where
    written : (x : Entry) → Targets target x → fin.entries (traits_in x) ≡ traits
        → written_member targets id x ≡ member_text targets (member_name id) target traits
    written (shape_entry s) h c = absurd h
    written (member_entry m) h c =
        ap (λ t. member_text targets (member_name id) t (fin.entries m.traits)) h ∙ ap (member_text targets (member_name id) target) c

    by : (o : Found) → slice_get (entries_of g) k ≡ o → IsSomeAnd o (λ e. id ≡ e.0) → IsSomeAnd o (λ e. Targets target e.1)
        → IsSomeAnd o (λ e. fin.entries (traits_in e.1) ≡ traits)
        → member_text targets (member_name id) target traits ≡ member_at targets (maps_of g).shapes (get_or (ids g) k [])
    by None there h a c = absurd h
    by (Some e) there h a c =
        sym (ap (member_at targets (maps_of g).shapes) (id_at g k e.0 e.1 there ∙ sym h)
        ∙ ap (member_there targets id) (ap (fin.get (maps_of g).shapes) h ∙ entry_under g k e.0 e.1 there)
        ∙ written e.1 a c)

-- a number among members that is a shape's writes nothing
pub no_member_is : (g : Graph) (k : ℕ) (targets : Bool) → At g k (λ i e. is_member_entry e ≡ false)
    → member_at targets (maps_of g).shapes (get_or (ids g) k []) ≡ []
no_member_is g k targets other = by (slice_get (entries_of g) k) refl other
  where
    nothing : (id : List ℕ) (x : Entry) → is_member_entry x ≡ false → written_member targets id x ≡ []
    nothing id (shape_entry s) h = refl
    nothing id (member_entry m) h = absurd (subst (λ b. cond b (Unit {0}) ⊥) h tt)

    by : (o : Found) → slice_get (entries_of g) k ≡ o → IsSomeAnd o (λ e. is_member_entry e.1 ≡ false)
        → member_at targets (maps_of g).shapes (get_or (ids g) k []) ≡ []
    by None there h = absurd h
    by (Some e) there h =
        ap (member_at targets (maps_of g).shapes) (id_at g k e.0 e.1 there)
        ∙ ap (member_there targets e.0) (entry_under g k e.0 e.1 there) ∙ nothing e.0 e.1 h

-- a shape, by what its look-ups say
pub shape_is : (shapes : ShapeMap) (o : Found) (name : List ℕ) (kind : Kind) (members : List (List ℕ)) (body : Node) (traits : NodePairs)
    → (before between now : List ℕ) → IsSomeAnd o (λ e. HasKind kind e.1) → IsSomeAnd o (λ e. HasMembers members e.1)
    → IsSomeAnd o (λ e. HasBodyNode body e.1) → IsSomeAnd o (λ e. fin.entries (traits_in e.1) ≡ traits)
    → between ≡ before ++ trait_lines [] traits → now ≡ between ++ stated_text shapes name kind members body
    → IsSomeAnd o (λ e. IsShapeText shapes name before now e.1)
shape_is shapes None name kind members body traits before between now a b c d first is = a
shape_is shapes (Some e) name kind members body traits before between now a b c d first is = by e.1 a b c d
  where
    joined : now ≡ before ++ shape_text shapes name kind members body traits
    joined =
        is ∙ ap (λ xs. xs ++ stated_text shapes name kind members body) first
        ∙ append_assoc before (trait_lines [] traits) (stated_text shapes name kind members body)

    by : (x : Entry) → HasKind kind x → HasMembers members x → HasBodyNode body x → fin.entries (traits_in x) ≡ traits
        → IsShapeText shapes name before now x
    by (member_entry m) a b c d = a
    by (shape_entry s) a b c d =
        joined ∙ ap (λ xs. before ++ xs)
        (sym (ap (λ k. shape_text shapes name k s.members s.properties (fin.entries s.traits)) a
        ∙ ap (λ ms. shape_text shapes name kind ms s.properties (fin.entries s.traits)) b
        ∙ ap (λ n. shape_text shapes name kind members n (fin.entries s.traits)) c
        ∙ ap (shape_text shapes name kind members body) d))

-- what is put at a number, or isn't
abbrev pub Put : ShapeMap → List ℕ → Found → List ℕ → List ℕ → Type 0
Put shapes namespace o now before = IsSomeAnd o (λ e. now ≡ before ++ written_entry shapes namespace e.0 e.1)

pub member_skipped : (shapes : ShapeMap) (namespace : List ℕ) (o : Found) (text : List ℕ) → IsSomeAnd o (λ e. is_member_entry e.1 ≡ true)
    → Put shapes namespace o text text
member_skipped shapes namespace None text h = h
member_skipped shapes namespace (Some e) text h = by e.1 h
  where
    by : (x : Entry) → is_member_entry x ≡ true → text ≡ text ++ written_entry shapes namespace e.0 x
    by (shape_entry s) k = absurd (subst (λ b. cond b ⊥ (Unit {0})) k tt)
    by (member_entry m) k = sym (append-nil text)

pub other_skipped : (shapes : ShapeMap) (namespace : List ℕ) (o : Found) (text id : List ℕ) → IsSomeAnd o (λ e. id ≡ e.0)
    → is_written namespace id ≡ false → Put shapes namespace o text text
other_skipped shapes namespace None text id h other = h
other_skipped shapes namespace (Some e) text id h other = by e.1
  where
    by : (x : Entry) → text ≡ text ++ written_entry shapes namespace e.0 x
    by (shape_entry s) =
        sym (append-nil text) ∙ ap (λ b. text ++ (if b then line_feed ∷ written_shape shapes e.0 s else []))
        (sym other ∙ ap (is_written namespace) h)
    by (member_entry m) = sym (append-nil text)

pub shape_put : (shapes : ShapeMap) (namespace : List ℕ) (o : Found) (before now id : List ℕ) → IsSomeAnd o (λ e. id ≡ e.0)
    → is_written namespace id ≡ true → IsSomeAnd o (λ e. IsShapeText shapes (local_part id) (before ++ line_feed ∷ []) now e.1)
    → Put shapes namespace o now before
shape_put shapes namespace None before now id h own is = h
shape_put shapes namespace (Some e) before now id h own is = by e.1 is
  where
    by : (x : Entry) → IsShapeText shapes (local_part id) (before ++ line_feed ∷ []) now x
        → now ≡ before ++ written_entry shapes namespace e.0 x
    by (shape_entry s) w =
        w ∙ append_assoc before (line_feed ∷ []) (written_shape shapes id s)
        ∙ ap (λ i. before ++ line_feed ∷ written_shape shapes i s) h
        ∙ ap (λ b. before ++ (if b then line_feed ∷ written_shape shapes e.0 s else [])) (sym own ∙ ap (is_written namespace) h)
    by (member_entry m) w = absurd w

-- and then the numbers behind it
pub put_then : (shapes : ShapeMap) (namespace : List ℕ) (es : List (List ℕ × Entry)) (k : ℕ) (now before : List ℕ)
    → Put shapes namespace (slice_get es k) now before
    → now ++ shape_lines shapes namespace (drop (suc k) es) ≡ before ++ shape_lines shapes namespace (drop k es)
put_then shapes namespace [] k now before h = absurd h
put_then shapes namespace (e ∷ es) zero now before h =
    ap (λ xs. xs ++ shape_lines shapes namespace es) h
    ∙ append_assoc before (written_entry shapes namespace e.0 e.1) (shape_lines shapes namespace es)
put_then shapes namespace (e ∷ es) (suc k) now before h = put_then shapes namespace es k now before h

-- an object that has pairs
pub pairs_there : (n : Node) (ps : List (List ℕ × Tree)) → n ≡ object (members_of (members_view ps)) → (length ps == 0) ≡ false
    → written_pairs (pairs_in n) ≡ Some (written n)
pairs_there n [] is some = absurd (subst (λ b. cond b (Unit {0}) ⊥) some tt)
pairs_there n (p ∷ ps) is some = ap (λ m. written_pairs (pairs_in m)) is ∙ ap (λ m. Some (written m)) (sym is)

-- the whole text, part by part
pub parts_put : (before version metadata word namespace end shapes one two three four : List ℕ) → one ≡ before ++ version
    → two ≡ one ++ metadata → three ≡ two ++ ((word ++ namespace) ++ end) → four ≡ three ++ shapes
    → four ≡ before ++ (((((version ++ metadata) ++ word) ++ namespace) ++ end) ++ shapes)
parts_put before version metadata word namespace end shapes one two three four a b c d =
    let head = version ++ metadata in
    let line = (word ++ namespace) ++ end in
    let turned : head ++ line ≡ ((head ++ word) ++ namespace) ++ end =
    sym (append_assoc head (word ++ namespace) end) ∙ ap (λ xs. xs ++ end) (sym (append_assoc head word namespace)) in
    d ∙ ap (λ xs. xs ++ shapes) (c ∙ ap (λ xs. xs ++ line) (b ∙ ap (λ xs. xs ++ metadata) a ∙ append_assoc before version metadata)
    ∙ append_assoc before head line ∙ ap (λ xs. before ++ xs) turned) ∙ append_assoc before (((head ++ word) ++ namespace) ++ end) shapes
