-- Steps of the code that copies members and traits.
use Rattle.std.proofs.Common.{◌≡◌, ℕ, ◌+◌, ◌-◌, ◌^◌, min, true, List, [], ◌∷◌, ◌++◌, length, Option, Some, None}
use Rattle.std.proofs.Common.{refl, sym, ap, ◌∙◌, append_assoc, append-nil, arith}
use Rattle.std.specs.Global.{Vec}
use Rattle.std.specs.Prelude.{IsSomeAnd, is_some, if◌then◌else◌}
use Rattle.sm_bytes.specs.Lengths.{length_word}
use Rattle.sm_tree.specs.Node.{Node, text}
use Rattle.sm_tree.specs.Size.{node_size}
use Rattle.sm_model.specs.declared.kind.Kind.{Kind}
use Rattle.sm_merge.specs.Merged.{enum_value}
use Rattle.sm_model.specs.Graphs.{ShapeGiven}
use Rattle.sm_merge.specs.declared.parts.BareShape.{BareShape}
use Rattle.sm_merge.specs.declared.shape_parts.ShapePart.{ShapePart}
use Rattle.sm_merge.specs.declared.effective.ShapeTraits.{ShapeTraits}
use Rattle.sm_merge.specs.declared.firsts.NamedTarget.{NamedTarget}
use Rattle.sm_merge.specs.steps.Made.{lacks_value, made_shapes, pairs_size, parted_shape, parted_shapes, valued}
use Rattle.sm_merge.specs.steps.Placed.{bare_view}

-- what a search finds is there
pub found_some : {X : Type 0} (o : Option (List ℕ × X)) (v : Option X) (q : List ℕ) → IsSomeAnd o (λ e. (e.0 ≡ q) × (v ≡ Some e.1))
    → true ≡ is_some v
found_some None v q h = absurd h
found_some (Some e) v q h = sym (ap is_some h.1)

-- traits with the value of an enum's member
pub one_lacking : (kind : Kind) (name : List ℕ) (ps : List (List ℕ × Node)) → lacks_value kind ps ≡ true
    → ps ++ (enum_value, text name) ∷ [] ≡ valued kind name ps
one_lacking kind name ps h = sym (ap (λ b. if b then ps ++ (enum_value, text name) ∷ [] else ps) h)

size_pushed : (ps : List (List ℕ × Node)) (q : List ℕ × Node) → pairs_size (ps ++ q ∷ []) ≡ pairs_size ps + node_size q.1
size_pushed [] q = omega arith
size_pushed (p ∷ ps) q = let rest = size_pushed ps q in omega (arith, rest)

pub size_valued : (kind : Kind) (name : List ℕ) (ps : List (List ℕ × Node)) (n m r : ℕ) → lacks_value kind ps ≡ true
    → n ≡ length_word (pairs_size ps) → m ≡ min (n + length name) (2 ^ 64 - 1) → r ≡ min (m + 1) (2 ^ 64 - 1)
    → r ≡ length_word (pairs_size (valued kind name ps))
size_valued kind name ps n m r lacks given named counted =
    let more = size_pushed ps (enum_value, text name) in
    let all : r ≡ length_word (pairs_size (ps ++ (enum_value, text name) ∷ [])) = omega (arith, given, named, counted, more) in
    all ∙ ap (λ qs. length_word (pairs_size qs)) (one_lacking kind name ps lacks)

-- one more part
pub parts_more : (all rows : List BareShape) (r : BareShape) (whole made : List ShapeGiven) (s : ShapeGiven)
    (before after more : List ShapePart) (p : ShapePart) → after ≡ before ++ p ∷ [] → parted_shape (bare_view r) p ≡ s
    → ((later : List ShapePart) → parted_shapes (r ∷ rows) later ≡ s ∷ made → parted_shapes all (before ++ later) ≡ whole)
    → parted_shapes rows more ≡ made → parted_shapes all (after ++ more) ≡ whole
parts_more all rows r whole made s before after more p put same step rest =
    ap (λ ps. parted_shapes all (ps ++ more)) put ∙ ap (parted_shapes all) (append_assoc before (p ∷ []) more)
    ∙ step (p ∷ more) (λ i. same i ∷ rest i)

-- no more parts
pub no_more_lists : (rows : List BareShape) (mss : List (Vec NamedTarget)) (ts : List ShapeTraits) → length mss ≡ 0
    → parted_shapes rows [] ≡ made_shapes rows mss ts
no_more_lists [] mss ts h = refl
no_more_lists (r ∷ rows) [] ts h = refl
no_more_lists (r ∷ rows) (ms ∷ mss) ts h = absurd (omega (arith, h))

pub no_more_tables : (rows : List BareShape) (mss : List (Vec NamedTarget)) (ts : List ShapeTraits) → length ts ≡ 0
    → parted_shapes rows [] ≡ made_shapes rows mss ts
no_more_tables [] mss ts h = refl
no_more_tables (r ∷ rows) [] ts h = refl
no_more_tables (r ∷ rows) (ms ∷ mss) [] h = refl
no_more_tables (r ∷ rows) (ms ∷ mss) (t ∷ ts) h = absurd (omega (arith, h))

pub no_more_rows : (rows : List BareShape) (mss : List (Vec NamedTarget)) (ts : List ShapeTraits) → length rows ≡ 0
    → parted_shapes rows [] ≡ made_shapes rows mss ts
no_more_rows [] mss ts h = refl
no_more_rows (r ∷ rows) mss ts h = absurd (omega (arith, h))

pub parts_end : (all rest : List BareShape) (before : List ShapePart) (whole made : List ShapeGiven) → parted_shapes rest [] ≡ made
    → ((later : List ShapePart) → parted_shapes rest later ≡ made → parted_shapes all (before ++ later) ≡ whole)
    → parted_shapes all before ≡ whole
parts_end all rest before whole made none step = ap (parted_shapes all) (sym (append-nil before)) ∙ step [] none
