-- A structure or a union comes to the same at a member as by itself: neither has constraints.
use Rattle.std.proofs.Common.{◌≡◌, ℕ, List, refl, sym, ap, ◌∙◌}
use Rattle.std.specs.Prelude.{Option}
use Rattle.sm_time.specs.declared.format.Format.{Format}
use Rattle.sm_tree.specs.Node.{Node, null, bool, int, number, text, bytes, tag, opaque, list, object}
use Rattle.sm_shapes.specs.Fitting.{Test}
use Rattle.sm_shapes.specs.Places.{format_of, kind_of, member_place, root_place}
use Rattle.sm_shapes.specs.TableData.{TableData, target_at}
use Rattle.sm_shapes.specs.declared.kinds.ShapeKind.{ShapeKind}
use Rattle.sm_shapes.specs.declared.kinds.ShapeKind.TheVariants as kinds
use Rattle.sm_codec.specs.Codec.{Codec, codec_of, sort_at}
use Rattle.sm_codec.specs.Conventions.{json_convention}
use Rattle.sm_codec.specs.Readings.{Child, children, leaf_by, list_by, named_children, object_by, reading}
use Rattle.sm_codec.specs.Sorts.{Sort, a_list, a_map, a_structure, a_union, left_out, simple, sort_by}
use Rattle.sm_bind.specs.Documents.{is_tree_kind}
use Rattle.std.proofs.Common.{true}

abbrev IsObject : Sort → Type 0
IsObject (simple x) = ⊥
IsObject a_list = ⊥
IsObject a_map = ⊥
IsObject a_structure = Unit {0}
IsObject a_union = Unit {0}
IsObject left_out = ⊥

of_kind : (kind : ShapeKind) → is_tree_kind kind ≡ true → (format : Option Format) → IsObject (sort_by kind format)
of_kind kinds.Structure h format = tt
of_kind kinds.Union h format = tt
of_kind kinds.Blob h format = absurd cc
of_kind kinds.Boolean h format = absurd cc
of_kind kinds.Text h format = absurd cc
of_kind kinds.Enum h format = absurd cc
of_kind kinds.Byte h format = absurd cc
of_kind kinds.Short h format = absurd cc
of_kind kinds.Integer h format = absurd cc
of_kind kinds.IntEnum h format = absurd cc
of_kind kinds.Long h format = absurd cc
of_kind kinds.Timestamp h format = absurd cc
of_kind kinds.List h format = absurd cc
of_kind kinds.Map h format = absurd cc
of_kind kinds.LeftOut h format = absurd cc

-- no format counts there
one_sort : (kind : ShapeKind) → is_tree_kind kind ≡ true → (a b : Option Format) → sort_by kind a ≡ sort_by kind b
one_sort kinds.Structure h a b = refl
one_sort kinds.Union h a b = refl
one_sort kinds.Blob h a b = absurd cc
one_sort kinds.Boolean h a b = absurd cc
one_sort kinds.Text h a b = absurd cc
one_sort kinds.Enum h a b = absurd cc
one_sort kinds.Byte h a b = absurd cc
one_sort kinds.Short h a b = absurd cc
one_sort kinds.Integer h a b = absurd cc
one_sort kinds.IntEnum h a b = absurd cc
one_sort kinds.Long h a b = absurd cc
one_sort kinds.Timestamp h a b = absurd cc
one_sort kinds.List h a b = absurd cc
one_sort kinds.Map h a b = absurd cc
one_sort kinds.LeftOut h a b = absurd cc

module _ (t : TableData) (test : Test) (k : ℕ) where
  abbrev c : Codec
  c = codec_of t (json_convention true) test

  leaf_same : (s : Sort) → IsObject s → (n : Node) → leaf_by s c (member_place k) n ≡ leaf_by s c (root_place (target_at t k)) n
  leaf_same (simple x) h n = absurd h
  leaf_same a_list h n = absurd h
  leaf_same a_map h n = absurd h
  leaf_same a_structure h n = refl
  leaf_same a_union h n = refl
  leaf_same left_out h n = absurd h

  list_same : (s : Sort) → IsObject s → (n : Node) (cs : List Child)
      → list_by s c (member_place k) n cs ≡ list_by s c (root_place (target_at t k)) n cs
  list_same (simple x) h n cs = absurd h
  list_same a_list h n cs = absurd h
  list_same a_map h n cs = absurd h
  list_same a_structure h n cs = refl
  list_same a_union h n cs = refl
  list_same left_out h n cs = absurd h

  object_same : (s : Sort) → IsObject s → (n : Node) (ps : List (List ℕ × Child))
      → object_by s c (member_place k) n ps ≡ object_by s c (root_place (target_at t k)) n ps
  object_same (simple x) h n ps = absurd h
  object_same a_list h n ps = absurd h
  object_same a_map h n ps = absurd h
  object_same a_structure h n ps = refl
  object_same a_union h n ps = refl
  object_same left_out h n ps = absurd h

  module _ (tree : is_tree_kind (kind_of t (member_place k)) ≡ true) where
    abbrev s : Sort
    s = sort_at c (member_place k)

    is : IsObject s
    is = of_kind (kind_of t (member_place k)) tree (format_of t (member_place k))

    other : sort_at c (root_place (target_at t k)) ≡ s
    other = one_sort (kind_of t (member_place k)) tree (format_of t (root_place (target_at t k))) (format_of t (member_place k))

    leaf : (n : Node) → leaf_by s c (member_place k) n ≡ leaf_by (sort_at c (root_place (target_at t k))) c (root_place (target_at t k)) n
    leaf n = leaf_same s is n ∙ ap (λ z. leaf_by z c (root_place (target_at t k)) n) (sym other)

    pub tree_same : (n : Node) → reading c n (member_place k) ≡ reading c n (root_place (target_at t k))
    tree_same null = leaf null
    tree_same (bool b) = leaf (bool b)
    tree_same (int z) = leaf (int z)
    tree_same (number u) = leaf (number u)
    tree_same (text u) = leaf (text u)
    tree_same (bytes u) = leaf (bytes u)
    tree_same (tag x n) = leaf (tag x n)
    tree_same (opaque x) = leaf (opaque x)
    tree_same (list ns) =
        list_same s is (list ns) (children c ns)
        ∙ ap (λ z. list_by z c (root_place (target_at t k)) (list ns) (children c ns)) (sym other)
    tree_same (object ms) =
        object_same s is (object ms) (named_children c ms)
        ∙ ap (λ z. object_by z c (root_place (target_at t k)) (object ms) (named_children c ms)) (sym other)
