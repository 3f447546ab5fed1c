-- A graph may be made of the shapes of the prelude.
use Rattle.std.proofs.Common.{◌≡◌, inl, inr, Bool, true, false, cond, ℕ, List, [], ◌∷◌, ◌++◌, Some, None}
use Rattle.std.proofs.Common.{pos, refl, sym, ap, subst, ◌∙◌, bytes_eq, rules}
use Rattle.std.proofs.lemmas.List.{append-nil}
use Rattle.std.proofs.lemmas.Slice.Eq.{bytes_eq-Decides}
use Rattle.std.specs.Prelude.{codes, ◌||◌}
use Rattle.std.specs.List.{list_any}
use Rattle.std.specs.Option.{is_some}
use Rattle.sm_ids.specs.Identifier.{IsIdentifier}
use Rattle.sm_ids.specs.IdText.{Id, IsIdText}
use Rattle.sm_tree.specs.Node.{Node, bool, int, no_members}
use Rattle.sm_tree.specs.Same.{IsNode}
use Rattle.sm_model.specs.Formed.{StandsAmong, DifferInNames, HaveForm}
use Rattle.sm_model.specs.Given.{AreGiven, IsGivenShape, AreGivenShapes, HaveNames, IsNodeMap, given_ids}
use Rattle.sm_model.specs.Kinds.{member_form}
use Rattle.sm_model.specs.Properties.{needed_fields}
use Rattle.sm_model.specs.References.{IsShapeId}
use Rattle.sm_model.specs.Graphs.{ShapeGiven}
use Rattle.sm_model.specs.PreludeShapes.{api_id, defaulted_shape, no_node_pairs, prelude_shapes, shape_of_prelude, simple_shape, unit_shape}
use Rattle.sm_model.specs.declared.kind.Kind.{Kind}
use Rattle.sm_model.specs.declared.kind.Kind.TheVariants.{Blob, Boolean, Text, Byte, Short, Integer, Long, Float, Double, BigInteger}
use Rattle.sm_model.specs.declared.kind.Kind.TheVariants.{BigDecimal, Timestamp, Document, Structure}
use Rattle.sm_model.proofs.MapFacts.{Each}

pub none_some : {X A : Type 0} (x : X) → None ≡ Some x → A
none_some x e = absurd (subst (λ o. cond (is_some o) ⊥ (Unit {0})) e tt)

pub clash : {A : Type 0} (b : Bool) → b ≡ true → b ≡ false → A
clash b is isnt = absurd (subst (λ c. cond c (Unit {0}) ⊥) (sym is ∙ isnt) tt)

pub api_shape_id : (name : List ℕ) → IsIdentifier name → IsShapeId (api_id name)
api_shape_id name h =
    let id : Id = record { namespace = codes "smithy.api"; name = name; member = None } in (
      id,
      record {
        is_id = record { namespace = refl; name = h; member = λ m never. none_some m never };
        spelled = ap (λ t. codes "smithy.api#" ++ t) (sym (append-nil name));
      },
      refl,
    )

pub api_text : (name : List ℕ) → IsIdentifier name → IsIdText (api_id name)
api_text name h = let id = api_shape_id name h in (id.0, id.1)

or_true : (a b : Bool) → b ≡ true → (a || b) ≡ true
or_true true b h = refl
or_true false b h = h

-- names differ by a test
pub stands_by_test : (k : List ℕ) (ks : List (List ℕ)) → StandsAmong k ks → list_any (bytes_eq k) ks ≡ true
stands_by_test k [] among = absurd among
stands_by_test k (j ∷ js) (inl same) = ap (λ b. b || list_any (bytes_eq k) js) ((bytes_eq-Decides k j).1 same)
stands_by_test k (j ∷ js) (inr among) = or_true (bytes_eq k j) (list_any (bytes_eq k) js) (stands_by_test k js among)

abbrev names_differ : List (List ℕ) → Bool
names_differ [] = true
names_differ (k ∷ ks) = cond (list_any (bytes_eq k) ks) false (names_differ ks)

first_differs : (b c : Bool) → cond b false c ≡ true → (b ≡ false) × (c ≡ true)
first_differs true c h = clash false h refl
first_differs false c h = (refl, h)

pub differ_by_test : (ks : List (List ℕ)) → names_differ ks ≡ true → DifferInNames ks
differ_by_test [] h = tt
differ_by_test (k ∷ ks) h =
    let parts = first_differs (list_any (bytes_eq k) ks) (names_differ ks) h in
    (λ among. clash (list_any (bytes_eq k) ks) (stands_by_test k ks among) parts.0, differ_by_test ks parts.1)

-- a shape of the prelude: one that a graph may be made from, without members, and with traits under ids
abbrev pub AreUnderIds : List (List ℕ × Node) → Type 0
AreUnderIds ps = Each (λ k n. IsIdText k) ps

pub record IsOfPrelude (s : ShapeGiven) : Type 0 where
  pub given : IsGivenShape s
  pub bare : s.members ≡ []
  pub under : AreUnderIds s.traits

abbrev pub AreOfPrelude : List ShapeGiven → Type 0
AreOfPrelude [] = Unit {0}
AreOfPrelude (s ∷ ss) = IsOfPrelude s × AreOfPrelude ss

of_prelude : (name : List ℕ) (kind : Kind) (traits : List (List ℕ × Node)) → IsIdentifier name → HaveForm (member_form kind) []
    → HaveNames (needed_fields kind) no_members → IsNodeMap traits → AreUnderIds traits → IsOfPrelude (shape_of_prelude name kind traits)
of_prelude name kind traits named form needed map under = record {
  given = record {
    id = api_shape_id name named;
    names = form;
    members = tt;
    body = record { pairs = no_members; is_object = refl; is_node = (tt, tt); fields = tt; needed = needed };
    traits = map;
  };
  bare = refl;
  under = under;
}

zero_node : IsNode (int (pos 0))
zero_node = (search rules, tt)

no_traits : IsNodeMap []
no_traits = record { differ = tt; nodes = tt }

one_trait : (name : List ℕ) (n : Node) → IsNode n → IsNodeMap ((name, n) ∷ [])
one_trait name n h = record { differ = (λ never. never, tt); nodes = (h, tt) }

simple : (name : List ℕ) (kind : Kind) → IsIdentifier name → HaveForm (member_form kind) [] → HaveNames (needed_fields kind) no_members
    → IsOfPrelude (simple_shape name kind)
simple name kind named form needed = of_prelude name kind [] named form needed no_traits tt

defaulted : (name : List ℕ) (kind : Kind) (value : Node) → IsIdentifier name → HaveForm (member_form kind) []
    → HaveNames (needed_fields kind) no_members → IsNode value → IsOfPrelude (defaulted_shape name kind value)
defaulted name kind value named form needed h =
    of_prelude name kind ((api_id (codes "default"), value) ∷ []) named form needed (one_trait (api_id (codes "default")) value h)
    (api_text (codes "default") refl, tt)

the_unit : IsOfPrelude unit_shape
the_unit =
    of_prelude (codes "Unit") Structure ((api_id (codes "unitType"), no_node_pairs) ∷ []) refl tt tt
    (one_trait (api_id (codes "unitType")) no_node_pairs (tt, tt)) (api_text (codes "unitType") refl, tt)

pub shapes_are : AreOfPrelude prelude_shapes
shapes_are = (
  simple (codes "Blob") Blob refl refl tt,
  (
    simple (codes "Boolean") Boolean refl refl tt,
    (
      simple (codes "String") Text refl refl tt,
      (
        simple (codes "Timestamp") Timestamp refl refl tt,
        (
          simple (codes "Document") Document refl refl tt,
          (
            simple (codes "Byte") Byte refl refl tt,
            (
              simple (codes "Short") Short refl refl tt,
              (
                simple (codes "Integer") Integer refl refl tt,
                (
                  simple (codes "Long") Long refl refl tt,
                  (
                    simple (codes "BigInteger") BigInteger refl refl tt,
                    (
                      simple (codes "Float") Float refl refl tt,
                      (
                        simple (codes "Double") Double refl refl tt,
                        (
                          simple (codes "BigDecimal") BigDecimal refl refl tt,
                          (
                            defaulted (codes "PrimitiveBoolean") Boolean (bool false) refl refl tt (tt, tt),
                            (
                              defaulted (codes "PrimitiveByte") Byte (int (pos 0)) refl refl tt zero_node,
                              (
                                defaulted (codes "PrimitiveShort") Short (int (pos 0)) refl refl tt zero_node,
                                (
                                  defaulted (codes "PrimitiveInteger") Integer (int (pos 0)) refl refl tt zero_node,
                                  (
                                    defaulted (codes "PrimitiveLong") Long (int (pos 0)) refl refl tt zero_node,
                                    (
                                      defaulted (codes "PrimitiveFloat") Float (int (pos 0)) refl refl tt zero_node,
                                      (
                                        defaulted (codes "PrimitiveDouble") Double (int (pos 0)) refl refl tt zero_node,
                                        (
                                          the_unit,
                                          tt,
                                        ),
                                      ),
                                    ),
                                  ),
                                ),
                              ),
                            ),
                          ),
                        ),
                      ),
                    ),
                  ),
                ),
              ),
            ),
          ),
        ),
      ),
    ),
  ),
)

each_given : (ss : List ShapeGiven) → AreOfPrelude ss → AreGivenShapes ss
each_given [] h = tt
each_given (s ∷ ss) h = (h.0.given, each_given ss h.1)

pub prelude_given : AreGiven prelude_shapes []
prelude_given = record {
  each = each_given prelude_shapes shapes_are;
  differ = differ_by_test (given_ids prelude_shapes) refl;
  few = search rules;
  metadata_is = no_traits;
}
