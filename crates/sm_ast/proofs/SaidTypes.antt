-- What texts of a type, of a version and of a shape's id are.
use Rattle.std.proofs.Common.{◌≡◌, ℕ, inl, inr, ◌⊎◌, ◌||◌, Bool, true, false, List, [], ◌∷◌, ◌++◌, Option, Some, None, refl, sym, ap}
use Rattle.std.proofs.Common.{subst, ◌∙◌, if◌then◌else◌, bytes_eq, codes}
use Rattle.std.specs.List.{list_any}
use Rattle.std.proofs.lemmas.List.Folds.{list_any-append}
use Rattle.sm_ids.specs.IdText.{Id, IdText, member_text, printed}
use Rattle.sm_tree.specs.Node.{Node, text}
use Rattle.sm_model.specs.Kinds.{kind_name}
use Rattle.sm_model.specs.References.{IsShapeId}
use Rattle.sm_model.specs.declared.kind.Kind.{Kind}
use Rattle.sm_ast.specs.declared.layout.ShapeType.{ShapeType}
use Rattle.sm_ast.specs.declared.layout.ShapeType.TheVariants.{Defined, Applied}
use Rattle.sm_ast.specs.Ids.{is_id, has_member}
use Rattle.sm_bytes.specs.Ascii.{dollar}
use Rattle.sm_ids.specs.TextParts.{is_byte}
use Rattle.sm_ast.specs.Layout.{type_named, kind_among, all_kinds}
use Rattle.sm_tree.specs.Parts.{text_in}
use Rattle.sm_ast.specs.Faults.{is_this, is_version, type_of_text, type_said}
use Rattle.sm_ast.proofs.IdTests.{passed_is_id}
use Rattle.sm_ast.proofs.Judged.{either_way, or_right, true_is_false, same_text, some_is_none, some_same}
use Rattle.sm_ast.proofs.SaidReferences.{text_is}

-- the text of a type
abbrev kind_or : Kind → ShapeType → Kind
kind_or other (Defined kind) = kind
kind_or other Applied = other

abbrev IsApplied : ShapeType → Type 0
IsApplied Applied = Unit {0}
IsApplied (Defined kind) = ⊥

defined_kind : (j k : Kind) → ◌≡◌ {A = Option ShapeType} (Some (Defined j)) (Some (Defined k)) → j ≡ k
defined_kind j k e = ap (kind_or j) (some_same (Defined j) (Defined k) e)

kind_is : (s : List ℕ) (kind : Kind) (ks : List Kind) → kind_among s ks ≡ Some (Defined kind) → s ≡ kind_name kind
kind_is s kind [] e = some_is_none (Defined kind) (sym e)
kind_is s kind (j ∷ ks) e = elim (either_way (bytes_eq s (kind_name j))) [
  | inl same ↦ same_text s (kind_name j) same
      ∙ ap kind_name (defined_kind j kind (ap (λ b. if b then Some (Defined j) else kind_among s ks) (sym same) ∙ e))
  | inr other ↦ kind_is s kind ks (ap (λ b. if b then Some (Defined j) else kind_among s ks) (sym other) ∙ e)
]

no_applied : {A : Type 0} (s : List ℕ) (ks : List Kind) → kind_among s ks ≡ Some Applied → A
no_applied s [] e = some_is_none Applied (sym e)
no_applied s (j ∷ ks) e = elim (either_way (bytes_eq s (kind_name j))) [
  | inl same ↦ absurd (subst IsApplied (sym (some_same (Defined j) Applied
      (ap (λ b. if b then Some (Defined j) else kind_among s ks) (sym same) ∙ e))) tt)
  | inr other ↦ no_applied s ks (ap (λ b. if b then Some (Defined j) else kind_among s ks) (sym other) ∙ e)
]

defined_text : (s : List ℕ) (kind : Kind) → type_named s ≡ Some (Defined kind) → s ≡ kind_name kind
defined_text s kind e = elim (either_way (bytes_eq s (codes "apply"))) [
  | inl same ↦ absurd (subst IsApplied (some_same Applied (Defined kind)
      (ap (λ b. if b then Some Applied else kind_among s all_kinds) (sym same) ∙ e)) tt)
  | inr other ↦ kind_is s kind all_kinds (ap (λ b. if b then Some Applied else kind_among s all_kinds) (sym other) ∙ e)
]

applied_text : (s : List ℕ) → type_named s ≡ Some Applied → s ≡ codes "apply"
applied_text s e = elim (either_way (bytes_eq s (codes "apply"))) [
  | inl same ↦ same_text s (codes "apply") same
  | inr other ↦ no_applied s all_kinds (ap (λ b. if b then Some Applied else kind_among s all_kinds) (sym other) ∙ e)
]

type_text : (t : Node) (type : ShapeType) → type_said t ≡ Some type → (s : List ℕ) × (t ≡ text s) × (type_named s ≡ Some type)
type_text t type e = by_text_in (text_in t) refl e
  where
    by_text_in : (o : Option (List ℕ)) → text_in t ≡ o → type_of_text o ≡ Some type → (s : List ℕ) × (t ≡ text s)
        × (type_named s ≡ Some type)
    by_text_in None is f = some_is_none type (sym f)
    by_text_in (Some s) is f = (s, text_is t s is, f)

pub defined_is : (t : Node) (kind : Kind) → type_said t ≡ Some (Defined kind) → t ≡ text (kind_name kind)
defined_is t kind e = let said = type_text t (Defined kind) e in said.1 ∙ ap text (defined_text said.0 kind said.2)

pub applied_is : (t : Node) → type_said t ≡ Some Applied → t ≡ text (codes "apply")
applied_is t e = let said = type_text t Applied e in said.1 ∙ ap text (applied_text said.0 said.2)

-- the id of a shape has no `$`
any_behind : (q : ℕ → Bool) (xs ys : List ℕ) → list_any q ys ≡ true → list_any q (xs ++ ys) ≡ true
any_behind q xs ys e = list_any-append q xs ys ∙ or_right (list_any q xs) _ e

dollar_there : (id : Id) (m : List ℕ) → id.member ≡ Some m → has_member (printed id) ≡ true
dollar_there id m e =
    any_behind (is_byte dollar) id.namespace (35 ∷ (id.name ++ member_text id.member))
    (or_right (is_byte dollar 35) _ (any_behind (is_byte dollar) id.name (member_text id.member) (ap (λ o. list_any (is_byte dollar) (member_text o)) e)))

pub without_dollar : (k : List ℕ) → is_id k ≡ true → has_member k ≡ false → IsShapeId k
without_dollar k passed plain = let found = passed_is_id k passed in (found.0, found.1, by_member found.0 found.1 found.0.member refl)
  where
    by_member : (id : Id) → IdText id k → (o : Option (List ℕ)) → id.member ≡ o → id.member ≡ None
    by_member id h None e = e
    by_member id h (Some m) e = true_is_false (sym (ap has_member h.spelled ∙ dollar_there id m e) ∙ plain)

-- the version
this_text : (wanted : List ℕ) (n : Node) → is_this wanted (text_in n) ≡ true → n ≡ text wanted
this_text wanted n e = by_text_in (text_in n) refl e
  where
    by_text_in : (o : Option (List ℕ)) → text_in n ≡ o → is_this wanted o ≡ true → n ≡ text wanted
    by_text_in None is f = true_is_false (sym f)
    by_text_in (Some t) is f = text_is n t is ∙ ap text (same_text t wanted f)

either_true : (a b : Bool) → (a || b) ≡ true → (a ≡ true) ⊎ (b ≡ true)
either_true true b e = inl refl
either_true false b e = inr e

pub version_text : (n : Node) → is_version n ≡ true → (n ≡ text (codes "2.0")) ⊎ (n ≡ text (codes "2"))
version_text n e = elim (either_true (is_this (codes "2.0") (text_in n)) (is_this (codes "2") (text_in n)) e) [
  | inl is ↦ inl (this_text (codes "2.0") n is)
  | inr is ↦ inr (this_text (codes "2") n is)
]
