-- What a reference means is an id: what is used under a name, and what a name stands for, are ids of shapes, and a member stays.
use Rattle.std.proofs.Common.{◌≡◌, inl, inr, ℕ, not, Bool, true, false, List, [], ◌∷◌, ◌++◌, take, drop, length}
use Rattle.std.proofs.Common.{Option, Some, None, refl, sym, ap, subst, ◌∙◌, arith, append_assoc, append-nil, bytes_eq}
use Rattle.std.specs.Prelude.{◌||◌, if◌then◌else◌}
use Rattle.std.specs.List.{list_all, list_any, position_or_len}
use Rattle.std.specs.Option.{ForSome, unwrap_or}
use Rattle.std.proofs.Math.Seq.{drop-append_seam, take-append_seam}
use Rattle.std.proofs.lemmas.Bool.Decides.{nat_tests}
use Rattle.std.proofs.lemmas.List.Folds.{list_any-append}
use Rattle.sm_bytes.specs.Ascii.{dollar, number_sign}
use Rattle.sm_ids.specs.Identifier.{is_identifier_byte, IsIdentifier, IsNamespace}
use Rattle.sm_ids.specs.IdText.{IsIdText, member_text}
use Rattle.sm_ids.proofs.Cutting.{both, list_all_weaker}
use Rattle.sm_ids.proofs.Identifiers.{made_of_bytes}
use Rattle.sm_ids.proofs.TextCuts.{all_run, of_member, of_shape}
use Rattle.sm_model.specs.References.{IsShapeId, AreIds, IsWritten, IsReference}
use Rattle.sm_model.specs.PreludeShapes.{api_id, is_prelude_id}
use Rattle.sm_model.specs.declared.reference.Ref.{Ref}
use Rattle.sm_model.specs.Used.{is_byte, shape_part, name_part, used_under}
use Rattle.sm_merge.specs.Meaning.{Defined, found_in, is_absolute, meaning, meaning_in, member_part, relative_meaning}
use Rattle.sm_merge.proofs.NamesKnown.{or_true}
use Rattle.sm_merge.proofs.PreludeGiven.{api_shape_id}

no_dollar : (c : ℕ) → is_identifier_byte c ≡ true → not (is_byte dollar c) ≡ true
no_dollar c h = grind (arith, nat_tests)

no_sign : (c : ℕ) → is_identifier_byte c ≡ true → is_byte number_sign c ≡ false
no_sign c h = grind (arith, nat_tests)

member_begins : (m : Option (List ℕ)) → position_or_len (is_byte dollar) (member_text m) ≡ 0
member_begins None = refl
member_begins (Some m) = refl

-- a name, and what is behind it
name_ends : (name : List ℕ) (m : Option (List ℕ)) → IsIdentifier name
    → position_or_len (is_byte dollar) (name ++ member_text m) ≡ length name
name_ends name m h =
    sym (all_run (λ c. not (is_byte dollar c)) name (member_text m)
    (list_all_weaker is_identifier_byte (λ c. not (is_byte dollar c)) no_dollar name (made_of_bytes name h)) (member_begins m))

name_cut_off : (name : List ℕ) (m : Option (List ℕ)) → IsIdentifier name → shape_part (name ++ member_text m) ≡ name
name_cut_off name m h =
    ap (λ n. take n (name ++ member_text m)) (name_ends name m h) ∙ take-append_seam name (member_text m)

member_left : (name : List ℕ) (m : Option (List ℕ)) → IsIdentifier name → member_part (name ++ member_text m) ≡ member_text m
member_left name m h =
    ap (λ n. drop n (name ++ member_text m)) (name_ends name m h) ∙ drop-append_seam name (member_text m)

-- an id has a number sign, and a relative one has none
has_sign : (ns rest : List ℕ) → is_absolute (ns ++ number_sign ∷ rest) ≡ true
has_sign ns rest = list_any-append (is_byte number_sign) ns (number_sign ∷ rest) ∙ or_true (list_any (is_byte number_sign) ns)

none_of : (p q : ℕ → Bool) → ((c : ℕ) → q c ≡ true → p c ≡ false) → (xs : List ℕ) → list_all q xs ≡ true → list_any p xs ≡ false
none_of p q none [] h = refl
none_of p q none (x ∷ xs) h =
    let parts = both (q x) (list_all q xs) h in
    ap (λ b. b || list_any p xs) (none x parts.0) ∙ none_of p q none xs parts.1

member_without : (m : Option (List ℕ)) → ForSome m IsIdentifier → list_any (is_byte number_sign) (member_text m) ≡ false
member_without None h = refl
member_without (Some m) h = none_of (is_byte number_sign) is_identifier_byte no_sign m (made_of_bytes m (h m refl))

is_relative : (name : List ℕ) (m : Option (List ℕ)) → IsIdentifier name → ForSome m IsIdentifier → is_absolute (name ++ member_text m)
    ≡ false
is_relative name m h k =
    list_any-append (is_byte number_sign) name (member_text m)
    ∙ ap (λ b. b || list_any (is_byte number_sign) (member_text m))
    (none_of (is_byte number_sign) is_identifier_byte no_sign name (made_of_bytes name h))
    ∙ member_without m k

-- the id of a shape with a member, or without one, is an id
with_member : (id : List ℕ) (m : Option (List ℕ)) → IsShapeId id → ForSome m IsIdentifier → IsIdText (id ++ member_text m)
with_member id m (shape, is, none) k = (
  record { namespace = shape.namespace; name = shape.name; member = m },
  record {
    is_id = record { namespace = is.is_id.namespace; name = is.is_id.name; member = k };
    spelled =
        ap (λ t. t ++ member_text m) (is.spelled ∙ ap (λ o. shape.namespace ++ 35 ∷ (shape.name ++ member_text o)) none
        ∙ ap (λ t. shape.namespace ++ 35 ∷ t) (append-nil shape.name))
        ∙ append_assoc shape.namespace (35 ∷ shape.name) (member_text m);
  },
)

abbrev none_there : Option (List ℕ) → Type 0
none_there None = Unit {0}
none_there (Some m) = ⊥

spelled_shape : (ns name : List ℕ) → IsNamespace ns → IsIdentifier name → IsShapeId (ns ++ number_sign ∷ name)
spelled_shape ns name h k = (
  record { namespace = ns; name = name; member = None },
  record {
    is_id = record { namespace = h; name = k; member = λ m never. absurd (subst none_there never tt) };
    spelled = ap (λ t. ns ++ 35 ∷ t) (sym (append-nil name));
  },
  refl,
)

-- what stands before the member of an id is the id of its shape
shape_cut_off : (id : List ℕ) → IsShapeId id → (m : Option (List ℕ)) → shape_part (id ++ member_text m) ≡ id
shape_cut_off id is None = ap shape_part (append-nil id) ∙ of_shape id is
shape_cut_off id is (Some m) = of_member id is m

-- the part of an id before its member is the id of a shape
shape_of_id : (id : List ℕ) → IsIdText id → IsShapeId (shape_part id)
shape_of_id id (i, is) =
    let whole : List ℕ = i.namespace ++ number_sign ∷ i.name in
    let shape : IsShapeId whole = spelled_shape i.namespace i.name is.is_id.namespace is.is_id.name in
    let spelled : id ≡ whole ++ member_text i.member =
    is.spelled ∙ sym (append_assoc i.namespace (number_sign ∷ i.name) (member_text i.member)) in
    subst IsShapeId (sym (ap shape_part spelled ∙ shape_cut_off whole shape i.member)) shape

-- what is used under a name is the id of a shape
first_used : (b : Bool) (id : List ℕ) (o : Option (List ℕ)) → IsShapeId id → ForSome o IsShapeId
    → ForSome (if b then Some id else o) IsShapeId
first_used true id o h k = λ x e. subst IsShapeId (ap (λ p. unwrap_or p id) e) h
first_used false id o h k = k

used_shape : (name : List ℕ) (ids : List (List ℕ)) → AreIds ids → ForSome (used_under name ids) IsShapeId
used_shape name [] h = λ id e. absurd (subst none_there e tt)
used_shape name (i ∷ ids) h =
    first_used (bytes_eq (name_part i) name) (shape_part i) (used_under name ids) (shape_of_id i h.0) (used_shape name ids h.1)

-- and so is what a name stands for otherwise
found_by : (first second third : Bool) (own api : List ℕ) → IsShapeId own → IsShapeId api
    → IsShapeId (if first then own else if second then api else if third then api else own)
found_by true second third own api h k = h
found_by false true third own api h k = k
found_by false false true own api h k = k
found_by false false false own api h k = h

found_shape : (defined : Defined) (ns name : List ℕ) (in_trait : Bool) → IsNamespace ns → IsIdentifier name
    → IsShapeId (found_in defined ns name in_trait)
found_shape defined ns name in_trait h k =
    found_by (defined (ns ++ number_sign ∷ name)) (is_prelude_id (api_id name)) in_trait _ _ (spelled_shape ns name h k)
    (api_shape_id name k)

or_else : (o : Option (List ℕ)) (id : List ℕ) → ForSome o IsShapeId → IsShapeId id → IsShapeId (unwrap_or o id)
or_else None id h k = k
or_else (Some x) id h k = h x refl

meant_relative : (defined : Defined) (r : Ref) (ns name : List ℕ) (m : Option (List ℕ)) → AreIds r.uses → IsNamespace ns → IsIdentifier name
    → ForSome m IsIdentifier → r.text ≡ name ++ member_text m → IsIdText (meaning_in defined r (Some ns))
meant_relative defined r ns name m uses h k member is =
    let shape = or_else (used_under name r.uses) (found_in defined ns name r.in_trait) (used_shape name r.uses uses)
    (found_shape defined ns name r.in_trait h k) in
    let parts : relative_meaning defined r ns (shape_part r.text) ++ member_part r.text
    ≡ relative_meaning defined r ns name ++ member_text m =
    λ i. relative_meaning defined r ns ((ap shape_part is ∙ name_cut_off name m k) i) ++ (ap member_part is ∙ member_left name m k) i in
    let relative : is_absolute r.text ≡ false = ap is_absolute is ∙ is_relative name m k member in
    let is_meant : meaning_in defined r (Some ns) ≡ relative_meaning defined r ns name ++ member_text m =
    ap (λ b. if b then r.text else relative_meaning defined r ns (shape_part r.text) ++ member_part r.text) relative ∙ parts in
    subst IsIdText (sym is_meant)
    (with_member _ m shape member)

meant_absolute : (defined : Defined) (r : Ref) (ns : List ℕ) → IsIdText r.text → IsIdText (meaning_in defined r (Some ns))
meant_absolute defined r ns (id, is) =
    let absolute : is_absolute r.text ≡ true = ap is_absolute is.spelled ∙ has_sign id.namespace (id.name ++ member_text id.member) in
    let is_text : meaning_in defined r (Some ns) ≡ r.text =
    ap (λ b. if b then r.text else relative_meaning defined r ns (shape_part r.text) ++ member_part r.text) absolute in
    subst IsIdText (sym is_text) (id, is)

meant_id : (defined : Defined) (r : Ref) (o : Option (List ℕ)) → IsWritten o r.text → AreIds r.uses → IsIdText (meaning_in defined r o)
meant_id defined r None h uses = h
meant_id defined r (Some ns) (h, inl id) uses = meant_absolute defined r ns id
meant_id defined r (Some ns) (h, inr (name, m, is_name, is_member, is)) uses =
    meant_relative defined r ns name m uses h is_name is_member is

-- what a reference means is an id
pub meaning_is_id : (defined : Defined) (r : Ref) → IsReference r → IsIdText (meaning defined r)
meaning_is_id defined r h = meant_id defined r r.namespace h.text h.uses
