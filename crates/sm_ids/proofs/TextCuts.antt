-- Texts of ids cut at their marks: what the parts of an id's text are where it spells one.
use Rattle.std.proofs.Common.{◌≡◌, ℕ, ◌+◌, suc, Bool, true, false, not, List, [], ◌∷◌, ◌++◌, take, drop, length, refl, sym, ap, subst, ◌∙◌}
use Rattle.std.proofs.Common.{append-nil, arith}
use Rattle.std.specs.Prelude.{◌==◌}
use Rattle.std.specs.List.{list_all, prefix_len, before_first, after_first}
use Rattle.std.proofs.Math.Seq.{take-append_seam, drop-append-add}
use Rattle.std.proofs.lemmas.Bool.{cond-true}
use Rattle.std.proofs.lemmas.Bool.Decides.{nat_tests}
use Rattle.std.proofs.lemmas.List.Folds.{list_all-append}
use Rattle.sm_bytes.specs.Ascii.{dollar, number_sign}
use Rattle.sm_ids.specs.Identifier.{is_identifier_byte, IsIdentifier}
use Rattle.sm_ids.specs.IdText.{IsShapeId, member_text}
use Rattle.sm_ids.specs.TextParts.{absolute_id, is_byte, local_part, member_id, member_name, namespace_part, shape_part}
use Rattle.sm_ids.proofs.Cutting.{both, and_also, list_all_weaker}
use Rattle.sm_ids.proofs.Identifiers.{made_of_bytes}
use Rattle.sm_ids.proofs.Namespaces.{is_namespace_byte, namespace_bytes}

-- a run goes through all that pass, and ends before what doesn't
pub all_run : (p : ℕ → Bool) (w s : List ℕ) → list_all p w ≡ true → prefix_len p s ≡ 0 → length w ≡ prefix_len p (w ++ s)
all_run p [] s h e = sym e
all_run p (c ∷ w) s h e =
    let l = both (p c) (list_all p w) h in
    let more : suc (length w) ≡ 1 + length w = omega arith in
    more ∙ ap (λ n. 1 + n) (all_run p w s l.1 e) ∙ sym (cond-true (p c) _ _ l.0)

-- a text is cut at the first byte of a kind
abbrev others : (ℕ → Bool) → ℕ → Bool
others p c = not (p c)

front_cut : (p : ℕ → Bool) (a : List ℕ) (c : ℕ) (b : List ℕ) → list_all (others p) a ≡ true → prefix_len (others p) (c ∷ b) ≡ 0
    → before_first p (a ++ c ∷ b) ≡ a
front_cut p a c b h k =
    ap (λ n. take n (a ++ c ∷ b)) (sym (all_run (others p) a (c ∷ b) h k)) ∙ take-append_seam a (c ∷ b)

back_cut : (p : ℕ → Bool) (a : List ℕ) (c : ℕ) (b : List ℕ) → list_all (others p) a ≡ true → prefix_len (others p) (c ∷ b) ≡ 0
    → after_first p (a ++ c ∷ b) ≡ b
back_cut p a c b h k =
    ap (λ n. drop (n + 1) (a ++ c ∷ b)) (sym (all_run (others p) a (c ∷ b) h k)) ∙ drop-append-add a (c ∷ b) 1

no_sign : (c : ℕ) → is_namespace_byte c ≡ true → not (c == 35) ≡ true
no_sign c h = grind (arith, nat_tests)

no_dollar : (c : ℕ) → is_namespace_byte c ≡ true → not (c == 36) ≡ true
no_dollar c h = grind (arith, nat_tests)

no_dollar_here : (c : ℕ) → is_identifier_byte c ≡ true → not (c == 36) ≡ true
no_dollar_here c h = grind (arith, nat_tests)

-- the id of a shape: its namespace and its name
pub record IsCut (id : List ℕ) : Type 0 where
  pub name : IsIdentifier (local_part id)
  pub parts : id ≡ absolute_id (namespace_part id) (local_part id)

pub id_cut : (id : List ℕ) → IsShapeId id → IsCut id
id_cut text (id, spelt, alone) =
    let named : id.name ++ member_text id.member ≡ id.name = ap (λ m. id.name ++ member_text m) alone ∙ append-nil id.name in
    let whole : text ≡ id.namespace ++ 35 ∷ id.name = spelt.spelled ∙ ap (λ n. id.namespace ++ 35 ∷ n) named in
    let fine = list_all_weaker is_namespace_byte (others (is_byte number_sign)) no_sign id.namespace
    (namespace_bytes id.namespace spelt.is_id.namespace) in
    let front : namespace_part text ≡ id.namespace =
    ap namespace_part whole ∙ front_cut (is_byte number_sign) id.namespace 35 id.name fine refl in
    let back : local_part text ≡ id.name = ap local_part whole ∙ back_cut (is_byte number_sign) id.namespace 35 id.name fine refl in
    record {
      name = subst IsIdentifier (sym back) spelt.is_id.name;
      parts = whole ∙ ap (λ n. n ++ 35 ∷ id.name) (sym front) ∙ ap (λ n. namespace_part text ++ 35 ∷ n) (sym back);
    }

-- the name of a member, whose id isn't that of a shape
dollarless : (id : List ℕ) → IsShapeId id → list_all (others (is_byte dollar)) id ≡ true
dollarless text (id, spelt, alone) =
    let q : ℕ → Bool = others (is_byte dollar) in
    let named : id.name ++ member_text id.member ≡ id.name = ap (λ m. id.name ++ member_text m) alone ∙ append-nil id.name in
    let whole : text ≡ id.namespace ++ 35 ∷ id.name = spelt.spelled ∙ ap (λ n. id.namespace ++ 35 ∷ n) named in
    let front = list_all_weaker is_namespace_byte q no_dollar id.namespace (namespace_bytes id.namespace spelt.is_id.namespace) in
    let back = list_all_weaker is_identifier_byte q no_dollar_here id.name (made_of_bytes id.name spelt.is_id.name) in
    ap (list_all q) whole ∙ list_all-append q id.namespace (35 ∷ id.name)
    ∙ and_also (list_all q id.namespace) (list_all q (35 ∷ id.name)) front back

-- before a `$` stands the shape's id
pub of_shape : (shape : List ℕ) → IsShapeId shape → shape_part shape ≡ shape
of_shape shape is =
    ap shape_part (sym (append-nil shape))
    ∙ ap (λ n. take n (shape ++ [])) (sym (all_run (others (is_byte dollar)) shape [] (dollarless shape is) refl))
    ∙ take-append_seam shape []

pub of_member : (shape : List ℕ) → IsShapeId shape → (name : List ℕ) → shape_part (member_id shape name) ≡ shape
of_member shape is name = front_cut (is_byte dollar) shape 36 name (dollarless shape is) refl

-- and behind it the name of the member
pub member_named : (shape : List ℕ) → IsShapeId shape → (name : List ℕ) → member_name (member_id shape name) ≡ name
member_named shape is name = back_cut (is_byte dollar) shape 36 name (dollarless shape is) refl

pub member_is_no_shape : (shape name : List ℕ) → IsShapeId (member_id shape name) → ⊥
member_is_no_shape shape name is =
    let q : ℕ → Bool = others (is_byte dollar) in
    let wrong : false ≡ true =
    (both (list_all q shape) (list_all q (36 ∷ name)) (sym (list_all-append q shape (36 ∷ name)) ∙ dollarless (member_id shape name) is)).1 in
    absurd cc
