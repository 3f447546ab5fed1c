-- The id of a member names the shape in which it stands, so that no member stands in two shapes.
use Rattle.std.proofs.Common.{◌≡◌, ℕ, Bool, true, not, ◌==◌, List, [], ◌∷◌, ◌++◌, Option, Some, None, refl, sym, ap, ◌∙◌, subst, arith}
use Rattle.std.proofs.Common.{append_assoc, append-nil}
use Rattle.std.specs.List.{Contains, flat_map, list_all}
use Rattle.std.specs.Prelude.{◌<◌, IsUtf8}
use Rattle.std.proofs.lemmas.Bool.Decides.{nat_tests}
use Rattle.std.proofs.lemmas.List.Sums.{AllPass-from_list_all}
use Rattle.std.proofs.lemmas.Str.{IsUtf8-from_ascii}
use Rattle.std.proofs.lemmas.Str.Ascii.{IsAscii-from_all}
use Rattle.sm_ids.specs.Identifier.{is_identifier_byte, IsIdentifier}
use Rattle.sm_ids.specs.IdText.{Id, IsId, IsIdText, member_text, printed}
use Rattle.sm_ids.proofs.Cutting.{and_also, both, heads, list_all_weaker, tails}
use Rattle.sm_ids.proofs.Identifiers.{made_of_bytes}
use Rattle.sm_ids.proofs.Namespaces.{is_namespace_byte, namespace_bytes}
use Rattle.sm_model.specs.Graphs.{member_id}
use Rattle.sm_model.proofs.OneRising.{contains_behind, contains_head}
use Rattle.sm_shapes.specs.Names.{AllDiffer, NoneIs}
use Rattle.sm_compile.proofs.NamesBehind.{behind_one}
use Rattle.sm_compile.proofs.RowsAlike.{none_among}
use Rattle.sm_compile.proofs.TabledMembers.{joined_from}

-- a byte that is no dollar sign
abbrev is_plain : ℕ → Bool
is_plain c = not (c == 36)

plain_name : (c : ℕ) → is_identifier_byte c ≡ true → is_plain c ≡ true
plain_name c h = grind (arith, nat_tests)

plain_namespace : (c : ℕ) → is_namespace_byte c ≡ true → is_plain c ≡ true
plain_namespace c h = grind (arith, nat_tests)

plain_joined : (xs ys : List ℕ) → list_all is_plain xs ≡ true → list_all is_plain ys ≡ true → list_all is_plain (xs ++ ys) ≡ true
plain_joined [] ys h k = k
plain_joined (x ∷ xs) ys h k =
    let b = both (is_plain x) (list_all is_plain xs) h in and_also (is_plain x) (list_all is_plain (xs ++ ys)) b.0
    (plain_joined xs ys b.1 k)

no_plain_dollar : (c : ℕ) → c ≡ 36 → is_plain c ≡ true → ⊥
no_plain_dollar c e h = let k : is_plain 36 ≡ true = subst (λ x. is_plain x ≡ true) e h in cc

no_dollar : (s n m : List ℕ) → list_all is_plain m ≡ true → s ++ 36 ∷ n ≡ m → ⊥
no_dollar [] n [] h e = cc
no_dollar [] n (c ∷ m) h e =
    no_plain_dollar c (sym (heads 36 c n m e)) (both (is_plain c) (list_all is_plain m) h).0
no_dollar (c ∷ s) n [] h e = cc
no_dollar (c ∷ s) n (d ∷ m) h e = no_dollar s n m (both (is_plain d) (list_all is_plain m) h).1 (tails c d (s ++ 36 ∷ n) m e)

cut_once : (s n p m : List ℕ) → list_all is_plain p ≡ true → list_all is_plain m ≡ true → s ++ 36 ∷ n ≡ p ++ 36 ∷ m → s ≡ p
cut_once [] n [] m h k e = refl
cut_once [] n (c ∷ p) m h k e =
    absurd (no_plain_dollar c (sym (heads 36 c n (p ++ 36 ∷ m) e)) (both (is_plain c) (list_all is_plain p) h).0)
cut_once (c ∷ s) n [] m h k e = absurd (no_dollar s n m k (tails c 36 (s ++ 36 ∷ n) m e))
cut_once (c ∷ s) n (d ∷ p) m h k e =
    let head = heads c d (s ++ 36 ∷ n) (p ++ 36 ∷ m) e in
    let rest = cut_once s n p m (both (is_plain d) (list_all is_plain p) h).1 k (tails c d (s ++ 36 ∷ n) (p ++ 36 ∷ m) e) in
    λ i. head i ∷ rest i

plain_part : (t : List ℕ) → IsIdentifier t → list_all is_plain t ≡ true
plain_part t h = list_all_weaker is_identifier_byte is_plain plain_name t (made_of_bytes t h)

plain_shape : (id : Id) → IsId id → list_all is_plain (id.namespace ++ 35 ∷ id.name) ≡ true
plain_shape id h =
    plain_joined id.namespace (35 ∷ id.name)
    (list_all_weaker is_namespace_byte is_plain plain_namespace id.namespace (namespace_bytes id.namespace h.namespace))
    (and_also (is_plain 35) (list_all is_plain id.name) refl (plain_part id.name h.name))

-- the shape's part of a member's id
shape_part : (id : Id) → IsId id → (s n : List ℕ) → printed id ≡ member_id s n → s ≡ id.namespace ++ 35 ∷ id.name
shape_part id h s n e = by id.member refl
  where
    by : (o : Option (List ℕ)) → id.member ≡ o → s ≡ id.namespace ++ 35 ∷ id.name
    by None is =
        absurd (no_dollar s n (id.namespace ++ 35 ∷ id.name) (plain_shape id h)
        (sym e ∙ ap (λ o. id.namespace ++ 35 ∷ (id.name ++ member_text o)) is ∙ ap (λ x. id.namespace ++ 35 ∷ x) (append-nil id.name)))
    by (Some m) is =
        cut_once s n (id.namespace ++ 35 ∷ id.name) m (plain_shape id h) (plain_part m (h.member m is))
        (sym e ∙ ap (λ o. id.namespace ++ 35 ∷ (id.name ++ member_text o)) is ∙ sym (append_assoc id.namespace (35 ∷ id.name) (36 ∷ m)))

pub same_home : (t s r n m : List ℕ) → IsIdText t → t ≡ member_id s n → t ≡ member_id r m → s ≡ r
same_home t s r n m is e f =
    shape_part is.0 is.1.is_id s n (sym is.1.spelled ∙ e) ∙ sym (shape_part is.0 is.1.is_id r m (sym is.1.spelled ∙ f))

-- the name in a member's id
pub name_spelled : (t s n : List ℕ) → IsIdText t → t ≡ member_id s n → IsIdentifier n
name_spelled t s n is e = by is.0.member refl
  where
    whole : printed is.0 ≡ member_id s n
    whole = sym is.1.spelled ∙ e

    by : (o : Option (List ℕ)) → is.0.member ≡ o → IsIdentifier n
    by None none =
        absurd (no_dollar s n (is.0.namespace ++ 35 ∷ is.0.name) (plain_shape is.0 is.1.is_id)
        (sym whole ∙ ap (λ o. is.0.namespace ++ 35 ∷ (is.0.name ++ member_text o)) none
        ∙ ap (λ x. is.0.namespace ++ 35 ∷ x) (append-nil is.0.name)))
    by (Some m) some =
        let home : List ℕ = is.0.namespace ++ 35 ∷ is.0.name in
        let parts : home ++ 36 ∷ m ≡ home ++ 36 ∷ n =
        append_assoc is.0.namespace (35 ∷ is.0.name) (36 ∷ m)
        ∙ sym (ap (λ o. is.0.namespace ++ 35 ∷ (is.0.name ++ member_text o)) some)
        ∙ whole ∙ ap (λ x. member_id x n) (shape_part is.0 is.1.is_id s n whole) in
        subst IsIdentifier (tails 36 36 m n (behind_one home (36 ∷ m) (36 ∷ n) parts)) (is.1.is_id.member m some)

-- and that it is UTF-8
ascii_byte : (c : ℕ) → is_identifier_byte c ≡ true → c < 128
ascii_byte c h = grind (arith, nat_tests)

pub name_utf8 : (n : List ℕ) → IsIdentifier n → IsUtf8 n
name_utf8 n h =
    IsUtf8-from_ascii n (IsAscii-from_all n
    (λ k d lt. ascii_byte _ (AllPass-from_list_all is_identifier_byte n (made_of_bytes n h) k d lt)))

-- lists joined, of which none has what another has
none_from : (x : List ℕ) (ys : List (List ℕ)) → (Contains ys x → ⊥) → NoneIs x ys
none_from x [] h = tt
none_from x (y ∷ ys) h = (
  λ e. h (subst (Contains (y ∷ ys)) e (contains_head y ys)),
  none_from x ys (λ there. h (contains_behind y x ys there)),
)

none_joined : (x : List ℕ) (xs ys : List (List ℕ)) → NoneIs x xs → (Contains ys x → ⊥) → NoneIs x (xs ++ ys)
none_joined x [] ys h k = none_from x ys k
none_joined x (y ∷ xs) ys h k = (h.0, none_joined x xs ys h.1 k)

joined_differ : (xs ys : List (List ℕ)) → AllDiffer xs → AllDiffer ys → ((k : List ℕ) → Contains xs k → Contains ys k → ⊥)
    → AllDiffer (xs ++ ys)
joined_differ [] ys d e apart = e
joined_differ (x ∷ xs) ys d e apart = (
  none_joined x xs ys d.0 (apart x (contains_head x xs)),
  joined_differ xs ys d.1 e (λ k here. apart k (contains_behind x k xs here)),
)

pub flat_differ : (f : List ℕ → List (List ℕ)) (xs : List (List ℕ)) → AllDiffer xs
    → ((x : List ℕ) → Contains xs x → AllDiffer (f x))
    → ((x y k : List ℕ) → Contains xs x → Contains xs y → Contains (f x) k → Contains (f y) k → x ≡ y)
    → AllDiffer (flat_map f xs)
flat_differ f [] d each apart = tt
flat_differ f (x ∷ xs) d each apart =
    joined_differ (f x) (flat_map f xs) (each x (contains_head x xs))
    (flat_differ f xs d.1 (λ y there. each y (contains_behind x y xs there))
    (λ y z k p q. apart y z k (contains_behind x y xs p) (contains_behind x z xs q)))
    (λ k here there.
    let r = joined_from f xs k there in
    none_among x xs d.0
    (subst (Contains xs) (sym (apart x r.0 k (contains_head x xs) (contains_behind x r.0 xs r.1) here r.2)) r.1))
