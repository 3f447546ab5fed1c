-- An id's text taken apart at the ends of its parts.
use Rattle.std.proofs.Common.{◌≡◌, ℕ, ◌+◌, ◌-◌, ◌<◌, true, List, [], ◌∷◌, ◌++◌, length, take, drop, get_or, Option, Some, None, refl, sym}
use Rattle.std.proofs.Common.{ap, subst, ◌∙◌, arith, append_assoc, length-append, Bor}
use Rattle.std.proofs.Math.Seq.{take-append_seam, drop-append_seam}
use Rattle.std.proofs.lemmas.Bool.Decides.{nat_tests}
use Rattle.std.proofs.lemmas.Grind.{common_steps}
use Rattle.std.proofs.lemmas.List.Folds.{list_all-append}
use Rattle.std.proofs.lemmas.List.Sums.{AllPass-from_list_all}
use Rattle.std.proofs.lemmas.Str.Ascii.{IsAscii-from_all}
use Rattle.std.specs.Char.{is_ascii}
use Rattle.std.specs.List.{list_all, slice_range}
use Rattle.std.specs.Option.{ForSome, option_copied}
use Rattle.std.specs.Str.{IsAscii}
use Rattle.sm_ids.specs.Identifier.{is_identifier_byte, IsIdentifier}
use Rattle.sm_ids.specs.IdText.{Id, IsId, IdText, member_text, printed}
use Rattle.sm_ids.specs.steps.Parts.{HasParts}
use Rattle.sm_ids.specs.declared.scan.Ends.{Ends}
use Rattle.sm_ids.specs.declared.id.ShapeIdRef.{ShapeIdRef}
use Rattle.sm_ids.specs.View.{id_of}
use Rattle.sm_ids.proofs.Cutting.{and_also, list_all_weaker, tails}
use Rattle.sm_ids.proofs.Identifiers.{made_of_bytes}
use Rattle.sm_ids.proofs.Namespaces.{is_namespace_byte, namespace_bytes, name_byte}
use Rattle.sm_ids.proofs.Spellings.{same_id}
use Rattle.sm_ids.proofs.Scanning.{byte_cut}

-- an id's text is ASCII
namespace_ascii : (c : ℕ) → is_namespace_byte c ≡ true → is_ascii c ≡ true
namespace_ascii c h = grind (arith, nat_tests)

below : (c : ℕ) → is_ascii c ≡ true → c < 128
below c h = grind (arith, nat_tests)

identifier_ascii : (t : List ℕ) → IsIdentifier t → list_all is_ascii t ≡ true
identifier_ascii t h = list_all_weaker is_identifier_byte is_ascii (λ c k. namespace_ascii c (name_byte c k)) t (made_of_bytes t h)

member_ascii : (m : Option (List ℕ)) → ForSome m IsIdentifier → list_all is_ascii (member_text m) ≡ true
member_ascii None h = refl
member_ascii (Some m) h = identifier_ascii m (h m refl)

joined_ascii : (s t : List ℕ) → list_all is_ascii s ≡ true → list_all is_ascii t ≡ true → list_all is_ascii (s ++ t) ≡ true
joined_ascii s t h k = list_all-append is_ascii s t ∙ and_also (list_all is_ascii s) (list_all is_ascii t) h k

pub id_ascii : (id : Id) (text : List ℕ) → IdText id text → IsAscii text
id_ascii id text t =
    let namespace = list_all_weaker is_namespace_byte is_ascii namespace_ascii id.namespace
    (namespace_bytes id.namespace t.is_id.namespace) in
    let name = joined_ascii id.name (member_text id.member) (identifier_ascii id.name t.is_id.name)
    (member_ascii id.member t.is_id.member) in
    let all : list_all is_ascii (printed id) ≡ true = joined_ascii id.namespace (35 ∷ (id.name ++ member_text id.member)) namespace name in
    subst IsAscii (sym t.spelled) (IsAscii-from_all (printed id)
    (λ k d lt. below _ (AllPass-from_list_all is_ascii (printed id) all k d lt)))

-- the parts, as the code cuts them
pub namespace_is : (text : List ℕ) (ends : Ends) (h : HasParts text ends) → slice_range text 0 ends.namespace ≡ h.id.namespace
namespace_is text ends h =
    let piece : slice_range text 0 ends.namespace ≡ take ends.namespace text = grind (arith, common_steps) in
    piece ∙ ap (λ t. take ends.namespace t) h.spells.spelled ∙ ap (λ n. take n (printed h.id)) (sym h.namespace)
    ∙ take-append_seam h.id.namespace (35 ∷ (h.id.name ++ member_text h.id.member))

-- behind the namespace and the `#`
behind_hash : (id : Id) → drop (length id.namespace + 1) (printed id) ≡ id.name ++ member_text id.member
behind_hash id =
    let len : length (id.namespace ++ 35 ∷ []) ≡ length id.namespace + 1 = length-append id.namespace (35 ∷ []) in
    ap (λ n. drop n (printed id)) (sym len) ∙ ap (λ t. drop (length (id.namespace ++ 35 ∷ [])) t)
    (sym (append_assoc id.namespace (35 ∷ []) (id.name ++ member_text id.member)))
    ∙ drop-append_seam (id.namespace ++ 35 ∷ []) (id.name ++ member_text id.member)

pub name_is : (text : List ℕ) (ends : Ends) (h : HasParts text ends) → slice_range text (ends.namespace + 1) ends.name ≡ h.id.name
name_is text ends h =
    let count : ends.name - (ends.namespace + 1) ≡ length h.id.name = let a = h.namespace in let b = h.name in omega arith in
    ap (λ n. take n (drop (ends.namespace + 1) text)) count
    ∙ ap (λ t. take (length h.id.name) (drop (ends.namespace + 1) t)) h.spells.spelled
    ∙ ap (λ n. take (length h.id.name) (drop (n + 1) (printed h.id))) (sym h.namespace)
    ∙ ap (λ r. take (length h.id.name) r) (behind_hash h.id) ∙ take-append_seam h.id.name (member_text h.id.member)

behind_name : (id : Id) → drop (length id.namespace + 1 + length id.name) (printed id) ≡ member_text id.member
behind_name id =
    let piece = (id.namespace ++ 35 ∷ []) ++ id.name in
    let len : length piece ≡ length id.namespace + 1 + length id.name = let a = length-append (id.namespace ++ 35 ∷ []) id.name in let b =
    length-append id.namespace (35 ∷ []) in omega arith in
    let whole : piece ++ member_text id.member ≡ printed id = append_assoc (id.namespace ++ 35 ∷ []) id.name (member_text id.member)
    ∙ append_assoc id.namespace (35 ∷ []) (id.name ++ member_text id.member) in
    ap (λ n. drop n (printed id)) (sym len) ∙ ap (λ t. drop (length piece) t) (sym whole) ∙ drop-append_seam piece (member_text id.member)

pub rest_is : (text : List ℕ) (ends : Ends) (h : HasParts text ends) → drop ends.name text ≡ member_text h.id.member
rest_is text ends h = ap (λ t. drop ends.name t) h.spells.spelled ∙ ap (λ n. drop n (printed h.id)) (sym h.name) ∙ behind_name h.id

pub printed_length : (id : Id) → length (printed id) ≡ length id.namespace + 1 + length id.name + length (member_text id.member)
printed_length id =
    let a = length-append id.namespace (35 ∷ (id.name ++ member_text id.member)) in
    let b = length-append id.name (member_text id.member) in
    omega arith

-- a member that is there is the member that is seen
pub copied_member : (o : Option (Bor (List ℕ))) (m : Option (List ℕ)) → option_copied o ≡ m → ForSome m IsIdentifier
    → ForSome o (λ x. IsIdentifier x.now)
copied_member None m e h x f = let g : None ≡ Some x = f in cc
copied_member (Some y) m e h x f = let same : y ≡ x = cc in subst (λ z. IsIdentifier z.now) same (h y.now (sym e))

pub cut_spells : (text ns name : List ℕ) (member : Option (List ℕ)) (id : Id) → IdText id text → ns ≡ id.namespace → name ≡ id.name
    → member ≡ id.member → IdText (record { namespace = ns; name = name; member = member }) text
cut_spells text ns name member id t a b c =
    subst (λ x. IdText x text) (same_id id.namespace ns id.name name id.member member (sym a) (sym b) (sym c)) t

-- a member's text with its `$` is told by what is behind that
pub member_is : (text : List ℕ) (n : ℕ) (m : Option (List ℕ)) → n < length text → drop n text ≡ member_text m → Some (drop (n + 1) text) ≡ m
member_is text n None lt e = let none : length (drop n text) ≡ 0 = ap length e in
    absurd (let len : length (drop n text) + n ≡ length text = grind (arith, common_steps) in omega arith)
member_is text n (Some m) lt e = let f : get_or text n 0 ∷ drop (n + 1) text ≡ 36 ∷ m = sym (byte_cut text n lt)
    ∙ e in ap Some (tails (get_or text n 0) 36 (drop (n + 1) text) m f)

-- a text that was printed part by part
pub printed_parts : (id : Id) (ends : Ends) (none spaced hashed named whole : List ℕ) → IsId id → none ≡ [] → spaced ≡ none ++ id.namespace
    → hashed ≡ spaced ++ 35 ∷ [] → named ≡ hashed ++ id.name → whole ≡ named ++ member_text id.member
    → length id.namespace ≡ ends.namespace → length id.namespace + 1 + length id.name ≡ ends.name → HasParts whole ends
printed_parts id ends none spaced hashed named whole h nothing space hash name rest a b =
    let first : spaced ≡ id.namespace = space ∙ ap (λ x. x ++ id.namespace) nothing in
    let second : hashed ≡ id.namespace ++ 35 ∷ [] = hash ∙ ap (λ x. x ++ 35 ∷ []) first in
    let third : named ≡ (id.namespace ++ 35 ∷ []) ++ id.name = name ∙ ap (λ x. x ++ id.name) second in
    let all : whole ≡ printed id = rest ∙ ap (λ x. x ++ member_text id.member) third
    ∙ append_assoc (id.namespace ++ 35 ∷ []) id.name (member_text id.member)
    ∙ append_assoc id.namespace (35 ∷ []) (id.name ++ member_text id.member) in
    record { id = id; spells = record { is_id = h; spelled = all }; namespace = a; name = b }

pub member_of_copy : (o : Option (Bor (List ℕ))) → ForSome o (λ x. IsIdentifier x.now) → ForSome (option_copied o) IsIdentifier
member_of_copy None h x e = let f : None ≡ Some x = e in cc
member_of_copy (Some y) h x e = let same : y.now ≡ x = cc in subst IsIdentifier same (h y refl)

-- a borrowed id is one
pub borrowed_id : (id : ShapeIdRef) → IsId (id_of id)
borrowed_id id = record { namespace = id.is_namespace; name = id.is_name; member = member_of_copy id.member id.is_member }
