-- What all statements give at a place is what stands under it among all that they give.
use Rattle.std.proofs.Common.{◌≡◌, ◌<◌, ℕ, Bool, true, false, List, [], ◌∷◌, ◌++◌, length, Some, None, refl, sym, ap, ◌∙◌, arith}
use Rattle.std.proofs.Common.{bytes_eq, append-nil, append_assoc}
use Rattle.std.specs.Prelude.{if◌then◌else◌}
use Rattle.std.specs.List.{cons_option, flat_map}
use Rattle.std.proofs.lemmas.List.Elements.{filter_map-append}
use Rattle.std.proofs.lemmas.Slice.Eq.{bytes_eq-Decides}
use Rattle.sm_tree.specs.Node.{Node}
use Rattle.sm_model.specs.Graphs.{MemberGiven, ShapeGiven, member_id}
use Rattle.sm_merge.specs.Stated.{Stated, apply_stated, metadata_stated, shape_stated}
use Rattle.sm_merge.specs.Places.{member_traits_at, traits_at}
use Rattle.sm_groups.specs.Groups.{all_under, if_under}
use Rattle.sm_merge.specs.steps.Placed.{TraitLists, placed_by, placed_members}
use Rattle.sm_merge.specs.steps.Tables.{all_given}

all_joined : (xs ys : List (List (List ℕ × Node))) → all_given (xs ++ ys) ≡ all_given xs ++ all_given ys
all_joined [] ys = refl
all_joined (x ∷ xs) ys = ap (λ rest. x ++ rest) (all_joined xs ys) ∙ sym (append_assoc x (all_given xs) (all_given ys))

abbrev given_under : List ℕ → TraitLists → List (List ℕ × Node)
given_under place es = all_given (all_under place es)

under_joined : (place : List ℕ) (es fs : TraitLists) → given_under place (es ++ fs) ≡ given_under place es ++ given_under place fs
under_joined place es fs =
    ap all_given (filter_map-append (if_under place) es fs) ∙ all_joined (all_under place es) (all_under place fs)

-- one list of traits
one_list : (b : Bool) (ts : List (List ℕ × Node)) (rest : List (List (List ℕ × Node)))
    → all_given (cons_option (if b then Some ts else None) rest) ≡ (if b then ts else []) ++ all_given rest
one_list true ts rest = refl
one_list false ts rest = refl

of_members : (place shape : List ℕ) (ms : List MemberGiven)
    → given_under place (placed_members shape ms) ≡ flat_map (member_traits_at place shape) ms
of_members place shape [] = refl
of_members place shape (m ∷ ms) =
    one_list (bytes_eq (member_id shape m.name) place) m.traits (all_under place (placed_members shape ms))
    ∙ ap (λ rest. (if bytes_eq (member_id shape m.name) place then m.traits else []) ++ rest) (of_members place shape ms)

-- the id of a member is no id of its shape
longer : (shape name : List ℕ) → length shape < length (member_id shape name)
longer [] name = omega arith
longer (c ∷ cs) name = let rest = longer cs name in omega (arith, rest)

elsewhere : (place shape name : List ℕ) → bytes_eq shape place ≡ true → (b : Bool) → bytes_eq (member_id shape name) place ≡ b
    → b ≡ false
elsewhere place shape name h false e = refl
elsewhere place shape name h true e =
    let same : member_id shape name ≡ shape =
    (bytes_eq-Decides (member_id shape name) place).0 e ∙ sym ((bytes_eq-Decides shape place).0 h) in
    let more = longer shape name in
    let equal = ap length same in
    absurd (omega (arith, more, equal))

none_of_members : (place shape : List ℕ) (ms : List MemberGiven) → bytes_eq shape place ≡ true
    → given_under place (placed_members shape ms) ≡ []
none_of_members place shape [] h = refl
none_of_members place shape (m ∷ ms) h =
    one_list (bytes_eq (member_id shape m.name) place) m.traits (all_under place (placed_members shape ms))
    ∙ ap (λ b. (if b then m.traits else []) ++ given_under place (placed_members shape ms)) (elsewhere place shape m.name h _ refl)
    ∙ none_of_members place shape ms h

by_shape : (place : List ℕ) (s : ShapeGiven) (b : Bool) → bytes_eq s.id place ≡ b
    → given_under place ((s.id, s.traits) ∷ placed_members s.id s.members)
    ≡ (if b then s.traits else flat_map (member_traits_at place s.id) s.members)
by_shape place s true h =
    one_list (bytes_eq s.id place) s.traits (all_under place (placed_members s.id s.members))
    ∙ (λ i. (if h i then s.traits else []) ++ none_of_members place s.id s.members h i) ∙ append-nil s.traits
by_shape place s false h =
    one_list (bytes_eq s.id place) s.traits (all_under place (placed_members s.id s.members))
    ∙ (λ i. (if h i then s.traits else []) ++ of_members place s.id s.members i)

by_statement : (place : List ℕ) (s : Stated) → given_under place (placed_by s) ≡ traits_at place s
by_statement place (metadata_stated key value) = refl
by_statement place (shape_stated s) = by_shape place s.shape (bytes_eq s.shape.id place) refl
by_statement place (apply_stated id ts) =
    one_list (bytes_eq id place) ts [] ∙ append-nil (if bytes_eq id place then ts else [])

pub given_found : (place : List ℕ) (ss : List Stated) → given_under place (flat_map placed_by ss) ≡ flat_map (traits_at place) ss
given_found place [] = refl
given_found place (s ∷ ss) =
    under_joined place (placed_by s) (flat_map placed_by ss) ∙ (λ i. by_statement place s i ++ given_found place ss i)
