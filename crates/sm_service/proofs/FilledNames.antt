-- Each member of a graph has a name.
use Rattle.std.proofs.Common.{◌≡◌, ℕ, Bool, true, List, [], ◌∷◌, ◌++◌, refl, sym, ap, ◌∙◌}
use Rattle.std.specs.FinMap as fin
use Rattle.std.specs.FinMap.{get-from_entries}
use Rattle.std.specs.Cmp.Lexicographic.{nat_list_cmp_total}
use Rattle.std.specs.List.{list_all}
use Rattle.sm_ids.specs.Identifier.{IsIdentifier, is_identifier_byte}
use Rattle.sm_ids.proofs.Identifiers.{made_of_bytes}
use Rattle.sm_model.specs.FormedGraph.{IsFormedGraph}
use Rattle.sm_model.specs.Given.{AreGivenMembers, AreGivenShapes}
use Rattle.sm_model.specs.Graphs.{Entry, GraphMaps, MemberGiven, ShapeGiven, given_entries, given_members, given_shape, member_entry}
use Rattle.sm_model.specs.Graphs.{member_id, shape_entry}
use Rattle.sm_model.proofs.MapFacts.{Each, each_joined}
use Rattle.sm_model.proofs.Worklist.{apart}
use Rattle.sm_compile.proofs.SoundTests.{first_of, second_of}
use Rattle.sm_accepted.proofs.GivenShapes.{found_each}
use Rattle.sm_service.specs.steps.WalkStarts.{HasFilledNames}

-- the last byte of a text
abbrev last_byte : ℕ → List ℕ → ℕ
last_byte c [] = c
last_byte c (d ∷ ds) = last_byte d ds

last_behind : (c : ℕ) (xs : List ℕ) (d : ℕ) (ds : List ℕ) → last_byte c (xs ++ d ∷ ds) ≡ last_byte d ds
last_behind c [] d ds = refl
last_behind c (x ∷ xs) d ds = last_behind x xs d ds

last_passes : (p : ℕ → Bool) (c : ℕ) (cs : List ℕ) → list_all p (c ∷ cs) ≡ true → p (last_byte c cs) ≡ true
last_passes p c [] h = first_of (p c) true h
last_passes p c (d ∷ ds) h = last_passes p d ds (second_of (p c) (list_all p (d ∷ ds)) h)

named_end : (name : List ℕ) → IsIdentifier name → is_identifier_byte (last_byte 36 name) ≡ true
named_end [] is = absurd (apart is)
named_end (c ∷ cs) is = last_passes is_identifier_byte c cs (made_of_bytes (c ∷ cs) is)

no_bare : (id shape name : List ℕ) → IsIdentifier name → member_id id name ≡ member_id shape [] → ⊥
no_bare id shape name is same =
    let ends = sym (last_behind 0 id 36 name) ∙ ap (last_byte 0) same ∙ last_behind 0 shape 36 [] in
    apart (sym (ap is_identifier_byte ends) ∙ named_end name is)

-- what stands under an id is no member without a name
abbrev IsNamed : List ℕ → Entry → Type 0
IsNamed id (shape_entry s) = Unit {0}
IsNamed id (member_entry m) = (shape : List ℕ) → id ≡ member_id shape [] → ⊥

named_members : (id : List ℕ) (ms : List MemberGiven) → AreGivenMembers ms → Each IsNamed (given_members id ms)
named_members id [] h = tt
named_members id (m ∷ ms) h = ((λ shape. no_bare id shape m.name h.0), named_members id ms h.3)

named_entries : (ss : List ShapeGiven) → AreGivenShapes ss → Each IsNamed (given_entries ss)
named_entries [] h = tt
named_entries (s ∷ ss) h =
    each_joined IsNamed (given_shape s) (given_entries ss) (tt, named_members s.id s.members h.0.members) (named_entries ss h.1)

pub names_filled : (g : GraphMaps) → IsFormedGraph g → HasFilledNames g
names_filled g f shape m there =
    let found = sym (ap (λ (x : GraphMaps). fin.get x.shapes (member_id shape [])) f.is
    ∙ get-from_entries nat_list_cmp_total (given_entries f.shapes) (member_id shape [])) ∙ there in
    found_each IsNamed (member_id shape []) (member_entry m) (given_entries f.shapes) (named_entries f.shapes f.given.each) found shape refl
