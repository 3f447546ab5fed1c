-- The rows of a shape's members in the order of their ids.
use Rattle.std.proofs.Common.{◌≡◌, inl, inr, ⊎_elim, ℕ, true, Bool, List, [], ◌∷◌, map, length, IsPermutation, refl, sym, ap, subst, ◌∙◌}
use Rattle.std.specs.List.{list_all}
use Rattle.std.proofs.lemmas.List.{length-map, append_cancel_left}
use Rattle.std.proofs.lemmas.List.Sorted.{IsPermutation-sym, IsPermutation-map, length_permutation, All-permutation}
use Rattle.std.proofs.lemmas.List.Sums.{AllPass-from_list_all, list_all-from_AllPass}
use Rattle.sm_model.specs.Formed.{StandsAmong, DifferInNames}
use Rattle.sm_model.specs.Given.{AreGivenMembers, given_names}
use Rattle.sm_model.specs.Graphs.{MemberGiven, member_id, given_members}
use Rattle.sm_model.specs.GraphRows.{id_of_row, ids_of, is_sound_row, row_entry}
use Rattle.sm_model.specs.steps.Blocks.{AreMemberRows, AreMemberIds, AreNamesIn, AreNumbers, IsMemberBlock}
use Rattle.sm_model.specs.steps.Rising.{Rise}
use Rattle.sm_model.specs.declared.graph.rows.GraphRow.{GraphRow}
use Rattle.sm_model.proofs.Moved.{along_permutation, keeps_names}
use Rattle.sm_model.proofs.Sorting.{map_twice}

-- names that differ give ids that differ
tail : List ℕ → List ℕ
tail [] = []
tail (c ∷ cs) = cs

same_name : (shape m n : List ℕ) → member_id shape m ≡ member_id shape n → m ≡ n
unfolding tail
same_name shape m n e = ap tail (append_cancel_left shape (36 ∷ m) (36 ∷ n) e)

stands_unmapped : (shape k : List ℕ) (ks : List (List ℕ)) → StandsAmong (member_id shape k) (map (member_id shape) ks) → StandsAmong k ks
stands_unmapped shape k [] s = s
stands_unmapped shape k (j ∷ js) s = ⊎_elim (λ e. inl (same_name shape k j e)) (λ t. inr (stands_unmapped shape k js t)) s

differ_mapped : (shape : List ℕ) (ks : List (List ℕ)) → DifferInNames ks → DifferInNames (map (member_id shape) ks)
differ_mapped shape [] d = tt
differ_mapped shape (k ∷ ks) d = ((λ s. d.0 (stands_unmapped shape k ks s)), differ_mapped shape ks d.1)

-- the ids of members' rows
given_member_ids : (shape : List ℕ) (ms : List MemberGiven) → map (λ e. e.0) (given_members shape ms) ≡ map (member_id shape)
    (given_names ms)
given_member_ids shape [] = refl
given_member_ids shape (m ∷ ms) = ap (λ ids. member_id shape m.name ∷ ids) (given_member_ids shape ms)

pub member_ids : (shape : List ℕ) (ms : List MemberGiven) (rows : List GraphRow) → AreMemberRows shape ms rows
    → ids_of rows ≡ map (member_id shape) (given_names ms)
member_ids shape ms rows h =
    sym (map_twice (row_entry []) (λ e. e.0) rows) ∙ ap (map (λ e. e.0)) (h.entries []) ∙ given_member_ids shape ms

pub member_ids_differ : (shape : List ℕ) (ms : List MemberGiven) (rows : List GraphRow) → AreMemberRows shape ms rows
    → DifferInNames (given_names ms) → DifferInNames (ids_of rows)
member_ids_differ shape ms rows h differ =
    subst DifferInNames (sym (member_ids shape ms rows h)) (differ_mapped shape (given_names ms) differ)

pub as_many : (shape : List ℕ) (ms : List MemberGiven) (rows : List GraphRow) → AreMemberRows shape ms rows → length rows ≡ length ms
as_many shape ms rows h =
    sym (length-map rows (row_entry [])) ∙ ap length (h.entries []) ∙ length-map ms _

names_in : (shape : List ℕ) (ids : List (List ℕ)) (ms : List MemberGiven)
    → ((k : List ℕ) → StandsAmong k (map (member_id shape) (given_names ms)) → StandsAmong k ids)
    → AreGivenMembers ms → AreNamesIn ids shape (given_names ms)
names_in shape ids [] f h = tt
names_in shape ids (m ∷ ms) f h = (h.0, f (member_id shape m.name) (inl refl), names_in shape ids ms (λ k s. f k (inr s)) h.3)

are_member_ids : (shape : List ℕ) (ms : List MemberGiven) → AreGivenMembers ms → AreMemberIds shape (map (member_id shape) (given_names ms))
are_member_ids shape [] h = tt
are_member_ids shape (m ∷ ms) h = ((m.name, h.0, refl), are_member_ids shape ms h.3)

moved_member_ids : (shape : List ℕ) (xs ys : List GraphRow) → IsPermutation xs ys → AreMemberIds shape (ids_of xs)
    → AreMemberIds shape (ids_of ys)
moved_member_ids shape = along_permutation (λ xs ys. AreMemberIds shape (ids_of xs) → AreMemberIds shape (ids_of ys))
    (λ xs h. h)
    (λ x xs ys f h. (h.0, f h.1))
    (λ x y xs h. (h.1.0, (h.0, h.1.1)))
    (λ xs ys zs f g h. g (f h))

all_moved : {X : Type 0} (p : X → Bool) (xs ys : List X) → IsPermutation xs ys → list_all p xs ≡ true → list_all p ys ≡ true
all_moved p xs ys moved h = list_all-from_AllPass p ys (All-permutation (λ x. p x ≡ true) xs ys moved (AllPass-from_list_all p xs h))

module _ (shape : List ℕ) (ms : List MemberGiven) (rows sorted : List GraphRow) (h : AreMemberRows shape ms rows)
    (given : AreGivenMembers ms) (moved : IsPermutation rows sorted) where
  pub sorted_names : AreNamesIn (ids_of sorted) shape (given_names ms)
  sorted_names = names_in shape (ids_of sorted) ms
      (λ k s. (keeps_names id_of_row sorted rows (IsPermutation-sym rows sorted moved)).stand k
      (subst (StandsAmong k) (sym (member_ids shape ms rows h)) s)) given

  pub as_many_sorted : length sorted ≡ length ms
  as_many_sorted = length_permutation rows sorted moved ∙ as_many shape ms rows h

  pub member_block : (first : ℕ) (numbers : List ℕ) → Rise (ids_of sorted) → AreNumbers first sorted shape (given_names ms) numbers
      → IsMemberBlock first shape ms numbers sorted
  member_block first numbers rise numbered = record {
    rise = rise;
    members = moved_member_ids shape rows sorted moved (subst (AreMemberIds shape) (sym (member_ids shape ms rows h))
        (are_member_ids shape ms given));
    entries = λ ids. subst (λ es. IsPermutation es (map (row_entry ids) sorted)) (h.entries ids)
        (IsPermutation-map (row_entry ids) rows sorted moved);
    sound = λ n. all_moved (is_sound_row n) rows sorted moved (h.sound n);
    numbered = numbered;
  }
