-- The entries of a list in a field, written one by one.
use Rattle.std.proofs.Common.{◌≡◌, ℕ, List, [], ◌∷◌, ◌++◌, true, false, refl, sym, ap, ◌∙◌, append_assoc}
use Rattle.std.specs.Prelude.{Bool, codes}
use Rattle.std.specs.List.{flat_map}
use Rattle.sm_parts.specs.HeaderLists.{written_entry, written_list}
use Rattle.sm_parts.specs.declared.list_entry.HeaderCut.{HeaderCut}
use Rattle.sm_part_texts.specs.steps.Joining.{entries_joined, gap}

behind : (cut : HeaderCut) (texts : List (List ℕ))
    → entries_joined cut false texts ≡ flat_map (λ t. codes ", " ++ written_entry cut t) texts
behind cut [] = refl
behind cut (text ∷ texts) =
    ap (λ u. codes ", " ++ (written_entry cut text ++ u)) (behind cut texts)
    ∙ sym (append_assoc (codes ", ") (written_entry cut text) (flat_map (λ t. codes ", " ++ written_entry cut t) texts))

pub entries_are : (cut : HeaderCut) (texts : List (List ℕ)) → entries_joined cut true texts ≡ written_list cut texts
entries_are cut [] = refl
entries_are cut (text ∷ texts) = ap (λ u. written_entry cut text ++ u) (behind cut texts)

-- an entry more
pub next_entry : (cut : HeaderCut) (out text : List ℕ) (first : Bool) (texts : List (List ℕ))
    → ((out ++ gap first) ++ written_entry cut text) ++ entries_joined cut false texts ≡ out ++ entries_joined cut first (text ∷ texts)
next_entry cut out text first texts =
    append_assoc (out ++ gap first) (written_entry cut text) (entries_joined cut false texts)
    ∙ append_assoc out (gap first) (written_entry cut text ++ entries_joined cut false texts)
