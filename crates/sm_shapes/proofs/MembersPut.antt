-- Something put at each member of a table, one after the other: defaults, or bindings.
use Rattle.std.proofs.Common.{◌≡◌, ℕ, List, [], ◌∷◌, ◌++◌, map, length, set, take, drop, get_or, refl, sym, ap, ◌∙◌}
use Rattle.std.proofs.lemmas.List.{map-append, set-get_or, take-append-drop, with_items_is}
use Rattle.std.specs.Global.{Vec}
use Rattle.std.specs.Vec.{with_items}
use Rattle.sm_shapes.specs.TableData.{MemberData}
use Rattle.sm_shapes.specs.MemberPuts.{put_each}

none_put : {X : Type 0} (put : MemberData → X → MemberData) (ms : List MemberData) → put_each put ms [] ≡ ms
none_put put [] = refl
none_put put (m ∷ ms) = refl

-- `put` is a member with what is put there, and `f` what a row stands for
module _ {A X : Type 0} (put : MemberData → X → MemberData) (f : A → MemberData) where
  -- the members so far, and those behind them with what is left
  abbrev pub put_up_to : ℕ → List A → List X → List MemberData
  put_up_to i rows xs = map f (take i rows) ++ put_each put (map f (drop i rows)) xs

  put_none : (i : ℕ) (rows : List A) → map f rows ≡ put_up_to i rows []
  put_none i rows =
      sym (
      ap (λ ms. map f (take i rows) ++ ms) (none_put put (map f (drop i rows)))
      ∙ sym (map-append f (take i rows) (drop i rows))
      ∙ ap (map f) (take-append-drop i rows)
      )

  -- a vector of rows, of which the one at hand is put back as it was, where nothing is left to put
  pub put_back : (v : Vec A) (i : ℕ) (rows : List A) (d : A) (xs : List X) (ms : List MemberData) → length rows ≡ v.len
      → xs ≡ [] → put_up_to i rows xs ≡ ms → map f (with_items v (set rows i (get_or rows i d))).items ≡ ms
  put_back v i rows d xs ms long empty all =
      ap (map f) (with_items_is v (set rows i (get_or rows i d)) (ap length (set-get_or rows i d) ∙ long) ∙ set-get_or rows i d)
      ∙ put_none i rows ∙ sym (ap (put_up_to i rows) empty) ∙ all
