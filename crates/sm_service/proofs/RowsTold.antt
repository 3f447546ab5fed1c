-- Rows told one after the other, and rows at each of which something is put.
use Rattle.std.proofs.Common.{◌≡◌, ℕ, ◌+◌, ◌<◌, List, [], ◌∷◌, ◌++◌, map, length, set, take, drop, get_or, refl, sym, ap, ◌∙◌, subst}
use Rattle.std.specs.Global.{Vec}
use Rattle.std.specs.List.{Contains, flat_map}
use Rattle.std.specs.Vec.{with_items}
use Rattle.std.proofs.lemmas.List.{append-nil, map-append, set-get_or, take-append-drop, take_more, with_items_is}
use Rattle.std.proofs.lemmas.Grind.{flat_map-append}
use Rattle.sm_model.proofs.OneRising.{contains_behind, contains_head}
use Rattle.sm_shapes.specs.MemberPuts.{put_each}
use Rattle.sm_shapes.specs.TableData.{MemberData}
use Rattle.sm_compile.specs.Compiled.{EachSays}
use Rattle.sm_service.specs.steps.BindingsTold.{put_rows}

-- a row more
module _ {D : Type 0} (Says : List ℕ → D → Type 0) where
  told_more : (ids : List (List ℕ)) (ds : List D) (id : List ℕ) (d : D) → EachSays Says ids ds → Says id d
      → EachSays Says (ids ++ id ∷ []) (ds ++ d ∷ [])
  told_more [] [] id d h k = (k, tt)
  told_more [] (e ∷ ds) id d h k = absurd h
  told_more (i ∷ ids) [] id d h k = absurd h
  told_more (i ∷ ids) (e ∷ ds) id d h k = (h.0, told_more ids ds id d h.1 k)

  pub row_more : (name : ℕ → List ℕ) (ks : List ℕ) (i : ℕ) (before now : List D) (d : D) → i < length ks → now ≡ before ++ d ∷ []
      → EachSays Says (map name (take i ks)) before → Says (name (get_or ks i 0)) d → EachSays Says (map name (take (i + 1) ks)) now
  row_more name ks i before now d lt put h says =
      let more : map name (take (i + 1) ks) ≡ map name (take i ks) ++ name (get_or ks i 0) ∷ [] =
      ap (map name) (take_more ks i 0 lt) ∙ map-append name (take i ks) (get_or ks i 0 ∷ []) in
      subst (λ ids. EachSays Says ids now) (sym more)
      (subst (EachSays Says (map name (take i ks) ++ name (get_or ks i 0) ∷ [])) (sym put)
      (told_more (map name (take i ks)) before (name (get_or ks i 0)) d h says))

-- what each of more things has
pub flat_more : (f : List ℕ → List (List ℕ)) (name : ℕ → List ℕ) (ks : List ℕ) (i : ℕ) → i < length ks
    → flat_map f (map name (take (i + 1) ks)) ≡ flat_map f (map name (take i ks)) ++ f (name (get_or ks i 0))
flat_more f name ks i lt =
    ap (λ (xs : List ℕ). flat_map f (map name xs)) (take_more ks i 0 lt)
    ∙ ap (flat_map f) (map-append name (take i ks) (get_or ks i 0 ∷ []))
    ∙ flat_map-append f (map name (take i ks)) (name (get_or ks i 0) ∷ [])
    ∙ ap (λ ys. flat_map f (map name (take i ks)) ++ ys) (append-nil (f (name (get_or ks i 0))))

-- what each row says, by what is told of it
pub each_along : {D : Type 0} (P Q : List ℕ → D → Type 0) (ids : List (List ℕ)) (ds : List D) → ((id : List ℕ) (d : D) → P id d → Q id d)
    → EachSays P ids ds → EachSays Q ids ds
each_along P Q [] [] along h = tt
each_along P Q [] (d ∷ ds) along h = absurd h
each_along P Q (id ∷ ids) [] along h = absurd h
each_along P Q (id ∷ ids) (d ∷ ds) along h = (along id d h.0, each_along P Q ids ds along h.1)

-- what rows say where something is put that is told of them
module _ {D X : Type 0} (P R : List ℕ → D → Type 0) (Q : List ℕ → X → Type 0) (put : D → X → D) where
  pub put_says : (ids : List (List ℕ)) → ((id : List ℕ) (d : D) (x : X) → Contains ids id → P id d → Q id x → R id (put d x))
      → (ds : List D) (xs : List X) → EachSays P ids ds → EachSays Q ids xs → EachSays R ids (put_rows put ds xs)
  put_says [] says [] xs p q = tt
  put_says [] says (d ∷ ds) xs p q = absurd p
  put_says (id ∷ ids) says [] xs p q = absurd p
  put_says (id ∷ ids) says (d ∷ ds) [] p q = absurd q
  put_says (id ∷ ids) says (d ∷ ds) (x ∷ xs) p q = (
    says id d x (contains_head id ids) p.0 q.0,
    put_says ids (λ i e y among. says i e y (contains_behind id i ids among)) ds xs p.1 q.1,
  )

-- what doesn't see what is put stays
pub put_unseen : {D X B : Type 0} (f : D → B) (put : D → X → D) → ((d : D) (x : X) → f (put d x) ≡ f d) → (ds : List D) (xs : List X)
    → map f (put_rows put ds xs) ≡ map f ds
put_unseen f put same [] xs = refl
put_unseen f put same (d ∷ ds) [] = refl
put_unseen f put same (d ∷ ds) (x ∷ xs) =
    ap (λ b. b ∷ map f (put_rows put ds xs)) (same d x) ∙ ap (λ bs. f d ∷ bs) (put_unseen f put same ds xs)

pub put_members : {X : Type 0} (put : MemberData → X → MemberData) (ds : List MemberData) (xs : List X)
    → put_each put ds xs ≡ put_rows put ds xs
put_members put [] xs = refl
put_members put (d ∷ ds) [] = refl
put_members put (d ∷ ds) (x ∷ xs) = ap (λ es. put d x ∷ es) (put_members put ds xs)

none_put : {D X : Type 0} (put : D → X → D) (ds : List D) → put_rows put ds [] ≡ ds
none_put put [] = refl
none_put put (d ∷ ds) = refl

-- rows of the code, the first ones with what was put, and those behind them with what is left: `f` is what a row stands for
module _ {A D X : Type 0} (put : D → X → D) (f : A → D) where
  abbrev pub put_up_to : ℕ → List A → List X → List D
  put_up_to i rows xs = map f (take i rows) ++ put_rows put (map f (drop i rows)) xs

  put_none : (i : ℕ) (rows : List A) → map f rows ≡ put_up_to i rows []
  put_none i rows =
      sym (
      ap (λ ds. map f (take i rows) ++ ds) (none_put put (map f (drop i rows)))
      ∙ sym (map-append f (take i rows) (drop i rows))
      ∙ ap (map f) (take-append-drop i rows)
      )

  -- a vector of rows, of which the one at hand is put back as it was, where nothing is left to put
  pub put_back : (v : Vec A) (i : ℕ) (rows : List A) (d : A) (xs : List X) (ds : List D) → length rows ≡ v.len
      → xs ≡ [] → put_up_to i rows xs ≡ ds → map f (with_items v (set rows i (get_or rows i d))).items ≡ ds
  put_back v i rows d xs ds long empty all =
      ap (map f) (with_items_is v (set rows i (get_or rows i d)) (ap length (set-get_or rows i d) ∙ long) ∙ set-get_or rows i d)
      ∙ put_none i rows ∙ sym (ap (put_up_to i rows) empty) ∙ all
