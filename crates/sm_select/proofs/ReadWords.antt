-- What a sign or a word that stands first leads to, and that nothing leads on where neither does.
use Rattle.std.proofs.Common.{◌≡◌, ◌⊎◌, inl, inr, ℕ, ◌≤◌, Bool, true, false, cond, List, [], ◌∷◌, ◌++◌, length, drop, Option, Some, None}
use Rattle.std.proofs.Common.{refl, sym, ap, ◌∙◌, subst, codes, arith}
use Rattle.std.specs.List.{list_all}
use Rattle.std.proofs.lemmas.List.Sums.{list_all-from_AllPass}
use Rattle.sm_ids.specs.Identifier.{IsIdentifier}
use Rattle.sm_ids.proofs.Cutting.{and_also, clash, heads, one_cut}
use Rattle.sm_model.specs.Relations.{relation_name}
use Rattle.sm_model.specs.declared.kind.Kind.{Kind}
use Rattle.sm_model.specs.declared.kind.Kind.TheVariants.{Blob, Boolean, Text, Enum, Byte, Short, Integer, IntEnum, Long, Float}
use Rattle.sm_model.specs.declared.kind.Kind.TheVariants.{Double, BigInteger}
use Rattle.sm_model.specs.declared.kind.Kind.TheVariants.{BigDecimal, Timestamp, Document, List as list_kind, Map, Structure, Union}
use Rattle.sm_model.specs.declared.kind.Kind.TheVariants.{Service, Operation, Resource}
use Rattle.sm_model.specs.declared.relation.Relation.{Relation}
use Rattle.sm_model.specs.declared.relation.Relation.TheVariants.{Member, Container, Target, Input, Output, Error}
use Rattle.sm_model.specs.declared.relation.Relation.TheVariants.{Operation as an_operation}
use Rattle.sm_model.specs.declared.relation.Relation.TheVariants.{Resource as a_resource, Identifier, Property}
use Rattle.sm_select.specs.declared.tokens.Sign.{Sign}
use Rattle.sm_select.specs.Tokens.{Token, terminal, word, TokenThen, BeginsOther, EndsInRun, GoesOnWithRun, EndsWhite, SkipsWhite}
use Rattle.sm_select.specs.Tokens.{begins_run, is_run_byte}
use Rattle.sm_select.specs.Grammar.{type_word}
use Rattle.sm_select.specs.SelectorText.{IsRun}
use Rattle.sm_select.specs.steps.Signs.{sign_text, stands, first_sign}
use Rattle.sm_select.specs.steps.Places.{Piece, sign, kind, id_word, fold_word, relation, trait, key, value, ReadAs, Place, Moves, Leads}
use Rattle.sm_select.specs.steps.Standing.{StopsAt, Passes}
use Rattle.sm_select.specs.steps.Reader.{BeginsNoRun, IsRunAt}
use Rattle.sm_select.proofs.WordBytes.{word_then, run_stops, begin_is_run, IsRunText, identifier_text, identifier_run}
use Rattle.sm_select.proofs.SignTexts.{sign_token, drop_joined}
use Rattle.sm_select.proofs.OneMove.{Want, wanted, fits, Fits, step_sign, step_kind, path_sign, path_id, a_trait_id, key_text, only_sign}
use Rattle.sm_select.proofs.OneMove.{value_text, fold_sign, the_fold, a_relation, end_sign}
use Rattle.sm_select.proofs.SignPairs.{signs_at, sign_found, sign_then, sign_no_word, sign_pair_same, some_same}
use Rattle.sm_select.proofs.TwoTokens.{id_signs, no_step_path, no_fold_path}
use Rattle.sm_select.proofs.Passing.{passes_token}

-- the word of a piece that is one word
abbrev pub Named : Piece → List ℕ → Type 0
Named (sign a) w = ⊥
Named (kind k) w = w ≡ type_word k
Named id_word w = w ≡ codes "id"
Named fold_word w = w ≡ codes "i"
Named (relation r) w = w ≡ relation_name r
Named (trait u) w = ⊥
Named (key k) w = ⊥
Named (value v) w = ⊥

-- these words are identifiers
pub type_identifier : (k : Option Kind) → IsIdentifier (type_word k)
type_identifier None = refl
type_identifier (Some Blob) = refl
type_identifier (Some Boolean) = refl
type_identifier (Some Text) = refl
type_identifier (Some Enum) = refl
type_identifier (Some Byte) = refl
type_identifier (Some Short) = refl
type_identifier (Some Integer) = refl
type_identifier (Some IntEnum) = refl
type_identifier (Some Long) = refl
type_identifier (Some Float) = refl
type_identifier (Some Double) = refl
type_identifier (Some BigInteger) = refl
type_identifier (Some BigDecimal) = refl
type_identifier (Some Timestamp) = refl
type_identifier (Some Document) = refl
type_identifier (Some list_kind) = refl
type_identifier (Some Map) = refl
type_identifier (Some Structure) = refl
type_identifier (Some Union) = refl
type_identifier (Some Service) = refl
type_identifier (Some Operation) = refl
type_identifier (Some Resource) = refl

relation_identifier : (r : Relation) → IsIdentifier (relation_name r)
relation_identifier Member = refl
relation_identifier Container = refl
relation_identifier Target = refl
relation_identifier Input = refl
relation_identifier Output = refl
relation_identifier Error = refl
relation_identifier an_operation = refl
relation_identifier a_resource = refl
relation_identifier Identifier = refl
relation_identifier Property = refl

named_identifier : (x : Piece) (w : List ℕ) → Named x w → IsIdentifier w
named_identifier (sign a) w n = absurd n
named_identifier (kind k) w n = subst IsIdentifier (sym n) (type_identifier k)
named_identifier id_word w n = subst IsIdentifier (sym n) refl
named_identifier fold_word w n = subst IsIdentifier (sym n) refl
named_identifier (relation r) w n = subst IsIdentifier (sym n) (relation_identifier r)
named_identifier (trait u) w n = absurd n
named_identifier (key k) w n = absurd n
named_identifier (value v) w n = absurd n

named_read : (x : Piece) (w : List ℕ) → Named x w → ReadAs x (word w)
named_read (sign a) w n = absurd n
named_read (kind k) w n = ap word n
named_read id_word w n = ap word n
named_read fold_word w n = ap word n
named_read (relation r) w n = ap word n
named_read (trait u) w n = absurd n
named_read (key k) w n = absurd n
named_read (value v) w n = absurd n

read_named : (x : Piece) (w : List ℕ) (t : Token) → Named x w → ReadAs x t → t ≡ word w
read_named (sign a) w t n e = absurd n
read_named (kind k) w t n e = e ∙ ap word (sym n)
read_named id_word w t n e = e ∙ ap word (sym n)
read_named fold_word w t n e = e ∙ ap word (sym n)
read_named (relation r) w t n e = e ∙ ap word (sym n)
read_named (trait u) w t n e = absurd n
read_named (key k) w t n e = absurd n
read_named (value v) w t n e = absurd n

-- where a named word fits, all that fits is a sign or a named word
sign_or_named : {w : Want} {x y : Piece} → Fits w x → Fits w y → (v : List ℕ) → Named x v → (t : Token) → ReadAs y t
    → ((a : Sign) × (y ≡ sign a)) ⊎ ((u : List ℕ) × Named y u × (t ≡ word u))
sign_or_named step_sign step_sign v n t e = absurd n
sign_or_named step_sign step_kind v n t e = absurd n
sign_or_named step_kind (step_sign {s = a}) v n t e = inl (a, refl)
sign_or_named step_kind (step_kind {k = k}) v n t e = inr (type_word k, refl, e)
sign_or_named path_sign path_sign v n t e = absurd n
sign_or_named path_sign path_id v n t e = absurd n
sign_or_named path_id (path_sign {s = a}) v n t e = inl (a, refl)
sign_or_named path_id path_id v n t e = inr (codes "id", refl, e)
sign_or_named a_trait_id a_trait_id v n t e = absurd n
sign_or_named key_text key_text v n t e = absurd n
sign_or_named only_sign only_sign v n t e = absurd n
sign_or_named value_text value_text v n t e = absurd n
sign_or_named fold_sign fold_sign v n t e = absurd n
sign_or_named fold_sign the_fold v n t e = absurd n
sign_or_named the_fold (fold_sign {s = a}) v n t e = inl (a, refl)
sign_or_named the_fold the_fold v n t e = inr (codes "i", refl, e)
sign_or_named a_relation (a_relation {r = r}) v n t e = inr (relation_name r, refl, e)
sign_or_named end_sign end_sign v n t e = absurd n

-- the run that stands first is a word's text where an identifier is a token there
pub no_bracket : (c : ℕ) (s : List ℕ) → begins_run c ≡ true → BeginsOther (c ∷ s) → ⊥
no_bracket c s h (inl (more, e)) = absurd (let f : false ≡ true = subst (λ x. begins_run x ≡ true) (heads c 60 s (45 ∷ 91 ∷ more) e) h in
    cc)
no_bracket c s h (inr (more, e)) = absurd (let f : false ≡ true = subst (λ x. begins_run x ≡ true) (heads c 91 s (64 ∷ more) e) h in cc)

pub run_all : (run s behind : List ℕ) → IsRun run s behind → list_all is_run_byte run ≡ true
run_all run s behind r = subst (λ x. list_all is_run_byte x ≡ true) (sym r.is)
    (and_also (is_run_byte r.first) (list_all is_run_byte r.more) (begin_is_run r.first r.begins) (list_all-from_AllPass is_run_byte
    r.more r.goes_on))

pub identifier_at : (v s b : List ℕ) → IsIdentifier v → TokenThen (word v) s b → (run : List ℕ) → IsRunAt s run
    → (v ≡ run) × (drop (length run) s ≡ b)
identifier_at v s b is then run (inl (none, e)) = by_text (identifier_text v is)
  where
    by_text : IsRunText v → (v ≡ run) × (drop (length run) s ≡ b)
    by_text t = absurd (clash (begins_run t.first) t.begins
        (subst BeginsNoRun ((word_then v s b then).spelled ∙ ap (λ x. x ++ b) t.is) none))
identifier_at v s b is then run (inr (behind, r)) =
    let t = word_then v s b then in
    let cut = one_cut is_run_byte v run b behind (identifier_run v is) (run_all run s behind r) t.ends (run_stops behind r.ends)
    (sym t.spelled ∙ r.spelled) in
    (cut.0, ap (drop (length run)) r.spelled ∙ drop_joined run behind ∙ sym cut.1)

-- and the other way round
pub run_token : (w s : List ℕ) → IsIdentifier w → IsRunAt s w → TokenThen (word w) s (drop (length w) s)
run_token w s is (inl (none, e)) = absurd (let f : IsIdentifier [] = subst IsIdentifier e is in let g : false ≡ true = f in cc)
run_token w s is (inr (behind, r)) =
    let rest : drop (length w) s ≡ behind = ap (drop (length w)) r.spelled ∙ drop_joined w behind in
    record {
      bytes = w;
      is_token = (refl, inl is);
      spelled = r.spelled ∙ ap (λ x. w ++ x) (sym rest);
      may_end = subst (λ x. EndsInRun w → GoesOnWithRun x → ⊥) (sym rest) (λ _ g. r.ends g);
      not_other = subst (λ x. BeginsOther x → ⊥) (sym (r.spelled ∙ ap (λ x. x ++ behind) r.is))
          (no_bracket r.first (r.more ++ behind) r.begins);
    }

-- a named word that stands first, and no sign
module _ (p q : Place) (x : Piece) (w s r : List ℕ) (at : IsRunAt s w) (named : Named x w) (moves : Moves p x q)
    (no_sign : first_sign (signs_at (wanted p)) s ≡ None)
    (gone : SkipsWhite (drop (length w) s) r)
    (dark : EndsWhite r) where
  no_sign_here : (a : Sign) (n : Place) (u : Token) (b : List ℕ) → Moves p (sign a) n → ReadAs (sign a) u → TokenThen u s b → ⊥
  no_sign_here a n u b m e h = absurd (let f : None ≡ Some a = sym no_sign ∙ sign_found p n a s b m (sign_then a u s b e h) in cc)

  longest : (u : Token) (n : Place) (b : List ℕ) → Leads p u n → TokenThen u s b → length (drop (length w) s) ≤ length b
  longest u n b l h = elim (sign_or_named (fits moves) (fits l.moves) w named u l.read) [
    | inl (a, e) ↦ absurd (no_sign_here a n u b (subst (λ y. Moves p y n) e l.moves) (subst (λ y. ReadAs y u) e l.read) h)
    | inr (v, other, e) ↦ let same = identifier_at v s b (named_identifier l.piece v other) (subst (λ y. TokenThen y s b) e h) w at in
        let size = ap length same.1 in omega arith
  ]

  pub word_passes : Passes p s q r
  word_passes = passes_token p q (word w) s (drop (length w) s) r (record { piece = x; read = named_read x w named; moves = moves })
      (run_token w s (named_identifier x w named) at) longest gone dark

-- a sign that stands first
stands_first : (c : Sign) (signs : List Sign) (s : List ℕ) (a : Sign) → (first_sign signs s ≡ Some a → stands a s ≡ true) → (b : Bool)
    → stands c s ≡ b
    → cond b (Some c) (first_sign signs s) ≡ Some a
    → stands a s ≡ true
stands_first c signs s a later true h f = subst (λ y. stands y s ≡ true) (some_same c a f) h
stands_first c signs s a later false h f = later f

pub first_stands : (signs : List Sign) (s : List ℕ) (a : Sign) → first_sign signs s ≡ Some a → stands a s ≡ true
first_stands [] s a e = absurd cc
first_stands (c ∷ signs) s a e = stands_first c signs s a (first_stands signs s a) (stands c s) refl e

two_signs : (p q n : Place) (a c : Sign) (t u : Token) (s r b : List ℕ) → Moves p (sign a) q → Moves p (sign c) n → ReadAs (sign a) t
    → ReadAs (sign c) u
    → TokenThen t s r
    → TokenThen u s b
    → length r ≤ length b
two_signs p q n a c t u s r b m o e f h k =
    let same = sign_pair_same p q n a c t u s r b m o e f h k in let size = ap length same.1 in omega arith

sign_longest : {w : Want} {y : Piece} (a : Sign) → Fits w (sign a) → Fits w y → (p q n : Place) (t u : Token) (s r b : List ℕ) → wanted p
    ≡ w
    → Moves p (sign a) q
    → Moves p y n
    → ReadAs (sign a) t
    → ReadAs y u
    → TokenThen t s r
    → TokenThen u s b
    → length r ≤ length b
sign_longest a step_sign (step_sign {s = c}) p q n t u s r b at m o e f h k = two_signs p q n a c t u s r b m o e f h k
sign_longest a step_sign (step_kind {k = j}) p q n t u s r b at m o e f h k =
    absurd (sign_no_word p q a t u s r b (type_word j) m (λ g. no_step_path (sym at ∙ g)) e f h k)
sign_longest a path_sign (path_sign {s = c}) p q n t u s r b at m o e f h k = two_signs p q n a c t u s r b m o e f h k
sign_longest a path_sign path_id p q n t u s r b at m o e f h k = let d = id_signs p q n a t u s r b m o e f h k in let l = d.1 in omega
    arith
sign_longest a only_sign (only_sign {s = c}) p q n t u s r b at m o e f h k = two_signs p q n a c t u s r b m o e f h k
sign_longest a fold_sign (fold_sign {s = c}) p q n t u s r b at m o e f h k = two_signs p q n a c t u s r b m o e f h k
sign_longest a fold_sign the_fold p q n t u s r b at m o e f h k =
    absurd (sign_no_word p q a t u s r b (codes "i") m (λ g. no_fold_path (sym at ∙ g)) e f h k)
sign_longest a end_sign (end_sign {s = c}) p q n t u s r b at m o e f h k = two_signs p q n a c t u s r b m o e f h k

pub sign_passes : (p q : Place) (a : Sign) (s r : List ℕ) → stands a s ≡ true → Moves p (sign a) q
    → SkipsWhite (drop (length (sign_text a)) s) r
    → EndsWhite r
    → Passes p s q r
sign_passes p q a s r stands moves gone dark =
    let then = sign_token a s stands in
    passes_token p q (terminal (sign_text a)) s (drop (length (sign_text a)) s) r (record { piece = sign a; read = refl; moves = moves })
    then
    (λ u n b l h. sign_longest a (fits moves) (fits l.moves) p q n (terminal (sign_text a)) u s (drop (length (sign_text a)) s) b refl moves
    l.moves refl l.read then h)
    gone dark

-- where only signs are wanted, and none leads on
abbrev pub NoSign : Place → List ℕ → Type 0
NoSign p s = (a : Sign) (q : Place) → first_sign (signs_at (wanted p)) s ≡ Some a → Moves p (sign a) q → ⊥

pub none_no_sign : (p : Place) (s : List ℕ) → first_sign (signs_at (wanted p)) s ≡ None → NoSign p s
none_no_sign p s none a q e m = absurd (let f : None ≡ Some a = sym none ∙ e in cc)

sign_stops : (p q : Place) (s r : List ℕ) (a : Sign) (t : Token) → NoSign p s → Moves p (sign a) q → ReadAs (sign a) t → TokenThen t s r → ⊥
sign_stops p q s r a t none m e h = none a q (sign_found p q a s r m (sign_then a t s r e h)) m

-- where a named word is wanted and the run is none
pub named_stops : (p : Place) (s w : List ℕ) → NoSign p s → IsRunAt s w
    → ((x : Piece) (q : Place) → Moves p x q → ((v : List ℕ) × Named x v) ⊎ ((a : Sign) × (x ≡ sign a)))
    → ((x : Piece) (q : Place) → Moves p x q → Named x w → ⊥)
    → StopsAt p s
named_stops p s w no_sign at kinds none t r q h l = elim (kinds l.piece q l.moves) [
  | inl (v, named) ↦ by_word v named
  | inr (a, e) ↦ sign_stops p q s r a t no_sign (subst (λ y. Moves p y q) e l.moves) (subst (λ y. ReadAs y t) e l.read) h
]
  where
    by_same : (v : List ℕ) → Named l.piece v → (v ≡ w) → ⊥
    by_same v named e = none l.piece q l.moves (subst (Named l.piece) e named)

    by_word : (v : List ℕ) → Named l.piece v → ⊥
    by_word v named = by_same v named
        (identifier_at v s r (named_identifier l.piece v named) (subst (λ y. TokenThen y s r) (read_named l.piece v t named l.read) h) w
        at).0

-- where only signs lead on
pub signs_stop : (p : Place) (s : List ℕ) → NoSign p s → ((x : Piece) (q : Place) → Moves p x q → (a : Sign) × (x ≡ sign a)) → StopsAt p s
signs_stop p s no_sign kinds t r q h l = by_sign (kinds l.piece q l.moves)
  where
    by_sign : (a : Sign) × (l.piece ≡ sign a) → ⊥
    by_sign (a, e) = sign_stops p q s r a t no_sign (subst (λ y. Moves p y q) e l.moves) (subst (λ y. ReadAs y t) e l.read) h
