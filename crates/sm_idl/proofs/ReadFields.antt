-- What the parts of a field's reading say of it: a key, a colon and a node, for each kind of key.
use Rattle.std.proofs.Common.{◌≡◌, ℕ, Bool, true, false, List, codes, refl, sym, ap, subst, ◌∙◌}
use Rattle.sm_model.specs.Properties.{TypeFields}
use Rattle.sm_model.specs.Raw.{Raw, raw_list, raws_of, raw_id}
use Rattle.sm_model.specs.declared.property.PropertyForm.{PropertyForm}
use Rattle.sm_model.specs.declared.reference.Ref.{Ref}
use Rattle.sm_idl.specs.Productions.{Tokens, Production, one, gives, ◌>>=◌, ◌>>◌, each, many}
use Rattle.sm_idl.specs.Words.{mark, word_that}
use Rattle.sm_idl.specs.Nodes.{Home, written, IsNodeId, Pair, as_object}
use Rattle.sm_idl.specs.Bodies.{reference, references, FieldNamed, braced_pairs}
use Rattle.sm_idl.specs.declared.reader.ReadStop.{ReadStop}
use Rattle.sm_idl.specs.steps.Classes.{AMark, AnyWord, NoMark}
use Rattle.sm_idl.specs.steps.FieldSteps.{IsIdKey, id_key, under}
use Rattle.sm_idl.specs.steps.Firm.{AreApart, IsFirm}
use Rattle.sm_idl.specs.steps.ReaderView.{NoToken, StopsIn}
use Rattle.sm_idl.specs.steps.Reading.{IsRead}
use Rattle.sm_idl.proofs.TokenClasses.{mark_no_word, mark_no_leaf, turned}
use Rattle.sm_idl.proofs.FirmShort.{token_firm}
use Rattle.sm_idl.proofs.FirmNodes.{mark_firm, key_no_mark, pair_firm}
use Rattle.sm_idl.proofs.FirmBodies.{reference_firm, renaming_firm, one_field}
use Rattle.sm_idl.proofs.OneSaying.{one_key}
use Rattle.sm_idl.proofs.Passing.{stops_first, stops_behind}
use Rattle.sm_idl.proofs.Bracketed as bracketed

-- a key, a colon and a node
module _ {K : Type 0} (Key : Production K) (keys : IsFirm ⊥ NoMark NoToken Key) (value : K → Production Raw) (made : K → Raw → Pair) where
  abbrev behind_key : K → Production Pair
  behind_key k = mark (codes ":") >> (value k >>= (λ n. gives (made k n)))

  abbrev pub keyed : Production Pair
  keyed = Key >>= behind_key

  pub keyed_key_stop : (s r : Tokens) (stop : ReadStop) → StopsIn NoToken Key s r stop → StopsIn NoToken keyed s r stop
  keyed_key_stop s r stop k = stops_first NoToken Key behind_key s r stop k

  pub keyed_colon_stop : (k : K) (s a r : Tokens) (stop : ReadStop) → Key.whole k s a → StopsIn NoToken (mark (codes ":")) a r stop
      → StopsIn NoToken keyed s r stop
  keyed_colon_stop k s a r stop h m =
      stops_behind NoToken Key behind_key keys k s a r stop h (stops_first NoToken (mark (codes ":")) _ a r stop m)

  pub keyed_value_stop : (k : K) (s a b r : Tokens) (stop : ReadStop) → Key.whole k s a → (mark (codes ":")).whole tt a b
      → StopsIn NoToken (value k) b r stop → StopsIn NoToken keyed s r stop
  keyed_value_stop k s a b r stop h m v =
      stops_behind NoToken Key behind_key keys k s a r stop h
      (stops_behind NoToken (mark (codes ":")) _ (mark_firm (codes ":")) tt a b r stop m (stops_first NoToken (value k) _ b r stop v))

  pub keyed_read : (k : K) (n : Raw) (s a b r : Tokens) → Key.whole k s a → (mark (codes ":")).whole tt a b → (value k).whole n b r
      → keyed.whole (made k n) s r
  keyed_read k n s a b r h colon v = (k, a, h, (tt, b, colon, (n, r, v, (refl, refl))))

abbrev pub paired : List ℕ → Raw → Pair
paired k n = (k, n)

abbrev pub under_name : List ℕ × PropertyForm → Raw → Pair
under_name f n = (f.0, n)

pub id_key_firm : (before : List Pair) → IsFirm ⊥ NoMark NoToken (id_key before)
id_key_firm before = token_firm (IsIdKey before) NoMark (λ t j k h m. one_key t j k h.0 m.0) (λ t k h. key_no_mark t k h.0)

pub field_key_firm : (fields : TypeFields) (before : List Pair) → IsFirm ⊥ NoMark NoToken (one (FieldNamed fields before))
field_key_firm fields before = token_firm (FieldNamed fields before) NoMark (one_field fields before) (λ t f h. key_no_mark t f.0 h.0)

pub under_firm : (home : Home) (renames : Bool) (before : List Pair) → IsFirm ⊥ NoMark NoToken (under home renames before)
under_firm home true before = renaming_firm before
under_firm home false before = pair_firm AnyWord (reference home) (reference_firm home) before

-- a reference
pub reference_stop : (home : Home) (s r : Tokens) (stop : ReadStop) → StopsIn NoToken (word_that IsNodeId) s r stop
    → StopsIn NoToken (reference home) s r stop
reference_stop home s r stop k = stops_first NoToken (word_that IsNodeId) (λ w. gives (raw_id (written home w false))) s r stop k

pub reference_made : (home : Home) (w : List ℕ) (id : Ref) (n : Raw) (s r : Tokens) → n ≡ raw_id id → id ≡ written home w false
    → (word_that IsNodeId).whole w s r → (reference home).whole n s r
reference_made home w id n s r f e h = (w, r, h, (f ∙ ap raw_id e, refl))

-- the brackets and braces
module _ (home : Home) where
  abbrev listed : List Raw → Raw
  listed ns = raw_list (raws_of ns)

  word_no_bracket : AreApart AnyWord (AMark (codes "]"))
  word_no_bracket = turned _ _ (mark_no_word (codes "]"))

  pub list_open : (s r : Tokens) (stop : ReadStop) → StopsIn NoToken (mark (codes "[")) s r stop
      → StopsIn NoToken (references home) s r stop
  list_open s r stop k =
      bracketed.stops_at_opener (codes "[") (codes "]") AnyWord (many (reference home)) listed word_no_bracket s r stop k

  pub list_within : (s a r : Tokens) (stop : ReadStop) → (mark (codes "[")).whole tt s a → StopsIn AnyWord (many (reference home)) a r stop
      → StopsIn NoToken (references home) s r stop
  list_within s a r stop h k =
      bracketed.stops_between (codes "[") (codes "]") AnyWord (many (reference home)) listed word_no_bracket s a r stop h k

  pub list_close : (ns : List Raw) (s a b r : Tokens) (stop : ReadStop) → (mark (codes "[")).whole tt s a
      → IsRead AnyWord (many (reference home)) ns a b → StopsIn NoToken (mark (codes "]")) b r stop
      → StopsIn NoToken (references home) s r stop
  list_close ns s a b r stop h m k =
      bracketed.stops_at_close (codes "[") (codes "]") AnyWord (many (reference home)) listed word_no_bracket ns s a b r stop h m k

  pub list_read : (ns : List Raw) (n : Raw) (s a b r : Tokens) → n ≡ raw_list (raws_of ns) → (mark (codes "[")).whole tt s a
      → IsRead AnyWord (many (reference home)) ns a b → (mark (codes "]")).whole tt b r → (references home).whole n s r
  list_read ns n s a b r e h m k =
      subst (λ z. (references home).whole z s r) (sym e) (bracketed.read_between (codes "[") (codes "]") AnyWord (many (reference home))
      listed word_no_bracket ns s a b r h m k)

module _ (P : List Pair → Production Pair) where
  leaf_no_brace : AreApart NoMark (AMark (codes "}"))
  leaf_no_brace = turned _ _ (mark_no_leaf (codes "}"))

  pub object_open : (s r : Tokens) (stop : ReadStop) → StopsIn NoToken (mark (codes "{")) s r stop
      → StopsIn NoToken (braced_pairs P) s r stop
  object_open s r stop k = bracketed.stops_at_opener (codes "{") (codes "}") NoMark (each P) as_object leaf_no_brace s r stop k

  pub object_within : (s a r : Tokens) (stop : ReadStop) → (mark (codes "{")).whole tt s a → StopsIn NoMark (each P) a r stop
      → StopsIn NoToken (braced_pairs P) s r stop
  object_within s a r stop h k = bracketed.stops_between (codes "{") (codes "}") NoMark (each P) as_object leaf_no_brace s a r stop h k

  pub object_close : (ps : List Pair) (s a b r : Tokens) (stop : ReadStop) → (mark (codes "{")).whole tt s a → IsRead NoMark (each P) ps a b
      → StopsIn NoToken (mark (codes "}")) b r stop → StopsIn NoToken (braced_pairs P) s r stop
  object_close ps s a b r stop h m k =
      bracketed.stops_at_close (codes "{") (codes "}") NoMark (each P) as_object leaf_no_brace ps s a b r stop h m k

  pub object_read : (ps : List Pair) (n : Raw) (s a b r : Tokens) → n ≡ as_object ps → (mark (codes "{")).whole tt s a
      → IsRead NoMark (each P) ps a b → (mark (codes "}")).whole tt b r → (braced_pairs P).whole n s r
  object_read ps n s a b r e h m k =
      subst (λ z. (braced_pairs P).whole z s r) (sym e)
      (bracketed.read_between (codes "{") (codes "}") NoMark (each P) as_object leaf_no_brace ps s a b r h m k)
