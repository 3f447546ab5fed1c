-- What the parts of a file's beginning say of it: controls, metadata, the version, suffixes, and the ids that are used.
use Rattle.std.proofs.Common.{◌≡◌, ◌<◌, ℕ, List, [], ◌∷◌, ◌++◌, Option, codes, Result, refl, sym, ap}
use Rattle.std.proofs.Common.{◌∙◌, length}
use Rattle.std.specs.List.{filter}
use Rattle.std.proofs.lemmas.List.Elements.{filter-append}
use Rattle.sm_tree.specs.Limits.{most_levels}
use Rattle.sm_model.specs.Raw.{Raw}
use Rattle.sm_idl.specs.Productions.{Tokens, Production, gives, ◌>>=◌, ◌>>◌, many}
use Rattle.sm_idl.specs.Words.{IsWordId, mark, the_word, key, id}
use Rattle.sm_idl.specs.Nodes.{Home, Pair, pair_names, pair_of, node}
use Rattle.sm_idl.specs.Idl.{control, metadata, used, is_absolute}
use Rattle.sm_idl.specs.declared.reader.ReadStop.{ReadStop}
use Rattle.sm_idl.specs.steps.Classes.{Either}
use Rattle.sm_idl.specs.steps.FileClasses.{Use}
use Rattle.sm_idl.specs.steps.Firm.{HeadIs}
use Rattle.sm_idl.specs.steps.ReaderView.{NoToken, StopsIn, ReadsAs}
use Rattle.sm_idl.specs.steps.Reading.{IsRead}
use Rattle.sm_idl.proofs.FirmNodes.{mark_firm, key_firm}
use Rattle.sm_idl.proofs.FirmTraits.{the_word_firm}
use Rattle.sm_idl.proofs.FirmFiles.{used_firm}
use Rattle.sm_idl.proofs.Passing.{shorter, stops_first, stops_behind}
use Rattle.sm_idl.proofs.Answered.{as_behind}
use Rattle.sm_idl.proofs.Rows.{IsRow, row_none, ended_more, ended_read, ended_stop}

module _ (home : Option Home) (before : List Pair) where
  abbrev value : Production Raw
  value = node home most_levels

  -- a control
  pub control_mark_stop : (s r : Tokens) (stop : ReadStop) → StopsIn NoToken (mark (codes "$")) s r stop
      → StopsIn NoToken (control home before) s r stop
  control_mark_stop s r stop k = stops_first NoToken (mark (codes "$")) (λ _. pair_of value before) s r stop k

  pub control_behind : {V : Type 0} (view : V → Pair) (s a r : Tokens) (result : Result V ReadStop) → (mark (codes "$")).whole tt s a
      → ReadsAs view (pair_of value before) a r result → ReadsAs view (control home before) s r result
  control_behind view s a r result h k =
      as_behind view (mark (codes "$")) (λ _. pair_of value before) (mark_firm (codes "$")) tt s a r result h k

  -- metadata
  abbrev data_word : Production Unit
  data_word = the_word (codes "metadata")

  abbrev data_key : Production (List ℕ)
  data_key = key (pair_names before)

  abbrev behind_key : List ℕ → Production Pair
  behind_key k = mark (codes "=") >> (value >>= (λ n. gives (k, n)))

  pub data_word_stop : (s r : Tokens) (stop : ReadStop) → StopsIn NoToken data_word s r stop
      → StopsIn NoToken (metadata home before) s r stop
  data_word_stop s r stop k = stops_first NoToken data_word (λ _. data_key >>= behind_key) s r stop k

  past_word : (s a r : Tokens) (stop : ReadStop) → data_word.whole tt s a → StopsIn NoToken (data_key >>= behind_key) a r stop
      → StopsIn NoToken (metadata home before) s r stop
  past_word s a r stop h k =
      stops_behind NoToken data_word (λ _. data_key >>= behind_key) (the_word_firm (codes "metadata")) tt s a r stop h k

  pub data_key_stop : (s a r : Tokens) (stop : ReadStop) → data_word.whole tt s a → StopsIn NoToken data_key a r stop
      → StopsIn NoToken (metadata home before) s r stop
  data_key_stop s a r stop h k = past_word s a r stop h (stops_first NoToken data_key behind_key a r stop k)

  past_key : (name : List ℕ) (s a b r : Tokens) (stop : ReadStop) → data_word.whole tt s a → data_key.whole name a b
      → StopsIn NoToken (behind_key name) b r stop → StopsIn NoToken (metadata home before) s r stop
  past_key name s a b r stop h i k =
      past_word s a r stop h (stops_behind NoToken data_key behind_key (key_firm (pair_names before)) name a b r stop i k)

  pub data_equals_stop : (name : List ℕ) (s a b r : Tokens) (stop : ReadStop) → data_word.whole tt s a → data_key.whole name a b
      → StopsIn NoToken (mark (codes "=")) b r stop → StopsIn NoToken (metadata home before) s r stop
  data_equals_stop name s a b r stop h i k = past_key name s a b r stop h i (stops_first NoToken (mark (codes "=")) _ b r stop k)

  pub data_node_stop : (name : List ℕ) (s a b c r : Tokens) (stop : ReadStop) → data_word.whole tt s a → data_key.whole name a b
      → (mark (codes "=")).whole tt b c → StopsIn NoToken value c r stop → StopsIn NoToken (metadata home before) s r stop
  data_node_stop name s a b c r stop h i j k =
      past_key name s a b r stop h i
      (stops_behind NoToken (mark (codes "=")) _ (mark_firm (codes "=")) tt b c r stop j (stops_first NoToken value _ c r stop k))

  pub data_read : (name : List ℕ) (n : Raw) (s a b c r : Tokens) → data_word.whole tt s a → data_key.whole name a b
      → (mark (codes "=")).whole tt b c → value.whole n c r → (metadata home before).whole (name, n) s r
  data_read name n s a b c r h i j k = (tt, a, h, (name, b, i, (tt, c, j, (n, r, k, (refl, refl)))))

-- an id that is used
pub used_word_stop : (s r : Tokens) (stop : ReadStop) → StopsIn NoToken (the_word (codes "use")) s r stop → StopsIn NoToken used s r stop
used_word_stop s r stop k = stops_first NoToken (the_word (codes "use")) (λ _. id) s r stop k

pub used_behind : {V : Type 0} (view : V → List ℕ) (s a r : Tokens) (result : Result V ReadStop) → (the_word (codes "use")).whole tt s a
    → ReadsAs view id a r result → ReadsAs view used s r result
used_behind view s a r result h k = as_behind view (the_word (codes "use")) (λ _. id) (the_word_firm (codes "use")) tt s a r result h k

-- its word is an id
pub used_word : (w : List ℕ) (s r : Tokens) → used.whole w s r → IsWordId w
used_word w s r (_, a, h, (t, e, k)) = k.1

-- ids that came
abbrev pub UsesSoFar : List (List ℕ) → Tokens → Tokens → Type 0
UsesSoFar uses s a = (ws : List (List ℕ)) × (uses ≡ filter is_absolute ws) × IsRow (Either Use NoToken) (λ _. used) [] ws s a

pub uses_none : (uses : List (List ℕ)) (s : Tokens) → uses ≡ [] → UsesSoFar uses s s
uses_none uses s e = ([], e, row_none Use NoToken (λ _. used) (λ _. used_firm) (λ t n a. n) [] s)

pub uses_more : (have new : List (List ℕ)) (w : List ℕ) (s a r : Tokens) → new ≡ have ++ filter is_absolute (w ∷ []) → UsesSoFar have s a
    → used.whole w a r → UsesSoFar new s r
uses_more have new w s a r e (ws, f, i) h = (
  ws ++ w ∷ [],
  e ∙ ap (λ l. l ++ filter is_absolute (w ∷ [])) f ∙ sym (filter-append is_absolute ws (w ∷ [])),
  ended_more Use (λ _. used) (λ _. used_firm) [] ws w s a r i h,
)

pub uses_fewer : (w : List ℕ) (a r : Tokens) → used.whole w a r → length r < length a
uses_fewer w a r h = shorter used used_firm w a r h

pub uses_read : (uses : List (List ℕ)) (s a : Tokens) → UsesSoFar uses s a → (HeadIs Use a → ⊥)
    → (ws : List (List ℕ)) × (uses ≡ filter is_absolute ws) × IsRead Use (many used) ws s a
uses_read uses s a (ws, f, i) none = (ws, f, ended_read Use (λ _. used) (λ _. used_firm) [] ws s a i none)

pub uses_stopped : (uses : List (List ℕ)) (s a r : Tokens) (stop : ReadStop) → UsesSoFar uses s a → HeadIs Use a
    → StopsIn NoToken used a r stop
    → StopsIn Use (many used) s r stop
uses_stopped uses s a r stop (ws, f, i) here k = ended_stop Use (λ _. used) (λ _. used_firm) [] ws s a r stop i here k
