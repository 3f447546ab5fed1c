-- What is open can be closed: from each place of a text some text goes on, if there is room for what is open.
use Rattle.std.proofs.Common.{ℕ, ◌+◌, ◌≤◌, List, [], ◌∷◌, ◌++◌, None, refl, arith, length, drop, codes}
use Rattle.sm_tree.specs.Node.{null, no_nodes, no_members}
use Rattle.sm_tree.specs.Events.{null_event, key_event, text_event, start_list, start_object, end_list, end_object}
use Rattle.sm_tree.specs.Timing.{TimedEvent, by_byte}
use Rattle.sm_tree.specs.Numbers.{IsNumber}
use Rattle.sm_tree.specs.declared.build.OpenKind.{OpenKind}
use Rattle.sm_tree.specs.declared.build.OpenKind.TheVariants.{List as a_list, Object as an_object}
use Rattle.sm_json.specs.steps.TextSteps.{IsLive}
use Rattle.sm_json.specs.steps.Rest.{value, first_entry, first_key, next_key, colon, after, word, numeral, in_text, letters}
use Rattle.sm_json.specs.steps.Rest.{literal_event, JsonEnds, ValueNow, ColonComes, FirstEntryComes, FirstKeyComes, JsonGoesOn}
use Rattle.sm_json.specs.declared.spot.Spot.{Spot}
use Rattle.sm_json.specs.declared.place.Literal.{Literal}
use Rattle.sm_json.specs.declared.place.Role.{Role}
use Rattle.sm_json.specs.declared.place.Role.TheVariants.{Key, Value}
use Rattle.sm_json.proofs.Starts.{skips_none}
use Rattle.sm_json.specs.Timing.{by_next}
use Rattle.sm_json.proofs.Opening.{at, value_now, list_back, object_back}
use Rattle.sm_json.proofs.Leaves.{number_one}
use Rattle.sm_tree.proofs.Numbers.{number_exists}
use Rattle.sm_json.proofs.Completions.{live_goes_on}

-- the brackets and braces that close what is open, and their events
abbrev closing : List OpenKind → List ℕ
closing [] = []
closing (a_list ∷ ks) = 93 ∷ closing ks
closing (an_object ∷ ks) = 125 ∷ closing ks

abbrev closed : List OpenKind → List TimedEvent
closed [] = []
closed (a_list ∷ ks) = by_byte end_list (length (closing ks)) ∷ closed ks
closed (an_object ∷ ks) = by_byte end_object (length (closing ks)) ∷ closed ks

closes : (limit : ℕ) (ks : List OpenKind) → length ks ≤ limit → JsonEnds limit ks (closing ks) (closed ks)
closes limit [] room = (refl, refl)
closes limit (a_list ∷ ks) room =
    (no_nodes, closing ks, closed ks, (skips_none (93 ∷ closing ks), refl), omega arith, closes limit ks (omega arith))
closes limit (an_object ∷ ks) room =
    (no_members, closing ks, closed ks, (skips_none (125 ∷ closing ks), refl), omega arith, closes limit ks (omega arith))

-- behind a value
pub after_goes_on : (limit : ℕ) (ks : List OpenKind) → length ks ≤ limit → JsonGoesOn limit (at after ks) []
after_goes_on limit ks room = (closing ks, closed ks, closes limit ks room)

-- a value that is owed: null
abbrev null_closed : List OpenKind → List TimedEvent
null_closed ks = by_byte null_event (length (closing ks)) ∷ closed ks

null_comes : (limit : ℕ) (ks : List OpenKind) → length ks ≤ limit → ValueNow limit ks (codes "null" ++ closing ks) (null_closed ks)
null_comes limit ks room = (null, closing ks, closed ks, (refl, refl), omega arith, closes limit ks room)

pub value_goes_on : (limit : ℕ) (ks : List OpenKind) → length ks ≤ limit → JsonGoesOn limit (at value ks) []
value_goes_on limit ks room = (
  codes "null" ++ closing ks,
  null_closed ks,
  value_now limit ks (codes "null" ++ closing ks) (null_closed ks) (null_comes limit ks room),
)

-- a colon, and null
colon_null : List OpenKind → List ℕ
colon_null ks = 58 ∷ (codes "null" ++ closing ks)

colon_comes : (limit : ℕ) (ks : List OpenKind) → length ks ≤ limit → ColonComes limit ks (colon_null ks) (null_closed ks)
unfolding colon_null
colon_comes limit ks room = (
  codes "null" ++ closing ks,
  skips_none (colon_null ks),
  value_now limit ks (codes "null" ++ closing ks) (null_closed ks) (null_comes limit ks room),
)

pub colon_goes_on : (limit : ℕ) (ks : List OpenKind) → length ks ≤ limit → JsonGoesOn limit (at colon ks) []
colon_goes_on limit ks room = (colon_null ks, null_closed ks, colon_comes limit ks room)

-- a name that is owed: the empty one
pub next_key_goes_on : (limit : ℕ) (ks : List OpenKind) → length ks ≤ limit → JsonGoesOn limit (at next_key ks) []
next_key_goes_on limit ks room =
    let s : List ℕ = 34 ∷ 34 ∷ colon_null ks in (
      s,
      by_byte (key_event []) (length (colon_null ks)) ∷ null_closed ks,
      (
        s,
        skips_none s,
        ([], colon_null ks, null_closed ks, ([], 34 ∷ colon_null ks, refl, refl, refl), colon_comes limit ks room, refl),
      ),
    )

-- behind a bracket and a brace: the end
no_entries : (limit : ℕ) (ks : List OpenKind) → length (a_list ∷ ks) ≤ limit
    → FirstEntryComes limit (a_list ∷ ks) (closing (a_list ∷ ks)) (closed (a_list ∷ ks))
no_entries limit ks room =
    (no_nodes, closing ks, closed ks, (skips_none (93 ∷ closing ks), refl), omega arith, closes limit ks (omega arith))

pub first_entry_goes_on : (limit : ℕ) (ks : List OpenKind) → length (a_list ∷ ks) ≤ limit
    → JsonGoesOn limit (at first_entry (a_list ∷ ks)) []
first_entry_goes_on limit ks room = (closing (a_list ∷ ks), closed (a_list ∷ ks), no_entries limit ks room)

no_pairs : (limit : ℕ) (ks : List OpenKind) → length (an_object ∷ ks) ≤ limit
    → FirstKeyComes limit (an_object ∷ ks) (closing (an_object ∷ ks)) (closed (an_object ∷ ks))
no_pairs limit ks room =
    (no_members, closing ks, closed ks, (skips_none (125 ∷ closing ks), refl), omega arith, closes limit ks (omega arith))

pub first_key_goes_on : (limit : ℕ) (ks : List OpenKind) → length (an_object ∷ ks) ≤ limit
    → JsonGoesOn limit (at first_key (an_object ∷ ks)) []
first_key_goes_on limit ks room = (closing (an_object ∷ ks), closed (an_object ∷ ks), no_pairs limit ks room)

-- in a literal name: its other letters
pub word_goes_on : (limit : ℕ) (w : Literal) (taken : ℕ) (ks : List OpenKind) → length ks ≤ limit
    → JsonGoesOn limit (at (word w taken) ks) []
word_goes_on limit w taken ks room = (
  drop taken (letters w) ++ closing ks,
  by_byte (literal_event w) (length (closing ks)) ∷ closed ks,
  (closing ks, closed ks, refl, closes limit ks room, refl),
)

-- in a number: what completes it
pub numeral_goes_on : (limit : ℕ) (b u : List ℕ) (ks : List OpenKind) → IsNumber (b ++ u) → length ks ≤ limit
    → JsonGoesOn limit (at (numeral b) ks) []
numeral_goes_on limit b u ks number room =
    let (n, is) = number_exists (b ++ u) number in
    let (e, one) = number_one n (b ++ u) is in (
      u ++ closing ks,
      by_next e (closing ks) ∷ closed ks,
      (n, u, closing ks, closed ks, refl, is, closes limit ks room, (e, one, refl)),
    )

-- in a string: the rest of its character and its quotation mark
pub text_goes_on : (limit : ℕ) (role : Role) (spot : Spot) (b : List ℕ) (ks : List OpenKind) → IsLive spot → length ks ≤ limit
    → JsonGoesOn limit (at (in_text role spot b) ks) []
text_goes_on limit Key spot b ks live room =
    let (s, t, rest) = live_goes_on spot b (colon_null ks) live in (
      s,
      by_byte (key_event t) (length (colon_null ks)) ∷ null_closed ks,
      (t, colon_null ks, null_closed ks, rest, colon_comes limit ks room, refl),
    )
text_goes_on limit Value spot b ks live room =
    let (s, t, rest) = live_goes_on spot b (closing ks) live in
    (s, by_byte (text_event t) (length (closing ks)) ∷ closed ks, (t, closing ks, closed ks, rest, closes limit ks room, refl))

-- with one level more, a bracket and a brace open one more
pub list_deeper : (limit : ℕ) (ks : List OpenKind) → length ks ≤ limit → JsonGoesOn (limit + 1) (at value ks) (91 ∷ [])
list_deeper limit ks room = (
  closing (a_list ∷ ks),
  by_byte (start_list None) (length (closing (a_list ∷ ks))) ∷ closed (a_list ∷ ks),
  list_back (limit + 1) ks (closing (a_list ∷ ks)) (closed (a_list ∷ ks)) (no_entries (limit + 1) ks (omega arith)),
)

pub object_deeper : (limit : ℕ) (ks : List OpenKind) → length ks ≤ limit → JsonGoesOn (limit + 1) (at value ks) (123 ∷ [])
object_deeper limit ks room = (
  closing (an_object ∷ ks),
  by_byte (start_object None) (length (closing (an_object ∷ ks))) ∷ closed (an_object ∷ ks),
  object_back (limit + 1) ks (closing (an_object ∷ ks)) (closed (an_object ∷ ks)) (no_pairs (limit + 1) ks (omega arith)),
)
