-- What the reading calls answer. The bytes ahead of a call are those held and then those that the source has left, where it
-- tells them.
use Rattle.std.specs.Prelude.{◌≡◌, ℕ, ◌+◌, ◌-◌, ◌≤◌, ◌⊎◌, List, [], ◌++◌, take, IfSome, Option, Some, None, Result, Ok, Err}
use Rattle.std.specs.Io.KnownBytes.{Consumes}
use Rattle.sm_http.specs.declared.message.Head.{Head}
use Rattle.sm_http.specs.declared.message.Message.{Message}
use Rattle.sm_http.specs.declared.message.MessageSide.{MessageSide}
use Rattle.sm_http.specs.declared.message.BodyLeft.{BodyLeft}
use Rattle.sm_http.specs.declared.message.BodyLeft.TheVariants.{Known, Size, Data, Done}
use Rattle.sm_http.specs.declared.refusal.HttpRefusal.{HttpRefusal}
use Rattle.sm_http.specs.declared.refusal.HttpRefusal.TheVariants.{ReadFault, Ended, HeadTooLarge, Coding, Length, TooLong, Chunk, NoMemory}
use Rattle.sm_http.specs.declared.refusal.HttpRefusal.TheVariants.{Head as BadHead}
use Rattle.sm_http.specs.Limits.{message_body_limit, piece_limit}
use Rattle.sm_http.specs.BodyFields.{body_begin}
use Rattle.sm_http.specs.Bodies.{BodyFraming, BodyFramed, body, body_refused, behind_data}
use Rattle.sm_http.specs.Framed.{no_head, head, head_refused, HeadFramed, no_message, message, message_refused, Framed}

-- P of the bytes that were ahead and of those that are ahead now, where the source tells its bytes
abbrev pub IfAhead : Option (List ℕ) → Option (List ℕ) → (List ℕ → List ℕ → Type 0) → Type 0
IfAhead None now P = Unit {0}
IfAhead (Some before) None P = ⊥
IfAhead (Some before) (Some now) P = P before now

-- so many of the bytes ahead were used, of which P holds whatever follows them
abbrev pub Uses : Option (List ℕ) → Option (List ℕ) → (List ℕ → List ℕ → Type 0) → Type 0
Uses ahead now P = (used : List ℕ) × Consumes ahead now used × ((more : List ℕ) → P used more)

-- the bytes held and taken by a call that the source failed: a prefix of those ahead, of which P holds
abbrev pub IfTaken : Option (List ℕ) → Option (List ℕ) → (List ℕ → Type 0) → Type 0
IfTaken before left P = (taken : List ℕ) × Consumes before left taken × P taken

-- nothing, or a message that hasn't ended
abbrev pub IsOpen : MessageSide → List ℕ → Type 0
IsOpen side taken = Framed side taken no_message ⊎ Framed side taken (message_refused Ended)

abbrev pub IsOpenHead : MessageSide → List ℕ → Type 0
IsOpenHead side taken = HeadFramed side taken no_head ⊎ HeadFramed side taken (head_refused Ended)

-- bytes that are no open head, or no open body: no byte more is needed
abbrev pub DecidesHead : MessageSide → List ℕ → Type 0
DecidesHead side held = IsOpenHead side held → ⊥

abbrev pub DecidesBody : BodyLeft → List ℕ → Type 0
DecidesBody left held = BodyFramed left held (body_refused Ended) → ⊥

-- a refusal that the bytes decide, where `refused` says which bytes are refused so; `open_bytes` says it of a failed read
abbrev pub RefusedAs : Option (List ℕ) → Option (List ℕ) → (List ℕ → HttpRefusal → Type 0) → (List ℕ → Type 0) → HttpRefusal → Type 0
RefusedAs ahead left refused open_bytes ReadFault = IfTaken ahead left open_bytes
RefusedAs ahead left refused open_bytes Ended = IfSome ahead (λ bytes. refused bytes Ended)
RefusedAs ahead left refused open_bytes BadHead = IfSome ahead (λ bytes. refused bytes BadHead)
RefusedAs ahead left refused open_bytes HeadTooLarge = IfSome ahead (λ bytes. refused bytes HeadTooLarge)
RefusedAs ahead left refused open_bytes Coding = IfSome ahead (λ bytes. refused bytes Coding)
RefusedAs ahead left refused open_bytes Length = IfSome ahead (λ bytes. refused bytes Length)
RefusedAs ahead left refused open_bytes TooLong = IfSome ahead (λ bytes. refused bytes TooLong)
RefusedAs ahead left refused open_bytes Chunk = IfSome ahead (λ bytes. refused bytes Chunk)
RefusedAs ahead left refused open_bytes NoMemory = Unit {0}

-- `read_head`, of a source with so many bytes left behind the call
abbrev pub ReadsAHead : MessageSide → Option (List ℕ) → Option (List ℕ) → Option (List ℕ) → Result (Option (Head × BodyLeft)) HttpRefusal
    → Type 0
ReadsAHead side ahead now left (Ok None) = IfAhead ahead now (λ bytes rest. HeadFramed side bytes no_head × (rest ≡ []))
ReadsAHead side ahead now left (Ok (Some found)) =
    (found.1 ≡ body_begin found.0) × Uses ahead now (λ used more. HeadFramed side (used ++ more) (head found.0 more))
ReadsAHead side ahead now left (Err refusal) =
    RefusedAs ahead left (λ bytes why. HeadFramed side bytes (head_refused why)) (IsOpenHead side) refusal

-- a body within the limit, as a head begins it and pieces leave it
abbrev pub IsWithinLimit : BodyLeft → Type 0
IsWithinLimit (Known count) = count ≤ message_body_limit
IsWithinLimit (Size sum) = sum ≤ message_body_limit
IsWithinLimit (Data left total) = (left ≤ total) × (total ≤ message_body_limit)
IsWithinLimit Done = Unit {0}

-- a head begins no body past the limit
abbrev pub BeginsWithin : Result (Option (Head × BodyLeft)) HttpRefusal → Type 0
BeginsWithin (Ok None) = Unit {0}
BeginsWithin (Ok (Some found)) = IsWithinLimit found.1
BeginsWithin (Err refusal) = Unit {0}

-- the data that may still come, within the limit
abbrev pub data_room : BodyLeft → ℕ
data_room (Known count) = count
data_room (Size sum) = message_body_limit - sum
data_room (Data left total) = left + (message_body_limit - total)
data_room Done = 0

-- a piece: what comes behind it, with the piece in front, is what was to come; none is exactly the end
pub record GoesOn (before now : BodyLeft) (buffer : List ℕ) (count : ℕ) (used more : List ℕ) : Type 0 where
  pub on : (framing : BodyFraming) → BodyFramed now more framing
      → BodyFramed before (used ++ more) (behind_data (take count buffer) framing)
  pub ends : count ≡ 0 → BodyFramed before (used ++ more) (body [] more)

-- `read_piece`
abbrev pub ReadsAPiece : BodyLeft → BodyLeft → Option (List ℕ) → Option (List ℕ) → Option (List ℕ) → List ℕ → Result ℕ HttpRefusal → Type 0
ReadsAPiece before now ahead behind left buffer (Ok count) =
    (count ≤ piece_limit) × (count ≡ 0 → now ≡ Done)
    × Uses ahead behind (λ used more. GoesOn before now buffer count used more)
ReadsAPiece before now ahead behind left buffer (Err refusal) =
    RefusedAs ahead left (λ bytes why. BodyFramed before bytes (body_refused why))
    (λ taken. BodyFramed before taken (body_refused Ended)) refusal

-- `read_message`
abbrev pub ReadsAMessage : MessageSide → Option (List ℕ) → Option (List ℕ) → Option (List ℕ) → Result (Option Message) HttpRefusal → Type 0
ReadsAMessage side ahead now left (Ok None) = IfAhead ahead now (λ bytes rest. Framed side bytes no_message × (rest ≡ []))
ReadsAMessage side ahead now left (Ok (Some said)) = Uses ahead now (λ used more. Framed side (used ++ more) (message said more))
ReadsAMessage side ahead now left (Err refusal) =
    RefusedAs ahead left (λ bytes why. Framed side bytes (message_refused why)) (IsOpen side) refusal
