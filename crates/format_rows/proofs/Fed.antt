-- A reader of JSON that took a piece has refused nothing, and stands for some bytes.
use Rattle.std.proofs.Common.{◌≡◌, ℕ, List, ◌++◌, Result, Ok, Err, OnOk, None}
use Rattle.sm_tree.specs.Streams.{StandsFor}
use Rattle.sm_tree.specs.declared.refusal.SyntaxRefusal.{SyntaxRefusal}
use Rattle.sm_json.specs.Stands.{JsonStands, JsonFeeds, refusal_of}
use Rattle.sm_json.specs.declared.pieces.JsonReader.{JsonReader}

pub taken_fresh : (r q : JsonReader) (res : Result (Unit {0}) SyntaxRefusal) (S T : StandsFor) (piece : List ℕ)
    → JsonFeeds S r piece T q res
    → OnOk res (refusal_of q ≡ None)
taken_fresh r q (Ok x) S T piece h = h.0
taken_fresh r q (Err x) S T piece h = tt

pub taken_stands : (r q : JsonReader) (res : Result (Unit {0}) SyntaxRefusal) (S T : StandsFor) (piece : List ℕ)
    → JsonFeeds S r piece T q res
    → (bytes : List ℕ) × JsonStands r bytes → OnOk res ((bytes : List ℕ) × JsonStands q bytes)
taken_stands r q (Ok x) S T piece h (bytes, stands) = (bytes ++ piece, (h.1 bytes stands).0)
taken_stands r q (Err x) S T piece h some = tt
