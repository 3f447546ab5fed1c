-- The end of a text that came in pieces: its last number is handed on, and then it is answered.
use Rattle.std.proofs.Common.{◌≡◌, ℕ, List, Option, None, Some, refl, sym, subst}
use Rattle.std.specs.Prelude.{Result, Ok, Err, IfSome}
use Rattle.sm_tree.specs.Streams.{StandsFor}
use Rattle.sm_tree.specs.Sources.{HasFed, RefusedSo, ReadsInto}
use Rattle.sm_tree.specs.declared.refusal.SyntaxRefusal.{SyntaxRefusal}
use Rattle.sm_tree.specs.declared.refusal.SyntaxRefusal.TheVariants.{Bad, Ended, TooDeep, KeyKind, NoMemory}
use Rattle.sm_tree.proofs.Sources.{come_refused, refused_come, end_refused, follows_now}
use Rattle.sm_tree.specs.Timing.{CompletesAll}
use Rattle.sm_json.specs.JsonText.{json_syntax}
use Rattle.sm_json.specs.Timing.{json_timing}
use Rattle.sm_json.specs.Stands.{json_source, refusal_of, JsonHasCome, JsonStands, JsonFlushes, JsonEndsWith}
use Rattle.sm_json.specs.declared.pieces.JsonReader.{JsonReader}

-- the two answers, at their type
abbrev passed : Unit {0} → Result (Unit {0}) SyntaxRefusal
passed x = Ok x

abbrev failed : SyntaxRefusal → Result (Unit {0}) SyntaxRefusal
failed refusal = Err refusal

-- what is known behind a flush that a reader refused
abbrev Refused : JsonReader → JsonReader → SyntaxRefusal → Type 0
Refused before behind refusal =
    (refusal_of behind ≡ Some refusal)
    × ((bytes : List ℕ) → JsonStands before bytes → RefusedSo json_syntax bytes refusal × JsonHasCome behind bytes)

refused_now : (S T : StandsFor) (before behind : JsonReader) (refusal : SyntaxRefusal) → JsonFlushes S before T behind (Err refusal)
    → Refused before behind refusal
refused_now S T before behind (Bad at) h = absurd h
refused_now S T before behind Ended h = absurd h
refused_now S T before behind (TooDeep at) h = absurd h
refused_now S T before behind (KeyKind at) h = absurd h
refused_now S T before behind NoMemory h = (h, λ bytes stands. (tt, refused_come json_source behind bytes NoMemory h tt))

refused_before : (before behind : JsonReader) (given refusal : SyntaxRefusal) → refusal_of before ≡ Some given → refusal ≡ given
    → behind ≡ before → Refused before behind refusal
refused_before before behind given refusal is one same =
    subst (λ r. Refused before behind r) (sym one) (subst (λ q. Refused before q given) (sym same)
    (is, λ bytes stands. (come_refused json_source before bytes given is stands.1, stands.1)))

pub flush_refused : (S T : StandsFor) (before behind : JsonReader) (refusal : SyntaxRefusal) (Same : Type 0)
    → (refusal_of before ≡ None → JsonFlushes S before T behind (Err refusal))
    → IfSome (refusal_of before) (λ given. (failed refusal ≡ Err given) × (behind ≡ before) × Same)
    → Refused before behind refusal
flush_refused S T before behind refusal Same flushes again = by_refusal (refusal_of before) refl
  where
    by_refusal : (o : Option SyntaxRefusal) → refusal_of before ≡ o → Refused before behind refusal
    by_refusal None is = refused_now S T before behind refusal (flushes is)
    by_refusal (Some given) is =
        let (one, same, rest) = subst (λ o. IfSome o (λ x. (failed refusal ≡ Err x) × (behind ≡ before) × Same))
        is again in
        let told : refusal ≡ given = cc in refused_before before behind given refusal is told same

-- one that flushed had refused nothing
was_fresh : (o : Option SyntaxRefusal) (x : Unit {0}) (Kept Same : Type 0)
    → IfSome o (λ given. (passed x ≡ Err given) × Kept × Same) → o ≡ None
was_fresh None x Kept Same again = refl
was_fresh (Some given) x Kept Same (one, kept, same) = cc

ends_so : (S T : StandsFor) (before behind : JsonReader) (bytes : List ℕ) (x : Unit {0}) (end : Result (Unit {0}) SyntaxRefusal)
    → HasFed json_source before S bytes → refusal_of before ≡ None → JsonFlushes S before T behind (Ok x)
    → JsonEndsWith behind bytes end → ReadsInto json_syntax T bytes end
ends_so S T before behind bytes x (Ok y) fed fresh flushes (n, es, read, complete, stream) =
    let (come, all) = flushes.1 bytes fed.0 in
    (n, es, read, stream, (all (follows_now json_source before S bytes fresh fed)).0 es complete)
ends_so S T before behind bytes x (Err refusal) fed fresh flushes ends =
    end_refused json_source (CompletesAll json_timing) behind bytes refusal ends

-- behind a flush, what the end answers
pub flush_ended : (S T : StandsFor) (before behind : JsonReader) (x : Unit {0}) (end : Result (Unit {0}) SyntaxRefusal) (Kept Same : Type 0)
    → (refusal_of before ≡ None → JsonFlushes S before T behind (Ok x))
    → IfSome (refusal_of before) (λ given. (passed x ≡ Err given) × Kept × Same)
    → ((bytes : List ℕ) → JsonHasCome behind bytes → JsonEndsWith behind bytes end) → (bytes : List ℕ)
    → HasFed json_source before S bytes → ReadsInto json_syntax T bytes end
flush_ended S T before behind x end Kept Same flushes again ends bytes fed =
    let fresh = was_fresh (refusal_of before) x Kept Same again in
    let (come, all) = (flushes fresh).1 bytes fed.0 in
    ends_so S T before behind bytes x end fed fresh (flushes fresh) (ends bytes come.1)

pub flush_come : (S T : StandsFor) (before behind last : JsonReader) (x : Unit {0}) (Kept Same : Type 0)
    → (refusal_of before ≡ None → JsonFlushes S before T behind (Ok x))
    → IfSome (refusal_of before) (λ given. (passed x ≡ Err given) × Kept × Same)
    → ((bytes : List ℕ) → JsonHasCome behind bytes → JsonHasCome last bytes) → (bytes : List ℕ) → JsonStands before bytes
    → JsonHasCome last bytes
flush_come S T before behind last x Kept Same flushes again on bytes stands =
    let fresh = was_fresh (refusal_of before) x Kept Same again in
    let (come, all) = (flushes fresh).1 bytes stands in on bytes come.1
