-- Steps of a read or a write, one after another, over bytes that may be told.
use Rattle.std.proofs.Common.{◌≡◌, ℕ, ◌+◌, ◌-◌, ◌<◌, List, [], ◌++◌, length, take, drop, Option, None, Some, IfSome, ◌∙◌, ap, sym, refl}
use Rattle.std.proofs.Common.{append_assoc, arith, length-append, length-drop}
use Rattle.std.proofs.Math.Seq.{take-add}
use Rattle.std.proofs.lemmas.List.{take_all}
use Rattle.std.specs.Io.KnownBytes.{Keeps, Consumes, Appends}
use Rattle.sm_io.specs.Reading.{LosesPrefix}

-- what two reads lose is lost in that order
pub consumes_both : (left middle rest : Option (List ℕ)) (prefix next : List ℕ) → Consumes left middle prefix → Consumes middle rest next
    → Consumes left rest (prefix ++ next)
consumes_both None middle rest prefix next one two = tt
consumes_both (Some xs) None rest prefix next one two = absurd one
consumes_both (Some xs) (Some ys) None prefix next one two = absurd two
consumes_both (Some xs) (Some ys) (Some zs) prefix next one two = one ∙ ap (λ s. prefix ++ s) two ∙ sym (append_assoc prefix next zs)

-- a read that loses nothing
pub consumes_none : (left : Option (List ℕ)) → Consumes left left []
consumes_none None = tt
consumes_none (Some xs) = refl

pub loses_none : (left : Option (List ℕ)) → LosesPrefix left left
loses_none left = ([], consumes_none left)

pub loses_both : (left middle rest : Option (List ℕ)) → LosesPrefix left middle → LosesPrefix middle rest → LosesPrefix left rest
loses_both left middle rest one two = (one.0 ++ two.0, consumes_both left middle rest one.0 two.0 one.1 two.1)

pub loses_kept : (left rest : Option (List ℕ)) → Keeps left rest → LosesPrefix left rest
loses_kept None rest same = ([], tt)
loses_kept (Some xs) None same = absurd same
loses_kept (Some xs) (Some ys) same = ([], sym same)

-- at least what was lost was left
pub longer_than_lost : (left rest : Option (List ℕ)) (prefix : List ℕ) (limit : ℕ) → Consumes left rest prefix → limit < length prefix
    → IfSome left (λ bytes. limit < length bytes)
longer_than_lost None rest prefix limit lost more = tt
longer_than_lost (Some xs) None prefix limit lost more = absurd lost
longer_than_lost (Some xs) (Some ys) prefix limit lost more = rw lost (omega (arith, length-append prefix ys))

-- the rest of a piece behind its first bytes, cut short
pub rest_cut : (piece : List ℕ) (at count : ℕ) → take count (take (length piece - at) (drop at piece)) ≡ take count (drop at piece)
rest_cut piece at count = ap (take count) (take_all (length piece - at) (drop at piece) (omega (arith, length-drop at piece)))

-- what two writes append is a longer prefix of the piece
pub appends_both : (old middle new : Option (List ℕ)) (piece : List ℕ) (at count : ℕ) → Appends old middle (take at piece)
    → Appends middle new (take count (take (length piece - at) (drop at piece))) → Appends old new (take (at + count) piece)
appends_both None middle new piece at count one two = tt
appends_both (Some xs) None new piece at count one two = absurd one
appends_both (Some xs) (Some ys) None piece at count one two = absurd two
appends_both (Some xs) (Some ys) (Some zs) piece at count one two =
    two ∙ ap (λ s. ys ++ s) (rest_cut piece at count) ∙ ap (λ s. s ++ take count (drop at piece)) one
    ∙ append_assoc xs (take at piece) (take count (drop at piece)) ∙ ap (λ s. xs ++ s) (sym (take-add at count piece))
