-- A text has one answer: what is promised of an id and of each refusal excludes the others.
use Rattle.std.proofs.Common.{◌≡◌, ℕ, ◌≤◌, List, [], ◌∷◌, ◌++◌, Result, Ok, Err, refl, sym, ap, ◌∙◌, arith}
use Rattle.sm_ids.specs.declared.id.ShapeIdRef.{ShapeIdRef}
use Rattle.sm_ids.specs.declared.refusal.IdRefusal.{IdRefusal}
use Rattle.sm_ids.specs.declared.refusal.IdRefusal.TheVariants.{Empty, BadIdentifier}
use Rattle.sm_ids.specs.IdText.{Id, IdText, IsIdText, BreaksAt, member_text}
use Rattle.sm_ids.specs.View.{id_of}
use Rattle.sm_ids.specs.Answers.{Parses}
use Rattle.sm_ids.specs.Laws.{said}
use Rattle.sm_ids.proofs.Spellings.{one_id}

-- an id's text isn't empty
not_empty : (ns rest : List ℕ) → ns ++ 35 ∷ rest ≡ [] → ⊥
not_empty [] rest e = cc
not_empty (c ∷ ns) rest e = cc

-- a text breaks at one place
one_place : (text : List ℕ) (at other : ℕ) → BreaksAt IsIdText text at → BreaksAt IsIdText text other → at ≡ other
one_place text at other h k =
    let up : at ≤ other = k.most at h.within h.begun in
    let down : other ≤ at = h.most other k.within k.begun in
    omega arith

-- an id's text is refused in no way
not_refused : (id : Id) (text : List ℕ) (e : IdRefusal) → IdText id text → Parses text (Err e) → ⊥
not_refused id text Empty h k = not_empty id.namespace (id.name ++ member_text id.member) (sym h.spelled ∙ k)
not_refused id text (BadIdentifier at) h k = k.1.none (id, h)

one_refusal : (text : List ℕ) (d e : IdRefusal) → Parses text (Err d) → Parses text (Err e) → d ≡ e
one_refusal text Empty Empty h k = refl
one_refusal text Empty (BadIdentifier at) h k = absurd (k.0 h)
one_refusal text (BadIdentifier at) Empty h k = absurd (h.0 k)
one_refusal text (BadIdentifier at) (BadIdentifier other) h k = ap BadIdentifier (one_place text at other h.1 k.1)

pub one_answer : (text : List ℕ) (a b : Result ShapeIdRef IdRefusal) → Parses text a → Parses text b → said a ≡ said b
one_answer text (Ok a) (Ok b) h k = ap Ok (one_id (id_of a) (id_of b) text h k)
one_answer text (Ok a) (Err e) h k = absurd (not_refused (id_of a) text e h k)
one_answer text (Err e) (Ok b) h k = absurd (not_refused (id_of b) text e k h)
one_answer text (Err d) (Err e) h k = ap Err (one_refusal text d e h k)
