-- What the definitions are worth, as statements that the functions of src/laws.rt prove.
use Rattle.std.specs.Prelude.{◌≡◌, ◌↔◌, ◌+◌, ◌⊎◌, ℕ, List, [], ◌∷◌, ◌++◌, replicate, Bool, true, Some, None, Result, Ok, Err}
use Rattle.std.specs.Ordering.{nat_cmp}
use Rattle.std.specs.Cmp.Lexicographic.{slice_cmp}
use Rattle.std.specs.declared.cmp.Ordering.{Ordering}
use Rattle.std.specs.declared.cmp.Ordering.TheVariants.{Less}
use Rattle.std.specs.Char.{is_ascii_alphabetic, is_ascii_alphanumeric}
use Rattle.std.specs.List.{AllPass, join_with_byte}
use Rattle.sm_bytes.specs.Ascii.{full_stop, underscore}
use Rattle.sm_ids.specs.Identifier.{is_identifier_byte, is_identifier, IsIdentifier, IsNamespace}
use Rattle.sm_ids.specs.IdText.{Id, IsId, IdText, printed}
use Rattle.sm_ids.specs.View.{id_of}
use Rattle.sm_ids.specs.Answers.{Parses}
use Rattle.sm_ids.specs.declared.id.ShapeIdRef.{ShapeIdRef}
use Rattle.sm_ids.specs.declared.refusal.IdRefusal.{IdRefusal}

-- a text spells at most one id
abbrev pub OneReading : Type 0
OneReading = (id other : Id) (text : List ℕ) → IdText id text → IdText other text → id ≡ other

-- what an answer says: the id that is meant, or the refusal
abbrev pub said : Result ShapeIdRef IdRefusal → Result Id IdRefusal
said (Ok id) = Ok (id_of id)
said (Err refusal) = Err refusal

-- a text is read as one id at most, or refused by one word at one place, and never both
abbrev pub OneAnswer : Type 0
OneAnswer = (text : List ℕ) (a b : Result ShapeIdRef IdRefusal) → Parses text a → Parses text b → said a ≡ said b

-- what is printed for an id spells that id, and no other
abbrev pub PrintedReadsBack : Type 0
PrintedReadsBack = (id other : Id) → IsId id → IdText other (printed id) ↔ (other ≡ id)

-- an order of printed texts is that of their bytes
abbrev pub OrdersByBytes : (List ℕ → List ℕ → Ordering) → Type 0
OrdersByBytes cmp = (id other : Id) → cmp (printed id) (printed other) ≡ slice_cmp nat_cmp (printed id) (printed other)

-- a shape comes before its members
abbrev pub ShapesBeforeMembers : (List ℕ → List ℕ → Ordering) → Type 0
ShapesBeforeMembers cmp =
    (shape : Id) (member : List ℕ) → shape.member ≡ None → cmp (printed shape) (printed (record shape { member = Some member })) ≡ Less

-- ids are equal exactly where their parts are
abbrev pub EqualByParts : (List ℕ → List ℕ → Bool) → Type 0
EqualByParts eq = (id other : Id) → IsId id → IsId other → (eq (printed id) (printed other) ≡ true) ↔ (id ≡ other)

-- IdentifierStart = (1*"_" (ALPHA / DIGIT)) / ALPHA
abbrev pub IsIdentifierStart : List ℕ → Type 0
IsIdentifierStart s =
    ((c : ℕ) × (is_ascii_alphabetic c ≡ true) × (s ≡ c ∷ []))
    ⊎ ((n c : ℕ) × (is_ascii_alphanumeric c ≡ true) × (s ≡ replicate (n + 1) underscore ++ c ∷ []))

-- Identifier = IdentifierStart *IdentifierChars
abbrev pub IdentifiersByTheGrammar : Type 0
IdentifiersByTheGrammar =
    (t : List ℕ) → IsIdentifier t ↔ ((s rest : List ℕ) × IsIdentifierStart s × AllPass is_identifier_byte rest × (t ≡ s ++ rest))

-- Namespace = Identifier *("." Identifier)
abbrev pub NamespacesByTheGrammar : Type 0
NamespacesByTheGrammar =
    (t : List ℕ) → IsNamespace t ↔ ((first : List ℕ) × (more : List (List ℕ)) × AllPass is_identifier
    (first ∷ more) × (t ≡ join_with_byte full_stop (first ∷ more)))
