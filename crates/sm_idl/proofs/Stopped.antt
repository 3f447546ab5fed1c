-- Where reading stops, as the answer for the text says it.
use Rattle.std.proofs.Common.{◌≡◌, inl, inr, ℕ, List, [], ◌∷◌, ◌++◌, length, Some, Err, refl, sym, subst, ◌∙◌, append_assoc, append-nil}
use Rattle.sm_lex.specs.Answers.{Lexes}
use Rattle.sm_lex.specs.Tokens.{Lexeme, TokensSpell}
use Rattle.sm_lex.specs.declared.token.LexRefusal.{LexRefusal}
use Rattle.sm_lex.specs.declared.token.LexRefusal.TheVariants.{Bad, UnclosedString, UnclosedBlock, BadEscape, NoMemory as OutOfMemory}
use Rattle.sm_model.specs.Said.{Said}
use Rattle.sm_idl.specs.Productions.{Tokens, spaced}
use Rattle.sm_idl.specs.Bodies.{Controls}
use Rattle.sm_idl.specs.Idl.{FileSaid, file, FileSpelled, Idl, HaveVersion}
use Rattle.sm_idl.specs.Answers.{IsStopped, ReadsIdl}
use Rattle.sm_idl.specs.declared.reader.ReadStop.{ReadStop}
use Rattle.sm_idl.specs.declared.reader.ReadStop.TheVariants.{Syntax, NoMemory}
use Rattle.sm_idl.specs.declared.refusal.IdlRefusal.{IdlRefusal}
use Rattle.sm_idl.specs.steps.FileSteps.{FileStops, FileStopped, PlaceIs, StoppedAs, LexedAs}
use Rattle.sm_idl.proofs.OtherBeginnings.{file_other, file_begun}
use Rattle.sm_idl.proofs.OneFile.{with_ids, prefixes_are_begun}

-- where the tokens end, no file is spelled
none_at_end : (ts : Tokens) (k : FileStops ts []) (f : FileSaid) → FileSpelled f ts → ⊥
none_at_end ts k f h =
    let g = with_ids f.home f ts refl h in
    let other = file_other g.0 k.home g.1.0 ts [] g.1.1 in
    k.none refl other.0 (subst (λ z. (file (Some k.home)).whole other.0 z []) (k.cut ∙ append-nil k.before) other.1)

pub stopped_at : (bytes : List ℕ) (ts r : Tokens) (at : ℕ) → FileStops ts r → PlaceIs (length bytes) r at → IsStopped bytes ts at
stopped_at bytes ts [] at k e = record {
  none = λ f h. none_at_end ts k f h;
  place = inr ((k.home, subst (λ z. (file (Some k.home)).begun z) (sym (k.cut ∙ append-nil k.before)) k.begun), e);
}
stopped_at bytes ts (t ∷ q) at k e = record {
  none = λ f h. (let b = prefixes_are_begun f (k.before ++ t ∷ []) q
      (subst (λ z. FileSpelled f z) (k.cut ∙ sym (append_assoc k.before (t ∷ []) q)) h) in
      k.stops t q refl (file_begun b.0 k.home (k.before ++ t ∷ []) b.1));
  place = inl (record {
    before = k.before;
    token = t;
    behind = q;
    cut = k.cut;
    begun = (k.home, k.begun);
    stops = λ b. k.stops t q refl (file_begun b.0 k.home (k.before ++ t ∷ []) b.1);
    place = e;
  });
}

-- the answers for a text of these tokens
module _ (bytes : List ℕ) (xs : List Lexeme) (ts : Tokens) (spell : TokensSpell xs bytes) (same : ts ≡ spaced bytes xs) where
  idl_of : (f : FileSaid) → FileSpelled f ts → Idl f bytes
  idl_of f h = (xs, spell, subst (λ z. FileSpelled f z) same h)

  pub answer_said : (f : FileSaid) (cs : Controls) (said : List Said) → f.controls ≡ cs → f.said ≡ said → HaveVersion cs → FileSpelled f ts
      → (g : FileSaid) × (g.said ≡ said) × HaveVersion g.controls × Idl g bytes
  answer_said f cs said e g h k = (f, g, subst HaveVersion (sym e) h, idl_of f k)

  pub answer_version : (f : FileSaid) (cs : Controls) → f.controls ≡ cs → (HaveVersion cs → ⊥) → FileSpelled f ts
      → (g : FileSaid) × (HaveVersion g.controls → ⊥) × Idl g bytes
  answer_version f cs e none k = (f, (λ h. none (subst HaveVersion e h)), idl_of f k)

  pub answer_stop : (r : Tokens) (stop : ReadStop) (refusal : IdlRefusal) → FileStopped ts r stop → StoppedAs (length bytes) r stop refusal
      → ReadsIdl bytes (Err refusal)
  answer_stop r Syntax refusal k (at, p, e) =
      subst (λ z. ReadsIdl bytes (Err z)) (sym e) (xs, spell, subst (λ z. IsStopped bytes z at) same (stopped_at bytes ts r at k p))
  answer_stop r NoMemory refusal k e = subst (λ z. ReadsIdl bytes (Err z)) (sym e) tt

pub answer_lex : (bytes : List ℕ) (e : LexRefusal) (refusal : IdlRefusal) → LexedAs e refusal → Lexes bytes (Err e)
    → ReadsIdl bytes (Err refusal)
answer_lex bytes (Bad at) refusal same h = subst (λ z. ReadsIdl bytes (Err z)) (sym same) h
answer_lex bytes (UnclosedString at) refusal same h = subst (λ z. ReadsIdl bytes (Err z)) (sym same) h
answer_lex bytes (UnclosedBlock at) refusal same h = subst (λ z. ReadsIdl bytes (Err z)) (sym same) h
answer_lex bytes (BadEscape at) refusal same h = subst (λ z. ReadsIdl bytes (Err z)) (sym same) h
answer_lex bytes OutOfMemory refusal same h = subst (λ z. ReadsIdl bytes (Err z)) (sym same) tt
