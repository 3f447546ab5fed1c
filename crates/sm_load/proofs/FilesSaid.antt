-- What files say, one more at a time, and the first that says nothing.
use Rattle.std.proofs.Common.{◌≡◌, ℕ, List, [], ◌∷◌, ◌++◌, length, refl, sym, ap, ◌∙◌, subst, append_assoc, append-nil, arith}
use Rattle.sm_tree.specs.Syntax.{IsRefused, Reads}
use Rattle.sm_tree.specs.declared.refusal.SyntaxRefusal.{SyntaxRefusal}
use Rattle.sm_tree.specs.declared.refusal.SyntaxRefusal.TheVariants.{Bad, Ended, TooDeep, KeyKind, NoMemory as no_room}
use Rattle.std.specs.Prelude.{Err}
use Rattle.sm_json.specs.JsonText.{json_syntax}
use Rattle.sm_model.specs.Formed.{AreFormed}
use Rattle.sm_model.specs.Said.{Said}
use Rattle.sm_merge.specs.Stated.{AreFormedFiles}
use Rattle.sm_load.specs.ModelFiles.{FileGiven, HasStatements, HaveStatements}
use Rattle.sm_load.specs.declared.model.LoadRefusal.{LoadRefusal}
use Rattle.sm_load.specs.declared.model.LoadRefusal.TheVariants.{Text, Limit, Rejected, NoMemory}
use Rattle.sm_load.specs.steps.Stages.{AreBehind, StopsFile, StopsFiles}

-- a reader's refusal that isn't out of memory is the bytes' own
pub refused_so : (bytes : List ℕ) (refusal : SyntaxRefusal) → Reads json_syntax bytes (Err refusal) → (refusal ≡ no_room → ⊥)
    → IsRefused json_syntax bytes refusal
refused_so bytes (Bad at) h other = h
refused_so bytes Ended h other = h
refused_so bytes (TooDeep at) h other = h
refused_so bytes (KeyKind at) h other = h
refused_so bytes no_room h other = other refl

-- one file more
said_joined : (before : List FileGiven) (said : List (List Said)) (f : FileGiven) (s : List Said) → HaveStatements before said
    → HasStatements f s → HaveStatements (before ++ f ∷ []) (said ++ s ∷ [])
said_joined [] said f s none is = (s, [], ap (λ xs. xs ++ s ∷ []) none, is, refl)
said_joined (x ∷ before) said f s (t, more, cut, first, later) is =
    (t, more ++ s ∷ [], ap (λ xs. xs ++ s ∷ []) cut, first, said_joined before more f s later is)

formed_joined : (said : List (List Said)) (s : List Said) → AreFormedFiles said → AreFormed s → AreFormedFiles (said ++ s ∷ [])
formed_joined [] s h is = (is, tt)
formed_joined (file ∷ said) s h is = (h.0, formed_joined said s h.1 is)

pub none_behind : (all : List FileGiven) → AreBehind all all []
none_behind all = record { before = []; cut = refl; says = refl; formed = tt }

pub one_behind : (all here rest : List FileGiven) (f : FileGiven) (said after : List (List Said)) (s : List Said) → here ≡ f ∷ rest
    → after ≡ said ++ s ∷ [] → AreBehind all here said → HasStatements f s → AreFormed s → AreBehind all rest after
one_behind all here rest f said after s parts put b is formed = record {
  before = b.before ++ f ∷ [];
  cut = b.cut ∙ ap (λ xs. b.before ++ xs) parts ∙ sym (append_assoc b.before (f ∷ []) rest);
  says = subst (HaveStatements (b.before ++ f ∷ [])) (sym put) (said_joined b.before said f s b.says is);
  formed = subst AreFormedFiles (sym put) (formed_joined said s b.formed formed);
}

-- all files
pub all_behind : (all here : List FileGiven) (said : List (List Said)) → here ≡ [] → AreBehind all here said → HaveStatements all said
all_behind all here said none b =
    subst (λ fs. HaveStatements fs said) (sym (b.cut ∙ ap (λ xs. b.before ++ xs) none ∙ append-nil b.before)) b.says

-- the first that says nothing has as many before it as say something
as_many : (fs : List FileGiven) (said : List (List Said)) → HaveStatements fs said → length said ≡ length fs
as_many [] said none = ap length none
as_many (f ∷ fs) said (s, more, cut, is, later) =
    let rest = as_many fs more later in
    let one : length (s ∷ more) ≡ length (f ∷ fs) = omega (arith, rest) in ap length cut ∙ one

pub file_stops : (all here rest : List FileGiven) (f : FileGiven) (said : List (List Said)) (number : ℕ) (refusal : LoadRefusal)
    → here ≡ f ∷ rest → number ≡ length said → AreBehind all here said → StopsFile f number refusal → StopsFiles all refusal
file_stops all here rest f said number (Text at place) parts counted b (same, refused) = record {
  before = b.before;
  file = f;
  behind = rest;
  cut = b.cut ∙ ap (λ xs. b.before ++ xs) parts;
  number_is = same ∙ counted ∙ as_many b.before said b.says;
  said = said;
  earlier = b.says;
  refused = refused;
}
file_stops all here rest f said number (Limit kind) parts counted b h = h
file_stops all here rest f said number (Rejected es) parts counted b h = h
file_stops all here rest f said number NoMemory parts counted b h = h
