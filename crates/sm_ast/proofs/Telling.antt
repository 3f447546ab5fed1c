-- The first fault of entries and of pairs, as a reader comes to one.
use Rattle.std.proofs.Common.{◌≡◌, ℕ, ◌+◌, ◌<◌, true, false, List, [], ◌∷◌, ◌++◌, length, map, get_or, drop, take, Option, Some, None}
use Rattle.std.proofs.Common.{sym, ap, ◌∙◌, subst, if◌then◌else◌}
use Rattle.std.proofs.lemmas.List.{drop_more, take_more, map-append}
use Rattle.sm_tree.specs.Node.{Node, nodes_of, members_of}
use Rattle.sm_tree.specs.View.{node_of, nodes_view, members_view}
use Rattle.sm_tree.specs.declared.tree.Tree.{Tree}
use Rattle.sm_tree.specs.declared.path.Step.TheVariants.{Index, Key}
use Rattle.sm_ast.specs.Answers.{Tells}
use Rattle.sm_ast.specs.Faults.{AstFault, field, seen_from, earlier_of, stands_in, pair_fault, pairs_fault, entries_fault, node_fault}
use Rattle.sm_ast.specs.Faults.{nodes_fault, members_fault}
use Rattle.sm_ast.specs.declared.refusal.AstRefusal.{AstRefusal}
use Rattle.sm_ast.specs.declared.refusal.AstRefusal.TheVariants.{Version, Field, WrongType, BadId, NoMemory}

-- what tells a fault tells the first of it and of what comes later
pub tells_first : (found later : Option AstFault) (refusal : AstRefusal) → Tells found refusal → Tells (earlier_of found later) refusal
tells_first found later Version e = ap (λ o. earlier_of o later) e
tells_first found later (Field path) e = ap (λ o. earlier_of o later) e
tells_first found later (WrongType path) e = ap (λ o. earlier_of o later) e
tells_first found later (BadId path) e = ap (λ o. earlier_of o later) e
tells_first found later NoMemory e = tt

pub tells_same : (found other : Option AstFault) (refusal : AstRefusal) → found ≡ other → Tells other refusal → Tells found refusal
tells_same found other refusal e told = subst (λ o. Tells o refusal) (sym e) told

-- a pair whose name stood before, and one whose name didn't
pub told_again : (before : List (List ℕ)) (k : List ℕ) (fault : Option AstFault) (refusal : AstRefusal) → stands_in k before ≡ true
    → Tells (seen_from (Key k) (Some (field []))) refusal → Tells (pair_fault before k fault) refusal
told_again before k fault refusal e told =
    subst (λ b. Tells (seen_from (Key k) (if b then Some (field []) else fault)) refusal) (sym e) told

pub told_fresh : (before : List (List ℕ)) (k : List ℕ) (fault : Option AstFault) (refusal : AstRefusal) → stands_in k before ≡ false
    → Tells (seen_from (Key k) fault) refusal → Tells (pair_fault before k fault) refusal
told_fresh before k fault refusal e told =
    subst (λ b. Tells (seen_from (Key k) (if b then Some (field []) else fault)) refusal) (sym e) told

-- the rest of entries or pairs is one and those behind it
pub rest_is : {X : Type 0} (xs : List X) (i : ℕ) (x : X) → i < length xs → x ≡ get_or xs i x → drop i xs ≡ x ∷ drop (i + 1) xs
rest_is xs i x lt e = drop_more xs i x lt ∙ ap (λ y. y ∷ drop (i + 1) xs) (sym e)

-- a fault of an entry is that of the list, where there was none before it
pub node_entry_told : (xs : List Tree) (i : ℕ) (x : Tree) → i < length xs → x ≡ get_or xs i x → (at : ℕ) (whole : Option AstFault)
    → whole ≡ nodes_fault at (nodes_of (nodes_view (drop i xs))) → (refusal : AstRefusal)
    → Tells (seen_from (Index at) (node_fault (node_of x))) refusal → Tells whole refusal
node_entry_told xs i x lt e at whole same refusal told =
    tells_same whole _ refusal (same ∙ ap (λ ys. nodes_fault at (nodes_of (nodes_view ys))) (rest_is xs i x lt e))
    (tells_first _ _ refusal told)

pub node_pair_told : (xs : List (List ℕ × Tree)) (i : ℕ) (x : List ℕ × Tree) → i < length xs → x ≡ get_or xs i x
    → (before : List (List ℕ)) (whole : Option AstFault) → whole ≡ members_fault before (members_of (members_view (drop i xs)))
    → (refusal : AstRefusal) → Tells (pair_fault before x.0 (node_fault (node_of x.1))) refusal → Tells whole refusal
node_pair_told xs i x lt e before whole same refusal told =
    tells_same whole _ refusal (same ∙ ap (λ ys. members_fault before (members_of (members_view ys))) (rest_is xs i x lt e))
    (tells_first _ _ refusal told)

-- the same of what is judged by its layout
pub entry_told : (judge : Node → Option AstFault) (xs : List Tree) (i : ℕ) (x : Tree) → i < length xs → x ≡ get_or xs i x
    → (at : ℕ) (whole : Option AstFault) → whole ≡ entries_fault judge at (nodes_of (nodes_view (drop i xs))) → (refusal : AstRefusal)
    → Tells (seen_from (Index at) (judge (node_of x))) refusal → Tells whole refusal
entry_told judge xs i x lt e at whole same refusal told =
    tells_same whole _ refusal (same ∙ ap (λ ys. entries_fault judge at (nodes_of (nodes_view ys))) (rest_is xs i x lt e))
    (tells_first _ _ refusal told)

pub pair_told : (judge : List ℕ → Node → Option AstFault) (xs : List (List ℕ × Tree)) (i : ℕ) (x : List ℕ × Tree) → i < length xs
    → x ≡ get_or xs i x → (before : List (List ℕ)) (whole : Option AstFault)
    → whole ≡ pairs_fault judge before (members_of (members_view (drop i xs))) → (refusal : AstRefusal)
    → Tells (pair_fault before x.0 (judge x.0 (node_of x.1))) refusal → Tells whole refusal
pair_told judge xs i x lt e before whole same refusal told =
    tells_same whole _ refusal (same ∙ ap (λ ys. pairs_fault judge before (members_of (members_view ys))) (rest_is xs i x lt e))
    (tells_first _ _ refusal told)

-- the names up to a pair, with its own
pub names_more : (xs : List (List ℕ × Tree)) (i : ℕ) (x : List ℕ × Tree) → i < length xs → x ≡ get_or xs i x
    → map (λ p. p.0) (take (i + 1) xs) ≡ map (λ p. p.0) (take i xs) ++ x.0 ∷ []
names_more xs i x h e = ap (λ ys. map (λ p. p.0) ys) (take_more xs i x h ∙ ap (λ y. take i xs ++ y ∷ []) (sym e))
    ∙ map-append (λ p. p.0) (take i xs) (x ∷ [])

-- a pair without a fault is passed
pub passed : (before : List (List ℕ)) (k : List ℕ) (fault : Option AstFault) → stands_in k before ≡ false → fault ≡ None
    → pair_fault before k fault ≡ None
passed before k fault fresh none = ap (λ b. seen_from (Key k) (if b then Some (field []) else fault)) fresh ∙ ap (seen_from (Key k)) none

pub pair_passed : (judge : List ℕ → Node → Option AstFault) (xs : List (List ℕ × Tree)) (i : ℕ) (x : List ℕ × Tree) → i < length xs
    → x ≡ get_or xs i x → (before after : List (List ℕ)) → after ≡ before ++ x.0 ∷ [] → (whole : Option AstFault)
    → whole ≡ pairs_fault judge before (members_of (members_view (drop i xs))) → stands_in x.0 before ≡ false
    → judge x.0 (node_of x.1) ≡ None → whole ≡ pairs_fault judge after (members_of (members_view (drop (i + 1) xs)))
pair_passed judge xs i x lt e before after more whole same fresh none =
    same ∙ ap (λ ys. pairs_fault judge before (members_of (members_view ys))) (rest_is xs i x lt e)
    ∙ ap (λ o. earlier_of o (pairs_fault judge (before ++ x.0 ∷ []) (members_of (members_view (drop (i + 1) xs)))))
    (passed before x.0 _ fresh none)
    ∙ ap (λ names. pairs_fault judge names (members_of (members_view (drop (i + 1) xs)))) (sym more)
