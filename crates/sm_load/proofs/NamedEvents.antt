-- Which texts name an event.
use Rattle.std.proofs.Common.{◌≡◌, ℕ, Bool, true, false, List, [], ◌∷◌, ◌++◌, Option, Some, None, refl, sym, ap, ◌∙◌, append-nil}
use Rattle.std.proofs.Common.{append_assoc, bytes_eq}
use Rattle.std.specs.Prelude.{◌==◌, ◌||◌, ◌&&◌, cond, nat_eq}
use Rattle.std.specs.Bool.{Decides}
use Rattle.std.specs.List.{starts_with}
use Rattle.std.specs.Option.{unwrap_or}
use Rattle.std.proofs.lemmas.Bool.{or_from}
use Rattle.std.proofs.lemmas.Bool.Decides.{Decides-eqb}
use Rattle.std.proofs.lemmas.Slice.Eq.{bytes_eq-Decides, starts_is}
use Rattle.sm_bytes.specs.Ascii.{full_stop}
use Rattle.sm_tree.specs.Node.{Node, no_nodes}
use Rattle.sm_tree.specs.Parts.{entries_in}
use Rattle.sm_compile.specs.TraitIds.{suppress_id}
use Rattle.sm_rules.specs.TraitRows.{are_text_nodes, is_as_one, rows_of, that_reads}
use Rattle.sm_load.specs.Suppressions.{names_event, node_names, nodes_in, some_node}
use Rattle.sm_load.specs.steps.Naming.{ends_word, where_names}

same_byte : (n : ℕ) → nat_eq n n ≡ true
same_byte n = (Decides-eqb n n).1 refl

turned : (a b : ℕ) → nat_eq a b ≡ (b == a)
turned a b = by (nat_eq a b) (b == a) (Decides-eqb a b) (Decides-eqb b a)
  where
    by : (x y : Bool) → Decides x (a ≡ b) → Decides y (b ≡ a) → x ≡ y
    by true true h k = refl
    by true false h k = sym (k.1 (sym (h.0 refl)))
    by false true h k = h.1 (sym (k.0 refl))
    by false false h k = refl

-- what stands behind the text decides
pub named_behind : (named rest : List ℕ) → names_event (named ++ rest) named ≡ ends_word rest
named_behind [] [] = refl
named_behind [] (c ∷ cs) = and_true (nat_eq full_stop c) ∙ turned full_stop c
  where
    and_true : (b : Bool) → (b && true) ≡ b
    and_true true = refl
    and_true false = refl
named_behind (n ∷ ns) rest =
    ap (λ b. (b && bytes_eq ns (ns ++ rest)) || (b && starts_with nat_eq (ns ++ rest) (ns ++ full_stop ∷ []))) (same_byte n)
    ∙ named_behind ns rest

pub named_here : (event named rest : List ℕ) → event ≡ named ++ rest → names_event event named ≡ ends_word rest
named_here event named rest is = ap (λ e. names_event e named) is ∙ named_behind named rest

-- and no other text names it
pub not_named : (event named : List ℕ) → ((rest : List ℕ) → event ≡ named ++ rest → ⊥) → names_event event named ≡ false
not_named event named other = or_from _ _ (whole (bytes_eq named event) refl)
    (part (starts_with nat_eq event (named ++ full_stop ∷ [])) refl)
  where
    whole : (b : Bool) → bytes_eq named event ≡ b → b ≡ false
    whole true is = absurd (other [] (sym ((bytes_eq-Decides named event).0 is) ∙ sym (append-nil named)))
    whole false is = refl

    part : (b : Bool) → starts_with nat_eq event (named ++ full_stop ∷ []) ≡ b → b ≡ false
    part true is =
        let word : List ℕ = named ++ full_stop ∷ [] in
        absurd (other _ ((starts_is Decides-eqb event word true (sym is)).0 refl ∙ append_assoc named (full_stop ∷ []) _))
    part false is = refl

-- the trait where it reads
or_false : (b : Bool) → (b || false) ≡ b
or_false true = refl
or_false false = refl

row_reads : (n : Node) → is_as_one (rows_of suppress_id) n ≡ are_text_nodes n
row_reads n = or_false _

pub names_where : (event : List ℕ) (o : Option Node) → some_node (node_names event)
    (nodes_in (that_reads suppress_id o)) ≡ where_names event o
names_where event None = refl
names_where event (Some n) =
    ap (λ b. some_node (node_names event) (nodes_in (cond b (Some n) None))) (row_reads n) ∙ by (are_text_nodes n)
  where
    by : (b : Bool) → some_node (node_names event) (nodes_in (cond b (Some n) None))
        ≡ (b && some_node (node_names event) (unwrap_or (entries_in n) no_nodes))
    by true = refl
    by false = refl
