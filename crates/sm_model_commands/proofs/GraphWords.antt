-- The words of `convert`, and those that aren't.
use Rattle.std.proofs.Common.{◌≡◌, ℕ, Bool, cond, List, ◌++◌, sym, ap, subst, ◌∙◌, refl, codes, bytes_eq}
use Rattle.std.proofs.lemmas.List.{append_cancel_left}
use Rattle.sm_ids.specs.Identifier.{IsNamespace}
use Rattle.sm_asked.proofs.OverModels.{over_same}
use Rattle.sm_model_commands.specs.Forms.{GraphForm, as_ast, as_idl, graph_word, SaysGraphForm, IsConvertForm}

-- the words for two forms of a graph differ
abbrev says_ast : List ℕ → Bool
says_ast w = bytes_eq w (codes "ast")

no_ast : (namespace : List ℕ) → codes "ast" ≡ codes "idl:" ++ namespace → ⊥
no_ast namespace e = subst (λ b. cond b (Unit {0}) ⊥) (ap says_ast e) tt

graph_form_same : (form form1 : GraphForm) → graph_word form ≡ graph_word form1 → form ≡ form1
graph_form_same as_ast as_ast e = refl
graph_form_same as_ast (as_idl namespace) e = absurd (no_ast namespace e)
graph_form_same (as_idl namespace) as_ast e = absurd (no_ast namespace (sym e))
graph_form_same (as_idl namespace) (as_idl namespace1) e = ap as_idl (append_cancel_left (codes "idl:") namespace namespace1 e)

pub convert_words_same : (words models models1 : List (List ℕ)) (form form1 : GraphForm) → IsConvertForm words models form
    → IsConvertForm words models1 form1 → (models ≡ models1) × (form ≡ form1)
convert_words_same words models models1 form form1 h i =
    let both = over_same words (codes "convert") models models1 h.last i.last h.over i.over in
    (both.0, graph_form_same form form1 (sym h.says.is ∙ both.1 ∙ i.says.is))

pub no_namespace : (word rest : List ℕ) → (word ≡ codes "ast" → ⊥) → word ≡ codes "idl:" ++ rest → (IsNamespace rest → ⊥)
    → (form : GraphForm) → SaysGraphForm word form → ⊥
no_namespace word rest no_ast is none as_ast e = no_ast e.is
no_namespace word rest no_ast is none (as_idl namespace) e =
    none (subst IsNamespace (append_cancel_left (codes "idl:") namespace rest (sym e.is ∙ is)) e.named)
