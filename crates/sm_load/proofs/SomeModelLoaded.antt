-- Model files load to a model, or have a refusal other than that memory ran out. Where a case can't be decided, each of its two sides is
-- denied in turn.
use Rattle.std.proofs.Common.{◌≡◌, ◌≤◌, inl, inr, ℕ, zero, suc, Bool, true, false, List, [], ◌∷◌, Option, Some, None, Result, Ok, Err}
use Rattle.std.proofs.Common.{length, take, refl, sym, ap, subst, arith}
use Rattle.std.proofs.lemmas.Bool.{cases_lt}
use Rattle.std.proofs.lemmas.List.{take_all}
use Rattle.std.proofs.lemmas.Str.{IsUtf8-nil}
use Rattle.std.specs.Prelude.{IsUtf8}
use Rattle.std.specs.Str.{IsValidUpTo}
use Rattle.sm_tree.specs.Node.{Node}
use Rattle.sm_tree.specs.Syntax.{ComesTo, IsRead}
use Rattle.sm_tree.specs.declared.refusal.SyntaxRefusal.{SyntaxRefusal}
use Rattle.sm_tree.proofs.SomeAnswer as tree
use Rattle.sm_json.specs.JsonText.{JsonText, json_syntax}
use Rattle.sm_json.proofs.SpeltTrees.{text_json}
use Rattle.sm_json.proofs.WrittenTrees.{null_begins}
use Rattle.sm_model.specs.EventView.{EventTold}
use Rattle.sm_model.specs.Graphs.{GraphMaps}
use Rattle.sm_model.specs.Said.{Said}
use Rattle.sm_model.specs.declared.event.ModelEvent.{ModelEvent}
use Rattle.sm_ast.specs.Answers.{Tells}
use Rattle.sm_ast.specs.Faults.{AstFault, version, field, wrong_type, bad_id, ast_fault}
use Rattle.sm_ast.specs.declared.refusal.AstRefusal.TheVariants.{NoMemory as ast_short}
use Rattle.sm_ast.specs.steps.Saying.{ast_said}
use Rattle.sm_ast.proofs.SaidTop.{ast_holds}
use Rattle.sm_idl.proofs.IdlAnswers.{some_answer}
use Rattle.sm_merge.specs.Answers.{MergesTo}
use Rattle.sm_merge.specs.Limits.{IsFirstPast, IsPast, IsWithinLimits}
use Rattle.sm_merge.specs.Merged.{AreEventsOf, IsGraphOf}
use Rattle.sm_merge.specs.Stated.{AreFormedFiles, stated_by}
use Rattle.sm_merge.specs.declared.limit.LimitKind.{LimitKind}
use Rattle.sm_merge.specs.declared.limit.LimitKind.TheVariants.{Shapes, Members, AllMembers, Traits}
use Rattle.sm_merge.specs.declared.refusal.MergeRefusal.TheVariants.{Limit as PastLimit, Rejected as RejectedInMerging}
use Rattle.sm_merge.proofs.OneMerged.{one_graph}
use Rattle.sm_merge.proofs.SomeEvents.{some_events}
use Rattle.sm_merge.proofs.SomeGraph.{some_graph}
use Rattle.sm_load.specs.Events.{AreModelEvents}
use Rattle.sm_load.specs.Laws.{SomeLoad, SomeModelEvents, SomeRuleEvents}
use Rattle.sm_load.specs.Loading.{AreAccepted, LoadsTo, MergeInto}
use Rattle.sm_load.specs.ModelFiles.{EndsInJson, FileGiven, HasStatements, HaveStatements, IsFirstRefused, IsRefusedAt}
use Rattle.sm_load.specs.ModelFiles.HasStatements.{in_ast, in_idl}
use Rattle.sm_load.specs.declared.model.LoadRefusal.{LoadRefusal}
use Rattle.sm_load.specs.declared.model.LoadRefusal.TheVariants.{Text, Limit, Rejected, NoMemory}
use Rattle.sm_load.specs.declared.model.TextPlace.{TextPlace}
use Rattle.sm_load.specs.declared.model.TextPlace.TheVariants.{Utf8, Json, Ast as InAst, Idl as InIdl}
use Rattle.sm_load.specs.steps.Stages.{some_grave}
use Rattle.sm_load.proofs.GraphsJudged.{rejected_by, rejects_none}
use Rattle.sm_load.proofs.OneModelFile.{files_formed, told_by}
use Rattle.sm_load.proofs.SomeRuleEvents.{some_rule_events}
use Rattle.sm_load.proofs.SeveritiesMade.{errors_made, made_errors, made_rules, rules_made, same_errors}

-- a fault is told
fault_told : (fault : AstFault) → Tells (Some fault) (told_by (Some fault))
fault_told version = refl
fault_told (field path) = refl
fault_told (wrong_type path) = refl
fault_told (bad_id path) = refl

not_short : (fault : AstFault) → told_by (Some fault) ≡ ast_short → ⊥
not_short version e = cc
not_short (field path) e = cc
not_short (wrong_type path) e = cc
not_short (bad_id path) e = cc

-- one prefix that is UTF-8 is the longest
longest_below : (file : List ℕ) → ((at : ℕ) → IsValidUpTo file at → ⊥) → (m : ℕ) → m ≤ length file
    → ((j : ℕ) → m ≤ j → IsUtf8 (take j file) → ⊥) → ⊥
longest_below file none zero le why = why 0 (omega arith) IsUtf8-nil
longest_below file none (suc m) le why = longest_below file none m (omega (arith, le)) later
  where
    later : (j : ℕ) → m ≤ j → IsUtf8 (take j file) → ⊥
    later j less u = elim (cases_lt m j) [
      | inl above ↦ why j (omega (arith, above)) u
      | inr same ↦ none j (record {
        short = omega (arith, le, same);
        front = u;
        longest = λ k lt v. why k (omega (arith, lt, same, less)) v;
      })
    ]

-- a file says statements, or is refused at a place
module _ (f : FileGiven) (none : (p : TextPlace) → IsRefusedAt f p → ⊥) (some : (said : List Said) → HasStatements f said → ⊥) where
  with_fault : EndsInJson f.name → (n : Node) → IsRead JsonText n f.bytes → (found : Option AstFault) → ast_fault n ≡ found → ⊥
  with_fault named n read (Some fault) e = none (InAst (told_by (Some fault))) (
    named,
    record {
      tree = n;
      is_text = read;
      tells = subst (λ o. Tells o (told_by (Some fault))) (sym e) (fault_told fault);
      is_told = not_short fault;
    },
  )
  with_fault named n read None e = some (ast_said n) (in_ast (record {
    is_json = named;
    tree = n;
    is_text = read;
    says = ast_holds n (text_json n f.bytes read.0) e;
  }))

  other_name : EndsInJson f.name → ⊥
  other_name named = tree.some_answer json_syntax null_begins f.bytes come_to
    where
      come_to : (r : Result Node SyntaxRefusal) → ComesTo json_syntax f.bytes r → ⊥
      come_to (Ok n) read = with_fault named n read (ast_fault n) refl
      come_to (Err refusal) is = none (Json refusal) (named, is)

  no_utf8 : IsUtf8 f.bytes → ⊥
  no_utf8 u =
      some_answer f.bytes u
      (λ file idl version. some file.said (in_idl (record {
        other_name = other_name;
        is_utf8 = u;
        file = file;
        is_text = idl;
        version = version;
        says = refl;
      })))
      (λ r why. none (InIdl r) (other_name, u, why))

  file_answered : ⊥
  file_answered =
      longest_below f.bytes (λ at valid. none (Utf8 at) (other_name, valid)) (length f.bytes) (omega arith)
      (λ j le u. no_utf8 (subst IsUtf8 (take_all j f.bytes le) u))

-- and so several files
first_behind : (f : FileGiven) (fs : List FileGiven) (number : ℕ) (p : TextPlace) (s : List Said) → HasStatements f s
    → IsFirstRefused fs number p → IsFirstRefused (f ∷ fs) (suc number) p
first_behind f fs number p s is h =
    let more = h.number_is in
    let counted : suc number ≡ length (f ∷ h.before) = omega (arith, more) in record {
      before = f ∷ h.before;
      file = h.file;
      behind = h.behind;
      cut = ap (λ xs. f ∷ xs) h.cut;
      number_is = counted;
      said = s ∷ h.said;
      earlier = (s, h.said, refl, is, h.earlier);
      refused = h.refused;
    }

files_answered : (fs : List FileGiven) → ((number : ℕ) (p : TextPlace) → IsFirstRefused fs number p → ⊥)
    → ((said : List (List Said)) → HaveStatements fs said → ⊥) → ⊥
files_answered [] none some = some [] refl
files_answered (f ∷ fs) none some =
    file_answered f
    (λ p h. none 0 p
    (record { before = []; file = f; behind = fs; cut = refl; number_is = refl; said = []; earlier = refl; refused = h }))
    (λ s is. files_answered fs (λ number p h. none (suc number) p (first_behind f fs number p s is h))
    (λ more later. some (s ∷ more) (s, more, refl, is, later)))

-- statements merge, or are refused
module _ (said : List (List Said)) (formed : AreFormedFiles said) (past : (kind : LimitKind) → MergesTo said (Err (PastLimit kind)) → ⊥)
    (rejected : (es : List ModelEvent) → MergesTo said (Err (RejectedInMerging es)) → ⊥)
    (some : (g : GraphMaps) → MergeInto said g → ⊥) where
  module _ (g : GraphMaps) (of : IsGraphOf (stated_by said) g) where
    each : (P : GraphMaps → Type 0) → P g → (h : GraphMaps) → IsGraphOf (stated_by said) h → P h
    each P holds h is = subst P (one_graph (stated_by said) g h of is) holds

    deny : (kind : LimitKind) → IsFirstPast kind g → ⊥
    deny kind first = past kind (each (IsFirstPast kind) first)

    few_shapes : IsPast Shapes g → ⊥
    few_shapes h = deny Shapes h

    few_members : IsPast Members g → ⊥
    few_members h = deny Members (few_shapes, h)

    few_in_all : IsPast AllMembers g → ⊥
    few_in_all h = deny AllMembers (few_shapes, few_members, h)

    within : IsWithinLimits g
    within Shapes h = few_shapes h
    within Members h = few_members h
    within AllMembers h = few_in_all h
    within Traits h = deny Traits (few_shapes, few_members, few_in_all, h)

    by_events : (es : List EventTold) → AreEventsOf (stated_by said) es → ⊥
    by_events [] are = some g (record {
      is_graph = of;
      within = within;
      right = λ e wrong. let there = (are.all e).1 wrong in omega (arith, there.1);
    })
    by_events (e ∷ es) are =
        rejected (made_errors (e ∷ es)) (
          each IsWithinLimits within,
          subst (AreEventsOf (stated_by said)) (sym (same_errors (e ∷ es))) are,
          errors_made (e ∷ es),
          omega arith,
        )

  merge_answered : ⊥
  merge_answered = some_graph said formed (λ g of. some_events said (by_events g of))

-- files load to a model, or are refused
module _ (events : SomeRuleEvents) (files : List FileGiven)
    (none : (r : LoadRefusal) → (r ≡ NoMemory → ⊥) → LoadsTo files (Err r) → ⊥) (some : (g : GraphMaps) → AreAccepted files g → ⊥) where
  of_events : (said : List (List Said)) → HaveStatements files said → (g : GraphMaps) → MergeInto said g → (es : List ModelEvent)
      → AreModelEvents g es → (b : Bool) → some_grave es ≡ b → ⊥
  of_events said are g merged es told true is =
      none (Rejected es) (λ e. cc)
      (said, are, inr (record { g = g; merged = merged; rejects = (rejected_by g es told is, told) }))
  of_events said are g merged es told false is = some g (record {
    said = said;
    statements = are;
    formed = files_formed files said are;
    merged = merged;
    no_error = rejects_none g es told is;
  })

  of_graph : (said : List (List Said)) → HaveStatements files said → (g : GraphMaps) → MergeInto said g → ⊥
  of_graph said are g merged =
      events g (λ es is. of_events said are g merged (made_rules es) (rules_made g es is) (some_grave (made_rules es)) refl)

  of_statements : (said : List (List Said)) → HaveStatements files said → ⊥
  of_statements said are =
      merge_answered said (files_formed files said are) (λ kind h. none (Limit kind) (λ e. cc) (said, are, h))
      (λ es h. none (Rejected es) (λ e. cc) (said, are, inl h)) (of_graph said are)

  pub load_answered : ⊥
  load_answered = files_answered files (λ number p h. none (Text number p) (λ e. cc) h) of_statements

-- and so, since a graph has some list of events
pub some_load : SomeLoad
some_load files none some = load_answered some_rule_events files none some

pub some_model_events : SomeModelEvents
some_model_events g none = some_rule_events g (λ es is. none (made_rules es) (rules_made g es is))
