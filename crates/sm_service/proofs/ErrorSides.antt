-- Whose error an error is where no rule fails, and that its status is one of that side.
use Rattle.std.proofs.Common.{◌≡◌, ℕ, ℤ, pos, ◌≤◌, true, ◌&&◌, List, [], ◌∷◌, Option, Some, None, refl, sym, ap, ◌∙◌}
use Rattle.std.proofs.Common.{arith, bytes_eq}
use Rattle.std.specs.Prelude.{codes, int_le, is_some}
use Rattle.std.specs.Fmt.{signed_decimal}
use Rattle.std.specs.List.{list_any}
use Rattle.std.specs.Option.{unwrap_or}
use Rattle.std.proofs.lemmas.Bool.Decides.{nat_tests}
use Rattle.sm_tree.specs.Node.{Node}
use Rattle.sm_tree.specs.Parts.{text_in}
use Rattle.sm_model.specs.Graphs.{GraphMaps, ShapeEntry}
use Rattle.sm_model.specs.declared.kind.Kind.TheVariants.{Structure}
use Rattle.sm_model.proofs.Worklist.{apart}
use Rattle.sm_compile.specs.Compiled.{IdSet}
use Rattle.sm_compile.specs.Sound.{trait_in, trait_of}
use Rattle.sm_compile.specs.TraitIds.{error_id, http_error_id}
use Rattle.sm_compile.specs.TraitNodes.{is_text, number_of, text_of}
use Rattle.sm_compile.proofs.SoundTests.{first_of, second_of}
use Rattle.sm_rules.specs.Http.{is_from_to, is_status_of, wrong_status}
use Rattle.sm_rules.specs.Ready.{NoneFailsIn}
use Rattle.sm_rules.specs.TraitRows.{at_shape, has_row}
use Rattle.sm_rules.specs.Traits.{of_shape}
use Rattle.sm_rules.specs.Words.{IsOwnShape, has_trait, read_trait}
use Rattle.sm_accepted.proofs.TraitsRight.{by_row, must, or_false}
use Rattle.sm_service.proofs.HttpMembers.{reads_at}

at_most : (a b : ℕ) → int_le (pos a) (pos b) ≡ true → a ≤ b
at_most a b h = grind (arith, nat_tests)

pub between : (low high k : ℕ) → is_from_to (pos low) (pos high) (pos k) ≡ true → (low ≤ k) × (k ≤ high)
between low high k h = (
  at_most low k (first_of (int_le (pos low) (pos k)) (int_le (pos k) (pos high)) h),
  at_most k high (second_of (int_le (pos low) (pos k)) (int_le (pos k) (pos high)) h),
)

abbrev pub sides : List (List ℕ)
sides = codes "client" ∷ codes "server" ∷ []

abbrev pub IsClientOrServer : List ℕ → Type 0
IsClientOrServer t = list_any (bytes_eq t) sides ≡ true

-- whose error, where the trait is there
side_told : (o : Option Node) → is_some o ≡ true
    → ((n : Node) → o ≡ Some n → (is_text n && list_any (bytes_eq (unwrap_or (text_in n) [])) sides) ≡ true)
    → (t : List ℕ) × (text_of o ≡ Some t) × IsClientOrServer t
side_told None there right = absurd (apart there)
side_told (Some n) there right = by (text_in n) refl (right n refl)
  where
    by : (o : Option (List ℕ)) → text_in n ≡ o → (is_some o && list_any (bytes_eq (unwrap_or o [])) sides) ≡ true
        → (t : List ℕ) × (text_in n ≡ Some t) × IsClientOrServer t
    by None is h = absurd (apart h)
    by (Some t) is h = (t, is, h)

module _ (g : GraphMaps) (In : IdSet) (none : NoneFailsIn g In) (id : List ℕ) (s : ShapeEntry) (own : IsOwnShape g id s)
    (inside : In id) (kind : s.kind ≡ Structure) (error : has_trait error_id s.traits ≡ true) where
  -- values of the shape's traits read
  read_all : (trait : List ℕ) → has_row trait ≡ true → read_trait g id trait ≡ trait_of g id trait
  read_all trait row = reads_at g In none id inside own.1 (at_shape s.kind) (of_shape (s, own, refl)) trait row

  pub side : (t : List ℕ) × (text_of (trait_of g id error_id) ≡ Some t) × IsClientOrServer t
  side =
      side_told (trait_of g id error_id) (ap (λ e. is_some (trait_in error_id e)) own.0 ∙ error)
      (λ n is. sym (or_false _) ∙ by_row g In none id inside own.1 (at_shape s.kind) (of_shape (s, own, refl)) error_id n refl is)

  pub right : (z : ℤ) → number_of (trait_of g id http_error_id) ≡ Some z → is_status_of (Some side.0) z ≡ true
  right z said =
      must (is_status_of (Some side.0) z) (λ wrong. none.numbers id (signed_decimal z) inside (wrong_status z (record {
        is_structure = (s, own, kind);
        said = ap number_of (read_all http_error_id refl) ∙ said;
        wrong = ap (λ o. is_status_of o z) (ap text_of (read_all error_id refl) ∙ side.1) ∙ wrong;
      }) refl))
