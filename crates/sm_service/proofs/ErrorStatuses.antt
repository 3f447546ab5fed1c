-- The status of an error of a service that is ready is one.
use Rattle.std.proofs.Common.{◌≡◌, ◌⊎◌, inl, inr, ℕ, ℤ, pos, negsuc, ◌<◌, Bool, true, false, ◌&&◌, ◌||◌, not, List, Option, Some, None, refl}
use Rattle.std.proofs.Common.{arith, bytes_eq}
use Rattle.std.specs.Prelude.{◌^◌, codes, int_le}
use Rattle.sm_model.specs.FormedGraph.{IsFormedGraph}
use Rattle.sm_model.specs.Graphs.{GraphMaps, ShapeEntry, shape_entry}
use Rattle.sm_model.specs.Relations.{HasEntry}
use Rattle.sm_model.specs.declared.kind.Kind.TheVariants as model
use Rattle.sm_model.proofs.Worklist.{apart}
use Rattle.sm_compile.specs.Compiled.{IdSet}
use Rattle.sm_compile.specs.Sound.{trait_of}
use Rattle.sm_compile.specs.TraitIds.{error_id, http_error_id}
use Rattle.sm_compile.specs.TraitNodes.{number_of}
use Rattle.sm_compile.proofs.SoundTests.{first_of, second_of}
use Rattle.sm_rules.specs.Http.{is_from_to}
use Rattle.sm_rules.specs.Ready.{NoneFailsIn}
use Rattle.sm_rules.specs.Targets.{is_error_structure}
use Rattle.sm_rules.specs.TraitRows.{is_kind}
use Rattle.sm_rules.specs.Words.{IsOwnShape, has_trait}
use Rattle.sm_service.specs.steps.ErrorReads.{IsStatusWord}
use Rattle.sm_service.proofs.ErrorSides.{between, right, side}
use Rattle.sm_service.proofs.ErrorsApart.{own_error, structure_kind}

-- a number between these is a status
word_between : (low high : ℕ) → high < 2 ^ 16 → (z : ℤ) → is_from_to (pos low) (pos high) z ≡ true → IsStatusWord (Some z)
word_between low high few (pos k) h = let most = (between low high k h).1 in (k, refl, omega (arith, most, few))
word_between low high few (negsuc k) h = absurd (apart (first_of (int_le (pos low) (negsuc k)) (int_le (negsuc k) (pos high)) h))

-- of one of two sides
either_side : (a b c d : Bool) → (a || (b || false)) ≡ true → ((not a || c) && (not b || d)) ≡ true → (c ≡ true) ⊎ (d ≡ true)
either_side true b c d told right = inl (first_of c (not b || d) right)
either_side false true c d told right = inr right
either_side false false c d told right = absurd (apart told)

pub error_status : (g : GraphMaps) → IsFormedGraph g → (In : IdSet) → NoneFailsIn g In → (id : List ℕ) (s : ShapeEntry)
    → HasEntry g id (shape_entry s) → In id → is_error_structure s ≡ true → IsStatusWord (number_of (trait_of g id http_error_id))
error_status g f In none id s there inside is = by (number_of (trait_of g id http_error_id)) refl
  where
    kind : s.kind ≡ model.Structure
    kind = structure_kind s.kind (first_of (is_kind model.Structure s.kind) (has_trait error_id s.traits) is)

    error : has_trait error_id s.traits ≡ true
    error = second_of (is_kind model.Structure s.kind) (has_trait error_id s.traits) is

    own : IsOwnShape g id s
    own = (there, own_error g f id s there error)

    by : (o : Option ℤ) → number_of (trait_of g id http_error_id) ≡ o → IsStatusWord o
    by None said = tt
    by (Some z) said =
        let t = side g In none id s own inside kind error in
        elim (either_side (bytes_eq t.0 (codes "client")) (bytes_eq t.0 (codes "server")) (is_from_to (pos 400) (pos 499) z)
        (is_from_to (pos 500) (pos 599) z) t.2 (right g In none id s own inside kind error z said)) [
          | inl client ↦ word_between 400 499 (omega arith) z client
          | inr server ↦ word_between 500 599 (omega arith) z server
        ]
