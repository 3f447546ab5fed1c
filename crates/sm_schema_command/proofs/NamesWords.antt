-- The words of `schema` have one reading; and the command leaves the input and writes no file.
use Rattle.std.proofs.Common.{◌≡◌, ℕ, Bool, true, false, cond, List, [], ◌∷◌, sym, ap, subst, ◌∙◌, refl, codes, bytes_eq}
use Rattle.sm_asked_shape.specs.asked.AskedLaws.{ReachesInput, WritesAsNamed}
use Rattle.sm_asked_shape.proofs.ShapeComes.{none_over_shape, reach_over_shape}
use Rattle.sm_schema_command.specs.Schema.{SchemaSays, schema_asked}
use Rattle.sm_schema_command.specs.SchemaForm.{IsSchemaForm, described_words, names_word}

abbrev says_json : List ℕ → Bool
says_json w = bytes_eq w (codes "json")

names_same : (a b : Bool) → names_word a ≡ names_word b → a ≡ b
names_same true true e = refl
names_same true false e = absurd (subst (λ b. cond b ⊥ (Unit {0})) (sym (ap says_json e)) tt)
names_same false true e = absurd (subst (λ b. cond b ⊥ (Unit {0})) (ap says_json e) tt)
names_same false false e = refl

abbrev stands : List (List ℕ) → Bool
stands [] = false
stands (w ∷ ws) = true

described_same : (a b : Bool) → described_words a ≡ described_words b → a ≡ b
described_same true true e = refl
described_same true false e = absurd (subst (λ b. cond b (Unit {0}) ⊥) (ap stands e) tt)
described_same false true e = absurd (subst (λ b. cond b ⊥ (Unit {0})) (ap stands e) tt)
described_same false false e = refl

pub record OneSchemaWords (model shape model1 shape1 : List ℕ) (json_names described json_names1 described1 : Bool) : Type 0 where
  pub same_model : model ≡ model1
  pub same_shape : shape ≡ shape1
  pub same_names : json_names ≡ json_names1
  pub same_described : described ≡ described1

pub schema_words_same : (words : List (List ℕ)) (model shape model1 shape1 : List ℕ) (json_names described json_names1 described1 : Bool)
    → IsSchemaForm words model shape json_names described → IsSchemaForm words model1 shape1 json_names1 described1
    → OneSchemaWords model shape model1 shape1 json_names described json_names1 described1
schema_words_same words model shape model1 shape1 json_names described json_names1 described1 h i = let e = sym h ∙ i in record {
  same_model = cc;
  same_shape = cc;
  same_names = names_same json_names json_names1 (cc);
  same_described = described_same described described1 (cc);
}

pub schema_reaches : (model shape : List ℕ) (json_names described : Bool) → ReachesInput (schema_asked model shape json_names described)
schema_reaches model shape json_names described = reach_over_shape model (λ t a. SchemaSays t model shape json_names described a)

pub schema_writes : (model shape : List ℕ) (json_names described : Bool) → WritesAsNamed (schema_asked model shape json_names described)
schema_writes model shape json_names described = none_over_shape model (λ t a. SchemaSays t model shape json_names described a)
