-- Words have the form of one command at most.
use Rattle.std.proofs.Common.{◌≡◌, ℕ, Bool, false, true≢false, List, [], ◌∷◌, ◌++◌, sym, ap, ◌∙◌, refl, codes, bytes_eq}
use Rattle.std.proofs.lemmas.Slice.Eq.{bytes_eq-Decides}
use Rattle.sm_bodies.specs.declared.form.BodyForm.{BodyForm}
use Rattle.sm_model_commands.proofs.asked.OverModels.{alone_same, over_same}
use Rattle.sm_model_commands.specs.Forms.{GraphForm, IsCheckForm, IsConvertForm, IsSelectForm}
use Rattle.sm_model_commands.proofs.GraphWords.{convert_words_same}
use Rattle.sm_body_command.specs.BodyWords.{IsBodyForm, form_word}
use Rattle.sm_body_command.proofs.SideWords.{body_words_same}
use Rattle.sm_cross_command.specs.CrossWords.{CrossAsked, IsCrossForm, words_behind}
use Rattle.sm_cross_command.proofs.CrossForms.{cross_words_same}
use Rattle.sm_schema_command.specs.SchemaForm.{IsSchemaForm, described_words, names_word}
use Rattle.sm_schema_command.proofs.NamesWords.{schema_words_same}
use Rattle.sm_transform_command.specs.TransformForm.{ChangeAsked, IsTransformForm, argument_word, verb_word}
use Rattle.sm_transform_command.proofs.TransformForms.{transform_words_same}
use Rattle.sm_commands.specs.Commands.{Command, body_command, check_command, convert_command, cross_command, schema_command, select_command}
use Rattle.sm_commands.specs.Commands.{IsCommandForm, IsNoForm, OneCommandForm, first_word, transform_command}

-- words that are told apart differ
apart : (a b : List ℕ) → bytes_eq a b ≡ false → a ≡ b → ⊥
apart a b other same = true≢false (sym ((bytes_eq-Decides a b).1 same) ∙ other)

-- the words of a command begin with its first word, so the commands of one text have one first word
begins : (words : List (List ℕ)) (x : Command) → IsCommandForm words x → (rest : List (List ℕ)) × (words ≡ first_word x ∷ rest)
begins words (check_command models) h = (models, h.are)
begins words (body_command model shape near far) h = (model ∷ shape ∷ form_word near ∷ form_word far ∷ [], h)
begins words (convert_command models form) h = (models ++ h.last ∷ [], h.over.are)
begins words (select_command models selector) h = (models ++ selector ∷ [], h.are)
begins words (schema_command model shape json_names described) h = (model ∷ shape ∷ names_word json_names ∷ described_words described, h)
begins words (cross_command w) h = (w.models ++ words_behind w, h.are.are)
begins words (transform_command models asked) h = (models ++ verb_word asked ∷ argument_word asked ∷ [], h.are)

first_same : (words : List (List ℕ)) (x y : Command) → IsCommandForm words x → IsCommandForm words y → first_word x ≡ first_word y
first_same words x y h i =
    let b = begins words x h in
    let d = begins words y i in
    let e = sym b.1 ∙ d.1 in cc

-- and no two kinds of commands have one
pub one_form : OneCommandForm
one_form words (check_command models) (check_command models1) h i = ap check_command (alone_same words (codes "check") models models1 h i)
one_form words (body_command model shape near far) (body_command model1 shape1 near1 far1) h i =
    let both = body_words_same words model shape model1 shape1 near far near1 far1 h i in
    ap (λ x. body_command x shape near far) both.same_model ∙ ap (λ x. body_command model1 x near far) both.same_shape
    ∙ ap (λ x. body_command model1 shape1 x far) both.same_near ∙ ap (λ x. body_command model1 shape1 near1 x) both.same_far
one_form words (convert_command models form) (convert_command models1 form1) h i =
    let both = convert_words_same words models models1 form form1 h i in
    ap (λ ms. convert_command ms form) both.0 ∙ ap (convert_command models1) both.1
one_form words (select_command models s) (select_command models1 s1) h i =
    let both = over_same words (codes "select") models models1 s s1 h i in
    ap (λ ms. select_command ms s) both.0 ∙ ap (λ x. select_command models1 x) both.1
one_form words (schema_command model shape json_names described) (schema_command model1 shape1 json_names1 described1) h i =
    let both = schema_words_same words model shape model1 shape1 json_names described json_names1 described1 h i in
    ap (λ x. schema_command x shape json_names described) both.same_model
    ∙ ap (λ x. schema_command model1 x json_names described) both.same_shape
    ∙ ap (λ x. schema_command model1 shape1 x described) both.same_names
    ∙ ap (λ x. schema_command model1 shape1 json_names1 x) both.same_described
one_form words (cross_command w) (cross_command v) h i = ap cross_command (cross_words_same words w v h i)
one_form words (transform_command models asked) (transform_command models1 asked1) h i =
    let both = transform_words_same words models models1 asked asked1 h i in
    ap (λ ms. transform_command ms asked) both.0 ∙ ap (λ x. transform_command models1 x) both.1
one_form words x y h i = absurd (apart (first_word x) (first_word y) refl (first_same words x y h i))

-- words of no command's form
pub no_form : (words : List (List ℕ)) → ((models : List (List ℕ)) → IsCheckForm words models → ⊥)
    → ((model shape : List ℕ) (near far : BodyForm) → IsBodyForm words model shape near far → ⊥)
    → ((models : List (List ℕ)) (form : GraphForm) → IsConvertForm words models form → ⊥)
    → ((models : List (List ℕ)) (selector : List ℕ) → IsSelectForm words models selector → ⊥)
    → ((model shape : List ℕ) (json_names described : Bool) → IsSchemaForm words model shape json_names described → ⊥)
    → ((w : CrossAsked) → IsCrossForm words w → ⊥)
    → ((models : List (List ℕ)) (asked : ChangeAsked) → IsTransformForm words models asked → ⊥) → IsNoForm words
no_form words no_check no_body no_convert no_select no_schema no_cross no_transform (check_command models) h = no_check models h
no_form words no_check no_body no_convert no_select no_schema no_cross no_transform (body_command model shape near far) h =
    no_body model shape near far h
no_form words no_check no_body no_convert no_select no_schema no_cross no_transform (convert_command models form) h = no_convert models form h
no_form words no_check no_body no_convert no_select no_schema no_cross no_transform (select_command models selector) h = no_select models selector h
no_form words no_check no_body no_convert no_select no_schema no_cross no_transform (schema_command model shape json_names described) h =
    no_schema model shape json_names described h
no_form words no_check no_body no_convert no_select no_schema no_cross no_transform (cross_command w) h = no_cross w h
no_form words no_check no_body no_convert no_select no_schema no_cross no_transform (transform_command models asked) h =
    no_transform models asked h
