-- `http` of an operation of a service that is ready reads.
use Rattle.std.proofs.Common.{◌≡◌, ◌<◌, ℕ, ℤ, pos, negsuc, Bool, true, false, List, [], Option, Some, None, refl, sym, ap, ◌∙◌}
use Rattle.std.proofs.Common.{arith, inl}
use Rattle.std.specs.Prelude.{◌^◌, codes, cond, int_le, is_some}
use Rattle.std.specs.Fmt.{signed_decimal}
use Rattle.std.proofs.lemmas.Bool.Decides.{nat_tests}
use Rattle.std.proofs.lemmas.Option.{none-some}
use Rattle.sm_tree.specs.Node.{Node}
use Rattle.sm_model.specs.Graphs.{GraphMaps}
use Rattle.sm_model.proofs.Worklist.{apart}
use Rattle.sm_compile.specs.Compiled.{IdSet}
use Rattle.sm_compile.specs.Sound.{trait_of}
use Rattle.sm_compile.specs.TraitIds.{http_id}
use Rattle.sm_compile.specs.TraitNodes.{field_of, is_object, is_text, number_of, text_of}
use Rattle.sm_compile.proofs.SoundTests.{first_of, second_of}
use Rattle.sm_rules.specs.Http.{is_from_to, wrong_code}
use Rattle.sm_rules.specs.Ready.{IsOfService, NoneFailsIn, Ready}
use Rattle.sm_rules.specs.TraitRows.{at_shape}
use Rattle.sm_rules.specs.Traits.{of_shape}
use Rattle.sm_rules.specs.Words.{IsOperation, IsService, field_in}
use Rattle.sm_accepted.proofs.TraitsRight.{must}
use Rattle.sm_http_traits.specs.Http.{http_seen, is_http_value, is_there_as, that_is_http}
use Rattle.sm_http_traits.proofs.HttpSaid.{is_own, said_seen, seen_said}
use Rattle.sm_service.specs.Compiled.{IsOperationOf}
use Rattle.sm_service.specs.steps.HttpReads.{HasHttpFields, ReadsHttp}
use Rattle.sm_service.proofs.HttpMembers.{reads_at}

-- a field that must be there as a text
some_text : (o : Option (List ℕ)) → is_some o ≡ true → (t : List ℕ) × (o ≡ Some t)
some_text None h = absurd (apart h)
some_text (Some t) h = (t, refl)

text_there : (o : Option Node) → is_there_as is_text o ≡ true → (t : List ℕ) × (text_of o ≡ Some t)
text_there None h = absurd (apart h)
text_there (Some n) h = some_text (text_of (Some n)) h

-- a code of success is a status
few : (k : ℕ) → int_le (pos k) (pos 299) ≡ true → k < 2 ^ 16
few k h = let e = at_most k h in omega (arith, e)
  where
    at_most : (k : ℕ) → int_le (pos k) (pos 299) ≡ true → k < 300
    at_most k h = grind (arith, nat_tests)

status : (z : ℤ) → is_from_to (pos 200) (pos 299) z ≡ true → (k : ℕ) × (z ≡ pos k) × (k < 2 ^ 16)
status (pos k) h = (k, refl, few k (second_of (int_le (pos 200) (pos k)) (int_le (pos k) (pos 299)) h))
status (negsuc k) h = absurd (apart (first_of (int_le (pos 200) (negsuc k)) (int_le (negsuc k) (pos 299)) h))

abbrev field_text : List ℕ → Option Node → Option (List ℕ)
field_text name o = text_of (field_in name o)

abbrev code_in : Option Node → Option ℤ
code_in o = number_of (field_in (codes "code") o)

module _ (g : GraphMaps) (In : IdSet) (none : NoneFailsIn g In) (id : List ℕ) (inside : In id) (own : IsOperation g id) where
  -- it is seen, as its value reads
  seen : (n : Node) → trait_of g id http_id ≡ Some n → http_seen g id ≡ Some n
  seen n is =
      said_seen g id (λ o. o) refl n own
      (reads_at g In none id inside own.1.1 (at_shape own.0.kind) (of_shape (own.0, own.1, refl)) http_id refl ∙ is)

  -- so its value has the form of one
  value : (n : Node) → trait_of g id http_id ≡ Some n → is_http_value n ≡ true
  value n is =
      by (is_http_value n)
      (ap that_is_http (sym is) ∙ sym (ap (λ b. cond b (that_is_http (trait_of g id http_id)) None) (is_own g id own)) ∙ seen n is)
    where
      by : (b : Bool) → cond b (Some n) None ≡ Some n → b ≡ true
      by true e = refl
      by false e = absurd (none-some n e)

  fields : (n : Node) → trait_of g id http_id ≡ Some n → HasHttpFields g id
  fields n is =
      let rest = second_of (is_object n) _ (value n is) in
      let method = text_there (field_of (codes "method") n) (first_of (is_there_as is_text (field_of (codes "method") n)) _ rest) in
      let later = second_of (is_there_as is_text (field_of (codes "method") n)) _ rest in
      let uri = text_there (field_of (codes "uri") n) (first_of (is_there_as is_text (field_of (codes "uri") n)) _ later) in
      let uri_is = ap (field_text (codes "uri")) (seen n is) ∙ uri.1 in
      record {
        method = method.0;
        method_is = ap (field_text (codes "method")) (seen n is) ∙ method.1;
        text = uri.0;
        text_is = uri_is;
        pattern = λ no. none.uris id [] inside (record {
          is_operation = own;
          t = uri.0;
          said = (seen_said g id (field_text (codes "uri")) refl uri.0 uri_is).1;
          none = no;
          detail_is = refl;
        });
        code = λ z said. status z (must (is_from_to (pos 200) (pos 299) z) (λ wrong. none.numbers id (signed_decimal z) inside
            (wrong_code z (record {
              is_operation = own;
              said = (seen_said g id code_in refl z said).1;
              wrong = inl wrong;
            }) refl)));
      }

  http_reads : ReadsHttp g id
  http_reads = record { operation = own; fields = fields }

-- an operation of a service that is ready
pub reads_http : (g : GraphMaps) (service id : List ℕ) → IsService g service → Ready g service → IsOperationOf g service id → ReadsHttp g id
reads_http g service id is ready of = http_reads g (IsOfService g service) (ready is).none id of.0 of.1
