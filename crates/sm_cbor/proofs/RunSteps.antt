-- What the reader does with bytes of strings. The answers of those steps cite these.
use Rattle.std.proofs.Common.{◌≡◌, ◌≢◌, ◌↔◌, ℕ, suc, ◌-◌, ◌≤◌, ◌<◌, inl, inr, Option, Some, List, [], ◌∷◌, ◌++◌, refl, sym, ap, subst}
use Rattle.std.proofs.Common.{◌∙◌, arith, length, take, get_or, length-take, append-nil, append_assoc, IsUtf8}
use Rattle.std.proofs.Common.{Global}
use Rattle.std.specs.Prelude.{Vec}
use Rattle.std.proofs.lemmas.List.{take-take}
use Rattle.sm_tree.specs.Json.{AreBytes}
use Rattle.sm_tree.specs.Limits.{most_levels}
use Rattle.sm_bytes.specs.declared.utf8.Utf8.{Utf8}
use Rattle.sm_bytes.specs.declared.utf8.Utf8.TheVariants.{Between, Second, LastTwo, Last}
use Rattle.sm_bytes.specs.Utf8 as utf8
use Rattle.sm_bytes.proofs.Characters.{utf8_runs, whole_then}
use Rattle.std.proofs.lemmas.Bool.{cases_lt}
use Rattle.std.proofs.lemmas.Bool.Decides.{nat_tests}
use Rattle.sm_tree.specs.Streams.{StandsFor}
use Rattle.sm_tree.proofs.Handing.{takes_none}
use Rattle.sm_cbor.specs.steps.Sinks.{Reached}
use Rattle.sm_cbor.proofs.Reaching.{reached_by}
use Rattle.sm_cbor.specs.steps.Marks.{Keys, plain, marked}
use Rattle.sm_cbor.specs.steps.Reading.{IsOf, EndsAs}
use Rattle.sm_cbor.specs.steps.Rest.{CborLeads}
use Rattle.sm_cbor.specs.steps.Machine.{levels_of, cbor_state_at, CborHolds, Begun, IsAt, IsSoundReader, CborGoes, IsBadByte, RunFits}
use Rattle.sm_cbor.specs.steps.Machine.{IsSomePrefix, IsTextPlace, IsBytesPlace}
use Rattle.sm_cbor.specs.declared.place.StringKind.{StringKind}
use Rattle.sm_cbor.specs.declared.place.StringKind.TheVariants.{Bytes, Text, Key as KeyText}
use Rattle.sm_cbor.specs.declared.place.Span.{Span}
use Rattle.sm_cbor.specs.declared.place.CborPlace.{CborPlace}
use Rattle.sm_cbor.specs.declared.place.CborPlace.TheVariants.{String}
use Rattle.sm_cbor.specs.declared.read.Reader.{Reader}
use Rattle.sm_cbor.proofs.Items.{at}
use Rattle.sm_cbor.proofs.StringSteps.{IsText, string_runs, bytes_prefix, bytes_behind, text_onward, text_back, text_stops}
use Rattle.sm_cbor.proofs.StringSteps.{string_no_mark, Misfits}
use Rattle.sm_cbor.proofs.Readings.{goes_by, goes_to}

-- nothing is owed between two characters alone
pub none_owed : (place : Utf8) (n : ℕ) → n ≡ 0 → utf8.owed place ≤ n → place ≡ Between
none_owed Between n e h = refl
none_owed (Second x) n e h = absurd (owes x n e h)
  where
    owes : (x n : ℕ) → n ≡ 0 → utf8.owed (Second x) ≤ n → ⊥
    owes x n e h = elim (cases_lt x 224) [
      | inl two ↦ grind (arith, nat_tests)
      | inr long ↦ elim (cases_lt x 240) [ inl three ↦ grind (arith, nat_tests) | inr four ↦ grind (arith, nat_tests) ]
    ]
none_owed LastTwo n e h = absurd (omega arith)
none_owed Last n e h = absurd (omega arith)

-- a run is held
holds_run : (kind : StringKind) (place next : Utf8) (t run : List ℕ) → ((u : List ℕ) → EndsAs kind place (run ++ u) ↔ EndsAs kind next u)
    → CborHolds kind place t → CborHolds kind next (t ++ run)
holds_run kind place next t run same h u ends = subst (IsOf kind) (sym (append_assoc t run u)) (h (run ++ u) ((same u).1 ends))

run_leads : (r : Reader) (h : Vec ℕ Global) (kind : StringKind) (span : Span) (n : ℕ) (place next : Utf8) (run : List ℕ)
    → RunFits (String kind span n place) next run → h.items ≡ r.held.items ++ run
    → (w : Keys) (limit : ℕ) → most_levels ≤ limit
    → CborLeads w limit (cbor_state_at r (String kind span n place)) run []
    (cbor_state_at (record r { held = h }) (String kind span (n - length run) next))
run_leads r h kind span n place next run fits held w limit high =
    subst (λ t. CborLeads w limit (cbor_state_at r (String kind span n place)) run []
    (at (String kind span (n - length run) next) t (levels_of r))) (sym held)
    (string_runs w limit kind span n place next r.held.items run (levels_of r) fits.0 (λ u x. (fits.2 u).0 x) (λ u x. (fits.2 u).1 x))

run_there : (r : Reader) (h : Vec ℕ Global) (kind : StringKind) (span : Span) (n : ℕ) (place next : Utf8) (run : List ℕ)
    → IsAt r (String kind span n place) → RunFits (String kind span n place) next run → h.items ≡ r.held.items ++ run
    → IsAt (record r { held = h }) (String kind span (n - length run) next)
run_there r h kind span n place next run there fits held = record {
  room = there.room;
  keeps = (fits.1, subst (CborHolds kind next) (sym held) (holds_run kind place next r.held.items run fits.2 there.keeps.1));
}

pub run_goes : (S : StandsFor) (r : Reader) (h : Vec ℕ Global) (kind : StringKind) (span : Span) (n : ℕ) (place next : Utf8) (run : List ℕ)
    → r.place ≡ String kind span n place → IsAt r r.place → RunFits r.place next run
    → h.items ≡ r.held.items ++ run → 0 < n - length run
    → CborGoes S r [] r.place run S (record r { held = h; place = String kind span (n - length run) next })
run_goes S r h kind span n place next run e there fits held some =
    let fits1 = subst (λ p. RunFits p next run) e fits in
    subst (λ p. CborGoes S r [] p run S (record r { held = h; place = String kind span (n - length run) next })) (sym e)
    (goes_to S S r (record r { held = h; place = String kind span (n - length run) next }) (String kind span n place) run []
    (record {
      there =
          let q = run_there r h kind span n place next run (subst (IsAt r) e there) fits1 held in
          record { room = q.room; keeps = q.keeps };
      begun = some;
    })
    (takes_none S)
    (run_leads r h kind span n place next run fits1 held))

pub run_ends : (S T : StandsFor) (r q : Reader) (h : Vec ℕ Global) (kind : StringKind) (span : Span) (n : ℕ) (place next : Utf8)
    (run : List ℕ)
    → r.place ≡ String kind span n place → RunFits r.place next run
    → h.items ≡ r.held.items ++ run → n - length run ≡ 0
    → CborGoes S (record r { held = h }) [] (String kind span 0 Between) [] T q → CborGoes S r [] r.place run T q
run_ends S T r q h kind span n place next run e fits held none goes =
    let fits1 = subst (λ p. RunFits p next run) e fits in
    let there = subst (λ m. CborGoes S (record r { held = h }) [] (String kind span m Between) [] T q) (sym none) goes in
    let whole = subst (λ u. CborGoes S (record r { held = h }) [] (String kind span (n - length run) u) [] T q)
    (sym (none_owed next (n - length run) none fits1.1)) there in
    subst (λ p. CborGoes S r [] p run T q) (sym e) (subst (λ v. CborGoes S r [] (String kind span n place) v T q) (append-nil run)
    (goes_by S S T r (record r { held = h }) q (String kind span n place) (String kind span (n - length run) next) run [] [] whole
    (takes_none S)
    (run_leads r h kind span n place next run fits1 held)))

pub run_reached : (S : StandsFor) (r : Reader) (h : Vec ℕ Global) (kind : StringKind) (span : Span) (n : ℕ) (place next : Utf8)
    (run : List ℕ)
    → r.place ≡ String kind span n place → RunFits r.place next run
    → h.items ≡ r.held.items ++ run → n - length run ≡ 0 → Reached S (cbor_state_at r r.place)
    → Reached S (cbor_state_at (record r { held = h }) (String kind span 0 Between))
run_reached S r h kind span n place next run e fits held none reached =
    let fits1 = subst (λ p. RunFits p next run) e fits in
    subst (λ u. Reached S (cbor_state_at (record r { held = h }) (String kind span 0 u))) (none_owed next (n - length run) none fits1.1)
    (subst (λ m. Reached S (cbor_state_at (record r { held = h }) (String kind span m next))) none
    (reached_by S (cbor_state_at r (String kind span n place)) (cbor_state_at (record r { held = h }) (String kind span
    (n - length run) next))
    run (subst (λ p. Reached S (cbor_state_at r p)) e reached)
    (run_leads r h kind span n place next run fits1 held plain most_levels (omega arith))))

-- which runs go on
pub bytes_fit : (p : CborPlace) (n : ℕ) (place : Utf8) (run : List ℕ) → IsBytesPlace p n place → length run ≤ n → AreBytes run
    → RunFits p Between run
bytes_fit p n place run (span, e) few are =
    subst (λ x. RunFits x Between run) (sym e) (few, omega arith, λ u. ((λ h. bytes_behind run u h), (λ h. bytes_prefix run u are h)))

is_text : (kind : StringKind) → kind ≢ Bytes → IsText kind
is_text Bytes other = other refl
is_text Text other = tt
is_text KeyText other = tt

pub text_fits : (p : CborPlace) (n : ℕ) (place : Utf8) (run : List ℕ) → IsTextPlace p n place → place ≡ Between → length run ≤ n
    → IsUtf8 run
    → RunFits p Between run
text_fits p n place run (kind, span, other, e) between few whole =
    let is = is_text kind other in
    let same = λ (u : List ℕ). whole_then run u Between (utf8_runs run whole) in
    subst (λ x. RunFits x Between run) (sym (e ∙ ap (λ u. String kind span n u) between)) (
      few,
      omega arith,
      λ u. (
        (λ h. text_onward kind Between Between run u is (same u) h),
        (λ h. text_back kind Between Between run u is (same u) h),
      ),
    )

-- and which byte doesn't
pub text_bad : (r : Reader) (n c : ℕ) (place : Utf8) (o : Option Utf8) → IsSoundReader r → IsTextPlace r.place n place
    → utf8.step place c ≡ o → Misfits place n o → IsBadByte (cbor_state_at r r.place) c
text_bad r n c place o sound (kind, span, other, e) step mis =
    let some : 0 < n = subst (λ p. Begun p (levels_of r)) e sound.begun in
    subst (λ p. IsBadByte (cbor_state_at r p) c) (sym e) (record {
      stops = λ limit. text_stops plain limit kind span n place r.held.items c (levels_of r) o (is_text kind other) some step mis;
      no_key = inl (λ limit. string_no_mark marked limit kind span n place r.held.items (levels_of r) some);
    })

-- whole characters come first
pub prefix_utf8 : (bs run : List ℕ) (n k : ℕ) → IsSomePrefix run bs n → k ≤ length run → IsUtf8 (take k run) → IsUtf8 (take k bs)
prefix_utf8 bs run n k first few is = subst IsUtf8 (ap (take k) first.0 ∙ take-take k (length run) bs few) is

pub text_prefix_fits : (p : CborPlace) (n : ℕ) (place : Utf8) (bs run : List ℕ) (k : ℕ) → IsTextPlace p n place → place ≡ Between
    → IsSomePrefix run bs n → k ≤ length run → IsUtf8 (take k run) → RunFits p Between (take k bs)
text_prefix_fits p n place bs run k there between first few is =
    text_fits p n place (take k bs) there between (let len = length-take k bs in let a = first.1 in let b = first.2 in omega arith)
    (prefix_utf8 bs run n k first few is)

pub misfit_from : (place : Utf8) (n : ℕ) (next : Utf8) (owed : ℕ) → owed ≡ utf8.owed next → n ≤ owed → Misfits place n (Some next)
misfit_from place n next owed e h = omega arith

-- the bytes of a slice are bytes
pub all_bytes : (bs : List ℕ) → ((i : ℕ) → get_or bs i 0 < 256) → AreBytes bs
all_bytes [] h = tt
all_bytes (c ∷ bs) h = (h 0, all_bytes bs (λ i. h (suc i)))
