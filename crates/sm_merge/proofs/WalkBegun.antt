-- A step of a walk: a new number is begun, behind the row.
use Rattle.std.proofs.Common.{◌≡◌, inl, inr, ℕ, ◌+◌, ◌<◌, ◌≤◌, Bool, false, List, [], ◌∷◌, ◌++◌, length, set, get_or, Some, None}
use Rattle.std.proofs.Common.{sym, subst, ◌∙◌, arith, length-append}
use Rattle.std.proofs.lemmas.List.{length-set}
use Rattle.std.proofs.lemmas.Option.{same_Some}
use Rattle.sm_merge.specs.declared.walk.Part.{Part}
use Rattle.sm_merge.specs.declared.walk.Status.{Status}
use Rattle.sm_merge.specs.declared.walk.Status.TheVariants.{New, Begun, Finished}
use Rattle.sm_merge.specs.steps.Links.{Links, At, LeadsTo, Comes, AreLinks}
use Rattle.sm_merge.specs.steps.Walking.{IsDone, AreParts, IsGrounded, AllReach}
use Rattle.sm_merge.proofs.Ats.{at_within, at_one, at_front, at_behind, at_last, at_either, at_either_one, at_low, at_stored, at_other}
use Rattle.sm_merge.proofs.Ats.{at_was}
use Rattle.sm_merge.proofs.Walked.{true_is_false, parts_kept}

pub begun_at : (k j : ℕ) → Begun k ≡ Begun j → k ≡ j
begun_at k j e = cc

pub begun_finished : {A : Type 0} (k : ℕ) (ring : Bool) → Finished ring ≡ Begun k → A
begun_finished k ring e = absurd (cc)

module _ (links : Links) (status : List Status) (row targets order : List ℕ) (w : ℕ) (fresh : At status w New) where
  done_then : (k v : ℕ) → IsDone status v → IsDone (set status w (Begun k)) v
  done_then k v done = record {
    ring = done.ring;
    there = at_other status w (Begun k) v (Finished done.ring)
        (λ same. new_finished done.ring (at_one status w New (Finished done.ring) fresh
        (subst (λ x. At status x (Finished done.ring)) same done.there)))
        done.there;
  }
    where
      new_finished : (ring : Bool) → New ≡ Finished ring → ⊥
      new_finished ring e = cc

  finished_was : (k v : ℕ) (ring : Bool) → At (set status w (Begun k)) v (Finished ring) → At status v (Finished ring)
  finished_was k v ring h = elim (at_was status w (Begun k) v (Finished ring) h) [
    | inl (same, is) ↦ begun_finished k ring is
    | inr (other, there) ↦ there
  ]

  done_was : (k v : ℕ) → IsDone (set status w (Begun k)) v → IsDone status v
  done_was k v done = record { ring = done.ring; there = finished_was k v done.ring done.there }

  begun_chain : IsGrounded links status row targets order → AllReach links row w → (i k v u : ℕ) → i ≤ k
      → At (row ++ w ∷ []) i v → At (row ++ w ∷ []) k u → Comes links v u
  begun_chain g reach i k v u under at_v at_u = elim (at_either_one row w k u at_u) [
    | inl here ↦
        let small : k < length row = at_within row k u here in
        g.chain i k v u under (at_low row (w ∷ []) i v (omega (arith, small, under)) at_v) here
    | inr (last, same) ↦ elim (at_either_one row w i v at_v) [
      | inl before ↦ subst (Comes links v) (sym same) (inr (reach i v before))
      | inr (also, is) ↦ inl (is ∙ sym same)
    ]
  ]

  pub begun_grounded : AreLinks links → IsGrounded links status row targets order → AllReach links row w
      → IsGrounded links (set status w (Begun (length row))) (row ++ w ∷ []) (targets ++ get_or links w []) order
  begun_grounded are g reach = record {
    size = length-set status w (Begun (length row)) ∙ g.size;
    begun = λ k v there. elim (at_was status w (Begun (length row)) v (Begun k) there) [
      | inl (same, is) ↦
          subst (λ x. At (row ++ w ∷ []) k x) (sym same)
          (subst (λ i. At (row ++ w ∷ []) i w) (sym (begun_at k (length row) is)) (at_last row w))
      | inr (other, was) ↦ at_front row (w ∷ []) k v (g.begun k v was)
    ];
    in_row = λ k v there. elim (at_either_one row w k v there) [
      | inl here ↦
          at_other status w (Begun (length row)) v (Begun k)
          (λ same. new_begun k (at_one status w New (Begun k) fresh (subst (λ x. At status x (Begun k)) same (g.in_row k v here))))
          (g.in_row k v here)
      | inr (is, same) ↦
          subst (λ x. At (set status w (Begun (length row))) x (Begun k)) (sym same)
          (subst (λ i. At (set status w (Begun (length row))) w (Begun i)) (sym is)
          (at_stored status w (Begun (length row)) (at_within status w New fresh)))
    ];
    within = λ k u there. elim (at_either targets (get_or links w []) k u there) [
      | inl here ↦ g.within k u here
      | inr (i, is, of_w) ↦ are w u (record { place = i; there = of_w })
    ];
    chain = begun_chain g reach;
    closed = λ v u done leads. done_then (length row) u (g.closed v u (done_was (length row) v done) leads);
    told = λ v ring there. g.told v ring (finished_was (length row) v ring there);
    placed = λ v done. g.placed v (done_was (length row) v done);
    listed = λ k v there. done_then (length row) v (g.listed k v there);
    once = g.once;
    behind = g.behind;
  }
    where
      new_begun : (k : ℕ) → New ≡ Begun k → ⊥
      new_begun k e = cc

  pub begun_parts : (ps : List Part) → AreParts links status (Some w) row targets (length row) (length targets) ps
      → AreParts links (set status w (Begun (length row))) None (row ++ w ∷ []) (targets ++ get_or links w [])
      (length (row ++ w ∷ [])) (length (targets ++ get_or links w []))
      ((record { numbers = length row; targets = length targets; ring = false }) ∷ ps)
  begun_parts ps h =
      let more : List ℕ = get_or links w [] in
      let longer : length (row ++ w ∷ []) ≡ length row + 1 = length-append row (w ∷ []) in (
        record {
          room = omega (arith, length-append targets (get_or links w []));
          sources = λ k u behind before there. record {
            place = length row;
            number = w;
            behind = omega arith;
            before = omega (arith, length-append row (w ∷ []));
            there = at_last row w;
            leads = elim (at_either targets (get_or links w []) k u there) [
              | inl here ↦ let small : k < length targets = at_within targets k u here in absurd (omega (arith, small, behind))
              | inr (i, is, of_w) ↦ record { place = i; there = of_w }
            ];
          };
          followed = λ k v u behind before there leads. elim (at_either_one row w k v there) [
            | inl here ↦ let small : k < length row = at_within row k v here in absurd (omega (arith, small, behind))
            | inr (is, same) ↦
                let from_w : LeadsTo links w u = subst (λ x. LeadsTo links x u) same leads in
                inr (inl (record {
                  place = length targets + from_w.place;
                  behind = omega arith;
                  there = at_behind targets (get_or links w []) from_w.place u from_w.there;
                }))
          ];
        },
        record {
          some = omega (arith, length-append row (w ∷ []));
          round = λ is k v first behind before there at_first. true_is_false (sym is);
          alone = λ is. length-append row (w ∷ []);
        },
        parts_kept status (set status w (Begun (length row))) (Some w) None row (row ++ w ∷ []) targets (targets ++ get_or links w []) links
            (length row) (length targets) ps
            (record {
              was = λ k v small there. at_low row (w ∷ []) k v small there;
              stays = λ k v small there. at_front row (w ∷ []) k v there;
              taken = λ k u small there. at_low targets (get_or links w []) k u small there;
              left = λ k u there. inl (at_front targets (get_or links w []) k u there);
              held_then = λ u is. inr (inr (record {
                place = length row;
                behind = omega arith;
                there = subst (λ x. At (row ++ w ∷ []) (length row) x) (same_Some w u is) (at_last row w);
              }));
              done = λ u done. done_then (length row) u done;
              placed = λ k u there. inl (at_front row (w ∷ []) k u there);
            }) h,
      )
