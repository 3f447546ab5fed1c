use Rattle.std.proofs.Common.{◌≡◌, ◌+◌, ◌∷◌, ◌⊎◌, ℕ, drop, get_or, subst, ◌∙◌}
use Rattle.std.specs.Prelude.{◌↔◌}
use Rattle.std.proofs.lemmas.List.{drop_all, drop_more}
use Rattle.std.proofs.lemmas.List.Elements.{Contains-get_or}
use Rattle.sm_model.specs.declared.link.Link.{Link}
use Rattle.sm_model.specs.declared.relation.Relation.TheVariants.{Member}
use Rattle.sm_model.specs.Reaching.{IsMarked}
use Rattle.sm_select.specs.Followed.{Follows}
use Rattle.sm_select.specs.steps.Reaching.{AnyOf}
use Rattle.sm_select.proofs.FollowedLinks.{follows_ended, follows_more}
use Rattle.sm_select.proofs.follow.followed.Goals as goal

abbrev nowhere : Link
nowhere = record { relation = Member; from = 0; to = 0 }

pub mark_end-requires-clause-below : goal.mark_end-requires-clause-below
mark_end-requires-clause-below c =
    let ls = c.args.links.now in
    let i = c.loop-link.link-index in c.requires (get_or ls i nowhere) (Contains-get_or ls i nowhere c.loop-link-test.true)

pub loop-link-preserved : goal.loop-link-preserved
loop-link-preserved c =
    let at = c.loop-link in
    let i = at.link-index in
    let ls = c.args.links.now in
    let rs = c.args.relations.now in
    let back = c.args.back in
    let starts = c.args.starts.now in
    let next : drop i ls ≡ get_or ls i nowhere ∷ drop (i + 1) ls = drop_more ls i nowhere c.loop-link-test.true in
    record {
      count = c.mark_end.ensures.count ∙ at.invariant.count;
      ends = follows_more rs back starts at.marks.items c.mark_end.new.marks.items (get_or ls i nowhere) (drop
          (i + 1) ls) ls c.mark_end.ensures.ends
          (subst (λ xs. (b : ℕ) → (IsMarked at.marks.items b ⊎ AnyOf (λ k. Follows rs back starts k b) xs) ↔ AnyOf
          (λ k. Follows rs back starts k b) ls)
          next at.invariant.ends);
    }

pub returns-clause-marked : goal.returns-clause-marked
returns-clause-marked c =
    let at = c.loop-link in
    let ls = c.args.links.now in
    let rs = c.args.relations.now in
    let back = c.args.back in
    let starts = c.args.starts.now in
    follows_ended rs back starts at.marks.items ls
    (subst (λ xs. (b : ℕ) → (IsMarked at.marks.items b ⊎ AnyOf (λ k. Follows rs back starts k b) xs) ↔ AnyOf
    (λ k. Follows rs back starts k b) ls)
    (drop_all at.link-index ls c.loop-link-test.false) at.invariant.ends)
