use Rattle.std.proofs.Common.{◌+◌, ◌≤◌, subst, sym, ◌∙◌, ap, length, drop}
use Rattle.std.specs.Prelude.{ℕ, List, IsUtf8, map}
use Rattle.std.proofs.lemmas.List.{drop-drop}
use Rattle.std.proofs.lemmas.Str.{IsUtf8-drop}
use Rattle.sm_lex.specs.Space.{SkipsSpace}
use Rattle.sm_lex.specs.Tokens.{lexeme_of, IsNextToken, TokensLead}
use Rattle.sm_lex.proofs.Leading.{behind_space, is_next, same_lexeme, leads_on, refused_here, lexes, space_cut}
use Rattle.sm_lex.proofs.Wholes.{all_whole, cut_and_shape}
use Rattle.sm_lex.proofs.lex.tokens.Goals as goal
use Rattle.sm_lex.proofs.lex.tokens.Goals.{After-space_len-space}

-- what stands first is whitespace and comments, of so many bytes
skipped : (c : After-space_len-space)
    → (c.space_len-space.result ≤ length c.loop-behind.rest.now)
    × SkipsSpace c.loop-behind.rest.now (drop c.space_len-space.result c.loop-behind.rest.now)
skipped c =
    let n = c.space_len-space.result in
    let found = c.space_len-space.ensures in
    let P : List ℕ → Type 0 = λ t. (n ≤ length t) × SkipsSpace t (drop n t) in
    subst P c.as_bytes.ensures.value (found.within, found.skips)

pub split_at-requires : goal.split_at-requires
split_at-requires c =
    let skip = skipped (goal.at.split_at-requires c).After-space_len-space in
    space_cut c.loop-behind.rest.now c.space_len-space.result skip.0 skip.1 c.loop-behind.invariant.utf8

pub token_of-requires-clause-shape : goal.token_of-requires-clause-shape
token_of-requires-clause-shape c =
    let skip = skipped (goal.at.token_of-requires-clause-shape c).After-space_len-space in
    let whole : IsUtf8 c.split_at.result.1.now = subst IsUtf8 (sym c.split_at.ensures.back)
    (IsUtf8-drop c.loop-behind.rest.now c.space_len-space.result c.loop-behind.invariant.utf8
    (space_cut c.loop-behind.rest.now c.space_len-space.result skip.0 skip.1 c.loop-behind.invariant.utf8)) in
    (cut_and_shape c.in-Ok.measured.kind (c.loop-behind.at + c.space_len-space.result) c.in-Ok.measured.len c.split_at.result.1.now
    c.split_at-in-loop-behind.result.0.now whole c.in-Ok.ensures.3 c.split_at-in-loop-behind.ensures.front).1

pub returns-in-Err-clause-lexes : goal.returns-in-Err-clause-lexes
returns-in-Err-clause-lexes c =
    let now = c.loop-behind.invariant in
    let skip = skipped (goal.at.returns-in-Err-clause-lexes c).After-space_len-space in
    lexes c.args.text.now c.in-Err.refusal
    (refused_here c.args.text.now c.loop-behind.rest.now c.split_at.result.1.now c.loop-behind.at c.space_len-space.result
    (map lexeme_of c.loop-behind.tokens.items) c.in-Err.refusal now.rest now.within skip.0 skip.1 c.split_at.ensures.back now.leads
    c.in-Err.ensures)

pub returns-then-is_empty-clause-whole : goal.returns-then-is_empty-clause-whole
returns-then-is_empty-clause-whole c = all_whole c.args.text.now 0 c.loop-behind.at (map lexeme_of c.loop-behind.tokens.items)
    c.utf8.text c.loop-behind.invariant.leads

pub loop-behind-preserved : goal.loop-behind-preserved
loop-behind-preserved c =
    let now = c.loop-behind.invariant in
    let text = c.args.text.now in
    let rest = c.loop-behind.rest.now in
    let behind = c.split_at.result.1.now in
    let at = c.loop-behind.at in
    let space = c.space_len-space.result in
    let len = c.in-Ok.measured.len in
    let skip = skipped (goal.at.loop-behind-preserved c).After-space_len-space in
    let found = c.in-Ok.ensures in
    let cut = c.split_at-in-loop-behind.ensures in
    let made = c.token_of.ensures in
    let first = is_next text rest behind c.split_at-in-loop-behind.result.0.now at space len c.in-Ok.measured.kind now.rest now.within
    skip.0 skip.1 c.split_at.ensures.back found.0 found.1 found.3 cut.front in
    let same = same_lexeme c.token_of.result c.in-Ok.measured.kind c.split_at-in-loop-behind.result.0.now (at + space)
    (at + space + len) made.kind made.text made.start made.end in
    let onward = leads_on text at c.loop-behind.tokens.items c.push.new.self.items c.token_of.result c.in-Ok-push.ensures.items
    now.leads (subst (IsNextToken text at) same first) in
    let whole : IsUtf8 behind = subst IsUtf8 (sym c.split_at.ensures.back)
    (IsUtf8-drop rest space now.utf8 (space_cut rest space skip.0 skip.1 now.utf8)) in record {
      leads = subst (TokensLead text 0 (map lexeme_of c.push.new.self.items)) made.end onward;
      rest = cut.back ∙ ap (drop len) (behind_space text rest behind at space now.rest c.split_at.ensures.back)
          ∙ drop-drop len (at + space) text;
      within = first.inside;
      utf8 = subst IsUtf8 (sym cut.back) (IsUtf8-drop behind len whole found.2);
    }
