-- A table is in order by its shapes and its members, one by one.
use Rattle.std.proofs.Common.{◌≡◌, ℕ, ◌<◌, List, [], ◌∷◌, length, refl, sym, ap, ◌∙◌}
use Rattle.std.specs.Prelude.{Option, Some, None, slice_get}
use Rattle.std.proofs.lemmas.Option.{slice_get_within}
use Rattle.sm_tree.specs.Node.{Node}
use Rattle.sm_shapes.specs.Values.{Val}
use Rattle.sm_shapes.specs.TableData.{TableData, MemberData, shape_count, member_count, default_at, default_node_in, default_in}
use Rattle.sm_shapes.specs.TableData.{texts_numbered}
use Rattle.sm_shapes.specs.InOrder.{Shaped, NamesPattern}
use Rattle.sm_shapes.specs.DefaultPuts.{HasNoDefault}
use Rattle.codec_bodies.specs.Checked.{ShapeInOrder, MemberInOrder}

node_there : (ms : List MemberData) (k : ℕ) (n : Node) (o : Option MemberData) → slice_get ms k ≡ o → default_node_in o ≡ Some n → k <
    length ms
node_there ms k n None e h = absurd cc
node_there ms k n (Some m) e h = slice_get_within ms k m e

module _ (t : TableData) (members : (k : ℕ) → k < member_count t → MemberInOrder t k) where
  unset_by : (k : ℕ) (o : Option MemberData) → slice_get t.members k ≡ o → default_in o ≡ None
  unset_by k None e = refl
  unset_by k (Some m) e = sym (ap default_in e) ∙ (members k (slice_get_within t.members k m e)).unset

  pub none_set : HasNoDefault t
  none_set k = unset_by k (slice_get t.members k) refl

  never_set : (v : Val) (o : Option Val) → o ≡ None → o ≡ Some v → ⊥
  never_set v o e f = cc

  pub shaped_by : ((s : ℕ) → s < shape_count t → ShapeInOrder t s) → Shaped t
  shaped_by shapes = record {
    targets = λ k h. (members k h).target;
    homes = λ k h. ((members k h).home, (members k h).stands);
    members = λ s h. (shapes s h).members;
    rises = λ s h. (shapes s h).rises;
    by_name = λ s h. (shapes s h).names.ordered;
    by_json_name = λ s h. (shapes s h).json_names.ordered;
    needed = λ s h. (shapes s h).needed;
    own = λ s h. (shapes s h).own;
    names = λ s h. (shapes s h).names.differ;
    json_names = λ s h. (shapes s h).json_names.differ;
    utf8 = λ k h. ((members k h).name, (members k h).json_name);
    shape_patterns = λ s h. (shapes s h).pattern;
    member_patterns = λ k h. (members k h).pattern;
    nodes = λ k n e. (members k (node_there t.members k n (slice_get t.members k) refl e)).node n e;
    values = λ k v e. absurd (never_set v (default_at t k) (none_set k) e);
    fit = λ k v e. absurd (never_set v (default_at t k) (none_set k) e);
  }

-- what stands once
pub names_one : (t : TableData) (n : ℕ) (us : List (List ℕ)) → texts_numbered n t.patterns ≡ us → length us ≡ 1 → NamesPattern t (Some n)
names_one t n [] e h = absurd cc
names_one t n (u ∷ []) e h = (u, e)
names_one t n (u ∷ v ∷ us) e h = absurd cc
