-- Statements in another order, but not those of one id, one trait of one place and one key, merge to the same: definitions see
-- statements by these look-ups alone.
use Rattle.std.proofs.Common.{◌≡◌, inl, inr, ℕ, List, [], ◌∷◌, Option, Some, sym, ap, subst, ◌∙◌}
use Rattle.std.specs.Prelude.{Ok, Err}
use Rattle.std.specs.List.{Contains, slice_get}
use Rattle.sm_tree.specs.Node.{Node}
use Rattle.sm_model.specs.EventView.{EventTold}
use Rattle.sm_model.specs.Graphs.{Entry, GraphMaps, MemberEntry, member_id}
use Rattle.sm_model.specs.GraphView.{maps_of}
use Rattle.sm_merge.specs.Stated.{ShapeStated, Stated}
use Rattle.sm_merge.specs.Values.{HaveConflict, IsValueOf}
use Rattle.sm_merge.specs.Places.{mixins_of, shape_under}
use Rattle.sm_merge.specs.Mixins.{AreCopied, AreEffectiveMembers, Contributes, EffectiveMembers, EffectiveShape, IsEffective}
use Rattle.sm_merge.specs.Mixins.{IsEffectiveMember, IsEffectiveValue, IsMadeFrom, IsPath, effective, mixed_in, mixin_trait, no_mixins}
use Rattle.sm_merge.specs.Mixins.{all_members, member_values, passed_over, shape_values}
use Rattle.sm_merge.specs.Merged.{IsGraphOf, IsMergedMember, IsMergedShape}
use Rattle.sm_merge.specs.Merged.{IsThere, IsWrong, StandsUnder, applied_to_nothing, bad_mixin, defined_otherwise}
use Rattle.sm_merge.specs.Merged.{metadata_conflict, other_shape, stated_again, trait_conflict}
use Rattle.sm_merge.specs.Laws.{OtherOrder, SayTheSame}
use Rattle.sm_merge.specs.declared.refusal.MergeRefusal.TheVariants.{Limit, NoMemory, Rejected}

turned : (ss ts : List Stated) → SayTheSame ss ts → SayTheSame ts ss
turned ss ts h = record {
  shapes = λ id. sym (h.shapes id);
  values = λ place name. sym (h.values place name);
  metadata = λ key. sym (h.metadata key);
  applied = λ id. ((h.applied id).1, (h.applied id).0);
  again = λ id. ((h.again id).1, (h.again id).0);
}

shape_still : (ss ts : List Stated) → SayTheSame ss ts → (id : List ℕ) → shape_under id ss ≡ shape_under id ts
shape_still ss ts h id = ap (λ shapes. slice_get shapes 0) (h.shapes id)

still_there : (ss ts : List Stated) → SayTheSame ss ts → (id : List ℕ) (s : ShapeStated) → shape_under id ss ≡ Some s
    → shape_under id ts ≡ Some s
still_there ss ts h id s e = sym (shape_still ss ts h id) ∙ e

way : (ss ts : List Stated) → SayTheSame ss ts → (id : List ℕ) (between : List (List ℕ)) (end : List ℕ) → IsPath ss id between end
    → IsPath ts id between end
way ss ts h id [] end mixes = subst (λ o. Contains (mixins_of o) end) (shape_still ss ts h id) mixes
way ss ts h id (next ∷ more) end (mixes, rest) =
    (subst (λ o. Contains (mixins_of o) next) (shape_still ss ts h id) mixes, way ss ts h next more end rest)

abbrev contributes : (ss ts : List Stated) → SayTheSame ss ts → (s : ShapeStated) (mixin : List ℕ) → Contributes ss s mixin
    → Contributes ts s mixin
contributes ss ts h s mixin c = record {
  found = c.found;
  there = still_there ss ts h mixin c.found c.there;
  kind = c.kind;
  mixin_value = c.mixin_value;
  marked = subst (λ vs. IsValueOf vs c.mixin_value) (h.values mixin mixin_trait) c.marked;
  acyclic = λ ring. c.acyclic (ring.0, way ts ss (turned ss ts h) mixin ring.0 mixin ring.1);
}

value : (ss ts : List Stated) → SayTheSame ss ts → (place : List ℕ) (copied : List (Option Node)) (name : List ℕ) (n : Node)
    → IsEffectiveValue ss place copied name n → IsEffectiveValue ts place copied name n
value ss ts h place copied name n (inl given) = inl (subst (λ vs. IsValueOf vs n) (h.values place name) given)
value ss ts h place copied name n (inr (none, last)) = inr (sym (h.values place name) ∙ none, last)

one_member : (ss ts : List Stated) → SayTheSame ss ts → (id : List ℕ) (copied : List EffectiveShape) (all : EffectiveMembers)
    (name : List ℕ) (e : MemberEntry) → IsEffectiveMember ss id copied all name e → IsEffectiveMember ts id copied all name e
one_member ss ts h id copied all name e m = record {
  first = m.first;
  found = m.found;
  target = m.target;
  traits = λ t n. (
    λ has. value ss ts h (member_id id name) (member_values copied name t) t n ((m.traits t n).0 has),
    λ is. (m.traits t n).1 (value ts ss (turned ss ts h) (member_id id name) (member_values copied name t) t n is),
  );
}

all_members_same : (ss ts : List Stated) → SayTheSame ss ts → (id : List ℕ) (copied : List EffectiveShape) (all ms : EffectiveMembers)
    → AreEffectiveMembers ss id copied all ms → AreEffectiveMembers ts id copied all ms
all_members_same ss ts h id copied all [] each = tt
all_members_same ss ts h id copied all (m ∷ ms) (first, rest) =
    (one_member ss ts h id copied all m.0 m.1 first, all_members_same ss ts h id copied all ms rest)

made_same : (ss ts : List Stated) → SayTheSame ss ts → (id : List ℕ) (s : ShapeStated) (copied : List EffectiveShape) (m : EffectiveShape)
    → IsMadeFrom ss id s copied m → IsMadeFrom ts id s copied m
made_same ss ts h id s copied m made = record {
  names = made.names;
  members = all_members_same ss ts h id copied (all_members copied s.shape.members) m.members made.members;
  traits = λ t n. (
    λ has. value ss ts h id (shape_values copied t) t n ((made.traits t n).0 has),
    λ is. (made.traits t n).1 (value ts ss (turned ss ts h) id (shape_values copied t) t n is),
  );
}

mutual
  effective_same : (ss ts : List Stated) → SayTheSame ss ts → (id : List ℕ) (m : EffectiveShape) → IsEffective ss id m → IsEffective ts id m
  effective_same ss ts h id m (effective i k s copied is from made) =
      effective id m s copied (still_there ss ts h id s is) (copied_same ss ts h s s.mixins copied from)
      (made_same ss ts h id s copied m made)

  copied_same : (ss ts : List Stated) → SayTheSame ss ts → (s : ShapeStated) (mixins : List (List ℕ)) (gs : List EffectiveShape)
      → AreCopied ss s mixins gs → AreCopied ts s mixins gs
  copied_same ss ts h s mixins gs (no_mixins a) = no_mixins s
  copied_same ss ts h s mixins gs (mixed_in a mixin more c m copied e rest) =
      mixed_in s mixin more (contributes ss ts h s mixin c) m copied (effective_same ss ts h mixin m e)
      (copied_same ss ts h s more copied rest)
  copied_same ss ts h s mixins gs (passed_over a mixin more copied never rest) =
      passed_over s mixin more copied (λ c. never (contributes ts ss (turned ss ts h) s mixin c)) (copied_same ss ts h s more copied rest)

shape_same : (ss ts : List Stated) → SayTheSame ss ts → (id : List ℕ) (e : Entry) → IsMergedShape ss id e → IsMergedShape ts id e
shape_same ss ts h id e is = record {
  s = is.s;
  there = still_there ss ts h id is.s is.there;
  m = is.m;
  is_effective = effective_same ss ts h id is.m is.is_effective;
  is = is.is;
}

member_same : (ss ts : List Stated) → SayTheSame ss ts → (id : List ℕ) (e : Entry) → IsMergedMember ss id e → IsMergedMember ts id e
member_same ss ts h id e is = record {
  shape = is.shape;
  s = is.s;
  there = still_there ss ts h is.shape is.s is.there;
  m = is.m;
  is_effective = effective_same ss ts h is.shape is.m is.is_effective;
  name = is.name;
  of = is.of;
  found = is.found;
  under = is.under;
  is = is.is;
}

stands_same : (ss ts : List Stated) → SayTheSame ss ts → (id : List ℕ) (e : Entry) → StandsUnder ss id e → StandsUnder ts id e
stands_same ss ts h id e (inl is) = inl (shape_same ss ts h id e is)
stands_same ss ts h id e (inr (inl is)) = inr (inl (member_same ss ts h id e is))
stands_same ss ts h id e (inr (inr is)) = inr (inr is)

pub graph_same : (ss ts : List Stated) → SayTheSame ss ts → (g : GraphMaps) → IsGraphOf ss g → IsGraphOf ts g
graph_same ss ts h g is = record {
  shapes = λ id e. (
    λ has. stands_same ss ts h id e ((is.shapes id e).0 has),
    λ stands. (is.shapes id e).1 (stands_same ts ss (turned ss ts h) id e stands),
  );
  metadata = λ key n. (
    λ has. subst (λ vs. IsValueOf vs n) (h.metadata key) ((is.metadata key n).0 has),
    λ value. (is.metadata key n).1 (subst (λ vs. IsValueOf vs n) (sym (h.metadata key)) value),
  );
}

there_same : (ss ts : List Stated) → SayTheSame ss ts → (id : List ℕ) → IsThere ss id → IsThere ts id
there_same ss ts h id (e, inl is) = (e, inl (shape_same ss ts h id e is))
there_same ss ts h id (e, inr is) = (e, inr (member_same ss ts h id e is))

pub wrong_same : (ss ts : List Stated) → SayTheSame ss ts → (e : EventTold) → IsWrong ss e → IsWrong ts e
wrong_same ss ts h e (other_shape id w is) = other_shape id (record {
  first = w.first;
  there = still_there ss ts h id w.first w.there;
  other = w.other;
  among = subst (λ shapes. Contains shapes w.other) (h.shapes id) w.among;
  differs = w.differs;
}) is
wrong_same ss ts h e (stated_again id w is) = stated_again id ((h.again id).0 w) is
wrong_same ss ts h e (trait_conflict id name w is) = trait_conflict id name (record {
  there = there_same ss ts h id w.there;
  conflict = subst HaveConflict (h.values id name) w.conflict;
}) is
wrong_same ss ts h e (metadata_conflict key w is) = metadata_conflict key (subst HaveConflict (h.metadata key) w) is
wrong_same ss ts h e (applied_to_nothing id w is) =
    let applied = (h.applied id).0 (w.traits, w.among) in
    applied_to_nothing id (record {
      traits = applied.0;
      among = applied.1;
      nothing = λ stands. w.nothing (there_same ts ss (turned ss ts h) id stands);
    }) is
wrong_same ss ts h e (defined_otherwise id target w is) = defined_otherwise id target (record {
  shape = w.shape;
  s = w.s;
  there = still_there ss ts h w.shape w.s w.there;
  copied = w.copied;
  from_mixins = copied_same ss ts h w.s w.s.mixins w.copied w.from_mixins;
  name = w.name;
  under = w.under;
  first = w.first;
  found = w.found;
  again = w.again;
  among = w.among;
  is = w.is;
  other = w.other;
}) is
wrong_same ss ts h e (bad_mixin id mixin w is) = bad_mixin id mixin (record {
  s = w.s;
  there = still_there ss ts h id w.s w.there;
  among = w.among;
  bad = λ c. w.bad (contributes ts ss (turned ss ts h) w.s mixin c);
}) is

pub other_order : OtherOrder
other_order ss ts (Ok g) h (graph, within, nothing) =
    (graph_same ss ts h (maps_of g) graph, within, λ e wrong. nothing e (wrong_same ts ss (turned ss ts h) e wrong))
other_order ss ts (Err (Limit kind)) h past = λ g graph. past g (graph_same ts ss (turned ss ts h) g graph)
other_order ss ts (Err (Rejected es)) h (within, events, errors, some) = (
  λ g graph. within g (graph_same ts ss (turned ss ts h) g graph),
  record {
    in_order = events.in_order;
    all = λ e. (
      λ among. wrong_same ss ts h e ((events.all e).0 among),
      λ wrong. (events.all e).1 (wrong_same ts ss (turned ss ts h) e wrong),
    );
  },
  errors,
  some,
)
other_order ss ts (Err NoMemory) h answer = tt
