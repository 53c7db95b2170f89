-- An image that holds a closed graph, detached objects too, reads as its rooted part.
use Rattle.std.proofs.Common.{◌≡◌, ℕ, [], ◌∷◌, length, refl, sym, ◌∙◌, ap, subst, Bool, true, false, cond, ◌&&◌, Option, Some, None}
use Rattle.vol_image.proofs.Words.{Graph, Holds, Image, IsClosedGraph, IsSoundAs, LeavesFour, Object, Puid, and_parts, graph_pairs, has_pair, ids_of, is_among, is_some, is_there, object_at, reached, rises, rooted, rooted_part}
use Rattle.vol_image.proofs.Reached.{IsClosed, among_itself, within_one, reached_within, reached_has, reached_is_closed}
use Rattle.vol_image.proofs.Graphs.{found-filter, is_there-ids, ids-count, rises-entries, refers, has_pair-refers}

abbrev is_rooted : Graph → Puid → Bool
is_rooted g x = is_among x (rooted g)

-- ---- what is reached from the root, in a graph whose pairs all lead to objects

pub rooted_is_closed : (g : Graph) → ((i x : Puid) → has_pair (graph_pairs g) i x ≡ true → is_there g x ≡ true) → IsClosed (λ x. is_among x (rooted g)) (graph_pairs g)
rooted_is_closed g closed =
    subst (λ (n : ℕ). IsClosed (λ x. is_among x (reached n (graph_pairs g) (g.root ∷ []))) (graph_pairs g)) (ids-count g)
    (reached_is_closed (ids_of g) (graph_pairs g) (λ i x h. sym (is_there-ids g x) ∙ closed i x h) (g.root ∷ []))

pub root_is_rooted : (g : Graph) → is_among g.root (rooted g) ≡ true
root_is_rooted g = reached_has (length g.objects) (graph_pairs g) (g.root ∷ []) g.root (among_itself g.root [])

-- each closed set with the root has all that is rooted
pub rooted_within : (g : Graph) (M : Puid → Bool) → IsClosed M (graph_pairs g) → M g.root ≡ true → (x : Puid) → is_among x (rooted g) ≡ true → M x ≡ true
rooted_within g M closed root = reached_within M (length g.objects) (graph_pairs g) (g.root ∷ []) closed (within_one M g.root root)

-- ---- the rooted part

pub object_at-rooted_part : (g : Graph) (x : Puid) → object_at (rooted_part g) x ≡ cond (is_among x (rooted g)) (object_at g x) None
object_at-rooted_part g x = found-filter (is_rooted g) g.objects x

pub rooted_part_is_there : (g : Graph) (x : Puid) → is_there (rooted_part g) x ≡ (is_among x (rooted g) && is_there g x)
rooted_part_is_there g x = ap is_some (object_at-rooted_part g x) ∙ at (is_rooted g x) (object_at g x)
  where
    at : (b : Bool) (o : Option Object) → is_some (cond b o None) ≡ (b && is_some o)
    at true o = refl
    at false o = refl

pub rooted_object : (g : Graph) (x : Puid) (o : Object) → object_at (rooted_part g) x ≡ Some o → object_at g x ≡ Some o
rooted_object g x o h = at (is_rooted g x) (sym (object_at-rooted_part g x) ∙ h)
  where
    at : (b : Bool) → cond b (object_at g x) None ≡ Some o → object_at g x ≡ Some o
    at true is = is
    at false is = cc

-- its pairs are those of the graph that lead from what is rooted
rooted_pairs : (g : Graph) → rises (ids_of g) ≡ true → (i x : Puid) → has_pair (graph_pairs (rooted_part g)) i x ≡ (is_among i (rooted g) && has_pair (graph_pairs g) i x)
rooted_pairs g up i x =
    has_pair-refers (rooted_part g) (rises-entries (is_rooted g) g.objects up) i x ∙ ap (λ o. refers o x) (object_at-rooted_part g i)
    ∙ at (is_rooted g i) (object_at g i) ∙ ap (λ t. is_rooted g i && t) (sym (has_pair-refers g up i x))
  where
    at : (b : Bool) (o : Option Object) → refers (cond b o None) x ≡ (b && refers o x)
    at true o = refl
    at false o = refl

module _ (g : Graph) (graph : IsClosedGraph g) where
  closed : IsClosed (is_rooted g) (graph_pairs g)
  closed = rooted_is_closed g graph.closed

  from_rooted : (i x : Puid) → has_pair (graph_pairs (rooted_part g)) i x ≡ true → (is_rooted g i ≡ true) × (has_pair (graph_pairs g) i x ≡ true)
  from_rooted i x h = and_parts (is_rooted g i) (has_pair (graph_pairs g) i x) (sym (rooted_pairs g graph.ordered i x) ∙ h)

  part_closed : (i x : Puid) → has_pair (graph_pairs (rooted_part g)) i x ≡ true → is_there (rooted_part g) x ≡ true
  part_closed i x h =
      let two = from_rooted i x h in
      rw (rooted_part_is_there g x, closed i x two.1 two.0) (graph.closed i x two.1)

  -- what is rooted in the part is rooted in the graph, and conversely
  part_rooted : (x : Puid) → is_rooted (rooted_part g) x ≡ true → is_rooted g x ≡ true
  part_rooted = rooted_within (rooted_part g) (is_rooted g) (λ i x h at. closed i x (from_rooted i x h).1 at) (root_is_rooted g)

  pub still_rooted : (x : Puid) → is_among x (rooted g) ≡ true → is_among x (rooted (rooted_part g)) ≡ true
  still_rooted = rooted_within g (is_rooted (rooted_part g))
      (λ i x h at. rooted_is_closed (rooted_part g) part_closed i x (rooted_pairs g graph.ordered i x ∙ rw (part_rooted i at) h) at)
      (root_is_rooted (rooted_part g))

  pub rooted_part_closed : IsClosedGraph (rooted_part g)
  rooted_part_closed = record {
    ordered = rises-entries (is_rooted g) g.objects graph.ordered;
    root = (graph.root.0, rw (object_at-rooted_part g g.root, root_is_rooted g) graph.root.1, graph.root.2);
    closed = part_closed;
  }

  pub rooted_part_reached : (x : Puid) → is_there (rooted_part g) x ≡ true → is_among x (rooted (rooted_part g)) ≡ true
  rooted_part_reached x h = still_rooted x (and_parts (is_rooted g x) (is_there g x) (sym (rooted_part_is_there g x) ∙ h)).0

-- ---- its image

pub holds_rooted_part : (image : Image) (g : Graph) → Holds image g → Holds image (rooted_part g)
holds_rooted_part image g holds = record {
  label = holds.label;
  maps = holds.maps;
  own = holds.own;
  fixed = holds.fixed;
  objects = λ id o at. holds.objects id o (rooted_object g id o at);
}

pub rooted_reads : (image : Image) (g : Graph) → Holds image g → IsClosedGraph g → LeavesFour (length image) (rooted_part g) → IsSoundAs image (rooted_part g)
rooted_reads image g holds graph room = record {
  holds = holds_rooted_part image g holds;
  graph = rooted_part_closed g graph;
  reached = rooted_part_reached g graph;
  room = room;
}
