-- A walk that took all that it found: the volume is sound, or has a fault.
use Rattle.std.proofs.Common.{◌≡◌, ◌⊎◌, inl, inr, ℕ, true, List, length, Some, None, sym, ◌∙◌, ap, subst}
use Rattle.cfs_recover.proofs.Words.{AreGrounds, Graph, Holds, Image, IsClosedGraph, IsFaultOf, IsIn, IsKeptBlock, IsNotedIn, IsReachedIn, IsRootBlock, IsSome, IsSoundAs, IsWalkedObject, IsWalk, Kind, Label, LeavesFour, Object, Puid, Root, Shows, StandsIn, Tree, Walk, block_at, damage, holds, is_among, is_there, object_at, object_there, referred, rooted, sight, slice_get_within, source_tree}
use Rattle.cfs_recover.proofs.Listings.{listed}
use Rattle.cfs_recover.proofs.Named.{named_nothing}
use Rattle.cfs_recover.proofs.NoFault.{kept_in}
use Rattle.cfs_recover.proofs.Noting.{listed_there, there_listed}
use Rattle.cfs_recover.proofs.Shown.{reads_shown, shown_closed, shown_rooted, tree_at_source}

module _ (image : Image) (w : Walk) (walk : IsWalk image w (length w.found.items)) where
  abbrev its : Graph
  its = walk.graph

  pub all_taken : (x : Puid) (o : Object) → object_at its x ≡ Some o → IsWalkedObject image w x o
  all_taken x o there =
      let at = walk.listed x (ap (λ (n : List (Puid × Kind)). listed n x) walk.named ∙ listed_there its x o there) in
      walk.taken at.0 at.1 x o (slice_get_within w.found.items at.0 at.1 at.2) at.2 at.3 there

  -- ---- a clash is a fault

  pub clash_fault : (by : ℕ) → w.clash ≡ Some by → IsFaultOf image (damage by 6)
  unfolding sight
  clash_fault by is =
      let clash = walk.clash by is in
      let there = there_listed its clash.other (sym (ap (λ (n : List (Puid × Kind)). listed n clash.other) walk.named) ∙ clash.listed) in
      let at = object_there its clash.other there in
      let reads = (all_taken clash.other at.0 at.1).reads in
      named_nothing image clash.id by clash.named (inr (inr (reads.root, subst (λ (n : ℕ). IsRootBlock (block_at image n) reads.root) (sym clash.block) reads.spelled, λ same. clash.word (sym same ∙ reads.word))))

-- ---- without one the volume reads as the graph

module _ (image : Image) (label : Label) (grounds : AreGrounds image label) (w : Walk) (walk : IsWalk image w (length w.found.items)) (no_clash : w.clash ≡ None) (noted : IsNotedIn w label.root) where
  abbrev g : Graph
  g = walk.graph

  taken : (x : Puid) (o : Object) → object_at g x ≡ Some o → IsWalkedObject image w x o
  taken = all_taken image w walk

  is_there_if : (x : Puid) → IsNotedIn w x → is_there g x ≡ true
  is_there_if x (inl is) = there_listed g x (sym (ap (λ (n : List (Puid × Kind)). listed n x) walk.named) ∙ is)
  is_there_if x (inr some) = let none : IsSome {T = ℕ} None = subst IsSome no_clash some in cc

  root_is : g.root ≡ label.root
  root_is = walk.root label grounds.has

  pub walk_holds : Holds image g
  walk_holds = record {
    label = record { label = label; is_label = grounds.has.is_label; spelled = grounds.has.spelled; size_is = grounds.size; root_is = sym root_is };
    maps = grounds.maps;
    own = grounds.own;
    fixed = grounds.fixed;
    objects = λ x o at. (taken x o at).reads;
  }

  root_there : is_there g g.root ≡ true
  root_there = ap (is_there g) root_is ∙ is_there_if label.root noted

  shows : (x : Puid) (o : Object) → object_at g x ≡ Some o → (root : Root) × Shows image x.block root o
  shows x o at = let is = taken x o at in (is.reads.source, reads_shown image x o is.reads is.sort)

  leads : (x y : Puid) (o : Object) → object_at g x ≡ Some o → is_among y (referred o) ≡ true → is_there g y ≡ true
  leads x y o at among = is_there_if y ((taken x o at).leads y among)

  reached : (x : Puid) (o : Object) → object_at g x ≡ Some o → IsReachedIn image x
  reached x o at = (taken x o at).reached

  closed : IsClosedGraph g
  closed = shown_closed image label grounds.has g walk.ordered root_is root_there reached shows leads

  walk_rooted : (x : Puid) → is_there g x ≡ true → is_among x (rooted g) ≡ true
  walk_rooted = shown_rooted image label grounds.has g walk.ordered root_is root_there reached shows leads

  -- with room the volume is sound
  pub walk_sound : LeavesFour (length image) g → IsSoundAs image g
  walk_sound room = record { holds = walk_holds; graph = closed; reached = walk_rooted; room = room }

  -- ---- what is held

  pub in_graph : (n : ℕ) → IsKeptBlock image n → IsIn image g n
  in_graph = kept_in image g walk_holds closed walk_rooted

  pub held_in : (n : ℕ) → holds w n ≡ true → IsIn image g n
  held_in n is = in_graph n (walk.held n is)

  pub in_held : (n : ℕ) → IsIn image g n → holds w n ≡ true
  in_held n is = at is.here
    where
      at : (n ≡ is.id.block) ⊎ StandsIn (source_tree image is.id.block) n → holds w n ≡ true
      at (inl root) = ap (holds w) root ∙ (taken is.id is.object is.there).root
      at (inr stands) =
          let walked = taken is.id is.object is.there in
          ap (holds w) (sym stands.is) ∙ walked.below stands.path stands.held (ap (λ (t : Tree). t.below stands.path) (tree_at_source image is.id is.object walked.reads) ∙ stands.there)
