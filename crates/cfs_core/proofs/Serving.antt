-- What a core that serves knows of its disk, and what it goes on to know after calls that only read.
use Rattle.std.proofs.Common.{◌≡◌, ◌≢◌, cond, ℕ, ◌+◌, ◌*◌, ◌/◌, ◌≤◌, List, [], ◌∷◌, length, Bool, true, false, Option, Some, None, IsTrue, refl, sym, ◌∙◌, ap, subst, arith, ◌==◌, ◌||◌, is_some, option_map, sum, eq-eqb, inl}
use Rattle.cfs_core.proofs.Words.{blocks_taken, closed_graph, entry_in, Event, FitsDisk, Ghosts, Graph, graph_blocks, has_root_in, Holds, Image, is_running, is_stray, is_there, IsClosedGraph, IsSwept, Kind, directory_kind, directory_kind-kinds_in, object_kind, left_now, loose, next, no_strays, Object, object_at, ones_le, OnlyReads, Puid, room, same_puid, same_puid_is, State, Drafts, ids_of, rises, stray_blocks, sum_is, wider, Leaves}
use Rattle.cyl_alloc.specs.Left.{LeftCommit}
use Rattle.cyl_alloc.specs.Space.{AreCounts}
use Rattle.intentions.specs.Left.{coming}
use Rattle.intentions.proofs.Reading.{store_reads as store_on}
use Rattle.vol_owners.specs.Account.{Accounts}
use Rattle.cfs_core.specs.Calls.{AddsNoStray, MakesEvent}
use Rattle.cfs_core.specs.Kernel.{Kernel}
use Rattle.cfs_core.specs.Room.{lost_blocks}
use Rattle.cfs_core.specs.declared.collecting.Collections.{Collections}
use Rattle.cfs_core.specs.StandsFor.{HasCollection, CoreServes, ServesIs, ServesWith, Stands, StandsFor, StoresState, drafts_of_handles, end_in, free_of, free_with, sweeps_now}
use Rattle.cfs_core.proofs.Stored.{account_in, counts_in, free_is, holds_in, honest_in, length_in, ordered_in}

-- ---- the directory

-- an identifier that is named has a root block
pub named_root : (named : List (Puid × Kind)) (id : Puid) (kind : Kind) → directory_kind named id ≡ Some kind → has_root_in named id.block ≡ true
named_root [] id kind found = cc
named_root (e ∷ es) id kind found = elim (same_puid id e.0) as (λ b. same_puid id e.0 ≡ b → cond b (Some e.1) (directory_kind es id) ≡ Some kind → has_root_in (e ∷ es) id.block ≡ true) [
  | true ↦ λ is here. rw (same_puid_is id e.0 is, eq-eqb e.0.block e.0.block refl) refl
  | false ↦ λ other rest. rw (named_root es id kind rest) (or_true (e.0.block == id.block))
] refl found
  where
    or_true : (b : Bool) → (b || true) ≡ true
    or_true true = refl
    or_true false = refl

pub named_some : (named : List (Puid × Kind)) (id : Puid) (kind : Kind) → has_root_in named 0 ≡ false → directory_kind named id ≡ Some kind → id.block ≢ 0
named_some named id kind none found = λ zero_is. let has = named_root named id kind found in let no : has_root_in named 0 ≡ true = subst (λ (n : ℕ). has_root_in named n ≡ true) zero_is has in cc

-- ---- a core that serves

pub serves_from : {D : Type 0} (g : Ghosts D) (k : Kernel D) (s : State) → k.stop ≡ None → StandsFor g k s → ServesIs g k s
serves_from g k s none stands = subst (Stands g k s) none stands

pub stands_from : {D : Type 0} (g : Ghosts D) (k : Kernel D) (s : State) → k.stop ≡ None → ServesIs g k s → StandsFor g k s
stands_from g k s none serves = subst (Stands g k s) (sym none) serves

-- where nothing is left
pub serves_now : {D : Type 0} (g : Ghosts D) (k : Kernel D) (s : State) → k.space.left ≡ None → ServesIs g k s → CoreServes g k s
serves_now g k s none serves = subst (ServesWith g k s) none serves

-- whatever is left
pub serves_is : {D : Type 0} {w : Option LeftCommit} (g : Ghosts D) (k : Kernel D) (s : State) → ServesWith g k s w → ServesIs g k s
serves_is g k s serves = subst (ServesWith g k s) (sym serves.left) serves

-- whatever collector it has
pub free_called : {D : Type 0} (g : Ghosts D) (k : Kernel D) (c : Collections) (w : Option LeftCommit) → free_with g (record k { collections = c }) w ≡ free_with g k w
free_called g k c None = refl
free_called g k c (Some l) = refl

pub stored_with : {D : Type 0} {w : Option LeftCommit} (g : Ghosts D) (k : Kernel D) (s : State) → ServesWith g k s w → (c : Collections) → HasCollection (coming (g.content k.disk) w) s c.collector → ServesWith g (record k { collections = c }) s w
stored_with {w = w} g k s serves c has = record {
  front = record { drawn = serves.front.drawn; directory = serves.front.directory; grants = serves.front.grants; stopped = serves.front.stopped };
  state = serves.state;
  root = serves.root;
  store = serves.store;
  left = serves.left;
  drafts = serves.drafts;
  swept = serves.swept;
  four = subst (λ (f : ℕ). 4 ≤ f) (sym (free_called g k c w)) serves.four;
  collecting = has;
}

pub stored : {D : Type 0} {w : Option LeftCommit} (g : Ghosts D) (k : Kernel D) (s : State) → ServesWith g k s w → StoresState g k s
stored g k s serves = λ c has. stored_with g k s (serves_is g k s serves) c has

-- no call was made
pub nothing_left : {D : Type 0} (g : Ghosts D) (d : D) (P : Image → Type 0) → Leaves g d d P
nothing_left g d P = record { later = omega arith; since = λ k c le h. inl h; now = λ c h. inl h }

-- what leaves image and graph as they were adds no stray
pub none_more : (a b : Image) (h : Graph) → b ≡ a → AddsNoStray a b h h
none_more a b h same = λ n stray. (ap (λ (i : Image). entry_in i n) same, subst (λ (i : Image). is_stray h (entry_in i n) ≡ true) same stray)

-- nor leaves more blocks behind
pub fewer_lost : (a b : Image) (g h : Graph) → length b ≡ length a → AddsNoStray a b g h → lost_blocks b h ≤ lost_blocks a g
fewer_lost a b g h wide adds =
    omega (arith, ones_le (λ n. is_stray h (entry_in b n)) (λ n. is_stray g (entry_in a n)) 0 (length a) (λ n stray. (adds n stray).1), ap (λ n. stray_blocks b h n) wide)

module _ {D : Type 0} {w : Option LeftCommit} (g : Ghosts D) (k : Kernel D) (s : State) (serves : ServesWith g k s w) where
  abbrev drafts : Drafts
  drafts = drafts_of_handles k.handles s.grants

  -- the image that is to come, and what is said of it
  abbrev end : Image
  end = coming (g.content k.disk) w

  pub account : Accounts end s.graph drafts
  account = account_in g s.graph drafts k.disk k.space w serves.store

  pub counts : AreCounts (g.content k.disk) k.space
  counts = counts_in g s.graph drafts k.disk k.space w serves.store

  pub ordered : rises (ids_of s.graph) ≡ true
  ordered = ordered_in g s.graph drafts k.disk k.space w serves.store

  pub honest : IsTrue (g.honest k.disk)
  honest = honest_in g s.graph drafts k.disk k.space w serves.store

  pub free_end : free_with g k w ≡ free_of end
  free_end = free_is g k w counts

  pub running : k.stop ≡ None → is_running s ≡ true
  running none = rw (serves.front.stopped, none) refl

  pub kind_there : (id : Puid) → directory_kind k.directory.named id ≡ option_map object_kind (object_at s.graph id)
  kind_there id = ap (λ named. directory_kind named id) serves.front.directory ∙ directory_kind-kinds_in s.graph.objects id

  pub object_listed : (id : Puid) (kind : Kind) → directory_kind k.directory.named id ≡ Some kind → (o : Object) × (object_at s.graph id ≡ Some o)
  object_listed id kind listed = at (object_at s.graph id) (sym (kind_there id) ∙ listed)
    where
      at : (found : Option Object) → option_map object_kind found ≡ Some kind → (o : Object) × (found ≡ Some o)
      at None is = cc
      at (Some o) is = (o, refl)

  -- an object that is there is of the kind that is listed
  pub kind_is : (id : Puid) (o : Object) (kind : Kind) → directory_kind k.directory.named id ≡ Some kind → object_at s.graph id ≡ Some o → object_kind o ≡ kind
  kind_is id o kind listed there = let same : Some (object_kind o) ≡ Some kind = sym (ap (option_map object_kind) there) ∙ sym (kind_there id) ∙ listed in cc

  pub there_is : (id : Puid) → is_there s.graph id ≡ is_some (directory_kind k.directory.named id)
  there_is id = sym (ap is_some (kind_there id) ∙ at (object_at s.graph id))
    where
      at : (o : Option Object) → is_some (option_map object_kind o) ≡ is_some o
      at None = refl
      at (Some o) = refl

  -- the Free blocks of the disk as it is are counted
  pub counted : sum k.space.free ≡ free_of (g.content k.disk)
  counted = sum_is (g.content k.disk) k.space counts

  -- whatever a crash leaves now holds the objects
  pub pending : (c : Image) → left_now g k.disk c → Holds c s.graph
  pending = holds_in g s.graph drafts k.disk k.space w serves.store

  -- the room by the formula; while nothing sweeps; and what the objects take at most
  pub room_with : free_with g k w + blocks_taken s.graph drafts + lost_blocks end s.graph + 1 ≡ 63 * length k.space.free
  room_with = omega (arith, room end s.graph drafts account ordered, free_end, counts.size, length_in (g.content k.disk) w)

  pub room_is : (free : ℕ) → sweeps_now s.collection ≡ false → free ≡ free_with g k w → free + blocks_taken s.graph drafts + 1 ≡ 63 * length k.space.free
  room_is free none is = omega (arith, room end s.graph drafts account ordered, no_strays end s.graph (serves.swept none), free_end, counts.size, length_in (g.content k.disk) w, is)

  pub taken_less : free_with g k w + graph_blocks s.graph + 1 ≤ 63 * (length (g.content k.disk) / 64)
  taken_less = omega (arith, room end s.graph drafts account ordered, free_end, length_in (g.content k.disk) w)

  -- objects that take n blocks more fit, where n and four are Free
  pub may_fit : (h : Graph) (n size : ℕ) → IsClosedGraph h → graph_blocks h ≤ graph_blocks s.graph + n → n + 4 ≤ free_with g k w → length (g.content k.disk) ≡ size → FitsDisk size h
  may_fit h n size closed few free wide = record {
    closed = closed;
    room = omega (arith, few, free, taken_less, ap (λ (m : ℕ). m / 64) wide);
  }

  pub fits : (size : ℕ) → length (g.content k.disk) ≡ size → FitsDisk size s.graph
  fits size wide = may_fit s.graph 0 size (closed_graph s.graph serves.state.graph) (omega arith) serves.four wide

-- ---- after calls that only read

-- the Free blocks of the image to come, on a disk with this content
pub free_same : {D : Type 0} (g : Ghosts D) (k : Kernel D) (d : D) (w : Option LeftCommit) → g.content d ≡ g.content k.disk → free_with g (record k { disk = d }) w ≡ free_with g k w
free_same g k d None same = refl
free_same g k d (Some l) same = ap (λ (i : Image). free_of (coming i (Some l))) same

module _ {D : Type 0} {w : Option LeftCommit} (g : Ghosts D) (n : ℕ) (old new : Kernel D) (reads : OnlyReads g n old.disk new.disk) (same : new ≡ record old { disk = new.disk }) (s : State) (serves : ServesWith g old s w) where
  pub serves_on : ServesWith g new s w
  serves_on =
      subst (λ (k : Kernel D). ServesWith g k s w) (sym same) (record {
        front = record { drawn = serves.front.drawn; directory = serves.front.directory; grants = serves.front.grants; stopped = serves.front.stopped };
        state = serves.state;
        root = serves.root;
        store = store_on g s.graph old.disk new.disk old.space n reads (drafts_of_handles old.handles s.grants) w serves.store;
        left = serves.left;
        drafts = serves.drafts;
        swept = λ none. subst (λ (i : Image). IsSwept (coming i w) s.graph) (sym reads.content) (serves.swept none);
        four = subst (λ (f : ℕ). 4 ≤ f) (sym (free_same g old new.disk w reads.content)) serves.four;
        collecting = subst (λ (i : Image). HasCollection (coming i w) s old.collections.collector) (sym reads.content) serves.collecting;
      })

  -- the image that is to come is the same
  pub end_same : end_in g new ≡ coming (g.content old.disk) w
  end_same = ap (coming (g.content new.disk)) serves_on.left ∙ ap (λ (i : Image). coming i w) reads.content

  module _ (left_sized : (d : D) (t : ℕ) (c : Image) → g.left_since d t c → length c ≡ g.blocks d) (wide : length (g.content old.disk) ≡ g.blocks old.disk) where
    -- an event that leaves the state, as a refusal
    pub stays : (e : Event) → next old.words.seed s e ≡ Some s → MakesEvent g w old new s e
    stays e step = record {
      after = s;
      step = step;
      stores = stored g new s serves_on;
      strays = none_more (coming (g.content old.disk) w) (end_in g new) s.graph end_same;
      survives = loose g left_sized old.words.seed s old.disk new.disk (fits g old s serves (g.blocks new.disk) (wide ∙ sym reads.same.size)) e s step refl
          (wider g old.disk new.disk _ _ reads.images (λ c no. absurd no)) (pending g old s serves);
    }
