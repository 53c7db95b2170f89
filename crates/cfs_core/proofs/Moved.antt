-- What a step of a draft, its commit or its end makes of the state.
use Rattle.std.proofs.Common.{◌≡◌, ◌⊎◌, ℕ, ◌+◌, ◌/◌, ◌≤◌, length, Bool, Option, Some, refl, sym, ◌∙◌, ap, subst, arith, map, option_map}
use Rattle.cfs_core.proofs.Words.{blocks_taken, ChangesOnly, done, Event, FitsDisk, Ghosts, Graph, Holds, Image, IsOfThese, IsState, IsSwept, kinds_of, Leaves, loose, MapEntry, next, room, State, stays_swept, stray_was, strays_stay, Drafts}
use Rattle.cfs_core.specs.declared.kernel.Stop.{Stop}
use Rattle.cfs_core.specs.Calls.{AddsNoStray, MakesEvent}
use Rattle.cfs_core.specs.Kernel.{Kernel, grants_in}
use Rattle.cyl_alloc.specs.Left.{LeftCommit}
use Rattle.cyl_alloc.specs.Space.{AreCounts}
use Rattle.intentions.specs.Left.{StoreIs, coming}
use Rattle.cfs_core.specs.StandsFor.{AreDraftsOf, ServesWith, StoresState, bare, drafts_of_handles, end_in, free_of, free_to_come, free_with, sweeps_now}
use Rattle.cfs_core.proofs.Serving.{account, fits, free_called, free_end, ordered, pending}
use Rattle.cfs_core.proofs.Stored.{account_in, counts_in, free_is, holds_in, ordered_in}

-- the state afterwards, with these objects
pub record IsStepped {D : Type 0} (old new : Kernel D) (s after : State) (h : Graph) : Type 0 where
  pub graph : after.graph ≡ h
  pub rooted : h.root ≡ s.graph.root
  pub stopped : after.stopped ≡ s.stopped
  pub sweeping : sweeps_now after.collection ≡ sweeps_now s.collection
  pub drawn : after.drawn ≡ new.words.drawn
  pub named : new.directory.named ≡ kinds_of h
  pub root : new.root ≡ old.root
  pub stop : new.stop ≡ old.stop
  pub table : grants_in new.handles ≡ map bare after.grants

-- the store has these objects and drafts afterwards, whatever is left of a commit then; from the image that was to come to
-- the one that is only blocks of objects that are there changed
pub record HasStepped {D : Type 0} (g : Ghosts D) (w : Option LeftCommit) (old new : Kernel D) (s : State) (h : Graph) (T : Option MapEntry → Bool) (es : Drafts) : Type 0 where
  pub store : StoreIs g h es new.disk new.space
  pub only : ChangesOnly T (coming (g.content old.disk) w) (end_in g new)
  pub these : IsOfThese T s.graph h

module _ {D : Type 0} {w : Option LeftCommit} (g : Ghosts D) (old new : Kernel D) (s after : State) (h : Graph) (serves : ServesWith g old s w) (T : Option MapEntry → Bool) (es : Drafts) (has : HasStepped g w old new s h T es) where
  abbrev before : Image
  before = coming (g.content old.disk) w

  counts_now : AreCounts (g.content new.disk) new.space
  counts_now = counts_in g h es new.disk new.space new.space.left has.store

  free_now : free_to_come g new ≡ free_of (end_in g new)
  free_now = free_is g new new.space.left counts_now

  -- where it takes n blocks more, and so many and four were Free, four still are
  pub four_left : (n : ℕ) → blocks_taken h es ≤ blocks_taken s.graph (drafts_of_handles old.handles s.grants) + n → n + 4 ≤ free_with g old w → 4 ≤ free_to_come g new
  four_left n few free =
      let was = room before s.graph (drafts_of_handles old.handles s.grants) (account g old s serves) (ordered g old s serves) in
      let now = room (end_in g new) h es (account_in g h es new.disk new.space new.space.left has.store) (ordered_in g h es new.disk new.space new.space.left has.store) in
      let strays = strays_stay T before (end_in g new) s.graph h has.only has.these in
      omega (arith, was, now, strays, few, free, free_end g old s serves, free_now, ap (λ (m : ℕ). m / 64) has.only.size)

  module _ (is : IsStepped old new s after h) (state : IsState after) (drafts_are : drafts_of_handles new.handles after.grants ≡ es) (have : AreDraftsOf es new.handles after.grants) (four : 4 ≤ free_to_come g new) where
    pub stores_stepped : StoresState g new after
    stores_stepped = λ c collecting. record {
      front = record {
        drawn = is.drawn;
        directory = is.named ∙ ap kinds_of (sym is.graph);
        grants = is.table;
        stopped = is.stopped ∙ serves.front.stopped ∙ ap (option_map (λ (stop : Stop). stop.moment)) (sym is.stop);
      };
      state = state;
      root = ap (λ (x : Graph). x.root) is.graph ∙ is.rooted ∙ serves.root ∙ sym is.root;
      store = subst (λ (x : Graph). StoreIs g x (drafts_of_handles new.handles after.grants) new.disk new.space) (sym is.graph)
          (subst (λ (ds : Drafts). StoreIs g h ds new.disk new.space) (sym drafts_are) has.store);
      left = refl;
      drafts = subst (λ (ds : Drafts). AreDraftsOf ds new.handles after.grants) (sym drafts_are) have;
      swept = λ rests. subst (IsSwept (end_in g new)) (sym is.graph)
          (stays_swept T before (end_in g new) s.graph h has.only has.these (serves.swept (sym is.sweeping ∙ rests)));
      four = subst (λ (f : ℕ). 4 ≤ f) (sym (free_called g new c new.space.left)) four;
      collecting = collecting;
    }

    pub strays_stepped : AddsNoStray before (end_in g new) s.graph after.graph
    strays_stepped = subst (λ (x : Graph). AddsNoStray before (end_in g new) s.graph x) (sym is.graph) (stray_was T before (end_in g new) s.graph h has.only has.these)

    module _ (left_sized : (d : D) (t : ℕ) (c : Image) → g.left_since d t c → length c ≡ g.blocks d) (wide : length (g.content old.disk) ≡ g.blocks new.disk) (e : Event) (step : next old.words.seed s e ≡ Some after) where
      -- the objects stay
      pub makes_stepped : h ≡ s.graph → Leaves g old.disk new.disk (λ c. Holds c s.graph) → MakesEvent g w old new s e
      makes_stepped same leaves = record {
        after = after;
        step = step;
        stores = stores_stepped;
        strays = strays_stepped;
        survives = loose g left_sized old.words.seed s old.disk new.disk (fits g old s serves (g.blocks new.disk) wide) e after step (is.graph ∙ same) leaves (pending g old s serves);
      }

      -- they are committed
      pub makes_committed : FitsDisk (g.blocks new.disk) h → Leaves g old.disk new.disk (λ c. Holds c s.graph ⊎ Holds c h) → MakesEvent g w old new s e
      makes_committed fits_after leaves = record {
        after = after;
        step = step;
        stores = stores_stepped;
        strays = strays_stepped;
        survives = done g left_sized old.words.seed s old.disk new.disk (fits g old s serves (g.blocks new.disk) wide) e after step
            (subst (FitsDisk (g.blocks new.disk)) (sym is.graph) fits_after)
            (subst (λ (x : Graph). Leaves g old.disk new.disk (λ c. Holds c s.graph ⊎ Holds c x)) (sym is.graph) leaves)
            (λ c left. subst (Holds c) (sym is.graph) (holds_in g h es new.disk new.space new.space.left has.store c left));
      }
