-- Where a step of the collector leaves a core that serves a state.
use Rattle.std.proofs.Common.{◌≡◌, inl, inr, ℕ, ◌+◌, ◌/◌, ◌≤◌, List, [], ◌∷◌, length, Bool, true, false, not, cond, Option, Some, None, refl, sym, ◌∙◌, ap, subst, arith, nat_lt, map, option_map, filter}
use Rattle.cfs_core.proofs.Words.{Accounts, AreCounts, both_ways, carries_fewer, Collecting, Collection, Collects, entry_in, Event, Ghosts, goes, Grant, Graph, Holds, Image, is_among, is_running, is_stray, is_there, IsAsBefore, IsCollecting, Drafts, list_any, or_parts, or_from, cases_Bool, Opened, draft_blocks_if, sum_by, sum_by-cons, keys_of}
use Rattle.cfs_core.proofs.Words.{IsPhaseOf, IsSpeakable, IsSwept, IsSweptOf, joined_has, joined_has_new, joined_within, Kept, kept_stays, kinds_of, Leaves, Listing, MapEntry, may_vanish_test, MayVanish, next, next_keeps, next_phase, Object, object_at, object_at-without, ones_le, OnlyReads}
use Rattle.cfs_core.proofs.Words.{open_ids, open_kept, or_cases, or_left, or_right, pairs_of, Pass, Phase, Puid, rises-without, room, same_puid, starts_now, State, stray_blocks, sum_is, swept, vanish_goes_on, volume_of, wider, without}
use Rattle.std.specs.Cmp as cmp
use Rattle.collector_steps.specs.Collecting.{Serves as IsServed}
use Rattle.marking.specs.Colours.{none_marked}
use Rattle.marking.specs.Pace.{unread}
use Rattle.collector_steps.specs.declared.phase.Phase.TheVariants as phases
use Rattle.ufs_model.specs.declared.asked.Event.TheVariants as events
use Rattle.ufs_model.specs.declared.collection.Collection.TheVariants as collections
use Rattle.cfs_core.specs.declared.collecting.Collections.{Collections}
use Rattle.cfs_core.specs.Collect.{HasBegunCollection, MovesTo, phase_of, with_parts}
use Rattle.cfs_core.specs.Kernel.{Kernel, Handle, marks_in, sweeps_in, grants_in}
use Rattle.cfs_core.specs.Room.{MayLose, lost_blocks}
use Rattle.cfs_core.specs.StandsFor.{HasCollection, HasCollector, CoreServes, bare, drafts_of_handles, sweeps_now}
use Rattle.cfs_core.proofs.Collected.{as_before, collection_ready, none_is}
use Rattle.cfs_core.proofs.Drafted.{core_has_none}
use Rattle.cfs_core.proofs.Serving.{serves_on, stored_with, nothing_left}
use Rattle.ufs_model.proofs.Drafts.{not_open}

-- ---- a sweep

-- an entry that goes is Free, and so is no stray
swept_stray : (g : Graph) (e : MapEntry) (b : Bool) → is_stray g (Some (cond b Rattle.cyl_alloc.specs.Space.unheld_entry e)) ≡ true → is_stray g (Some e) ≡ true
swept_stray g e true stray = cc
swept_stray g e false stray = stray

marks_still : (cylinders : ℕ) (pass : Pass) (p : Phase) → IsPhaseOf pass p → marks_in (next_phase cylinders p) ≡ false
marks_still cylinders pass phases.Idle is = absurd is
marks_still cylinders pass phases.Marking is = absurd is
marks_still cylinders pass (phases.Inner c) is = elim (nat_lt (c + 1) cylinders) as (λ b. marks_in (cond b (phases.Inner (c + 1)) (phases.Roots 0)) ≡ false) [ true ↦ refl | false ↦ refl ]
marks_still cylinders pass (phases.Roots c) is = elim (nat_lt (c + 1) cylinders) as (λ b. marks_in (cond b (phases.Roots (c + 1)) phases.Swept) ≡ false) [ true ↦ refl | false ↦ refl ]
marks_still cylinders pass phases.Swept is = absurd is

pub sweeps_still : (cylinders : ℕ) (pass : Pass) (p : Phase) → IsPhaseOf pass p → sweeps_in (next_phase cylinders p) ≡ true
sweeps_still cylinders pass phases.Idle is = absurd is
sweeps_still cylinders pass phases.Marking is = absurd is
sweeps_still cylinders pass (phases.Inner c) is = elim (nat_lt (c + 1) cylinders) as (λ b. sweeps_in (cond b (phases.Inner (c + 1)) (phases.Roots 0)) ≡ true) [ true ↦ refl | false ↦ refl ]
sweeps_still cylinders pass (phases.Roots c) is = elim (nat_lt (c + 1) cylinders) as (λ b. sweeps_in (cond b (phases.Roots (c + 1)) phases.Swept) ≡ true) [ true ↦ refl | false ↦ refl ]
sweeps_still cylinders pass phases.Swept is = absurd is

pub in_sweep : (pass : Pass) (p : Phase) → IsPhaseOf pass p → (marks_in p ≡ false) × (sweeps_in p ≡ true)
in_sweep pass phases.Idle is = absurd is
in_sweep pass phases.Marking is = absurd is
in_sweep pass (phases.Inner c) is = (refl, refl)
in_sweep pass (phases.Roots c) is = (refl, refl)
in_sweep pass phases.Swept is = absurd is

-- ---- where a step leaves the state

-- a draft is of an object that is open
drafts_open : (id : Puid) (handles : List Handle) (grants : List Grant) → grants_in handles ≡ map bare grants → (d : Opened) → drafts_of_handles handles grants id ≡ Some d → is_among id (map (λ (x : Grant). x.id) grants) ≡ true
drafts_open id handles grants are d has = elim (cases_Bool (is_among id (map (λ (x : Grant). x.id) grants))) [
  | inl there ↦ there
  | inr none ↦ (let no : None ≡ Some d = sym (core_has_none id handles grants are (not_open grants id (none_on grants none))) ∙ has in cc)
]
  where
    none_on : (gs : List Grant) → is_among id (map (λ (x : Grant). x.id) gs) ≡ false → list_any (λ x. same_puid id x.id) gs ≡ false
    none_on [] none = refl
    none_on (x ∷ gs) none = (let two = or_parts (same_puid id x.id) (is_among id (map (λ (y : Grant). y.id) gs)) none in or_from (same_puid id x.id) _ two.0 (none_on gs two.1))

-- A core with a collector `col`, of a state that it serves; and where its step leaves it.
module _ {D : Type 0} (g : Ghosts D) (k : Kernel D) (old : D) (space : Kept) (directory : Listing) (col : Collecting) (s : State) (serves : CoreServes g (with_parts k old space directory col) s) (l : Collecting) where
  abbrev core : Kernel D
  core = with_parts k old space directory col

  abbrev ds : Drafts
  ds = drafts_of_handles k.handles s.grants

  pub served : IsServed g old directory.named s ds
  served = record { state = serves.state; named = serves.front.directory; carries = serves.store.carries; accounts = serves.store.account }

  -- one that reads at most
  pub read_on : (n : ℕ) (new : D) → OnlyReads g n old new → l.phase ≡ col.phase → Collects (g.content new) s l → MovesTo g core (with_parts k new space directory l) s None
  read_on n new reads phase collects = record {
    after = s;
    comes = refl;
    serves = stored_with g (with_parts k new space directory col) s (serves_on g n core (with_parts k new space directory col) reads refl s serves) (record k.collections { collector = Some l })
        (record { marking = serves.collecting.marking ∙ ap marks_in (sym phase); sweeping = serves.collecting.sweeping ∙ ap sweeps_in (sym phase); collects = collects });
    leaves = wider g old new _ _ reads.images (λ c no. absurd no);
    lost = omega (arith, ap (λ (i : Image). lost_blocks i s.graph) reads.content);
  }

  -- one that failed, with nothing tried
  pub stayed : (n : ℕ) (new : D) → OnlyReads g n old new → IsAsBefore col l → MovesTo g core (with_parts k new space directory l) s None
  stayed n new reads same =
      read_on n new reads same.phase (subst (λ (i : Image). Collects i s l) (sym reads.content) (collection_ready (g.content old) s (Some col) (Some l) (as_before col l same) serves.collecting).collects)

  -- ---- objects are condemned

  module _ (ids : List Puid) (legal : MayVanish s ids) (runs : is_running s ≡ true) where
    abbrev pub gone : State
    gone = record s { graph = without s.graph ids; collection = collections.Sweeping }

    pub condemns : (seed : ℕ) → next seed s (events.Vanish ids) ≡ Some gone
    condemns seed = rw (runs, may_vanish_test s ids serves.state legal) refl

    still_on_objects : (x : Puid) (d : Opened) → ds x ≡ Some d → is_there (without s.graph ids) x ≡ true
    still_on_objects x d has =
        ap (λ (o : Option Object). Rattle.std.specs.Prelude.is_some o) (kept_stays s.graph ids x (legal.none_kept x (open_kept s x (drafts_open x k.handles s.grants serves.front.grants d has)))) ∙ serves.store.account.on_objects x d has

    was : (x : Puid) (o : Object) → object_at (without s.graph ids) x ≡ Some o → object_at s.graph x ≡ Some o
    was x o found = elim (not (is_among x ids)) as (λ t. cond t (object_at s.graph x) None ≡ Some o → object_at s.graph x ≡ Some o) [
      | true ↦ λ h. h
      | false ↦ λ h. cc
    ] (sym (object_at-without s.graph ids x) ∙ found)

    -- what goes has no draft
    none_goes : (x : Puid) → is_among x ids ≡ true → draft_blocks_if (ds x) ≡ 0
    none_goes x goes = by (ds x) refl
      where
        by : (o : Option Opened) → ds x ≡ o → draft_blocks_if o ≡ 0
        by None has = refl
        by (Some d) has = (let no : false ≡ true = sym (ap (λ (o : Option Object). Rattle.std.specs.Prelude.is_some o) (object_at-without s.graph ids x ∙ ap (λ b. cond (not b) (object_at s.graph x) None) goes)) ∙ still_on_objects x d has in cc)

    drafts_stay : (es : List (Puid × Object)) → sum_by (λ x. draft_blocks_if (ds x)) (keys_of (filter (λ e. not (is_among e.0 ids)) es)) ≡ sum_by (λ x. draft_blocks_if (ds x)) (keys_of es)
    drafts_stay [] = refl
    drafts_stay (e ∷ es) = elim (is_among e.0 ids) as (λ b. is_among e.0 ids ≡ b → sum_by (λ x. draft_blocks_if (ds x)) (keys_of (cond (not b) (e ∷ filter (λ y. not (is_among y.0 ids)) es) (filter (λ y. not (is_among y.0 ids)) es))) ≡ sum_by (λ x. draft_blocks_if (ds x)) (keys_of (e ∷ es))) [
      | true ↦ λ among. omega (arith, sum_by-cons (λ x. draft_blocks_if (ds x)) e.0 (keys_of es), none_goes e.0 among, drafts_stay es)
      | false ↦ λ stays. omega (arith, sum_by-cons (λ x. draft_blocks_if (ds x)) e.0 (keys_of es), sum_by-cons (λ x. draft_blocks_if (ds x)) e.0 (keys_of (filter (λ y. not (is_among y.0 ids)) es)), drafts_stay es)
    ] refl

    accounts : Accounts (g.content old) (without s.graph ids) ds
    accounts = vanish_goes_on (g.content old) s.graph ds ids serves.store.account still_on_objects

    pub condemned : (left : Listing) → l.phase ≡ phases.Inner 0 → left.named ≡ kinds_of (without s.graph ids) → Collects (g.content old) gone l → MovesTo g core (with_parts k old space left l) s (Some (events.Vanish ids))
    condemned left phase named collects = record {
      after = gone;
      comes = condemns;
      serves = record {
        front = record { drawn = serves.front.drawn; directory = named; grants = serves.front.grants; stopped = serves.front.stopped };
        state = next_keeps 0 s gone (events.Vanish ids) serves.state tt (condemns 0);
        root = serves.root;
        store = record {
          carries = carries_fewer g s.graph (without s.graph ids) old serves.store.carries refl was;
          account = accounts;
          counts = serves.store.counts;
          ordered = rises-without s.graph ids serves.store.ordered;
        };
        left = serves.left;
        drafts = serves.drafts;
        swept = λ calm. cc;
        four = serves.four;
        collecting = record { marking = ap marks_in (sym phase); sweeping = ap sweeps_in (sym phase); collects = collects };
      };
      leaves = nothing_left g old (λ c. Holds c s.graph);
      lost = omega (arith, room (g.content old) s.graph ds serves.store.account serves.store.ordered, room (g.content old) (without s.graph ids) ds accounts (rises-without s.graph ids serves.store.ordered), drafts_stay s.graph.objects);
    }

  -- ---- a cylinder is swept

  module _ (new : D) (after : Kept) (pass : Pass) (cylinder : ℕ) (phase : IsPhaseOf pass col.phase) (sweeps : IsSweptOf directory.named pass cylinder (g.content old) (g.content new)) where
    stray_was : (n : ℕ) → is_stray s.graph (entry_in (g.content new) n) ≡ true → is_stray s.graph (entry_in (g.content old) n) ≡ true
    stray_was n stray = elim (Rattle.std.proofs.lemmas.Bool.cases_eq (n / 64) cylinder) [
      | inl here ↦ at (entry_in (g.content old) n) (subst (λ (e : Option MapEntry). is_stray s.graph e ≡ true) (sweeps.here n here) stray)
      | inr away ↦ subst (λ (e : Option MapEntry). is_stray s.graph e ≡ true) (sweeps.elsewhere n away) stray
    ]
      where
        at : (e : Option MapEntry) → is_stray s.graph (option_map (swept directory.named pass) e) ≡ true → is_stray s.graph e ≡ true
        at None h = h
        at (Some e) h = swept_stray s.graph e (goes directory.named pass e) h

    fewer : lost_blocks (g.content new) s.graph ≤ lost_blocks (g.content old) s.graph
    fewer = omega (
      arith,
      ones_le (λ n. is_stray s.graph (entry_in (g.content new) n)) (λ n. is_stray s.graph (entry_in (g.content old) n)) 0 (length (g.content old)) stray_was,
      ap (λ n. stray_blocks (g.content new) s.graph n) sweeps.size,
    )

    pub swept_one : after.left ≡ space.left → IsServed g new directory.named s ds → AreCounts (g.content new) after → Collects (g.content new) s l → l.phase ≡ next_phase (volume_of col / 64) col.phase → Leaves g old new (λ c. Holds c s.graph)
        → MovesTo g core (with_parts k new after directory l) s None
    swept_one left has counts collects next leaves = record {
      after = s;
      comes = refl;
      serves = record {
        front = record { drawn = serves.front.drawn; directory = serves.front.directory; grants = serves.front.grants; stopped = serves.front.stopped };
        state = serves.state;
        root = serves.root;
        store = record { carries = has.carries; account = has.accounts; counts = counts; ordered = serves.store.ordered };
        left = left ∙ serves.left;
        drafts = serves.drafts;
        swept = λ calm. absurd (both_ways _ calm (serves.collecting.sweeping ∙ (in_sweep pass col.phase phase).1));
        four = omega (
          arith,
          serves.four,
          room (g.content old) s.graph ds serves.store.account serves.store.ordered,
          room (g.content new) s.graph ds has.accounts serves.store.ordered,
          fewer,
          ap (λ (n : ℕ). n / 64) sweeps.size,
          sum_is (g.content old) space serves.store.counts,
          sum_is (g.content new) after counts,
        );
        collecting = record {
          marking = serves.collecting.marking ∙ (in_sweep pass col.phase phase).0 ∙ sym (marks_still (volume_of col / 64) pass col.phase phase) ∙ ap marks_in (sym next);
          sweeping = serves.collecting.sweeping ∙ (in_sweep pass col.phase phase).1 ∙ sym (sweeps_still (volume_of col / 64) pass col.phase phase) ∙ ap sweeps_in (sym next);
          collects = collects;
        };
      };
      leaves = leaves;
      lost = fewer;
    }

-- ---- one begins

idle_none : (image : Image) (s : State) (o : Option Collecting) → phase_of o ≡ phases.Idle → HasCollection image s o → s.collection ≡ collections.None
idle_none image s None is none = none
idle_none image s (Some k) is has = none_is s.collection (has.marking ∙ ap marks_in is) (has.sweeping ∙ ap sweeps_in is)

-- the root and what is open, in any order
starts_are : (s : State) (x : Puid) → is_among x (s.graph.root ∷ open_ids s) ≡ is_among x (starts_now s)
starts_are s x = cmp.both_ways _ _
    (λ h. elim (or_cases (same_puid x s.graph.root) (is_among x (open_ids s)) h) [
      | inl root ↦ joined_has (open_ids s) (s.graph.root ∷ []) x (or_left (same_puid x s.graph.root) false root)
      | inr opened ↦ joined_has_new (open_ids s) (s.graph.root ∷ []) x opened
    ])
    (joined_within (λ y. is_among y (s.graph.root ∷ open_ids s)) (open_ids s) (s.graph.root ∷ [])
    (λ y at. or_right (same_puid y s.graph.root) (is_among y (open_ids s)) at)
    (λ y at. elim (or_cases (same_puid y s.graph.root) false at) [ inl here ↦ or_left (same_puid y s.graph.root) (is_among y (open_ids s)) here | inr none ↦ cc ]) x)

-- ---- one begins, and one ends: only the collection changes

module _ {D : Type 0} (g : Ghosts D) (k : Kernel D) (s : State) (serves : CoreServes g k s) (runs : is_running s ≡ true) (c : Collections) where
  abbrev in_stage : Collection → State
  in_stage stage = record s { collection = stage }

  staged : (e : Event) (stage : Collection) → IsSpeakable e → ((seed : ℕ) → next seed s e ≡ Some (in_stage stage)) → (sweeps_now stage ≡ false → IsSwept (g.content k.disk) s.graph) → HasCollection (g.content k.disk) (in_stage stage) c.collector
      → MayLose e s.graph s.graph (lost_blocks (g.content k.disk) s.graph) (lost_blocks (g.content k.disk) s.graph) → MovesTo g k (record k { collections = c }) s (Some e)
  staged e stage speaks comes swept collecting lost = record {
    after = in_stage stage;
    comes = comes;
    serves = record {
      front = record { drawn = serves.front.drawn; directory = serves.front.directory; grants = serves.front.grants; stopped = serves.front.stopped };
      state = next_keeps 0 s (in_stage stage) e serves.state speaks (comes 0);
      root = serves.root;
      store = serves.store;
      left = serves.left;
      drafts = serves.drafts;
      swept = swept;
      four = serves.four;
      collecting = collecting;
    };
    leaves = nothing_left g k.disk (λ c. Holds c s.graph);
    lost = lost;
  }

  module _ (l : Collecting) (there : c.collector ≡ Some l) where
    pub begins : phase_of k.collections.collector ≡ phases.Idle → (roots : List Puid) → roots ≡ s.graph.root ∷ open_ids s → HasBegunCollection roots k.directory.named l → unread s none_marked ≤ volume_of l
        → MovesTo g k (record k { collections = c }) s (Some events.Began)
    begins idle roots are begun few = staged events.Began stage tt comes (λ calm. serves.swept (ap sweeps_now none)) (rw there (record {
      marking = ap marks_in (sym begun.phase);
      sweeping = ap sweeps_in (sym begun.phase);
      collects = begun.keeps 0 s (in_stage stage) (g.content k.disk) serves.state serves.front.directory (λ x. ap (is_among x) are ∙ starts_are s x) (comes 0) few;
    })) (omega arith)
      where
        none : s.collection ≡ collections.None
        none = idle_none (g.content k.disk) s k.collections.collector idle serves.collecting

        stage : Collection
        stage = collections.Marking (pairs_of s) (starts_now s)

        comes : (seed : ℕ) → next seed s events.Began ≡ Some (in_stage stage)
        comes seed = rw (runs, none) refl

    pub ended : (col : Collecting) → HasCollector (g.content k.disk) s col → col.phase ≡ phases.Swept → l.phase ≡ phases.Idle → MovesTo g k (record k { collections = c }) s (Some events.Finished)
    ended col has over idle = staged events.Finished collections.None tt ends (λ calm. (subst (λ p. IsCollecting p (g.content k.disk) s col) over has.collects).0)
        (rw there (record { marking = ap marks_in (sym idle); sweeping = ap sweeps_in (sym idle); collects = subst (λ p. IsCollecting p (g.content k.disk) (in_stage collections.None) l) (sym idle) tt })) (omega arith)
      where
        ends : (seed : ℕ) → next seed s events.Finished ≡ Some (in_stage collections.None)
        ends seed = rw (runs, has.sweeping, over) refl
