-- A change through a grant with a draft: what it makes of the state.
use Rattle.std.proofs.Common.{◌≡◌, ◌⊎◌, inl, inr, ℕ, zero, suc, ◌+◌, ◌<◌, ◌≤◌, List, [], ◌∷◌, ◌++◌, length, get_or, Bool, true, false, cond, not, Option, Some, None, Ok, Err, IsTrue, refl, sym, ◌∙◌, ap, subst, arith, Result, filter, map, option_to_list, sum}
use Rattle.cfs_core.proofs.Words.{and_parts, blocks_taken, Change, change_need, changed, changed_draft, changed_object, Draft, Drafting, Fill, filter-rises, first_level, fresh_of, Ghosts, Grant, grant_of, has_number, held_levels, here, Holds, Image, in_filter, in_with, is_grant, is_normal, ChangesOnly, Drafts, with_opened, draft_blocks_if, taken_with}
use Rattle.cfs_core.proofs.Words.{Kept, later, Leaves, list_all, MapEntry, merged, missing, need_beside, need_of, next, next_keeps, next_levels, numbers-rise, numbers_rise, Object, of_draft, OnlyReads, Opened, opened_as, outcome_legal, Overwrite, Puid, put_draft-at, range_with_len, refusal_of, Refused, Reply, Request, seen, seen_draft, SetSize, shadow_need, shared, State, sum_by, sum_by-cons, target, Through, Tuid, wider, with_draft, with_numbers, within, written_anew}
use Rattle.cfs_base.specs.declared.refusal.Need as needs
use Rattle.cfs_base.specs.declared.refusal.Refused.TheVariants as refusals
use Rattle.special_files.specs.Drafting.{set_in}
use Rattle.special_files.specs.Limits.{resize_calls}
use Rattle.ufs_model.specs.declared.asked.Event.TheVariants as events
use Rattle.ufs_model.specs.declared.asked.Reply.TheVariants as replies
use Rattle.ufs_model.specs.declared.object.Object.TheVariants as objects
use Rattle.cfs_core.specs.Calls.{Answers, ByOutcome, ByWant, EndsSo, IsInDoubt, Undone, done_or}
use Rattle.cfs_core.specs.Drafts.{AltersDraft, ChangesDraft, IsAltered, IsAltering, IsChangeOf, KnowsDraft, TriesThroughWith}
use Rattle.cfs_core.specs.Kernel.{Kernel, Handle, is_ready}
use Rattle.cfs_core.specs.Handles.{drafting_at, with_drafting}
use Rattle.ufs_model.specs.declared.asked.Ref.{Ref}
use Rattle.ufs_model.specs.Next.{is_direct_delete}
use Rattle.ufs_model.specs.State.{draft_of, file_seen}
use Rattle.cfs_core.specs.StandsFor.{CoreServes, bare, drafts_of_handles, free_to_come}
use Rattle.intentions.specs.Left.{StoreWith, coming, final_image}
use Rattle.cfs_core.proofs.Answering.{disk_failed, full_still, owes}
use Rattle.cfs_core.proofs.Drafted.{changed_drafts, changed_have, special, with_is}
use Rattle.cfs_core.proofs.Ended.{block, of_its_draft}
use Rattle.cfs_core.proofs.Views.{IsHeld, draft_view, open_in, has_it}
use Rattle.special_files.specs.View.{DraftView}
use Rattle.cfs_core.proofs.Few.{few_more}
use Rattle.cfs_core.proofs.Damages.{told_of_draft}
use Rattle.cfs_core.proofs.Went.{went_done}
use Rattle.cfs_core.proofs.FileChange.{IsChanging}
use Rattle.cfs_core.proofs.Readied.{ready_at, ready_for}
use Rattle.cfs_core.proofs.Reached.{written_in}
use Rattle.cfs_core.proofs.Handled.{grants_with}
use Rattle.cfs_core.proofs.Serving.{fits, running, stays}
use Rattle.cfs_core.proofs.Moved.{HasStepped, IsStepped, four_left, makes_stepped}
use Rattle.file_ops.specs.Changes.{is_resize}
use Rattle.cfs_core.specs.Claimed.{ClaimsStay, is_set_size, TakesForRequest, claims_for, claims_in_draft, is_beside, owners_of, claims_in_file, claims_through, root_reached}
use Rattle.cfs_core.proofs.Claimed.{takes_alone}
use Rattle.std.specs.Prelude.{◌&&◌, is_none}
use Rattle.std.specs.Option.{option_map_or}
use Rattle.special_files.proofs.Refusals.{damage_as}
use Rattle.special_files.specs.Committing.{FarRoots, draft_top}
use Rattle.special_files.specs.Refusal.{top_of}

-- ---- how many blocks of a draft are fresh

pub set_rises : (flags : List Bool) → numbers_rise (set_in flags) ≡ true
unfolding set_in
set_rises flags = filter-rises (λ n. get_or flags n false) (range_with_len 0 (length flags)) (numbers-rise 0 (length flags))

pub all_rise : (levels : List (List ℕ)) → ((k : ℕ) → numbers_rise (get_or levels k []) ≡ true) → list_all numbers_rise levels ≡ true
all_rise [] up = refl
all_rise (ns ∷ levels) up = rw (up 0, all_rise levels (λ k. up (suc k))) refl

no_longer : (P : ℕ → Bool) (ns : List ℕ) → length (filter P ns) ≤ length ns
no_longer P [] = omega arith
no_longer P (n ∷ ns) = elim (P n) as (λ b. length (cond b (n ∷ filter P ns) (filter P ns)) ≤ length (n ∷ ns)) [
  | true ↦ omega (arith, no_longer P ns)
  | false ↦ omega (arith, no_longer P ns)
]

within_less : (levels there : List (List ℕ)) → sum_by length (within levels there) ≤ sum_by length levels
within_less [] there = omega arith
within_less (ns ∷ levels) there =
    omega (
      arith,
      sum_by-cons {X = List ℕ} length ns levels,
      sum_by-cons {X = List ℕ} length (shared ns (first_level there)) (within levels (next_levels there)),
      no_longer (λ n. has_number n (first_level there)) ns,
      within_less levels (next_levels there),
    )

split_levels : (levels : List (List ℕ)) → sum_by length levels ≡ length (first_level levels) + sum_by length (next_levels levels)
split_levels [] = refl
split_levels (ns ∷ levels) = sum_by-cons {X = List ℕ} length ns levels

in_both : (x : ℕ) (ns ms : List ℕ) → has_number x (with_numbers ns ms) ≡ true → (has_number x ms ≡ true) ⊎ (has_number x ns ≡ true)
in_both x [] ms has = inl has
in_both x (n ∷ ns) ms has = elim (in_with x n (with_numbers ns ms) has) [
  | inl same ↦ inr (subst (λ (y : ℕ). has_number x (y ∷ ns) ≡ true) (sym same) (here x ns))
  | inr rest ↦ elim (in_both x ns ms rest) [ inl old ↦ inl old | inr new ↦ inr (later x n ns new) ]
]

-- no more than there were, and what is written anew and wasn't fresh
pub fresh_few : (anew fresh held : List (List ℕ)) → list_all numbers_rise (within (merged anew fresh) held) ≡ true → sum_by length (within (merged anew fresh) held) ≤ sum_by length fresh + missing anew fresh
fresh_few [] fresh held up = omega (arith, within_less fresh held)
fresh_few (ns ∷ anew) fresh held up =
    let level = shared (with_numbers ns (first_level fresh)) (first_level held) in
    let two = and_parts (numbers_rise level) (list_all numbers_rise (within (merged anew (next_levels fresh)) (next_levels held))) up in
    omega (
      arith,
      sum_by-cons {X = List ℕ} length level (within (merged anew (next_levels fresh)) (next_levels held)),
      split_levels fresh,
      few_more level (first_level fresh) ns (first_level fresh) two.0
          (λ x has. in_both x ns (first_level fresh) (in_filter (λ n. has_number n (first_level held)) x (with_numbers ns (first_level fresh)) has).1) (λ x has. has),
      fresh_few anew (next_levels fresh) (next_levels held) two.1,
    )

-- ---- one draft for another

pub bare_with : (who : ℕ) (t : Tuid) (d : Draft) (grants : List Grant) → map bare (with_draft who t d grants) ≡ map bare grants
bare_with who t d [] = refl
bare_with who t d (x ∷ grants) = elim (is_grant who t x) as (λ b. bare (cond b (record x { draft = Some d }) x) ∷ map bare (with_draft who t d grants) ≡ bare x ∷ map bare grants) [
  | true ↦ ap (λ gs. bare x ∷ gs) (bare_with who t d grants)
  | false ↦ ap (λ gs. bare x ∷ gs) (bare_with who t d grants)
]

-- ---- kinds

pub still_special : (c : Change) (o : Object) → is_normal o ≡ false → is_normal (changed_object c o) ≡ false
still_special (Overwrite offset bytes) (objects.File f) is = is
still_special (SetSize size) (objects.File f) is = is
still_special (Fill slot what) (objects.File f) is = is
still_special (Overwrite offset bytes) (objects.Index i) is = refl
still_special (SetSize size) (objects.Index i) is = refl
still_special (Fill slot what) (objects.Index i) is = refl

pub need_by : (s : State) (who : ℕ) (t : Tuid) (x : Grant) (d : Draft) (change : Change) → grant_of s who t ≡ Some x → x.draft ≡ Some d → is_normal d.object ≡ false
    → change_need s who (Through t) change ≡ missing (written_anew change d.object d.fresh) d.fresh
need_by s who t x d change found has normal = rw (found, has, normal) (omega arith)

-- a draft that has its shadow root takes none
pub none_needed : (was : Drafting) (n : ℕ) → was.shadow ≡ Some n → shadow_need was ≡ 0
none_needed was n is = rw is refl

-- ---- a request that changes a draft

-- what is put into the draft of a grant
pub changed_through : (s : State) (who : ℕ) (t : Tuid) (change : Change) (x : Grant) (d : Draft) → grant_of s who t ≡ Some x → x.draft ≡ Some d
    → changed s who (Through t) change ≡ record s { grants = with_draft who t (changed_draft change d) s.grants }
changed_through s who t change x d found has = put_draft-at s who t x d (changed_draft change (seen s who (Through t))) found has
    ∙ ap (λ (e : Draft). record s { grants = with_draft who t (changed_draft change e) s.grants }) (seen_draft s who t x d found has)

-- a draft isn't changed beside itself
pub not_beside : (s : State) (who : ℕ) (t : Tuid) (d : Draft) → draft_of s who (Through t) ≡ Some d → is_beside s who (Through t) ≡ false
not_beside s who t d has = ap (λ (o : Option Draft). is_none o && not (is_normal (seen s who (Through t)).object)) has

-- that of a file is one
pub file_alters : (s : State) (who : ℕ) (t : Tuid) (request : Request) (change : Change) → IsChanging request change → target request ≡ Through t → IsAltering s who t request change
file_alters s who t request change is to = record {
  memory = s.collection;
  sweeps = refl;
  outcome = λ seed b x d found has. is.outcome seed s who b ∙ ap (λ (y : State). (replies.Done, y)) (ap (λ (r : Ref). changed s who r change) to ∙ changed_through s who t change x d found has);
  need = is.need s who ∙ ap (λ (r : Ref). change_need s who r change) to;
  makes = is.makes;
  to = to;
  claims = λ handles reply d has. is.claims handles s who reply ∙ ap (λ (r : Ref). claims_through handles s who r change) to
      ∙ ap (λ (o : Option Draft). elim o [ None ↦ claims_in_file (root_reached s who (Through t)) change (file_seen s who (Through t)) | Some e ↦ option_map_or (claims_in_draft change e) (drafting_at handles t.draw) [] ]) has;
  resizes = is.sets;
  alone = λ d has. is.alone s who ∙ ap (is_beside s who) to ∙ not_beside s who t d has;
  commits_is = λ d has. is.commits_is s who ∙ ap (is_beside s who) to ∙ not_beside s who t d has;
  delete = is.delete;
  full = λ seed n. is.full seed s who n;
  speaks = is.speaks who;
}

-- ---- a grant with a draft, as the core has it

module _ {D : Type 0} (g : Ghosts D) (k : Kernel D) (s : State) (serves : CoreServes g k s) (who : ℕ) (t : Tuid) (was : Drafting) (held : IsHeld g k s who t was) where
  abbrev ds : Drafts
  ds = drafts_of_handles k.handles s.grants

  abbrev id : Puid
  id = held.handle.grant.id

  abbrev before : Draft
  before = held.before

  -- the handles where it stays as it was
  pub unchanged : (now : Drafting) → now ≡ was → with_drafting t.draw (Some now) k.handles ≡ k.handles
  unchanged now same =
      let place = held.place in
      with_is who t k.handles s.grants held.handle held.x place (Some now)
      ∙ ap (λ (w : Option Drafting). place.ss1 ++ record { grant = held.handle.grant; drafting = w } ∷ place.ss2) (ap (λ (w : Drafting). Some w) same ∙ sym held.drafting)
      ∙ sym place.handles_are

  -- ---- it is changed

  module _ (ready : list_all (is_ready k.directory.room) k.handles ≡ true) (change : Change) (request : Request) (is : IsAltering s who t request change) (of_it : IsChangeOf change before.object) (goes : refusal_of s who request ≡ None) where
    abbrev d : Draft
    d = changed_draft change before

    abbrev after : State
    after = record s { grants = with_draft who t d s.grants; collection = is.memory }

    abbrev view : DraftView g k.disk k.space was
    view = draft_view g k s serves who t was held

    abbrev knows : KnowsDraft g change k.disk k.space was
    knows = record { view = view; shadow = (ready_for k.directory.room was (ready_at k.directory.room t.draw k.handles ready was held.at)).shadow; of_it = of_it }

    not_normal : is_normal before.object ≡ false
    not_normal = special who t k.handles s.grants held.handle held.x held.place serves.drafts was before held.drafting held.draft_was

    need_is : need_of s who request ≡ missing (written_anew change before.object before.fresh) before.fresh
    need_is = is.need ∙ need_by s who t held.x before change held.found held.draft_was not_normal

    beside_is : need_beside change before was ≡ need_of s who request
    beside_is =
        omega (arith, none_needed was knows.shadow.0 knows.shadow.1, need_is)

    legal : k.stop ≡ None → next k.words.seed s (events.Ask who request replies.Done) ≡ Some after
    legal none = subst (λ (p : Reply × State). next k.words.seed s (events.Ask who request p.0) ≡ Some p.1) (is.outcome k.words.seed 0 held.x before held.found held.draft_was)
        (outcome_legal k.words.seed s who request 0 (running g k s serves none) goes (λ made. let no : true ≡ false = sym made ∙ is.makes in cc))

    takes : (disk : D) → ClaimsStay (is_resize change) (claims_in_draft change before was) (id.block ∷ []) (g.content k.disk) (g.content disk) → TakesForRequest k.handles s who request replies.Done (g.content k.disk) (g.content disk)
    takes disk order =
        let here : held.x.id ≡ id = sym (ap (λ e. e.id) held.place.here) in
        let claims : claims_for k.handles s who request replies.Done ≡ claims_in_draft change before was =
        is.claims k.handles replies.Done before (has_it held) ∙ ap (λ o. option_map_or (claims_in_draft change before) o []) held.at in
        let owners : owners_of s who request replies.Done ≡ id.block ∷ [] = rw (is.makes, is.to, held.found) (ap (λ (x : Puid). x.block ∷ []) here) in
        takes_alone k.handles s who request replies.Done (g.content k.disk) (g.content disk) (is.alone before (has_it held)) (subst (λ (cs : List MapEntry). ClaimsStay (is_set_size request) cs (owners_of s who request replies.Done) (g.content k.disk) (g.content disk)) (sym claims)
        (subst (λ (ns : List ℕ). ClaimsStay (is_set_size request) (claims_in_draft change before was) ns (g.content k.disk) (g.content disk)) (sym owners) (subst (λ (b : Bool). ClaimsStay b (claims_in_draft change before was) (id.block ∷ []) (g.content k.disk) (g.content disk)) (sym is.resizes) order)))

    module _ (now : Drafting) (disk : D) (space : Kept) where
      abbrev new : Kernel D
      new = record k { disk = disk; space = space; handles = with_drafting t.draw (Some now) k.handles }

      abbrev it : Opened
      it = opened_as now d

      abbrev es : Drafts
      es = with_opened id it ds

      abbrev T : Option MapEntry → Bool
      T entry = of_draft id.block entry

      stepped : IsStepped k new s after s.graph
      stepped = record {
        graph = refl;
        rooted = refl;
        stopped = refl;
        sweeping = is.sweeps;
        drawn = serves.front.drawn;
        named = serves.front.directory;
        root = refl;
        stop = refl;
        table = grants_with t.draw (Some now) k.handles ∙ serves.front.grants ∙ sym (bare_with who t d s.grants);
      }

      module _ (done : IsAltered view change disk space now) (left_same : space.left ≡ k.space.left) (shadow : now.shadow ≡ was.shadow) (created : now.created ≡ was.created) where
        -- nothing is left, so the content is what is to come
        nothing : space.left ≡ None
        nothing = left_same ∙ serves.left

        end_is : final_image g disk space ≡ g.content disk
        end_is = ap (coming (g.content disk)) nothing

        has : HasStepped g None k new s s.graph T es
        has = record { store = subst (StoreWith g s.graph es disk space) (sym nothing) done.becomes.steps.store; only = subst (ChangesOnly T (g.content k.disk)) (sym end_is) done.becomes.steps.only; these = of_its_draft s.graph id (block g k s serves who t was held) }

        rising : list_all numbers_rise d.fresh ≡ true
        rising = all_rise d.fresh (λ n. ap numbers_rise (done.becomes.is_open.fresh n) ∙ level n)
          where
            level : (n : ℕ) → numbers_rise (get_or (fresh_of now) n []) ≡ true
            level zero = set_rises now.leaves
            level (suc zero) = set_rises now.nodes
            level (suc (suc n)) = refl

        few : blocks_taken s.graph es ≤ blocks_taken s.graph ds + need_of s who request
        few = omega (
          arith,
          taken_with s.graph ds id held.object (Some it) serves.store.ordered held.there,
          ap draft_blocks_if (open_in g k s serves who t was held).alone,
          fresh_few (written_anew change before.object before.fresh) before.fresh (held_levels (changed_object change before.object)) rising,
          ap (λ (n : Option ℕ). length (option_to_list n)) shadow,
          ap (λ (n : Option ℕ). length (option_to_list n)) created,
          need_is,
        )

        four : 4 ≤ free_to_come g new
        four = four_left g k new s after s.graph serves T es has (need_of s who request) few (omega (arith, done.room, beside_is))

        pub altered : ((c : D) (n : ℕ) (i : Image) → g.left_since c n i → length i ≡ g.blocks c) → length (g.content k.disk) ≡ g.blocks disk → k.stop ≡ None → Leaves g k.disk disk (λ c. Holds c s.graph) → Answers g None k new s who request replies.Done
        altered left_sized wide none leaves = record {
          event = makes_stepped g k new s after s.graph serves T es has stepped (next_keeps k.words.seed s after (events.Ask who request replies.Done) serves.state is.speaks (legal none))
              (changed_drafts who t k.handles s.grants held.handle held.x held.place serves.drafts was before held.drafting held.draft_was serves.state.alone now d)
              (changed_have who t k.handles s.grants held.handle held.x held.place serves.drafts was before held.drafting held.draft_was serves.state.alone now d
              (record { is_open = done.becomes.is_open; writes = written_in g k s serves who t was held; special = still_special change before.object not_normal })) four
              left_sized wide (events.Ask who request replies.Done) (legal none) refl leaves;
          still = λ all. let no : true ≡ false = sym all in cc;
          full = λ full. let no : false ≡ true = full in cc;
          taken = λ _. subst (TakesForRequest k.handles s who request replies.Done (g.content k.disk)) (sym end_is) (takes disk done.order);
          noted = λ done some. let no : true ≡ false = sym some ∙ is.commits_is before (has_it held) in cc;
          owed = owes k.words.seed s who request (g.content k.disk) (sum k.space.free) replies.Done tt (ByOutcome goes (record {
            block = 0;
            least = λ made. let no : true ≡ false = sym made ∙ is.makes in cc;
            reply_is = sym (ap (λ (p : Reply × State). p.0) (is.outcome k.words.seed 0 held.x before held.found held.draft_was));
            room = λ short. omega (arith, short.few, done.room, beside_is);
          }));
        }

      as_it_was : (space ≡ k.space) → now ≡ was → new ≡ record k { disk = disk }
      as_it_was same before_it = ap (λ (y : Kept). record k { disk = disk; space = y; handles = with_drafting t.draw (Some now) k.handles }) same ∙ ap (λ (ss : List Handle). record k { disk = disk; handles = ss }) (unchanged now before_it)

      module _ (left_sized : (c : D) (n : ℕ) (i : Image) → g.left_since c n i → length i ≡ g.blocks c) (sized : (c : D) → IsTrue (g.honest c) → length (g.content c) ≡ g.blocks c) (none : k.stop ≡ None)
          (result : Result (Unit {0}) Refused) (changes : ChangesDraft g change k.disk disk k.space space was now result) where
        alters : AltersDraft view change disk space now result
        alters = changes.alters knows

        wide : length (g.content k.disk) ≡ g.blocks disk
        wide = sized k.disk serves.store.carries.tells.honest ∙ sym changes.calls.same.size

        full : (n : needs.Need) → refusals.Full n ≡ refusals.Full (record { free = sum k.space.free; need = need_beside change before was }) → sum k.space.free < need_beside change before was + 4
            → OnlyReads g resize_calls k.disk disk → space ≡ k.space → now ≡ was → Answers g None k new s who request (replies.Full n)
        full n told short reads same before_it =
            let is_need : n ≡ record { free = sum k.space.free; need = need_beside change before was } = cc in
            let need_so : n.need ≡ need_of s who request = ap (λ (y : needs.Need). y.need) is_need ∙ beside_is in
            let free_so : n.free ≡ sum k.space.free = ap (λ (y : needs.Need). y.free) is_need in
            record {
              event = stays g resize_calls k new reads (as_it_was same before_it) s serves left_sized (sized k.disk serves.store.carries.tells.honest) (events.Ask who request (replies.Full n))
                  (is.full k.words.seed n (running g k s serves none) goes need_so (omega (arith, short, need_so, free_so, beside_is)));
              still = λ all. let no : false ≡ true = all in cc;
              full = λ _. full_still g left_sized sized resize_calls k new reads (as_it_was same before_it) s who serves none refl;
              taken = λ done. let no : false ≡ true = done in cc;
              noted = λ done. let no : false ≡ true = done in cc;
              owed = ByWant goes (record { delete = is.delete; few = omega (arith, short, beside_is) })
                  (ap (λ (y : needs.Need). replies.Full y) is_need ∙ ap (λ (y : ℕ). replies.Full (record { free = sum k.space.free; need = y })) beside_is);
            }

        doubtful : IsInDoubt g k new s who request
        doubtful = record {
          allowed = goes;
          drawn = refl;
          named = refl;
          grants = grants_with t.draw (Some now) k.handles;
          leaves = wider g k.disk disk _ _ alters.goes.leaves (λ c holds. record { graph = s.graph; may = Undone; fits = fits g k s serves (g.blocks disk) wide; holds = holds });
        }

        did : (r : Result (Unit {0}) Refused) → r ≡ result → EndsSo g None k new s who request (done_or r)
        did (Ok u) same = altered (rw (← same) at alters.goes.done) changes.left changes.stays.shadow changes.stays.created left_sized wide none alters.goes.leaves
        did (Err (refusals.Full n)) same =
            let told = (rw (← same) at alters.full) refl in
            let spared = (rw (← same) at changes.spared) refl in
            full n told.0 told.1 spared.0 spared.1 spared.2
        did (Err (refusals.Disk false)) same = (let two = (rw (← same) at changes.untried) refl in disk_failed g left_sized sized resize_calls k new two.0 (as_it_was two.1 two.2) s who serves none request)
        did (Err (refusals.Disk true)) same = doubtful
        did (Err (refusals.Damaged damage)) same = let no : true ≡ false = rw (← same) at alters.goes.sound in cc
        did (Err refusals.Memory) same = absurd (rw (← same) at changes.refused)

        pub ends_so : EndsSo g None k new s who request (done_or result)
        ends_so = did result refl

-- the whole call, of a grant that has a draft
module _ {D : Type 0} (g : Ghosts D) (left_sized : (d : D) (t : ℕ) (c : Image) → g.left_since d t c → length c ≡ g.blocks d) (sized : (d : D) → IsTrue (g.honest d) → length (g.content d) ≡ g.blocks d)
    (k : Kernel D) (ready : list_all (is_ready k.directory.room) k.handles ≡ true) (who : ℕ) (t : Tuid) (was : Drafting) (drafting : drafting_at k.handles t.draw ≡ Some was) (the : (s : State) → CoreServes g k s → IsHeld g k s who t was)
    (change : Change) (request : Request) (delete : is_direct_delete request ≡ false) (now : Drafting) (disk : D) (space : Kept) (result : Result (Unit {0}) Refused) (changes : ChangesDraft g change k.disk disk k.space space was now result) where
  pub altered_through : TriesThroughWith g None k (record k { disk = disk; space = space; handles = with_drafting t.draw (Some now) k.handles }) who t change request (done_or result)
  altered_through = record {
    ends = λ s serves none so.
        let held = the s serves in
        ends_so g k s serves who t was held ready change request so.alters (so.of_it held.before (has_it held)) so.goes now disk space left_sized sized none result changes;
    went = went_done g k disk space (with_drafting t.draw (Some now) k.handles) changes.calls.same.size changes.calls.faults changes.calls.later request result (λ tried is. rw is at changes.refused)
        (λ damage met. told_of_draft g k (record k { disk = disk; space = space; handles = with_drafting t.draw (Some now) k.handles }) (Some request) was.at (inr (inl (t.draw, was, drafting, refl))) damage changes.calls.same.size t.draw was drafting refl
        (damage_as g (top_of was) (draft_top was) refl k.disk disk space (λ far. FarRoots (inr far)) damage (rw met at changes.refused)))
        (λ need want. let why = rw want at changes.refused in let kept = ((rw want at changes.spared) refl).1 in (delete, why.0 ∙ ap (λ (x : Kept). sum x.free) kept, why.1));
  }
