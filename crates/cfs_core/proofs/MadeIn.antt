-- An object made in a draft of an index: it is in the graph at once, and its identifier in a slot of the draft.
use Rattle.std.proofs.Common.{◌≡◌, ◌≢◌, ◌⊎◌, inl, inr, ℕ, zero, suc, ◌+◌, ◌/◌, ◌<◌, ◌≤◌, List, [], ◌∷◌, length, get_or, Bool, true, false, ◌||◌, Option, Some, None, Result, Ok, Err, IsTrue, refl, sym, ◌∙◌, ap, subst, arith, sum, option_to_list, map, ⊎_elim, IfErr}
use Rattle.cfs_base.proofs.Went.{reads_none}
use Rattle.cfs_core.proofs.Words.{blocks_of, blocks_taken, cases_lt, changed_draft, changed_object, ChangesOnly, created, Draft, Drafting, edge_stays, Fill, fresh_of, Ghosts, Graph, has_block-still, held_levels, Holds, Image, Index, insert_entry, IsLeastFree, IsOfThese, Kept, word, true≢false, Drafts, with_opened, draft_blocks_if, taken_more, taken_with, differs}
use Rattle.cfs_core.proofs.Words.{Kind, kinds_in-insert_entry, kinds_of, list_all, MapEntry, missing, named, need_of, numbers_rise, Object, object_kind, of_draft, of_owner, Opened, opened_as, or_cases, owner_of, Puid, puid_cmp, put, put_draft-at, Refused, Reply, Request, seen, seen_draft, State, sum_is, wider, target, Through, Tuid, with_draft, with_object, written_anew}
use Rattle.cfs_base.specs.declared.refusal.Refused.TheVariants as refusals
use Rattle.index_drafts.specs.Creates.{CreateCall, CreateEnds, CreatesIn, CreatesInDraft, new_root_entry}
use Rattle.intentions.specs.Left.{StoreWith, coming, final_image}
use Rattle.special_files.specs.Order.{leaf_claims}
use Rattle.ufs_model.specs.Need.{change_need, is_normal}
use Rattle.cfs_core.specs.Calls.{Answers, ByWant, EndsSo, IsInDoubt, IsWant}
use Rattle.cfs_core.specs.Claimed.{ClaimsStay, is_set_size, TakesForRequest, claims_for, claims_for_slot, commits_alone, is_beside, made_entry, owners_of}
use Rattle.cfs_core.proofs.Changed.{of_this}
use Rattle.cfs_core.proofs.Claimed.{claims_all, takes_alone}
use Rattle.index_drafts.specs.Puts.{IndexView, slot_need}
use Rattle.special_files.specs.Creates.{IsOpenMap, made_of}
use Rattle.special_files.specs.Committing.{FarRoots, draft_top, puid_at}
use Rattle.special_files.specs.Refusal.{IsDraftRefusal, has_met_damage, is_full_refusal, top_of}
use Rattle.ufs_model.specs.declared.asked.Event.TheVariants as events
use Rattle.cfs_base.specs.declared.refusal.Damage.{Damage}
use Rattle.cfs_base.specs.declared.refusal.Need.{Need}
use Rattle.cfs_base.specs.Calls.{HasStopped, OnlyReads}
use Rattle.special_files.specs.Drafting.{draft_takes}
use Rattle.ufs_model.specs.declared.asked.Reply.TheVariants as replies
use Rattle.ufs_model.specs.declared.object.Object.TheVariants as objects
use Rattle.ufs_model.specs.Outcome.{with_edge}
use Rattle.cfs_core.specs.Drafts.{MakesSo, TriesMakingWith}
use Rattle.cfs_core.specs.Kernel.{Kernel, Handle}
use Rattle.cfs_core.specs.Handles.{drafting_at, with_drafting}
use Rattle.cfs_core.specs.Makes.{IsMaking, NamesMade}
use Rattle.cfs_core.specs.Damage.{IsDamageTold, OpenMap}
use Rattle.cfs_core.specs.StandsFor.{CoreServes, drafts_of_handles, free_to_come, sweeps_now}
use Rattle.cfs_core.proofs.Altered.{all_rise, bare_with, fresh_few, need_by, not_beside, set_rises, still_special, unchanged}
use Rattle.cfs_core.proofs.Answering.{disk_failed, full_still}
use Rattle.cfs_core.proofs.Committed.{IsOutcome, LeavesThese, did_with, doubtful, uncut}
use Rattle.cfs_core.proofs.Damages.{told_of_draft}
use Rattle.cfs_core.proofs.Placed.{if_astray, one_block, root_is}
use Rattle.cfs_core.proofs.Serving.{running, stays}
use Rattle.cfs_core.proofs.Went.{cause_of, causes_met, went_so}
use Rattle.special_files.proofs.Refusals.{damage_as}
use Rattle.cfs_core.proofs.Created.{least_one, least_there, more_sum, free_root, inside, other_than_new, new_undrafted, no_root, not_zero}
use Rattle.cfs_core.proofs.Drafted.{changed_drafts, changed_have, special}
use Rattle.cfs_core.proofs.Ended.{block, of_its_draft}
use Rattle.cfs_core.proofs.Views.{IsHeld, draft_view, open_in, has_it}
use Rattle.cfs_core.proofs.Handled.{grants_with}
use Rattle.cfs_core.proofs.Moved.{HasStepped, IsStepped, four_left}
use Rattle.cfs_core.proofs.Reached.{written_in}
use Rattle.vol_owners.proofs.Drafts.{with_others}

-- ---- what a call is refused for

err_is : (r : Result Puid Refused) (e f : Refused) → r ≡ Err e → r ≡ Err f → e ≡ f
err_is (Ok p) e f is same = cc
err_is (Err x) e f is same = cc

never_memory : {D : Type 0} (g : Ghosts D) (was : Drafting) (old new : D) (before after : Kept) → (IsDraftRefusal g (top_of was) 4 old new after refusals.Memory ⊎ IsOpenMap g old before refusals.Memory) → ⊥
never_memory g was old new before after (inl none) = none
never_memory g was old new before after (inr map) = let no = map.is in cc

pub unmade_never : {D : Type 0} (g : Ghosts D) (was : Drafting) (old new : D) (before after : Kept) (e : Refused) → (IsDraftRefusal g (top_of was) 4 old new after e ⊎ IsOpenMap g old before e) → ◌≢◌ {A = Result Reply Refused} (Err e) (Err refusals.Memory)
unmade_never g was old new before after e why = λ is. (let same : e ≡ refusals.Memory = cc in never_memory g was old new before after (subst (λ (x : Refused). IsDraftRefusal g (top_of was) 4 old new after x ⊎ IsOpenMap g old before x) same why))

-- it was refused for nothing but a failed call of the disk
failed : {D : Type 0} (g : Ghosts D) (old new : Kernel D) (s : State) (who : ℕ) (request : Request) (e : Refused) → IsInDoubt g old new s who request → is_full_refusal e ≡ false → (e ≡ refusals.Disk false → Answers g None old new s who request (replies.Disk None)) → e ≢ refusals.Memory → has_met_damage e ≡ false
    → EndsSo g None old new s who request (Err e)
failed g old new s who request (refusals.Full need) doubt spare still never sound = absurd (true≢false spare)
failed g old new s who request (refusals.Disk false) doubt spare still never sound = still refl
failed g old new s who request (refusals.Disk true) doubt spare still never sound = doubt
failed g old new s who request (refusals.Damaged damage) doubt spare still never sound = absurd (true≢false sound)
failed g old new s who request refusals.Memory doubt spare still never sound = absurd (never refl)

-- ---- the call as the core has it

-- Of a state that the core serves; the parts are those of Created, but that the draft takes the slot.
module _ {D : Type 0} (g : Ghosts D) (k : Kernel D) (s : State) (serves : CoreServes g k s) (who : ℕ) (t : Tuid) (was : Drafting) (held : IsHeld g k s who t was) (slot : ℕ) (o : Object) (one : blocks_of o ≡ 1) (request : Request) (making : IsMaking request slot o)
    (so : MakesSo s who t request) where
  -- the index, and what the store is handed
  abbrev two : (i : Index) × (held.before.object ≡ objects.Index i)
  two = so.index held.before (has_it held)

  abbrev view : IndexView g k.disk k.space was
  view = record {
    view = draft_view g k s serves who t was held;
    index = two.0;
    is = two.1;
  }

  not_normal : is_normal held.before.object ≡ false
  not_normal = special who t k.handles s.grants held.handle held.x held.place serves.drafts was held.before held.drafting held.draft_was

  need_is : need_of s who request ≡ 1 + missing (written_anew (Fill slot None) held.before.object held.before.fresh) held.before.fresh
  need_is = making.need s who ∙ ap (λ r. 1 + change_need s who r (Fill slot None)) so.to ∙ ap (λ (n : ℕ). 1 + n) (need_by s who t held.x held.before (Fill slot None) held.found held.draft_was not_normal)

  -- with the new object's block
  module _ (b : ℕ) (least : IsLeastFree (g.content k.disk) b) where
    abbrev id : Puid
    id = record { block = b; word = word k.words.seed (s.drawn + 1) }

    -- the draft with the identifier in the slot, and the state then
    abbrev d : Draft
    d = changed_draft (Fill slot (Some id)) held.before

    abbrev h : Graph
    h = with_object s.graph id o

    abbrev more : State
    more = record s { graph = h; drawn = s.drawn + 1 }

    abbrev after : State
    after = record more { grants = with_draft who t d s.grants; collection = with_edge (named s who (Through t)) id s.collection }

    filled_is : put more who (Through t) (changed_draft (Fill slot (Some id)) (seen s who (Through t))) ≡ record more { grants = with_draft who t d s.grants }
    filled_is = put_draft-at more who t held.x held.before (changed_draft (Fill slot (Some id)) (seen s who (Through t))) held.found held.draft_was
        ∙ ap (λ (e : Draft). record more { grants = with_draft who t (changed_draft (Fill slot (Some id)) e) s.grants }) (seen_draft s who t held.x held.before held.found held.draft_was)

    -- the outcome of the definitions
    out_is : (created k.words.seed s who (target request) slot o b) ≡ (replies.Id id, after)
    out_is = ap (λ r. created k.words.seed s who r slot o b) so.to ∙ ap (λ (y : State). (replies.Id id, record y { collection = with_edge (named s who (Through t)) id s.collection })) filled_is

    directory_is : insert_entry puid_cmp k.directory.named id (object_kind o) ≡ kinds_of h
    directory_is = ap (λ names. insert_entry puid_cmp names id (object_kind o)) serves.front.directory ∙ sym (kinds_in-insert_entry s.graph.objects id o)

    module _ (takes_is : draft_takes was (slot / 64) ≡ slot_need slot held.before) (room : 1 + draft_takes was (slot / 64) + 4 ≤ sum k.space.free) where
      pub outcome : IsOutcome k s who b request (replies.Id id) after h 1
      outcome = record {
        allowed = so.goes;
        names = λ _. free_root g k s serves b least;
        speaks = making.speaks who (replies.Id id);
        out = making.outcome k.words.seed s who b ∙ out_is;
        graph = refl;
        few = omega (arith, more_sum id o s.graph.objects, one);
        free = omega (arith, room);
      }

      module _ (now : Drafting) (disk : D) (space : Kept) (created_is : CreatesInDraft view slot o disk space now id) (left : space.left ≡ k.space.left) (shadow : now.shadow ≡ was.shadow) (made : now.created ≡ was.created) where
        abbrev new : Kernel D
        new = record k {
          disk = disk;
          space = space;
          handles = with_drafting t.draw (Some now) k.handles;
          directory = record { named = insert_entry puid_cmp k.directory.named id (object_kind o); room = k.directory.room };
          words = record { seed = k.words.seed; drawn = k.words.drawn + 1 };
        }

        abbrev index_id : Puid
        index_id = held.handle.grant.id

        abbrev it : Opened
        it = opened_as now d

        abbrev ds : Drafts
        ds = drafts_of_handles k.handles s.grants

        abbrev es : Drafts
        es = with_opened index_id it ds

        abbrev T : Option MapEntry → Bool
        T entry = of_owner b entry || of_draft index_id.block entry

        stepped : IsStepped k new s after h
        stepped = record {
          graph = refl;
          rooted = refl;
          stopped = refl;
          sweeping = edge_stays sweeps_now (λ a b c d. refl) (named s who (Through t)) id s.collection;
          drawn = ap (λ (n : ℕ). n + 1) serves.front.drawn;
          named = directory_is;
          root = refl;
          stop = refl;
          table = grants_with t.draw (Some now) k.handles ∙ serves.front.grants ∙ sym (bare_with who t d s.grants);
        }

        nothing : space.left ≡ None
        nothing = left ∙ serves.left

        end_is : final_image g disk space ≡ g.content disk
        end_is = ap (coming (g.content disk)) nothing

        theirs : IsOfThese T s.graph h
        theirs = record {
          there = λ entry is made. elim (or_cases (of_owner b entry) (of_draft index_id.block entry) is) [
            | inl new_one ↦ (of_this s.graph id o).there entry new_one made
            | inr drafted ↦ has_block-still (owner_of entry) id o s.graph.objects ((of_its_draft s.graph index_id (block g k s serves who t was held)).there entry drafted made)
          ];
          more = λ r has. has_block-still r id o s.graph.objects has;
        }

        has : HasStepped g None k new s h T es
        has = record { store = subst (StoreWith g h es disk space) (sym nothing) created_is.store; only = subst (ChangesOnly T (g.content k.disk)) (sym end_is) created_is.only; these = theirs }

        rising : list_all numbers_rise d.fresh ≡ true
        rising = all_rise d.fresh (λ n. ap numbers_rise (created_is.is_open.fresh n) ∙ level n)
          where
            level : (n : ℕ) → numbers_rise (get_or (fresh_of now) n []) ≡ true
            level zero = set_rises now.leaves
            level (suc zero) = set_rises now.nodes
            level (suc (suc n)) = refl

        few : blocks_taken h es ≤ blocks_taken s.graph ds + (1 + missing (written_anew (Fill slot None) held.before.object held.before.fresh) held.before.fresh)
        few = omega (
          arith,
          more_sum id o s.graph.objects,
          one,
          taken_with s.graph ds index_id held.object (Some it) serves.store.ordered held.there,
          ap draft_blocks_if (open_in g k s serves who t was held).alone,
          taken_more s.graph es id o (with_others index_id (Some it) ds id (differs index_id id (other_than_new g k s serves b least id.word index_id (block g k s serves who t was held))) ∙ new_undrafted g k s serves b least id.word),
          fresh_few (written_anew (Fill slot (Some id)) held.before.object held.before.fresh) held.before.fresh (held_levels (changed_object (Fill slot (Some id)) held.before.object)) rising,
          ap (λ (n : Option ℕ). length (option_to_list n)) shadow,
          ap (λ (n : Option ℕ). length (option_to_list n)) made,
        )

        four : 4 ≤ free_to_come g new
        four = four_left g k new s after h serves T es has (1 + missing (written_anew (Fill slot None) held.before.object held.before.fresh) held.before.fresh) few (omega (arith, room, takes_is))

        takes : TakesForRequest k.handles s who request (replies.Id id) (g.content k.disk) (g.content disk)
        takes =
            let claims : claims_for k.handles s who request (replies.Id id) ≡ new_root_entry b ∷ leaf_claims was.at was.leaves was.nodes (slot / 64) =
            making.claims k.handles s who (replies.Id id) ∙ ap (λ r. made_entry s who r (replies.Id id) ∷ claims_for_slot k.handles s who r slot) so.to ∙ rw (has_it held, held.at, claims_for_slot) refl in
            let alone : commits_alone s who request ≡ false = making.alone s who ∙ ap (is_beside s who) so.to ∙ not_beside s who t held.before (has_it held) in
            takes_alone k.handles s who request (replies.Id id) (g.content k.disk) (g.content disk) alone
            (subst (λ (cs : List MapEntry). ClaimsStay (is_set_size request) cs (owners_of s who request (replies.Id id)) (g.content k.disk) (g.content disk)) (sym claims)
            (claims_all (new_root_entry b ∷ leaf_claims was.at was.leaves was.nodes (slot / 64)) (owners_of s who request (replies.Id id)) (g.content k.disk) (g.content disk) created_is.order))

        module _ (left_sized : (c : D) (n : ℕ) (i : Image) → g.left_since c n i → length i ≡ g.blocks c) (sized : (c : D) → IsTrue (g.honest c) → length (g.content c) ≡ g.blocks c) (none : k.stop ≡ None) (size : g.blocks disk ≡ g.blocks k.disk)
            (leaves : LeavesThese g k.disk disk s who request (replies.Id id) h) where
          pub made_answers : Answers g None k new s who request (replies.Id id)
          made_answers = did_with g left_sized sized k new size none s after who b request (replies.Id id) serves h 1 outcome leaves stepped T es has
              (changed_drafts who t k.handles s.grants held.handle held.x held.place serves.drafts was held.before held.drafting held.draft_was serves.state.alone now d)
              (changed_have who t k.handles s.grants held.handle held.x held.place serves.drafts was held.before held.drafting held.draft_was serves.state.alone now d
              (record { is_open = created_is.is_open; writes = written_in g k s serves who t was held; special = still_special (Fill slot (Some id)) held.before.object not_normal }))
              four tt refl (λ short. omega (arith, short.few, room, takes_is, need_is)) (λ _. least) (subst (TakesForRequest k.handles s who request (replies.Id id) (g.content k.disk)) (sym end_is) takes)
              (λ some. let no : true ≡ false = sym some ∙ making.commits_is s who ∙ ap (is_beside s who) so.to ∙ not_beside s who t held.before (has_it held) in cc)

  -- ---- how the call ends

  module _ (left_sized : (c : D) (n : ℕ) (i : Image) → g.left_since c n i → length i ≡ g.blocks c) (sized : (c : D) → IsTrue (g.honest c) → length (g.content c) ≡ g.blocks c) (none : k.stop ≡ None) (room : k.directory.room ≡ g.blocks k.disk)
      (w : ℕ) (word_is : w ≡ word k.words.seed (k.words.drawn + 1)) (now : Drafting) (disk : D) (space : Kept) (r : Result Puid Refused) (ends : CreateEnds view slot o w disk space now r) (takes_is : draft_takes was (slot / 64) ≡ slot_need slot held.before)
      (call : CreateCall g slot 4 k.disk disk k.space space was now r) where
    abbrev unnamed : Kernel D
    unnamed = record k { disk = disk; space = space; handles = with_drafting t.draw (Some now) k.handles }

    abbrev id_at : ℕ → Puid
    id_at b = record { block = b; word = word k.words.seed (s.drawn + 1) }

    word_drawn : w ≡ word k.words.seed (s.drawn + 1)
    word_drawn = word_is ∙ ap (λ n. word k.words.seed (n + 1)) (sym serves.front.drawn)

    leaves_at : (b : ℕ) → IsLeastFree (g.content k.disk) b → LeavesThese g k.disk disk s who request (replies.Id (id_at b)) (with_object s.graph (id_at b) o)
    leaves_at b least = uncut g k.disk disk s who request (replies.Id (id_at b)) _ (wider g k.disk disk _ _ ends.leaves (λ c p. ⊎_elim inl (λ t. inr
        (subst (λ (q : Puid). Holds c (with_object s.graph q o)) (ap (λ n. puid_at n w) (least_one (g.content k.disk) t.0 b t.1 least) ∙ ap (λ n. puid_at b n) word_drawn) t.2)) p))

    enough_of : (id : Puid) → r ≡ Ok id → 1 + draft_takes was (slot / 64) + 4 ≤ sum k.space.free
    enough_of id is = elim (cases_lt (sum k.space.free) (1 + draft_takes was (slot / 64) + 4)) [
      | inl few ↦ (let no = sym (call.full.full few).0 ∙ is in cc)
      | inr enough ↦ enough
    ]

    pub made : (id : Puid) → r ≡ Ok id → (new : Kernel D) (result : Result Reply Refused) → NamesMade unnamed new id (object_kind o) result → EndsSo g None k new s who request result
    made id is new result names =
        let enough = enough_of id is in
        let done = rw is at ends.done in
        let b = id.block in
        let least = done.1.least in
        let same : id_at b ≡ id = ap (λ n. puid_at b n) (sym word_drawn ∙ sym done.0) in
        let there = inside g k s serves b least in
        let named_so = names.named (not_zero g k s serves b least) (omega (arith, there, room, sized k.disk serves.store.carries.tells.honest)) (root_is k.directory.named s.graph b serves.front.directory ∙ no_root g k s serves b least) in
        let answers = made_answers b least takes_is enough now disk space (subst (CreatesInDraft view slot o disk space now) (sym same) done.1) call.left call.stays.shadow call.stays.created left_sized sized none call.calls.same.size (leaves_at b least) in
        subst (EndsSo g None k new s who request) (sym named_so.0)
        (subst (λ (x : Kernel D). Answers g None k x s who request (replies.Id id)) (sym named_so.1)
        (subst (λ (q : Puid). Answers g None k (kernel_with q) s who request (replies.Id q)) same answers))
      where
        kernel_with : Puid → Kernel D
        kernel_with q = record unnamed {
          directory = record { named = insert_entry puid_cmp k.directory.named q (object_kind o); room = k.directory.room };
          words = record { seed = k.words.seed; drawn = k.words.drawn + 1 };
        }

    -- it isn't made: the draft may have changed, but not the objects
    doubt : 1 + draft_takes was (slot / 64) + 4 ≤ sum k.space.free → IsInDoubt g k unnamed s who request
    doubt enough =
        let some = least_there (g.content k.disk) (length (g.content k.disk)) 0 (λ m below. absurd (omega (arith, below))) (omega (arith, enough, sum_is (g.content k.disk) k.space serves.store.counts)) in
        doubtful g left_sized sized k unnamed call.calls.same.size none s (after some.0 some.1) who some.0 request (replies.Id (id_at some.0)) serves (with_object s.graph (id_at some.0) o) 1
        (outcome some.0 some.1 takes_is enough) (leaves_at some.0 some.1) refl refl (grants_with t.draw (Some now) k.handles)

    as_it_was : (space ≡ k.space) → now ≡ was → unnamed ≡ record k { disk = disk }
    as_it_was same before_it = ap (λ (y : Kept). record k { disk = disk; space = y; handles = with_drafting t.draw (Some now) k.handles }) same ∙ ap (λ (ss : List Handle). record k { disk = disk; handles = ss }) (unchanged g k s serves who t was held now before_it)

    short : (sum k.space.free < 1 + draft_takes was (slot / 64) + 4) → EndsSo g None k unnamed s who request (Err (refusals.Full (record { free = sum k.space.free; need = 1 + draft_takes was (slot / 64) })))
    short less =
        let all = call.full.full less in
        let n : Need = record { free = sum k.space.free; need = 1 + draft_takes was (slot / 64) } in
        let need_so : n.need ≡ need_of s who request = ap (λ (m : ℕ). 1 + m) takes_is ∙ sym need_is in
        let reads : OnlyReads g 0 k.disk disk = subst (λ x. OnlyReads g 0 k.disk x) (sym all.1) (reads_none g 0 k.disk) in
        record {
          event = stays g 0 k unnamed reads (as_it_was all.2 all.3) s serves left_sized (sized k.disk serves.store.carries.tells.honest) (events.Ask who request (replies.Full n))
              (making.full k.words.seed s who n (running g k s serves none) so.goes need_so less);
          still = λ all. let no : false ≡ true = all in cc;
          full = λ full. full_still g left_sized sized 0 k unnamed reads (as_it_was all.2 all.3) s who serves none refl;
          taken = λ done. let no : false ≡ true = done in cc;
          noted = λ done. let no : false ≡ true = done in cc;
          owed = ByWant so.goes (record { delete = making.delete; few = omega (arith, less, need_so) }) (ap (λ (m : ℕ). replies.Full (record { free = sum k.space.free; need = m })) need_so);
        }

    pub unmade : (e : Refused) → r ≡ Err e → EndsSo g None k unnamed s who request (Err e)
    unmade e is = ⊎_elim
        (λ less. subst (λ (x : Refused). EndsSo g None k unnamed s who request (Err x)) (err_is r _ e (call.full.full less).0 is) (short less))
        (λ enough. failed g k unnamed s who request e (doubt enough)
        (subst (λ (x : Result Puid Refused). IfErr x (λ f. is_full_refusal f ≡ false)) is (call.full.spare enough))
        (λ same. let three = (subst (λ (x : Result Puid Refused). IfErr x (λ f. f ≡ refusals.Disk false → (now ≡ was) × (space ≡ k.space) × OnlyReads g 5 k.disk disk)) is call.untried) same in
        disk_failed g left_sized sized 5 k unnamed three.2 (as_it_was three.1 three.0) s who serves none request)
        (λ same. never_memory g was k.disk disk k.space space (subst (λ (x : Refused). IsDraftRefusal g (top_of was) 4 k.disk disk space x ⊎ IsOpenMap g k.disk k.space x) same
        (subst (λ (x : Result Puid Refused). IfErr x (λ f. IsDraftRefusal g (top_of was) 4 k.disk disk space f ⊎ IsOpenMap g k.disk k.space f)) is call.refused)))
        (subst (λ (x : Result Puid Refused). IfErr x (λ f. has_met_damage f ≡ false)) is ends.sound))
        (cases_lt (sum k.space.free) (1 + draft_takes was (slot / 64) + 4))

-- ---- the whole call, of a grant that has a draft

module _ {D : Type 0} (g : Ghosts D) (left_sized : (d : D) (t : ℕ) (c : Image) → g.left_since d t c → length c ≡ g.blocks d) (sized : (d : D) → IsTrue (g.honest d) → length (g.content d) ≡ g.blocks d)
    (k : Kernel D) (room : k.directory.room ≡ g.blocks k.disk) (who : ℕ) (t : Tuid) (was : Drafting) (drafting : drafting_at k.handles t.draw ≡ Some was) (the : (s : State) → CoreServes g k s → IsHeld g k s who t was) (slot : ℕ) (kind : Kind) (fill bytes : ℕ) (w : ℕ) (word_is : w ≡ word k.words.seed (k.words.drawn + 1))
    (now : Drafting) (disk : D) (space : Kept) (r : Result Puid Refused) (makes : CreatesIn g slot (made_of kind fill bytes) w 4 k.disk disk k.space space was now r) (request : Request) (making : IsMaking request slot (made_of kind fill bytes)) where
  abbrev mid : Kernel D
  mid = record k { disk = disk; space = space; handles = with_drafting t.draw (Some now) k.handles }

  pub tries_made_in : (id : Puid) → r ≡ Ok id → (new : Kernel D) (result : Result Reply Refused) → NamesMade mid new id (object_kind (made_of kind fill bytes)) result → TriesMakingWith g None k new who t request result
  tries_made_in id is new result names = record {
    ends = λ s serves none so.
        let i = view g k s serves who t was (the s serves) slot (made_of kind fill bytes) (one_block kind fill bytes) request making so in
        made g k s serves who t was (the s serves) slot (made_of kind fill bytes) (one_block kind fill bytes) request making so left_sized sized none room w word_is now disk space r (makes.creates i) (makes.need i) makes.call id is new result names;
    went = record {
      plain = names.plain;
      cause = causes_met g k new request result (if_astray g k new request id k.directory result making.makes refl room names.astray);
      size = ap g.blocks names.disk ∙ makes.call.calls.same.size;
      faults = omega (arith, ap g.faults names.disk, makes.call.calls.faults);
      later = omega (arith, ap g.moment names.disk, makes.call.calls.later);
      stop = names.stop;
      collections = names.collections;
      seed = names.seed;
      kept = names.kept;
      drawn = rw making.draw names.drawn;
    };
  }

  pub tries_unmade_in : (e : Refused) → r ≡ Err e → TriesMakingWith g None k mid who t request (Err e)
  tries_unmade_in e is = record {
    ends = λ s serves none so.
        let i = view g k s serves who t was (the s serves) slot (made_of kind fill bytes) (one_block kind fill bytes) request making so in
        unmade g k s serves who t was (the s serves) slot (made_of kind fill bytes) (one_block kind fill bytes) request making so left_sized sized none room w word_is now disk space r (makes.creates i) (makes.need i) makes.call e is;
    went = went_so g k disk space (with_drafting t.draw (Some now) k.handles) makes.call.calls.same.size makes.call.calls.faults makes.call.calls.later request (Err e) tt
        (cause_of g k mid (Some request) e (λ tried same. stopped_so tried (subst Why same (rw is at makes.call.refused))) (λ damage same. met_so damage (subst Why same (rw is at makes.call.refused))) (λ need same. wants_so need (is ∙ ap (λ (x : Refused). Err x) same)));
  }
    where
      Why : Refused → Type 0
      Why x = IsDraftRefusal g (top_of was) 4 k.disk disk space x ⊎ IsOpenMap g k.disk k.space x

      stopped_so : (tried : Bool) → Why (refusals.Disk tried) → HasStopped g tried k.disk disk
      stopped_so tried (inl is) = is
      stopped_so tried (inr map) = let no = map.is in cc

      met_so : (damage : Damage) → Why (refusals.Damaged damage) → IsDamageTold g k mid (Some request) damage
      met_so damage (inl is) = told_of_draft g k mid (Some request) was.at (inr (inl (t.draw, was, drafting, refl))) damage makes.call.calls.same.size t.draw was drafting refl
          (damage_as g (top_of was) (draft_top was) refl k.disk disk space (λ far. FarRoots (inr far)) damage is)
      met_so damage (inr map) =
          let same : damage ≡ record { block = 0; code = 2 } = (let is = map.is in cc) in
          OpenMap (ap (λ (d : Damage). d.code) same) (ap (λ (d : Damage). d.block) same) (λ tells counts. inl (map.free tells counts))

      wants_so : (need : Need) → r ≡ Err (refusals.Full need) → IsWant (Some request) (sum k.space.free) need
      wants_so need is = elim (cases_lt (sum k.space.free) (1 + draft_takes was (slot / 64) + 4)) [
        | inl few ↦ (
            let same = err_is r _ _ is (makes.call.full.full few).0 in
            let need_is : need ≡ record { free = sum k.space.free; need = 1 + draft_takes was (slot / 64) } = cc in
            (making.delete, ap (λ (n : Need). n.free) need_is, omega (arith, few, ap (λ (n : Need). n.free) need_is, ap (λ (n : Need). n.need) need_is))
            )
        | inr enough ↦ (let no : true ≡ false = rw is at (makes.call.full.spare enough) in cc)
      ]
