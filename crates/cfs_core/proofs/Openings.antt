-- How an opening ends.
use Rattle.std.proofs.Common.{◌≡◌, inl, ℕ, ◌+◌, ◌<◌, ◌≤◌, List, [], ◌∷◌, ◌++◌, length, Bool, true, false, cond, Option, Some, None, Ok, Err, IsTrue, refl, sym, ◌∙◌, ap, subst, arith, map, nat_lt, option_to_list, sum}
use Rattle.cfs_core.proofs.Words.{block_there, changes_begin, Drafting, Draws, first_draft, Ghosts, Grant, granted, Holds, Image, is_locked, is_there, next_keeps, Drafts, with_opened, taken_with}
use Rattle.cfs_core.proofs.Words.{IsState, Kept, Kind, directory_kind, list_any, Mode, nat_tests, Need, need_of, next, Object, object_at, of_draft, one_if, Opened, opened_as, outcome_legal, outcome_of, Puid, Reading, refusal_of, Refused, Reply, Request, same_puid, start_stays, State, takes_draft, Tuid, wider, word, Writing, MapEntry, the_draft, ChangesOnly}
use Rattle.cfs_base.specs.declared.kind.Kind.TheVariants as kinds
use Rattle.cfs_base.specs.declared.refusal.Refused.TheVariants as refusals
use Rattle.open_table.specs.declared.grant.OpenGrant as handles
use Rattle.ufs_model.specs.declared.asked.Event.TheVariants as events
use Rattle.ufs_model.specs.declared.asked.Reply.TheVariants as replies
use Rattle.ufs_model.specs.declared.asked.Request.TheVariants as asks
use Rattle.cfs_core.specs.Calls.{Answers, ByOutcome, ByWant, EndsSo, IsCause, Owes, Tries, TriesWith, Undone}
use Rattle.cfs_core.specs.Kernel.{Kernel, Handle, grants_in}
use Rattle.cfs_core.specs.Opening.{Begins, BeginsSo, IsBegun, gets_draft, IsRefusalOrMemory}
use Rattle.cyl_alloc.specs.Left.{LeftCommit}
use Rattle.intentions.specs.Left.{StoreWith, coming, final_image}
use Rattle.cfs_core.specs.StandsFor.{HasDraftOf, CoreServes, ServesIs, ServesWith, bare, drafts_of_handles, end_in, free_to_come, free_with, sweeps_now, opened_if}
use Rattle.cfs_core.proofs.Answering.{disk_failed, full_still, memory, owes}
use Rattle.cfs_core.proofs.Drafted.{both_have, core_has_none, others_have}
use Rattle.cfs_core.proofs.Ended.{of_its_draft}
use Rattle.cfs_core.proofs.After.{absurd_keeps}
use Rattle.cfs_core.specs.Writes.{changes_disk}
use Rattle.cfs_base.proofs.Went.{reads_none}
use Rattle.cfs_core.proofs.Regranted.{grants_push, push_bare, push_opened}
use Rattle.ufs_model.specs.Next.{is_direct_delete}
use Rattle.cfs_core.specs.Damage.{IsRootHere}
use Rattle.cfs_core.proofs.Damages.{told_still}
use Rattle.cfs_core.proofs.Went.{went_so}
use Rattle.cfs_core.proofs.Serving.{account, fits, honest, named_root, running, stays, nothing_left}
use Rattle.cfs_core.proofs.Moved.{HasStepped, IsStepped, four_left, makes_stepped}
use Rattle.cfs_core.specs.Claimed.{ClaimsStay, TakesForRequest, claims_for}
use Rattle.cfs_core.proofs.Claimed.{claims_none, claims_shadow, takes_alone}
use Rattle.cyl_alloc.specs.Space.{intended}
use Rattle.cfs_base.specs.declared.kind.Place.TheVariants as places
use Rattle.leaf_changes.specs.Tops.{still_top}
use Rattle.special_files.specs.Begins.{BeginCall}
use Rattle.special_files.specs.View.{ObjectView}
use Rattle.cfs_core.proofs.Views.{object_view}
use Rattle.ufs_model.specs.State.{draft_at}
use Rattle.ufs_model.proofs.Drafts.{not_open}
use Rattle.cfs_core.proofs.MayOpen.{gets_now, special_of, the_object, written_of}

-- ---- a grant more

-- the Free blocks are the same, whoever opens an object
free_opened : {D : Type 0} (g : Ghosts D) (k : Kernel D) (words : Draws) (handles : List Handle) (w : Option LeftCommit) → free_with g (record k { words = words; handles = handles }) w ≡ free_with g k w
free_opened g k words handles None = refl
free_opened g k words handles (Some l) = refl

module _ {D : Type 0} {w : Option LeftCommit} (g : Ghosts D) (left_sized : (d : D) (t : ℕ) (c : Image) → g.left_since d t c → length c ≡ g.blocks d) (sized : (d : D) → IsTrue (g.honest d) → length (g.content d) ≡ g.blocks d)
    (k : Kernel D) (who : ℕ) (id : Puid) (mode : Mode) (wanted_draft : Bool) (tuid : Tuid) (tuid_is : tuid ≡ record { draw = k.words.drawn + 1; word = word k.words.seed (k.words.drawn + 1) })
    (s : State) (serves : ServesWith g k s w) (none : k.stop ≡ None) (o : Object) (there : object_at s.graph id ≡ Some o) (gets : takes_draft mode (Some o) ≡ wanted_draft) (goes : refusal_of s who (asks.OpenFor id mode) ≡ None) where
  abbrev request : Request
  request = asks.OpenFor id mode

  abbrev ds : Drafts
  ds = drafts_of_handles k.handles s.grants

  abbrev after : State
  after = (granted k.words.seed s who id mode).1

  abbrev grant : Grant
  grant = record { tuid = record { draw = s.drawn + 1; word = word k.words.seed (s.drawn + 1) }; session = who; id = id; mode = mode; draft = first_draft mode (object_at s.graph id) }

  -- the same as the core has it
  abbrev shown : handles.OpenGrant
  shown = record { tuid = tuid; session = who; id = id; mode = mode }

  tuid_same : tuid ≡ record { draw = s.drawn + 1; word = word k.words.seed (s.drawn + 1) }
  tuid_same = tuid_is ∙ ap (λ (n : ℕ). record { draw = n + 1; word = word k.words.seed (n + 1) }) (sym serves.front.drawn)

  need_is : need_of s who request ≡ one_if wanted_draft
  need_is = rw there (ap one_if gets)

  claims_are : claims_for k.handles s who request (replies.Grant tuid) ≡ cond wanted_draft (intended places.ShadowRoot id.block ∷ []) []
  claims_are = rw there (ap (λ b. cond b (intended places.ShadowRoot id.block ∷ []) []) gets)

  draft_is : first_draft mode (object_at s.graph id) ≡ cond wanted_draft (Some (record { object = o; fresh = [] })) None
  draft_is = rw there (ap (λ b. cond b (Some (record { object = o; fresh = [] })) None) gets)

  is_there_now : is_there s.graph id ≡ true
  is_there_now = rw there refl

  told_is : replies.Grant tuid ≡ (outcome_of k.words.seed s who request 0).0
  told_is = ap replies.Grant tuid_same

  legal : next k.words.seed s (events.Ask who request (replies.Grant tuid)) ≡ Some after
  legal = subst (λ (r : Reply). next k.words.seed s (events.Ask who request r) ≡ Some after) (sym told_is)
      (outcome_legal k.words.seed s who request 0 (running g k s serves none) goes (λ made. let no : true ≡ false = sym made in cc))

  -- ---- with this draft, if it has one

  module _ (drafting : Option Drafting) (d : D) (space : Kept) (words : Draws) (words_are : words ≡ record { seed = k.words.seed; drawn = k.words.drawn + 1 }) where
    abbrev handle : Handle
    handle = record { grant = shown; drafting = drafting }

    abbrev new : Kernel D
    new = record k { disk = d; space = space; words = words; handles = k.handles ++ handle ∷ [] }

    table : grants_in (k.handles ++ handle ∷ []) ≡ map bare (s.grants ++ grant ∷ [])
    table = grants_push k.handles handle ∙ ap (λ gs. gs ++ shown ∷ []) serves.front.grants ∙ ap (λ (t : Tuid). map bare s.grants ++ record { tuid = t; session = who; id = id; mode = mode } ∷ []) tuid_same ∙ sym (map_push s.grants)
      where
        map_push : (gs : List Grant) → map bare (gs ++ grant ∷ []) ≡ map bare gs ++ bare grant ∷ []
        map_push [] = refl
        map_push (x ∷ gs) = ap (λ rest. bare x ∷ rest) (map_push gs)

    stepped : IsStepped k new s after s.graph
    stepped = record {
      graph = refl;
      rooted = refl;
      stopped = refl;
      sweeping = start_stays sweeps_now (λ a b c e. refl) id s.collection;
      drawn = ap (λ (n : ℕ). n + 1) serves.front.drawn ∙ sym (ap (λ (w : Draws). w.drawn) words_are);
      named = serves.front.directory;
      root = refl;
      stop = refl;
      table = table;
    }

    state : IsState after
    state = next_keeps k.words.seed s after (events.Ask who request (replies.Grant tuid)) serves.state refl legal

  owed : (image : Image) (free : ℕ) → need_of s who request + 4 ≤ free → Owes k.words.seed s who request image free (replies.Grant tuid)
  owed image free more = owes k.words.seed s who request image free (replies.Grant tuid) tt
      (ByOutcome goes (record { block = 0; least = λ made. let no : true ≡ false = sym made in cc; reply_is = told_is; room = λ short. omega (arith, short.few, more) }))

  -- none is wanted
  pub opened_bare : wanted_draft ≡ false → (words : Draws) → words ≡ record { seed = k.words.seed; drawn = k.words.drawn + 1 }
      → Answers g w k (record k { words = words; handles = k.handles ++ record { grant = shown; drafting = None } ∷ [] }) s who request (replies.Grant tuid)
  opened_bare bare words words_are =
      let no_draft : first_draft mode (object_at s.graph id) ≡ None = draft_is ∙ ap (λ b. cond b (Some (record { object = o; fresh = [] })) None) bare in
      let free : need_of s who request ≡ 0 = need_is ∙ ap one_if bare in
      let after_it : Kernel D = record k { words = words; handles = k.handles ++ record { grant = shown; drafting = None } ∷ [] } in
      let end : Image = coming (g.content k.disk) w in
      let same : end ≡ end_in g k = ap (coming (g.content k.disk)) (sym serves.left) in
      let has : HasStepped g w k after_it s s.graph (λ entry. false) ds = record {
        store = subst (StoreWith g s.graph ds k.disk k.space) (sym serves.left) serves.store;
        only = subst (ChangesOnly (λ entry. false) end) same (changes_begin (λ entry. false) end s.graph (account g k s serves).holds);
        these = record { there = λ entry is made. let no : true ≡ false = sym is in cc; more = λ r had. had };
      } in
      let four : 4 ≤ free_to_come g after_it = subst (λ (f : ℕ). 4 ≤ f) (sym (ap (free_with g after_it) serves.left ∙ free_opened g k words (k.handles ++ record { grant = shown; drafting = None } ∷ []) w)) serves.four in
      record {
        event = makes_stepped g k after_it s after s.graph serves (λ entry. false) ds has (stepped None k.disk k.space words words_are) (state None k.disk k.space words words_are)
            (push_bare (record { grant = shown; drafting = None }) grant refl k.handles s.grants serves.front.grants)
            (both_have ds (record { grant = shown; drafting = None } ∷ []) (grant ∷ []) k.handles s.grants serves.drafts (subst (HasDraftOf ds (record { grant = shown; drafting = None }) None) (sym no_draft) tt, tt)) four
            left_sized (sized k.disk (honest g k s serves)) (events.Ask who request (replies.Grant tuid)) legal refl (nothing_left g k.disk (λ c. Holds c s.graph));
        still = λ all. let no : true ≡ false = sym all in cc;
        full = λ full. let no : false ≡ true = full in cc;
        taken = λ done. takes_alone k.handles s who request (replies.Grant tuid) end (end_in g k) refl (subst (λ (cs : List MapEntry). ClaimsStay false cs (id.block ∷ []) end (end_in g k)) (sym (claims_are ∙ ap (λ b. cond b (intended places.ShadowRoot id.block ∷ []) []) bare))
            (claims_none (id.block ∷ []) end (end_in g k) (sym same)));
        noted = λ done some. let no : false ≡ true = some in cc;
        owed = owed end (free_with g k w) (omega (arith, free, serves.four));
      }

  -- one is, and was begun where nothing was left
  pub opened_draft : (now : CoreServes g k s) → wanted_draft ≡ true → (drafting : Drafting) (d : D) (space : Kept) (words : Draws) → words ≡ record { seed = k.words.seed; drawn = k.words.drawn + 1 } → draft_at s.grants id ≡ None → g.blocks d ≡ g.blocks k.disk → space.left ≡ k.space.left
      → IsBegun (object_view g k s now id o there) d space drafting
      → Answers g None k (record k { disk = d; space = space; words = words; handles = k.handles ++ record { grant = shown; drafting = Some drafting } ∷ [] }) s who request (replies.Grant tuid)
  opened_draft now wants drafting d space words words_are alone size left begun =
      let it : Opened = opened_as drafting (record { object = o; fresh = [] }) in
      let has_draft : first_draft mode (object_at s.graph id) ≡ Some (record { object = o; fresh = [] }) = draft_is ∙ ap (λ b. cond b (Some (record { object = o; fresh = [] })) None) wants in
      let need : need_of s who request ≡ 1 = need_is ∙ ap one_if wants in
      let es : Drafts = with_opened id it ds in
      let handle_now : Handle = record { grant = shown; drafting = Some drafting } in
      let after_it : Kernel D = record k { disk = d; space = space; words = words; handles = k.handles ++ handle_now ∷ [] } in
      -- nothing is left, so the content is what is to come
      let nothing : space.left ≡ None = left ∙ now.left in
      let end_is : final_image g d space ≡ g.content d = ap (coming (g.content d)) nothing in
      let has : HasStepped g None k after_it s s.graph (λ entry. of_draft id.block entry) es = record {
        store = subst (StoreWith g s.graph es d space) (sym nothing) begun.opens.steps.store;
        only = subst (ChangesOnly (λ entry. of_draft id.block entry) (g.content k.disk)) (sym end_is) begun.opens.steps.only;
        these = of_its_draft s.graph id (block_there s.graph id o there);
      } in
      let shadow = (the_draft (g.content d) _ id drafting (record { object = o; fresh = [] }) begun.opened (begun.opens.steps.store.account.drafts id o there)).shadow begun.opens.least.0 begun.opens.least.1 in
      let made : length (option_to_list drafting.created) ≡ 0 = ap (λ (c : Option ℕ). length (option_to_list c)) begun.bare in
      let four = four_left g k after_it s after s.graph now (λ entry. of_draft id.block entry) es has 1 (omega (arith, taken_with s.graph ds id o (Some it) now.store.ordered there, made, one_at_most drafting.shadow)) (omega (arith, begun.free)) in
      record {
        event = makes_stepped g k after_it s after s.graph now (λ entry. of_draft id.block entry) es has (stepped (Some drafting) d space words words_are) (state (Some drafting) d space words words_are)
            (push_opened handle_now grant it (ap (opened_if (Some drafting)) has_draft) k.handles s.grants serves.front.grants alone)
            (both_have es (handle_now ∷ []) (grant ∷ []) k.handles s.grants (others_have id (Some it) ds k.handles s.grants serves.front.grants alone serves.drafts)
            (subst (HasDraftOf es handle_now (Some drafting)) (sym has_draft) (record { is_open = begun.opened; special = special_of mode o (gets ∙ wants); writes = written_of mode o (gets ∙ wants) }), tt)) four
            left_sized (sized k.disk now.store.carries.tells.honest ∙ sym size) (events.Ask who request (replies.Grant tuid)) legal refl begun.leaves;
        still = λ all. let no : true ≡ false = sym all in cc;
        full = λ full. let no : false ≡ true = full in cc;
        noted = λ done some. let no : false ≡ true = some in cc;
        taken = λ done. subst (TakesForRequest k.handles s who request (replies.Grant tuid) (g.content k.disk)) (sym end_is) (takes_alone k.handles s who request (replies.Grant tuid) (g.content k.disk) (g.content d) refl (subst (λ (cs : List MapEntry). ClaimsStay false cs (id.block ∷ []) (g.content k.disk) (g.content d)) (sym (claims_are ∙ ap (λ b. cond b (intended places.ShadowRoot id.block ∷ []) []) wants))
            (claims_shadow id.block begun.opens.least.0 (g.content k.disk) (g.content d) begun.opens.least.2 shadow begun.opens.steps.only)));
        owed = owed (g.content k.disk) (sum k.space.free) (omega (arith, need, begun.free));
      }
    where
      one_at_most : (c : Option ℕ) → length (option_to_list c) ≤ 1
      one_at_most None = omega arith
      one_at_most (Some n) = omega arith

  -- it couldn't be begun
  module _ (now : CoreServes g k s) (d : D) (space : Kept) (size : g.blocks d ≡ g.blocks k.disk) where
    abbrev stays_as : Kernel D
    stays_as = record k { disk = d; space = space }

    as_it_was : space ≡ k.space → stays_as ≡ record k { disk = d }
    as_it_was same = ap (λ (x : Kept). record k { disk = d; space = x }) same

    pub not_opened : (e : Refused) → BeginsSo (object_view g k s now id o there) wanted_draft d space (Err e) → EndsSo g None k stays_as s who request (Err e)
    not_opened (refusals.Full need) is =
        let wants : need_of s who request ≡ 1 = need_is ∙ ap one_if is.0 in
        subst (λ n. Answers g None k stays_as s who request (replies.Full n)) (sym is.1) (record {
          event = stays g 2 k stays_as is.3 (as_it_was is.4) s now left_sized (sized k.disk now.store.carries.tells.honest) (events.Ask who request (replies.Full (record { free = sum k.space.free; need = 1 })))
              (full_legal (sum k.space.free) wants is.2);
          still = λ all. let no : false ≡ true = all in cc;
          full = λ _. full_still g left_sized sized 2 k stays_as is.3 (as_it_was is.4) s who now none refl;
          noted = λ done. let no : false ≡ true = done in cc;
          taken = λ done. let no : false ≡ true = done in cc;
          owed = ByWant goes (record { delete = refl; few = omega (arith, is.2, wants) }) (ap (λ (n : ℕ). replies.Full (record { free = sum k.space.free; need = n })) (sym wants));
        })
      where
        full_legal : (free : ℕ) → need_of s who request ≡ 1 → free < 5 → next k.words.seed s (events.Ask who request (replies.Full (record { free = free; need = 1 }))) ≡ Some s
        full_legal free wants few = let less : nat_lt free 5 ≡ true = grind (arith, nat_tests) in rw (running g k s serves none, goes, wants, less) refl
    not_opened (refusals.Disk false) is = disk_failed g left_sized sized 2 k stays_as is.0 (as_it_was is.1) s who now none request
    not_opened (refusals.Disk true) is = record {
      allowed = goes;
      drawn = refl;
      named = refl;
      grants = refl;
      leaves = wider g k.disk d _ _ is (λ c holds. record { graph = s.graph; may = Undone; fits = fits g k s now (g.blocks d) (sized k.disk now.store.carries.tells.honest ∙ sym size); holds = holds });
    }
    not_opened (refusals.Damaged damage) is = absurd is
    not_opened refusals.Memory is = memory g left_sized sized 2 k stays_as is.0 (as_it_was is.1) s who now none request

-- why it couldn't be, as the store says it
pub or_memory : {D : Type 0} (g : Ghosts D) (at floor : ℕ) (old new : D) (before after : Kept) (e : Refused) → BeginCall g at floor old new before after (Err e) → IsRefusalOrMemory g (still_top at) floor old new before after e
or_memory g at floor old new before after (refusals.Full need) call = (let same : refusals.Full need ≡ refusals.Full (record { free = sum before.free; need = 1 }) = (call.full refl).0 in let one : need ≡ record { free = sum before.free; need = 1 } = cc in ap (λ (n : Need). n.free) one, call.refused.1)
or_memory g at floor old new before after (refusals.Disk was) call = call.refused
or_memory g at floor old new before after (refusals.Damaged damage) call = call.refused
or_memory g at floor old new before after refusals.Memory call = tt

begin_cause : {D : Type 0} (g : Ghosts D) (old now : Kernel D) (request : Request) (at : ℕ) → IsRootHere old (Some request) at → is_direct_delete request ≡ false → g.blocks now.disk ≡ g.blocks old.disk → (e : Refused) → IsRefusalOrMemory g (still_top at) 4 old.disk now.disk old.space now.space e → IsCause g old now (Some request) e
begin_cause g old now asked at here delete size (refusals.Full need) is = (delete, is.0, is.1)
begin_cause g old now asked at here delete size (refusals.Disk tried) is = is
begin_cause g old now asked at here delete size (refusals.Damaged damage) is = told_still g old now (Some asked) at here damage size is
begin_cause g old now asked at here delete size refusals.Memory is = tt

-- ---- the whole call

-- one that begins a draft changes the disk
pub draft_changes : {D : Type 0} (k : Kernel D) (id : Puid) (mode : Mode) (kind : Kind) → directory_kind k.directory.named id ≡ Some kind → gets_draft kind mode ≡ true → changes_disk k (asks.OpenFor id mode) ≡ true
draft_changes k id mode kind listed wants = rw listed wants

module _ {D : Type 0} (g : Ghosts D) (left_sized : (d : D) (t : ℕ) (c : Image) → g.left_since d t c → length c ≡ g.blocks d) (sized : (d : D) → IsTrue (g.honest d) → length (g.content d) ≡ g.blocks d)
    (k : Kernel D) (who : ℕ) (id : Puid) (mode : Mode) (kind : Kind) (listed : directory_kind k.directory.named id ≡ Some kind) (tuid : Tuid) (tuid_is : tuid ≡ record { draw = k.words.drawn + 1; word = word k.words.seed (k.words.drawn + 1) })
    (goes : (s : State) → CoreServes g k s → (refusal_of s who (asks.OpenFor id mode) ≡ None) × (is_locked s who (asks.OpenFor id mode) ≡ false)) (d : D) (space : Kept) where
  -- where it is to have a draft no grant is on it
  alone : (s : State) → CoreServes g k s → gets_draft kind mode ≡ true → draft_at s.grants id ≡ None
  alone s serves wants = not_open s.grants id (at mode kind wants (goes s serves).1)
    where
      at : (m : Mode) (n : Kind) → gets_draft n m ≡ true → is_locked s who (asks.OpenFor id m) ≡ false → list_any (λ x. same_puid id x.id) s.grants ≡ false
      at Writing n gets free = free
      at Reading kinds.Special gets free = cc
      at Reading kinds.Normal gets free = cc
      at Reading kinds.Index gets free = cc

  shut : (s : State) → CoreServes g k s → gets_draft kind mode ≡ true → drafts_of_handles k.handles s.grants id ≡ None
  shut s serves wants = core_has_none id k.handles s.grants serves.front.grants (alone s serves wants)

  abbrev view : (s : State) → CoreServes g k s → ObjectView g k.disk k.space id.block
  view s serves = (let o = the_object g k s serves id kind listed in object_view g k s serves id o.0 o.1)

  module _ (words : Draws) (words_are : words ≡ record { seed = k.words.seed; drawn = k.words.drawn + 1 }) where
    abbrev handle_with : Option Drafting → Handle
    handle_with drafting = record { grant = record { tuid = tuid; session = who; id = id; mode = mode }; drafting = drafting }

    pub tries_open : gets_draft kind mode ≡ true → (drafting : Option Drafting) → Begins g id.block (gets_draft kind mode) k.disk d k.space space (Ok drafting)
        → TriesWith g None k (record k { disk = d; space = space; words = words; handles = k.handles ++ handle_with drafting ∷ [] }) who (asks.OpenFor id mode) (Ok (replies.Grant tuid))
    tries_open wants drafting begins = record {
      keeps = λ none. absurd_keeps (draft_changes k id mode kind listed wants) none;
      ends = λ s serves none. ends drafting s serves none (begins.ends (view s serves) (shut s serves));
      went = record {
        plain = tt;
        cause = tt;
        size = begins.calls.same.size;
        faults = begins.calls.faults;
        later = begins.calls.later;
        stop = refl;
        collections = refl;
        seed = ap (λ (w : Draws). w.seed) words_are;
        kept = omega (arith, ap (λ (w : Draws). w.drawn) words_are);
        drawn = omega (arith, ap (λ (w : Draws). w.drawn) words_are);
      };
    }
      where
        ends : (o : Option Drafting) (s : State) (serves : CoreServes g k s) → k.stop ≡ None → BeginsSo (view s serves) (gets_draft kind mode) d space (Ok o)
            → Answers g None k (record k { disk = d; space = space; words = words; handles = k.handles ++ handle_with o ∷ [] }) s who (asks.OpenFor id mode) (replies.Grant tuid)
        ends None s serves none is =
            let o = the_object g k s serves id kind listed in
            subst (λ (x : Kept). Answers g None k (record k { disk = d; space = x; words = words; handles = k.handles ++ handle_with None ∷ [] }) s who (asks.OpenFor id mode) (replies.Grant tuid)) (sym is.2)
            (subst (λ (y : D). Answers g None k (record k { disk = y; words = words; handles = k.handles ++ handle_with None ∷ [] }) s who (asks.OpenFor id mode) (replies.Grant tuid)) (sym is.1)
            (opened_bare g left_sized sized k who id mode (gets_draft kind mode) tuid tuid_is s serves none o.0 o.1 (gets_now g k s serves id kind listed mode) (goes s serves).0 is.0 words words_are))
        ends (Some drafting) s serves none is =
            let o = the_object g k s serves id kind listed in
            opened_draft g left_sized sized k who id mode (gets_draft kind mode) tuid tuid_is s serves none o.0 o.1 (gets_now g k s serves id kind listed mode) (goes s serves).0 serves is.0 drafting d space words words_are
            (alone s serves is.0) begins.calls.same.size begins.left is.1

  pub tries_not : gets_draft kind mode ≡ true → (e : Refused) → Begins g id.block (gets_draft kind mode) k.disk d k.space space (Err e) → TriesWith g None k (record k { disk = d; space = space }) who (asks.OpenFor id mode) (Err e)
  tries_not wants e begins = record {
    keeps = λ none. absurd_keeps (draft_changes k id mode kind listed wants) none;
    ends = λ s serves none. let o = the_object g k s serves id kind listed in
        not_opened g left_sized sized k who id mode (gets_draft kind mode) tuid tuid_is s serves none o.0 o.1 (gets_now g k s serves id kind listed mode) (goes s serves).0 serves d space begins.calls.same.size e (begins.ends (view s serves) (shut s serves));
    went = went_so g k d space k.handles begins.calls.same.size begins.calls.faults begins.calls.later (asks.OpenFor id mode) (Err e) tt
        (begin_cause g k (record k { disk = d; space = space }) (asks.OpenFor id mode) id.block (inl (named_root k.directory.named id kind listed)) refl begins.calls.same.size e begins.cause);
  }

-- without a draft, whatever is left of a commit
pub tries_bare : {D : Type 0} (g : Ghosts D) (left_sized : (d : D) (t : ℕ) (c : Image) → g.left_since d t c → length c ≡ g.blocks d) (sized : (d : D) → IsTrue (g.honest d) → length (g.content d) ≡ g.blocks d)
    (k : Kernel D) (who : ℕ) (id : Puid) (mode : Mode) (kind : Kind) → directory_kind k.directory.named id ≡ Some kind → (tuid : Tuid) → tuid ≡ record { draw = k.words.drawn + 1; word = word k.words.seed (k.words.drawn + 1) }
    → ((s : State) → ServesIs g k s → refusal_of s who (asks.OpenFor id mode) ≡ None) → gets_draft kind mode ≡ false → (words : Draws) → words ≡ record { seed = k.words.seed; drawn = k.words.drawn + 1 }
    → Tries g k (record k { words = words; handles = k.handles ++ record { grant = record { tuid = tuid; session = who; id = id; mode = mode }; drafting = None } ∷ [] }) who (asks.OpenFor id mode) (Ok (replies.Grant tuid))
tries_bare g left_sized sized k who id mode kind listed tuid tuid_is goes bare words words_are = record {
  keeps = λ _. record { space = refl; most = 0; reads = reads_none g 0 k.disk };
  ends = λ s serves none. let o = the_object g k s serves id kind listed in
      opened_bare g left_sized sized k who id mode (gets_draft kind mode) tuid tuid_is s serves none o.0 o.1 (gets_now g k s serves id kind listed mode) (goes s serves) bare words words_are;
  went = record {
    plain = tt;
    cause = tt;
    size = refl;
    faults = omega arith;
    later = omega arith;
    stop = refl;
    collections = refl;
    seed = ap (λ (x : Draws). x.seed) words_are;
    kept = omega (arith, ap (λ (x : Draws). x.drawn) words_are);
    drawn = omega (arith, ap (λ (x : Draws). x.drawn) words_are);
  };
}
