-- What the store says of an object that is made, as the core has it.
use Rattle.std.proofs.Common.{Bool, ◌≡◌, ◌⊎◌, inl, inr, ⊎_elim, ℕ, ◌+◌, ◌<◌, ◌≤◌, List, [], ◌∷◌, length, true, false, None, Some, Result, Ok, Err, IsTrue, refl, sym, ◌∙◌, ap, subst, arith, ◌==◌, IfErr, sum, ◌/◌}
use Rattle.cfs_base.proofs.Went.{reads_none}
use Rattle.cfs_core.proofs.Words.{blocks_of, created, Ghosts, Graph, has_block, has_root_in, HasStopped, Holds, Image, Index, insert_entry, has_met_damage, IsIndexRefusal, IsLeastFree, IsOpenMap, Kept, keys_of-kinds_in, Kind, object_kind, kinds_of, list_any, made_of, Need, Object, OnlyReads, Puid, puid_cmp, PutsObject, refusal_of, Refused, Reply, Request, State, stopped_after_reads, sum_is, target, wider, with_made, word, block_named}
use Rattle.cfs_base.specs.declared.refusal.Refused.TheVariants as refusals
use Rattle.block_tree.specs.declared.root.Root.{Root}
use Rattle.cfs_base.specs.Run.{Tells}
use Rattle.leaf_changes.specs.Tops.{Top, root_top}
use Rattle.normal_files.specs.Standing.{IsRootAt}
use Rattle.special_files.specs.Committing.{puid_at}
use Rattle.special_files.specs.Drafting.{begun_at}
use Rattle.ufs_model.specs.declared.asked.Reply.TheVariants as replies
use Rattle.ufs_model.specs.declared.object.Object.TheVariants as objects
use Rattle.ufs_model.specs.declared.asked.Event.TheVariants as events
use Rattle.std.specs.Prelude.{◌≢◌, IfOk, IsSome, Option}
use Rattle.cyl_alloc.specs.Left.{LeftCommit}
use Rattle.intentions.specs.Left.{StoreIs, final_image}
use Rattle.cfs_core.specs.Calls.{Answers, ByWant, EndsSo, IsCause, IsInDoubt, IsShortOfBlocks, RequestWent, TriesOnWith, leaves_all}
use Rattle.cfs_core.specs.Kernel.{Kernel}
use Rattle.cfs_core.specs.Damage.{NotOwned}
use Rattle.cfs_core.specs.Makes.{IsAstray, IsMaking, NamesMade}
use Rattle.puid_space.specs.Directory.{Listing}
use Rattle.ufs_model.specs.Outcome.{creates}
use Rattle.cfs_core.specs.StandsFor.{CoreServes, drafts_of_handles}
use Rattle.cfs_core.specs.Ways.{Reaches}
use Rattle.cfs_core.proofs.Answering.{disk_failed, full_still}
use Rattle.cfs_core.proofs.Committed.{LeavesThese, did, in_doubt, uncut}
use Rattle.cfs_core.proofs.Created.{filled_is, inside, least_one, least_there, need_is, no_root, not_zero, outcome, stepped, taken, theirs}
use Rattle.cfs_core.proofs.Damages.{told_of_making}
use Rattle.cfs_core.proofs.Went.{cause_of, causes_met, went_so}
use Rattle.cfs_core.proofs.Serving.{running, stays}
use Rattle.cfs_core.specs.Claimed.{TakesForRequest, claims_for_slot}
use Rattle.cfs_core.proofs.Claimed.{claims_then, takes_last}
use Rattle.index_ops.specs.Changes.{leaf_and_node}
use Rattle.index_ops.specs.Creates.{PlacesIn}
use Rattle.cfs_core.proofs.Views.{slot_view}
use Rattle.cyl_alloc.specs.Space.{intended}
use Rattle.index_ops.specs.Changes as ops
use Rattle.cfs_base.specs.declared.kind.Kind.TheVariants as kinds
use Rattle.cfs_base.specs.declared.kind.Place.TheVariants as places

-- a new object is its root alone, of the kind that it is made of
pub kind_is : (kind : Kind) (fill size : ℕ) → object_kind (made_of kind fill size) ≡ kind
kind_is kinds.Normal fill size = refl
kind_is kinds.Special fill size = refl
kind_is kinds.Index fill size = refl

pub one_block : (kind : Kind) (fill size : ℕ) → blocks_of (made_of kind fill size) ≡ 1
one_block kinds.Normal fill size = refl
one_block kinds.Special fill size = refl
one_block kinds.Index fill size = refl

pub root_is : (named : List (Puid × Kind)) (g : Graph) (b : ℕ) → named ≡ kinds_of g → has_root_in named b ≡ has_block g.objects b
root_is named g b is = ap (λ ns. has_root_in ns b) is ∙ ap (λ ids. list_any (λ (id : Puid). id.block == b) ids) (keys_of-kinds_in g.objects)

-- an object that was made where a root is
pub if_astray : {D : Type 0} (g : Ghosts D) (old new : Kernel D) (request : Request) (id : Puid) (directory : Listing) (result : Result Reply Refused) → creates request ≡ true → directory ≡ old.directory → old.directory.room ≡ g.blocks old.disk → IfErr result (IsAstray directory id) → IfErr result (IsCause g old new (Some request))
if_astray g old new request id directory (Ok reply) makes same room is = tt
if_astray g old new request id directory (Err e) makes same room is =
    subst (IsCause g old new (Some request)) (sym is.is) (NotOwned request refl makes refl (rw (sym room, ap (λ (l : Listing). l.room) (sym same), ap (λ (l : Listing). l.named) (sym same)) is.why))

stopped_so : {D : Type 0} (g : Ghosts D) (at : Top) (old new : D) (before after : Kept) (e : Refused) → IsIndexRefusal g at old new after e ⊎ IsOpenMap g old before e → (tried : Bool) → e ≡ refusals.Disk tried → HasStopped g tried old new
stopped_so g at old new before after e (inl is) tried same = subst (IsIndexRefusal g at old new after) same is
stopped_so g at old new before after e (inr map) tried same = let no = sym map.is ∙ same in cc

never_full : {D : Type 0} (g : Ghosts D) (at : Top) (old new : D) (before after : Kept) (need : Need) → IsIndexRefusal g at old new after (refusals.Full need) ⊎ IsOpenMap g old before (refusals.Full need) → ⊥
never_full g at old new before after need (inl none) = none
never_full g at old new before after need (inr map) = let no = map.is in cc

never_wanted : {D : Type 0} (g : Ghosts D) (at : Top) (old new : D) (before after : Kept) → IsIndexRefusal g at old new after refusals.Memory ⊎ IsOpenMap g old before refusals.Memory → ⊥
never_wanted g at old new before after (inl none) = none
never_wanted g at old new before after (inr map) = let no = map.is in cc

module _ {D : Type 0} (g : Ghosts D) (left_sized : (d : D) (t : ℕ) (c : Image) → g.left_since d t c → length c ≡ g.blocks d) (sized : (d : D) → IsTrue (g.honest d) → length (g.content d) ≡ g.blocks d)
    (k : Kernel D) (d : D) (space : Kept) (room : k.directory.room ≡ g.blocks k.disk) (index : Puid) (slot : ℕ) (o : Object) (one : blocks_of o ≡ 1) (w : ℕ) (word_is : w ≡ word k.words.seed (k.words.drawn + 1))
    (r : Result Puid Refused) (root : Root) (puts : PutsObject g (begun_at index.block None root) slot o w k.disk d k.space space r) (enough : 8 ≤ sum k.space.free) where
  abbrev mid : Kernel D
  mid = record k { disk = d; space = space }

  size : g.blocks d ≡ g.blocks k.disk
  size = puts.calls.same.size

  module _ (request : Request) (making : IsMaking request slot o) (s : State) (who : ℕ) (i : Index) (serves : CoreServes g k s) (none : k.stop ≡ None) (reach : Reaches s who request index (objects.Index i)) (shut : (drafts_of_handles k.handles s.grants) index ≡ None) (within : slot < length i.slots) (goes : refusal_of s who request ≡ None) (rooted : IsRootAt (g.content k.disk) index.block root) where
    puts_it : PlacesIn (slot_view g k s serves index i reach.there shut slot within) o w d space r
    puts_it = puts.places (slot_view g k s serves index i reach.there shut slot within) rooted

    word_drawn : w ≡ word k.words.seed (s.drawn + 1)
    word_drawn = word_is ∙ ap (λ n. word k.words.seed (n + 1)) (sym serves.front.drawn)

    abbrev id_at : ℕ → Puid
    id_at b = record { block = b; word = word k.words.seed (s.drawn + 1) }

    leaves_at : (b : ℕ) → IsLeastFree (g.content k.disk) b → LeavesThese g k.disk d s who request (replies.Id (id_at b)) (with_made s.graph index i slot (id_at b) o)
    leaves_at b least = uncut g k.disk d s who request (replies.Id (id_at b)) _ (wider g k.disk d _ _ puts_it.leaves (λ c p. ⊎_elim inl (λ t. inr
        (subst (λ (q : Puid). Holds c (with_made s.graph index i slot q o)) (ap (λ n. puid_at n w) (least_one (g.content k.disk) t.0 b t.1 least) ∙ ap (λ n. puid_at b n) word_drawn) t.2)) p))

    short : ¬ IsShortOfBlocks s who request (sum k.space.free)
    short is = omega (arith, is.few, enough, need_is s who index i slot o request making reach)

    takes : (reply : Reply) (b : ℕ) → block_named reply ≡ b → ops.TakesEntries (intended places.Root b ∷ leaf_and_node (slot / 64) index.block) index.block (b ∷ []) (g.content k.disk) (final_image g d space) → TakesForRequest k.handles s who request reply (g.content k.disk) (final_image g d space)
    takes reply b is taken =
        takes_last k.handles s who request reply (g.content k.disk) (final_image g d space) (intended places.Root b ∷ leaf_and_node (slot / 64) index.block) (index.block ∷ b ∷ []) index.block (making.claims k.handles s who reply ∙ rw (reach.bare, is, reach.name, claims_for_slot) refl) (rw (making.makes, is, reach.name) refl) (rw reach.name refl)
        (making.alone s who ∙ rw (reach.bare, reach.name, reach.there) refl)
        (claims_then (intended places.Root b ∷ leaf_and_node (slot / 64) index.block) index.block (b ∷ []) (g.content k.disk) (final_image g d space) taken)

    made : (p : Puid) → r ≡ Ok p → (new : Kernel D) (result : Result Reply Refused) → NamesMade mid new p (object_kind o) result → EndsSo g None k new s who request result
    made p is new result names =
        let two = rw is at puts_it.done in
        let left = rw is at puts.left in
        let least = two.1.least in
        let same : id_at p.block ≡ p = ap (λ n. puid_at p.block n) (sym word_drawn ∙ sym two.0) in
        let b = p.block in
        let there = inside g k s serves b least in
        let named_so = names.named (not_zero g k s serves b least) (omega (arith, there, room, sized k.disk serves.store.carries.tells.honest))
        (root_is k.directory.named s.graph b serves.front.directory ∙ no_root g k s serves b least) in
        let answers = did g left_sized sized k (kernel_with (id_at b)) size none s (created k.words.seed s who (target request) slot o b).1 who b request (replies.Id (id_at b)) serves (with_made s.graph index i slot (id_at b) o) 3
        (outcome g k s who serves index i slot o one request making reach goes enough b least) (leaves_at b least) (stepped g k s who serves index i slot o one request making reach goes enough b least d space) refl
        (ap (λ (t : State). t.grants) (filled_is g k s who serves index i slot o one request making reach goes enough b least)) (index.block ∷ b ∷ [])
        (record {
          store = subst (λ (q : Puid). StoreIs g (with_made s.graph index i slot q o) (drafts_of_handles k.handles s.grants) d space) (sym same) two.1.store;
          only = two.1.only;
          these = theirs g k s who serves index i slot o one request making reach goes enough b least;
        })
        (taken g k s who serves index i slot o one request making reach goes enough b least) tt refl short (λ _. least) (takes (replies.Id (id_at b)) b refl two.1.takes) (λ _. subst (λ (w : Option LeftCommit). IsSome w) (sym left.1.is) refl) in
        subst (EndsSo g None k new s who request) (sym named_so.0)
        (subst (λ (x : Kernel D). Answers g None k x s who request (replies.Id p)) (sym named_so.1)
        (subst (λ (q : Puid). Answers g None k (kernel_with q) s who request (replies.Id q)) same answers))
      where
        kernel_with : Puid → Kernel D
        kernel_with q = record k {
          disk = d;
          space = space;
          directory = record { named = insert_entry puid_cmp k.directory.named q (object_kind o); room = k.directory.room };
          words = record { seed = k.words.seed; drawn = k.words.drawn + 1 };
        }

    doubtful : IsInDoubt g k mid s who request
    doubtful =
        let some = least_there (g.content k.disk) (length (g.content k.disk)) 0 (λ m below. absurd (omega (arith, below))) (omega (arith, enough, sum_is (g.content k.disk) k.space serves.store.counts)) in
        in_doubt g left_sized sized k mid size none s (created k.words.seed s who (target request) slot o some.0).1 who some.0 request (replies.Id (id_at some.0)) serves (with_made s.graph index i slot (id_at some.0) o) 3
        (outcome g k s who serves index i slot o one request making reach goes enough some.0 some.1) (leaves_at some.0 some.1) refl

    as_it_was : (space ≡ k.space) × OnlyReads g 8 k.disk d → mid ≡ record k { disk = d }
    as_it_was two = ap (λ (x : Kept). record k { disk = d; space = x }) two.0

    failed : (e : Refused) → (e ≡ refusals.Disk false → (space ≡ k.space) × OnlyReads g 8 k.disk d)
        → (IsIndexRefusal g (root_top index.block root) k.disk d space e ⊎ IsOpenMap g k.disk k.space e) → has_met_damage e ≡ false → EndsSo g None k mid s who request (Err e)
    failed (refusals.Full need) untried refused sound = absurd (never_full g (root_top index.block root) k.disk d k.space space need refused)
    failed (refusals.Disk false) untried refused sound = let two = untried refl in disk_failed g left_sized sized 8 k mid two.1 (as_it_was two) s who serves none request
    failed (refusals.Disk true) untried refused sound = doubtful
    failed (refusals.Damaged damage) untried refused sound = cc
    failed refusals.Memory untried refused sound = absurd (never_wanted g (root_top index.block root) k.disk d k.space space refused)

    sound_at : (e : Refused) → r ≡ Err e → has_met_damage e ≡ false
    sound_at e is = subst (λ (x : Result Puid Refused). IfErr x (λ f. has_met_damage f ≡ false)) is puts_it.sound

    pub made_ends : (p : Puid) → r ≡ Ok p → (new : Kernel D) (result : Result Reply Refused) → NamesMade mid new p (object_kind o) result → EndsSo g None k new s who request result
    made_ends = made

    pub unmade_ends : (e : Refused) → r ≡ Err e → EndsSo g None k mid s who request (Err e)
    unmade_ends e is = failed e
        (subst (λ (x : Result Puid Refused). IfErr x (λ f. f ≡ refusals.Disk false → (space ≡ k.space) × OnlyReads g 8 k.disk d)) is puts.untried)
        (subst (λ (x : Result Puid Refused). IfErr x (λ f. IsIndexRefusal g (root_top index.block root) k.disk d space f ⊎ IsOpenMap g k.disk k.space f)) is puts.refused)
        (sound_at e is)

  module _ (request : Request) (making : IsMaking request slot o) where
    pub made_went : (p : Puid) (new : Kernel D) (result : Result Reply Refused) → NamesMade mid new p (object_kind o) result → RequestWent g k new request result
    made_went p new result names = record {
      plain = names.plain;
      cause = causes_met g k new request result (if_astray g k new request p k.directory result making.makes refl room names.astray);
      size = ap g.blocks names.disk ∙ size;
      faults = omega (arith, ap g.faults names.disk, puts.calls.faults);
      later = omega (arith, ap g.moment names.disk, puts.calls.later);
      stop = names.stop;
      collections = names.collections;
      seed = names.seed;
      kept = names.kept;
      drawn = rw making.draw names.drawn;
    }

    pub unmade_went : (e : Refused) → r ≡ Err e → (base : Kernel D) (n : ℕ) → OnlyReads g n base.disk k.disk → base.space ≡ k.space → has_root_in base.directory.named index.block ≡ true → (Tells g base.disk → IsRootAt (g.content base.disk) index.block root) → RequestWent g base (record base { disk = d; space = space }) request (Err e)
    unmade_went e is base n reads kept named rooted =
        let why = rw is at puts.refused in
        went_so g base d space base.handles (size ∙ reads.same.size) (omega (arith, reads.faults, puts.calls.faults)) (omega (arith, reads.images.later, puts.calls.later)) request (Err e) tt
        (cause_of g base (record base { disk = d; space = space }) (Some request) e (λ tried same. stopped_after_reads g base.disk k.disk d n tried reads (stopped_so g (root_top index.block root) k.disk d k.space space e why tried same))
        (λ damage same. told_of_making g n base (record base { disk = d; space = space }) k.disk reads (Some request) index.block root (inl named) rooted damage size
        (subst (λ (x : Kept). IsIndexRefusal g (root_top index.block root) k.disk d space (refusals.Damaged damage) ⊎ IsOpenMap g k.disk x (refusals.Damaged damage)) (sym kept) (rw same at why)))
        (λ need same. absurd (never_full g (root_top index.block root) k.disk d k.space space need (rw same at why))))

-- ---- too few blocks are Free

module _ {D : Type 0} (g : Ghosts D) (left_sized : (d : D) (t : ℕ) (c : Image) → g.left_since d t c → length c ≡ g.blocks d) (sized : (d : D) → IsTrue (g.honest d) → length (g.content d) ≡ g.blocks d)
    (k : Kernel D) (d : D) (space : Kept) (same_disk : d ≡ k.disk) (same_space : space ≡ k.space) (index : Puid) (slot : ℕ) (o : Object) (few : sum k.space.free < 8) where
  reads : OnlyReads g 0 k.disk d
  reads = subst (λ x. OnlyReads g 0 k.disk x) (sym same_disk) (reads_none g 0 k.disk)

  pub tries_short : (request : Request) → IsMaking request slot o → TriesOnWith g None k (record k { disk = d; space = space }) index slot request (Err (refusals.Full (record { free = sum k.space.free; need = 4 })))
  tries_short request making = record {
    ends = λ s who i serves none reach shut within goes.
        let need = need_is s who index i slot o request making reach in record {
          event = stays g 0 k (record k { disk = d; space = space }) reads (ap (λ (x : Kept). record k { disk = d; space = x }) same_space) s serves left_sized (sized k.disk serves.store.carries.tells.honest)
              (events.Ask who request (replies.Full (record { free = sum k.space.free; need = 4 }))) (making.full k.words.seed s who (record { free = sum k.space.free; need = 4 }) (running g k s serves none) goes (sym need) few);
          still = λ all. let no : false ≡ true = all in cc;
          full = λ full. full_still g left_sized sized 0 k (record k { disk = d; space = space }) reads (ap (λ (x : Kept). record k { disk = d; space = x }) same_space) s who serves none refl;
          taken = λ done. let no : false ≡ true = done in cc;
          noted = λ done. let no : false ≡ true = done in cc;
          owed = ByWant goes (record { delete = making.delete; few = omega (arith, few, need) }) (ap (λ (n : ℕ). replies.Full (record { free = sum k.space.free; need = n })) (sym need));
        };
    went = λ named. went_so g k d space k.handles (ap g.blocks same_disk) reads.faults reads.images.later request (Err (refusals.Full (record { free = sum k.space.free; need = 4 }))) tt (making.delete, refl, omega (arith, few));
  }

-- ---- what is told of one that is made

pub named_decides : {D : Type 0} (old new : Kernel D) (id : Puid) (kind : Kind) (result : Result Reply Refused) → NamesMade old new id kind result → IfOk result (λ reply. leaves_all reply ≡ false) × (result ≢ Err refusals.Memory)
named_decides old new id kind (Ok reply) names = (ap leaves_all names.told, λ is. cc)
named_decides old new id kind (Err e) names = (tt, λ is. (let same : e ≡ refusals.Memory = cc in let no = sym same ∙ names.astray.is in cc))

pub unmade_never : {D : Type 0} (g : Ghosts D) (at : Top) (old new : D) (before after : Kept) (e : Refused) → IsIndexRefusal g at old new after e ⊎ IsOpenMap g old before e → ◌≢◌ {A = Result Reply Refused} (Err e) (Err refusals.Memory)
unmade_never g at old new before after e why = λ is. (let same : e ≡ refusals.Memory = cc in never_wanted g at old new before after (subst (λ (x : Refused). IsIndexRefusal g at old new after x ⊎ IsOpenMap g old before x) same why))
