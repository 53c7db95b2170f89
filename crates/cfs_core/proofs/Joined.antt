-- What was left of a commit is carried out, and a change comes after it.
use Rattle.std.proofs.Common.{◌≡◌, ◌≢◌, inl, ℕ, length, Bool, true, false, Option, Some, None, Result, Ok, Err, IsTrue, refl, sym, ◌∙◌, ap, subst, arith, IfOk, sum, IsSome}
use Rattle.cfs_core.proofs.Words.{Before, Early, Event, Ghosts, Holds, Image, Kept, keeps, Late, Leaves, OnlyReads, refusal_of, Refused, Reply, Request, State, StoreHas, sum_is, then, wider, HoldsSome, Puid, IsSwept, Drafts}
use Rattle.cfs_base.specs.declared.refusal.Damage.{Damage}
use Rattle.cfs_base.specs.declared.refusal.Need.{Need}
use Rattle.cfs_base.specs.declared.refusal.Refused.TheVariants as refusals
use Rattle.cfs_base.specs.declared.refusal.Trouble.{Trouble}
use Rattle.cfs_base.specs.declared.refusal.Trouble.TheVariants as troubles
use Rattle.cfs_base.specs.Refusals.{refused_by}
use Rattle.cfs_base.proofs.Calls.{stopped_after_try}
use Rattle.std.specs.Prelude.{is_some, ◌⊎◌, ◌≤◌}
use Rattle.cyl_alloc.specs.Left.{LeftCommit}
use Rattle.finisher.proofs.Finished.{finished_content, finished_store}
use Rattle.cfs_base.specs.Went.{KnowsTries}
use Rattle.finisher.specs.Going.{IsLeftTrouble, calls_left, tries_left}
use Rattle.survival.specs.Call.{ReadsIn}
use Rattle.ufs_model.specs.declared.asked.Event.TheVariants as events
use Rattle.ufs_model.specs.declared.asked.Reply.TheVariants as replies
use Rattle.cfs_core.specs.Drafts.{TriesWhere}
use Rattle.cfs_core.specs.Calls.{AddsNoStray, Answers, EndsSo, IsCauseOf, IsWant, MayBeRead, Owes, Tries, TriesOn, TriesOnWith, TriesWith, Undone, RequestWent, done_or, leaves_all}
use Rattle.cfs_core.specs.Claimed.{TakesForRequest}
use Rattle.cfs_core.specs.Damage.{After, Afterwards, AtOnce, IsDamageTold, IsMet, NoEntry}
use Rattle.cfs_base.proofs.Went.{reads_none}
use Rattle.cfs_core.specs.Finished.{FinishesLeft, refused_since, since}
use Rattle.cfs_core.specs.Kernel.{Kernel, grants_in}
use Rattle.cfs_core.specs.StandsFor.{HasCollection, CoreServes, ServesIs, drafts_of_handles, end_in, free_of, free_to_come}
use Rattle.cfs_core.proofs.Answering.{disk_failed}
use Rattle.cfs_core.specs.Writes.{changes_disk}
use Rattle.cfs_core.proofs.After.{absurd_keeps, ends}
use Rattle.cfs_core.proofs.Serving.{fits, free_end, honest, serves_on}
use Rattle.cfs_core.proofs.Stored.{going_in}
use Rattle.cfs_core.proofs.Went.{now_met, went_as, went_then}

-- ---- nothing is left

-- a store that has come to its image serves the state on
pub serves_finished : {D : Type 0} (g : Ghosts D) (old : Kernel D) (d : D) (space : Kept) (s : State) (serves : ServesIs g old s) → StoreHas g s.graph (drafts_of_handles old.handles s.grants) d space → space.left ≡ None → g.content d ≡ end_in g old → CoreServes g (record old { disk = d; space = space }) s
serves_finished g old d space s serves store none content = record {
  front = record { drawn = serves.front.drawn; directory = serves.front.directory; grants = serves.front.grants; stopped = serves.front.stopped };
  state = serves.state;
  root = serves.root;
  store = store;
  left = none;
  drafts = serves.drafts;
  swept = λ rests. subst (λ (i : Image). IsSwept i s.graph) (sym content) (serves.swept rests);
  four = subst (λ (n : ℕ). 4 ≤ n) (sym (sum_is (g.content d) space store.counts ∙ ap free_of content ∙ sym (free_end g old s serves))) serves.four;
  collecting = subst (λ (i : Image). HasCollection i s old.collections.collector) (sym content) serves.collecting;
}

-- no try was made before
pub since_none : {A : Type 0} (r : Result A Refused) → since false r ≡ r
since_none (Ok x) = refl
since_none (Err e) = refl

-- what was done before it, or why it wasn't
pub since_ok : {A : Type 0} (tried : Bool) (r : Result A Refused) (x : A) → since tried r ≡ Ok x → r ≡ Ok x
since_ok tried (Ok y) x is = is
since_ok tried (Err e) x is = cc

pub since_err : {A : Type 0} (tried : Bool) (r : Result A Refused) (k : Refused) → since tried r ≡ Err k → (e : Refused) × (r ≡ Err e) × (k ≡ refused_since tried e)
since_err tried (Ok y) k is = cc
since_err tried (Err e) k is = (e, refl, cc)

-- ---- it is carried out

module _ {D : Type 0} (g : Ghosts D) (old : Kernel D) (d : D) (space : Kept) (tried : Bool) (fin : FinishesLeft g old.disk d old.space space (Ok tried)) where
  abbrev mid : Kernel D
  mid = record old { disk = d; space = space }

  module _ (s : State) (serves : ServesIs g old s) where
    abbrev drafts : Drafts
    drafts = drafts_of_handles old.handles s.grants

    store_now : StoreHas g s.graph drafts d space
    store_now = finished_store g s.graph drafts old.disk d old.space space fin.goes serves.store fin.done

    pub content_now : g.content d ≡ end_in g old
    content_now = finished_content g s.graph drafts old.disk d old.space space fin.goes serves.store fin.done

    pub free_now : sum space.free ≡ free_to_come g old
    free_now = sum_is (g.content d) space store_now.counts ∙ ap free_of content_now ∙ sym (free_end g old s serves)

    pub leaves_now : Leaves g old.disk d (λ c. Holds c s.graph)
    leaves_now = fin.goes.leaves s.graph (going_in g s.graph drafts old.disk old.space old.space.left serves.store)

    -- the core serves the state on, and nothing is left
    pub serves_mid : CoreServes g mid s
    serves_mid = serves_finished g old d space s serves store_now fin.done content_now

  -- ---- a change after it

  module _ (left_sized : (d : D) (t : ℕ) (c : Image) → g.left_since d t c → length c ≡ g.blocks d) (sized : (d : D) → IsTrue (g.honest d) → length (g.content d) ≡ g.blocks d)
      (new : Kernel D) (s : State) (who : ℕ) (request : Request) (serves : ServesIs g old s) (none : old.stop ≡ None) (goes : refusal_of s who request ≡ None) where
    wide : length (g.content old.disk) ≡ g.blocks d
    wide = sized old.disk (honest g old s serves) ∙ sym fin.ends.calls.same.size

    early : (e : Event) → Leaves g old.disk d (λ c. ReadsIn c (Early old.words.seed s e) ⊎ ReadsIn c (Late old.words.seed s e))
    early e = wider g old.disk d _ _ (keeps g left_sized old.words.seed s old.disk d (fits g old s serves (g.blocks d) wide) (leaves_now s serves)).crashes
        (λ c reads. inl (record { graph = reads.graph; may = subst (Early old.words.seed s e) (sym reads.may) (Before e); reads = reads.reads }))

    -- the reply that it gives changes something, or is Full
    answers_since : (reply : Reply) → leaves_all reply ≡ false → IsSome old.space.left → Answers g None mid new s who request reply → Answers g old.space.left old new s who request reply
    answers_since reply changes some is = record {
      event = record {
        after = is.event.after;
        step = is.event.step;
        stores = is.event.stores;
        strays = subst (λ (i : Image). AddsNoStray i (end_in g new) s.graph is.event.after.graph) (content_now s serves) is.event.strays;
        survives = record { crashes = then g old.disk d new.disk _ _ (early (events.Ask who request reply)) is.event.survives.crashes (λ c p. p); now = is.event.survives.now };
      };
      still = λ all. let no : true ≡ false = sym all ∙ changes in cc;
      full = λ full. let was = is.full full in record {
        same = was.same;
        none = was.none;
        content = was.content ∙ content_now s serves;
        still = λ nothing. let no : IsSome {T = LeftCommit} None = subst (λ (w : Option LeftCommit). IsSome w) nothing some in cc;
      };
      owed = subst (λ (i : Image). Owes old.words.seed s who request i (free_to_come g old) reply) (content_now s serves)
          (subst (λ (f : ℕ). Owes old.words.seed s who request (g.content d) f reply) (free_now s serves) is.owed);
      taken = λ done. subst (λ (i : Image). TakesForRequest old.handles s who request reply i (end_in g new)) (content_now s serves) (is.taken done);
      noted = is.noted;
    }

    -- parts were made, and what comes after them may have been done
    doubt : (P : Image → Type 0) → Leaves g d new.disk P → ((c : Image) → P c → HoldsSome (g.blocks new.disk) (MayBeRead old.words.seed s who request) c) → g.blocks new.disk ≡ g.blocks d → Leaves g old.disk new.disk (HoldsSome (g.blocks new.disk) (MayBeRead old.words.seed s who request))
    doubt P leaves has size = then g old.disk d new.disk _ P (wider g old.disk d _ _ (leaves_now s serves) (λ c holds. record { graph = s.graph; may = Undone; fits = fits g old s serves (g.blocks new.disk) (wide ∙ sym size); holds = holds })) leaves has

    ends_after : (r : Result Reply Refused) → IfOk r (λ reply. leaves_all reply ≡ false) → r ≢ Err refusals.Memory → g.blocks new.disk ≡ g.blocks d → IsSome old.space.left → EndsSo g None mid new s who request r → EndsSo g old.space.left old new s who request (since true r)
    ends_after (Ok reply) changes never size some is = answers_since reply changes some is
    ends_after (Err (refusals.Full need)) changes never size some is = answers_since (replies.Full need) refl some is
    ends_after (Err (refusals.Disk false)) changes never size some is =
        let was = is.still refl in
        record {
          allowed = goes;
          drawn = ap (λ (k : Kernel D). k.words.drawn) was.same;
          named = ap (λ (k : Kernel D). k.directory) was.same;
          grants = ap (λ (k : Kernel D). grants_in k.handles) was.same;
          leaves = doubt _ was.reads.images (λ c no. absurd no) size;
        }
    ends_after (Err (refusals.Disk true)) changes never size some is = record { allowed = is.allowed; drawn = is.drawn; named = is.named; grants = is.grants; leaves = doubt _ is.leaves (λ c p. p) size }
    ends_after (Err (refusals.Damaged damage)) changes never size some is = is
    ends_after (Err refusals.Memory) changes never size some is = absurd (never refl)

    -- nothing was left: the change is as it is
    pub ends_since : (r : Result Reply Refused) → (IsSome old.space.left → IfOk r (λ reply. leaves_all reply ≡ false)) → (IsSome old.space.left → r ≢ Err refusals.Memory) → g.blocks new.disk ≡ g.blocks d → EndsSo g None mid new s who request r → EndsSo g old.space.left old new s who request (since tried r)
    ends_since r changes never size is = at old.space.left refl
      where
        at : (w : Option LeftCommit) → old.space.left ≡ w → EndsSo g old.space.left old new s who request (since tried r)
        at None nothing =
            let same = fin.none nothing in
            subst (λ (b : Bool). EndsSo g old.space.left old new s who request (since b r)) (sym (fin.told ∙ ap is_some nothing))
            (subst (EndsSo g old.space.left old new s who request) (sym (since_none r))
            (subst (λ (w : Option LeftCommit). EndsSo g w old new s who request r) (sym nothing)
            (subst (λ (k : Kept). EndsSo g None (record old { space = k }) new s who request r) same.1
            (subst (λ (x : D). EndsSo g None (record old { disk = x; space = space }) new s who request r) same.0 is))))
        at (Some l) left =
            let some : IsSome old.space.left = subst (λ (w : Option LeftCommit). IsSome w) (sym left) refl in
            subst (λ (b : Bool). EndsSo g old.space.left old new s who request (since b r)) (sym (fin.told ∙ ap is_some left))
            (ends_after r (changes some) (never some) size some is)

  -- ---- what it did on any disk

  -- what was met of the core once it was carried out
  met_after : (Is : Kernel D → Type 0) → IsSome old.space.left → IsMet g mid Is → IsMet g old Is
  met_after Is some (AtOnce is) = Afterwards 0 old.disk d space (reads_none g 0 old.disk) (subst (λ (b : Bool). FinishesLeft g old.disk d old.space space (Ok b)) (fin.told ∙ some) fin) is
  met_after Is some (Afterwards n read now kept reads again is) = let no : true ≡ false = again.told ∙ ap is_some fin.done in cc

  cause_after : (new : Kernel D) (request : Request) (e : Refused) → IsSome old.space.left → IsCauseOf g mid new request e → IsCauseOf g old new request (refused_since true e)
  cause_after new request (refusals.Full need) some is = met_after (λ k. IsWant (Some request) (sum k.space.free) need) some is
  cause_after new request (refusals.Disk was) some is = stopped_after_try g old.disk d new.disk (calls_left old.space.left) (tries_left old.space.left) was fin.ends.calls (subst (λ (b : Bool). KnowsTries g 1 old.disk d old.space space (Some b)) some fin.ends.knows) is
  cause_after new request (refusals.Damaged damage) some is = met_after (λ k. IsDamageTold g k new (Some request) damage) some is
  cause_after new request refusals.Memory some is = tt

  went_after : (new : Kernel D) (request : Request) (r : Result Reply Refused) → IsSome old.space.left → RequestWent g mid new request r → RequestWent g old new request (since true r)
  went_after new request (Ok reply) some went = went_as g old.disk d old new request (Ok reply) fin.ends.calls.same.size fin.ends.calls.faults fin.ends.calls.later went.plain tt went refl
  went_after new request (Err e) some went = went_as g old.disk d old new request (Err (refused_since true e)) fin.ends.calls.same.size fin.ends.calls.faults fin.ends.calls.later tt (cause_after new request e some went.cause) went refl

  pub went_since : (new : Kernel D) (request : Request) (r : Result Reply Refused) → RequestWent g mid new request r → RequestWent g old new request (since tried r)
  went_since new request r went = at old.space.left refl
    where
      at : (w : Option LeftCommit) → old.space.left ≡ w → RequestWent g old new request (since tried r)
      at None nothing =
          let same = fin.none nothing in
          subst (λ (b : Bool). RequestWent g old new request (since b r)) (sym (fin.told ∙ ap is_some nothing))
          (subst (RequestWent g old new request) (sym (since_none r))
          (subst (λ (k : Kept). RequestWent g (record old { space = k }) new request r) same.1
          (subst (λ (x : D). RequestWent g (record old { disk = x; space = space }) new request r) same.0 went)))
      at (Some l) left =
          let some : IsSome old.space.left = subst (λ (w : Option LeftCommit). IsSome w) (sym left) refl in
          subst (λ (b : Bool). RequestWent g old new request (since b r)) (sym (fin.told ∙ ap is_some left)) (went_after new request r some went)

  -- ---- a request on a slot, and any other

  module _ (left_sized : (d : D) (t : ℕ) (c : Image) → g.left_since d t c → length c ≡ g.blocks d) (sized : (d : D) → IsTrue (g.honest d) → length (g.content d) ≡ g.blocks d) (new : Kernel D) (size : g.blocks new.disk ≡ g.blocks d)
      (request : Request) (result : Result Reply Refused) (decides : IfOk result (λ reply. leaves_all reply ≡ false)) (never : result ≢ Err refusals.Memory) where
    pub tries_on_since : (index : Puid) (slot : ℕ) → TriesOnWith g None mid new index slot request result → TriesOn g old new index slot request (since tried result)
    tries_on_since index slot tries = record {
      ends = λ s who i serves none reach shut inside goes. ends_since left_sized sized new s who request serves none goes result (λ some. decides) (λ some. never) size
          (tries.ends s who i (serves_mid s serves) none reach shut inside goes);
      went = λ named. went_since new request result (tries.went named);
    }

    pub where_since : (who : ℕ) (may : State → Type 0) → ((s : State) → may s → refusal_of s who request ≡ None) → TriesWhere g None mid new who request may result → TriesWhere g old.space.left old new who request may (since tried result)
    where_since who may goes tries = record {
      ends = λ s serves none so. ends_since left_sized sized new s who request serves none (goes s so) result (λ some. decides) (λ some. never) size (tries.ends s (serves_mid s serves) none so);
      went = went_since new request result tries.went;
    }

    pub tries_since : (who : ℕ) → changes_disk old request ≡ true → ((s : State) → ServesIs g old s → refusal_of s who request ≡ None) → TriesWith g None mid new who request result → Tries g old new who request (since tried result)
    tries_since who changes goes tries = record {
      keeps = λ none. absurd_keeps changes none;
      ends = λ s serves none. ends_since left_sized sized new s who request serves none (goes s serves) result (λ some. decides) (λ some. never) size (tries.ends s (serves_mid s serves) none);
      went = went_since new request result tries.went;
    }

-- ---- it isn't

module _ {D : Type 0} (g : Ghosts D) (left_sized : (d : D) (t : ℕ) (c : Image) → g.left_since d t c → length c ≡ g.blocks d) (sized : (d : D) → IsTrue (g.honest d) → length (g.content d) ≡ g.blocks d)
    (old : Kernel D) (d : D) (space : Kept) (why : Trouble) (fin : FinishesLeft g old.disk d old.space space (Err why)) (request : Request) where
  abbrev cut : Kernel D
  cut = record old { disk = d; space = space }

  pub ends_unfinished : (s : State) (who : ℕ) → ServesIs g old s → old.stop ≡ None → refusal_of s who request ≡ None → EndsSo g old.space.left old cut s who request (Err (refused_by why))
  ends_unfinished s who serves none goes = at why refl
    where
      graph_leaves : Leaves g old.disk d (λ c. Holds c s.graph)
      graph_leaves = fin.goes.leaves s.graph (going_in g s.graph (drafts_of_handles old.handles s.grants) old.disk old.space old.space.left serves.store)

      at : (t : Trouble) → t ≡ why → EndsSo g old.space.left old cut s who request (Err (refused_by t))
      at (troubles.Disk false) is =
          let two = fin.ends.untried (sym is) in
          disk_failed g left_sized sized 1 old cut two.1 (ap (λ (k : Kept). record old { disk = d; space = k }) two.0) s who serves none request
      at (troubles.Disk true) is = record {
        allowed = goes;
        drawn = refl;
        named = refl;
        grants = refl;
        leaves = wider g old.disk d _ _ graph_leaves (λ c holds. record { graph = s.graph; may = Undone; fits = fits g old s serves (g.blocks d) (sized old.disk (honest g old s serves) ∙ sym fin.ends.calls.same.size); holds = holds });
      }
      at (troubles.Damaged damage) is = let no : true ≡ false = rw (← is) at (fin.goes.sound s.graph (going_in g s.graph (drafts_of_handles old.handles s.grants) old.disk old.space old.space.left serves.store)) in cc

  cause_cut : (t : Trouble) → IsLeftTrouble g old.disk d t → IsCauseOf g old cut request (refused_by t)
  cause_cut (troubles.Disk tried) is = is
  cause_cut (troubles.Damaged damage) is = now_met g old (λ k. IsDamageTold g k cut (Some request) damage) (After (NoEntry is.0 is.1 is.3))

  pub went_unfinished : RequestWent g old cut request (Err (refused_by why))
  went_unfinished = record {
    plain = tt;
    cause = cause_cut why fin.ends.refused;
    size = fin.ends.calls.same.size;
    faults = fin.ends.calls.faults;
    later = fin.ends.calls.later;
    stop = refl;
    collections = refl;
    seed = refl;
    kept = omega arith;
    drawn = omega arith;
  }

  pub tries_on_unfinished : (index : Puid) (slot : ℕ) (e : Refused) → e ≡ refused_by why → TriesOn g old cut index slot request (Err e)
  tries_on_unfinished index slot e is = subst (λ (x : Refused). TriesOn g old cut index slot request (Err x)) (sym is) (record {
    ends = λ s who i serves none reach shut inside goes. ends_unfinished s who serves none goes;
    went = λ named. went_unfinished;
  })

  pub where_unfinished : (who : ℕ) (may : State → Type 0) → ((s : State) → may s → refusal_of s who request ≡ None) → (e : Refused) → e ≡ refused_by why → TriesWhere g old.space.left old cut who request may (Err e)
  where_unfinished who may goes e is = subst (λ (x : Refused). TriesWhere g old.space.left old cut who request may (Err x)) (sym is) (record {
    ends = λ s serves none so. ends_unfinished s who serves none (goes s so);
    went = went_unfinished;
  })

  pub tries_unfinished : (who : ℕ) (e : Refused) → e ≡ refused_by why → changes_disk old request ≡ true → ((s : State) → ServesIs g old s → refusal_of s who request ≡ None) → Tries g old cut who request (Err e)
  tries_unfinished who e is changes goes = subst (λ (x : Refused). Tries g old cut who request (Err x)) (sym is) (record {
    keeps = λ none. absurd_keeps changes none;
    ends = λ s serves none. ends_unfinished s who serves none (goes s serves);
    went = went_unfinished;
  })

-- ---- what changes done tell

pub done_decides : (r : Result (Unit {0}) Refused) → IfOk (done_or r) (λ reply. leaves_all reply ≡ false)
done_decides (Ok u) = refl
done_decides (Err e) = tt

pub done_never : (r : Result (Unit {0}) Refused) → r ≢ Err refusals.Memory → done_or r ≢ Err refusals.Memory
done_never (Ok u) never = λ is. cc
done_never (Err e) never = λ is. never (let same : e ≡ refusals.Memory = cc in ap (λ (x : Refused). Err x) same)

-- ---- after reads

-- it couldn't be carried out, after a call that read
pub tries_cut : {D : Type 0} (g : Ghosts D) (left_sized : (d : D) (t : ℕ) (c : Image) → g.left_since d t c → length c ≡ g.blocks d) (sized : (d : D) → IsTrue (g.honest d) → length (g.content d) ≡ g.blocks d)
    (k : Kernel D) (n : ℕ) (d0 : D) (first : OnlyReads g n k.disk d0) (d : D) (space : Kept) (why : Trouble) → FinishesLeft g d0 d k.space space (Err why) → (request : Request) (who : ℕ) (e : Refused) → e ≡ refused_by why → changes_disk k request ≡ true → ((s : State) → ServesIs g k s → refusal_of s who request ≡ None)
    → Tries g k (record k { disk = d; space = space }) who request (Err e)
tries_cut g left_sized sized k n d0 first d space why fin request who e is changes goes = subst (λ (x : Refused). Tries g k (record k { disk = d; space = space }) who request (Err x)) (sym is) (record {
  keeps = λ none. absurd_keeps changes none;
  ends = λ s serves none. ends g n k d0 (record k { disk = d; space = space }) first request k.space.left s who (Err (refused_by why))
      (ends_unfinished g left_sized sized (record k { disk = d0 }) d space why fin request s who (serves_on g n k (record k { disk = d0 }) first refl s serves) none (goes s serves));
  went = went_then g n k d0 (record k { disk = d; space = space }) first request (Err (refused_by why)) (went_unfinished g left_sized sized (record k { disk = d0 }) d space why fin request);
})

-- ---- small steps

-- a damage is told so after tries too
pub damaged_since : (tried : Bool) (damage : Damage) → refused_since tried (refusals.Damaged damage) ≡ refusals.Damaged damage
damaged_since true damage = refl
damaged_since false damage = refl

pub full_since : (tried : Bool) (need : Need) → refused_since tried (refusals.Full need) ≡ refusals.Full need
full_since true need = refl
full_since false need = refl

pub left_none : (w : Option LeftCommit) → is_some w ≡ false → w ≡ None
left_none None is = refl
left_none (Some l) is = cc

-- only after a try can it be refused
pub err_tried : {A : Type 0} (tried : Bool) (r : Result A Refused) (x : A) (e : Refused) → (tried ≡ false → r ≡ Ok x) → r ≡ Err e → tried ≡ true
err_tried true r x e bare is = refl
err_tried false r x e bare is = let no = sym (bare refl) ∙ is in cc

pub ok_is : {A E : Type 0} (a b : A) → ◌≡◌ {A = Result A E} (Ok a) (Ok b) → a ≡ b
ok_is a b is = cc
