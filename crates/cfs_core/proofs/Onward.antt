-- A call on a slot of an index whose root was read before: it carries out what was left of a commit, reads the root
-- again where parts were made, and goes on.
use Rattle.std.proofs.Common.{◌≡◌, ◌≢◌, inl, ℕ, ◌+◌, ◌*◌, ◌<◌, length, Bool, true, false, Option, Some, None, Result, Ok, Err, IsTrue, refl, sym, ◌∙◌, ap, subst, arith, IfOk, is_some}
use Rattle.cfs_core.proofs.Words.{Ghosts, has_met_damage, has_root_in, Image, Index, Kept, OnlyReads, Puid, refusal_of, Refused, refused_by, Reply, Request, reads_then, State, Trouble}
use Rattle.block_tree.specs.declared.root.Root.{Root}
use Rattle.cfs_base.specs.Run.{Tells}
use Rattle.cfs_base.specs.declared.refusal.Refused.TheVariants as refusals
use Rattle.cyl_alloc.specs.Left.{LeftCommit, block_shown}
use Rattle.intentions.proofs.Shown.{store_tells}
use Rattle.normal_files.specs.Standing.{IsRootAt}
use Rattle.ufs_model.specs.declared.object.Object.TheVariants as objects
use Rattle.cfs_core.specs.Calls.{EndsSo, RequestWent, TriesOn, leaves_all}
use Rattle.cfs_core.specs.Damage.{IsOutside, bytes_wanted}
use Rattle.cfs_core.specs.Finished.{FinishesLeft, refused_since, since}
use Rattle.cfs_core.specs.Kernel.{Kernel}
use Rattle.cfs_core.specs.Looks.{IsReadCause, KnowsObject}
use Rattle.cfs_core.specs.StandsFor.{CoreServes, ServesIs, drafts_of_handles}
use Rattle.cfs_core.specs.Ways.{Reaches}
use Rattle.cfs_core.proofs.After.{ends}
use Rattle.cfs_core.proofs.Answering.{failing, failing_cause, memory}
use Rattle.cfs_core.proofs.Damages.{told_of_root}
use Rattle.cfs_core.proofs.Joined.{ends_since, ends_unfinished, serves_mid, since_none, went_since, went_unfinished}
use Rattle.cfs_core.proofs.Serving.{serves_is, serves_on}
use Rattle.cfs_core.proofs.Views.{knows_that}
use Rattle.cfs_core.proofs.Went.{went_so, went_then}

module _ {D : Type 0} (g : Ghosts D) (left_sized : (d : D) (t : ℕ) (c : Image) → g.left_since d t c → length c ≡ g.blocks d) (sized : (d : D) → IsTrue (g.honest d) → length (g.content d) ≡ g.blocks d)
    (k : Kernel D) (n : ℕ) (d0 : D) (first : OnlyReads g n k.disk d0) (id : Puid) (slot : ℕ) (request : Request) where
  abbrev before : Kernel D
  before = record k { disk = d0 }

  -- memory is wanted
  pub on_want : (e : Refused) → e ≡ refusals.Memory → TriesOn g k before id slot request (Err e)
  on_want e is = subst (λ (x : Refused). TriesOn g k before id slot request (Err x)) (sym is) (record {
    ends = λ s who i serves none reach shut inside goes. memory g left_sized sized n k before first refl s who serves none request;
    went = λ named. went_so g k d0 k.space k.handles first.same.size first.faults first.images.later request (Err refusals.Memory) tt tt;
  })

  -- what was left couldn't be carried out
  pub on_cut : (d : D) (space : Kept) (why : Trouble) → FinishesLeft g d0 d k.space space (Err why) → TriesOn g k (record k { disk = d; space = space }) id slot request (Err (refused_by why))
  on_cut d space why fin = record {
    ends = λ s who i serves none reach shut inside goes. ends g n k d0 (record k { disk = d; space = space }) first request k.space.left s who (Err (refused_by why))
        (ends_unfinished g left_sized sized before d space why fin request s who (serves_on g n k before first refl s serves) none goes);
    went = λ named. went_then g n k d0 (record k { disk = d; space = space }) first request (Err (refused_by why)) (went_unfinished g left_sized sized before d space why fin request);
  }

  module _ (d1 : D) (space1 : Kept) (tried : Bool) (fin : FinishesLeft g d0 d1 k.space space1 (Ok tried)) (m : ℕ) (d2 : D) (again : OnlyReads g m d1 d2) where
    abbrev mid : Kernel D
    mid = record k { disk = d1; space = space1 }

    abbrev read : Kernel D
    read = record k { disk = d2; space = space1 }

    serves_there : (s : State) → ServesIs g k s → CoreServes g mid s
    serves_there s serves = serves_mid g before d1 space1 tried fin s (serves_on g n k before first refl s serves)

    pub all : k.space.left ≡ None → OnlyReads g (n + m) k.disk d2
    all nothing = reads_then g k.disk d0 d2 n m (n + m) first (subst (λ (x : D). OnlyReads g m x d2) (fin.none nothing).0 again) (omega arith)

    -- the root is there: that which was read, or, where parts were made, that which was read again
    module _ (root : Root) (bare : tried ≡ false → Tells g k.disk → IsRootAt (g.content k.disk) id.block root) (anew : tried ≡ true → Tells g d1 → IsRootAt (g.content d1) id.block root) where
      pub rooted_there : (s : State) → ServesIs g k s → IsRootAt (g.content d2) id.block root
      rooted_there s serves = by k.space.left refl
        where
          by : (w : Option LeftCommit) → k.space.left ≡ w → IsRootAt (g.content d2) id.block root
          by None nothing = subst (λ (a : Image). IsRootAt a id.block root) (sym (all nothing).content) (bare (fin.told ∙ ap is_some nothing) (store_tells g s.graph (drafts_of_handles k.handles s.grants) k.disk k.space serves.store))
          by (Some l) left = subst (λ (a : Image). IsRootAt a id.block root) (sym again.content) (anew (fin.told ∙ ap is_some left) (serves_there s serves).store.carries.tells)

    module _ (new : Kernel D) (result : Result Reply Refused) (size : g.blocks new.disk ≡ g.blocks d1) (decides : IfOk result (λ reply. leaves_all reply ≡ false)) (never : result ≢ Err refusals.Memory) where
      abbrev pub Does : Kernel D → Type 0
      Does from = (s : State) (who : ℕ) (i : Index) → ServesIs g k s → CoreServes g from s → k.stop ≡ None → Reaches s who request id (objects.Index i) → (drafts_of_handles k.handles s.grants) id ≡ None
          → slot < length i.slots → refusal_of s who request ≡ None → EndsSo g None from new s who request result

      abbrev pub Goes : Kernel D → Type 0
      Goes from = has_root_in k.directory.named id.block ≡ true → RequestWent g from new request result

      -- what the call did then is what it did; on any disk it is told of the core before, where nothing was left, and
      -- else of the core once that was carried out
      pub on_joined : Does mid → (tried ≡ false → Goes k) → (tried ≡ true → Goes mid) → TriesOn g k new id slot request (since tried result)
      on_joined does bare anew = record {
        ends = λ s who i serves none reach shut inside goes. ends g n k d0 new first request k.space.left s who (since tried result)
            (ends_since g before d1 space1 tried fin left_sized sized new s who request (serves_on g n k before first refl s serves) none goes result (λ some. decides) (λ some. never) size
            (does s who i serves (serves_there s serves) none reach shut inside goes));
        went = λ named. by k.space.left refl named;
      }
        where
          by : (w : Option LeftCommit) → k.space.left ≡ w → has_root_in k.directory.named id.block ≡ true → RequestWent g k new request (since tried result)
          by None nothing named =
              let none : tried ≡ false = fin.told ∙ ap is_some nothing in
              subst (λ (b : Bool). RequestWent g k new request (since b result)) (sym none) (subst (RequestWent g k new request) (sym (since_none result)) (bare none named))
          by (Some l) left named = went_then g n k d0 new first request (since tried result) (went_since g before d1 space1 tried fin new request result (anew (fin.told ∙ ap is_some left) named))

      -- after the root was read again, or wasn't
      pub does_then : Does read → Does mid
      does_then does s who i serves there none reach shut inside goes = ends g m mid d2 new again request None s who result (does s who i serves (serves_on g m mid read again refl s there) none reach shut inside goes)

      -- a call of which nothing is told but what it met then
      pub on_then : Does read → Goes read → TriesOn g k new id slot request (since tried result)
      on_then does went = on_joined (does_then does) (λ none named. by k.space.left refl none named) (λ some named. went_then g m mid d2 new again request result (went named))
        where
          by : (w : Option LeftCommit) → k.space.left ≡ w → tried ≡ false → Goes k
          by None nothing none named = went_then g (n + m) k d2 new (all nothing) request result (subst (λ (x : Kept). RequestWent g (record k { disk = d2; space = x }) new request result) (fin.none nothing).1 (went named))
          by (Some l) left none named = let no : true ≡ false = sym (fin.told ∙ ap is_some left) ∙ none in cc

    -- the root couldn't be read again, or has no such slot
    pub on_unread : tried ≡ true → bytes_wanted (Some request) ≡ 8 * slot + 8 → (e : Refused) → IsReadCause g (IsOutside (Tells g d1) (g.content d1) (g.blocks d1) (λ b. b ≡ id.block) (8 * slot + 8)) d1 d2 e
        → ((i : Index) → KnowsObject g d1 id.block (objects.Index i) → slot < length i.slots → has_met_damage e ≡ false) → e ≢ refusals.Memory → TriesOn g k read id slot request (Err (refused_since tried e))
    on_unread some wants e cause sound never = on_joined read (Err e) again.same.size tt other
        (λ s who i serves now none reach shut inside goes.
        let knows = knows_that g mid s (serves_is g mid s now) id (objects.Index i) id.block (ap (λ (w : Option LeftCommit). block_shown w id.block) (sym fin.done)) reach.there in
        failing g left_sized sized m mid read again refl s who now none _ e cause (sound i knows inside) request)
        (λ none. let no : true ≡ false = sym some ∙ none in cc)
        (λ _ named. went_so g mid d2 space1 k.handles again.same.size again.faults again.images.later request (Err e) tt
        (failing_cause g mid read _ e cause request (λ damage why. told_of_root g mid read request id.block damage (inl named) (8 * slot + 8) wants why)))
      where
        other : ◌≢◌ {A = Result Reply Refused} (Err e) (Err refusals.Memory)
        other = λ is. never (let same : e ≡ refusals.Memory = cc in same)
