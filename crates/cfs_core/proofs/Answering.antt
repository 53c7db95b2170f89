-- How a call ends that only reads: a refusal, what was asked for, or the failure of a device call.
use Rattle.std.proofs.Common.{◌≡◌, inl, inr, ℕ, [], length, Bool, true, false, Option, Some, None, Result, Ok, Err, IsTrue, refl, sym, ◌∙◌, ap, subst, arith, IfErr, IfOk, List}
use Rattle.cfs_base.proofs.Went.{reads_none}
use Rattle.cfs_core.proofs.Words.{AFile, AnIndex, answer_legal, creates, Either, Event, Ghosts, Image, has_met_damage, IsPlainReply, Kind, need_of, next, Object, OnlyReads, outcome_legal, outcome_plain, Puid, refusal_of, Refused, refused_answer, refused_plain, Reply, Request, State, Wanted, MapEntry, HasStopped}
use Rattle.cfs_base.specs.declared.kind.Kind.TheVariants as kinds
use Rattle.cfs_base.specs.declared.refusal.Refused.TheVariants as refusals
use Rattle.ufs_model.specs.declared.asked.Event.TheVariants as events
use Rattle.ufs_model.specs.declared.asked.Reply.TheVariants as replies
use Rattle.std.specs.Prelude.{if◌then◌else◌, not, ◌&&◌, ◌==◌}
use Rattle.cyl_alloc.specs.Left.{LeftCommit, block_shown}
use Rattle.intentions.specs.Left.{coming}
use Rattle.puid_space.specs.Directory.{has_root_in}
use Rattle.cfs_core.specs.Calls.{Answers, ByOutcome, ByRefusal, EndsSo, IsCause, IsFinished, IsOwed, MakesEvent, Owes, Tries, TriesWith, RequestWent, is_full_reply}
use Rattle.cfs_core.specs.Commits.{commits}
use Rattle.cfs_core.specs.Kernel.{Kernel}
use Rattle.cfs_core.specs.Looks.{IsCalm, IsCalmCause, KnowsObject, ReachesAll, IsReadCause}
use Rattle.cfs_base.specs.declared.refusal.Damage.{Damage}
use Rattle.cfs_core.specs.StandsFor.{ServesIs, ServesWith, end_in, free_with}
use Rattle.cfs_core.specs.Ways.{Reaches, unfit_of}
use Rattle.cfs_core.proofs.Refusing.{IsSeen}
use Rattle.cfs_core.specs.Damage.{IsDamageTold, IsRootHere}
use Rattle.cfs_core.proofs.Damages.{told_of_read}
use Rattle.cfs_core.proofs.Views.{knows_that}
use Rattle.cfs_core.proofs.Went.{went_so}
use Rattle.cfs_core.proofs.Serving.{end_same, honest, running, stays}
use Rattle.cfs_core.specs.Claimed.{ClaimsStay, is_set_size, claims_for, owners_of}
use Rattle.cfs_core.proofs.Claimed.{alone_not, claims_none, refused_undone, takes_alone}

-- what is owed is so of a reply in which no device call failed
pub owes : (seed : ℕ) (s : State) (who : ℕ) (request : Request) (image : Image) (free : ℕ) (reply : Reply) → IsPlainReply reply → IsOwed seed s who request image free reply → Owes seed s who request image free reply
owes seed s who request image free replies.Memory plain owed = tt
owes seed s who request image free (replies.Disk doubt) plain owed = tt
owes seed s who request image free (replies.Damaged damage moment) plain owed = absurd plain
owes seed s who request image free (replies.Stopped moment) plain owed = absurd plain
owes seed s who request image free reply plain owed = owed

-- a reply that tells of no disk is never Full
pub plain_unfull : (reply : Reply) → IsPlainReply reply → is_full_reply reply ≡ false
plain_unfull (replies.Full need) plain = absurd plain
plain_unfull reply plain = refl

-- why a read failed
pub failing_cause : {D : Type 0} (g : Ghosts D) (old new : Kernel D) (So : Damage → Type 0) (e : Refused) → IsReadCause g So old.disk new.disk e → (request : Request) → ((damage : Damage) → So damage → IsDamageTold g old new (Some request) damage) → IsCause g old new (Some request) e
failing_cause g old new So (refusals.Full need) cause request told = absurd cause
failing_cause g old new So (refusals.Disk tried) cause request told = subst (λ (b : Bool). HasStopped g b old.disk new.disk) (sym cause.0) cause.1
failing_cause g old new So (refusals.Damaged damage) cause request told = told damage cause
failing_cause g old new So refusals.Memory cause request told = tt

module _ {D : Type 0} {w : Option LeftCommit} (g : Ghosts D) (left_sized : (d : D) (t : ℕ) (c : Image) → g.left_since d t c → length c ≡ g.blocks d) (sized : (d : D) → IsTrue (g.honest d) → length (g.content d) ≡ g.blocks d)
    (n : ℕ) (old new : Kernel D) (reads : OnlyReads g n old.disk new.disk) (same : new ≡ record old { disk = new.disk }) where
  module _ (s : State) (who : ℕ) (serves : ServesWith g old s w) (none : old.stop ≡ None) where
    on : (e : Event) → next old.words.seed s e ≡ Some s → MakesEvent g w old new s e
    on e step = stays g n old new reads same s serves left_sized (sized old.disk (honest g old s serves)) e step

    pub refused : (request : Request) (reply : Reply) → refusal_of s who request ≡ Some reply → Answers g w old new s who request reply
    refused request reply is = record {
      event = on (events.Ask who request reply) (answer_legal old.words.seed s who request reply s (running g old s serves none) (refused_answer old.words.seed s who request reply is));
      still = λ all. record { same = same; most = n; reads = reads };
      full = λ full. let no : true ≡ false = sym full ∙ plain_unfull reply (refused_plain s who request reply is) in cc;
      owed = owes old.words.seed s who request (coming (g.content old.disk) w) (free_with g old w) reply (refused_plain s who request reply is) (ByRefusal is);
      taken = λ done. let no : true ≡ false = sym done ∙ refused_undone s who request reply is in cc;
      noted = λ done. let no : true ≡ false = sym done ∙ refused_undone s who request reply is in cc;
    }

    -- what was asked for, or a refusal
    pub seen : (request : Request) (reply : Reply) → need_of s who request ≡ 0 → creates request ≡ false → commits s who request ≡ false → claims_for old.handles s who request reply ≡ [] → IsSeen old.words.seed s who request reply → Answers g w old new s who request reply
    seen request reply need makes still claims (inl is) = refused request reply is
    seen request reply need makes still claims (inr two) =
        let done = two.1 0 in
        let legal = outcome_legal old.words.seed s who request 0 (running g old s serves none) two.0 (λ made. let no : true ≡ false = sym made ∙ makes in cc) in
        let step : next old.words.seed s (events.Ask who request reply) ≡ Some s = subst (λ (p : Reply × State). next old.words.seed s (events.Ask who request p.0) ≡ Some p.1) done legal in
        let plain = subst (λ (p : Reply × State). IsPlainReply p.0) done (outcome_plain old.words.seed s who request 0 serves.state two.0) in
        record {
          event = on (events.Ask who request reply) step;
          still = λ all. record { same = same; most = n; reads = reads };
          full = λ full. let no : true ≡ false = sym full ∙ plain_unfull reply plain in cc;
          noted = λ done some. let no : true ≡ false = sym some ∙ still in cc;
          owed = owes old.words.seed s who request (coming (g.content old.disk) w) (free_with g old w) reply plain (ByOutcome two.0 (record {
            block = 0;
            least = λ made. let no : true ≡ false = sym made ∙ makes in cc;
            reply_is = sym (ap (λ (p : Reply × State). p.0) done);
            room = λ short. omega (arith, short.few, serves.four, need);
          }));
          taken = λ taken. takes_alone old.handles s who request reply (coming (g.content old.disk) w) (end_in g new) (alone_not s who request still) (subst (λ (cs : List MapEntry). ClaimsStay (is_set_size request) cs (owners_of s who request reply) (coming (g.content old.disk) w) (end_in g new)) (sym claims)
              (claims_none (owners_of s who request reply) (coming (g.content old.disk) w) (end_in g new) (end_same g n old new reads same s serves)));
        }

    pub disk_failed : (request : Request) → Answers g w old new s who request (replies.Disk None)
    disk_failed request = record {
      event = on (events.Ask who request (replies.Disk None)) (rw (running g old s serves none) refl);
      still = λ all. record { same = same; most = n; reads = reads };
      full = λ full. let no : false ≡ true = full in cc;
      owed = tt;
      taken = λ done. let no : false ≡ true = done in cc;
      noted = λ done. let no : false ≡ true = done in cc;
    }

    pub memory : (request : Request) → Answers g w old new s who request replies.Memory
    memory request = record {
      event = on (events.Ask who request replies.Memory) refl;
      still = λ all. record { same = same; most = n; reads = reads };
      full = λ full. let no : false ≡ true = full in cc;
      owed = tt;
      taken = λ done. let no : false ≡ true = done in cc;
      noted = λ done. let no : false ≡ true = done in cc;
    }

    -- a read that failed, and met no damage
    pub failing : (So : Damage → Type 0) (e : Refused) → IsReadCause g So old.disk new.disk e → has_met_damage e ≡ false → (request : Request) → EndsSo g w old new s who request (Err e)
    failing So (refusals.Full need) cause sound request = absurd cause
    failing So (refusals.Disk tried) cause sound request = subst (λ (b : Bool). EndsSo g w old new s who request (Err (refusals.Disk b))) (sym cause.0) (disk_failed request)
    failing So (refusals.Damaged damage) cause sound request = let no : true ≡ false = sound in cc
    failing So refusals.Memory cause sound request = memory request

    -- nothing was written, so where nothing was left it is as after a finishing
    pub full_still : w ≡ None → IsFinished g w old new
    full_still nothing = record {
      same = subst (λ (k : Kernel D). k ≡ record old { disk = k.disk; space = k.space }) (sym same) refl;
      none = ap (λ (k : Kernel D). k.space.left) same ∙ serves.left ∙ nothing;
      content = reads.content ∙ ap (coming (g.content old.disk)) (sym nothing);
      still = λ _. record { same = same; most = n; reads = reads };
    }

  -- what the call itself owes
  pub tries_so : (who : ℕ) (request : Request) (result : Result Reply Refused) → ((s : State) → ServesWith g old s w → old.stop ≡ None → EndsSo g w old new s who request result)
      → IfOk result IsPlainReply → IfErr result (IsCause g old new (Some request)) → TriesWith g w old new who request result
  tries_so who request result ends plain cause = record {
    ends = ends;
    keeps = λ _. record { space = ap (λ (k : Kernel D). k.space) same; most = n; reads = reads };
    went = subst (λ (k : Kernel D). RequestWent g old k request result) (sym same) (went_so g old new.disk old.space old.handles reads.same.size reads.faults reads.images.later request result plain (subst (λ (k : Kernel D). IfErr result (IsCause g old k (Some request))) same cause));
  }

  -- memory is wanted
  pub tries_want : (who : ℕ) (request : Request) (e : Refused) → e ≡ refusals.Memory → TriesWith g w old new who request (Err e)
  tries_want who request e is = subst (λ (x : Refused). TriesWith g w old new who request (Err x)) (sym is) (tries_so who request (Err refusals.Memory) (λ s serves none. memory s who serves none request) tt tt)

  -- a read that failed
  pub tries_failing : (So : Damage → Type 0) (e : Refused) → IsReadCause g So old.disk new.disk e → (who : ℕ) (request : Request) → ((s : State) → ServesWith g old s w → has_met_damage e ≡ false) → ((damage : Damage) → So damage → IsDamageTold g old new (Some request) damage) → TriesWith g w old new who request (Err e)
  tries_failing So e cause who request sound told = tries_so who request (Err e) (λ s serves none. failing s who serves none So e cause (sound s serves) request) tt (failing_cause g old new So e cause request told)

-- the block at which an object is shown that has a name
pub shown_here : {D : Type 0} (k : Kernel D) (request : Request) (root at : ℕ) → at ≡ block_shown k.space.left root → has_root_in k.directory.named root ≡ true → IsRootHere k (Some request) at
shown_here k request root at shown named = subst (IsRootHere k (Some request)) (sym shown) (by k.space.left refl)
  where
    in_place : (l : LeftCommit) → k.space.left ≡ Some l → (b : Bool) → IsRootHere k (Some request) (if b then l.shadow else root)
    in_place l left true = inr (inr (l, left, refl))
    in_place l left false = inl named

    by : (w : Option LeftCommit) → k.space.left ≡ w → IsRootHere k (Some request) (block_shown w root)
    by None left = inl named
    by (Some l) left = in_place l left ((l.root == root) && not l.copied)

-- a request for something else than an object of this kind
pub unfit_plain : (wants : Wanted) (k : Option Kind) (reply : Reply) → unfit_of wants k ≡ Some reply → IsPlainReply reply
unfit_plain wants None reply is = let same : replies.NoObject ≡ reply = cc in subst IsPlainReply same tt
unfit_plain AnIndex (Some kinds.Index) reply is = cc
unfit_plain AnIndex (Some kinds.Normal) reply is = let same : replies.NotIndex ≡ reply = cc in subst IsPlainReply same tt
unfit_plain AnIndex (Some kinds.Special) reply is = let same : replies.NotIndex ≡ reply = cc in subst IsPlainReply same tt
unfit_plain AFile (Some kinds.Index) reply is = let same : replies.NotFile ≡ reply = cc in subst IsPlainReply same tt
unfit_plain AFile (Some kinds.Normal) reply is = cc
unfit_plain AFile (Some kinds.Special) reply is = cc
unfit_plain Either (Some k) reply is = cc

-- a request that is refused as the core stands
pub tries_refusal : {D : Type 0} (g : Ghosts D) (left_sized : (d : D) (t : ℕ) (c : Image) → g.left_since d t c → length c ≡ g.blocks d) (sized : (d : D) → IsTrue (g.honest d) → length (g.content d) ≡ g.blocks d)
    (k : Kernel D) (who : ℕ) (request : Request) (reply : Reply) → IsPlainReply reply → ((s : State) → ServesIs g k s → refusal_of s who request ≡ Some reply) → Tries g k k who request (Ok reply)
tries_refusal g left_sized sized k who request reply plain is = tries_so g left_sized sized 0 k k (reads_none g 0 k.disk) refl who request (Ok reply)
    (λ s serves none. refused g left_sized sized 0 k k (reads_none g 0 k.disk) refl s who serves none request reply (is s serves)) plain tt

-- ---- a request that reads an object

module _ {D A : Type 0} (g : Ghosts D) (left_sized : (d : D) (t : ℕ) (c : Image) → g.left_since d t c → length c ≡ g.blocks d) (sized : (d : D) → IsTrue (g.honest d) → length (g.content d) ≡ g.blocks d)
    (sort : A → Object) (k : Kernel D) (id : Puid) (at : ℕ) (shown : at ≡ block_shown k.space.left id.block) (who : ℕ) (request : Request) (reaches : ReachesAll g sort k who request id) (n : ℕ) (d : D) where
  abbrev IsReplied : (A → Reply) → Type 0
  IsReplied says = (s : State) (a : A) → ServesIs g k s → Reaches s who request id (sort a) → (need_of s who request ≡ 0) × IsSeen k.words.seed s who request (says a)

  abbrev knows : (s : State) → ServesIs g k s → (a : A) × KnowsObject g k.disk at (sort a)
  knows s serves = let r = reaches.0 s serves in (r.0, knows_that g k s serves id (sort r.0) at shown r.1.there)

  -- the disk couldn't be read
  pub tries_failed : (e : Refused) → OnlyReads g n k.disk d → ((a : A) → KnowsObject g k.disk at (sort a) → has_met_damage e ≡ false) → IsCalmCause g at k.disk d e → Tries g k (record k { disk = d }) who request (Err e)
  tries_failed e reads sound cause = tries_failing g left_sized sized n k (record k { disk = d }) reads refl _ e cause who request (λ s serves. sound (knows s serves).0 (knows s serves).1)
      (λ damage why. told_of_read g k (record k { disk = d }) request at damage (shown_here k request id.block at shown reaches.1) why)

  pub tries_seen : (says : A → Reply) (result : Result Reply Refused) → creates request ≡ false → ((s : State) → commits s who request ≡ false) → ((s : State) (reply : Reply) → claims_for k.handles s who request reply ≡ []) → IsReplied says → IfOk result IsPlainReply
      → ((a : A) → KnowsObject g k.disk at (sort a) → IfOk result (λ reply. reply ≡ says a)) → IsCalm g sort n at k.disk d result → Tries g k (record k { disk = d }) who request result
  tries_seen says (Ok reply) makes still claims replied plain exact calm = tries_so g left_sized sized n k (record k { disk = d }) calm.reads refl who request (Ok reply)
      (λ s serves none.
      let r = reaches.0 s serves in
      let two = replied s r.0 serves r.1 in
      subst (Answers g k.space.left k (record k { disk = d }) s who request) (sym (exact r.0 (knows s serves).1)) (seen g left_sized sized n k (record k { disk = d }) calm.reads refl s who serves none request (says r.0) two.0 makes (still s) (claims s (says r.0)) two.1))
      plain tt
  tries_seen says (Err e) makes still claims replied plain exact calm = tries_failed e calm.reads calm.sound calm.cause

  -- it is refused
  pub tries_refused : (reply : Reply) → IsPlainReply reply → OnlyReads g n k.disk d
      → ((s : State) (a : A) → ServesIs g k s → Reaches s who request id (sort a) → KnowsObject g k.disk at (sort a) → refusal_of s who request ≡ Some reply) → Tries g k (record k { disk = d }) who request (Ok reply)
  tries_refused reply plain reads is = tries_so g left_sized sized n k (record k { disk = d }) reads refl who request (Ok reply)
      (λ s serves none. let r = reaches.0 s serves in refused g left_sized sized n k (record k { disk = d }) reads refl s who serves none request reply (is s r.0 serves r.1 (knows s serves).1)) plain tt
