-- A request that was asked: of a core that stopped, answered, or refused by what lies below.
use Rattle.std.proofs.Common.{◌≡◌, inl, inr, ⊎_elim, ℕ, ◌-◌, ◌≤◌, List, [], length, true, false, Option, Some, None, Ok, Err, IsTrue, refl, sym, ◌∙◌, ap, subst, arith, sum, eq-eqb}
use Rattle.cfs_base.proofs.Went.{reads_none}
use Rattle.cfs_core.proofs.Words.{After, call, CutInDoubt, Event, Ghosts, Graph, Image, InDoubt, is_carried_out, IsPlainReply, Kept, Late, Listing, next, Puid, refusal_of, Refused, Reply, Request, Rescue, rescues_of, State, stopped_at, wider}
use Rattle.cfs_base.specs.declared.refusal.Refused.TheVariants as refusals
use Rattle.ufs_model.specs.declared.asked.Event.TheVariants as events
use Rattle.ufs_model.specs.declared.asked.Reply.TheVariants as replies
use Rattle.ufs_model.specs.declared.asked.Request.TheVariants as asks
use Rattle.cfs_core.specs.declared.collecting.Collections.{Collections}
use Rattle.cfs_core.specs.declared.kernel.Stop.{Stop}
use Rattle.cfs_core.specs.Asked.{Asks, Happens, IsShortContent, IsToldCause, stopped_by, reply_to}
use Rattle.cfs_core.proofs.Damages.{told_as, told_asked}
use Rattle.cfs_core.specs.Calls.{Answers, CutShort, EndsSo, IsAsItWas, IsCauseOf, IsFinished, IsInDoubt, IsWant, MayBeRead, Owes, Tries, Undone, Whole, is_full_reply, leaves_all}
use Rattle.cfs_core.specs.Damage.{Afterwards, AtOnce, IsDamageTold, IsMet}
use Rattle.cfs_core.specs.Kernel.{Kernel}
use Rattle.cfs_core.specs.Rescues.{AreRescued, ended_by}
use Rattle.cfs_core.specs.StandsFor.{IsFront, ServesIs, Stands, end_in, free_to_come}
use Rattle.cfs_core.proofs.Collected.{collection_asked, collection_ready, rescued_after, same_rescued}
use Rattle.cfs_core.proofs.Lefts.{adds_none, adds_one}
use Rattle.cfs_core.proofs.Serving.{fewer_lost, fits, free_called, honest, pending, running, serves_from, stands_from, stored}
use Rattle.cfs_core.proofs.Stored.{length_in}

plain_goes_on : (reply : Reply) → IsPlainReply reply → (before : Option Stop) → stopped_by reply before ≡ before
plain_goes_on (replies.Disk doubt) plain before = absurd plain
plain_goes_on (replies.Damaged damage moment) plain before = absurd plain
plain_goes_on reply plain before = refl

plain_cause : {D : Type 0} (g : Ghosts D) (old new : Kernel D) (request : Request) (reply : Reply) → IsPlainReply reply → IsToldCause g old new request reply
plain_cause g old new request (replies.Disk doubt) plain = absurd plain
plain_cause g old new request (replies.Damaged damage moment) plain = absurd plain
plain_cause g old new request (replies.Stopped moment) plain = absurd plain
plain_cause g old new request (replies.Full need) plain = absurd plain
plain_cause g old new request reply plain = tt

plain_short : (reply : Reply) → IsPlainReply reply → IsShortContent reply
plain_short (replies.Content bytes) plain = plain
plain_short reply plain = tt

told_short : (refused : Refused) (moment : ℕ) → IsShortContent (reply_to refused moment)
told_short (refusals.Full need) moment = tt
told_short (refusals.Disk false) moment = tt
told_short (refusals.Disk true) moment = tt
told_short (refusals.Damaged damage) moment = tt
told_short refusals.Memory moment = tt

-- no grant ends with what isn't done
no_end : (s : State) (who : ℕ) (request : Request) (reply : Reply) → is_carried_out reply ≡ false → ended_by s who request reply ≡ []
no_end s who (asks.Close grant commit) replies.Done undone = cc
no_end s who request reply undone = refl

-- A call that answered, and whose collector was told of it: `mid` had room for the rescue.
module _ {D : Type 0} (g : Ghosts D) (old : Kernel D) (x : Collections) (ready : AreRescued old.collections.collector x.collector [] []) where
  abbrev roomy : Kernel D
  roomy = record old { collections = x }

  pub serves_roomy : (s : State) → ServesIs g old s → ServesIs g roomy s
  serves_roomy s serves = stored g old s serves x (collection_ready (end_in g old) s old.collections.collector x.collector ready serves.collecting)

  happens : ((d : D) → IsTrue (g.honest d) → length (g.content d) ≡ g.blocks d) → (mid : Kernel D) → g.blocks mid.disk ≡ g.blocks old.disk → (y : Collections) (s : State) (who : ℕ) (request : Request) (reply : Reply) → mid.stop ≡ None → AreRescued x.collector y.collector (rescues_of s who request reply) (ended_by s who request reply) → ServesIs g old s
      → Answers g old.space.left roomy mid s who request reply → Happens g old (record mid { collections = y }) s (events.Ask who request reply)
  happens sized mid size y s who request reply none rescued serves is = record {
    after = is.event.after;
    step = is.event.step;
    stands = stands_from g (record mid { collections = y }) is.event.after none now;
    survives = inl is.event.survives;
    lost = λ _. fewer_lost (end_in g old) (end_in g mid) s.graph is.event.after.graph
        (length_in (g.content mid.disk) mid.space.left ∙ sized mid.disk (honest g (record mid { collections = y }) is.event.after now) ∙ size ∙ sym (sized old.disk (honest g old s serves)) ∙ sym (length_in (g.content old.disk) old.space.left)) is.event.strays;
  }
    where
      now : ServesIs g (record mid { collections = y }) is.event.after
      now = is.event.stores y (collection_asked (end_in g old) (end_in g mid) old.words.seed s is.event.after who request reply is.event.step serves.state is.event.strays x.collector y.collector rescued (serves_roomy s serves).collecting)

  -- there was no memory for the rescue
  pub asks_starved : x.called ≡ old.collections.called → x.finished ≡ old.collections.finished → (who : ℕ) (request : Request) → old.stop ≡ None → Asks g old roomy who request replies.Memory
  asks_starved called finished who request none = record {
    event = λ s stands. record {
      after = s;
      step = refl;
      stands = stands_from g roomy s none (serves_roomy s (serves_from g old s none stands));
      survives = inr (record { disk = refl; after = s; step = refl; graph = refl });
      lost = λ _. omega arith;
    };
    owed = λ _ s stands. tt;
    still = λ _ s stands all. record { same = refl; most = 0; reads = reads_none g 0 old.disk };
    full = λ _ s stands full. let no : false ≡ true = full in cc;
    taken = λ _ s stands done. let no : false ≡ true = done in cc;
    noted = λ _ s stands done. let no : false ≡ true = done in cc;
    stopped = λ stop is. cc;
    stops = λ _. none;
    cause = λ _. tt;
    rescued = λ _ s stands. subst (AreRescued old.collections.collector x.collector []) (sym (no_end s who request replies.Memory refl)) ready;
    called = called;
    finished = finished;
    keeps = λ _. record { space = refl; most = 0; reads = reads_none g 0 old.disk };
    waits = adds_one (g.blocks old.disk) old.collections x [] [] ready called finished (omega arith);
    later = omega arith;
    size = refl;
    faults = omega arith;
    short = tt;
    seed = refl;
    kept = omega arith;
    drawn = omega arith;
  }

-- a core that stopped
pub asks_stopped : {D : Type 0} (g : Ghosts D) (k : Kernel D) (who : ℕ) (request : Request) (stop : Stop) → k.stop ≡ Some stop → Asks g k k who request (replies.Stopped stop.moment)
asks_stopped g k who request stop is = record {
  event = λ s stands. record { after = s; step = step s (subst (Stands g k s) is stands); stands = stands; survives = inr (record { disk = refl; after = s; step = step s (subst (Stands g k s) is stands); graph = refl }); lost = λ _. omega arith };
  owed = λ none. cc;
  still = λ none. cc;
  full = λ none. cc;
  taken = λ none. cc;
  noted = λ none. cc;
  stopped = λ other same. let one : stop ≡ other = cc in (refl, ap (λ (x : Stop). replies.Stopped x.moment) one);
  stops = λ none. cc;
  cause = λ none. absurd (cc (is, none));
  rescued = λ none. cc;
  called = refl;
  finished = refl;
  keeps = λ _. record { space = refl; most = 0; reads = reads_none g 0 k.disk };
  waits = adds_none (g.blocks k.disk) k.collections;
  later = omega arith;
  size = refl;
  faults = omega arith;
  short = tt;
  seed = refl;
  kept = omega arith;
  drawn = omega arith;
}
  where
    step : (s : State) → IsFront k s → next k.words.seed s (events.Ask who request (replies.Stopped stop.moment)) ≡ Some s
    step s front = rw (front.stopped, is, eq-eqb stop.moment stop.moment refl) refl

-- one that answered
pub asks_answered : {D : Type 0} (g : Ghosts D) → ((d : D) → IsTrue (g.honest d) → length (g.content d) ≡ g.blocks d) → (old : Kernel D) (x : Collections) → AreRescued old.collections.collector x.collector [] []
    → x.called ≡ old.collections.called → x.finished ≡ old.collections.finished → (mid : Kernel D) (y : Collections) (who : ℕ) (request : Request) (reply : Reply) (more : List Rescue) (over : List Puid)
    → ((s : State) → ServesIs g (record old { collections = x }) s → (more ≡ rescues_of s who request reply) × (over ≡ ended_by s who request reply)) → AreRescued mid.collections.collector y.collector more over → y.called ≡ mid.collections.called → y.finished ≡ mid.collections.finished → old.stop ≡ None
    → length more ≤ 1 → Tries g (record old { collections = x }) mid who request (Ok reply) → Asks g old (record mid { collections = y }) who request reply
asks_answered {D = D} g sized old x ready called finished mid y who request reply more over are rescued called_on finished_on none few tries = record {
  event = λ s stands. let serves = serves_from g old s none stands in
      happens g old x ready sized mid tries.went.size y s who request reply (tries.went.stop ∙ none) (all_rescued s serves) serves
      (tries.ends s (serves_roomy g old x ready s serves) none);
  owed = λ _ s stands. subst (λ (f : ℕ). Owes old.words.seed s who request (end_in g old) f reply) (free_called g old x old.space.left) (tries.ends s (serves_roomy g old x ready s (serves_from g old s none stands)) none).owed;
  still = λ _ s stands all. let was = (tries.ends s (serves_roomy g old x ready s (serves_from g old s none stands)) none).still all in
      record { same = ap (λ (k : Kernel D). record k { collections = y }) was.same; most = was.most; reads = was.reads };
  full = λ _ s stands full. let was = (tries.ends s (serves_roomy g old x ready s (serves_from g old s none stands)) none).full full in record {
    same = ap (λ (k : Kernel D). record k { collections = y }) was.same;
    none = was.none;
    content = was.content;
    still = λ nothing. let still = was.still nothing in record { same = ap (λ (k : Kernel D). record k { collections = y }) still.same; most = still.most; reads = still.reads };
  };
  keeps = λ none. let was = tries.keeps none in record { space = was.space; most = was.most; reads = was.reads };
  taken = λ _ s stands. (tries.ends s (serves_roomy g old x ready s (serves_from g old s none stands)) none).taken;
  noted = λ _ s stands. (tries.ends s (serves_roomy g old x ready s (serves_from g old s none stands)) none).noted;
  stopped = λ stop is. cc;
  stops = λ _. tries.went.stop ∙ none ∙ sym (plain_goes_on reply tries.went.plain None);
  cause = λ _. plain_cause g old (record mid { collections = y }) request reply tries.went.plain;
  rescued = λ _ s stands. rescued_after old.collections.collector x.collector y.collector (rescues_of s who request reply) (ended_by s who request reply) ready (all_rescued s (serves_from g old s none stands));
  called = called_on ∙ ap (λ (c : Collections). c.called) tries.went.collections ∙ called;
  finished = finished_on ∙ ap (λ (c : Collections). c.finished) tries.went.collections ∙ finished;
  waits = adds_one (g.blocks old.disk) old.collections y more over (rescued_after old.collections.collector x.collector y.collector more over ready (subst (λ (c : Collections). AreRescued c.collector y.collector more over) tries.went.collections rescued))
      (called_on ∙ ap (λ (c : Collections). c.called) tries.went.collections ∙ called) (finished_on ∙ ap (λ (c : Collections). c.finished) tries.went.collections ∙ finished) few;
  later = tries.went.later;
  size = tries.went.size;
  faults = tries.went.faults;
  short = plain_short reply tries.went.plain;
  seed = tries.went.seed;
  kept = tries.went.kept;
  drawn = tries.went.drawn;
}
  where
    all_rescued : (s : State) → ServesIs g old s → AreRescued x.collector y.collector (rescues_of s who request reply) (ended_by s who request reply)
    all_rescued s serves =
        let both = are s (serves_roomy g old x ready s serves) in
        subst (AreRescued x.collector y.collector (rescues_of s who request reply)) both.1
        (subst (λ (m : List Rescue). AreRescued x.collector y.collector m over) both.0 (subst (λ (c : Collections). AreRescued c.collector y.collector more over) tries.went.collections rescued))

-- one that was refused from below
module _ {D : Type 0} (g : Ghosts D) (left_sized : (d : D) (t : ℕ) (c : Image) → g.left_since d t c → length c ≡ g.blocks d) (sized : (d : D) → IsTrue (g.honest d) → length (g.content d) ≡ g.blocks d)
    (old : Kernel D) (x : Collections) (ready : AreRescued old.collections.collector x.collector [] []) (called : x.called ≡ old.collections.called) (finished : x.finished ≡ old.collections.finished) (mid : Kernel D) (size : g.blocks mid.disk ≡ g.blocks old.disk) (who : ℕ) (request : Request) (none : old.stop ≡ None) where
  abbrev stopped_as : Reply → Kernel D
  stopped_as reply = record mid { stop = stopped_by reply mid.stop }

  abbrev doubted : ℕ → Event
  doubted moment = events.Ask who request (replies.Disk (Some moment))

  late : (s : State) (moment : ℕ) → ServesIs g old s → refusal_of s who request ≡ None → (h : Graph) → MayBeRead old.words.seed s who request h → Late old.words.seed s (doubted moment) h
  late s moment serves allowed h Undone = After (doubted moment) (stopped_at moment s) (rw (running g old s serves none) refl)
  late s moment serves allowed h (Whole b names) = InDoubt who b moment request allowed names
  late s moment serves allowed h (CutShort id was now f changes between) = CutInDoubt who moment request id was now f changes between

  in_doubt : (s : State) (moment : ℕ) → ServesIs g old s → IsInDoubt g (roomy g old x ready) mid s who request → Happens g old (stopped_as (replies.Disk (Some moment))) s (events.Ask who request (replies.Disk (Some moment)))
  in_doubt s moment serves is = record {
    after = stopped_at moment s;
    step = rw (running g old s serves none) refl;
    stands = record {
      drawn = serves.front.drawn ∙ sym is.drawn;
      directory = ap (λ (n : Listing). n.named) is.named ∙ serves.front.directory;
      grants = is.grants ∙ serves.front.grants;
      stopped = refl;
    };
    lost = λ none. cc;
    survives = inl (call g left_sized old.words.seed s (doubted moment) old.disk mid.disk (record {
      crashes = wider g old.disk mid.disk _ _ is.leaves (λ c some. record { graph = some.graph; may = inr (late s moment serves is.allowed some.graph some.may); fits = some.fits; holds = some.holds });
      now = λ c left. ⊎_elim
          (λ was. record { graph = s.graph; may = late s moment serves is.allowed s.graph Undone; fits = fits g old s serves (g.blocks mid.disk) (sized old.disk (honest g old s serves) ∙ sym size); holds = pending g old s serves c was })
          (λ some. record { graph = some.graph; may = late s moment serves is.allowed some.graph some.may; fits = some.fits; holds = some.holds }) (is.leaves.now c left);
    }));
  }

  -- nothing is rescued
  nothing : (s : State) (reply : Reply) → is_carried_out reply ≡ false → rescues_of s who request reply ≡ []
  nothing s reply undone = rw undone refl

  refused_so : (reply : Reply) (s : State) → mid.stop ≡ None → mid.collections ≡ x → is_carried_out reply ≡ false → ServesIs g old s → Answers g old.space.left (roomy g old x ready) mid s who request reply → Happens g old mid s (events.Ask who request reply)
  refused_so reply s runs same undone serves is =
      happens g old x ready sized mid size mid.collections s who request reply runs
      (subst (AreRescued x.collector mid.collections.collector (rescues_of s who request reply)) (sym (no_end s who request reply undone))
      (subst (λ (more : List Rescue). AreRescued x.collector mid.collections.collector more []) (sym (nothing s reply undone))
      (subst (λ (c : Collections). AreRescued x.collector c.collector [] []) (sym same) (same_rescued x.collector)))) serves is

  told_happens : (refused : Refused) (moment : ℕ) (s : State) → mid.stop ≡ None → mid.collections ≡ x → ServesIs g old s → EndsSo g old.space.left (roomy g old x ready) mid s who request (Err refused) → Happens g old (stopped_as (reply_to refused moment)) s (events.Ask who request (reply_to refused moment))
  told_happens (refusals.Full need) moment s runs same serves is = refused_so (replies.Full need) s runs same refl serves is
  told_happens (refusals.Disk false) moment s runs same serves is = refused_so (replies.Disk None) s runs same refl serves is
  told_happens (refusals.Disk true) moment s runs same serves is = in_doubt s (moment - 1) serves is
  told_happens (refusals.Damaged damage) moment s runs same serves is = absurd is
  told_happens refusals.Memory moment s runs same serves is = refused_so replies.Memory s runs same refl serves is

  told_owed : (refused : Refused) (moment : ℕ) (s : State) → EndsSo g old.space.left (roomy g old x ready) mid s who request (Err refused) → Owes old.words.seed s who request (end_in g old) (free_to_come g old) (reply_to refused moment)
  told_owed (refusals.Full need) moment s is = subst (λ (f : ℕ). Owes old.words.seed s who request (end_in g old) f (replies.Full need)) (free_called g old x old.space.left) is.owed
  told_owed (refusals.Disk false) moment s is = tt
  told_owed (refusals.Disk true) moment s is = tt
  told_owed (refusals.Damaged damage) moment s is = absurd is
  told_owed refusals.Memory moment s is = tt

  still_roomy : IsAsItWas g (roomy g old x ready) mid → IsAsItWas g (record old { collections = mid.collections }) mid
  still_roomy is = record { same = is.same ∙ ap (λ (c : Collections). record old { disk = mid.disk; collections = c }) (sym (ap (λ (k : Kernel D). k.collections) is.same)); most = is.most; reads = is.reads }

  told_still : (refused : Refused) (moment : ℕ) (s : State) → EndsSo g old.space.left (roomy g old x ready) mid s who request (Err refused) → leaves_all (reply_to refused moment) ≡ true → IsAsItWas g (record old { collections = mid.collections }) (stopped_as (reply_to refused moment))
  told_still (refusals.Full need) moment s is leaves = let no : false ≡ true = leaves in cc
  told_still (refusals.Disk false) moment s is leaves = still_roomy (is.still leaves)
  told_still (refusals.Disk true) moment s is leaves = absurd (cc leaves)
  told_still (refusals.Damaged damage) moment s is leaves = absurd (cc leaves)
  told_still refusals.Memory moment s is leaves = still_roomy (is.still leaves)

  told_full : (refused : Refused) (moment : ℕ) (s : State) → EndsSo g old.space.left (roomy g old x ready) mid s who request (Err refused) → is_full_reply (reply_to refused moment) ≡ true → IsFinished g old.space.left (record old { collections = mid.collections }) (stopped_as (reply_to refused moment))
  told_full (refusals.Full need) moment s is full =
      let was = is.full full in
      record {
        same = was.same ∙ ap (λ (c : Collections). record old { disk = mid.disk; space = mid.space; collections = c }) (sym (ap (λ (k : Kernel D). k.collections) was.same));
        none = was.none;
        content = was.content;
        still = λ nothing. still_roomy (was.still nothing);
      }
  told_full (refusals.Disk false) moment s is full = let no : false ≡ true = full in cc
  told_full (refusals.Disk true) moment s is full = let no : false ≡ true = full in cc
  told_full (refusals.Damaged damage) moment s is full = let no : false ≡ true = full in cc
  told_full refusals.Memory moment s is full = let no : false ≡ true = full in cc

  -- what is met is so of the core without its room
  met_asked : (Of Is : Kernel D → Type 0) → ((d : D) (space : Kept) → Of (record (roomy g old x ready) { disk = d; space = space }) → Is (record old { disk = d; space = space })) → IsMet g (roomy g old x ready) Of → IsMet g old Is
  met_asked Of Is asked (AtOnce is) = AtOnce (asked old.disk old.space is)
  met_asked Of Is asked (Afterwards n read disk space reads fin is) = Afterwards n read disk space reads fin (asked disk space is)

  told_cause : (refused : Refused) → (stop : Option Stop) → IsCauseOf g (roomy g old x ready) mid request refused → IsToldCause g old (record mid { stop = stop }) request (reply_to refused (g.moment mid.disk))
  told_cause (refusals.Full need) stop is = met_asked (λ k. IsWant (Some request) (sum k.space.free) need) (λ k. IsWant (Some request) (sum k.space.free) need) (λ d space was. was) is
  told_cause (refusals.Disk false) stop is = is
  told_cause (refusals.Disk true) stop is = (is, refl)
  told_cause (refusals.Damaged damage) stop is = (
    met_asked (λ k. IsDamageTold g k mid (Some request) damage) (λ k. IsDamageTold g k (record mid { stop = stop }) (Some request) damage)
        (λ d space was. told_as g (record old { disk = d; space = space }) mid (record mid { stop = stop }) (Some request) damage refl refl (told_asked g (record old { disk = d; space = space }) mid x request damage was)) is,
    refl,
  )
  told_cause refusals.Memory stop is = tt

  undone : (refused : Refused) (moment : ℕ) → is_carried_out (reply_to refused moment) ≡ false
  undone (refusals.Full need) moment = refl
  undone (refusals.Disk false) moment = refl
  undone (refusals.Disk true) moment = refl
  undone (refusals.Damaged damage) moment = refl
  undone refusals.Memory moment = refl

  pub asks_refused : (refused : Refused) (new : Kernel D) → new ≡ stopped_as (reply_to refused (g.moment mid.disk)) → Tries g (roomy g old x ready) mid who request (Err refused) → Asks g old new who request (reply_to refused (g.moment mid.disk))
  asks_refused refused new is tries = subst (λ (k : Kernel D). Asks g old k who request (reply_to refused (g.moment mid.disk))) (sym is) (record {
    event = λ s stands. let serves = serves_from g old s none stands in told_happens refused (g.moment mid.disk) s (tries.went.stop ∙ none) tries.went.collections serves (tries.ends s (serves_roomy g old x ready s serves) none);
    still = λ _ s stands. told_still refused (g.moment mid.disk) s (tries.ends s (serves_roomy g old x ready s (serves_from g old s none stands)) none);
    owed = λ _ s stands. told_owed refused (g.moment mid.disk) s (tries.ends s (serves_roomy g old x ready s (serves_from g old s none stands)) none);
    full = λ _ s stands. told_full refused (g.moment mid.disk) s (tries.ends s (serves_roomy g old x ready s (serves_from g old s none stands)) none);
    taken = λ _ s stands done. let no : true ≡ false = sym done ∙ undone refused (g.moment mid.disk) in cc;
    noted = λ _ s stands done. let no : true ≡ false = sym done ∙ undone refused (g.moment mid.disk) in cc;
    keeps = λ none. let was = tries.keeps none in record { space = was.space; most = was.most; reads = was.reads };
    stopped = λ stop same. cc;
    stops = λ _. ap (λ (o : Option Stop). stopped_by (reply_to refused (g.moment mid.disk)) o) (tries.went.stop ∙ none);
    cause = λ _. told_cause refused _ tries.went.cause;
    rescued = λ _ s stands. let none = undone refused (g.moment mid.disk) in
        subst (AreRescued old.collections.collector mid.collections.collector (rescues_of s who request (reply_to refused (g.moment mid.disk)))) (sym (no_end s who request (reply_to refused (g.moment mid.disk)) none))
        (subst (λ (more : List Rescue). AreRescued old.collections.collector mid.collections.collector more []) (sym (nothing s (reply_to refused (g.moment mid.disk)) none))
        (subst (λ (c : Collections). AreRescued old.collections.collector c.collector [] []) (sym tries.went.collections) ready));
    called = ap (λ (c : Collections). c.called) tries.went.collections ∙ called;
    finished = ap (λ (c : Collections). c.finished) tries.went.collections ∙ finished;
    waits = adds_one (g.blocks old.disk) old.collections mid.collections [] [] (subst (λ (c : Collections). AreRescued old.collections.collector c.collector [] []) (sym tries.went.collections) ready)
        (ap (λ (c : Collections). c.called) tries.went.collections ∙ called) (ap (λ (c : Collections). c.finished) tries.went.collections ∙ finished) (omega arith);
    later = tries.went.later;
    size = size;
    faults = tries.went.faults;
    short = told_short refused (g.moment mid.disk);
    seed = tries.went.seed;
    kept = tries.went.kept;
    drawn = tries.went.drawn;
  })
