-- What a request that reads tells, and that it leaves the graph.
use Rattle.std.proofs.Common.{◌≡◌, inl, ℕ, ◌+◌, ◌<◌, ◌≤◌, Bool, true, false, Option, Some, None, [], refl, sym, ◌∙◌, ap, subst, arith, length}
use Rattle.std.specs.Prelude.{Err, Result, is_none, nat_le, slice_range}
use Rattle.std.proofs.lemmas.Bool.Decides.{nat_tests}
use Rattle.cfs_base.specs.declared.identifier.Puid.{Puid}
use Rattle.ufs_model.specs.declared.asked.Ref.TheVariants.{Direct}
use Rattle.ufs_model.specs.declared.asked.Reply.{Reply}
use Rattle.ufs_model.specs.declared.asked.Reply.TheVariants as replies
use Rattle.ufs_model.specs.declared.asked.Request.{Request}
use Rattle.ufs_model.specs.declared.asked.Request.TheVariants as asks
use Rattle.ufs_model.specs.declared.asker.Asker.{Ghosts}
use Rattle.ufs_model.specs.declared.object.File.{File}
use Rattle.ufs_model.specs.declared.object.Index.{Index}
use Rattle.ufs_model.specs.declared.object.Object.{Object}
use Rattle.ufs_model.specs.declared.object.Object.TheVariants as objects
use Rattle.ufs_model.specs.Asks.{IsAsked, IsExactIn, only_reads}
use Rattle.ufs_model.specs.Came.{ByOutcome, ByRefusal, ByTrouble, ByWant, Came, IsTroubleIn, after_trouble}
use Rattle.ufs_model.specs.Graph.{object_at}
use Rattle.ufs_model.specs.Object.{slot_of}
use Rattle.ufs_model.specs.Outcome.{outcome_of}
use Rattle.ufs_model.specs.Plain.{answer_of, refused_or}
use Rattle.ufs_model.specs.Refusal.{is_open_for_writing, is_range, refusal_of}
use Rattle.ufs_model.specs.State.{State, is_running}
use Rattle.ufs_model.proofs.Came.{came}
use Rattle.name_dirs.specs.declared.fault.DirFault.{DirFault}
use Rattle.name_dirs.specs.declared.fault.DirFault.TheVariants as faults
use Rattle.name_dirs.specs.Calls.{ReadsOn}
use Rattle.name_dirs.specs.Chain.{Start, Then}
use Rattle.name_dirs.specs.Directory.{file_at, file_in, index_at, index_in}
use Rattle.name_dirs.specs.Faults.{TellsHalt, fault_told}
use Rattle.name_dirs.specs.Reading.{IsLookFault, IsReadFault, Looks, TellsRead, content_told, number_told, slot_told}
use Rattle.name_dirs.proofs.Chains.{keeps_same}

-- ---- objects as indices and files

pub index_is : (o : Option Object) (i : Index) → index_in o ≡ Some i → o ≡ Some (objects.Index i)
index_is None i is = cc is
index_is (Some (objects.File f)) i is = cc is
index_is (Some (objects.Index j)) i is = let same : j ≡ i = cc is in ap (λ (k : Index). Some (objects.Index k)) same

pub file_is : (o : Option Object) (f : File) → file_in o ≡ Some f → o ≡ Some (objects.File f)
file_is None f is = cc is
file_is (Some (objects.File e)) f is = let same : e ≡ f = cc is in ap (λ (k : File). Some (objects.File k)) same
file_is (Some (objects.Index i)) f is = cc is

-- ---- a stop

pub never : (stopped : Option ℕ) (moment : ℕ) → is_none stopped ≡ true → stopped ≡ Some moment → ⊥
never None moment runs is = cc is
never (Some m) moment runs is = cc runs

-- of one that runs
pub runs_on : (s : State) (fault : DirFault) → is_running s ≡ true → TellsHalt s fault
runs_on s fault runs = λ moment is. absurd (never s.stopped moment runs is)

-- ---- a request that reads

same_outcome : (seed : ℕ) (s : State) (who : ℕ) (request : Request) (b : ℕ) → only_reads request ≡ true → ((outcome_of seed s who request b).0 ≡ (outcome_of seed s who request 0).0) × ((outcome_of seed s who request b).1 ≡ s)
same_outcome seed s who (asks.Retrieve index slot) b reads = (refl, refl)
same_outcome seed s who (asks.Slots index) b reads = (refl, refl)
same_outcome seed s who (asks.Read file offset count) b reads = (refl, refl)
same_outcome seed s who (asks.Size file) b reads = (refl, refl)
same_outcome seed s who request b reads = cc reads

pub loss_graph : (r : Reply) (s : State) → ((after_trouble r s).graph ≡ s.graph) × ((after_trouble r s).grants ≡ s.grants) × ((after_trouble r s).collection ≡ s.collection)
loss_graph (replies.Disk (Some moment)) s = (refl, refl, refl)
loss_graph (replies.Damaged damage moment) s = (refl, refl, refl)
loss_graph r s = (refl, refl, refl)

-- the replies that tell trouble, of whatever is wanted, and that the cause allows them
pub record IsTold {E : Type 0} (s : State) (tell : Reply → Result E DirFault) (Cause : DirFault → Type 0) : Type 0 where
  pub errs : (r : Reply) → IsTroubleIn s r → tell r ≡ Err (fault_told r)
  pub memory : Cause faults.Memory
  pub disk : (doubt : Option ℕ) → Cause (faults.Asked (replies.Disk doubt))
  pub stop : (moment : ℕ) → s.stopped ≡ Some moment → Cause (faults.Asked (replies.Stopped moment))

-- trouble is told as it is
pub told_so : {E : Type 0} (s t : State) (tell : Reply → Result E DirFault) (Is : E → Type 0) (Cause : DirFault → Type 0) (cylinders : ℕ) (request : Request) (told : IsTold s tell Cause) (r : Reply) → IsTroubleIn s r → IsExactIn cylinders s request r → t ≡ after_trouble r s
    → TellsRead s Is Cause (tell r) t
told_so s t tell Is Cause cylinders request told replies.Memory lost exact to = rw (told.errs replies.Memory lost) (to, (λ moment is. tt), told.memory)
told_so s t tell Is Cause cylinders request told (replies.Stopped moment) lost exact to = rw (told.errs (replies.Stopped moment) lost) (to, (λ other is. cc (lost, is)), told.stop moment lost)
told_so s t tell Is Cause cylinders request told (replies.Disk None) lost exact to = rw (told.errs (replies.Disk None) lost) (to, runs_on s (faults.Asked (replies.Disk None)) lost, told.disk None)
told_so s t tell Is Cause cylinders request told (replies.Disk (Some moment)) lost exact to = rw (told.errs (replies.Disk (Some moment)) lost) (to, runs_on s (faults.Asked (replies.Disk (Some moment))) lost, told.disk (Some moment))
told_so s t tell Is Cause cylinders request told (replies.Damaged damage moment) lost exact to = absurd exact
told_so s t tell Is Cause cylinders request told r lost exact to = absurd lost

module _ {A E : Type 0} (g : Ghosts A) (who : ℕ) (a b : A) (s : State) (request : Request) (reply : Reply) (tell : Reply → Result E DirFault) (Is : E → Type 0) (Cause : DirFault → Type 0) (reads : only_reads request ≡ true)
    (told : IsTold s tell Cause) (due : is_running s ≡ true → TellsRead s Is Cause (tell (answer_of (g.seed a) s who request 0).0) s)
    (asked : g.asked a who request reply b) (e : IsAsked (g.stands b) (g.seed a) s who request reply) (exact : IsExactIn (g.cylinders a) s request reply) where
  calls : e.after.graph ≡ s.graph → e.after.grants ≡ s.grants → e.after.collection ≡ s.collection → ReadsOn g who a b s e.after
  calls graph grants collection = record {
    stands = e.standing;
    chain = Then (Start refl) request reply asked e.step graph;
    graph = keeps_same [] s.graph e.after.graph graph;
    grants = grants;
    sweeps = rw collection refl;
  }

  stayed : e.after ≡ s → ReadsOn g who a b s e.after
  stayed is = calls (ap (λ (u : State). u.graph) is) (ap (λ (u : State). u.grants) is) (ap (λ (u : State). u.collection) is)

  -- the answer of the definitions
  answered : is_running s ≡ true → reply ≡ (answer_of (g.seed a) s who request 0).0 → e.after ≡ s → TellsRead s Is Cause (tell reply) e.after
  answered runs is stays = rw (stays, is) (due runs)

  by : Came (g.seed a) s who request reply e.after → ReadsOn g who a b s e.after × TellsRead s Is Cause (tell reply) e.after
  by (ByOutcome n runs none free is to) =
      let same = same_outcome (g.seed a) s who request n reads in
      (stayed (to ∙ same.1), answered runs (is ∙ same.0 ∙ ap (λ (o : Option Reply). (refused_or o s (outcome_of (g.seed a) s who request 0)).0) (sym none)) (to ∙ same.1))
  by (ByRefusal runs none to) = (stayed to, answered runs (ap (λ (o : Option Reply). (refused_or o s (outcome_of (g.seed a) s who request 0)).0) (sym none)) to)
  by (ByWant n runs none direct needs few is to) = let never_ : only_reads request ≡ false = (subst (IsExactIn (g.cylinders a) s request) is exact).0 in cc (reads, never_)
  by (ByTrouble lost to) =
      let stays = loss_graph reply s in (
        calls (ap (λ (u : State). u.graph) to ∙ stays.0) (ap (λ (u : State). u.grants) to ∙ stays.1) (ap (λ (u : State). u.collection) to ∙ stays.2),
        told_so s e.after tell Is Cause (g.cylinders a) request told reply lost exact to,
      )

  pub looks : Looks g who s Is Cause a b (tell reply)
  looks = let both = by (came (g.seed a) s e.after who request reply e.step) in record { after = e.after; calls = both.0; told = both.1 }

-- ---- trouble, as each is told

number_errs : (s : State) (r : Reply) → IsTroubleIn s r → number_told r ≡ Err (fault_told r)
number_errs s replies.Memory lost = refl
number_errs s (replies.Stopped moment) lost = refl
number_errs s (replies.Disk doubt) lost = refl
number_errs s (replies.Damaged damage moment) lost = refl
number_errs s r lost = absurd lost

slot_errs : (s : State) (r : Reply) → IsTroubleIn s r → slot_told r ≡ Err (fault_told r)
slot_errs s replies.Memory lost = refl
slot_errs s (replies.Stopped moment) lost = refl
slot_errs s (replies.Disk doubt) lost = refl
slot_errs s (replies.Damaged damage moment) lost = refl
slot_errs s r lost = absurd lost

content_errs : (s : State) (r : Reply) → IsTroubleIn s r → content_told r ≡ Err (fault_told r)
content_errs s replies.Memory lost = refl
content_errs s (replies.Stopped moment) lost = refl
content_errs s (replies.Disk doubt) lost = refl
content_errs s (replies.Damaged damage moment) lost = refl
content_errs s r lost = absurd lost

look_told : {E : Type 0} (s : State) (x : Puid) (tell : Reply → Result E DirFault) → ((r : Reply) → IsTroubleIn s r → tell r ≡ Err (fault_told r)) → IsTold s tell (IsLookFault s x)
look_told s x tell errs = record { errs = errs; memory = tt; disk = λ doubt. tt; stop = λ moment is. is }

-- ---- each request

module _ (s : State) (who seed : ℕ) (x : Puid) (runs : is_running s ≡ true) where
  abbrev reply_to : Request → Reply
  reply_to request = (answer_of seed s who request 0).0

  refused_reply : (request : Request) (r : Reply) → refusal_of s who request ≡ Some r → reply_to request ≡ r
  refused_reply request r is = ap (λ (o : Option Reply). (refused_or o s (outcome_of seed s who request 0)).0) is

  done_reply : (request : Request) (r : Reply) → refusal_of s who request ≡ None → (outcome_of seed s who request 0).0 ≡ r → reply_to request ≡ r
  done_reply request r none is = ap (λ (o : Option Reply). (refused_or o s (outcome_of seed s who request 0)).0) none ∙ is

  abbrev IsCount : ℕ → Type 0
  IsCount n = (i : Index) × (index_at s.graph x ≡ Some i) × (n ≡ length i.slots)

  slots_due : TellsRead s IsCount (IsReadFault s x) (number_told (reply_to (asks.Slots (Direct x)))) s
  slots_due = by (object_at s.graph x) (is_open_for_writing s x) refl refl
    where
      by : (o : Option Object) (locked : Bool) → object_at s.graph x ≡ o → is_open_for_writing s x ≡ locked → TellsRead s IsCount (IsReadFault s x) (number_told (reply_to (asks.Slots (Direct x)))) s
      by None locked at bars =
          let told = refused_reply (asks.Slots (Direct x)) replies.NoObject (rw at refl) in
          rw told (refl, runs_on s (faults.Asked replies.NoObject) runs, inl (rw at refl))
      by (Some (objects.File f)) locked at bars =
          let told = refused_reply (asks.Slots (Direct x)) replies.NotIndex (rw at refl) in
          rw told (refl, runs_on s faults.NotDirectory runs, rw at refl)
      by (Some (objects.Index i)) true at bars =
          let told = refused_reply (asks.Slots (Direct x)) replies.Locked (rw (at, bars) refl) in
          rw told (refl, runs_on s (faults.Asked replies.Locked) runs, inl (inl bars))
      by (Some (objects.Index i)) false at bars =
          let told = done_reply (asks.Slots (Direct x)) (replies.Number (length i.slots)) (rw (at, bars) refl) (rw at refl) in
          rw told (refl, runs, (i, ap index_in at, refl))

  slot_due : (i : Index) (slot : ℕ) → object_at s.graph x ≡ Some (objects.Index i) → slot < length i.slots → TellsRead s (λ what. what ≡ slot_of i slot) (IsLookFault s x) (slot_told (reply_to (asks.Retrieve (Direct x) slot))) s
  slot_due i slot at within = by (is_open_for_writing s x) (slot_of i slot) refl refl
    where
      inside : nat_le (length i.slots) slot ≡ false
      inside = grind (arith, nat_tests)

      by : (locked : Bool) (what : Option Puid) → is_open_for_writing s x ≡ locked → slot_of i slot ≡ what → TellsRead s (λ held. held ≡ slot_of i slot) (IsLookFault s x) (slot_told (reply_to (asks.Retrieve (Direct x) slot))) s
      by true what bars held =
          let told = refused_reply (asks.Retrieve (Direct x) slot) replies.Locked (rw (at, bars) refl) in
          rw told (refl, runs_on s (faults.Asked replies.Locked) runs, bars)
      by false None bars held =
          let told = refused_reply (asks.Retrieve (Direct x) slot) replies.Empty (rw (at, bars, inside, held) refl) in
          rw told (refl, runs, sym held)
      by false (Some id) bars held =
          let told = done_reply (asks.Retrieve (Direct x) slot) (replies.Id id) (rw (at, bars, inside, held) refl) (rw (at, held) refl) in
          rw told (refl, runs, sym held)

  size_due : (f : File) → object_at s.graph x ≡ Some (objects.File f) → TellsRead s (λ n. n ≡ length f.bytes) (IsLookFault s x) (number_told (reply_to (asks.Size (Direct x)))) s
  size_due f at = by (is_open_for_writing s x) refl
    where
      by : (locked : Bool) → is_open_for_writing s x ≡ locked → TellsRead s (λ n. n ≡ length f.bytes) (IsLookFault s x) (number_told (reply_to (asks.Size (Direct x)))) s
      by true bars =
          let told = refused_reply (asks.Size (Direct x)) replies.Locked (rw (at, bars) refl) in
          rw told (refl, runs_on s (faults.Asked replies.Locked) runs, bars)
      by false bars =
          let told = done_reply (asks.Size (Direct x)) (replies.Number (length f.bytes)) (rw (at, bars) refl) (rw at refl) in
          rw told (refl, runs, refl)

  bytes_due : (f : File) (offset count : ℕ) → object_at s.graph x ≡ Some (objects.File f) → 1 ≤ count → count ≤ 4096 → offset + count ≤ length f.bytes
      → TellsRead s (λ bytes. bytes ≡ slice_range f.bytes offset (offset + count)) (IsLookFault s x) (content_told (reply_to (asks.Read (Direct x) offset count))) s
  bytes_due f offset count at some few within = by (is_open_for_writing s x) refl
    where
      inside : is_range (length f.bytes) offset count ≡ true
      inside = grind (arith, nat_tests)

      by : (locked : Bool) → is_open_for_writing s x ≡ locked → TellsRead s (λ bytes. bytes ≡ slice_range f.bytes offset (offset + count)) (IsLookFault s x) (content_told (reply_to (asks.Read (Direct x) offset count))) s
      by true bars =
          let told = refused_reply (asks.Read (Direct x) offset count) replies.Locked (rw (at, bars) refl) in
          rw told (refl, runs_on s (faults.Asked replies.Locked) runs, bars)
      by false bars =
          let told = done_reply (asks.Read (Direct x) offset count) (replies.Content (slice_range f.bytes offset (offset + count))) (rw (at, bars, inside) refl) (rw at refl) in
          rw told (refl, runs, refl)

module _ {A : Type 0} (g : Ghosts A) (who : ℕ) (a b : A) (s : State) (x : Puid) where
  pub looks_at_index : (reply : Reply) → g.asked a who (asks.Slots (Direct x)) reply b → IsAsked (g.stands b) (g.seed a) s who (asks.Slots (Direct x)) reply → IsExactIn (g.cylinders a) s (asks.Slots (Direct x)) reply
      → Looks g who s (λ n. (i : Index) × (index_at s.graph x ≡ Some i) × (n ≡ length i.slots)) (IsReadFault s x) a b (number_told reply)
  looks_at_index reply asked event exact = looks g who a b s (asks.Slots (Direct x)) reply number_told (λ n. (i : Index) × (index_at s.graph x ≡ Some i) × (n ≡ length i.slots)) (IsReadFault s x) refl
      (record { errs = number_errs s; memory = tt; disk = λ doubt. inl tt; stop = λ moment is. inl is }) (slots_due s who (g.seed a) x) asked event exact

  pub looks_at_slot : (i : Index) (slot : ℕ) → (is_running s ≡ true → (index_at s.graph x ≡ Some i) × (slot < length i.slots)) → (reply : Reply) → g.asked a who (asks.Retrieve (Direct x) slot) reply b
      → IsAsked (g.stands b) (g.seed a) s who (asks.Retrieve (Direct x) slot) reply → IsExactIn (g.cylinders a) s (asks.Retrieve (Direct x) slot) reply → Looks g who s (λ what. what ≡ slot_of i slot) (IsLookFault s x) a b (slot_told reply)
  looks_at_slot i slot has reply asked event exact = looks g who a b s (asks.Retrieve (Direct x) slot) reply slot_told (λ what. what ≡ slot_of i slot) (IsLookFault s x) refl
      (look_told s x slot_told (slot_errs s)) (λ runs. slot_due s who (g.seed a) x runs i slot (index_is _ i (has runs).0) (has runs).1) asked event exact

  pub looks_at_file : (f : File) → file_at s.graph x ≡ Some f → (reply : Reply) → g.asked a who (asks.Size (Direct x)) reply b → IsAsked (g.stands b) (g.seed a) s who (asks.Size (Direct x)) reply → IsExactIn (g.cylinders a) s (asks.Size (Direct x)) reply
      → Looks g who s (λ n. n ≡ length f.bytes) (IsLookFault s x) a b (number_told reply)
  looks_at_file f at reply asked event exact = looks g who a b s (asks.Size (Direct x)) reply number_told (λ n. n ≡ length f.bytes) (IsLookFault s x) refl
      (look_told s x number_told (number_errs s)) (λ runs. size_due s who (g.seed a) x runs f (file_is _ f at)) asked event exact

  pub looks_at_bytes : (f : File) (offset count : ℕ) → file_at s.graph x ≡ Some f → 1 ≤ count → count ≤ 4096 → offset + count ≤ length f.bytes → (reply : Reply) → g.asked a who (asks.Read (Direct x) offset count) reply b
      → IsAsked (g.stands b) (g.seed a) s who (asks.Read (Direct x) offset count) reply → IsExactIn (g.cylinders a) s (asks.Read (Direct x) offset count) reply
      → Looks g who s (λ bytes. bytes ≡ slice_range f.bytes offset (offset + count)) (IsLookFault s x) a b (content_told reply)
  looks_at_bytes f offset count at some few within reply asked event exact = looks g who a b s (asks.Read (Direct x) offset count) reply content_told (λ bytes. bytes ≡ slice_range f.bytes offset (offset + count)) (IsLookFault s x) refl
      (look_told s x content_told (content_errs s)) (λ runs. bytes_due s who (g.seed a) x runs f offset count (file_is _ f at) some few within) asked event exact
