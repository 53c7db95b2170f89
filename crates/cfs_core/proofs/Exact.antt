-- What a core answers is exact, as any asker owes it.
use Rattle.std.proofs.Common.{◌≡◌, ℕ, ◌≤◌, Bool, true, false, Option, Some, None, refl, sym, subst, arith, length}
use Rattle.std.specs.Prelude.{is_some, option_and_then}
use Rattle.cfs_base.specs.declared.refusal.Need.{Need}
use Rattle.cfs_core.proofs.Words.{Ghosts, IsPlainReply, Reply, Request, State, outcome_of, outcome_plain, refusal_of, refused_plain}
use Rattle.cfs_core.specs.Asked.{Asks, IsToldCause, stopped_by}
use Rattle.cfs_core.specs.Calls.{ByOutcome, ByRefusal, ByWant, IsOwed, Owes}
use Rattle.cfs_core.specs.Kernel.{Kernel}
use Rattle.cfs_core.specs.Room.{IsRoom}
use Rattle.cfs_core.specs.StandsFor.{ServesIs, Stands, StandsFor, end_in, free_to_come, sweeps_now}
use Rattle.cfs_core.specs.declared.kernel.Stop.{Stop}
use Rattle.ufs_model.specs.Asks.{IsExactIn, TellsTrouble, only_reads}
use Rattle.ufs_model.specs.Limits.{reserve}
use Rattle.ufs_model.specs.Need.{need_of, one_if}
use Rattle.ufs_model.specs.Next.{is_sweeping}
use Rattle.ufs_model.specs.declared.asked.Reply.TheVariants as replies
use Rattle.ufs_model.specs.declared.asked.Request.TheVariants as asks
use Rattle.ufs_model.specs.declared.collection.Collection.{Collection}
use Rattle.ufs_model.specs.declared.collection.Collection.TheVariants as collections

sweeps_is : (c : Collection) → sweeps_now c ≡ is_sweeping c
sweeps_is collections.None = refl
sweeps_is (collections.Marking pairs starts) = refl
sweeps_is collections.Sweeping = refl

-- what reads alone takes no block
reads_none : (s : State) (who : ℕ) (request : Request) → only_reads request ≡ true → need_of s who request ≡ 0
reads_none s who (asks.Retrieve index slot) reads = refl
reads_none s who (asks.Slots index) reads = refl
reads_none s who (asks.Read file offset count) reads = refl
reads_none s who (asks.Size file) reads = refl
reads_none s who request reads = absurd (cc reads)

yes_or_no : (b : Bool) → (b ≡ true → ⊥) → b ≡ false
yes_or_no true never = absurd (never refl)
yes_or_no false never = refl

module _ (seed : ℕ) (s : State) (who : ℕ) (request : Request) (cylinders free : ℕ) (four : reserve ≤ free)
    (room : sweeps_now s.collection ≡ false → IsRoom cylinders s free) (plain : refusal_of s who request ≡ None → (b : ℕ) → IsPlainReply (outcome_of seed s who request b).0) where
  not_full : (need : Need) (reply : Reply) → reply ≡ replies.Full need → IsPlainReply reply → ⊥
  not_full need reply is told = rw is at told

  full : (image : _) (need : Need) → IsOwed seed s who request image free (replies.Full need) → IsExactIn cylinders s request (replies.Full need)
  full image need (ByRefusal is) = absurd (not_full need _ refl (refused_plain s who request _ is))
  full image need (ByWant allowed short is) =
      let same : need ≡ record { free = free; need = need_of s who request } = cc is in (
        yes_or_no (only_reads request) (λ reads. let none = reads_none s who request reads in absurd (omega (arith, none, short.few, four))),
        λ calm. subst (λ (n : Need). IsRoom cylinders s n.free) (sym same) (room (rw (sweeps_is s.collection) calm)),
      )
  full image need (ByOutcome allowed done) = absurd (not_full need _ (sym done.reply_is) (plain allowed done.block))

  exact : (image : _) (reply : Reply) → Owes seed s who request image free reply → IsExactIn cylinders s request reply
  exact image (replies.Full need) owed = full image need owed
  exact image (replies.Damaged damage moment) owed = owed
  exact image reply owed = tt

-- how many damages a core met
abbrev damages : Option Stop → ℕ
damages stop = one_if (is_some (option_and_then (λ stop. stop.damage) stop))

module _ {D : Type 0} (g : Ghosts D) (old new : Kernel D) (who : ℕ) (request : Request) (reply : Reply) (asks : Asks g old new who request reply) where
  pub exact_of : (s : State) → (ServesIs g old s → sweeps_now s.collection ≡ false → IsRoom (length old.space.free) s (free_to_come g old)) → StandsFor g old s
      → IsExactIn (length old.space.free) s request reply
  exact_of s room stands = by old.stop refl
    where
      by : (o : Option Stop) → old.stop ≡ o → IsExactIn (length old.space.free) s request reply
      by None is =
          let serves = subst (Stands g old s) is stands in
          exact old.words.seed s who request (length old.space.free) (free_to_come g old) serves.four (room serves) (λ none b. outcome_plain old.words.seed s who request b serves.state none)
          (end_in g old) reply (asks.owed is s stands)
      by (Some stop) is = rw (asks.stopped stop is).1 tt

  -- a stopped core stays as it is, and tells no damage anew
  pub told_of : TellsTrouble (g.faults old.disk) (g.faults new.disk) (damages old.stop) (damages new.stop) reply
  told_of = by old.stop refl
    where
      by_reply : old.stop ≡ None → (r : Reply) → new.stop ≡ stopped_by r None → IsToldCause g old new request r → TellsTrouble (g.faults old.disk) (g.faults new.disk) (damages old.stop) (damages new.stop) r
      by_reply is (replies.Disk None) stops cause = cause.failed.cause
      by_reply is (replies.Disk (Some moment)) stops cause = cause.0.failed.cause
      by_reply is (replies.Damaged damage moment) stops cause = rw (is, stops) (omega arith)
      by_reply is r stops cause = tt

      by : (o : Option Stop) → old.stop ≡ o → TellsTrouble (g.faults old.disk) (g.faults new.disk) (damages old.stop) (damages new.stop) reply
      by None is = by_reply is reply (asks.stops is) (asks.cause is)
      by (Some stop) is = rw (asks.stopped stop is).1 tt

  pub later_of : (g.faults old.disk ≤ g.faults new.disk) × (damages old.stop ≤ damages new.stop)
  later_of = (asks.faults, by old.stop refl)
    where
      by : (o : Option Stop) → old.stop ≡ o → damages old.stop ≤ damages new.stop
      by None is = rw is (omega arith)
      by (Some stop) is = rw (asks.stopped stop is).0 (omega arith)
