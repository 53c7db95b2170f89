-- What a call did, however it ended: of one that draws no word, and of one after reads.
use Rattle.std.proofs.Common.{◌≡◌, ℕ, ◌≤◌, Bool, Result, Ok, Err, Option, Some, refl, ◌∙◌, ap, ◌+◌, arith, IfErr, IfOk, List, sum}
use Rattle.cfs_core.proofs.Words.{Ghosts, HasStopped, IsPlainReply, Kept, OnlyReads, Refused, Reply, Request, stopped_after_reads}
use Rattle.cfs_base.proofs.Calls.{reads_then}
use Rattle.cfs_base.specs.declared.refusal.Refused.TheVariants as refusals
use Rattle.cfs_base.specs.declared.refusal.Damage.{Damage}
use Rattle.cfs_base.specs.declared.refusal.Need.{Need}
use Rattle.cfs_core.specs.Calls.{IsCause, IsCauseOf, IsWant, RequestWent, done_or}
use Rattle.cfs_core.specs.Damage.{Afterwards, AtOnce, IsDamageTold, IsMet}
use Rattle.cfs_core.specs.Kernel.{Kernel, Handle}
use Rattle.cfs_core.proofs.Damages.{told_then}

-- a call that carried out nothing first
pub now_met : {D : Type 0} (g : Ghosts D) (old : Kernel D) (Is : Kernel D → Type 0) → Is old → IsMet g old Is
now_met g old Is is = AtOnce is

pub cause_met : {D : Type 0} (g : Ghosts D) (old new : Kernel D) (request : Request) (e : Refused) → IsCause g old new (Some request) e → IsCauseOf g old new request e
cause_met g old new request (refusals.Full need) is = now_met g old (λ k. IsWant (Some request) (sum k.space.free) need) is
cause_met g old new request (refusals.Disk tried) is = is
cause_met g old new request (refusals.Damaged damage) is = now_met g old (λ k. IsDamageTold g k new (Some request) damage) is
cause_met g old new request refusals.Memory is = tt

pub causes_met : {D : Type 0} (g : Ghosts D) (old new : Kernel D) (request : Request) (result : Result Reply Refused) → IfErr result (IsCause g old new (Some request)) → IfErr result (IsCauseOf g old new request)
causes_met g old new request (Ok reply) is = tt
causes_met g old new request (Err e) is = cause_met g old new request e is

-- all but want of memory has a cause
pub cause_of : {D : Type 0} (g : Ghosts D) (old new : Kernel D) (request : Option Request) (e : Refused) → ((tried : Bool) → e ≡ refusals.Disk tried → HasStopped g tried old.disk new.disk) → ((damage : Damage) → e ≡ refusals.Damaged damage → IsDamageTold g old new request damage)
    → ((need : Need) → e ≡ refusals.Full need → IsWant request (sum old.space.free) need) → IsCause g old new request e
cause_of g old new request (refusals.Full need) stopped met wants = wants need refl
cause_of g old new request (refusals.Disk tried) stopped met wants = stopped tried refl
cause_of g old new request (refusals.Damaged damage) stopped met wants = met damage refl
cause_of g old new request refusals.Memory stopped met wants = tt

module _ {D : Type 0} (g : Ghosts D) (k : Kernel D) (d : D) (space : Kept) (handles : List Handle) (size : g.blocks d ≡ g.blocks k.disk) (faults : g.faults k.disk ≤ g.faults d) (later : g.moment k.disk ≤ g.moment d) (request : Request) where
  abbrev after_it : Kernel D
  after_it = record k { disk = d; space = space; handles = handles }

  pub went_so : (result : Result Reply Refused) → IfOk result IsPlainReply → IfErr result (IsCause g k after_it (Some request)) → RequestWent g k (record k { disk = d; space = space; handles = handles }) request result
  went_so result plain cause = record {
    plain = plain;
    cause = causes_met g k after_it request result cause;
    size = size;
    faults = faults;
    later = later;
    stop = refl;
    collections = refl;
    seed = refl;
    kept = omega arith;
    drawn = omega arith;
  }

  pub went_done : (result : Result (Unit {0}) Refused) → ((tried : Bool) → result ≡ Err (refusals.Disk tried) → HasStopped g tried k.disk d) → ((damage : Damage) → result ≡ Err (refusals.Damaged damage) → IsDamageTold g k after_it (Some request) damage)
      → ((need : Need) → result ≡ Err (refusals.Full need) → IsWant (Some request) (sum k.space.free) need) → RequestWent g k (record k { disk = d; space = space; handles = handles }) request (done_or result)
  went_done (Ok u) stopped met wants = went_so (done_or (Ok u)) tt tt
  went_done (Err e) stopped met wants = went_so (Err e) tt (cause_of g k after_it (Some request) e (λ tried is. stopped tried (ap (λ x. Err x) is)) (λ damage is. met damage (ap (λ x. Err x) is)) (λ need is. wants need (ap (λ x. Err x) is)))

-- a call after others, from this disk on: whatever it tells now, with its cause
pub went_as : {D : Type 0} (g : Ghosts D) (a b : D) (old new : Kernel D) (request : Request) {r : Result Reply Refused} (told : Result Reply Refused) → g.blocks b ≡ g.blocks a → g.faults a ≤ g.faults b → g.moment a ≤ g.moment b → IfOk told IsPlainReply → IfErr told (IsCauseOf g old new request)
    → {space : Kept} → RequestWent g (record old { disk = b; space = space }) new request r → a ≡ old.disk → RequestWent g old new request told
went_as g a b old new request told size faults later plain cause is from = record {
  plain = plain;
  cause = cause;
  size = is.size ∙ size ∙ ap g.blocks from;
  faults = omega (arith, faults, is.faults, ap g.faults from);
  later = omega (arith, later, is.later, ap g.moment from);
  stop = is.stop;
  collections = is.collections;
  seed = is.seed;
  kept = is.kept;
  drawn = is.drawn;
}

-- a call after reads
module _ {D : Type 0} (g : Ghosts D) (n : ℕ) (old : Kernel D) (d : D) (new : Kernel D) (reads : OnlyReads g n old.disk d) where
  abbrev read : Kernel D
  read = record old { disk = d }

  pub cause_then : (request : Option Request) (r : Result Reply Refused) → IfErr r (IsCause g read new request) → IfErr r (IsCause g old new request)
  cause_then request (Ok reply) is = tt
  cause_then request (Err (refusals.Full need)) is = is
  cause_then request (Err (refusals.Disk tried)) is = stopped_after_reads g old.disk d new.disk n tried reads is
  cause_then request (Err (refusals.Damaged damage)) is = told_then g old new n d request damage reads is
  cause_then request (Err refusals.Memory) is = tt

  -- what is met in the call is met in that one too
  met_then : (Is : Kernel D → Type 0) → (Is read → Is old) → IsMet g read Is → IsMet g old Is
  met_then Is before (AtOnce is) = AtOnce (before is)
  met_then Is before (Afterwards m there disk space more fin is) = Afterwards (n + m) there disk space (reads_then g old.disk d there n m (n + m) reads more (omega arith)) fin is

  cause_of_then : (request : Request) (r : Result Reply Refused) → IfErr r (IsCauseOf g read new request) → IfErr r (IsCauseOf g old new request)
  cause_of_then request (Ok reply) is = tt
  cause_of_then request (Err (refusals.Full need)) is = met_then (λ k. IsWant (Some request) (sum k.space.free) need) (λ was. was) is
  cause_of_then request (Err (refusals.Disk tried)) is = stopped_after_reads g old.disk d new.disk n tried reads is
  cause_of_then request (Err (refusals.Damaged damage)) is = met_then (λ k. IsDamageTold g k new (Some request) damage) (told_then g old new n d (Some request) damage reads) is
  cause_of_then request (Err refusals.Memory) is = tt

  pub went_then : (request : Request) (result : Result Reply Refused) → RequestWent g read new request result → RequestWent g old new request result
  went_then request result is = record {
    plain = is.plain;
    cause = cause_of_then request result is.cause;
    size = is.size ∙ reads.same.size;
    faults = omega (arith, reads.faults, is.faults);
    later = omega (arith, reads.images.later, is.later);
    stop = is.stop;
    collections = is.collections;
    seed = is.seed;
    kept = is.kept;
    drawn = is.drawn;
  }
