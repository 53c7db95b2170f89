-- Faults, handed on by the calls above.
use Rattle.std.proofs.Common.{ℕ, subst}
use Rattle.block_tree.specs.declared.follow.Pointer.{Pointer}
use Rattle.block_tree.proofs.Words.{Err, Ghosts, IfErr, Image, IsFault, IsPast, Ok, OnlyReads, Result, Tells, TreeFault, failed_after, tells_on}
use Rattle.block_tree.specs.declared.fault.TreeFault.TheVariants as faults

-- more is said of the pointer
pub refused_as : {X D : Type 0} (g : Ghosts D) (old new : D) (P Q : Pointer → Type 0) (r : Result X TreeFault) → ((p : Pointer) → IsPast (g.blocks old) p.block → P p → Q p)
    → IfErr r (IsFault g old new P) → IfErr r (IsFault g old new Q)
refused_as g old new P Q (Ok x) more is = tt
refused_as g old new P Q (Err faults.Disk) more is = is
refused_as g old new P Q (Err (faults.BadPointer b h)) more is = (is.0, λ tells. more (record { holder = h; block = b }) is.0 (is.1 tells))

-- a fault of a later call is one of the whole
pub fault_after : {D : Type 0} (g : Ghosts D) (old mid new : D) (n : ℕ) (P Q : Pointer → Type 0) (e : TreeFault) → OnlyReads g n old mid → ((p : Pointer) → Tells g old → IsPast (g.blocks old) p.block → P p → Q p)
    → IsFault g mid new P e → IsFault g old new Q e
fault_after g old mid new n P Q faults.Disk reads more is = failed_after g old mid new n reads is
fault_after g old mid new n P Q (faults.BadPointer b h) reads more is =
    let past : IsPast (g.blocks old) b = subst (λ (size : ℕ). IsPast size b) reads.same.size is.0 in
    (past, λ tells. more (record { holder = h; block = b }) tells past (is.1 (tells_on g old mid new n reads tells)))

-- the same of what the later call answers
pub later_fault : {X D : Type 0} (g : Ghosts D) (old mid new : D) (n : ℕ) (P : Image → ℕ → Pointer → Type 0) (Q : Pointer → Type 0) (r : Result X TreeFault) → OnlyReads g n old mid
    → ((p : Pointer) → Tells g old → IsPast (g.blocks old) p.block → P (g.content old) (g.blocks old) p → Q p) → IfErr r (IsFault g mid new (P (g.content mid) (g.blocks mid))) → IfErr r (IsFault g old new Q)
later_fault g old mid new n P Q (Ok x) reads more is = tt
later_fault g old mid new n P Q (Err e) reads more is =
    fault_after g old mid new n (P (g.content mid) (g.blocks mid)) Q e reads (λ p tells past had. more p tells past (subst (λ (i : Image). P i (g.blocks old) p) reads.content (subst (λ (size : ℕ). P (g.content mid) size p) reads.same.size had))) is
