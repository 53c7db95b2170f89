-- What calls that follow one another do to any asker.
use Rattle.std.proofs.Common.{◌≡◌, ℕ, false, ◌+◌, ◌≤◌, refl, ◌∙◌, subst, arith}
use Rattle.std.specs.Prelude.{Err, Ok, Result}
use Rattle.ufs_model.specs.declared.asked.Reply.{Reply}
use Rattle.ufs_model.specs.declared.asked.Reply.TheVariants as replies
use Rattle.ufs_model.specs.declared.asker.Asker.{Ghosts}
use Rattle.ufs_model.specs.Asks.{TellsTrouble}
use Rattle.name_dirs.specs.declared.fault.DirFault.{DirFault}
use Rattle.name_dirs.specs.declared.fault.DirFault.TheVariants as faults
use Rattle.name_dirs.specs.Faults.{NoneFalls, OnAnyAsker, TellsFault}
use Rattle.name_dirs.specs.Making.{if_other}

trouble_on : (failed_before failed failed_now damaged_before damaged damaged_now : ℕ) (r : Reply) → failed_before ≤ failed → damaged_before ≤ damaged → TellsTrouble failed failed_now damaged damaged_now r → TellsTrouble failed_before failed_now damaged_before damaged_now r
trouble_on a b c d e f (replies.Disk doubt) one two told = omega (arith, one, told)
trouble_on a b c d e f (replies.Damaged damage moment) one two told = omega (arith, two, told)
trouble_on a b c d e f r one two told = tt

module _ {A : Type 0} (g : Ghosts A) where
  pub later_itself : (a : A) → NoneFalls g 0 a a
  later_itself a = record { failed = omega arith; damaged = omega arith; seed = refl; cylinders = refl; kept = omega arith; drawn = omega arith }

  pub later_on : (m n k : ℕ) (a b c : A) → NoneFalls g m a b → NoneFalls g n b c → m + n ≤ k → NoneFalls g k a c
  later_on m n k a b c one two few = record {
    failed = let x = one.failed in let y = two.failed in omega (arith, x, y);
    damaged = let x = one.damaged in let y = two.damaged in omega (arith, x, y);
    seed = two.seed ∙ one.seed;
    cylinders = two.cylinders ∙ one.cylinders;
    kept = let x = one.kept in let y = two.kept in omega (arith, x, y);
    drawn = let x = one.drawn in let y = two.drawn in omega (arith, x, y, few);
  }

  tells_on : (m : ℕ) (a b c : A) → NoneFalls g m a b → (fault : DirFault) → TellsFault g b c fault → TellsFault g a c fault
  tells_on m a b c one (faults.Asked r) told = trouble_on (g.failed a) (g.failed b) (g.failed c) (g.damaged a) (g.damaged b) (g.damaged c) r one.failed one.damaged told
  tells_on m a b c one fault told = tt

  pub spends_on : {E : Type 0} (m n k : ℕ) (a b c : A) (r : Result E DirFault) → NoneFalls g m a b → OnAnyAsker g n b c r → m + n ≤ k → OnAnyAsker g k a c r
  spends_on m n k a b c r one two few = record { told = λ fault is. tells_on m a b c one fault (two.told fault is); later = later_on m n k a b c one two.later few }

  err_is : {E : Type 0} (x y : DirFault) (r : Result E DirFault) → r ≡ Err x → r ≡ Err y → x ≡ y
  err_is x y r one two = cc (one, two)

  -- a fault of the last call is handed on
  pub spends_err : {E F : Type 0} (m n k : ℕ) (a b c : A) (fault : DirFault) → NoneFalls g m a b → OnAnyAsker {E = E} g n b c (Err fault) → m + n ≤ k → OnAnyAsker {E = F} g k a c (Err fault)
  spends_err m n k a b c fault one two few = record {
    told = λ other is. subst (TellsFault g a c) (err_is fault other (Err fault) refl is) (tells_on m a b c one fault (two.told fault refl));
    later = later_on m n k a b c one two.later few;
  }

  -- and any other answer tells no trouble
  pub spends_ok : {E : Type 0} (k : ℕ) (a b : A) (x : E) → NoneFalls g k a b → OnAnyAsker g k a b (Ok x)
  spends_ok k a b x later = record { told = λ fault is. cc is; later = later }

  pub spends_own : {E : Type 0} (k : ℕ) (a b : A) (fault : DirFault) → NoneFalls g k a b → TellsFault g a b fault → OnAnyAsker {E = E} g k a b (Err fault)
  spends_own k a b fault later told = record { told = λ other is. subst (TellsFault g a b) (err_is fault other (Err fault) refl is) told; later = later }

  pub spends_if_other : {E : Type 0} (a b c : A) (fault : DirFault) → NoneFalls g 0 a b → OnAnyAsker {E = E} g 0 b c (Err fault) → OnAnyAsker g 0 a c (if_other fault)
  spends_if_other a b c faults.NotDirectory one two = spends_ok 0 a c false (later_on 0 0 0 a b c one two.later (omega arith))
  spends_if_other a b c faults.NoName one two = spends_err 0 0 0 a b c faults.NoName one two (omega arith)
  spends_if_other a b c faults.Exists one two = spends_err 0 0 0 a b c faults.Exists one two (omega arith)
  spends_if_other a b c (faults.DirFull n) one two = spends_err 0 0 0 a b c (faults.DirFull n) one two (omega arith)
  spends_if_other a b c (faults.Asked r) one two = spends_err 0 0 0 a b c (faults.Asked r) one two (omega arith)
  spends_if_other a b c faults.Memory one two = spends_err 0 0 0 a b c faults.Memory one two (omega arith)
