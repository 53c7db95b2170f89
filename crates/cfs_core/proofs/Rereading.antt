-- A root of an index that is read again, and isn't there, or lacks the slot.
use Rattle.std.proofs.Common.{◌≡◌, ◌≢◌, ℕ, ◌+◌, ◌*◌, ◌/◌, Bool, true, false, Err, sym, ◌∙◌, ap, arith, nat_lt, refl}
use Rattle.cfs_core.proofs.Words.{Ghosts, Object, Refused}
use Rattle.block_tree.proofs.Spellings.{one_root}
use Rattle.block_tree.specs.declared.root.Root.{Root}
use Rattle.cfs_base.specs.Run.{Tells}
use Rattle.cfs_base.specs.declared.refusal.Refused.TheVariants as refusals
use Rattle.ufs_model.specs.declared.object.Object.TheVariants as objects
use Rattle.cfs_core.specs.Damage.{IsOutside, NoRoot}
use Rattle.cfs_core.specs.Looks.{IsCalm, IsCalmCause, IsReadCause, WasRead}
use Rattle.cfs_core.specs.Rereads.{RereadsIndex}
use Rattle.cfs_core.proofs.Damages.{outside_as}
use Rattle.cfs_core.proofs.Looked.{above, slots_read}

module _ {D : Type 0} (g : Ghosts D) (at : ℕ) (tried : Bool) (read : Root) (slot : ℕ) (old new : D) (some : tried ≡ true) where
  -- it couldn't be read
  pub reread_less : (e : Refused) → IsCalm {B = Root} g (λ (o : Object). o) 1 at old new (Err e) → e ≢ refusals.Memory → RereadsIndex g at tried read slot old new (Err e)
  reread_less e calm never = record {
    anew = λ some tells. tt;
    same = λ none. let no : true ≡ false = sym some ∙ none in cc;
    within = tt;
    limit = tt;
    reads = calm.reads;
    cause = more e calm.cause;
    sound = λ i knows inside. calm.sound (objects.Index i) knows;
    never = never;
  }
    where
      more : (x : Refused) → IsCalmCause g at old new x → IsReadCause g (IsOutside (Tells g old) (g.content old) (g.blocks old) (λ n. n ≡ at) (8 * slot + 8)) old new x
      more (refusals.Full need) is = is
      more (refusals.Disk t) is = is
      more (refusals.Damaged damage) is = outside_as (Tells g old) (Tells g old) (g.content old) (g.content old) (g.blocks old) (g.blocks old) (λ n. n ≡ at) (λ n. n ≡ at) 0 (8 * slot + 8) damage (λ tells. tells) refl refl (λ n here. here) (λ n less. absurd (omega (arith, less))) is
      more refusals.Memory is = is

  -- it has fewer slots
  pub reread_short : (root : Root) → WasRead g 1 at root old new → nat_lt slot (root.size / 8) ≡ false → RereadsIndex g at tried read slot old new (Err (refusals.Damaged (record { block = at; code = 3 })))
  reread_short root was short =
      let few = above slot (root.size / 8) short in
      record {
        anew = λ some tells. tt;
        same = λ none. let no : true ≡ false = sym some ∙ none in cc;
        within = tt;
        limit = tt;
        reads = was.reads;
        cause = NoRoot refl refl (λ tells r is.
            let this = was.rooted tells in
            let same : r ≡ root = one_root r root is.good this.good (sym is.spelled ∙ this.spelled) in
            omega (arith, ap (λ (x : Root). x.size) same, few));
        sound = λ i knows inside. absurd (omega (arith, slots_read was i knows, few, inside));
        never = λ is. cc;
      }
