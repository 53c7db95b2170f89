-- Blocks of one cylinder that become Free one after another.
use Rattle.std.proofs.Common.{◌≡◌, ℕ, ◌+◌, ◌*◌, ◌/◌, true, false, Some, refl, ◌∙◌, ap, subst, arith}
use Rattle.cyl_alloc.proofs.Entries.{alike, elsewhere, one_free_more}
use Rattle.cyl_alloc.proofs.Ranges.{same_count}
use Rattle.cyl_alloc.proofs.Words.{Image, IsEntry, IsFreeElsewhere, MapEntry, entry_in, free_in_cylinder, is_free, is_free_entry, is_free_in, map_of, with_entry}
use Rattle.cyl_alloc.specs.Space.{HasMoreFree}

pub none_more : (image : Image) (n : ℕ) → HasMoreFree image n 0 image
none_more image n = record { elsewhere = record { size = refl; same = λ m apart. refl }; more = omega arith }

module _ (image mid : Image) (n count m : ℕ) (old e : MapEntry) (has : HasMoreFree image n count mid) (same : map_of m ≡ map_of n) (was : entry_in mid m ≡ Some old) (is : IsEntry e) where
  still_elsewhere : IsFreeElsewhere image n (with_entry mid m e)
  still_elsewhere =
      let there = elsewhere mid m old e was is in
      record {
        size = there.size ∙ has.elsewhere.size;
        same = λ k apart. there.same k (λ at. apart (at ∙ same)) ∙ has.elsewhere.same k apart;
      }

  -- one more
  pub one_more_free : is_free old ≡ false → is_free e ≡ true → HasMoreFree image n (count + 1) (with_entry mid m e)
  one_more_free held free = record {
    elsewhere = still_elsewhere;
    more =
        let one = one_free_more mid m old e was is (ap is_free_entry was ∙ held) free in
        let at : m / 64 ≡ n / 64 = omega (arith, same) in
        let here = subst (λ (c : ℕ). free_in_cylinder (with_entry mid m e) c ≡ free_in_cylinder mid c + 1) at one in
        omega (arith, here, has.more);
  }

  -- none
  pub as_many_free : is_free e ≡ is_free old → HasMoreFree image n count (with_entry mid m e)
  unfolding free_in_cylinder
  as_many_free stays = record {
    elsewhere = still_elsewhere;
    more = same_count (is_free_in (with_entry mid m e)) (is_free_in mid) (64 * (n / 64)) 64 (λ k _ _. alike mid m old e was is stays k) ∙ has.more;
  }
