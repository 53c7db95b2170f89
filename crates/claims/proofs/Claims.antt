-- AreClaimed follow one another, and a block that is no map may be written among them.
use Rattle.std.proofs.Common.{◌≡◌, ◌≢◌, ℕ, ◌%◌, true, List, [], ◌∷◌, ◌++◌, set, Option, Some, None, refl, sym, ◌∙◌, ap}
use Rattle.cfs_base.specs.Disk.{Image}
use Rattle.cyl_map.specs.Entry.{IsEntry}
use Rattle.cyl_map.specs.Volume.{entry_in, is_free_entry, with_entry}
use Rattle.cyl_map.specs.declared.entry.MapEntry.{MapEntry}
use Rattle.cyl_map.proofs.Volumes.{entry_in-set, entry_in-with_entry_other, entry_in-with_entry_same}
use Rattle.cyl_alloc.specs.Space.{IsLeastFree}
use Rattle.claims.specs.Claims.{AreClaimed, IsClaimed, SameEntries}

-- claims from an image with the same entries
since : (es : List MapEntry) (a b c : Image) → SameEntries a b → AreClaimed es b c → AreClaimed es a c
since [] a b c same is = λ m. is m ∙ same m
since (e ∷ es) a b c same is = (
  is.0,
  record {
    block = is.1.block;
    least = record { free = ap is_free_entry (sym (same is.1.block)) ∙ is.1.least.free; least = λ m less. ap is_free_entry (sym (same m)) ∙ is.1.least.least m less };
    here = is.1.here;
    others = λ m other. is.1.others m other ∙ same m;
  },
  is.2,
)

pub claims_then : (es fs : List MapEntry) (a b c : Image) → AreClaimed es a b → AreClaimed fs b c → AreClaimed (es ++ fs) a c
claims_then [] fs a b c first then = since fs a b c first then
claims_then (e ∷ es) fs a b c first then = (first.0, first.1, claims_then es fs first.0 b c first.2 then)

-- one claim, as the image is written
some_entry : (o : Option MapEntry) → is_free_entry o ≡ true → (e : MapEntry) × (o ≡ Some e)
some_entry None is = cc
some_entry (Some e) is = (e, refl)

pub claimed_by : (e : MapEntry) (a b : Image) (n : ℕ) → IsEntry e → IsLeastFree a n → b ≡ with_entry a n e → IsClaimed e a b
claimed_by e a b n is least same =
    let was = some_entry (entry_in a n) least.free in
    record {
      block = n;
      least = least;
      here = ap (λ (i : Image). entry_in i n) same ∙ entry_in-with_entry_same a n e was.0 was.1 is;
      others = λ m other. ap (λ (i : Image). entry_in i m) same ∙ entry_in-with_entry_other a n e was.0 m was.1 other;
    }

pub written_same : (a b : Image) (n : ℕ) (block : List ℕ) → n % 64 ≢ 0 → b ≡ set a n block → SameEntries a b
written_same a b n block no_map is = λ m. ap (λ (i : Image). entry_in i m) is ∙ entry_in-set a n block m no_map
